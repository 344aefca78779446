-- The hosts of a raw description. An entry that is no prefix is skipped: a description with such an entry is refused
-- for it.
use Rattle.std.specs.Prelude.{List, map, filter_map}
use Rattle.desc_form.specs.RawDescription.{RawDescription, RawHost}
use Rattle.host_net.specs.Host.{Host}
use Rattle.host_net.specs.Prefix.{prefix_of}

-- A host with the prefixes that its entries denote.
abbrev pub network_host : RawHost → Host
network_host h = record { name = h.name; prefixes = filter_map prefix_of h.at; rest = h.rest }

-- The hosts of a raw description.
unfoldable pub network_hosts : RawDescription → List Host
network_hosts w = map network_host w.hosts
