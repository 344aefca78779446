-- The prefixes of all hosts, in one list.
use Rattle.std.specs.Prelude.{List}
use Rattle.std.specs.List.{flat_map}
use Rattle.host_net.specs.Host.{Host}
use Rattle.host_net.specs.declared.prefix.Prefix.{Prefix}

abbrev pub all_prefixes : List Host → List Prefix
all_prefixes hs = flat_map (λ h. h.prefixes) hs
