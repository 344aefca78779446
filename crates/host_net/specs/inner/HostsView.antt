-- The model of `Hosts`: the list of hosts that the private map from names to addresses represents.
use Rattle.std.specs.Prelude.{ℕ, List, map}
use Rattle.host_net.specs.Host.{Host}
use Rattle.host_net.specs.declared.addresses.Addresses.{Addresses}

abbrev pub host_view : List ℕ × Addresses → Host
host_view e = record { name = e.0; prefixes = e.1.prefixes.items; rest = e.1.rest }

abbrev pub hosts_view : List (List ℕ × Addresses) → List Host
hosts_view entries = map host_view entries
