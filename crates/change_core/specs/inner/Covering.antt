-- Services that match all packets of others. Internal: callers use `Changes`.
use Rattle.std.specs.Prelude.{Bool, ◌&&◌, ◌||◌, ◌==◌, nat_le, not, List}
use Rattle.std.specs.List.{list_all, list_any}
use Rattle.host_net.specs.Service.{is_whole}
use Rattle.host_net.specs.declared.service.Service.{Service}

-- The service has the protocol and all ports of the other.
abbrev pub covers : (other service : Service) → Bool
covers other service = (service.proto == other.proto) && (nat_le service.low other.low && nat_le other.high service.high)

-- One of the services covers the other.
abbrev pub one_covers : List Service → (other : Service) → Bool
one_covers services other = list_any (covers other) services

-- The services match every packet that the others match: they are unrestricted, or each of the others is covered by one of them.
abbrev pub services_cover : (services others : List Service) → Bool
services_cover services others = is_whole services || (not (is_whole others) && list_all (one_covers services) others)
