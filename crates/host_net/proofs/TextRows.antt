-- Test vectors: the texts that denote a prefix, and those that denote a service.
use Rattle.std.proofs.Common.{◌≡◌, [], ◌∷◌, map, None, refl}
use Rattle.std.specs.Prelude.{codes, Some}
use Rattle.std.specs.Fmt.{digits}
use Rattle.host_net.specs.Prefix.{address_text, octet, prefix_of, prefix_text, prefix_with}
use Rattle.host_net.specs.ServiceText.{service_of}

row_length : prefix_of (codes "10.0.0.1/24") ≡ Some (prefix_with 167772161 24)
unfolding prefix_of prefix_text address_text octet digits
row_length = refl

row_address : prefix_of (codes "10.0.0.1") ≡ Some (prefix_with 167772161 32)
unfolding prefix_of prefix_text address_text octet digits
row_address = refl

-- A leading zero, a number too many or too few, an octet or a length out of range, another byte, nothing.
rows_of_none : map prefix_of (codes "10.0.0.01" ∷ codes "10.0.0.1.2" ∷ codes "10.0.1" ∷ codes "10.0.0.256" ∷ codes "10.0.0.1/33" ∷ codes "10.0.0.1/" ∷ codes "10.0.0.1 " ∷ [] ∷ [])
    ≡ None ∷ None ∷ None ∷ None ∷ None ∷ None ∷ None ∷ None ∷ []
unfolding prefix_of prefix_text address_text octet digits
rows_of_none = refl

rows_of_services : map service_of (codes "icmp" ∷ codes "udp/53" ∷ codes "tcp/80-90" ∷ codes "tcp/0-65535" ∷ [])
    ≡ Some (record { proto = 1; low = 0; high = 65535 })
    ∷ Some (record { proto = 17; low = 53; high = 53 })
    ∷ Some (record { proto = 6; low = 80; high = 90 })
    ∷ Some (record { proto = 6; low = 0; high = 65535 })
    ∷ []
unfolding service_of digits
rows_of_services = refl

-- Ports of a protocol without ports, one port twice, a dash only, a port out of range, nothing after the slash, another name.
rows_of_no_service : map service_of (codes "icmp/1" ∷ codes "tcp/80-80" ∷ codes "tcp/80-" ∷ codes "tcp/65536" ∷ codes "tcp/" ∷ codes "TCP" ∷ [])
    ≡ None ∷ None ∷ None ∷ None ∷ None ∷ None ∷ []
unfolding service_of digits
rows_of_no_service = refl
