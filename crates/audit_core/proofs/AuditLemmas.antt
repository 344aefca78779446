-- The classes between two sides: an audit counts them, and their representatives are packets.
use Rattle.std.proofs.Common.{◌≡◌, ◌+◌, ◌*◌, ◌^◌, ℕ, cond, length, sym, ◌∙◌}
use Rattle.std.specs.Prelude.{nat_lt}
use Rattle.host_net.specs.declared.packet.Packet.{Packet}
use Rattle.host_net.specs.Packet.{IsPacket}
use Rattle.audit_core.specs.declared.named.Found.{Found}
use Rattle.audit_core.specs.Classes.{is_among, represents_protocol}
use Rattle.rules_space.specs.Numbers.{numbers_where}
use Rattle.audit_core.specs.Cuts.{Cuts, parts_between}
use Rattle.audit_core.specs.inner.Named.{IsNamedBy, cuts_found}
use Rattle.audit_core.proofs.RepresentativeLemmas.{protocol_count}
use Rattle.rules_space.proofs.NumberLaws.{where_only}
use Rattle.audit_core.specs.Places.{IsClassPacket, class_count, class_total, representatives_of}
use Rattle.audit_core.specs.Sides.{Sides}

-- The packet of a class is a packet.
pub class_packets : (cuts : Cuts) (q : Packet) → IsClassPacket (representatives_of cuts) q → IsPacket q
class_packets cuts q is = (
  (where_only (is_among cuts.addresses) (2 ^ 32) q.src is.src).0,
  (where_only (is_among cuts.addresses) (2 ^ 32) q.dst is.dst).0,
  (where_only (represents_protocol cuts.protocols) (2 ^ 8) q.proto is.proto).0,
  (where_only (is_among cuts.ports) (2 ^ 16) q.sport is.sport).0,
  (where_only (is_among cuts.ports) (2 ^ 16) q.dport is.dport).0,
)

-- The classes by the names of the sides are the classes between the sides.
pub count_is : (sides : Sides) (found : Found) (count : ℕ) → IsNamedBy (parts_between sides) found
    → count ≡ class_total (representatives_of (cuts_found found)) → count ≡ class_count sides
unfolding class_count
count_is sides found count named counted =
    counted ∙ (λ i. class_total (representatives_of (record { addresses = named.addresses i; protocols = named.protocols i; ports = named.ports i })))

-- The number of classes, from the numbers of cuts and of protocols that are named.
pub total_is : (cuts : Cuts) (addresses named protocols ports total : ℕ) → addresses ≡ length (numbers_where (is_among cuts.addresses) (2 ^ 32))
    → named ≡ length (numbers_where (is_among cuts.protocols) (2 ^ 8)) → ports ≡ length (numbers_where (is_among cuts.ports) (2 ^ 16))
    → protocols ≡ named + cond (nat_lt named (2 ^ 8)) 1 0 → total ≡ ports * (ports * (protocols * (addresses * addresses)))
    → total ≡ class_total (representatives_of cuts)
total_is cuts addresses named protocols ports total of_addresses of_named of_ports of_protocols counted =
    counted ∙ (λ i. of_ports i * (of_ports i * (all i * (of_addresses i * of_addresses i))))
  where
    all : protocols ≡ length (numbers_where (represents_protocol cuts.protocols) (2 ^ 8))
    all = of_protocols ∙ (λ i. of_named i + cond (nat_lt (of_named i) (2 ^ 8)) 1 0) ∙ sym (protocol_count cuts.protocols (2 ^ 8))
