-- The packets that represent classes, and the number of classes.
use Rattle.std.specs.Prelude.{ℕ, ◌*◌, ◌^◌, List, length}
use Rattle.std.specs.List.{Contains}
use Rattle.host_net.specs.declared.packet.Packet.{Packet}
use Rattle.audit_core.specs.Classes.{is_among, represents_protocol}
use Rattle.rules_space.specs.Numbers.{numbers_where}
use Rattle.audit_core.specs.Cuts.{Cuts, cuts_between}
use Rattle.audit_core.specs.Sides.{Sides}

-- The representatives of the classes of addresses, protocols and ports.
pub record Representatives : Type 0 where
  pub addresses : List ℕ
  pub protocols : List ℕ
  pub ports : List ℕ

-- The number of classes of packets: a class is a pair of classes of addresses, a class of protocols and a pair of classes of ports.
abbrev pub class_total : Representatives → ℕ
class_total l = length l.ports * (length l.ports * (length l.protocols * (length l.addresses * length l.addresses)))

-- A packet represents its class: each of its five numbers is a representative.
pub record IsClassPacket (l : Representatives) (p : Packet) : Type 0 where
  pub src : Contains l.addresses p.src
  pub dst : Contains l.addresses p.dst
  pub proto : Contains l.protocols p.proto
  pub sport : Contains l.ports p.sport
  pub dport : Contains l.ports p.dport

-- The representatives of all classes: the addresses that are cuts, the protocols that represent their classes, the ports that are cuts.
abbrev pub representatives_of : Cuts → Representatives
representatives_of cuts = record {
  addresses = numbers_where (is_among cuts.addresses) (2 ^ 32);
  protocols = numbers_where (represents_protocol cuts.protocols) (2 ^ 8);
  ports = numbers_where (is_among cuts.ports) (2 ^ 16);
}

-- The number of classes of packets between two sides.
unfoldable pub class_count : Sides → ℕ
class_count sides = class_total (representatives_of (cuts_between sides))

-- The greatest number of classes that an audit compares.
abbrev pub most_classes : ℕ
most_classes = 4000000
