-- Cuts: the numbers at which classes of addresses and of ports begin. Between two neighbouring cuts is an elementary interval: each range
-- that is named contains all its numbers or none of them (M. de Berg et al., Computational Geometry, "Segment Trees").
use Rattle.std.specs.Prelude.{ℕ, ◌^◌, List, [], ◌∷◌, ◌++◌}
use Rattle.std.specs.List.{flat_map}
use Rattle.host_net.specs.PrefixView.{first_address, last_address}
use Rattle.audit_core.specs.Parts.{Part, Addresses, Protocol, Ports, rules_parts, site_parts}
use Rattle.audit_core.specs.Ranges.{range_cuts}
use Rattle.audit_core.specs.Sides.{Sides}

-- The cuts of addresses that a part makes.
abbrev pub cut_addresses : Part → List ℕ
cut_addresses (Addresses prefix) = range_cuts (2 ^ 32) (first_address prefix) (last_address prefix)
cut_addresses (Protocol n) = []
cut_addresses (Ports low high) = []

-- The protocols that a part names.
abbrev pub named_protocols : Part → List ℕ
named_protocols (Addresses prefix) = []
named_protocols (Protocol n) = n ∷ []
named_protocols (Ports low high) = []

-- The cuts of ports that a part makes.
abbrev pub cut_ports : Part → List ℕ
cut_ports (Addresses prefix) = []
cut_ports (Protocol n) = []
cut_ports (Ports low high) = range_cuts (2 ^ 16) low high

-- The cuts of addresses and of ports, and the protocols that are named.
pub record Cuts : Type 0 where
  pub addresses : List ℕ
  pub protocols : List ℕ
  pub ports : List ℕ

-- The cuts of a list of parts, with 0 as the first cut, and the protocols that the parts name.
abbrev pub cuts_by : List Part → Cuts
cuts_by parts = record {
  addresses = 0 ∷ flat_map cut_addresses parts;
  protocols = flat_map named_protocols parts;
  ports = 0 ∷ flat_map cut_ports parts;
}

-- The parts that the two sides name.
abbrev pub parts_between : Sides → List Part
parts_between sides = site_parts sides.policy.site ++ rules_parts sides.rules

-- The cuts that the two sides make.
abbrev pub cuts_between : Sides → Cuts
cuts_between sides = cuts_by (parts_between sides)
