-- The cuts and the protocols in the lists of the code. Callers use `Cuts` instead.
use Rattle.std.specs.Prelude.{◌≡◌, List, ◌∷◌, ◌++◌}
use Rattle.std.specs.List.{flat_map}
use Rattle.audit_core.specs.declared.named.Found.{Found}
use Rattle.audit_core.specs.Cuts.{Cuts, cut_addresses, cut_ports, named_protocols}
use Rattle.audit_core.specs.Parts.{Part}

-- The lists have the cuts and the protocols of these parts, in order, after the first cuts.
pub record IsNamedBy (parts : List Part) (found : Found) : Type 0 where
  pub addresses : found.addresses.items ≡ 0 ∷ flat_map cut_addresses parts
  pub protocols : found.protocols.items ≡ flat_map named_protocols parts
  pub ports : found.ports.items ≡ 0 ∷ flat_map cut_ports parts

-- The new lists are the old lists with the cuts and the protocols of these parts appended.
pub record AreMore (parts : List Part) (old new : Found) : Type 0 where
  pub addresses : new.addresses.items ≡ old.addresses.items ++ flat_map cut_addresses parts
  pub protocols : new.protocols.items ≡ old.protocols.items ++ flat_map named_protocols parts
  pub ports : new.ports.items ≡ old.ports.items ++ flat_map cut_ports parts

-- The cuts and the protocols in the lists.
abbrev pub cuts_found : Found → Cuts
cuts_found found = record { addresses = found.addresses.items; protocols = found.protocols.items; ports = found.ports.items }
