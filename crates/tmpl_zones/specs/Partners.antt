-- The communication partners template: the hosts from which a host receives packets. Based on the theory SINVAR_CommunicationPartners
-- of Network_Security_Policy_Verification in the Archive of Formal Proofs, with the table of docs/FORMATS.md.
use Rattle.std.specs.Prelude.{◌≡◌, ℕ, Bool, true, false, IsFalse, List, length, codes, slice_index_or, slice_set}
use Rattle.inv_law.specs.Attributes.{PassesBetween}
use Rattle.inv_law.specs.Rules.{AllFlowsPass}
use Rattle.inv_law.specs.Template.{Template, template_of}
use Rattle.inv_law.specs.declared.strategy.Strategy.TheVariants.{Access}
use Rattle.tmpl_zones.specs.Kinds.{TablePasses}

-- A host receives from all hosts (`DontCare`), from all except those with `DontCare` (`Care`), or from the hosts whose
-- numbers are marked (`Master`).
pub data Partner : Type 0 where
  DontCare : Partner
  Care : Partner
  Master : (takes_from : List Bool) → Partner

-- A master among n hosts has a mark for each host, and does not mark itself.
abbrev pub TakesFromOthers : ℕ → ℕ → Partner → Type 0
TakesFromOthers n host (Master takes_from) = (length takes_from ≡ n) × IsFalse (slice_index_or takes_from host false)
TakesFromOthers n host partner = Unit {0}

-- Whether a flow passes, by the number of its sender and the attributes of its sender and its receiver.
abbrev pub partners_passes : ℕ → Partner → Partner → Bool
partners_passes from sender DontCare = true
partners_passes from DontCare Care = false
partners_passes from sender Care = true
partners_passes from sender (Master takes_from) = slice_index_or takes_from from false

-- A flow passes between two hosts.
abbrev pub PartnersPass : List Partner → ℕ → ℕ → Type 0
PartnersPass partners from to = PassesBetween DontCare (TablePasses (partners_passes from)) partners from to

-- A master with one more sender marked; any other host is unchanged.
abbrev pub with_sender : Partner → ℕ → Partner
with_sender (Master takes_from) sender = Master (slice_set takes_from sender true)
with_sender partner sender = partner

-- The template is edge-wise, by the attributes of the two hosts of a flow and the number of its sender.
abbrev pub partners : Template
partners = template_of true (codes "partners") Access TakesFromOthers (λ n host. DontCare) (λ hosts. AllFlowsPass (PartnersPass hosts))
