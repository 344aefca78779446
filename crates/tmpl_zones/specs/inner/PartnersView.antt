-- The representation of the partners: each host has a row of marks, one for every host.
use Rattle.std.specs.Prelude.{◌≡◌, ◌<◌, ◌^◌, Bool, List, length, map, All}
use Rattle.inv_law.specs.inner.Template.{AllMayHave}
use Rattle.tmpl_zones.specs.Partners.{Partner, DontCare, Care, Master, partners}
use Rattle.tmpl_zones.specs.declared.partners.Receiver.{Receiver}
use Rattle.tmpl_zones.specs.declared.partners.Taking.{Taking}
use Rattle.tmpl_zones.specs.declared.partners.Taking.TheVariants as taking

abbrev pub attribute_by : Taking → List Bool → Partner
attribute_by taking.DontCare marks = DontCare
attribute_by taking.Care marks = Care
attribute_by taking.Master marks = Master marks

-- The attribute that a host's row represents.
abbrev pub partner_of : Receiver → Partner
partner_of receiver = attribute_by receiver.taking receiver.from.items

-- There are fewer than 65,536 hosts, each row has a mark for every host, and no master receives from itself.
pub record HasRooms (receivers : List Receiver) : Type 0 where
  pub few : length receivers < 2 ^ 16
  pub rows : All (λ receiver. length receiver.from.items ≡ length receivers) receivers
  pub may_have : AllMayHave partners (map partner_of receivers)

-- The host has a list of senders.
abbrev pub IsMaster : Partner → Type 0
IsMaster DontCare = ⊥
IsMaster Care = ⊥
IsMaster (Master takes_from) = Unit {0}
