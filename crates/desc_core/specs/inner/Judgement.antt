-- An invariant whose assigns are judged: the invariant that it becomes, and the condition under which that one can be built. The contracts of
-- the private functions that build the invariants cite them; nothing here is trusted.
use Rattle.std.specs.Prelude.{◌≡◌, ◌<◌, List, length, map, None}
use Rattle.std.specs.List.{All}
use Rattle.attr_core.specs.Forms.{invariant_by}
use Rattle.attr_core.specs.OwnTables.{table_form}
use Rattle.attr_core.specs.inner.AssignView.{given_of}
use Rattle.desc_core.specs.Choices.{bad_of, declared_by}
use Rattle.desc_core.specs.RawNetwork.{Known, made_of}
use Rattle.desc_core.specs.declared.invariants.Judged.{Judged}
use Rattle.desc_core.specs.declared.invariants.Judged.TheVariants.{Built, Declared}
use Rattle.desc_core.specs.inner.Makeable.{CanBeMade, IsMakeable}
use Rattle.desc_form.specs.inner.RawView.{template_view}
use Rattle.host_net.specs.Host.{Host}
use Rattle.inv_any.specs.declared.any_inv.AnyInv.{AnyInv}

-- The invariant that is built of it.
abbrev pub built_of : List Host → Judged → AnyInv
built_of hosts (Built any) = any
built_of hosts (Declared template assigns) = invariant_by (table_form (declared_by (template_view template.now))) hosts (map given_of assigns.now)

-- It is built, or can be: an invariant can be made of its template, and its assigns have hosts of the network.
abbrev pub CanBeBuilt : List Host → Judged → Type 0
CanBeBuilt hosts (Built any) = Unit {0}
CanBeBuilt hosts (Declared template assigns) = IsMakeable (template_view template.now) × All (λ a. a.host < length hosts) assigns.now

-- Each assign of the known invariant specifies an attribute, and the judged one becomes the invariant of these attributes.
pub record IsJudgedOf (hosts : List Host) (known : Known) (judged : Judged) : Type 0 where
  pub good : bad_of hosts known.template known.assigns ≡ None
  pub built : built_of hosts judged ≡ made_of hosts known
  pub buildable : CanBeMade known.template → CanBeBuilt hosts judged
