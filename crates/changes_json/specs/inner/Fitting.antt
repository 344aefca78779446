-- Changes that name hosts of two descriptions.
use Rattle.std.specs.Prelude.{◌<◌, List, All, length}
use Rattle.change_core.specs.declared.change.Change.{Change}
use Rattle.change_core.specs.declared.named_owner.NamedOwner.{NamedOwner}
use Rattle.change_core.specs.declared.named_owner.NamedOwner.TheVariants.{New, Old, Nobody}
use Rattle.change_core.specs.declared.weaker.Weaker.{Weaker}
use Rattle.flow_set.specs.Flow.{IsFlow}
use Rattle.flow_set.specs.inner.FlowSetView.{IsFlowSet}
use Rattle.host_net.specs.Host.{Host}
use Rattle.changes_json.specs.declared.weakening.Weakening.{Weakening}

-- The owner is a host of its description, or nobody.
abbrev pub FitsOwner : (new old : List Host) → NamedOwner → Type 0
FitsOwner new old (New i) = i < length new
FitsOwner new old (Old j) = j < length old
FitsOwner new old Nobody = Unit {0}

-- The owners of a change are hosts of their descriptions, or nobody.
pub record FitsChange (new old : List Host) (c : Change) : Type 0 where
  pub source : FitsOwner new old c.from
  pub destination : FitsOwner new old c.to

-- The flows of a weaker flow are flows of the two descriptions.
pub record FitsWeaker (new old : List Host) (w : Weaker) : Type 0 where
  pub flow : IsFlow (length new) w.flow
  pub old_flow : IsFlow (length old) w.old

-- The flows of a weakening are flows of the two descriptions.
pub record FitsWeakening (new old : List Host) (w : Weakening) : Type 0 where
  pub weaker : All (λ x. FitsWeaker new old x.flows) w.weaker.items
  pub gaps : IsFlowSet (length new) w.gaps.flows
