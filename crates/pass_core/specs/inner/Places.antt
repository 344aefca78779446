-- Places that have a property. Internal: callers use `Dead`.
use Rattle.std.specs.Prelude.{◌↔◌, IsTrue, List}
use Rattle.ipt_rules.specs.declared.marks.Place.{Place}
use Rattle.pass_core.specs.Dead.{AreAscending, ComesBefore, is_listed}

-- The places are those with the property before the limit, in ascending order.
pub record AreBefore (Holds : Place → Type 0) (limit : Place) (places : List Place) : Type 0 where
  pub ascending : AreAscending places
  pub exact : (place : Place) → IsTrue (is_listed places place) ↔ (ComesBefore place limit × Holds place)
