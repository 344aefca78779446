use Rattle.std.proofs.Common.{ℕ, ◌+◌, Option, Some, None}
use Rattle.std.specs.Prelude.{MatchOption}
use Rattle.std.specs.FinSet as set
use Rattle.flow_set.specs.inner.Calls.{HasNone, IsFirstFrom}
use Rattle.flow_set.proofs.Apart.{HasBits}
use Rattle.flow_set.proofs.FirstBits.{first_lower_place, first_after_lower, none_at_all}
use Rattle.flow_set.proofs.host_set.HostSet.first_from.Goals as goal

pub returns-in-Some : goal.returns-in-Some
returns-in-Some c = first_lower_place _ _ _ c.args.from c.in-Some.host (record { made = c.self.view_is }) c.in-Some.ensures

pub returns-in-None : goal.returns-in-None
returns-in-None c =
    let test = set.contains c.args.self.now in
    let from = c.args.from in
    let bits : HasBits c.self.inside.low c.self.inside.high c.args.self.now = record { made = c.self.view_is } in
    elim c.first_upper-in-None.result as (λ (r : Option ℕ). MatchOption r (HasNone test (128 + 0) 256) (IsFirstFrom test (128 + 0)) → MatchOption r (HasNone test from 256) (IsFirstFrom test from)) [
      | None ↦ none_at_all _ _ c.args.self.now from bits c.in-None.ensures
      | Some host ↦ first_after_lower _ _ c.args.self.now from host c.if-from-ge-HALF.false bits c.in-None.ensures
    ] c.first_upper-in-None.ensures
