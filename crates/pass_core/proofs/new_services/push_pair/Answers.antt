use Rattle.std.proofs.Common.{◌≡◌, ℕ, true, length, sym, ◌∙◌, arith, true≢false}
use Rattle.std.specs.Prelude.{◌==◌, vec_len}
use Rattle.header_space.specs.Owners.{GoesBetween}
use Rattle.pass_core.specs.NewPackets.{LetsPass}
use Rattle.pass_core.specs.Pairs.{IsListedFor}
use Rattle.pass_core.proofs.PairLemmas.{added_nothing, none_passing}
use Rattle.pass_core.proofs.new_services.push_pair.Goals as goal

zero_by : (n : ℕ) → (n == 0) ≡ true → n ≡ 0
zero_by n is = grind arith

pub returns-then-is_empty-3 : goal.returns-then-is_empty-3
returns-then-is_empty-3 c =
    let Holds = LetsPass c.args.question.now in
    let from = c.args.from.now in
    let to = c.args.to.now in
    let passing = rw (c.deref-3.ensures.value, c.deref-4.ensures.value) at c.in_ok-ranges.ensures in
    let none : length c.in_ok-ranges.ranges.items ≡ 0 =
    (let zero : vec_len c.in_ok-ranges.ranges ≡ 0 = zero_by (vec_len c.in_ok-ranges.ranges) (sym c.is_empty-2.ensures ∙ c.if-is_empty-3.true) in omega (arith, zero)) in
    added_nothing (IsListedFor Holds (GoesBetween from.ranges.items to.ranges.items) from.owner to.owner) c.args.list.now.items
    (none_passing Holds (GoesBetween from.ranges.items to.ranges.items) c.in_ok-ranges.ranges.items (λ p goes. goes.packet) passing none)

pub returns-then-not-passes : goal.returns-then-not-passes
returns-then-not-passes c =
    let Holds = LetsPass c.args.question.now in
    let from = c.args.from.now in
    let to = c.args.to.now in
    let some = rw (c.deref.ensures.value, c.deref-2.ensures.value) at c.in_ok-passes.ensures in
    added_nothing (IsListedFor Holds (GoesBetween from.ranges.items to.ranges.items) from.owner to.owner) c.args.list.now.items
    (λ p goes held. true≢false (sym (some (p, goes, held)) ∙ c.if-not-passes.true))
