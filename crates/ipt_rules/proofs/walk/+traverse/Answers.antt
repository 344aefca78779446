use Rattle.std.proofs.Common.{List, length, ap, refl, subst, sym, arith, ◌∙◌}
use Rattle.std.specs.Prelude.{Contains}
use Rattle.std.proofs.lemmas.Option.{slice_get_read}
use Rattle.host_net.specs.declared.packet.Packet.{Packet}
use Rattle.ipt_rules.specs.declared.rule.Rule.{Rule}
use Rattle.ipt_rules.specs.Loops.{jumps_of}
use Rattle.ipt_rules.specs.Matching.{matches}
use Rattle.ipt_rules.proofs.NextLemmas.{chain_few}
use Rattle.ipt_rules.proofs.WalkLemmas.{jump_at, walked_jump}
use Rattle.ipt_rules.proofs.WalkingLemmas.{after_all, after_back, after_continues, after_decides, after_inside, after_return, after_returns, kept_traversed, shallow_jump, shallow_some, shallow_there}
use Rattle.ipt_rules.proofs.walk.+traverse.Goals as goal

pub rules_of-rules-requires : goal.rules_of-rules-requires
rules_of-rules-requires g t c = shallow_there c.args.chains.now c.args.depth c.args.number c.requires.shallow

pub overflow_cast-place : goal.overflow_cast-place
overflow_cast-place g t c =
    let few = chain_few c.args.chains.now c.args.number in
    let same = ap length c.rules_of-rules.ensures in
    let low = c.in-Some.ensures.within.1 in
    omega (arith, few, same, c.requires.few, low)

pub overflow_sub-depth : goal.overflow_sub-depth
overflow_sub-depth g t c = let some = shallow_some c.args.chains.now c.args.depth c.args.number c.requires.shallow in omega (arith, some)

pub bounds-known_to_return-number : goal.bounds-known_to_return-number
bounds-known_to_return-number g t c =
    let there = shallow_there c.args.chains.now c.args.depth c.args.number c.requires.shallow in
    omega (arith, there, c.loop-at.invariant.room)

pub bounds-known_to_return-number-2 : goal.bounds-known_to_return-number-2
bounds-known_to_return-number-2 g t c =
    let there = shallow_there c.args.chains.now c.args.depth c.args.number c.requires.shallow in
    omega (arith, there, c.loop-at.invariant.room)

pub returns-in-Decides-clause-traverses : goal.returns-in-Decides-clause-traverses
returns-in-Decides-clause-traverses g t c = λ p inside.
    let old = g.met.P.Packets.narrows_in c.loop-at.packets c.step_at.new.packets p c.step_at.ensures.part inside in
    after_decides p c.args.state c.args.chains.now (g.R.Record.has c.args.met.now) (g.R.Record.has c.loop-at.met) c.loop-at.known_to_return c.args.number c.loop-at.from (c.loop-at.invariant.along p old)
    c.rules_of-rules.result.now c.rules_of-rules.ensures c.requires.deterministic c.in-Some.at (c.in-Some.ensures.next p c.args.state old) c.index-rules-at.result c.index-rules-at.is (g.P.Packets.contains c.step_at.new.packets) inside
    (g.R.Record.has c.step_at.new.met) c.in-Decides.ensures.steps

pub returns-in-Returns-clause-traverses : goal.returns-in-Returns-clause-traverses
returns-in-Returns-clause-traverses g t c = λ p inside.
    let fits = matches p c.args.state in
    let old = g.met.P.Packets.narrows_in c.loop-at.packets c.step_at.new.packets p c.step_at.ensures.part inside in
    after_return fits c.args.chains.now (g.R.Record.has c.args.met.now) (g.R.Record.has c.step_at.new.met) c.loop-at.known_to_return c.args.number
    (after_returns p c.args.state c.args.chains.now (g.R.Record.has c.args.met.now) (g.R.Record.has c.loop-at.met) c.loop-at.known_to_return c.args.number c.loop-at.from (c.loop-at.invariant.along p old)
    c.rules_of-rules.result.now c.rules_of-rules.ensures c.requires.deterministic c.in-Some.at (c.in-Some.ensures.next p c.args.state old) c.index-rules-at.result c.index-rules-at.is (g.P.Packets.contains c.step_at.new.packets) inside
    (g.R.Record.has c.step_at.new.met) c.in-Returns.ensures.steps)

pub returns-then-is_some-clause-traverses : goal.returns-then-is_some-clause-traverses
returns-then-is_some-clause-traverses g t c = λ p inside.
    let stepped = g.met.P.Packets.narrows_in c.step_at.new.packets c.traverse-decider.new.packets p c.traverse-decider.ensures.part inside in
    let old = g.met.P.Packets.narrows_in c.loop-at.packets c.step_at.new.packets p c.step_at.ensures.part stepped in
    after_inside p c.args.state c.args.chains.now (g.R.Record.has c.args.met.now) (g.R.Record.has c.loop-at.met) c.loop-at.known_to_return c.args.number c.loop-at.from (c.loop-at.invariant.along p old)
    c.rules_of-rules.result.now c.rules_of-rules.ensures c.requires.deterministic c.in-Some.at (c.in-Some.ensures.next p c.args.state old) c.index-rules-at.result c.index-rules-at.is (g.P.Packets.contains c.step_at.new.packets) stepped
    (g.R.Record.has c.step_at.new.met) c.in-JumpsTo.chain c.in-JumpsTo.ensures.steps (g.R.Record.has c.traverse-decider.new.met) c.traverse-decider.new.known_to_return c.traverse-decider.result (sym c.is_some.ensures ∙ c.if-is_some.true)
    (c.traverse-decider.ensures.traverses p inside)

pub loop-at-preserved-in-Continues : goal.loop-at-preserved-in-Continues
loop-at-preserved-in-Continues g t c = record {
  within = let low = c.in-Some.ensures.within.1 in omega (arith, low);
  room = c.loop-at.invariant.room;
  part = g.met.P.Packets.narrows_then c.args.packets.now c.loop-at.packets c.step_at.new.packets c.loop-at.invariant.part c.step_at.ensures.part;
  same = c.step_at.ensures.same c.args.chains.now c.loop-at.invariant.same;
  along = λ p inside.
      let old = g.met.P.Packets.narrows_in c.loop-at.packets c.step_at.new.packets p c.step_at.ensures.part inside in
      after_continues p c.args.state c.args.chains.now (g.R.Record.has c.args.met.now) (g.R.Record.has c.loop-at.met) c.loop-at.known_to_return c.args.number c.loop-at.from (c.loop-at.invariant.along p old)
      c.rules_of-rules.result.now c.rules_of-rules.ensures c.requires.deterministic c.in-Some.at (c.in-Some.ensures.next p c.args.state old) c.index-rules-at.result c.index-rules-at.is (g.P.Packets.contains c.step_at.new.packets) inside
      (g.R.Record.has c.step_at.new.met) c.in-Continues.ensures.steps;
}

pub loop-at-preserved : goal.loop-at-preserved
loop-at-preserved g t c = record {
  within = let low = c.in-Some.ensures.within.1 in omega (arith, low);
  room = omega (arith, c.loop-at.invariant.room, c.traverse-decider.auto.known_to_return);
  part = g.met.P.Packets.narrows_then c.args.packets.now c.step_at.new.packets c.traverse-decider.new.packets
      (g.met.P.Packets.narrows_then c.args.packets.now c.loop-at.packets c.step_at.new.packets c.loop-at.invariant.part c.step_at.ensures.part) c.traverse-decider.ensures.part;
  same = c.traverse-decider.ensures.met;
  along = λ p inside.
      let stepped = g.met.P.Packets.narrows_in c.step_at.new.packets c.traverse-decider.new.packets p c.traverse-decider.ensures.part inside in
      let old = g.met.P.Packets.narrows_in c.loop-at.packets c.step_at.new.packets p c.step_at.ensures.part stepped in
      after_back p c.args.state c.args.chains.now (g.R.Record.has c.args.met.now) (g.R.Record.has c.loop-at.met) c.loop-at.known_to_return c.args.number c.loop-at.from (c.loop-at.invariant.along p old)
      c.rules_of-rules.result.now c.rules_of-rules.ensures c.requires.deterministic c.in-Some.at (c.in-Some.ensures.next p c.args.state old) c.index-rules-at.result c.index-rules-at.is (g.P.Packets.contains c.step_at.new.packets) stepped
      (g.R.Record.has c.step_at.new.met) c.in-JumpsTo.chain c.in-JumpsTo.ensures.steps (g.R.Record.has c.traverse-decider.new.met) c.traverse-decider.new.known_to_return c.traverse-decider.result (sym c.is_some.ensures ∙ c.if-is_some.false)
      (c.traverse-decider.ensures.traverses p inside);
}

pub traverse-decider-requires : goal.traverse-decider-requires
traverse-decider-requires g t c κs within =
    let some = shallow_some c.args.chains.now c.args.depth c.args.number c.requires.shallow in
    let rules = c.rules_of-rules.result.now in
    let chain = c.in-JumpsTo.chain in
    let steps = c.in-JumpsTo.ensures.steps in
    let jump : Contains (jumps_of rules) chain = jump_at rules c.in-Some.at c.index-rules-at.result chain (slice_get_read rules (length rules) c.in-Some.at c.index-rules-at.result refl c.in-Some.ensures.within.1 c.index-rules-at.is)
    (walked_jump steps.fits c.index-rules-at.result.target chain (sym steps.effect)) in
    let can = g.met.P.Packets.still_can c.args.packets.now c.loop-at.packets c.args.chains.now c.loop-at.invariant.part c.requires.packets in
    let known = λ (p : Packet) (inside : g.P.Packets.contains c.step_at.new.packets p).
    let old = g.met.P.Packets.narrows_in c.loop-at.packets c.step_at.new.packets p c.step_at.ensures.part inside in
    kept_traversed (matches p c.args.state) c.args.chains.now (g.R.Record.has c.loop-at.met) (g.R.Record.has c.step_at.new.met) c.loop-at.known_to_return steps.records.kept (c.loop-at.invariant.along p old).known in
    (omega (arith, some, c.decreases), (within.0, (within.1, (c.requires.few, (c.requires.deterministic, (shallow_jump c.args.chains.now c.args.depth c.args.number chain c.requires.shallow (subst (λ (rs : List Rule). Contains (jumps_of rs) chain) c.rules_of-rules.ensures jump), (c.loop-at.invariant.room, (g.met.P.Packets.still_can c.loop-at.packets c.step_at.new.packets c.args.chains.now c.step_at.ensures.part can, (c.step_at.ensures.same c.args.chains.now c.loop-at.invariant.same, known)))))))))

pub returns-clause-traverses : goal.returns-clause-traverses
returns-clause-traverses g t c = λ p inside.
    let fits = matches p c.args.state in
    after_return fits c.args.chains.now (g.R.Record.has c.args.met.now) (g.R.Record.has c.loop-at.met) c.loop-at.known_to_return c.args.number
    (after_all p c.args.state c.args.chains.now (g.R.Record.has c.args.met.now) (g.R.Record.has c.loop-at.met) c.loop-at.known_to_return c.args.number c.loop-at.from (c.loop-at.invariant.along p inside)
    c.rules_of-rules.result.now c.rules_of-rules.ensures c.loop-at.invariant.within (c.in_default.ensures.next p c.args.state inside))
