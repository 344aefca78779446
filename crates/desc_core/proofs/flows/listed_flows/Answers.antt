use Rattle.std.proofs.Common.{get_or, refl}
use Rattle.flow_set.specs.declared.flow.Flow.{Flow}
use Rattle.desc_core.proofs.RepeatLemmas.{one_more, repeated, was_there}
use Rattle.flow_set.specs.FlowSet.{set_of}
use Rattle.desc_core.proofs.flows.listed_flows.Goals as goal

abbrev nowhere : Flow
nowhere = record { from = 0; to = 0 }

pub number_of-earlier-requires : goal.number_of-earlier-requires
number_of-earlier-requires c =
    was_there c.args.flows.now c.loop-index.index (get_or c.args.flows.now c.loop-index.index nowhere) c.args.count c.loop-index.listed c.insert.result c.loop-index.invariant.made c.insert.ensures.changed c.if-not-insert.true

pub returns-then-not-insert : goal.returns-then-not-insert
returns-then-not-insert c =
    rw c.listed_before.ensures (repeated c.args.flows.now c.loop-index.index (get_or c.args.flows.now c.loop-index.index nowhere) nowhere c.number_of-earlier.result (record { size = c.args.count; flows = set_of c.args.flows.now }) c.loop-index-test.true refl
    c.number_of-earlier.ensures c.loop-index.invariant.apart)

pub loop-index-preserved : goal.loop-index-preserved
loop-index-preserved c =
    let more = one_more c.args.flows.now c.loop-index.index (get_or c.args.flows.now c.loop-index.index nowhere) nowhere c.args.count c.loop-index.listed c.insert.new.self c.insert.result _ c.loop-index-test.true refl
    c.loop-index.invariant.made c.loop-index.invariant.apart c.insert.ensures.set c.insert.ensures.changed c.if-not-insert.false in
    record { made = more.0; apart = more.1 }
