use Rattle.std.proofs.Common.{◌/◌, ◌%◌, arith}
use Rattle.decide_core.specs.ServiceRanges.{HasServiceFrom}
use Rattle.decide_core.proofs.ServiceLemmas.{adds_both, adds_none, adds_same, no_services, one_block, three_blocks}
use Rattle.decide_core.proofs.service_block.push_services.Goals as goal

pub returns-then-high-low : goal.returns-then-high-low
returns-then-high-low c =
    adds_none (HasServiceFrom c.args.from c.args.to c.args.low c.args.high) c.args.boxes.now.items
    (no_services c.args.from c.args.to c.args.low c.args.high c.if-high-low.true)

pub returns-then-low_proto-high_proto : goal.returns-then-low_proto-high_proto
returns-then-low_proto-high_proto c =
    adds_same _ (HasServiceFrom c.args.from c.args.to c.args.low c.args.high) c.args.boxes.now.items c.push_block.new.boxes.items
    (one_block c.args.from c.args.to c.args.low c.args.high (c.args.low / 65536) (c.args.low % 65536) (c.args.high / 65536) (c.args.high % 65536)
    (omega arith) (omega arith) (omega arith) (omega arith) c.if-low_proto-high_proto.true) c.in_ok-push_block.ensures

pub returns : goal.returns
returns c =
    adds_same _ (HasServiceFrom c.args.from c.args.to c.args.low c.args.high) c.args.boxes.now.items c.push_block-4.new.boxes.items
    (three_blocks c.args.from c.args.to c.args.low c.args.high (c.args.low / 65536) (c.args.low % 65536) (c.args.high / 65536) (c.args.high % 65536)
    (omega arith) (omega arith) (omega arith) (omega arith) (omega (arith, c.if-high-low.false, c.if-low_proto-high_proto.false)))
    (adds_both _ _ c.args.boxes.now.items c.push_block-3.new.boxes.items c.push_block-4.new.boxes.items
    (adds_both _ _ c.args.boxes.now.items c.push_block-2.new.boxes.items c.push_block-3.new.boxes.items c.in_ok-push_block-2.ensures
    c.in_ok-push_block-3.ensures) c.in_ok-push_block-4.ensures)
