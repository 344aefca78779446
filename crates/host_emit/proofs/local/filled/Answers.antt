use Rattle.std.proofs.Common.{◌∙◌, [], ap, arith, length}
use Rattle.ipt_rules.specs.ChainTable.{rule_count}
use Rattle.host_emit.proofs.LocalLayoutLaws.{incoming_filled, machine_rule_count, outgoing_filled}
use Rattle.host_emit.proofs.local.filled.Goals as goal

pub fill-requires-clause-there : goal.fill-requires-clause-there
fill-requires-clause-there c = omega (arith, ap length c.in_ok-chains.ensures, c.chain_for.ensures)

pub fill-requires-clause-room : goal.fill-requires-clause-room
fill-requires-clause-room c =
    let input_few = c.requires.input.few in
    let output_few = c.requires.output.few in
    let incoming_few = c.requires.incoming.few in
    omega (arith, ap rule_count c.in_ok-chains.ensures, machine_rule_count c.args.input.now c.args.output.now [] [], input_few, output_few, incoming_few)

pub fill-requires-2-clause-there : goal.fill-requires-2-clause-there
fill-requires-2-clause-there c =
    let is = c.in_ok-fill.ensures.added
    ∙ incoming_filled c.in_ok-chains.chains c.chain_for.result c.args.input.now c.args.output.now c.args.incoming.now c.in_ok-chains.ensures c.chain_for.ensures in
    omega (arith, ap length is, c.chain_for-2.ensures)

pub fill-requires-2-clause-room : goal.fill-requires-2-clause-room
fill-requires-2-clause-room c =
    let input_few = c.requires.input.few in
    let output_few = c.requires.output.few in
    let incoming_few = c.requires.incoming.few in
    let outgoing_few = c.requires.outgoing.few in
    let is = c.in_ok-fill.ensures.added
    ∙ incoming_filled c.in_ok-chains.chains c.chain_for.result c.args.input.now c.args.output.now c.args.incoming.now c.in_ok-chains.ensures c.chain_for.ensures in
    omega (
      arith,
      ap rule_count is,
      machine_rule_count c.args.input.now c.args.output.now c.args.incoming.now [],
      input_few,
      output_few,
      incoming_few,
      outgoing_few,
    )

pub returns : goal.returns
returns c =
    let is = c.in_ok-fill.ensures.added
    ∙ incoming_filled c.in_ok-chains.chains c.chain_for.result c.args.input.now c.args.output.now c.args.incoming.now c.in_ok-chains.ensures c.chain_for.ensures in
    c.in_ok-fill-2.ensures.added
    ∙ outgoing_filled c.fill.new.chains c.chain_for-2.result c.args.input.now c.args.output.now c.args.incoming.now c.args.outgoing.now is c.chain_for-2.ensures
