use Rattle.std.proofs.Common.{◌∙◌, [], ap, arith}
use Rattle.ipt_rules.specs.ChainTable.{rule_count}
use Rattle.host_emit.proofs.LocalLayoutLaws.{input_filled, machine_rule_count, output_filled}
use Rattle.host_emit.proofs.local.entered.Goals as goal

pub fill-requires-clause-room : goal.fill-requires-clause-room
fill-requires-clause-room c =
    let few = c.requires.input.few in
    omega (arith, ap rule_count c.in_ok-chains.ensures, few)

pub fill-requires-2-clause-room : goal.fill-requires-2-clause-room
fill-requires-2-clause-room c =
    let input_few = c.requires.input.few in
    let output_few = c.requires.output.few in
    let is = c.in_ok-fill.ensures.added ∙ input_filled c.in_ok-chains.chains c.args.input.now c.in_ok-chains.ensures in
    omega (arith, ap rule_count is, machine_rule_count c.args.input.now [] [] [], input_few, output_few)

pub returns : goal.returns
returns c =
    let is = c.in_ok-fill.ensures.added ∙ input_filled c.in_ok-chains.chains c.args.input.now c.in_ok-chains.ensures in
    c.in_ok-fill-2.ensures.added ∙ output_filled c.fill.new.chains c.args.input.now c.args.output.now is
