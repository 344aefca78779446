use Rattle.std.proofs.Common.{filter, not, ap, arith, ◌∙◌}
use Rattle.edit_core.proofs.CopyLemmas.{others_absent, others_left}
use Rattle.edit_core.specs.Edited.{is_between}
use Rattle.edit_core.proofs.flows.other_flows.Goals as goal

pub returns-then-len-listed : goal.returns-then-len-listed
returns-then-len-listed c =
    others_absent (is_between c.args.from.now c.args.to.now) c.args.listed.now c.retain_others.new.values.items
    (c.retain_others.ensures ∙ ap (filter (λ d. not (is_between c.args.from.now c.args.to.now d))) c.in_ok-flows.ensures)
    (omega (arith, c.retain_others.new.values.ok.0, c.len.ensures, c.if-len-listed.true))

pub returns : goal.returns
returns c =
    others_left (is_between c.args.from.now c.args.to.now) c.args.listed.now c.retain_others.new.values.items
    (c.retain_others.ensures ∙ ap (filter (λ d. not (is_between c.args.from.now c.args.to.now d))) c.in_ok-flows.ensures)
    (λ same. c.if-len-listed.false (omega (arith, c.retain_others.new.values.ok.0, c.len.ensures, same)))
