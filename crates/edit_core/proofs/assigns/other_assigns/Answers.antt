use Rattle.std.proofs.Common.{filter, not, ap, arith, ◌∙◌}
use Rattle.edit_core.proofs.CopyLemmas.{others_absent, others_left}
use Rattle.edit_core.specs.Edited.{is_of_host}
use Rattle.edit_core.proofs.assigns.other_assigns.Goals as goal

pub returns-then-len-listed : goal.returns-then-len-listed
returns-then-len-listed c =
    others_absent (is_of_host c.args.host.now) c.args.listed.now c.retain_others.new.assigns.items
    (c.retain_others.ensures ∙ ap (filter (λ d. not (is_of_host c.args.host.now d))) c.in_ok-assigns.ensures)
    (omega (arith, c.retain_others.new.assigns.ok.0, c.len.ensures, c.if-len-listed.true))

pub returns : goal.returns
returns c =
    others_left (is_of_host c.args.host.now) c.args.listed.now c.retain_others.new.assigns.items
    (c.retain_others.ensures ∙ ap (filter (λ d. not (is_of_host c.args.host.now d))) c.in_ok-assigns.ensures)
    (λ same. c.if-len-listed.false (omega (arith, c.retain_others.new.assigns.ok.0, c.len.ensures, same)))
