use Rattle.std.proofs.Common.{◌<◌, length, map, arith}
use Rattle.std.proofs.lemmas.List.{length-map}
use Rattle.attr_core.specs.inner.AssignView.{given_of}
use Rattle.desc_core.proofs.ChoiceLaws.{bad_of_within}
use Rattle.desc_core.specs.inner.ChoiceView.{choice_view}
use Rattle.desc_core.proofs.invariants.judged_at.Goals as goal

pub overflow_add-place : goal.overflow_add-place
overflow_add-place c =
    let assigns = c.args.invariant.now.assigns in
    let within : c.in-Err-BadAttribute.assign < length (map given_of assigns.items) =
    bad_of_within c.args.hosts.now (choice_view c.args.invariant.now.template) (map given_of assigns.items) c.in-Err-BadAttribute.assign
    (c.in-Err-BadAttribute.ensures.bad c.in-Err-BadAttribute.assign c.in-Err-BadAttribute.field-0-is) in
    omega (arith, within, length-map assigns.items given_of, assigns.ok.0)
