use Rattle.std.proofs.Common.{◌∙◌, append_assoc}
use Rattle.std.proofs.lemmas.Result.{on_ok_weaker}
use Rattle.report_core.specs.Names.{flow_text}
use Rattle.report_core.proofs.names.push_flow.Goals as goal

pub returns : goal.returns
unfolding flow_text
returns c =
    on_ok_weaker c.push_host-2.result
    (λ last. last ∙ rw (c.in_ok-extend_from_slice.ensures.items, c.in_ok-push_host.ensures) (simp append_assoc))
    c.push_host-2.ensures
