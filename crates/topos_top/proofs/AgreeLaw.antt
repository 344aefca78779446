-- The arguments and the observable files have one reply, but for texts that are left open.
use Rattle.std.proofs.Common.{◌≡◌, inl, inr, ℕ, List, sym, subst, ◌∙◌}
use Rattle.edge_io.specs.Observable.{Files}
use Rattle.run_core.specs.Replies.{Replies, RepliesTo}
use Rattle.run_core.specs.Reply.{Reply}
use Rattle.run_core.proofs.CommandPlanLaws.{told_alike}
use Rattle.topos_top.specs.Command.{Command, reports_on_output}
use Rattle.topos_top.specs.Commands.{plan_of, topos}
use Rattle.topos_top.specs.Promises.{AgreeFor, LeavesOpen}
use Rattle.topos_top.proofs.CommandLaws.{one_text, rejects_once}
use Rattle.topos_top.proofs.ParseLaws.{one_ask}

pub alike_law : (words : List (List ℕ)) (told : Files) (r s : Reply) → RepliesTo topos words told r → RepliesTo topos words told s → AgreeFor words r s
alike_law words told r s (inl p) (inl q) = inl (q.1 ∙ sym p.1)
alike_law words told r s (inl p) (inr q) = absurd (p.0 q.0 q.1)
alike_law words told r s (inr p) (inl q) = absurd (q.0 p.0 p.1)
alike_law words told r s (inr p) (inr q) =
    let same = one_ask words q.0 p.0 q.1 p.1 in
    let other = subst (λ (command : Command). Replies (reports_on_output command) (plan_of command) told s) same q.2 in
    elim (told_alike (reports_on_output p.0) (LeavesOpen p.0) (plan_of p.0) told r s (rejects_once p.0) (one_text p.0) p.2 other) [
      | inl equal ↦ inl equal
      | inr loose ↦ inr (p.0, p.1, loose.0, loose.1, loose.2)
    ]
