use Rattle.std.proofs.Common.{◌∙◌, ◌+◌, ℕ, List, Option, Some, ap, length, subst, sym}
use Rattle.std.proofs.lemmas.List.{length_push}
use Rattle.nft_rules.specs.declared.table.Verdict.{Verdict}
use Rattle.nft_rules.specs.declared.table.Verdict.TheVariants.{Goto}
use Rattle.nft_emit.specs.inner.Sending.{AreHeads, Sends}
use Rattle.nft_emit.proofs.SendLaws.{heads_more}
use Rattle.nft_emit.proofs.emit.push_senders.Goals as goal

pub loop-from-preserved : goal.loop-from-preserved
loop-from-preserved c =
    let policy = c.args.policy.now in
    let cuts = c.args.cuts.now in
    let old = c.loop-from.chains.list.items in
    let new = c.push_sender.new.chains.list.items in
    let heads = c.loop-from.heads.items in
    let number = c.in_ok-number.number in
    record {
      few = c.in_ok-number.ensures.few;
      built = c.in_ok-number.ensures.built;
      whole = ap (λ (xs : List (Option Verdict)). length xs) c.in_ok-push.ensures.items ∙ length_push heads (Some (Goto number))
          ∙ ap (λ (n : ℕ). n + 1) c.loop-from.invariant.whole;
      fits = subst (λ (xs : List (Option Verdict)). AreHeads new policy cuts xs) (sym c.in_ok-push.ensures.items)
          (heads_more old new policy cuts heads number c.in_ok-number.ensures.kept c.loop-from.invariant.fits
          (subst (λ (i : ℕ). Sends new policy cuts i number) (sym c.loop-from.invariant.whole) c.in_ok-number.ensures.sends));
    }
