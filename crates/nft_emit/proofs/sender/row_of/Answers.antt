use Rattle.std.proofs.Common.{◌∙◌, ◌+◌, ℕ, List, Option, ap, arith, length, subst, sym}
use Rattle.std.proofs.lemmas.List.{length_push}
use Rattle.nft_rules.specs.declared.table.Verdict.{Verdict}
use Rattle.nft_emit.specs.inner.Links.{Fits}
use Rattle.nft_emit.specs.inner.Sending.{RowFits}
use Rattle.nft_emit.proofs.BuildLaws.{extends_more}
use Rattle.nft_emit.proofs.SendLaws.{row_more}
use Rattle.nft_emit.proofs.sender.row_of.Goals as goal

pub loop-to-preserved : goal.loop-to-preserved
loop-to-preserved c =
    let policy = c.args.policy.now in
    let old = c.loop-to.chains.list.items in
    let new = c.link_verdict.new.chains.list.items in
    let row = c.loop-to.row.items in
    record {
      kept = extends_more c.args.chains.now.list.items old new c.loop-to.invariant.kept c.in_ok-verdict.ensures.kept;
      few = omega (arith, c.loop-to.invariant.few, c.in_ok-verdict.ensures.few);
      built = c.in_ok-verdict.ensures.built;
      whole = ap (λ (xs : List (Option Verdict)). length xs) c.in_ok-push.ensures.items ∙ length_push row c.in_ok-verdict.verdict
          ∙ ap (λ (n : ℕ). n + 1) c.loop-to.invariant.whole;
      fits = subst (λ (xs : List (Option Verdict)). RowFits new policy c.args.from xs) (sym c.in_ok-push.ensures.items)
          (row_more old new policy c.args.from row c.in_ok-verdict.verdict c.in_ok-verdict.ensures.kept c.loop-to.invariant.fits
          (subst (λ (j : ℕ). Fits new policy c.args.from j c.in_ok-verdict.verdict) (sym c.loop-to.invariant.whole) c.in_ok-verdict.ensures.fits));
    }
