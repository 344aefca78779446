use Rattle.std.proofs.Common.{◌≡◌, ℕ, List, length, true, false, ◌==◌, sym, ◌∙◌, subst, append_assoc}
use Rattle.text_core.proofs.LineLaws.{cut_cut, nothing_put}
use Rattle.report_core.proofs.LineLemmas.{named, unnamed}
use Rattle.report_core.proofs.refusal.put_name.Goals as goal

pub returns-then-is_empty-clause-text : goal.returns-then-is_empty-clause-text
returns-then-is_empty-clause-text c =
    let empty : (length c.args.name.now == 0) ≡ true =
    subst (λ (bs : List ℕ). (length bs == 0) ≡ true) c.bytes-bytes.ensures.value (sym c.is_empty.ensures ∙ c.if-is_empty.true) in
    rw (unnamed c.args.name.now empty) (nothing_put 256 c.args.at c.args.buffer.now c.requires)

pub returns-else-is_empty-clause-text : goal.returns-else-is_empty-clause-text
returns-else-is_empty-clause-text c =
    let some : (length c.args.name.now == 0) ≡ false =
    subst (λ (bs : List ℕ). (length bs == 0) ≡ false) c.bytes-bytes.ensures.value (sym c.is_empty.ensures ∙ c.if-is_empty.false) in
    rw (named c.args.name.now some, c.put.ensures.text, c.put-colon.ensures.text, c.bytes-bytes.ensures.value) (simp (cut_cut, append_assoc))
