use Rattle.std.proofs.Common.{◌≡◌, ◌+◌, ◌∷◌, List, append_assoc, drop, sym, ap, subst, ◌∙◌}
use Rattle.std.proofs.lemmas.List.{drop_more, map-append}
use Rattle.std.proofs.lemmas.List.Elements.{All-push}
use Rattle.desc_core.specs.declared.known.KnownInvariant.{KnownInvariant}
use Rattle.desc_core.specs.inner.Judgement.{CanBeBuilt}
use Rattle.desc_core.specs.inner.KnownView.{known_view}
use Rattle.desc_core.specs.inner.Makeable.{CanBeMade}
use Rattle.desc_core.proofs.invariants.judged_invariants.Goals as goal

pub loop-index-preserved : goal.loop-index-preserved
loop-index-preserved c =
    let ks : List KnownInvariant = c.args.invariants.now in
    let i = c.loop-index.index in
    let k : KnownInvariant = c.index-invariants-index.result in
    let kept = c.loop-index.invariant in
    let one = c.in_ok-judged_at.ensures in
    let left : drop i ks ≡ k ∷ drop (i + 1) ks =
    drop_more ks i k c.loop-index-test.true ∙ ap (λ (first : KnownInvariant). first ∷ drop (i + 1) ks) (sym c.index-invariants-index.is) in
    record {
      same = rw (left, one.good) at kept.same;
      grown = rw (c.in_ok-push.ensures.items, map-append, append_assoc, one.judged.built) (rw left at kept.grown);
      buildable = λ all.
          rw c.in_ok-push.ensures.items
          (All-push (CanBeBuilt c.args.hosts.now) c.loop-index.judged.items c.in_ok-judged_at.field-0 (kept.buildable all)
          (one.judged.buildable (subst (λ (first : KnownInvariant). CanBeMade (known_view first).template) (sym c.index-invariants-index.is) (all i k c.loop-index-test.true))));
    }
