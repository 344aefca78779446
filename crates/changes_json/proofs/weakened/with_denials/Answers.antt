use Rattle.std.proofs.Common.{◌≡◌, ◌<◌, ◌+◌, ℕ, List, [], ◌∷◌, ◌++◌, length, get_or, map, take, refl, sym, ap, subst, ◌∙◌}
use Rattle.std.specs.List.{All}
use Rattle.std.proofs.lemmas.List.{get_or_default, map_push}
use Rattle.std.proofs.lemmas.List.Elements.{All-push}
use Rattle.change_core.specs.declared.weaker.Weaker.{Weaker}
use Rattle.explain_core.specs.declared.finding.Finding.{Finding}
use Rattle.changes_json.specs.declared.weakened.Weakened.{Weakened}
use Rattle.changes_json.specs.inner.Denying.{HasFinding}
use Rattle.json_core.proofs.ArrayLaws.{take_read}
use Rattle.changes_json.proofs.weakened.with_denials.Goals as goal

listed_more : (xs all : List Weakened) (ws : List Weaker) (i : ℕ) (x : Weakened) (d : Weaker) → map (λ y. y.flows) xs ≡ take i ws → i < length ws
    → x.flows ≡ get_or ws i d → all ≡ xs ++ x ∷ [] → map (λ y. y.flows) all ≡ take (i + 1) ws
listed_more xs all ws i x d before low read is =
    ap (map (λ y. y.flows)) is
    ∙ map_push (λ y. y.flows) xs x
    ∙ ap (λ (l : List Weaker). l ++ x.flows ∷ []) before
    ∙ sym (take_read ws i x.flows low (read ∙ get_or_default ws i d x.flows low))

found_more : (found : List Finding) (xs all : List Weakened) (x : Weakened) (numbers : List ℕ) → All (λ y. HasFinding found y.flows.old y.denied_by.items) xs
    → HasFinding found x.flows.old numbers → x.denied_by.items ≡ numbers → all ≡ xs ++ x ∷ []
    → All (λ y. HasFinding found y.flows.old y.denied_by.items) all
found_more found xs all x numbers before has same is =
    subst (All (λ y. HasFinding found y.flows.old y.denied_by.items)) (sym is)
    (All-push (λ y. HasFinding found y.flows.old y.denied_by.items) xs x before (subst (HasFinding found x.flows.old) (sym same) has))

pub loop-flows-preserved : goal.loop-flows-preserved
loop-flows-preserved c =
    let kept = c.loop-flows.invariant in
    let old = c.loop-flows.list.items in
    let all = c.push.new.self.items in
    let pushed = c.in_ok-push.ensures.items in
    record {
      flows = listed_more old all c.args.weaker.now c.loop-flows.flows-index _ _ kept.flows c.loop-flows-test.true refl pushed;
      denied_by = found_more c.args.denials.now old all _ c.denied_by.result.now kept.denied_by c.denied_by.ensures c.in_ok-denied_by.ensures.items pushed;
    }
