-- Laws of findings, flow by flow.
use Rattle.std.proofs.Common.{◌≡◌, ℕ, not, List, [], ◌∷◌, ◌++◌, ◌∙◌, ap}
use Rattle.std.specs.Prelude.{IsFalse}
use Rattle.std.proofs.lemmas.Bool.{cond-true, not_from_false}
use Rattle.std.proofs.lemmas.List.{map_push}
use Rattle.std.proofs.lemmas.List.Elements.{All-push, filter-append}
use Rattle.flow_set.specs.declared.flow.Flow.{Flow}
use Rattle.flow_set.specs.FlowSet.{has, without}
use Rattle.explain_core.specs.Findings.{AreFindings}
use Rattle.explain_core.specs.declared.finding.Finding.{Finding}

-- Adding a flow that is not in the other list, and adding a flow that is.
pub without-more : (xs ys : List Flow) (f : Flow) → IsFalse (has ys f) → without (xs ++ f ∷ []) ys ≡ without xs ys ++ f ∷ []
without-more xs ys f absent =
    filter-append (λ g. not (has ys g)) xs (f ∷ []) ∙ ap (λ zs. without xs ys ++ zs) (cond-true (not (has ys f)) _ _ (not_from_false _ absent))

pub found_more : (Denies : Flow → List ℕ → Type 0) (wanted : List Flow) (found : List Finding) (x : Finding) (f : Flow) → AreFindings Denies wanted found
    → x.flow ≡ f → Denies x.flow x.by.items → AreFindings Denies (wanted ++ f ∷ []) (found ++ x ∷ [])
found_more Denies wanted found x f are same denies = record {
  flows = map_push (λ (y : Finding). y.flow) found x ∙ ap (λ (zs : List Flow). zs ++ x.flow ∷ []) are.flows ∙ ap (λ (g : Flow). wanted ++ g ∷ []) same;
  each = All-push (λ (y : Finding). Denies y.flow y.by.items) found x are.each denies;
}
