-- Laws of lists of invariants with their trials.
use Rattle.std.proofs.Common.{◌≡◌, ℕ, ◌<◌, List, length, set, get_or, inl, inr, sym, ◌∙◌, ap, subst, arith}
use Rattle.flow_set.specs.declared.flow.Flow.{Flow}
use Rattle.flow_set.specs.inner.Steps.{UndoableFlows}
use Rattle.std.proofs.lemmas.Bool.{cases_eq}
use Rattle.std.proofs.lemmas.List.{get_or-set_same, get_or-set_other, get_or_read, length-set}
use Rattle.permit_core.specs.inner.Trials.{AreTried}

-- The trials remain valid if one of them was used and has the same flows as before.
pub AreTried-kept : {X T : Type 0} (Fits : X → T → Type 0) (tried : T → UndoableFlows) (invs : List X) (trials : List T) (e : List Flow) (i : ℕ) (inv : X) (t : T)
    → AreTried Fits tried invs trials e → i < length invs → inv ≡ get_or invs i inv → Fits inv t → (tried t).flows ≡ e
    → AreTried Fits tried invs (set trials i t) e
AreTried-kept Fits tried invs trials e i inv t are within read fits flows =
    let room : i < length trials = omega (arith, within, are.counted) in
    record {
      counted = length-set trials i t ∙ are.counted;
      fits = λ k x u below. elim (cases_eq k i) [
        | inl same ↦
            subst (λ v. Fits v (get_or (set trials i t) k u)) (get_or_read invs i inv within read x ∙ ap (λ j. get_or invs j x) (sym same))
            (subst (Fits inv) (sym (ap (λ j. get_or (set trials i t) j u) same ∙ get_or-set_same trials i t u room)) fits)
        | inr other ↦ subst (Fits (get_or invs k x)) (sym (get_or-set_other trials i k t u other)) (are.fits k x u below)
      ];
      flows = λ k x u below. elim (cases_eq k i) [
        | inl same ↦ ap (λ v. (tried v).flows) (ap (λ j. get_or (set trials i t) j u) same ∙ get_or-set_same trials i t u room) ∙ flows
        | inr other ↦ ap (λ v. (tried v).flows) (get_or-set_other trials i k t u other) ∙ are.flows k x u below
      ];
    }
