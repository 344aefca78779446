-- Lemmas on lists of invariants with their trials.
use Rattle.std.proofs.Common.{◌≡◌, ℕ, ◌<◌, List, length, set, get_or, None, inl, inr, sym, ◌∙◌, ap, subst, arith}
use Rattle.flow_set.specs.declared.flow.Flow.{Flow}
use Rattle.flow_set.specs.inner.Steps.{UndoableFlows}
use Rattle.std.proofs.lemmas.Bool.{cases_eq}
use Rattle.std.proofs.lemmas.List.{get_or-set_same, get_or-set_other, get_or_read, length-set}
use Rattle.permit_core.specs.inner.Trials.{AreTried}

-- A trial in the list has the flows.
pub flows_read : {X T : Type 0} (Fits : X → T → Type 0) (tried : T → UndoableFlows) (invs : List X) (trials : List T) (e : List Flow) (i : ℕ) (inv : X) (t : T)
    → AreTried Fits tried invs trials e → i < length invs → t ≡ get_or trials i t → (tried t).flows ≡ e
flows_read Fits tried invs trials e i inv t are within read = ap (λ u. (tried u).flows) read ∙ are.flows i inv t within

-- The trials after one of them made a step and undid it.
pub AreTried-asked : {X T : Type 0} (Fits : X → T → Type 0) (tried : T → UndoableFlows) (invs : List X) (trials : List T) (e : List Flow) (i : ℕ) (inv : X) (old t : T)
    → AreTried Fits tried invs trials e → i < length invs → inv ≡ get_or invs i inv → old ≡ get_or trials i old → Fits inv t → tried t ≡ record (tried old) { before_step = None }
    → AreTried Fits tried invs (set trials i t) e
AreTried-asked Fits tried invs trials e i inv old t are within read read_old fits again =
    let flows : (tried t).flows ≡ e = ap (λ (w : UndoableFlows). w.flows) again ∙ flows_read Fits tried invs trials e i inv old are within read_old in
    let room : i < length trials = omega (arith, within, are.counted) in
    record {
      counted = length-set trials i t ∙ are.counted;
      fits = λ k x u below. elim (cases_eq k i) [
        | inl same ↦
            subst (λ v. Fits v (get_or (set trials i t) k u)) (get_or_read invs i inv within read x ∙ ap (λ j. get_or invs j x) (sym same))
            (subst (Fits inv) (sym (ap (λ j. get_or (set trials i t) j u) same ∙ get_or-set_same trials i t u room)) fits)
        | inr other ↦ subst (Fits (get_or invs k x)) (sym (get_or-set_other trials i k t u other)) (are.fits k x u below)
      ];
      flows = λ k x u below. elim (cases_eq k i) [
        | inl same ↦ ap (λ v. (tried v).flows) (ap (λ j. get_or (set trials i t) j u) same ∙ get_or-set_same trials i t u room) ∙ flows
        | inr other ↦ ap (λ v. (tried v).flows) (get_or-set_other trials i k t u other) ∙ are.flows k x u below
      ];
    }
