use Rattle.std.proofs.Common.{◌≡◌, ◌==◌, ℕ, Bool, true, false, not, List, [], ◌∷◌, length, inl, inr, refl, sym, subst, arith, vec_len}
use Rattle.std.proofs.lemmas.Bool.{eqb-true}
use Rattle.std.specs.Prelude.{if◌then◌else◌}
use Rattle.net_core.specs.Network.{Network}
use Rattle.json_core.specs.Json.{is_nothing}
use Rattle.query_top.specs.Changes.{IsChangesAnswer, changes_outcomes}
use Rattle.run_core.specs.Outcomes.{Answers}
use Rattle.run_core.specs.Reply.{Reply}
use Rattle.run_core.specs.inner.Views.{reply_on, reply_view}
use Rattle.run_core.specs.declared.status.Status.TheVariants.{Done, Violated}
use Rattle.run_core.specs.declared.status.Stream.TheVariants.{Output}
use Rattle.query_top.proofs.changes.answer.Goals as goal

-- The text is that of an outcome, done or violated.
answers_changes : (old new : Network) (text : List ℕ) (kept : Bool) (given : Reply) → IsChangesAnswer old new (not kept) text
    → given ≡ reply_on (if kept then Done else Violated) Output text → Answers true (changes_outcomes old new) given
answers_changes old new text true given answer is =
    subst (λ (r : Reply). Answers true (changes_outcomes old new) r) (sym is) (refl, inr (inl (refl, (text, answer), answer)))
answers_changes old new text false given answer is =
    subst (λ (r : Reply). Answers true (changes_outcomes old new) r) (sym is) (refl, inl (refl, (text, answer), answer))

-- The list has an element if it is not empty.
not_kept : {A : Type 0} (xs : List A) (kept : Bool) → kept ≡ (length xs == 0) → is_nothing xs ≡ not (not kept)
not_kept [] true is = refl
not_kept [] false is = cc is
not_kept (x ∷ xs) true is = absurd (omega (arith, eqb-true (length (x ∷ xs)) 0 (sym is)))
not_kept (x ∷ xs) false is = refl

pub returns : goal.returns
returns c =
    let weaker = c.in_ok-weakening.weakening.weaker in
    let long : vec_len weaker ≡ length weaker.items = omega (arith, weaker.ok.0) in
    answers_changes c.args.old.now c.args.new.now c.in_ok-text.text.items c.is_empty.result (reply_view c.changes_answer.result)
    (c.in_ok-text.ensures (not c.is_empty.result)
    (not_kept weaker.items c.is_empty.result (subst (λ (n : ℕ). c.is_empty.result ≡ (n == 0)) long c.is_empty.ensures)))
    c.changes_answer.ensures
