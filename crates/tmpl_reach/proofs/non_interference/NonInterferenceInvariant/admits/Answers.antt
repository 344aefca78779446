use Rattle.std.proofs.Common.{Bool, not, ◌∙◌, sym}
use Rattle.std.specs.Prelude.{IsTrue, ◌↔◌}
use Rattle.std.proofs.lemmas.Bool.{both_ways, not-true, not_from_false, false_from_ne_true}
use Rattle.tmpl_reach.specs.NonInterference.{IsInterfering}
use Rattle.tmpl_reach.specs.laws.NonInterferenceLaws.{IsNonInterfering-one}
use Rattle.tmpl_reach.proofs.non_interference.NonInterferenceInvariant.admits.Goals as goal
use Rattle.tmpl_reach.proofs.non_interference.NonInterferenceInvariant.admits.Goals.{then-interferes, else-interferes}

-- The negation of a test of two facts, if they exclude each other if and only if X holds.
unless_both : (both : Bool) (P Q X : Type 0) → (IsTrue both ↔ (P × Q)) → ((P → Q → ⊥) ↔ X) → IsTrue (not both) ↔ X
unless_both both P Q X tells law = (
  λ shown. law.0 (λ p q. both_ways both (not-true both shown) (tells.1 (p, q))),
  λ x. not_from_false both (false_from_ne_true both (λ shown. let parts = tells.0 shown in law.1 x parts.0 parts.1)),
)

pub returns : goal.returns
returns c =
    let tells : IsTrue c.if-interferes.result ↔ (IsInterfering c.args.self.now c.args.f.from × IsInterfering c.args.self.now c.args.f.to) =
    elim c.if-interferes.branch [
      | then-interferes w ↦ (
        λ shown. (c.interferes.ensures.0 w.if-interferes.true, w.interferes-then-interferes.ensures.0 (sym w.result-is ∙ shown)),
        λ parts. w.result-is ∙ w.interferes-then-interferes.ensures.1 parts.1,
      )
      | else-interferes w ↦ (
        λ shown. absurd (both_ways _ w.if-interferes.false (sym w.result-is ∙ shown)),
        λ parts. absurd (both_ways _ w.if-interferes.false (c.interferes.ensures.1 parts.0)),
      )
    ] in
    unless_both c.if-interferes.result _ _ _ tells (IsNonInterfering-one c.args.self.now c.args.f c.requires)
