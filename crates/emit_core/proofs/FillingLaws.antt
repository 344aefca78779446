-- Rules that are appended to a chain come after the existing ones.
use Rattle.std.proofs.Common.{◌≡◌, ℕ, zero, suc, List, [], ◌∷◌, ◌++◌, refl, sym, ap, ◌∙◌, append_assoc}
use Rattle.std.proofs.lemmas.List.{append-nil}
use Rattle.ipt_rules.specs.declared.rule.Rule.{Rule}
use Rattle.ipt_rules.specs.Chain.{Chain, changed_at, with_rule}
use Rattle.emit_core.specs.inner.Filling.{with_rules}

unchanged : (xs : List Chain) (c : ℕ) → xs ≡ changed_at xs c (λ x. record x { rules = x.rules ++ [] })
unchanged [] c = refl
unchanged (x ∷ xs) zero = ap (λ (rs : List Rule). record x { rules = rs } ∷ xs) (sym (append-nil x.rules))
unchanged (x ∷ xs) (suc c) = ap (λ (ys : List Chain). x ∷ ys) (unchanged xs c)

twice : (xs : List Chain) (c : ℕ) (r : Rule) (rs : List Rule)
    → changed_at (changed_at xs c (λ x. record x { rules = x.rules ++ r ∷ [] })) c (λ x. record x { rules = x.rules ++ rs })
    ≡ changed_at xs c (λ x. record x { rules = x.rules ++ r ∷ rs })
twice [] c r rs = refl
twice (x ∷ xs) zero r rs = ap (λ (all : List Rule). record x { rules = all } ∷ xs) (append_assoc x.rules (r ∷ []) rs)
twice (x ∷ xs) (suc c) r rs = ap (λ (ys : List Chain). x ∷ ys) (twice xs c r rs)

pub with_rules-changed : (xs : List Chain) (c : ℕ) (rules : List Rule)
    → with_rules xs c rules ≡ changed_at xs c (λ x. record x { rules = x.rules ++ rules })
unfolding with_rule
with_rules-changed xs c [] = unchanged xs c
with_rules-changed xs c (r ∷ rs) = with_rules-changed (with_rule xs c r) c rs ∙ twice xs c r rs
