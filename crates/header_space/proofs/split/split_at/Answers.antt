use Rattle.std.proofs.Common.{◌≡◌, inl, inr, ℕ, ◌<◌, ◌≤◌, List, [], ◌∷◌, ◌++◌, sym, subst, ap, ◌∙◌, arith}
use Rattle.std.proofs.lemmas.Bool.{cases_lt}
use Rattle.header_space.specs.declared.packet_box.PacketBox.{PacketBox}
use Rattle.header_space.specs.inner.Fields.{up_to}
use Rattle.header_space.specs.inner.Splitting.{Splits}
use Rattle.header_space.proofs.SplitLaws.{splits_at}
use Rattle.header_space.proofs.split.split_at.Goals as goal

less : (a b c : ℕ) → a ≤ b → c ≡ b → (a ≡ c → ⊥) → a < b
less a b c low is other = elim (cases_lt a b) [
  | inl below ↦ below
  | inr more ↦ let same : a ≡ c = omega (arith, low, is, more) in absurd (other same)
]

pub returns-clause-splits : goal.returns-clause-splits
returns-clause-splits c =
    let whole = c.args.whole in
    let old = c.args.boxes.now.items in
    let high = less c.args.last _ c.number_of.result c.requires.last c.number_of.ensures.value c.if-last-number_of.false in
    subst (λ (x : PacketBox). Splits whole old c.push.new.self.items x) (sym c.up_to.ensures)
    (subst (λ (new : List PacketBox). Splits whole old new (up_to c.args.field whole c.args.last))
    (sym (c.in_ok-push.ensures.items ∙ ap (λ (b : PacketBox). old ++ b ∷ []) c.after.ensures))
    (splits_at c.args.field whole old c.args.last c.requires.is_box c.requires.first high))
