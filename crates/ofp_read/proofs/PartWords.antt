-- The fields for a part, by the part; and the named protocols, one by one.
use Rattle.std.proofs.Common.{◌≡◌, ◌⊎◌, inl, inr, ℕ, true, List, sym, ap, ◌∙◌, arith, IsTrue}
use Rattle.std.specs.Prelude.{codes}
use Rattle.std.proofs.lemmas.Bool.Decides.{nat_tests}
use Rattle.host_net.specs.Service.{icmp, tcp, udp, has_name}
use Rattle.host_net.specs.ServiceText.{protocol_text}
use Rattle.ofp_rules.specs.declared.entry.Entry.{Entry}
use Rattle.ofp_read.specs.Grammar.{Part, about}

abbrev pub name_of : Part → List ℕ
name_of part = (about part).name

abbrev pub Says : Part → Entry → List ℕ → Type 0
Says part e text = (about part).Says e text

abbrev pub IsUnsaid : Part → Entry → Type 0
IsUnsaid part e = (about part).Unsaid e

abbrev pub IsNamed : ℕ → List ℕ → Type 0
IsNamed n text = ((n ≡ icmp) × (text ≡ codes "icmp")) ⊎ (((n ≡ tcp) × (text ≡ codes "tcp")) ⊎ ((n ≡ udp) × (text ≡ codes "udp")))

which_named : (n : ℕ) → has_name n ≡ true → (n ≡ icmp) ⊎ ((n ≡ tcp) ⊎ (n ≡ udp))
which_named n h = grind (arith, nat_tests)

pub named_one : (n : ℕ) (text : List ℕ) → IsTrue (has_name n) × (text ≡ protocol_text n) → IsNamed n text
named_one n text is = elim (which_named n is.0) [
  | inl one ↦ inl (one, is.1 ∙ ap protocol_text one)
  | inr more ↦ elim more [
    | inl six ↦ inr (inl (six, is.1 ∙ ap protocol_text six))
    | inr other ↦ inr (inr (other, is.1 ∙ ap protocol_text other))
  ]
]

pub one_named : (n : ℕ) (text : List ℕ) → IsNamed n text → IsTrue (has_name n) × (text ≡ protocol_text n)
one_named n text (inl (is, e)) = (ap has_name is, e ∙ sym (ap protocol_text is))
one_named n text (inr (inl (is, e))) = (ap has_name is, e ∙ sym (ap protocol_text is))
one_named n text (inr (inr (is, e))) = (ap has_name is, e ∙ sym (ap protocol_text is))
