-- A list of states is parsed if and only if it is in the defined notation.
use Rattle.std.proofs.Common.{◌≡◌, ℕ, sym, ap, inl, inr, Bool, List, Some, None}
use Rattle.std.specs.Prelude.{codes, bytes_eq}
use Rattle.std.specs.List.{list_all, list_any}
use Rattle.text_core.proofs.StepsLaws.{if_parts}
use Rattle.ipt_read.specs.Values.{is_state, listed, IsStateList}
use Rattle.ipt_read.specs.inner.ValueSteps.{states_of}

pub states_said : (word : List ℕ) (new established : Bool) → states_of word ≡ Some (new, established) → IsStateList word new established
unfolding states_of
states_said word new established read = elim (if_parts (list_all is_state (listed word)) _ None (Some (new, established)) read) [
  | inl all ↦
      let both : (list_any (λ w. bytes_eq w (codes "NEW")) (listed word), list_any (λ w. bytes_eq w (codes "ESTABLISHED")) (listed word)) ≡ (new, established) = cc in
      record { each = all.0; has_new = sym (ap (λ (p : Bool × Bool). p.0) both); has_established = sym (ap (λ (p : Bool × Bool). p.1) both) }
  | inr none ↦ cc
]

pub said_states : (word : List ℕ) (new established : Bool) → IsStateList word new established → states_of word ≡ Some (new, established)
unfolding states_of
said_states word new established list = rw list.each (λ i. Some (sym list.has_new i, sym list.has_established i))
