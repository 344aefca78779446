-- Sets of flows that are changed in order.
use Rattle.std.proofs.Common.{◌≡◌, ◌≢◌, ◌<◌, ◌≤◌, ◌+◌, ℕ, inl, inr, List, [], ◌∷◌, ◌++◌, length, get_or, set, sym, ◌∙◌, subst, arith}
use Rattle.std.proofs.lemmas.Bool.{cases_lt}
use Rattle.std.proofs.lemmas.List.{get_or-set_same, get_or-set_other, get_or_append_left, get_or_push, get_or_read}
use Rattle.flow_set.specs.FlowSet.{SetOfFlows}
use Rattle.flow_set.specs.declared.flow.Flow.{Flow}
use Rattle.inv_any.specs.declared.any_inv.AnyInv.{AnyInv}
use Rattle.net_core.specs.inner.FailingFlows.{FailsIn}

-- Each invariant up to an index has the flows of its set.
abbrev pub FailUpTo : ℕ → List Flow → List AnyInv → List SetOfFlows → ℕ → Type 0
FailUpTo n all invs sets i = (k : ℕ) (inv : AnyInv) (s : SetOfFlows) → k < i → FailsIn n all (get_or invs k inv) (get_or sets k s)

-- From an index on the sets are unchanged.
abbrev pub SameFrom : List SetOfFlows → List SetOfFlows → ℕ → Type 0
SameFrom sets old i = (k : ℕ) (s : SetOfFlows) → i ≤ k → get_or sets k s ≡ get_or old k s

-- An invariant is at an index.
pub record IsAt (invs : List AnyInv) (i : ℕ) (inv : AnyInv) : Type 0 where
  pub within : i < length invs
  pub is : inv ≡ get_or invs i inv

-- An invariant of a description, whose list of invariants has another name.
pub read_at : (items whole : List AnyInv) (i : ℕ) (inv : AnyInv) → items ≡ whole → i < length items → inv ≡ get_or items i inv → IsAt whole i inv
read_at items whole i inv same within is = subst (λ (xs : List AnyInv). IsAt xs i inv) same (record { within = within; is = is })

pub past_in : (items whole : List AnyInv) (i : ℕ) → items ≡ whole → length items ≤ i → length whole ≤ i
past_in items whole i same past = subst (λ (xs : List AnyInv). length xs ≤ i) same past

-- The set at an index is unchanged.
pub set_here : (n : ℕ) (all : List Flow) (invs : List AnyInv) (old sets : List SetOfFlows) (i : ℕ) (inv : AnyInv) (was : SetOfFlows) → IsAt invs i inv
    → was ≡ get_or sets i was → FailUpTo n all invs old (length invs) → SameFrom sets old i → FailsIn n all inv was
set_here n all invs old sets i inv was there read before rest =
    subst (λ (s : SetOfFlows). FailsIn n all inv s) (sym (read ∙ rest i was (omega arith)))
    (subst (λ (x : AnyInv). FailsIn n all x (get_or old i was)) (sym there.is) (before i inv was there.within))

-- One more invariant has the flows of its set, which was changed or appended.
fail_more : (n : ℕ) (all : List Flow) (invs : List AnyInv) (sets more : List SetOfFlows) (i : ℕ) (inv : AnyInv) (new : SetOfFlows) → IsAt invs i inv
    → ((k : ℕ) (s : SetOfFlows) → k < i → get_or more k s ≡ get_or sets k s) → ((s : SetOfFlows) → get_or more i s ≡ new)
    → FailsIn n all inv new → FailUpTo n all invs sets i → FailUpTo n all invs more (i + 1)
fail_more n all invs sets more i inv new there earlier last here so_far k v s below = elim (cases_lt k i) [
  | inl before ↦ subst (λ (t : SetOfFlows). FailsIn n all (get_or invs k v) t) (sym (earlier k s before)) (so_far k v s before)
  | inr from ↦
      let same : k ≡ i = omega (arith, from, below) in
      subst (λ (j : ℕ). FailsIn n all (get_or invs j v) (get_or more j s)) (sym same)
      (subst (λ (t : SetOfFlows). FailsIn n all (get_or invs i v) t) (sym (last s))
      (subst (λ (x : AnyInv). FailsIn n all x new) (get_or_read invs i inv there.within there.is v) here))
]

pub fail_next : (n : ℕ) (all : List Flow) (invs : List AnyInv) (sets : List SetOfFlows) (i : ℕ) (inv : AnyInv) (new : SetOfFlows) → IsAt invs i inv
    → length sets ≡ length invs → FailsIn n all inv new → FailUpTo n all invs sets i → FailUpTo n all invs (set sets i new) (i + 1)
fail_next n all invs sets i inv new there counted =
    fail_more n all invs sets (set sets i new) i inv new there (λ k s before. get_or-set_other sets i k new s (λ same. omega (arith, before, same)))
    (λ s. get_or-set_same sets i new s (omega (arith, there.within, counted)))

pub fail_pushed : (n : ℕ) (all : List Flow) (invs : List AnyInv) (sets : List SetOfFlows) (i : ℕ) (inv : AnyInv) (new : SetOfFlows) → IsAt invs i inv
    → length sets ≡ i → FailsIn n all inv new → FailUpTo n all invs sets i → FailUpTo n all invs (sets ++ new ∷ []) (i + 1)
fail_pushed n all invs sets i inv new there counted =
    fail_more n all invs sets (sets ++ new ∷ []) i inv new there (λ k s before. get_or_append_left sets (new ∷ []) s k (omega (arith, before, counted)))
    (λ s. get_or_push sets new s i counted)

pub same_next : (sets old : List SetOfFlows) (i : ℕ) (new : SetOfFlows) → SameFrom sets old i → SameFrom (set sets i new) old (i + 1)
same_next sets old i new rest k s from =
    let other : k ≢ i = λ same. omega (arith, from, same) in
    let later : i ≤ k = omega (arith, from) in
    get_or-set_other sets i k new s other ∙ rest k s later
