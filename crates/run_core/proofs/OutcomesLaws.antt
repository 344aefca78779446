-- Outcomes give one reply, although policy and reports are characterized by properties, and its text has the guarantee.
use Rattle.std.proofs.Common.{◌≡◌, ◌⊎◌, inl, inr, ℕ, List, [], ◌∷◌, Bool, true, false, refl, ap, subst, sym, ◌∙◌}
use Rattle.run_core.specs.Outcomes.{Outcome, Outcomes, AnyOutcome, EndsIn, EndsWithGuarantee, Answers, AnswersFirst, stream_of}
use Rattle.run_core.specs.Reply.{Reply}
use Rattle.run_core.specs.declared.status.Status.{Status}
use Rattle.run_core.specs.declared.status.Status.TheVariants.{Done, Violated, BadText, NotEmittable}

-- The statuses of outcomes.
abbrev pub is_end : Status → Bool
is_end Done = true
is_end Violated = true
is_end BadText = true
is_end NotEmittable = true
is_end _ = false

-- The obligation of an outcome: its text is unique, and has its guarantee.
pub record IsOwed (end : Outcome) : Type 0 where
  pub status : is_end end.status ≡ true
  pub one : (a b : List ℕ) → end.is a → end.is b → a ≡ b
  pub guarantees : end.when → (text : List ℕ) → end.is text → end.guarantees text

abbrev pub EachOutcome : (Outcome → Type 0) → Outcomes → Type 0
EachOutcome P [] = Unit {0}
EachOutcome P (end ∷ outcomes) = P end × EachOutcome P outcomes

-- No two outcomes are reached at once.
abbrev pub AreApart : Outcomes → Type 0
AreApart [] = Unit {0}
AreApart (end ∷ outcomes) = EachOutcome (λ other. end.when → other.when → ⊥) outcomes × AreApart outcomes

-- The obligations of outcomes.
pub record IsSettled (outcomes : Outcomes) : Type 0 where
  pub owed : EachOutcome IsOwed outcomes
  pub apart : AreApart outcomes

pub settled_writes : (is guarantees : List ℕ → Type 0) → ((a b : List ℕ) → is a → is b → a ≡ b) → ((text : List ℕ) → is text → guarantees text)
    → IsSettled (record { status = Done; when = Unit {0}; is = is; guarantees = guarantees } ∷ [])
settled_writes is guarantees one told = record {
  owed = (record { status = refl; one = one; guarantees = λ when. told }, tt);
  apart = (tt, tt);
}

-- One of the outcomes has a property if it has another that implies it.
pub one_of : (P Q R : Outcome → Type 0) (outcomes : Outcomes) → ((end : Outcome) → P end → Q end → R end) → EachOutcome P outcomes → AnyOutcome Q outcomes → AnyOutcome R outcomes
one_of P Q R [] both each one = absurd one
one_of P Q R (end ∷ outcomes) both each (inl here) = inl (both end each.0 here)
one_of P Q R (end ∷ outcomes) both each (inr later) = inr (one_of P Q R outcomes both each.1 later)

-- A consequence of each outcome with the property.
pub from_one : {C : Type 0} (P Q : Outcome → Type 0) (outcomes : Outcomes) → ((end : Outcome) → P end → Q end → C) → EachOutcome P outcomes → AnyOutcome Q outcomes → C
from_one P Q [] both each one = absurd one
from_one P Q (end ∷ outcomes) both each (inl here) = both end each.0 here
from_one P Q (end ∷ outcomes) both each (inr later) = from_one P Q outcomes both each.1 later

-- The obligation of an outcome that may have several texts: each has its guarantee.
pub record IsKept (end : Outcome) : Type 0 where
  pub status : is_end end.status ≡ true
  pub guarantees : end.when → (text : List ℕ) → end.is text → end.guarantees text

-- The obligations of outcomes that may have several texts.
pub record AreKept (outcomes : Outcomes) : Type 0 where
  pub each : EachOutcome IsKept outcomes
  pub apart : AreApart outcomes

kept_each : (outcomes : Outcomes) → EachOutcome IsOwed outcomes → EachOutcome IsKept outcomes
kept_each [] owed = tt
kept_each (end ∷ outcomes) owed = (record { status = owed.0.status; guarantees = owed.0.guarantees }, kept_each outcomes owed.1)

-- Outcomes with one text have it.
pub settled_kept : (outcomes : Outcomes) → IsSettled outcomes → AreKept outcomes
settled_kept outcomes settled = record { each = kept_each outcomes settled.owed; apart = settled.apart }

-- The text has its guarantee.
pub told_of : (outcomes : Outcomes) → AreKept outcomes → (ended : Status) (text : List ℕ) → AnyOutcome (EndsIn ended text) outcomes → AnyOutcome (EndsWithGuarantee ended text) outcomes
told_of outcomes kept ended text one =
    one_of IsKept (EndsIn ended text) (EndsWithGuarantee ended text) outcomes (λ end owed is. (is, owed.guarantees is.1 text is.2)) kept.each one

-- The status is that of an outcome.
pub end_status : (outcomes : Outcomes) → AreKept outcomes → (ended : Status) (text : List ℕ) → AnyOutcome (EndsIn ended text) outcomes → is_end ended ≡ true
end_status outcomes kept ended text one =
    from_one IsKept (EndsIn ended text) outcomes (λ end owed is. ap is_end is.0 ∙ owed.status) kept.each one

-- It is the first outcome that is reached.
pub answers_first : (outcomes : Outcomes) → AreApart outcomes → (reply : Reply) → AnyOutcome (EndsIn reply.status reply.text) outcomes → AnswersFirst outcomes reply
answers_first [] apart reply one = absurd one
answers_first (end ∷ outcomes) apart reply (inl here) = inl here
answers_first (end ∷ outcomes) apart reply (inr later) = inr (
  λ first. from_one (λ other. end.when → other.when → ⊥) (EndsIn reply.status reply.text) outcomes (λ other never is. never first is.1) apart.0 later,
  answers_first outcomes apart.1 reply later,
)

-- ---- the reply is unique but for texts that are left open

-- Another reply is equal, or texts with this status are left open, and status and stream are equal.
abbrev pub AgreeOr : (Open : Status → Type 0) → (given other : Reply) → Type 0
AgreeOr Open given other = (other ≡ given) ⊎ (Open given.status × (other.status ≡ given.status) × (other.stream ≡ given.stream))

-- The text of the outcome is unique, or left open.
abbrev pub IsOneOr : (Open : Status → Type 0) → Outcome → Type 0
IsOneOr Open end = ((a b : List ℕ) → end.is a → end.is b → a ≡ b) ⊎ Open end.status

pub one_each : (Open : Status → Type 0) (outcomes : Outcomes) → EachOutcome IsOwed outcomes → EachOutcome (IsOneOr Open) outcomes
one_each Open [] owed = tt
one_each Open (end ∷ outcomes) owed = (inl owed.0.one, one_each Open outcomes owed.1)

first_alike : (Open : Status → Type 0) (outcomes : Outcomes) → EachOutcome (IsOneOr Open) outcomes → (r s : Reply) → AnswersFirst outcomes r → AnswersFirst outcomes s
    → (s.status ≡ r.status) × ((s.text ≡ r.text) ⊎ Open r.status)
first_alike Open [] each r s p q = absurd p
first_alike Open (end ∷ outcomes) each r s (inl p) (inl q) = (
  q.0 ∙ sym p.0,
  elim each.0 [ inl one ↦ inl (one s.text r.text q.2 p.2) | inr loose ↦ inr (subst Open (sym p.0) loose) ],
)
first_alike Open (end ∷ outcomes) each r s (inl p) (inr q) = absurd (q.0 p.1)
first_alike Open (end ∷ outcomes) each r s (inr p) (inl q) = absurd (p.0 q.1)
first_alike Open (end ∷ outcomes) each r s (inr p) (inr q) = first_alike Open outcomes each.1 r s p.1 q.1

pub answers_alike : (on : Bool) (Open : Status → Type 0) (outcomes : Outcomes) → EachOutcome (IsOneOr Open) outcomes → (r s : Reply)
    → Answers on outcomes r × AnswersFirst outcomes r → Answers on outcomes s × AnswersFirst outcomes s → AgreeOr Open r s
answers_alike on Open outcomes each r s p q =
    let same = first_alike Open outcomes each r s p.1 q.1 in
    let stream = q.0.0 ∙ ap (stream_of on) same.0 ∙ sym p.0.0 in
    elim same.1 [
      | inl text ↦ inl (λ i. record { status = same.0 i; stream = stream i; text = text i })
      | inr loose ↦ inr (loose, same.0, stream)
    ]
