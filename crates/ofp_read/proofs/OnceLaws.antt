-- A line encodes at most one entry, or encodes none for one reason, and not both.
use Rattle.std.proofs.Common.{◌≡◌, ◌≢◌, ◌⊎◌, inl, inr, ℕ, Bool, true, not, List, [], ◌∷◌, ◌++◌, Option, Some, None, drop, refl, sym, ap, subst, ◌∙◌, append-nil}
use Rattle.std.specs.Prelude.{IsFalse, codes}
use Rattle.std.proofs.lemmas.List.{append_cancel_left}
use Rattle.text_core.specs.Lines.{words}
use Rattle.text_core.proofs.StepsLaws.{split_bool}
use Rattle.ofp_rules.specs.declared.entry.Entry.{Entry}
use Rattle.ofp_rules.specs.Matching.{asks_of_ip}
use Rattle.ofp_read.specs.declared.fault.OfpWhy.{OfpWhy}
use Rattle.ofp_read.specs.declared.fault.OfpWhy.TheVariants.{BadLine, NeedsIp, UnknownAction}
use Rattle.ofp_read.specs.inner.Cut.{begins_action}
use Rattle.ofp_read.specs.inner.FieldTable.{key_named}
use Rattle.ofp_read.specs.inner.FlowLine.{action_of}
use Rattle.ofp_read.specs.Grammar.{Part, kind, protocol, fields, EachSays, no_field, one_part, two_parts, IsNoneOf, AreDistinct, AreFieldsOf, ends_with_separator, HasFlow, Writes}
use Rattle.ofp_read.specs.Unwritten.{IsAbout, AreNew, IsBadField, unknown, twice, valueless, IsUnwritten, bad_field, no_action, unknown_action, needs_ip}
use Rattle.ofp_read.proofs.NamedLaws.{some_same}
use Rattle.ofp_read.proofs.KeyLaws.{parts_in, parts_about, one_about, each_about}
use Rattle.ofp_read.proofs.PartLaws.{none_of_first, none_of_second}
use Rattle.ofp_read.proofs.EntryLaws.{one_parts, one_entry}
use Rattle.ofp_read.proofs.ApartLaws.{prefixes, fields_apart, action_begins, action_first, same_rest}
use Rattle.ofp_read.proofs.ActionLaws.{action_read}

-- 1. No field begins like an action.

abbrev is_field : List ℕ → Bool
is_field text = not (begins_action text)

pub field_here : (text : List ℕ) → ((value : List ℕ) → text ≢ codes "actions=" ++ value) → is_field text ≡ true
field_here text none = split_bool (begins_action text) (λ begins. absurd (none (drop 8 text) (action_begins text begins))) (λ other. ap not other)

about_field : (parts : List Part) (text : List ℕ) → IsAbout parts text → is_field text ≡ true
unfolding key_named
about_field parts text about = field_here text (λ value is. let clash : None ≡ Some parts = ap parts_in (sym is) ∙ parts_about parts text about in cc)

not_both : {b : Bool} → b ≡ true → not b ≡ true → ⊥
not_both begins field = let clash : not true ≡ true = ap not (sym begins) ∙ field in cc

-- 2. A field of an entry is not a bad field behind the same fields.

-- The field between others, and its parts between theirs.
record IsAt (e : Entry) (parts : List Part) (front : List (List ℕ)) (here : List ℕ) : Type 0 where
  before : List Part
  own : List Part
  behind : List Part
  whole : parts ≡ before ++ (own ++ behind)
  says : EachSays e before front
  says_own : EachSays e own (here ∷ [])

each_at : (e : Entry) (front : List (List ℕ)) (here : List ℕ) (more : List (List ℕ)) (parts : List Part)
    → EachSays e parts (front ++ here ∷ more) → IsAt e parts front here
each_at e [] here more [] each = elim each [ ]
each_at e [] here more (p ∷ ps) (one_part says rest) =
    record { before = []; own = p ∷ []; behind = ps; whole = refl; says = no_field; says_own = one_part says no_field }
each_at e [] here more (kind ∷ protocol ∷ ps) (two_parts n ip its says rest) =
    record { before = []; own = kind ∷ protocol ∷ []; behind = ps; whole = refl; says = no_field; says_own = two_parts n ip its says no_field }
each_at e (text ∷ front) here more [] each = elim each [ ]
each_at e (text ∷ front) here more (p ∷ ps) (one_part says rest) =
    let at = each_at e front here more ps rest in
    record {
      before = p ∷ at.before;
      own = at.own;
      behind = at.behind;
      whole = ap (λ qs. p ∷ qs) at.whole;
      says = one_part says at.says;
      says_own = at.says_own;
    }
each_at e (text ∷ front) here more (kind ∷ protocol ∷ ps) (two_parts n ip its says rest) =
    let at = each_at e front here more ps rest in
    record {
      before = kind ∷ protocol ∷ at.before;
      own = at.own;
      behind = at.behind;
      whole = ap (λ qs. kind ∷ protocol ∷ qs) at.whole;
      says = two_parts n ip its says at.says;
      says_own = at.says_own;
    }

new_one : (p : Part) (own said : List Part) → IsNoneOf p own → AreNew own said → AreNew own (p ∷ said)
new_one p [] said none new = tt
new_one p (q ∷ own) said none new = (((λ same. none.0 (sym same)), new.0), new_one p own said none.1 new.1)

new_own : (said own behind : List Part) → AreDistinct (said ++ (own ++ behind)) → AreNew own said
new_own [] own behind once = none_said own
  where
    none_said : (ps : List Part) → AreNew ps []
    none_said [] = tt
    none_said (p ∷ ps) = (tt, none_said ps)
new_own (p ∷ said) own behind once =
    new_one p own said (none_of_first p own behind (none_of_second p said (own ++ behind) once.0)) (new_own said own behind once.1)

not_bad : (said own : List Part) (e : Entry) (here : List ℕ) (why : OfpWhy) → EachSays e own (here ∷ []) → AreNew own said
    → IsBadField said here why → ⊥
not_bad said own e here why says new (unknown none) = none own (each_about e own here says)
not_bad said own e here why says new (twice parts about old) =
    old (subst (λ (ps : List Part). AreNew ps said) (one_about own parts here (each_about e own here says) about) new)
not_bad said own e here why says new (valueless parts about fresh none) = none e own says

one_bad : (said : List Part) (here : List ℕ) (w v : OfpWhy) → IsBadField said here w → IsBadField said here v → w ≡ v
one_bad said here w v (unknown none) (unknown also) = refl
one_bad said here w v (unknown none) (twice parts about old) = absurd (none parts about)
one_bad said here w v (unknown none) (valueless parts about new without) = absurd (none parts about)
one_bad said here w v (twice parts about old) (unknown none) = absurd (none parts about)
one_bad said here w v (twice parts about old) (twice others also more) = refl
one_bad said here w v (twice parts about old) (valueless others also new without) =
    absurd (old (subst (λ (ps : List Part). AreNew ps said) (one_about others parts here also about) new))
one_bad said here w v (valueless parts about new without) (unknown none) = absurd (none parts about)
one_bad said here w v (valueless parts about new without) (twice others also old) =
    absurd (old (subst (λ (ps : List Part). AreNew ps said) (one_about parts others here about also) new))
one_bad said here w v (valueless parts about new without) (valueless others also fresh none) = refl

-- 3. Where the fields of a line stop: at the end, at an action, or at a bad field. An action has no reason yet.

abbrev IsStop : List Part → List (List ℕ) → Option OfpWhy → Type 0
IsStop said [] o = o ≡ Some BadLine
IsStop said (here ∷ behind) o =
    ((begins_action here ≡ true) × (o ≡ None)) ⊎ ((why : OfpWhy) × (is_field here ≡ true) × IsBadField said here why × (o ≡ Some why))

record Stops (texts front : List (List ℕ)) (o : Option OfpWhy) : Type 0 where
  entry : Entry
  behind : List (List ℕ)
  whole : texts ≡ front ++ behind
  of_fields : AreFieldsOf entry front
  stop : IsStop of_fields.parts behind o

field_at : (e : Entry) (parts : List Part) (front : List (List ℕ)) (here : List ℕ) (more : List (List ℕ))
    → EachSays e parts (front ++ here ∷ more) → is_field here ≡ true
field_at e parts front here more each =
    let at = each_at e front here more parts each in about_field at.own here (each_about e at.own here at.says_own)

-- The fields of another entry do not go on there.
not_on : (e f : Entry) (front : List (List ℕ)) (here : List ℕ) (more behind : List (List ℕ)) (o : Option OfpWhy) (a : AreFieldsOf e front)
    → AreFieldsOf f (front ++ here ∷ more) → IsStop a.parts (here ∷ behind) o → ⊥
not_on e f front here more behind o a b (inl action) = not_both action.0 (field_at f b.parts front here more b.each)
not_on e f front here more behind o a b (inr bad) =
    let at = each_at f front here more b.parts b.each in
    let same = one_parts f e at.before a.parts front at.says a.each in
    not_bad a.parts at.own f here bad.0 at.says_own
    (subst (AreNew at.own) same (new_own at.before at.own at.behind (subst AreDistinct at.whole b.once))) bad.2

nothing_on : (texts front between more : List (List ℕ)) (f : Entry) (o : Option OfpWhy) (a : Stops texts front o) → a.behind ≡ between ++ more
    → AreFieldsOf f (front ++ between) → between ≡ []
nothing_on texts front [] more f o a is b = refl
nothing_on texts front (here ∷ between) more f o a is b =
    absurd (not_on a.entry f front here between (between ++ more) o a.of_fields b
    (subst (λ (bs : List (List ℕ)). IsStop a.of_fields.parts bs o) is a.stop))

one_front : (texts front other : List (List ℕ)) (o p : Option OfpWhy) → Stops texts front o → Stops texts other p → front ≡ other
one_front texts front other o p a b = elim (prefixes front a.behind other b.behind (sym a.whole ∙ b.whole)) [
  | inl longer ↦
      let none = nothing_on texts front longer.0 b.behind b.entry o a longer.2 (subst (AreFieldsOf b.entry) longer.1 b.of_fields) in
      sym (longer.1 ∙ ap (λ bs. front ++ bs) none ∙ append-nil front)
  | inr shorter ↦
      let none = nothing_on texts other shorter.0 a.behind a.entry p b shorter.2 (subst (AreFieldsOf a.entry) shorter.1 a.of_fields) in
      shorter.1 ∙ ap (λ bs. other ++ bs) none ∙ append-nil other
]

one_stop : (said : List Part) (behind : List (List ℕ)) (o p : Option OfpWhy) → IsStop said behind o → IsStop said behind p → o ≡ p
one_stop said [] o p a b = a ∙ sym b
one_stop said (here ∷ behind) o p (inl a) (inl b) = a.1 ∙ sym b.1
one_stop said (here ∷ behind) o p (inl a) (inr b) = absurd (not_both a.0 b.1)
one_stop said (here ∷ behind) o p (inr a) (inl b) = absurd (not_both b.0 a.1)
one_stop said (here ∷ behind) o p (inr a) (inr b) = a.3 ∙ ap (λ w. Some w) (one_bad said here a.0 b.0 a.2 b.2) ∙ sym b.3

deterministic : (texts front other : List (List ℕ)) (o p : Option OfpWhy) → Stops texts front o → Stops texts other p → o ≡ p
deterministic texts front other o p a b =
    let same = one_front texts front other o p a b in
    let fields_same : AreFieldsOf b.entry front = subst (AreFieldsOf b.entry) (sym same) b.of_fields in
    let behind_same = append_cancel_left front b.behind a.behind (ap (λ fs. fs ++ b.behind) same ∙ sym b.whole ∙ a.whole) in
    let parts_same = one_parts b.entry a.entry b.of_fields.parts a.of_fields.parts front
    (subst (EachSays b.entry b.of_fields.parts) (sym same) b.of_fields.each) a.of_fields.each in
    one_stop a.of_fields.parts a.behind o p a.stop
    (subst (λ (ps : List Part). IsStop ps a.behind p) parts_same
    (subst (λ (bs : List (List ℕ)). IsStop b.of_fields.parts bs p) behind_same b.stop))

-- 4. Lines.

-- A line splits into the fields of an entry and a text that begins like an action.
pub record Splits (line front rest : List ℕ) (e : Entry) : Type 0 where
  pub whole : line ≡ front ++ rest
  pub apart : ends_with_separator front ≡ true
  pub of_fields : AreFieldsOf e (fields front)
  pub begins : begins_action rest ≡ true

stops_split : (line front rest : List ℕ) (e : Entry) → Splits line front rest e → Stops (fields line) (fields front) None
stops_split line front rest e split =
    let action = action_first rest split.begins in
    record {
      entry = e;
      behind = action.0 ∷ action.1;
      whole = ap fields split.whole ∙ fields_apart front rest split.apart ∙ ap (λ fs. fields front ++ fs) action.2;
      of_fields = split.of_fields;
      stop = inl (action.3, refl);
    }

pub one_split : (line front rest other more : List ℕ) (e f : Entry) → Splits line front rest e → Splits line other more f
    → (fields front ≡ fields other) × (rest ≡ more)
one_split line front rest other more e f a b =
    let same = one_front (fields line) (fields front) (fields other) None None (stops_split line front rest e a) (stops_split line other more f b) in
    (same, same_rest front rest other more (sym a.whole ∙ b.whole) a.apart b.apart same a.begins b.begins)

pub split_flow : (line : List ℕ) (e : Entry) (flow : HasFlow line e) → Splits line flow.front (flow.action ++ flow.blanks) e
split_flow line e flow = record {
  whole = flow.written;
  apart = flow.apart;
  of_fields = flow.of_fields;
  begins = (action_read e.action flow.action flow.blanks flow.of_action flow.blank).0;
}

pub one_flow : (line : List ℕ) (e f : Entry) → HasFlow line e → HasFlow line f → e ≡ f
one_flow line e f a b =
    let same = one_split line a.front (a.action ++ a.blanks) b.front (b.action ++ b.blanks) e f (split_flow line e a) (split_flow line f b) in
    let action = sym (action_read e.action a.action a.blanks a.of_action a.blank).1 ∙ ap (λ bs. action_of (words bs)) same.1
    ∙ (action_read f.action b.action b.blanks b.of_action b.blank).1 in
    one_entry e f (fields a.front) a.of_fields (subst (AreFieldsOf f) (sym same.0) b.of_fields) (some_same e.action f.action action)

-- The reason behind an action: it is unknown, or the entry matches on fields that not all its frames have.
abbrev IsLate : List ℕ → OfpWhy → Type 0
IsLate line why =
    ((why ≡ UnknownAction) × ((f : Entry) → HasFlow line f → ⊥)) ⊎ ((why ≡ NeedsIp) × ((e : Entry) × HasFlow line e × IsFalse (asks_of_ip e)))

abbrev Outcome : List ℕ → OfpWhy → Type 0
Outcome line why =
    ((front : List (List ℕ)) × Stops (fields line) front (Some why)) ⊎ (((front : List (List ℕ)) × Stops (fields line) front None) × IsLate line why)

outcome : (line : List ℕ) (why : OfpWhy) → IsUnwritten line why → Outcome line why
outcome line why (bad_field bad) = inl (
  bad.front,
  record {
    entry = bad.entry;
    behind = bad.here ∷ bad.behind;
    whole = bad.whole;
    of_fields = bad.of_fields;
    stop = inr (why, field_here bad.here bad.no_action, bad.bad, refl);
  },
)
outcome line why (no_action e of_fields) = inl (
  fields line,
  record {
    entry = e;
    behind = [];
    whole = sym (append-nil (fields line));
    of_fields = of_fields;
    stop = refl;
  },
)
outcome line why (unknown_action e front text whole apart of_fields none) =
    let split : Splits line front (codes "actions=" ++ text) e = record { whole = whole; apart = apart; of_fields = of_fields; begins = refl } in
    inr ((fields front, stops_split line front (codes "actions=" ++ text) e split), inl (refl, none))
outcome line why (needs_ip e flow asks) =
    inr ((fields flow.front, stops_split line flow.front (flow.action ++ flow.blanks) e (split_flow line e flow)), inr (refl, (e, flow, asks)))

some_none : (line : List ℕ) (front other : List (List ℕ)) (why : OfpWhy) → Stops (fields line) front (Some why)
    → Stops (fields line) other None → ⊥
some_none line front other why a b = let same = deterministic (fields line) front other (Some why) None a b in cc

one_late : (line : List ℕ) (w v : OfpWhy) → IsLate line w → IsLate line v → w ≡ v
one_late line w v (inl a) (inl b) = a.0 ∙ sym b.0
one_late line w v (inl a) (inr b) = absurd (a.1 b.1.0 b.1.1)
one_late line w v (inr a) (inl b) = absurd (b.1 a.1.0 a.1.1)
one_late line w v (inr a) (inr b) = a.0 ∙ sym b.0

by_outcome : (line : List ℕ) (w v : OfpWhy) → Outcome line w → Outcome line v → w ≡ v
by_outcome line w v (inl a) (inl b) = some_same w v (deterministic (fields line) a.0 b.0 (Some w) (Some v) a.1 b.1)
by_outcome line w v (inl a) (inr b) = absurd (some_none line a.0 b.0.0 w a.1 b.0.1)
by_outcome line w v (inr a) (inl b) = absurd (some_none line b.0 a.0.0 v b.1 a.0.1)
by_outcome line w v (inr a) (inr b) = one_late line w v a.1 b.1

pub one_reason : (line : List ℕ) (w v : OfpWhy) → IsUnwritten line w → IsUnwritten line v → w ≡ v
one_reason line w v a b = by_outcome line w v (outcome line w a) (outcome line v b)

pub written_or_not : (line : List ℕ) (e : Entry) (why : OfpWhy) → Writes line e → IsUnwritten line why → ⊥
written_or_not line e why (flow, asks) unwritten = elim (outcome line why unwritten) [
  | inl early ↦
      some_none line early.0 (fields flow.front) why early.1
      (stops_split line flow.front (flow.action ++ flow.blanks) e (split_flow line e flow))
  | inr late ↦ elim late.1 [
    | inl none ↦ none.1 e flow
    | inr needs ↦
        let clash = sym asks ∙ ap asks_of_ip (one_flow line e needs.1.0 flow needs.1.1) ∙ needs.1.2 in cc
  ]
]
