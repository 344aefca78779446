-- Conditions 23 and 24 do not refuse a description if and only if the facts of TemplateFacts hold for its templates.
use Rattle.std.proofs.Common.{◌≡◌, ◌≢◌, ◌⊎◌, inl, inr, ℕ, zero, suc, ◌≤◌, ◌+◌, Bool, true, false, not, ◌&&◌, ◌||◌, nat_lt, nat_le, List, [], ◌∷◌, ◌++◌, length, Option, Some, None, option_map, is_none, codes, refl, sym, ap, ◌∙◌, arith}
use Rattle.std.proofs.lemmas.Bool.{and_from, and_parts, false≢true, or_cases, or_left, or_right}
use Rattle.std.proofs.lemmas.Bool.Decides.{nat_tests}
use Rattle.std.proofs.lemmas.Slice.Eq.{bytes_eq-Decides}
use Rattle.std.specs.List.{All, AllPairs, Contains, list_all, list_any}
use Rattle.std.specs.Prelude.{◌↔◌, if◌then◌else◌}
use Rattle.std.specs.Str.{bytes_eq}
use Rattle.attr_core.specs.Templates.{template_named}
use Rattle.desc_core.specs.TemplateConditions as test
use Rattle.desc_core.specs.TemplateConditions.{are_different, bad_template, first_bad, has_kinds, has_strategy, is_well_formed, is_kind, kind_limit, uses_kinds}
use Rattle.desc_core.specs.inner.TemplateFacts.{Denies, HasPartner, IsKind, IsTemplate}
use Rattle.desc_form.specs.Refusals.{refused}
use Rattle.desc_form.specs.RawTemplate.{RawPair, RawTemplate}
use Rattle.desc_form.specs.declared.refusal.Place.TheVariants.{Template}
use Rattle.desc_form.specs.declared.refusal.Why.TheVariants.{BadTemplate}
use Rattle.desc_form.proofs.NoneLaws.{all_tested}
use Rattle.desc_form.proofs.RowLaws.{and_words, differ_words, each_says, pairs_say, same_test, then_words, unequal_words}
use Rattle.text_core.proofs.FirstsLaws.{none_mapped}
use Rattle.text_core.specs.Name.{is_name}
use Rattle.text_core.specs.inner.Pairs.{no_pair}

-- ---- a list contains an element if and only if a test that only this element passes finds one

found_contained : {A : Type 0} (p : A → Bool) (x : A) → ((y : A) → p y ≡ true → y ≡ x) → (xs : List A) → list_any p xs ≡ true → Contains xs x
found_contained p x only [] found = absurd (false≢true found)
found_contained p x only (y ∷ xs) found =
    elim (or_cases (p y) (list_any p xs) found) [
      | inl here ↦ (zero, omega arith, only y here)
      | inr later ↦ let (k, within, at) = found_contained p x only xs later in (suc k, omega (arith, within), at)
    ]

contained_found : {A : Type 0} (p : A → Bool) (x : A) → p x ≡ true → (xs : List A) → Contains xs x → list_any p xs ≡ true
contained_found p x passes [] (k, within, at) = absurd (omega (arith, within))
contained_found p x passes (y ∷ xs) (zero, within, at) = or_left (p y) (list_any p xs) (ap p at ∙ passes)
contained_found p x passes (y ∷ xs) (suc k, within, at) = or_right (p y) (list_any p xs) (contained_found p x passes xs (k, omega (arith, within), at))

word_among : (word : List ℕ) (words : List (List ℕ)) → (list_any (bytes_eq word) words ≡ true) ↔ Contains words word
word_among word words = (
  found_contained (bytes_eq word) word (λ other same. sym ((bytes_eq-Decides word other).0 same)) words,
  contained_found (bytes_eq word) word ((bytes_eq-Decides word word).1 refl) words,
)

abbrev is_pair : List ℕ → List ℕ → RawPair → Bool
is_pair sender receiver p = bytes_eq p.sender sender && bytes_eq p.receiver receiver

only_pair : (sender receiver : List ℕ) (p : RawPair) → is_pair sender receiver p ≡ true → p ≡ record { sender = sender; receiver = receiver }
only_pair sender receiver p same =
    let (first, second) = and_parts (bytes_eq p.sender sender) (bytes_eq p.receiver receiver) same in
    let senders = (bytes_eq-Decides p.sender sender).0 first in
    let receivers = (bytes_eq-Decides p.receiver receiver).0 second in
    λ k. record { sender = senders k; receiver = receivers k }

pair_among : (t : RawTemplate) (sender receiver : List ℕ) → (test.denies t sender receiver ≡ true) ↔ Denies t sender receiver
pair_among t sender receiver = (
  found_contained (is_pair sender receiver) (record { sender = sender; receiver = receiver }) (only_pair sender receiver) t.deny,
  contained_found (is_pair sender receiver) (record { sender = sender; receiver = receiver })
      (and_from _ _ ((bytes_eq-Decides sender sender).1 refl) ((bytes_eq-Decides receiver receiver).1 refl)) t.deny,
)

-- ---- 23: the test of a single template, and that of its name among the earlier ones

-- The template is valid by itself, regardless of the others.
abbrev pub is_template : RawTemplate → Bool
is_template t = is_name t.name && is_none (template_named t.name) && has_strategy t && has_kinds t && uses_kinds t

abbrev pub same_name : RawTemplate → RawTemplate → Bool
same_name t earlier = bytes_eq t.name earlier.name

abbrev is_free : List RawTemplate → RawTemplate → Bool
is_free earlier t = not (list_any (same_name t) earlier)

good_parts : (earlier : List RawTemplate) (t : RawTemplate) → is_well_formed earlier t ≡ true → (is_template t ≡ true) × (is_free earlier t ≡ true)
good_parts earlier t good =
    let (third, uses) = and_parts _ (uses_kinds t) good in
    let (second, kinds) = and_parts _ (has_kinds t) third in
    let (first, strategy) = and_parts _ (has_strategy t) second in
    let (named, free) = and_parts (is_name t.name && is_none (template_named t.name)) (is_free earlier t) first in
    (and_from _ _ (and_from _ _ (and_from _ _ named strategy) kinds) uses, free)

good_from : (earlier : List RawTemplate) (t : RawTemplate) → is_template t ≡ true → is_free earlier t ≡ true → is_well_formed earlier t ≡ true
good_from earlier t alone free =
    let (second, uses) = and_parts _ (uses_kinds t) alone in
    let (first, kinds) = and_parts _ (has_kinds t) second in
    let (named, strategy) = and_parts (is_name t.name && is_none (template_named t.name)) (has_strategy t) first in
    and_from _ _ (and_from _ _ (and_from _ _ (and_from _ _ named free) strategy) kinds) uses

free_by : (b x y z : Bool) → not x ≡ (not y && z) → not (b || x) ≡ (not (b || y) && z)
free_by true x y z is = refl
free_by false x y z is = is

not_or_false : (b : Bool) → not (b || false) ≡ not b
not_or_false true = refl
not_or_false false = refl

free_behind : (earlier : List RawTemplate) (t u : RawTemplate) → is_free (earlier ++ t ∷ []) u ≡ (is_free earlier u && not (same_name u t))
free_behind [] t u = not_or_false (same_name u t)
free_behind (e ∷ earlier) t u =
    free_by (same_name u e) (list_any (same_name u) (earlier ++ t ∷ [])) (list_any (same_name u) earlier) (not (same_name u t)) (free_behind earlier t u)

both_by : (a b c d : Bool) → ((a && b) && (c && d)) ≡ ((a && c) && (b && d))
both_by true true c d = refl
both_by true false true d = refl
both_by true false false d = refl
both_by false b c d = refl

all_both : {A : Type 0} (p q : A → Bool) (xs : List A) → list_all (λ x. p x && q x) xs ≡ (list_all p xs && list_all q xs)
all_both p q [] = refl
all_both p q (x ∷ xs) = ap (λ b. (p x && q x) && b) (all_both p q xs) ∙ both_by (p x) (q x) (list_all p xs) (list_all q xs)

all_free_behind : (earlier : List RawTemplate) (t : RawTemplate) (ts : List RawTemplate)
    → list_all (is_free (earlier ++ t ∷ [])) ts ≡ (list_all (is_free earlier) ts && list_all (λ u. not (same_name u t)) ts)
all_free_behind earlier t ts = (λ k. list_all (λ u. free_behind earlier t u k) ts) ∙ all_both (is_free earlier) (λ u. not (same_name u t)) ts

-- The facts about the templates after the earlier ones.
pub record AreTemplates (earlier ts : List RawTemplate) : Type 0 where
  pub each : list_all is_template ts ≡ true
  pub apart : no_pair same_name ts ≡ true
  pub free : list_all (is_free earlier) ts ≡ true

pub good_by : (b : Bool) (later : Option ℕ) (k : ℕ) → (if b then later else Some k) ≡ None → (b ≡ true) × (later ≡ None)
good_by true later k none = (refl, none)
good_by false later k none = cc

later_by : (b : Bool) (later : Option ℕ) (k : ℕ) → b ≡ true → later ≡ None → (if b then later else Some k) ≡ None
later_by true later k good none = none
later_by false later k good none = absurd (false≢true good)

none_are : (earlier : List RawTemplate) (k : ℕ) (ts : List RawTemplate) → first_bad earlier k ts ≡ None → AreTemplates earlier ts
none_are earlier k [] none = record { each = refl; apart = refl; free = refl }
none_are earlier k (t ∷ ts) none =
    let (good, later) = good_by (is_well_formed earlier t) (first_bad (earlier ++ t ∷ []) (k + 1) ts) k none in
    let (alone, free) = good_parts earlier t good in
    let behind = none_are (earlier ++ t ∷ []) (k + 1) ts later in
    let (others, apart) = and_parts (list_all (is_free earlier) ts) _ (sym (all_free_behind earlier t ts) ∙ behind.free) in
    record {
      each = and_from (is_template t) (list_all is_template ts) alone behind.each;
      apart = and_from (list_all (λ u. not (same_name u t)) ts) (no_pair same_name ts) apart behind.apart;
      free = and_from (is_free earlier t) (list_all (is_free earlier) ts) free others;
    }

are_none : (earlier : List RawTemplate) (k : ℕ) (ts : List RawTemplate) → AreTemplates earlier ts → first_bad earlier k ts ≡ None
are_none earlier k [] are = refl
are_none earlier k (t ∷ ts) are =
    let (alone, each) = and_parts (is_template t) _ are.each in
    let (unlike, apart) = and_parts (list_all (λ u. not (same_name u t)) ts) _ are.apart in
    let (free, others) = and_parts (is_free earlier t) _ are.free in
    later_by (is_well_formed earlier t) (first_bad (earlier ++ t ∷ []) (k + 1) ts) k (good_from earlier t alone free)
    (are_none (earlier ++ t ∷ []) (k + 1) ts (record {
      each = each;
      apart = apart;
      free = all_free_behind earlier t ts ∙ and_from (list_all (is_free earlier) ts) (list_all (λ u. not (same_name u t)) ts) others unlike;
    }))

all_free : (ts : List RawTemplate) → list_all (is_free []) ts ≡ true
all_free [] = refl
all_free (t ∷ ts) = all_free ts

-- ---- 23, as facts

none_is : {A : Type 0} (o : Option A) → (is_none o ≡ true) ↔ (o ≡ None)
none_is None = (λ h. refl, λ h. refl)
none_is (Some x) = (λ h. absurd (false≢true h), λ h. cc)

one_of_two : (word first second : List ℕ) → ((bytes_eq word first || bytes_eq word second) ≡ true) ↔ ((word ≡ first) ⊎ (word ≡ second))
one_of_two word first second = (
  λ h. elim (or_cases (bytes_eq word first) (bytes_eq word second) h) [
    | inl is ↦ inl ((bytes_eq-Decides word first).0 is)
    | inr is ↦ inr ((bytes_eq-Decides word second).0 is)
  ],
  λ either. elim either [
    | inl is ↦ or_left (bytes_eq word first) (bytes_eq word second) ((bytes_eq-Decides word first).1 is)
    | inr is ↦ or_right (bytes_eq word first) (bytes_eq word second) ((bytes_eq-Decides word second).1 is)
  ],
)

not_or : (a b : Bool) → not (a || b) ≡ (not a && not b)
not_or true b = refl
not_or false b = refl

none_any : {A : Type 0} (p : A → Bool) (xs : List A) → not (list_any p xs) ≡ list_all (λ x. not (p x)) xs
none_any p [] = refl
none_any p (x ∷ xs) = not_or (p x) (list_any p xs) ∙ ap (λ b. not (p x) && b) (none_any p xs)

-- A later word is equal to an earlier one.
abbrev is_earlier : List ℕ → List ℕ → Bool
is_earlier later earlier = bytes_eq earlier later

different_same : (words : List (List ℕ)) → are_different words ≡ no_pair is_earlier words
different_same [] = refl
different_same (word ∷ words) = λ k. none_any (bytes_eq word) words k && different_same words k

words_differ : (words : List (List ℕ)) → (are_different words ≡ true) ↔ AllPairs (λ word other. word ≢ other) words
words_differ words =
    then_words (same_test (different_same words)) (pairs_say is_earlier (λ word other. word ≢ other) unequal_words words)

abbrev names_differ : RawTemplate → RawTemplate → Type 0
names_differ t u = t.name ≢ u.name

templates_differ : (ts : List RawTemplate) → (no_pair same_name ts ≡ true) ↔ AllPairs names_differ ts
templates_differ ts = pairs_say same_name names_differ (λ t u. differ_words t.name u.name) ts

at_least_one : (n : ℕ) → (nat_lt 0 n ≡ true) ↔ (1 ≤ n)
at_least_one n = (λ h. grind (arith, nat_tests), λ h. grind (arith, nat_tests))

at_most : (n limit : ℕ) → (nat_le n limit ≡ true) ↔ (n ≤ limit)
at_most n limit = (λ h. grind (arith, nat_tests), λ h. grind (arith, nat_tests))

abbrev pair_test : RawTemplate → RawPair → Bool
pair_test t p = is_kind t p.sender && is_kind t p.receiver

pair_words : (t : RawTemplate) (p : RawPair) → (pair_test t p ≡ true) ↔ (IsKind t p.sender × IsKind t p.receiver)
pair_words t p = and_words (is_kind t p.sender) (is_kind t p.receiver) (word_among p.sender t.kinds) (word_among p.receiver t.kinds)

pairs_words : (t : RawTemplate) → (list_all (pair_test t) t.deny ≡ true) ↔ All (λ (p : RawPair). IsKind t p.sender × IsKind t p.receiver) t.deny
pairs_words t = each_says (pair_test t) (λ (p : RawPair). IsKind t p.sender × IsKind t p.receiver) (pair_words t) t.deny

tested_template : (t : RawTemplate) → is_template t ≡ true → IsTemplate t
tested_template t h =
    let (front, uses) = and_parts _ (uses_kinds t) h in
    let (named, kinds) = and_parts _ (has_kinds t) front in
    let (own, strategy) = and_parts _ (has_strategy t) named in
    let (name, none) = and_parts (is_name t.name) (is_none (template_named t.name)) own in
    let (sized, different) = and_parts _ (are_different t.kinds) kinds in
    let (counted, names) = and_parts _ (list_all is_name t.kinds) sized in
    let (some, few) = and_parts (nat_lt 0 (length t.kinds)) (nat_le (length t.kinds) kind_limit) counted in
    let (default, pairs) = and_parts (is_kind t t.default) (list_all (pair_test t) t.deny) uses in
    record {
      named = name;
      own = (none_is (template_named t.name)).0 none;
      strategy = (one_of_two t.strategy (codes "access") (codes "information")).0 strategy;
      some_kinds = (at_least_one (length t.kinds)).0 some;
      few_kinds = (at_most (length t.kinds) kind_limit).0 few;
      kind_names = (all_tested is_name t.kinds).0 names;
      different_kinds = (words_differ t.kinds).0 different;
      default = (word_among t.default t.kinds).0 default;
      pairs = (pairs_words t).0 pairs;
    }

template_tested : (t : RawTemplate) → IsTemplate t → is_template t ≡ true
template_tested t is =
    and_from _ (uses_kinds t)
    (and_from _ (has_kinds t)
    (and_from _ (has_strategy t)
    (and_from (is_name t.name) (is_none (template_named t.name)) is.named ((none_is (template_named t.name)).1 is.own))
    ((one_of_two t.strategy (codes "access") (codes "information")).1 is.strategy))
    (and_from _ (are_different t.kinds)
    (and_from _ (list_all is_name t.kinds)
    (and_from (nat_lt 0 (length t.kinds)) (nat_le (length t.kinds) kind_limit)
    ((at_least_one (length t.kinds)).1 is.some_kinds) ((at_most (length t.kinds) kind_limit).1 is.few_kinds))
    ((all_tested is_name t.kinds).1 is.kind_names))
    ((words_differ t.kinds).1 is.different_kinds)))
    (and_from (is_kind t t.default) (list_all (pair_test t) t.deny) ((word_among t.default t.kinds).1 is.default)
    ((pairs_words t).1 is.pairs))

-- Each is a valid template, and no two have the same name.
pub templates_are : (ts : List RawTemplate) → (bad_template ts ≡ None) ↔ (All IsTemplate ts × AllPairs (λ t u. t.name ≢ u.name) ts)
templates_are ts =
    let each_is = each_says is_template IsTemplate (λ t. (tested_template t, template_tested t)) ts in
    let differ = templates_differ ts in (
      λ none.
          let are = none_are [] 1 ts (none_mapped (λ k. refused BadTemplate (Template k)) (first_bad [] 1 ts) none) in
          (each_is.0 are.each, differ.0 are.apart),
      λ (each, apart).
          ap (λ o. option_map (λ k. refused BadTemplate (Template k)) o)
          (are_none [] 1 ts (record { each = each_is.1 each; apart = differ.1 apart; free = all_free ts })),
    )

-- ---- 24, as facts

partner_by : (access : Bool) (a b : Bool) (P Q Is : Type 0) → ((access ≡ true) ↔ Is) → ((a ≡ true) ↔ P) → ((b ≡ true) ↔ Q)
    → ((if access then a else b) ≡ true) ↔ ((Is → P) × ((Is → ⊥) → Q))
partner_by true a b P Q Is says first second = (
  λ h. (λ is. first.0 h, λ never. absurd (never (says.0 refl))),
  λ both. first.1 (both.0 (says.0 refl)),
)
partner_by false a b P Q Is says first second = (
  λ h. (λ is. absurd (false≢true (says.1 is)), λ never. second.0 h),
  λ both. second.1 (both.1 (λ is. false≢true (says.1 is))),
)

pub partner_words : (t : RawTemplate) (p : RawPair) → (test.has_partner t p ≡ true) ↔ HasPartner t p
partner_words t p =
    let (says, said) = partner_by (bytes_eq t.strategy (codes "access")) (test.denies t t.default p.receiver) (test.denies t p.sender t.default)
    (Denies t t.default p.receiver) (Denies t p.sender t.default) (t.strategy ≡ codes "access")
    (bytes_eq-Decides t.strategy (codes "access")) (pair_among t t.default p.receiver) (pair_among t p.sender t.default) in (
      λ h. let both = says h in record { at_sender = both.0; at_receiver = both.1 },
      λ has. said (has.at_sender, has.at_receiver),
    )

-- Each denied pair of each template has its partner.
pub partners_are : (ts : List RawTemplate)
    → (list_all (λ t. list_all (test.has_partner t) t.deny) ts ≡ true) ↔ All (λ t. All (HasPartner t) t.deny) ts
partners_are ts =
    each_says (λ (t : RawTemplate). list_all (test.has_partner t) t.deny) (λ (t : RawTemplate). All (HasPartner t) t.deny)
    (λ t. each_says (test.has_partner t) (HasPartner t) (partner_words t) t.deny) ts
