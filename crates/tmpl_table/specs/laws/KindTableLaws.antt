-- A table is lawful if and only if its default is secure; then the default lets no denied pair pass.
use Rattle.std.proofs.Common.{◌≡◌, ℕ, ◌+◌, ◌<◌, Bool, true, false, not, ◌&&◌, ◌==◌, List, [], ◌∷◌, length, Option, Some, None, is_none, inl, inr, refl, sym, ap, ◌∙◌, subst, arith}
use Rattle.std.specs.Prelude.{find, if◌then◌else◌}
use Rattle.std.specs.List.{All, list_all, position_from}
use Rattle.std.proofs.lemmas.Bool.{and_from, and_parts, or_cases, or_left, or_right, false≢true, false_from_ne_true, eq-eqb, eqb-true, not_from_false, not_from_true, cases_Bool}
use Rattle.std.proofs.lemmas.List.Elements.{All-cons, All-head, All-nil, All-tail}
use Rattle.flow_set.specs.declared.flow.Flow.{Flow}
use Rattle.inv_law.specs.laws.AttributeLaws.{ResetPassesNoMore-attributes}
use Rattle.inv_law.specs.Attributes.{PassesBetween}
use Rattle.inv_law.specs.inner.Invariants.{blamed_host}
use Rattle.inv_law.specs.inner.Resets.{IsSecureDefault, ResetPassesNoMore, PassesAfterReset}
use Rattle.inv_law.specs.inner.Template.{MayHaveDefault}
use Rattle.inv_law.specs.laws.TemplateLaws.{IsLawfulTemplate, lawful_edge}
use Rattle.inv_law.specs.declared.strategy.Strategy.{Strategy}
use Rattle.inv_law.specs.declared.strategy.Strategy.TheVariants.{Access, Information}
use Rattle.tmpl_table.specs.KindTable.{KindTable, TablePasses, declared, is_lawful, lists, passes_with, with_kind}
use Rattle.tmpl_table.specs.inner.KindTable.{HasSecureDefault, PairPasses, first_weaker}

same_pair : (p q : ℕ × ℕ) → ((p.0 == q.0) && (p.1 == q.1)) ≡ true → p ≡ q
same_pair p q same =
    let both = and_parts (p.0 == q.0) (p.1 == q.1) same in
    λ i. (eqb-true p.0 q.0 both.0 i, eqb-true p.1 q.1 both.1 i)

-- A property of all pairs of a list is a property of each listed pair.
listed_has : (test : ℕ × ℕ → Bool) (pairs : List (ℕ × ℕ)) (pair : ℕ × ℕ) → lists pairs pair ≡ true → list_all test pairs ≡ true
    → test pair ≡ true
listed_has test [] pair listed all = absurd (false≢true listed)
listed_has test (p ∷ pairs) pair listed all =
    let (here, behind) = and_parts (test p) (list_all test pairs) all in
    elim (or_cases ((p.0 == pair.0) && (p.1 == pair.1)) (lists pairs pair) listed) [
      | inl same ↦ ap test (sym (same_pair p pair same)) ∙ here
      | inr later ↦ listed_has test pairs pair later behind
    ]

-- In a lawful table the partner of a denied pair is denied.
partner_listed : (table : KindTable) → is_lawful table ≡ true → (pair : ℕ × ℕ) → lists table.denied pair ≡ true
    → lists table.denied (with_kind table.strategy table.default pair) ≡ true
partner_listed table lawful pair listed =
    not-not (lists table.denied (with_kind table.strategy table.default pair))
    (listed_has (λ p. not (passes_with table.strategy table.denied table.default p)) table.denied pair listed lawful)
  where
    not-not : (b : Bool) → not (not b) ≡ true → b ≡ true
    not-not true h = refl
    not-not false h = h

-- A pair whose partner passes is not denied.
passes_by_partner : (table : KindTable) → is_lawful table ≡ true → (pair : ℕ × ℕ)
    → not (lists table.denied (with_kind table.strategy table.default pair)) ≡ true → not (lists table.denied pair) ≡ true
passes_by_partner table lawful pair passes =
    elim (cases_Bool (lists table.denied pair)) [
      | inl listed ↦ absurd (false≢true (sym (not_from_true _ (partner_listed table lawful pair listed)) ∙ passes))
      | inr free ↦ not_from_false _ free
    ]

secure_pairs : (table : KindTable) → is_lawful table ≡ true → IsSecureDefault table.strategy table.default (PairPasses table.denied)
secure_pairs table lawful = secure_by table.strategy refl
  where
    secure_by : (s : Strategy) → table.strategy ≡ s → IsSecureDefault s table.default (PairPasses table.denied)
    secure_by Access is = λ sender receiver passes. passes_by_partner table lawful (sender, receiver) (subst (λ (t : Strategy). not (lists table.denied (with_kind t table.default (sender, receiver))) ≡ true) (sym is) passes)
    secure_by Information is = λ sender receiver passes. passes_by_partner table lawful (sender, receiver) (subst (λ (t : Strategy). not (lists table.denied (with_kind t table.default (sender, receiver))) ≡ true) (sym is) passes)

-- For a lawful table the test for lawfulness is redundant. With a table that is not lawful, all pairs pass.
guarded : (b x : Bool) → b ≡ true → not (b && x) ≡ not x
guarded true x is = refl
guarded false x is = absurd (false≢true is)

unguarded : (b x : Bool) → b ≡ false → not (b && x) ≡ true
unguarded true x is = absurd (false≢true (sym is))
unguarded false x is = refl

-- A pair that passes with the default at the offending host passes with any kind there.
pub table_secure : (table : KindTable) → IsSecureDefault table.strategy table.default (TablePasses table)
table_secure table = secure_by table.strategy refl
  where
    any_pair : (pair : ℕ × ℕ) → not (is_lawful table && lists table.denied (with_kind table.strategy table.default pair)) ≡ true
        → not (is_lawful table && lists table.denied pair) ≡ true
    any_pair pair passes =
        elim (cases_Bool (is_lawful table)) [
          | inl lawful ↦ guarded (is_lawful table) (lists table.denied pair) lawful
              ∙ passes_by_partner table lawful pair (sym (guarded (is_lawful table) (lists table.denied (with_kind table.strategy table.default pair)) lawful) ∙ passes)
          | inr other ↦ unguarded (is_lawful table) (lists table.denied pair) other
        ]

    secure_by : (s : Strategy) → table.strategy ≡ s → IsSecureDefault s table.default (TablePasses table)
    secure_by Access is = λ sender receiver passes. any_pair (sender, receiver) (subst (λ (t : Strategy). not (is_lawful table && lists table.denied (with_kind t table.default (sender, receiver))) ≡ true) (sym is) passes)
    secure_by Information is = λ sender receiver passes. any_pair (sender, receiver) (subst (λ (t : Strategy). not (is_lawful table && lists table.denied (with_kind t table.default (sender, receiver))) ≡ true) (sym is) passes)

pub declared_lawful : (table : KindTable) → IsLawfulTemplate (declared table)
declared_lawful table = lawful_edge table.name table.strategy (λ kind. kind < table.kinds) table.default (TablePasses table) (table_secure table)

pub declared_default : (table : KindTable) → table.default < table.kinds → MayHaveDefault (declared table)
declared_default table is_kind n host within = is_kind

-- The default of a lawful table is secure.
pub HasSecureDefault-lawful : (table : KindTable) → is_lawful table ≡ true → HasSecureDefault table
HasSecureDefault-lawful table lawful hosts two kinds =
    ResetPassesNoMore-attributes table.strategy table.default (PairPasses table.denied) (secure_pairs table lawful) (length hosts) hosts

-- Every denied pair consists of two kinds of the table.
abbrev pub AreKinds : ℕ → List (ℕ × ℕ) → Type 0
AreKinds kinds pairs = All (λ pair. (pair.0 < kinds) × (pair.1 < kinds)) pairs

listed_first : (pair : ℕ × ℕ) (pairs : List (ℕ × ℕ)) → lists (pair ∷ pairs) pair ≡ true
listed_first pair pairs = or_left _ _ (and_from _ _ (eq-eqb pair.0 pair.0 refl) (eq-eqb pair.1 pair.1 refl))

listed_later : (other pair : ℕ × ℕ) (pairs : List (ℕ × ℕ)) → lists pairs pair ≡ true → lists (other ∷ pairs) pair ≡ true
listed_later other pair pairs listed = or_right _ _ listed

all_listed : (test : ℕ × ℕ → Bool) (kinds : ℕ) (pairs : List (ℕ × ℕ)) → AreKinds kinds pairs
    → ((pair : ℕ × ℕ) → pair.0 < kinds → pair.1 < kinds → lists pairs pair ≡ true → test pair ≡ true) → list_all test pairs ≡ true
all_listed test kinds [] below each = refl
all_listed test kinds (pair ∷ pairs) below each =
    let within = All-head (λ (p : ℕ × ℕ). (p.0 < kinds) × (p.1 < kinds)) pair pairs below in
    and_from (test pair) (list_all test pairs) (each pair within.0 within.1 (listed_first pair pairs))
    (all_listed test kinds pairs (All-tail (λ (p : ℕ × ℕ). (p.0 < kinds) × (p.1 < kinds)) pair pairs below)
    (λ q left right listed. each q left right (listed_later pair q pairs listed)))

-- Two hosts of a denied pair: the flow between them fails, so it fails after the reset, and the partner is denied.
partner_by_two : (table : KindTable) → HasSecureDefault table → (pair : ℕ × ℕ) → pair.0 < table.kinds → pair.1 < table.kinds
    → lists table.denied pair ≡ true → not (passes_with table.strategy table.denied table.default pair) ≡ true
partner_by_two table hides pair left right listed = not_from_false _ (false_from_ne_true _ (after table.strategy refl))
  where
    hosts : List ℕ
    hosts = pair.0 ∷ pair.1 ∷ []

    first : Flow
    first = record { from = 0; to = 1 }

    law : ResetPassesNoMore 2 table.strategy (PassesBetween table.default (PairPasses table.denied) hosts) (PassesAfterReset table.default (PairPasses table.denied) hosts)
    law = hides hosts (omega arith) (All-cons (λ kind. kind < table.kinds) pair.0 (pair.1 ∷ []) left (All-cons (λ kind. kind < table.kinds) pair.1 [] right (All-nil (λ kind. kind < table.kinds))))

    fails : PassesBetween table.default (PairPasses table.denied) hosts 0 1 → ⊥
    fails passes = false≢true (sym (not_from_true _ listed) ∙ passes)

    after : (s : Strategy) → table.strategy ≡ s → passes_with table.strategy table.denied table.default pair ≡ true → ⊥
    after Access is passes = law first (omega arith, omega arith, λ same. omega arith) fails
        (subst (λ (t : Strategy). PassesAfterReset table.default (PairPasses table.denied) hosts (blamed_host t first) 0 1) (sym is)
        (subst (λ (t : Strategy). passes_with t table.denied table.default pair ≡ true) is passes))
    after Information is passes = law first (omega arith, omega arith, λ same. omega arith) fails
        (subst (λ (t : Strategy). PassesAfterReset table.default (PairPasses table.denied) hosts (blamed_host t first) 0 1) (sym is)
        (subst (λ (t : Strategy). passes_with t table.denied table.default pair ≡ true) is passes))

-- A table with a secure default is lawful.
pub lawful-HasSecureDefault : (table : KindTable) → AreKinds table.kinds table.denied → HasSecureDefault table → is_lawful table ≡ true
lawful-HasSecureDefault table below hides =
    all_listed (λ pair. not (passes_with table.strategy table.denied table.default pair)) table.kinds table.denied below (partner_by_two table hides)

-- A pair that passes a test exists if and only if not all pairs fail it.
by_test : (b : Bool) (i : ℕ) (o : Option ℕ) (all : Bool) → is_none o ≡ all → is_none (if b then Some i else o) ≡ (not b && all)
by_test true i o all is = refl
by_test false i o all is = is

pub is_none-position_from : {A : Type 0} (test : A → Bool) (i : ℕ) (xs : List A) → is_none (position_from test i xs) ≡ list_all (λ x. not (test x)) xs
is_none-position_from test i [] = refl
is_none-position_from test i (x ∷ xs) = by_test (test x) i (position_from test (i + 1) xs) (list_all (λ y. not (test y)) xs) (is_none-position_from test (i + 1) xs)

find_by : {A : Type 0} (b : Bool) (x : A) (o : Option A) (all : Bool) → (all ≡ true → o ≡ None) → (not b && all) ≡ true → (if b then Some x else o) ≡ None
find_by true x o all behind is = absurd (false≢true is)
find_by false x o all behind is = behind is

pub find-none : {A : Type 0} (test : A → Bool) (xs : List A) → list_all (λ x. not (test x)) xs ≡ true → find test xs ≡ None
find-none test [] all = refl
find-none test (x ∷ xs) all = find_by (test x) x (find test xs) (list_all (λ y. not (test y)) xs) (find-none test xs) all

-- In a lawful table no denied pair passes after its offending host is given the default.
pub default_weakens_nothing : (table : KindTable) → is_lawful table ≡ true → first_weaker table table.default ≡ None
default_weakens_nothing table lawful = find-none (passes_with table.strategy table.denied table.default) table.denied lawful

-- The result of the search for a pair without a partner determines whether the table is lawful.
pub accepted : (table : KindTable) → position_from (passes_with table.strategy table.denied table.default) 0 table.denied ≡ None
    → (is_lawful table ≡ true) × HasSecureDefault table
accepted table none =
    let lawful : is_lawful table ≡ true =
    sym (is_none-position_from (passes_with table.strategy table.denied table.default) 0 table.denied) ∙ ap is_none none in
    (lawful, HasSecureDefault-lawful table lawful)

pub refused : (table : KindTable) (place : ℕ) → AreKinds table.kinds table.denied
    → position_from (passes_with table.strategy table.denied table.default) 0 table.denied ≡ Some place → HasSecureDefault table → ⊥
refused table place below found hides =
    let unlawful : is_lawful table ≡ false =
    sym (is_none-position_from (passes_with table.strategy table.denied table.default) 0 table.denied) ∙ ap is_none found in
    false≢true (sym unlawful ∙ lawful-HasSecureDefault table below hides)
