-- A description of a valid form is shallow: it nests at most six arrays and tables, without dates, times and floats, if this holds for the
-- tables of its assigns. Their further keys depend on the templates.
use Rattle.std.specs.Ordering.{int_eq}
use Rattle.std.proofs.Common.{◌≡◌, ℕ, suc, pos, ◌≤◌, Bool, true, false, List, [], ◌∷◌, Option, Some, None, refl, sym, subst, arith}
use Rattle.std.specs.List.{AllByRecursion, AllZip}
use Rattle.std.specs.Prelude.{codes, IsSomeAnd, MatchOption}
use Rattle.toml.specs.Data.{Data, table, Members, get_member, is_sorted, members_are_sorted}
use Rattle.desc_form.specs.RawDescription.{RawDescription, RawAssign, RawHost, RawInvariant}
use Rattle.desc_form.specs.inner.RawForm.{IsAnswers, IsArray, IsAssign, IsBoolean, IsFlow, IsHost, IsInteger, IsInvariant, IsPair, IsTable, IsTemplate, IsText, IsRawOf, Stands, StandsOr, document_names, template_names}
use Rattle.desc_form.specs.RawTemplate.{RawTemplate}
use Rattle.table_core.specs.Shallow.{IsShallow}
use Rattle.table_core.proofs.ShallowLaws.{IsShallowAt, array_shallow, table_shallow}
use Rattle.table_core.specs.Tables.{elements}

-- A value of this form has at most this many levels.
abbrev AreShallow : {A : Type 0} → (Data → A → Type 0) → ℕ → Type 0
AreShallow {A = A} Is n = (d : Data) (x : A) → is_sorted d ≡ true → Is d x → IsShallow n d

deeper : (n m : ℕ) (d : Data) → n ≤ m → IsShallow n d → IsShallow m d
deeper n m d less (deep, plain) = (omega (arith, less, deep), plain)

texts_are : AreShallow IsText 0
texts_are d x sorted is = rw is (omega arith, refl)

integers_are : AreShallow IsInteger 0
integers_are d x sorted is = rw is (omega arith, refl)

booleans_are : AreShallow IsBoolean 0
booleans_are d x sorted is = rw is (omega arith, refl)

answers_are : AreShallow IsAnswers 0
answers_are d x sorted is = rw is (omega arith, refl)

arrays_are : {A : Type 0} (Is : Data → A → Type 0) (n : ℕ) → AreShallow Is n → AreShallow (IsArray Is) (suc n)
arrays_are Is n each d xs sorted (ds, is, zipped) =
    subst (IsShallow (suc n)) (sym is) (array_shallow Is n each ds xs (subst (λ (e : Data). is_sorted e ≡ true) is sorted) zipped)

-- The value at a key has at most this many levels.
stands_by : {A : Type 0} (Is : Data → A → Type 0) (n m : ℕ) → n ≤ m → AreShallow Is n → (o : Option Data) (x : A) → IsSomeAnd o (λ d. Is d x)
    → (d : Data) → o ≡ Some d → is_sorted d ≡ true → IsShallow m d
stands_by Is n m less each None x stands d is sorted = absurd stands
stands_by Is n m less each (Some e) x stands d is sorted =
    let same : e ≡ d = cc in
    deeper n m d less (each d x sorted (subst (λ (f : Data). Is f x) same stands))

at_key : {A : Type 0} (Is : Data → A → Type 0) (n m : ℕ) → n ≤ m → AreShallow Is n → (ms : Members) (key : List ℕ) (x : A) → Stands Is key ms x
    → IsShallowAt m ms key
at_key Is n m less each ms key x stands = stands_by Is n m less each (get_member key ms) x stands

default_by : {A : Type 0} (Is : Data → A → Type 0) (n m : ℕ) → n ≤ m → AreShallow Is n → (o : Option Data) (default x : A)
    → MatchOption o (x ≡ default) (λ d. Is d x) → (d : Data) → o ≡ Some d → is_sorted d ≡ true → IsShallow m d
default_by Is n m less each None default x stands d is sorted = cc
default_by Is n m less each (Some e) default x stands d is sorted = stands_by Is n m less each (Some e) x stands d is sorted

at_or : {A : Type 0} (Is : Data → A → Type 0) (n m : ℕ) → n ≤ m → AreShallow Is n → (ms : Members) (key : List ℕ) (default x : A)
    → StandsOr default Is key ms x → IsShallowAt m ms key
at_or Is n m less each ms key default x stands = default_by Is n m less each (get_member key ms) default x stands

tables_are : {A : Type 0} (Is : Members → A → Type 0) (n : ℕ) → ((ms : Members) (x : A) → members_are_sorted ms ≡ true → Is ms x → IsShallow n (table ms))
    → AreShallow (IsTable Is) n
tables_are Is n each d x sorted (ms, is, fits) =
    subst (IsShallow n) (sym is) (each ms x (subst (λ (e : Data). is_sorted e ≡ true) is sorted) fits)

-- Table by table.
host_is : (ms : Members) (h : RawHost) → members_are_sorted ms ≡ true → IsHost ms h → IsShallow 2 (table ms)
host_is ms h sorted is =
    table_shallow 1 ms (codes "name" ∷ codes "at" ∷ codes "rest" ∷ []) sorted is.only (
      at_key IsText 0 1 (omega arith) texts_are ms (codes "name") h.name is.name,
      (
        at_or (IsArray IsText) 1 1 (omega arith) (arrays_are IsText 0 texts_are) ms (codes "at") [] h.at is.at,
        (at_or IsBoolean 0 1 (omega arith) booleans_are ms (codes "rest") false h.rest is.rest, tt),
      ),
    )

flow_is : AreShallow IsFlow 1
flow_is d f sorted is = arrays_are IsText 0 texts_are d (f.from ∷ f.to ∷ f.services) sorted is

-- The table of an assign has two levels at most.
abbrev pub IsShallowAssign : RawAssign → Type 0
IsShallowAssign a = members_are_sorted a.table ≡ true → IsShallow 2 (table a.table)

with_both : {A : Type 0} (Is : Data → A → Type 0) (P : A → Type 0) (ds : List Data) (xs : List A) → AllZip Is ds xs → AllByRecursion P xs
    → AllZip (λ d x. Is d x × P x) ds xs
with_both Is P [] [] zipped all = tt
with_both Is P [] (x ∷ xs) zipped all = absurd zipped
with_both Is P (d ∷ ds) [] zipped all = absurd zipped
with_both Is P (d ∷ ds) (x ∷ xs) (is, zipped) (here, all) = ((is, here), with_both Is P ds xs zipped all)

-- An array whose elements are shallow if an additional property holds for each.
arrays_with : {A : Type 0} (Is : Data → A → Type 0) (P : A → Type 0) (n : ℕ) → AreShallow (λ d x. Is d x × P x) n
    → (d : Data) (xs : List A) → is_sorted d ≡ true → IsArray Is d xs → AllByRecursion P xs → IsShallow (suc n) d
arrays_with Is P n each d xs sorted (ds, is, zipped) all =
    arrays_are (λ d x. Is d x × P x) n each d xs sorted (ds, is, with_both Is P (elements ds) xs zipped all)

assign_is : AreShallow (λ d (a : RawAssign). IsTable IsAssign d a × IsShallowAssign a) 2
assign_is d a sorted ((ms, is, fits), shallow) =
    let same : a.table ≡ ms = fits.table in
    let up : members_are_sorted ms ≡ true = subst (λ (e : Data). is_sorted e ≡ true) is sorted in
    subst (IsShallow 2) (sym is)
    (subst (λ (t : Members). IsShallow 2 (table t)) same (shallow (subst (λ (t : Members). members_are_sorted t ≡ true) (sym same) up)))

abbrev pub AreShallowAssigns : RawInvariant → Type 0
AreShallowAssigns i = AllByRecursion IsShallowAssign i.assigns

assigns_by : (o : Option Data) (xs : List RawAssign) → MatchOption o (xs ≡ []) (λ d. IsArray (IsTable IsAssign) d xs)
    → AllByRecursion IsShallowAssign xs → (d : Data) → o ≡ Some d → is_sorted d ≡ true → IsShallow 3 d
assigns_by None xs stands all d is sorted = cc
assigns_by (Some e) xs stands all d is sorted =
    let same : e ≡ d = cc in
    arrays_with (IsTable IsAssign) IsShallowAssign 2 assign_is d xs sorted
    (subst (λ (f : Data). IsArray (IsTable IsAssign) f xs) same stands) all

invariant_is : (ms : Members) (i : RawInvariant) → members_are_sorted ms ≡ true → IsInvariant ms i → AreShallowAssigns i
    → IsShallow 4 (table ms)
invariant_is ms i sorted is all =
    table_shallow 3 ms (codes "template" ∷ codes "assign" ∷ []) sorted is.only (
      at_key IsText 0 3 (omega arith) texts_are ms (codes "template") i.template is.template,
      (assigns_by (get_member (codes "assign") ms) i.assigns is.assigns all, tt),
    )

invariants_are : AreShallow (λ d (i : RawInvariant). IsTable IsInvariant d i × AreShallowAssigns i) 4
invariants_are d i sorted ((ms, is, fits), all) =
    let up : members_are_sorted ms ≡ true = subst (λ (e : Data). is_sorted e ≡ true) is sorted in
    subst (IsShallow 4) (sym is) (invariant_is ms i up fits all)

invariants_by : (o : Option Data) (xs : List RawInvariant) → MatchOption o (xs ≡ []) (λ d. IsArray (IsTable IsInvariant) d xs)
    → AllByRecursion AreShallowAssigns xs → (d : Data) → o ≡ Some d → is_sorted d ≡ true → IsShallow 5 d
invariants_by None xs stands all d is sorted = cc
invariants_by (Some e) xs stands all d is sorted =
    let same : e ≡ d = cc in
    arrays_with (IsTable IsInvariant) AreShallowAssigns 4 invariants_are d xs sorted
    (subst (λ (f : Data). IsArray (IsTable IsInvariant) f xs) same stands) all

pair_is : AreShallow IsPair 1
pair_is d p sorted is = arrays_are IsText 0 texts_are d (p.sender ∷ p.receiver ∷ []) sorted is

template_is : (ms : Members) (t : RawTemplate) → members_are_sorted ms ≡ true → IsTemplate ms t → IsShallow 3 (table ms)
template_is ms t sorted is =
    table_shallow 2 ms (codes "name" ∷ codes "strategy" ∷ codes "kinds" ∷ codes "default" ∷ codes "deny" ∷ []) sorted is.only (
      at_key IsText 0 2 (omega arith) texts_are ms (codes "name") t.name is.name,
      (
        at_key IsText 0 2 (omega arith) texts_are ms (codes "strategy") t.strategy is.strategy,
        (
          at_key (IsArray IsText) 1 2 (omega arith) (arrays_are IsText 0 texts_are) ms (codes "kinds") t.kinds is.kinds,
          (
            at_key IsText 0 2 (omega arith) texts_are ms (codes "default") t.default is.default,
            (at_key (IsArray IsPair) 2 2 (omega arith) (arrays_are IsPair 1 pair_is) ms (codes "deny") t.deny is.deny, tt),
          ),
        ),
      ),
    )

-- The key that exists only in version 2.
template_at : (b : Bool) (ms : Members) (ts : List RawTemplate) → StandsOr [] (IsArray (IsTable IsTemplate)) (codes "template") ms ts
    → AllByRecursion (IsShallowAt 5 ms) (template_names b)
template_at true ms ts stands =
    (at_or (IsArray (IsTable IsTemplate)) 4 5 (omega arith) (arrays_are (IsTable IsTemplate) 3 (tables_are IsTemplate 3 template_is)) ms (codes "template") [] ts stands, tt)
template_at false ms ts stands = tt

-- The document.
pub written_shallow : (ms : Members) (w : RawDescription) → members_are_sorted ms ≡ true → IsRawOf ms w → AllByRecursion AreShallowAssigns w.invariants
    → IsShallow 6 (table ms)
written_shallow ms w sorted is all =
    table_shallow 5 ms (document_names w.version) sorted is.only (
      at_key IsInteger 0 5 (omega arith) integers_are ms (codes "topos") w.version is.version,
      (
        at_or IsAnswers 0 5 (omega arith) answers_are ms (codes "answers") true w.answers is.answers,
        (
          at_key (IsArray (IsTable IsHost)) 3 5 (omega arith) (arrays_are (IsTable IsHost) 2 (tables_are IsHost 2 host_is)) ms (codes "host") w.hosts is.hosts,
          (
            invariants_by (get_member (codes "invariant") ms) w.invariants is.invariants all,
            (at_or (IsArray IsFlow) 2 5 (omega arith) (arrays_are IsFlow 1 flow_is) ms (codes "flow") [] w.flows is.flows, template_at (int_eq w.version (pos 2)) ms w.templates is.templates),
          ),
        ),
      ),
    )
