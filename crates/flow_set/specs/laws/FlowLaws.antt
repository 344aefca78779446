-- Lemmas on flows and flow sets, by subject: the order of flows, members, equality, sorted lists, filters, removal and
-- insertion of single flows, prefixes of a set.
use Rattle.std.proofs.Common.{◌≡◌, Bool, true, false, not, ◌&&◌, ◌||◌, cond, List, [], ◌∷◌, ◌++◌, inl, inr, refl, sym, ◌∙◌, ap, subst, arith}
use Rattle.std.specs.Prelude.{IsTrue, IsFalse, filter}
use Rattle.std.proofs.lemmas.Bool.{eqb-true, and_parts, or_cases, or_left, or_right, cond_both, false≢true, both_ways, false_from_ne_true, cond-true, cond-false, not_from_false}
use Rattle.std.proofs.lemmas.Bool.Decides.{nat_tests}
use Rattle.std.proofs.Math.Bool.{or_assoc, or-false}
use Rattle.flow_set.specs.declared.flow.Flow.{Flow}
use Rattle.flow_set.specs.Flow.{before, same_flow, reverse_of}
use Rattle.flow_set.specs.FlowSet.{SetOfFlows, has, IsOrdered, with_flow, without, with_back}
use Rattle.flow_set.specs.inner.FlowSetView.{without_flow}

-- ---- the order of flows

pub flow_ext : (f g : Flow) → f.from ≡ g.from → f.to ≡ g.to → f ≡ g
flow_ext f g p q = λ i. record { from = p i; to = q i }

pub same_flow-true : (f g : Flow) → IsTrue (same_flow f g) → f ≡ g
same_flow-true f g h =
    let parts = and_parts _ _ h in
    flow_ext f g (eqb-true _ _ parts.0) (eqb-true _ _ parts.1)

pub same_flow_self : (f : Flow) → IsTrue (same_flow f f)
same_flow_self f = grind (arith, nat_tests)

pub same_flow_sym : (f g : Flow) → same_flow f g ≡ same_flow g f
same_flow_sym f g = grind (arith, nat_tests)

pub same_flow_back : (f g : Flow) → same_flow (reverse_of f) g ≡ same_flow f (reverse_of g)
same_flow_back f g = grind (arith, nat_tests)

pub before_self : (f : Flow) → IsFalse (before f f)
before_self f = grind (arith, nat_tests)

pub before_trans : (f g h : Flow) → IsTrue (before f g) → IsTrue (before g h) → IsTrue (before f h)
before_trans f g h p q = grind (arith, nat_tests)

pub before_not_back : (f g : Flow) → IsTrue (before f g) → IsFalse (before g f)
before_not_back f g p = grind (arith, nat_tests)

pub after_not_same : (f g : Flow) → IsTrue (before f g) → IsFalse (same_flow g f)
after_not_same f g p = grind (arith, nat_tests)

-- Two flows of which neither is before the other are equal.
pub same_flow_from_order : (f g : Flow) → IsFalse (before f g) → IsFalse (before g f) → IsTrue (same_flow f g)
same_flow_from_order f g p q = grind (arith, nat_tests)

-- If f is not before p, neither is a flow after f.
pub not_before_from : (f g p : Flow) → IsFalse (before f p) → IsTrue (before f g) → IsFalse (before g p)
not_before_from f g p a b = grind (arith, nat_tests)

-- ---- members

-- A test has the same result for equal flows.
pub same_test : (P : Flow → Bool) (f g : Flow) → IsTrue (same_flow f g) → P f ≡ P g
same_test P f g s = ap P (same_flow-true f g s)

pub has_nothing : {C : Type 0} (f : Flow) → IsTrue (has [] f) → C
has_nothing f h = absurd (false≢true h)

pub has_first : (f : Flow) (fs : List Flow) → IsTrue (has (f ∷ fs) f)
has_first f fs = or_left _ _ (same_flow_self f)

pub has_later : (g : Flow) (fs : List Flow) (f : Flow) → IsTrue (has fs f) → IsTrue (has (g ∷ fs) f)
has_later g fs f h = or_right _ _ h

-- A fact that holds for a flow holds for an equal flow.
pub same_fact : (P : Flow → Type 0) (f g : Flow) → IsTrue (same_flow f g) → P f → P g
same_fact P f g s h = subst P (same_flow-true f g s) h

pub or_swap : (a b c : Bool) → (a || (b || c)) ≡ (b || (a || c))
or_swap true true c = refl
or_swap true false c = refl
or_swap false true c = refl
or_swap false false c = refl

or_again : (a b c : Bool) → a ≡ b → (b || c) ≡ (a || (b || c))
or_again true true c e = refl
or_again true false c e = cc
or_again false true c e = cc
or_again false false c e = refl

pub has-append : (xs ys : List Flow) (f : Flow) → has (xs ++ ys) f ≡ (has xs f || has ys f)
has-append [] ys f = refl
has-append (x ∷ xs) ys f = ap (λ b. same_flow x f || b) (has-append xs ys f) ∙ sym (or_assoc (same_flow x f) (has xs f) (has ys f))

pub has-with_flow : (fs : List Flow) (f g : Flow) → has (with_flow fs f) g ≡ (same_flow f g || has fs g)
has-with_flow [] f g = refl
has-with_flow (x ∷ xs) f g =
    cond_both (before f x) (f ∷ x ∷ xs) (x ∷ cond (before x f) (with_flow xs f) xs)
    (λ zs. has zs g ≡ (same_flow f g || (same_flow x g || has xs g)))
    (λ _. refl)
    (λ not_earlier.
    cond_both (before x f) (with_flow xs f) xs (λ zs. (same_flow x g || has zs g) ≡ (same_flow f g || (same_flow x g || has xs g)))
    (λ _. ap (λ b. same_flow x g || b) (has-with_flow xs f g) ∙ or_swap (same_flow x g) (same_flow f g) (has xs g))
    (λ not_later.
    or_again (same_flow f g) (same_flow x g) (has xs g)
    (same_test (λ y. same_flow y g) f x (same_flow_from_order f x not_earlier not_later))))

passes_alike : (p : Flow → Bool) (x f : Flow) (b : Bool) → p x ≡ true → (same_flow x f || (b && p f)) ≡ ((same_flow x f || b) && p f)
passes_alike p x f b passed =
    elim (same_flow x f) as (λ s. same_flow x f ≡ s → (s || (b && p f)) ≡ ((s || b) && p f)) [
      | true ↦ λ same. sym (sym (same_test p x f same) ∙ passed)
      | false ↦ λ _. refl
    ] refl

fails_alike : (p : Flow → Bool) (x f : Flow) (b : Bool) → p x ≡ false → (b && p f) ≡ ((same_flow x f || b) && p f)
fails_alike p x f b fails =
    elim (same_flow x f) as (λ s. same_flow x f ≡ s → (b && p f) ≡ ((s || b) && p f)) [
      | true ↦ λ same. let e : p f ≡ false = sym (same_test p x f same) ∙ fails in rw e (and_false b)
      | false ↦ λ _. refl
    ] refl
  where
    and_false : (b : Bool) → (b && false) ≡ false
    and_false true = refl
    and_false false = refl

pub has-filter : (p : Flow → Bool) (fs : List Flow) (f : Flow) → has (filter p fs) f ≡ (has fs f && p f)
has-filter p [] f = refl
has-filter p (x ∷ xs) f =
    cond_both (p x) (x ∷ filter p xs) (filter p xs) (λ zs. has zs f ≡ ((same_flow x f || has xs f) && p f))
    (λ passed. ap (λ b. same_flow x f || b) (has-filter p xs f) ∙ passes_alike p x f (has xs f) passed)
    (λ fails. has-filter p xs f ∙ fails_alike p x f (has xs f) fails)

pub has-without_flow : (fs : List Flow) (f g : Flow) → has (without_flow fs f) g ≡ (has fs g && not (same_flow f g))
has-without_flow fs f g = has-filter (λ h. not (same_flow f h)) fs g

pub has-without : (fs gs : List Flow) (f : Flow) → has (without fs gs) f ≡ (has fs f && not (has gs f))
has-without fs gs f = has-filter (λ h. not (has gs h)) fs f

pub has-with_back : (fs gs : List Flow) (f : Flow) → has (with_back fs gs) f ≡ (has fs f || has gs (reverse_of f))
has-with_back fs [] f = sym (or-false (has fs f))
has-with_back fs (g ∷ gs) f =
    has-with_flow (with_back fs gs) (reverse_of g) f
    ∙ ap (λ b. same_flow (reverse_of g) f || b) (has-with_back fs gs f)
    ∙ ap (λ b. b || (has fs f || has gs (reverse_of f))) (same_flow_back g f)
    ∙ or_swap (same_flow g (reverse_of f)) (has fs f) (has gs (reverse_of f))

-- ---- equal sets

-- A flow that is before all flows of a list is not in the list.
pub has_below : (f : Flow) (fs : List Flow) → ((g : Flow) → IsTrue (has fs g) → IsTrue (before f g)) → IsFalse (has fs f)
has_below f fs below = false_from_ne_true _ (λ h. both_ways _ (before_self f) (below f h))

same_heads : (x y : Flow) (xs ys : List Flow) → IsOrdered (x ∷ xs) → IsOrdered (y ∷ ys)
    → ((f : Flow) → has (x ∷ xs) f ≡ has (y ∷ ys) f) → IsFalse (before x y)
same_heads x y xs ys p q same =
    false_from_ne_true _ (λ earlier.
    elim (or_cases (same_flow y x) (has ys x) (sym (same x) ∙ has_first x xs)) [
      | inl s ↦ both_ways _ (after_not_same x y earlier) s
      | inr h ↦ both_ways _ (before_not_back x y earlier) (q.0 x h)
    ])

same_rests : (x y : Flow) (xs ys : List Flow) → x ≡ y → IsOrdered (x ∷ xs) → IsOrdered (y ∷ ys)
    → ((f : Flow) → has (x ∷ xs) f ≡ has (y ∷ ys) f) → (f : Flow) → has xs f ≡ has ys f
same_rests x y xs ys e p q same f =
    elim (same_flow x f) as (λ s. same_flow x f ≡ s → has xs f ≡ has ys f) [
      | true ↦ λ s. same_test (has xs) f x (sym (same_flow_sym x f) ∙ s) ∙ has_below x xs p.0 ∙ sym (has_below y ys q.0) ∙ ap (has ys) (sym e ∙ same_flow-true x f s)
      | false ↦ λ s. ap (λ b. b || has xs f) (sym s) ∙ same f ∙ ap (λ b. b || has ys f) (ap (λ z. same_flow z f) (sym e) ∙ s)
    ] refl

-- Sorted lists with the same members are equal. Every equation between sets uses this lemma.
pub flows_ext : (xs ys : List Flow) → IsOrdered xs → IsOrdered ys → ((f : Flow) → has xs f ≡ has ys f) → xs ≡ ys
flows_ext [] [] p q same = refl
flows_ext [] (y ∷ ys) p q same = has_nothing y (same y ∙ has_first y ys)
flows_ext (x ∷ xs) [] p q same = has_nothing x (sym (same x) ∙ has_first x xs)
flows_ext (x ∷ xs) (y ∷ ys) p q same =
    let e : x ≡ y =
    same_flow-true x y (same_flow_from_order x y (same_heads x y xs ys p q same) (same_heads y x ys xs q p (λ f. sym (same f)))) in
    let rests : xs ≡ ys = flows_ext xs ys p.1 q.1 (same_rests x y xs ys e p q same) in
    λ i. e i ∷ rests i

-- Sets with the same number of hosts and the same flows are equal.
pub set_ext : (s t : SetOfFlows) → s.size ≡ t.size → s.flows ≡ t.flows → s ≡ t
set_ext s t p q = λ i. record { size = p i; flows = q i }

-- ---- sorted lists

pub IsOrdered-filter : (p : Flow → Bool) (fs : List Flow) → IsOrdered fs → IsOrdered (filter p fs)
IsOrdered-filter p [] o = tt
IsOrdered-filter p (f ∷ fs) o =
    cond_both (p f) (f ∷ filter p fs) (filter p fs) IsOrdered
    (λ _. (λ g h. o.0 g (and_parts _ _ (sym (has-filter p fs g) ∙ h)).0, IsOrdered-filter p fs o.1))
    (λ _. IsOrdered-filter p fs o.1)

pub IsOrdered-without_flow : (fs : List Flow) (f : Flow) → IsOrdered fs → IsOrdered (without_flow fs f)
IsOrdered-without_flow fs f o = IsOrdered-filter (λ g. not (same_flow f g)) fs o

pub IsOrdered-without : (fs gs : List Flow) → IsOrdered fs → IsOrdered (without fs gs)
IsOrdered-without fs gs o = IsOrdered-filter (λ g. not (has gs g)) fs o

pub IsOrdered-with_flow : (fs : List Flow) (f : Flow) → IsOrdered fs → IsOrdered (with_flow fs f)
IsOrdered-with_flow [] f o = (λ g h. has_nothing g h, tt)
IsOrdered-with_flow (x ∷ xs) f o =
    cond_both (before f x) (f ∷ x ∷ xs) (x ∷ cond (before x f) (with_flow xs f) xs) IsOrdered
    (λ earlier. (
      λ g h. elim (or_cases (same_flow x g) (has xs g) h) [
        | inl s ↦ same_fact (λ y. IsTrue (before f y)) x g s earlier
        | inr m ↦ before_trans f x g earlier (o.0 g m)
      ],
      o,
    ))
    (λ _. cond_both (before x f) (with_flow xs f) xs (λ zs. IsOrdered (x ∷ zs))
    (λ later. (
      λ g h. elim (or_cases (same_flow f g) (has xs g) (sym (has-with_flow xs f g) ∙ h)) [
        | inl s ↦ same_fact (λ y. IsTrue (before x y)) f g s later
        | inr m ↦ o.0 g m
      ],
      IsOrdered-with_flow xs f o.1,
    ))
    (λ _. o))

pub IsOrdered-with_back : (fs gs : List Flow) → IsOrdered fs → IsOrdered (with_back fs gs)
IsOrdered-with_back fs [] o = o
IsOrdered-with_back fs (g ∷ gs) o = IsOrdered-with_flow (with_back fs gs) (reverse_of g) (IsOrdered-with_back fs gs o)

-- The concatenation of two sets is sorted if all flows of the first are before those of the second.
pub IsOrdered-append : (xs ys : List Flow) → IsOrdered xs → IsOrdered ys
    → ((f g : Flow) → IsTrue (has xs f) → IsTrue (has ys g) → IsTrue (before f g)) → IsOrdered (xs ++ ys)
IsOrdered-append [] ys o p apart = p
IsOrdered-append (x ∷ xs) ys o p apart = (
  λ g h. elim (or_cases (has xs g) (has ys g) (sym (has-append xs ys g) ∙ h)) [
    | inl here ↦ o.0 g here
    | inr later ↦ apart x g (has_first x xs) later
  ],
  IsOrdered-append xs ys o.1 p (λ f g here later. apart f g (has_later x xs f here) later),
)

-- ---- the reverse of one more flow

pub with_back-push : (fs gs : List Flow) (g : Flow) → IsOrdered fs → with_back fs (gs ++ g ∷ []) ≡ with_flow (with_back fs gs) (reverse_of g)
with_back-push fs gs g o =
    flows_ext (with_back fs (gs ++ g ∷ [])) (with_flow (with_back fs gs) (reverse_of g))
    (IsOrdered-with_back fs (gs ++ g ∷ []) o) (IsOrdered-with_flow (with_back fs gs) (reverse_of g) (IsOrdered-with_back fs gs o))
    (λ f.
    has-with_back fs (gs ++ g ∷ []) f
    ∙ ap (λ b. has fs f || b) (has-append gs (g ∷ []) (reverse_of f))
    ∙ or_last (has fs f) (has gs (reverse_of f)) (same_flow g (reverse_of f))
    ∙ ap (λ b. b || (has fs f || has gs (reverse_of f))) (sym (same_flow_back g f))
    ∙ ap (λ b. same_flow (reverse_of g) f || b) (sym (has-with_back fs gs f))
    ∙ sym (has-with_flow (with_back fs gs) (reverse_of g) f))
  where
    or_last : (a b c : Bool) → (a || (b || (c || false))) ≡ (c || (a || b))
    or_last true b true = refl
    or_last true b false = refl
    or_last false true true = refl
    or_last false true false = refl
    or_last false false true = refl
    or_last false false false = refl

-- ---- filters of a set

-- If no flow satisfies the test, the filtered list is empty.
pub filter_nothing : (p : Flow → Bool) (fs : List Flow) → ((f : Flow) → IsTrue (has fs f) → IsFalse (p f)) → filter p fs ≡ []
filter_nothing p [] fails = refl
filter_nothing p (f ∷ fs) fails =
    cond-false (p f) _ _ (fails f (has_first f fs)) ∙ filter_nothing p fs (λ g h. fails g (has_later f fs g h))

-- If all flows satisfy the test, the filtered list is unchanged.
pub filter_everything : (p : Flow → Bool) (fs : List Flow) → ((f : Flow) → IsTrue (has fs f) → IsTrue (p f)) → filter p fs ≡ fs
filter_everything p [] passed = refl
filter_everything p (f ∷ fs) passed =
    cond-true (p f) _ _ (passed f (has_first f fs)) ∙ ap (λ zs. f ∷ zs) (filter_everything p fs (λ g h. passed g (has_later f fs g h)))

-- ---- removal of single flows

pub without_nothing : (fs : List Flow) → without fs [] ≡ fs
without_nothing fs = filter_everything (λ f. not (has [] f)) fs (λ f there. refl)

pub without-push : (fs gs : List Flow) (g : Flow) → without fs (gs ++ g ∷ []) ≡ without_flow (without fs gs) g
without-push [] gs g = refl
without-push (f ∷ fs) gs g =
    elim (has gs f) as (λ b. has gs f ≡ b → cond (not (has (gs ++ g ∷ []) f)) (f ∷ without fs (gs ++ g ∷ [])) (without fs (gs ++ g ∷ [])) ≡ without_flow (cond (not b) (f ∷ without fs gs) (without fs gs)) g) [
      | true ↦ λ taken. rw (has-append gs (g ∷ []) f, taken) (without-push fs gs g)
      | false ↦ λ left. rw (has-append gs (g ∷ []) f, left)
          (elim (same_flow g f) as (λ s. cond (not (s || false)) (f ∷ without fs (gs ++ g ∷ [])) (without fs (gs ++ g ∷ [])) ≡ cond (not s) (f ∷ without_flow (without fs gs) g) (without_flow (without fs gs) g)) [
            | true ↦ without-push fs gs g
            | false ↦ ap (λ zs. f ∷ zs) (without-push fs gs g)
          ])
    ] refl

-- ---- a flow that is present or absent

pub with_flow_there : (fs : List Flow) (f : Flow) → IsOrdered fs → IsTrue (has fs f) → with_flow fs f ≡ fs
with_flow_there fs f o there =
    flows_ext (with_flow fs f) fs (IsOrdered-with_flow fs f o) o
    (λ g. has-with_flow fs f g ∙ (elim (same_flow f g) as (λ b. same_flow f g ≡ b → (b || has fs g) ≡ has fs g) [
      | true ↦ λ same. sym (sym (same_test (has fs) f g same) ∙ there)
      | false ↦ λ _. refl
    ] refl))

-- A flow that is after all flows of a set is inserted at the end.
pub with_flow-last : (fs : List Flow) (f : Flow) → ((g : Flow) → IsTrue (has fs g) → IsTrue (before g f)) → with_flow fs f ≡ fs ++ f ∷ []
with_flow-last [] f after = refl
with_flow-last (g ∷ gs) f after =
    let earlier : IsTrue (before g f) = after g (has_first g gs) in
    cond-false (before f g) _ _ (before_not_back g f earlier)
    ∙ ap (λ hs. g ∷ hs) (cond-true (before g f) _ _ earlier ∙ with_flow-last gs f (λ h there. after h (has_later g gs h there)))

pub without_flow_absent : (fs : List Flow) (f : Flow) → IsFalse (has fs f) → without_flow fs f ≡ fs
without_flow_absent fs f absent =
    filter_everything (λ g. not (same_flow f g)) fs
    (λ g h. not_from_false _ (false_from_ne_true _ (λ same. both_ways _ absent (same_test (has fs) f g same ∙ h))))

-- Inserting a removed flow restores the set.
pub with_flow-without_flow : (fs : List Flow) (f : Flow) → IsOrdered fs → IsTrue (has fs f) → with_flow (without_flow fs f) f ≡ fs
with_flow-without_flow fs f o there =
    flows_ext (with_flow (without_flow fs f) f) fs (IsOrdered-with_flow (without_flow fs f) f (IsOrdered-without_flow fs f o)) o
    (λ g.
    has-with_flow (without_flow fs f) f g
    ∙ ap (λ b. same_flow f g || b) (has-without_flow fs f g)
    ∙ put_back (same_flow f g) (has fs g) (λ same. sym (same_test (has fs) f g same) ∙ there))
  where
    put_back : (a b : Bool) → (IsTrue a → IsTrue b) → (a || (b && not a)) ≡ b
    put_back true b h = sym (h refl)
    put_back false true h = refl
    put_back false false h = refl

-- Removing an inserted flow restores the set.
pub without_flow-with_flow : (fs : List Flow) (f : Flow) → IsOrdered fs → IsFalse (has fs f) → without_flow (with_flow fs f) f ≡ fs
without_flow-with_flow fs f o absent =
    flows_ext (without_flow (with_flow fs f) f) fs (IsOrdered-without_flow (with_flow fs f) f (IsOrdered-with_flow fs f o)) o
    (λ g.
    has-without_flow (with_flow fs f) f g
    ∙ ap (λ b. b && not (same_flow f g)) (has-with_flow fs f g)
    ∙ taken_out (same_flow f g) (has fs g) (λ same. sym (same_test (has fs) f g same) ∙ absent))
  where
    taken_out : (a b : Bool) → (IsTrue a → IsFalse b) → ((a || b) && not a) ≡ b
    taken_out true b h = sym (h refl)
    taken_out false true h = refl
    taken_out false false h = refl

-- ---- a prefix of a set

pub IsOrdered-front : (xs ys : List Flow) → IsOrdered (xs ++ ys) → IsOrdered xs
IsOrdered-front [] ys o = tt
IsOrdered-front (x ∷ xs) ys o = (λ g h. o.0 g (has-append xs ys g ∙ or_left _ _ h), IsOrdered-front xs ys o.1)

-- A flow of the prefix is before every flow of the rest.
pub front_before : (xs ys : List Flow) (f g : Flow) → IsOrdered (xs ++ ys) → IsTrue (has xs f) → IsTrue (has ys g) → IsTrue (before f g)
front_before [] ys f g o p q = has_nothing f p
front_before (x ∷ xs) ys f g o p q =
    elim (or_cases (same_flow x f) (has xs f) p) [
      | inl same ↦ same_fact (λ h. IsTrue (before h g)) x f same (o.0 g (has-append xs ys g ∙ or_right _ _ q))
      | inr later ↦ front_before xs ys f g o.1 later q
    ]
