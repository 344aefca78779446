-- Lemmas on the hosts that a host reaches and on those that it is joined with: for subsets, the empty set, one flow and
-- one more flow.
use Rattle.std.proofs.Common.{◌≡◌, ℕ, ◌<◌, ◌≤◌, Bool, true, false, ◌&&◌, ◌||◌, ◌⊎◌, ◌↔◌, inl, inr, List, [], ◌∷◌, ◌++◌, refl, sym, ◌∙◌, ap, arith}
use Rattle.std.specs.Prelude.{IsTrue, IsFalse, ◌≢◌}
use Rattle.std.proofs.lemmas.Bool.{or_cases, or_left, or_right, and_parts, and_from, both_ways, cases_Bool, false≢true}
use Rattle.std.proofs.lemmas.List.Elements.{All-nil, All-cons}
use Rattle.flow_set.specs.declared.flow.Flow.{Flow}
use Rattle.flow_set.specs.Flow.{same_flow, reverse_of}
use Rattle.flow_set.specs.FlowSet.{has, with_flow}
use Rattle.flow_set.specs.inner.FlowSetView.{IsFlowSet}
use Rattle.flow_set.specs.laws.FlowLaws.{same_flow-true, same_flow_self, same_flow_back, has-with_flow}
use Rattle.reach_core.specs.Walks.{LeadsTo, HasWalk, Reaches, has_either, Joined, ReachesAtMost}
use Rattle.reach_core.specs.inner.Counting.{ReachesExactly}
use Rattle.reach_core.specs.laws.WalkLaws.{HasPath, HasWalk-weaker, HasPath-weaker, HasWalk-append, path_of_walk, cases_path, path_cut, walk_cut, walk_within, walk_without, walk_elsewhere, LeadsTo-append, walk_over, path_touch, walk_ends}

-- ---- subsets

pub Reaches-within : (s e : List Flow) → ((f : Flow) → IsTrue (has s f) → IsTrue (has e f)) → (i j : ℕ) → Reaches s i j → Reaches e i j
Reaches-within s e within = HasWalk-weaker (has s) (has e) within

pub has_either-within : (s e : List Flow) → ((f : Flow) → IsTrue (has s f) → IsTrue (has e f)) → (f : Flow)
    → IsTrue (has_either s f) → IsTrue (has_either e f)
has_either-within s e within f shown =
    elim (or_cases (has s f) (has s (reverse_of f)) shown) [
      | inl forth ↦ or_left _ _ (within f forth)
      | inr back ↦ or_right _ _ (within (reverse_of f) back)
    ]

pub Joined-within : (s e : List Flow) → ((f : Flow) → IsTrue (has s f) → IsTrue (has e f)) → (i j : ℕ) → Joined s i j → Joined e i j
Joined-within s e within = HasWalk-weaker (has_either s) (has_either e) (has_either-within s e within)

pub ReachesAtMost-within : (s e : List Flow) → ((f : Flow) → IsTrue (has s f) → IsTrue (has e f)) → (i limit : ℕ)
    → ReachesAtMost e i limit → ReachesAtMost s i limit
ReachesAtMost-within s e within i limit most hosts are =
    most hosts
    (record { different = are.different; others = are.others; reached = λ k d below. Reaches-within s e within i _ (are.reached k d below) })

-- Walks stay among the hosts of a set.
pub Reaches-below : (n : ℕ) (e : List Flow) → IsFlowSet n e → (i j : ℕ) → Reaches e i j → (i < n) × (j < n)
Reaches-below n e is_set i j walk =
    walk_ends (has e) (λ h. h < n) (λ h. h < n) (λ f here. ((is_set.flows f here).0, (is_set.flows f here).1)) i j walk.0 walk.1 walk.2

pub Joined-below : (n : ℕ) (e : List Flow) → IsFlowSet n e → (i j : ℕ) → Joined e i j → (i < n) × (j < n)
Joined-below n e is_set i j walk =
    let each : (f : Flow) → IsTrue (has_either e f) → (f.from < n) × (f.to < n) =
    λ f here. elim (or_cases (has e f) (has e (reverse_of f)) here) [
      | inl forth ↦ ((is_set.flows f forth).0, (is_set.flows f forth).1)
      | inr back ↦ ((is_set.flows (reverse_of f) back).1, (is_set.flows (reverse_of f) back).0)
    ] in
    walk_ends (has_either e) (λ h. h < n) (λ h. h < n) each i j walk.0 walk.1 walk.2

-- ---- the empty set

pub Reaches-none : (i j : ℕ) → Reaches [] i j → ⊥
Reaches-none i j walk = false≢true walk.2.0

pub Joined-none : (i j : ℕ) → Joined [] i j → ⊥
Joined-none i j walk = false≢true walk.2.0

pub ReachesAtMost-none : (i limit : ℕ) → ReachesAtMost [] i limit
ReachesAtMost-none i limit [] are = omega arith
ReachesAtMost-none i limit (h ∷ hosts) are = absurd (Reaches-none i h (are.reached 0 h (omega arith)))

-- ---- one flow

pub reaches_over : (e : List Flow) (f : Flow) → IsTrue (has e f) → Reaches e f.from f.to
reaches_over e f here = (f, [], (here, refl, refl))

pub joined_over : (e : List Flow) (f : Flow) → IsTrue (has e f) → Joined e f.from f.to
joined_over e f here = (f, [], (or_left _ _ here, refl, refl))

pub Reaches-one : (f : Flow) (i j : ℕ) → Reaches (f ∷ []) i j → (i ≡ f.from) × (j ≡ f.to)
Reaches-one f i j walk =
    let one : (g : Flow) → IsTrue (has (f ∷ []) g) → f ≡ g =
    λ g h. elim (or_cases (same_flow f g) false h) [ inl same ↦ same_flow-true f g same | inr none ↦ absurd (false≢true none) ] in
    walk_ends (has (f ∷ [])) (λ h. h ≡ f.from) (λ h. h ≡ f.to)
    (λ g h. (sym (ap (λ (x : Flow). x.from) (one g h)), sym (ap (λ (x : Flow). x.to) (one g h)))) i j walk.0 walk.1 walk.2

-- One of the two hosts of the flow.
abbrev pub IsEnd : Flow → ℕ → Type 0
IsEnd f h = (h ≡ f.from) ⊎ (h ≡ f.to)

pub Joined-one : (f : Flow) (i j : ℕ) → Joined (f ∷ []) i j → IsEnd f i × IsEnd f j
Joined-one f i j walk =
    let one : (g : Flow) → IsTrue (has (f ∷ []) g) → f ≡ g =
    λ g h. elim (or_cases (same_flow f g) false h) [ inl same ↦ same_flow-true f g same | inr none ↦ absurd (false≢true none) ] in
    let ends : (g : Flow) → IsTrue (has_either (f ∷ []) g) → IsEnd f g.from × IsEnd f g.to =
    λ g h. elim (or_cases (has (f ∷ []) g) (has (f ∷ []) (reverse_of g)) h) [
      | inl forth ↦ (inl (sym (ap (λ (x : Flow). x.from) (one g forth))), inr (sym (ap (λ (x : Flow). x.to) (one g forth))))
      | inr back ↦ (inr (sym (ap (λ (x : Flow). x.to) (one (reverse_of g) back))), inl (sym (ap (λ (x : Flow). x.from) (one (reverse_of g) back))))
    ] in
    walk_ends (has_either (f ∷ [])) (IsEnd f) (IsEnd f) ends i j walk.0 walk.1 walk.2

-- ---- both directions

has_either-back : (e : List Flow) (f : Flow) → IsTrue (has_either e f) → IsTrue (has_either e (reverse_of f))
has_either-back e f shown =
    elim (or_cases (has e f) (has e (reverse_of f)) shown) [
      | inl forth ↦ or_right _ _ forth
      | inr back ↦ or_left _ _ back
    ]

turned : (e : List Flow) (i j : ℕ) (fs : List Flow) → LeadsTo (has_either e) i j fs → HasPath (has_either e) j i
turned e i j [] here = ([], sym here)
turned e i j (f ∷ fs) walk =
    let rest = turned e f.to j fs walk.2 in
    (rest.0 ++ reverse_of f ∷ [], LeadsTo-append (has_either e) j f.to i rest.0 (reverse_of f ∷ []) rest.1 (has_either-back e f walk.0, refl, walk.1))

-- Being joined is symmetric.
pub Joined-back : (e : List Flow) (i j : ℕ) → Joined e i j → Joined e j i
Joined-back e i j (f, fs, walk) =
    walk_over (has_either e) (reverse_of f) (has_either-back e f walk.0) j i (turned e f.to j fs walk.2) ([], walk.1)

-- ---- the number of other hosts

pub ReachesExactly-at_most : (e : List Flow) (i count limit : ℕ) → ReachesExactly e i count → (count ≤ limit) ↔ ReachesAtMost e i limit
ReachesExactly-at_most e i count limit exactly = (
  λ below hosts are. let few = exactly.most hosts are in omega arith,
  λ most. let few = most exactly.hosts exactly.reached in omega (arith, exactly.counted),
)

-- A sender reaches some other host.
pub sender_reaches : (e : List Flow) (f : Flow) → IsTrue (has e f) → f.from ≢ f.to → ReachesAtMost e f.from 0 → ⊥
sender_reaches e f here apart none =
    let few : 1 ≤ 0 =
    none (f.to ∷ []) (record {
      different = λ i j d before below. absurd (omega arith);
      others = All-cons (λ j. j ≢ f.from) f.to [] (λ same. apart (sym same)) (All-nil (λ j. j ≢ f.from));
      reached = All-cons (Reaches e f.from) f.to [] (reaches_over e f here) (All-nil (Reaches e f.from));
    }) in
    omega arith

-- Along a single flow only its sender reaches another host.
pub ReachesAtMost-one : (f : Flow) (i limit : ℕ) → (i ≡ f.from → 0 < limit) → ReachesAtMost (f ∷ []) i limit
ReachesAtMost-one f i limit allows [] are = omega arith
ReachesAtMost-one f i limit allows (h ∷ []) are = allows (Reaches-one f i h (are.reached 0 h (omega arith))).0
ReachesAtMost-one f i limit allows (h ∷ k ∷ hosts) are =
    absurd (are.different 0 1 h (omega arith) (omega arith) ((Reaches-one f i h (are.reached 0 h (omega arith))).1 ∙ sym (Reaches-one f i k (are.reached 1 h (omega arith))).1))

-- ---- one more flow

-- Hosts that are joined with one more flow were joined before, or its receiver is on a walk between them.
pub joined_through : (e : List Flow) (g : Flow) (i j : ℕ) → Joined (with_flow e g) i j
    → Joined e i j ⊎ (HasPath (has_either (with_flow e g)) i g.to × HasPath (has_either (with_flow e g)) g.to j)
joined_through e g i j (f, fs, walk) =
    let further : (h : Flow) → IsTrue (has_either (with_flow e g) h) → IsTrue (has_either e h) ⊎ ((h.from ≡ g.to) ⊎ (h.to ≡ g.to)) =
    λ h shown. elim (or_cases (has (with_flow e g) h) (has (with_flow e g) (reverse_of h)) shown) [
      | inl forth ↦ elim (or_cases (same_flow g h) (has e h) (sym (has-with_flow e g h) ∙ forth)) [
        | inl same ↦ inr (inr (sym (ap (λ (x : Flow). x.to) (same_flow-true g h same))))
        | inr there ↦ inl (or_left _ _ there)
      ]
      | inr back ↦ elim (or_cases (same_flow g (reverse_of h)) (has e (reverse_of h)) (sym (has-with_flow e g (reverse_of h)) ∙ back)) [
        | inl same ↦ inr (inl (sym (ap (λ (x : Flow). x.to) (same_flow-true g (reverse_of h) same))))
        | inr there ↦ inl (or_right _ _ there)
      ]
    ] in
    elim (path_touch (has_either e) (has_either (with_flow e g)) g.to further i j (f ∷ fs) walk) [
      | inl stays ↦ inl (f, fs, stays)
      | inr parts ↦ inr parts
    ]

-- A host that is reached with one more flow was reached before, or is reached through this flow.
pub Reaches-cut : (e : List Flow) (g : Flow) (i j : ℕ) → Reaches (with_flow e g) i j
    → Reaches e i j ⊎ (HasPath (has e) i g.from × HasPath (has e) g.to j)
Reaches-cut e g i j walk =
    walk_cut (has e) g i j (HasWalk-weaker (has (with_flow e g)) _ (λ f passes. sym (has-with_flow e g f) ∙ passes) i j walk)

pub Reaches-more : (e : List Flow) (g : Flow) (i j : ℕ) → Reaches e i j → Reaches (with_flow e g) i j
Reaches-more e g = Reaches-within e (with_flow e g) (λ f here. has-with_flow e g f ∙ or_right (same_flow g f) (has e f) here)

-- A path to its sender and a path from its receiver form a walk with the flow.
pub Reaches-over : (e : List Flow) (g : Flow) (i j : ℕ) → HasPath (has e) i g.from → HasPath (has e) g.to j → Reaches (with_flow e g) i j
Reaches-over e g i j before after =
    let more : (k l : ℕ) → HasPath (has e) k l → HasPath (has (with_flow e g)) k l =
    HasPath-weaker (has e) (has (with_flow e g)) (λ f here. has-with_flow e g f ∙ or_right (same_flow g f) (has e f) here) in
    walk_over (has (with_flow e g)) g (has-with_flow e g g ∙ or_left _ _ (same_flow_self g)) i j (more i g.from before) (more g.to j after)

-- A flow whose receiver is already reached by its sender lets no host reach anything new.
pub Reaches-nothing_new : (e : List Flow) (g : Flow) → Reaches e g.from g.to → (i j : ℕ) → Reaches (with_flow e g) i j → Reaches e i j
Reaches-nothing_new e g there i j walk =
    elim (Reaches-cut e g i j walk) [
      | inl before ↦ before
      | inr parts ↦ walk_within (has e) i g.from g.to j parts.0 there parts.1
    ]

-- A host that reaches no more hosts than before is within the same limit.
pub ReachesAtMost-as_before : (s e : List Flow) (i limit : ℕ) → ((j : ℕ) → Reaches s i j → Reaches e i j) → ReachesAtMost e i limit
    → ReachesAtMost s i limit
ReachesAtMost-as_before s e i limit before most hosts are =
    most hosts (record { different = are.different; others = are.others; reached = λ k d below. before _ (are.reached k d below) })

regroup : (a b c d : Bool) → (c || (a || (b || d))) ≡ ((a || b) || (c || d))
regroup true b true d = refl
regroup true b false d = refl
regroup false true true d = refl
regroup false true false d = refl
regroup false false c d = refl

pub has_either-with_flow : (fs : List Flow) (g f : Flow)
    → (same_flow (reverse_of g) f || (same_flow g f || has_either fs f)) ≡ has_either (with_flow fs g) f
has_either-with_flow fs g f =
    ap (λ b. b || (same_flow g f || has_either fs f)) (same_flow_back g f)
    ∙ regroup (same_flow g f) (has fs f) (same_flow g (reverse_of f)) (has fs (reverse_of f))
    ∙ sym (λ i. has-with_flow fs g f i || has-with_flow fs g (reverse_of f) i)

-- A flow between hosts that are joined already joins nothing new.
pub Joined-nothing_new : (e : List Flow) (g : Flow) → Joined e g.from g.to → (i j : ℕ) → Joined (with_flow e g) i j → Joined e i j
Joined-nothing_new e g there i j walk =
    let one_way : Flow → Bool = λ f. same_flow g f || has_either e f in
    let back : HasWalk one_way g.to g.from =
    HasWalk-weaker (has_either e) one_way (λ f. or_right (same_flow g f) (has_either e f)) g.to g.from (Joined-back e g.from g.to there) in
    walk_without (has_either e) g there i j
    (walk_without one_way (reverse_of g) back i j
    (HasWalk-weaker (has_either (with_flow e g)) _ (λ f passes. has_either-with_flow e g f ∙ passes) i j walk))

-- ---- hosts that are joined by one more flow

-- Host i is one of the two hosts of the flow, or joined with one of them.
abbrev pub Touches : List Flow → Flow → ℕ → Type 0
Touches e g i = HasPath (has_either e) i g.from ⊎ HasPath (has_either e) i g.to

-- The flow joins no host with a host that it does not touch.
pub Joined-untouched : (e : List Flow) (g : Flow) (i j : ℕ) → (Touches e g i → ⊥) → Joined (with_flow e g) i j → Joined e i j
Joined-untouched e g i j apart walk =
    let one_way : Flow → Bool = λ f. same_flow g f || has_either e f in
    let never : HasPath one_way i g.to → ⊥ =
    λ path. elim (cases_path one_way i g.to path) [
      | inl same ↦ apart (inr ([], same))
      | inr walks ↦ apart (inr (path_of_walk (has_either e) i g.to (walk_elsewhere (has_either e) g i g.to (λ p. apart (inl p)) walks)))
    ] in
    walk_elsewhere (has_either e) g i j (λ p. apart (inl p))
    (walk_elsewhere one_way (reverse_of g) i j never
    (HasWalk-weaker (has_either (with_flow e g)) _ (λ f passes. has_either-with_flow e g f ∙ passes) i j walk))

path_turned : (e : List Flow) (i j : ℕ) → HasPath (has_either e) i j → HasPath (has_either e) j i
path_turned e i j path =
    elim (cases_path (has_either e) i j path) [
      | inl same ↦ ([], sym same)
      | inr walk ↦ path_of_walk (has_either e) j i (Joined-back e i j walk)
    ]

-- A new flow joins all hosts that it touches.
pub Joined-touching : (e : List Flow) (g : Flow) (i j : ℕ) → Touches e g i → Touches e g j → Joined (with_flow e g) i j
Joined-touching e g i j first second =
    let s : List Flow = with_flow e g in
    let there : Joined s g.from g.to = joined_over s g (has-with_flow e g g ∙ or_left _ _ (same_flow_self g)) in
    let back : Joined s g.to g.from = Joined-back s g.from g.to there in
    let more : (k l : ℕ) → HasPath (has_either e) k l → HasPath (has_either s) k l =
    HasPath-weaker (has_either e) (has_either s) (has_either-within e s (λ h here. has-with_flow e g h ∙ or_right (same_flow g h) (has e h) here)) in
    let via : (k l : ℕ) → HasPath (has_either e) i k → Joined s k l → HasPath (has_either e) j l → Joined s i j =
    λ k l before walk after. walk_within (has_either s) i k l j (more i k before) walk (more l j (path_turned e j l after)) in
    elim first [
      | inl p ↦ elim second [
        | inl q ↦ via g.from g.from p (HasWalk-append (has_either s) g.from g.to g.from there back) q
        | inr q ↦ via g.from g.to p there q
      ]
      | inr p ↦ elim second [
        | inl q ↦ via g.to g.from p back q
        | inr q ↦ via g.to g.to p (HasWalk-append (has_either s) g.to g.from g.to back there) q
      ]
    ]

-- A host that is joined with its sender is touched.
pub touched_of : (e : List Flow) (g : Flow) (i : ℕ) → Joined (with_flow e g) g.from i → Touches e g i
touched_of e g i joined =
    let one_way : Flow → Bool = λ f. same_flow g f || has_either e f in
    let path : HasPath one_way g.from i =
    elim (walk_cut one_way (reverse_of g) g.from i (HasWalk-weaker (has_either (with_flow e g)) _ (λ f passes. has_either-with_flow e g f ∙ passes) g.from i joined)) [
      | inl walk ↦ path_of_walk one_way g.from i walk
      | inr parts ↦ parts.1
    ] in
    elim (path_cut (has_either e) g g.from i path.0 path.1) [
      | inl stays ↦ inl (path_turned e g.from i (path.0, stays))
      | inr parts ↦ inr (path_turned e g.to i parts.1)
    ]

pub Touches-joined : (e : List Flow) (g : Flow) (i : ℕ) → Touches e g i ↔ Joined (with_flow e g) g.from i
Touches-joined e g i = (Joined-touching e g g.from i (inl ([], refl)), touched_of e g i)

lead_in : (test : Flow → Bool) (j i k : ℕ) → HasWalk test j i → HasPath test i k → HasPath test j k
lead_in test j i k (f, fs, walk) (gs, rest) = ((f ∷ fs) ++ gs, LeadsTo-append test j i k (f ∷ fs) gs walk rest)

touches_on : (e : List Flow) (g : Flow) (i j : ℕ) → Joined e j i → Touches e g i → Touches e g j
touches_on e g i j walk (inl path) = inl (lead_in (has_either e) j i g.from walk path)
touches_on e g i j walk (inr path) = inr (lead_in (has_either e) j i g.to walk path)

pub Joined-with_flow : (e : List Flow) (g : Flow) (i j : ℕ) (was first second : Bool) → (IsTrue was ↔ Joined e i j)
    → (IsTrue first ↔ Touches e g i) → (IsTrue second ↔ Touches e g j)
    → IsTrue (was || (first && second)) ↔ Joined (with_flow e g) i j
Joined-with_flow e g i j was first second tells at_i at_j =
    let untouched : IsFalse second → Touches e g j → ⊥ = λ apart touches. both_ways second apart (at_j.1 touches) in
    let stays : IsFalse second → Joined (with_flow e g) i j → Joined e j i =
    λ apart walk. Joined-untouched e g j i (untouched apart) (Joined-back (with_flow e g) i j walk) in (
      λ shown. elim (or_cases was (first && second) shown) [
        | inl already ↦ Joined-within e (with_flow e g) (λ h here. has-with_flow e g h ∙ or_right (same_flow g h) (has e h) here) i j (tells.0 already)
        | inr both ↦
            let parts = and_parts first second both in
            Joined-touching e g i j (at_i.0 parts.0) (at_j.0 parts.1)
      ],
      λ walk. elim (cases_Bool first) [
        | inr apart ↦ or_left was _ (tells.1 (Joined-untouched e g i j (λ touches. both_ways first apart (at_i.1 touches)) walk))
        | inl touches ↦ elim (cases_Bool second) [
          | inl both ↦ or_right was _ (and_from first second touches both)
          | inr apart ↦ absurd (untouched apart (touches_on e g i j (stays apart walk) (at_i.0 touches)))
        ]
      ],
    )
