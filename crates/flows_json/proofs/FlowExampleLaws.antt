-- Laws of flows: what rules let pass is determined, but for the examples.
use Rattle.std.proofs.Common.{◌≡◌, inl, inr, ℕ, ◌<◌, ◌==◌, suc, Bool, true, false, List, [], ◌∷◌, ◌++◌, length, map, Option, Some, None, refl, sym, ap, subst, ◌∙◌, arith}
use Rattle.std.specs.Prelude.{IsTrue}
use Rattle.std.specs.List.{All}
use Rattle.std.proofs.lemmas.Bool.{and_parts, eqb-true, or_cases, or_left, or_right, eq-eqb, and_from}
use Rattle.std.proofs.lemmas.List.{map-append}
use Rattle.header_space.specs.Owners.{IsOfPair, owners_of}
use Rattle.host_net.specs.Host.{Host}
use Rattle.host_net.specs.declared.packet.Packet.{Packet}
use Rattle.ipt_rules.specs.declared.marks.Place.{Place}
use Rattle.rules_space.specs.Rules.{AnyRules}
use Rattle.pass_core.specs.Dead.{AreAscending, ComesBefore, ComesFirst, is_listed, same_place}
use Rattle.pass_core.specs.NewPackets.{LetsPass}
use Rattle.pass_core.specs.Pairs.{AreListedByOwners, AreListedFor, IsEntryOf, IsListedFor}
use Rattle.pass_core.specs.Passing.{ArePassing}
use Rattle.pass_core.specs.declared.pairs.PairServices.{PairServices}
use Rattle.pass_core.specs.declared.passing_range.PassingRange.{PassingRange}
use Rattle.decide_core.specs.Deciders.{AreDeciders, DecidesOne, PassesAmong}
use Rattle.decide_core.specs.Flows.{AreFlows, AreFlowsOf, AreFlowsOfEach, IsOfRange}
use Rattle.decide_core.specs.declared.deciders.Deciders.{Deciders}
use Rattle.decide_core.specs.declared.flows.FlowRange.{FlowRange}
use Rattle.decide_core.specs.declared.flows.PairFlows.{PairFlows}
use Rattle.flows_json.specs.WithoutExamples.{flow_range_without_examples, pair_without_examples}
use Rattle.range_json.specs.WithoutExamples.{range_without_examples}
use Rattle.range_json.proofs.RangeExampleLaws.{ranges_are_alike}

-- ---- ascending lists of places

same_is : (p q : Place) → same_place p q ≡ true → p ≡ q
same_is p q same =
    let parts = and_parts (p.chain == q.chain) (p.rule == q.rule) same in
    let chains = eqb-true p.chain q.chain parts.0 in
    let rules = eqb-true p.rule q.rule parts.1 in
    λ i. record { chain = chains i; rule = rules i }

itself : (p : Place) → same_place p p ≡ true
itself p = and_from (p.chain == p.chain) (p.rule == p.rule) (eq-eqb p.chain p.chain refl) (eq-eqb p.rule p.rule refl)

later_than : (p q r : Place) → ComesBefore p q → ComesBefore q r → ComesBefore p r
later_than p q r (inl low) (inl high) = inl (omega (arith, low, high))
later_than p q r (inl low) (inr (same, high)) = inl (omega (arith, low, same))
later_than p q r (inr (same, low)) (inl high) = inl (omega (arith, same, high))
later_than p q r (inr (same, low)) (inr (also, high)) = inr (same ∙ also, omega (arith, low, high))

not_both : (p q : Place) → ComesBefore p q → ComesBefore q p → ⊥
not_both p q (inl low) (inl high) = omega (arith, low, high)
not_both p q (inl low) (inr (same, high)) = omega (arith, low, same)
not_both p q (inr (same, low)) (inl high) = omega (arith, same, high)
not_both p q (inr (same, low)) (inr (also, high)) = omega (arith, low, high)

comes_after : (p : Place) (ps : List Place) → ComesFirst p ps → AreAscending ps → (x : Place) → is_listed ps x ≡ true → ComesBefore p x
comes_after p [] first rises x there = cc there
comes_after p (q ∷ qs) first rises x there = elim (or_cases (same_place q x) (is_listed qs x) there) [
  | inl same ↦ subst (ComesBefore p) (same_is q x same) first
  | inr later ↦ later_than p q x first (comes_after q qs rises.0 rises.1 x later)
]

-- The first place of one list is not before that of the other.
heads_same : (p q : Place) (ps qs : List Place) → AreAscending (p ∷ ps) → AreAscending (q ∷ qs) → is_listed (q ∷ qs) p ≡ true → is_listed (p ∷ ps) q ≡ true → p ≡ q
heads_same p q ps qs one other here there = elim (or_cases (same_place q p) (is_listed qs p) here) [
  | inl same ↦ sym (same_is q p same)
  | inr later ↦ elim (or_cases (same_place p q) (is_listed ps q) there) [
    | inl same ↦ same_is p q same
    | inr also ↦ absurd (not_both p q (comes_after p ps one.0 one.1 q also) (comes_after q qs other.0 other.1 p later))
  ]
]

tail_in : (p q : Place) (ps qs : List Place) → AreAscending (p ∷ ps) → p ≡ q → ((x : Place) → is_listed (p ∷ ps) x ≡ is_listed (q ∷ qs) x) → (x : Place)
    → is_listed ps x ≡ true → is_listed qs x ≡ true
tail_in p q ps qs rises heads same x there = elim (or_cases (same_place q x) (is_listed qs x) (sym (same x) ∙ or_right (same_place p x) (is_listed ps x) there)) [
  | inl here ↦
      let at : p ≡ x = heads ∙ same_is q x here in
      absurd (never (subst (ComesBefore p) (sym at) (comes_after p ps rises.0 rises.1 x there)))
  | inr later ↦ later
]
  where
    never : ComesBefore p p → ⊥
    never both = not_both p p both both

pub places_are_one : (ps qs : List Place) → AreAscending ps → AreAscending qs → ((x : Place) → is_listed ps x ≡ is_listed qs x) → ps ≡ qs
places_are_one [] [] one other same = refl
places_are_one [] (q ∷ qs) one other same = let no : false ≡ true = same q ∙ or_left (same_place q q) (is_listed qs q) (itself q) in cc no
places_are_one (p ∷ ps) [] one other same = let no : false ≡ true = sym (same p) ∙ or_left (same_place p p) (is_listed ps p) (itself p) in cc no
places_are_one (p ∷ ps) (q ∷ qs) one other same =
    let heads : p ≡ q =
    heads_same p q ps qs one other (sym (same p) ∙ or_left (same_place p p) (is_listed ps p) (itself p))
    (same q ∙ or_left (same_place q q) (is_listed qs q) (itself q)) in
    let rest : ps ≡ qs =
    places_are_one ps qs one.1 other.1
    (λ x. both_imply (is_listed ps x) (is_listed qs x) (tail_in p q ps qs one heads same x)
    (tail_in q p qs ps other (sym heads) (λ y. sym (same y)) x)) in
    λ i. heads i ∷ rest i
  where
    both_imply : (a b : Bool) → (a ≡ true → b ≡ true) → (b ≡ true → a ≡ true) → a ≡ b
    both_imply true b there back = sym (there refl)
    both_imply false true there back = back refl
    both_imply false false there back = refl

-- ---- deciders

pub both_bools : (a b : Bool) → (IsTrue a → IsTrue b) → (IsTrue b → IsTrue a) → a ≡ b
both_bools true b there back = sym (there refl)
both_bools false true there back = back refl
both_bools false false there back = refl

module _ (rules : AnyRules) (Among Others : Packet → Type 0) (into : (p : Packet) → Among p → Others p) where
  also_decides : (decider : Option Place) → DecidesOne rules (PassesAmong rules Among) decider → DecidesOne rules (PassesAmong rules Others) decider
  also_decides decider one = record { packet = one.packet; among = (into one.packet one.among.0, one.among.1); decides = one.decides }

module _ (rules : AnyRules) (Among Others : Packet → Type 0) (into : (p : Packet) → Among p → Others p) (back : (p : Packet) → Others p → Among p)
    (d e : Deciders) (one : AreDeciders rules Among d) (other : AreDeciders rules Others e) where
  places_alike : d.places.items ≡ e.places.items
  places_alike = places_are_one d.places.items e.places.items one.ascending other.ascending
      (λ x. both_bools (is_listed d.places.items x) (is_listed e.places.items x)
      (λ there. (other.exact x).1 (also_decides rules Among Others into (Some x) ((one.exact x).0 there)))
      (λ there. (one.exact x).1 (also_decides rules Others Among back (Some x) ((other.exact x).0 there))))

  defaults_alike : d.by_default ≡ e.by_default
  defaults_alike = both_bools d.by_default e.by_default
      (λ there. other.by_default.1 (also_decides rules Among Others into None (one.by_default.0 there)))
      (λ there. one.by_default.1 (also_decides rules Others Among back None (other.by_default.0 there)))

pub of_range_too : (hosts : List Host) (from to from' to' : Option ℕ) (r s : PassingRange) → from ≡ from' → to ≡ to' → r.low ≡ s.low → r.high ≡ s.high → (p : Packet)
    → IsOfRange hosts from to r p → IsOfRange hosts from' to' s p
of_range_too hosts from to from' to' r s sources ends lows highs p is =
    let low = is.low in
    let high = is.high in
    record {
      pair = subst (λ (o : Option ℕ). IsOfPair hosts from' o p) ends (subst (λ (o : Option ℕ). IsOfPair hosts o to p) sources is.pair);
      low = omega (arith, low, lows);
      high = omega (arith, high, highs);
    }

-- ---- the ranges of a pair

-- The deciders of each range.
abbrev HaveDeciders : AnyRules → List Host → (from to : Option ℕ) → List FlowRange → Type 0
HaveDeciders rules hosts from to rs = All (λ r. AreDeciders rules (IsOfRange hosts from to r.range) r.deciders) rs

ranges_alike : (rules : AnyRules) (hosts : List Host) (from to from' to' : Option ℕ) → from ≡ from' → to ≡ to' → (rs qs : List FlowRange)
    → map range_without_examples (map (λ r. r.range) rs) ≡ map range_without_examples (map (λ r. r.range) qs)
    → HaveDeciders rules hosts from to rs → HaveDeciders rules hosts from' to' qs → map flow_range_without_examples rs ≡ map flow_range_without_examples qs
ranges_alike rules hosts from to from' to' sources ends [] [] same one other = refl
ranges_alike rules hosts from to from' to' sources ends [] (q ∷ qs) same one other = cc same
ranges_alike rules hosts from to from' to' sources ends (r ∷ rs) [] same one other = cc same
ranges_alike rules hosts from to from' to' sources ends (r ∷ rs) (q ∷ qs) same one other =
    let facts : range_without_examples r.range ≡ range_without_examples q.range = cc same in
    let rest : map range_without_examples (map (λ x. x.range) rs) ≡ map range_without_examples (map (λ x. x.range) qs) = cc same in
    let lows : r.range.low ≡ q.range.low = ap (λ (x : ℕ × ℕ × Bool). x.0) facts in
    let highs : r.range.high ≡ q.range.high = ap (λ (x : ℕ × ℕ × Bool). x.1) facts in
    let into = of_range_too hosts from to from' to' r.range q.range sources ends lows highs in
    let back = of_range_too hosts from' to' from to q.range r.range (sym sources) (sym ends) (sym lows) (sym highs) in
    let first = one 0 r (omega arith) in
    let second = other 0 q (omega arith) in
    let places = places_alike rules (IsOfRange hosts from to r.range) (IsOfRange hosts from' to' q.range) into back r.deciders q.deciders first second in
    let defaults = defaults_alike rules (IsOfRange hosts from to r.range) (IsOfRange hosts from' to' q.range) into back r.deciders q.deciders first second in
    let later = ranges_alike rules hosts from to from' to' sources ends rs qs rest (λ k d low. one (suc k) d (omega (arith, low))) (λ k d low. other (suc k) d (omega (arith, low))) in
    λ i. (facts i, places i, defaults i) ∷ later i

-- ---- the services of all pairs

abbrev pub service_facts : PairServices → Option ℕ × Option ℕ × List (ℕ × ℕ × Bool)
service_facts s = (s.from, s.to, map range_without_examples s.ranges.items)

lists_alike : {X : Type 0} (Listed : X → List PairServices → Type 0)
    → ((x : X) (ys zs : List PairServices) → Listed x ys → Listed x zs → map service_facts ys ≡ map service_facts zs)
    → (xs : List X) (ss ts : List PairServices) → AreListedFor Listed xs ss → AreListedFor Listed xs ts → map service_facts ss ≡ map service_facts ts
lists_alike Listed alike [] ss ts one other = ap (map service_facts) (one ∙ sym other)
lists_alike Listed alike (x ∷ xs) ss ts one other =
    let first = alike x one.0 other.0 one.3 other.3 in
    let rest = lists_alike Listed alike xs one.1 other.1 one.4 other.4 in
    ap (map service_facts) one.2
    ∙ map-append service_facts one.0 one.1
    ∙ (λ i. first i ++ rest i)
    ∙ sym (map-append service_facts other.0 other.1)
    ∙ sym (ap (map service_facts) other.2)

module _ (Holds Between : Packet → Type 0) where
  some_passes : (rs : List PassingRange) → 0 < length rs → ArePassing Holds Between rs → (p : Packet) × Between p × Holds p
  some_passes [] some are = absurd (omega (arith, some))
  some_passes (r ∷ rs) some are = let shown = (are.shown 0 r (omega arith)).passes in (r.passes, shown.between, shown.decided.0 refl)

  is_none : (from to : Option ℕ) (s : PairServices) → IsListedFor Holds Between from to [] → IsEntryOf Holds Between from to s → ⊥
  is_none from to s none is = let some = some_passes s.ranges.items is.some is.passing in none some.0 some.1 some.2

  one_alike : (from to : Option ℕ) (ss ts : List PairServices) → IsListedFor Holds Between from to ss → IsListedFor Holds Between from to ts
      → map service_facts ss ≡ map service_facts ts
  one_alike from to [] [] one other = refl
  one_alike from to [] (t ∷ []) none is = absurd (is_none from to t none is)
  one_alike from to (s ∷ []) [] is none = absurd (is_none from to s none is)
  one_alike from to (s ∷ []) (t ∷ []) one other =
      let sources : s.from ≡ t.from = one.source ∙ sym other.source in
      let ends : s.to ≡ t.to = one.destination ∙ sym other.destination in
      let ranges = ranges_are_alike Holds Between s.ranges.items t.ranges.items one.passing other.passing in
      λ i. (sources i, ends i, ranges i) ∷ []
  one_alike from to [] (s ∷ t ∷ ts) one other = absurd other
  one_alike from to (r ∷ []) (s ∷ t ∷ ts) one other = absurd other
  one_alike from to (r ∷ s ∷ ss) ts one other = absurd one

pub services_alike : (Holds : Packet → Type 0) (hosts : List Host) (ss ts : List PairServices) → AreListedByOwners Holds hosts ss → AreListedByOwners Holds hosts ts
    → map service_facts ss ≡ map service_facts ts
services_alike Holds hosts ss ts one other =
    lists_alike (λ from. AreListedFor (λ to. IsListedFor Holds (IsOfPair hosts from to) from to) (owners_of hosts))
    (λ from ys zs. lists_alike (λ to. IsListedFor Holds (IsOfPair hosts from to) from to) (λ to. one_alike Holds (IsOfPair hosts from to) from to) (owners_of hosts) ys zs)
    (owners_of hosts) ss ts one other

-- ---- the flows of all pairs

pair_alike : (rules : AnyRules) (hosts : List Host) (s t : PairServices) (f g : PairFlows) → service_facts s ≡ service_facts t → AreFlowsOf rules hosts s f
    → AreFlowsOf rules hosts t g → pair_without_examples f ≡ pair_without_examples g
pair_alike rules hosts s t f g same one other =
    let sources : f.from ≡ g.from = one.source ∙ ap (λ (x : Option ℕ × Option ℕ × List (ℕ × ℕ × Bool)). x.0) same ∙ sym other.source in
    let ends : f.to ≡ g.to = one.destination ∙ ap (λ (x : Option ℕ × Option ℕ × List (ℕ × ℕ × Bool)). x.1) same ∙ sym other.destination in
    let ranges = ap (map range_without_examples) one.ranges ∙ ap (λ (x : Option ℕ × Option ℕ × List (ℕ × ℕ × Bool)). x.2) same ∙ sym (ap (map range_without_examples) other.ranges) in
    let all = ranges_alike rules hosts f.from f.to g.from g.to sources ends f.ranges.items g.ranges.items ranges one.deciders other.deciders in
    λ i. (sources i, ends i, all i)

each_alike : (rules : AnyRules) (hosts : List Host) (ss ts : List PairServices) (fs gs : List PairFlows) → map service_facts ss ≡ map service_facts ts
    → AreFlowsOfEach rules hosts ss fs → AreFlowsOfEach rules hosts ts gs → map pair_without_examples fs ≡ map pair_without_examples gs
each_alike rules hosts [] [] [] [] same one other = refl
each_alike rules hosts [] ts (f ∷ fs) gs same one other = absurd one
each_alike rules hosts (s ∷ ss) ts [] gs same one other = absurd one
each_alike rules hosts [] [] [] (g ∷ gs) same one other = absurd other
each_alike rules hosts [] (t ∷ ts) [] gs same one other = cc same
each_alike rules hosts (s ∷ ss) [] (f ∷ fs) gs same one other = cc same
each_alike rules hosts (s ∷ ss) (t ∷ ts) (f ∷ fs) [] same one other = absurd other
each_alike rules hosts (s ∷ ss) (t ∷ ts) (f ∷ fs) (g ∷ gs) same one other =
    let facts : service_facts s ≡ service_facts t = cc same in
    let rest : map service_facts ss ≡ map service_facts ts = cc same in
    let first = pair_alike rules hosts s t f g facts one.0 other.0 in
    let later = each_alike rules hosts ss ts fs gs rest one.1 other.1 in
    λ i. first i ∷ later i

-- Two lists of all flows are alike.
pub flows_are_alike : (rules : AnyRules) (hosts : List Host) (fs gs : List PairFlows) → AreFlows rules hosts fs → AreFlows rules hosts gs
    → map pair_without_examples fs ≡ map pair_without_examples gs
flows_are_alike rules hosts fs gs one other =
    each_alike rules hosts one.services other.services fs gs (services_alike (LetsPass rules) hosts one.services other.services one.listed other.listed)
    one.each other.each
