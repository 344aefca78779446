-- Lists of differences for cases, in order of the cases, and their consequences.
use Rattle.std.proofs.Common.{◌≡◌, ◌⊎◌, inl, inr, ℕ, zero, suc, ◌+◌, ◌<◌, Bool, true, false, List, [], ◌∷◌, ◌++◌, Option, Some, None, length, map, refl, sym, ap, subst, ◌∙◌, arith, append_assoc, append-nil}
use Rattle.std.specs.List.{AllByRecursion, Contains, flat_map}
use Rattle.std.proofs.lemmas.List.Elements.{Contains-append_right}
use Rattle.host_net.specs.declared.packet.Packet.{Packet}
use Rattle.host_net.specs.Host.{Host, owner_of}
use Rattle.header_space.specs.declared.owners.Owned.{Owned}
use Rattle.audit_core.specs.declared.difference.Difference.{Difference}
use Rattle.audit_core.specs.declared.kind.Kind.{Kind}
use Rattle.audit_core.specs.declared.kind.Kind.TheVariants.{Alone, AfterSwap, AfterBoth}
use Rattle.audit_core.specs.inner.Pairs.{AreAdded, AreSame}
use Rattle.header_space.specs.Owners.{IsOfPair, owners_from, owners_of}
use Rattle.audit_core.specs.Pairs.{AreDifferences, AreListedFor, Case, DiffersAt, HasDifference, IsComplete, IsDifference, IsListedFor, all_cases, case_of, cases_between}
use Rattle.audit_core.specs.Findings.{trace_of}
use Rattle.audit_core.specs.Sides.{Sides}
use Rattle.audit_core.proofs.FindingOnceLaws.{ordered}
use Rattle.rules_space.proofs.ListLaws.{contains_cases, contains_first, contains_later, contains_none}
use Rattle.audit_core.proofs.OrderLemmas.{contains_within}
use Rattle.policy_space.proofs.FlowLaws.{owner_below}

module _ (sides : Sides) where
  -- 1. Concatenated lists.

  pub listed_append : (cs es : List Case) (xs ys : List Difference) → AreListedFor sides cs xs → AreListedFor sides es ys
      → AreListedFor sides (cs ++ es) (xs ++ ys)
  listed_append [] es xs ys first second = subst (λ (l : List Difference). AreListedFor sides es (l ++ ys)) (sym first) second
  listed_append (c ∷ cs) es xs ys first second = (
    first.0,
    first.1 ++ ys,
    ap (λ (l : List Difference). l ++ ys) first.2 ∙ append_assoc first.0 first.1 ys,
    first.3,
    listed_append cs es first.1 ys first.4 second,
  )

  -- The list for one case.
  pub listed_one : (c : Case) (ds : List Difference) → IsListedFor sides c ds → AreListedFor sides (c ∷ []) ds
  listed_one c ds listed = (ds, [], sym (append-nil ds), listed, refl)

  pub added_none : (cs : List Case) (old : List Difference) → AreListedFor sides cs [] → AreAdded sides cs old old
  added_none cs old listed = ([], sym (append-nil old), listed)

  pub added_then : (cs es : List Case) (a b c : List Difference) → AreAdded sides cs a b → AreAdded sides es b c → AreAdded sides (cs ++ es) a c
  added_then cs es a b c first second = (
    first.0 ++ second.0,
    second.1 ∙ ap (λ (l : List Difference). l ++ second.0) first.1 ∙ append_assoc a first.0 second.0,
    listed_append cs es first.0 second.0 first.2 second.2,
  )

  -- The lists that are appended for each case of a pair.
  pub six_added : (from to : Option ℕ) (a b c d e f g : List Difference) → AreAdded sides (case_of from to Alone true ∷ []) a b
      → AreAdded sides (case_of from to Alone false ∷ []) b c → AreAdded sides (case_of from to AfterSwap true ∷ []) c d
      → AreAdded sides (case_of from to AfterSwap false ∷ []) d e → AreAdded sides (case_of from to AfterBoth true ∷ []) e f
      → AreAdded sides (case_of from to AfterBoth false ∷ []) f g → AreAdded sides (cases_between from to) a g
  six_added from to a b c d e f g first second third fourth fifth sixth =
      let six = case_of from to AfterBoth false ∷ [] in
      let five = case_of from to AfterBoth true ∷ six in
      let four = case_of from to AfterSwap false ∷ five in
      let three = case_of from to AfterSwap true ∷ four in
      let two = case_of from to Alone false ∷ three in
      let last = added_then (case_of from to AfterBoth true ∷ []) six e f g fifth sixth in
      let later = added_then (case_of from to AfterSwap false ∷ []) five d e g fourth last in
      let middle = added_then (case_of from to AfterSwap true ∷ []) four c d g third later in
      let early = added_then (case_of from to Alone false ∷ []) three b c g second middle in
      added_then (case_of from to Alone true ∷ []) two a b g first early

  -- One step of a loop that appends the lists of all cases.
  pub added_step : (cs es all : List Case) (a b c : List Difference) → AreAdded sides cs a b → AreAdded sides es b c → cs ++ es ≡ all → AreAdded sides all a c
  added_step cs es all a b c first second is = subst (λ (l : List Case). AreAdded sides l a c) is (added_then cs es a b c first second)

  pub listed_step : (cs es all : List Case) (b c : List Difference) → AreListedFor sides cs b → AreAdded sides es b c → cs ++ es ≡ all → AreListedFor sides all c
  listed_step cs es all b c first second is =
      subst (λ (l : List Case). AreListedFor sides l c) is
      (subst (λ (l : List Difference). AreListedFor sides (cs ++ es) l) (sym second.1) (listed_append cs es b second.0 first second.2))

  -- If no case has a difference, the list is empty.
  listed_none : (cs : List Case) → AllByRecursion (λ c. IsListedFor sides c []) cs → AreListedFor sides cs []
  listed_none [] none = refl
  listed_none (c ∷ cs) none = ([], [], refl, none.0, listed_none cs none.1)

  pub listed_nothing : (from to : Option ℕ) → ((c : Case) → c.from ≡ from → c.to ≡ to → IsListedFor sides c []) → AreListedFor sides (cases_between from to) []
  listed_nothing from to none =
      listed_none (cases_between from to) (at Alone true, (at Alone false, (at AfterSwap true, (at AfterSwap false, (at AfterBoth true, (at AfterBoth false, tt))))))
    where
      at : (kind : Kind) (forwards : Bool) → IsListedFor sides (case_of from to kind forwards) []
      at kind forwards = none (case_of from to kind forwards) refl refl

  -- If no packet differs, the list is empty.
  pub listed_same : AreSame sides → (cs : List Case) → AreListedFor sides cs []
  listed_same same [] = refl
  listed_same same (c ∷ cs) =
      ([], [], refl, (λ p of differs. same p of.packet (c.kind, c.forwards, differs)), listed_same same cs)

  -- 2. The elements of a list.

  has_one : (c : Case) (one rest : List Difference) → IsListedFor sides c one → (p : Packet) → IsOfPair sides.policy.site.hosts c.from c.to p
      → DiffersAt sides c.kind p c.forwards → HasDifference (one ++ rest) c.from c.to c.kind c.forwards
  has_one c [] rest none p of differs = absurd (none p of differs)
  has_one c (d ∷ []) rest is p of differs =
      (d, contains_first d rest d refl, ap (λ (e : Difference). e.from) is.is, ap (λ (e : Difference). e.to) is.is, is.packet, ap (λ (e : Difference). e.trace) is.is)
  has_one c (d ∷ e ∷ ds) rest not p of differs = absurd not

  has_listed : (cs : List Case) (ds : List Difference) → AreListedFor sides cs ds → (c : Case) → Contains cs c → (p : Packet)
      → IsOfPair sides.policy.site.hosts c.from c.to p → DiffersAt sides c.kind p c.forwards → HasDifference ds c.from c.to c.kind c.forwards
  has_listed [] ds listed c there p of differs = absurd (contains_none c there)
  has_listed (x ∷ cs) ds listed c there p of differs = elim (contains_cases x cs c there) [
    | inl is ↦
        subst (λ (l : List Difference). HasDifference l c.from c.to c.kind c.forwards) (sym listed.2)
        (has_one c listed.0 listed.1 (subst (λ (y : Case). IsListedFor sides y listed.0) is listed.3) p of differs)
    | inr later ↦
        let has = has_listed cs listed.1 listed.4 c later p of differs in
        subst (λ (l : List Difference). HasDifference l c.from c.to c.kind c.forwards) (sym listed.2)
        (has.0, Contains-append_right listed.0 listed.1 has.0 has.1, has.2, has.3, has.4, has.5)
  ]

  -- The first difference of a list is the difference of its first case, or the list is the list for the rest.
  first_of : (one rest : List Difference) (c : Case) (d : Difference) (ds : List Difference) → IsListedFor sides c one → d ∷ ds ≡ one ++ rest
      → IsDifference sides c d ⊎ (d ∷ ds ≡ rest)
  first_of [] rest c d ds listed is = inr is
  first_of (e ∷ []) rest c d ds listed is = inl (let same : e ≡ d = cc in subst (λ (x : Difference). IsDifference sides c x) same listed)
  first_of (e ∷ f ∷ es) rest c d ds listed is = absurd listed

  pub first_is : (cs : List Case) (d : Difference) (ds : List Difference) → AreListedFor sides cs (d ∷ ds) → (c : Case) × IsDifference sides c d
  first_is [] d ds listed = let no : ⊥ = cc in absurd no
  first_is (c ∷ cs) d ds listed = elim (first_of listed.0 listed.1 c d ds listed.3 listed.2) [
    | inl is ↦ (c, is)
    | inr rest ↦ first_is cs d ds (subst (λ (l : List Difference). AreListedFor sides cs l) (sym rest) listed.4)
  ]

  -- 3. The list is unique.

  one_packet : (c : Case) (d e : Difference) → (one : IsDifference sides c d) → (other : IsDifference sides c e) → one.packet ≡ other.packet
  one_packet c d e one other = elim (ordered one.packet other.packet) [
    | inl before ↦ absurd (other.first one.packet one.of_pair before one.differs)
    | inr rest ↦ elim rest [ inl after ↦ absurd (one.first other.packet other.of_pair after other.differs) | inr same ↦ same ]
  ]

  one_listed : (c : Case) (xs ys : List Difference) → IsListedFor sides c xs → IsListedFor sides c ys → xs ≡ ys
  one_listed c [] [] one other = refl
  one_listed c [] (e ∷ []) none is = absurd (none is.packet is.of_pair is.differs)
  one_listed c (d ∷ []) [] is none = absurd (none is.packet is.of_pair is.differs)
  one_listed c (d ∷ []) (e ∷ []) one other =
      let same : d ≡ e =
      one.is ∙ (λ i. record { from = c.from; to = c.to; trace = trace_of c.kind (one_packet c d e one other i) c.forwards }) ∙ sym other.is in
      λ i. same i ∷ []
  one_listed c [] (d ∷ e ∷ ds) one other = absurd other
  one_listed c (x ∷ []) (d ∷ e ∷ ds) one other = absurd other
  one_listed c (d ∷ e ∷ ds) ys one other = absurd one

  one_list : (cs : List Case) (xs ys : List Difference) → AreListedFor sides cs xs → AreListedFor sides cs ys → xs ≡ ys
  one_list [] xs ys one other = one ∙ sym other
  one_list (c ∷ cs) xs ys one other =
      one.2 ∙ (λ i. one_listed c one.0 other.0 one.3 other.3 i ++ one_list cs one.1 other.1 one.4 other.4 i) ∙ sym other.2

  pub one_list_of_differences : (xs ys : List Difference) → AreDifferences sides xs → AreDifferences sides ys → xs ≡ ys
  one_list_of_differences xs ys one other = one_list (all_cases (owners_of sides.policy.site.hosts) (owners_of sides.policy.site.hosts)) xs ys one other

-- 4. The list covers all cases.

case_between : (from to : Option ℕ) (kind : Kind) (forwards : Bool) → Contains (cases_between from to) (case_of from to kind forwards)
case_between from to Alone true = (0, omega arith, refl)
case_between from to Alone false = (1, omega arith, refl)
case_between from to AfterSwap true = (2, omega arith, refl)
case_between from to AfterSwap false = (3, omega arith, refl)
case_between from to AfterBoth true = (4, omega arith, refl)
case_between from to AfterBoth false = (5, omega arith, refl)

case_there : (froms tos : List (Option ℕ)) (from to : Option ℕ) (kind : Kind) (forwards : Bool) → Contains froms from → Contains tos to
    → Contains (all_cases froms tos) (case_of from to kind forwards)
case_there froms tos from to kind forwards here there =
    contains_within (λ f. flat_map (λ t. cases_between f t) tos) froms from (case_of from to kind forwards) here
    (contains_within (λ t. cases_between from t) tos to (case_of from to kind forwards) there (case_between from to kind forwards))

nobody_among : (i : ℕ) (hosts : List Host) → Contains (owners_from i hosts) None
nobody_among i [] = contains_first None [] None refl
nobody_among i (h ∷ hs) = contains_later (Some i) (owners_from (i + 1) hs) None (nobody_among (i + 1) hs)

host_among : (i : ℕ) (hosts : List Host) (k n : ℕ) → k < length hosts → n ≡ i + k → Contains (owners_from i hosts) (Some n)
host_among i [] k n low is = absurd (omega (arith, low))
host_among i (h ∷ hs) zero n low is = contains_first (Some i) (owners_from (i + 1) hs) (Some n) (let same : i ≡ n = omega (arith, is) in ap (λ (x : ℕ). Some x) same)
host_among i (h ∷ hs) (suc k) n low is =
    contains_later (Some i) (owners_from (i + 1) hs) (Some n) (host_among (i + 1) hs k n (omega (arith, low)) (omega (arith, is)))

pub owner_among : (hosts : List Host) (a : ℕ) → Contains (owners_of hosts) (owner_of hosts a)
owner_among hosts a = by_owner (owner_of hosts a) refl
  where
    by_owner : (o : Option ℕ) → owner_of hosts a ≡ o → Contains (owners_of hosts) o
    by_owner None is = nobody_among 0 hosts
    by_owner (Some k) is = host_among 0 hosts k k (owner_below hosts a k is) (omega arith)

-- The concatenated lists of all owners are the list of all cases.
flat_map_over : {X Y Z : Type 0} (f : Y → List Z) (g : X → Y) (xs : List X) → flat_map (λ x. f (g x)) xs ≡ flat_map f (map g xs)
flat_map_over f g [] = refl
flat_map_over {Z = Z} f g (x ∷ xs) = ap (λ (l : List Z). f (g x) ++ l) (flat_map_over f g xs)

pub cases_are : (hosts : List Host) (sources destinations : List Owned) → map (λ x. x.owner) sources ≡ owners_of hosts
    → map (λ x. x.owner) destinations ≡ owners_of hosts
    → flat_map (λ from. flat_map (λ to. cases_between from.owner to.owner) destinations) sources ≡ all_cases (owners_of hosts) (owners_of hosts)
cases_are hosts sources destinations here there =
    flat_map_over (λ from. flat_map (λ to. cases_between from to.owner) destinations) (λ x. x.owner) sources
    ∙ ap (flat_map (λ from. flat_map (λ to. cases_between from to.owner) destinations)) here
    ∙ ap (λ (f : Option ℕ → List Case). flat_map f (owners_of hosts)) rows
  where
    rows : ◌≡◌ {A = Option ℕ → List Case} (λ from. flat_map (λ to. cases_between from to.owner) destinations)
        (λ from. flat_map (λ to. cases_between from to) (owners_of hosts))
    rows = λ i from. (flat_map_over (λ to. cases_between from to) (λ x. x.owner) destinations ∙ ap (flat_map (λ to. cases_between from to)) there) i

pub complete_where : (sides : Sides) (ds : List Difference) → AreDifferences sides ds → IsComplete sides ds
complete_where sides ds listed kind p forwards is differs =
    let hosts = sides.policy.site.hosts in
    let from = owner_of hosts p.src in
    let to = owner_of hosts p.dst in
    has_listed sides (all_cases (owners_of hosts) (owners_of hosts)) ds listed (case_of from to kind forwards)
    (case_there (owners_of hosts) (owners_of hosts) from to kind forwards (owner_among hosts p.src) (owner_among hosts p.dst))
    p (record { packet = is; src = refl; dst = refl }) differs
