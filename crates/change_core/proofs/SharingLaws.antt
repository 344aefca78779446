-- Laws of owners under an old description: the table of them, the walk over all addresses, and the rows.
use Rattle.std.proofs.Common.{◌≡◌, ◌⊎◌, ◌↔◌, inl, inr, ℕ, zero, suc, ◌+◌, ◌<◌, ◌≤◌, ◌^◌, Bool, true, false, cond, nat_eq, List, [], ◌∷◌, ◌++◌, Option, Some, None, length, get_or, drop, refl, sym, ap, subst, ◌∙◌, arith, append-nil, append_assoc}
use Rattle.std.specs.Prelude.{IsTrue, IsFalse, slice_set}
use Rattle.std.specs.List.{All, AllPairs, Contains, filter}
use Rattle.std.specs.Option.{option_map_or}
use Rattle.std.specs.FinSet as set
use Rattle.std.specs.Ordering.{nat_cmp}
use Rattle.std.specs.Global.{Global}
use Rattle.std.specs.Vec.{with_item}
use Rattle.std.specs.declared.vec.Vec.{Vec}
use Rattle.std.proofs.lemmas.Bool.{cases_eq, cases_lt, or_cases, or_left, or_right, eqb-true, eq-eqb}
use Rattle.std.proofs.lemmas.List.{at_drop_more, drop_all, get_or-set_same, get_or-set_other, get_or_past}
use Rattle.std.proofs.lemmas.List.Elements.{All-cons, All-contains, filter_passes}
use Rattle.std.proofs.lemmas.List.Kept.{AllPairs-cons, AllPairs-filter}
use Rattle.std.proofs.lemmas.Option.{slice_get_past}
use Rattle.host_net.specs.Host.{Host, owner_of}
use Rattle.flow_set.specs.HostSet.{HostNumbers}
use Rattle.flow_set.specs.laws.HostSetLaws.{contains-insert}
use Rattle.header_space.specs.Owners.{owners_from, owners_of}
use Rattle.change_core.specs.declared.sharing.Sharing.{Sharing}
use Rattle.change_core.specs.inner.Sharing.{AreMarked, AreSharers, AreShared, OwnerBefore, SharesBelow, is_marked, row_at}
use Rattle.policy_space.proofs.FlowLaws.{owner_below}
use Rattle.change_core.proofs.ListLaws.{contains_first, contains_later, contains_none, pairs_none, pairs_one, passing_among}

-- 1. The table.

inserted : (s : HostNumbers) (k j : ℕ) → IsTrue (set.contains (set.insert s k) j) → (k ≡ j) ⊎ IsTrue (set.contains s j)
inserted s k j there = elim (or_cases (nat_eq j k) (set.contains s j) (sym (contains-insert s k j) ∙ there)) [
  | inl same ↦ inl (sym (eqb-true j k same))
  | inr before ↦ inr before
]

inserted_new : (s : HostNumbers) (k j : ℕ) → k ≡ j → IsTrue (set.contains (set.insert s k) j)
inserted_new s k j is = contains-insert s k j ∙ or_left (nat_eq j k) (set.contains s j) (eq-eqb j k (sym is))

inserted_old : (s : HostNumbers) (k j : ℕ) → IsTrue (set.contains s j) → IsTrue (set.contains (set.insert s k) j)
inserted_old s k j there = contains-insert s k j ∙ or_right (nat_eq j k) (set.contains s j) there

abbrev row : List HostNumbers → ℕ → HostNumbers
row rows i = get_or rows i set.empty

-- A host of the old description is added to the row of host h.
row_more : (rows : List HostNumbers) (h k : ℕ) (r : HostNumbers) → h < length rows → r ≡ set.insert (row rows h) k → (i j : ℕ)
    → IsTrue (set.contains (row (slice_set rows h r) i) j) → IsTrue (set.contains (row rows i) j) ⊎ ((h ≡ i) × (k ≡ j))
row_more rows h k r low is i j there = elim (cases_eq i h) [
  | inl same ↦
      let here : row (slice_set rows h r) i ≡ set.insert (row rows h) k =
      ap (λ (n : ℕ). row (slice_set rows h r) n) same ∙ get_or-set_same rows h r set.empty low ∙ is in
      elim (inserted (row rows h) k j (subst (λ (s : HostNumbers). IsTrue (set.contains s j)) here there)) [
        | inl new ↦ inr (sym same, new)
        | inr before ↦ inl (subst (λ (n : ℕ). IsTrue (set.contains (row rows n) j)) (sym same) before)
      ]
  | inr other ↦ inl (subst (λ (s : HostNumbers). IsTrue (set.contains s j)) (get_or-set_other rows h i r set.empty other) there)
]

row_kept : (rows : List HostNumbers) (h k : ℕ) (r : HostNumbers) → h < length rows → r ≡ set.insert (row rows h) k → (i j : ℕ)
    → IsTrue (set.contains (row rows i) j) → IsTrue (set.contains (row (slice_set rows h r) i) j)
row_kept rows h k r low is i j there = elim (cases_eq i h) [
  | inl same ↦
      let here : row (slice_set rows h r) i ≡ set.insert (row rows h) k =
      ap (λ (n : ℕ). row (slice_set rows h r) n) same ∙ get_or-set_same rows h r set.empty low ∙ is in
      subst (λ (s : HostNumbers). IsTrue (set.contains s j)) (sym here)
      (inserted_old (row rows h) k j (subst (λ (n : ℕ). IsTrue (set.contains (row rows n) j)) same there))
  | inr other ↦ subst (λ (s : HostNumbers). IsTrue (set.contains s j)) (sym (get_or-set_other rows h i r set.empty other)) there
]

row_new : (rows : List HostNumbers) (h k : ℕ) (r : HostNumbers) → h < length rows → r ≡ set.insert (row rows h) k → (i j : ℕ) → h ≡ i → k ≡ j
    → IsTrue (set.contains (row (slice_set rows h r) i) j)
row_new rows h k r low is i j same new =
    let here : row (slice_set rows h r) i ≡ set.insert (row rows h) k =
    ap (λ (n : ℕ). row (slice_set rows h r) n) (sym same) ∙ get_or-set_same rows h r set.empty low ∙ is in
    subst (λ (s : HostNumbers). IsTrue (set.contains s j)) (sym here) (inserted_new (row rows h) k j new)

some_is : (i j : ℕ) (o : Option ℕ) → o ≡ Some i → o ≡ Some j → i ≡ j
some_is i j o left right = let both : Some i ≡ Some j = sym left ∙ right in cc

-- The table after an owner is added to host h.
pub added_host : (s : Sharing) (h k : ℕ) (r : HostNumbers) (newer older : Option ℕ) → newer ≡ Some h → older ≡ Some k → h < length s.hosts.items
    → r ≡ set.insert (row s.hosts.items h) k → (i : ℕ) (o : Option ℕ)
    → (IsTrue (is_marked (record { hosts = with_item s.hosts h r; beyond = s.beyond }) i o)
    ↔ (IsTrue (is_marked s i o) ⊎ ((newer ≡ Some i) × (older ≡ o))))
added_host s h k r newer older host owner low is i None = (
  (λ there. inl there),
  (λ either. elim either [ inl there ↦ there | inr both ↦ let no : Some k ≡ None = sym owner ∙ both.1 in let never : ⊥ = cc in absurd never ]),
)
added_host s h k r newer older host owner low is i (Some j) = (
  (λ there. elim (row_more s.hosts.items h k r low is i j there) [
    | inl before ↦ inl before
    | inr both ↦ inr (host ∙ ap (λ (n : ℕ). Some n) both.0, owner ∙ ap (λ (n : ℕ). Some n) both.1)
  ]),
  (λ either. elim either [
    | inl before ↦ row_kept s.hosts.items h k r low is i j before
    | inr both ↦ row_new s.hosts.items h k r low is i j (some_is h i newer host both.0) (some_is k j older owner both.1)
  ]),
)

pub added_beyond : (s : Sharing) (h : ℕ) (b : HostNumbers) (newer older : Option ℕ) → newer ≡ Some h → older ≡ None
    → b ≡ set.insert s.beyond h → (i : ℕ) (o : Option ℕ)
    → (IsTrue (is_marked (record { hosts = s.hosts; beyond = b }) i o)
    ↔ (IsTrue (is_marked s i o) ⊎ ((newer ≡ Some i) × (older ≡ o))))
added_beyond s h b newer older host owner is i None = (
  (λ there. elim (inserted s.beyond h i (subst (λ (t : HostNumbers). IsTrue (set.contains t i)) is there)) [
    | inl same ↦ inr (host ∙ ap (λ (n : ℕ). Some n) same, owner)
    | inr before ↦ inl before
  ]),
  (λ either. elim either [
    | inl before ↦ subst (λ (t : HostNumbers). IsTrue (set.contains t i)) (sym is) (inserted_old s.beyond h i before)
    | inr both ↦ subst (λ (t : HostNumbers). IsTrue (set.contains t i)) (sym is) (inserted_new s.beyond h i (some_is h i newer host both.0))
  ]),
)
added_beyond s h b newer older host owner is i (Some j) = (
  (λ there. inl there),
  (λ either. elim either [ inl there ↦ there | inr both ↦ let no : None ≡ Some j = sym owner ∙ both.1 in let never : ⊥ = cc in absurd never ]),
)

-- A table of empty sets has no owners.
pub nothing_marked : (s : Sharing) → All (λ r. r ≡ set.empty) s.hosts.items → s.beyond ≡ set.empty → (i : ℕ) (o : Option ℕ) → IsFalse (is_marked s i o)
nothing_marked s rows beyond i None = ap (λ (t : HostNumbers). set.contains t i) beyond ∙ set.contains-empty nat_cmp i
nothing_marked s rows beyond i (Some k) = ap (λ (t : HostNumbers). set.contains t k) none ∙ set.contains-empty nat_cmp k
  where
    none : row s.hosts.items i ≡ set.empty
    none = elim (cases_lt i (length s.hosts.items)) [
      | inl low ↦ rows i set.empty low
      | inr high ↦ get_or_past s.hosts.items i set.empty high
    ]

-- 2. The walk over all addresses.

pub marked_none : (new old : List Host) (s : Sharing) → length s.hosts.items ≡ length new → ((i : ℕ) (o : Option ℕ) → IsFalse (is_marked s i o))
    → AreMarked new old 0 s
marked_none new old s counted nothing = record {
  counted = counted;
  marked = λ i o. (
    (λ there. let no : true ≡ false = sym there ∙ nothing i o in let never : ⊥ = cc in absurd never),
    (λ shares. absurd (omega (arith, shares.1))),
  );
}

pub marked_step : (new old : List Host) (first last : ℕ) (newer older : Option ℕ) (before after : Sharing) → AreMarked new old first before
    → first ≤ last → ((a : ℕ) → first ≤ a → a ≤ last → owner_of new a ≡ newer) → ((a : ℕ) → first ≤ a → a ≤ last → owner_of old a ≡ older)
    → length after.hosts.items ≡ length before.hosts.items
    → ((i : ℕ) (o : Option ℕ) → (IsTrue (is_marked after i o) ↔ (IsTrue (is_marked before i o) ⊎ ((newer ≡ Some i) × (older ≡ o)))))
    → AreMarked new old (last + 1) after
marked_step new old first last newer older before after are some hosts owners counted added = record {
  counted = counted ∙ are.counted;
  marked = λ i o. (to i o, back i o);
}
  where
    to : (i : ℕ) (o : Option ℕ) → IsTrue (is_marked after i o) → SharesBelow new old (last + 1) i o
    to i o there = elim ((added i o).0 there) [
      | inl marked ↦ let shares = (are.marked i o).0 marked in (shares.0, omega (arith, shares.1, some), shares.2, shares.3)
      | inr both ↦ (first, omega (arith, some), hosts first (omega arith) some ∙ both.0, owners first (omega arith) some ∙ both.1)
    ]

    back : (i : ℕ) (o : Option ℕ) → SharesBelow new old (last + 1) i o → IsTrue (is_marked after i o)
    back i o (a, low, host, owner) = elim (cases_lt a first) [
      | inl earlier ↦ (added i o).1 (inl ((are.marked i o).1 (a, earlier, host, owner)))
      | inr later ↦
          let end : a ≤ last = omega (arith, low) in
          (added i o).1 (inr (sym (hosts a later end) ∙ host, sym (owners a later end) ∙ owner))
    ]

pub marked_all : (new old : List Host) (s : Sharing) (last : ℕ) → last ≡ 4294967295 → AreMarked new old (last + 1) s → AreMarked new old (2 ^ 32) s
marked_all new old s last is are = subst (λ (n : ℕ). AreMarked new old n s) (let end : last + 1 ≡ 2 ^ 32 = omega (arith, is) in end) are

-- 3. The owners in order.

pushed : (b : Bool) (o : Option ℕ) (items rest : List (Option ℕ)) → (items ++ cond b (o ∷ []) []) ++ rest ≡ items ++ cond b (o ∷ rest) rest
pushed true o items rest = append_assoc items (o ∷ []) rest
pushed false o items rest = ap (λ (l : List (Option ℕ)). l ++ rest) (append-nil items)

abbrev no_host : Host
no_host = record { name = []; prefixes = []; rest = false }

pub owners_push : (marked : Option ℕ → Bool) (hosts : List Host) (items more : List (Option ℕ)) (k : ℕ) (wanted : Bool)
    → items ++ filter marked (owners_from k (drop k hosts)) ≡ filter marked (owners_of hosts) → k < length hosts → wanted ≡ marked (Some k)
    → more ≡ items ++ cond wanted (Some k ∷ []) []
    → more ++ filter marked (owners_from (k + 1) (drop (k + 1) hosts)) ≡ filter marked (owners_of hosts)
owners_push marked hosts items more k wanted before low is same =
    ap (λ (l : List (Option ℕ)). l ++ rest) same
    ∙ pushed wanted (Some k) items rest
    ∙ ap (λ (b : Bool). items ++ cond b (Some k ∷ rest) rest) is
    ∙ ap (λ (l : List (Option ℕ)). items ++ filter marked l) (sym (at_drop_more (owners_from k) hosts k no_host low))
    ∙ before
  where
    rest : List (Option ℕ)
    rest = filter marked (owners_from (k + 1) (drop (k + 1) hosts))

pub owners_end : (marked : Option ℕ → Bool) (hosts : List Host) (items more : List (Option ℕ)) (k : ℕ) (wanted : Bool)
    → items ++ filter marked (owners_from k (drop k hosts)) ≡ filter marked (owners_of hosts) → length hosts ≤ k → wanted ≡ marked None
    → more ≡ items ++ cond wanted (None ∷ []) [] → more ≡ filter marked (owners_of hosts)
owners_end marked hosts items more k wanted before high is same =
    same
    ∙ ap (λ (b : Bool). items ++ cond b (None ∷ []) []) is
    ∙ ap (λ (l : List Host). items ++ filter marked (owners_from k l)) (sym (drop_all k hosts high))
    ∙ before

owners_above : (i n : ℕ) (hosts : List Host) → i < n → All (OwnerBefore (Some i)) (owners_from n hosts)
owners_above i n [] low = All-cons (OwnerBefore (Some i)) None [] tt (λ k d within. absurd (omega (arith, within)))
owners_above i n (h ∷ hs) low = All-cons (OwnerBefore (Some i)) (Some n) (owners_from (n + 1) hs) low (owners_above i (n + 1) hs (omega (arith, low)))

owners_ascending : (n : ℕ) (hosts : List Host) → AllPairs OwnerBefore (owners_from n hosts)
owners_ascending n [] = pairs_one OwnerBefore None
owners_ascending n (h ∷ hs) =
    AllPairs-cons OwnerBefore (Some n) (owners_from (n + 1) hs) (owners_above n (n + 1) hs (omega arith)) (owners_ascending (n + 1) hs)

none_among : (n : ℕ) (hosts : List Host) → Contains (owners_from n hosts) None
none_among n [] = contains_first None [] None refl
none_among n (h ∷ hs) = contains_later (Some n) (owners_from (n + 1) hs) None (none_among (n + 1) hs)

host_among : (n : ℕ) (hosts : List Host) (k m : ℕ) → k < length hosts → m ≡ n + k → Contains (owners_from n hosts) (Some m)
host_among n [] k m low is = absurd (omega (arith, low))
host_among n (h ∷ hs) zero m low is =
    contains_first (Some n) (owners_from (n + 1) hs) (Some m) (let same : n ≡ m = omega (arith, is) in ap (λ (x : ℕ). Some x) same)
host_among n (h ∷ hs) (suc k) m low is =
    contains_later (Some n) (owners_from (n + 1) hs) (Some m) (host_among (n + 1) hs k m (omega (arith, low)) (omega (arith, is)))

owner_among : (hosts : List Host) (a : ℕ) (o : Option ℕ) → owner_of hosts a ≡ o → Contains (owners_of hosts) o
owner_among hosts a None is = none_among 0 hosts
owner_among hosts a (Some k) is = host_among 0 hosts k k (owner_below hosts a k is) (omega arith)

-- The marked owners are the owners of the addresses of the host.
pub sharers_where : (new old : List Host) (s : Sharing) (i : ℕ) (owners : List (Option ℕ)) → AreMarked new old (2 ^ 32) s
    → owners ≡ filter (is_marked s i) (owners_of old) → AreSharers new old i owners
sharers_where new old s i owners are is = subst (AreSharers new old i) (sym is) (record {
  ascending = AllPairs-filter OwnerBefore (is_marked s i) (owners_of old) (owners_ascending 0 old);
  exact = λ o. (
    (λ there. (are.marked i o).0
        (All-contains (λ x. is_marked s i x ≡ true) (filter (is_marked s i) (owners_of old)) o (filter_passes (is_marked s i) (owners_of old)) there)),
    (λ shares. passing_among (is_marked s i) (owners_of old) o ((are.marked i o).1 shares) (owner_among old shares.0 o shares.3)),
  );
})

-- 4. The rows.

row_before : (rows : List (Vec (Option ℕ) Global)) (more : Vec (Option ℕ) Global) (i : ℕ) → i < length rows → row_at (rows ++ more ∷ []) i ≡ row_at rows i
row_before [] more i low = absurd (omega (arith, low))
row_before (r ∷ rows) more zero low = refl
row_before (r ∷ rows) more (suc i) low = row_before rows more i (omega (arith, low))

row_last : (rows : List (Vec (Option ℕ) Global)) (more : Vec (Option ℕ) Global) → row_at (rows ++ more ∷ []) (length rows) ≡ more.items
row_last [] more = refl
row_last (r ∷ rows) more = row_last rows more

pub rows_push : (new old : List Host) (rows all : List (Vec (Option ℕ) Global)) (more : Vec (Option ℕ) Global) (n : ℕ) → length rows ≡ n
    → ((i : ℕ) → i < n → AreSharers new old i (row_at rows i)) → AreSharers new old n more.items → all ≡ rows ++ more ∷ []
    → (i : ℕ) → i < n + 1 → AreSharers new old i (row_at all i)
rows_push new old rows all more n counted before here is i low =
    subst (λ (l : List (Vec (Option ℕ) Global)). AreSharers new old i (row_at l i)) (sym is) (by_place (cases_lt i n))
  where
    last : row_at (rows ++ more ∷ []) n ≡ more.items
    last = subst (λ (k : ℕ). row_at (rows ++ more ∷ []) k ≡ more.items) counted (row_last rows more)

    by_place : (i < n) ⊎ (n ≤ i) → AreSharers new old i (row_at (rows ++ more ∷ []) i)
    by_place (inl earlier) = subst (AreSharers new old i) (sym (row_before rows more i (omega (arith, earlier, counted)))) (before i earlier)
    by_place (inr later) =
        let same : n ≡ i = omega (arith, later, low) in
        subst (λ (k : ℕ). AreSharers new old k (row_at (rows ++ more ∷ []) k)) same (subst (AreSharers new old n) (sym last) here)

pub rows_all : (new old : List Host) (rows : List (Vec (Option ℕ) Global)) (n : ℕ) → length rows ≡ n → length new ≤ n
    → ((i : ℕ) → i < n → AreSharers new old i (row_at rows i)) → AreShared new old rows
rows_all new old rows n counted all before i = by_place (cases_lt i n)
  where
    no_row : n ≤ i → row_at rows i ≡ []
    no_row high = ap (λ (o : Option (Vec (Option ℕ) Global)). option_map_or (λ r. r.items) o []) (slice_get_past rows i (omega (arith, high, counted)))

    no_owner : n ≤ i → AreSharers new old i []
    no_owner high = record {
      ascending = pairs_none OwnerBefore;
      exact = λ o. (
        (λ there. absurd (contains_none o there)),
        (λ shares. let low = owner_below new shares.0 i shares.2 in absurd (omega (arith, low, high, all))),
      );
    }

    by_place : (i < n) ⊎ (n ≤ i) → AreSharers new old i (row_at rows i)
    by_place (inl low) = before i low
    by_place (inr high) = subst (AreSharers new old i) (sym (no_row high)) (no_owner high)
