-- The effect of one more flow on reachability, by rows.
use Rattle.std.proofs.Common.{◌≡◌, ℕ, Bool, nat_eq, not, ◌&&◌, ◌||◌, ◌↔◌, inl, inr, List, [], refl, sym, ◌∙◌, ap, subst}
use Rattle.std.specs.Prelude.{IsFalse, IsTrue}
use Rattle.std.specs.FinSet as set
use Rattle.std.specs.Cmp.{nat_cmp_total}
use Rattle.std.proofs.lemmas.Bool.{or_cases, or_left, or_right, and_parts, and_from, both_ways, cases_Bool, not-true, not_from_false, false_from_ne_true, eqb-true, eq-eqb}
use Rattle.flow_set.specs.declared.flow.Flow.{Flow}
use Rattle.flow_set.specs.FlowSet.{has, with_flow}
use Rattle.flow_set.specs.HostSet.{HostNumbers}
use Rattle.flow_set.specs.laws.HostSetLaws.{contains-insert}
use Rattle.reach_core.specs.Walks.{Reaches}
use Rattle.reach_core.specs.inner.Opening.{ReachesOnlyWith}
use Rattle.reach_core.specs.laws.WalkLaws.{HasPath, cases_path, path_of_walk, walk_within, HasWalk-append}
use Rattle.reach_core.specs.laws.ReachLaws.{Reaches-cut, Reaches-more, Reaches-over}
use Rattle.reach_core.proofs.Closes.{path_to, path_from}

contains-left : (row other : HostNumbers) (host q : ℕ)
    → set.contains (set.difference (set.insert row host) other) q ≡ (set.contains (set.insert row host) q && not (set.contains other q))
contains-left row other host q = set.contains-difference nat_cmp_total (set.insert row host) other q

-- The hosts that reach its sender, and not its receiver, reach its receiver with it.
pub opens_from : (e : List Flow) (f : Flow) (from to hosts : HostNumbers) → ((i : ℕ) → IsTrue (set.contains from i) ↔ Reaches e i f.from)
    → ((i : ℕ) → IsTrue (set.contains to i) ↔ Reaches e i f.to) → hosts ≡ set.difference (set.insert from f.from) to
    → (i : ℕ) → IsTrue (set.contains hosts i) ↔ ReachesOnlyWith f e i f.to
opens_from e f from to hosts come arrive is i =
    let shown = ap (λ (s : HostNumbers). set.contains s i) is ∙ contains-left from to f.from i in
    let path = path_to (has e) i f.from from (come i) in (
      λ there.
          let (comes, new) = and_parts _ _ (sym shown ∙ there) in
          (Reaches-over e f i f.to (path.0 comes) ([], refl), λ before. both_ways _ (not-true _ new) ((arrive i).1 before)),
      λ (walk, new). shown ∙ elim (Reaches-cut e f i f.to walk) [
        | inl before ↦ absurd (new before)
        | inr parts ↦ and_from _ _ (path.1 parts.0) (not_from_false _ (false_from_ne_true _ (λ before. new ((arrive i).0 before))))
      ],
    )

-- No other host reaches more with it.
pub opens_no_other : (e : List Flow) (f : Flow) (from to hosts : HostNumbers)
    → ((i : ℕ) → IsTrue (set.contains from i) ↔ Reaches e i f.from) → ((i : ℕ) → IsTrue (set.contains to i) ↔ Reaches e i f.to)
    → hosts ≡ set.difference (set.insert from f.from) to
    → (i j : ℕ) → IsFalse (set.contains hosts i) → Reaches (with_flow e f) i j → Reaches e i j
opens_no_other e f from to hosts come arrive is i j out walk =
    elim (Reaches-cut e f i j walk) [
      | inl before ↦ before
      | inr parts ↦ elim (cases_Bool (set.contains to i)) [
        | inl there ↦ walk_within (has e) i i f.to j ([], refl) ((arrive i).0 there) parts.1
        | inr not_there ↦ absurd (both_ways _ out ((opens_from e f from to hosts come arrive is i).1
            (Reaches-over e f i f.to parts.0 ([], refl), λ before. both_ways _ not_there ((arrive i).1 before))))
      ]
    ]

-- The hosts that its receiver reaches, and its sender does not, are reached by its sender with it.
pub opens_to : (e : List Flow) (f : Flow) (to from hosts : HostNumbers) → ((j : ℕ) → IsTrue (set.contains to j) ↔ Reaches e f.to j)
    → ((j : ℕ) → IsTrue (set.contains from j) ↔ Reaches e f.from j) → hosts ≡ set.difference (set.insert to f.to) from
    → (j : ℕ) → IsTrue (set.contains hosts j) ↔ ReachesOnlyWith f e f.from j
opens_to e f to from hosts go leave is j =
    let shown = ap (λ (s : HostNumbers). set.contains s j) is ∙ contains-left to from f.to j in
    let path = path_from (has e) f.to j to (go j) in (
      λ there.
          let (goes, new) = and_parts _ _ (sym shown ∙ there) in
          (Reaches-over e f f.from j ([], refl) (path.0 goes), λ before. both_ways _ (not-true _ new) ((leave j).1 before)),
      λ (walk, new). shown ∙ elim (Reaches-cut e f f.from j walk) [
        | inl before ↦ absurd (new before)
        | inr parts ↦ and_from _ _ (path.1 parts.1) (not_from_false _ (false_from_ne_true _ (λ before. new ((leave j).0 before))))
      ],
    )

-- With the flow a host reaches what it reached before, or both parts of the walk are new: `to` states whether the host reached its
-- receiver, and `from` whether its sender reached the other host.
pub reaches_opened : (e : List Flow) (f : Flow) (i j : ℕ) (was opens opened to from : Bool) → (IsTrue was ↔ Reaches e i j)
    → (IsTrue opens ↔ ReachesOnlyWith f e i f.to) → (IsTrue opened ↔ ReachesOnlyWith f e f.from j)
    → (IsTrue to ↔ Reaches e i f.to) → (IsTrue from ↔ Reaches e f.from j)
    → IsTrue (was || (opens && opened)) ↔ Reaches (with_flow e f) i j
reaches_opened e f i j was opens opened to from tells at_i at_j comes leaves = (
  λ shown. elim (or_cases was (opens && opened) shown) [
    | inl already ↦ Reaches-more e f i j (tells.0 already)
    | inr both ↦
        let (first, second) = and_parts opens opened both in
        let new = at_j.0 second in
        elim (Reaches-cut e f f.from j new.0) [
          | inl before ↦ absurd (new.1 before)
          | inr ends ↦ elim (Reaches-cut e f i f.to (at_i.0 first).0) [
            | inl before ↦ absurd ((at_i.0 first).1 before)
            | inr parts ↦ Reaches-over e f i j parts.0 ends.1
          ]
        ]
  ],
  λ walk. elim (Reaches-cut e f i j walk) [
    | inl before ↦ or_left _ _ (tells.1 before)
    | inr parts ↦ elim (cases_Bool to) [
      | inl there ↦ or_left _ _ (tells.1 (walk_within (has e) i i f.to j ([], refl) (comes.0 there) parts.1))
      | inr not_there ↦ elim (cases_Bool from) [
        | inl gone ↦ or_left _ _ (tells.1 (walk_within (has e) i f.from j j parts.0 (leaves.0 gone) ([], refl)))
        | inr not_gone ↦ or_right _ _ (and_from _ _
            (at_i.1 (Reaches-over e f i f.to parts.0 ([], refl), λ before. both_ways _ not_there (comes.1 before)))
            (at_j.1 (Reaches-over e f f.from j ([], refl) parts.1, λ before. both_ways _ not_gone (leaves.1 before))))
      ]
    ]
  ],
)

-- A host that reaches its receiver reaches the hosts that it reached before, and those that its receiver reaches.
pub reaches_with : (e : List Flow) (f : Flow) (i : ℕ) (row beyond both hosts : HostNumbers) → Reaches (with_flow e f) i f.to
    → ((j : ℕ) → IsTrue (set.contains row j) ↔ Reaches e i j) → ((j : ℕ) → IsTrue (set.contains beyond j) ↔ Reaches e f.to j)
    → both ≡ set.union row beyond → hosts ≡ set.insert both f.to → (j : ℕ) → IsTrue (set.contains hosts j) ↔ Reaches (with_flow e f) i j
reaches_with e f i row beyond both hosts comes tells on both_is is j =
    let shown : set.contains hosts j ≡ (nat_eq j f.to || (set.contains row j || set.contains beyond j)) =
    ap (λ (s : HostNumbers). set.contains s j) (is ∙ ap (λ (s : HostNumbers). set.insert s f.to) both_is)
    ∙ contains-insert (set.union row beyond) f.to j ∙ ap (λ b. nat_eq j f.to || b) (set.contains-union nat_cmp_total row beyond j) in
    let further : HasPath (has e) f.to j → Reaches (with_flow e f) i j =
    λ path. elim (cases_path (has e) f.to j path) [
      | inl same ↦ subst (Reaches (with_flow e f) i) same comes
      | inr walk ↦ HasWalk-append (has (with_flow e f)) i f.to j comes (Reaches-more e f f.to j walk)
    ] in (
      λ there. elim (or_cases (nat_eq j f.to) _ (sym shown ∙ there)) [
        | inl same ↦ further ([], sym (eqb-true _ _ same))
        | inr rows ↦ elim (or_cases (set.contains row j) (set.contains beyond j) rows) [
          | inl before ↦ Reaches-more e f i j ((tells j).0 before)
          | inr walks ↦ further (path_of_walk (has e) f.to j ((on j).0 walks))
        ]
      ],
      λ walk. shown ∙ elim (Reaches-cut e f i j walk) [
        | inl before ↦ or_right (nat_eq j f.to) _ (or_left _ _ ((tells j).1 before))
        | inr parts ↦ elim (cases_path (has e) f.to j parts.1) [
          | inl same ↦ or_left (nat_eq j f.to) _ (eq-eqb _ _ (sym same))
          | inr walks ↦ or_right (nat_eq j f.to) _ (or_right _ _ ((on j).1 walks))
        ]
      ],
    )
