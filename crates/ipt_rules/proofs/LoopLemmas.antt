-- Paths along jumps: their concatenation; they remain in a set that jumps do not leave; and if each chain of a set jumps to a
-- chain of the set, some chain is on a cycle.
use Rattle.std.proofs.Common.{◌≡◌, ℕ, zero, suc, ◌+◌, ◌<◌, ◌≤◌, ◌∙◌, inl, inr, sym, ap, refl, Bool, true, false, List, [], ◌∷◌, ◌++◌, Option, Some, None, length, arith, subst, IsTrue, ◌↔◌}
use Rattle.std.specs.Prelude.{Contains, is_some}
use Rattle.std.proofs.lemmas.Bool.{cases_lt}
use Rattle.std.proofs.lemmas.Option.{same_Some, slice_get_past}
use Rattle.ipt_rules.specs.Loops.{LeadsAlong, Leads}
use Rattle.ipt_rules.specs.inner.Ranks.{place_of, row_in, row_of, IsBefore, IsOrder}

along_then : (next : ℕ → List ℕ) (c : ℕ) (xs : List ℕ) (d : ℕ) (ys : List ℕ) (e : ℕ) → LeadsAlong next c xs d → LeadsAlong next d ys e → LeadsAlong next c (xs ++ ys) e
along_then next c [] d ys e here then = subst (λ (b : ℕ). LeadsAlong next b ys e) (sym here) then
along_then next c (x ∷ xs) d ys e (jump, walk) then = (jump, along_then next x xs d ys e walk then)

pub leads_then : (next : ℕ → List ℕ) (c d e : ℕ) → Leads next c d → Leads next d e → Leads next c e
leads_then next c d e (x, xs, walk) (y, ys, then) = (x, xs ++ y ∷ ys, along_then next c (x ∷ xs) d (y ∷ ys) e walk then)

pub leads_once : (next : ℕ → List ℕ) (c d : ℕ) → Contains (next c) d → Leads next c d
leads_once next c d jump = (d, [], (jump, refl))

stays_along : (next : ℕ → List ℕ) (P : ℕ → Type 0) → ((c d : ℕ) → P c → Contains (next c) d → P d) → (c : ℕ) (xs : List ℕ) (d : ℕ) → P c → LeadsAlong next c xs d → P d
stays_along next P step c [] d p here = subst P here p
stays_along next P step c (x ∷ xs) d p (jump, walk) = stays_along next P step x xs d (step c x p jump) walk

-- A property that holds after each jump of c, and that jumps preserve, holds wherever jumps lead from c.
pub stays : (next : ℕ → List ℕ) (P : ℕ → Type 0) → ((c d : ℕ) → P c → Contains (next c) d → P d) → (c d : ℕ) → ((x : ℕ) → Contains (next c) x → P x) → Leads next c d → P d
stays next P step c d first (x, xs, (jump, walk)) = stays_along next P step x xs d (first x jump) walk

-- Jumps lead from a chain of an order to chains before it, hence they do not lead back.
pub leads_before : (next : ℕ → List ℕ) (count : ℕ) (order : List ℕ) (places : List (Option ℕ)) → IsOrder next count order places → (c i d : ℕ) → place_of places c ≡ Some i → Leads next c d → IsBefore places d i
leads_before next count order places is c i d at walk =
    stays next (λ x. IsBefore places x i)
    (λ x y p jump.
    let b : IsBefore places y p.place = is.back p.place x y (is.there x p.place p.placed) jump in
    record { place = b.place; placed = b.placed; before = omega (arith, b.before, p.before) })
    c d (λ x jump. is.back i c x (is.there c i at) jump) walk

pub not_back : (next : ℕ → List ℕ) (count : ℕ) (order : List ℕ) (places : List (Option ℕ)) → IsOrder next count order places → (c i : ℕ) → place_of places c ≡ Some i → Leads next c c → ⊥
not_back next count order places is c i at walk =
    let b : IsBefore places c i = leads_before next count order places is c i c at walk in
    let same : b.place ≡ i = same_Some b.place i (sym b.placed ∙ at) in
    omega (arith, same, b.before)

-- If each of some numbers below n leads to another of them, one of them leads back to itself.
pub some_back : (E : ℕ → ℕ → Type 0) → ((a b c : ℕ) → E a b → E b c → E a c) → ((c : ℕ) → E c c → ⊥) → (n : ℕ) (left : ℕ → Type 0) → ((c : ℕ) → left c → c < n) → ((c : ℕ) → left c → (d : ℕ) × left d × E c d) → (c : ℕ) → left c → ⊥
some_back E then none zero left below goes c is = let b : c < 0 = below c is in omega (arith, b)
some_back E then none (suc n) left below goes c is =
    some_back E then none n lower (λ d h. h.1) lower_goes lowest.0 lowest.1
  where
    lower : ℕ → Type 0
    lower d = left d × (d < n)

    the_last : (d : ℕ) → left d → n ≤ d → d ≡ n
    the_last d h high = let b : d < suc n = below d h in omega (arith, b, high)

    from_last : (d : ℕ) → left d → n ≤ d → (e : ℕ) × lower e × E d e
    from_last d h high =
        let next = goes d h in
        elim (cases_lt next.0 n) [
          | inl low ↦ (next.0, (next.1, low), next.2)
          | inr up ↦ absurd (none d (subst (λ (x : ℕ). E d x) (the_last next.0 next.1 up ∙ sym (the_last d h high)) next.2))
        ]

    lower_goes : (d : ℕ) → lower d → (e : ℕ) × lower e × E d e
    lower_goes d h =
        let next = goes d h.0 in
        elim (cases_lt next.0 n) [
          | inl low ↦ (next.0, (next.1, low), next.2)
          | inr up ↦
              let more = from_last next.0 next.1 up in
              (more.0, more.1, then d next.0 more.0 next.2 more.2)
        ]

    lowest : (d : ℕ) × lower d
    lowest = elim (cases_lt c n) [
      | inl low ↦ (c, (is, low))
      | inr up ↦ let more = from_last c is up in (more.0, more.1)
    ]

-- One more number that a test finds on no cycle.
pub none_more : (next : ℕ → List ℕ) (n : ℕ) (back : Bool) → ((d : ℕ) → d < n → Leads next d d → ⊥) → IsTrue back ↔ Leads next n n → back ≡ false → (d : ℕ) → d < n + 1 → Leads next d d → ⊥
none_more next n back none says not_back d low walk = elim (cases_lt d n) [
  | inl lower ↦ none d lower walk
  | inr up ↦
      let same : d ≡ n = omega (arith, low, up) in
      let yes : back ≡ true = says.1 (subst (λ (x : ℕ). Leads next x x) same walk) in cc
]

-- If none of the numbers below n leads back to itself, each number that does is at least n.
pub least_from : (next : ℕ → List ℕ) (n : ℕ) → ((d : ℕ) → d < n → Leads next d d → ⊥) → (d : ℕ) → Leads next d d → n ≤ d
least_from next n none d walk = elim (cases_lt d n) [
  | inl low ↦ absurd (none d low walk)
  | inr up ↦ up
]

-- Nothing leads from a number past the table.
pub none_past : (table : List (List ℕ)) (c d : ℕ) → length table ≤ c → Leads (row_of table) c d → ⊥
none_past table c d past (x, xs, (jump, walk)) =
    let none : row_of table c ≡ [] = ap row_in (slice_get_past table c past) in
    let found : Contains [] x = subst (λ (row : List ℕ). Contains row x) none jump in
    omega (arith, found.1)

pub placed_not_back : (next : ℕ → List ℕ) (count : ℕ) (order : List ℕ) (places ps : List (Option ℕ)) (c : ℕ) (o : Option ℕ) → IsOrder next count order places → ps ≡ places → o ≡ place_of ps c → true ≡ is_some o → IsTrue false ↔ Leads next c c
placed_not_back next count order places ps c None is same read some = cc
placed_not_back next count order places ps c (Some i) is same read some =
    let at : place_of places c ≡ Some i = subst (λ (p : List (Option ℕ)). place_of p c ≡ Some i) same (sym read) in
    (λ never. let e : false ≡ true = never in cc, λ walk. absurd (not_back next count order places is c i at walk))
