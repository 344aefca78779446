-- Flows that are inserted into a set one by one: the first that is present already, and the first that is equal to it.
use Rattle.std.proofs.Common.{◌≡◌, ℕ, suc, ◌+◌, ◌<◌, Bool, true, false, cond, not, ◌||◌, List, [], ◌∷◌, ◌++◌, drop, get_or, take, length, Option, Some, None, option_map, Err, refl, sym, ap, ◌∙◌, arith}
use Rattle.std.proofs.lemmas.Bool.{not-false, not-true}
use Rattle.std.proofs.lemmas.List.{length-take-le, take_more}
use Rattle.std.specs.List.{find, fold}
use Rattle.std.specs.Option.{option_or}
use Rattle.flow_set.specs.Flow.{same_flow}
use Rattle.flow_set.specs.laws.FlowLaws.{same_flow_sym}
use Rattle.flow_set.specs.FlowSet.{SetOfFlows, has, with_flow, set_of}
use Rattle.flow_set.proofs.ListedLaws.{has-set_of}
use Rattle.flow_set.specs.declared.flow.Flow.{Flow}
use Rattle.desc_core.proofs.ListingLaws.{next}
use Rattle.desc_core.specs.Description.{ok_unless_refused}
use Rattle.desc_core.specs.inner.Parts.{twice_found}
use Rattle.desc_form.specs.Refusals.{refused_by}
use Rattle.desc_form.specs.declared.refusal.Place.TheVariants.{FlowAt}
use Rattle.desc_form.specs.declared.refusal.Refusal.{Refusal}
use Rattle.desc_form.specs.declared.refusal.Why.TheVariants.{DuplicateFlow}
use Rattle.text_core.specs.FirstMatch.{Numbered, Conflict, first_conflict, first_conflict_after, numbered, numbered_from}

abbrev nth : ℕ → Flow → Numbered Flow
nth k f = record { number = k; what = f }

abbrev tell_twice : Conflict (Numbered Flow) → Refusal
tell_twice p = refused_by DuplicateFlow (FlowAt p.later.number) p.earlier.number

abbrev same_as : Numbered Flow → Numbered Flow → Bool
same_as f g = same_flow f.what g.what

numbered_from-push : (k : ℕ) (fs : List Flow) (f : Flow) → numbered_from k (fs ++ f ∷ []) ≡ numbered_from k fs ++ nth (k + length fs) f ∷ []
numbered_from-push k [] f = let same : k ≡ k + 0 = omega arith in ap (λ n. nth n f ∷ []) same
numbered_from-push k (g ∷ fs) f =
    let same : k + 1 + length fs ≡ k + suc (length fs) = omega arith in
    ap (λ ns. nth k g ∷ ns) (numbered_from-push (k + 1) fs f ∙ ap (λ n. numbered_from (k + 1) fs ++ nth n f ∷ []) same)

-- A flow that is not among these differs from each of them.
absent_by : (b : Bool) (x : Numbered Flow) (rest : Bool) (o : Option (Numbered Flow)) → (b || rest) ≡ false → (rest ≡ false → o ≡ None) → cond b (Some x) o ≡ None
absent_by true x rest o absent later = cc
absent_by false x rest o absent later = later absent

absent_from : (k : ℕ) (fs : List Flow) (f : Flow) → has fs f ≡ false → find (λ (g : Numbered Flow). same_flow f g.what) (numbered_from k fs) ≡ None
absent_from k [] f absent = refl
absent_from k (g ∷ fs) f absent =
    let turned : (same_flow f g || has fs f) ≡ false = ap (λ b. b || has fs f) (same_flow_sym f g) ∙ absent in
    absent_by (same_flow f g) (nth k g) (has fs f) _ turned (absent_from (k + 1) fs f)

set_push : (fs : List Flow) (f : Flow) → set_of (fs ++ f ∷ []) ≡ with_flow (set_of fs) f
unfolding set_of
set_push fs f = fold_push [] fs
  where
    fold_push : (set fs : List Flow) → fold with_flow set (fs ++ f ∷ []) ≡ with_flow (fold with_flow set fs) f
    fold_push set [] = refl
    fold_push set (g ∷ gs) = fold_push (with_flow set g) gs

next_taken : (fs : List Flow) (i : ℕ) (f d : Flow) → i < length fs → f ≡ get_or fs i d → take (i + 1) fs ≡ take i fs ++ f ∷ []
next_taken fs i f d within here = take_more fs i d within ∙ ap (λ (g : Flow). take i fs ++ g ∷ []) (sym here)

next_numbered : (fs : List Flow) (i : ℕ) (f d : Flow) → i < length fs → f ≡ get_or fs i d → numbered (take (i + 1) fs) ≡ numbered (take i fs) ++ nth (i + 1) f ∷ []
next_numbered fs i f d within here =
    let taken : length (take i fs) ≡ i = length-take-le i fs (omega (arith, within)) in
    let place : 1 + length (take i fs) ≡ i + 1 = omega (arith, taken) in
    ap numbered (next_taken fs i f d within here) ∙ numbered_from-push 1 (take i fs) f ∙ ap (λ n. numbered (take i fs) ++ nth n f ∷ []) place

abbrev from_here : List Flow → ℕ → Option (Conflict (Numbered Flow))
from_here fs i = first_conflict_after same_as (numbered (take i fs)) (numbered_from (i + 1) (drop i fs))

-- The first of the flows before an index that is equal to f.
abbrev earlier_than : List Flow → ℕ → Flow → Option (Numbered Flow)
earlier_than fs i f = find (λ (g : Numbered Flow). same_flow f g.what) (numbered (take i fs))

abbrev with_later : ℕ → Flow → Option (Numbered Flow) → Option (Conflict (Numbered Flow))
with_later i f o = option_map (λ (g : Numbered Flow). record { later = nth (i + 1) f; earlier = g }) o

here_is : (fs : List Flow) (i : ℕ) (f d : Flow) → i < length fs → f ≡ get_or fs i d → from_here fs i ≡ option_or (with_later i f (earlier_than fs i f)) (from_here fs (i + 1))
here_is fs i f d within here =
    ap (λ gs. first_conflict_after same_as (numbered (take i fs)) (numbered_from (i + 1) gs)) (next fs i f d within here)
    ∙ ap (λ before. option_or (with_later i f (earlier_than fs i f)) (first_conflict_after same_as before (numbered_from (i + 1 + 1) (drop (i + 1) fs))))
    (sym (next_numbered fs i f d within here))

abbrev set_until : ℕ → List Flow → ℕ → SetOfFlows
set_until n fs i = record { size = n; flows = set_of (take i fs) }

in_set : (fs : List Flow) (i : ℕ) (f : Flow) (n : ℕ) (s : SetOfFlows) → s ≡ set_until n fs i → has s.flows f ≡ has (take i fs) f
in_set fs i f n s made = ap (λ (t : SetOfFlows). has t.flows f) made ∙ has-set_of (take i fs) f

-- A flow that does not change the set is equal to an earlier one.
pub was_there : (fs : List Flow) (i : ℕ) (f : Flow) (n : ℕ) (s : SetOfFlows) (changed : Bool) → s ≡ set_until n fs i → changed ≡ not (has s.flows f) → changed ≡ false
    → has (take i fs) f ≡ true
was_there fs i f n s changed made is same = sym (in_set fs i f n s made) ∙ not-false (has s.flows f) (sym is ∙ same)

-- A flow that changes the set differs from each of them.
pub one_more : (fs : List Flow) (i : ℕ) (f d : Flow) (n : ℕ) (s t : SetOfFlows) (changed : Bool) (whole : Option (Conflict (Numbered Flow))) → i < length fs → f ≡ get_or fs i d → s ≡ set_until n fs i
    → from_here fs i ≡ whole → t ≡ record { size = s.size; flows = with_flow s.flows f } → changed ≡ not (has s.flows f) → changed ≡ true
    → (t ≡ set_until n fs (i + 1)) × (from_here fs (i + 1) ≡ whole)
one_more fs i f d n s t changed whole within here made so_far grown is differs =
    let absent : has (take i fs) f ≡ false = sym (in_set fs i f n s made) ∙ not-true (has s.flows f) (sym is ∙ differs) in
    let more : with_flow (set_of (take i fs)) f ≡ set_of (take (i + 1) fs) = sym (set_push (take i fs) f) ∙ ap set_of (sym (next_taken fs i f d within here)) in (
      grown ∙ ap (λ (u : SetOfFlows). record { size = u.size; flows = with_flow u.flows f }) made ∙ ap (λ gs. record { size = n; flows = gs }) more,
      sym (here_is fs i f d within here ∙ ap (λ o. option_or (with_later i f o) (from_here fs (i + 1))) (absent_from 1 (take i fs) f absent)) ∙ so_far,
    )

-- The report of the first flow that is present.
pub repeated : (fs : List Flow) (i : ℕ) (f d : Flow) (earlier : ℕ) (x : SetOfFlows) → i < length fs → f ≡ get_or fs i d → earlier_than fs i f ≡ Some (nth earlier f)
    → from_here fs i ≡ first_conflict_after same_as [] (numbered fs) → ok_unless_refused (twice_found fs) x ≡ Err (refused_by DuplicateFlow (FlowAt (i + 1)) earlier)
repeated fs i f d earlier x within here found so_far =
    let pair : first_conflict same_as (numbered fs) ≡ Some (record { later = nth (i + 1) f; earlier = nth earlier f }) =
    sym so_far ∙ here_is fs i f d within here ∙ ap (λ o. option_or (with_later i f o) (from_here fs (i + 1))) found in
    ap (λ o. ok_unless_refused (option_map tell_twice o) x) pair
