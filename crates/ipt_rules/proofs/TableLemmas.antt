-- From the table of jumps to the chains: the result of the search on the table holds for the chains.
use Rattle.std.proofs.Common.{◌≡◌, ℕ, zero, suc, ◌<◌, ◌≤◌, ◌∙◌, sym, ap, refl, true, not, List, [], ◌∷◌, Option, None, Some, length, arith, subst}
use Rattle.std.specs.Prelude.{All, IfSome, IfNone}
use Rattle.std.specs.List.{list_all, cons_option}
use Rattle.std.proofs.lemmas.Bool.{and_parts}
use Rattle.std.proofs.lemmas.Bool.Decides.{nat_tests}
use Rattle.std.proofs.lemmas.List.{length-map}
use Rattle.std.proofs.lemmas.List.Elements.{All-nil, All-cons, All-contains}
use mathlib.Core.Path.{fun_ext}
use Rattle.ipt_rules.specs.declared.rule.Rule.{Rule}
use Rattle.ipt_rules.specs.declared.rule.Target.{Target}
use Rattle.ipt_rules.specs.declared.rule.Target.TheVariants.{Accept, Drop, Reject, Return, Count, Jump}
use Rattle.ipt_rules.specs.inner.Build.{has_unknown_target}
use Rattle.ipt_rules.specs.Chain.{Chain, rules_of}
use Rattle.ipt_rules.specs.inner.Jumps.{JumpsAreKnown}
use Rattle.ipt_rules.specs.Loops.{jump_of, jumps_of, jumps_from, Leads, IsAcyclic, IsFirstOnCycle}
use Rattle.ipt_rules.specs.inner.Ranks.{jump_table, row_of, place_of, IsTopologicalOrder, HasTopologicalOrder, IsPartOrder, IsStuck}
use Rattle.ipt_rules.specs.inner.Ranked.{IsRanked}
use Rattle.ipt_rules.proofs.LoopLemmas.{leads_once, leads_then, some_back}
use Rattle.ipt_rules.proofs.RankLemmas.{placed, StuckBelow}

row_jumps : (chains : List Chain) (c : ℕ) → row_of (jump_table chains) c ≡ jumps_from chains c
row_jumps [] c = refl
row_jumps (x ∷ chains) zero = refl
row_jumps (x ∷ chains) (suc c) = row_jumps chains c

rows_are : (chains : List Chain) (table : List (List ℕ)) → table ≡ jump_table chains → row_of table ≡ jumps_from chains
rows_are chains table is = ap row_of is ∙ fun_ext (row_jumps chains)

-- Valid jumps go to existing chains.
target_inside : (count : ℕ) (t : Target) (xs : List ℕ) → not (has_unknown_target count t) ≡ true → All (λ d. d < count) xs → All (λ d. d < count) (cons_option (jump_of t) xs)
target_inside count Accept xs known all = all
target_inside count Drop xs known all = all
target_inside count Reject xs known all = all
target_inside count Return xs known all = all
target_inside count Count xs known all = all
target_inside count (Jump d) xs known all = All-cons (λ e. e < count) d xs (low_of known) all
  where
    low_of : not (has_unknown_target count (Jump d)) ≡ true → d < count
    low_of h = grind (arith, nat_tests)

jumps_inside : (count : ℕ) (rules : List Rule) → list_all (λ r. not (has_unknown_target count r.target)) rules ≡ true → All (λ d. d < count) (jumps_of rules)
jumps_inside count [] known = All-nil (λ d. d < count)
jumps_inside count (r ∷ rules) known =
    let parts = and_parts (not (has_unknown_target count r.target)) (list_all (λ s. not (has_unknown_target count s.target)) rules) known in
    target_inside count r.target (jumps_of rules) parts.0 (jumps_inside count rules parts.1)

pub long_table : (chains : List Chain) (table : List (List ℕ)) → table ≡ jump_table chains → length table ≡ length chains
long_table chains table is = ap length is ∙ length-map chains (λ x. jumps_of x.rules)

pub rows_inside : (chains : List Chain) (table : List (List ℕ)) → table ≡ jump_table chains → JumpsAreKnown chains → (c : ℕ) → All (λ d. d < length table) (row_of table c)
rows_inside chains table is known c =
    subst (λ (n : ℕ). All (λ d. d < n) (row_of table c)) (sym (long_table chains table is))
    (subst (λ (rows : ℕ → List ℕ). All (λ d. d < length chains) (rows c)) (sym (rows_are chains table is))
    (jumps_inside (length chains) (rules_of chains c) (known.from c)))

-- If no chain is on a cycle, every chain has a position.
no_stuck : (table : List (List ℕ)) (places : List (Option ℕ)) → ((c : ℕ) → All (λ d. d < length table) (row_of table c)) → StuckBelow table places (length table) → ((d : ℕ) → Leads (row_of table) d d → ⊥) → (c : ℕ) → c < length table → place_of places c ≡ None → ⊥
no_stuck table places inside rest_is_cyclic none c low placeless =
    some_back (Leads (row_of table)) (leads_then (row_of table)) none (length table) (λ d. (d < length table) × (place_of places d ≡ None)) (λ d h. h.0)
    (λ d h.
    let s : IsStuck table places d = rest_is_cyclic d h.0 h.1 in
    (s.other, (All-contains (λ e. e < length table) (row_of table d) s.other (inside d) s.jumps, s.placeless), leads_once (row_of table) d s.other s.jumps))
    c (low, placeless)

pub ranking_made : (chains : List Chain) (table : List (List ℕ)) (order : List ℕ) (places : List (Option ℕ)) (looked : List ℕ) → table ≡ jump_table chains → JumpsAreKnown chains → IsPartOrder table order places looked → StuckBelow table places (length table) → ((d : ℕ) → Leads (row_of table) d d → ⊥)
    → HasTopologicalOrder chains × IsAcyclic chains
ranking_made chains table order places looked is known part rest_is_cyclic none =
    let made : IsTopologicalOrder (row_of table) (length table) order places = record {
      ordered = part.ordered;
      short = omega (arith, part.counted);
      every = λ c low. placed (row_of table) (length table) order places part.ordered c (λ placeless. no_stuck table places (rows_inside chains table is known) rest_is_cyclic none c low placeless);
    } in (
      record {
        order = order;
        places = places;
        is = subst (λ (n : ℕ). IsTopologicalOrder (jumps_from chains) n order places) (long_table chains table is) (subst (λ (rows : ℕ → List ℕ). IsTopologicalOrder rows (length table) order places) (rows_are chains table is) made);
      },
      subst (λ (rows : ℕ → List ℕ). (d : ℕ) → Leads rows d d → ⊥) (rows_are chains table is) none,
    )

pub loop_found : (chains : List Chain) (table : List (List ℕ)) (c : ℕ) → table ≡ jump_table chains → Leads (row_of table) c c → ((d : ℕ) → Leads (row_of table) d d → c ≤ d) → IsFirstOnCycle chains c
loop_found chains table c is back least = record {
  back = subst (λ (rows : ℕ → List ℕ). Leads rows c c) (rows_are chains table is) back;
  least = subst (λ (rows : ℕ → List ℕ). (d : ℕ) → Leads rows d d → c ≤ d) (rows_are chains table is) least;
}

-- An order of the chains, or the least chain that is on a cycle.
pub loop_said : (chains : List Chain) (table : List (List ℕ)) (order : List ℕ) (places : List (Option ℕ)) (looked : List ℕ) (found : Option ℕ) → table ≡ jump_table chains → JumpsAreKnown chains → IsPartOrder table order places looked → StuckBelow table places (length table)
    → IfSome found (λ c. Leads (row_of table) c c) → IfSome found (λ c. (d : ℕ) → Leads (row_of table) d d → c ≤ d) → IfNone found ((d : ℕ) → Leads (row_of table) d d → ⊥) → IsRanked chains found
loop_said chains table order places looked None is known part rest_is_cyclic back least none =
    ranking_made chains table order places looked is known part rest_is_cyclic none
loop_said chains table order places looked (Some c) is known part rest_is_cyclic back least none = loop_found chains table c is back least
