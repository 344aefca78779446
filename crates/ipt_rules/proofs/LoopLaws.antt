-- Chains whose jumps all go to greater numbers have no cycle.
use Rattle.std.proofs.Common.{◌≡◌, ℕ, zero, suc, ◌+◌, ◌<◌, refl, subst, Bool, true, ◌&&◌, List, [], ◌∷◌, arith, IsTrue}
use Rattle.std.specs.Prelude.{Contains, nat_lt}
use Rattle.std.specs.List.{list_all, cons_option}
use Rattle.std.proofs.lemmas.Bool.{and_parts}
use Rattle.std.proofs.lemmas.Bool.Decides.{nat_tests}
use Rattle.std.proofs.lemmas.List.Elements.{All-nil, All-cons, All-contains}
use Rattle.std.specs.List.{All}
use Rattle.ipt_rules.specs.declared.rule.Rule.{Rule}
use Rattle.ipt_rules.specs.declared.rule.Target.{Target}
use Rattle.ipt_rules.specs.declared.rule.Target.TheVariants.{Accept, Drop, Reject, Return, Count, Jump}
use Rattle.ipt_rules.specs.Chain.{Chain, rules_of}
use Rattle.ipt_rules.specs.Loops.{jump_of, jumps_of, jumps_from, LeadsAlong, IsAcyclic}

-- A jump of chain c goes to a greater number.
abbrev pub goes_up : ℕ → Target → Bool
goes_up c (Jump d) = nat_lt c d
goes_up c _ = true

-- Jumps go to greater numbers. The chains are numbered from c on.
abbrev pub jumps_go_up : ℕ → List Chain → Bool
jumps_go_up c [] = true
jumps_go_up c (x ∷ xs) = list_all (λ r. goes_up c r.target) x.rules && jumps_go_up (c + 1) xs

target_up : (c : ℕ) (t : Target) (xs : List ℕ) → goes_up c t ≡ true → All (λ d. c < d) xs → All (λ d. c < d) (cons_option (jump_of t) xs)
target_up c Accept xs up all = all
target_up c Drop xs up all = all
target_up c Reject xs up all = all
target_up c Return xs up all = all
target_up c Count xs up all = all
target_up c (Jump d) xs up all = All-cons (λ e. c < e) d xs (above up) all
  where
    above : nat_lt c d ≡ true → c < d
    above h = grind (arith, nat_tests)

jumps_up : (c : ℕ) (rules : List Rule) → list_all (λ r. goes_up c r.target) rules ≡ true → All (λ d. c < d) (jumps_of rules)
jumps_up c [] up = All-nil (λ d. c < d)
jumps_up c (r ∷ rules) up =
    let parts = and_parts (goes_up c r.target) (list_all (λ s. goes_up c s.target) rules) up in
    target_up c r.target (jumps_of rules) parts.0 (jumps_up c rules parts.1)

chain_up : (n : ℕ) (xs : List Chain) (k m : ℕ) → n + k ≡ m → jumps_go_up n xs ≡ true → list_all (λ r. goes_up m r.target) (rules_of xs k) ≡ true
chain_up n [] k m place up = refl
chain_up n (x ∷ xs) zero m place up =
    let same : n ≡ m = omega (arith, place) in
    subst (λ (c : ℕ). list_all (λ r. goes_up c r.target) x.rules ≡ true) same (and_parts (list_all (λ r. goes_up n r.target) x.rules) (jumps_go_up (n + 1) xs) up).0
chain_up n (x ∷ xs) (suc k) m place up =
    chain_up (n + 1) xs k m (omega (arith, place)) (and_parts (list_all (λ r. goes_up n r.target) x.rules) (jumps_go_up (n + 1) xs) up).1

along_up : (next : ℕ → List ℕ) → ((c d : ℕ) → Contains (next c) d → c < d) → (low c : ℕ) (xs : List ℕ) (d : ℕ) → low < c → LeadsAlong next c xs d → low < d
along_up next up low c [] d above here = subst (λ (e : ℕ). low < e) here above
along_up next up low c (x ∷ xs) d above (jump, walk) =
    let higher : c < x = up c x jump in along_up next up low x xs d (omega (arith, above, higher)) walk

pub no_loop_upward : (chains : List Chain) → IsTrue (jumps_go_up 0 chains) → IsAcyclic chains
no_loop_upward chains up c (x, xs, (jump, walk)) =
    let above : c < c = along_up (jumps_from chains) one c x xs c (one c x jump) walk in omega (arith, above)
  where
    one : (a b : ℕ) → Contains (jumps_from chains a) b → a < b
    one a b h = All-contains (λ e. a < e) (jumps_from chains a) b (jumps_up a (rules_of chains a) (chain_up 0 chains a a (omega arith) up)) h
