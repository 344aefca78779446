-- For each packet of its box, a slice has the outcome of the chains that it was made of.
use Rattle.std.proofs.Common.{◌≡◌, ◌⊎◌, inl, inr, ℕ, zero, suc, ◌+◌, ◌<◌, ◌≤◌, Bool, true, false, List, [], ◌∷◌, ◌++◌, Option, Some, None, length, drop, get_or, refl, sym, ap, subst, ◌∙◌, arith}
use Rattle.std.specs.Prelude.{Contains}
use Rattle.std.specs.List.{cons_option}
use Rattle.std.proofs.lemmas.Bool.{and_parts}
use Rattle.std.proofs.Math.ListN.{drop_of_length-le}
use Rattle.host_net.specs.declared.packet.Packet.{Packet}
use Rattle.host_net.specs.declared.packet.CtState.{CtState}
use Rattle.host_net.specs.declared.packet.Verdict.{Verdict}
use Rattle.header_space.specs.declared.packet_box.PacketBox.{PacketBox}
use Rattle.header_space.specs.Boxes.{IsIn}
use Rattle.ipt_rules.specs.declared.rule.Policy.{Policy}
use Rattle.ipt_rules.specs.declared.rule.Rule.{Rule}
use Rattle.ipt_rules.specs.declared.rule.Target.{Target}
use Rattle.ipt_rules.specs.declared.rule.Target.TheVariants.{Jump}
use Rattle.ipt_rules.specs.Chain.{Chain, rules_of, policy_of}
use Rattle.ipt_rules.specs.ChainTable.{rule_count}
use Rattle.ipt_rules.specs.Loops.{jump_of, jumps_of}
use Rattle.ipt_rules.specs.Matching.{matches}
use Rattle.ipt_rules.specs.Semantics.{Continues, JumpsTo, step_of, Gives, at_end, goes_on, ends, decides, comes_back, verdict_by, HasVerdictIn}
use Rattle.ipt_rules.specs.Slices.{HaveSameChainVerdicts}
use Rattle.ipt_rules.specs.inner.Ranks.{HasTopologicalOrder}
use Rattle.ipt_rules.specs.inner.Slicing.{AreSlices, FitsNone, IsThinned, Thins, thin_end, thin_keeps, thin_drops, all_stay, chains_stay, stays}
use Rattle.ipt_rules.specs.inner.Walking.{is_known_to_return}
use Rattle.ipt_rules.proofs.MeaningLaws.{verdict_once}
use Rattle.ipt_rules.proofs.WalkLemmas.{each_gives_one, later_jump, rules_at, walked_jump}

-- ---- slices of single chains

pub slices_long : (b : PacketBox) (marks : List Bool) (n : ℕ) (xs ys : List Chain) → AreSlices b marks n xs ys → length ys ≡ length xs
slices_long b marks n [] [] are = refl
slices_long b marks n [] (y ∷ ys) are = absurd are
slices_long b marks n (x ∷ xs) [] are = absurd are
slices_long b marks n (x ∷ xs) (y ∷ ys) are = ap suc (slices_long b marks (n + 1) xs ys are.1)

thins_fewer : {b : PacketBox} {rs ts : List Rule} → Thins b rs ts → length ts ≤ length rs
thins_fewer thin_end = omega arith
thins_fewer (thin_keeps t) = let less = thins_fewer t in omega (arith, less)
thins_fewer (thin_drops none t) = let less = thins_fewer t in omega (arith, less)

fewer_in : (b : PacketBox) (marked : Bool) (rs ts : List Rule) → IsThinned b marked rs ts → length ts ≤ length rs
fewer_in b true rs ts is = thins_fewer is
fewer_in b false rs ts is = let none = ap length is in omega (arith, none)

pub slices_fewer : (b : PacketBox) (marks : List Bool) (n : ℕ) (xs ys : List Chain) → AreSlices b marks n xs ys → rule_count ys ≤ rule_count xs
slices_fewer b marks n [] [] are = omega arith
slices_fewer b marks n [] (y ∷ ys) are = absurd are
slices_fewer b marks n (x ∷ xs) [] are = absurd are
slices_fewer b marks n (x ∷ xs) (y ∷ ys) are =
    let first = fewer_in b (is_known_to_return marks n) x.rules y.rules are.0.rules in
    let others = slices_fewer b marks (n + 1) xs ys are.1 in
    omega (arith, first, others)

marks_at : (b : PacketBox) (marks : List Bool) (n m : ℕ) (rs ts : List Rule) → n ≡ m → IsThinned b (is_known_to_return marks n) rs ts → IsThinned b (is_known_to_return marks m) rs ts
marks_at b marks n m rs ts same is = subst (λ (k : ℕ). IsThinned b (is_known_to_return marks k) rs ts) same is

no_rules : (b : PacketBox) (marked : Bool) → IsThinned b marked [] []
no_rules b true = thin_end
no_rules b false = refl

-- The rules of chain c.
pub slice_at : (b : PacketBox) (marks : List Bool) (n : ℕ) (xs ys : List Chain) (c : ℕ) → AreSlices b marks n xs ys → IsThinned b (is_known_to_return marks (n + c)) (rules_of xs c) (rules_of ys c)
slice_at b marks n [] [] c are = no_rules b (is_known_to_return marks (n + c))
slice_at b marks n [] (y ∷ ys) c are = absurd are
slice_at b marks n (x ∷ xs) [] c are = absurd are
slice_at b marks n (x ∷ xs) (y ∷ ys) zero are = marks_at b marks n (n + 0) x.rules y.rules (omega arith) are.0.rules
slice_at b marks n (x ∷ xs) (y ∷ ys) (suc c) are =
    marks_at b marks (n + 1 + c) (n + suc c) (rules_of xs c) (rules_of ys c) (omega arith) (slice_at b marks (n + 1) xs ys c are.1)

pub slice_policy : (b : PacketBox) (marks : List Bool) (n : ℕ) (xs ys : List Chain) (c : ℕ) → AreSlices b marks n xs ys → policy_of ys c ≡ policy_of xs c
slice_policy b marks n [] [] c are = refl
slice_policy b marks n [] (y ∷ ys) c are = absurd are
slice_policy b marks n (x ∷ xs) [] c are = absurd are
slice_policy b marks n (x ∷ xs) (y ∷ ys) zero are = are.0.policy
slice_policy b marks n (x ∷ xs) (y ∷ ys) (suc c) are = slice_policy b marks (n + 1) xs ys c are.1

-- ---- jumps of a slice are jumps of the chains

option_cases : (o : Option ℕ) (xs : List ℕ) (d : ℕ) → Contains (cons_option o xs) d → (o ≡ Some d) ⊎ Contains xs d
option_cases None xs d h = inr h
option_cases (Some e) xs d (zero, low, is) = inl (ap (λ (x : ℕ). Some x) is)
option_cases (Some e) xs d (suc k, low, is) = inr (k, omega (arith, low), is)

jump_cases : (r : Rule) (ts rs : List Rule) (d : ℕ) → (Contains (jumps_of ts) d → Contains (jumps_of rs) d) → Contains (jumps_of (r ∷ ts)) d → Contains (jumps_of (r ∷ rs)) d
jump_cases r ts rs d later h = elim (option_cases (jump_of r.target) (jumps_of ts) d h) [
  | inl is ↦ first (jump_of r.target) is
  | inr there ↦ later_jump r rs d (later there)
]
  where
    first : (o : Option ℕ) → o ≡ Some d → Contains (cons_option o (jumps_of rs)) d
    first None is = cc
    first (Some e) is = (zero, omega arith, same e is)
      where
        same : (e : ℕ) → Some e ≡ Some d → e ≡ d
        same e is = cc

thins_jumps : {b : PacketBox} {rs ts : List Rule} → Thins b rs ts → (d : ℕ) → Contains (jumps_of ts) d → Contains (jumps_of rs) d
thins_jumps thin_end d h = h
thins_jumps (thin_keeps {r} {rs} {ts} t) d h = jump_cases r ts rs d (thins_jumps t d) h
thins_jumps (thin_drops {r} {rs} none t) d h = later_jump r rs d (thins_jumps t d h)

jumps_in : (b : PacketBox) (marked : Bool) (rs ts : List Rule) (d : ℕ) → IsThinned b marked rs ts → Contains (jumps_of ts) d → Contains (jumps_of rs) d
jumps_in b true rs ts d is h = thins_jumps is d h
jumps_in b false rs ts d is h =
    let none : Contains [] d = subst (λ (xs : List Rule). Contains (jumps_of xs) d) is h in absurd (omega (arith, none.1))

pub slice_ranking : (b : PacketBox) (marks : List Bool) (xs ys : List Chain) → AreSlices b marks 0 xs ys → HasTopologicalOrder xs → HasTopologicalOrder ys
slice_ranking b marks xs ys are topological_order =
    let long = slices_long b marks 0 xs ys are in
    record {
      order = topological_order.order;
      places = topological_order.places;
      is = record {
        ordered = record {
          inside = λ i c there. let low = topological_order.is.ordered.inside i c there in omega (arith, low, long);
          there = topological_order.is.ordered.there;
          back = λ i c d there jump. topological_order.is.ordered.back i c d there (jumps_in b (is_known_to_return marks (0 + c)) (rules_of xs c) (rules_of ys c) d (slice_at b marks 0 xs ys c are) jump);
        };
        short = let short = topological_order.is.short in omega (arith, short, long);
        every = λ c low. topological_order.is.every c (omega (arith, low, long));
      };
    }

-- ---- all jumps of a slice go to marked chains

pub rules_stay : (marks : List Bool) (ys : List Chain) (c : ℕ) → chains_stay marks ys ≡ true → all_stay marks (rules_of ys c) ≡ true
rules_stay marks [] c all = refl
rules_stay marks (y ∷ ys) zero all = (and_parts (all_stay marks y.rules) (chains_stay marks ys) all).0
rules_stay marks (y ∷ ys) (suc c) all = rules_stay marks ys c (and_parts (all_stay marks y.rules) (chains_stay marks ys) all).1

target_stays : (marks : List Bool) (t : Target) (d : ℕ) → t ≡ Jump d → stays marks t ≡ true → is_known_to_return marks d ≡ true
target_stays marks t d is stay = ap (stays marks) (sym is) ∙ stay

-- ---- outcomes

module _ (b : PacketBox) (p : Packet) (inside : IsIn b p) (state : CtState) (marks : List Bool) (xs ys : List Chain) (are : AreSlices b marks 0 xs ys) (stay : chains_stay marks ys ≡ true) where
  fits : Rule → Bool
  fits = matches p state

  not_here : (r : Rule) → FitsNone b r → step_of (matches p state r) r.target ≡ Continues
  not_here r none = ap (λ (x : Bool). step_of x r.target) (none p inside state)

  through_end : {rs : List Rule} → Thins b rs [] → Gives (matches p state) xs rs None
  through_end thin_end = at_end
  through_end (thin_drops {r} none t) = goes_on (not_here r none) (through_end t)

  through : {r : Rule} {rs ts : List Rule} (o : Option Verdict) → Thins b rs (r ∷ ts) → ((us : List Rule) → Thins b us ts → Gives (matches p state) xs (r ∷ us) o)
      → Gives (matches p state) xs rs o
  through o (thin_keeps {rs = us} t) here = here us t
  through o (thin_drops {r = q} none t) here = goes_on (not_here q none) (through o t here)

  marked : (c : ℕ) → is_known_to_return marks c ≡ true → Thins b (rules_of xs c) (rules_of ys c)
  marked c is = by_mark (is_known_to_return marks c) (rules_of xs c) (rules_of ys c) is (marks_at b marks (0 + c) c (rules_of xs c) (rules_of ys c) (omega arith) (slice_at b marks 0 xs ys c are))
    where
      by_mark : (m : Bool) (rs ts : List Rule) → m ≡ true → IsThinned b m rs ts → Thins b rs ts
      by_mark true rs ts is thinned = thinned
      by_mark false rs ts is thinned = cc

  walked : (r : Rule) (ts : List Rule) (c : ℕ) → step_of (matches p state r) r.target ≡ JumpsTo c → all_stay marks (r ∷ ts) ≡ true → is_known_to_return marks c ≡ true
  walked r ts c step all = target_stays marks r.target c (walked_jump (matches p state r) r.target c (sym step)) (and_parts (stays marks r.target) (all_stay marks ts) all).0

  later : (r : Rule) (ts : List Rule) → all_stay marks (r ∷ ts) ≡ true → all_stay marks ts ≡ true
  later r ts all = (and_parts (stays marks r.target) (all_stay marks ts) all).1

  gives_slice : {ts : List Rule} {o : Option Verdict} → Gives (matches p state) ys ts o → (rs : List Rule) → Thins b rs ts → all_stay marks ts ≡ true → Gives (matches p state) xs rs o
  gives_slice at_end rs t all = through_end t
  gives_slice (goes_on {r} {rs = ts} {o} step g) rs t all = through o t (λ us u. goes_on step (gives_slice g us u (later r ts all)))
  gives_slice (ends {r} {rs = ts} {o} step) rs t all = through o t (λ us u. ends step)
  gives_slice (decides {r} {rs = ts} {v} {c} step h) rs t all =
      through (Some v) t (λ us u. decides step (gives_slice h (rules_of xs c) (marked c (walked r ts c step all)) (rules_stay marks ys c stay)))
  gives_slice (comes_back {r} {rs = ts} {o} {c} step h g) rs t all =
      through o t (λ us u. comes_back step (gives_slice h (rules_of xs c) (marked c (walked r ts c step all)) (rules_stay marks ys c stay)) (gives_slice g us u (later r ts all)))

  pub verdict_slice : (v : Verdict) → is_known_to_return marks 1 ≡ true → HasVerdictIn ys 1 p state v → HasVerdictIn xs 1 p state v
  verdict_slice v there is = record {
    outcome = is.outcome;
    gives = gives_slice is.gives (rules_of xs 1) (marked 1 there) (rules_stay marks ys 1 stay);
    verdict = is.verdict ∙ ap (λ (policy : Option Policy). verdict_by policy is.outcome) (slice_policy b marks 0 xs ys 1 are);
  }

-- The slice has the verdicts of the chains.
pub same_verdicts : (b : PacketBox) (marks : List Bool) (xs ys : List Chain) → AreSlices b marks 0 xs ys → chains_stay marks ys ≡ true → is_known_to_return marks 1 ≡ true → HasTopologicalOrder ys
    → HaveSameChainVerdicts b xs ys
same_verdicts b marks xs ys are stay there topological_order p inside state v = (
  (λ is.
      let one = each_gives_one ys topological_order (matches p state) 1 0 in
      let own : HasVerdictIn ys 1 p state (verdict_by (policy_of ys 1) one.outcome) = record { outcome = one.outcome; gives = one.gives; verdict = refl } in
      subst (λ (w : Verdict). HasVerdictIn ys 1 p state w) (verdict_once (verdict_slice b p inside state marks xs ys are stay _ there own) is) own),
  (λ is. verdict_slice b p inside state marks xs ys are stay v there is),
)

-- ---- the construction of slices

append_one : {X : Type 0} (xs : List X) (x : X) (ys : List X) → (xs ++ x ∷ []) ++ ys ≡ xs ++ x ∷ ys
append_one [] x ys = refl
append_one (z ∷ xs) x ys = ap (λ zs. z ∷ zs) (append_one xs x ys)

append_none : {X : Type 0} (xs : List X) → xs ++ [] ≡ xs
append_none [] = refl
append_none (z ∷ xs) = ap (λ zs. z ∷ zs) (append_none xs)

-- The thinned rules followed by any thinning of the remaining rules are a thinning of all rules.
abbrev pub ThinsWith : PacketBox → List Rule → ℕ → List Rule → Type 0
ThinsWith b rules i out = (rest : List Rule) → Thins b (drop i rules) rest → Thins b rules (out ++ rest)

pub thin_kept : (b : PacketBox) (rules out : List Rule) (i : ℕ) (r : Rule) → i < length rules → r ≡ get_or rules i r → ThinsWith b rules i out → ThinsWith b rules (i + 1) (out ++ r ∷ [])
thin_kept b rules out i r low is so_far = λ rest t.
    subst (λ (zs : List Rule). Thins b rules zs) (sym (append_one out r rest))
    (so_far (r ∷ rest) (subst (λ (ds : List Rule). Thins b ds (r ∷ rest)) (sym (rules_at rules i r low is)) (thin_keeps t)))

pub thin_dropped : (b : PacketBox) (rules out : List Rule) (i : ℕ) (r : Rule) → i < length rules → r ≡ get_or rules i r → FitsNone b r → ThinsWith b rules i out → ThinsWith b rules (i + 1) out
thin_dropped b rules out i r low is none so_far = λ rest t.
    so_far rest (subst (λ (ds : List Rule). Thins b ds rest) (sym (rules_at rules i r low is)) (thin_drops none t))

pub thin_done : (b : PacketBox) (rules out : List Rule) (i : ℕ) → length rules ≤ i → ThinsWith b rules i out → Thins b rules out
thin_done b rules out i past so_far =
    subst (λ (zs : List Rule). Thins b rules zs) (append_none out)
    (so_far [] (subst (λ (ds : List Rule). Thins b ds []) (sym (drop_of_length-le rules past)) thin_end))

abbrev pub SlicesWith : PacketBox → List Bool → List Chain → ℕ → List Chain → Type 0
SlicesWith b marks xs i out = (rest : List Chain) → AreSlices b marks i (drop i xs) rest → AreSlices b marks 0 xs (out ++ rest)

pub slices_done : (b : PacketBox) (marks : List Bool) (xs out : List Chain) (i : ℕ) → length xs ≤ i → SlicesWith b marks xs i out → AreSlices b marks 0 xs out
slices_done b marks xs out i past so_far =
    subst (λ (zs : List Chain). AreSlices b marks 0 xs zs) (append_none out)
    (so_far [] (subst (λ (ds : List Chain). AreSlices b marks i ds []) (sym (drop_of_length-le xs past)) tt))
