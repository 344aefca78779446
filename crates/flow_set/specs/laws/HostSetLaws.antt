-- Lemmas on sets of hosts: members, and extensionality.
use Rattle.std.proofs.Common.{◌≡◌, ℕ, zero, suc, ◌<◌, Bool, true, false, not, ◌&&◌, ◌||◌, ◌+◌, cond, add-zero, nat_eq, nat_lt, nat_cmp, sym, ◌∙◌, ap, arith}
use Rattle.std.proofs.lemmas.Bool.{cond_both}
use Rattle.std.proofs.lemmas.Bool.Decides.{nat_tests}
use Rattle.std.specs.Cmp.{nat_cmp_total, unsigned_tied}
use Rattle.std.specs.FinSet as set
use Rattle.flow_set.specs.HostSet.{HostNumbers, hosts_below}

pub contains-insert : (s : HostNumbers) (k q : ℕ) → set.contains (set.insert s k) q ≡ (nat_eq q k || set.contains s q)
contains-insert s k q = set.contains-insert nat_cmp_total s k q ∙ ap (λ b. b || set.contains s q) (unsigned_tied q k)

pub contains-remove : (s : HostNumbers) (k q : ℕ) → set.contains (set.remove s k) q ≡ (not (nat_eq q k) && set.contains s q)
contains-remove s k q = set.contains-remove nat_cmp_total s k q ∙ ap (λ b. not b && set.contains s q) (unsigned_tied q k)

-- Sets with the same members are equal.
pub hosts_ext : (s t : HostNumbers) → ((q : ℕ) → set.contains s q ≡ set.contains t q) → s ≡ t
hosts_ext s t alike = set.same_set nat_cmp_total set.nat_cmp-IsAntisymmetric s t alike

pub below_none : (n q : ℕ) (b : Bool) → (q < n → b ≡ false) → (nat_lt q n && b) ≡ false
below_none n q b none = grind (arith, nat_tests)

below_suc_in : (n q : ℕ) (b c : Bool) → c ≡ true → (q ≡ n → b ≡ c) → (nat_eq q n || (nat_lt q n && b)) ≡ (nat_lt q (suc n) && b)
below_suc_in n q b c passes same = grind (arith, nat_tests)

below_suc_out : (n q : ℕ) (b c : Bool) → c ≡ false → (q ≡ n → b ≡ c) → (nat_lt q n && b) ≡ (nat_lt q (suc n) && b)
below_suc_out n q b c fails same = grind (arith, nat_tests)

pub contains-hosts_below : (n : ℕ) (test : ℕ → Bool) (q : ℕ) → set.contains (hosts_below n test) q ≡ (nat_lt q n && test q)
unfolding hosts_below
contains-hosts_below zero test q = set.contains-empty nat_cmp q ∙ sym (below_none 0 q (test q) (λ below. absurd (omega arith)))
contains-hosts_below (suc n) test q =
    cond_both (test n) (set.insert (hosts_below n test) n) (hosts_below n test) (λ s. set.contains s q ≡ (nat_lt q (suc n) && test q))
    (λ passes. contains-insert (hosts_below n test) n q ∙ ap (λ b. nat_eq q n || b) (contains-hosts_below n test q) ∙ below_suc_in n q (test q) (test n) passes (ap test))
    (λ fails. contains-hosts_below n test q ∙ below_suc_out n q (test q) (test n) fails (ap test))

-- The number of hosts below n + 1.
pub len_more : (n : ℕ) (test : ℕ → Bool) → set.len (hosts_below (suc n) test) ≡ set.len (hosts_below n test) + cond (test n) 1 0
unfolding hosts_below
len_more n test =
    elim (test n) as (λ b. set.len (cond b (set.insert (hosts_below n test) n) (hosts_below n test)) ≡ set.len (hosts_below n test) + cond b 1 0) [
      | true ↦
          set.len-insert nat_cmp_total (hosts_below n test) n
          ∙ ap (λ b. cond b (set.len (hosts_below n test)) (set.len (hosts_below n test) + 1))
          (contains-hosts_below n test n ∙ below_none n n (test n) (λ below. absurd (omega arith)))
      | false ↦ sym (add-zero _)
    ]
