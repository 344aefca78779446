-- The requirements for parsing the lines of a text back, from the invariants of every rule set.
use Rattle.std.proofs.Common.{◌≡◌, ◌<◌, ◌≤◌, ◌^◌, ◌+◌, ℕ, true, false, List, [], ◌∷◌, Option, Some, None, length, arith}
use Rattle.std.specs.Prelude.{IfSome, IsTrue}
use Rattle.std.specs.List.{list_all, position_from}
use Rattle.std.proofs.lemmas.Bool.{and_parts}
use Rattle.std.proofs.lemmas.Bool.Decides.{nat_tests}
use Rattle.ipt_rules.specs.declared.rule.AddrMatch.{AddrMatch}
use Rattle.ipt_rules.specs.declared.rule.Rule.{Rule}
use Rattle.ipt_rules.specs.declared.rule.Target.{Target}
use Rattle.ipt_rules.specs.declared.rule.Target.TheVariants.{Accept, Drop, Reject, Return, Count, Jump}
use Rattle.ipt_rules.specs.inner.Build.{has_unknown_target, place_of_unknown, first_unknown, refusal_of}
use Rattle.ipt_rules.specs.Chain.{Chain}
use Rattle.ipt_rules.specs.ChainTable.{rule_count}
use Rattle.ipt_rules.specs.inner.ChainTable.{IsTable}
use Rattle.ipt_rules.specs.Loops.{IsAcyclic}
use Rattle.ipt_rules.specs.inner.Addresses.{address_fits, addresses_fit}
use Rattle.ipt_rules.specs.inner.RuleParts.{is_rule, AreRules}
use Rattle.ipt_rules.specs.inner.Writable.{IsWritable}
use Rattle.ipt_rules.proofs.BuildLemmas.{known_first, none_at}
use Rattle.ipt_read.specs.inner.Goes.{Goes}

-- An address that a rule matches has 32 bits.
abbrev pub AddressFits : Option AddrMatch → Type 0
AddressFits o = IfSome o (λ part. part.prefix.addr < 2 ^ 32)

abbrev pub RulesAreFine : ℕ → List Rule → Type 0
RulesAreFine count [] = Unit {0}
RulesAreFine count (r ∷ rs) = AddressFits r.src × AddressFits r.dst × Goes count r.target × IsTrue (is_rule r) × RulesAreFine count rs

abbrev pub ChainsAreFine : ℕ → List Chain → Type 0
ChainsAreFine count [] = Unit {0}
ChainsAreFine count (x ∷ xs) = RulesAreFine count x.rules × ChainsAreFine count xs

-- A table within the limits, whose rules are valid, whose addresses have 32 bits, and whose jumps lead to user chains and form no cycle.
pub record HasFineRules (all : List Chain) : Type 0 where
  pub named : IsTable all
  pub few_chains : length all ≤ 4096
  pub few_rules : rule_count all ≤ 1000000
  pub fine : ChainsAreFine (length all) all
  pub acyclic : IsAcyclic all

fits_by : (o : Option AddrMatch) → address_fits o ≡ true → AddressFits o
fits_by None h = tt
fits_by (Some part) h = grind (arith, nat_tests)

goes_by : (count : ℕ) (t : Target) → has_unknown_target count t ≡ false → Goes count t
goes_by count Accept h = tt
goes_by count Drop h = tt
goes_by count Reject h = tt
goes_by count Return h = tt
goes_by count Count h = tt
goes_by count (Jump c) h = (high, there)
  where
    high : 3 ≤ c
    high = grind (arith, nat_tests)

    there : c < count
    there = grind (arith, nat_tests)

rules_fine : (count i : ℕ) (rs : List Rule) → position_from (λ r. has_unknown_target count r.target) i rs ≡ None → list_all addresses_fit rs ≡ true → list_all is_rule rs ≡ true → RulesAreFine count rs
rules_fine count i [] known fit parts = tt
rules_fine count i (r ∷ rs) known fit parts =
    let are = and_parts (is_rule r) (list_all is_rule rs) parts in
    let here = known_first (has_unknown_target count r.target) i (position_from (λ s. has_unknown_target count s.target) (i + 1) rs) known in
    let fits = and_parts (addresses_fit r) (list_all addresses_fit rs) fit in
    let both = and_parts (address_fits r.src) (address_fits r.dst) fits.0 in
    (fits_by r.src both.0, fits_by r.dst both.1, goes_by count r.target here.0, are.0, rules_fine count (i + 1) rs here.1 fits.1 are.1)

chains_fine : (count n : ℕ) (xs : List Chain) → first_unknown count n xs ≡ None → list_all (λ x. list_all addresses_fit x.rules) xs ≡ true → AreRules xs → ChainsAreFine count xs
chains_fine count n [] known fit parts = tt
chains_fine count n (x ∷ xs) known fit parts =
    let are = and_parts (list_all is_rule x.rules) (list_all (λ y. list_all is_rule y.rules) xs) parts in
    let here = none_at n (place_of_unknown count x.rules) (first_unknown count (n + 1) xs) known in
    let fits = and_parts (list_all addresses_fit x.rules) (list_all (λ y. list_all addresses_fit y.rules) xs) fit in
    (rules_fine count 0 x.rules here.0 fits.0 are.0, chains_fine count (n + 1) xs here.1 fits.1 are.1)

record IsAccepted (xs : List Chain) : Type 0 where
  few_chains : length xs ≤ 4096
  few_rules : rule_count xs ≤ 1000000
  known : first_unknown (length xs) 0 xs ≡ None

accepted_parts : (xs : List Chain) → refusal_of xs ≡ None → IsAccepted xs
unfolding refusal_of
accepted_parts xs fine = grind (arith, nat_tests)

pub has_fine_rules : (all : List Chain) → IsWritable all → HasFineRules all
unfolding accepted_parts
has_fine_rules all writable =
    let parts = accepted_parts all writable.accepted in
    record {
      named = writable.table;
      few_chains = parts.few_chains;
      few_rules = parts.few_rules;
      fine = chains_fine (length all) 0 all parts.known writable.addresses writable.parts;
      acyclic = writable.acyclic;
    }
