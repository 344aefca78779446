-- The rules that a traversal skips, by the addresses that they match on. These definitions are internal; callers use `Meaning`.
use Rattle.std.specs.Prelude.{◌≡◌, ◌≤◌, ◌<◌, ℕ, Bool, false, if◌then◌else◌, List, map, length, slice_get, Option, Some, None}
use Rattle.host_net.specs.declared.tuple_space.TupleSpaceIndex.{TupleSpaceIndex}
use Rattle.host_net.specs.declared.tuple_space.Ends.{Ends}
use Rattle.host_net.specs.declared.prefix.Prefix.{Prefix}
use Rattle.host_net.specs.inner.CoverView.{IsIndexOf}
use Rattle.ipt_rules.specs.declared.rule.AddrMatch.{AddrMatch}
use Rattle.ipt_rules.specs.declared.rule.Rule.{Rule}
use Rattle.ipt_rules.specs.Chain.{Chain, rules_of}

-- The prefix that has to cover the address. A match with a `!` has none.
abbrev pub part_of : Option AddrMatch → Option Prefix
part_of None = None
part_of (Some part) = if part.negated then None else Some part.prefix

abbrev pub ends_of : Rule → Ends
ends_of r = record { src = part_of r.src; dst = part_of r.dst }

abbrev pub all_ends : List Rule → List Ends
all_ends rules = map ends_of rules

-- No rule at an index from `from` on and before `to` matches.
abbrev pub NoneFits : (Rule → Bool) → List Rule → ℕ → ℕ → Type 0
NoneFits fits rules from to = (i : ℕ) (r : Rule) → from ≤ i → i < to → slice_get rules i ≡ Some r → fits r ≡ false

-- All rules at an index from `from` on and before `at` do not match.
pub record IsNextAt (fits : Rule → Bool) (rules : List Rule) (from at : ℕ) : Type 0 where
  pub later : from ≤ at
  pub within : at < length rules
  pub passed : NoneFits fits rules from at

abbrev pub IsNext : (Rule → Bool) → List Rule → ℕ → Option ℕ → Type 0
IsNext fits rules from None = NoneFits fits rules from (length rules)
IsNext fits rules from (Some at) = IsNextAt fits rules from at

-- Each index is an index of the rules of its chain.
abbrev pub AreIndexes : List TupleSpaceIndex → List Chain → Type 0
AreIndexes indexes chains = (c : ℕ) (index : TupleSpaceIndex) → slice_get indexes c ≡ Some index → IsIndexOf (all_ends (rules_of chains c)) index
