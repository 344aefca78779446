-- A chain that is read at an index is the chain with that number.
use Rattle.std.proofs.Common.{◌≡◌, ℕ, ◌<◌, ◌∙◌, sym, ap, List, Some, length, get_or}
use Rattle.std.specs.Prelude.{slice_get}
use Rattle.std.proofs.lemmas.Option.{slice_get-get_or}
use Rattle.ipt_rules.specs.Chain.{Chain, rules_of, name_of, policy_of}
use Rattle.ipt_rules.specs.inner.ChainTable.{rules_in, name_in, policy_in}

pub chain_read : (xs : List Chain) (c : ℕ) (x : Chain) → c < length xs → x ≡ get_or xs c x → slice_get xs c ≡ Some x
chain_read xs c x h is = slice_get-get_or xs c x h ∙ ap (λ (y : Chain). Some y) (sym is)

pub rules_of_read : (xs : List Chain) (c : ℕ) (x : Chain) → c < length xs → x ≡ get_or xs c x → rules_of xs c ≡ x.rules
rules_of_read xs c x h is = ap rules_in (chain_read xs c x h is)

pub name_of_read : (xs : List Chain) (c : ℕ) (x : Chain) → c < length xs → x ≡ get_or xs c x → name_of xs c ≡ x.name
name_of_read xs c x h is = ap name_in (chain_read xs c x h is)

pub policy_of_read : (xs : List Chain) (c : ℕ) (x : Chain) → c < length xs → x ≡ get_or xs c x → policy_of xs c ≡ x.policy
policy_of_read xs c x h is = ap policy_in (chain_read xs c x h is)
