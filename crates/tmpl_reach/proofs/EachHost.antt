-- Iteration over the hosts of a set, from the first on.
use Rattle.std.proofs.Common.{ℕ, ◌+◌, ◌<◌, ◌≤◌, inl, inr, sym, subst, arith}
use Rattle.std.specs.Prelude.{IsTrue}
use Rattle.std.specs.FinSet as set
use Rattle.std.proofs.lemmas.Bool.{both_ways, cases_eq, cases_lt}
use Rattle.flow_set.specs.HostSet.{HostNumbers}
use Rattle.flow_set.specs.inner.Calls.{HasNone, IsFirstFrom}
use Rattle.tmpl_reach.specs.inner.EachOf.{EachOf}

-- A property of each host below `from`.
abbrev pub UpTo : HostNumbers → (ℕ → Type 0) → ℕ → Type 0
UpTo hosts P from = (host : ℕ) → host < from → IsTrue (set.contains hosts host) → P host

pub upto_next : (hosts : HostNumbers) (P : ℕ → Type 0) (from host : ℕ) → UpTo hosts P from
    → IsFirstFrom (set.contains hosts) from host → P host → UpTo hosts P (host + 1)
upto_next hosts P from host sofar first here k below there =
    elim (cases_eq k host) [
      | inl same ↦ subst P (sym same) here
      | inr other ↦ elim (cases_lt k from) [
        | inl before ↦ sofar k before there
        | inr late ↦ absurd (both_ways (set.contains hosts k) (first.none_before k late (omega (arith, below, other))) there)
      ]
    ]

pub upto_end : (hosts : HostNumbers) (P : ℕ → Type 0) (from n : ℕ) → UpTo hosts P from → HasNone (set.contains hosts) from 256
    → EachOf hosts (λ host. host < n) → n ≤ 256 → EachOf hosts P
upto_end hosts P from n sofar none below small host there = elim (cases_lt host from) [
  | inl before ↦ sofar host before there
  | inr late ↦ absurd (both_ways (set.contains hosts host) (none host late (omega (arith, below host there, small))) there)
]
