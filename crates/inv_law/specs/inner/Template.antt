-- The attributes that the hosts of a template may have, and the reason for its default: any other attribute exonerates an offending host,
-- so it would hide a violation.
use Rattle.std.specs.Prelude.{◌≡◌, ◌≢◌, ℕ, ◌≤◌, ◌<◌, List, [], ◌∷◌, length, slice_index_or, slice_set}
use Rattle.flow_set.specs.Conditions.{IsMinimalOffending}
use Rattle.flow_set.specs.Flow.{IsFlow}
use Rattle.flow_set.specs.declared.flow.Flow.{Flow}
use Rattle.inv_law.specs.Template.{Template}
use Rattle.inv_law.specs.inner.Invariants.{IsOffendingHost}

-- Each host has an attribute that it may have.
abbrev pub AllMayHave : (t : Template) → List t.Attribute → Type 0
AllMayHave t hosts =
    (host : ℕ) → host < length hosts → t.MayHave (length hosts) host (slice_index_or hosts host (t.default (length hosts) host))

-- The default is an attribute that each host may have.
abbrev pub MayHaveDefault : Template → Type 0
MayHaveDefault t = (n host : ℕ) → host < n → t.MayHave n host (t.default n host)

-- There are n hosts, each with an attribute that it may have, and a flow between them that is a minimal offending set of itself, with this
-- offending host; with the attribute x at the host, the invariant holds on the flow.
pub record LetsOff (t : Template) (n host : ℕ) (x : t.Attribute) : Type 0 where
  pub hosts : List t.Attribute
  pub sized : length hosts ≡ n
  pub may : AllMayHave t hosts
  pub flow : Flow
  pub is_flow : IsFlow n flow
  pub offends : IsMinimalOffending (t.Holds hosts) (flow ∷ []) (flow ∷ [])
  pub blamed : IsOffendingHost t.strategy (flow ∷ []) host
  pub holds_without : t.Holds (slice_set hosts host x) (flow ∷ [])

-- The default is the only attribute that is a secure default: every other attribute that a host may have exonerates it,
-- for two hosts or more and at each host.
abbrev pub OnlyDefaultIsSecure : Template → Type 0
OnlyDefaultIsSecure t =
    (n host : ℕ) (x : t.Attribute) → 2 ≤ n → host < n → t.MayHave n host x → x ≢ t.default n host → LetsOff t n host x
