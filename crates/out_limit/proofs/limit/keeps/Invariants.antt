use Rattle.std.proofs.Common.{ℕ, ◌<◌, ◌≤◌, length, slice_index_or}
use Rattle.out_limit.specs.inner.OutLimit.{sent_by}
use Rattle.out_limit.proofs.limit.keeps.Given as goal

-- The hosts so far are within their bounds.
abbrev pub invariant-loop-host : goal.invariant-loop-host
invariant-loop-host l = (host : ℕ) → host < l.host → length (sent_by host l.e.flows) ≤ slice_index_or l.limits host 0
