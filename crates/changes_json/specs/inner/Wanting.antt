-- Conditions on findings. Internal: callers use `Weakening`.
use Rattle.std.specs.Prelude.{Bool, length}
use Rattle.explain_core.specs.declared.finding.Finding.{Finding}
use Rattle.flow_set.specs.Flow.{IsFlow}
use Rattle.net_core.specs.Policies.{IsPolicyOf}
use Rattle.changes_json.specs.Weakening.{is_denied, is_free, is_gap_of}
use Rattle.changes_json.specs.declared.weakening.Wanted.{Wanted}
use Rattle.changes_json.specs.declared.weakening.Wanted.TheVariants.{Denied, Free, Gap}

-- The finding satisfies the condition.
abbrev pub is_wanted : Wanted → Finding → Bool
is_wanted Denied x = is_denied x
is_wanted Free x = is_free x
is_wanted (Gap description policy) x = is_gap_of description.now policy.now x

-- The condition can be evaluated on the finding: its flow is a flow of the network, and the policy is that of the network.
abbrev pub IsJudgedBy : Wanted → Finding → Type 0
IsJudgedBy Denied x = Unit {0}
IsJudgedBy Free x = Unit {0}
IsJudgedBy (Gap description policy) x = IsPolicyOf description.now policy.now × IsFlow (length description.now.hosts) x.flow
