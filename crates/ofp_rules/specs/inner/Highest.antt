-- The matching entry of the highest priority, found in one pass. Not visible to callers, which use `Meaning`.
use Rattle.std.specs.Prelude.{ℕ, Bool, true, ◌&&◌, nat_lt, if◌then◌else◌, List, Option, Some, None}
use Rattle.host_net.specs.declared.packet.Verdict.{Verdict}
use Rattle.host_net.specs.declared.packet.Verdict.TheVariants.{Drop as Dropped}
use Rattle.ofp_rules.specs.declared.entry.Frame.{Frame}
use Rattle.ofp_rules.specs.declared.entry.Entry.{Entry}
use Rattle.ofp_rules.specs.Matching.{matches}
use Rattle.ofp_rules.specs.Semantics.{IsHighest, MatchesNone, verdict_of}

-- The entry found is a matching entry of the highest priority, or None if no entry matches.
abbrev pub IsFound : List Entry → Frame → Option Entry → Type 0
IsFound entries frame None = MatchesNone entries frame
IsFound entries frame (Some e) = IsHighest entries frame e

abbrev pub is_above : ℕ → Option Entry → Bool
is_above priority None = true
is_above priority (Some e) = nat_lt e.priority priority

-- The entry found after one more entry.
abbrev pub higher : Frame → Option Entry → Entry → Option Entry
higher frame found e = if matches frame e && is_above e.priority found then Some e else found

abbrev pub verdict_by : Option Entry → Verdict
verdict_by None = Dropped
verdict_by (Some e) = verdict_of e.action
