-- The entry of the fields and the action of a flow line. Callers do not see this; they use `Grammar` and `Unwritten`.
use Rattle.std.specs.Prelude.{ℕ, false, if◌then◌else◌, List, [], ◌∷◌, Option, Some, None, Result, Ok, Err, codes, bytes_eq, unwrap_or}
use Rattle.std.specs.Map.{lookup}
use Rattle.ofp_rules.specs.declared.entry.FrameKind.TheVariants.{Any}
use Rattle.ofp_rules.specs.declared.entry.Action.{Action}
use Rattle.ofp_rules.specs.declared.entry.Action.TheVariants.{Normal, Drop}
use Rattle.ofp_rules.specs.declared.entry.Entry.{Entry}
use Rattle.ofp_rules.specs.Matching.{asks_of_ip}
use Rattle.ofp_read.specs.declared.fault.OfpWhy.{OfpWhy}
use Rattle.ofp_read.specs.declared.fault.OfpWhy.TheVariants.{NeedsIp, UnknownAction}
use Rattle.ofp_read.specs.declared.given.Given.{Given}

abbrev pub nothing_given : Given
nothing_given = record { priority = None; table = false; kind = None; src = None; dst = None; proto = None; tp_src = None; tp_dst = None }

abbrev pub actions : List (List ℕ × Action)
actions = (codes "actions=NORMAL", Normal) ∷ (codes "actions=normal", Normal) ∷ (codes "actions=drop", Drop) ∷ []

-- The action: one token, followed only by blanks.
abbrev pub action_of : List (List ℕ) → Option Action
action_of (word ∷ []) = lookup (bytes_eq word) actions
action_of _ = None

-- The entry of the parsed fields. The default priority is 32768, and the default kind is any frame.
abbrev pub entry_of : Given → Action → Entry
entry_of given action =
    record {
      priority = unwrap_or given.priority 32768;
      kind = unwrap_or given.kind Any;
      src = given.src;
      dst = given.dst;
      proto = given.proto;
      tp_src = given.tp_src;
      tp_dst = given.tp_dst;
      action = action;
    }

abbrev pub with_action : Given → Option Action → Result Entry OfpWhy
with_action given None = Err UnknownAction
with_action given (Some action) = if asks_of_ip (entry_of given action) then Ok (entry_of given action) else Err NeedsIp
