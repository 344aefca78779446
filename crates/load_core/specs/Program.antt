-- The reply of a run, and its delivery to the streams.
use Rattle.std.specs.Prelude.{◌≡◌, ℕ, ◌⊎◌, List, [], codes, Result, Ok, Err}
use Rattle.std.specs.Io.KnownBytes.{append_known}
use Rattle.edge_io.specs.Counts.{Rose}
use Rattle.edge_io.specs.Observable.{AppendsPrefixOf}
use Rattle.edge_io.specs.declared.traits.Sink.{Ghosts}
use Rattle.load_core.specs.Words.{lines_of, refusal_line, usage_text}
use Rattle.load_core.specs.declared.order.Order.{Order}
use Rattle.load_core.specs.declared.order.Refusal.{Refusal}
use Rattle.load_core.specs.declared.status.Status.{Status}
use Rattle.load_core.specs.declared.status.Status.TheVariants.{Done, WriteFault, Memory, Usage, Refused}

-- The exit status: 64 and 69 are those of sysexits.h.
abbrev pub number_of : Status → ℕ
number_of Done = 0
number_of WriteFault = 7
number_of Memory = 8
number_of Usage = 64
number_of Refused = 69

-- The status of a run, and what it writes to the output and to the error stream.
pub record Reply : Type 0 where
  pub status : Status
  pub output : List ℕ
  pub errors : List ℕ

abbrev pub usage_reply : Reply
usage_reply = record { status = Usage; output = []; errors = usage_text }

-- The orders are on the output, or one line says why there are none.
abbrev pub reply_of : Result (List Order) Refusal → Reply
reply_of (Ok orders) = record { status = Done; output = lines_of orders; errors = [] }
reply_of (Err why) = record { status = Refused; output = []; errors = refusal_line why }

module _ {S : Type 0} where
  -- The sink has all of the bytes.
  abbrev pub Appends : Ghosts S → (old new : S) → List ℕ → Type 0
  Appends O old new bytes = O.held new ≡ append_known (O.held old) bytes

  -- The sink has all of the bytes, or it counted a fault after a prefix of them.
  abbrev pub AppendsUpToFault : Ghosts S → (old new : S) → List ℕ → Type 0
  AppendsUpToFault O old new bytes =
      AppendsPrefixOf (O.held old) (O.held new) bytes × (Rose (O.faults old) (O.faults new) ⊎ Appends O old new bytes)

-- The reply is delivered: the run ends with its status, and its bytes are on the streams. Or the output failed after a prefix of its bytes,
-- and the error stream says so. A fault of the error stream changes nothing else.
abbrev pub IsDelivered : {S T : Type 0} → Ghosts S → Ghosts T → (old_out new_out : S) → (old_err new_err : T) → Reply → Status → Type 0
IsDelivered O E old_out new_out old_err new_err reply ended =
    ((ended ≡ reply.status) × Appends O old_out new_out reply.output × AppendsUpToFault E old_err new_err reply.errors)
    ⊎ ((ended ≡ WriteFault)
    × AppendsPrefixOf (O.held old_out) (O.held new_out) reply.output
    × Rose (O.faults old_out) (O.faults new_out)
    × AppendsUpToFault E old_err new_err (codes "topos-step: cannot write\n"))
