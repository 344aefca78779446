-- The model of a sink in memory, and the effect of a write.
use Rattle.std.specs.Prelude.{◌≡◌, ℕ, ◌-◌, ◌&&◌, ◌||◌, Bool, Result, nat_lt, nat_le, min, if◌then◌else◌, List, [], ◌++◌, length, take, is_err, IfOk}
use Rattle.edge_io.specs.declared.faults.Failed.{Failed}
use Rattle.edge_io.specs.inner.FaultPlan.{Plan, fresh, fails_next, counted, with_fault}

-- The model: the accepted bytes, the total capacity, the greatest size of one write, and the planned faults.
pub record Held : Type 0 where
  pub bytes : List ℕ
  pub room : ℕ
  pub grain : ℕ
  pub plan : Plan

-- A sink before the first write.
abbrev pub fresh_sink : ℕ → ℕ → List ℕ → Held
fresh_sink room grain fails = record { bytes = []; room = room; grain = grain; plan = fresh fails }

-- The sink is full.
abbrev pub is_full : Held → Bool
is_full sink = nat_le sink.room (length sink.bytes)

-- A write fails by its number, or if the piece is not empty and the sink is full.
abbrev pub fails_on : Held → List ℕ → Bool
fails_on sink piece = fails_next sink.plan || (nat_lt 0 (length piece) && is_full sink)

-- The prefix of a piece that one write accepts, limited by the grain and the free capacity.
abbrev pub part_taken : Held → List ℕ → List ℕ
part_taken sink piece = take (min sink.grain (sink.room - length sink.bytes)) piece

-- The sink after a write.
abbrev pub after_write : Held → List ℕ → Held
after_write sink piece =
    if fails_on sink piece
    then record sink { plan = with_fault (counted sink.plan) }
    else record sink { plan = counted sink.plan; bytes = sink.bytes ++ part_taken sink piece }

-- The result and the effect of a write.
pub record Writes (old : Held) (piece : List ℕ) (result : Result ℕ Failed) (new : Held) : Type 0 where
  pub fails : is_err result ≡ fails_on old piece
  pub count : IfOk result (λ n. n ≡ length (part_taken old piece))
  pub after : new ≡ after_write old piece
