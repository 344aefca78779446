-- The result of reading a whole file if the files of the shelf are observable.
use Rattle.std.specs.Prelude.{ℕ, Option, None, Some, Result, Ok, Err, nat_le, if◌then◌else◌, List, length}
use Rattle.std.specs.Global.{Global}
use Rattle.std.specs.Result.{result_map_both}
use Rattle.std.specs.declared.vec.Vec.{Vec}
use Rattle.edge_io.specs.declared.faults.TakeFault.{TakeFault}
use Rattle.edge_io.specs.declared.faults.TakeFault.TheVariants.{Read, TooLong}

-- The result that the bytes of a file determine, if there is such a file.
abbrev pub answer_for : ℕ → Option (List ℕ) → Result (List ℕ) TakeFault
answer_for limit None = Err Read
answer_for limit (Some bytes) = if nat_le (length bytes) limit then Ok bytes else Err TooLong

-- The bytes that were read, or the reason of the failure.
abbrev pub outcome_of : Result (Vec ℕ Global) TakeFault → Result (List ℕ) TakeFault
outcome_of result = result_map_both (λ bytes. bytes.items) (λ why. why) result
