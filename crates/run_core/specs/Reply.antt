-- The reply of the program to its arguments: the exit status of the run, and a text for one of the two streams (docs/GUIDE.md,
-- docs/TEXTS.md).
use Rattle.std.specs.Prelude.{ℕ, List, ◌++◌, codes}
use Rattle.run_core.specs.declared.status.Status.{Status}
use Rattle.run_core.specs.declared.status.Status.TheVariants as status
use Rattle.run_core.specs.declared.status.Stream.{Stream}
use Rattle.run_core.specs.declared.status.Stream.TheVariants.{Errors}

-- A reply: the exit status, the stream, and the text for it.
pub record Reply : Type 0 where
  pub status : Status
  pub stream : Stream
  pub text : List ℕ

-- A line on the error stream.
abbrev pub error : Status → (line : List ℕ) → Reply
error ended line = record { status = ended; stream = Errors; text = line }

-- The reply to a file that cannot be read.
abbrev pub cannot_read : (file : List ℕ) → Reply
cannot_read file = error status.ReadFault (codes "topos: cannot read " ++ (file ++ codes "\n"))

-- The reply to an allocation failure.
abbrev pub no_memory : Reply
no_memory = error status.Memory (codes "topos: out of memory\n")

-- The line that states why a result cannot be emitted; the reason ends the line.
abbrev pub not_emittable : (why : List ℕ) → List ℕ
not_emittable why = codes "topos: not emittable: " ++ why

-- The line for a name that no host has.
abbrev pub no_host_line : (host : List ℕ) → List ℕ
no_host_line host = not_emittable (codes "no host " ++ (host ++ codes "\n"))
