-- The model of a shelf in memory, and the effects of its calls.
use Rattle.std.specs.Prelude.{◌≡◌, ℕ, ◌||◌, Bool, false, not, Option, None, Some, Result, min, if◌then◌else◌, List, [], length, drop, is_none, is_err, IfOk}
use Rattle.std.specs.FinMap.{empty, get, insert}
use Rattle.edge_io.specs.declared.faults.Failed.{Failed}
use Rattle.edge_io.specs.Counts.{more}
use Rattle.edge_io.specs.inner.FaultPlan.{Plan, fresh, fails_next, after_call}
use Rattle.edge_io.specs.Observable.{Files}

-- The model: its files, whether one is open, the unread bytes of the open file, its counts, and its planned faults.
pub record Shelved : Type 0 where
  pub files : Files
  pub begun : Bool
  pub left : List ℕ
  pub taken : ℕ
  pub begins : ℕ
  pub plan : Plan

-- A shelf without files, before the first call.
abbrev pub fresh_shelf : List ℕ → Shelved
fresh_shelf fails = record { files = empty; begun = false; left = []; taken = 0; begins = 0; plan = fresh fails }

-- The shelf after a file was put: no file is open.
abbrev pub with_file : Shelved → List ℕ → List ℕ → Shelved
with_file shelf name bytes = record shelf { files = insert shelf.files name bytes; begun = false; left = [] }

-- A call of `begin` fails by its number, or if no file has the name.
abbrev pub fails_to_begin : Shelved → List ℕ → Bool
fails_to_begin shelf name = fails_next shelf.plan || is_none (get shelf.files name)

-- The unread bytes after a call of `begin`.
abbrev pub left_of : Option (List ℕ) → List ℕ
left_of None = []
left_of (Some bytes) = bytes

-- The shelf after a call of `begin`. A missing name does not change the count of faults.
abbrev pub after_begin : Shelved → List ℕ → Shelved
after_begin shelf name =
    record {
      files = shelf.files;
      begun = not (fails_to_begin shelf name);
      left = if fails_next shelf.plan then [] else left_of (get shelf.files name);
      taken = 0;
      begins = more shelf.begins 1;
      plan = after_call shelf.plan;
    }

-- The result and the effect of `begin`.
pub record Begins (old : Shelved) (name : List ℕ) (result : Result (Unit {0}) Failed) (new : Shelved) : Type 0 where
  pub fails : is_err result ≡ fails_to_begin old name
  pub after : new ≡ after_begin old name

-- The shelf after a successful read into a buffer of this size.
abbrev pub after_read : Shelved → ℕ → Shelved
after_read shelf room =
    record shelf { left = drop room shelf.left; taken = more shelf.taken (min room (length shelf.left)); plan = after_call shelf.plan }

-- The result and the effect of `read`: it fails only by its number, and otherwise fills `into` as far as there are
-- bytes.
pub record Reads (old : Shelved) (into : List ℕ) (result : Result ℕ Failed) (new : Shelved) : Type 0 where
  pub fails : is_err result ≡ fails_next old.plan
  pub count : IfOk result (λ n. n ≡ min (length into) (length old.left))
  pub after : new ≡ (if fails_next old.plan then record old { plan = after_call old.plan } else after_read old (length into))
