-- The formats of files: the parse result of a file, and the reasons to reject it.
use Rattle.std.specs.Prelude.{◌≡◌, ℕ, List, Ok, Err}
use Rattle.desc_core.specs.Conditions.{byte_limit}
use Rattle.desc_core.specs.Description.{described}
use Rattle.desc_form.specs.declared.refusal.Refusal.{Refusal}
use Rattle.net_core.specs.Network.{Network}
use Rattle.report_core.specs.RefusalLine.{refusal_text}
use Rattle.run_core.specs.Reply.{Reply, error}
use Rattle.run_core.specs.declared.status.Status.{Status}
use Rattle.run_core.specs.declared.status.Status.TheVariants as status

-- The format of a file: the type of its parse results, its size limit, the parse result of the bytes, the reasons to reject them, and
-- the status of a run that a rejection ends.
pub record FileFormat : Type 1 where
  pub Said : Type 0
  pub most : ℕ
  pub Reads : List ℕ → Said → Type 0
  pub Refuses : (bytes line : List ℕ) → Type 0
  pub refused_as : Status

-- The bytes are no description, and the line reports the refusal.
abbrev pub IsNoDescription : (bytes line : List ℕ) → Type 0
IsNoDescription bytes line = (why : Refusal) × (described bytes ≡ Err why) × (line ≡ refusal_text why)

-- A description, with this parse result.
abbrev pub description_as : (Said : Type 0) → (List ℕ → Said → Type 0) → FileFormat
description_as Said Reads = record { Said = Said; most = byte_limit; Reads = Reads; Refuses = IsNoDescription; refused_as = status.BadDescription }

-- The description of a network.
abbrev pub description : FileFormat
description = description_as Network (λ bytes d. described bytes ≡ Ok d)

-- A line-oriented file.
abbrev pub text : (Said : Type 0) → ℕ → (List ℕ → Said → Type 0) → (Refuses : (bytes line : List ℕ) → Type 0) → FileFormat
text Said most Reads Refuses = record { Said = Said; most = most; Reads = Reads; Refuses = Refuses; refused_as = status.BadText }

-- The reply to bytes that are rejected.
pub record IsRefused (format : FileFormat) (bytes : List ℕ) (given : Reply) : Type 0 where
  pub line : List ℕ
  pub refuses : format.Refuses bytes line
  pub replied : given ≡ error format.refused_as line
