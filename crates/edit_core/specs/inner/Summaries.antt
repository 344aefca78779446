-- The results of a session.
use Rattle.std.specs.Prelude.{◌≡◌, Result, Ok, Err}
use Rattle.edit_core.specs.Edited.{after_edit}
use Rattle.edit_core.specs.inner.Kept.{IsKept}
use Rattle.edit_core.specs.declared.fault.ChangeFault.{ChangeFault}
use Rattle.edit_core.specs.declared.fault.EditFault.{EditFault}
use Rattle.edit_core.specs.inner.EditFaults.{cause_of}
use Rattle.edit_core.specs.declared.fault.ChangeFault.TheVariants.{Refused, Memory}
use Rattle.edit_core.specs.declared.summary.Summary.{Summary}
use Rattle.edit_core.specs.Edit.{Change}
use Rattle.net_core.specs.Network.{Network}
use Rattle.net_core.specs.Policies.{Policy}
use Rattle.toml.specs.Data.{Members}
use Rattle.edit_core.specs.Summaries.{IsSummary}

-- The property holds for the policy of the network that the table describes.
abbrev pub HasPolicy : Members → (Policy → Type 0) → Type 0
HasPolicy table Is = (d : Network) × (policy : Policy) × IsKept table d policy × Is policy

-- The edit leads from the old table to the new one, and the summary is that of the new table; or the edit is refused for this reason, and
-- the table is unchanged.
abbrev pub IsApplied : Change → (old new : Members) → Result Summary ChangeFault → Type 0
IsApplied change old new (Ok summary) = (after_edit change old ≡ Ok new) × IsSummary new summary
IsApplied change old new (Err (Refused why)) = (after_edit change old ≡ Err why) × (new ≡ old)
IsApplied change old new (Err Memory) = new ≡ old

-- The same, with a case of the error for each reason.
abbrev pub IsEdited : Change → (old new : Members) → Result Summary EditFault → Type 0
IsEdited change old new (Ok summary) = IsApplied change old new (Ok summary)
IsEdited change old new (Err fault) = IsApplied change old new (Err (cause_of fault))
