-- The effect of an in-place edit of one flow on a table and its network.
use Rattle.std.specs.Prelude.{◌≡◌, ◌++◌, ◌∷◌, [], List, Some, Ok, codes, filter, not}
use Rattle.edit_core.specs.Edited.{after_edit, is_between, text_list, with_list}
use Rattle.edit_core.specs.inner.FlowEdits.{IsAskedFlow, IsRightFlow}
use Rattle.edit_core.specs.Summaries.{IsSummary}
use Rattle.edit_core.specs.declared.summary.Summary.{Summary}
use Rattle.edit_core.specs.Edit.{Change, Add, Remove}
use Rattle.flow_set.specs.declared.flow.Flow.{Flow}
use Rattle.host_net.specs.Services.{services_of}
use Rattle.net_core.specs.inner.Asking.{asking_for, not_asking_for}
use Rattle.net_core.specs.Network.{Network}
use Rattle.table_core.specs.Tables.{elements_of, list_at}
use Rattle.toml.specs.Data.{Data, Members, array}
use Rattle.toml.specs.View.{items_of}

-- The edit leads from one table to the other, and the summary is that of the new table.
abbrev pub IsDone : Change → (old new : Members) → Summary → Type 0
IsDone change old new summary = (after_edit change old ≡ Ok new) × IsSummary new summary

-- The edit adds or removes this flow, which is allowed, and the flow has no services.
abbrev pub IsOfFlow : (table : Members) → Network → Change → Flow → Type 0
IsOfFlow table d (Add words) f = IsRightFlow table d words f []
IsOfFlow table d (Remove from to) f = IsAskedFlow d from to f × (services_of d.services f.from f.to ≡ [])
IsOfFlow table d _ f = ⊥

-- The network after an edit of this flow.
abbrev pub network_after : Change → Flow → Network → Network
network_after (Add words) f d = asking_for d f
network_after (Remove from to) f d = not_asking_for d f
network_after _ f d = d

-- The elements of the list of flows after an edit.
abbrev pub flows_after : Change → List Data → List Data
flows_after (Add words) ds = ds ++ text_list words ∷ []
flows_after (Remove from to) ds = filter (λ d. not (is_between from to d)) ds
flows_after _ ds = ds

-- A list of flows, before and after an edit.
abbrev pub IsListAfter : Change → (old new : Data) → Type 0
IsListAfter change old new = (ds : List Data) × (elements_of old ≡ Some ds) × (new ≡ array (items_of (flows_after change ds)))

-- A table that lists flows, before and after an edit.
abbrev pub IsTableAfter : Change → (old new : Members) → Type 0
IsTableAfter change old new =
    (ds : List Data) × (list_at (codes "flow") old ≡ Some ds) × (new ≡ with_list (codes "flow") (flows_after change ds) old)
