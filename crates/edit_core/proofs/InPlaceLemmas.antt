-- An in-place edit of one flow of the table and the network.
use Rattle.std.proofs.Common.{◌≡◌, [], Ok, sym, ap, ◌∙◌}
use Rattle.desc_core.specs.Description.{described_by_table}
use Rattle.edit_core.proofs.FlowLaws.{added, after_added, after_removed, removed, unnarrowed}
use Rattle.edit_core.specs.Edited.{after_edit}
use Rattle.edit_core.specs.inner.FlowEdits.{asking_less}
use Rattle.edit_core.specs.inner.InPlace.{IsDone, IsOfFlow, IsTableAfter, network_after}
use Rattle.edit_core.specs.Summaries.{Summarizes}
use Rattle.edit_core.specs.declared.summary.Summary.{Summary}
use Rattle.edit_core.specs.Edit.{Change, Add, Remove, Set, Unset}
use Rattle.flow_set.specs.declared.flow.Flow.{Flow}
use Rattle.host_net.specs.Services.{services_of}
use Rattle.net_core.specs.inner.Asking.{not_asking_for}
use Rattle.net_core.specs.Network.{Network}
use Rattle.net_core.specs.Policies.{IsPolicyOf, Policy}
use Rattle.toml.specs.Data.{Members}

-- A flow without services leaves the services unchanged.
less_whole : (old : Members) (d : Network) (f : Flow) → described_by_table old ≡ Ok d → services_of d.services f.from f.to ≡ []
    → asking_less d f ≡ not_asking_for d f
less_whole old d f said whole = λ i. record (not_asking_for d f) { services = unnarrowed old d f said whole i }

-- The network that the table describes.
pub described_after : (change : Change) (old new : Members) (d e : Network) (f : Flow) → described_by_table old ≡ Ok d → IsOfFlow old d change f
    → IsTableAfter change old new → e ≡ network_after change f d → described_by_table new ≡ Ok e
described_after (Add words) old new d e f said right p after =
    ap described_by_table p.2 ∙ added old p.0 d words f [] p.1 said right ∙ ap (λ (n : Network). Ok n) (sym after)
described_after (Remove from to) old new d e f said right p after =
    ap described_by_table p.2 ∙ removed old p.0 d from to f p.1 said right.0
    ∙ ap (λ (n : Network). Ok n) (less_whole old d f said right.1 ∙ sym after)
described_after (Set k assign) old new d e f said right p after = absurd right
described_after (Unset k host) old new d e f said right p after = absurd right

-- The table is the table after the edit.
table_after : (change : Change) (old new : Members) (d : Network) (f : Flow) → described_by_table old ≡ Ok d → IsOfFlow old d change f
    → IsTableAfter change old new → after_edit change old ≡ Ok new
table_after (Add words) old new d f said right p = after_added old p.0 d words f [] p.1 said right ∙ ap (λ (ms : Members). Ok ms) (sym p.2)
table_after (Remove from to) old new d f said right p = after_removed old p.0 d from to f p.1 said right.0 ∙ ap (λ (ms : Members). Ok ms) (sym p.2)
table_after (Set k assign) old new d f said right p = absurd right
table_after (Unset k host) old new d f said right p = absurd right

pub done_after : (change : Change) (old new : Members) (d e : Network) (policy : Policy) (summary : Summary) (f : Flow) → described_by_table old ≡ Ok d
    → IsOfFlow old d change f → IsTableAfter change old new → e ≡ network_after change f d → IsPolicyOf e policy → Summarizes e policy summary
    → IsDone change old new summary
done_after change old new d e policy summary f said right p after is_policy tells = (
  table_after change old new d f said right p,
  (e, policy, described_after change old new d e f said right p after, is_policy, tells),
)
