-- Lists of weaker flows, and tests of gaps. Internal: callers use `Weaker`.
use Rattle.std.specs.Prelude.{ℕ, Bool, if◌then◌else◌, List, [], ◌∷◌, Option, Some, None}
use Rattle.std.specs.List.{flat_map, list_any}
use Rattle.std.specs.Option.{is_none}
use Rattle.std.specs.Global.{Global}
use Rattle.std.specs.declared.vec.Vec.{Vec}
use Rattle.host_net.specs.Services.{RestrictedFlow}
use Rattle.flow_set.specs.declared.flow.Flow.{Flow}
use Rattle.change_core.specs.declared.weaker.Weaker.{Weaker}
use Rattle.change_core.specs.inner.Serving.{flows_meet}
use Rattle.change_core.specs.inner.Sharing.{flow_in, row_at}

-- The pair of flow f and the old flow, if there is one and its services meet those of f.
abbrev pub weaker_with : (services_fit : Flow → Bool) → Flow → Option Flow → List Weaker
weaker_with services_fit f None = []
weaker_with services_fit f (Some g) = if services_fit g then record { flow = f; old = g } ∷ [] else []

-- The pairs of flow f and the denied flows from one owner to each of the others.
abbrev pub weaker_from : (services_fit : Flow → Bool) → List Flow → Flow → List (Option ℕ) → Option ℕ → List Weaker
weaker_from services_fit denied f to sender = flat_map (λ receiver. weaker_with services_fit f (flow_in denied sender receiver)) to

-- The pairs of flow f and the denied flows between the owners in the rows of its hosts.
abbrev pub weaker_of : (new old : List RestrictedFlow) → List Flow → List (Vec (Option ℕ) Global) → Flow → List Weaker
weaker_of new old denied rows f = flat_map (weaker_from (flows_meet new old f) denied f (row_at rows f.to)) (row_at rows f.from)

-- The list lacks a flow from the owner to one of the others.
abbrev pub lacks_from : List Flow → List (Option ℕ) → Option ℕ → Bool
lacks_from flows to sender = list_any (λ receiver. is_none (flow_in flows sender receiver)) to

-- The list lacks a flow from one of the owners to another.
abbrev pub lacks_some : List Flow → (from to : List (Option ℕ)) → Bool
lacks_some flows from to = list_any (lacks_from flows to) from

-- The list of old gaps lacks a flow between two owners in the rows of the hosts of flow f.
abbrev pub is_new : List Flow → List (Vec (Option ℕ) Global) → Flow → Bool
is_new old_gaps rows f = lacks_some old_gaps (row_at rows f.from) (row_at rows f.to)
