-- Each flow of a description is between two of its hosts.
use Rattle.std.proofs.Common.{refl, ◌≡◌, ℕ, inl, inr, true, sym, subst, eq-eqb, ◌==◌, ◌<◌, length, Option, Some, None, Bool, false, List, [], ◌∷◌, ◌∙◌}
use Rattle.std.proofs.lemmas.Bool.{false≢true, or_cases}
use Rattle.std.proofs.lemmas.Option.{option_and_then_some}
use Rattle.std.specs.List.{filter_map}
use Rattle.std.specs.Prelude.{IsTrue, if◌then◌else◌}
use Rattle.desc_core.specs.Flows.{flow_of_names}
use Rattle.desc_form.specs.RawFlow.{RawFlow}
use Rattle.flow_set.specs.declared.flow.Flow.{Flow}
use Rattle.flow_set.specs.Flow.{same_flow, IsFlow}
use Rattle.flow_set.specs.FlowSet.{has}
use Rattle.flow_set.specs.laws.FlowLaws.{has_nothing, same_flow-true}
use Rattle.host_net.specs.Host.{Host, host_named}
use Rattle.host_net.proofs.NamedLaws.{host_named_within}

abbrev flow_unless : Bool → ℕ → ℕ → Option Flow
flow_unless same from to = if same then None else Some (record { from = from; to = to })

ends_differ : (b : Bool) (n from to : ℕ) (f : Flow) → (from == to) ≡ b → from < n → to < n → flow_unless b from to ≡ Some f → IsFlow n f
ends_differ true n from to f same is_from is_to is = cc
ends_differ false n from to f same is_from is_to is =
    let between : Flow = record { from = from; to = to } in
    let ends : between ≡ f = cc in
    subst (IsFlow n) ends (is_from, is_to, λ e. false≢true (sym same ∙ eq-eqb from to e))

-- A flow between two names is one between two of the hosts.
pub IsFlow-flow_of_names : (hosts : List Host) (names : RawFlow) (f : Flow) → flow_of_names hosts names ≡ Some f
    → IsFlow (length hosts) f
IsFlow-flow_of_names hosts names f is =
    option_and_then_some _ (host_named hosts names.from) f is (λ from is_from with_to.
    option_and_then_some (λ to. flow_unless (from == to) from to) (host_named hosts names.to) f with_to (λ to is_to last.
    ends_differ (from == to) (length hosts) from to f refl (host_named_within hosts names.from from is_from) (host_named_within hosts names.to to is_to) last))

between_by : (hosts : List Host) (names : RawFlow) (pairs : List RawFlow) (o : Option Flow) → flow_of_names hosts names ≡ o
    → ((f : Flow) → IsTrue (has (filter_map (flow_of_names hosts) pairs) f) → IsFlow (length hosts) f)
    → (f : Flow) → IsTrue (has (filter_map (flow_of_names hosts) (names ∷ pairs)) f) → IsFlow (length hosts) f
between_by hosts names pairs None is later f listed = later f (rw is at listed)
between_by hosts names pairs (Some g) is later f listed =
    elim (or_cases (same_flow g f) (has (filter_map (flow_of_names hosts) pairs) f) (rw is at listed)) [
      | inl same ↦ subst (IsFlow (length hosts)) (same_flow-true g f same) (IsFlow-flow_of_names hosts names g is)
      | inr behind ↦ later f behind
    ]

-- The listed flows of a description are flows between two of its hosts.
pub are_between : (hosts : List Host) (pairs : List RawFlow) (f : Flow) → IsTrue (has (filter_map (flow_of_names hosts) pairs) f)
    → IsFlow (length hosts) f
are_between hosts [] f listed = has_nothing f listed
are_between hosts (names ∷ pairs) f listed = between_by hosts names pairs (flow_of_names hosts names) refl (are_between hosts pairs) f listed
