-- `changes OLD NEW`: the packets that only one of the policies of two descriptions permits, or permits answers to.
use Rattle.std.specs.Prelude.{◌≡◌, ◌↔◌, ℕ, Bool, true, false, not, List, [], ◌∷◌}
use Rattle.change_core.specs.Changes.{AreChanges, IsComplete, TreatAlike}
use Rattle.change_core.specs.declared.change.Change.{Change}
use Rattle.net_core.specs.Network.{Network}
use Rattle.net_core.specs.Policies.{IsPolicyOf, Policy}
use Rattle.pkt_core.specs.FlowPolicy.{FlowPolicy}
use Rattle.json_core.specs.Json.{is_nothing}
use Rattle.changes_json.specs.ChangesJson.{changes_json}
use Rattle.changes_json.specs.Weakening.{IsWeakening}
use Rattle.changes_json.specs.declared.weakening.Weakening.{Weakening}
use Rattle.report_core.specs.FlowPolicies.{flow_policy_of}
use Rattle.run_core.specs.Outcomes.{Outcome, Outcomes}
use Rattle.run_core.specs.declared.status.Status.{Status}
use Rattle.run_core.specs.declared.status.Status.TheVariants.{Done, Violated}

-- The list has all changes from one policy to another: one for each kind and pair of owners of which some packet changes, and no other.
-- It is empty if and only if the policies permit the same packets, and answers to the same packets.
pub record AreAllChanges (old new : FlowPolicy) (changes : List Change) : Type 0 where
  pub are : AreChanges old new changes
  pub complete : IsComplete old new changes
  pub exact : (changes ≡ []) ↔ TreatAlike old new

-- The text is the JSON of all changes from the policy of the old network to that of the new one, and of all that the change weakens. There
-- are weaker flows if and only if `is_weaker` is true.
pub record IsChangesAnswer (old new : Network) (is_weaker : Bool) (text : List ℕ) : Type 0 where
  pub before : Policy
  pub is_before : IsPolicyOf old before
  pub after : Policy
  pub is_after : IsPolicyOf new after
  pub changes : List Change
  pub all : AreAllChanges (flow_policy_of old before) (flow_policy_of new after) changes
  pub weakening : Weakening
  pub is_weakening : IsWeakening old before new after weakening
  pub some : is_nothing weakening.weaker.items ≡ not is_weaker
  pub written : text ≡ changes_json new.hosts old.hosts changes weakening

-- The outcome of an answer with weaker flows, or of one without.
abbrev pub changes_end : Status → (old new : Network) → (is_weaker : Bool) → Outcome
changes_end ended old new is_weaker = record {
  status = ended;
  when = (text : List ℕ) × IsChangesAnswer old new is_weaker text;
  is = IsChangesAnswer old new is_weaker;
  guarantees = IsChangesAnswer old new is_weaker;
}

-- If the change weakens some flow, this is a violation.
abbrev pub changes_outcomes : (old new : Network) → Outcomes
changes_outcomes old new = changes_end Violated old new true ∷ (changes_end Done old new false ∷ [])
