-- Answers of `changes` that are equal but for the example packets, which stand in the same places.
use Rattle.std.specs.Prelude.{◌≡◌, ℕ, Bool, List, map}
use Rattle.change_core.specs.declared.change.Change.{Change}
use Rattle.change_core.specs.declared.kind.ChangeKind.{ChangeKind}
use Rattle.change_core.specs.declared.named_owner.NamedOwner.{NamedOwner}
use Rattle.change_core.specs.declared.weaker.Weaker.{Weaker}
use Rattle.host_net.specs.Host.{Host}
use Rattle.changes_json.specs.ChangesJson.{changes_json}
use Rattle.changes_json.specs.declared.weakened.Weakened.{Weakened}
use Rattle.changes_json.specs.declared.weakening.Weakening.{Weakening}
use Rattle.range_json.specs.WithoutExamples.{range_without_examples}

-- The change without its examples.
abbrev pub change_without_examples : Change → ChangeKind × NamedOwner × NamedOwner × List (ℕ × ℕ × Bool)
change_without_examples c = (c.kind, c.from, c.to, map range_without_examples c.ranges.items)

-- The weaker flow without its examples: its two flows, and the invariants that denied the old one.
abbrev pub weakened_without_examples : Weakened → Weaker × List ℕ
weakened_without_examples x = (x.flows, x.denied_by.items)

-- Both texts are answers of `changes` for the same hosts, with the same weaker flows and new gaps, and with changes that are
-- equal but for their examples.
pub record SameChangesButExamples (text other : List ℕ) : Type 0 where
  pub new : List Host
  pub old : List Host
  pub changes : List Change
  pub other_changes : List Change
  pub same : map change_without_examples changes ≡ map change_without_examples other_changes
  pub weakening : Weakening
  pub other_weakening : Weakening
  pub weaker : map weakened_without_examples weakening.weaker.items ≡ map weakened_without_examples other_weakening.weaker.items
  pub gaps : weakening.gaps.flows ≡ other_weakening.gaps.flows
  pub written : text ≡ changes_json new old changes weakening
  pub other_written : other ≡ changes_json new old other_changes other_weakening
