-- `audit DIALECT FILE RULES`: whether rules forward what the policy of a network expects. The texts of its three outcomes state
-- what an operator may rely on: `run` guarantees it for a text with status done, violated or not emittable, and one of the three is reached
-- if its files are accepted, no error occurs and memory suffices (`complete`).
use Rattle.std.specs.Prelude.{◌≡◌, ℕ, ◌≤◌, ◌<◌, List, [], ◌∷◌, ◌++◌, codes}
use Rattle.audit_core.specs.Cuts.{cuts_between}
use Rattle.audit_core.specs.Findings.{DifferSomewhere, IsFirstTrace, events_of}
use Rattle.audit_core.specs.FindingText.{classes_line, trace_text}
use Rattle.audit_core.specs.Places.{class_count, representatives_of, most_classes}
use Rattle.rules_space.specs.Rules.{AnyRules, filter_of}
use Rattle.audit_core.specs.Sides.{DifferThen, AreEquivalent, Sides}
use Rattle.audit_core.specs.declared.finding.Trace.{Trace}
use Rattle.host_net.specs.declared.packet.Packet.{Packet}
use Rattle.net_core.specs.Network.{Network}
use Rattle.pkt_core.specs.declared.event.Event.{Event}
use Rattle.pkt_core.specs.declared.event.Event.TheVariants.{Seen}
use Rattle.pkt_core.specs.Filter.{ArePackets}
use Rattle.pkt_core.specs.Firewall.{Filter}
use Rattle.run_core.specs.Filters.{AreEquivalentFilters}
use Rattle.run_core.specs.Outcomes.{Outcome, Outcomes, says_why}
use Rattle.run_core.specs.OfPolicy.{ForwardsForNetwork, OfSides}
use Rattle.run_core.specs.declared.status.Status.TheVariants.{Violated, NotEmittable, Done}

-- The number of packet classes is within the limit.
abbrev pub FewClasses : Sides → Type 0
FewClasses sides = class_count sides ≤ most_classes

-- The text reports the first short trace on which the rules deviate from the policy. The reported difference is real: from an empty
-- connection table, the rules treat the last packet of the trace as the text states, and the policy and its answers expect the opposite.
pub record ReportsDifference (sides : Sides) (text : List ℕ) : Type 0 where
  pub trace : Trace
  pub first : IsFirstTrace sides (representatives_of (cuts_between sides)) trace
  pub told : text ≡ trace_text trace
  pub before : List Event
  pub last : Packet
  pub events : events_of trace ≡ before ++ Seen last ∷ []
  pub packets : ArePackets (events_of trace)
  pub differ : DifferThen sides before last trace.forwards

-- The number of packet classes exceeds the limit, so they are not compared, and the line reports the number.
abbrev pub HasManyClasses : Sides → (line : List ℕ) → Type 0
HasManyClasses sides line = (most_classes < class_count sides) × (line ≡ classes_line (class_count sides))

-- The rules and the policy differ on some list of events: the first short one is reported. The filter has the same verdicts as the rules.
abbrev pub difference : Network → Filter → AnyRules → Outcome
difference d filter rules = record {
  status = Violated;
  when = OfSides d rules (λ sides. FewClasses sides × DifferSomewhere sides);
  is = λ text. OfSides d rules (λ sides. ReportsDifference sides text);
  guarantees = λ text. OfSides d rules (λ sides. ReportsDifference sides text) × AreEquivalentFilters (filter_of rules) filter;
}

-- The rules and the policy forward alike: `equal` is written only in this case, and always in this case if the number
-- of classes is within the limit. The filter forwards alike, too.
abbrev pub agreement : Network → Filter → AnyRules → Outcome
agreement d filter rules = record {
  status = Done;
  when = OfSides d rules (λ sides. FewClasses sides × AreEquivalent sides);
  is = λ text. text ≡ codes "equal\n";
  guarantees = λ text. ForwardsForNetwork d filter;
}

-- The outcomes of an audit of a filter, whose rules in the form of an audit are these: too many packet classes, a difference, or agreement.
abbrev pub audit_outcomes : Network → Filter → AnyRules → Outcomes
audit_outcomes d filter rules =
    says_why NotEmittable (Unit {0}) (λ line. OfSides d rules (λ sides. HasManyClasses sides line))
    ∷ (difference d filter rules ∷ (agreement d filter rules ∷ []))
