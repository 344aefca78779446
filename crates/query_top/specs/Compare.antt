-- `compare DIALECT FILE RULES`: whether rules do what the policy of a network says, for each pair of owners.
use Rattle.std.specs.Prelude.{◌≡◌, ℕ, List, [], ◌∷◌, codes}
use Rattle.audit_core.specs.Findings.{DifferSomewhere}
use Rattle.audit_core.specs.Pairs.{AreDifferences, IsComplete}
use Rattle.rules_space.specs.Rules.{AnyRules, filter_of}
use Rattle.audit_core.specs.Sides.{AreEquivalent, Sides}
use Rattle.audit_core.specs.declared.difference.Difference.{Difference}
use Rattle.net_core.specs.Network.{Network}
use Rattle.compare_json.specs.CompareJson.{compare_json}
use Rattle.run_core.specs.OfPolicy.{ForwardsForNetwork, OfSides}
use Rattle.pkt_core.specs.Firewall.{Filter}
use Rattle.run_core.specs.Filters.{AreEquivalentFilters}
use Rattle.run_core.specs.Outcomes.{Outcome, Outcomes}
use Rattle.run_core.specs.declared.status.Status.TheVariants.{Done, Violated}

-- The text of no differences.
abbrev pub equal_json : List ℕ
equal_json = codes "{\"version\":1,\"equal\":true,\"differences\":[]}\n"

-- The text is the JSON of all differences: one for each pair of owners, kind of list and direction in which some packet of the pair
-- differs, and no other.
pub record ReportsDifferences (sides : Sides) (text : List ℕ) : Type 0 where
  pub differences : List Difference
  pub are : AreDifferences sides differences
  pub complete : IsComplete sides differences
  pub some : differences ≡ [] → ⊥
  pub written : text ≡ compare_json sides.policy.site.hosts differences

-- The rules and the policy differ on some list of packets and forget events: all differences are reported. The filter has the same verdicts as
-- the rules.
abbrev pub difference : Network → Filter → AnyRules → Outcome
difference d filter rules = record {
  status = Violated;
  when = OfSides d rules DifferSomewhere;
  is = λ text. OfSides d rules (λ sides. ReportsDifferences sides text);
  guarantees = λ text. OfSides d rules (λ sides. ReportsDifferences sides text) × AreEquivalentFilters (filter_of rules) filter;
}

-- The rules forward what the policy and its answers expect: there is no difference. The filter forwards that, too, and with any connection
-- tracking only that.
abbrev pub agreement : Network → Filter → AnyRules → Outcome
agreement d filter rules = record {
  status = Done;
  when = OfSides d rules AreEquivalent;
  is = λ text. text ≡ equal_json;
  guarantees = λ text. ForwardsForNetwork d filter × (text ≡ equal_json);
}

-- The outcomes of a comparison of a filter, whose rules in the form of an audit are these.
abbrev pub compare_outcomes : Network → Filter → AnyRules → Outcomes
compare_outcomes d filter rules = difference d filter rules ∷ (agreement d filter rules ∷ [])
