-- The rules that parsed rules represent.
use Rattle.rules_space.specs.declared.held_rules.Held.{Held}
use Rattle.rules_space.specs.declared.held_rules.Held.TheVariants.{Whole, Own, Lent}
use Rattle.rules_space.specs.declared.rules_ref.RulesRef.{RulesRef}
use Rattle.rules_space.specs.declared.rules_ref.RulesRef.TheVariants.{Ipt, Ofp}
use Rattle.rules_space.specs.Rules.{AnyRules, Chains, Entries}

abbrev pub rules_of : RulesRef → AnyRules
rules_of (Ipt rules) = Chains rules.now
rules_of (Ofp table) = Entries table.now

-- All rules, or the rules of a slice.
abbrev pub held_rules : Held → AnyRules
held_rules (Whole rules) = rules_of rules
held_rules (Own chains) = Chains chains
held_rules (Lent slice) = Chains slice.now
