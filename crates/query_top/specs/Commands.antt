-- The plan of each question: the files that it reads, then its outcomes.
use Rattle.std.specs.Prelude.{true}
use Rattle.run_core.specs.Dialects.{rule_dialect_of}
use Rattle.run_core.specs.FileFormats.{description}
use Rattle.run_core.specs.Program.{Program}
use Rattle.run_core.specs.CommandPlan.{CommandPlan, reads, ends}
use Rattle.query_top.specs.PlainRules.{plain_rules}
use Rattle.query_top.specs.Command.{Command, Changes, Compare, Flows, Network, Why, ParseAs, usage_text}
use Rattle.query_top.specs.Changes.{changes_outcomes}
use Rattle.query_top.specs.Compare.{compare_outcomes}
use Rattle.query_top.specs.Flows.{flows_outcomes}
use Rattle.query_top.specs.Network.{network_outcomes}
use Rattle.query_top.specs.Why.{why_outcomes}

abbrev pub plan_of : Command → CommandPlan
plan_of (Why file from to) = reads description file (λ d. ends (why_outcomes d from to))
plan_of (Network file) = reads description file (λ d. ends (network_outcomes d))
plan_of (Flows dialect file rules) =
    reads description file (λ d. reads (plain_rules dialect) rules (λ said. ends (flows_outcomes dialect d.hosts said)))
plan_of (Compare dialect file rules) =
    reads description file (λ d. reads (plain_rules dialect) rules (λ said. ends (compare_outcomes d ((rule_dialect_of dialect).filter said) ((rule_dialect_of dialect).audited said))))
plan_of (Changes old new) = reads description old (λ before. reads description new (λ after. ends (changes_outcomes before after)))

-- The program. Each question reports violations on the output.
abbrev pub topos_query : Program
topos_query = record { Command = Command; ParseAs = ParseAs; plan_of = plan_of; reports_on_output = λ command. true; usage_text = usage_text }
