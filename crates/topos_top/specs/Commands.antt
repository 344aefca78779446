-- The table of commands: the plan of each command. Policies and reports are characterized by their properties, not by an algorithm that
-- finds them.
use Rattle.std.specs.Prelude.{ℕ, List}
use Rattle.topos_top.specs.Command.{Command, Check, Policy, Rules, Repair, Trace, Sample, Migrate, Audit, Edit, Local, LocalTable, ParseAs, reports_on_output, usage_text}
use Rattle.topos_top.specs.Audit.{audit_outcomes}
use Rattle.topos_top.specs.Check.{check_outcomes}
use Rattle.run_core.specs.CommandPlan.{CommandPlan, reads, ends, ReadsNothing}
use Rattle.run_core.specs.Dialects.{rule_dialect_of}
use Rattle.run_core.specs.FileFormats.{description}
use Rattle.run_core.specs.Program.{Program}
use Rattle.topos_top.specs.Edit.{edit_outcomes}
use Rattle.topos_top.specs.Local.{local_chains, local_outcomes, local_table}
use Rattle.topos_top.specs.Migrate.{migrate_outcomes}
use Rattle.topos_top.specs.Policy.{policy_outcomes}
use Rattle.topos_top.specs.Repair.{repair_outcomes}
use Rattle.topos_top.specs.Rules.{rules_outcomes}
use Rattle.topos_top.specs.Sample.{sample_outcomes}
use Rattle.topos_top.specs.Trace.{trace_outcomes}
use Rattle.topos_top.specs.FileFormats as format

-- The plan of each command.
abbrev pub plan_of : Command → CommandPlan
plan_of (Check file) = reads description file (λ d. ends (check_outcomes d))
plan_of (Policy file) = reads description file (λ d. ends (policy_outcomes d))
plan_of (Rules dialect file) = reads description file (λ d. ends (rules_outcomes dialect d))
plan_of (Repair dialect file) = reads description file (λ d. ends (repair_outcomes dialect d))
plan_of (Trace dialect rules events) = reads (format.rules dialect) rules (λ said. reads format.events events (λ es. ends (trace_outcomes ((rule_dialect_of dialect).filter said) es)))
plan_of (Sample hosts) = ends (sample_outcomes hosts)
plan_of (Migrate file) = reads format.document file (λ text. ends (migrate_outcomes text))
plan_of (Audit dialect file rules) =
    reads description file (λ d. reads (format.rules dialect) rules (λ said. ends (audit_outcomes d ((rule_dialect_of dialect).filter said) ((rule_dialect_of dialect).audited said))))
plan_of (Edit file edits) = reads format.edited file (λ table. reads format.edits edits (λ es. ends (edit_outcomes table es)))
plan_of (Local file host) = reads description file (λ d. ends (local_outcomes local_chains d host))
plan_of (LocalTable file host) = reads description file (λ d. ends (local_outcomes local_table d host))

-- The program.
abbrev pub topos : Program
topos = record { Command = Command; ParseAs = ParseAs; plan_of = plan_of; reports_on_output = reports_on_output; usage_text = usage_text }

-- The arguments form no command, or a command that reads no file.
abbrev pub NamesNoFile : List (List ℕ) → Type 0
NamesNoFile words = (command : Command) → ParseAs words command → ReadsNothing (plan_of command)
