-- The commands that read no file, as the code parses them. No promise of `run` depends on it.
use Rattle.std.specs.Prelude.{◌≡◌, Option, Some}
use Rattle.topos_top.specs.Command.{Command}
use Rattle.topos_top.specs.Commands.{plan_of}
use Rattle.run_core.specs.CommandPlan.{ReadsNothing}

-- No command was parsed, or a command that reads no file.
abbrev pub NamesNothing : Option Command → Type 0
NamesNothing asked = (command : Command) → asked ≡ Some command → ReadsNothing (plan_of command)
