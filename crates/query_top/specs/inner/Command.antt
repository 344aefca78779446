-- The question that the code reads of the words. No promise of `run` depends on it.
use Rattle.std.specs.Prelude.{ℕ, List, [], ◌∷◌, Option, None, codes}
use Rattle.run_core.specs.inner.Forms.{Form, among, of_file, of_three, of_two, with_two_files}
use Rattle.query_top.specs.Command.{Command, Changes, Compare, Flows, Network, Why}
use Rattle.query_top.specs.declared.command.Command.{Command as CodeCommand}
use Rattle.query_top.specs.declared.command.Command.TheVariants as command

-- All forms.
abbrev pub forms : List (Form Command)
forms =
    record { word = codes "why"; asks = of_three Why }
    ∷ (record { word = codes "network"; asks = of_file Network }
    ∷ (record { word = codes "flows"; asks = with_two_files Flows }
    ∷ (record { word = codes "compare"; asks = with_two_files Compare }
    ∷ (record { word = codes "changes"; asks = of_two Changes }
    ∷ []))))

unfoldable pub command_of : List (List ℕ) → Option Command
command_of [] = None
command_of (word ∷ rest) = among forms word rest

-- The model of a question of the code.
abbrev pub command_view : CodeCommand → Command
command_view (command.Why file from to) = Why file.now from.now to.now
command_view (command.Network file) = Network file.now
command_view (command.Flows dialect file rules) = Flows dialect file.now rules.now
command_view (command.Compare dialect file rules) = Compare dialect file.now rules.now
command_view (command.Changes old new) = Changes old.now new.now
