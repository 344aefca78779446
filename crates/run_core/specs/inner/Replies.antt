-- The replies that a run may give, by the parsed arguments. No promise of `run` depends on it.
use Rattle.std.specs.Prelude.{◌≡◌, Option, None, Some}
use Rattle.run_core.specs.Program.{Program, usage}
use Rattle.run_core.specs.Replies.{IsPossibleReply}
use Rattle.run_core.specs.Reply.{Reply}
use Rattle.run_core.specs.Shelf.{ShelfChange}

abbrev pub AllowsReplyTo : (program : Program) → Option program.Command → ShelfChange → Reply → Type 0
AllowsReplyTo program None shelf given = (given ≡ usage program) × (shelf.after ≡ shelf.before)
AllowsReplyTo program (Some command) shelf given = IsPossibleReply (program.reports_on_output command) (program.plan_of command) shelf given
