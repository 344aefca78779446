-- A program: its commands, and the plan of each.
use Rattle.std.specs.Prelude.{ℕ, List, Bool}
use Rattle.run_core.specs.CommandPlan.{CommandPlan}
use Rattle.run_core.specs.Reply.{Reply, error}
use Rattle.run_core.specs.declared.status.Status.TheVariants.{Usage}

-- A program: its commands, the arguments that form each, its plan, whether it reports violations on the output, and the usage text, which
-- lists the command forms.
pub record Program : Type 1 where
  pub Command : Type 0
  pub ParseAs : List (List ℕ) → Command → Type 0
  pub plan_of : Command → CommandPlan
  pub reports_on_output : Command → Bool
  pub usage_text : List ℕ

-- The arguments form no command.
abbrev pub FormNothing : {Command : Type 0} → (List (List ℕ) → Command → Type 0) → List (List ℕ) → Type 0
FormNothing {Command = Command} ParseAs words = (command : Command) → ParseAs words command → ⊥

-- The reply to arguments that form no command.
abbrev pub usage : Program → Reply
usage program = error Usage program.usage_text
