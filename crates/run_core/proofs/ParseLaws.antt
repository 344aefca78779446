-- A parser of arguments that returns the command that they form: arguments form at most one command, and the reply to the parsed command is
-- one that may be given.
use Rattle.std.proofs.Common.{◌≡◌, inl, inr, ℕ, List, Option, None, Some, refl, sym, ◌∙◌}
use Rattle.run_core.specs.Program.{Program, FormNothing}
use Rattle.run_core.specs.Replies.{AllowsReply}
use Rattle.run_core.specs.Reply.{Reply}
use Rattle.run_core.specs.Shelf.{ShelfChange}
use Rattle.run_core.specs.inner.Replies.{AllowsReplyTo}
use Rattle.run_core.proofs.FormLaws.{none_asked}

module _ (program : Program) (command_of : List (List ℕ) → Option program.Command)
    (is_read : (words : List (List ℕ)) (command : program.Command) → program.ParseAs words command → command_of words ≡ Some command) where
  -- Arguments form at most one command.
  pub one_command : (words : List (List ℕ)) (command other : program.Command) → program.ParseAs words command → program.ParseAs words other → command ≡ other
  one_command words command other p q =
      let here = is_read words command p in
      let there = is_read words other q in
      cc (here, there)

  module _ (is_asked : (words : List (List ℕ)) (command : program.Command) → command_of words ≡ Some command → program.ParseAs words command) where
    -- Arguments that form no command are not parsed.
    pub none_read : (words : List (List ℕ)) → FormNothing program.ParseAs words → command_of words ≡ None
    none_read words nothing = by_read (command_of words) refl
      where
        by_read : (asked : Option program.Command) → command_of words ≡ asked → command_of words ≡ None
        by_read None is = is
        by_read (Some command) is = absurd (nothing command (is_asked words command is))

    -- The reply for the parsed command is one that may be given.
    pub reply_allowed : (words : List (List ℕ)) (shelf : ShelfChange) (given : Reply) → AllowsReplyTo program (command_of words) shelf given → AllowsReply program words shelf given
    reply_allowed words shelf given may = by_read (command_of words) refl may
      where
        by_read : (asked : Option program.Command) → command_of words ≡ asked → AllowsReplyTo program asked shelf given → AllowsReply program words shelf given
        by_read None is may = inl (λ command asks. none_asked command (sym is ∙ is_read words command asks), may.0, may.1)
        by_read (Some command) is may = inr (command, is_asked words command is, may)
