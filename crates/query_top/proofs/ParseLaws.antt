-- The code parses the question that the arguments form.
use Rattle.std.proofs.Common.{◌≡◌, ℕ, List, [], ◌∷◌, None, Some, refl, ap, ◌∙◌}
use Rattle.run_core.specs.Replies.{AllowsReply}
use Rattle.run_core.specs.Reply.{Reply}
use Rattle.run_core.specs.Shelf.{ShelfChange}
use Rattle.run_core.proofs.DialectLaws.{named_word}
use Rattle.query_top.specs.Commands.{topos_query}
use Rattle.run_core.proofs.ParseLaws.{one_command, none_read, reply_allowed}
use Rattle.run_core.proofs.FormLaws.{AreForms, among_forms, file_form, files_form, none_asked, three_form, two_form}
use Rattle.query_top.specs.Command.{Command, ParseAs, ParseAsNothing, Changes, Compare, Flows, Network, Why, arguments_of}
use Rattle.query_top.specs.inner.Command.{command_of, forms}
use Rattle.run_core.specs.inner.Replies.{AllowsReplyTo}

-- ---- a question is read of its words

read_of : (command : Command) → command_of (arguments_of command) ≡ Some command
unfolding command_of
read_of (Why file from to) = refl
read_of (Network file) = refl
read_of (Flows dialect file rules) = rw (named_word dialect) refl
read_of (Compare dialect file rules) = rw (named_word dialect) refl
read_of (Changes old new) = refl

pub is_read : (words : List (List ℕ)) (command : Command) → ParseAs words command → command_of words ≡ Some command
is_read words command asks = ap command_of asks ∙ read_of command

-- Arguments form at most one question.
pub one_ask : (words : List (List ℕ)) (command other : Command) → ParseAs words command → ParseAs words other → command ≡ other
one_ask words command other p q = one_command topos_query command_of is_read words command other p q

-- ---- a question that is read has these words

are_forms : AreForms ParseAs forms
are_forms = (three_form ParseAs _ Why (λ file from to. refl), (file_form ParseAs _ Network (λ file. refl), (files_form ParseAs _ Flows (λ dialect file rules. refl), (files_form ParseAs _ Compare (λ dialect file rules. refl), (two_form ParseAs _ Changes (λ old new. refl), tt)))))

pub is_asked : (words : List (List ℕ)) (command : Command) → command_of words ≡ Some command → ParseAs words command
unfolding command_of
is_asked [] command is = none_asked command is
is_asked (word ∷ rest) command is = among_forms ParseAs forms are_forms word rest command is

-- No question is read of words that are no form.
pub not_read : (words : List (List ℕ)) → ParseAsNothing words → command_of words ≡ None
not_read words nothing = none_read topos_query command_of is_read is_asked words nothing

-- ---- the reply

-- The reply for the parsed command is one that may be given.
pub may_give : (words : List (List ℕ)) (shelf : ShelfChange) (given : Reply) → AllowsReplyTo topos_query (command_of words) shelf given → AllowsReply topos_query words shelf given
may_give words shelf given may = reply_allowed topos_query command_of is_read is_asked words shelf given may
