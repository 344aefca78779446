-- The parser of the arguments returns the command that they form.
use Rattle.std.proofs.Common.{◌≡◌, ◌==◌, ◌≤◌, ◌<◌, ℕ, zero, suc, Bool, true, false, bytes_eq, if◌then◌else◌, List, [], ◌∷◌, Option, None, Some, arith, codes, decimal, option_map, option_and_then, refl, ap, subst, ◌∙◌}
use Rattle.std.proofs.lemmas.Slice.Eq.{bytes_eq-Decides}
use Rattle.host_net.specs.Limits.{host_limit}
use Rattle.text_core.proofs.DecimalLaws.{decimal_of_number, number-decimal}
use Rattle.text_core.specs.inner.Decimal.{number}
use Rattle.topos_top.specs.Command.{Command, Check, Policy, Rules, Repair, Trace, Sample, Migrate, Audit, Edit, Local, LocalTable, ParseAs, HasFewHosts, arguments_of}
use Rattle.run_core.specs.Replies.{AllowsReply}
use Rattle.run_core.specs.Reply.{Reply}
use Rattle.run_core.specs.Shelf.{ShelfChange}
use Rattle.topos_top.specs.inner.Command.{command_of, forms, of_machines, parse_host_count}
use Rattle.run_core.specs.inner.Forms.{one_word}
use Rattle.run_core.specs.inner.Replies.{AllowsReplyTo}
use Rattle.run_core.proofs.DialectLaws.{named_word}
use Rattle.topos_top.specs.Commands.{topos}
use Rattle.run_core.proofs.ParseLaws.{one_command, reply_allowed}
use Rattle.run_core.proofs.FormLaws.{AreForms, IsForm, among_forms, asked, dialect_form, file_form, files_form, none_asked, two_form}

-- ---- the command that the arguments form is parsed

some_said : (n : ℕ) → 0 < n → (if n == 0 then None else Some n) ≡ Some n
some_said n some = grind arith

said : (n : ℕ) → 0 < n → n ≤ host_limit → parse_host_count (decimal n) ≡ Some n
said n some few = rw (number-decimal host_limit n few (omega (arith, few))) (some_said n some)

read_of : (command : Command) → HasFewHosts command → command_of (arguments_of command) ≡ Some command
unfolding command_of
read_of (Check file) few = refl
read_of (Policy file) few = refl
read_of (Rules dialect file) few = rw (named_word dialect) refl
read_of (Repair dialect file) few = rw (named_word dialect) refl
read_of (Trace dialect rules events) few = rw (named_word dialect) refl
read_of (Sample hosts) few = rw (said hosts few.0 few.1) refl
read_of (Migrate file) few = refl
read_of (Audit dialect file rules) few = rw (named_word dialect) refl
read_of (Edit file edits) few = refl
read_of (Local file host) few = refl
read_of (LocalTable file host) few = refl

pub is_read : (words : List (List ℕ)) (command : Command) → ParseAs words command → command_of words ≡ Some command
is_read words command asks = ap command_of asks.0 ∙ read_of command asks.1

-- Arguments form at most one command.
pub one_ask : (words : List (List ℕ)) (command other : Command) → ParseAs words command → ParseAs words other → command ≡ other
one_ask words command other p q = one_command topos command_of is_read words command other p q

-- ---- the parsed command is the one that the arguments form

-- A number of hosts is an argument that is this number in decimal notation.
sample_form : IsForm ParseAs (codes "sample") (λ words. option_and_then (λ word. option_map Sample (parse_host_count word)) (one_word words))
sample_form [] command is = none_asked command is
sample_form (word ∷ []) command is = by_number (number host_limit word) refl is
  where
    by_number : (o : Option ℕ) → number host_limit word ≡ o → option_map Sample (option_and_then (λ n. if n == 0 then None else Some n) o) ≡ Some command
        → ParseAs (codes "sample" ∷ word ∷ []) command
    by_number None told is = none_asked command is
    by_number (Some zero) told is = none_asked command is
    by_number (Some (suc n)) told is =
        let number = decimal_of_number host_limit word (suc n) (omega arith) told in
        let made = subst (λ (o : Option ℕ). option_map Sample o ≡ Some command) (some_said (suc n) (omega arith)) is in
        asked ParseAs (codes "sample" ∷ word ∷ []) (Sample (suc n)) command (ap (λ (w : List ℕ). codes "sample" ∷ w ∷ []) number.0, (omega arith, number.1)) made
sample_form (word ∷ other ∷ rest) command is = none_asked command is

-- Three arguments of `local` begin with the word `nft`.
machines_form : IsForm ParseAs (codes "local") of_machines
machines_form [] command is = none_asked command is
machines_form (word ∷ []) command is = none_asked command is
machines_form (file ∷ host ∷ []) command is = asked ParseAs (codes "local" ∷ file ∷ host ∷ []) (Local file host) command (refl, tt) is
machines_form (word ∷ file ∷ host ∷ []) command is = by_word (bytes_eq word (codes "nft")) refl is
  where
    by_word : (b : Bool) → bytes_eq word (codes "nft") ≡ b → (if b then Some (LocalTable file host) else None) ≡ Some command
        → ParseAs (codes "local" ∷ word ∷ file ∷ host ∷ []) command
    by_word true same is =
        asked ParseAs (codes "local" ∷ word ∷ file ∷ host ∷ []) (LocalTable file host) command
        (ap (λ (w : List ℕ). codes "local" ∷ w ∷ file ∷ host ∷ []) ((bytes_eq-Decides word (codes "nft")).0 same), tt) is
    by_word false other is = none_asked command is
machines_form (word ∷ file ∷ host ∷ other ∷ rest) command is = none_asked command is

are_forms : AreForms ParseAs forms
are_forms = (
  file_form ParseAs _ Check (λ file. (refl, tt)),
  (
    file_form ParseAs _ Policy (λ file. (refl, tt)),
    (
      dialect_form ParseAs _ Rules (λ dialect file. (refl, tt)),
      (
        dialect_form ParseAs _ Repair (λ dialect file. (refl, tt)),
        (
          files_form ParseAs _ Trace (λ dialect rules events. (refl, tt)),
          (
            sample_form,
            (
              file_form ParseAs _ Migrate (λ file. (refl, tt)),
              (
                files_form ParseAs _ Audit (λ dialect file rules. (refl, tt)),
                (two_form ParseAs _ Edit (λ file edits. (refl, tt)), (machines_form, tt)),
              ),
            ),
          ),
        ),
      ),
    ),
  ),
)

pub is_asked : (words : List (List ℕ)) (command : Command) → command_of words ≡ Some command → ParseAs words command
unfolding command_of
is_asked [] command is = none_asked command is
is_asked (word ∷ rest) command is = among_forms ParseAs forms are_forms word rest command is

-- ---- the reply

-- The reply for the parsed command is one that may be given.
pub may_give : (words : List (List ℕ)) (shelf : ShelfChange) (given : Reply) → AllowsReplyTo topos (command_of words) shelf given → AllowsReply topos words shelf given
may_give words shelf given may = reply_allowed topos command_of is_read is_asked words shelf given may
