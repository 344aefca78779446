-- Parsing a rule line, token by token: the effect of each token, or the reason why it is rejected. The first such token
-- determines the reason for the line. Callers do not see this; they use `Grammar` and `LineFault`.
use Rattle.std.specs.Prelude.{ℕ, Bool, true, false, ◌&&◌, not, if◌then◌else◌, List, [], ◌∷◌, Option, Some, None, Result, Ok, Err, is_some, codes, bytes_eq}
use Rattle.std.specs.Option.{option_map, ok_or}
use Rattle.text_core.specs.Lines.{begins_with}
use Rattle.ipt_rules.specs.declared.rule.Rule.{Rule}
use Rattle.ipt_rules.specs.Chain.{Chain, number_of}
use Rattle.ipt_read.specs.declared.fault.IptWhy.{IptWhy}
use Rattle.ipt_read.specs.declared.fault.IptWhy.TheVariants.{BadLine, UnknownChain, Interface as AnInterface, UnknownOption, BadValue}
use Rattle.ipt_read.specs.declared.option.RuleOption.{RuleOption}
use Rattle.ipt_read.specs.declared.option.Place.{Place}
use Rattle.ipt_read.specs.declared.option.Place.TheVariants.{AtOption, AfterBang, AtValue, InText}
use Rattle.ipt_read.specs.inner.Counts.{is_count}
use Rattle.ipt_read.specs.Options.{PartialRule, empty_rule}
use Rattle.ipt_read.specs.inner.OptionSteps.{option_of, is_allowed_here, is_interface, bars, value_refusal, rule_of}
use Rattle.ipt_read.specs.inner.ValueSteps.{quoted, with_value}

-- A token at the position of an option, negated by `!` or not.
abbrev pub at_option : PartialRule → Bool → Option RuleOption → Result (PartialRule × Place) IptWhy
at_option given negated None = Err UnknownOption
at_option given negated (Some o) =
    if not (is_allowed_here given o) then Err UnknownOption
    else if is_interface o then Err AnInterface
    else if bars given negated o then Err BadLine
    else Ok (given, AtValue o negated)

-- `!` is allowed before the target.
unfoldable pub is_bang : PartialRule → List ℕ → Bool
is_bang given word = not (is_some given.target) && bytes_eq word (codes "!")

-- One token.
unfoldable pub word_step : List Chain → PartialRule → Place → List ℕ → Result (PartialRule × Place) IptWhy
word_step chains given AtOption word =
    if is_bang given word then Ok (given, AfterBang) else at_option given false (option_of word)
word_step chains given AfterBang word = at_option given true (option_of word)
word_step chains given (AtValue o negated) word = ok_or (with_value chains given o negated word) (value_refusal o)
word_step chains given InText word = ok_or (option_map (λ place. (given, place)) (quoted false word)) BadValue

-- The end of the line.
abbrev pub at_end : PartialRule → Place → Result PartialRule IptWhy
at_end given AtOption = Ok given
at_end given AfterBang = Err BadLine
at_end given (AtValue o negated) = Err BadValue
at_end given InText = Err BadValue

-- A step, and the continuation if the step succeeds.
abbrev pub goes_on : {A B : Type 0} → Result A IptWhy → (A → Result B IptWhy) → Result B IptWhy
goes_on (Ok x) f = f x
goes_on (Err why) f = Err why

-- The remaining tokens.
abbrev pub word_by_word : List Chain → PartialRule → Place → List (List ℕ) → Result PartialRule IptWhy
word_by_word chains given place [] = at_end given place
word_by_word chains given place (w ∷ ws) = goes_on (word_step chains given place w) (λ t. word_by_word chains t.0 t.1 ws)

-- The chain of that number, and the rule of the remaining options.
abbrev pub rule_in : List Chain → Option ℕ → List (List ℕ) → Result (ℕ × Rule) IptWhy
rule_in chains None ws = Err UnknownChain
rule_in chains (Some c) ws =
    goes_on (word_by_word chains empty_rule AtOption ws) (λ given. Ok (c, rule_of given))

-- `-A`, a chain, and options.
abbrev pub append_of : List Chain → List (List ℕ) → Result (ℕ × Rule) IptWhy
append_of chains (a ∷ name ∷ ws) = if bytes_eq a (codes "-A") then rule_in chains (number_of chains name) ws else Err BadLine
append_of chains _ = Err BadLine

-- A rule line: the same after packet and byte counters, if there are any.
unfoldable pub rule_line_of : List Chain → List (List ℕ) → Result (ℕ × Rule) IptWhy
rule_line_of chains [] = Err BadLine
rule_line_of chains (w ∷ ws) =
    if begins_with 91 w then (if is_count w then append_of chains ws else Err BadLine) else append_of chains (w ∷ ws)
