-- Command forms over any type of commands, and the command that a list of forms parses. No promise of `run` depends on it.
use Rattle.std.specs.Prelude.{ℕ, List, [], ◌∷◌, Option, None, Some, option_map, find, if◌then◌else◌}
use Rattle.std.specs.Option.{option_and_then}
use Rattle.std.specs.Str.{bytes_eq}
use Rattle.run_core.specs.Dialects.{dialects, rule_dialect_of}
use Rattle.run_core.specs.declared.dialect.Dialect.{Dialect}

-- The single argument, if there is exactly one.
abbrev pub one_word : List (List ℕ) → Option (List ℕ)
one_word (word ∷ []) = Some word
one_word _ = None

-- The two arguments, if there are exactly two.
abbrev pub two_words : List (List ℕ) → Option (List ℕ × List ℕ)
two_words (first ∷ (second ∷ [])) = Some (first, second)
two_words _ = None

-- The three arguments, if there are exactly three.
abbrev pub three_words : List (List ℕ) → Option (List ℕ × List ℕ × List ℕ)
three_words (first ∷ (second ∷ (third ∷ []))) = Some (first, second, third)
three_words _ = None

-- A command form: its first argument, and the parser of the following arguments.
pub record Form (C : Type 0) : Type 0 where
  pub word : List ℕ
  pub asks : List (List ℕ) → Option C

-- The command that the form with that first argument parses.
abbrev pub among : {C : Type 0} → List (Form C) → (word : List ℕ) → (rest : List (List ℕ)) → Option C
among [] word rest = None
among (form ∷ forms) word rest = if bytes_eq word form.word then form.asks rest else among forms word rest

-- The dialect with this name on the command line.
abbrev pub dialect_named : (word : List ℕ) → Option Dialect
dialect_named word = find (λ dialect. bytes_eq word (rule_dialect_of dialect).word) dialects

-- The command for one file.
abbrev pub of_file : {C : Type 0} → (List ℕ → C) → List (List ℕ) → Option C
of_file command words = option_map command (one_word words)

-- The command for two arguments.
abbrev pub of_two : {C : Type 0} → ((first second : List ℕ) → C) → List (List ℕ) → Option C
of_two command words = option_map (λ (said : List ℕ × List ℕ). command said.0 said.1) (two_words words)

-- The command for three arguments.
abbrev pub of_three : {C : Type 0} → ((first second third : List ℕ) → C) → List (List ℕ) → Option C
of_three command words = option_map (λ (said : List ℕ × List ℕ × List ℕ). command said.0 said.1 said.2) (three_words words)

-- The command for a dialect and a file.
abbrev pub in_dialect : {C : Type 0} → (Dialect → List ℕ → C) → List (List ℕ) → Option C
in_dialect command words = option_and_then (λ (said : List ℕ × List ℕ). option_map (λ dialect. command dialect said.1) (dialect_named said.0)) (two_words words)

-- The command for a dialect and two files.
abbrev pub with_two_files : {C : Type 0} → (Dialect → (first second : List ℕ) → C) → List (List ℕ) → Option C
with_two_files command words = option_and_then (λ (said : List ℕ × List ℕ × List ℕ). option_map (λ dialect. command dialect said.1 said.2) (dialect_named said.0)) (three_words words)
