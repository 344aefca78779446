-- The question of a command line (docs/QUERIES.md): a constructor for each form, with all its words.
use Rattle.std.specs.Prelude.{◌≡◌, ℕ, List, [], ◌∷◌, ◌++◌, codes}
use Rattle.run_core.specs.Dialects.{rule_dialect_of}
use Rattle.run_core.specs.Program.{FormNothing}
use Rattle.run_core.specs.declared.dialect.Dialect.{Dialect}

pub data Command : Type 0 where
  Why : (file from to : List ℕ) → Command
  Network : (file : List ℕ) → Command
  Flows : Dialect → (file rules : List ℕ) → Command
  Compare : Dialect → (file rules : List ℕ) → Command
  Changes : (old new : List ℕ) → Command

-- The words of a question.
abbrev pub arguments_of : Command → List (List ℕ)
arguments_of (Why file from to) = codes "why" ∷ file ∷ from ∷ to ∷ []
arguments_of (Network file) = codes "network" ∷ file ∷ []
arguments_of (Flows dialect file rules) = codes "flows" ∷ (rule_dialect_of dialect).word ∷ file ∷ rules ∷ []
arguments_of (Compare dialect file rules) = codes "compare" ∷ (rule_dialect_of dialect).word ∷ file ∷ rules ∷ []
arguments_of (Changes old new) = codes "changes" ∷ old ∷ new ∷ []

-- The arguments form this question.
abbrev pub ParseAs : List (List ℕ) → Command → Type 0
ParseAs words command = words ≡ arguments_of command

-- The words are no form of the command line.
abbrev pub ParseAsNothing : List (List ℕ) → Type 0
ParseAsNothing = FormNothing ParseAs

-- The forms of the command line.
unfoldable pub usage_text : List ℕ
usage_text =
    codes "usage: topos-query why FILE FROM TO\n"
    ++ (codes "       topos-query network FILE\n"
    ++ (codes "       topos-query flows iptables|openflow FILE RULES\n"
    ++ (codes "       topos-query compare iptables|openflow FILE RULES\n"
    ++ (codes "       topos-query changes OLD NEW\n"
    ++ (codes "       topos-query compare nft FILE RULES\n"
    ++ codes "       topos-query flows nft FILE RULES\n")))))
