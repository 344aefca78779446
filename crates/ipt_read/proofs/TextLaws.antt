-- Lemmas on whole files: the result that is built from parsed lines, and the reasons why none is.
use Rattle.std.proofs.Common.{◌≡◌, ◌≢◌, ℕ, ◌+◌, sym, subst, List, length}
use Rattle.text_core.specs.Lines.{lines}
use Rattle.text_core.specs.LineFormat.{IsReadToEnd, at_end}
use Rattle.ipt_rules.specs.Chain.{Chain}
use Rattle.ipt_rules.specs.Loops.{IsAcyclic, IsFirstOnCycle}
use Rattle.ipt_read.specs.declared.fault.IptWhy.TheVariants.{NoCommit, Loop as WhyLoop}
use Rattle.ipt_read.specs.ParserStates.{After, ParserState, line_of}
use Rattle.ipt_read.specs.TextLines.{HasEndFault, no_commit, loops as at_loop, rules_text, IsReadingOfRules, HasFaultInRules}

-- A file that was parsed to its last line.
pub reading_of_lines : (bytes : List ℕ) (s : ParserState) (chains : List Chain) → IsReadToEnd rules_text bytes s → s.stage ≡ After
    → chains ≡ s.chains → IsAcyclic chains → IsReadingOfRules bytes chains
reading_of_lines bytes s chains through whole same none =
    (s, record { short = through.short; told = through.told; ends = (whole, subst IsAcyclic same none) }, same)

pub ends_early : (bytes : List ℕ) (s : ParserState) (line : ℕ) → IsReadToEnd rules_text bytes s → s.stage ≢ After
    → line ≡ 1 + length (lines bytes) → HasFaultInRules bytes line NoCommit
ends_early bytes s line through early number =
    at_end s through (subst (λ (n : ℕ). HasEndFault (1 + length (lines bytes)) s n NoCommit) (sym number) (no_commit early))

pub ends_in_loop : (bytes : List ℕ) (s : ParserState) (c line : ℕ) → IsReadToEnd rules_text bytes s → s.stage ≡ After
    → IsFirstOnCycle s.chains c → line ≡ line_of s.declared c → HasFaultInRules bytes line WhyLoop
ends_in_loop bytes s c line through whole least number =
    at_end s through (subst (λ (n : ℕ). HasEndFault (1 + length (lines bytes)) s n WhyLoop) (sym number) (at_loop c whole least))
