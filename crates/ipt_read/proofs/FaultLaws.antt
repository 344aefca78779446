-- A file has at most one parse result and at most one first error, and not both.
use Rattle.std.proofs.Common.{◌≡◌, ℕ, ◌≤◌, ◌∙◌, sym, ap, refl, List, arith}
use Rattle.std.specs.Prelude.{Result, Ok, Err}
use Rattle.text_core.proofs.LineFormatLaws.{IsSettled, one_reading as reading_once, one_fault as fault_once, no_reading_with_fault as reading_or_fault_alone}
use Rattle.ipt_rules.specs.Chain.{Chain}
use Rattle.ipt_rules.specs.Loops.{IsAcyclic, IsFirstOnCycle}
use Rattle.ipt_read.specs.declared.fault.IptWhy.{IptWhy}
use Rattle.ipt_read.specs.ParserStates.{After, ParserState, line_of}
use Rattle.text_core.specs.Lines.{words}
use Rattle.ipt_read.proofs.LineLaws.{IsTextLine, read_of_line}
use Rattle.ipt_read.proofs.LineFaultLaws.{IsBadLine, step_of_bad_line}
use Rattle.ipt_read.specs.TextLines.{HasEndFault, no_commit, loops, rules_text, IsReadingOfRules, HasFaultInRules}

-- 1. One line.

one_next : (n : ℕ) (s : ParserState) (l : List ℕ) (t u : ParserState) → IsTextLine n s l t → IsTextLine n s l u → t ≡ u
one_next n s l t u p q =
    let ok : ◌≡◌ {A = Result ParserState IptWhy} (Ok t) (Ok u) = sym (read_of_line n s t l p) ∙ read_of_line n s u l q in cc

one_reason : (n : ℕ) (s : ParserState) (l : List ℕ) (w v : IptWhy) → IsBadLine s (words l) w → IsBadLine s (words l) v → w ≡ v
one_reason n s l w v p q =
    let err : ◌≡◌ {A = Result ParserState IptWhy} (Err w) (Err v) = sym (step_of_bad_line n s l w p) ∙ step_of_bad_line n s l v q in cc

good_or_bad : (n : ℕ) (s : ParserState) (l : List ℕ) (t : ParserState) (w : IptWhy) → IsTextLine n s l t → IsBadLine s (words l) w → ⊥
good_or_bad n s l t w p q =
    let both : ◌≡◌ {A = Result ParserState IptWhy} (Ok t) (Err w) = sym (read_of_line n s t l p) ∙ step_of_bad_line n s l w q in cc

-- 2. The end of the file.

same_least : (xs : List Chain) (c d : ℕ) → IsFirstOnCycle xs c → IsFirstOnCycle xs d → c ≡ d
same_least xs c d p q = let a : c ≤ d = p.least d q.back in let b : d ≤ c = q.least c p.back in omega arith

one_end : (n : ℕ) (s : ParserState) (l m : ℕ) (w v : IptWhy) → HasEndFault n s l w → HasEndFault n s m v → (l ≡ m) × (w ≡ v)
one_end n s l m w v (no_commit open_still) (no_commit other) = (refl, refl)
one_end n s l m w v (no_commit open_still) (loops d whole least) = absurd (open_still whole)
one_end n s l m w v (loops c whole least) (no_commit open_still) = absurd (open_still whole)
one_end n s l m w v (loops c whole least) (loops d other first) = (ap (line_of s.declared) (same_least s.chains c d least first), refl)

ends_or_not : (n : ℕ) (s : ParserState) (l : ℕ) (w : IptWhy) → s.stage ≡ After → IsAcyclic s.chains → HasEndFault n s l w → ⊥
ends_or_not n s l w whole none (no_commit open_still) = open_still whole
ends_or_not n s l w whole none (loops c stage least) = none c least.back

pub rules_settled : IsSettled rules_text
rules_settled = record {
  one_next = λ n s l t u p q. one_next n s l t u p q;
  one_reason = λ n s l w v p q. one_reason n s l w v p q;
  good_or_bad = λ n s l t w p q. good_or_bad n s l t w p q;
  one_end = λ n s l m w v p q. one_end n s l m w v p q;
  ends_or_not = λ n s l w p q. ends_or_not n s l w p.0 p.1 q;
}

-- 3. Files.

pub one_reading : (bytes : List ℕ) (a b : List Chain) → IsReadingOfRules bytes a → IsReadingOfRules bytes b → a ≡ b
one_reading bytes a b p q =
    p.2 ∙ ap (λ (s : ParserState). s.chains) (reading_once rules_text rules_settled bytes p.0 q.0 p.1 q.1) ∙ sym q.2

pub one_fault : (bytes : List ℕ) (l m : ℕ) (w v : IptWhy) → HasFaultInRules bytes l w → HasFaultInRules bytes m v → (l ≡ m) × (w ≡ v)
one_fault = fault_once rules_text rules_settled

pub no_reading_with_fault : (bytes : List ℕ) (chains : List Chain) (l : ℕ) (w : IptWhy) → HasFaultInRules bytes l w → IsReadingOfRules bytes chains → ⊥
no_reading_with_fault bytes chains l w fault reading = reading_or_fault_alone rules_text rules_settled bytes reading.0 l w fault reading.1
