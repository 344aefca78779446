-- A file has at most one parse result and at most one first error, and not both; its parse result is a table.
use Rattle.std.proofs.Common.{◌≡◌, inl, inr, ℕ, ◌+◌, List, [], ◌∷◌, ◌++◌, refl, sym, ap, subst, ◌∙◌, arith}
use Rattle.text_core.specs.Lines.{lines}
use Rattle.text_core.specs.Reading.{Follows}
use Rattle.text_core.proofs.LineFormatLaws.{IsSettled, one_reading as reading_once, one_fault as fault_once, no_reading_with_fault as reading_or_fault_alone}
use Rattle.ofp_rules.specs.declared.entry.Entry.{Entry}
use Rattle.ofp_rules.specs.Ambiguity.{Contradict}
use Rattle.ofp_rules.specs.inner.Build.{IsTable}
use Rattle.ofp_rules.proofs.TableLaws.{table_more, empty_table}
use Rattle.ofp_read.specs.declared.fault.OfpWhy.{OfpWhy}
use Rattle.ofp_read.specs.Grammar.{AddsEntry}
use Rattle.ofp_read.proofs.RangeLaws.{written_in_range}
use Rattle.ofp_read.proofs.OnceLaws.{one_flow, one_reason, written_or_not}
use Rattle.ofp_read.specs.TextLines.{IsBad, unwritten, too_many, ambiguous, flows_text, IsReadingOfFlows, HasFaultInFlows}

-- 1. One line.

adds_one : (n : ℕ) (before now other : List Entry) (l : List ℕ) → AddsEntry n before l now → AddsEntry n before l other → now ≡ other
adds_one n before now other l a b =
    a.4 ∙ ap (λ e. before ++ e ∷ []) (one_flow l a.0 b.0 a.1.0 b.1.0) ∙ sym b.4

adds_not_bad : (n : ℕ) (before now : List Entry) (l : List ℕ) (why : OfpWhy) → AddsEntry n before l now → IsBad before l why → ⊥
adds_not_bad n before now l why a (unwritten refused) = written_or_not l a.0 why a.1 refused
adds_not_bad n before now l why a (too_many e writes many) = let few = a.2 in omega arith
adds_not_bad n before now l why a (ambiguous e f place writes few there clash) =
    a.3 place f there (subst (Contradict f) (one_flow l e a.0 writes.0 a.1.0) clash)

one_why : (before : List Entry) (l : List ℕ) (w v : OfpWhy) → IsBad before l w → IsBad before l v → w ≡ v
one_why before l w v (unwritten a) (unwritten b) = one_reason l w v a b
one_why before l w v (unwritten a) (too_many e writes many) = absurd (written_or_not l e w writes a)
one_why before l w v (unwritten a) (ambiguous e f place writes few there clash) = absurd (written_or_not l e w writes a)
one_why before l w v (too_many e writes many) (unwritten b) = absurd (written_or_not l e v writes b)
one_why before l w v (too_many e writes many) (too_many f other more) = refl
one_why before l w v (too_many e writes many) (ambiguous d f place other few there clash) = absurd (omega (arith, many, few))
one_why before l w v (ambiguous d f place other few there clash) (unwritten b) = absurd (written_or_not l d v other b)
one_why before l w v (ambiguous d f place other few there clash) (too_many e writes many) = absurd (omega (arith, many, few))
one_why before l w v (ambiguous d f place other few there clash) (ambiguous e g k writes less at_k contra) = refl

-- 2. Files.

pub flows_settled : IsSettled flows_text
flows_settled = record {
  one_next = λ n s l t u p q. adds_one n s t u l p q;
  one_reason = λ n s l w v p q. one_why s l w v p q;
  good_or_bad = λ n s l t w p q. adds_not_bad n s t l w p q;
  one_end = λ n s l m w v p q. absurd p;
  ends_or_not = λ n s l w p q. q;
}

pub one_reading : (bytes : List ℕ) (a b : List Entry) → IsReadingOfFlows bytes a → IsReadingOfFlows bytes b → a ≡ b
one_reading = reading_once flows_text flows_settled

pub one_fault : (bytes : List ℕ) (l m : ℕ) (w v : OfpWhy) → HasFaultInFlows bytes l w → HasFaultInFlows bytes m v → (l ≡ m) × (w ≡ v)
one_fault = fault_once flows_text flows_settled

pub no_reading_with_fault : (bytes : List ℕ) (entries : List Entry) (l : ℕ) (w : OfpWhy) → HasFaultInFlows bytes l w → IsReadingOfFlows bytes entries → ⊥
no_reading_with_fault = reading_or_fault_alone flows_text flows_settled

table_told : (ls : List (List ℕ)) (n : ℕ) (s all : List Entry) → IsTable s → Follows AddsEntry n s ls all → IsTable all
table_told [] n s all table told = subst IsTable told table
table_told (x ∷ xs) n s all table (inl comment) = table_told xs (n + 1) s all table comment.1
table_told (x ∷ xs) n s all table (inr adds) =
    table_told xs (n + 1) adds.0 all (subst IsTable (sym adds.2.4)
    (table_more s adds.2.0 table adds.2.2 adds.2.3 (written_in_range x adds.2.0 adds.2.1) adds.2.1.1)) adds.3

pub reading_is_table : (bytes : List ℕ) (entries : List Entry) → IsReadingOfFlows bytes entries → IsTable entries
reading_is_table bytes entries reading = table_told (lines bytes) 1 [] entries empty_table reading.told
