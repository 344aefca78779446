-- The format of a flow file: the entries that it defines, and the reasons why a line is rejected.
use Rattle.std.specs.Prelude.{◌≡◌, ◌<◌, ◌≤◌, ℕ, List, [], Some, codes, length, slice_get}
use Rattle.text_core.specs.LineFormat.{LineFormat, IsReading, HasFault}
use Rattle.ofp_rules.specs.declared.entry.Entry.{Entry}
use Rattle.ofp_rules.specs.Ambiguity.{Contradict, most_entries}
use Rattle.ofp_read.specs.declared.fault.OfpWhy.{OfpWhy}
use Rattle.ofp_read.specs.declared.fault.OfpWhy.TheVariants.{TooLong, BadLine, UnknownField, BadValue, NeedsIp, UnknownAction, Ambiguous, TooMany}
use Rattle.ofp_read.specs.Grammar.{Writes, AddsEntry}
use Rattle.ofp_read.specs.Unwritten.{IsUnwritten}

-- The reason why a line adds no entry to the preceding ones: it encodes none, or there are 8,192 already, or its entry conflicts with one
-- of them.
pub data IsBad (before : List Entry) (line : List ℕ) : OfpWhy → Type 0 where
  unwritten : {why : OfpWhy} → IsUnwritten line why → IsBad before line why
  too_many : (e : Entry) → Writes line e → most_entries ≤ length before → IsBad before line TooMany
  ambiguous : (e f : Entry) (place : ℕ) → Writes line e → length before < most_entries → slice_get before place ≡ Some f
      → Contradict f e → IsBad before line Ambiguous

-- A flow file as a line-oriented format: it defines entries, and may end after any line.
abbrev pub flows_text : LineFormat (List Entry) OfpWhy
flows_text = record {
  byte_limit = 67108864;
  too_long_reason = TooLong;
  start = [];
  IsLine = AddsEntry;
  IsBadLine = λ n. IsBad;
  MayEndIn = λ entries. Unit {0};
  HasEndFault = λ n entries line why. ⊥;
}

-- The parse result of a file.
abbrev pub IsReadingOfFlows : List ℕ → List Entry → Type 0
IsReadingOfFlows = IsReading flows_text

-- The first error of a file.
abbrev pub HasFaultInFlows : List ℕ → ℕ → OfpWhy → Type 0
HasFaultInFlows = HasFault flows_text

-- The name of a reason, as it is printed.
abbrev pub flows_reason : OfpWhy → List ℕ
flows_reason TooLong = codes "TooLong"
flows_reason BadLine = codes "BadLine"
flows_reason UnknownField = codes "UnknownField"
flows_reason BadValue = codes "BadValue"
flows_reason NeedsIp = codes "NeedsIp"
flows_reason UnknownAction = codes "UnknownAction"
flows_reason Ambiguous = codes "Ambiguous"
flows_reason TooMany = codes "TooMany"
