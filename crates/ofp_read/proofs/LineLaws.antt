-- Where the parser is in a line, and what it answers there.
use Rattle.std.proofs.Common.{◌≡◌, ◌⊎◌, inl, inr, ℕ, ◌<◌, Bool, true, false, List, [], ◌∷◌, ◌++◌, Option, Some, None, length, drop, refl, sym, ap, subst, ◌∙◌, arith, append-nil, append_assoc, length-append}
use Rattle.std.specs.Prelude.{Result, Ok, Err, IfOk, IfErr, codes, if◌then◌else◌}
use Rattle.std.specs.List.{filter, slice_split}
use Rattle.std.proofs.lemmas.List.Splits.{slice_split_none, slice_split_at}
use Rattle.text_core.specs.Lines.{words}
use Rattle.ofp_rules.specs.declared.entry.Action.{Action}
use Rattle.ofp_rules.specs.declared.entry.Action.TheVariants.{Drop}
use Rattle.ofp_rules.specs.declared.entry.Entry.{Entry}
use Rattle.ofp_rules.specs.Matching.{asks_of_ip}
use Rattle.ofp_read.specs.declared.fault.OfpWhy.{OfpWhy}
use Rattle.ofp_read.specs.declared.fault.OfpWhy.TheVariants.{BadLine, NeedsIp}
use Rattle.ofp_read.specs.declared.given.Given.{Given}
use Rattle.ofp_read.specs.inner.Cut.{begins_action, IsCut}
use Rattle.ofp_read.specs.inner.FieldTable.{with_piece}
use Rattle.ofp_read.specs.inner.FlowLine.{nothing_given, action_of, entry_of, with_action}
use Rattle.ofp_read.specs.Grammar.{is_separator, has_bytes, fields, ends_with_separator, AreFieldsOf, HasFlow, Writes}
use Rattle.ofp_read.specs.Unwritten.{IsUnwritten, bad_field, no_action, unknown_action, needs_ip}
use Rattle.ofp_read.proofs.ActionLaws.{action_said, action_read, word_of_text}
use Rattle.ofp_read.proofs.ApartLaws.{fields_ended, separator_last, fields_apart, action_begins}
use Rattle.ofp_read.proofs.FieldsLaws.{Reads, reads_none, reads_more, fields_of_reads, bad_of_reads}
use Rattle.ofp_read.proofs.OnceLaws.{Splits, one_split, split_flow}

-- 1. The next piece of a text.

abbrev if_bytes : List ℕ → List (List ℕ)
if_bytes [] = []
if_bytes (b ∷ bs) = (b ∷ bs) ∷ []

piece_first : (piece : List ℕ) (pieces : List (List ℕ)) → filter has_bytes (piece ∷ pieces) ≡ if_bytes piece ++ filter has_bytes pieces
piece_first [] pieces = refl
piece_first (b ∷ bs) pieces = refl

fields_cut : (text piece behind : List ℕ) → IsCut text piece behind → fields text ≡ if_bytes piece ++ fields behind
fields_cut text piece behind cut = elim cut.cut [
  | inl last ↦
      ap fields last.0 ∙ ap (filter has_bytes) (slice_split_none is_separator piece cut.whole) ∙ piece_first piece []
      ∙ ap (λ bs. if_bytes piece ++ fields bs) (sym last.1)
  | inr more ↦
      ap fields more.2 ∙ ap (filter has_bytes) (slice_split_at is_separator piece more.0 behind cut.whole more.1)
      ∙ piece_first piece (slice_split is_separator behind)
]

begins_cut : (text piece behind value : List ℕ) → IsCut text piece behind → piece ≡ codes "actions=" ++ value → begins_action text ≡ true
begins_cut text piece behind value cut is = elim cut.cut [
  | inl last ↦ ap begins_action (last.0 ∙ is)
  | inr more ↦ ap begins_action (more.2 ∙ ap (λ bs. bs ++ more.0 ∷ behind) is)
]

-- The rest of the text is shorter.
pub behind_shorter : (text piece behind : List ℕ) → 0 < length text → IsCut text piece behind → length behind < length text
behind_shorter text piece behind some cut = elim cut.cut [
  | inl last ↦ let none : length behind ≡ 0 = ap length last.1 in omega (arith, some, none)
  | inr more ↦
      let long : length text ≡ length (piece ++ more.0 ∷ behind) = ap length more.2 in
      omega (arith, long, length-append piece (more.0 ∷ behind))
]

-- 2. The fields in front of the rest are read.

pub record IsBehind (line rest : List ℕ) (g : Given) : Type 0 where
  pub front : List ℕ
  pub whole : line ≡ front ++ rest
  pub apart : (ends_with_separator front ≡ true) ⊎ (rest ≡ [])
  pub reads : Reads g (fields front)

pub at_start : (line : List ℕ) → IsBehind line line nothing_given
at_start line = record { front = []; whole = refl; apart = inl refl; reads = reads_none }

apart_at : (front rest : List ℕ) → 0 < length rest → (ends_with_separator front ≡ true) ⊎ (rest ≡ []) → ends_with_separator front ≡ true
apart_at front rest some (inl apart) = apart
apart_at front rest some (inr none) = absurd (omega (arith, some, ap length none))

reads_piece : (g h : Given) (texts : List (List ℕ)) (piece : List ℕ) → Reads g texts → with_piece g piece ≡ Ok h
    → Reads h (texts ++ if_bytes piece)
reads_piece g h texts [] reads read =
    let same : g ≡ h = cc in
    subst (λ (x : Given). Reads x (texts ++ [])) same (subst (Reads g) (sym (append-nil texts)) reads)
reads_piece g h texts (b ∷ bs) reads read = reads_more g h texts (b ∷ bs) reads read

pub next_piece : (line text piece behind : List ℕ) (g h : Given) → 0 < length text → IsBehind line text g → IsCut text piece behind
    → with_piece g piece ≡ Ok h → IsBehind line behind h
next_piece line text piece behind g h some at cut read =
    let apart = apart_at at.front text some at.apart in
    let reads = reads_piece g h (fields at.front) piece at.reads read in
    elim cut.cut [
      | inl last ↦ record {
        front = at.front ++ text;
        whole = at.whole ∙ sym (append-nil (at.front ++ text)) ∙ ap (λ bs. (at.front ++ text) ++ bs) (sym last.1);
        apart = inr last.1;
        reads = subst (Reads h) (sym (fields_apart at.front text apart ∙ ap (λ fs. fields at.front ++ fs) (fields_cut text piece behind cut
            ∙ ap (λ bs. if_bytes piece ++ fields bs) last.1 ∙ append-nil (if_bytes piece)))) reads;
      }
      | inr more ↦ record {
        front = (at.front ++ piece) ++ more.0 ∷ [];
        whole = at.whole ∙ ap (λ bs. at.front ++ bs) more.2 ∙ sym (append_assoc at.front piece (more.0 ∷ behind))
            ∙ sym (append_assoc (at.front ++ piece) (more.0 ∷ []) behind);
        apart = inl (separator_last (at.front ++ piece) more.0 more.1);
        reads = subst (Reads h) (sym (fields_ended (at.front ++ piece) more.0 more.1 ∙ fields_apart at.front piece apart
            ∙ ap (λ fs. fields at.front ++ fs) (ap (filter has_bytes) (slice_split_none is_separator piece cut.whole) ∙ piece_first piece []
            ∙ append-nil (if_bytes piece)))) reads;
      }
    ]

-- 3. Answers.

pub told_end : (line rest : List ℕ) (g : Given) → length rest ≡ 0 → IsBehind line rest g → IsUnwritten line BadLine
told_end line [] g none at =
    no_action (entry_of g Drop) (subst (AreFieldsOf (entry_of g Drop)) (ap fields (sym (at.whole ∙ append-nil at.front)))
    (fields_of_reads g (fields at.front) Drop at.reads))
told_end line (b ∷ bs) g none at = absurd (omega (arith, none))

bad_piece : (line text piece behind : List ℕ) (g : Given) (why : OfpWhy) → 0 < length text → IsBehind line text g
    → begins_action text ≡ false → IsCut text piece behind → with_piece g piece ≡ Err why → IsUnwritten line why
unfolding fields_of_reads
bad_piece line text [] behind g why some at other cut refused = cc
bad_piece line text (b ∷ bs) behind g why some at other cut refused = bad_field (record {
  front = fields at.front;
  here = b ∷ bs;
  behind = fields behind;
  entry = entry_of g Drop;
  whole = ap fields at.whole ∙ fields_apart at.front text (apart_at at.front text some at.apart)
      ∙ ap (λ fs. fields at.front ++ fs) (fields_cut text (b ∷ bs) behind cut);
  of_fields = fields_of_reads g (fields at.front) Drop at.reads;
  no_action = λ value is. let clash = sym other ∙ begins_cut text (b ∷ bs) behind value cut is in cc;
  bad = bad_of_reads g (fields at.front) (b ∷ bs) why at.reads refused;
})

pub told_bad : (line text piece behind : List ℕ) (g : Given) (why : OfpWhy) (r : Result Entry OfpWhy) → 0 < length text
    → IsBehind line text g → begins_action text ≡ false → IsCut text piece behind → with_piece g piece ≡ Err why → r ≡ Err why
    → IfErr r (IsUnwritten line)
told_bad line text piece behind g why r some at other cut refused is =
    subst (λ (x : Result Entry OfpWhy). IfErr x (IsUnwritten line)) (sym is) (bad_piece line text piece behind g why some at other cut refused)

-- The fields in front of the rest, which begins like an action.
split_here : (line rest : List ℕ) (g : Given) (a : Action) → 0 < length rest → (at : IsBehind line rest g) → begins_action rest ≡ true
    → Splits line at.front rest (entry_of g a)
split_here line rest g a some at begins = record {
  whole = at.whole;
  apart = apart_at at.front rest some at.apart;
  of_fields = fields_of_reads g (fields at.front) a at.reads;
  begins = begins;
}

no_flow : (line rest : List ℕ) (g : Given) → 0 < length rest → IsBehind line rest g → begins_action rest ≡ true → action_of (words rest) ≡ None
    → (f : Entry) → HasFlow line f → ⊥
no_flow line rest g some at begins none f flow =
    let same = one_split line at.front rest flow.front (flow.action ++ flow.blanks) (entry_of g Drop) f
    (split_here line rest g Drop some at begins) (split_flow line f flow) in
    let clash = sym none ∙ ap (λ bs. action_of (words bs)) same.1
    ∙ (action_read f.action flow.action flow.blanks flow.of_action flow.blank).1 in cc

flow_here : (line rest : List ℕ) (g : Given) (a : Action) → 0 < length rest → IsBehind line rest g → begins_action rest ≡ true
    → action_of (words rest) ≡ Some a → HasFlow line (entry_of g a)
flow_here line rest g a some at begins is =
    let said = action_said (words rest) a is in
    let word = word_of_text rest said.0 begins said.1 in
    record {
      front = at.front;
      action = said.0;
      blanks = word.blanks;
      written = at.whole ∙ ap (λ bs. at.front ++ bs) word.whole;
      apart = apart_at at.front rest some at.apart;
      of_fields = fields_of_reads g (fields at.front) a at.reads;
      of_action = said.2;
      blank = word.blank;
    }

-- The answer is the entry that the line encodes, or the reason why it encodes none.
abbrev pub Answers : List ℕ → Result Entry OfpWhy → Type 0
Answers line r = IfOk r (Writes line) × IfErr r (IsUnwritten line)

by_test : (line : List ℕ) (e : Entry) (t : Bool) → HasFlow line e → asks_of_ip e ≡ t
    → Answers line (if t then Ok e else Err NeedsIp)
by_test line e true flow asks = ((flow, asks), tt)
by_test line e false flow asks = (tt, needs_ip e flow asks)

by_action : (line rest : List ℕ) (g : Given) (o : Option Action) → 0 < length rest → IsBehind line rest g → begins_action rest ≡ true
    → action_of (words rest) ≡ o → Answers line (with_action g o)
by_action line rest g None some at begins is =
    let split = split_here line rest g Drop some at begins in (
      tt,
      unknown_action (entry_of g Drop) at.front (drop 8 rest) (at.whole ∙ ap (λ bs. at.front ++ bs) (action_begins rest begins)) split.apart
          split.of_fields (no_flow line rest g some at begins is),
    )
by_action line rest g (Some a) some at begins is =
    by_test line (entry_of g a) (asks_of_ip (entry_of g a)) (flow_here line rest g a some at begins is) refl

pub told_action : (line rest : List ℕ) (g : Given) (o : Option Action) (r : Result Entry OfpWhy) → 0 < length rest → IsBehind line rest g
    → begins_action rest ≡ true → o ≡ action_of (words rest) → r ≡ with_action g o → Answers line r
told_action line rest g o r some at begins is told = subst (Answers line) (sym told) (by_action line rest g o some at begins (sym is))
