-- A line that is not parsed as an event is bad in terms of the format, for the reported reason. A file has either a parse result or a first
-- error.
use Rattle.std.proofs.Common.{◌≡◌, ◌≢◌, ℕ, false, List, [], ◌∷◌, Option, Some, None, ◌⊎◌, inl, inr, refl, sym, ap, arith, length, subst}
use Rattle.std.specs.Prelude.{codes, Result, Ok, Err, bytes_eq, slice_get}
use Rattle.std.specs.Option.{option_map, ok_or}
use Rattle.text_core.specs.Lines.{words}
use Rattle.text_core.specs.ListFormat.{IsBad, bad_line, bad_value, by_lines}
use Rattle.text_core.specs.inner.ListAnswers.{EncodesAtMostOne, EncodesOnlyWellFormed}
use Rattle.text_core.proofs.ListFormatLaws.{list_settled}
use Rattle.text_core.proofs.LineFormatLaws.{IsSettled, same_ok}
use Rattle.text_core.proofs.StepsLaws.{if_parts, bytes_same}
use Rattle.text_core.specs.declared.faults.ListWhy.{ListWhy}
use Rattle.text_core.specs.declared.faults.ListWhy.TheVariants.{BadLine, BadValue}
use Rattle.host_net.specs.declared.packet.Packet.{Packet}
use Rattle.pkt_core.specs.declared.event.Event.{Event}
use Rattle.pkt_core.specs.declared.event.Event.TheVariants.{Seen, Forget}
use Rattle.pkt_core.specs.EventsText.{EncodesEvent, AreVerbAndFive, events_text}
use Rattle.pkt_core.specs.inner.EventSteps.{packet_of, event_by, event_of}
use Rattle.pkt_core.proofs.EventsTextLaws.{told_event}

-- 1. The reasons why tokens encode no event.

-- Any other number of tokens.
not_six : (ws : List (List ℕ)) → length ws ≢ 6 → AreVerbAndFive ws → ⊥
not_six ws other form = other form.0

abbrev Explains : List (List ℕ) → ListWhy → Type 0
Explains ws why = ((why ≡ BadLine) × (AreVerbAndFive ws → ⊥)) ⊎ ((why ≡ BadValue) × AreVerbAndFive ws)

bad_count : (ws : List (List ℕ)) (why : ListWhy) → length ws ≢ 6 → ◌≡◌ {A = Result Event ListWhy} (Err BadLine) (Err why) → Explains ws why
bad_count ws why other h = let e : BadLine ≡ why = cc in inl (sym e, not_six ws other)

value_missing : (f : Packet → Event) (p : Option Packet) (why : ListWhy) → ok_or (option_map f p) BadValue ≡ Err why → why ≡ BadValue
value_missing f None why h = let e : BadValue ≡ why = cc in sym e
value_missing f (Some p) why h = cc

no_verb : (verb : List ℕ) (values : List (List ℕ)) → bytes_eq verb (codes "packet") ≡ false → bytes_eq verb (codes "forget") ≡ false
    → AreVerbAndFive (verb ∷ values) → ⊥
no_verb verb values packet forget form = elim form.1 [
  | inl is ↦
      let same : verb ≡ codes "packet" = cc in
      let own = ap (λ v. bytes_eq v (codes "packet")) same in cc
  | inr is ↦
      let same : verb ≡ codes "forget" = cc in
      let own = ap (λ v. bytes_eq v (codes "forget")) same in cc
]

explained_by : (verb a b c d x : List ℕ) (p : Option Packet) (why : ListWhy) → event_by verb p ≡ Err why
    → Explains (verb ∷ a ∷ b ∷ c ∷ d ∷ x ∷ []) why
unfolding event_by
explained_by verb a b c d x p why h = elim (if_parts (bytes_eq verb (codes "packet")) _ _ (Err why) h) [
  | inl seen ↦
      inr (value_missing Seen p why seen.1, (refl, inl (ap (λ v. Some v) (bytes_same verb (codes "packet") seen.0))))
  | inr rest ↦ elim (if_parts (bytes_eq verb (codes "forget")) _ _ (Err why) rest.1) [
    | inl forgotten ↦
        inr (value_missing Forget p why forgotten.1, (refl, inr (ap (λ v. Some v) (bytes_same verb (codes "forget") forgotten.0))))
    | inr bad ↦
        let same : ◌≡◌ {A = Result Event ListWhy} (Err BadLine) (Err why) = bad.1 in
        let e : BadLine ≡ why = cc in
        inl (sym e, no_verb verb (a ∷ b ∷ c ∷ d ∷ x ∷ []) rest.0 bad.0)
  ]
]

explained : (ws : List (List ℕ)) (why : ListWhy) → event_of ws ≡ Err why → Explains ws why
unfolding event_of
explained [] why h = bad_count [] why (λ e. cc) h
explained (a ∷ []) why h = bad_count (a ∷ []) why (λ e. cc) h
explained (a ∷ b ∷ []) why h = bad_count (a ∷ b ∷ []) why (λ e. cc) h
explained (a ∷ b ∷ c ∷ []) why h = bad_count (a ∷ b ∷ c ∷ []) why (λ e. cc) h
explained (a ∷ b ∷ c ∷ d ∷ []) why h = bad_count (a ∷ b ∷ c ∷ d ∷ []) why (λ e. cc) h
explained (a ∷ b ∷ c ∷ d ∷ x ∷ []) why h = bad_count (a ∷ b ∷ c ∷ d ∷ x ∷ []) why (λ e. cc) h
explained (a ∷ b ∷ c ∷ d ∷ x ∷ y ∷ []) why h = explained_by a b c d x y (packet_of b c d x y) why h
explained (a ∷ b ∷ c ∷ d ∷ x ∷ y ∷ z ∷ ws) why h = bad_count (a ∷ b ∷ c ∷ d ∷ x ∷ y ∷ z ∷ ws) why (λ e. absurd (omega (arith, e))) h

-- 2. A line encodes at most one event. If it encodes one, it has a verb and five fields.

tells_one : (ws : List (List ℕ)) (x y : Event) → EncodesEvent ws x → EncodesEvent ws y → x ≡ y
tells_one ws x y p q = same_ok (event_of ws) x y (told_event ws x p) (told_event ws y q)

told_form : (ws : List (List ℕ)) (e : Event) → EncodesEvent ws e → AreVerbAndFive ws
told_form ws (Seen p) told = (ap length told.written, inl (ap (λ (xs : List (List ℕ)). slice_get xs 0) told.written))
told_form ws (Forget p) told = (ap length told.written, inr (ap (λ (xs : List (List ℕ)). slice_get xs 0) told.written))

pub event_lines_tell_one : EncodesAtMostOne events_text
event_lines_tell_one n line x y p q = tells_one (words line) x y p q

pub event_lines_have_form : EncodesOnlyWellFormed events_text
event_lines_have_form n line x told = told_form (words line) x told

-- A file has either a parse result or a first error.
pub events_settled : IsSettled (by_lines events_text)
events_settled = list_settled events_text event_lines_tell_one event_lines_have_form

-- 3. A rejected line is bad, regardless of the lines before it.

not_told : (ws : List (List ℕ)) (why : ListWhy) → event_of ws ≡ Err why → (e : Event) → EncodesEvent ws e → ⊥
not_told ws why refused e told = let read : event_of ws ≡ Ok e = told_event ws e told in cc

pub refused_is_bad : (n : ℕ) (before : List Event) (line : List ℕ) (why : ListWhy) → event_of (words line) ≡ Err why
    → IsBad events_text n before line why
refused_is_bad n before line why refused = elim (explained (words line) why refused) [
  | inl other ↦ subst (IsBad events_text n before line) (sym other.0) (bad_line other.1)
  | inr value ↦ subst (IsBad events_text n before line) (sym value.0) (bad_value value.1 (not_told (words line) why refused))
]
