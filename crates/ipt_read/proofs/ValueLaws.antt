-- Values are parsed if and only if they are in the defined notation: counters and quoted strings.
use Rattle.std.proofs.Common.{◌≡◌, ◌≢◌, ℕ, ◌<◌, ◌∙◌, sym, ap, refl, subst, inl, inr, Bool, true, false, not, IsTrue, List, [], ◌∷◌, ◌++◌, Option, Some, None, arith, drop, ◌⊎◌}
use Rattle.std.specs.Prelude.{if◌then◌else◌, ◌==◌, nat_eq}
use Rattle.std.specs.Char.{is_ascii_digit}
use Rattle.std.specs.List.{list_all}
use Rattle.std.proofs.lemmas.Bool.{and_parts, and_from}
use Rattle.std.proofs.lemmas.Bool.Decides.{nat_tests}
use Rattle.text_core.specs.inner.Pieces.{split_once}
use Rattle.text_core.proofs.PiecesLaws.{lacks, split_once-append, split_once_joined}
use Rattle.text_core.proofs.StepsLaws.{if_parts}
use Rattle.ipt_read.specs.declared.option.Place.TheVariants.{AtOption, InText}
use Rattle.ipt_read.specs.inner.ValueSteps.{closes, quoted}
use Rattle.ipt_read.specs.inner.Counts.{is_nothing, is_bytes_part, is_packets_part, is_count}
use Rattle.ipt_read.specs.Values.{is_counter_number}
use Rattle.ipt_read.specs.Values.{IsCounter, IsInside, nothing, taken, plain, IsRestOfText, closing}

-- 1. Counters.

digits_lack : (mark : ℕ) (bs : List ℕ) → 57 < mark → list_all is_ascii_digit bs ≡ true → lacks mark bs ≡ true
digits_lack mark [] past digits = refl
digits_lack mark (b ∷ bs) past digits =
    let parts = and_parts (is_ascii_digit b) (list_all is_ascii_digit bs) digits in
    and_from (not (nat_eq b mark)) (lacks mark bs) (apart b parts.0) (digits_lack mark bs past parts.1)
  where
    apart : (b : ℕ) → is_ascii_digit b ≡ true → not (nat_eq b mark) ≡ true
    apart b digit = grind (arith, nat_tests)

figure_lacks : (mark : ℕ) (bs : List ℕ) → 57 < mark → is_counter_number bs ≡ true → lacks mark bs ≡ true
figure_lacks mark bs past figure = digits_lack mark bs past (and_parts (list_all is_ascii_digit bs) _ figure).0

nothing_left : (bs : List ℕ) → is_nothing bs ≡ true → bs ≡ []
nothing_left [] h = refl
nothing_left (b ∷ bs) h = cc

bytes_said : (rest : List ℕ) (o : Option (List ℕ × List ℕ)) → split_once 93 rest ≡ o → is_bytes_part o ≡ true
    → (bytes : List ℕ) × IsTrue (is_counter_number bytes) × (rest ≡ bytes ++ (93 ∷ []))
bytes_said rest None cut h = cc
bytes_said rest (Some (bytes, left)) cut h =
    let parts = and_parts (is_counter_number bytes) (is_nothing left) h in
    (bytes, parts.0, split_once_joined 93 rest bytes left cut ∙ ap (λ (v : List ℕ). bytes ++ (93 ∷ v)) (nothing_left left parts.1))

packets_said : (b : ℕ) (bs : List ℕ) (o : Option (List ℕ × List ℕ)) → b ≡ 91 → split_once 58 bs ≡ o → is_packets_part o ≡ true
    → IsCounter (b ∷ bs)
packets_said b bs None first cut h = cc
packets_said b bs (Some (packets, rest)) first cut h =
    let parts = and_parts (is_counter_number packets) (is_bytes_part (split_once 93 rest)) h in
    let said = bytes_said rest (split_once 93 rest) refl parts.1 in
    record {
      packets = packets;
      bytes = said.0;
      are_figures = (parts.0, said.1);
      written = (λ i. first i ∷ (split_once_joined 58 bs packets rest cut ∙ ap (λ (v : List ℕ). packets ++ (58 ∷ v)) said.2) i);
    }

bracket : (b : ℕ) → (b == 91) ≡ true → b ≡ 91
bracket b h = grind (arith, nat_tests)

pub count_said : (word : List ℕ) → is_count word ≡ true → IsCounter word
unfolding is_count
count_said [] h = cc
count_said (b ∷ bs) h =
    let parts = and_parts (b == 91) (is_packets_part (split_once 58 bs)) h in
    packets_said b bs (split_once 58 bs) (bracket b parts.0) refl parts.1

pub said_count : (word : List ℕ) → IsCounter word → is_count word ≡ true
unfolding is_count
said_count word count =
    let packets = count.packets in
    let bytes = count.bytes in
    let first = split_once-append 58 packets (bytes ++ (93 ∷ [])) (figure_lacks 58 packets (omega arith) count.are_figures.0) in
    let second = split_once-append 93 bytes [] (figure_lacks 93 bytes (omega arith) count.are_figures.1) in
    let last : is_bytes_part (split_once 93 (bytes ++ (93 ∷ []))) ≡ true = ap is_bytes_part second ∙ and_from _ _ count.are_figures.1 refl in
    ap is_count count.written ∙ ap is_packets_part first ∙ and_from _ _ count.are_figures.0 last

-- 2. Quoted strings.

-- A token that ends a quoted string: the first unescaped `"` is its last byte.
pub record EndsText (word : List ℕ) : Type 0 where
  pub inside : List ℕ
  pub is_inside : IsInside inside
  pub written : word ≡ inside ++ (34 ∷ [])

-- A token within a quoted string that does not end it. A backslash at its end escapes the blank after the token.
abbrev pub StaysOpen : List ℕ → Type 0
StaysOpen word = IsInside (word ++ (32 ∷ []))

pub rest_ends : {word : List ℕ} → EndsText word → IsRestOfText (word ∷ [])
rest_ends ends = closing ends.inside ends.is_inside ends.written

mark_is : (b mark : ℕ) → (b == mark) ≡ true → b ≡ mark
mark_is b mark h = grind (arith, nat_tests)

mark_is_not : (b mark : ℕ) → (b == mark) ≡ false → b ≢ mark
mark_is_not b mark h = λ same. let other : (b == mark) ≡ true = grind (arith, nat_tests) in cc

ends_more : (front word : List ℕ) → ((inside : List ℕ) → IsInside inside → IsInside (front ++ inside))
    → ((inside : List ℕ) → front ++ (inside ++ (34 ∷ [])) ≡ (front ++ inside) ++ (34 ∷ [])) → EndsText word → EndsText (front ++ word)
ends_more front word more joined ends =
    record { inside = front ++ ends.inside; is_inside = more ends.inside ends.is_inside; written = ap (λ (v : List ℕ). front ++ v) ends.written ∙ joined ends.inside }

-- A token closes a quoted string if and only if it ends it.
pub text_ends : (word : List ℕ) → quoted false word ≡ Some AtOption → EndsText word
text_ends [] h = cc
text_ends (b ∷ []) h = elim (if_parts (b == 92) (quoted true []) (if b == 34 then closes [] else quoted false []) (Some AtOption) h) [
  | inl slash ↦ cc
  | inr other ↦ elim (if_parts (b == 34) (closes []) (quoted false []) (Some AtOption) other.1) [
    | inl quote ↦ record { inside = []; is_inside = nothing; written = λ i. mark_is b 34 quote.0 i ∷ [] }
    | inr byte ↦ cc
  ]
]
text_ends (b ∷ c ∷ cs) h = elim (if_parts (b == 92) (quoted true (c ∷ cs)) (if b == 34 then closes (c ∷ cs) else quoted false (c ∷ cs)) (Some AtOption) h) [
  | inl slash ↦
      subst (λ (a : ℕ). EndsText (a ∷ c ∷ cs)) (sym (mark_is b 92 slash.0)) (ends_more (92 ∷ c ∷ []) cs (λ inside is. taken is) (λ inside. refl) (text_ends cs slash.1))
  | inr other ↦ elim (if_parts (b == 34) (closes (c ∷ cs)) (quoted false (c ∷ cs)) (Some AtOption) other.1) [
    | inl quote ↦ cc
    | inr byte ↦ ends_more (b ∷ []) (c ∷ cs) (λ inside is. plain (mark_is_not b 92 other.0) (mark_is_not b 34 byte.0) is) (λ inside. refl) (text_ends (c ∷ cs) byte.1)
  ]
]

other_byte : (b mark : ℕ) → b ≢ mark → (b == mark) ≡ false
other_byte b mark apart = by_test (b == mark) refl
  where
    by_test : (t : Bool) → (b == mark) ≡ t → t ≡ false
    by_test true is = absurd (apart (mark_is b mark is))
    by_test false is = refl

inside_quoted : (inside : List ℕ) → IsInside inside → quoted false (inside ++ (34 ∷ [])) ≡ Some AtOption
inside_quoted inside nothing = refl
inside_quoted inside (taken {bs = bs} is) = inside_quoted bs is
inside_quoted inside (plain {b = b} {bs = bs} slash quote is) = rw (other_byte b 92 slash, other_byte b 34 quote) (inside_quoted bs is)

pub ends_text : (word inside : List ℕ) → IsInside inside → word ≡ inside ++ (34 ∷ []) → quoted false word ≡ Some AtOption
ends_text word inside is written = ap (quoted false) written ∙ inside_quoted inside is

-- A token leaves a quoted string open if and only if it stays open.
stays_more : (front word : List ℕ) → ((inside : List ℕ) → IsInside inside → IsInside (front ++ inside)) → ((inside : List ℕ) → front ++ (inside ++ (32 ∷ [])) ≡ (front ++ inside) ++ (32 ∷ [])) → StaysOpen word → StaysOpen (front ++ word)
stays_more front word more joined is = subst IsInside (joined word) (more (word ++ (32 ∷ [])) is)

blank_inside : IsInside (32 ∷ [])
blank_inside = plain (λ e. cc) (λ e. cc) nothing

pub text_open : (word : List ℕ) → quoted false word ≡ Some InText → StaysOpen word
text_open [] h = blank_inside
text_open (b ∷ []) h = elim (if_parts (b == 92) (quoted true []) (if b == 34 then closes [] else quoted false []) (Some InText) h) [
  | inl slash ↦ subst (λ (a : ℕ). StaysOpen (a ∷ [])) (sym (mark_is b 92 slash.0)) (taken nothing)
  | inr other ↦ elim (if_parts (b == 34) (closes []) (quoted false []) (Some InText) other.1) [
    | inl quote ↦ cc
    | inr byte ↦ plain (mark_is_not b 92 other.0) (mark_is_not b 34 byte.0) blank_inside
  ]
]
text_open (b ∷ c ∷ cs) h = elim (if_parts (b == 92) (quoted true (c ∷ cs)) (if b == 34 then closes (c ∷ cs) else quoted false (c ∷ cs)) (Some InText) h) [
  | inl slash ↦
      subst (λ (a : ℕ). StaysOpen (a ∷ c ∷ cs)) (sym (mark_is b 92 slash.0)) (stays_more (92 ∷ c ∷ []) cs (λ inside is. taken is) (λ inside. refl) (text_open cs slash.1))
  | inr other ↦ elim (if_parts (b == 34) (closes (c ∷ cs)) (quoted false (c ∷ cs)) (Some InText) other.1) [
    | inl quote ↦ cc
    | inr byte ↦ stays_more (b ∷ []) (c ∷ cs) (λ inside is. plain (mark_is_not b 92 other.0) (mark_is_not b 34 byte.0) is) (λ inside. refl) (text_open (c ∷ cs) byte.1)
  ]
]

abbrev InsideParts : ℕ → List ℕ → Type 0
InsideParts b bs = ((b ≡ 92) × IsInside (drop 1 bs)) ⊎ ((b ≢ 92) × (b ≢ 34) × IsInside bs)

inside_by : (xs : List ℕ) (b : ℕ) (bs : List ℕ) → IsInside xs → xs ≡ b ∷ bs → InsideParts b bs
inside_by xs b bs nothing e = cc
inside_by xs b bs (taken {b = c} {bs = cs} is) e =
    let first : 92 ≡ b = cc in
    let others : c ∷ cs ≡ bs = cc in
    inl (sym first, subst (λ (ys : List ℕ). IsInside (drop 1 ys)) others is)
inside_by xs b bs (plain {b = c} {bs = cs} slash quote is) e =
    let first : c ≡ b = cc in
    let others : cs ≡ bs = cc in
    inr (λ h. slash (first ∙ h), λ h. quote (first ∙ h), subst IsInside others is)

inside_parts : (b : ℕ) (bs : List ℕ) → IsInside (b ∷ bs) → InsideParts b bs
inside_parts b bs is = inside_by (b ∷ bs) b bs is refl

byte_open : (b : ℕ) (word : List ℕ) → b ≢ 92 → b ≢ 34 → quoted false word ≡ Some InText → quoted false (b ∷ word) ≡ Some InText
byte_open b word slash quote h = rw (other_byte b 92 slash, other_byte b 34 quote) h

pub open_text : (word : List ℕ) → StaysOpen word → quoted false word ≡ Some InText
open_text [] is = refl
open_text (b ∷ []) is = elim (inside_parts b (32 ∷ []) is) [
  | inl slash ↦ ap (λ (a : ℕ). quoted false (a ∷ [])) slash.0
  | inr byte ↦ byte_open b [] byte.0 byte.1 refl
]
open_text (b ∷ c ∷ cs) is = elim (inside_parts b (c ∷ (cs ++ (32 ∷ []))) is) [
  | inl slash ↦ ap (λ (a : ℕ). quoted false (a ∷ c ∷ cs)) slash.0 ∙ open_text cs slash.1
  | inr byte ↦ byte_open b (c ∷ cs) byte.0 byte.1 (open_text (c ∷ cs) byte.2)
]
