-- Lemmas on the notation of prefixes: a text is parsed to a prefix if and only if it denotes it.
use Rattle.std.proofs.Common.{◌≡◌, ℕ, ◌+◌, ◌*◌, ◌/◌, ◌%◌, ◌^◌, ◌≤◌, ◌<◌, length, length-append, min, nat_eq, ◌==◌, Bool, true, false, ◌&&◌, ◌||◌, List, [], ◌∷◌, ◌++◌, take, slice_index_or, Option, Some, None, inl, inr, refl, sym, ap, ap₂, ◌∙◌, arith, subst, append_assoc, append-nil}
use Rattle.std.proofs.Math.Bridge.{le_prop}
use Rattle.std.specs.Char.{is_ascii_digit}
use Rattle.std.specs.Fmt.{decimal}
use Rattle.std.specs.Prelude.{IfSome, bytes_eq}
use Rattle.std.proofs.lemmas.Bool.{and_parts, or_cases}
use Rattle.std.proofs.lemmas.Bool.Decides.{nat_tests}
use Rattle.std.proofs.lemmas.Nat.{shr-shr}
use Rattle.std.proofs.lemmas.Fmt.{length-decimal-le}
use Rattle.text_core.specs.inner.Decimal.{number}
use Rattle.text_core.specs.Decimal.{numbers_in}
use Rattle.text_core.proofs.DecimalLaws.{number-decimal, decimal_of_number, decimal_lacks}
use Rattle.text_core.proofs.NumbersLaws.{numbers_in-decimal, numbers_in-append}
use Rattle.text_core.specs.FirstMatch.{some_if}
use Rattle.text_core.proofs.FirstsLaws.{some_same, where_parts}
use Rattle.text_core.specs.inner.Pieces.{split_once}
use Rattle.text_core.proofs.PiecesLaws.{lacks, lacks-append, split_once-append, split_once_joined}
use Rattle.text_core.proofs.StepsLaws.{bind_some, bytes_same, bytes_own}
use Rattle.host_net.specs.declared.prefix.Prefix.{Prefix}
use Rattle.host_net.specs.Prefix.{octet, address_text, address_with, prefix_text, prefix_with, prefix_of, spells}
use Rattle.host_net.specs.PrefixView.{IsSpelling}
use Rattle.host_net.specs.inner.PrefixSteps.{address_of}

-- A prefix is its address and its length.
pub prefix_same : (p q : Prefix) → p.addr ≡ q.addr → p.len ≡ q.len → p ≡ q
prefix_same p q e f =
    subst (λ (a : ℕ). (fits : q.len ≤ 32) → p ≡ record { addr = a; len = q.len; fits = fits }) e
    (subst (λ (len : ℕ). (fits : len ≤ 32) → p ≡ record { addr = p.addr; len = len; fits = fits }) f
    (λ fits i. record { addr = p.addr; len = p.len; fits = le_prop p.fits fits i }))
    q.fits

pub prefix_with_own : (p : Prefix) → prefix_with p.addr p.len ≡ p
prefix_with_own p =
    let whole : min p.len 32 ≡ p.len = omega (arith, p.fits) in
    prefix_same (prefix_with p.addr p.len) p refl whole

octet_fits : (a place : ℕ) → octet a place ≤ 255
unfolding octet
octet_fits a place = omega arith

octets_joined : (a : ℕ) → a < 2 ^ 32 → octet a 24 * 2 ^ 24 + octet a 16 * 2 ^ 16 + octet a 8 * 2 ^ 8 + octet a 0 ≡ a
unfolding octet
octets_joined a h = omega (arith, shr-shr a 8 8, shr-shr a 16 8)

octets_apart : (a b c d : ℕ) → a ≤ 255 → b ≤ 255 → c ≤ 255 → d ≤ 255
    → (octet (a * 2 ^ 24 + b * 2 ^ 16 + c * 2 ^ 8 + d) 24 ≡ a) × (octet (a * 2 ^ 24 + b * 2 ^ 16 + c * 2 ^ 8 + d) 16 ≡ b) × (octet (a * 2 ^ 24 + b * 2 ^ 16 + c * 2 ^ 8 + d) 8 ≡ c) × (octet (a * 2 ^ 24 + b * 2 ^ 16 + c * 2 ^ 8 + d) 0 ≡ d)
unfolding octet
octets_apart a b c d ha hb hc hd = (omega arith, omega arith, omega arith, omega arith)

-- A number before a separator is cut at the separator.
number_cut : (mark n : ℕ) (rest : List ℕ) → is_ascii_digit mark ≡ false → n ≤ 255
    → split_once mark (decimal n ++ (mark ∷ rest)) ≡ Some (decimal n, rest)
number_cut mark n rest other small = split_once-append mark (decimal n) rest (decimal_lacks mark n other (omega arith))

octet_read : (a place : ℕ) → number 255 (decimal (octet a place)) ≡ Some (octet a place)
octet_read a place = number-decimal 255 (octet a place) (octet_fits a place) (omega (arith, octet_fits a place))

-- A formatted address is parsed.
pub address_of-address_text : (a : ℕ) → a < 2 ^ 32 → address_of (address_text a) ≡ Some a
unfolding address_of address_text
address_of-address_text a fits =
    rw (
      number_cut 46 (octet a 24) (decimal (octet a 16) ++ (46 ∷ (decimal (octet a 8) ++ (46 ∷ decimal (octet a 0))))) refl (octet_fits a 24),
      number_cut 46 (octet a 16) (decimal (octet a 8) ++ (46 ∷ decimal (octet a 0))) refl (octet_fits a 16),
      number_cut 46 (octet a 8) (decimal (octet a 0)) refl (octet_fits a 8),
      octet_read a 24,
      octet_read a 16,
      octet_read a 8,
      octet_read a 0,
    )
    (ap (λ n. Some n) (octets_joined a fits))

octet_lacks : (mark a place : ℕ) → is_ascii_digit mark ≡ false → lacks mark (decimal (octet a place)) ≡ true
octet_lacks mark a place other = decimal_lacks mark (octet a place) other (omega (arith, octet_fits a place))

-- An address contains no separator except dots.
dotted_lacks : (mark a place : ℕ) (rest : List ℕ) → is_ascii_digit mark ≡ false → nat_eq 46 mark ≡ false → lacks mark rest ≡ true
    → lacks mark (decimal (octet a place) ++ (46 ∷ rest)) ≡ true
dotted_lacks mark a place rest other no_dot h =
    let behind : lacks mark (46 ∷ rest) ≡ true = rw (no_dot, h) refl in
    lacks-append mark (decimal (octet a place)) (46 ∷ rest) (octet_lacks mark a place other) behind

pub address_lacks : (mark a : ℕ) → is_ascii_digit mark ≡ false → nat_eq 46 mark ≡ false → lacks mark (address_text a) ≡ true
unfolding address_text
address_lacks mark a other no_dot =
    let last = octet_lacks mark a 0 other in
    let two = dotted_lacks mark a 8 (decimal (octet a 0)) other no_dot last in
    let three = dotted_lacks mark a 16 (decimal (octet a 8) ++ (46 ∷ decimal (octet a 0))) other no_dot two in
    dotted_lacks mark a 24 (decimal (octet a 16) ++ (46 ∷ (decimal (octet a 8) ++ (46 ∷ decimal (octet a 0))))) other no_dot three

-- The text of the address of four octets.
address_text-joined : (a b c d : ℕ) → a ≤ 255 → b ≤ 255 → c ≤ 255 → d ≤ 255
    → address_text (a * 2 ^ 24 + b * 2 ^ 16 + c * 2 ^ 8 + d) ≡ decimal a ++ (46 ∷ (decimal b ++ (46 ∷ (decimal c ++ (46 ∷ decimal d)))))
unfolding address_text
address_text-joined a b c d ha hb hc hd =
    let apart = octets_apart a b c d ha hb hc hd in
    rw (apart.0, apart.1, apart.2, apart.3) refl

-- A part that was cut off, if it is a number.
piece_of_number : (bs : List ℕ) (parts : List ℕ × List ℕ) (n : ℕ) → split_once 46 bs ≡ Some parts → number 255 parts.0 ≡ Some n
    → (bs ≡ decimal n ++ (46 ∷ parts.1)) × (n ≤ 255)
piece_of_number bs parts n cut said =
    let number_text = decimal_of_number 255 parts.0 n (omega arith) said in
    (split_once_joined 46 bs parts.0 parts.1 cut ∙ ap (λ front. front ++ (46 ∷ parts.1)) number_text.0, number_text.1)

-- A text that is parsed to an address is the formatted address.
pub address_text-address_of : (text : List ℕ) (a : ℕ) → address_of text ≡ Some a → (text ≡ address_text a) × (a < 2 ^ 32)
unfolding address_of
address_text-address_of text a read =
    let p = bind_some (split_once 46 text) _ a read in
    let q = bind_some (split_once 46 p.0.1) _ a p.2 in
    let r = bind_some (split_once 46 q.0.1) _ a q.2 in
    let first = bind_some (number 255 p.0.0) _ a r.2 in
    let second = bind_some (number 255 q.0.0) _ a first.2 in
    let third = bind_some (number 255 r.0.0) _ a second.2 in
    let fourth = bind_some (number 255 r.0.1) _ a third.2 in
    let one = piece_of_number text p.0 first.0 p.1 first.1 in
    let two = piece_of_number p.0.1 q.0 second.0 q.1 second.1 in
    let three = piece_of_number q.0.1 r.0 third.0 r.1 third.1 in
    let four = decimal_of_number 255 r.0.1 fourth.0 (omega arith) fourth.1 in
    let sum : first.0 * 2 ^ 24 + second.0 * 2 ^ 16 + third.0 * 2 ^ 8 + fourth.0 ≡ a = some_same _ a fourth.2 in
    let whole : text ≡ decimal first.0 ++ (46 ∷ (decimal second.0 ++ (46 ∷ (decimal third.0 ++ (46 ∷ decimal fourth.0))))) =
    one.0 ∙ ap (λ bs. decimal first.0 ++ (46 ∷ bs)) (two.0 ∙ ap (λ bs. decimal second.0 ++ (46 ∷ bs)) (three.0 ∙ ap (λ bs. decimal third.0 ++ (46 ∷ bs)) four.0)) in
    (whole ∙ sym (address_text-joined first.0 second.0 third.0 fourth.0 one.1 two.1 three.1 four.1) ∙ ap address_text sum, omega (arith, sum, one.1, two.1, three.1, four.1))

-- The numbers in a text that begins with an address.
octet_small : (a place : ℕ) → octet a place < 2 ^ 64
octet_small a place = omega (arith, octet_fits a place)

abbrev octets : ℕ → List ℕ → List ℕ
octets a behind = octet a 24 ∷ octet a 16 ∷ octet a 8 ∷ octet a 0 ∷ behind

octets_in : (a : ℕ) (rest behind : List ℕ) → numbers_in (decimal (octet a 0) ++ rest) ≡ octet a 0 ∷ behind
    → numbers_in (address_text a ++ rest) ≡ octets a behind
unfolding address_text
octets_in a rest behind last =
    let fourth : List ℕ = decimal (octet a 0) in
    let third : List ℕ = decimal (octet a 8) in
    let second : List ℕ = decimal (octet a 16) in
    let first : List ℕ = decimal (octet a 24) in
    let whole : address_text a ++ rest ≡ first ++ (46 ∷ (second ++ (46 ∷ (third ++ (46 ∷ (fourth ++ rest)))))) =
    append_assoc first (46 ∷ (second ++ (46 ∷ (third ++ (46 ∷ fourth))))) rest
    ∙ ap (λ bs. first ++ (46 ∷ bs))
    (append_assoc second (46 ∷ (third ++ (46 ∷ fourth))) rest ∙ ap (λ bs. second ++ (46 ∷ bs)) (append_assoc third (46 ∷ fourth) rest)) in
    ap numbers_in whole
    ∙ numbers_in-append (octet a 24) 46 (second ++ (46 ∷ (third ++ (46 ∷ (fourth ++ rest))))) (octet_small a 24) refl
    ∙ ap (λ ns. octet a 24 ∷ ns)
    (numbers_in-append (octet a 16) 46 (third ++ (46 ∷ (fourth ++ rest))) (octet_small a 16) refl
    ∙ ap (λ ns. octet a 16 ∷ ns)
    (numbers_in-append (octet a 8) 46 (fourth ++ rest) (octet_small a 8) refl ∙ ap (λ ns. octet a 8 ∷ ns) last))

numbers_in_address : (a : ℕ) → numbers_in (address_text a) ≡ octets a []
numbers_in_address a =
    ap numbers_in (sym (append-nil (address_text a)))
    ∙ octets_in a [] [] (ap numbers_in (append-nil (decimal (octet a 0))) ∙ numbers_in-decimal (octet a 0) (octet_small a 0))

numbers_in_prefix : (p : Prefix) → numbers_in (prefix_text p) ≡ octets p.addr (p.len ∷ [])
unfolding prefix_text
numbers_in_prefix p =
    octets_in p.addr (47 ∷ decimal p.len) (p.len ∷ [])
    (numbers_in-append (octet p.addr 0) 47 (decimal p.len) (octet_small p.addr 0) refl
    ∙ ap (λ ns. octet p.addr 0 ∷ ns) (numbers_in-decimal p.len (omega (arith, p.fits))))

-- The only prefix that a text may denote, by its numbers.
abbrev prefix_in : List ℕ → Prefix
prefix_in ns = prefix_with (address_with (take 4 ns)) (slice_index_or ns 4 32)

prefix_in_is : (p : Prefix) (ns : List ℕ) → address_with (take 4 ns) ≡ p.addr → slice_index_or ns 4 32 ≡ p.len → prefix_in ns ≡ p
prefix_in_is p ns addr len = ap₂ prefix_with addr len ∙ prefix_with_own p

octets_with : (a : ℕ) (behind : List ℕ) → a < 2 ^ 32 → address_with (take 4 (octets a behind)) ≡ a
octets_with a behind fits = omega (arith, octets_joined a fits)

-- Every notation of a prefix is parsed.
found : (text : List ℕ) (p : Prefix) → prefix_in (numbers_in text) ≡ p → spells text p ≡ true → prefix_of text ≡ Some p
unfolding prefix_of
found text p is holds = ap (λ q. some_if (spells text q) q) is ∙ rw holds refl

read_with_length : (p : Prefix) → p.addr < 2 ^ 32 → prefix_of (prefix_text p) ≡ Some p
read_with_length p fits =
    found (prefix_text p) p
    (ap prefix_in (numbers_in_prefix p) ∙ prefix_in_is p (octets p.addr (p.len ∷ [])) (octets_with p.addr (p.len ∷ []) fits) refl)
    (rw (bytes_own (prefix_text p)) refl)

read_alone : (p : Prefix) → p.addr < 2 ^ 32 → p.len ≡ 32 → prefix_of (address_text p.addr) ≡ Some p
read_alone p fits whole =
    found (address_text p.addr) p
    (ap prefix_in (numbers_in_address p.addr) ∙ prefix_in_is p (octets p.addr []) (octets_with p.addr [] fits) (sym whole))
    (alone_spells (bytes_eq (address_text p.addr) (prefix_text p)) p whole)
  where
    alone_spells : (b : Bool) (p : Prefix) → p.len ≡ 32 → (b || ((p.len == 32) && bytes_eq (address_text p.addr) (address_text p.addr))) ≡ true
    alone_spells true p whole = refl
    alone_spells false p whole = rw (bytes_own (address_text p.addr), whole) refl

pub prefix_of-read : (text : List ℕ) (p : Prefix) → p.addr < 2 ^ 32 → IsSpelling text p → prefix_of text ≡ Some p
prefix_of-read text p fits spelling = elim spelling [
  | inl written ↦ ap prefix_of written ∙ read_with_length p fits
  | inr alone ↦ ap prefix_of alone.1 ∙ read_alone p fits alone.0
]

-- Only notations of a prefix are parsed.
is_whole : (n : ℕ) → (n == 32) ≡ true → n ≡ 32
is_whole n h = grind (arith, nat_tests)

spelling_told : (text : List ℕ) (p : Prefix) → spells text p ≡ true → IsSpelling text p
spelling_told text p holds = elim (or_cases (bytes_eq text (prefix_text p)) ((p.len == 32) && bytes_eq text (address_text p.addr)) holds) [
  | inl written ↦ inl (bytes_same text (prefix_text p) written)
  | inr alone ↦
      let (whole, address) = and_parts (p.len == 32) (bytes_eq text (address_text p.addr)) alone in
      inr (is_whole p.len whole, bytes_same text (address_text p.addr) address)
]

read_is : (text : List ℕ) (p : Prefix) → prefix_of text ≡ Some p → (spells text p ≡ true) × (prefix_in (numbers_in text) ≡ p)
unfolding prefix_of
read_is text p read =
    let parts = where_parts (spells text (prefix_in (numbers_in text))) (prefix_in (numbers_in text)) p read in
    (ap (spells text) (sym parts.1) ∙ parts.0, parts.1)

pub prefix_of-spelled : (text : List ℕ) (p : Prefix) → prefix_of text ≡ Some p → IsSpelling text p
prefix_of-spelled text p read = spelling_told text p (read_is text p read).0

pub prefix_of-IfSome : (text : List ℕ) (r : Option Prefix) → r ≡ prefix_of text → IfSome r (IsSpelling text)
prefix_of-IfSome text None e = tt
prefix_of-IfSome text (Some p) e = prefix_of-spelled text p (sym e)

-- The parsed address has 32 bits.
octets_fit : (a : ℕ) (behind : List ℕ) → address_with (take 4 (octets a behind)) < 2 ^ 32
octets_fit a behind = omega (arith, octet_fits a 24, octet_fits a 16, octet_fits a 8, octet_fits a 0)

spelling_fits : (text : List ℕ) (p : Prefix) → IsSpelling text p → (prefix_in (numbers_in text)).addr < 2 ^ 32
spelling_fits text p (inl written) =
    subst (λ (ns : List ℕ). address_with (take 4 ns) < 2 ^ 32) (sym (ap numbers_in written ∙ numbers_in_prefix p)) (octets_fit p.addr (p.len ∷ []))
spelling_fits text p (inr alone) =
    subst (λ (ns : List ℕ). address_with (take 4 ns) < 2 ^ 32) (sym (ap numbers_in alone.1 ∙ numbers_in_address p.addr)) (octets_fit p.addr [])

pub prefix_of-fits : (text : List ℕ) (p : Prefix) → prefix_of text ≡ Some p → p.addr < 2 ^ 32
prefix_of-fits text p read =
    let is = read_is text p read in
    subst (λ (q : Prefix). q.addr < 2 ^ 32) is.1 (spelling_fits text p (spelling_told text p is.0))

-- The two directions for a result that is the address of a text.
pub address_said : (text : List ℕ) (r : Option ℕ) → r ≡ address_of text → IfSome r (λ a. text ≡ address_text a)
address_said text None e = tt
address_said text (Some a) e = (address_text-address_of text a (sym e)).0

pub address_read : (text : List ℕ) (r : Option ℕ) (a : ℕ) → r ≡ address_of text → a < 2 ^ 32 → text ≡ address_text a → r ≡ Some a
address_read text r a e fits written = e ∙ ap address_of written ∙ address_of-address_text a fits

-- The length of the text of a prefix.
octet_short : (a place : ℕ) → length (decimal (octet a place)) ≤ 3
unfolding octet
octet_short a place =
    let small : a / 2 ^ place % 256 < 256 = omega arith in
    length-decimal-le 3 (octet a place) (omega arith) (omega arith) (omega arith)

address_short : (a : ℕ) → length (address_text a) ≤ 15
unfolding address_text
address_short a =
    simp length-append (omega (arith, octet_short a 24, octet_short a 16, octet_short a 8, octet_short a 0))

pub prefix_short : (p : Prefix) → length (prefix_text p) ≤ 18
unfolding prefix_text
prefix_short p =
    simp length-append (omega (arith, address_short p.addr, length-decimal-le 2 p.len (omega arith) (omega (arith, p.fits)) (omega (arith, p.fits))))
