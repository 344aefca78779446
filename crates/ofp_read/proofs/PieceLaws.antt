-- The pieces of a formatted line, each of which consists of complete fields.
use Rattle.std.proofs.Common.{◌≡◌, ℕ, ◌<◌, ◌≤◌, ◌^◌, Bool, true, false, ◌||◌, not, List, [], ◌∷◌, ◌++◌, Option, Some, None, is_some, refl, sym, ap, subst, ◌∙◌, arith, inl, inr, append-nil, append_assoc}
use Rattle.std.specs.Prelude.{Ok, codes, decimal, nat_lt, ◌==◌, if◌then◌else◌}
use Rattle.std.specs.Char.{is_ascii_digit}
use Rattle.std.specs.List.{All, filter, list_all}
use Rattle.std.specs.Str.{all_ascii_digits}
use Rattle.std.proofs.lemmas.Bool.{and_parts, and_from}
use Rattle.std.proofs.lemmas.Bool.Decides.{nat_tests}
use Rattle.std.proofs.lemmas.List.Elements.{All-nil, All-cons}
use Rattle.std.proofs.lemmas.List.Splits.{slice_split_at}
use Rattle.text_core.proofs.DecimalLaws.{decimal_digits}
use Rattle.text_core.proofs.PiecesLaws.{lacks, lacks-append}
use Rattle.host_net.specs.declared.prefix.Prefix.{Prefix}
use Rattle.host_net.specs.Prefix.{octet, address_text, prefix_text}
use Rattle.host_net.specs.Service.{icmp, tcp, udp}
use Rattle.ofp_rules.specs.declared.entry.FrameKind.{FrameKind}
use Rattle.ofp_rules.specs.declared.entry.FrameKind.TheVariants as frames
use Rattle.ofp_rules.specs.Matching.{kind_asks}
use Rattle.ofp_rules.specs.Text.{kind_text, field_text}
use Rattle.ofp_rules.specs.inner.Ranges.{address_fits, number_fits}
use Rattle.ofp_read.specs.declared.given.Given.{Given}
use Rattle.ofp_read.specs.inner.FieldTable.{with_field}
use Rattle.ofp_read.specs.inner.FlowLine.{nothing_given}
use Rattle.ofp_read.specs.Grammar.{protocol, is_separator, has_bytes, fields, ends_with_separator}
use Rattle.ofp_read.proofs.PartWords.{one_named}
use Rattle.ofp_read.proofs.ApartLaws.{separator_last}
use Rattle.ofp_read.proofs.FieldLaws.{entry_with, read_kind, read_protocol, read_of_says}
use Rattle.ofp_read.proofs.FieldsLaws.{Reads, reads_more}

-- 1. Texts of digits, dots (46) and slashes (47).

octet_fits : (a place : ℕ) → octet a place < 2 ^ 64
unfolding octet
octet_fits a place = omega arith

all-append : (p : ℕ → Bool) (xs ys : List ℕ) → list_all p xs ≡ true → list_all p ys ≡ true → list_all p (xs ++ ys) ≡ true
all-append p [] ys f g = g
all-append p (x ∷ xs) ys f g =
    let parts = and_parts (p x) (list_all p xs) f in
    and_from (p x) (list_all p (xs ++ ys)) parts.0 (all-append p xs ys parts.1 g)

-- A property of these bytes is a property of every byte of a number, and of a prefix.
module _ (p : ℕ → Bool) (of_digit : (b : ℕ) → is_ascii_digit b ≡ true → p b ≡ true) (of_dot : p 46 ≡ true) (of_slash : p 47 ≡ true) where
  digits_all : (bs : List ℕ) → all_ascii_digits bs ≡ true → list_all p bs ≡ true
  digits_all [] h = refl
  digits_all (b ∷ bs) h =
      let parts = and_parts (is_ascii_digit b) (all_ascii_digits bs) h in
      and_from (p b) (list_all p bs) (of_digit b parts.0) (digits_all bs parts.1)

  decimal_all : (n : ℕ) → n < 2 ^ 64 → list_all p (decimal n) ≡ true
  decimal_all n fits = digits_all (decimal n) (decimal_digits n fits)

  octet_all : (a place : ℕ) → list_all p (decimal (octet a place)) ≡ true
  octet_all a place = decimal_all (octet a place) (octet_fits a place)

  dotted : (xs rest : List ℕ) → list_all p xs ≡ true → list_all p rest ≡ true → list_all p (xs ++ (46 ∷ rest)) ≡ true
  dotted xs rest f g = all-append p xs (46 ∷ rest) f (and_from (p 46) (list_all p rest) of_dot g)

  address_all : (a : ℕ) → list_all p (address_text a) ≡ true
  unfolding address_text
  address_all a =
      dotted (decimal (octet a 24)) _ (octet_all a 24)
      (dotted (decimal (octet a 16)) _ (octet_all a 16) (dotted (decimal (octet a 8)) _ (octet_all a 8) (octet_all a 0)))

  prefix_all : (q : Prefix) → list_all p (prefix_text q) ≡ true
  unfolding prefix_text
  prefix_all q =
      let fits = q.fits in
      all-append p (address_text q.addr) (47 ∷ decimal q.len) (address_all q.addr)
      (and_from (p 47) (list_all p (decimal q.len)) of_slash (decimal_all q.len (omega arith)))

-- No byte is a comma, a blank or the end of a line.
abbrev pub is_whole : List ℕ → Bool
is_whole text = list_all (λ b. not (is_separator b || (b == 10))) text

digit_whole : (b : ℕ) → is_ascii_digit b ≡ true → not (is_separator b || (b == 10)) ≡ true
digit_whole b h = grind (arith, nat_tests)

decimal_whole : (n : ℕ) → n < 2 ^ 64 → is_whole (decimal n) ≡ true
decimal_whole n fits = decimal_all (λ b. not (is_separator b || (b == 10))) digit_whole refl refl n fits

prefix_whole : (q : Prefix) → is_whole (prefix_text q) ≡ true
prefix_whole q = prefix_all (λ b. not (is_separator b || (b == 10))) digit_whole refl refl q

whole-append : (xs ys : List ℕ) → is_whole xs ≡ true → is_whole ys ≡ true → is_whole (xs ++ ys) ≡ true
whole-append xs ys f g = all-append (λ b. not (is_separator b || (b == 10))) xs ys f g

neither : (s t : Bool) → not (s || t) ≡ true → (s ≡ false) × (t ≡ false)
neither true t h = cc
neither false true h = cc
neither false false h = (refl, refl)

no_separator : (bs : List ℕ) → is_whole bs ≡ true → All (λ b. is_separator b ≡ false) bs
no_separator [] h = All-nil (λ b. is_separator b ≡ false)
no_separator (b ∷ bs) h =
    let parts = and_parts (not (is_separator b || (b == 10))) (is_whole bs) h in
    All-cons (λ x. is_separator x ≡ false) b bs (neither (is_separator b) (b == 10) parts.0).0 (no_separator bs parts.1)

no_end : (bs : List ℕ) → is_whole bs ≡ true → lacks 10 bs ≡ true
no_end [] h = refl
no_end (b ∷ bs) h =
    let parts = and_parts (not (is_separator b || (b == 10))) (is_whole bs) h in
    and_from (not (b == 10)) (lacks 10 bs) (ap not (neither (is_separator b) (b == 10) parts.0).1) (no_end bs parts.1)

-- 2. Pieces.

-- A text of complete fields, each followed by a comma, that lead from one partial entry to another.
pub record IsPiece (g h : Given) (text : List ℕ) : Type 0 where
  pub texts : List (List ℕ)
  pub read : (before : List (List ℕ)) → Reads g before → Reads h (before ++ texts)
  pub cut : (rest : List ℕ) → fields (text ++ rest) ≡ texts ++ fields rest
  pub apart : ends_with_separator text ≡ true
  pub one_line : lacks 10 text ≡ true

no_piece : (g : Given) → IsPiece g g []
no_piece g = record {
  texts = [];
  read = λ before reads. subst (Reads g) (sym (append-nil before)) reads;
  cut = λ rest. refl;
  apart = refl;
  one_line = refl;
}

apart_both : (xs ys : List ℕ) → ends_with_separator xs ≡ true → ends_with_separator ys ≡ true → ends_with_separator (xs ++ ys) ≡ true
apart_both [] ys a b = b
apart_both (x ∷ []) [] a b = a
apart_both (x ∷ []) (y ∷ ys) a b = b
apart_both (x ∷ z ∷ xs) ys a b = apart_both (z ∷ xs) ys a b

pub joined : (g f h : Given) (xs ys : List ℕ) → IsPiece g f xs → IsPiece f h ys → IsPiece g h (xs ++ ys)
joined g f h xs ys a b = record {
  texts = a.texts ++ b.texts;
  read = λ before reads. subst (Reads h) (append_assoc before a.texts b.texts) (b.read (before ++ a.texts) (a.read before reads));
  cut = λ rest. ap fields (append_assoc xs ys rest) ∙ a.cut (ys ++ rest) ∙ ap (λ fs. a.texts ++ fs) (b.cut rest) ∙ sym
      (append_assoc a.texts b.texts (fields rest));
  apart = apart_both xs ys a.apart b.apart;
  one_line = lacks-append 10 xs ys a.one_line b.one_line;
}

-- One field.
field_piece : (g h : Given) (b : ℕ) (bs : List ℕ) → is_whole (b ∷ bs) ≡ true → with_field g (b ∷ bs) ≡ Ok h
    → IsPiece g h ((b ∷ bs) ++ codes ",")
field_piece g h b bs whole read = record {
  texts = (b ∷ bs) ∷ [];
  read = λ before reads. reads_more g h before (b ∷ bs) reads read;
  cut = λ rest. ap fields (append_assoc (b ∷ bs) (codes ",") rest) ∙ ap (filter has_bytes)
      (slice_split_at is_separator (b ∷ bs) 44 rest (no_separator (b ∷ bs) whole) refl);
  apart = separator_last (b ∷ bs) 44 refl;
  one_line = lacks-append 10 (b ∷ bs) (codes ",") (no_end (b ∷ bs) whole) refl;
}

value_piece : (g h : Given) (b : ℕ) (bs value : List ℕ) → is_whole (b ∷ bs) ≡ true → is_whole value ≡ true
    → with_field g ((b ∷ bs) ++ value) ≡ Ok h → IsPiece g h ((b ∷ bs) ++ (value ++ codes ","))
value_piece g h b bs value name whole read =
    subst (IsPiece g h) (append_assoc (b ∷ bs) value (codes ","))
    (field_piece g h b (bs ++ value) (whole-append (b ∷ bs) value name whole) read)

below : (n limit : ℕ) → nat_lt n limit ≡ true → n < limit
below n limit h = grind (arith, nat_tests)

-- An optional field, by the partial entry with its value.
pub address_piece : (now : Option Prefix → Given) (b : ℕ) (bs : List ℕ) (part : Option Prefix)
    → ((q : Prefix) → q.addr < 2 ^ 32 → with_field (now None) ((b ∷ bs) ++ prefix_text q) ≡ Ok (now (Some q)))
    → is_whole (b ∷ bs) ≡ true → address_fits part ≡ true → IsPiece (now None) (now part) (field_text (b ∷ bs) prefix_text part)
address_piece now b bs None read name fits = no_piece (now None)
address_piece now b bs (Some q) read name fits =
    value_piece (now None) (now (Some q)) b bs (prefix_text q) name (prefix_whole q) (read q (below q.addr (2 ^ 32) fits))

pub number_piece : (now : Option ℕ → Given) (b : ℕ) (bs : List ℕ) (limit : ℕ) (given : Option ℕ)
    → ((n : ℕ) → n < limit → with_field (now None) ((b ∷ bs) ++ decimal n) ≡ Ok (now (Some n)))
    → is_whole (b ∷ bs) ≡ true → limit ≤ 2 ^ 64 → number_fits limit given ≡ true
    → IsPiece (now None) (now given) (field_text (b ∷ bs) decimal given)
number_piece now b bs limit None read name small fits = no_piece (now None)
number_piece now b bs limit (Some n) read name small fits =
    let less = below n limit fits in
    value_piece (now None) (now (Some n)) b bs (decimal n) name (decimal_whole n (omega (arith, less, small))) (read n less)

-- 3. The kind and the protocol.

equal : (n m : ℕ) → (n == m) ≡ true → n ≡ m
equal n m h = grind (arith, nat_tests)

-- The partial entry of priority only, and with a kind and a protocol.
abbrev pub of_priority : Option ℕ → Given
of_priority n = record nothing_given { priority = n }

abbrev given_kind : FrameKind → Option FrameKind
given_kind frames.Any = None
given_kind frames.Arp = Some frames.Arp
given_kind frames.Ip = Some frames.Ip

abbrev pub of_kind : ℕ → FrameKind → Option ℕ → Given
of_kind n k o = record (of_priority (Some n)) { kind = given_kind k; proto = o }

protocol_piece : (first n : ℕ) → nat_lt n (2 ^ 8) ≡ true
    → (one six other : Bool) → (n == icmp) ≡ one → (n == tcp) ≡ six → (n == udp) ≡ other
    → IsPiece (of_priority (Some first)) (of_kind first frames.Ip (Some n))
    (if one || (six || other) then (if one then codes "icmp" else if six then codes "tcp" else if other then codes "udp" else decimal n) ++ codes ","
    else codes "ip,nw_proto=" ++ (decimal n ++ codes ","))
protocol_piece first n fits true six other is_one is_six is_other =
    field_piece (of_priority (Some first)) _ 105 (codes "cmp") refl
    (read_protocol n frames.Ip (Some n) (of_priority (Some first)) _ refl refl (one_named n (codes "icmp") (inl (equal n icmp is_one, refl))) refl refl)
protocol_piece first n fits false true other is_one is_six is_other =
    field_piece (of_priority (Some first)) _ 116 (codes "cp") refl
    (read_protocol n frames.Ip (Some n) (of_priority (Some first)) _ refl refl (one_named n (codes "tcp") (inr (inl (equal n tcp is_six, refl)))) refl refl)
protocol_piece first n fits false false true is_one is_six is_other =
    field_piece (of_priority (Some first)) _ 117 (codes "dp") refl
    (read_protocol n frames.Ip (Some n) (of_priority (Some first)) _ refl refl (one_named n (codes "udp") (inr (inr (equal n udp is_other, refl)))) refl refl)
protocol_piece first n fits false false false is_one is_six is_other =
    joined (of_priority (Some first)) (of_kind first frames.Ip None) (of_kind first frames.Ip (Some n)) (codes "ip,") (codes "nw_proto=" ++ (decimal n ++ codes ","))
    (field_piece _ _ 105 (codes "p") refl (read_kind frames.Ip (of_priority (Some first)) _ (inl refl) refl))
    (number_piece (of_kind first frames.Ip) 110 (codes "w_proto=") (2 ^ 8) (Some n)
    (λ m less. read_of_says protocol (entry_with m frames.Any None) (of_kind first frames.Ip None) _ (m, refl, less, refl) refl) refl (omega arith) fits)

some_asked : (a b : Bool) → not (a || (b || true)) ≡ true → ⊥
some_asked true b h = cc
some_asked false true h = cc
some_asked false false h = cc

pub kind_piece : (first : ℕ) (a b : Bool) (k : FrameKind) (o : Option ℕ) → kind_asks k (a || (b || is_some o)) ≡ true → number_fits (2 ^ 8) o ≡ true
    → IsPiece (of_priority (Some first)) (of_kind first k o) (kind_text k o)
kind_piece first a b frames.Any None asks fits = no_piece (of_priority (Some first))
kind_piece first a b frames.Any (Some n) asks fits = absurd (some_asked a b asks)
kind_piece first a b frames.Arp None asks fits =
    field_piece _ _ 97 (codes "rp") refl (read_kind frames.Arp (of_priority (Some first)) _ (inl refl) refl)
kind_piece first a b frames.Arp (Some n) asks fits = absurd (some_asked a b asks)
kind_piece first a b frames.Ip None asks fits =
    field_piece _ _ 105 (codes "p") refl (read_kind frames.Ip (of_priority (Some first)) _ (inl refl) refl)
kind_piece first a b frames.Ip (Some n) asks fits = protocol_piece first n fits (n == icmp) (n == tcp) (n == udp) refl refl refl
