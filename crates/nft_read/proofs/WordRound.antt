-- The parts of a printed line are parsed: intervals, verdicts, elements.
use Rattle.std.proofs.Common.{◌≡◌, ◌∙◌, ◌<◌, ◌==◌, ℕ, Bool, true, false, List, [], ◌∷◌, ◌++◌, append_assoc, Option, Some, None, refl, sym, ap, ap₂, arith}
use Rattle.std.specs.Prelude.{codes, decimal, if◌then◌else◌, nat_eq}
use Rattle.std.specs.Char.{is_ascii_digit}
use Rattle.std.specs.List.{AllByRecursion, concat, list_all}
use Rattle.std.specs.Option.{option_and_then, option_map}
use Rattle.std.proofs.lemmas.List.{append-nil}
use Rattle.std.proofs.lemmas.Bool.{and_parts}
use Rattle.std.proofs.lemmas.Bool.Decides.{nat_tests}
use Rattle.text_core.specs.inner.Pieces.{split_once}
use Rattle.text_core.specs.Name.{is_name_byte}
use Rattle.text_core.proofs.DecimalLaws.{decimal_lacks}
use Rattle.text_core.proofs.PiecesLaws.{lacks, lacks-append, split_once-append, split_once_none}
use Rattle.host_net.specs.Prefix.{address_text, prefix_text}
use Rattle.host_net.specs.declared.prefix.Prefix.{Prefix}
use Rattle.host_net.proofs.PrefixTextLaws.{address_lacks}
use Rattle.header_space.specs.declared.address_range.AddressRange.{AddressRange}
use Rattle.nft_rules.specs.declared.table.Chain.{Chain}
use Rattle.nft_rules.specs.declared.table.Element.{Element}
use Rattle.nft_rules.specs.declared.table.Verdict.{Verdict}
use Rattle.nft_rules.specs.declared.table.Verdict.TheVariants.{Accept, Drop, Goto}
use Rattle.nft_rules.specs.Loadable.{LeadBelow, LeadsBelow}
use Rattle.nft_text.specs.Text.{element_pieces, element_text, interval_text, name_of, range_prefix, range_text, verdict_text}
use Rattle.nft_read.specs.Reading.{ElementFits}
use Rattle.nft_read.specs.inner.LineSteps.{element_of, element_parts, element_with, elements_of, index_of, pieces, plain_verdict, verdict_of, with_more, word}
use Rattle.nft_read.proofs.IntervalLaws.{own_text}
use Rattle.nft_read.proofs.PieceLaws.{pieces_ended, pieces_whole}

-- ---- Marks that a string lacks

-- A mark that no address, no name and no word has: the end of a line, a blank, a comma.
pub record IsMark (m : ℕ) : Type 0 where
  pub digit : is_ascii_digit m ≡ false
  pub dot : nat_eq 46 m ≡ false
  pub dash : nat_eq 45 m ≡ false
  pub slash : nat_eq 47 m ≡ false
  pub name : is_name_byte m ≡ false

pub line_end : IsMark 10
line_end = record { digit = refl; dot = refl; dash = refl; slash = refl; name = refl }

pub blank : IsMark 32
blank = record { digit = refl; dot = refl; dash = refl; slash = refl; name = refl }

pub comma : IsMark 44
comma = record { digit = refl; dot = refl; dash = refl; slash = refl; name = refl }

one_lacks : (m b : ℕ) (bs : List ℕ) → nat_eq b m ≡ false → lacks m bs ≡ true → lacks m (b ∷ bs) ≡ true
one_lacks m b bs other rest = rw other rest

prefix_lacks : (m : ℕ) (p : Prefix) → IsMark m → lacks m (prefix_text p) ≡ true
unfolding prefix_text
prefix_lacks m p mark =
    lacks-append m (address_text p.addr) (47 ∷ decimal p.len) (address_lacks m p.addr mark.digit mark.dot)
    (one_lacks m 47 (decimal p.len) mark.slash (decimal_lacks m p.len mark.digit (omega (arith, p.fits))))

pub range_lacks : (m : ℕ) (range : AddressRange) → IsMark m → lacks m (range_text range) ≡ true
unfolding range_text
range_lacks m range mark = by_prefix (range_prefix range)
  where
    by_length : (p : Prefix) (b : Bool) → lacks m (if b then address_text p.addr else prefix_text p) ≡ true
    by_length p true = address_lacks m p.addr mark.digit mark.dot
    by_length p false = prefix_lacks m p mark

    by_prefix : (o : Option Prefix) → lacks m (interval_text range o) ≡ true
    by_prefix None =
        lacks-append m (address_text range.first) (45 ∷ address_text range.last) (address_lacks m range.first mark.digit mark.dot)
        (one_lacks m 45 (address_text range.last) mark.dash (address_lacks m range.last mark.digit mark.dot))
    by_prefix (Some p) = by_length p (p.len == 32)

name_other : (m b : ℕ) → is_name_byte m ≡ false → is_name_byte b ≡ true → nat_eq b m ≡ false
name_other m b not_name is_name = by_test (nat_eq b m) refl
  where
    by_test : (t : Bool) → nat_eq b m ≡ t → t ≡ false
    by_test true same =
        let equal : b ≡ m = grind (arith, nat_tests) in
        let clash : true ≡ false = sym is_name ∙ ap is_name_byte equal ∙ not_name in
        cc
    by_test false other = refl

pub name_lacks : (m : ℕ) (name : List ℕ) → IsMark m → list_all is_name_byte name ≡ true → lacks m name ≡ true
name_lacks m [] mark all = refl
name_lacks m (b ∷ bs) mark all =
    let parts = and_parts (is_name_byte b) (list_all is_name_byte bs) all in
    rw (name_other m b mark.name parts.0) (name_lacks m bs mark parts.1)

-- ---- The first word of a string

-- Nothing follows, or a blank does.
pub data EndsWord : List ℕ → Type 0 where
  at_end : EndsWord []
  at_blank : (rest : List ℕ) → EndsWord (32 ∷ rest)

pub word_read : (w tail : List ℕ) → lacks 32 w ≡ true → EndsWord tail → word (w ++ tail) ≡ w
word_read w _ plain at_end = ap word (append-nil w) ∙ no_split (split_once 32 w) (split_once_none 32 w plain)
  where
    no_split : (o : Option (List ℕ × List ℕ)) → split_once 32 w ≡ None → word w ≡ w
    no_split o none = rw none refl
word_read w _ plain (at_blank rest) = rw (split_once-append 32 w rest plain) refl

-- ---- Verdicts

-- The names of the first n chains are known by their index, and are names.
pub record Known (names : List (List ℕ)) (all : List Chain) (n : ℕ) : Type 0 where
  pub index : (c : ℕ) → c < n → index_of names (name_of all c) ≡ Some c
  pub plain : (c : ℕ) → c < n → list_all is_name_byte (name_of all c) ≡ true

pub verdict_lacks : (m : ℕ) (names : List (List ℕ)) (all : List Chain) (n : ℕ) (v : Verdict) → IsMark m → nat_eq 32 m ≡ false → Known names all n
    → LeadsBelow n v → lacks m (verdict_text all v) ≡ true
verdict_lacks m names all n Accept mark other known leads = name_lacks m (codes "accept") mark refl
verdict_lacks m names all n Drop mark other known leads = name_lacks m (codes "drop") mark refl
verdict_lacks m names all n (Goto c) mark other known leads =
    lacks-append m (codes "goto") (32 ∷ name_of all c) (name_lacks m (codes "goto") mark refl)
    (one_lacks m 32 (name_of all c) other (name_lacks m (name_of all c) mark (known.plain c leads)))

pub verdict_read : (names : List (List ℕ)) (all : List Chain) (n : ℕ) (v : Verdict) (tail : List ℕ) → EndsWord tail → Known names all n
    → LeadsBelow n v → verdict_of names (verdict_text all v ++ tail) ≡ Some v
verdict_read names all n Accept tail ends known leads = ap plain_verdict (word_read (codes "accept") tail refl ends)
verdict_read names all n Drop tail ends known leads = ap plain_verdict (word_read (codes "drop") tail refl ends)
verdict_read names all n (Goto c) tail ends known leads =
    ap (λ w. option_map (λ d. Goto d) (index_of names w)) (word_read (name_of all c) tail (name_lacks 32 (name_of all c) blank (known.plain c leads)) ends)
    ∙ ap (λ o. option_map (λ d. Goto d) o) (known.index c leads)

-- ---- Elements

abbrev pub element_line : List Chain → Element → List ℕ
element_line all e = 32 ∷ (range_text e.range ++ (codes " : " ++ verdict_text all e.verdict))

pub element_lacks : (m : ℕ) (names : List (List ℕ)) (all : List Chain) (n : ℕ) (e : Element) → IsMark m → nat_eq 32 m ≡ false → nat_eq 58 m ≡ false
    → Known names all n → LeadsBelow n e.verdict → lacks m (element_line all e) ≡ true
element_lacks m names all n e mark other colon known leads =
    let v = verdict_text all e.verdict in
    let verdict = verdict_lacks m names all n e.verdict mark other known leads in
    let colon_lacks = one_lacks m 32 (58 ∷ 32 ∷ v) other (one_lacks m 58 (32 ∷ v) colon (one_lacks m 32 v other verdict)) in
    one_lacks m 32 (range_text e.range ++ (codes " : " ++ v)) other
    (lacks-append m (range_text e.range) (codes " : " ++ v) (range_lacks m e.range mark) colon_lacks)

pub element_read : (names : List (List ℕ)) (all : List Chain) (n : ℕ) (e : Element) (tail : List ℕ) → EndsWord tail → Known names all n
    → LeadsBelow n e.verdict → ElementFits e → element_of names (element_line all e ++ tail) ≡ Some e
element_read names all n e tail ends known leads fits =
    let v = verdict_text all e.verdict in
    let shifted : (range_text e.range ++ (codes " : " ++ v)) ++ tail ≡ range_text e.range ++ (32 ∷ (codes ": " ++ (v ++ tail))) =
    append_assoc (range_text e.range) (codes " : " ++ v) tail in
    ap (λ (text : List ℕ). option_and_then (element_parts names) (split_once 32 text)) shifted
    ∙ ap (option_and_then (element_parts names)) (split_once-append 32 (range_text e.range) (codes ": " ++ (v ++ tail)) (range_lacks 32 e.range blank))
    ∙ ap₂ element_with (own_text e.range fits.0 fits.1) (verdict_read names all n e.verdict tail ends known leads)

-- ---- The elements of a map

-- The text of a map after its opening brace, without the end of the line.
abbrev pub map_body : List Chain → Element → List Element → List ℕ
map_body all e [] = element_line all e ++ codes " }"
map_body all e (f ∷ es) = element_line all e ++ (44 ∷ map_body all f es)

pub body_lacks : (names : List (List ℕ)) (all : List Chain) (n : ℕ) (e : Element) (es : List Element) → Known names all n → LeadBelow n (e ∷ es)
    → lacks 10 (map_body all e es) ≡ true
body_lacks names all n e [] known leads =
    lacks-append 10 (element_line all e) (codes " }") (element_lacks 10 names all n e line_end refl refl known leads.0) refl
body_lacks names all n e (f ∷ es) known leads =
    lacks-append 10 (element_line all e) (44 ∷ map_body all f es) (element_lacks 10 names all n e line_end refl refl known leads.0)
    (body_lacks names all n f es known leads.1)

last_lacks : (names : List (List ℕ)) (all : List Chain) (n : ℕ) (e : Element) → Known names all n → LeadsBelow n e.verdict
    → lacks 44 (element_line all e ++ codes " }") ≡ true
last_lacks names all n e known leads =
    lacks-append 44 (element_line all e) (codes " }") (element_lacks 44 names all n e comma refl refl known leads) refl

pub body_read : (names : List (List ℕ)) (all : List Chain) (n : ℕ) (e : Element) (es : List Element) → Known names all n → LeadBelow n (e ∷ es)
    → AllByRecursion ElementFits (e ∷ es) → elements_of names (pieces (map_body all e es)) ≡ Some (e ∷ es)
body_read names all n e [] known leads fits =
    ap (elements_of names) (pieces_whole (element_line all e ++ codes " }") (last_lacks names all n e known leads.0))
    ∙ ap (λ (o : Option Element). with_more o (Some [])) (element_read names all n e (codes " }") (at_blank (codes "}")) known leads.0 fits.0)
body_read names all n e (f ∷ es) known leads fits =
    let here : element_of names (element_line all e) ≡ Some e =
    ap (element_of names) (sym (append-nil (element_line all e))) ∙ element_read names all n e [] at_end known leads.0 fits.0 in
    ap (elements_of names) (pieces_ended (element_line all e) (map_body all f es) (element_lacks 44 names all n e comma refl refl known leads.0))
    ∙ ap₂ with_more here (body_read names all n f es known leads.1 fits.1)

push_rest : (a m v tail rest : List ℕ) → (a ++ (m ++ (v ++ tail))) ++ rest ≡ (a ++ (m ++ v)) ++ (tail ++ rest)
push_rest a m v tail rest =
    ap (λ x. (a ++ x) ++ rest) (sym (append_assoc m v tail)) ∙ ap (λ x. x ++ rest) (sym (append_assoc a (m ++ v) tail)) ∙ append_assoc (a ++ (m ++ v)) tail rest

-- The pieces of a map make its text and the end of its line.
pub body_text : (all : List Chain) (e : Element) (es : List Element) (rest : List ℕ)
    → 32 ∷ (concat (element_pieces all (e ∷ es)) ++ rest) ≡ map_body all e es ++ (10 ∷ rest)
unfolding element_text
body_text all e [] rest =
    ap (λ x. 32 ∷ (x ++ rest)) (append-nil (range_text e.range ++ (codes " : " ++ (verdict_text all e.verdict ++ codes " }\n"))))
    ∙ ap (λ x. 32 ∷ x) (push_rest (range_text e.range) (codes " : ") (verdict_text all e.verdict) (codes " }\n") rest)
    ∙ sym (append_assoc (element_line all e) (codes " }") (10 ∷ rest))
body_text all e (f ∷ es) rest =
    ap (λ x. 32 ∷ x) (append_assoc (range_text e.range ++ (codes " : " ++ (verdict_text all e.verdict ++ codes ", "))) (concat (element_pieces all (f ∷ es))) rest)
    ∙ ap (λ x. 32 ∷ x) (push_rest (range_text e.range) (codes " : ") (verdict_text all e.verdict) (codes ", ") (concat (element_pieces all (f ∷ es)) ++ rest))
    ∙ ap (λ x. element_line all e ++ (44 ∷ x)) (body_text all f es rest)
    ∙ sym (append_assoc (element_line all e) (44 ∷ map_body all f es) (10 ∷ rest))
