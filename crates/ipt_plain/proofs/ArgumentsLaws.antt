-- A line consists of arguments if and only if the call finds it so.
use Rattle.std.proofs.Common.{◌≡◌, ◌≢◌, ℕ, Bool, true, false, IsTrue, List, [], ◌∷◌, ◌++◌, refl, sym, ap, subst, ◌∙◌, append-nil, append_assoc, cond, nat_eq, arith}
use Rattle.std.specs.List.{list_all}
use Rattle.std.proofs.lemmas.Bool.{and_parts, and_from}
use Rattle.std.proofs.lemmas.Bool.Decides.{nat_tests}
use Rattle.text_core.specs.Lines.{is_blank, ends_word}
use Rattle.ipt_plain.specs.Arguments.{is_token_byte, IsInside, nothing, escaped, plain, AreArguments, none_left, blank, token, quoted, HasSameArguments, Outside, InQuotes, unless_empty, taken_from, taken}
use Rattle.ipt_plain.specs.declared.arguments.Place.{Place}
use Rattle.ipt_plain.specs.declared.arguments.Place.TheVariants.{Between, Token, Text, Escaped, Behind, Bad}
use Rattle.ipt_plain.specs.inner.LineSteps.{place_after, may_end, has_arguments}

-- 1. Tests of bytes.

token_parts : (b : ℕ) → is_token_byte b ≡ true → (is_blank b ≡ false) × (nat_eq b 34 ≡ false)
token_parts b h = grind (arith, nat_tests)

differs : (b n : ℕ) → b ≢ n → nat_eq b n ≡ false
differs b n h = grind (arith, nat_tests)

-- 2. What the call accepts.

-- The line consists of arguments.
abbrev HasArguments : List ℕ → Type 0
HasArguments line = (arguments : List (List ℕ)) × AreArguments line arguments

-- The end of an argument, and arguments after it.
record Ends (bs : List ℕ) : Type 0 where
  ends : IsTrue (ends_word bs)
  others : List (List ℕ)
  given : AreArguments bs others

-- The rest of a token, and of a quoted text.
record EndsToken (bs : List ℕ) : Type 0 where
  w : List ℕ
  rest : List ℕ
  parts : w ++ rest ≡ bs
  bytes : IsTrue (list_all is_token_byte w)
  behind : Ends rest

record EndsText (bs : List ℕ) : Type 0 where
  inside : List ℕ
  text : List ℕ
  rest : List ℕ
  parts : inside ++ (34 ∷ rest) ≡ bs
  said : IsInside inside text
  behind : Ends rest

record EndsEscaped (bs : List ℕ) : Type 0 where
  b : ℕ
  rest : List ℕ
  parts : b ∷ rest ≡ bs
  behind : EndsText rest

-- The rest of a line that consists of arguments, from each position.
abbrev IsRest : Place → List ℕ → Type 0
IsRest Between bs = HasArguments bs
IsRest Token bs = EndsToken bs
IsRest Text bs = EndsText bs
IsRest Escaped bs = EndsEscaped bs
IsRest Behind bs = Ends bs
IsRest Bad bs = ⊥

blank_ends : (b : ℕ) (bs : List ℕ) → is_blank b ≡ true → HasArguments bs → Ends (b ∷ bs)
blank_ends b bs h given = record { ends = h; others = given.0; given = blank h given.1 }

token_byte : (b : ℕ) → is_blank b ≡ false → nat_eq b 34 ≡ false → is_token_byte b ≡ true
token_byte b h q = grind (arith, nat_tests)

is_quote : (b : ℕ) → nat_eq b 34 ≡ true → b ≡ 34
is_quote b h = grind (arith, nat_tests)

is_backslash : (b : ℕ) → nat_eq b 92 ≡ true → b ≡ 92
is_backslash b h = grind (arith, nat_tests)

other : (b n : ℕ) → nat_eq b n ≡ false → b ≢ n
other b n h = grind (arith, nat_tests)

after_blank : (b : ℕ) (bs : List ℕ) (t q : Bool) → is_blank b ≡ t → nat_eq b 34 ≡ q → IsRest (cond t Between (cond q Text Token)) bs → HasArguments (b ∷ bs)
after_blank b bs true q h e given = (given.0, blank h given.1)
after_blank b bs false true h e rest =
    let whole : 34 ∷ (rest.inside ++ (34 ∷ rest.rest)) ≡ b ∷ bs = λ i. sym (is_quote b e) i ∷ rest.parts i in
    (rest.text ∷ rest.behind.others, subst (λ (v : List ℕ). AreArguments v (rest.text ∷ rest.behind.others)) whole (quoted rest.said rest.behind.ends rest.behind.given))
after_blank b bs false false h e rest =
    let whole : (b ∷ rest.w) ++ rest.rest ≡ b ∷ bs = ap (λ (v : List ℕ). b ∷ v) rest.parts in
    let bytes : IsTrue (list_all is_token_byte (b ∷ rest.w)) = and_from (is_token_byte b) (list_all is_token_byte rest.w) (token_byte b h e) rest.bytes in
    ((b ∷ rest.w) ∷ rest.behind.others, subst (λ (v : List ℕ). AreArguments v ((b ∷ rest.w) ∷ rest.behind.others)) whole (token bytes rest.behind.ends rest.behind.given))

in_token : (b : ℕ) (bs : List ℕ) (t q : Bool) → is_blank b ≡ t → nat_eq b 34 ≡ q → IsRest (cond t Between (cond q Bad Token)) bs → EndsToken (b ∷ bs)
in_token b bs true q h e given = record { w = []; rest = b ∷ bs; parts = refl; bytes = refl; behind = blank_ends b bs h given }
in_token b bs false true h e rest = absurd rest
in_token b bs false false h e rest = record {
  w = b ∷ rest.w;
  rest = rest.rest;
  parts = ap (λ (v : List ℕ). b ∷ v) rest.parts;
  bytes = and_from (is_token_byte b) (list_all is_token_byte rest.w) (token_byte b h e) rest.bytes;
  behind = rest.behind;
}

in_text : (b : ℕ) (bs : List ℕ) (t q : Bool) → nat_eq b 92 ≡ t → nat_eq b 34 ≡ q → IsRest (cond t Escaped (cond q Behind Text)) bs → EndsText (b ∷ bs)
in_text b bs true q h e rest =
    let whole : 92 ∷ rest.b ∷ (rest.behind.inside ++ (34 ∷ rest.behind.rest)) ≡ b ∷ bs =
    λ i. sym (is_backslash b h) i ∷ (ap (λ (v : List ℕ). rest.b ∷ v) rest.behind.parts ∙ rest.parts) i in
    record {
      inside = 92 ∷ rest.b ∷ rest.behind.inside;
      text = rest.b ∷ rest.behind.text;
      rest = rest.behind.rest;
      parts = whole;
      said = escaped rest.behind.said;
      behind = rest.behind.behind;
    }
in_text b bs false true h e rest = record {
  inside = [];
  text = [];
  rest = bs;
  parts = λ i. sym (is_quote b e) i ∷ bs;
  said = nothing;
  behind = rest;
}
in_text b bs false false h e rest = record {
  inside = b ∷ rest.inside;
  text = b ∷ rest.text;
  rest = rest.rest;
  parts = ap (λ (v : List ℕ). b ∷ v) rest.parts;
  said = plain (other b 92 h) (other b 34 e) rest.said;
  behind = rest.behind;
}

after_text : (b : ℕ) (bs : List ℕ) (t : Bool) → is_blank b ≡ t → IsRest (cond t Between Bad) bs → Ends (b ∷ bs)
after_text b bs true h given = blank_ends b bs h given
after_text b bs false h given = absurd given

one_more : (place : Place) (b : ℕ) (bs : List ℕ) → IsRest (place_after place b) bs → IsRest place (b ∷ bs)
one_more Between b bs rest = after_blank b bs (is_blank b) (nat_eq b 34) refl refl rest
one_more Token b bs rest = in_token b bs (is_blank b) (nat_eq b 34) refl refl rest
one_more Text b bs rest = in_text b bs (nat_eq b 92) (nat_eq b 34) refl refl rest
one_more Escaped b bs rest = record { b = b; rest = bs; parts = refl; behind = rest }
one_more Behind b bs rest = after_text b bs (is_blank b) refl rest
one_more Bad b bs rest = rest

no_more : (place : Place) → may_end place ≡ true → IsRest place []
no_more Between h = ([], none_left)
no_more Token h = record { w = []; rest = []; parts = refl; bytes = refl; behind = record { ends = refl; others = []; given = none_left } }
no_more Text h = cc
no_more Escaped h = cc
no_more Behind h = record { ends = refl; others = []; given = none_left }
no_more Bad h = cc

is_rest : (bs : List ℕ) (place : Place) → has_arguments place bs ≡ true → IsRest place bs
is_rest [] place h = no_more place h
is_rest (b ∷ bs) place h = one_more place b bs (is_rest bs (place_after place b) h)

-- iptables-restore takes the same arguments.
token_taken : (w bytes bs : List ℕ) → list_all is_token_byte w ≡ true → taken_from Outside bytes (w ++ bs) ≡ taken_from Outside (bytes ++ w) bs
token_taken [] bytes bs h = ap (λ (v : List ℕ). taken_from Outside v bs) (sym (append-nil bytes))
token_taken (b ∷ w) bytes bs h =
    let parts = and_parts (is_token_byte b) (list_all is_token_byte w) h in
    byte_taken b (w ++ bs) bytes parts.0 ∙ (token_taken w (bytes ++ b ∷ []) bs parts.1 ∙ ap (λ (v : List ℕ). taken_from Outside v bs) (append_assoc bytes (b ∷ []) w))
  where
    byte_taken : (b : ℕ) (bs bytes : List ℕ) → is_token_byte b ≡ true → taken_from Outside bytes (b ∷ bs) ≡ taken_from Outside (bytes ++ b ∷ []) bs
    byte_taken b bs bytes h = let parts = token_parts b h in rw (parts.1, parts.0) refl

blank_taken : (b : ℕ) (bs bytes : List ℕ) → is_blank b ≡ true → taken_from Outside bytes (b ∷ bs) ≡ unless_empty bytes (taken_from Outside [] bs)
blank_taken b bs bytes h = rw (no_quote b h, h) refl
  where
    no_quote : (b : ℕ) → is_blank b ≡ true → nat_eq b 34 ≡ false
    no_quote b h = grind (arith, nat_tests)

text_taken : (inside text bytes bs : List ℕ) → IsInside inside text → taken_from InQuotes bytes (inside ++ (34 ∷ bs)) ≡ (bytes ++ text) ∷ taken_from Outside [] bs
text_taken _ _ bytes bs nothing = λ i. sym (append-nil bytes) i ∷ taken_from Outside [] bs
text_taken _ _ bytes bs (escaped {b = b} {bs = inside} {text = text} said) =
    text_taken inside text (bytes ++ b ∷ []) bs said ∙ (λ i. append_assoc bytes (b ∷ []) text i ∷ taken_from Outside [] bs)
text_taken _ _ bytes bs (plain {b = b} {bs = inside} {text = text} slash quote said) =
    byte_in_text b (inside ++ (34 ∷ bs)) bytes slash quote
    ∙ (text_taken inside text (bytes ++ b ∷ []) bs said ∙ (λ i. append_assoc bytes (b ∷ []) text i ∷ taken_from Outside [] bs))
  where
    byte_in_text : (b : ℕ) (bs bytes : List ℕ) → b ≢ 92 → b ≢ 34 → taken_from InQuotes bytes (b ∷ bs) ≡ taken_from InQuotes (bytes ++ b ∷ []) bs
    byte_in_text b bs bytes slash quote = rw (differs b 92 slash, differs b 34 quote) refl

-- An argument that a blank or the end of the line follows.
argument_taken : (b : ℕ) (w bs : List ℕ) → ends_word bs ≡ true → taken_from Outside (b ∷ w) bs ≡ (b ∷ w) ∷ taken bs
argument_taken b w [] ends = refl
argument_taken b w (c ∷ bs) ends = blank_taken c bs (b ∷ w) ends ∙ (λ i. (b ∷ w) ∷ sym (blank_taken c bs [] ends) i)

same_taken : (line : List ℕ) (arguments : List (List ℕ)) → AreArguments line arguments → taken line ≡ arguments
same_taken _ _ none_left = refl
same_taken _ _ (blank {b = b} {bs = bs} {others = others} h given) = blank_taken b bs [] h ∙ same_taken bs others given
same_taken _ _ (token {b = b} {w = w} {bs = bs} {others = others} bytes ends given) =
    token_taken (b ∷ w) [] bs bytes ∙ (argument_taken b w bs ends ∙ (λ i. (b ∷ w) ∷ same_taken bs others given i))
same_taken _ _ (quoted {inside = inside} {text = text} {bs = bs} {others = others} said ends given) =
    text_taken inside text [] bs said ∙ (λ i. text ∷ same_taken bs others given i)

pub accepted : (line : List ℕ) → has_arguments Between line ≡ true → HasSameArguments line
accepted line h =
    let given : HasArguments line = is_rest line Between h in
    record { arguments = given.0; here = given.1; there = same_taken line given.0 given.1 }

-- 3. The call accepts every line that consists of arguments.

token_stays : (b : ℕ) → is_token_byte b ≡ true → place_after Token b ≡ Token
token_stays b h = let parts = token_parts b h in rw (parts.0, parts.1) refl

token_begins : (b : ℕ) → is_token_byte b ≡ true → place_after Between b ≡ Token
token_begins b h = let parts = token_parts b h in rw (parts.0, parts.1) refl

token_goes : (w bs : List ℕ) → list_all is_token_byte w ≡ true → has_arguments Token (w ++ bs) ≡ has_arguments Token bs
token_goes [] bs h = refl
token_goes (b ∷ w) bs h =
    let parts = and_parts (is_token_byte b) (list_all is_token_byte w) h in
    ap (λ (place : Place). has_arguments place (w ++ bs)) (token_stays b parts.0) ∙ token_goes w bs parts.1

text_stays : (b : ℕ) → b ≢ 92 → b ≢ 34 → place_after Text b ≡ Text
text_stays b slash quote = rw (differs b 92 slash, differs b 34 quote) refl

text_goes : (inside text bs : List ℕ) → IsInside inside text → has_arguments Text (inside ++ (34 ∷ bs)) ≡ has_arguments Behind bs
text_goes _ _ bs nothing = refl
text_goes _ _ bs (escaped {bs = inside} {text = text} said) = text_goes inside text bs said
text_goes _ _ bs (plain {b = b} {bs = inside} {text = text} slash quote said) =
    ap (λ (place : Place). has_arguments place (inside ++ (34 ∷ bs))) (text_stays b slash quote) ∙ text_goes inside text bs said

ends_token : (bs : List ℕ) → ends_word bs ≡ true → has_arguments Between bs ≡ true → has_arguments Token bs ≡ true
ends_token [] ends h = refl
ends_token (b ∷ bs) ends h = rw ends (rw ends at h)

ends_text : (bs : List ℕ) → ends_word bs ≡ true → has_arguments Between bs ≡ true → has_arguments Behind bs ≡ true
ends_text [] ends h = refl
ends_text (b ∷ bs) ends h = rw ends (rw ends at h)

pub accepts : (line : List ℕ) (others : List (List ℕ)) → AreArguments line others → has_arguments Between line ≡ true
accepts _ _ none_left = refl
accepts _ _ (blank {b = b} {bs = bs} {others = others} h given) = rw h (accepts bs others given)
accepts _ _ (token {b = b} {w = w} {bs = bs} {others = others} bytes ends given) =
    let parts = and_parts (is_token_byte b) (list_all is_token_byte w) bytes in
    ap (λ (place : Place). has_arguments place (w ++ bs)) (token_begins b parts.0) ∙ (token_goes w bs parts.1 ∙ ends_token bs ends (accepts bs others given))
accepts _ _ (quoted {inside = inside} {text = text} {bs = bs} {others = others} said ends given) =
    text_goes inside text bs said ∙ ends_text bs ends (accepts bs others given)
