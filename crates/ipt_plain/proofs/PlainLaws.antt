-- The call returns the first line that is read otherwise, or nothing if and only if the text is read in the same way.
use Rattle.std.proofs.Common.{◌≡◌, ◌<◌, ◌+◌, ℕ, zero, suc, ◌⊎◌, inl, inr, Bool, true, false, not, ◌||◌, cond, nat_lt, List, [], ◌∷◌, ◌++◌, Option, Some, None, length, get_or, refl, sym, ap, subst, ◌∙◌, arith}
use Rattle.std.specs.Prelude.{All, IfNone, IfSome, codes, ◌==◌}
use Rattle.std.proofs.lemmas.Bool.{or_cases, or_left, or_right, or_parts, or_from}
use Rattle.std.proofs.lemmas.Bool.Decides.{nat_tests}
use Rattle.text_core.specs.Lines.{lines, words, is_comment}
use Rattle.text_core.proofs.StepsLaws.{bytes_same, bytes_own}
use Rattle.ipt_plain.specs.Arguments.{HasSameArguments}
use Rattle.ipt_plain.specs.Plain.{IsShort, HasZero, IsPlainLine, IsOtherwise, long, zero_byte, inner_quote, all_ports, HasForward, IsPlain, HasPlainFault, at_line, no_forward}
use Rattle.ipt_plain.specs.declared.arguments.Place.TheVariants.{Between}
use Rattle.ipt_plain.specs.declared.fault.PlainFault.{PlainFault}
use Rattle.ipt_plain.specs.declared.fault.PlainWhy.{PlainWhy}
use Rattle.ipt_plain.specs.declared.fault.PlainWhy.TheVariants.{LongLine, ZeroByte, InnerQuote, AllPorts, NoForward}
use Rattle.ipt_plain.specs.inner.LineSteps.{has_arguments, negates_all_ports, has_zero, rule_fault, line_fault, begins_forward, is_forward, fault_or, text_fault}
use Rattle.ipt_plain.proofs.ArgumentsLaws.{accepted, accepts}
use Rattle.ipt_plain.proofs.PortsLaws.{found, found_said}

-- 1. A byte 0.

zero_said : (line : List ℕ) → has_zero line ≡ true → HasZero line
zero_said [] h = cc
zero_said (b ∷ bs) h = elim (or_cases (b == 0) (has_zero bs) h) [
  | inl now ↦ (0, omega arith, is_zero b now)
  | inr later ↦ let there = zero_said bs later in (suc there.0, omega (arith, there.1), there.2)
]
  where
    is_zero : (b : ℕ) → (b == 0) ≡ true → b ≡ 0
    is_zero b h = grind (arith, nat_tests)

zero_at : (line : List ℕ) (k : ℕ) → k < length line → get_or line k 0 ≡ 0 → has_zero line ≡ true
zero_at [] k within e = absurd (omega arith)
zero_at (b ∷ bs) zero within e = or_left (b == 0) (has_zero bs) (rw e refl)
zero_at (b ∷ bs) (suc k) within e = or_right (b == 0) (has_zero bs) (zero_at bs k (omega arith) e)

-- 2. Lines.

-- The result of a call on a line is what is said of the line.
abbrev Says : List ℕ → Option PlainWhy → Type 0
Says line None = IsPlainLine line
Says line (Some why) = IsOtherwise line why

no_zero : (line : List ℕ) → has_zero line ≡ false → HasZero line → ⊥
no_zero line h there = let found = zero_at line there.0 there.1 there.2 in cc

by_ports : (line : List ℕ) (t : Bool) → negates_all_ports [] [] (words line) ≡ t → IsShort line → (HasZero line → ⊥) → is_comment line ≡ false
    → HasSameArguments line → Says line (cond t (Some AllPorts) None)
by_ports line true h short no_zero comment arguments = all_ports short no_zero comment arguments (found_said (words line) h)
by_ports line false h short no_zero comment arguments = record {
  short = short;
  no_zero = no_zero;
  arguments = λ _. arguments;
  ports = λ _ given. let also = found (words line) given in cc;
}

by_arguments : (line : List ℕ) (t : Bool) → has_arguments Between line ≡ t → IsShort line → (HasZero line → ⊥) → is_comment line ≡ false
    → Says line (cond (not t) (Some InnerQuote) (cond (negates_all_ports [] [] (words line)) (Some AllPorts) None))
by_arguments line true h short no_zero comment = by_ports line (negates_all_ports [] [] (words line)) refl short no_zero comment (accepted line h)
by_arguments line false h short no_zero comment = inner_quote short no_zero comment (λ given. let also = accepts line given.arguments given.here in cc)

by_comment : (line : List ℕ) (t : Bool) → is_comment line ≡ t → IsShort line → (HasZero line → ⊥) → Says line (cond t None (rule_fault line))
by_comment line true h short no_zero = record {
  short = short;
  no_zero = no_zero;
  arguments = λ other. cc;
  ports = λ other given. cc;
}
by_comment line false h short no_zero = by_arguments line (has_arguments Between line) refl short no_zero h

by_zero : (line : List ℕ) (t : Bool) → has_zero line ≡ t → IsShort line → Says line (cond t (Some ZeroByte) (cond (is_comment line) None (rule_fault line)))
by_zero line true h short = zero_byte short (zero_said line h)
by_zero line false h short = by_comment line (is_comment line) refl short (no_zero line h)

by_length : (line : List ℕ) (t : Bool) → nat_lt 10239 (length line) ≡ t
    → Says line (cond t (Some LongLine) (cond (has_zero line) (Some ZeroByte) (cond (is_comment line) None (rule_fault line))))
by_length line true h = long (grind (arith, nat_tests))
by_length line false h = by_zero line (has_zero line) refl (grind (arith, nat_tests))

line_said : (line : List ℕ) → Says line (line_fault line)
unfolding line_fault
line_said line = by_length line (nat_lt 10239 (length line)) refl

-- A plain line is not read otherwise.
not_both : (line : List ℕ) (why : PlainWhy) → IsPlainLine line → IsOtherwise line why → ⊥
not_both line _ good (long h) = omega (arith, good.short, h)
not_both line _ good (zero_byte short given) = good.no_zero given
not_both line _ good (inner_quote short clean comment none_given) = none_given (good.arguments comment)
not_both line _ good (all_ports short clean comment given ports) = good.ports comment ports

said_plain : (line : List ℕ) (o : Option PlainWhy) → Says line o → IsPlainLine line → o ≡ None
said_plain line None said good = refl
said_plain line (Some why) said good = absurd (not_both line why good said)

line_plain : (line : List ℕ) → IsPlainLine line → line_fault line ≡ None
line_plain line good = said_plain line (line_fault line) (line_said line) good

-- 3. Chain lines of FORWARD.

-- The line is a chain line of FORWARD.
abbrev IsForward : List ℕ → Type 0
IsForward line = (rest : List (List ℕ)) × (words line ≡ codes ":FORWARD" ∷ rest)

begins_said : (ws : List (List ℕ)) → begins_forward ws ≡ true → (rest : List (List ℕ)) × (ws ≡ codes ":FORWARD" ∷ rest)
begins_said [] h = cc
begins_said (w ∷ ws) h = (ws, λ i. bytes_same w (codes ":FORWARD") h i ∷ ws)

forward_said : (line : List ℕ) → is_forward line ≡ true → IsForward line
unfolding is_forward
forward_said line h = begins_said (words line) h

forward_is : (line : List ℕ) → IsForward line → is_forward line ≡ true
unfolding is_forward
forward_is line given = subst (λ (ws : List (List ℕ)). begins_forward ws ≡ true) (sym given.1) (bytes_own (codes ":FORWARD"))

forward_here : (l : List ℕ) (ls : List (List ℕ)) → is_forward l ≡ true → HasForward (l ∷ ls)
forward_here l ls h = let said = forward_said l h in (l, said.0, (0, omega arith, refl), said.1)

forward_later : (l : List ℕ) (ls : List (List ℕ)) → HasForward ls → HasForward (l ∷ ls)
forward_later l ls given = (given.0, given.1, (suc given.2.0, omega (arith, given.2.1), given.2.2), given.3)

forward_parts : (l : List ℕ) (ls : List (List ℕ)) → HasForward (l ∷ ls) → (is_forward l ≡ true) ⊎ HasForward ls
forward_parts l ls (line, rest, (zero, within, same), said) = inl (forward_is l (rest, ap words same ∙ said))
forward_parts l ls (line, rest, (suc k, within, same), said) = inr (line, rest, (k, omega arith, same), said)

-- 4. Texts.

all_none : All IsPlainLine []
all_none k d within = absurd (omega arith)

all_more : (l : List ℕ) (ls : List (List ℕ)) → IsPlainLine l → All IsPlainLine ls → All IsPlainLine (l ∷ ls)
all_more l ls first others zero d within = first
all_more l ls first others (suc k) d within = others k d (omega arith)

-- What is said of the lines from line n on.
data SaysText (n : ℕ) (forward : Bool) (ls : List (List ℕ)) : Option PlainFault → Type 0 where
  all_plain : All IsPlainLine ls → (forward ≡ true) ⊎ HasForward ls → SaysText n forward ls None
  faulty : {why : PlainWhy} (front behind : List (List ℕ)) (line : List ℕ) → ls ≡ front ++ (line ∷ behind) → All IsPlainLine front
      → IsOtherwise line why → SaysText n forward ls (Some (record { line = n + length front; why = why }))
  missing : All IsPlainLine ls → forward ≡ false → (HasForward ls → ⊥) → SaysText n forward ls (Some (record { line = n + length ls; why = NoForward }))

along : (n : ℕ) (forward : Bool) (ls : List (List ℕ)) (why : PlainWhy) (a b : ℕ) → a ≡ b
    → SaysText n forward ls (Some (record { line = a; why = why })) → SaysText n forward ls (Some (record { line = b; why = why }))
along n forward ls why a b e h = subst (λ (m : ℕ). SaysText n forward ls (Some (record { line = m; why = why }))) e h

one_before : (n : ℕ) (forward : Bool) (l : List ℕ) (ls : List (List ℕ)) (o : Option PlainFault) → IsPlainLine l
    → SaysText (n + 1) (forward || is_forward l) ls o → SaysText n forward (l ∷ ls) o
one_before n forward l ls _ good (all_plain each given) = all_plain (all_more l ls good each) (elim given [
  | inl e ↦ elim (or_cases forward (is_forward l) e) [ inl a ↦ inl a | inr a ↦ inr (forward_here l ls a) ]
  | inr there ↦ inr (forward_later l ls there)
])
one_before n forward l ls _ good (faulty {why = why} front behind line parts each bad) =
    along n forward (l ∷ ls) why (n + length (l ∷ front)) (n + 1 + length front) (omega arith)
    (faulty (l ∷ front) behind line (ap (λ (v : List (List ℕ)). l ∷ v) parts) (all_more l front good each) bad)
one_before n forward l ls _ good (missing each none_before none_there) =
    let parts = or_parts forward (is_forward l) none_before in
    along n forward (l ∷ ls) NoForward (n + length (l ∷ ls)) (n + 1 + length ls) (omega arith)
    (missing (all_more l ls good each) parts.0 (λ there. elim (forward_parts l ls there) [ inl a ↦ cc (a, parts.1) | inr a ↦ none_there a ]))

by_line : (n : ℕ) (forward : Bool) (l : List ℕ) (ls : List (List ℕ)) (o : Option PlainWhy) (others : Option PlainFault) → Says l o
    → SaysText (n + 1) (forward || is_forward l) ls others → SaysText n forward (l ∷ ls) (fault_or o n others)
by_line n forward l ls None others said later = one_before n forward l ls others said later
by_line n forward l ls (Some why) others said later =
    along n forward (l ∷ ls) why (n + length {A = List ℕ} []) n (omega arith) (faulty [] ls l refl all_none said)

at_end : (n : ℕ) (forward : Bool) → SaysText n forward [] (cond forward None (Some (record { line = n; why = NoForward })))
at_end n true = all_plain all_none (inl refl)
at_end n false = along n false [] NoForward (n + length {A = List ℕ} []) n (omega arith) (missing all_none refl (λ there. absurd (omega (arith, there.2.1))))

text_said : (ls : List (List ℕ)) (n : ℕ) (forward : Bool) → SaysText n forward ls (text_fault forward n ls)
text_said [] n forward = at_end n forward
text_said (l ∷ ls) n forward =
    by_line n forward l ls (line_fault l) (text_fault (forward || is_forward l) (n + 1) ls) (line_said l) (text_said ls (n + 1) (forward || is_forward l))

-- What the call returns.
abbrev Answers : List ℕ → Option PlainFault → Type 0
Answers bytes None = IsPlain bytes
Answers bytes (Some fault) = HasPlainFault bytes fault.line fault.why

answered : (bytes : List ℕ) (o : Option PlainFault) → SaysText 1 false (lines bytes) o → Answers bytes o
answered bytes _ (all_plain each given) = record { each = each; forward = elim given [ inl e ↦ absurd (cc) | inr there ↦ there ] }
answered bytes _ (faulty front behind line parts each bad) = at_line front behind line parts each bad
answered bytes _ (missing each none_before none_there) = no_forward each none_there

answer : (bytes : List ℕ) → Answers bytes (text_fault false 1 (lines bytes))
answer bytes = answered bytes (text_fault false 1 (lines bytes)) (text_said (lines bytes) 1 false)

-- A plain text has no fault.
plain_goes : (ls : List (List ℕ)) (n : ℕ) (forward : Bool) → All IsPlainLine ls → (forward ≡ true) ⊎ HasForward ls → text_fault forward n ls ≡ None
plain_goes [] n forward each (inl e) = rw e refl
plain_goes [] n forward each (inr there) = absurd (omega (arith, there.2.1))
plain_goes (l ∷ ls) n forward each given =
    let here : line_fault l ≡ None = line_plain l (each 0 l (omega arith)) in
    let later : All IsPlainLine ls = λ k d within. each (suc k) d (omega arith) in
    rw here (plain_goes ls (n + 1) (forward || is_forward l) later (elim given [
      | inl e ↦ inl (or_left forward (is_forward l) e)
      | inr there ↦ elim (forward_parts l ls there) [ inl a ↦ inl (or_right forward (is_forward l) a) | inr a ↦ inr a ]
    ]))

plain_none : (bytes : List ℕ) → IsPlain bytes → text_fault false 1 (lines bytes) ≡ None
plain_none bytes given = plain_goes (lines bytes) 1 false given.each (inr given.forward)

-- The clauses of the call.
none_of : (bytes : List ℕ) (o : Option PlainFault) → Answers bytes o → IfNone o (IsPlain bytes)
none_of bytes None said = said
none_of bytes (Some fault) said = tt

some_of : (bytes : List ℕ) (o : Option PlainFault) → Answers bytes o → IfSome o (λ fault. HasPlainFault bytes fault.line fault.why)
some_of bytes None said = tt
some_of bytes (Some fault) said = said

answers : (bytes : List ℕ) (o : Option PlainFault) → o ≡ text_fault false 1 (lines bytes) → Answers bytes o
answers bytes o e = subst (λ (v : Option PlainFault). Answers bytes v) (sym e) (answer bytes)

pub plain_if_none : (bytes : List ℕ) (o : Option PlainFault) → o ≡ text_fault false 1 (lines bytes) → IfNone o (IsPlain bytes)
plain_if_none bytes o e = none_of bytes o (answers bytes o e)

pub fault_if_some : (bytes : List ℕ) (o : Option PlainFault) → o ≡ text_fault false 1 (lines bytes) → IfSome o (λ fault. HasPlainFault bytes fault.line fault.why)
fault_if_some bytes o e = some_of bytes o (answers bytes o e)

pub none_if_plain : (bytes : List ℕ) (o : Option PlainFault) → o ≡ text_fault false 1 (lines bytes) → IsPlain bytes → o ≡ None
none_if_plain bytes o e given = e ∙ plain_none bytes given

-- 5. A text has at most one fault, and none if it is plain.

-- The first reason of some tests on a line.
abbrev first_reason : (too_long dirty comment arguments ports : Bool) → Option PlainWhy
first_reason too_long dirty comment arguments ports =
    cond too_long (Some LongLine) (cond dirty (Some ZeroByte) (cond comment None (cond (not arguments) (Some InnerQuote) (cond ports (Some AllPorts) None))))

tested : (line : List ℕ)
    → line_fault line ≡ first_reason (nat_lt 10239 (length line)) (has_zero line) (is_comment line) (has_arguments Between line) (negates_all_ports [] [] (words line))
unfolding line_fault
tested line = refl

is_short : (line : List ℕ) → IsShort line → nat_lt 10239 (length line) ≡ false
is_short line h = grind (arith, nat_tests)

is_long : (line : List ℕ) → 10239 < length line → nat_lt 10239 (length line) ≡ true
is_long line h = grind (arith, nat_tests)

has_no_zero : (line : List ℕ) (t : Bool) → has_zero line ≡ t → (HasZero line → ⊥) → has_zero line ≡ false
has_no_zero line true h none = absurd (none (zero_said line h))
has_no_zero line false h none = h

has_none : (line : List ℕ) (t : Bool) → has_arguments Between line ≡ t → (HasSameArguments line → ⊥) → has_arguments Between line ≡ false
has_none line true h none = absurd (none (accepted line h))
has_none line false h none = h

otherwise_is : (line : List ℕ) (why : PlainWhy) → IsOtherwise line why → line_fault line ≡ Some why
otherwise_is line _ (long h) =
    tested line ∙ (λ i. first_reason (is_long line h i) (has_zero line) (is_comment line) (has_arguments Between line) (negates_all_ports [] [] (words line)))
otherwise_is line _ (zero_byte short there) =
    let zero_is = zero_at line there.0 there.1 there.2 in
    tested line ∙ (λ i. first_reason (is_short line short i) (zero_is i) (is_comment line) (has_arguments Between line) (negates_all_ports [] [] (words line)))
otherwise_is line _ (inner_quote short clean comment none) =
    let zero_is = has_no_zero line (has_zero line) refl clean in
    let arguments_are = has_none line (has_arguments Between line) refl none in
    tested line ∙ (λ i. first_reason (is_short line short i) (zero_is i) (comment i) (arguments_are i) (negates_all_ports [] [] (words line)))
otherwise_is line _ (all_ports short clean comment given ports) =
    let zero_is = has_no_zero line (has_zero line) refl clean in
    let arguments_are = accepts line given.arguments given.here in
    let ports_are = found (words line) ports in
    tested line ∙ (λ i. first_reason (is_short line short i) (zero_is i) (comment i) (arguments_are i) (ports_are i))

abbrev fault_at : ℕ → PlainWhy → Option PlainFault
fault_at n why = Some (record { line = n; why = why })

renumbered : (a b : ℕ) (why : PlainWhy) → a ≡ b → fault_at a why ≡ fault_at b why
renumbered a b why e = ap (λ (n : ℕ). fault_at n why) e

fault_goes : (front behind : List (List ℕ)) (line : List ℕ) (n : ℕ) (forward : Bool) (why : PlainWhy) → All IsPlainLine front → IsOtherwise line why
    → text_fault forward n (front ++ (line ∷ behind)) ≡ fault_at (n + length front) why
fault_goes [] behind line n forward why each bad =
    ap (λ (o : Option PlainWhy). fault_or o n (text_fault (forward || is_forward line) (n + 1) behind)) (otherwise_is line why bad)
    ∙ renumbered n (n + length {A = List ℕ} []) why (omega arith)
fault_goes (l ∷ front) behind line n forward why each bad =
    let here : line_fault l ≡ None = line_plain l (each 0 l (omega arith)) in
    let later : All IsPlainLine front = λ k d within. each (suc k) d (omega arith) in
    ap (λ (o : Option PlainWhy). fault_or o n (text_fault (forward || is_forward l) (n + 1) (front ++ (line ∷ behind)))) here
    ∙ (fault_goes front behind line (n + 1) (forward || is_forward l) why later bad ∙ renumbered (n + 1 + length front) (n + length (l ∷ front)) why (omega arith))

missing_goes : (ls : List (List ℕ)) (n : ℕ) (forward : Bool) → All IsPlainLine ls → forward ≡ false → (HasForward ls → ⊥)
    → text_fault forward n ls ≡ fault_at (n + length ls) NoForward
missing_goes [] n forward each none_before none_there = rw none_before (renumbered n (n + length {A = List ℕ} []) NoForward (omega arith))
missing_goes (l ∷ ls) n forward each none_before none_there =
    let here : line_fault l ≡ None = line_plain l (each 0 l (omega arith)) in
    let later : All IsPlainLine ls = λ k d within. each (suc k) d (omega arith) in
    let not_here = no_forward_line l ls (is_forward l) refl none_there in
    ap (λ (o : Option PlainWhy). fault_or o n (text_fault (forward || is_forward l) (n + 1) ls)) here
    ∙ (missing_goes ls (n + 1) (forward || is_forward l) later (or_from forward (is_forward l) none_before not_here) (λ there. none_there (forward_later l ls there))
    ∙ renumbered (n + 1 + length ls) (n + length (l ∷ ls)) NoForward (omega arith))
  where
    no_forward_line : (l : List ℕ) (ls : List (List ℕ)) (t : Bool) → is_forward l ≡ t → (HasForward (l ∷ ls) → ⊥) → is_forward l ≡ false
    no_forward_line l ls true h none = absurd (none (forward_here l ls h))
    no_forward_line l ls false h none = h

fault_is : (bytes : List ℕ) (n : ℕ) (why : PlainWhy) → HasPlainFault bytes n why → text_fault false 1 (lines bytes) ≡ fault_at n why
fault_is bytes _ why (at_line front behind line parts each bad) = ap (λ (ls : List (List ℕ)). text_fault false 1 ls) parts ∙ fault_goes front behind line 1 false why each bad
fault_is bytes _ _ (no_forward each none_there) = missing_goes (lines bytes) 1 false each refl none_there

pub one_plain_fault : (bytes : List ℕ) (n m : ℕ) (v w : PlainWhy) → HasPlainFault bytes n v → HasPlainFault bytes m w → (n ≡ m) × (v ≡ w)
one_plain_fault bytes n m v w first other =
    let same = inner (record { line = n; why = v }) (record { line = m; why = w }) (sym (fault_is bytes n v first) ∙ fault_is bytes m w other) in
    (ap (λ (fault : PlainFault). fault.line) same, ap (λ (fault : PlainFault). fault.why) same)
  where
    inner : (a b : PlainFault) → Some a ≡ Some b → a ≡ b
    inner a b e = cc

pub not_plain_with_fault : (bytes : List ℕ) (n : ℕ) (why : PlainWhy) → IsPlain bytes → HasPlainFault bytes n why → ⊥
not_plain_with_fault bytes n why given fault =
    let one = plain_none bytes given in
    let other = fault_is bytes n why fault in
    cc
