-- Formatted tokens are tokens of a line: they are printable and nonempty.
use Rattle.std.proofs.Common.{◌≡◌, ℕ, ◌<◌, ◌≤◌, ◌^◌, Bool, true, false, ◌&&◌, ◌||◌, not, length, List, [], ◌∷◌, ◌++◌, Option, Some, None, refl, ap, ◌∙◌, arith}
use Rattle.std.specs.Prelude.{◌==◌, nat_lt, if◌then◌else◌, is_some, codes, decimal}
use Rattle.std.specs.Char.{is_ascii_digit}
use Rattle.std.specs.Str.{all_ascii_digits}
use Rattle.std.specs.List.{list_all}
use Rattle.std.proofs.lemmas.Bool.{and_parts, not-true}
use Rattle.std.proofs.lemmas.Bool.Decides.{nat_tests}
use Rattle.std.proofs.lemmas.Fmt.{decimal_nonempty}
use Rattle.text_core.proofs.DecimalLaws.{decimal_digits}
use Rattle.text_core.specs.Lines.{is_comment, are_comment, begins_with}
use Rattle.text_core.proofs.PiecesLaws.{lacks}
use Rattle.text_core.proofs.SpacedLaws.{spaced, is_word, words_spaced, lacks_spaced, prints, prints_no_blank, prints_lacks}
use Rattle.host_net.specs.declared.prefix.Prefix.{Prefix}
use Rattle.host_net.specs.Prefix.{prefix_text, address_text, octet}
use Rattle.host_net.specs.Service.{icmp, tcp, udp, max_port}
use Rattle.host_net.specs.ServiceText.{protocol_text}
use Rattle.ipt_rules.specs.declared.rule.AddrMatch.{AddrMatch}
use Rattle.ipt_rules.specs.declared.rule.PortMatch.{PortMatch}
use Rattle.ipt_rules.specs.declared.rule.ProtoMatch.{ProtoMatch}
use Rattle.ipt_rules.specs.declared.rule.StateMatch.{StateMatch}
use Rattle.ipt_rules.specs.declared.rule.Rule.{Rule}
use Rattle.ipt_rules.specs.declared.rule.Target.{Target}
use Rattle.ipt_rules.specs.declared.rule.Target.TheVariants.{Accept, Drop, Reject, Return, Count, Jump}
use Rattle.ipt_rules.specs.Chain.{Chain, name_of}
use Rattle.ipt_rules.specs.Name.{is_user_name, is_printing, has_name_length, begins_as_option, is_reserved}
use Rattle.ipt_rules.specs.RuleParts.{names_ports}
use Rattle.ipt_rules.specs.inner.RuleParts.{is_protocol, are_ports, is_rule}
use Rattle.ipt_rules.specs.Text.{ports_text, states_text}
use Rattle.ipt_read.proofs.PartLaws.{rule_has}
use Rattle.ipt_read.specs.inner.WrittenWords.{bang_words, address_words, protocol_words, module_words, port_words, service_words, state_words, target_words, rule_pieces, rule_words}
use Rattle.ipt_read.proofs.LinesAgainLaws.{IsWritten}

-- A nonempty string of printable bytes.
abbrev pub is_printed : List ℕ → Bool
is_printed [] = false
is_printed (b ∷ bs) = list_all prints (b ∷ bs)

printed_word : (w : List ℕ) → is_printed w ≡ true → (is_word w ≡ true) × (lacks 10 w ≡ true)
printed_word [] h = cc
printed_word (b ∷ bs) h = (prints_no_blank (b ∷ bs) h, prints_lacks (b ∷ bs) h)

printed_words : (ws : List (List ℕ)) → list_all is_printed ws ≡ true → (list_all is_word ws ≡ true) × (list_all (lacks 10) ws ≡ true)
printed_words [] h = (refl, refl)
printed_words (w ∷ ws) h =
    let parts = and_parts (is_printed w) (list_all is_printed ws) h in
    let here = printed_word w parts.0 in
    let others = printed_words ws parts.1 in
    (rw (here.0, others.0) refl, rw (here.1, others.1) refl)

-- Printable tokens with blanks between them are a line that is no comment.
pub spaced_written : (w : List ℕ) (ws : List (List ℕ)) → list_all is_printed (w ∷ ws) ≡ true → begins_with 35 w ≡ false → IsWritten (spaced (w ∷ ws)) (w ∷ ws)
unfolding is_comment
spaced_written w ws h first =
    let parts = printed_words (w ∷ ws) h in
    let said = words_spaced (w ∷ ws) parts.0 in
    record { read = said; counts = ap are_comment said ∙ first; ends = lacks_spaced (w ∷ ws) parts.1 }

-- Names.
name_byte_prints : (b : ℕ) → is_printing b ≡ true → prints b ≡ true
name_byte_prints b h = grind (arith, nat_tests)

name_prints : (bs : List ℕ) → list_all is_printing bs ≡ true → list_all prints bs ≡ true
name_prints [] h = refl
name_prints (b ∷ bs) h =
    let parts = and_parts (is_printing b) (list_all is_printing bs) h in
    rw (name_byte_prints b parts.0, name_prints bs parts.1) refl

not_empty_printed : (bs : List ℕ) → has_name_length bs ≡ true → list_all prints bs ≡ true → is_printed bs ≡ true
not_empty_printed [] some h = cc
not_empty_printed (b ∷ bs) some h = h

pub user_name_printed : (name : List ℕ) → is_user_name name ≡ true → (list_all prints name ≡ true) × (is_printed name ≡ true)
unfolding is_user_name
user_name_printed name h =
    let parts = and_parts (has_name_length name) (list_all is_printing name && (not (begins_as_option name) && not (is_reserved name))) h in
    let bytes = and_parts (list_all is_printing name) (not (begins_as_option name) && not (is_reserved name)) parts.1 in
    let printed = name_prints name bytes.0 in
    (printed, not_empty_printed name parts.0 printed)

pub user_name_free : (name : List ℕ) → is_user_name name ≡ true → is_reserved name ≡ false
unfolding is_user_name
user_name_free name h =
    let parts = and_parts (has_name_length name) (list_all is_printing name && (not (begins_as_option name) && not (is_reserved name))) h in
    let bytes = and_parts (list_all is_printing name) (not (begins_as_option name) && not (is_reserved name)) parts.1 in
    let free = and_parts (not (begins_as_option name)) (not (is_reserved name)) bytes.1 in
    not-true (is_reserved name) free.1

-- Prefixes.
prints_append : (xs ys : List ℕ) → list_all prints xs ≡ true → list_all prints ys ≡ true → list_all prints (xs ++ ys) ≡ true
prints_append [] ys f g = g
prints_append (x ∷ xs) ys f g =
    let parts = and_parts (prints x) (list_all prints xs) f in
    rw (parts.0, prints_append xs ys parts.1 g) refl

digit_parts : (b : ℕ) (bs : List ℕ) → all_ascii_digits (b ∷ bs) ≡ true → (is_ascii_digit b ≡ true) × (all_ascii_digits bs ≡ true)
digit_parts b bs digits = grind (arith, nat_tests)

digit_prints : (b : ℕ) → is_ascii_digit b ≡ true → prints b ≡ true
digit_prints b h = grind (arith, nat_tests)

digits_print : (bs : List ℕ) → all_ascii_digits bs ≡ true → list_all prints bs ≡ true
digits_print [] h = refl
digits_print (b ∷ bs) h =
    let parts = digit_parts b bs h in
    rw (digit_prints b parts.0, digits_print bs parts.1) refl

octet_prints : (a place : ℕ) → list_all prints (decimal (octet a place)) ≡ true
unfolding octet
octet_prints a place = digits_print (decimal (octet a place)) (decimal_digits (octet a place) (omega arith))

address_prints : (a : ℕ) → list_all prints (address_text a) ≡ true
unfolding address_text
address_prints a =
    prints_append (decimal (octet a 24)) _ (octet_prints a 24) (prints_append (decimal (octet a 16)) _ (octet_prints a 16) (prints_append (decimal (octet a 8)) _ (octet_prints a 8) (octet_prints a 0)))

middle_printed : (a b : List ℕ) → list_all prints (a ++ (47 ∷ b)) ≡ true → is_printed (a ++ (47 ∷ b)) ≡ true
middle_printed [] b h = h
middle_printed (x ∷ a) b h = h

pub prefix_printed : (p : Prefix) → is_printed (prefix_text p) ≡ true
unfolding prefix_text
prefix_printed p =
    middle_printed (address_text p.addr) (decimal p.len) (prints_append (address_text p.addr) (47 ∷ decimal p.len) (address_prints p.addr) (digits_print (decimal p.len) (decimal_digits p.len (omega (arith, p.fits)))))

-- The tokens of a rule.
all_append : (xs ys : List (List ℕ)) → list_all is_printed xs ≡ true → list_all is_printed ys ≡ true → list_all is_printed (xs ++ ys) ≡ true
all_append [] ys f g = g
all_append (x ∷ xs) ys f g =
    let parts = and_parts (is_printed x) (list_all is_printed xs) f in
    rw (parts.0, all_append xs ys parts.1 g) refl

bang_printed : (negated : Bool) → list_all is_printed (bang_words negated) ≡ true
bang_printed true = refl
bang_printed false = refl

two_printed : (option w : List ℕ) → is_printed option ≡ true → is_printed w ≡ true → list_all is_printed (option ∷ w ∷ []) ≡ true
two_printed option w f g = rw (f, g) refl

sign_printed : (negated : Bool) (option w : List ℕ) → is_printed option ≡ true → is_printed w ≡ true → list_all is_printed (bang_words negated ++ (option ∷ w ∷ [])) ≡ true
sign_printed negated option w f g = all_append (bang_words negated) (option ∷ w ∷ []) (bang_printed negated) (two_printed option w f g)

address_printed : (option : List ℕ) (o : Option AddrMatch) → is_printed option ≡ true → list_all is_printed (address_words option o) ≡ true
address_printed option None h = refl
address_printed option (Some part) h = sign_printed part.negated option (prefix_text part.prefix) h (prefix_printed part.prefix)

-- Protocols and ports.
not_empty : (bs : List ℕ) → 0 < length bs → list_all prints bs ≡ true → is_printed bs ≡ true
not_empty [] some h = absurd (omega arith)
not_empty (b ∷ bs) some h = h

printed_append : (xs ys : List ℕ) → is_printed xs ≡ true → list_all prints ys ≡ true → is_printed (xs ++ ys) ≡ true
printed_append [] ys f g = cc
printed_append (x ∷ xs) ys f g = prints_append (x ∷ xs) ys f g

decimal_prints : (n : ℕ) → n < 2 ^ 64 → list_all prints (decimal n) ≡ true
decimal_prints n fits = digits_print (decimal n) (decimal_digits n fits)

decimal_printed : (n : ℕ) → n < 2 ^ 64 → is_printed (decimal n) ≡ true
decimal_printed n fits = not_empty (decimal n) (decimal_nonempty n fits) (decimal_prints n fits)

protocol_by : (n : ℕ) (a b c : Bool) → n < 2 ^ 64 → is_printed (if a then codes "icmp" else if b then codes "tcp" else if c then codes "udp" else decimal n) ≡ true
protocol_by n true b c fits = refl
protocol_by n false true c fits = refl
protocol_by n false false true fits = refl
protocol_by n false false false fits = decimal_printed n fits

protocol_printed : (n : ℕ) → n < 2 ^ 64 → is_printed (protocol_text n) ≡ true
protocol_printed n fits = protocol_by n (n == icmp) (n == tcp) (n == udp) fits

last_prints : (n : ℕ) (several : Bool) → n < 2 ^ 64 → list_all prints (if several then codes ":" ++ decimal n else []) ≡ true
last_prints n true fits = decimal_prints n fits
last_prints n false fits = refl

ports_printed : (low high : ℕ) → low < 2 ^ 64 → high < 2 ^ 64 → is_printed (ports_text low high) ≡ true
ports_printed low high first last =
    printed_append (decimal low) (if nat_lt low high then codes ":" ++ decimal high else []) (decimal_printed low first) (last_prints high (nat_lt low high) last)

protocol_small : (part : ProtoMatch) → is_protocol (Some part) ≡ true → part.proto < 2 ^ 64
protocol_small part is = omega (arith, small)
  where
    small : part.proto < 2 ^ 8
    small = grind (arith, nat_tests)

ports_small : (named : Bool) (part : PortMatch) → are_ports named (Some part) ≡ true → (part.low < 2 ^ 64) × (part.high < 2 ^ 64)
ports_small named part are = (omega (arith, order, small), omega (arith, small))
  where
    order : part.low ≤ part.high
    order = grind (arith, nat_tests)

    small : part.high ≤ max_port
    small = grind (arith, nat_tests)

protocol_words_printed : (o : Option ProtoMatch) → is_protocol o ≡ true → list_all is_printed (protocol_words o) ≡ true
protocol_words_printed None is = refl
protocol_words_printed (Some part) is =
    sign_printed part.negated (codes "-p") (protocol_text part.proto) refl (protocol_printed part.proto (protocol_small part is))

module_words_printed : (o : Option ProtoMatch) (ports : Bool) → is_protocol o ≡ true → list_all is_printed (module_words o ports) ≡ true
module_words_printed None ports is = refl
module_words_printed (Some part) true is = two_printed (codes "-m") (protocol_text part.proto) refl (protocol_printed part.proto (protocol_small part is))
module_words_printed (Some part) false is = refl

port_words_printed : (option : List ℕ) (named : Bool) (o : Option PortMatch) → is_printed option ≡ true → are_ports named o ≡ true → list_all is_printed (port_words option o) ≡ true
port_words_printed option named None f are = refl
port_words_printed option named (Some part) f are =
    let small = ports_small named part are in
    sign_printed part.negated option (ports_text part.low part.high) f (ports_printed part.low part.high small.0 small.1)

service_printed : (r : Rule) → is_rule r ≡ true → list_all is_printed (service_words r.proto r.sport r.dport) ≡ true
service_printed r is =
    let has = rule_has r is in
    all_append (protocol_words r.proto) _ (protocol_words_printed r.proto has.proto)
    (all_append (module_words r.proto (is_some r.sport || is_some r.dport)) _ (module_words_printed r.proto (is_some r.sport || is_some r.dport) has.proto)
    (all_append (port_words (codes "--sport") r.sport) _ (port_words_printed (codes "--sport") (names_ports r.proto) r.sport refl has.sport) (port_words_printed (codes "--dport") (names_ports r.proto) r.dport refl has.dport)))

-- States and targets.
states_printed : (new established : Bool) → is_printed (states_text new established) ≡ true
states_printed true true = refl
states_printed true false = refl
states_printed false true = refl
states_printed false false = refl

state_printed : (o : Option StateMatch) → list_all is_printed (state_words o) ≡ true
state_printed None = refl
state_printed (Some part) =
    sign_printed part.negated (codes "--ctstate") (states_text part.new part.established) refl (states_printed part.new part.established)

-- The chain of a jump has a printable name.
abbrev pub JumpPrints : List Chain → Target → Type 0
JumpPrints chains (Jump c) = is_printed (name_of chains c) ≡ true
JumpPrints chains _ = Unit {0}

target_printed : (chains : List Chain) (t : Target) → JumpPrints chains t → list_all is_printed (target_words chains t) ≡ true
target_printed chains Accept h = refl
target_printed chains Drop h = refl
target_printed chains Reject h = refl
target_printed chains Return h = refl
target_printed chains Count h = refl
target_printed chains (Jump c) h = two_printed (codes "-j") (name_of chains c) refl h

pub rule_written : (chains : List Chain) (name : List ℕ) (r : Rule) → is_printed name ≡ true → is_rule r ≡ true → JumpPrints chains r.target → IsWritten (spaced (rule_words chains name r)) (rule_words chains name r)
rule_written chains name r named is jump =
    spaced_written (codes "-A") (name ∷ rule_pieces chains r)
    (rw named (all_append (address_words (codes "-s") r.src) _ (address_printed (codes "-s") r.src refl) (all_append (address_words (codes "-d") r.dst) _ (address_printed (codes "-d") r.dst refl)
    (all_append (service_words r.proto r.sport r.dport) _ (service_printed r is) (all_append (state_words r.state) _ (state_printed r.state) (target_printed chains r.target jump))))))
    refl
