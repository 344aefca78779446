-- A printed rule is parsed.
use Rattle.std.proofs.Common.{◌≡◌, ◌≢◌, ◌∙◌, ◌⊎◌, inl, inr, ◌<◌, ◌^◌, ◌==◌, ◌||◌, ℕ, Bool, true, false, List, [], ◌∷◌, ◌++◌, append_assoc, Option, Some, None, refl, sym, ap, ap₂, subst, arith}
use Rattle.std.specs.Prelude.{codes, decimal, if◌then◌else◌, nat_eq, nat_le}
use Rattle.std.specs.List.{AllByRecursion, concat}
use Rattle.std.specs.Option.{option_and_then, option_map}
use Rattle.std.proofs.lemmas.List.{append-nil}
use Rattle.std.proofs.lemmas.Bool.{and_parts}
use Rattle.std.proofs.lemmas.Bool.Decides.{nat_tests}
use Rattle.text_core.specs.inner.Decimal.{number}
use Rattle.text_core.specs.inner.Pieces.{split_once}
use Rattle.text_core.proofs.DecimalLaws.{decimal_lacks, number-decimal}
use Rattle.text_core.proofs.PiecesLaws.{lacks, lacks-append, split_once-append, split_once_none}
use Rattle.host_net.specs.Service.{has_name, has_ports}
use Rattle.host_net.specs.ServiceText.{ports_text, protocol_text}
use Rattle.nft_rules.specs.declared.table.Chain.{Chain}
use Rattle.nft_rules.specs.declared.table.Element.{Element}
use Rattle.nft_rules.specs.declared.table.End.{End}
use Rattle.nft_rules.specs.declared.table.End.TheVariants.{Source, Destination}
use Rattle.nft_rules.specs.declared.table.MatchRule.{MatchRule}
use Rattle.nft_rules.specs.declared.table.PortMatch.{PortMatch}
use Rattle.nft_rules.specs.declared.table.Rule.{Rule}
use Rattle.nft_rules.specs.declared.table.Rule.TheVariants.{Map, Match}
use Rattle.nft_rules.specs.declared.table.ServiceMatch.{ServiceMatch}
use Rattle.nft_rules.specs.declared.table.Verdict.{Verdict}
use Rattle.nft_rules.specs.declared.table.Verdict.TheVariants.{Accept, Drop, Goto}
use Rattle.nft_rules.specs.Loadable.{IsRule, LeadBelow, LeadsBelow, are_ports, is_service_match}
use Rattle.nft_text.specs.Text.{element_pieces, map_head, match_line, port_word, protocol_match, rule_pieces, service_match, state_text, verdict_text}
use Rattle.nft_read.specs.Reading.{ElementFits, PortsFit, RuleFits, ServiceFits}
use Rattle.nft_read.specs.Shape.{MapOf, MatchOf, rule_shape}
use Rattle.nft_read.specs.inner.LineSteps.{after, match_of, match_with, ports_by, ports_of, ports_with, rule_destination, rule_of, rule_source, served_of, served_ports, served_with, verdict_of}
use Rattle.nft_read.proofs.WordRound.{IsMark, Known, at_end, blank, body_lacks, body_read, body_text, line_end, map_body, verdict_lacks, verdict_read}

-- ---- Ports

ports_lack : (m low high : ℕ) → IsMark m → low < 2 ^ 64 → high < 2 ^ 64 → lacks m (ports_text low high) ≡ true
ports_lack m low high mark low_fits high_fits = by_same (low == high)
  where
    dashed : lacks m (45 ∷ decimal high) ≡ true
    dashed = rw mark.dash (decimal_lacks m high mark.digit high_fits)

    by_same : (b : Bool) → lacks m (if b then decimal low else decimal low ++ (codes "-" ++ decimal high)) ≡ true
    by_same true = decimal_lacks m low mark.digit low_fits
    by_same false = lacks-append m (decimal low) (45 ∷ decimal high) (decimal_lacks m low mark.digit low_fits) dashed

ports_read : (m : PortMatch) → m.low < 2 ^ 16 → m.high < 2 ^ 16 → ports_of m.end (ports_text m.low m.high) ≡ Some m
ports_read m low high = by_same (m.low == m.high) refl
  where
    low_read : number 65535 (decimal m.low) ≡ Some m.low
    low_read = number-decimal 65535 m.low (omega (arith, low)) (omega (arith, low))

    high_read : number 65535 (decimal m.high) ≡ Some m.high
    high_read = number-decimal 65535 m.high (omega (arith, high)) (omega (arith, high))

    single : m.low ≡ m.high → ports_of m.end (decimal m.low) ≡ Some m
    single same =
        ap (ports_by m.end (decimal m.low)) (split_once_none 45 (decimal m.low) (decimal_lacks 45 m.low refl (omega (arith, low))))
        ∙ ap₂ (ports_with m.end) low_read low_read
        ∙ ap (λ (h : ℕ). Some (record { end = m.end; low = m.low; high = h })) same

    by_same : (b : Bool) → (m.low == m.high) ≡ b
        → ports_of m.end (if b then decimal m.low else decimal m.low ++ (codes "-" ++ decimal m.high)) ≡ Some m
    by_same true is = single (let same : m.low ≡ m.high = grind (arith, nat_tests, is) in same)
    by_same false is =
        ap (ports_by m.end (decimal m.low ++ (45 ∷ decimal m.high)))
        (split_once-append 45 (decimal m.low) (decimal m.high) (decimal_lacks 45 m.low refl (omega (arith, low))))
        ∙ ap₂ (ports_with m.end) low_read high_read

-- ---- Services

protocol_cases : (proto : ℕ) → has_ports proto ≡ true → (proto ≡ 6) ⊎ (proto ≡ 17)
protocol_cases proto is = by_test (proto == 6) refl is
  where
    by_test : (b : Bool) → (proto == 6) ≡ b → (b || (proto == 17)) ≡ true → (proto ≡ 6) ⊎ (proto ≡ 17)
    by_test true six is = inl (let e : proto ≡ 6 = grind (arith, nat_tests, six) in e)
    by_test false six is = inr (let e : proto ≡ 17 = grind (arith, nat_tests, is) in e)

name_cases : (proto : ℕ) → has_name proto ≡ true → (proto ≡ 1) ⊎ (has_ports proto ≡ true)
name_cases proto is = by_test (proto == 1) refl is
  where
    by_test : (b : Bool) → (proto == 1) ≡ b → (b || has_ports proto) ≡ true → (proto ≡ 1) ⊎ (has_ports proto ≡ true)
    by_test true one is = inl (let e : proto ≡ 1 = grind (arith, nat_tests, one) in e)
    by_test false one is = inr is

-- What a text of a service is parsed to, with a text after it.
abbrev ServesAs : ℕ → Option PortMatch → List ℕ → Type 0
ServesAs proto ports text = served_of (protocol_match proto ports ++ text) ≡ Some (Some (record { proto = proto; ports = ports }), text)

served_none : (proto : ℕ) (text : List ℕ) → has_name proto ≡ true → ServesAs proto None text
served_none proto text is = elim (name_cases proto is) [
  | inl one ↦ subst (λ (n : ℕ). ServesAs n None text) (sym one) refl
  | inr ports ↦ elim (protocol_cases proto ports) [
    | inl six ↦ subst (λ (n : ℕ). ServesAs n None text) (sym six) refl
    | inr seventeen ↦ subst (λ (n : ℕ). ServesAs n None text) (sym seventeen) refl
  ]
]

served_some : (m : PortMatch) (proto : ℕ) (text : List ℕ) → PortsFit (Some m)
    → served_ports proto m.end ((ports_text m.low m.high ++ codes " ") ++ text) ≡ Some (Some (record { proto = proto; ports = Some m }), text)
served_some m proto text fits =
    let ports = ports_text m.low m.high in
    let cut : split_once 32 ((ports ++ codes " ") ++ text) ≡ Some (ports, text) =
    ap (split_once 32) (append_assoc ports (codes " ") text)
    ∙ split_once-append 32 ports text (ports_lack 32 m.low m.high blank (omega (arith, fits.0)) (omega (arith, fits.1))) in
    ap (λ (o : Option (List ℕ × List ℕ)).
    option_and_then (λ parts. option_map (λ p. (Some (record { proto = proto; ports = Some p }), parts.1)) (ports_of m.end parts.0)) o) cut
    ∙ ap (λ (o : Option PortMatch). option_map (λ p. (Some (record { proto = proto; ports = Some p }), text)) o) (ports_read m fits.0 fits.1)

-- The word for an end, without its first blank.
abbrev drop_blank : End → List ℕ
drop_blank Source = codes "sport "
drop_blank Destination = codes "dport "

served_end : (m : PortMatch) (proto : ℕ) (text : List ℕ) → PortsFit (Some m) → (end : End) → m.end ≡ end
    → served_with proto ((drop_blank end ++ (ports_text m.low m.high ++ codes " ")) ++ text) ≡ Some (Some (record { proto = proto; ports = Some m }), text)
served_end m proto text fits Source is =
    ap (λ (e : End). served_ports proto e ((ports_text m.low m.high ++ codes " ") ++ text)) (sym is) ∙ served_some m proto text fits
served_end m proto text fits Destination is =
    ap (λ (e : End). served_ports proto e ((ports_text m.low m.high ++ codes " ") ++ text)) (sym is) ∙ served_some m proto text fits

ported : (m : PortMatch) (text : List ℕ) → PortsFit (Some m) → (end : End) → m.end ≡ end → (proto : ℕ) → (proto ≡ 6) ⊎ (proto ≡ 17)
    → served_of ((protocol_text proto ++ (port_word end ++ (ports_text m.low m.high ++ codes " "))) ++ text) ≡ Some (Some (record { proto = proto; ports = Some m }), text)
ported m text fits Source is proto (inl six) =
    subst (λ (n : ℕ). served_of ((protocol_text n ++ (port_word Source ++ (ports_text m.low m.high ++ codes " "))) ++ text) ≡ Some (Some (record { proto = n; ports = Some m }), text))
    (sym six) (served_end m 6 text fits Source is)
ported m text fits Source is proto (inr seventeen) =
    subst (λ (n : ℕ). served_of ((protocol_text n ++ (port_word Source ++ (ports_text m.low m.high ++ codes " "))) ++ text) ≡ Some (Some (record { proto = n; ports = Some m }), text))
    (sym seventeen) (served_end m 17 text fits Source is)
ported m text fits Destination is proto (inl six) =
    subst (λ (n : ℕ). served_of ((protocol_text n ++ (port_word Destination ++ (ports_text m.low m.high ++ codes " "))) ++ text) ≡ Some (Some (record { proto = n; ports = Some m }), text))
    (sym six) (served_end m 6 text fits Destination is)
ported m text fits Destination is proto (inr seventeen) =
    subst (λ (n : ℕ). served_of ((protocol_text n ++ (port_word Destination ++ (ports_text m.low m.high ++ codes " "))) ++ text) ≡ Some (Some (record { proto = n; ports = Some m }), text))
    (sym seventeen) (served_end m 17 text fits Destination is)

service_by : (proto : ℕ) (ports : Option PortMatch) (text : List ℕ) → are_ports proto ports ≡ true → PortsFit ports → ServesAs proto ports text
service_by proto None text is fits = served_none proto text is
service_by proto (Some m) text is fits =
    ported m text fits m.end refl proto (protocol_cases proto (and_parts (has_ports proto) (nat_le m.low m.high) is).0)

verdict_unserved : (all : List Chain) (v : Verdict) → served_of (verdict_text all v) ≡ Some (None, verdict_text all v)
verdict_unserved all Accept = refl
verdict_unserved all Drop = refl
verdict_unserved all (Goto c) = refl

service_read : (all : List Chain) (service : Option ServiceMatch) (v : Verdict) → is_service_match service ≡ true → ServiceFits service
    → served_of (service_match service ++ verdict_text all v) ≡ Some (service, verdict_text all v)
service_read all None v is fits = verdict_unserved all v
service_read all (Some s) v is fits = service_by s.proto s.ports (verdict_text all v) is fits

-- ---- The rest of a line after its tabs

abbrev pub match_body : List Chain → MatchRule → List ℕ
match_body all r = state_text r.established ++ (service_match r.service ++ verdict_text all r.verdict)

with_verdict : (names : List (List ℕ)) (all : List Chain) (n : ℕ) (established : Bool) (service : Option ServiceMatch) (v : Verdict) → Known names all n
    → LeadsBelow n v → is_service_match service ≡ true → ServiceFits service
    → option_and_then (match_with names established) (served_of (service_match service ++ verdict_text all v))
    ≡ Some (record { established = established; service = service; verdict = v })
with_verdict names all n established service v known leads is fits =
    ap (option_and_then (match_with names established)) (service_read all service v is fits)
    ∙ ap (λ o. option_map (λ verdict. record { established = established; service = service; verdict = verdict }) o)
    (ap (verdict_of names) (sym (append-nil (verdict_text all v))) ∙ verdict_read names all n v [] at_end known leads)

-- The first byte of what follows the state is neither that of a state nor that of a map.
pub record BeginsOther (text : List ℕ) : Type 0 where
  pub byte : ℕ
  pub rest : List ℕ
  pub is : text ≡ byte ∷ rest
  pub state : nat_eq byte 99 ≡ false
  pub address : nat_eq byte 105 ≡ false

verdict_begins : (all : List Chain) (v : Verdict) → BeginsOther (verdict_text all v)
verdict_begins all Accept = record { byte = 97; rest = codes "ccept"; is = refl; state = refl; address = refl }
verdict_begins all Drop = record { byte = 100; rest = codes "rop"; is = refl; state = refl; address = refl }
verdict_begins all (Goto c) = record { byte = 103; rest = _; is = refl; state = refl; address = refl }

protocol_begins : (proto : ℕ) (text : List ℕ) → (proto ≡ 6) ⊎ (proto ≡ 17) → BeginsOther (protocol_text proto ++ text)
protocol_begins proto text (inl six) =
    subst (λ (n : ℕ). BeginsOther (protocol_text n ++ text)) (sym six) (record { byte = 116; rest = _; is = refl; state = refl; address = refl })
protocol_begins proto text (inr seventeen) =
    subst (λ (n : ℕ). BeginsOther (protocol_text n ++ text)) (sym seventeen) (record { byte = 117; rest = _; is = refl; state = refl; address = refl })

service_begins : (all : List Chain) (proto : ℕ) (ports : Option PortMatch) (text : List ℕ) → are_ports proto ports ≡ true
    → BeginsOther (protocol_match proto ports ++ text)
service_begins all proto None text is = record { byte = 109; rest = _; is = refl; state = refl; address = refl }
service_begins all proto (Some m) text is =
    subst BeginsOther (sym (append_assoc (protocol_text proto) (port_word m.end ++ (ports_text m.low m.high ++ codes " ")) text))
    (protocol_begins proto ((port_word m.end ++ (ports_text m.low m.high ++ codes " ")) ++ text)
    (protocol_cases proto (and_parts (has_ports proto) (nat_le m.low m.high) is).0))

served_begins : (all : List Chain) (service : Option ServiceMatch) (v : Verdict) → is_service_match service ≡ true
    → BeginsOther (service_match service ++ verdict_text all v)
served_begins all None v is = verdict_begins all v
served_begins all (Some s) v is = service_begins all s.proto s.ports (verdict_text all v) is

stateless : (names : List (List ℕ)) (text : List ℕ) → BeginsOther text → match_of names text ≡ option_and_then (match_with names false) (served_of text)
stateless names text begins =
    ap (match_of names) begins.is ∙ rw begins.state (ap (λ t. option_and_then (match_with names false) (served_of t)) (sym begins.is))

pub match_read : (names : List (List ℕ)) (all : List Chain) (n : ℕ) (established : Bool) (service : Option ServiceMatch) (v : Verdict) → Known names all n
    → LeadsBelow n v → is_service_match service ≡ true → ServiceFits service
    → match_of names (state_text established ++ (service_match service ++ verdict_text all v))
    ≡ Some (record { established = established; service = service; verdict = v })
match_read names all n true service v known leads is fits = with_verdict names all n true service v known leads is fits
match_read names all n false service v known leads is fits =
    stateless names (service_match service ++ verdict_text all v) (served_begins all service v is)
    ∙ with_verdict names all n false service v known leads is fits

no_source : (b : ℕ) (rest : List ℕ) → nat_eq b 105 ≡ false → after (codes "\t\tip saddr vmap {") (9 ∷ 9 ∷ b ∷ rest) ≡ None
no_source b rest other = rw other refl

no_destination : (b : ℕ) (rest : List ℕ) → nat_eq b 105 ≡ false → after (codes "\t\tip daddr vmap {") (9 ∷ 9 ∷ b ∷ rest) ≡ None
no_destination b rest other = rw other refl

tabbed : (names : List (List ℕ)) (b : ℕ) (rest : List ℕ) → nat_eq b 105 ≡ false
    → rule_of names (9 ∷ 9 ∷ b ∷ rest) ≡ option_map (λ r. MatchOf r) (match_of names (b ∷ rest))
unfolding rule_of
tabbed names b rest other =
    ap (rule_source names (9 ∷ 9 ∷ b ∷ rest)) (no_source b rest other) ∙ ap (rule_destination names (9 ∷ 9 ∷ b ∷ rest)) (no_destination b rest other)

pub tabs_read : (names : List (List ℕ)) (all : List Chain) (established : Bool) (service : Option ServiceMatch) (v : Verdict)
    → is_service_match service ≡ true
    → rule_of names (9 ∷ 9 ∷ (state_text established ++ (service_match service ++ verdict_text all v)))
    ≡ option_map (λ r. MatchOf r) (match_of names (state_text established ++ (service_match service ++ verdict_text all v)))
tabs_read names all true service v is = tabbed names 99 (codes "t state established " ++ (service_match service ++ verdict_text all v)) refl
tabs_read names all false service v is =
    let begins = served_begins all service v is in
    ap (λ t. rule_of names (9 ∷ 9 ∷ t)) begins.is ∙ tabbed names begins.byte begins.rest begins.address
    ∙ ap (λ t. option_map (λ r. MatchOf r) (match_of names t)) (sym begins.is)

-- ---- The line of a rule

abbrev pub map_line : List Chain → End → List Element → List ℕ
map_line all end [] = []
map_line all Source (e ∷ es) = codes "\t\tip saddr vmap {" ++ map_body all e es
map_line all Destination (e ∷ es) = codes "\t\tip daddr vmap {" ++ map_body all e es

abbrev pub rule_line : List Chain → Rule → List ℕ
rule_line all (Map m) = map_line all m.end m.elements.items
rule_line all (Match r) = codes "\t\t" ++ match_body all r

map_read : (names : List (List ℕ)) (all : List Chain) (n : ℕ) (end : End) (es : List Element) → Known names all n → es ≢ [] → LeadBelow n es
    → AllByRecursion ElementFits es → rule_of names (map_line all end es) ≡ Some (MapOf end es)
unfolding rule_of
map_read names all n end [] known some leads fits = absurd (some refl)
map_read names all n Source (e ∷ es) known some leads fits = ap (λ o. option_map (λ xs. MapOf Source xs) o) (body_read names all n e es known leads fits)
map_read names all n Destination (e ∷ es) known some leads fits =
    ap (λ o. option_map (λ xs. MapOf Destination xs) o) (body_read names all n e es known leads fits)

pub rule_read : (names : List (List ℕ)) (all : List Chain) (n : ℕ) (rule : Rule) → Known names all n → IsRule n rule → RuleFits rule
    → rule_of names (rule_line all rule) ≡ Some (rule_shape rule)
rule_read names all n (Map m) known is fits = map_read names all n m.end m.elements.items known is.0 is.2 fits
rule_read names all n (Match r) known is fits =
    tabs_read names all r.established r.service r.verdict is.0
    ∙ ap (λ o. option_map (λ x. MatchOf x) o) (match_read names all n r.established r.service r.verdict known is.1 is.0 fits)

-- ---- The line ends at the end of the line

map_lacks : (names : List (List ℕ)) (all : List Chain) (n : ℕ) (end : End) (es : List Element) → Known names all n → LeadBelow n es
    → lacks 10 (map_line all end es) ≡ true
map_lacks names all n end [] known leads = refl
map_lacks names all n Source (e ∷ es) known leads = lacks-append 10 (codes "\t\tip saddr vmap {") (map_body all e es) refl (body_lacks names all n e es known leads)
map_lacks names all n Destination (e ∷ es) known leads = lacks-append 10 (codes "\t\tip daddr vmap {") (map_body all e es) refl (body_lacks names all n e es known leads)

name_line : (proto : ℕ) → has_name proto ≡ true → lacks 10 (protocol_text proto) ≡ true
name_line proto is = elim (name_cases proto is) [
  | inl one ↦ subst (λ (n : ℕ). lacks 10 (protocol_text n) ≡ true) (sym one) refl
  | inr ports ↦ ports_line proto (protocol_cases proto ports)
]
  where
    ports_line : (proto : ℕ) → (proto ≡ 6) ⊎ (proto ≡ 17) → lacks 10 (protocol_text proto) ≡ true
    ports_line proto (inl six) = subst (λ (n : ℕ). lacks 10 (protocol_text n) ≡ true) (sym six) refl
    ports_line proto (inr seventeen) = subst (λ (n : ℕ). lacks 10 (protocol_text n) ≡ true) (sym seventeen) refl

word_lacks : (end : End) (text : List ℕ) → lacks 10 text ≡ true → lacks 10 (port_word end ++ text) ≡ true
word_lacks Source text is = is
word_lacks Destination text is = is

named : (proto : ℕ) → has_ports proto ≡ true → has_name proto ≡ true
named proto is = by_test (proto == 1)
  where
    by_test : (b : Bool) → (b || has_ports proto) ≡ true
    by_test true = refl
    by_test false = is

service_lacks : (proto : ℕ) (ports : Option PortMatch) → are_ports proto ports ≡ true → PortsFit ports → lacks 10 (protocol_match proto ports) ≡ true
service_lacks proto None is fits = lacks-append 10 (codes "meta l4proto ") (protocol_text proto ++ codes " ") refl
    (lacks-append 10 (protocol_text proto) (codes " ") (name_line proto is) refl)
service_lacks proto (Some m) is fits =
    let has = (and_parts (has_ports proto) (nat_le m.low m.high) is).0 in
    lacks-append 10 (protocol_text proto) (port_word m.end ++ (ports_text m.low m.high ++ codes " ")) (name_line proto (named proto has))
    (word_lacks m.end (ports_text m.low m.high ++ codes " ")
    (lacks-append 10 (ports_text m.low m.high) (codes " ") (ports_lack 10 m.low m.high line_end (omega (arith, fits.0)) (omega (arith, fits.1))) refl))

some_lacks : (service : Option ServiceMatch) → is_service_match service ≡ true → ServiceFits service → lacks 10 (service_match service) ≡ true
some_lacks None is fits = refl
some_lacks (Some s) is fits = service_lacks s.proto s.ports is fits

state_lacks : (established : Bool) (text : List ℕ) → lacks 10 text ≡ true → lacks 10 (state_text established ++ text) ≡ true
state_lacks true text is = is
state_lacks false text is = is

pub rule_lacks : (names : List (List ℕ)) (all : List Chain) (n : ℕ) (rule : Rule) → Known names all n → IsRule n rule → RuleFits rule
    → lacks 10 (rule_line all rule) ≡ true
rule_lacks names all n (Map m) known is fits = map_lacks names all n m.end m.elements.items known is.2
rule_lacks names all n (Match r) known is fits =
    state_lacks r.established (service_match r.service ++ verdict_text all r.verdict)
    (lacks-append 10 (service_match r.service) (verdict_text all r.verdict) (some_lacks r.service is.0 fits)
    (verdict_lacks 10 names all n r.verdict line_end refl known is.1))

-- ---- The pieces of a rule make its line and the end of the line

map_text : (all : List Chain) (end : End) (es : List Element) (rest : List ℕ) → es ≢ []
    → concat (map_head end ∷ element_pieces all es) ++ rest ≡ map_line all end es ++ (10 ∷ rest)
map_text all end [] rest some = absurd (some refl)
map_text all Source (e ∷ es) rest some = ap (λ x. codes "\t\tip saddr vmap {" ++ x) (body_text all e es rest)
map_text all Destination (e ∷ es) rest some = ap (λ x. codes "\t\tip daddr vmap {" ++ x) (body_text all e es rest)

match_text : (all : List Chain) (r : MatchRule) (rest : List ℕ) → concat (match_line all r ∷ []) ++ rest ≡ (codes "\t\t" ++ match_body all r) ++ (10 ∷ rest)
unfolding match_line
match_text all r rest =
    ap (λ x. x ++ rest) (append-nil (codes "\t\t" ++ (state_text r.established ++ (service_match r.service ++ (verdict_text all r.verdict ++ codes "\n")))))
    ∙ ap (λ x. codes "\t\t" ++ x) (push_end (state_text r.established) (service_match r.service) (verdict_text all r.verdict) (codes "\n") rest)
  where
    push_end : (a m v tail rest : List ℕ) → (a ++ (m ++ (v ++ tail))) ++ rest ≡ (a ++ (m ++ v)) ++ (tail ++ rest)
    push_end a m v tail rest =
        ap (λ x. (a ++ x) ++ rest) (sym (append_assoc m v tail)) ∙ ap (λ x. x ++ rest) (sym (append_assoc a (m ++ v) tail)) ∙ append_assoc (a ++ (m ++ v)) tail rest

pub rule_text : (all : List Chain) (n : ℕ) (rule : Rule) (rest : List ℕ) → IsRule n rule → concat (rule_pieces all rule) ++ rest ≡ rule_line all rule ++ (10 ∷ rest)
rule_text all n (Map m) rest is = map_text all m.end m.elements.items rest is.0
rule_text all n (Match r) rest is = match_text all r rest
