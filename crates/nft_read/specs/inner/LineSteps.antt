-- Parsing the rules of a chain, step by step. What follows the last part of a line is not tested: the whole text is compared at the end.
use Rattle.std.specs.Prelude.{ℕ, Bool, true, false, ◌==◌, if◌then◌else◌, List, [], ◌∷◌, Option, Some, None, length, take, drop, codes, bytes_eq}
use Rattle.std.specs.List.{onto_first, position_from}
use Rattle.std.specs.Option.{option_map, option_and_then}
use Rattle.text_core.specs.inner.Decimal.{number}
use Rattle.text_core.specs.inner.Pieces.{split_once}
use Rattle.header_space.specs.declared.address_range.AddressRange.{AddressRange}
use Rattle.nft_rules.specs.declared.table.Element.{Element}
use Rattle.nft_rules.specs.declared.table.End.{End}
use Rattle.nft_rules.specs.declared.table.End.TheVariants.{Source, Destination}
use Rattle.nft_rules.specs.declared.table.MatchRule.{MatchRule}
use Rattle.nft_rules.specs.declared.table.PortMatch.{PortMatch}
use Rattle.nft_rules.specs.declared.table.ServiceMatch.{ServiceMatch}
use Rattle.nft_rules.specs.declared.table.Verdict.{Verdict}
use Rattle.nft_rules.specs.declared.table.Verdict.TheVariants.{Accept, Drop, Goto}
use Rattle.nft_read.specs.inner.IntervalSteps.{interval_of}
use Rattle.nft_read.specs.Shape.{RuleShape, MapOf, MatchOf}

-- ---- Strings

-- What follows the prefix, if the string begins with it.
abbrev pub after : (prefix text : List ℕ) → Option (List ℕ)
after prefix text = if bytes_eq (take (length prefix) text) prefix then Some (drop (length prefix) text) else None

-- The string up to the first mark, or the whole string.
abbrev pub front_of : List ℕ → Option (List ℕ × List ℕ) → List ℕ
front_of text None = text
front_of text (Some parts) = parts.0

abbrev pub word : List ℕ → List ℕ
word text = front_of text (split_once 32 text)

-- The strings between the commas (44).
abbrev pub pieces : List ℕ → List (List ℕ)
pieces [] = [] ∷ []
pieces (b ∷ bs) = if b == 44 then [] ∷ pieces bs else onto_first b (pieces bs)

-- ---- Verdicts

abbrev pub index_of : List (List ℕ) → List ℕ → Option ℕ
index_of names name = position_from (bytes_eq name) 0 names

abbrev pub plain_verdict : List ℕ → Option Verdict
plain_verdict text = if bytes_eq text (codes "accept") then Some Accept else if bytes_eq text (codes "drop") then Some Drop else None

abbrev pub verdict_by : List (List ℕ) → List ℕ → Option (List ℕ) → Option Verdict
verdict_by names text None = plain_verdict (word text)
verdict_by names text (Some rest) = option_map (λ c. Goto c) (index_of names (word rest))

abbrev pub verdict_of : List (List ℕ) → List ℕ → Option Verdict
verdict_of names text = verdict_by names text (after (codes "goto ") text)

-- ---- Verdict maps

abbrev pub element_with : Option AddressRange → Option Verdict → Option Element
element_with (Some range) (Some verdict) = Some (record { range = range; verdict = verdict })
element_with _ _ = None

abbrev pub element_parts : List (List ℕ) → (List ℕ × List ℕ) → Option Element
element_parts names parts = option_and_then (λ text. element_with (interval_of parts.0) (verdict_of names text)) (after (codes ": ") parts.1)

abbrev pub element_of : List (List ℕ) → List ℕ → Option Element
element_of names piece = option_and_then (λ text. option_and_then (element_parts names) (split_once 32 text)) (after (codes " ") piece)

abbrev pub with_more : Option Element → Option (List Element) → Option (List Element)
with_more (Some e) (Some es) = Some (e ∷ es)
with_more _ _ = None

abbrev pub elements_of : List (List ℕ) → List (List ℕ) → Option (List Element)
elements_of names [] = Some []
elements_of names (p ∷ ps) = with_more (element_of names p) (elements_of names ps)

-- ---- Matches

abbrev pub protocol_of : List ℕ → Option ℕ
protocol_of text =
    if bytes_eq text (codes "icmp") then Some 1 else if bytes_eq text (codes "tcp") then Some 6 else if bytes_eq text (codes "udp") then Some 17 else None

abbrev pub ports_with : End → Option ℕ → Option ℕ → Option PortMatch
ports_with end (Some low) (Some high) = Some (record { end = end; low = low; high = high })
ports_with end _ _ = None

abbrev pub ports_by : End → List ℕ → Option (List ℕ × List ℕ) → Option PortMatch
ports_by end text None = ports_with end (number 65535 text) (number 65535 text)
ports_by end text (Some parts) = ports_with end (number 65535 parts.0) (number 65535 parts.1)

-- A port, or two ports with a dash (45).
abbrev pub ports_of : End → List ℕ → Option PortMatch
ports_of end text = ports_by end text (split_once 45 text)

-- The service of a match, and the rest of the line.
abbrev pub Served : Type 0
Served = Option ServiceMatch × List ℕ

abbrev pub served_proto : (List ℕ × List ℕ) → Option Served
served_proto parts = option_map (λ proto. (Some (record { proto = proto; ports = None }), parts.1)) (protocol_of parts.0)

abbrev pub served_ports : ℕ → End → List ℕ → Option Served
served_ports proto end text =
    option_and_then (λ parts. option_map (λ ports. (Some (record { proto = proto; ports = Some ports }), parts.1)) (ports_of end parts.0)) (split_once 32 text)

abbrev pub served_end : ℕ → List ℕ → Option (List ℕ) → Option Served
served_end proto text (Some rest) = served_ports proto Source rest
served_end proto text None = option_and_then (served_ports proto Destination) (after (codes "dport ") text)

abbrev pub served_with : ℕ → List ℕ → Option Served
served_with proto text = served_end proto text (after (codes "sport ") text)

abbrev pub served_udp : List ℕ → Option (List ℕ) → Option Served
served_udp text (Some rest) = served_with 17 rest
served_udp text None = Some (None, text)

abbrev pub served_tcp : List ℕ → Option (List ℕ) → Option Served
served_tcp text (Some rest) = served_with 6 rest
served_tcp text None = served_udp text (after (codes "udp ") text)

abbrev pub served_meta : List ℕ → Option (List ℕ) → Option Served
served_meta text (Some rest) = option_and_then served_proto (split_once 32 rest)
served_meta text None = served_tcp text (after (codes "tcp ") text)

abbrev pub served_of : List ℕ → Option Served
served_of text = served_meta text (after (codes "meta l4proto ") text)

abbrev pub match_with : List (List ℕ) → Bool → Served → Option MatchRule
match_with names established served =
    option_map (λ verdict. record { established = established; service = served.0; verdict = verdict }) (verdict_of names served.1)

abbrev pub match_by : List (List ℕ) → List ℕ → Option (List ℕ) → Option MatchRule
match_by names text (Some rest) = option_and_then (match_with names true) (served_of rest)
match_by names text None = option_and_then (match_with names false) (served_of text)

abbrev pub match_of : List (List ℕ) → List ℕ → Option MatchRule
match_of names text = match_by names text (after (codes "ct state established ") text)

-- ---- Rules

abbrev pub rule_tabs : List (List ℕ) → Option (List ℕ) → Option RuleShape
rule_tabs names None = None
rule_tabs names (Some text) = option_map (λ r. MatchOf r) (match_of names text)

abbrev pub rule_destination : List (List ℕ) → List ℕ → Option (List ℕ) → Option RuleShape
rule_destination names line (Some text) = option_map (λ es. MapOf Destination es) (elements_of names (pieces text))
rule_destination names line None = rule_tabs names (after (codes "\t\t") line)

abbrev pub rule_source : List (List ℕ) → List ℕ → Option (List ℕ) → Option RuleShape
rule_source names line (Some text) = option_map (λ es. MapOf Source es) (elements_of names (pieces text))
rule_source names line None = rule_destination names line (after (codes "\t\tip daddr vmap {") line)

unfoldable pub rule_of : List (List ℕ) → List ℕ → Option RuleShape
rule_of names line = rule_source names line (after (codes "\t\tip saddr vmap {") line)
