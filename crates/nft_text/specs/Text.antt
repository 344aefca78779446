-- The text of a table, as `nft list table ip topos` prints it (nft(8), "TABLES", "CHAINS", "VERDICT MAPS", "PAYLOAD EXPRESSIONS", "META
-- EXPRESSIONS", "CONNTRACK EXPRESSIONS"). nft loads the text, and prints the same text. Chains have the order of the table, and the base
-- chain is the last.
use Rattle.std.specs.Prelude.{ℕ, zero, suc, ◌+◌, Bool, true, false, ◌==◌, ◌&&◌, if◌then◌else◌, List, [], ◌∷◌, ◌++◌, Option, Some, None, slice_get, codes}
use Rattle.std.specs.List.{concat}
use Rattle.std.specs.Option.{option_map_or}
use Rattle.host_net.specs.Prefix.{address_text, prefix_text, prefix_with}
use Rattle.host_net.specs.declared.prefix.Prefix.{Prefix}
use Rattle.host_net.specs.PrefixView.{first_address, last_address}
use Rattle.host_net.specs.ServiceText.{ports_text, protocol_text}
use Rattle.header_space.specs.declared.address_range.AddressRange.{AddressRange}
use Rattle.nft_rules.specs.declared.table.Chain.{Chain}
use Rattle.nft_rules.specs.declared.table.Element.{Element}
use Rattle.nft_rules.specs.declared.table.End.{End}
use Rattle.nft_rules.specs.declared.table.End.TheVariants.{Source, Destination}
use Rattle.nft_rules.specs.declared.table.MatchRule.{MatchRule}
use Rattle.nft_rules.specs.declared.table.PortMatch.{PortMatch}
use Rattle.nft_rules.specs.declared.table.Rule.{Rule}
use Rattle.nft_rules.specs.declared.table.Rule.TheVariants.{Map, Match}
use Rattle.nft_rules.specs.declared.table.ServiceMatch.{ServiceMatch}
use Rattle.nft_rules.specs.declared.table.Table.{Table}
use Rattle.nft_rules.specs.declared.table.Verdict.{Verdict}
use Rattle.nft_rules.specs.declared.table.Verdict.TheVariants.{Accept, Drop, Goto}

-- ---- Verdicts

-- The name of the chain with this index.
abbrev pub name_of : List Chain → ℕ → List ℕ
name_of chains c = option_map_or (λ chain. chain.name.items) (slice_get chains c) []

abbrev pub verdict_text : List Chain → Verdict → List ℕ
verdict_text chains Accept = codes "accept"
verdict_text chains Drop = codes "drop"
verdict_text chains (Goto c) = codes "goto " ++ name_of chains c

-- ---- Verdict maps

-- The prefix has exactly the addresses of the range.
abbrev pub has_addresses : AddressRange → Prefix → Bool
has_addresses range p = (first_address p == range.first) && (last_address p == range.last)

-- The first of `count` lengths from `len` on whose prefix has exactly the addresses of the range.
abbrev pub prefix_from : AddressRange → (count len : ℕ) → Option Prefix
prefix_from range zero len = None
prefix_from range (suc count) len =
    if has_addresses range (prefix_with range.first len) then Some (prefix_with range.first len) else prefix_from range count (len + 1)

-- The prefix that has exactly the addresses of the range, if there is one.
abbrev pub range_prefix : AddressRange → Option Prefix
range_prefix range = prefix_from range 33 0

abbrev pub interval_text : AddressRange → Option Prefix → List ℕ
interval_text range None = address_text range.first ++ (codes "-" ++ address_text range.last)
interval_text range (Some p) = if p.len == 32 then address_text p.addr else prefix_text p

-- An interval: an address or a prefix if it is one, otherwise its first and its last address.
unfoldable pub range_text : AddressRange → List ℕ
range_text range = interval_text range (range_prefix range)

-- What follows an element: the next one, or the end of the map and of its line.
abbrev pub after_element : List Element → List ℕ
after_element [] = codes " }\n"
after_element (e ∷ es) = codes ", "

unfoldable pub element_text : List Chain → Element → List Element → List ℕ
element_text chains e behind = range_text e.range ++ (codes " : " ++ (verdict_text chains e.verdict ++ after_element behind))

abbrev pub element_pieces : List Chain → List Element → List (List ℕ)
element_pieces chains [] = []
element_pieces chains (e ∷ es) = element_text chains e es ∷ element_pieces chains es

abbrev pub map_head : End → List ℕ
map_head Source = codes "\t\tip saddr vmap { "
map_head Destination = codes "\t\tip daddr vmap { "

-- ---- Matches

abbrev pub state_text : Bool → List ℕ
state_text false = []
state_text true = codes "ct state established "

abbrev pub port_word : End → List ℕ
port_word Source = codes " sport "
port_word Destination = codes " dport "

-- The match on a port names the protocol. Without a port match, the protocol is matched by `meta l4proto`.
abbrev pub protocol_match : ℕ → Option PortMatch → List ℕ
protocol_match proto None = codes "meta l4proto " ++ (protocol_text proto ++ codes " ")
protocol_match proto (Some m) = protocol_text proto ++ (port_word m.end ++ (ports_text m.low m.high ++ codes " "))

abbrev pub service_match : Option ServiceMatch → List ℕ
service_match None = []
service_match (Some s) = protocol_match s.proto s.ports

unfoldable pub match_line : List Chain → MatchRule → List ℕ
match_line chains r =
    codes "\t\t" ++ (state_text r.established ++ (service_match r.service ++ (verdict_text chains r.verdict ++ codes "\n")))

-- ---- Chains

-- The pieces of the text: a line is one piece, but each element of a map is a piece of its own.
abbrev pub rule_pieces : List Chain → Rule → List (List ℕ)
rule_pieces chains (Map m) = map_head m.end ∷ element_pieces chains m.elements.items
rule_pieces chains (Match r) = match_line chains r ∷ []

abbrev pub rules_pieces : List Chain → List Rule → List (List ℕ)
rules_pieces chains [] = []
rules_pieces chains (r ∷ rs) = rule_pieces chains r ++ rules_pieces chains rs

unfoldable pub chain_head : List ℕ → List ℕ
chain_head name = codes "\tchain " ++ (name ++ codes " {\n")

-- A blank line stands between chains.
unfoldable pub chain_end : List ℕ
chain_end = codes "\t}\n\n"

abbrev pub chain_pieces : List Chain → Chain → List (List ℕ)
chain_pieces chains x = chain_head x.name.items ∷ (rules_pieces chains x.rules.items ++ chain_end ∷ [])

abbrev pub chains_pieces : List Chain → List Chain → List (List ℕ)
chains_pieces chains [] = []
chains_pieces chains (x ∷ xs) = chain_pieces chains x ++ chains_pieces chains xs

-- The base chain, with its policy.
unfoldable pub forward_head : List ℕ
forward_head = codes "\tchain forward {\n\t\ttype filter hook forward priority filter; policy drop;\n"

-- The end of the base chain, and of the table.
unfoldable pub table_end : List ℕ
table_end = codes "\t}\n}\n"

unfoldable pub table_head : List ℕ
table_head = codes "table ip topos {\n"

-- ---- The table

abbrev pub forward_pieces : Table → List (List ℕ)
forward_pieces table = forward_head ∷ (rules_pieces table.chains.items table.forward.items ++ table_end ∷ [])

abbrev pub table_pieces : Table → List (List ℕ)
table_pieces table = table_head ∷ (chains_pieces table.chains.items table.chains.items ++ forward_pieces table)

-- The text is the concatenation of its pieces.
abbrev pub table_text : Table → List ℕ
table_text table = concat (table_pieces table)
