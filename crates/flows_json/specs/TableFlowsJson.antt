-- The answer of `flows` on a table of nftables as JSON (docs/QUERIES.md).
use Rattle.std.specs.Prelude.{ℕ, List, [], ◌++◌, Option, Some, None, codes, false, slice_get}
use Rattle.std.specs.Option.{option_map_or}
use Rattle.host_net.specs.Host.{Host}
use Rattle.json_core.specs.Json.{array_json, bool_json, escaped_json, number_json, owner_json}
use Rattle.nft_flows.specs.declared.flows.PairTableFlows.{PairTableFlows}
use Rattle.nft_flows.specs.declared.flows.TableFlowRange.{TableFlowRange}
use Rattle.nft_flows.specs.declared.place.TablePlace.{TablePlace}
use Rattle.nft_rules.specs.declared.table.Table.{Table}
use Rattle.range_json.specs.RangeJson.{header_json, header_or_null, range_json}

-- The name of each chain by its index, and of the base chain.
abbrev pub ChainNames : Type 0
ChainNames = Option ℕ → List ℕ

-- The names of the chains of a table.
abbrev pub name_in : Table → ChainNames
name_in table None = codes "forward"
name_in table (Some c) = option_map_or (λ x. x.name.items) (slice_get table.chains.items c) []

-- The element, counted from 1, for an element of a map.
abbrev pub element_part : Option ℕ → List ℕ
element_part None = []
element_part (Some i) = codes ",\"element\":" ++ number_json i

-- A rule of a table by its chain and its number there, with the number of the element of its map: {"chain":"from_web","rule":2,"element":3}.
unfoldable pub table_place_json : ChainNames → TablePlace → List ℕ
table_place_json names place =
    codes "{\"chain\":" ++ (escaped_json (names place.chain) ++ (codes ",\"rule\":" ++ (number_json place.rule ++ (element_part place.element ++ codes "}"))))

-- A range of services that pass, as on other rules. No packet passes by default.
unfoldable pub table_range_json : ChainNames → TableFlowRange → List ℕ
table_range_json names r =
    range_json r.range ++ (codes ",\"passes\":" ++ (header_json r.range.passes ++ (codes ",\"drops\":" ++ (header_or_null r.range.stays
    ++ (codes ",\"rules\":" ++ (array_json (table_place_json names) r.deciders.items ++ (codes ",\"default\":" ++ (bool_json false ++ codes "}"))))))))

-- The services from one owner to another.
unfoldable pub table_pair_json : ChainNames → List Host → PairTableFlows → List ℕ
table_pair_json names hosts f =
    codes "{\"from\":" ++ (owner_json hosts f.from ++ (codes ",\"to\":" ++ (owner_json hosts f.to
    ++ (codes ",\"services\":" ++ (array_json (table_range_json names) f.ranges.items ++ codes "}")))))

-- The answer of `flows` on a table.
unfoldable pub table_flows_json : ChainNames → List Host → List PairTableFlows → (dead : List TablePlace) → List ℕ
table_flows_json names hosts flows dead =
    codes "{\"version\":1,\"pairs\":" ++ (array_json (table_pair_json names hosts) flows ++ (codes ",\"dead\":" ++ (array_json (table_place_json names) dead ++ codes "}\n")))
