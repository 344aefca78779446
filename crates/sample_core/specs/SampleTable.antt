-- The description of the sample as a TOML table (docs/TEXTS.md): n hosts, a level for each, and an assign of `care` for every eighth host.
use Rattle.std.specs.Prelude.{ℕ, pos, ◌%◌, ◌==◌, List, ◌++◌, map, filter, codes, decimal}
use Rattle.std.specs.List.{range_with_len}
use Rattle.toml.specs.Data.{Data, string, integer, array, table, Items, no_items, item, Members, no_members, member}
use Rattle.toml.specs.View.{items_of}

-- The name of host k: `h` followed by k.
unfoldable pub sample_name : ℕ → List ℕ
sample_name k = codes "h" ++ decimal k

-- The prefix of host k, which has one address.
unfoldable pub sample_prefix : ℕ → List ℕ
sample_prefix k = codes "10.0.0." ++ (decimal k ++ codes "/32")

-- The table of host k.
abbrev pub host_table : ℕ → Members
host_table k =
    member (codes "at") (array (item (string (sample_prefix k)) no_items)) (member (codes "name") (string (sample_name k)) no_members)

-- The levels 0 to 3, cyclically.
abbrev pub level_table : ℕ → Members
level_table k = member (codes "host") (string (sample_name k)) (member (codes "level") (integer (pos (k % 4))) no_members)

-- The assign of `care` for host k.
abbrev pub care_table : ℕ → Members
care_table k = member (codes "host") (string (sample_name k)) (member (codes "kind") (string (codes "care")) no_members)

-- The numbers of the hosts.
abbrev pub sample_hosts : ℕ → List ℕ
sample_hosts n = range_with_len 0 n

-- The numbers of the hosts with `care`.
abbrev pub hosts_in_care : ℕ → List ℕ
hosts_in_care n = filter (λ k. k % 8 == 0) (sample_hosts n)

-- An array of tables, one for each of the hosts.
abbrev pub tables : (ℕ → Members) → List ℕ → Data
tables made hosts = array (items_of (map (λ k. table (made k)) hosts))

-- The table of an invariant with these assigns.
abbrev pub invariant_table : List ℕ → (ℕ → Members) → List ℕ → Members
invariant_table template made hosts = member (codes "assign") (tables made hosts) (member (codes "template") (string template) no_members)

-- The tables of both invariants.
abbrev pub invariant_tables : ℕ → Items
invariant_tables n =
    item (table (invariant_table (codes "blp") level_table (sample_hosts n)))
    (item (table (invariant_table (codes "partners") care_table (hosts_in_care n))) no_items)

-- The table of the sample of n hosts.
unfoldable pub sample_table : ℕ → Members
sample_table n =
    member (codes "answers") (string (codes "all"))
    (member (codes "host") (tables host_table (sample_hosts n))
    (member (codes "invariant") (array (invariant_tables n))
    (member (codes "topos") (integer (pos 1)) no_members)))
