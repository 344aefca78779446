-- Small descriptions as TOML tables. The test vectors differ from them by one change.
use Rattle.std.specs.Prelude.{ℕ, pos, true, List, [], ◌∷◌, map, codes}
use Rattle.toml.specs.Data.{Data, string, integer, boolean, array, table, Items, no_items, item, Members, no_members, member}

abbrev pub items : List Data → Items
items [] = no_items
items (d ∷ ds) = item d (items ds)

abbrev pub list : List Data → Data
list ds = array (items ds)

abbrev pub texts : List (List ℕ) → Data
texts ts = list (map string ts)

-- A host with a list at the key `at`.
abbrev pub host_with : List ℕ → Data → Data
host_with name at = table (member (codes "at") at (member (codes "name") (string name) no_members))

-- A host with one prefix.
abbrev pub host_at : List ℕ → List ℕ → Data
host_at name at = host_with name (texts (at ∷ []))

abbrev pub rest_host : List ℕ → Data
rest_host name = table (member (codes "name") (string name) (member (codes "rest") (boolean true) no_members))

abbrev pub flow : List ℕ → List ℕ → Data
flow from to = texts (from ∷ to ∷ [])

-- An assign with a level.
abbrev pub level : List ℕ → Data → Data
level host value = table (member (codes "host") (string host) (member (codes "level") value no_members))

abbrev pub invariant : List ℕ → List Data → Data
invariant template assigns = table (member (codes "assign") (list assigns) (member (codes "template") (string template) no_members))

abbrev pub host_a : Data
host_a = host_at (codes "a") (codes "10.0.0.1/32")

abbrev pub host_b : Data
host_b = host_at (codes "b") (codes "10.0.0.2/32")

abbrev pub a_to_b : List Data
a_to_b = flow (codes "a") (codes "b") ∷ []

-- A description without answers and invariants: its version, its flows and its hosts.
abbrev pub described_as : Data → List Data → Data → Members
described_as version flows hosts =
    member (codes "answers") (string (codes "none"))
    (member (codes "flow") (list flows)
    (member (codes "host") hosts
    (member (codes "topos") version no_members)))

-- A description of version 1 that differs only in its hosts.
abbrev pub of_hosts : List Data → Members
of_hosts hosts = described_as (integer (pos 1)) a_to_b (list hosts)

-- A flow from a to b with services.
abbrev pub a_to_b_by : List (List ℕ) → Data
a_to_b_by services = texts (codes "a" ∷ codes "b" ∷ services)

-- A description of version 2 between a and b that differs only in its flows.
abbrev pub of_narrowed_flows : List Data → Members
of_narrowed_flows flows = described_as (integer (pos 2)) flows (list (host_a ∷ host_b ∷ []))

-- A description of version 1 between a and b that differs only in its flows.
abbrev pub of_flows : List Data → Members
of_flows flows = described_as (integer (pos 1)) flows (list (host_a ∷ host_b ∷ []))

-- A description with the hosts a and b and the flow from a to b that differs only in its invariants.
abbrev pub of_invariants : List Data → Members
of_invariants invariants =
    member (codes "answers") (string (codes "none"))
    (member (codes "flow") (list a_to_b)
    (member (codes "host") (list (host_a ∷ host_b ∷ []))
    (member (codes "invariant") (list invariants)
    (member (codes "topos") (integer (pos 1)) no_members))))
