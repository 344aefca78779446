-- The model of a session, which is the list of entries of its table; and the invariants of a session.
use Rattle.std.specs.Prelude.{◌≡◌, ℕ, List, [], ◌∷◌, map, String, Ok, Err, string_bytes, refl}
use Rattle.std.proofs.Common.{ap}
use Rattle.std.specs.BTreeMap.{BTreeMap}
use Rattle.std.specs.declared.alloc.Global.{Global}
use Rattle.toml.specs.View.{members_view, table_view, view}
use Rattle.toml.specs.declared.value.Value.{Value}
use Rattle.desc_core.specs.Description.{described_by_table}
use Rattle.desc_core.specs.declared.fault.DescFault.{DescFault}
use Rattle.desc_core.specs.declared.fault.DescFault.TheVariants.{Refused, Memory}
use Rattle.net_core.specs.Network.{Network}
use Rattle.net_core.specs.Policies.{IsPolicyOf, Policy}
use Rattle.toml.specs.Data.{Members, member, no_members}

-- The keys with their values.
abbrev pub entries_of : BTreeMap (String Global) Value → List (List ℕ × Value)
entries_of table = map (λ e. (string_bytes e.0, e.1)) table.entries

-- The table of such entries.
abbrev pub table_of : List (List ℕ × Value) → Members
table_of [] = no_members
table_of (e ∷ es) = member e.0 (view e.1) (table_of es)

table_of_all : (es : List (String Global × Value)) → table_of (map (λ e. (string_bytes e.0, e.1)) es) ≡ members_view es
table_of_all [] = refl
table_of_all (e ∷ es) = ap (member (string_bytes e.0) (view e.1)) (table_of_all es)

pub table_of-entries_of : (table : BTreeMap (String Global) Value) → table_of (entries_of table) ≡ table_view table
table_of-entries_of table = table_of_all table.entries

-- The table describes a network.
abbrev pub IsDescription : Members → Type 0
IsDescription table = (d : Network) × (described_by_table table ≡ Ok d)

-- The table is refused for this reason.
abbrev pub Refuses : Members → DescFault → Type 0
Refuses table (Refused refusal) = described_by_table table ≡ Err refusal
Refuses table Memory = Unit {0}

-- The network that the table describes, and the policy of this network.
pub record IsKept (table : Members) (d : Network) (policy : Policy) : Type 0 where
  pub described : described_by_table table ≡ Ok d
  pub is_policy : IsPolicyOf d policy
