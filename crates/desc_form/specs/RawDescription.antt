-- A raw description: its texts, before name resolution and before any of them is parsed as a name, a prefix or a template. If a table has a
-- missing key or a value of a wrong type, it is refused for that, and its raw description is irrelevant. Otherwise the raw description is
-- complete: RawForm defines it key by key.
use Rattle.std.specs.Prelude.{ℕ, ℤ, pos, Bool, false, not, List, [], map, filter_map, codes, unwrap_or}
use Rattle.std.specs.Str.{bytes_eq}
use Rattle.toml.specs.Data.{Members, as_str, as_table}
use Rattle.desc_form.specs.Places.{listed}
use Rattle.desc_form.specs.RawFlow.{RawFlow, raw_flow}
use Rattle.desc_form.specs.RawTemplate.{RawTemplate, raw_pair}
use Rattle.table_core.specs.Tables.{boolean_at, has_key, integer_at, text_at}

-- A raw host: its name, the entries of its prefix list, and the rest mark.
pub record RawHost : Type 0 where
  pub name : List ℕ
  pub at : List (List ℕ)
  pub rest : Bool

-- A raw assign: the name of the host, and the table that specifies its attribute.
pub record RawAssign : Type 0 where
  pub host : List ℕ
  pub table : Members

-- A raw invariant: the name of its template, and its assigns.
pub record RawInvariant : Type 0 where
  pub template : List ℕ
  pub assigns : List RawAssign

-- A raw description. `given` states whether the key `flow` is present; `answers` states whether flows may have answers.
pub record RawDescription : Type 0 where
  pub version : ℤ
  pub answers : Bool
  pub hosts : List RawHost
  pub invariants : List RawInvariant
  pub given : Bool
  pub flows : List RawFlow
  pub templates : List RawTemplate

-- The string at a key.
abbrev pub text_in : List ℕ → Members → List ℕ
text_in key ms = unwrap_or (text_at key ms) []

-- The raw host of a table.
unfoldable pub raw_host : Members → RawHost
raw_host ms = record {
  name = text_in (codes "name") ms;
  at = filter_map as_str (listed (codes "at") ms);
  rest = unwrap_or (boolean_at (codes "rest") ms) false;
}

-- The raw assign of a table.
unfoldable pub raw_assign : Members → RawAssign
raw_assign ms = record { host = text_in (codes "host") ms; table = ms }

-- The raw invariant of a table.
unfoldable pub raw_invariant : Members → RawInvariant
raw_invariant ms = record {
  template = text_in (codes "template") ms;
  assigns = map raw_assign (filter_map as_table (listed (codes "assign") ms));
}

-- The raw template of a table.
unfoldable pub raw_template : Members → RawTemplate
raw_template ms = record {
  name = text_in (codes "name") ms;
  strategy = text_in (codes "strategy") ms;
  kinds = filter_map as_str (listed (codes "kinds") ms);
  default = text_in (codes "default") ms;
  deny = filter_map raw_pair (listed (codes "deny") ms);
}

-- The raw description of a table. Flows have answers unless the description states that there are none.
unfoldable pub written : Members → RawDescription
written ms = record {
  version = unwrap_or (integer_at (codes "topos") ms) (pos 0);
  answers = not (bytes_eq (text_in (codes "answers") ms) (codes "none"));
  hosts = map raw_host (filter_map as_table (listed (codes "host") ms));
  invariants = map raw_invariant (filter_map as_table (listed (codes "invariant") ms));
  given = has_key (codes "flow") ms;
  flows = filter_map raw_flow (listed (codes "flow") ms);
  templates = map raw_template (filter_map as_table (listed (codes "template") ms));
}
