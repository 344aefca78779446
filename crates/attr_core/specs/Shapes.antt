-- The requirements of a template on the table of an assign: a list of keys.
use Rattle.std.specs.Prelude.{Bool, ◌&&◌, not, List, codes}
use Rattle.table_core.specs.Keys.{Key, Text, all_suit, has_only_keys, lacks_key, needed}
use Rattle.toml.specs.Data.{Members}

-- The name of the host, which each assign has.
abbrev pub host_key : Key
host_key = needed (codes "host") Text

-- The table has only these keys, all required ones, and each value is of its kind.
unfoldable pub of_shape : Members → List Key → Bool
of_shape table keys = has_only_keys keys table && not (lacks_key keys table) && all_suit keys table
