-- Lists of other hosts, given by their names.
use Rattle.std.specs.Prelude.{ℕ, ◌==◌, List, Option, Some, None, if◌then◌else◌}
use Rattle.toml.specs.Data.{Data, as_str}
use Rattle.host_net.specs.Host.{Host, host_named}
use Rattle.text_core.specs.Steps.{◌>>=◌}

-- The declared host that an element names, if it is not this one.
unfoldable pub peer : List Host → ℕ → Data → Option ℕ
peer hosts host d = do
  name ← as_str d
  other ← host_named hosts name
  if other == host then None else Some other
