use Rattle.std.proofs.Common.{◌≡◌, ◌++◌}
use Rattle.std.specs.List.{range_with_len}
use Rattle.json_core.specs.Json.{host_entry_json, separated}
use Rattle.json_core.proofs.names.push_each_host.Given as goal

-- The text has the hosts so far.
abbrev pub invariant-loop-host : goal.invariant-loop-host
invariant-loop-host l = l.text.items ≡ l.fn.text.items ++ separated (host_entry_json l.hosts) (range_with_len 0 l.host)
