-- The names of flows and invariants in reports.
use Rattle.std.specs.Prelude.{ℕ, List, [], ◌++◌, slice_get, codes, decimal}
use Rattle.std.specs.Option.{option_map_or}
use Rattle.flow_set.specs.declared.flow.Flow.{Flow}
use Rattle.host_net.specs.Host.{Host}
use Rattle.inv_any.specs.Templates.{template_name}
use Rattle.inv_any.specs.declared.any_inv.AnyInv.{AnyInv}

-- The name of a host, given by its number from 0.
abbrev pub host_name : List Host → ℕ → List ℕ
host_name hosts i = option_map_or (λ h. h.name) (slice_get hosts i) []

-- A flow, by the names of its hosts: web -> db.
unfoldable pub flow_text : List Host → Flow → List ℕ
flow_text hosts f = host_name hosts f.from ++ (codes " -> " ++ host_name hosts f.to)

-- An invariant, by its number from 1 and its template: 2 sink.
unfoldable pub invariant_text : ℕ → AnyInv → List ℕ
invariant_text number inv = decimal number ++ (codes " " ++ template_name inv)
