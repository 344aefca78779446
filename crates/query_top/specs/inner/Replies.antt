-- The reply of the code by the differences of a comparison. No promise of `run` depends on it.
use Rattle.std.specs.Prelude.{List, [], ◌∷◌}
use Rattle.audit_core.specs.declared.difference.Difference.{Difference}
use Rattle.host_net.specs.Host.{Host}
use Rattle.compare_json.specs.CompareJson.{compare_json}
use Rattle.run_core.specs.Reply.{Reply}
use Rattle.run_core.specs.declared.status.Status.TheVariants.{Done, Violated}
use Rattle.run_core.specs.declared.status.Stream.TheVariants.{Output}
use Rattle.run_core.specs.inner.Views.{reply_on}

-- The reply of a comparison with these differences.
abbrev pub differences_reply : List Host → List Difference → Reply
differences_reply hosts [] = reply_on Done Output (compare_json hosts [])
differences_reply hosts (d ∷ ds) = reply_on Violated Output (compare_json hosts (d ∷ ds))
