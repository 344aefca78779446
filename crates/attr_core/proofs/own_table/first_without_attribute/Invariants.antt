use Rattle.std.proofs.Common.{◌≡◌, Bor, List, ℕ, map, drop, is_some}
use Rattle.attr_core.specs.inner.AssignView.{given_of}
use Rattle.attr_core.specs.Assigns.{Given}
use Rattle.attr_core.specs.inner.Bad.{first_failing}
use Rattle.attr_core.specs.inner.OwnTablesWalk.{kind_of_assign}
use Rattle.attr_core.proofs.own_table.first_without_attribute.Given as goal

abbrev pub invariant-loop-place : goal.invariant-loop-place
invariant-loop-place l =
    first_failing (λ (a : Given). is_some (kind_of_assign (map (λ (known : Bor (List ℕ)). known.now) l.words) a.table)) l.place (map given_of (drop l.place l.assigns))
    ≡ first_failing (λ (a : Given). is_some (kind_of_assign (map (λ (known : Bor (List ℕ)). known.now) l.words) a.table)) 0 (map given_of l.assigns)
