-- The representation of labels.
use Rattle.std.specs.Prelude.{◌<◌, ◌^◌, List, length, All}
use Rattle.tmpl_levels.specs.Tainting.{TakesOffItsOwn}
use Rattle.tmpl_levels.specs.declared.tainting.Labels.{Labels}

-- There are fewer than 65,536 hosts, and each removes only labels that it has.
pub record AreLabelled (hosts : List Labels) : Type 0 where
  pub few : length hosts < 2 ^ 16
  pub own : All (λ host. TakesOffItsOwn host) hosts
