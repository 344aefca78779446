use Rattle.std.proofs.Common.{◌∙◌, rules}
use Rattle.std.specs.FinSet as set
use Rattle.flow_set.proofs.HostSets.{hosts_below-difference, is_marked-without}
use Rattle.flow_set.proofs.host_set.HostSet.remove_all.Goals as goal

pub returns : goal.returns
returns c =
    hosts_below-difference 256 _ _ _
    (λ q within. is_marked-without c.self.inside.low c.self.inside.high c.other.inside.low c.other.inside.high q (search rules) (search rules) within)
    ∙ (λ i. set.difference (c.self.view_is i) (c.other.view_is i))
