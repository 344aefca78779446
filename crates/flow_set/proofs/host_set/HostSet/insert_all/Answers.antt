use Rattle.std.proofs.Common.{◌∙◌}
use Rattle.std.specs.FinSet as set
use Rattle.flow_set.proofs.HostSets.{hosts_below-union, is_marked-both}
use Rattle.flow_set.proofs.host_set.HostSet.insert_all.Goals as goal

pub returns : goal.returns
returns c =
    hosts_below-union 256 _ _ _ (λ q _. is_marked-both _ _ _ _ q)
    ∙ (λ i. set.union (c.self.view_is i) (c.other.view_is i))
