use Rattle.std.proofs.Common.{ap, ◌∙◌}
use Rattle.std.specs.FinSet as set
use Rattle.flow_set.proofs.HostSets.{hosts_below-remove, is_marked-low_cleared, is_marked-high_cleared}
use Rattle.flow_set.specs.HostSet.{HostNumbers}
use Rattle.flow_set.proofs.host_set.HostSet.remove.Goals as goal

pub returns-then-host-lt-HALF : goal.returns-then-host-lt-HALF
returns-then-host-lt-HALF c =
    hosts_below-remove 256 _ _ c.args.host (λ q _. is_marked-low_cleared _ _ _ q c.if-host-lt-HALF.true)
    ∙ ap (λ (s : HostNumbers). set.remove s c.args.host) c.self.view_is

pub returns-else-host-lt-HALF : goal.returns-else-host-lt-HALF
returns-else-host-lt-HALF c =
    hosts_below-remove 256 _ _ c.args.host (λ q below. is_marked-high_cleared _ _ _ q c.if-host-lt-HALF.false c.requires below)
    ∙ ap (λ (s : HostNumbers). set.remove s c.args.host) c.self.view_is
