use Rattle.std.proofs.Common.{ap, ◌∙◌}
use Rattle.std.specs.FinSet as set
use Rattle.flow_set.proofs.HostSets.{hosts_below-insert, is_marked-low, is_marked-high}
use Rattle.flow_set.specs.HostSet.{HostNumbers}
use Rattle.flow_set.proofs.host_set.HostSet.insert.Goals as goal

pub returns-then-host-lt-HALF : goal.returns-then-host-lt-HALF
returns-then-host-lt-HALF c =
    hosts_below-insert 256 _ _ c.args.host c.requires (λ q _. is_marked-low _ _ _ q c.if-host-lt-HALF.true)
    ∙ ap (λ (s : HostNumbers). set.insert s c.args.host) c.self.view_is

pub returns-else-host-lt-HALF : goal.returns-else-host-lt-HALF
returns-else-host-lt-HALF c =
    hosts_below-insert 256 _ _ c.args.host c.requires (λ q _. is_marked-high _ _ _ q c.if-host-lt-HALF.false c.requires)
    ∙ ap (λ (s : HostNumbers). set.insert s c.args.host) c.self.view_is
