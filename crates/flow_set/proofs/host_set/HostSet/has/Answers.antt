use Rattle.std.proofs.Common.{◌∙◌, ap}
use Rattle.std.specs.FinSet as set
use Rattle.flow_set.proofs.HostSets.{bit-low, bit-high}
use Rattle.flow_set.specs.HostSet.{HostNumbers}
use Rattle.flow_set.proofs.host_set.HostSet.has.Goals as goal

pub returns-then-host-lt-HALF : goal.returns-then-host-lt-HALF
returns-then-host-lt-HALF c =
    bit-low _ _ c.args.host c.if-host-lt-HALF.true ∙ ap (λ (s : HostNumbers). set.contains s c.args.host) c.self.view_is

pub returns-else-host-lt-HALF : goal.returns-else-host-lt-HALF
returns-else-host-lt-HALF c =
    bit-high _ _ c.args.host c.if-host-lt-HALF.false c.requires ∙ ap (λ (s : HostNumbers). set.contains s c.args.host) c.self.view_is
