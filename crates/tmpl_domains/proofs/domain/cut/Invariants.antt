use Rattle.std.proofs.Common.{◌≡◌, map}
use Rattle.tmpl_domains.specs.inner.DomainView.{segment_bytes}
use Rattle.tmpl_domains.proofs.domain.cut.Given as goal

abbrev pub invariant-loop-segment : goal.invariant-loop-segment
invariant-loop-segment l = segment_bytes l.all.items ≡ map (λ segment. segment.now) l.yielded
