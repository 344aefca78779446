use Rattle.std.proofs.Common.{◌≡◌, take}
use Rattle.tmpl_domains.specs.inner.DomainView.{segment_bytes}
use Rattle.tmpl_domains.proofs.domain.copied.Given as goal

abbrev pub invariant-loop-segment : goal.invariant-loop-segment
invariant-loop-segment l = segment_bytes l.copy.items ≡ segment_bytes (take l.segment-index l.path)
