use Rattle.std.proofs.Common.{None, ◌∙◌}
use Rattle.audit_core.specs.inner.Pairs.{HoldsOf}
use Rattle.audit_core.proofs.SourceLaws.{found_where, within_every}
use Rattle.audit_core.proofs.sources.Source.differs.Goals as goal

pub returns : goal.returns
returns c = λ p packet lies holds.
    c.is_some.ensures
    ∙ found_where (HoldsOf c.by_ref.result None) c.box_between.result c.in_ok-found.found c.in_ok-found.ensures p
    (within_every c.box_between.result c.args.self.now.range c.every_address.result c.every_address.ensures c.box_between.ensures.inside p packet lies)
    ((c.by_ref.ensures None p).1 holds)
