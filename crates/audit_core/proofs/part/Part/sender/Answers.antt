use Rattle.std.proofs.Common.{List, refl, subst}
use Rattle.header_space.specs.declared.address_range.AddressRange.{AddressRange}
use Rattle.audit_core.specs.inner.Pairs.{AreSources}
use Rattle.audit_core.proofs.SourceLaws.{sender_is}
use Rattle.audit_core.proofs.part.Part.sender.Goals as goal

pub returns-clause-sender : goal.returns-clause-sender
returns-clause-sender c =
    sender_is c.args.self.now c.args.owned.now (record { owner = c.args.owned.now.owner; sources = c.in_ok-sources.sources }) c.requires
    (subst (λ (l : List AddressRange). AreSources c.args.self.now l c.in_ok-sources.sources.items) c.deref.ensures.value c.in_ok-sources.ensures) refl
