use Rattle.std.proofs.Common.{◌^◌, ap, length, ◌∙◌}
use Rattle.audit_core.specs.Classes.{is_among}
use Rattle.audit_core.specs.inner.Named.{cuts_found}
use Rattle.audit_core.proofs.AuditLemmas.{total_is}
use Rattle.audit_core.proofs.RepresentativeLemmas.{short_is}
use Rattle.audit_core.proofs.named.Found.classes.Goals as goal

pub protocol_classes-protocols-requires : goal.protocol_classes-protocols-requires
protocol_classes-protocols-requires c = short_is (is_among c.args.self.protocols.items) (2 ^ 8) _ (ap length (c.deref.ensures.value ∙ c.sort_protocols.ensures))

pub total-requires-clause-addresses : goal.total-requires-clause-addresses
total-requires-clause-addresses c = short_is (is_among c.args.self.addresses.items) (2 ^ 32) _ (ap length (c.deref-2.ensures.value ∙ c.sort_addresses.ensures))

pub total-requires-clause-ports : goal.total-requires-clause-ports
total-requires-clause-ports c = short_is (is_among c.args.self.ports.items) (2 ^ 16) _ (ap length (c.deref-3.ensures.value ∙ c.sort_ports.ensures))

pub returns : goal.returns
returns c =
    total_is (cuts_found c.args.self) (length c.deref-2.result.now) (length c.deref.result.now) c.protocol_classes-protocols.result
    (length c.deref-3.result.now) c.total.result (ap length (c.deref-2.ensures.value ∙ c.sort_addresses.ensures))
    (ap length (c.deref.ensures.value ∙ c.sort_protocols.ensures)) (ap length (c.deref-3.ensures.value ∙ c.sort_ports.ensures))
    c.protocol_classes-protocols.ensures.count c.total.ensures
