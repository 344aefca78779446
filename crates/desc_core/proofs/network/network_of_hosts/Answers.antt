use Rattle.std.proofs.Common.{sym}
use Rattle.desc_core.proofs.KnownLaws.{unknown_end, unknown_invariant}
use Rattle.desc_core.proofs.NetworkLemmas.{refused_for_name}
use Rattle.desc_form.specs.inner.RawView.{raw_view}
use Rattle.desc_core.proofs.network.network_of_hosts.Goals as goal

pub unknown_name-requires-clause-unknown : goal.unknown_name-requires-clause-unknown
unknown_name-requires-clause-unknown c =
    unknown_invariant (raw_view c.args.written.now) (sym (rw (c.in_default.is, c.deref.ensures.value, c.deref-2.ensures.value, c.requires.hosts) at c.in_ok-known.ensures.known))

pub returns-in_default : goal.returns-in_default
returns-in_default c = refused_for_name (raw_view c.args.written.now) c.in_ok-unknown_name.field-0 c.in_ok-unknown_name.ensures

pub unknown_name-requires-in_default-2-clause-unknown : goal.unknown_name-requires-in_default-2-clause-unknown
unknown_name-requires-in_default-2-clause-unknown c =
    unknown_end (raw_view c.args.written.now) (sym (rw (c.in_default-2.is, c.deref-3.ensures.value, c.requires.hosts) at c.in_ok-flows.ensures))

pub returns-in_default-2 : goal.returns-in_default-2
returns-in_default-2 c = refused_for_name (raw_view c.args.written.now) c.in_ok-unknown_name-2.field-0 c.in_ok-unknown_name-2.ensures
