use Rattle.std.proofs.Common.{sym, ◌∙◌}
use Rattle.desc_core.proofs.NamesLaws.{are_names, undeclared_found, undeclared_is}
use Rattle.desc_form.specs.inner.RawView.{raw_view}
use Rattle.desc_core.proofs.names.undeclared_host.Goals as goal

pub first_undeclared-requires-clause-legal : goal.first_undeclared-requires-clause-legal
first_undeclared-requires-clause-legal c = rw (c.deref.ensures.value, c.in_ok-names.ensures) (are_names (raw_view c.args.written.now) c.requires.no_refusal)

pub first_undeclared-requires-clause-some : goal.first_undeclared-requires-clause-some
first_undeclared-requires-clause-some c =
    rw (c.requires.hosts, c.deref.ensures.value, c.in_ok-names.ensures) (undeclared_found (raw_view c.args.written.now) c.requires.some)

pub returns : goal.returns
returns c = sym (undeclared_is (raw_view c.args.written.now)) ∙ (rw (c.requires.hosts, c.deref.ensures.value, c.in_ok-names.ensures) at c.first_undeclared.ensures)
