use Rattle.std.proofs.Common.{◌<◌, length, map, sym}
use Rattle.std.proofs.lemmas.List.Elements.{All-push}
use Rattle.std.specs.Prelude.{All}
use Rattle.attr_core.specs.declared.assign.Assign.{Assign}
use Rattle.desc_core.proofs.KnownLemmas.{invariants_more}
use Rattle.desc_core.specs.declared.known.KnownInvariant.{KnownInvariant}
use Rattle.desc_form.specs.inner.RawView.{template_view}
use Rattle.desc_core.proofs.known.known_invariants.Goals as goal

pub loop-invariant-preserved : goal.loop-invariant-preserved
loop-invariant-preserved c = record {
  hosts =
      rw c.in_ok-push.ensures.items (All-push (λ (k : KnownInvariant). All (λ (a : Assign). a.host < length c.args.hosts.now) k.assigns.items) c.loop-invariant.known.items c.in-Some.one c.loop-invariant.invariant.hosts
      (rw c.in-Some.is at c.in_ok-one.ensures.hosts));
  grown =
      invariants_more (map template_view c.args.templates.now) c.args.hosts.now c.loop-invariant.known.items c.push.new.self.items c.in-Some.one c.invariant-item.result c.args.written.now c.loop-invariant.invariant-index _
      c.in_ok-push.ensures.items c.loop-invariant-test.true c.invariant-item.is (sym (rw c.in-Some.is at c.in_ok-one.ensures.known)) c.loop-invariant.invariant.grown;
}
