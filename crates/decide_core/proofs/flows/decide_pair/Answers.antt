use Rattle.std.proofs.Common.{◌∙◌, refl}
use Rattle.rules_space.specs.RulesView.{rules_of}
use Rattle.header_space.proofs.OwnersLaws.{ranges_some}
use Rattle.decide_core.proofs.FlowLemmas.{deciders_of_pair}
use Rattle.decide_core.proofs.flows.decide_pair.Goals as goal

pub decide_ranges-requires-clause-from : goal.decide_ranges-requires-clause-from
decide_ranges-requires-clause-from c =
    rw c.deref.ensures.value (ranges_some c.args.hosts.now c.args.pair.now.from c.in_ok-from.from.items c.in_ok-from.ensures.owned)

pub decide_ranges-requires-clause-to : goal.decide_ranges-requires-clause-to
decide_ranges-requires-clause-to c =
    rw c.deref-2.ensures.value (ranges_some c.args.hosts.now c.args.pair.now.to c.in_ok-to.to.items c.in_ok-to.ensures.owned)

pub decide_ranges-requires-clause-services : goal.decide_ranges-requires-clause-services
decide_ranges-requires-clause-services c = rw c.deref-3.ensures.value c.requires

pub returns : goal.returns
returns c = record {
  source = refl;
  destination = refl;
  ranges = c.in_ok-ranges.ensures.ranges ∙ c.deref-3.ensures.value;
  deciders =
      deciders_of_pair (rules_of c.args.text.now) c.args.hosts.now c.args.pair.now.from c.args.pair.now.to c.deref.result.now c.deref-2.result.now
      (rw c.deref.ensures.value c.in_ok-from.ensures) (rw c.deref-2.ensures.value c.in_ok-to.ensures)
      c.in_ok-ranges.ranges.items c.in_ok-ranges.ensures.deciders;
}
