use Rattle.std.proofs.Common.{◌+◌, arith, add-one, drop}
use Rattle.std.proofs.Math.Seq.{drop-cons}
use Rattle.std.proofs.lemmas.List.{drop_all}
use Rattle.ipt_rules.specs.Semantics.{PassesChains}
use Rattle.pkt_core.specs.inner.ConnectionTable.{kept_in}
use Rattle.sample_core.proofs.RunLemmas.{at_most_one, leaves_next, leaves_none}
use Rattle.sample_core.proofs.run.forwarded.Goals as goal

pub loop-place-preserved : goal.loop-place-preserved
loop-place-preserved c =
    let place = c.loop-place.place in
    let packets = c.args.packets.now in
    record {
      few = omega (arith, c.loop-place.invariant.few, c.one_if-count.ensures, at_most_one c.in_ok-passes.passes);
      left =
          leaves_next (PassesChains c.args.indexed.now) packets (kept_in c.loop-place.track) (kept_in c.is_forwarded.new.track)
          (drop place packets) _ (drop (place + 1) packets)
          c.loop-place.count (c.loop-place.count + c.one_if-count.result) c.in_ok-passes.passes
          (rw add-one (drop-cons packets place _ (omega (arith, c.loop-place-test.true))))
          c.in_ok-passes.ensures (omega (arith, c.one_if-count.ensures)) c.loop-place.invariant.left;
    }

pub returns : goal.returns
returns c =
    leaves_none (PassesChains c.args.indexed.now) c.args.packets.now (kept_in c.loop-place.track)
    (drop c.loop-place.place c.args.packets.now) c.loop-place.count
    (drop_all c.loop-place.place c.args.packets.now (omega (arith, c.loop-place-test.false))) c.loop-place.invariant.left
