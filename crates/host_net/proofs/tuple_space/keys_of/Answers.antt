use Rattle.host_net.proofs.CoverLemmas.{keys_more, small_more}
use Rattle.host_net.proofs.tuple_space.keys_of.Goals as goal

pub loop-place-preserved : goal.loop-place-preserved
loop-place-preserved c =
    let more = c.in_ok-push.ensures.items in
    record {
      same = keys_more c.args.all.now c.loop-place.keys.items c.push.new.self.items c.loop-place.place c.index-all-place.result c.key_of.result
          c.loop-place-test.true c.index-all-place.is c.loop-place.invariant.same more c.key_of.ensures.key;
      small = small_more c.loop-place.keys.items c.push.new.self.items c.key_of.result c.loop-place.invariant.small c.key_of.ensures.small more;
    }
