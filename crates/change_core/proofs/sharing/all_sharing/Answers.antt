use Rattle.std.proofs.Common.{◌<◌, length, arith, ◌∙◌}
use Rattle.header_space.proofs.OwnersLaws.{next_small}
use Rattle.policy_space.proofs.FlowLaws.{owner_below}
use Rattle.change_core.proofs.SharingLaws.{marked_all, marked_none, marked_step}
use Rattle.change_core.proofs.sharing.all_sharing.Goals as goal

pub loop-older-init : goal.loop-older-init
loop-older-init c = record {
  small = omega arith;
  marked =
      marked_none c.args.new.now c.args.old.now c.in_ok-sharing.sharing (c.in_ok-sharing.ensures.counted ∙ c.count.ensures.value)
      c.in_ok-sharing.ensures.nothing;
}

pub add-requires-clause-newer : goal.add-requires-clause-newer
add-requires-clause-newer c = λ i is.
    let low : i < length c.args.new.now =
    owner_below c.args.new.now c.loop-older.first i
    (c.owner_until-newer.ensures.owned c.loop-older.first (omega arith) c.owner_until-newer.ensures.first ∙ is) in
    (omega (arith, low, c.loop-older.invariant.marked.counted), omega (arith, low, c.count.ensures.hosts.few))

pub add-requires-clause-older : goal.add-requires-clause-older
add-requires-clause-older c = λ k is.
    let low : k < length c.args.old.now =
    owner_below c.args.old.now c.loop-older.first k
    (c.owner_until-older.ensures.owned c.loop-older.first (omega arith) c.owner_until-older.ensures.first ∙ is) in
    omega (arith, low, c.count-2.ensures.hosts.few)

pub loop-older-preserved : goal.loop-older-preserved
loop-older-preserved c = record {
  small = next_small c.owner_until-older.result.last (omega (arith, c.owner_until-older.ensures.last, c.owner_until-newer.ensures.last)) c.if-older.false;
  marked =
      marked_step c.args.new.now c.args.old.now c.loop-older.first c.owner_until-older.result.last c.owner_until-newer.result.host
      c.owner_until-older.result.host c.loop-older.sharing c.add.new.self c.loop-older.invariant.marked c.owner_until-older.ensures.first
      (λ a low high. c.owner_until-newer.ensures.owned a low (omega (arith, high, c.owner_until-older.ensures.last))) c.owner_until-older.ensures.owned
      c.add.ensures.counted c.add.ensures.added;
}

pub returns-then-older : goal.returns-then-older
returns-then-older c =
    marked_all c.args.new.now c.args.old.now c.add.new.self c.owner_until-older.result.last c.if-older.true
    (marked_step c.args.new.now c.args.old.now c.loop-older.first c.owner_until-older.result.last c.owner_until-newer.result.host
    c.owner_until-older.result.host c.loop-older.sharing c.add.new.self c.loop-older.invariant.marked c.owner_until-older.ensures.first
    (λ a low high. c.owner_until-newer.ensures.owned a low (omega (arith, high, c.owner_until-older.ensures.last))) c.owner_until-older.ensures.owned
    c.add.ensures.counted c.add.ensures.added)
