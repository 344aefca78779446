use Rattle.std.proofs.Common.{◌<◌, ◌≤◌, ◌++◌, length, length-append, sym, subst, arith}
use Rattle.std.specs.List.{All}
use Rattle.std.proofs.lemmas.List.Elements.{All-push}
use Rattle.header_space.proofs.OwnersLaws.{owners_last, owners_more}
use Rattle.change_core.specs.inner.Naming.{IsNamed}
use Rattle.change_core.proofs.NamingLaws.{names_are}
use Rattle.change_core.proofs.named.all_named.Goals as goal

pub loop-number-preserved : goal.loop-number-preserved
loop-number-preserved c =
    let both = c.args.new.now ++ c.args.old.now in
    let count : c.loop-number.number < length (c.args.new.now ++ c.args.old.now) =
    omega (arith, length-append c.args.new.now c.args.old.now, c.loop-number-test.true, c.count.ensures.value, c.count-2.ensures.value) in
    record {
      owners =
          owners_more both c.loop-number.owned.items c.push.new.self.items c.loop-number.number _ c.loop-number.invariant.owners count
          c.in_ok-named_by.ensures.number c.in_ok-push.ensures.items;
      each = subst (All (IsNamed c.args.new.now c.args.old.now)) (sym c.in_ok-push.ensures.items)
          (All-push (IsNamed c.args.new.now c.args.old.now) c.loop-number.owned.items _ c.loop-number.invariant.each c.in_ok-named_by.ensures.ranges);
    }

pub returns : goal.returns
returns c =
    let both = c.args.new.now ++ c.args.old.now in
    let count : length (c.args.new.now ++ c.args.old.now) ≤ c.loop-number.number =
    omega (arith, length-append c.args.new.now c.args.old.now, c.loop-number-test.false, c.count.ensures.value, c.count-2.ensures.value) in
    record {
      names = names_are c.args.new.now c.args.old.now c.push-2.new.self.items
          (owners_last both c.loop-number.owned.items c.push-2.new.self.items c.loop-number.number _ c.loop-number.invariant.owners count
          c.in_ok-named_by-2.ensures.number c.in_ok-push-2.ensures.items);
      each = subst (All (IsNamed c.args.new.now c.args.old.now)) (sym c.in_ok-push-2.ensures.items)
          (All-push (IsNamed c.args.new.now c.args.old.now) c.loop-number.owned.items _ c.loop-number.invariant.each c.in_ok-named_by-2.ensures.ranges);
    }
