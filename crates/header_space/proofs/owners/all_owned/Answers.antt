use Rattle.std.proofs.Common.{ℕ, ◌<◌, ◌≤◌, refl, sym, subst}
use Rattle.std.specs.List.{All}
use Rattle.std.proofs.lemmas.List.Elements.{All-push}
use Rattle.header_space.specs.Owners.{IsOwned}
use Rattle.header_space.proofs.OwnersLaws.{owners_last, owners_more}
use Rattle.header_space.proofs.owners.all_owned.Goals as goal

pub loop-host-preserved : goal.loop-host-preserved
loop-host-preserved c = record {
  owners =
      owners_more c.args.hosts.now c.loop-host.owned.items c.push.new.self.items c.loop-host.host _ c.loop-host.invariant.owners
      (subst (λ (n : ℕ). c.loop-host.host < n) c.count-host-end.ensures.value c.loop-host-test.true) refl
      c.in_ok-push.ensures.items;
  each = subst (All (IsOwned c.args.hosts.now)) (sym c.in_ok-push.ensures.items)
      (All-push (IsOwned c.args.hosts.now) c.loop-host.owned.items _ c.loop-host.invariant.each c.in_ok-ranges.ensures);
}

pub returns : goal.returns
returns c = record {
  owners =
      owners_last c.args.hosts.now c.loop-host.owned.items c.push-2.new.self.items c.loop-host.host _ c.loop-host.invariant.owners
      (subst (λ (n : ℕ). n ≤ c.loop-host.host) c.count-host-end.ensures.value c.loop-host-test.false) refl
      c.in_ok-push-2.ensures.items;
  each = subst (All (IsOwned c.args.hosts.now)) (sym c.in_ok-push-2.ensures.items)
      (All-push (IsOwned c.args.hosts.now) c.loop-host.owned.items _ c.loop-host.invariant.each c.in_ok-ranges-2.ensures);
}
