use Rattle.std.proofs.Common.{◌≤◌, ℕ, length, ap, subst, ◌∙◌, arith}
use Rattle.std.proofs.lemmas.List.{length_push}
use Rattle.change_core.proofs.SharingLaws.{rows_all, rows_push, sharers_where}
use Rattle.change_core.proofs.sharing.shared_owners.Goals as goal

pub loop-host-preserved : goal.loop-host-preserved
loop-host-preserved c = record {
  counted = omega (arith, c.loop-host.invariant.counted, ap length c.in_ok-push.ensures.items ∙ length_push c.loop-host.rows.items c.in_ok-owners.owners);
  shared =
      rows_push c.args.new.now c.args.old.now c.loop-host.rows.items c.push.new.self.items c.in_ok-owners.owners c.loop-host.host
      c.loop-host.invariant.counted c.loop-host.invariant.shared
      (sharers_where c.args.new.now c.args.old.now c.in_ok-sharing.sharing c.loop-host.host c.in_ok-owners.owners.items c.in_ok-sharing.ensures
      c.in_ok-owners.ensures) c.in_ok-push.ensures.items;
}

pub returns : goal.returns
returns c =
    rows_all c.args.new.now c.args.old.now c.loop-host.rows.items c.loop-host.host c.loop-host.invariant.counted
    (subst (λ (n : ℕ). n ≤ c.loop-host.host) c.count-host-end.ensures.value c.loop-host-test.false) c.loop-host.invariant.shared
