use Rattle.std.proofs.Common.{◌<◌, ◌≤◌, ℕ, ap, ◌∙◌, subst}
use Rattle.std.specs.FinSet as set
use Rattle.std.proofs.lemmas.List.{get_or_read}
use Rattle.flow_set.specs.HostSet.{HostNumbers}
use Rattle.change_core.specs.inner.Sharing.{is_marked}
use Rattle.change_core.proofs.SharingLaws.{owners_end, owners_push}
use Rattle.change_core.proofs.sharing.Sharing.owners.Goals as goal

pub loop-other-preserved : goal.loop-other-preserved
loop-other-preserved c =
    owners_push (is_marked c.args.self.now c.args.host) c.args.old.now c.loop-other.owners.items c.push_if.new.owners.items c.loop-other.other c.has.result
    c.loop-other.invariant (subst (λ (n : ℕ). c.loop-other.other < n) c.count-other-end.ensures.value c.loop-other-test.true)
    (c.has.ensures
    ∙ ap (λ (r : HostNumbers). set.contains r c.loop-other.other)
    (get_or_read c.args.self.now.hosts.items c.args.host c.index-row.result.now c.requires.host.0 c.index-row.ensures set.empty))
    c.in_ok-push_if.ensures

pub returns : goal.returns
returns c =
    owners_end (is_marked c.args.self.now c.args.host) c.args.old.now c.loop-other.owners.items c.push_if-2.new.owners.items c.loop-other.other c.has-2.result
    c.loop-other.invariant (subst (λ (n : ℕ). n ≤ c.loop-other.other) c.count-other-end.ensures.value c.loop-other-test.false) c.has-2.ensures
    c.in_ok-push_if-2.ensures
