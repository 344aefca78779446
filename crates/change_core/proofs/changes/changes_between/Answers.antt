use Rattle.change_core.proofs.ChangeLaws.{complete_where, four_added, none_exactly}
use Rattle.change_core.proofs.changes.changes_between.Goals as goal

pub returns-clause-changes : goal.returns-clause-changes
returns-clause-changes c =
    four_added c.args.old.now c.args.new.now c.new-list.result.items c.push_kind.new.list.items c.push_kind-2.new.list.items
    c.push_kind-3.new.list.items c.push_kind-4.new.list.items c.new-list.ensures.items c.in_ok-push_kind.ensures c.in_ok-push_kind-2.ensures
    c.in_ok-push_kind-3.ensures c.in_ok-push_kind-4.ensures

pub returns-clause-complete : goal.returns-clause-complete
returns-clause-complete c =
    complete_where c.args.old.now c.args.new.now c.push_kind-4.new.list.items
    (four_added c.args.old.now c.args.new.now c.new-list.result.items c.push_kind.new.list.items c.push_kind-2.new.list.items
    c.push_kind-3.new.list.items c.push_kind-4.new.list.items c.new-list.ensures.items c.in_ok-push_kind.ensures c.in_ok-push_kind-2.ensures
    c.in_ok-push_kind-3.ensures c.in_ok-push_kind-4.ensures)

pub returns-clause-exact : goal.returns-clause-exact
returns-clause-exact c =
    none_exactly c.args.old.now c.args.new.now c.push_kind-4.new.list.items
    (four_added c.args.old.now c.args.new.now c.new-list.result.items c.push_kind.new.list.items c.push_kind-2.new.list.items
    c.push_kind-3.new.list.items c.push_kind-4.new.list.items c.new-list.ensures.items c.in_ok-push_kind.ensures c.in_ok-push_kind-2.ensures
    c.in_ok-push_kind-3.ensures c.in_ok-push_kind-4.ensures)
