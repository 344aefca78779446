use Rattle.std.proofs.Common.{ℕ, ◌+◌, ◌∙◌, Option, List, ap, subst, sym, take}
use Rattle.std.specs.List.{flat_map}
use Rattle.std.proofs.lemmas.List.{take_all}
use Rattle.header_space.specs.declared.owners.Owned.{Owned}
use Rattle.header_space.specs.Owners.{IsOwned}
use Rattle.audit_core.specs.inner.Pairs.{AreAdded}
use Rattle.audit_core.specs.Pairs.{AreListedFor, Case, cases_between}
use Rattle.audit_core.proofs.NamedLemmas.{listed_more}
use Rattle.rules_space.proofs.ListLaws.{take_at}
use Rattle.header_space.proofs.OwnersLaws.{owned_ranges}
use Rattle.audit_core.proofs.PairLaws.{cases_are, listed_step}
use Rattle.audit_core.proofs.pairs.differences_between.Goals as goal

pub sender-requires : goal.sender-requires
sender-requires c =
    subst (IsOwned c.args.sides.now.policy.site.hosts) (sym c.from-item.is) (c.requires.each c.loop-from.from-index c.from-item.result c.loop-from-test.true)

pub push_from-requires-clause-to : goal.push_from-requires-clause-to
push_from-requires-clause-to c = owned_ranges c.args.sides.now.policy.site.hosts c.args.owned.now c.requires.each

pub loop-from-preserved : goal.loop-from-preserved
loop-from-preserved c =
    let items = c.args.owned.now in
    let row_of : Option ℕ → List Case = λ from. flat_map (λ (to : Owned). cases_between from to.owner) items in
    let between : Owned → List Case = λ from. row_of from.owner in
    let i = c.loop-from.from-index in
    let row = c.from-item.result in
    listed_step c.args.sides.now (flat_map between (take i items)) (between row) (flat_map between (take (i + 1) items)) c.loop-from.list.items
    c.push_from.new.list.items c.loop-from.invariant
    (subst (λ (o : Option ℕ). AreAdded c.args.sides.now (row_of o) c.loop-from.list.items c.push_from.new.list.items) c.in_ok-sender.ensures.owner
    (c.in_ok-push_from.ensures c.args.sides.now c.in_ok-sender.ensures.sender c.requires.each))
    (listed_more between items i row (take_at items i row c.loop-from-test.true c.from-item.is))

pub returns : goal.returns
returns c =
    subst (λ (cases : List Case). AreListedFor c.args.sides.now cases c.loop-from.list.items)
    (ap (flat_map (λ (from : Owned). flat_map (λ (to : Owned). cases_between from.owner to.owner) c.args.owned.now))
    (take_all c.loop-from.from-index c.args.owned.now c.loop-from-test.false)
    ∙ cases_are c.args.sides.now.policy.site.hosts c.args.owned.now c.args.owned.now c.requires.owners c.requires.owners)
    c.loop-from.invariant
