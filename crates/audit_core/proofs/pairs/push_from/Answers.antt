use Rattle.std.proofs.Common.{◌+◌, List, subst, sym, take}
use Rattle.std.specs.List.{flat_map}
use Rattle.std.proofs.lemmas.List.{take_all}
use Rattle.header_space.specs.declared.owners.Owned.{Owned}
use Rattle.header_space.specs.Owners.{IsOwned}
use Rattle.audit_core.specs.inner.Pairs.{AreAdded}
use Rattle.audit_core.specs.Pairs.{Case, cases_between}
use Rattle.audit_core.proofs.NamedLemmas.{listed_more}
use Rattle.rules_space.proofs.ListLaws.{take_at}
use Rattle.audit_core.proofs.PairLaws.{added_step}
use Rattle.audit_core.proofs.pairs.push_from.Goals as goal

pub loop-to-preserved : goal.loop-to-preserved
loop-to-preserved c = λ sides sender owned.
    let between : Owned → List Case = λ to. cases_between c.args.from.now.owner to.owner in
    let items = c.args.owned.now in
    let i = c.loop-to.to-index in
    let row = c.to-item.result in
    added_step sides (flat_map between (take i items)) (between row) (flat_map between (take (i + 1) items)) c.args.list.now.items c.loop-to.list.items
    c.push_pair.new.list.items (c.loop-to.invariant sides sender owned)
    (c.in_ok-push_pair.ensures sides sender (subst (IsOwned sides.policy.site.hosts) (sym c.to-item.is) (owned i row c.loop-to-test.true)))
    (listed_more between items i row (take_at items i row c.loop-to-test.true c.to-item.is))

pub returns : goal.returns
returns c = λ sides sender owned.
    subst (λ (l : List Owned). AreAdded sides (flat_map (λ (to : Owned). cases_between c.args.from.now.owner to.owner) l) c.args.list.now.items c.loop-to.list.items)
    (take_all c.loop-to.to-index c.args.owned.now c.loop-to-test.false) (c.loop-to.invariant sides sender owned)
