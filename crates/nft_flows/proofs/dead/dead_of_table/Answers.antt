use Rattle.std.proofs.Common.{◌≡◌, ◌∙◌, List, ap, subst}
use Rattle.std.proofs.lemmas.Result.{IfOk-weaker}
use Rattle.ipt_rules.specs.Chain.{Chain}
use Rattle.ipt_rules.specs.declared.marks.Place.{Place}
use Rattle.pass_core.specs.Dead.{AreDead}
use Rattle.nft_flows.specs.Dead.{AreDeadTablePlaces}
use Rattle.nft_flows.specs.Removal.{AreRemovableTablePlaces}
use Rattle.nft_flows.specs.declared.span.Span.{Span}
use Rattle.nft_flows.specs.inner.Selected.{has_all, selected}
use Rattle.nft_flows.proofs.RemovalLaws.{are_removable}
use Rattle.nft_flows.proofs.ResultLaws.{dead_places}
use Rattle.nft_flows.proofs.dead.dead_of_table.Goals as goal

pub returns-clause-dead : goal.returns-clause-dead
returns-clause-dead c =
    let table = c.args.table.now in
    let dead = c.in_ok-dead.dead.items in
    let are = subst (λ (chains : List Chain). AreDead chains dead) c.requires c.in_ok-dead.ensures.dead in
    IfOk-weaker c.with_all.result (λ places. places.items ≡ selected (has_all c.deref-2.result.now) c.deref.result.now)
    (λ places. AreDeadTablePlaces table places.items)
    (λ places made. dead_places table c.table-held.ensures.loadable dead are places.items
    (made
    ∙ ap (λ (qs : List Place). selected (has_all qs) c.deref.result.now) c.deref-2.ensures.value
    ∙ ap (λ (spans : List Span). selected (has_all dead) spans) c.deref.ensures.value
    ∙ ap (λ (spans : List Span). selected (has_all dead) spans) c.in_ok-spans.ensures)) c.with_all.ensures

pub returns-clause-removable : goal.returns-clause-removable
returns-clause-removable c =
    let table = c.args.table.now in
    IfOk-weaker c.with_all.result (λ places. AreDeadTablePlaces table places.items) (λ places. AreRemovableTablePlaces table places.items)
    (λ places dead. are_removable table places.items c.table-held.ensures.loadable dead) (returns-clause-dead c)
