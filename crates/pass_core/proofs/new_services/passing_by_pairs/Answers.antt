use Rattle.std.proofs.lemmas.Result.{IfOk-weaker}
use Rattle.header_space.proofs.OwnersLaws.{owned_ranges}
use Rattle.rules_space.specs.RulesView.{rules_of}
use Rattle.pass_core.specs.NewPackets.{LetsPass}
use Rattle.pass_core.specs.Pairs.{AreListed, AreListedByOwners}
use Rattle.pass_core.proofs.PairLemmas.{by_owners}
use Rattle.pass_core.proofs.new_services.passing_by_pairs.Goals as goal

pub services_of_owned-requires : goal.services_of_owned-requires
services_of_owned-requires c = rw c.deref.ensures.value (owned_ranges c.args.hosts.now c.in_ok-owned.owned.items c.in_ok-owned.ensures.each)

pub returns : goal.returns
returns c =
    let rules = rules_of c.args.text.now in
    IfOk-weaker c.services_of_owned.result (λ list. AreListed (LetsPass rules) c.deref.result.now list.items)
    (λ list. AreListedByOwners (LetsPass rules) c.args.hosts.now list.items)
    (λ list listed. by_owners (LetsPass rules) c.args.hosts.now c.in_ok-owned.owned.items c.in_ok-owned.ensures list.items
    (rw c.deref.ensures.value at listed)) c.services_of_owned.ensures
