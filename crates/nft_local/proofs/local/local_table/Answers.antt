use Rattle.std.proofs.Common.{List, refl, ap, sym, subst, ◌∙◌}
use Rattle.std.specs.List.{AllByRecursion}
use Rattle.flow_set.specs.declared.flow.Flow.{Flow}
use Rattle.flow_set.specs.FlowSet.{IsSubset}
use Rattle.host_net.specs.Host.{Host}
use Rattle.pkt_core.specs.Filter.{Enforces}
use Rattle.pkt_core.specs.FlowPolicy.{FlowPolicy}
use Rattle.nft_rules.specs.declared.table.Table.{Table}
use Rattle.nft_rules.specs.Semantics.{PassesTable}
use Rattle.nft_read.specs.Reading.{ChainFits}
use Rattle.nft_local.specs.HostTable.{IsMachineTable}
use Rattle.nft_local.specs.inner.Assembly.{IsAssembled}
use Rattle.nft_local.specs.inner.Part.{flows_at}
use Rattle.nft_local.proofs.PartLaws.{part_made, part_within}
use Rattle.nft_local.proofs.AssemblyLaws.{machine_loads, machine_table}
use Rattle.nft_local.proofs.local.local_table.Goals as goal

pub new-part-requires-clause-within : goal.new-part-requires-clause-within
new-part-requires-clause-within c =
    let policy = c.args.policy.now in
    let permitted = c.in_ok-permitted.ensures.flows ∙ ap (flows_at c.args.host) c.permitted.ensures.flows in
    let stateful = c.in_ok-stateful.ensures.flows ∙ ap (flows_at c.args.host) c.stateful.ensures.flows in
    subst (λ (fs : List Flow). IsSubset fs c.in_ok-permitted.permitted.flows) (sym stateful)
    (subst (λ (fs : List Flow). IsSubset (flows_at c.args.host policy.stateful) fs) (sym permitted)
    (part_within c.args.host policy.stateful policy.permitted c.hosts.ensures.policy.within))

pub of-machine-requires : goal.of-machine-requires
of-machine-requires c =
    let table = c.in_ok-table.table in
    machine_loads c.args.policy.now c.args.host table c.in_ok-chains.chains.items c.in_ok-table.ensures.loadable c.in_ok-table.ensures.few
    c.in_ok-table.ensures.named
    (subst (λ (hs : List Host). IsAssembled hs c.args.host table.chains.items table.forward.items c.in_ok-chains.chains.items) c.hosts-2.ensures.value
    c.in_ok-chains.ensures)
    c.new-forward.result c.in_ok-chains.chains c.new-forward.ensures.items refl

pub returns-clause-machine : goal.returns-clause-machine
returns-clause-machine c =
    let policy = c.args.policy.now in
    let table = c.in_ok-table.table in
    let permitted = c.in_ok-permitted.ensures.flows ∙ ap (flows_at c.args.host) c.permitted.ensures.flows in
    let stateful = c.in_ok-stateful.ensures.flows ∙ ap (flows_at c.args.host) c.stateful.ensures.flows in
    let part =
    part_made c.args.host policy c.new-part.result c.hosts.result.now c.services.result.now c.in_ok-permitted.permitted.flows c.in_ok-stateful.stateful.flows
    c.hosts.ensures.value c.services.ensures.value permitted stateful c.new-part.ensures in
    subst (λ (t : Table). IsMachineTable policy c.args.host t.chains.items) (sym c.of-machine.ensures)
    (machine_table policy c.args.host table c.in_ok-chains.chains.items c.in_ok-table.ensures.loadable c.in_ok-table.ensures.few c.in_ok-table.ensures.named
    (subst (λ (hs : List Host). IsAssembled hs c.args.host table.chains.items table.forward.items c.in_ok-chains.chains.items) c.hosts-2.ensures.value
    c.in_ok-chains.ensures)
    c.hosts.ensures.policy.site.hosts c.requires.specific
    (subst (λ (p : FlowPolicy). Enforces (PassesTable table) p) part c.in_ok-table.ensures.enforces)
    (subst (λ (t : Table). AllByRecursion ChainFits t.chains.items) c.of-machine.ensures c.table_ranges.ensures.chains))
