use Rattle.std.proofs.Common.{OnOk, sym, subst}
use Rattle.emit_core.specs.declared.direction.Direction.{Direction}
use Rattle.nft_local.specs.HostTable.{own_name}
use Rattle.nft_local.specs.inner.Entries.{AddsChain}
use Rattle.nft_local.proofs.entries.push_own.Goals as goal

pub returns-in-Outbound : goal.returns-in-Outbound
returns-in-Outbound c =
    subst (λ (s : Direction). OnOk c.push_chain.result (AddsChain (own_name s) c.args.rules.items c.args.chains.now.items c.push_chain.new.chains.items))
    (sym c.in-Outbound.is) c.push_chain.ensures

pub returns-in-Inbound : goal.returns-in-Inbound
returns-in-Inbound c =
    subst
    (λ (s : Direction). OnOk c.push_chain-in-Inbound.result
    (AddsChain (own_name s) c.args.rules.items c.args.chains.now.items c.push_chain-in-Inbound.new.chains.items))
    (sym c.in-Inbound.is) c.push_chain-in-Inbound.ensures
