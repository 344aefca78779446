use Rattle.std.proofs.Common.{◌∷◌, ◌++◌, [], List, refl, ap, ◌∙◌}
use Rattle.nft_rules.specs.declared.table.Chain.{Chain}
use Rattle.nft_rules.specs.declared.table.Verdict.TheVariants.{Accept, Goto}
use Rattle.nft_local.specs.HostTable.{own_name}
use Rattle.nft_local.specs.inner.Entries.{AddsChain, AddsSide, far_end, near_end}
use Rattle.nft_local.proofs.EntryLaws.{entry_chain, on_ok}
use Rattle.nft_local.proofs.entries.push_side.Goals as goal

pub returns : goal.returns
returns c =
    let hosts = c.args.hosts.now in
    let side = c.args.side in
    let old = c.args.chains.now.items in
    let loopback = c.in_ok-push_loopback.ensures in
    let place = c.len-loopback.ensures ∙ c.args.chains.now.ok.0 in
    on_ok c.push_own.result (AddsChain (own_name side) c.in_ok-rules-2.rules.items c.push_loopback.new.chains.items c.push_own.new.chains.items)
    (AddsSide hosts c.args.host side c.args.flows old c.push_own.new.chains.items)
    (λ own. (
      loopback.0,
      own.0,
      own.1 ∙ ap (λ (xs : List Chain). xs ++ own.0 ∷ []) loopback.1,
      record {
        loopback =
            entry_chain hosts c.args.host c.args.flows (near_end side) (far_end side) c.near_end.result c.far_end.result Accept Accept c.in_ok-own.own.items
            c.in_ok-rules.rules.items loopback.0 c.near_end.ensures c.far_end.ensures refl c.in_ok-own.ensures c.in_ok-rules.ensures loopback.2.rules_are;
        loopback_named = loopback.2.named;
        own =
            entry_chain hosts c.args.host c.args.flows (near_end side) (near_end side) c.near_end-2.result c.near_end-3.result _ (Goto c.len-loopback.result)
            c.in_ok-own-2.own.items c.in_ok-rules-2.rules.items own.0 c.near_end-2.ensures c.near_end-3.ensures (ap (λ n. Goto n) place)
            c.in_ok-own-2.ensures c.in_ok-rules-2.ensures own.2.rules_are;
        own_named = own.2.named;
      },
    ))
    c.push_own.ensures
