use Rattle.std.proofs.Common.{subst, sym}
use Rattle.nft_rules.specs.declared.table.Verdict.TheVariants.{Accept}
use Rattle.nft_rules.specs.Loadable.{LeadBelow}
use Rattle.nft_chains.specs.inner.Building.{table_limit}
use Rattle.nft_chains.proofs.FillLaws.{lead_below_at}
use Rattle.nft_chains.proofs.rules.push_map.Goals as goal

pub push_element-requires-clause-target : goal.push_element-requires-clause-target
push_element-requires-clause-target c =
    lead_below_at table_limit c.deref-element-items.result.now c.loop-element.element-index
    (record { range = record { first = 0; last = 0 }; verdict = Accept }) c.loop-element-test.true
    (subst (LeadBelow table_limit) (sym c.deref-element-items.ensures.value) c.requires.targets)
