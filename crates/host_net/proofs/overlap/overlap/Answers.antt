use Rattle.std.proofs.Common.{List, map, sym, ◌∙◌}
use Rattle.host_net.proofs.OverlapLemmas.{overlap_met, overlap_passed, overlap_end}
use Rattle.host_net.specs.declared.addresses.Addresses.{Addresses}
use Rattle.host_net.specs.declared.prefix.Prefix.{Prefix}
use Rattle.host_net.proofs.overlap.overlap.Goals as goal

pub loop-item-preserved : goal.loop-item-preserved
loop-item-preserved c =
    let owned : List (List Prefix) = map (λ (h : Addresses). h.prefixes.items) c.args.hosts.now in
    overlap_passed owned c.args.at.now c.loop-item.item c.index-at-item.result c.loop-item-test.true c.index-at-item.is
    (sym c.neighbour.ensures.place ∙ c.in_default.is)
    ∙ c.loop-item.invariant

pub returns-in-Some : goal.returns-in-Some
returns-in-Some c =
    let owned : List (List Prefix) = map (λ (h : Addresses). h.prefixes.items) c.args.hosts.now in
    sym (overlap_met owned c.args.at.now c.loop-item.item c.in-Some.other c.index-at-item.result c.loop-item-test.true c.index-at-item.is
    (sym c.neighbour.ensures.place ∙ c.in-Some.is))
    ∙ c.loop-item.invariant

pub returns : goal.returns
returns c =
    let owned : List (List Prefix) = map (λ (h : Addresses). h.prefixes.items) c.args.hosts.now in
    sym (overlap_end owned c.args.at.now c.loop-item.item c.loop-item-test.false) ∙ c.loop-item.invariant
