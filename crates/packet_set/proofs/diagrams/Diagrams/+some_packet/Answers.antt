use Rattle.std.proofs.Common.{◌≡◌, ℕ, ◌<◌, inl, inr, subst, sym, ◌∙◌, true≢false}
use Rattle.packet_set.specs.Nodes.{AreNodes, node_at}
use Rattle.packet_set.proofs.FindLaws.{dport_from, dport_to, found_all, found_high, found_low, found_rest, proto_from, proto_to}
use Rattle.packet_set.proofs.HasLaws.{node_by}
use Rattle.packet_set.proofs.diagrams.Diagrams.+some_packet.Goals.{then-is_some-via-then-is_some, then-is_some-via-else-is_some+then-is_last}
use Rattle.packet_set.proofs.diagrams.Diagrams.+some_packet.Goals as goal

pub returns-then-set-lt2 : goal.returns-then-set-lt2
returns-then-set-lt2 t c =
    found_all c.args.self.now c.args.set c.args.within.now c.all_or_none.result c.if-set-lt2.true c.requires.is_box c.all_or_none.ensures.packet
    c.all_or_none.ensures.proto c.all_or_none.ensures.dport

pub returns-then-node-number_of : goal.returns-then-node-number_of
returns-then-node-number_of t c =
    let nodes = c.args.self.now in
    let node = c.index-node.result.now in
    let are : AreNodes nodes = subst AreNodes c.self.view_is c.self.invariant.nodes_too in
    let is : node ≡ node_at nodes c.args.set = node_by nodes c.self.inside.nodes.items c.args.set node c.self.view_is c.requires.there c.index-node.ensures in
    found_high nodes c.args.set node c.args.within.now are c.if-set-lt2.false c.requires.there is c.some_packet.result
    (subst (λ (n : ℕ). node.last < n) c.number_of.ensures c.if-node-number_of.true) c.some_packet.ensures

pub returns-then-is_some : goal.returns-then-is_some
returns-then-is_some t c =
    let nodes = c.args.self.now in
    let node = c.index-node.result.now in
    let are : AreNodes nodes = subst AreNodes c.self.view_is c.self.invariant.nodes_too in
    let is : node ≡ node_at nodes c.args.set = node_by nodes c.self.inside.nodes.items c.args.set node c.self.view_is c.requires.there c.index-node.ensures in
    found_low nodes c.args.set node c.args.within.now are c.if-set-lt2.false c.requires.there is c.up_to.result c.up_to.ensures.is_box c.up_to.ensures.least
    c.up_to.ensures.greatest c.up_to.ensures.inside c.up_to.ensures.within c.some_packet-found.result c.some_packet-found.ensures
    (elim c.then-is_some.branch [
      | then-is_some-via-then-is_some w ↦ inl (sym c.is_some.ensures ∙ w.if-is_some.true)
      | then-is_some-via-else-is_some+then-is_last w ↦ inr (w.is_last.ensures.0 w.if-is_last.true)
    ])

pub after-requires-clause-proto : goal.after-requires-clause-proto
after-requires-clause-proto t c =
    let nodes = c.args.self.now in
    let node = c.index-node.result.now in
    let are : AreNodes nodes = subst AreNodes c.self.view_is c.self.invariant.nodes_too in
    let is : node ≡ node_at nodes c.args.set = node_by nodes c.self.inside.nodes.items c.args.set node c.self.view_is c.requires.there c.index-node.ensures in (
      proto_from nodes c.args.set node c.args.within.now are c.if-set-lt2.false c.requires.there is c.up_to.result c.up_to.ensures.is_box c.up_to.ensures.least
          c.up_to.ensures.greatest c.up_to.ensures.inside c.up_to.ensures.within c.some_packet-found.result c.some_packet-found.ensures,
      proto_to nodes c.args.set node c.args.within.now are c.if-set-lt2.false c.requires.there is c.up_to.result c.up_to.ensures.is_box c.up_to.ensures.least
          c.up_to.ensures.greatest c.up_to.ensures.inside c.up_to.ensures.within c.some_packet-found.result c.some_packet-found.ensures,
    )

pub after-requires-clause-dport : goal.after-requires-clause-dport
after-requires-clause-dport t c =
    let nodes = c.args.self.now in
    let node = c.index-node.result.now in
    let are : AreNodes nodes = subst AreNodes c.self.view_is c.self.invariant.nodes_too in
    let is : node ≡ node_at nodes c.args.set = node_by nodes c.self.inside.nodes.items c.args.set node c.self.view_is c.requires.there c.index-node.ensures in (
      dport_from nodes c.args.set node c.args.within.now are c.if-set-lt2.false c.requires.there is c.up_to.result c.up_to.ensures.is_box c.up_to.ensures.least
          c.up_to.ensures.greatest c.up_to.ensures.inside c.up_to.ensures.within c.some_packet-found.result c.some_packet-found.ensures,
      dport_to nodes c.args.set node c.args.within.now are c.if-set-lt2.false c.requires.there is c.up_to.result c.up_to.ensures.is_box c.up_to.ensures.least
          c.up_to.ensures.greatest c.up_to.ensures.inside c.up_to.ensures.within c.some_packet-found.result c.some_packet-found.ensures,
    )

pub returns : goal.returns
returns t c =
    let nodes = c.args.self.now in
    let node = c.index-node.result.now in
    let are : AreNodes nodes = subst AreNodes c.self.view_is c.self.invariant.nodes_too in
    let is : node ≡ node_at nodes c.args.set = node_by nodes c.self.inside.nodes.items c.args.set node c.self.view_is c.requires.there c.index-node.ensures in
    found_rest nodes c.args.set node c.args.within.now are c.if-set-lt2.false c.requires.there is c.up_to.result c.up_to.ensures.is_box c.up_to.ensures.least
    c.up_to.ensures.greatest c.up_to.ensures.inside c.up_to.ensures.within c.some_packet-found.result c.some_packet-found.ensures
    c.after.result (λ service. true≢false (sym (c.is_last.ensures.1 (inr service)) ∙ c.if-is_last.false)) c.after.ensures.proto c.after.ensures.dport
    c.after.ensures.inside c.after.ensures.within c.some_packet-2.result c.some_packet-2.ensures (sym c.is_some.ensures ∙ c.if-is_some.false)
