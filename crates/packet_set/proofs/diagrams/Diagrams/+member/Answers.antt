use Rattle.std.proofs.Common.{◌≡◌, ℕ, ◌<◌, ◌≤◌, inl, inr, subst, sym, ◌∙◌}
use Rattle.packet_set.specs.Nodes.{AreNodes, node_at}
use Rattle.packet_set.proofs.HasLaws.{node_by}
use Rattle.packet_set.proofs.MemberLaws.{member_all, member_high, member_low, member_rest}
use Rattle.packet_set.proofs.diagrams.Diagrams.+member.Goals.{then-is_some-via-then-is_some, then-is_some-via-else-is_some+then-number_of-node}
use Rattle.packet_set.proofs.diagrams.Diagrams.+member.Goals as goal

pub returns-then-set-lt2 : goal.returns-then-set-lt2
returns-then-set-lt2 t c =
    member_all c.args.self.now c.args.set c.args.within.now c.least_if.result c.if-set-lt2.true c.requires.is_box c.least_if.ensures

pub returns-then-node-number_of : goal.returns-then-node-number_of
returns-then-node-number_of t c =
    let nodes = c.args.self.now in
    let node = c.index-node.result.now in
    let are : AreNodes nodes = subst AreNodes c.self.view_is c.self.invariant.nodes_too in
    let is : node ≡ node_at nodes c.args.set = node_by nodes c.self.inside.nodes.items c.args.set node c.self.view_is c.requires.there c.index-node.ensures in
    member_high nodes c.args.set node c.args.within.now are c.if-set-lt2.false c.requires.there is c.member.result
    (subst (λ (n : ℕ). node.last < n) c.number_of.ensures c.if-node-number_of.true) c.member.ensures

pub returns : goal.returns
returns t c =
    let nodes = c.args.self.now in
    let node = c.index-node.result.now in
    let are : AreNodes nodes = subst AreNodes c.self.view_is c.self.invariant.nodes_too in
    let is : node ≡ node_at nodes c.args.set = node_by nodes c.self.inside.nodes.items c.args.set node c.self.view_is c.requires.there c.index-node.ensures in
    member_rest nodes c.args.set node c.args.within.now are c.if-set-lt2.false c.requires.there is c.up_to.result c.up_to.ensures.is_box
    c.up_to.ensures.greatest c.up_to.ensures.inside c.up_to.ensures.within c.member-low.result c.member-low.ensures
    c.beyond.result c.member-2.result (sym c.is_some.ensures ∙ c.if-is_some.false) c.beyond.ensures.inside c.beyond.ensures.within c.member-2.ensures

pub returns-then-is_some : goal.returns-then-is_some
returns-then-is_some t c =
    let nodes = c.args.self.now in
    let node = c.index-node.result.now in
    let are : AreNodes nodes = subst AreNodes c.self.view_is c.self.invariant.nodes_too in
    let is : node ≡ node_at nodes c.args.set = node_by nodes c.self.inside.nodes.items c.args.set node c.self.view_is c.requires.there c.index-node.ensures in
    member_low nodes c.args.set node c.args.within.now are c.if-set-lt2.false c.requires.there is c.up_to.result c.up_to.ensures.is_box
    c.up_to.ensures.greatest c.up_to.ensures.inside c.up_to.ensures.within c.member-low.result c.member-low.ensures
    (elim c.then-is_some.branch [
      | then-is_some-via-then-is_some w ↦ inl (sym c.is_some.ensures ∙ w.if-is_some.true)
      | then-is_some-via-else-is_some+then-number_of-node w ↦ inr (subst (λ (n : ℕ). n ≤ node.last) w.number_of-else-is_some.ensures w.if-number_of-node.true)
    ])
