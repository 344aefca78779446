use Rattle.std.proofs.Common.{◌∙◌, ◌++◌, ap, Bool, List}
use Rattle.std.specs.List.{flat_map}
use Rattle.host_net.specs.declared.prefix.Prefix.{Prefix}
use Rattle.ipt_rules.specs.declared.rule.Rule.{Rule}
use Rattle.emit_core.specs.Layout.{to_prefix}
use Rattle.emit_core.specs.inner.Link.{Link, link_of, prefix_rules}
use Rattle.emit_core.proofs.LinkLaws.{link_prefix}
use Rattle.emit_core.proofs.Steps.{grow_each}
use Rattle.emit_core.proofs.host_chain.HostChain.push_to_hosts.Goals as goal

pub loop-to-preserved : goal.loop-to-preserved
loop-to-preserved c =
    let chain = c.args.self.now in
    let policy = chain.policy.now in
    let rules = c.loop-to.rules.items in
    let prefixes = c.prefixes.result.now in
    grow_each (to_prefix chain.side policy chain.host chain.rest) _ _ _ _ _ _
    c.prefixes.ensures c.loop-to.invariant
    (c.in_ok-push_to_host.ensures
    ∙ ap (λ (l : Link). rules ++ flat_map (prefix_rules l c.is_open-opened.result) prefixes) c.link.ensures
    ∙ ap (λ (b : Bool). rules ++ flat_map (prefix_rules (link_of chain.side policy chain.host c.loop-to.to) b) prefixes)
    c.is_open-opened.ensures
    ∙ ap (λ (written : Prefix → List Rule). rules ++ flat_map written prefixes)
    (link_prefix chain.side policy chain.host chain.rest c.loop-to.to))
