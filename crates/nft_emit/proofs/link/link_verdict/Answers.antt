use Rattle.std.proofs.Common.{◌∙◌, ◌++◌, true, false, List, map, subst, sym}
use Rattle.host_net.specs.Services.{services_of}
use Rattle.emit_core.specs.Directions.{permits}
use Rattle.emit_core.specs.inner.Link.{served}
use Rattle.nft_rules.specs.declared.table.End.TheVariants.{Source, Destination}
use Rattle.nft_rules.specs.declared.table.MatchRule.{MatchRule}
use Rattle.nft_rules.specs.declared.table.Rule.TheVariants.{Match}
use Rattle.nft_emit.specs.inner.Building.{AreAccepting, HasRules}
use Rattle.nft_emit.specs.inner.Links.{accepts}
use Rattle.nft_emit.proofs.LinkLaws.{both_accepting}
use Rattle.nft_emit.proofs.SendLaws.{link_accepts}
use Rattle.nft_emit.proofs.link.link_verdict.Goals as goal

pub class_of-requires-clause-accepting : goal.class_of-requires-clause-accepting
class_of-requires-clause-accepting c =
    let policy = c.args.policy.now in
    let flow_is = c.services_in-flow.ensures ∙ (λ k. served (permits (c.permitted.ensures.flows k) c.args.from c.args.to) (services_of (c.services-services.ensures.value k) c.args.from c.args.to)) in
    let answers_is = c.services_in-answers.ensures ∙ (λ k. served (permits (c.stateful.ensures.flows k) c.args.to c.args.from) (services_of (c.services-services.ensures.value k) c.args.to c.args.from)) in
    let rules_is = c.in_ok-rules.ensures ∙ (λ k. accepts false Destination (flow_is k) ++ accepts true Source (answers_is k)) in
    subst AreAccepting (sym (c.deref.ensures.value ∙ rules_is))
    (both_accepting (permits policy.permitted c.args.from c.args.to) (permits policy.stateful c.args.to c.args.from)
    (services_of policy.site.services c.args.from c.args.to) (services_of policy.site.services c.args.to c.args.from)
    (c.requires.services.valid c.args.from c.args.to) (c.requires.services.valid c.args.to c.args.from))

pub returns-clause-built : goal.returns-clause-built
returns-clause-built c = c.in_ok-number.ensures.built c.args.policy.now.site.hosts c.args.from c.requires.built

pub returns-clause-fits : goal.returns-clause-fits
returns-clause-fits c =
    let policy = c.args.policy.now in
    let flow_is = c.services_in-flow.ensures ∙ (λ k. served (permits (c.permitted.ensures.flows k) c.args.from c.args.to) (services_of (c.services-services.ensures.value k) c.args.from c.args.to)) in
    let answers_is = c.services_in-answers.ensures ∙ (λ k. served (permits (c.stateful.ensures.flows k) c.args.to c.args.from) (services_of (c.services-services.ensures.value k) c.args.to c.args.from)) in
    let rules_is = c.in_ok-rules.ensures ∙ (λ k. accepts false Destination (flow_is k) ++ accepts true Source (answers_is k)) in
    link_accepts c.class_of.new.chains.list.items policy c.args.from c.args.to c.in_ok-number.number c.in_ok-rules.rules.items c.requires.services rules_is
    (subst (λ (rs : List MatchRule). HasRules c.class_of.new.chains.list.items c.in_ok-number.number (map Match rs)) c.deref.ensures.value c.in_ok-number.ensures.rules)
