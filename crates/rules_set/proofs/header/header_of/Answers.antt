use Rattle.std.proofs.Common.{◌≡◌, ◌&&◌, refl, sym, ◌∙◌}
use Rattle.header_space.specs.Matching.{field_fits}
use Rattle.header_space.proofs.MayFitLaws.{field_none}
use Rattle.ipt_rules.specs.Matching.{address_matches, state_matches}
use Rattle.ipt_rules.proofs.HeaderLemmas.{both_fit, not_by_dst, not_by_src, not_by_state, reordered}
use Rattle.rules_set.proofs.header.header_of.Goals as goal

pub returns-then-not-is_for-clause-none : goal.returns-then-not-is_for-clause-none
returns-then-not-is_for-clause-none c = λ none p inside.
    not_by_state p c.args.state c.args.rule.now (sym c.is_for.ensures ∙ c.if-not-is_for.true)

pub returns-then-not-field_may_fit-clause-none : goal.returns-then-not-field_may_fit-clause-none
returns-then-not-field_may_fit-clause-none c = λ none p inside.
    not_by_src p c.args.state c.args.rule.now
    (c.address_field-src.ensures p.src
    ∙ field_none c.address_field-src.result c.args.within.now.least.src c.args.within.now.greatest.src p.src inside.above.src inside.below.src
    (sym c.field_may_fit.ensures ∙ c.if-not-field_may_fit.true))

pub returns-then-not-field_may_fit-2-clause-none : goal.returns-then-not-field_may_fit-2-clause-none
returns-then-not-field_may_fit-2-clause-none c = λ none p inside.
    not_by_dst p c.args.state c.args.rule.now
    (c.address_field-dst.ensures p.dst
    ∙ field_none c.address_field-dst.result c.args.within.now.least.dst c.args.within.now.greatest.dst p.dst inside.above.dst inside.below.dst
    (sym c.field_may_fit-2.ensures ∙ c.if-not-field_may_fit-2.true))

pub returns-clause-header : goal.returns-clause-header
returns-clause-header c = λ p inside.
    let rule = c.args.rule.now in
    let state = state_matches rule.state c.args.state in
    let src : address_matches rule.src p.src ≡ field_fits c.needed.result p.src =
    c.address_field-src.ensures p.src ∙ sym (c.needed.ensures p.src inside.above.src inside.below.src) in
    let dst : address_matches rule.dst p.dst ≡ field_fits c.needed-2.result p.dst =
    c.address_field-dst.ensures p.dst ∙ sym (c.needed-2.ensures p.dst inside.above.dst inside.below.dst) in
    let asked = field_fits c.needed.result p.src && (field_fits c.needed-2.result p.dst && (field_fits c.protocol_field.result p.proto && (field_fits c.port_field.result p.sport && field_fits c.port_field-2.result p.dport))) in
    (λ i. c.protocol_field.ensures p.proto i && (c.port_field.ensures p.sport i && (c.port_field-2.ensures p.dport i && (src i && (dst i && state)))))
    ∙ (reordered (field_fits c.needed.result p.src) (field_fits c.needed-2.result p.dst) (field_fits c.protocol_field.result p.proto) (field_fits c.port_field.result p.sport) (field_fits c.port_field-2.result p.dport) state
    ∙ both_fit asked asked state refl (sym c.is_for.ensures ∙ c.if-not-is_for.false))
