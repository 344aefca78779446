use Rattle.std.proofs.Common.{◌≡◌, ◌&&◌, sym, ◌∙◌}
use Rattle.header_space.specs.Matching.{field_fits}
use Rattle.header_space.proofs.MayFitLaws.{field_none}
use Rattle.ofp_rules.proofs.BoxLemmas.{not_by_dport, not_by_dst, not_by_sport, not_by_src, reordered}
use Rattle.ofp_rules.proofs.entry.Entry.header_within.Goals as goal

pub returns-then-not-field_may_fit-clause-none : goal.returns-then-not-field_may_fit-clause-none
returns-then-not-field_may_fit-clause-none c = λ none p inside.
    not_by_src p c.args.self.now
    (c.prefix_field-src.ensures p.src
    ∙ field_none c.prefix_field-src.result c.args.within.now.least.src c.args.within.now.greatest.src p.src inside.above.src inside.below.src
    (sym c.field_may_fit.ensures ∙ c.if-not-field_may_fit.true))

pub returns-then-not-field_may_fit-2-clause-none : goal.returns-then-not-field_may_fit-2-clause-none
returns-then-not-field_may_fit-2-clause-none c = λ none p inside.
    not_by_dst p c.args.self.now
    (c.prefix_field-dst.ensures p.dst
    ∙ field_none c.prefix_field-dst.result c.args.within.now.least.dst c.args.within.now.greatest.dst p.dst inside.above.dst inside.below.dst
    (sym c.field_may_fit-2.ensures ∙ c.if-not-field_may_fit-2.true))

pub returns-then-not-field_may_fit-4-clause-none : goal.returns-then-not-field_may_fit-4-clause-none
returns-then-not-field_may_fit-4-clause-none c = λ none p inside.
    not_by_sport p c.args.self.now
    (c.port_field-sport.ensures p.sport
    ∙ field_none c.port_field-sport.result c.args.within.now.least.sport c.args.within.now.greatest.sport p.sport inside.above.sport inside.below.sport
    (sym c.field_may_fit-4.ensures ∙ c.if-not-field_may_fit-4.true))

pub returns-then-not-field_may_fit-5-clause-none : goal.returns-then-not-field_may_fit-5-clause-none
returns-then-not-field_may_fit-5-clause-none c = λ none p inside.
    not_by_dport p c.args.self.now
    (c.port_field-dport.ensures p.dport
    ∙ field_none c.port_field-dport.result c.args.within.now.least.dport c.args.within.now.greatest.dport p.dport inside.above.dport inside.below.dport
    (sym c.field_may_fit-5.ensures ∙ c.if-not-field_may_fit-5.true))

pub returns-clause-header : goal.returns-clause-header
returns-clause-header c = λ p.
    (λ i. c.protocol_field-proto.ensures p.proto i && (c.port_field-sport.ensures p.sport i && (c.port_field-dport.ensures p.dport i && (c.prefix_field-src.ensures p.src i && c.prefix_field-dst.ensures p.dst i))))
    ∙ reordered (field_fits c.prefix_field-src.result p.src) (field_fits c.prefix_field-dst.result p.dst) (field_fits c.protocol_field-proto.result p.proto) (field_fits c.port_field-sport.result p.sport) (field_fits c.port_field-dport.result p.dport)
