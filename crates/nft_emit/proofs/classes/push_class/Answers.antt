use Rattle.std.proofs.Common.{◌∙◌, ℕ, List, map, ap, arith, length, subst, sym}
use Rattle.nft_rules.specs.declared.table.Chain.{Chain}
use Rattle.nft_rules.specs.declared.table.Rule.TheVariants.{Match}
use Rattle.nft_emit.specs.inner.Building.{AreBuilt, HasRules, services_name}
use Rattle.nft_emit.proofs.BuildLaws.{class_built, has_rules_pushed}
use Rattle.nft_emit.proofs.classes.push_class.Goals as goal

pub returns-clause-built : goal.returns-clause-built
returns-clause-built c = λ hosts from built.
    let old = c.args.chains.now.items in
    let new : Chain = record { name = c.in_ok-name.name; rules = c.in_ok-rules.rules } in
    subst (λ (xs : List Chain). AreBuilt hosts from xs) (sym c.in_ok-push.ensures.items)
    (class_built old new c.args.rules.now (omega (arith, c.requires.room)) c.requires.accepting c.in_ok-rules.ensures
    (c.in_ok-name.ensures ∙ ap services_name (c.len-number.ensures ∙ c.args.chains.now.ok.0)) hosts from built)

pub returns-clause-rules : goal.returns-clause-rules
returns-clause-rules c =
    let old = c.args.chains.now.items in
    let new : Chain = record { name = c.in_ok-name.name; rules = c.in_ok-rules.rules } in
    subst (λ (n : ℕ). HasRules c.push.new.self.items n (map Match c.args.rules.now)) (sym (c.len-number.ensures ∙ c.args.chains.now.ok.0))
    (subst (λ (xs : List Chain). HasRules xs (length old) (map Match c.args.rules.now)) (sym c.in_ok-push.ensures.items)
    (has_rules_pushed old new (map Match c.args.rules.now) c.in_ok-rules.ensures))
