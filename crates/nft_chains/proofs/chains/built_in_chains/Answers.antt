use Rattle.std.proofs.Common.{◌≡◌, ◌∙◌, ◌++◌, Bool, List, ap, arith, length, subst, sym}
use Rattle.ipt_rules.specs.declared.rule.Policy.TheVariants.{Drop as Dropping}
use Rattle.ipt_rules.specs.declared.rule.Rule.{Rule as ChainRule}
use Rattle.ipt_rules.specs.Chain.{Chain, with_policy}
use Rattle.nft_chains.specs.Translation.{built_in_of, rules_of_rules}
use Rattle.nft_chains.specs.inner.Building.{Appends, Fills}
use Rattle.nft_chains.proofs.FillLaws.{forward_filled, no_rules_yet}
use Rattle.nft_chains.proofs.chains.built_in_chains.Goals as goal

pub fill_counted-requires-clause-there : goal.fill_counted-requires-clause-there
fill_counted-requires-clause-there c =
    let started = c.set_policy.ensures ∙ ap (λ (x : List Chain). with_policy x 1 Dropping) c.in_ok-chains.ensures in
    omega (arith, (no_rules_yet c.set_policy.new.self started).0)

pub fill_counted-requires-clause-counted : goal.fill_counted-requires-clause-counted
fill_counted-requires-clause-counted c =
    let started = c.set_policy.ensures ∙ ap (λ (x : List Chain). with_policy x 1 Dropping) c.in_ok-chains.ensures in
    record { counted = sym (no_rules_yet c.set_policy.new.self started).1; few = omega arith }

pub returns-then-not-branch-2-clause-many : goal.returns-then-not-branch-2-clause-many
returns-then-not-branch-2-clause-many c =
    let start = c.set_policy.new.self in
    let started = c.set_policy.ensures ∙ ap (λ (x : List Chain). with_policy x 1 Dropping) c.in_ok-chains.ensures in
    let added : c.push_rules.new.rules.items ≡ c.new-rules.result.items ++ rules_of_rules c.args.forward.now =
    subst (λ (b : Bool). Appends c.new-rules.result.items (rules_of_rules c.args.forward.now) c.push_rules.new.rules.items b)
    c.if-not-branch.false c.in_ok-push_rules.ensures.added in
    let all : c.deref.result.now ≡ rules_of_rules c.args.forward.now =
    c.deref.ensures.value ∙ added ∙ ap (λ (rs : List ChainRule). rs ++ rules_of_rules c.args.forward.now) c.new-rules.ensures.items in
    let long = subst (λ (b : Bool). Fills start 1 c.deref.result.now c.fill_counted.new.filled.chains c.fill_counted.new.filled.count b)
    c.if-not-branch-2.true c.in_ok-fill_counted.ensures in
    omega (arith, long, ap length all, (no_rules_yet start started).1)

pub returns-clause-chains : goal.returns-clause-chains
returns-clause-chains c =
    let start = c.set_policy.new.self in
    let started = c.set_policy.ensures ∙ ap (λ (x : List Chain). with_policy x 1 Dropping) c.in_ok-chains.ensures in
    let added : c.push_rules.new.rules.items ≡ c.new-rules.result.items ++ rules_of_rules c.args.forward.now =
    subst (λ (b : Bool). Appends c.new-rules.result.items (rules_of_rules c.args.forward.now) c.push_rules.new.rules.items b)
    c.if-not-branch.false c.in_ok-push_rules.ensures.added in
    let all : c.deref.result.now ≡ rules_of_rules c.args.forward.now =
    c.deref.ensures.value ∙ added ∙ ap (λ (rs : List ChainRule). rs ++ rules_of_rules c.args.forward.now) c.new-rules.ensures.items in
    let filled = subst (λ (b : Bool). Fills start 1 c.deref.result.now c.fill_counted.new.filled.chains c.fill_counted.new.filled.count b)
    c.if-not-branch-2.false c.in_ok-fill_counted.ensures in
    filled.0 ∙ forward_filled start c.deref.result.now started ∙ ap built_in_of all
