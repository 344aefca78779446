use Rattle.std.proofs.Common.{◌≡◌, ◌∙◌, ◌++◌, ◌∷◌, [], Bool, List, ℕ, ap, arith, length, subst}
use Rattle.std.proofs.lemmas.Result.{IfOk-weaker}
use Rattle.ipt_rules.specs.declared.rule.Rule.{Rule as ChainRule}
use Rattle.ipt_rules.specs.declared.rule.Target.TheVariants.{Drop as ToDrop}
use Rattle.ipt_rules.specs.Chain.{user_chain}
use Rattle.ipt_rules.specs.ChainTable.{rule_count}
use Rattle.ipt_rules.proofs.ChainLaws.{rule_count_added}
use Rattle.nft_chains.specs.Translation.{chain_of, every_packet, rules_of_rules}
use Rattle.nft_chains.specs.inner.Building.{Adds, Appends, Fills}
use Rattle.nft_chains.proofs.FillLaws.{chain_long, fills_adds}
use Rattle.nft_chains.proofs.chains.add_chain.Goals as goal

pub returns-then-not-branch : goal.returns-then-not-branch
returns-then-not-branch c =
    let all : c.new-rules.result.items ++ rules_of_rules c.deref.result.now ≡ rules_of_rules c.args.chain.now.rules.items =
    ap (λ (rs : List ChainRule). rs ++ rules_of_rules c.deref.result.now) c.new-rules.ensures.items ∙ ap rules_of_rules c.deref.ensures.value in
    let long = subst (λ (b : Bool). Appends c.new-rules.result.items (rules_of_rules c.deref.result.now) c.push_rules.new.rules.items b)
    c.if-not-branch.true c.in_ok-push_rules.ensures.added in
    chain_long c.args.filled.now.chains c.args.place c.args.chain.now (omega (arith, long, ap length all))

pub fill_counted-requires-clause-counted : goal.fill_counted-requires-clause-counted
fill_counted-requires-clause-counted c =
    let counted = c.requires.counted.counted in
    record {
      counted = omega (
        arith,
        counted,
        ap rule_count c.in_ok-number.ensures.ok,
        rule_count_added c.args.filled.now.chains c.in_ok-chain_name.field-0,
      );
      few = c.requires.counted.few;
    }

pub returns : goal.returns
returns c =
    let old = c.args.filled.now.chains in
    let added : c.push_rules.new.rules.items ≡ c.new-rules.result.items ++ rules_of_rules c.deref.result.now =
    subst (λ (b : Bool). Appends c.new-rules.result.items (rules_of_rules c.deref.result.now) c.push_rules.new.rules.items b)
    c.if-not-branch.false c.in_ok-push_rules.ensures.added in
    let all : c.push_rules.new.rules.items ≡ rules_of_rules c.args.chain.now.rules.items =
    added ∙ ap (λ (rs : List ChainRule). rs ++ rules_of_rules c.deref.result.now) c.new-rules.ensures.items
    ∙ ap rules_of_rules c.deref.ensures.value in
    let rules : c.deref-2.result.now ≡ rules_of_rules c.args.chain.now.rules.items ++ every_packet ToDrop ∷ [] =
    c.deref-2.ensures.value ∙ c.in_ok-push.ensures.items
    ∙ ap (λ (r : ChainRule). c.push_rules.new.rules.items ++ r ∷ []) c.every_packet.ensures
    ∙ ap (λ (rs : List ChainRule). rs ++ every_packet ToDrop ∷ []) all in
    IfOk-weaker c.fill_counted.result
    (Fills c.add.new.self c.in_ok-number.number c.deref-2.result.now c.fill_counted.new.filled.chains c.fill_counted.new.filled.count)
    (Adds old (chain_of c.args.place c.args.chain.now) c.fill_counted.new.filled.chains c.fill_counted.new.filled.count)
    (λ b fills. fills_adds old c.add.new.self c.fill_counted.new.filled.chains c.args.place c.in_ok-number.number c.args.chain.now
    c.deref-2.result.now c.fill_counted.new.filled.count b
    (c.in_ok-number.ensures.ok ∙ ap (λ (name : List ℕ). old ++ user_chain name ∷ []) c.in_ok-chain_name.ensures)
    c.in_ok-number.ensures.number rules fills) c.fill_counted.ensures
