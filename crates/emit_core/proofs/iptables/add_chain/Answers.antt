use Rattle.std.proofs.Common.{◌∙◌, List, ◌++◌, ◌∷◌, [], None, ℕ, ap, arith}
use Rattle.ipt_rules.specs.Chain.{Chain, user_chain}
use Rattle.ipt_rules.proofs.ChainLaws.{rule_count-append}
use Rattle.ipt_rules.specs.ChainTable.{rule_count}
use Rattle.emit_core.specs.inner.Filling.{with_rules}
use Rattle.emit_core.proofs.FillingLemmas.{with_rules-last}
use Rattle.emit_core.proofs.iptables.add_chain.Goals as goal

pub fill-requires-clause-room : goal.fill-requires-clause-room
fill-requires-clause-room c =
    omega (
      arith,
      ap rule_count c.in_ok-chain.ensures.ok,
      rule_count-append c.args.chains.now (user_chain c.in_ok-host_chain_name.field-0 ∷ []),
      c.requires.few_rules,
    )

pub returns : goal.returns
returns c =
    let chains = c.args.chains.now in
    let rules = c.args.rules.now in
    let name = c.in_ok-host_chain_name.field-0 in
    c.in_ok-fill.ensures.added
    ∙ ap (λ (x : List Chain). with_rules x c.in_ok-chain.chain rules) c.in_ok-chain.ensures.ok
    ∙ ap (λ (n : ℕ). with_rules (chains ++ user_chain name ∷ []) n rules) c.in_ok-chain.ensures.number
    ∙ with_rules-last chains (user_chain name) rules
    ∙ ap (λ (x : List ℕ). chains ++ record { name = x; policy = None; rules = rules } ∷ []) c.in_ok-host_chain_name.ensures
