use Rattle.std.proofs.Common.{◌≡◌, true, ◌<◌, ◌∷◌, [], ◌++◌, length, slice_set}
use Rattle.ipt_rules.specs.inner.Addresses.{addresses_fit}
use Rattle.ipt_rules.specs.Chain.{with_rule}
use Rattle.ipt_rules.proofs.ChainLaws.{set_changed}
use Rattle.ipt_rules.proofs.TableLaws.{IsChainList-with_rule}
use Rattle.ipt_rules.proofs.chains.Chains.rule.Goals as goal

there : (c : goal.After-self-2-1) → c.args.chain < length c.self.inside.chains.items
there c = rw c.self.view_is c.requires.there

changed : (c : goal.After-self-2-1) → slice_set c.self.inside.chains.items c.args.chain c.push.new.self ≡ with_rule c.self.inside.chains.items c.args.chain c.args.rule
unfolding with_rule
changed c =
    set_changed c.self.inside.chains.items c.args.chain c.index_mut-changed.result.now c.push.new.self (λ x. record x { rules = x.rules ++ c.args.rule ∷ [] }) (there c) c.index_mut-changed.ensures.value c.in_ok-push.ensures.ok

fit : (c : goal.After-self-2-1) → addresses_fit c.args.rule ≡ true
fit c = c.push.ensures.fits

pub invariant_of-self-2 : goal.invariant_of-self-2
invariant_of-self-2 c =
    rw (changed c) (IsChainList-with_rule c.self.inside.chains.items c.self.inside.rules c.args.chain c.args.rule (there c) (fit c) c.requires.parts c.self.invariant)

pub returns-clause-ok : goal.returns-clause-ok
returns-clause-ok c = rw (← c.self.view_is) (changed c)
