use Rattle.std.proofs.Common.{◌≡◌, slice_set, Some}
use Rattle.ipt_rules.specs.Chain.{with_policy}
use Rattle.ipt_rules.proofs.ChainLaws.{set_changed}
use Rattle.ipt_rules.proofs.TableLaws.{has_built_in, IsChainList-with_policy}
use Rattle.ipt_rules.proofs.chains.Chains.set_policy.Goals as goal

changed : (c : goal.After-self-1) → slice_set c.self.inside.chains.items c.args.chain c.set_policy.new.self ≡ with_policy c.self.inside.chains.items c.args.chain c.args.policy
unfolding with_policy
changed c =
    set_changed c.self.inside.chains.items c.args.chain c.index_mut-changed.result.now c.set_policy.new.self (λ x. record x { policy = Some c.args.policy }) (has_built_in c.self.inside.chains.items c.args.chain (c.self.invariant.table.built_in c.args.chain c.requires)) c.index_mut-changed.ensures.value c.set_policy.ensures

pub invariant_of-self : goal.invariant_of-self
invariant_of-self c =
    rw (changed c) (IsChainList-with_policy c.self.inside.chains.items c.self.inside.rules c.args.chain c.args.policy c.requires c.self.invariant)

pub returns : goal.returns
returns c = rw (← c.self.view_is) (changed c)
