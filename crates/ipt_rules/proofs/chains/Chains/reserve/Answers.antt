use Rattle.std.proofs.Common.{◌≡◌, ◌<◌, ◌∙◌, length, slice_set}
use Rattle.ipt_rules.proofs.ChainLaws.{set_changed, changed_nowise}
use Rattle.ipt_rules.proofs.chains.Chains.reserve.Goals as goal

there : (c : goal.After-self-1) → c.args.chain < length c.self.inside.chains.items
there c = rw c.self.view_is c.requires

same : (c : goal.After-self-1) → slice_set c.self.inside.chains.items c.args.chain c.reserve.new.self ≡ c.self.inside.chains.items
same c =
    set_changed c.self.inside.chains.items c.args.chain c.index_mut-changed.result.now c.reserve.new.self (λ x. x) (there c) c.index_mut-changed.ensures.value c.reserve.ensures
    ∙ changed_nowise c.self.inside.chains.items c.args.chain

pub invariant_of-self : goal.invariant_of-self
invariant_of-self c = rw (same c) c.self.invariant

pub returns : goal.returns
returns c = rw (← c.self.view_is) (same c)
