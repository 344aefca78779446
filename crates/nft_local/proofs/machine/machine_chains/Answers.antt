use Rattle.std.proofs.Common.{ℕ, ◌∙◌, subst}
use Rattle.emit_core.specs.declared.direction.Direction.TheVariants.{Outbound, Inbound}
use Rattle.nft_local.specs.inner.Entries.{AddsSide}
use Rattle.nft_local.proofs.machine.machine_chains.Goals as goal

pub returns : goal.returns
returns c =
    let place = c.len-flows.ensures ∙ c.args.chains.ok.0 in
    let one = c.push_chain.new.chains.items in
    let two = c.push_side.new.chains.items in
    record {
      one = one;
      two = two;
      flows = c.in_ok-push_chain.ensures;
      out = subst (λ (n : ℕ). AddsSide c.args.hosts.now c.args.host Outbound n one two) place c.in_ok-push_side.ensures;
      into = subst (λ (n : ℕ). AddsSide c.args.hosts.now c.args.host Inbound n two c.push_side-2.new.chains.items) place c.in_ok-push_side-2.ensures;
    }
