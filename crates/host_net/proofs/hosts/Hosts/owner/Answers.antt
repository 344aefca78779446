use Rattle.std.proofs.Common.{◌≡◌, ◌∙◌}
use Rattle.std.specs.Option.{option_or}
use Rattle.host_net.specs.Host.{prefix_owner_of, owner_of}
use Rattle.host_net.specs.inner.Hosts.{IsHosts}
use Rattle.host_net.proofs.OwnerLaws.{owner_of_covered, owner_of_uncovered}
use Rattle.host_net.proofs.hosts.Hosts.owner.Goals as goal

pub returns : goal.returns
unfolding owner_of
returns c =
    let held : c.prefix_owner.result ≡ prefix_owner_of c.args.self.now c.args.addr =
    rw (← c.self.view_is, c.prefix_owner.ensures, c.deref.ensures.value) (c.self.invariant.1.held c.args.addr) in
    let exact : c.or.result ≡ owner_of c.args.self.now c.args.addr = c.or.ensures ∙ (λ i. option_or (held i) (c.rest.ensures i)) in
    let known : IsHosts c.args.self.now = rw c.self.view_is at c.self.invariant.0 in
    record {
      exact = exact;
      sole = λ host h there own. exact ∙ owner_of_covered c.args.self.now host h c.args.addr known there own;
      unowned = λ none. exact ∙ owner_of_uncovered c.args.self.now c.args.addr none;
    }
