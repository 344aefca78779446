use Rattle.std.proofs.Common.{refl}
use Rattle.host_net.proofs.HostsKept.{pushed, still_hosts}
use Rattle.host_net.proofs.RangesKept.{new_apart, ranges_kept, ranges_free}
use Rattle.host_net.specs.inner.Hosts.{IsHosts}
use Rattle.host_net.specs.inner.Ranges.{AreRanges}
use Rattle.host_net.proofs.hosts.Hosts.push.Goals as goal

pub with_host-requires-clause-ordered : goal.with_host-requires-clause-ordered
with_host-requires-clause-ordered c = rw c.deref.ensures.value c.self.invariant.1.ordered

pub with_host-requires-clause-apart : goal.with_host-requires-clause-apart
with_host-requires-clause-apart c =
    new_apart c.args.self.now c.args.name c.args.at.now c.args.rest (rw c.self.view_is at c.self.invariant.0) c.requires.cause

pub with_host-requires-clause-free : goal.with_host-requires-clause-free
with_host-requires-clause-free c =
    let kept : AreRanges c.args.self.now c.self.inside.ranges.items = rw c.self.view_is at c.self.invariant.1 in
    rw c.deref.ensures.value
    (ranges_free c.args.self.now c.self.inside.ranges.items c.args.name c.args.at.now c.args.rest
    (rw c.self.view_is at c.self.invariant.0) kept c.requires.cause)

pub invariant_of-self-2 : goal.invariant_of-self-2
invariant_of-self-2 c =
    let known : IsHosts c.args.self.now = rw c.self.view_is at c.self.invariant.0 in
    let kept : AreRanges c.args.self.now c.self.inside.ranges.items = rw c.self.view_is at c.self.invariant.1 in
    let grown = pushed c.args.self.now c.self.inside.known.entries c.insert.new.self.entries c.args.name _ c.args.at.now c.args.rest
    c.self.view_is c.requires.cause c.in_ok-insert.ensures.entries c.in_ok-prefixes.ensures.items refl in (
      still_hosts c.args.self.now c.self.inside.known.entries c.insert.new.self.entries c.args.name c.args.at.now c.args.rest
          c.self.view_is c.self.invariant.0 c.requires.cause c.requires.networks grown,
      rw grown
          (ranges_kept c.args.self.now c.self.inside.ranges.items c.in_ok-ranges.ranges.items c.args.name c.args.at.now c.args.rest
          c.count-host.result
          known kept c.requires.cause c.count-host.ensures.value c.in_ok-ranges.ensures.ordered
          (rw c.deref.ensures.value at c.in_ok-ranges.ensures.held)),
    )

pub returns-clause-added : goal.returns-clause-added
returns-clause-added c =
    pushed c.args.self.now c.self.inside.known.entries c.insert.new.self.entries c.args.name _ c.args.at.now c.args.rest
    c.self.view_is c.requires.cause c.in_ok-insert.ensures.entries c.in_ok-prefixes.ensures.items refl
