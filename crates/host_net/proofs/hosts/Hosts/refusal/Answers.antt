use Rattle.std.proofs.Common.{◌∙◌, sym}
use Rattle.host_net.proofs.HostsKept.{causes_behind_room}
use Rattle.host_net.proofs.hosts.Hosts.refusal.Goals as goal

pub returns : goal.returns
returns c =
    rw (
      c.or-4.ensures,
      c.or-3.ensures,
      c.or-2.ensures,
      c.or.ensures,
      c.bad_name.ensures,
      c.duplicate.ensures,
      c.no_address.ensures,
      c.two_rests.ensures,
      c.overlap.ensures,
    )
    (causes_behind_room c.args.self.now c.args.name.now c.args.at.now c.args.rest (sym c.is_full.ensures ∙ c.if-is_full.false))
