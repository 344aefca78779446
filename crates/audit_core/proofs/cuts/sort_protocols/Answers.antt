use Rattle.std.proofs.Common.{◌^◌}
use Rattle.audit_core.proofs.RepresentativeLemmas.{sorted_are}
use Rattle.audit_core.proofs.cuts.sort_protocols.Goals as goal

pub returns : goal.returns
returns c =
    sorted_are c.args.numbers.now.items c.sort_unstable.new.self.items c.dedup.new.self.items (2 ^ 8) c.sort_unstable.ensures.permutation
    c.sort_unstable.ensures.sorted c.dedup.ensures.filtered c.type_inv.numbers
