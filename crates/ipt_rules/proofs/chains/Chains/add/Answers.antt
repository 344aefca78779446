use Rattle.std.proofs.Common.{◌<◌, length}
use Rattle.std.specs.Prelude.{IsNone}
use Rattle.ipt_rules.specs.Chain.{number_of}
use Rattle.ipt_rules.proofs.TableLaws.{IsChainList-added}
use Rattle.ipt_rules.proofs.chains.Chains.add.Goals as goal

pub invariant_of-self-2 : goal.invariant_of-self-2
invariant_of-self-2 c =
    let room : length c.self.inside.chains.items < 65536 = rw c.self.view_is c.requires.room in
    let unused : IsNone (number_of c.self.inside.chains.items c.args.name) = rw c.self.view_is c.requires.unused in
    rw (c.in_ok-push.ensures.items, c.new.ensures, c.head.ensures.head) (IsChainList-added c.self.inside.chains.items c.self.inside.rules c.args.name room c.head.ensures.legal unused c.self.invariant)
