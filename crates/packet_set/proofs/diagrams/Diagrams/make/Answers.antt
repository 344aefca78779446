use Rattle.std.proofs.Common.{rules, sym, subst, ◌<◌, length, List}
use Rattle.packet_set.specs.declared.node.Node.{Node}
use Rattle.packet_set.specs.Nodes.{AreNodes}
use Rattle.packet_set.proofs.HasLaws.{keeps_by, set_by}
use Rattle.packet_set.proofs.KeptLaws.{kept_pushed, set_found}
use Rattle.packet_set.proofs.diagrams.Diagrams.make.Goals as goal

pub returns-clause-keeps : goal.returns-clause-keeps
returns-clause-keeps c =
    keeps_by c.args.self.now c.self.inside.nodes.items c.push.new.self.items c.args.node c.self.view_is c.self.invariant.nodes_too c.in_ok-push.ensures.items

pub returns-clause-set : goal.returns-clause-set
returns-clause-set c =
    set_by c.args.self.now c.self.inside.nodes.items c.push.new.self.items c.args.node c.len-set.result c.self.view_is c.self.invariant.nodes_too c.in_ok-push.ensures.items
    (search (rules, c.len-set.ensures)) c.requires.low c.requires.high

pub returns-in-Some-clause-set : goal.returns-in-Some-clause-set
returns-in-Some-clause-set c =
    set_found c.args.self.now c.in-Some.set c.args.node (subst AreNodes c.self.view_is c.self.invariant.nodes_too) c.in-Some.ensures.0 c.in-Some.ensures.1 c.in-Some.ensures.2

pub invariant_of-self-2 : goal.invariant_of-self-2
invariant_of-self-2 c =
    kept_pushed c.self.inside.nodes.items c.push.new.self.items c.self.inside.memo.items c.args.node c.self.invariant c.in_ok-push.ensures.items
    (subst (λ (xs : List Node). c.args.node.low < length xs) (sym c.self.view_is) c.requires.low)
    (subst (λ (xs : List Node). c.args.node.high < length xs) (sym c.self.view_is) c.requires.high)
