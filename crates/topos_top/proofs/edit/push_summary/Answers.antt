use Rattle.std.proofs.Common.{◌++◌, decimal}
use Rattle.std.specs.Prelude.{codes}
use Rattle.topos_top.proofs.Growing.{grew}
use Rattle.topos_top.proofs.edit.push_summary.Goals as goal

pub returns : goal.returns
returns c =
    let s = c.args.summary.now in
    let result = c.push_numbered-5.result in
    let whole = c.push_numbered-5.new.text.items in
    let last = decimal s.failing ++ codes "\n" in
    let third = decimal s.stateful ++ (codes " failing " ++ last) in
    let second = decimal s.permitted ++ (codes " stateful " ++ third) in
    let first = decimal s.asked ++ (codes " permitted " ++ second) in
    grew result c.args.text.now.items c.push_numbered.new.text.items whole (decimal c.args.number) (codes " asked ") first c.in_ok-push_numbered.ensures
    (grew result c.push_numbered.new.text.items c.push_numbered-2.new.text.items whole (decimal s.asked) (codes " permitted ") second c.in_ok-push_numbered-2.ensures
    (grew result c.push_numbered-2.new.text.items c.push_numbered-3.new.text.items whole (decimal s.permitted) (codes " stateful ") third c.in_ok-push_numbered-3.ensures
    (grew result c.push_numbered-3.new.text.items c.push_numbered-4.new.text.items whole (decimal s.stateful) (codes " failing ") last c.in_ok-push_numbered-4.ensures c.push_numbered-5.ensures)))
