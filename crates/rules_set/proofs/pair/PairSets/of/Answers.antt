use Rattle.std.proofs.Common.{◌<◌, length, arith}
use Rattle.rules_set.proofs.PairLaws.{are_sets}
use Rattle.rules_set.proofs.pair.PairSets.of.Goals as goal

pub returns-clause-sets : goal.returns-clause-sets
returns-clause-sets c =
    let one = c.accepted_by.new.diagrams in
    let two = c.among.new.self in
    let three = c.among-2.new.self in
    let four = c.combine.new.self in
    let new = c.combine-2.new.self in
    let is = c.in_ok-accepted.ensures.set in
    let there_two : c.in_ok-accepted.accepted < length two = let x = is.there in let y = c.in_ok-into.ensures.keeps.longer in omega (arith, x, y) in
    let there_three : c.in_ok-accepted.accepted < length three = let y = c.in_ok-between.ensures.keeps.longer in omega (arith, there_two, y) in
    are_sets one two three four new c.args.rules.now c.args.state c.args.within.now c.args.from.now c.args.to.now c.in_ok-accepted.accepted c.every-every.result
    c.in_ok-into.into c.in_ok-between.between c.in_ok-passing.passing c.in_ok-staying.staying is c.every-every.ensures c.in_ok-into.ensures.set
    c.in_ok-between.ensures.set c.in_ok-passing.ensures.set c.in_ok-staying.ensures.set c.in_ok-into.ensures.keeps c.in_ok-between.ensures.keeps
    c.in_ok-passing.ensures.keeps c.in_ok-staying.ensures.keeps there_two there_three c.requires
