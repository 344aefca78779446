use Rattle.packet_set.proofs.KnownLaws.{less_empty_left, less_empty_right, less_every, less_same}
use Rattle.packet_set.proofs.combine.removed.Goals as goal

pub returns-then-left-eq-EMPTY-clause-exact : goal.returns-then-left-eq-EMPTY-clause-exact
returns-then-left-eq-EMPTY-clause-exact c = λ nodes p. less_empty_left nodes p c.args.left c.args.right c.if-left-eq-EMPTY.true

pub returns-then-right-eq-EVERY-clause-exact : goal.returns-then-right-eq-EVERY-clause-exact
returns-then-right-eq-EVERY-clause-exact c = λ nodes p. less_every nodes p c.args.left c.args.right c.if-right-eq-EVERY.true

pub returns-then-right-eq-EMPTY-clause-exact : goal.returns-then-right-eq-EMPTY-clause-exact
returns-then-right-eq-EMPTY-clause-exact c = λ nodes p. less_empty_right nodes p c.args.left c.args.right c.if-right-eq-EMPTY.true

pub returns-then-left-right-clause-exact : goal.returns-then-left-right-clause-exact
returns-then-left-right-clause-exact c = λ nodes p. less_same nodes p c.args.left c.args.right c.if-left-right.true
