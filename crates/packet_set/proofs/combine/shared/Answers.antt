use Rattle.packet_set.proofs.KnownLaws.{and_empty_left, and_empty_right, and_every_left, and_every_right, and_same}
use Rattle.packet_set.proofs.combine.shared.Goals as goal

pub returns-then-left-eq-EMPTY-clause-exact : goal.returns-then-left-eq-EMPTY-clause-exact
returns-then-left-eq-EMPTY-clause-exact c = λ nodes p. and_empty_left nodes p c.args.left c.args.right c.if-left-eq-EMPTY.true

pub returns-then-right-eq-EMPTY-clause-exact : goal.returns-then-right-eq-EMPTY-clause-exact
returns-then-right-eq-EMPTY-clause-exact c = λ nodes p. and_empty_right nodes p c.args.left c.args.right c.if-right-eq-EMPTY.true

pub returns-then-left-eq-EVERY-clause-exact : goal.returns-then-left-eq-EVERY-clause-exact
returns-then-left-eq-EVERY-clause-exact c = λ nodes p. and_every_left nodes p c.args.left c.args.right c.if-left-eq-EVERY.true

pub returns-then-right-eq-EVERY-clause-exact : goal.returns-then-right-eq-EVERY-clause-exact
returns-then-right-eq-EVERY-clause-exact c = λ nodes p. and_every_right nodes p c.args.left c.args.right c.if-right-eq-EVERY.true

pub returns-then-left-right-clause-exact : goal.returns-then-left-right-clause-exact
returns-then-left-right-clause-exact c = λ nodes p. and_same nodes p c.args.left c.args.right c.if-left-right.true
