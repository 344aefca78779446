use Rattle.packet_set.proofs.KnownLaws.{or_empty_left, or_empty_right, or_every_left, or_every_right, or_same}
use Rattle.packet_set.proofs.combine.united.Goals as goal

pub returns-then-left-eq-EMPTY-clause-exact : goal.returns-then-left-eq-EMPTY-clause-exact
returns-then-left-eq-EMPTY-clause-exact c = λ nodes p. or_empty_left nodes p c.args.left c.args.right c.if-left-eq-EMPTY.true

pub returns-then-right-eq-EMPTY-clause-exact : goal.returns-then-right-eq-EMPTY-clause-exact
returns-then-right-eq-EMPTY-clause-exact c = λ nodes p. or_empty_right nodes p c.args.left c.args.right c.if-right-eq-EMPTY.true

pub returns-then-left-eq-EVERY-clause-exact : goal.returns-then-left-eq-EVERY-clause-exact
returns-then-left-eq-EVERY-clause-exact c = λ nodes p. or_every_left nodes p c.args.left c.args.right c.if-left-eq-EVERY.true

pub returns-then-right-eq-EVERY-clause-exact : goal.returns-then-right-eq-EVERY-clause-exact
returns-then-right-eq-EVERY-clause-exact c = λ nodes p. or_every_right nodes p c.args.left c.args.right c.if-right-eq-EVERY.true

pub returns-then-left-right-clause-exact : goal.returns-then-left-right-clause-exact
returns-then-left-right-clause-exact c = λ nodes p. or_same nodes p c.args.left c.args.right c.if-left-right.true
