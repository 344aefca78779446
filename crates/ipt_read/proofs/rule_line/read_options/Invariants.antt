use Rattle.std.proofs.Common.{◌≡◌, length}
use Rattle.ipt_read.specs.declared.option.Place.TheVariants.{AtOption}
use Rattle.ipt_read.specs.Options.{empty_rule}
use Rattle.ipt_read.specs.inner.ReaderView.{given_of}
use Rattle.ipt_read.specs.inner.RuleLine.{word_by_word}
use Rattle.ipt_read.proofs.rule_line.read_options.Given as goal

abbrev pub invariant-loop-word : goal.invariant-loop-word
invariant-loop-word l = word_by_word l.chains (given_of l.given) l.place l.line ≡ word_by_word l.chains empty_rule AtOption l.fn.line

abbrev pub decreases-loop-word : goal.decreases-loop-word
decreases-loop-word l = length l.line
