-- Round trip: the text of a rule set parses to that rule set.
use Rattle.std.proofs.Common.{◌≤◌, sym, subst, List, length}
use Rattle.ipt_rules.specs.Chain.{Chain}
use Rattle.ipt_rules.specs.Loops.{IsAcyclic}
use Rattle.ipt_rules.specs.Text.{text}
use Rattle.ipt_rules.specs.inner.Writable.{IsWritable}
use Rattle.ipt_read.proofs.TextAgainLaws.{again}
use Rattle.ipt_read.proofs.FineRulesLaws.{has_fine_rules}
use Rattle.ipt_read.specs.TextLines.{IsReadingOfRules}

-- For texts within the size limit.
pub text_read_again : (all : List Chain) → IsWritable all → length (text all) ≤ 67108864 → IsReadingOfRules (text all) all
text_read_again all writable short =
    let read = again all (has_fine_rules all writable) in
    (read.0, record { short = short; told = read.1; ends = (read.2, subst IsAcyclic (sym read.3) writable.acyclic) }, sym read.3)
