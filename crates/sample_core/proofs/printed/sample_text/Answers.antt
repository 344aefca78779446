use Rattle.std.proofs.Common.{◌∙◌}
use Rattle.std.proofs.lemmas.Result.{IfOk-weaker}
use Rattle.sample_core.proofs.CountsLemmas.{counts_told}
use Rattle.sample_core.proofs.printed.sample_text.Goals as goal

pub returns : goal.returns
returns c =
    let counts = c.in_ok-counts.counts in
    let are = c.in_ok-counts.ensures in
    IfOk-weaker c.counts_text.result _ _
    (λ text written. record { found = are.found; written = written ∙ counts_told c.args.count counts are })
    c.counts_text.ensures
