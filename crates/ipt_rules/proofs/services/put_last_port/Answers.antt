use Rattle.std.proofs.Common.{◌≡◌, true, nat_lt, append_assoc, arith}
use Rattle.std.proofs.lemmas.Bool.Decides.{nat_tests}
use Rattle.text_core.proofs.LineLaws.{cut_cut}
use Rattle.ipt_rules.proofs.services.put_last_port.Goals as goal

pub returns-then-low-high-clause-text : goal.returns-then-low-high-clause-text
returns-then-low-high-clause-text c =
    let below = c.if-low-high.true in
    let less : nat_lt c.args.low c.args.high ≡ true = grind (arith, nat_tests) in
    rw (less, c.put_number.ensures.text, c.put-colon.ensures.text) (simp (cut_cut, append_assoc))
