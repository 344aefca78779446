use Rattle.std.proofs.Common.{List, ℕ, ◌++◌, ap, sym, ◌∙◌, take}
use Rattle.text_core.specs.inner.Line.{cut}
use Rattle.text_core.proofs.LineLaws.{nothing_put}
use Rattle.ipt_rules.proofs.TextLaws.{no_service}
use Rattle.ipt_rules.proofs.services.put_service.Goals as goal

pub returns-in-None-clause-text : goal.returns-in-None-clause-text
returns-in-None-clause-text c =
    nothing_put 320 c.args.at c.args.buffer.now c.requires.fits
    ∙ ap (λ (piece : List ℕ). cut 320 (take c.args.at c.args.buffer.now ++ piece)) (sym (no_service c.args.rule.now c.in-None.is c.requires.parts))

pub returns-in-Some-clause-text : goal.returns-in-Some-clause-text
returns-in-Some-clause-text c = rw c.in-Some.is c.put_asked.ensures.text
