use Rattle.std.proofs.Common.{◌≡◌, ◌⊎◌, inl, inr, ap, arith, rules, sym, tests, ◌∙◌}
use Rattle.text_core.proofs.LinesLaws.{length-lines}
use Rattle.ipt_read.specs.declared.stage.Stage.{Stage as HeldStage}
use Rattle.ipt_read.specs.declared.stage.Stage.TheVariants as held
use Rattle.ipt_read.specs.ParserStates.{After}
use Rattle.ipt_read.specs.inner.ReaderView.{stage_of}
use Rattle.ipt_read.specs.inner.State.{said_of}
use Rattle.ipt_read.proofs.TextLaws.{ends_early}
use Rattle.ipt_read.proofs.whole.end.Goals as goal

is_early : (stage : HeldStage) → (stage ≡ held.Front) ⊎ (stage ≡ held.Table) → stage_of stage ≡ After → ⊥
is_early stage (inl front) whole = let clash = sym (ap stage_of front) ∙ whole in cc
is_early stage (inr table) whole = let clash = sym (ap stage_of table) ∙ whole in cc

pub overflow_add-line : goal.overflow_add-line
overflow_add-line c = omega (arith, length-lines c.args.bytes.now, c.requires.counted, c.requires.through.short)

pub returns-in-Front : goal.returns-in-Front
returns-in-Front c = record {
  found = tt;
  refused = ends_early c.args.bytes.now (said_of c.args.reader) _ c.requires.through (is_early c.args.reader.stage c.in-Front.is) (search (rules, tests));
  deterministic = tt;
}
