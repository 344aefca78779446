use Rattle.std.proofs.Common.{◌≡◌, false, ℕ, List}
use Rattle.std.specs.Prelude.{Result, Ok, Err, IfOk, IfErr}
use Rattle.text_core.specs.Lines.{is_comment, words}
use Rattle.text_core.specs.inner.TextAnswers.{HasReason}
use Rattle.text_core.specs.declared.faults.LineFault.{LineFault}
use Rattle.text_core.specs.declared.faults.LineFault.TheVariants.{Bad, Memory}
use Rattle.ipt_read.specs.declared.fault.IptWhy.{IptWhy}
use Rattle.ipt_read.specs.declared.reader.Reader.{Reader}
use Rattle.ipt_read.proofs.LineFaultLaws.{IsBadLine, bad_line_of_step}
use Rattle.ipt_read.proofs.LineLaws.{IsTextLine, line_of_read}
use Rattle.ipt_read.specs.inner.LineStep.{line_step}
use Rattle.ipt_read.specs.ParserStates.{ParserState}
use Rattle.ipt_read.specs.inner.State.{AnswersTo, IsFine, said_of}
use Rattle.ipt_read.proofs.FineLaws.{fine_kept}
use Rattle.ipt_read.proofs.reader.ReaderLineReader.read_line.Goals as goal

abbrev Answer : Type 0
Answer = Result Reader (LineFault IptWhy)

fine_behind : (n : ℕ) (s : ParserState) (l : List ℕ) (r : Answer) → IsFine s → AnswersTo (line_step n s l) r → IfOk r (λ t. IsFine (said_of t))
fine_behind n s l (Ok t) fine says = fine_kept n s (said_of t) l fine says
fine_behind n s l (Err fault) fine says = tt

line_read : (n : ℕ) (s : ParserState) (l : List ℕ) (r : Answer) → AnswersTo (line_step n s l) r → IfOk r (λ t. IsTextLine n s l (said_of t))
line_read n s l (Ok t) says = line_of_read n s (said_of t) l says
line_read n s l (Err fault) says = tt

line_bad : (n : ℕ) (s : ParserState) (l : List ℕ) (r : Answer) → is_comment l ≡ false → AnswersTo (line_step n s l) r
    → IfErr r (HasReason (λ why. IsBadLine s (words l) why))
line_bad n s l (Ok t) word says = tt
line_bad n s l (Err (Bad why)) word says = bad_line_of_step n s l why word says
line_bad n s l (Err Memory) word says = tt

pub returns-clause-holds : goal.returns-clause-holds
returns-clause-holds c = fine_behind c.args.number (said_of c.args.self) c.args.line.now c.words_line.result c.requires.holds c.words_line.ensures

pub returns-clause-ok : goal.returns-clause-ok
returns-clause-ok c = line_read c.args.number (said_of c.args.self) c.args.line.now c.words_line.result c.words_line.ensures

pub returns-clause-err : goal.returns-clause-err
returns-clause-err c = line_bad c.args.number (said_of c.args.self) c.args.line.now c.words_line.result c.requires.not_comment c.words_line.ensures
