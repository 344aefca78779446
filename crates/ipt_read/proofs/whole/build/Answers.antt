use Rattle.std.proofs.Common.{ℕ, List, ◌∙◌, ap}
use Rattle.ipt_rules.specs.Loops.{IsFirstOnCycle}
use Rattle.ipt_read.specs.ParserStates.{line_of}
use Rattle.ipt_read.specs.inner.State.{said_of}
use Rattle.ipt_read.proofs.FineLaws.{fine_not_refused}
use Rattle.ipt_read.proofs.TextLaws.{reading_of_lines, ends_in_loop}
use Rattle.ipt_read.proofs.whole.build.Goals as goal

pub first_loop-requires : goal.first_loop-requires
first_loop-requires c = fine_not_refused (said_of c.args.reader) c.requires.fine

pub returns-in-Some-clause-refused : goal.returns-in-Some-clause-refused
returns-in-Some-clause-refused c =
    let least : IsFirstOnCycle c.args.reader.chains c.in-Some.chain = rw c.in-Some.is at c.in-Ok.ensures in
    ends_in_loop c.args.bytes.now (said_of c.args.reader) c.in-Some.chain _ c.requires.through c.requires.whole least
    (c.line_of.ensures ∙ ap (λ (declared : List ℕ). line_of declared c.in-Some.chain) c.deref.ensures.value)

pub new-requires-clause-accepted : goal.new-requires-clause-accepted
new-requires-clause-accepted c = fine_not_refused (said_of c.args.reader) c.requires.fine

pub returns-in-Ok-new-clause-found : goal.returns-in-Ok-new-clause-found
returns-in-Ok-new-clause-found c =
    reading_of_lines c.args.bytes.now (said_of c.args.reader) c.in-Ok-new.rules c.requires.through c.requires.whole c.in-Ok-new.ensures.ok
    c.in-Ok-new.ensures.acyclic
