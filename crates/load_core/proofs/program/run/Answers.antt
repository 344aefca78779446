use Rattle.std.proofs.Common.{map, string_bytes}
use Rattle.load_core.specs.Program.{IsDelivered, Reply}
use Rattle.load_core.proofs.WordLaws.{reply_decided, reply_usage}
use Rattle.load_core.proofs.program.run.Goals as goal

pub returns-clause-decided : goal.returns-clause-decided
returns-clause-decided g c =
    reply_decided
    (λ (reply : Reply). IsDelivered g.O.Sink g.E.Sink c.args.out.now c.answer.new.out c.args.err.now c.answer.new.err reply c.answer.result)
    (map string_bytes c.args.words.now) c.answer.ensures.delivered

pub returns-clause-usage : goal.returns-clause-usage
returns-clause-usage g c =
    reply_usage
    (λ (reply : Reply). IsDelivered g.O.Sink g.E.Sink c.args.out.now c.answer.new.out c.args.err.now c.answer.new.err reply c.answer.result)
    (map string_bytes c.args.words.now) c.answer.ensures.delivered
