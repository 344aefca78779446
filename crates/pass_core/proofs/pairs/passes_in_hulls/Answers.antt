use Rattle.std.specs.Prelude.{◌↔◌, IsTrue}
use Rattle.std.proofs.lemmas.Result.{IfOk-weaker}
use Rattle.header_space.specs.Owners.{GoesBetween}
use Rattle.pass_core.specs.inner.Listing.{IsPacketIn, PassesSome}
use Rattle.pass_core.proofs.pairs.passes_in_hulls.Goals as goal

pub returns : goal.returns
returns g c =
    let Holds = g.Q.Question.holds_of c.args.question.now in
    let from = c.args.from.now in
    let to = c.args.to.now in
    IfOk-weaker c.passes_in.result (λ some. IsTrue some ↔ PassesSome Holds (IsPacketIn (record { from = c.hull.result; to = c.hull-2.result })))
    (λ some. PassesSome Holds (GoesBetween from to) → IsTrue some)
    (λ some passes pass. passes.1 (
      pass.0,
      record { packet = pass.1.packet; inside = (c.hull.ensures.covers pass.0.src pass.1.src, c.hull-2.ensures.covers pass.0.dst pass.1.dst) },
      pass.2,
    )) c.passes_in.ensures
