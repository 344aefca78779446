use Rattle.std.specs.Prelude.{◌&&◌, if◌then◌else◌}
use Rattle.std.proofs.lemmas.Result.{IfOk-weaker}
use Rattle.header_space.specs.Matching.{lies_in, range_fits}
use Rattle.packet_set.specs.Nodes.{has, number_of}
use Rattle.packet_set.specs.Sets.{IsSet}
use Rattle.packet_set.proofs.RangeLaws.{fits_not, fits_plain, set_same}
use Rattle.packet_set.proofs.diagrams.Diagrams.in_range.Goals as goal

pub returns-then-range-clause-set : goal.returns-then-range-clause-set
returns-then-range-clause-set c =
    let nodes = c.args.self.now in
    let range = c.args.range in
    IfOk-weaker c.choose.result
    (λ part. IsSet c.choose.new.self part (λ p. if lies_in range (number_of c.args.field p) then has nodes 0 p else has nodes c.args.set p))
    (λ part. IsSet c.choose.new.self part (λ p. range_fits range (number_of c.args.field p) && has nodes c.args.set p))
    (λ part is. set_same c.choose.new.self part _ _ (λ p. fits_not range nodes p (number_of c.args.field p) (has nodes c.args.set p) c.if-range.true) is)
    c.choose.ensures.set

pub returns-else-range-clause-set : goal.returns-else-range-clause-set
returns-else-range-clause-set c =
    let nodes = c.args.self.now in
    let range = c.args.range in
    IfOk-weaker c.choose-else-range.result
    (λ part. IsSet c.choose-else-range.new.self part (λ p. if lies_in range (number_of c.args.field p) then has nodes c.args.set p else has nodes 0 p))
    (λ part. IsSet c.choose-else-range.new.self part (λ p. range_fits range (number_of c.args.field p) && has nodes c.args.set p))
    (λ part is. set_same c.choose-else-range.new.self part _ _ (λ p. fits_plain range nodes p (number_of c.args.field p) (has nodes c.args.set p) c.if-range.false) is)
    c.choose-else-range.ensures.set
