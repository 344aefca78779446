use Rattle.std.specs.Prelude.{◌&&◌}
use Rattle.std.proofs.lemmas.Result.{IfOk-weaker}
use Rattle.header_space.specs.Matching.{field_fits, fits}
use Rattle.packet_set.specs.Nodes.{has}
use Rattle.packet_set.specs.Sets.{IsSet}
use Rattle.packet_set.proofs.RangeLaws.{all_fit, set_same}
use Rattle.packet_set.proofs.diagrams.Diagrams.matching.Goals as goal

pub returns-clause-set : goal.returns-clause-set
returns-clause-set c =
    let asked = c.args.asked.now in
    IfOk-weaker c.within-5.result
    (λ part. IsSet c.within-5.new.self part (λ p. field_fits asked.proto p.proto && has c.within-4.new.self c.in_ok-dport.dport p))
    (λ part. IsSet c.within-5.new.self part (λ p. fits asked p))
    (λ part is. set_same c.within-5.new.self part _ _
    (all_fit asked c.args.self.now c.within.new.self c.within-2.new.self c.within-3.new.self c.within-4.new.self c.in_ok-sport.sport c.in_ok-dst.dst
    c.in_ok-src.src c.in_ok-dport.dport c.in_ok-sport.ensures.set c.in_ok-dst.ensures.set c.in_ok-src.ensures.set c.in_ok-dport.ensures.set) is)
    c.within-5.ensures.set
