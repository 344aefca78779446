use Rattle.std.proofs.Common.{inr, subst, sym, ◌≤◌, ℕ}
use Rattle.header_space.proofs.NarrowLaws.{fits_as, one_fails}
use Rattle.header_space.proofs.packet_box.PacketBox.narrow_by.Goals as goal

pub returns-then-rules_out-5-clause-alike : goal.returns-then-rules_out-5-clause-alike
returns-then-rules_out-5-clause-alike c = λ p inside.
    let out = c.rules_out-5.ensures c.if-rules_out-5.true in
    one_fails c.args.asked.now c.args.self.now
    (record { src = c.alike-src.result; dst = c.alike-dst.result; proto = c.alike-proto.result; sport = c.alike-sport.result; dport = c.alike-dport.result })
    c.alike-src.ensures.alike c.alike-dst.ensures.alike c.alike-proto.ensures.alike c.alike-sport.ensures.alike c.alike-dport.ensures.alike
    p (inr (inr (inr (inr (out.0, (inside.above.dport, subst (λ (n : ℕ). p.dport ≤ n) (sym out.1) inside.below.dport))))))

pub returns-clause-alike : goal.returns-clause-alike
returns-clause-alike c = λ p inside.
    fits_as c.args.asked.now c.args.self.now
    (record { src = c.alike-src.result; dst = c.alike-dst.result; proto = c.alike-proto.result; sport = c.alike-sport.result; dport = c.alike-dport.result })
    c.alike-src.ensures.alike c.alike-dst.ensures.alike c.alike-proto.ensures.alike c.alike-sport.ensures.alike c.alike-dport.ensures.alike
    p c.end.result (λ yes'. c.end.ensures.fit yes' p inside) (λ no'. c.end.ensures.fail no' p inside)
