use Rattle.std.proofs.Common.{rules}
use Rattle.std.proofs.lemmas.Bool.{eqb-true, eq-eqb}
use Rattle.flow_set.proofs.Apart.{HasBits, apart_from_bits, low_apart, high_apart}
use Rattle.flow_set.proofs.host_set.HostSet.is_apart.Goals as goal

pub returns-then-self-other-eq0 : goal.returns-then-self-other-eq0
returns-then-self-other-eq0 c =
    let own : HasBits c.self.inside.low c.self.inside.high c.args.self.now = record { made = c.self.view_is } in
    let others : HasBits c.other.inside.low c.other.inside.high c.args.other.now = record { made = c.other.view_is } in (
      λ none. apart_from_bits _ _ _ _ _ _ own others c.if-self-other-eq0.true (eqb-true _ _ none),
      λ apart. eq-eqb _ _ (high_apart _ _ _ _ _ _ own others (search rules) apart),
    )

pub returns-else-self-other-eq0 : goal.returns-else-self-other-eq0
returns-else-self-other-eq0 c =
    let own : HasBits c.self.inside.low c.self.inside.high c.args.self.now = record { made = c.self.view_is } in
    let others : HasBits c.other.inside.low c.other.inside.high c.args.other.now = record { made = c.other.view_is } in (
      λ none. absurd (c.if-self-other-eq0.false (eqb-true _ _ none)),
      λ apart. absurd (c.if-self-other-eq0.false (low_apart _ _ _ _ _ _ own others (search rules) apart)),
    )
