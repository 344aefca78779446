use Rattle.std.proofs.Common.{◌≡◌, ℕ, true, ap, arith, ◌∙◌}
use Rattle.std.specs.Prelude.{◌==◌}
use Rattle.packet_set.specs.Nodes.{has}
use Rattle.packet_set.proofs.HasLaws.{has_empty}
use Rattle.packet_set.proofs.diagrams.Diagrams.is_empty.Goals as goal

zero_by : (n : ℕ) → (n == 0) ≡ true → n ≡ 0
zero_by n is = grind arith

pub returns : goal.returns
returns c = λ is p. ap (λ (n : ℕ). has c.args.self.now n p) (zero_by c.args.set is) ∙ has_empty c.args.self.now p
