use Rattle.std.proofs.Common.{ℕ, ◌*◌, ◌≤◌, ◌^◌, arith}
use Rattle.std.proofs.Math.Nat.{mul-le-mul}
use Rattle.audit_core.proofs.classes.total.Goals as goal

fit : (a q r : ℕ) → a ≤ 2 ^ 32 → q ≤ 2 ^ 8 → r ≤ 2 ^ 16
    → (q * (a * a) ≤ 2 ^ 72) × (r * (q * (a * a)) ≤ 2 ^ 88) × (r * (r * (q * (a * a))) ≤ 2 ^ 104)
fit a q r ha hq hr = let pairs = mul-le-mul hq (mul-le-mul ha ha) in (pairs, mul-le-mul hr pairs, mul-le-mul hr (mul-le-mul hr pairs))

pub overflow_mul-result : goal.overflow_mul-result
overflow_mul-result c = let low = (fit _ _ _ c.requires.addresses c.requires.protocols c.requires.ports).0 in omega arith

pub overflow_mul-result-2 : goal.overflow_mul-result-2
overflow_mul-result-2 c = let low = (fit _ _ _ c.requires.addresses c.requires.protocols c.requires.ports).1 in omega arith

pub overflow_mul-result-3 : goal.overflow_mul-result-3
overflow_mul-result-3 c = let low = (fit _ _ _ c.requires.addresses c.requires.protocols c.requires.ports).2 in omega arith
