-- A verdict determines whether the packet passes.
use Rattle.std.proofs.Common.{◌≡◌, Bool, true, false, refl}
use Rattle.host_net.specs.Verdict.{verdict_if}

pub verdict_if-injective : (b c : Bool) → verdict_if b ≡ verdict_if c → b ≡ c
verdict_if-injective true true same = refl
verdict_if-injective true false same = cc
verdict_if-injective false true same = cc
verdict_if-injective false false same = refl
