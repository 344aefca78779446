-- Invariants of a sweep over the services. Internal: callers use `Passing`.
use Rattle.std.specs.Prelude.{◌≡◌, ◌↔◌, ℕ, ◌<◌, Bool, true, false, List, Option, Some, None}
use Rattle.std.specs.List.{All}
use Rattle.host_net.specs.declared.packet.Packet.{Packet}
use Rattle.pass_core.specs.declared.passing_range.PassingRange.{PassingRange}
use Rattle.pass_core.specs.Passing.{AreMaximal, IsShown, LiesInRange, PassesInPart, PassesNot, PassesWholly}

-- The service passes wholly, in part or not at all, as the kind states, and in no other way.
abbrev pub PassesAs : (Packet → Type 0) → (Packet → Type 0) → Option Bool → ℕ → Type 0
PassesAs Holds Between None n = PassesNot Holds Between n × (PassesWholly Holds Between n → ⊥) × (PassesInPart Holds Between n → ⊥)
PassesAs Holds Between (Some true) n = PassesWholly Holds Between n × (PassesInPart Holds Between n → ⊥) × (PassesNot Holds Between n → ⊥)
PassesAs Holds Between (Some false) n = PassesInPart Holds Between n × (PassesWholly Holds Between n → ⊥) × (PassesNot Holds Between n → ⊥)

-- The service is in the ranges of the kind in which it passes, and in no others.
pub record IsPlaced (Holds : Packet → Type 0) (Between : Packet → Type 0) (rs : List PassingRange) (n : ℕ) : Type 0 where
  pub kind : Option Bool
  pub passes : PassesAs Holds Between kind n
  pub lies : (wholly : Bool) → LiesInRange rs wholly n ↔ (kind ≡ Some wholly)

-- The ranges are those of the services before `next`.
pub record IsSwept (Holds : Packet → Type 0) (Between : Packet → Type 0) (rs : List PassingRange) (next : ℕ) : Type 0 where
  pub maximal : AreMaximal rs
  pub shown : All (λ r. IsShown Holds Between r) rs
  pub below : All (λ r. r.high < next) rs
  pub placed : (n : ℕ) → n < next → IsPlaced Holds Between rs n
