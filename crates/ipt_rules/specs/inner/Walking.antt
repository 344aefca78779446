-- Traversals of chains, and the rules that they meet. These definitions are internal; callers use `Meets`.
use Rattle.std.specs.Prelude.{◌≡◌, ℕ, ◌-◌, ◌<◌, ◌⊎◌, zero, suc, List, Bool, true, false, Option, Some, None, slice_get, length, Contains}
use Rattle.std.specs.Option.{unwrap_or}
use Rattle.host_net.specs.declared.packet.Packet.{Packet}
use Rattle.host_net.specs.declared.packet.CtState.{CtState}
use Rattle.host_net.specs.declared.packet.Verdict.{Verdict}
use Rattle.ipt_rules.specs.declared.marks.Place.{Place}
use Rattle.ipt_rules.specs.declared.rule.Rule.{Rule}
use Rattle.ipt_rules.specs.declared.walk.Step.{Step}
use Rattle.ipt_rules.specs.declared.walk.Step.TheVariants as code
use Rattle.ipt_rules.specs.Chain.{Chain}
use Rattle.ipt_rules.specs.Loops.{jumps_from}
use Rattle.ipt_rules.specs.Matching.{matches}
use Rattle.ipt_rules.specs.Meets.{DecidesWalk, Meets}
use Rattle.ipt_rules.specs.Semantics.{RuleEffect, Continues, Ends, JumpsTo, step_of}

-- Whether chain c is known to return.
abbrev pub is_known_to_return : List Bool → ℕ → Bool
is_known_to_return known_to_return c = unwrap_or (slice_get known_to_return c) false

-- `Holds` is true for all packets of a set, by the rules that match them.
abbrev pub ForAll : (Packet → Type 0) → CtState → ((Rule → Bool) → Type 0) → Type 0
ForAll In state Holds = (p : Packet) → In p → Holds (matches p state)

-- Chain c exists, and so do the chains that it jumps to. Jumps are nested less than `depth` deep.
abbrev pub IsShallow : List Chain → ℕ → ℕ → Type 0
IsShallow chains zero c = ⊥
IsShallow chains (suc depth) c = (c < length chains) × ((d : ℕ) → Contains (jumps_from chains c) d → IsShallow chains depth d)

-- ---- the step of a rule

-- The step of a rule in code has this effect.
abbrev pub IsStep : Step → RuleEffect → Type 0
IsStep code.Continues effect = effect ≡ Continues
IsStep code.Decides effect = (v : Verdict) × (effect ≡ Ends (Some v))
IsStep code.Returns effect = effect ≡ Ends None
IsStep (code.JumpsTo chain) effect = effect ≡ JumpsTo chain

-- The rule at a place is recorded if it matches, and no other rule.
pub record Records (fits : Bool) (place : Place) (Old New : Place → Type 0) : Type 0 where
  pub kept : (p : Place) → Old p → New p
  pub own : fits ≡ true → New place
  pub only : (p : Place) → New p → Old p ⊎ ((p ≡ place) × (fits ≡ true))

-- The rule makes the same step for all packets of a set, and is recorded if it matches.
pub record Steps (In : Packet → Type 0) (state : CtState) (r : Rule) (place : Place) (Old New : Place → Type 0) (step : Step) : Type 0 where
  pub fits : Bool
  pub alike : (p : Packet) → In p → matches p state r ≡ fits
  pub effect : IsStep step (step_of fits r.target)
  pub records : Records fits place Old New

-- ---- the traversal of a chain

-- The traversal of chain c has this decider, and each rule that it meets is recorded.
pub record IsTraversed (fits : Rule → Bool) (chains : List Chain) (Has : Place → Type 0) (c : ℕ) (decider : Option Place) : Type 0 where
  pub decides : DecidesWalk fits chains c decider
  pub met : (place : Place) → Meets fits chains c place → Has place

-- The chains that are known to return do return, and each rule that they meet is recorded.
abbrev pub AreTraversed : (Rule → Bool) → List Chain → (Place → Type 0) → List Bool → Type 0
AreTraversed fits chains Has known_to_return = (c : ℕ) → is_known_to_return known_to_return c ≡ true → IsTraversed fits chains Has c None

-- Only rules that the traversal of chain c meets were recorded.
pub record HasMetOnly (fits : Rule → Bool) (chains : List Chain) (c : ℕ) (Old New : Place → Type 0) : Type 0 where
  pub kept : (place : Place) → Old place → New place
  pub only : (place : Place) → New place → Old place ⊎ Meets fits chains c place

-- The facts after the traversal of chain c.
pub record Traverses (fits : Rule → Bool) (chains : List Chain) (Old New : Place → Type 0) (known_to_return : List Bool) (c : ℕ) (decider : Option Place) : Type 0 where
  pub known : AreTraversed fits chains New known_to_return
  pub only : HasMetOnly fits chains c Old New
  pub all : IsTraversed fits chains New c decider
