-- The construction of slices of chains. These definitions are internal; callers use `Slices`.
use Rattle.std.specs.Prelude.{◌≡◌, ℕ, ◌+◌, ◌<◌, ◌≤◌, Bool, true, false, List, [], ◌∷◌, length}
use Rattle.std.specs.List.{list_all}
use Rattle.host_net.specs.declared.packet.Packet.{Packet}
use Rattle.host_net.specs.declared.packet.CtState.{CtState}
use Rattle.header_space.specs.declared.packet_box.PacketBox.{PacketBox}
use Rattle.header_space.specs.Boxes.{IsIn}
use Rattle.ipt_rules.specs.declared.rule.Rule.{Rule}
use Rattle.ipt_rules.specs.declared.rule.Target.{Target}
use Rattle.ipt_rules.specs.declared.rule.Target.TheVariants.{Jump}
use Rattle.ipt_rules.specs.Chain.{Chain}
use Rattle.ipt_rules.specs.ChainTable.{rule_count}
use Rattle.ipt_rules.specs.Matching.{matches}
use Rattle.ipt_rules.specs.inner.Ranks.{HasTopologicalOrder}
use Rattle.ipt_rules.specs.inner.Walking.{is_known_to_return}

-- A rule matches no packet of the box, in any state.
abbrev pub FitsNone : PacketBox → Rule → Type 0
FitsNone b r = (p : Packet) → IsIn b p → (state : CtState) → matches p state r ≡ false

-- Rules are thinned: the rules that are omitted match no packet of the box.
pub data Thins (b : PacketBox) : List Rule → List Rule → Type 0 where
  thin_end : Thins b [] []
  thin_keeps : {r : Rule} {rs : List Rule} {ts : List Rule} → Thins b rs ts → Thins b (r ∷ rs) (r ∷ ts)
  thin_drops : {r : Rule} {rs : List Rule} {ts : List Rule} → FitsNone b r → Thins b rs ts → Thins b (r ∷ rs) ts

-- The rules of a chain are thinned or, unless the chain is marked, omitted.
abbrev pub IsThinned : PacketBox → Bool → List Rule → List Rule → Type 0
IsThinned b true rs ts = Thins b rs ts
IsThinned b false rs ts = ts ≡ []

pub record IsSliceOf (b : PacketBox) (marked : Bool) (x y : Chain) : Type 0 where
  pub policy : y.policy ≡ x.policy
  pub rules : IsThinned b marked x.rules y.rules

-- The chains from number n on, each with its slice.
abbrev pub AreSlices : PacketBox → List Bool → ℕ → List Chain → List Chain → Type 0
AreSlices b marks n [] [] = Unit {0}
AreSlices b marks n [] (y ∷ ys) = ⊥
AreSlices b marks n (x ∷ xs) [] = ⊥
AreSlices b marks n (x ∷ xs) (y ∷ ys) = IsSliceOf b (is_known_to_return marks n) x y × AreSlices b marks (n + 1) xs ys

-- A jump goes to a marked chain.
abbrev pub stays : List Bool → Target → Bool
stays marks (Jump d) = is_known_to_return marks d
stays marks _ = true

abbrev pub all_stay : List Bool → List Rule → Bool
all_stay marks rules = list_all (λ r. stays marks r.target) rules

abbrev pub chains_stay : List Bool → List Chain → Bool
chains_stay marks chains = list_all (λ x. all_stay marks x.rules) chains

-- The invariant of a slice.
pub record IsSlice (chains : List Chain) : Type 0 where
  pub few_chains : length chains ≤ 4096
  pub forward : 1 < length chains
  pub few_rules : rule_count chains ≤ 1000000
  pub topological_order : HasTopologicalOrder chains
