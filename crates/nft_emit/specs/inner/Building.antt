-- The chains of a growing table.
use Rattle.std.specs.Prelude.{◌≡◌, ◌⊎◌, ℕ, ◌<◌, IsTrue, List, [], ◌∷◌, ◌++◌, Some, slice_get, codes, decimal}
use Rattle.std.specs.Option.{option_map_or}
use Rattle.host_net.specs.Host.{Host}
use Rattle.nft_rules.specs.declared.table.Chain.{Chain}
use Rattle.nft_rules.specs.declared.table.MatchRule.{MatchRule}
use Rattle.nft_rules.specs.declared.table.Rule.{Rule}
use Rattle.nft_rules.specs.declared.table.Verdict.TheVariants.{Accept}
use Rattle.nft_rules.specs.Loadable.{AreDistinct, LeadBack, is_service_match}

-- Chains that are added at the end leave the indices of the others as they are.
abbrev pub Extends : List Chain → List Chain → Type 0
Extends old new = (c : ℕ) (x : Chain) → slice_get old c ≡ Some x → slice_get new c ≡ Some x

-- Chain c has these rules.
pub record HasRules (chains : List Chain) (c : ℕ) (rules : List Rule) : Type 0 where
  pub chain : Chain
  pub there : slice_get chains c ≡ Some chain
  pub rules_are : chain.rules.items ≡ rules

-- Each rule accepts, and its service is valid.
abbrev pub AreAccepting : List MatchRule → Type 0
AreAccepting [] = Unit {0}
AreAccepting (r ∷ rs) = (r.verdict ≡ Accept) × IsTrue (is_service_match r.service) × AreAccepting rs

-- The name of the chain of host i.
abbrev pub sender_name : List Host → ℕ → List ℕ
sender_name hosts i = codes "from_" ++ option_map_or (λ h. h.name) (slice_get hosts i) []

-- The name of a chain for services, which has index c.
abbrev pub services_name : ℕ → List ℕ
services_name c = codes "services_" ++ decimal c

-- Chain c has its index in its name, or its name is that of one of the first hosts.
abbrev pub HasName : List Host → ℕ → ℕ → List ℕ → Type 0
HasName hosts from c name = (name ≡ services_name c) ⊎ ((i : ℕ) × (i < from) × (name ≡ sender_name hosts i))

-- The chains can be loaded. They are chains for services, and the chains of the first hosts.
pub record AreBuilt (hosts : List Host) (from : ℕ) (chains : List Chain) : Type 0 where
  pub back : LeadBack chains
  pub named : (c : ℕ) (x : Chain) → slice_get chains c ≡ Some x → HasName hosts from c x.name.items
  pub distinct : AreDistinct chains
