-- Chains without some of their rules, such as those that no packet meets.
use Rattle.std.specs.Prelude.{ℕ, ◌+◌, Bool, if◌then◌else◌, IsFalse, IsTrue, List, [], ◌∷◌}
use Rattle.host_net.specs.declared.packet.Packet.{Packet}
use Rattle.host_net.specs.declared.packet.CtState.{CtState}
use Rattle.ipt_rules.specs.declared.marks.Place.{Place}
use Rattle.ipt_rules.specs.declared.rule.Rule.{Rule}
use Rattle.ipt_rules.specs.Chain.{Chain}
use Rattle.ipt_rules.specs.Marks.{is_marked}
use Rattle.ipt_rules.specs.Meets.{IsMet}

-- The rules of chain c from rule n on, without those at the places.
abbrev pub without_rules : (Place → Bool) → ℕ → ℕ → List Rule → List Rule
without_rules places c n [] = []
without_rules places c n (r ∷ rs) =
    if places (record { chain = c; rule = n }) then without_rules places c (n + 1) rs else r ∷ without_rules places c (n + 1) rs

-- The chains from chain c on, without the rules at the places.
abbrev pub without_from : (Place → Bool) → ℕ → List Chain → List Chain
without_from places c [] = []
without_from places c (x ∷ xs) = record x { rules = without_rules places c 0 x.rules } ∷ without_from places (c + 1) xs

-- The chains without the rules at the places.
abbrev pub without_places : (Place → Bool) → List Chain → List Chain
without_places places chains = without_from places 0 chains

-- The packet meets none of the rules at the places.
abbrev pub MeetsNone : (Place → Bool) → List Chain → Packet → CtState → Type 0
MeetsNone places chains packet state = (place : Place) → IsTrue (places place) → IsMet chains packet state place → ⊥

-- None of the rules at the places is marked.
abbrev pub AreUnmarked : List (List Bool) → (Place → Bool) → Type 0
AreUnmarked marks places = (place : Place) → IsTrue (places place) → IsFalse (is_marked marks place)
