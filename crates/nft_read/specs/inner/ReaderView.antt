-- The state that a reader represents.
use Rattle.std.specs.Prelude.{◌≡◌, ℕ, ◌≤◌, List, length, map}
use Rattle.std.specs.declared.vec.Vec.{Vec}
use Rattle.std.specs.Global.{Global}
use Rattle.nft_rules.specs.declared.table.Chain.{Chain}
use Rattle.nft_rules.specs.declared.table.Rule.{Rule}
use Rattle.nft_read.specs.declared.reader.Phase.{Phase}
use Rattle.nft_read.specs.Shape.{chain_shape, rule_shape}
use Rattle.nft_read.specs.inner.TableSteps.{State, names_of}

abbrev pub reader_state : Phase → List ℕ → List Rule → List Chain → State
reader_state phase name rules chains = record { phase = phase; name = name; rules = map rule_shape rules; chains = map chain_shape chains }

-- The names are those of the chains.
pub record KnowsNames (keys : List (Vec ℕ Global)) (chains : List Chain) : Type 0 where
  pub same : map (λ (key : Vec ℕ Global). key.items) keys ≡ names_of (map chain_shape chains)
  pub few : length chains ≤ 100000
