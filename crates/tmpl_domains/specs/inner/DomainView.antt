-- The representation of a position: each segment of its path is a separate vector.
use Rattle.std.specs.Prelude.{ℕ, ◌<◌, ◌^◌, List, length, All, IfSome, Option, map}
use Rattle.std.specs.declared.alloc.Global.{Global}
use Rattle.std.specs.declared.vec.Vec.{Vec}
use Rattle.tmpl_domains.specs.Domains.{IsPlace, Place}

abbrev pub segment_bytes : List (Vec ℕ Global) → List (List ℕ)
segment_bytes path = map (λ segment. segment.items) path

-- There are fewer than 65,536 hosts, each with a position that it may have, or with none.
pub record ArePlaced (hosts : List (Option Place)) : Type 0 where
  pub few : length hosts < 2 ^ 16
  pub places : All (λ place. IfSome place IsPlace) hosts
