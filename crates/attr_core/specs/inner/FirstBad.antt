-- The first bad assign, for every definition of a bad assign after those before it.
use Rattle.std.specs.Prelude.{◌≡◌, ℕ, List, take, slice_get, Option, Some, None, IsSomeAnd, MatchOption, Result, Ok, Err}
use Rattle.host_net.specs.Host.{Host}
use Rattle.attr_core.specs.Assigns.{Given}
use Rattle.attr_core.specs.Forms.{Form, says}
use Rattle.attr_core.specs.declared.fault.AttrFault.{AttrFault}
use Rattle.attr_core.specs.declared.fault.AttrFault.TheVariants.{BadAttribute, Memory}

-- None of the assigns is bad.
abbrev pub NoneIsBad : (List Given → Given → Type 0) → List Given → Type 0
NoneIsBad IsBad assigns = (k : ℕ) (a : Given) → slice_get assigns k ≡ Some a → IsBad (take k assigns) a → ⊥

-- The assign with this number, from 0, is bad, and none of those before it is.
pub record IsFirstBad (IsBad : List Given → Given → Type 0) (assigns : List Given) (k : ℕ) : Type 0 where
  pub here : IsSomeAnd (slice_get assigns k) (λ a. IsBad (take k assigns) a)
  pub before : NoneIsBad IsBad (take k assigns)

-- The number is that of the first bad assign, or there is none.
abbrev pub IsFirstBadOrNone : (List Given → Given → Type 0) → List Given → Option ℕ → Type 0
IsFirstBadOrNone IsBad assigns bad = MatchOption bad (NoneIsBad IsBad assigns) (IsFirstBad IsBad assigns)

-- A call succeeds only if none of the assigns is bad, and the assign that it reports is the first bad one.
abbrev pub BlamesFirstBad : {A : Type 0} → (List Given → Given → Type 0) → List Given → Result A AttrFault → Type 0
BlamesFirstBad IsBad assigns (Ok x) = NoneIsBad IsBad assigns
BlamesFirstBad IsBad assigns (Err (BadAttribute k)) = IsFirstBad IsBad assigns k
BlamesFirstBad IsBad assigns (Err Memory) = Unit {0}

-- The assign specifies no attribute of the template.
abbrev pub SaysNothing : Form → List Host → List Given → Given → Type 0
SaysNothing form hosts earlier a = says form hosts earlier a ≡ None
