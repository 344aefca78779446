-- The entry that decides, found in one pass. Not visible to callers, which use `Deciders`.
use Rattle.std.specs.Prelude.{◌≡◌, ℕ, ◌<◌, ◌≤◌, Bool, true, ◌&&◌, nat_lt, if◌then◌else◌, IsTrue, List, Option, Some, None, slice_get}
use Rattle.ofp_rules.specs.declared.deciders.Found.{Found}
use Rattle.ofp_rules.specs.declared.entry.Entry.{Entry}
use Rattle.ofp_rules.specs.declared.entry.Frame.{Frame}
use Rattle.ofp_rules.specs.Matching.{matches}

-- The priority is higher than the priority of the entry found so far, or no entry is found.
abbrev pub is_higher : ℕ → Option Found → Bool
is_higher priority None = true
is_higher priority (Some found) = nat_lt found.priority priority

-- The entry found after one more entry, which has index k.
abbrev pub found_with : Frame → Option Found → Entry → ℕ → Option Found
found_with frame found e k = if matches frame e && is_higher e.priority found then Some (record { place = k; priority = e.priority }) else found

abbrev pub place_of : Option Found → Option ℕ
place_of None = None
place_of (Some found) = Some found.place

-- The entry found decides among the first n entries.
pub record DecidesTo (entries : List Entry) (frame : Frame) (n : ℕ) (found : Found) : Type 0 where
  pub entry : Entry
  pub there : slice_get entries found.place ≡ Some entry
  pub low : found.place < n
  pub priority : found.priority ≡ entry.priority
  pub matched : IsTrue (matches frame entry)
  pub above : (j : ℕ) (f : Entry) → j < n → slice_get entries j ≡ Some f → IsTrue (matches frame f) → f.priority ≤ found.priority
  pub first : (j : ℕ) (f : Entry) → j < found.place → slice_get entries j ≡ Some f → IsTrue (matches frame f) → f.priority < found.priority

abbrev pub IsFoundTo : List Entry → Frame → ℕ → Option Found → Type 0
IsFoundTo entries frame n None = (j : ℕ) (f : Entry) → j < n → slice_get entries j ≡ Some f → IsTrue (matches frame f) → ⊥
IsFoundTo entries frame n (Some found) = DecidesTo entries frame n found
