-- The reasons why an entry is not added, for the contracts of private calls. Callers do not see this.
use Rattle.std.specs.Prelude.{◌≡◌, ◌<◌, ◌≤◌, ℕ, List, length, slice_get, Some}
use Rattle.ofp_rules.specs.declared.entry.Entry.{Entry}
use Rattle.ofp_rules.specs.Ambiguity.{Contradict, most_entries}
use Rattle.ofp_read.specs.declared.fault.OfpWhy.{OfpWhy}
use Rattle.ofp_read.specs.declared.fault.OfpWhy.TheVariants.{TooMany, Ambiguous}

abbrev pub IsLeftOut : List Entry → Entry → OfpWhy → Type 0
IsLeftOut before e TooMany = most_entries ≤ length before
IsLeftOut before e Ambiguous =
    (length before < most_entries) × ((place : ℕ) × (f : Entry) × (slice_get before place ≡ Some f) × Contradict f e)
IsLeftOut before e _ = ⊥
