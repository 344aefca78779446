-- Refusals with more details than a place and an item.
use Rattle.std.specs.Prelude.{ℕ, List}
use Rattle.desc_form.specs.Refusals.{refused_item}
use Rattle.desc_form.specs.declared.refusal.Place.{Place}
use Rattle.desc_form.specs.declared.refusal.Refusal.{Refusal}
use Rattle.desc_form.specs.declared.refusal.Why.{Why}

-- A refusal with an item, and the earlier element with which it conflicts.
abbrev pub refused_item_by : Why → Place → ℕ → ℕ → Refusal
refused_item_by why place item other = record (refused_item why place item) { other = other }

-- A refusal with a name.
abbrev pub refused_name : Why → Place → ℕ → List ℕ → Refusal
refused_name why place item name = record (refused_item why place item) { name = name }
