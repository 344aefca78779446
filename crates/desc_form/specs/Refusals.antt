-- Refusals of a description: cause, place, and details (the description's format, docs/FORMATS.md).
use Rattle.std.specs.Prelude.{ℕ, Bool, List, [], find, Option, option_map, codes}
use Rattle.text_core.specs.FirstMatch.{first_conflict, numbered}
use Rattle.desc_form.specs.declared.refusal.Place.{Place}
use Rattle.desc_form.specs.declared.refusal.Refusal.{Refusal}
use Rattle.desc_form.specs.declared.refusal.Why.{Why}
use Rattle.desc_form.specs.declared.refusal.Why.TheVariants.{TooLong, NotToml, UnknownKey, MissingKey, WrongType, BadVersion, TooMany, BadName, DuplicateHost, BadPrefix, HostBits, NoAddress, TwoRests, Overlap, UnknownTemplate, UndeclaredHost, DuplicateAssign, BadAttribute, SelfFlow, DuplicateFlow, BadService, ManyServices, BadTemplate, NotLawful}

-- The number of each cause, from 1, and its name.
abbrev pub cause : Why → ℕ × List ℕ
cause TooLong = (1, codes "TooLong")
cause NotToml = (2, codes "NotToml")
cause UnknownKey = (3, codes "UnknownKey")
cause MissingKey = (4, codes "MissingKey")
cause WrongType = (5, codes "WrongType")
cause BadVersion = (6, codes "BadVersion")
cause TooMany = (7, codes "TooMany")
cause BadName = (8, codes "BadName")
cause DuplicateHost = (9, codes "DuplicateHost")
cause BadPrefix = (10, codes "BadPrefix")
cause HostBits = (11, codes "HostBits")
cause NoAddress = (12, codes "NoAddress")
cause TwoRests = (13, codes "TwoRests")
cause Overlap = (14, codes "Overlap")
cause UnknownTemplate = (15, codes "UnknownTemplate")
cause UndeclaredHost = (16, codes "UndeclaredHost")
cause DuplicateAssign = (17, codes "DuplicateAssign")
cause BadAttribute = (18, codes "BadAttribute")
cause SelfFlow = (19, codes "SelfFlow")
cause DuplicateFlow = (20, codes "DuplicateFlow")
cause BadService = (21, codes "BadService")
cause ManyServices = (22, codes "ManyServices")
cause BadTemplate = (23, codes "BadTemplate")
cause NotLawful = (24, codes "NotLawful")

-- The number of a cause.
abbrev pub number : Why → ℕ
number why = (cause why).0

-- The name of a cause.
abbrev pub name : Why → List ℕ
name why = (cause why).1

-- A refusal that reports only a place.
abbrev pub refused : Why → Place → Refusal
refused why place = record { why = why; place = place; item = 0; other = 0; name = [] }

-- A refusal that also reports an item of the place.
abbrev pub refused_item : Why → Place → ℕ → Refusal
refused_item why place item = record (refused why place) { item = item }

-- A refusal that reports the earlier element with which this one conflicts.
abbrev pub refused_by : Why → Place → ℕ → Refusal
refused_by why place other = record (refused why place) { other = other }

-- The first element that satisfies a test is refused, at the place of its number.
abbrev pub first_at : {A : Type 0} → Why → (ℕ → Place) → (A → Bool) → List A → Option Refusal
first_at why place test xs = option_map (λ x. refused why (place x.number)) (find (λ x. test x.what) (numbered xs))

-- The first element that conflicts with an earlier one is refused, at the place of its number.
abbrev pub barred_at : {A : Type 0} → Why → (ℕ → Place) → (A → A → Bool) → List A → Option Refusal
barred_at why place bars xs =
    option_map (λ p. refused_by why (place p.later.number) p.earlier.number) (first_conflict (λ x y. bars x.what y.what) (numbered xs))
