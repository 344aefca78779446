-- The line that reports a refusal of a description (docs/FORMATS.md).
use Rattle.std.specs.Prelude.{ℕ, zero, suc, List, [], ◌∷◌, ◌++◌, codes, decimal}
use Rattle.desc_form.specs.declared.refusal.Place.{Place}
use Rattle.desc_form.specs.declared.refusal.Place.TheVariants.{Document, Host, Invariant, Assign, FlowAt, Template}
use Rattle.desc_form.specs.declared.refusal.Refusal.{Refusal}
use Rattle.desc_form.specs.declared.refusal.Why.{Why}
use Rattle.desc_form.specs.Refusals.{number, name}

-- A place in words.
unfoldable pub place_text : Place → List ℕ
place_text Document = codes "document"
place_text (Host k) = codes "host " ++ decimal k
place_text (Invariant k) = codes "invariant " ++ decimal k
place_text (Assign k m) = codes "invariant " ++ (decimal k ++ (codes " assign " ++ decimal m))
place_text (FlowAt k) = codes "flow " ++ decimal k
place_text (Template k) = codes "template " ++ decimal k

-- A number after a word, if there is one.
abbrev pub if_nonzero : List ℕ → ℕ → List ℕ
if_nonzero word zero = []
if_nonzero word (suc k) = word ++ decimal (suc k)

-- A name after a colon, if there is one.
abbrev pub if_nonempty : List ℕ → List ℕ
if_nonempty [] = []
if_nonempty (b ∷ bs) = codes ": " ++ b ∷ bs

-- A cause, by its number and its name: 11 HostBits.
unfoldable pub cause_text : Why → List ℕ
cause_text why = decimal (number why) ++ (codes " " ++ name why)

-- The cause and the place, then item, other and name if they are present.
unfoldable pub refusal_text : Refusal → List ℕ
refusal_text r =
    codes "topos: description: "
    ++ (cause_text r.why
    ++ (codes " at "
    ++ (place_text r.place
    ++ (if_nonzero (codes " item ") r.item
    ++ (if_nonzero (codes ", other ") r.other
    ++ (if_nonempty r.name ++ codes "\n"))))))
