-- One host's row, and the attribute that it represents.
use Rattle.std.proofs.Common.{◌≡◌, ℕ, ◌+◌, ◌<◌, Bool, true, List, [], ◌∷◌, ◌++◌, length, length-set, map, take, get_or, set, refl, sym, ◌∙◌, ap, subst, arith}
use Rattle.std.proofs.lemmas.List.{map-set, get_or-map, length-map, map_push, take_more}
use Rattle.std.proofs.lemmas.List.Elements.{All-get_or, All-set}
use Rattle.std.specs.Prelude.{All}
use Rattle.inv_law.specs.inner.Template.{AllMayHave}
use Rattle.inv_law.specs.laws.TemplateLaws.{AllMayHave-set}
use Rattle.tmpl_zones.specs.Partners.{Partner, DontCare, TakesFromOthers, with_sender}
use Rattle.tmpl_zones.specs.Partners as template
use Rattle.tmpl_zones.specs.inner.PartnersView.{IsMaster}
use Rattle.tmpl_zones.proofs.Masters.{marks_of}
use Rattle.tmpl_zones.specs.inner.PartnersView.{partner_of, attribute_by, HasRooms}
use Rattle.tmpl_zones.specs.declared.partners.Receiver.{Receiver}
use Rattle.tmpl_zones.specs.declared.partners.Taking.{Taking}
use Rattle.tmpl_zones.specs.declared.partners.Taking.TheVariants as taking

pub length_seen : (rows : List Receiver) (partners : List Partner) → map partner_of rows ≡ partners → length rows ≡ length partners
length_seen rows partners seen = sym (length-map rows partner_of) ∙ ap length seen

-- A write to a row is a write to the list of attributes.
pub map-partner_of-set : (rows : List Receiver) (partners : List Partner) (i : ℕ) (row : Receiver) (partner : Partner)
    → map partner_of rows ≡ partners → partner_of row ≡ partner → map partner_of (set rows i row) ≡ set partners i partner
map-partner_of-set rows partners i row partner seen same =
    map-set partner_of rows i row ∙ (λ k. set (seen k) i (same k))

-- The row at an index represents the attribute there.
pub partner_of_row : (rows : List Receiver) (partners : List Partner) (i : ℕ) (row : Receiver) → map partner_of rows ≡ partners
    → i < length partners → row ≡ get_or rows i row → partner_of row ≡ get_or partners i DontCare
partner_of_row rows partners i row seen within here =
    let in_rows : i < length rows = omega (arith, length_seen rows partners seen) in
    ap partner_of here
    ∙ sym (get_or-map partner_of rows i row DontCare in_rows)
    ∙ ap (λ xs. get_or xs i DontCare) seen

-- One more row copied.
pub map-partner_of-copied : (rows copies : List Receiver) (i : ℕ) (row copy : Receiver) → i < length rows → row ≡ get_or rows i row
    → partner_of copy ≡ partner_of row → map partner_of copies ≡ take i (map partner_of rows)
    → map partner_of (copies ++ copy ∷ []) ≡ take (i + 1) (map partner_of rows)
map-partner_of-copied rows copies i row copy within here same seen =
    let at_row : partner_of row ≡ get_or (map partner_of rows) i DontCare =
    ap partner_of here ∙ sym (get_or-map partner_of rows i row DontCare within) in
    let fits : i < length (map partner_of rows) = rw length-map within in
    map_push partner_of copies copy
    ∙ (λ k. seen k ++ (same ∙ at_row) k ∷ [])
    ∙ sym (take_more (map partner_of rows) i DontCare fits)

-- A mark in the row is a mark in the attribute.
pub attribute_by-set : (kind : Taking) (marks : List Bool) (sender : ℕ)
    → attribute_by kind (set marks sender true) ≡ with_sender (attribute_by kind marks) sender
attribute_by-set taking.DontCare marks sender = refl
attribute_by-set taking.Care marks sender = refl
attribute_by-set taking.Master marks sender = refl

-- A row has a mark for every host.
pub length_row : (rows : List Receiver) (i : ℕ) (row : Receiver) → HasRooms rows → i < length rows → row ≡ get_or rows i row
    → length row.from.items ≡ length rows
length_row rows i row rooms within here =
    ap (λ (r : Receiver). length r.from.items) here
    ∙ All-get_or (λ receiver. length receiver.from.items ≡ length rows) rows i row within rooms.rows

-- A mark of a master's row is a mark of its list.
has_mark_by : (kind : Taking) (marks : List Bool) (sender : ℕ) → IsMaster (attribute_by kind marks) → sender < length marks
    → sender < length (marks_of (attribute_by kind marks))
has_mark_by taking.DontCare marks sender is_master within = absurd is_master
has_mark_by taking.Care marks sender is_master within = absurd is_master
has_mark_by taking.Master marks sender is_master within = within

pub has_mark : (row : Receiver) (partner : Partner) (sender : ℕ) → partner_of row ≡ partner → IsMaster partner
    → sender < length row.from.items → sender < length (marks_of partner)
has_mark row partner sender seen is_master within =
    subst (λ (p : Partner). sender < length (marks_of p)) seen
    (has_mark_by row.taking row.from.items sender (subst IsMaster (sym seen) is_master) within)

-- The attribute of a row is one that its host may have.
pub may_have_row : (rows : List Receiver) (i : ℕ) (row : Receiver) → HasRooms rows → i < length rows → row ≡ get_or rows i row
    → TakesFromOthers (length rows) i (partner_of row)
may_have_row rows i row rooms within here =
    let sized : length (map partner_of rows) ≡ length rows = length-map rows partner_of in
    let below : i < length (map partner_of rows) = subst (λ n. i < n) (sym sized) within in
    let at_row = partner_of_row rows (map partner_of rows) i row refl below here in
    subst (λ n. TakesFromOthers n i (partner_of row)) sized
    (subst (TakesFromOthers (length (map partner_of rows)) i) (sym at_row) (rooms.may_have i below))

-- A row with as many marks, for an attribute that its host may have.
pub HasRooms-set : (rows : List Receiver) (i : ℕ) (row : Receiver) → HasRooms rows → length row.from.items ≡ length rows
    → TakesFromOthers (length rows) i (partner_of row) → HasRooms (set rows i row)
HasRooms-set rows i row rooms sized may = record {
  few = rw (length-set rows i row) rooms.few;
  rows =
      subst (λ n. All (λ (r : Receiver). length r.from.items ≡ n) (set rows i row)) (sym (length-set rows i row))
      (All-set (λ (r : Receiver). length r.from.items ≡ length rows) rows i row sized rooms.rows);
  may_have =
      subst (AllMayHave template.partners) (sym (map-set partner_of rows i row))
      (AllMayHave-set template.partners (map partner_of rows) i (partner_of row) rooms.may_have (subst (λ n. TakesFromOthers n i (partner_of row)) (sym (length-map rows partner_of)) may));
}
