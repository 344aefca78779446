-- The model of the code's type of a name use, and the names of a host and of an assign.
use Rattle.std.specs.Prelude.{ℕ}
use Rattle.desc_form.specs.Mentions as meant
use Rattle.desc_form.specs.RawDescription.{RawAssign, RawHost}
use Rattle.desc_form.specs.declared.name_uses.NameUse.{NameUse}
use Rattle.desc_form.specs.declared.refusal.Place.TheVariants.{Assign, Host}
use Rattle.text_core.specs.FirstMatch.{Numbered}

abbrev pub mention_view : NameUse → meant.NameUse
mention_view m = record { place = m.place; item = m.item; name = m.name.now }

abbrev pub host_name : Numbered RawHost → meant.NameUse
host_name h = record { place = Host h.number; item = 0; name = h.what.name }

-- The name in an assign of the invariant with a number.
abbrev pub assign_name : ℕ → Numbered RawAssign → meant.NameUse
assign_name invariant a = record { place = Assign invariant a.number; item = 0; name = a.what.host }
