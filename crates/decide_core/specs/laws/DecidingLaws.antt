-- Laws of added marks on deciders.
use Rattle.std.proofs.Common.{◌≡◌, inl, inr, ◌∙◌, refl, Option}
use Rattle.host_net.specs.declared.packet.Packet.{Packet}
use Rattle.ipt_rules.specs.declared.marks.Place.{Place}
use Rattle.decide_core.specs.Deciders.{DecidesOne}
use Rattle.decide_core.specs.inner.Deciding.{CountsAmong, Deciding, IsKnown, NotesMore}

pub notes_by_none : (Among : Packet → Type 0) (x : Deciding) → NotesMore Among x x
notes_by_none Among x = record { rules = refl; passing = refl; kept = λ decider on. on; only = λ decider on. inl on }

-- With equal rules, the same deciders have to be marked.
pub same_one : (Among : Packet → Type 0) (x y : Deciding) (decider : Option Place) → y.rules ≡ x.rules → y.passing ≡ x.passing
    → DecidesOne y.rules (CountsAmong y Among) decider → DecidesOne x.rules (CountsAmong x Among) decider
same_one Among x y decider rules passing one = rw (rules, passing) at one

pub notes_by_both : (Among : Packet → Type 0) (x y z : Deciding) → NotesMore Among x y → NotesMore Among y z → NotesMore Among x z
notes_by_both Among x y z one two = record {
  rules = two.rules ∙ one.rules;
  passing = two.passing ∙ one.passing;
  kept = λ decider on. two.kept decider (one.kept decider on);
  only = λ decider on. elim (two.only decider on) [
    | inl before ↦ one.only decider before
    | inr found ↦ inr (same_one Among x y decider one.rules one.passing found)
  ];
}

pub notes_by_more : (Among Part : Packet → Type 0) (x y : Deciding) → ((p : Packet) → Part p → Among p) → NotesMore Part x y → NotesMore Among x y
notes_by_more Among Part x y only more = record {
  rules = more.rules;
  passing = more.passing;
  kept = more.kept;
  only = λ decider on. elim (more.only decider on) [
    | inl before ↦ inl before
    | inr found ↦
        inr (record { packet = found.packet; among = (only found.packet found.among.0, found.among.1); decides = found.decides })
  ];
}

pub known_still : (Among : Packet → Type 0) (x y : Deciding) (p : Packet) → NotesMore Among x y → IsKnown x p → IsKnown y p
known_still Among x y p more known = λ counts decider decides.
    more.kept decider (known (rw (more.rules, more.passing) at counts) decider (rw more.rules at decides))
