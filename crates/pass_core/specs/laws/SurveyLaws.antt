-- Laws of survey extension.
use Rattle.std.proofs.Common.{◌≡◌, inl, inr, ℕ, ◌≤◌, Bool, true, false, Option, refl, sym, ap, subst, ◌∙◌, arith}
use Rattle.host_net.specs.declared.packet.Packet.{Packet}
use Rattle.header_space.specs.declared.packet_box.PacketBox.{PacketBox}
use Rattle.header_space.specs.Visits.{HasOnlyPacketsOf}
use Rattle.pass_core.specs.declared.service.Service.{Service}
use Rattle.pass_core.specs.declared.survey.Survey.{Survey}
use Rattle.pass_core.specs.inner.Numbers.{number}
use Rattle.pass_core.specs.inner.Surveying.{AreAlike, Grows, GrowsBy, IsFoundIn, IsKnown, IsRecorded, IsThere, Notes}

-- ---- found packets remain found

module _ (Holds : Packet → Type 0) where
  fewer_alike : (first last less : ℕ) (passes : Bool) (p : Packet) → less ≤ last → AreAlike Holds first last passes p → AreAlike Holds first less passes p
  fewer_alike first last less passes p low alike = λ f fellows is from to. alike f fellows is from (omega (arith, low, to))

  found_later : (b : PacketBox) (y z : Survey) (passes : Bool) (p : Packet) → z.first ≡ y.first → number z.last ≤ number y.last
      → IsFoundIn Holds b y passes p → IsFoundIn Holds b z passes p
  found_later b y z passes p first last found = record {
    inside = found.inside;
    service = found.service ∙ ap number (sym first);
    alike =
        subst (λ (s : Service). AreAlike Holds (number s) (number z.last) passes p) (sym first)
        (fewer_alike (number y.first) (number y.last) (number z.last) passes p last found.alike);
  }

  notes_both : (b : PacketBox) (y z : Survey) (passes : Bool) (one two three : Option Packet) → z.first ≡ y.first → number z.last ≤ number y.last
      → Notes Holds b y passes one two → Notes Holds b z passes two three → Notes Holds b z passes one three
  notes_both b y z passes one two three first last before after = elim after [
    | inl same ↦ elim before [ inl also ↦ inl (same ∙ also) | inr found ↦ inr (found.0, same ∙ found.1, found_later b y z passes found.0 first last found.2) ]
    | inr found ↦ inr found
  ]

  both : (b : PacketBox) (x y z : Survey) → Grows Holds b x y → Grows Holds b y z → Grows Holds b x z
  both b x y z one two = record {
    first = two.first ∙ one.first;
    last = omega (arith, one.last, two.last);
    some = λ low. rw (← one.first) (two.some (rw one.first (one.some low)));
    passes = notes_both b y z true x.passes y.passes z.passes two.first two.last one.passes two.passes;
    stays = notes_both b y z false x.stays y.stays z.stays two.first two.last one.stays two.stays;
  }

  notes_more : (b part : PacketBox) (s : Survey) (passes : Bool) (old new : Option Packet) → HasOnlyPacketsOf b part → Notes Holds part s passes old new
      → Notes Holds b s passes old new
  notes_more b part s passes old new only notes = elim notes [
    | inl same ↦ inl same
    | inr found ↦ inr (found.0, found.1, record { inside = only found.0 found.2.inside; service = found.2.service; alike = found.2.alike })
  ]

  -- ---- recorded results remain recorded

  there_still : (b : PacketBox) (s : Survey) (passes : Bool) (old new : Option Packet) → Notes Holds b s passes old new → IsThere old → IsThere new
  there_still b s passes old new notes there = elim notes [
    | inl same ↦ subst (λ (o : Option Packet). IsThere o) (sym same) there
    | inr found ↦ subst (λ (o : Option Packet). IsThere o) (sym found.1) tt
  ]

  -- recorded results for another question remain recorded too
  pub recorded_still : (Others : Packet → Type 0) (b : PacketBox) (x y : Survey) (p : Packet) → Grows Holds b x y → IsRecorded Others x p → IsRecorded Others y p
  recorded_still Others b x y p grows recorded = elim recorded [
    | inl passes ↦ inl (passes.0, there_still b y true x.passes y.passes grows.passes passes.1)
    | inr stays ↦ inr (stays.0, there_still b y false x.stays y.stays grows.stays stays.1)
  ]

  known_still : (b : PacketBox) (x y : Survey) (p : Packet) → Grows Holds b x y → IsKnown Holds x p → IsKnown Holds y p
  known_still b x y p grows known = λ service f fellows is between.
      let from = rw grows.first at between.0 in
      recorded_still Holds b x y f grows (known (service ∙ ap number grows.first) f fellows is (from, omega (arith, grows.last, between.1)))

-- ---- surveys with an unchanged question

module _ {Q : Type 0} (HoldsOf : Q → Packet → Type 0) (q : Q) where
  pub grows_by_none : (b : PacketBox) (x : Survey) → GrowsBy HoldsOf q q b x x
  grows_by_none b x = (refl, record { first = refl; last = omega arith; some = λ low. low; passes = inl refl; stays = inl refl })

  pub grows_by_both : (r s : Q) (b : PacketBox) (x y z : Survey) → GrowsBy HoldsOf q r b x y → GrowsBy HoldsOf r s b y z → GrowsBy HoldsOf q s b x z
  grows_by_both r s b x y z one two =
      (two.0 ∙ one.0, both (HoldsOf q) b x y z one.1 (subst (λ (t : Q). Grows (HoldsOf t) b y z) one.0 two.1))

  pub grows_by_more : (r : Q) (b part : PacketBox) (x y : Survey) → HasOnlyPacketsOf b part → GrowsBy HoldsOf q r part x y → GrowsBy HoldsOf q r b x y
  grows_by_more r b part x y only by =
      let grows = by.1 in (
        by.0,
        record {
          first = grows.first;
          last = grows.last;
          some = grows.some;
          passes = notes_more (HoldsOf q) b part y true x.passes y.passes only grows.passes;
          stays = notes_more (HoldsOf q) b part y false x.stays y.stays only grows.stays;
        },
      )

  pub keeps : (r : Q) (b : PacketBox) (x y : Survey) (p : Packet) → GrowsBy HoldsOf q r b x y → IsKnown (HoldsOf q) x p → IsKnown (HoldsOf r) y p
  keeps r b x y p by known = subst (λ (t : Q). IsKnown (HoldsOf t) y p) (sym by.0) (known_still (HoldsOf q) b x y p by.1 known)
