-- A visit marks the rules that packets of a box meet, in both states.
use Rattle.std.proofs.Common.{◌≡◌, ◌⊎◌, inl, inr, ◌↔◌, IsTrue, List, subst, ◌∙◌}
use Rattle.host_net.specs.declared.packet.Packet.{Packet}
use Rattle.host_net.specs.declared.packet.CtState.{CtState}
use Rattle.host_net.specs.declared.packet.CtState.TheVariants.{New, Established}
use Rattle.header_space.specs.declared.packet_box.PacketBox.{PacketBox}
use Rattle.header_space.specs.Boxes.{IsIn}
use Rattle.ipt_rules.specs.declared.marks.Place.{Place}
use Rattle.ipt_rules.specs.Chain.{Chain}
use Rattle.ipt_rules.specs.Marks.{is_marked}
use Rattle.ipt_rules.specs.Meets.{IsMet}
use Rattle.pass_core.specs.inner.Meeting.{AreMarked, MarksMore, MetRules}
use Rattle.pass_core.specs.laws.MeetingLaws.{marks_by_both}

-- The rules that the packet meets in the state are marked, and no others.
abbrev pub Marks : Packet → CtState → MetRules → MetRules → Type 0
Marks p state old new = (place : Place) → (IsTrue (is_marked new.marks place) ↔ (IsTrue (is_marked old.marks place) ⊎ IsMet old.chains p state place))

met_more : (b : PacketBox) (q : Packet) (state : CtState) (old new : MetRules) → IsIn b q → new.chains ≡ old.chains → Marks q state old new → MarksMore b old new
met_more b q state old new inside chains marked = record {
  chains = chains;
  kept = λ place on. (marked place).1 (inl on);
  only = λ place on. elim ((marked place).0 on) [
    | inl before ↦ inl before
    | inr met ↦ inr (record { packet = q; inside = inside; state = state; met = met })
  ];
}

module _ (b : PacketBox) (old mid new : MetRules) (first : mid.chains ≡ old.chains) (second : new.chains ≡ mid.chains) where
  pub both_more : (q : Packet) → IsIn b q → Marks q New old mid → Marks q Established mid new → MarksMore b old new
  both_more q inside one two =
      marks_by_both b old mid new (met_more b q New old mid inside first one) (met_more b q Established mid new inside second two)

  pub both_marked : (p : Packet) → Marks p New old mid → Marks p Established mid new → AreMarked new p
  both_marked p one two New place met =
      (two place).1 (inl ((one place).1 (inr (subst (λ (chains : List Chain). IsMet chains p New place) (second ∙ first) met))))
  both_marked p one two Established place met =
      (two place).1 (inr (subst (λ (chains : List Chain). IsMet chains p Established place) second met))
