-- Laws of added marks.
use Rattle.std.proofs.Common.{inl, inr, ◌∙◌, refl, subst, List}
use Rattle.host_net.specs.declared.packet.Packet.{Packet}
use Rattle.header_space.specs.declared.packet_box.PacketBox.{PacketBox}
use Rattle.header_space.specs.Visits.{HasOnlyPacketsOf}
use Rattle.ipt_rules.specs.Chain.{Chain}
use Rattle.ipt_rules.specs.Meets.{IsMet}
use Rattle.pass_core.specs.inner.Meeting.{AreMarked, IsMetWithin, MarksMore, MetRules}

pub marks_by_none : (b : PacketBox) (x : MetRules) → MarksMore b x x
marks_by_none b x = record { chains = refl; kept = λ place on. on; only = λ place on. inl on }

pub marks_by_both : (b : PacketBox) (x y z : MetRules) → MarksMore b x y → MarksMore b y z → MarksMore b x z
marks_by_both b x y z one two = record {
  chains = two.chains ∙ one.chains;
  kept = λ place on. two.kept place (one.kept place on);
  only = λ place on. elim (two.only place on) [
    | inl before ↦ one.only place before
    | inr within ↦ inr (subst (λ (chains : List Chain). IsMetWithin chains b place) one.chains within)
  ];
}

pub marks_by_more : (b part : PacketBox) (x y : MetRules) → HasOnlyPacketsOf b part → MarksMore part x y → MarksMore b x y
marks_by_more b part x y only more = record {
  chains = more.chains;
  kept = more.kept;
  only = λ place on. elim (more.only place on) [
    | inl before ↦ inl before
    | inr within ↦ inr (record { packet = within.packet; inside = only within.packet within.inside; state = within.state; met = within.met })
  ];
}

pub marked_still : (b : PacketBox) (x y : MetRules) (p : Packet) → MarksMore b x y → AreMarked x p → AreMarked y p
marked_still b x y p more marked = λ state place met. more.kept place (marked state place (subst (λ (chains : List Chain). IsMet chains p state place) more.chains met))
