-- Lemmas on visits: the boxes that remain after the visit of a part, and the progress of a visit of the whole.
use Rattle.std.proofs.Common.{◌≡◌, inl, inr, ◌<◌, List, [], ◌∷◌, ◌++◌, ap, subst, ◌∙◌, arith}
use Rattle.host_net.specs.declared.packet.Packet.{Packet}
use Rattle.header_space.specs.declared.packet_box.PacketBox.{PacketBox}
use Rattle.header_space.specs.Boxes.{IsBox, IsIn, Narrows}
use Rattle.header_space.specs.Visits.{HasOnlyPacketsOf}
use Rattle.header_space.specs.inner.Splitting.{AreWithin, IsAmong, IsWithin, Splits, volumes}
use Rattle.header_space.specs.inner.Visiting.{IsUnderWay, Visits}
use Rattle.header_space.proofs.SeekLaws.{in_whole, some_volume}
use Rattle.header_space.proofs.SplitLaws.{among_cases, volumes_pushed, within_front}

pub visits_by : (Knows : Packet → Type 0) (b part : PacketBox) (old new : List PacketBox) → Narrows b part
    → ((p : Packet) → IsIn part p → Knows p) → Splits b old new part → Visits Knows b old new
visits_by Knows b part old new narrows knows splits = record {
  fewer = let some = some_volume part narrows.is_box in let sums = splits.volumes in omega (arith, some, sums);
  packets = λ p inside. elim (splits.packets p inside) [ inl own ↦ inl (knows p own) | inr there ↦ inr there ];
  kept = splits.kept;
  within = λ whole are own. (splits.within whole are own).0;
}

-- ---- Removing a box from the pending boxes

module _ (Knows : Packet → Type 0) (whole : PacketBox) (bs rest : List PacketBox) (b : PacketBox) (same : bs ≡ rest ++ b ∷ []) (is : IsUnderWay Knows whole bs) where
  both : AreWithin whole rest × IsWithin whole b
  both = within_front whole rest b (subst (λ (xs : List PacketBox). AreWithin whole xs) same is.are)

  pub taken_box : IsBox b
  taken_box = both.1.is_box

  pub taken_packets : HasOnlyPacketsOf whole b
  taken_packets = λ p inside. in_whole whole b p both.1 inside

  pub fewer_left : (Then : Packet → Type 0) (new : List PacketBox) → Visits Then b rest new → volumes new < volumes bs
  fewer_left Then new visits =
      let sums = ap (λ (xs : List PacketBox). volumes xs) same ∙ volumes_pushed rest b in
      let less = visits.fewer in
      omega (arith, sums, less)

  pub under_way_then : (Then : Packet → Type 0) (new : List PacketBox) → ((p : Packet) → Knows p → Then p) → Visits Then b rest new → IsUnderWay Then whole new
  under_way_then Then new keeps visits = record {
    are = visits.within whole both.0 both.1;
    left = λ p inside. elim (is.left p inside) [
      | inl known ↦ inl (keeps p known)
      | inr there ↦ elim (among_cases rest b p (subst (λ (xs : List PacketBox). IsAmong xs p) same there)) [
        | inl old ↦ inr (visits.kept p old)
        | inr own ↦ visits.packets p own
      ]
    ];
  }
