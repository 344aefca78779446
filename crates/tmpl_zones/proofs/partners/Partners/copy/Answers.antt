use Rattle.std.proofs.Common.{◌≡◌, length, ap, ◌∙◌, sym, subst}
use Rattle.std.proofs.lemmas.List.Elements.{All-push}
use Rattle.tmpl_zones.specs.inner.PartnersView.{attribute_by, HasRooms}
use Rattle.tmpl_zones.specs.declared.partners.Receiver.{Receiver}
use Rattle.tmpl_zones.proofs.Receivers.{map-partner_of-copied, length_row}
use Rattle.tmpl_zones.proofs.partners.Partners.copy.Goals as goal

pub loop-receiver-preserved : goal.loop-receiver-preserved
loop-receiver-preserved c =
    let rows = c.deref-receiver-items.result.now in
    let row = c.receiver-item.result in
    let within = c.loop-receiver-test.true in
    let rooms = subst HasRooms (sym c.deref-receiver-items.ensures.value) c.self.invariant in
    let marks = c.in_ok-from_slice.ensures.items ∙ c.deref.ensures.value in
    record {
      seen = rw c.in_ok-push.ensures.items (map-partner_of-copied rows _ _ row _ within c.receiver-item.is (ap (attribute_by row.taking) marks) c.loop-receiver.invariant.seen);
      rows = rw c.in_ok-push.ensures.items (All-push (λ (kept : Receiver). length kept.from.items ≡ length rows) _ _ c.loop-receiver.invariant.rows
          (ap length marks ∙ length_row rows _ row rooms within c.receiver-item.is));
    }
