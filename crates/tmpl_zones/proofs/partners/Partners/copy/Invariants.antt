use Rattle.std.proofs.Common.{◌≡◌, length, take}
use Rattle.std.specs.Prelude.{All, map}
use Rattle.tmpl_zones.specs.inner.PartnersView.{partner_of}
use Rattle.tmpl_zones.proofs.partners.Partners.copy.Given as goal

abbrev pub invariant-loop-receiver : goal.invariant-loop-receiver
invariant-loop-receiver l = record {
  seen : map partner_of l.hosts.items ≡ take l.receiver-index (map partner_of l.receiver-items);
  rows : All (λ row. length row.from.items ≡ length l.receiver-items) l.hosts.items;
}
