use Rattle.std.proofs.Common.{◌≡◌, replicate, length}
use Rattle.std.specs.Prelude.{All, map}
use Rattle.tmpl_zones.specs.Partners.{DontCare}
use Rattle.tmpl_zones.specs.inner.PartnersView.{partner_of}
use Rattle.tmpl_zones.proofs.partners.Partners.new.Given as goal

abbrev pub invariant-loop : goal.invariant-loop
invariant-loop l = record {
  seen : map partner_of l.hosts.items ≡ replicate l.counter DontCare;
  rows : All (λ row. length row.from.items ≡ l.n) l.hosts.items;
}
