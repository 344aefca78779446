use Rattle.std.proofs.Common.{◌≡◌, ◌∙◌, ap, sym, Some}
use Rattle.host_net.proofs.HostsKept.{welcome}
use Rattle.host_net.proofs.OverlapWords.{overlap_told}
use Rattle.host_net.specs.declared.refusal.HostRefusal.{HostRefusal}
use Rattle.host_net.specs.declared.refusal.HostRefusal.TheVariants.{Overlap}
use Rattle.host_net.proofs.hosts.Hosts.add.Goals as goal

pub of-requires : goal.of-requires
of-requires c = (welcome c.args.self.now c.args.name.now c.args.at.now c.args.rest (sym c.refusal.ensures ∙ c.in_default.is)).named

pub returns-in-Some-clause-overlaps : goal.returns-in-Some-clause-overlaps
returns-in-Some-clause-overlaps c = λ item other is.
    let same : c.in-Some.why ≡ Overlap item other = cc in
    overlap_told c.args.self.now c.args.name.now c.args.at.now c.args.rest item other
    (sym c.refusal.ensures ∙ c.in-Some.is ∙ ap (λ (why : HostRefusal). Some why) same)
