use Rattle.std.proofs.Common.{◌<◌, ℕ, List, Option, length, ap, sym, subst, ◌∙◌}
use Rattle.nft_rules.specs.declared.table.Verdict.{Verdict}
use Rattle.nft_rules.specs.declared.table.Verdict.TheVariants.{Goto}
use Rattle.nft_emit.specs.declared.cuts.Cut.{Cut}
use Rattle.nft_emit.specs.inner.Cuts.{AreCuts}
use Rattle.nft_emit.specs.inner.Falls.{Falls}
use Rattle.nft_local.specs.inner.Entries.{LeadsOwn, OnlyAt}
use Rattle.nft_local.proofs.EntryLaws.{if_ok}
use Rattle.nft_local.proofs.OwnLaws.{leads_own}
use Rattle.nft_local.proofs.own.own_rules.Goals as goal

pub returns : goal.returns
returns c =
    let hosts = c.args.hosts.now in
    let cuts = c.deref.result.now in
    let verdicts = c.deref-2.result.now in
    let whole = ap (λ (vs : List (Option Verdict)). length vs) c.deref-2.ensures.value ∙ c.in_ok-verdicts.ensures.whole ∙ c.count.ensures.value in
    if_ok c.fall_rules.result (λ rules. Falls c.args.end cuts verdicts c.rest.result rules.items) (λ rules. LeadsOwn hosts c.args.end c.args.host c.args.chain rules.items)
    (λ rules falls.
    leads_own hosts cuts c.args.end c.args.host c.args.chain verdicts rules.items
    (subst (λ (cs : List Cut). AreCuts hosts cs) (sym c.deref.ensures.value) c.in_ok-cuts.ensures)
    (subst (λ (n : ℕ). c.args.host < n) (sym whole) c.requires)
    (subst (λ (vs : List (Option Verdict)). OnlyAt c.args.host (Goto c.args.chain) vs) (sym c.deref-2.ensures.value) c.in_ok-verdicts.ensures.only)
    (subst (λ (r : Option ℕ). Falls c.args.end cuts verdicts r rules.items) c.rest.ensures falls))
    c.fall_rules.ensures
