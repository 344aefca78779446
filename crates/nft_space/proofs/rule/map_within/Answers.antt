use Rattle.std.proofs.Common.{◌≡◌, ◌∙◌, ℕ, true, List, sym, subst}
use Rattle.nft_rules.specs.declared.table.Element.{Element}
use Rattle.nft_rules.specs.Maps.{Leads}
use Rattle.header_space.specs.Owners.{LiesIn}
use Rattle.nft_rules.specs.Semantics.{address_at}
use Rattle.header_space.proofs.BoxLaws.{least_in}
use Rattle.nft_space.proofs.rule.map_within.Goals as goal

pub returns-clause-gives : goal.returns-clause-gives
returns-clause-gives c = λ p state inside.
    let least = c.args.within.now.least in
    let range = c.interval_at-interval.result.range in
    let lies : LiesIn range (address_at c.args.map.now.end least) = subst (λ (a : ℕ). LiesIn range a) c.address_at.ensures c.interval_at-interval.ensures.inside in
    let same = c.narrow_by.ensures.alike least (least_in c.args.within.now c.narrow_by.new.self c.narrow_by.ensures.part) in
    let yes : c.narrow_by.result ≡ true = sym same ∙ c.between.ensures.inside least lies in
    subst (λ (es : List Element). Leads es (address_at c.args.map.now.end p) c.interval_at-interval.result.verdict) c.deref.ensures.value
    (c.interval_at-interval.ensures.leads (address_at c.args.map.now.end p) (c.between.ensures.only p (c.narrow_by.ensures.alike p inside ∙ yes)))
