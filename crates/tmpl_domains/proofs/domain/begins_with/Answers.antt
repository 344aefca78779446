use Rattle.std.proofs.Common.{sym, ◌∙◌}
use Rattle.tmpl_domains.proofs.Prefixes.{IsPrefix-starts_with}
use Rattle.tmpl_domains.proofs.domain.begins_with.Goals as goal

pub returns : goal.returns
returns c =
    let means = IsPrefix-starts_with c.args.path.now c.args.front.now in
    (λ found. means.0 (sym c.starts_with.ensures.value ∙ found), λ p. c.starts_with.ensures.value ∙ means.1 p)
