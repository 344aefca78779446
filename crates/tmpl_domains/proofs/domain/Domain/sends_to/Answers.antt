use Rattle.std.proofs.Common.{◌≡◌, ◌-◌, length, ap, ◌∙◌, arith}
use Rattle.tmpl_domains.specs.Domains.{Place, trusted_path}
use Rattle.tmpl_domains.specs.inner.DomainView.{segment_bytes}
use Rattle.tmpl_domains.proofs.Prefixes.{segment_bytes-take, IsPrefix-same}
use Rattle.tmpl_domains.proofs.domain.Domain.sends_to.Goals as goal

pub returns : goal.returns
returns c =
    let path = c.self.inside.path in
    let kept : c.saturating_sub-kept.result ≡ length path.items - c.self.inside.trust =
    omega (arith, c.saturating_sub-kept.ensures, c.len.ensures, path.ok.0) in
    let front = segment_bytes-take _ _ _ _ c.deref-2.ensures.value kept ∙ ap trusted_path c.self.view_is in
    let whole = ap segment_bytes c.deref.ensures.value ∙ ap (λ (place : Place). place.path) c.receiver.view_is in
    IsPrefix-same c.begins_with.result front whole c.begins_with.ensures
