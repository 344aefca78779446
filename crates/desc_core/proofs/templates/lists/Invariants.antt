use Rattle.std.proofs.Common.{◌≡◌, ◌&&◌, map, drop}
use Rattle.std.specs.List.{list_any}
use Rattle.std.specs.Str.{bytes_eq}
use Rattle.desc_form.specs.RawTemplate.{RawPair}
use Rattle.desc_form.specs.inner.RawView.{pair_view}
use Rattle.desc_core.proofs.templates.lists.Given as goal

abbrev pub invariant-loop-pair : goal.invariant-loop-pair
invariant-loop-pair l =
    list_any (λ (p : RawPair). bytes_eq p.sender l.sender && bytes_eq p.receiver l.receiver) (map pair_view (drop l.pair-index l.pairs))
    ≡ list_any (λ (p : RawPair). bytes_eq p.sender l.sender && bytes_eq p.receiver l.receiver) (map pair_view l.pairs)
