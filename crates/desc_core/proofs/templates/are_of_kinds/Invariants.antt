use Rattle.std.proofs.Common.{◌≡◌, ◌&&◌, map, drop, Bor, List, ℕ}
use Rattle.std.specs.List.{list_all, list_any}
use Rattle.std.specs.Str.{bytes_eq}
use Rattle.desc_form.specs.RawTemplate.{RawPair}
use Rattle.desc_form.specs.inner.RawView.{pair_view}
use Rattle.desc_core.proofs.templates.are_of_kinds.Given as goal

abbrev pub invariant-loop-pair : goal.invariant-loop-pair
invariant-loop-pair l =
    list_all (λ (p : RawPair). list_any (bytes_eq p.sender) (map (λ (kind : Bor (List ℕ)). kind.now) l.kinds) && list_any (bytes_eq p.receiver) (map (λ (kind : Bor (List ℕ)). kind.now) l.kinds)) (map pair_view (drop l.pair-index l.pairs))
    ≡ list_all (λ (p : RawPair). list_any (bytes_eq p.sender) (map (λ (kind : Bor (List ℕ)). kind.now) l.kinds) && list_any (bytes_eq p.receiver) (map (λ (kind : Bor (List ℕ)). kind.now) l.kinds)) (map pair_view l.pairs)
