use Rattle.std.proofs.Common.{◌≡◌, ◌++◌, drop, not}
use Rattle.std.specs.List.{filter}
use Rattle.nft_emit.specs.inner.Falls.{is_apart}
use Rattle.nft_emit.proofs.maps.parts_of.Given as goal

abbrev pub invariant-loop-element : goal.invariant-loop-element
invariant-loop-element l = record {
  singles : l.parts.singles.items ++ filter (is_apart l.apart) (drop l.element-index l.elements) ≡ filter (is_apart l.apart) l.elements;
  others : l.parts.others.items ++ filter (λ e. not (is_apart l.apart e)) (drop l.element-index l.elements) ≡ filter (λ e. not (is_apart l.apart e)) l.elements;
}
