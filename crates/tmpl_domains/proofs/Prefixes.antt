-- The result of `starts_with` for two paths that are stored segment by segment.
use Rattle.std.proofs.Common.{◌≡◌, ℕ, ◌-◌, Bool, List, [], ◌∷◌, ◌++◌, length, take, drop, eqb, refl, sym, ◌∙◌, ap, subst}
use Rattle.std.specs.Prelude.{IsTrue, ◌↔◌}
use Rattle.std.specs.Cmp.Lexicographic.{pointwise}
use Rattle.std.specs.List.{starts_with}
use Rattle.std.specs.Bool.{Decides}
use Rattle.std.specs.declared.alloc.Global.{Global}
use Rattle.std.specs.declared.vec.Vec.{Vec}
use Rattle.std.proofs.Math.Seq.{take-append_seam}
use Rattle.std.proofs.lemmas.Bool.{and_parts, and_from, false≢true}
use Rattle.std.proofs.lemmas.List.{take-append-drop, take-map, length-map}
use Rattle.std.proofs.lemmas.Slice.Eq.{bytes_eq-Decides}
use Rattle.tmpl_domains.specs.inner.DomainView.{segment_bytes}
use Rattle.tmpl_domains.specs.Domains.{trusted_path}
use Rattle.tmpl_domains.specs.Path.{IsPrefix}

-- Whether two segments are equal, by `==`.
abbrev pub same_segment : Vec ℕ Global → Vec ℕ Global → Bool
same_segment x y = pointwise eqb x.items y.items

pub same_segments : (xs ys : List (Vec ℕ Global)) → Decides (pointwise same_segment xs ys) (segment_bytes xs ≡ segment_bytes ys)
same_segments [] [] = (λ _. refl, λ _. refl)
same_segments [] (y ∷ ys) = (λ h. absurd (false≢true h), λ e. cc)
same_segments (x ∷ xs) [] = (λ h. absurd (false≢true h), λ e. cc)
same_segments (x ∷ xs) (y ∷ ys) =
    let head = bytes_eq-Decides x.items y.items in
    let tail = same_segments xs ys in (
      λ h. let parts = and_parts _ _ h in λ i. head.0 parts.0 i ∷ tail.0 parts.1 i,
      λ e. let first : x.items ≡ y.items = cc in
          let rest : segment_bytes xs ≡ segment_bytes ys = cc in
          and_from _ _ (head.1 first) (tail.1 rest),
    )

cut_front : (xs rest : List (List ℕ)) {n : ℕ} → length xs ≡ n → take n (xs ++ rest) ≡ xs
cut_front xs rest e = ap (λ k. take k (xs ++ rest)) (sym e) ∙ take-append_seam xs rest

pub IsPrefix-starts_with : (path front : List (Vec ℕ Global))
    → IsTrue (starts_with same_segment path front) ↔ IsPrefix (segment_bytes front) (segment_bytes path)
IsPrefix-starts_with path front =
    let same = same_segments front (take (length front) path) in
    let cut : take (length front) (segment_bytes path) ≡ segment_bytes (take (length front) path) = take-map (λ (segment : Vec ℕ Global). segment.items) (length front) path in (
      λ h. (
        drop (length front) (segment_bytes path),
        sym (take-append-drop (length front) (segment_bytes path)) ∙ ap (λ xs. xs ++ drop (length front) (segment_bytes path)) (cut ∙ sym (same.0 h)),
      ),
      λ p. same.1 (sym (cut_front (segment_bytes front) p.0 (length-map front _)) ∙ ap (take (length front)) (sym p.1) ∙ cut),
    )

-- The retained segments of a path are its trusted path.
pub segment_bytes-take : (xs path : List (Vec ℕ Global)) (kept trust : ℕ) → xs ≡ path → kept ≡ length path - trust
    → segment_bytes (take kept xs) ≡ trusted_path (record { path = segment_bytes path; trust = trust })
segment_bytes-take xs path kept trust same count =
    let few : kept ≡ length (segment_bytes path) - trust = count ∙ ap (λ n. n - trust) (sym (length-map path _)) in
    sym (take-map (λ (segment : Vec ℕ Global). segment.items) kept xs)
    ∙ (λ i. take (few i) (segment_bytes (same i)))

pub IsPrefix-same : {front front' path path' : List (List ℕ)} (r : Bool) → front ≡ front' → path ≡ path'
    → IsTrue r ↔ IsPrefix front path → IsTrue r ↔ IsPrefix front' path'
IsPrefix-same r e f means = subst (λ (paths : List (List ℕ) × List (List ℕ)). IsTrue r ↔ IsPrefix paths.0 paths.1) (λ i. (e i, f i)) means
