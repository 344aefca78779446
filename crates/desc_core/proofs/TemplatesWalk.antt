-- Iteration over the templates: each is checked after those before it.
use Rattle.std.proofs.Common.{◌≡◌, ℕ, ◌+◌, ◌<◌, Bool, true, false, List, [], ◌∷◌, ◌++◌, map, take, drop, get_or, length, Option, Some, sym, ap, ◌∙◌}
use Rattle.std.proofs.lemmas.List.{map-append, take_more}
use Rattle.std.specs.Prelude.{if◌then◌else◌}
use Rattle.desc_core.proofs.ListingLaws.{next}
use Rattle.desc_core.specs.TemplateConditions.{first_bad, is_well_formed}
use Rattle.desc_form.specs.inner.RawView.{template_view}
use Rattle.desc_form.specs.declared.raw.RawTemplate.{RawTemplate}

good_by : (b : Bool) (later : Option ℕ) (k : ℕ) (whole : Option ℕ) → b ≡ true → (if b then later else Some k) ≡ whole → later ≡ whole
good_by true later k whole good is = is
good_by false later k whole good is = cc

bad_by : (b : Bool) (later : Option ℕ) (k : ℕ) (whole : Option ℕ) → b ≡ false → (if b then later else Some k) ≡ whole → Some k ≡ whole
bad_by true later k whole bad is = cc
bad_by false later k whole bad is = is

front : (ts : List RawTemplate) (i : ℕ) (t : RawTemplate) → i < length ts → t ≡ get_or ts i t
    → map template_view (take (i + 1) ts) ≡ map template_view (take i ts) ++ template_view t ∷ []
front ts i t within here =
    ap (map template_view) (take_more ts i t within) ∙ map-append template_view (take i ts) (get_or ts i t ∷ [])
    ∙ ap (λ (u : RawTemplate). map template_view (take i ts) ++ template_view u ∷ []) (sym here)

pub good_more : (ts : List RawTemplate) (i : ℕ) (t : RawTemplate) (whole : Option ℕ) → i < length ts → t ≡ get_or ts i t
    → is_well_formed (map template_view (take i ts)) (template_view t) ≡ true
    → first_bad (map template_view (take i ts)) (i + 1) (map template_view (drop i ts)) ≡ whole
    → first_bad (map template_view (take (i + 1) ts)) (i + 1 + 1) (map template_view (drop (i + 1) ts)) ≡ whole
good_more ts i t whole within here good so_far =
    ap (λ earlier. first_bad earlier (i + 1 + 1) (map template_view (drop (i + 1) ts))) (front ts i t within here)
    ∙ good_by (is_well_formed (map template_view (take i ts)) (template_view t)) _ (i + 1) whole good
    (sym (ap (λ us. first_bad (map template_view (take i ts)) (i + 1) (map template_view us)) (next ts i t t within here)) ∙ so_far)

pub bad_here : (ts : List RawTemplate) (i : ℕ) (t : RawTemplate) (whole : Option ℕ) → i < length ts → t ≡ get_or ts i t
    → is_well_formed (map template_view (take i ts)) (template_view t) ≡ false
    → first_bad (map template_view (take i ts)) (i + 1) (map template_view (drop i ts)) ≡ whole → Some (i + 1) ≡ whole
bad_here ts i t whole within here bad so_far =
    bad_by (is_well_formed (map template_view (take i ts)) (template_view t)) _ (i + 1) whole bad
    (sym (ap (λ us. first_bad (map template_view (take i ts)) (i + 1) (map template_view us)) (next ts i t t within here)) ∙ so_far)
