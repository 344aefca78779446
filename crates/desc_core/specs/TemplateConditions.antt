-- Refusals 23 and 24 of a description: the templates that it declares (the description's format, docs/FORMATS.md).
use Rattle.std.specs.Prelude.{ℕ, ◌+◌, Bool, true, not, ◌&&◌, ◌||◌, nat_le, nat_lt, List, [], ◌∷◌, ◌++◌, length, find, Option, Some, None, option_map, is_none, codes, if◌then◌else◌}
use Rattle.std.specs.List.{list_all, list_any}
use Rattle.std.specs.Str.{bytes_eq}
use Rattle.attr_core.specs.Templates.{template_named}
use Rattle.desc_form.specs.Refusals.{refused, refused_item}
use Rattle.desc_form.specs.RawTemplate.{RawPair, RawTemplate}
use Rattle.desc_form.specs.declared.refusal.Place.TheVariants.{Template}
use Rattle.desc_form.specs.declared.refusal.Refusal.{Refusal}
use Rattle.desc_form.specs.declared.refusal.Why.TheVariants.{BadTemplate, NotLawful}
use Rattle.text_core.specs.FirstMatch.{Numbered, first_found, numbered}
use Rattle.text_core.specs.Name.{is_name}

-- The greatest number of kinds of a template.
abbrev pub kind_limit : ℕ
kind_limit = 64

-- The name is legal, and differs from the ten templates and from those of earlier templates.
abbrev pub has_own_name : List RawTemplate → RawTemplate → Bool
has_own_name earlier t =
    is_name t.name && is_none (template_named t.name) && not (list_any (λ e. bytes_eq t.name e.name) earlier)

-- The strategy is `access` or `information`.
abbrev pub has_strategy : RawTemplate → Bool
has_strategy t = bytes_eq t.strategy (codes "access") || bytes_eq t.strategy (codes "information")

-- The words are distinct.
abbrev pub are_different : List (List ℕ) → Bool
are_different [] = true
are_different (word ∷ words) = not (list_any (bytes_eq word) words) && are_different words

-- There are 1 to 64 kinds, with distinct legal names.
abbrev pub has_kinds : RawTemplate → Bool
has_kinds t =
    nat_lt 0 (length t.kinds) && nat_le (length t.kinds) kind_limit && list_all is_name t.kinds && are_different t.kinds

-- The word is a kind of the template.
abbrev pub is_kind : RawTemplate → List ℕ → Bool
is_kind t word = list_any (bytes_eq word) t.kinds

-- The default and every word of a denied pair is one of the kinds.
abbrev pub uses_kinds : RawTemplate → Bool
uses_kinds t = is_kind t t.default && list_all (λ p. is_kind t p.sender && is_kind t p.receiver) t.deny

-- The template is valid, after these earlier ones.
abbrev pub is_well_formed : List RawTemplate → RawTemplate → Bool
is_well_formed earlier t = has_own_name earlier t && has_strategy t && has_kinds t && uses_kinds t

-- The number of the first template that is invalid after the earlier ones; they are counted from k.
abbrev pub first_bad : List RawTemplate → ℕ → List RawTemplate → Option ℕ
first_bad earlier k [] = None
first_bad earlier k (t ∷ ts) = if is_well_formed earlier t then first_bad (earlier ++ t ∷ []) (k + 1) ts else Some k

-- 23: a template is invalid.
abbrev pub bad_template : List RawTemplate → Option Refusal
bad_template ts = option_map (λ k. refused BadTemplate (Template k)) (first_bad [] 1 ts)

-- The template denies the pair.
abbrev pub denies : RawTemplate → List ℕ → List ℕ → Bool
denies t sender receiver = list_any (λ p. bytes_eq p.sender sender && bytes_eq p.receiver receiver) t.deny

-- The partner of the pair is denied: the same pair with the default at the offending host.
abbrev pub has_partner : RawTemplate → RawPair → Bool
has_partner t p = if bytes_eq t.strategy (codes "access") then denies t t.default p.receiver else denies t p.sender t.default

-- A template is refused at its first denied pair without a denied partner.
abbrev pub unlawful_at : Numbered RawTemplate → Option Refusal
unlawful_at t =
    option_map (λ p. refused_item NotLawful (Template t.number) p.number) (find (λ p. not (has_partner t.what p.what)) (numbered t.what.deny))

-- 24: a denied pair has no denied partner.
abbrev pub not_lawful : List RawTemplate → Option Refusal
not_lawful ts = first_found unlawful_at (numbered ts)

-- The conditions on templates in the order of their numbers, 23 and 24.
abbrev pub template_conditions : List RawTemplate → List (Option Refusal)
template_conditions ts = bad_template ts ∷ not_lawful ts ∷ []
