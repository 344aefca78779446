-- The code's result for an assign of `tainting` is the attribute of the assign, and the labels of all assigns up to it.
use Rattle.std.proofs.Common.{◌≡◌, ◌≤◌, ◌<◌, ℕ, inl, inr, Bool, true, false, nat_lt, ◌&&◌, List, [], ◌∷◌, ◌++◌, append-nil, length, Option, Some, None, option_map, option_and_then, refl, sym, ap, ◌∙◌, subst, arith}
use Rattle.std.proofs.lemmas.Bool.Decides.{nat_tests}
use Rattle.std.proofs.lemmas.Grind.{flat_map-append}
use Rattle.std.proofs.lemmas.Option.{option_and_then_some}
use Rattle.std.specs.List.{list_all}
use Rattle.std.specs.Prelude.{codes, flat_map, if◌then◌else◌}
use Rattle.toml.specs.Data.{Members}
use Rattle.attr_core.specs.Assigns.{Given}
use Rattle.attr_core.specs.laws.LabelBitsLaws.{among_is, bits_are, extends_self, key_bits}
use Rattle.attr_core.specs.inner.LabelWalk.{Labelled, are_among, labelled, labels_at, tainting_reads}
use Rattle.attr_core.specs.laws.LabelsLaws.{IsBad, bad_labels_are, labelled_read, said_by}
use Rattle.attr_core.specs.Tainting.{bits_of, different, is_listed, labels_in, labels_of, said_of, told, with_label}
use Rattle.tmpl_levels.specs.declared.tainting.Labels.{Labels}

different_append : (labels first second : List (List ℕ)) → different labels (first ++ second) ≡ different (different labels first) second
different_append labels [] second = refl
different_append labels (l ∷ first) second = different_append (with_label labels l) first second

-- The labels so far are the distinct labels of those that were listed.
labels_told : (labels : List (List ℕ)) (table : Members) (l : Labelled) → length labels ≤ 64 → labelled labels table ≡ Some l
    → (l.labels ≡ different labels (told table)) × (length l.labels ≤ 64)
labels_told labels table l few is =
    let (ts, us, first, second, same, small) = labelled_read labels table l few is in
    (rw (first, second) (same ∙ sym (different_append labels ts us)), small)

-- The attribute of two lists.
abbrev pub both_sets : ℕ → ℕ → Labels
both_sets taints untaints = record { taints = taints; untaints = untaints }

abbrev pub said_by_lists : List (List ℕ) → Option (List (List ℕ)) → Option (List (List ℕ)) → Option Labels
said_by_lists labels taints untaints =
    option_and_then (λ ts. option_and_then (λ us.
    if nat_lt (length labels) 65 && list_all (is_listed ts) us then Some (both_sets (bits_of labels ts) (bits_of labels us)) else None) untaints) taints

pub said_lists : (labels : List (List ℕ)) (table : Members)
    → said_of labels table ≡ said_by_lists labels (labels_in (codes "taints") table) (labels_in (codes "untaints") table)
unfolding said_of
said_lists labels table = refl

no_taints : (labels : List (List ℕ)) (taints untaints : Option (List (List ℕ))) → taints ≡ None → said_by_lists labels taints untaints ≡ None
no_taints labels taints untaints none = rw none refl

no_untaints : (labels : List (List ℕ)) (taints untaints : Option (List (List ℕ))) → untaints ≡ None → said_by_lists labels taints untaints ≡ None
no_untaints labels None untaints none = refl
no_untaints labels (Some ts) untaints none = rw none refl

too_many : (labels : List (List ℕ)) (taints untaints : Option (List (List ℕ))) → nat_lt (length labels) 65 ≡ false → said_by_lists labels taints untaints ≡ None
too_many labels None untaints over = refl
too_many labels (Some ts) None over = refl
too_many labels (Some ts) (Some us) over = rw over refl

neither : {A : Type 0} (a b : Bool) (x : A) → b ≡ false → (if a && b then Some x else None) ≡ None
neither true b x is = rw is refl
neither false b x is = refl

takes_off : (labels : List (List ℕ)) (taints untaints : Option (List (List ℕ))) (ts us : List (List ℕ)) → taints ≡ Some ts → untaints ≡ Some us
    → list_all (is_listed ts) us ≡ false → said_by_lists labels taints untaints ≡ None
takes_off labels taints untaints ts us first second more =
    rw (first, second) (neither (nat_lt (length labels) 65) (list_all (is_listed ts) us) (both_sets (bits_of labels ts) (bits_of labels us)) more)

both_said : (labels : List (List ℕ)) (taints untaints : Option (List (List ℕ))) (ts us : List (List ℕ)) → taints ≡ Some ts → untaints ≡ Some us
    → nat_lt (length labels) 65 ≡ true → list_all (is_listed ts) us ≡ true
    → said_by_lists labels taints untaints ≡ Some (both_sets (bits_of labels ts) (bits_of labels us))
both_said labels taints untaints ts us first second few all = rw (first, second, few, all) refl

-- If the iteration has no result.
over_by : (n : ℕ) → 64 < n → nat_lt n 65 ≡ false
over_by n over = grind (arith, nat_tests)

said_none : (labels : List (List ℕ)) (table : Members) → IsBad labels table
    → said_by_lists (different labels (told table)) (labels_in (codes "taints") table) (labels_in (codes "untaints") table) ≡ None
said_none labels table (inl (inl none)) = no_taints _ (labels_in (codes "taints") table) (labels_in (codes "untaints") table) none
said_none labels table (inl (inr none)) = no_untaints _ (labels_in (codes "taints") table) (labels_in (codes "untaints") table) none
said_none labels table (inr (inl many)) =
    let whole : different (different labels many.first) many.second ≡ different labels (told table) =
    rw (many.listed, many.behind) (sym (different_append labels many.first many.second)) in
    too_many (different labels (told table)) (labels_in (codes "taints") table) (labels_in (codes "untaints") table)
    (over_by (length (different labels (told table))) (subst (λ (ls : List (List ℕ)). 64 < length ls) whole many.many))
said_none labels table (inr (inr more)) =
    let (ts, first, taints) = key_bits (codes "taints") labels table more.taints more.listed in
    let (us, second, untaints) = key_bits (codes "untaints") more.taints.labels table more.untaints more.behind in
    takes_off (different labels (told table)) (labels_in (codes "taints") table) (labels_in (codes "untaints") table) ts us first second
    (sym (among_is labels ts us more.taints more.untaints taints untaints) ∙ more.more)

pub if_among : {A : Type 0} (b : Bool) (x y : A) → (if b then Some x else None) ≡ Some y → (b ≡ true) × (x ≡ y)
if_among true x y is = (refl, cc)
if_among false x y is = cc

said_sets : (labels : List (List ℕ)) (table : Members) (l : Labelled) → labelled labels table ≡ Some l
    → (ts : List (List ℕ)) × (us : List (List ℕ)) × (labels_in (codes "taints") table ≡ Some ts) × (labels_in (codes "untaints") table ≡ Some us)
    × (list_all (is_listed ts) us ≡ true) × (l.attribute ≡ both_sets (bits_of l.labels ts) (bits_of l.labels us))
unfolding labelled
said_sets labels table l is =
    option_and_then_some _ (labels_at (codes "taints") labels table) l is (λ t is_t rest.
    option_and_then_some _ (labels_at (codes "untaints") t.labels table) l rest (λ u is_u last.
    let (ts, first, taints) = key_bits (codes "taints") labels table t is_t in
    let (us, second, untaints) = key_bits (codes "untaints") t.labels table u is_u in
    let (among, same) = if_among (are_among u.bits t.bits) (said_by t u) l last in
    let put_on : t.bits ≡ bits_of u.labels ts = bits_are labels ts t taints u.labels untaints.grown in
    let taken_off : u.bits ≡ bits_of u.labels us = bits_are t.labels us u untaints u.labels (extends_self u.labels) in
    let sets : both_sets t.bits u.bits ≡ both_sets (bits_of u.labels ts) (bits_of u.labels us) = λ i. both_sets (put_on i) (taken_off i) in (
      ts,
      us,
      first,
      second,
      sym (among_is labels ts us t u taints untaints) ∙ among,
      ap (λ (m : Labelled). m.attribute) (sym same) ∙ sets ∙ ap (λ ls. both_sets (bits_of ls ts) (bits_of ls us)) (ap (λ (m : Labelled). m.labels) same),
    )))

below : (n : ℕ) → n ≤ 64 → nat_lt n 65 ≡ true
below n few = grind (arith, nat_tests)

said_some : (labels : List (List ℕ)) (table : Members) (l : Labelled) → length labels ≤ 64 → labelled labels table ≡ Some l
    → said_by_lists (different labels (told table)) (labels_in (codes "taints") table) (labels_in (codes "untaints") table) ≡ Some l.attribute
said_some labels table l few is =
    let (same, small) = labels_told labels table l few is in
    let (ts, us, first, second, all, sets) = said_sets labels table l is in
    let taints = labels_in (codes "taints") table in
    let untaints = labels_in (codes "untaints") table in
    ap (λ ls. said_by_lists ls taints untaints) (sym same)
    ∙ both_said l.labels taints untaints ts us first second (below (length l.labels) small) all
    ∙ ap Some (sym sets)

said_by_walk : (labels : List (List ℕ)) (table : Members) (o : Option Labelled) → length labels ≤ 64 → labelled labels table ≡ o
    → said_by_lists (different labels (told table)) (labels_in (codes "taints") table) (labels_in (codes "untaints") table)
    ≡ option_map (λ (l : Labelled). l.attribute) o
said_by_walk labels table None few is = said_none labels table (bad_labels_are labels table few is)
said_by_walk labels table (Some l) few is = said_some labels table l few is

-- Some more assigns, and one.
pub told_all : (earlier more : List Given)
    → labels_of (earlier ++ more) ≡ different (labels_of earlier) (flat_map (λ (a : Given). told a.table) more)
told_all earlier more =
    let lists : List Given → List (List ℕ) = λ gs. flat_map (λ (a : Given). told a.table) gs in
    ap (different []) (flat_map-append (λ (a : Given). told a.table) earlier more) ∙ different_append [] (lists earlier) (lists more)

pub told_more : (earlier : List Given) (a : Given) → labels_of (earlier ++ a ∷ []) ≡ different (labels_of earlier) (told a.table)
told_more earlier a = told_all earlier (a ∷ []) ∙ ap (different (labels_of earlier)) (append-nil (told a.table))

-- The attribute of an assign is the code's result for it.
pub reads_is : (earlier : List Given) (a : Given) → length (labels_of earlier) ≤ 64
    → tainting_reads earlier a ≡ option_map (λ (l : Labelled). l.attribute) (labelled (labels_of earlier) a.table)
reads_is earlier a few =
    ap (λ ls. said_of ls a.table) (told_more earlier a) ∙ said_lists (different (labels_of earlier) (told a.table)) a.table
    ∙ said_by_walk (labels_of earlier) a.table (labelled (labels_of earlier) a.table) few refl

-- The labels up to it are part of the result.
pub labels_more : (earlier : List Given) (a : Given) (l : Labelled) → length (labels_of earlier) ≤ 64 → labelled (labels_of earlier) a.table ≡ Some l
    → (l.labels ≡ labels_of (earlier ++ a ∷ [])) × (length l.labels ≤ 64)
labels_more earlier a l few is =
    let (same, small) = labels_told (labels_of earlier) a.table l few is in
    (same ∙ sym (told_more earlier a), small)
