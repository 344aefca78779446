-- An assign of `tainting` specifies the labels that it lists if its host removes only labels that it has.
use Rattle.std.proofs.Common.{◌≡◌, ◌↔◌, ℕ, ◌+◌, Bool, true, false, nat_lt, ◌&&◌, ◌||◌, List, [], ◌∷◌, ◌++◌, length, Option, Some, None, option_and_then, inl, inr, refl, ap, ◌∙◌, subst}
use Rattle.std.proofs.lemmas.Bool.{false≢true, or_cases, or_left, or_right}
use Rattle.std.proofs.lemmas.Slice.Eq.{bytes_eq-Decides}
use Rattle.std.specs.List.{list_all, position_from}
use Rattle.std.specs.Prelude.{codes, unwrap_or, if◌then◌else◌}
use Rattle.std.specs.Str.{bytes_eq}
use Rattle.tmpl_levels.specs.Tainting.{TakesOffItsOwn}
use Rattle.tmpl_levels.specs.declared.tainting.Labels.{Labels}
use Rattle.attr_core.specs.laws.LabelBitsLaws.{all_listed, bits_mark, each_listed, one_place, place_of}
use Rattle.attr_core.specs.laws.LabelWalkLaws.{told_more}
use Rattle.attr_core.specs.inner.MayHave.{SaysWhatHostsMayHave, sets_listed}
use Rattle.attr_core.specs.Tainting.{bits_of, different, is_listed, labels_in, labels_of, said_of, tainting_form, with_label}

pub listed_front : (first second : List (List ℕ)) (l : List ℕ) → is_listed first l ≡ true → is_listed (first ++ second) l ≡ true
listed_front [] second l listed = absurd (false≢true listed)
listed_front (m ∷ first) second l listed = elim (or_cases (bytes_eq l m) (is_listed first l) listed) [
  | inl same ↦ or_left (bytes_eq l m) (is_listed (first ++ second) l) same
  | inr later ↦ or_right (bytes_eq l m) (is_listed (first ++ second) l) (listed_front first second l later)
]

pub listed_back : (first second : List (List ℕ)) (l : List ℕ) → is_listed second l ≡ true → is_listed (first ++ second) l ≡ true
listed_back [] second l listed = listed
listed_back (m ∷ first) second l listed = or_right (bytes_eq l m) (is_listed (first ++ second) l) (listed_back first second l listed)

kept_by : (labels : List (List ℕ)) (m l : List ℕ) (b : Bool) → is_listed labels l ≡ true
    → is_listed (if b then labels else labels ++ m ∷ []) l ≡ true
kept_by labels m l true listed = listed
kept_by labels m l false listed = listed_front labels (m ∷ []) l listed

-- The labels so far are preserved, and the listed ones are added.
listed_kept : (labels more : List (List ℕ)) (l : List ℕ) → is_listed labels l ≡ true → is_listed (different labels more) l ≡ true
listed_kept labels [] l listed = listed
listed_kept labels (m ∷ more) l listed = listed_kept (with_label labels m) more l (kept_by labels m l (is_listed labels m) listed)

added_by : (labels : List (List ℕ)) (m : List ℕ) (b : Bool) → is_listed labels m ≡ b → is_listed (if b then labels else labels ++ m ∷ []) m ≡ true
added_by labels m true is = is
added_by labels m false is = listed_back labels (m ∷ []) m (or_left (bytes_eq m m) false ((bytes_eq-Decides m m).1 refl))

listed_added : (labels more : List (List ℕ)) (l : List ℕ) → is_listed more l ≡ true → is_listed (different labels more) l ≡ true
listed_added labels [] l listed = absurd (false≢true listed)
listed_added labels (m ∷ more) l listed = elim (or_cases (bytes_eq l m) (is_listed more l) listed) [
  | inl same ↦
      listed_kept (with_label labels m) more l
      (ap (is_listed (with_label labels m)) ((bytes_eq-Decides l m).0 same) ∙ added_by labels m (is_listed labels m) refl)
  | inr later ↦ listed_added (with_label labels m) more l later
]

-- A listed label has an index.
place_by : (b listed : Bool) (n : ℕ) (later : Option ℕ) → (b || listed) ≡ true → (listed ≡ true → (k : ℕ) × (later ≡ Some k))
    → (k : ℕ) × ((if b then Some n else later) ≡ Some k)
place_by true listed n later is behind = (n, refl)
place_by false listed n later is behind = behind is

place_from : (n : ℕ) (labels : List (List ℕ)) (l : List ℕ) → is_listed labels l ≡ true
    → (k : ℕ) × (position_from (bytes_eq l) n labels ≡ Some k)
place_from n [] l listed = absurd (false≢true listed)
place_from n (m ∷ labels) l listed =
    place_by (bytes_eq l m) (is_listed labels l) n (position_from (bytes_eq l) (n + 1) labels) listed (place_from (n + 1) labels l)

pub placed : (before listed labels : List (List ℕ)) → labels ≡ different before listed
    → (l : List ℕ) → is_listed listed l ≡ true → (k : ℕ) × (place_of labels l ≡ Some k)
placed before listed labels is l among = place_from 0 labels l (ap (λ ls. is_listed ls l) is ∙ listed_added before listed l among)

-- Each removed label is an added label if and only if this holds for the sets of their indices.
own_listed : (labels ts us : List (List ℕ)) → ((l : List ℕ) → is_listed ts l ≡ true → (k : ℕ) × (place_of labels l ≡ Some k))
    → ((l : List ℕ) → is_listed us l ≡ true → (k : ℕ) × (place_of labels l ≡ Some k))
    → (list_all (is_listed ts) us ≡ true) ↔ TakesOffItsOwn (record { taints = bits_of labels ts; untaints = bits_of labels us })
own_listed labels ts us put_on taken_off = (
  λ all label off.
      let (l, listed, at) = (bits_mark labels us taken_off label).0 off in
      (bits_mark labels ts put_on label).1 (l, each_listed ts us all l listed, at),
  λ own. all_listed ts us (λ l listed.
      let (k, at) = taken_off l listed in
      let (m, there, its) = (bits_mark labels ts put_on k).0 (own k ((bits_mark labels us taken_off k).1 (l, listed, at))) in
      ap (is_listed ts) (one_place l m 0 k labels at its) ∙ there),
)

sets_by : (few all : Bool) (sets x : Labels) → (all ≡ true) ↔ TakesOffItsOwn sets
    → ((if few && all then Some sets else None) ≡ Some x) ↔ (((if few then Some sets else None) ≡ Some x) × TakesOffItsOwn x)
sets_by true true sets x own = (λ said. let same : sets ≡ x = cc in (said, subst TakesOffItsOwn same (own.0 refl)), λ both. both.0)
sets_by true false sets x own = (
  λ said. cc,
  λ both. let listed : Some sets ≡ Some x = both.0 in let same : x ≡ sets = cc in absurd (false≢true (own.1 (subst TakesOffItsOwn same both.1))),
)
sets_by false all sets x own = (λ said. cc, λ both. let none : None ≡ Some x = both.0 in cc)

said_of_lists : (before : List (List ℕ)) (taints untaints : Option (List (List ℕ))) (labels : List (List ℕ)) (x : Labels)
    → labels ≡ different before (unwrap_or taints [] ++ unwrap_or untaints [])
    → (option_and_then (λ ts. option_and_then (λ us. if nat_lt (length labels) 65 && list_all (is_listed ts) us then Some (record { taints = bits_of labels ts; untaints = bits_of labels us }) else None) untaints) taints ≡ Some x) ↔
    ((option_and_then (λ ts. option_and_then (λ us. if nat_lt (length labels) 65 then Some (record { taints = bits_of labels ts; untaints = bits_of labels us }) else None) untaints) taints ≡ Some x) × TakesOffItsOwn x)
said_of_lists before None untaints labels x is = (λ said. cc, λ both. let none : None ≡ Some x = both.0 in cc)
said_of_lists before (Some ts) None labels x is = (λ said. cc, λ both. let none : None ≡ Some x = both.0 in cc)
said_of_lists before (Some ts) (Some us) labels x is =
    let known : (l : List ℕ) → is_listed (ts ++ us) l ≡ true → (k : ℕ) × (place_of labels l ≡ Some k) = placed before (ts ++ us) labels is in
    sets_by (nat_lt (length labels) 65) (list_all (is_listed ts) us) (record { taints = bits_of labels ts; untaints = bits_of labels us }) x
    (own_listed labels ts us (λ l listed. known l (listed_front ts us l listed)) (λ l listed. known l (listed_back ts us l listed)))

pub tainting_may_have : SaysWhatHostsMayHave tainting_form (λ hosts earlier a. sets_listed (labels_of (earlier ++ a ∷ [])) a.table)
unfolding said_of
tainting_may_have hosts earlier a x =
    said_of_lists (labels_of earlier) (labels_in (codes "taints") a.table) (labels_in (codes "untaints") a.table) (labels_of (earlier ++ a ∷ [])) x
    (told_more earlier a)
