-- Each host of an invariant of labels has the labels that its assign lists.
use Rattle.std.proofs.Common.{◌≡◌, ◌<◌, ◌==◌, ◌&&◌, ℕ, Bool, true, false, nat_lt, List, [], ◌∷◌, ◌++◌, append_assoc, length, Option, Some, None, is_some, refl, sym, ◌∙◌, subst}
use Rattle.std.proofs.lemmas.Bool.{false≢true}
use Rattle.std.proofs.lemmas.List.FromFn.{length-map-range_with_len}
use Rattle.std.specs.List.{list_all}
use Rattle.std.specs.Option.{option_or}
use Rattle.std.specs.Prelude.{codes, flat_map, unwrap_or, if◌then◌else◌}
use Rattle.host_net.specs.Host.{Host}
use Rattle.inv_any.specs.declared.any_inv.AnyInv.TheVariants as any
use Rattle.tmpl_levels.specs.Tainting.{untainted}
use Rattle.tmpl_levels.specs.declared.tainting.Labels.{Labels}
use Rattle.attr_core.specs.Assigns.{Given}
use Rattle.attr_core.specs.Forms.{attributes_in, bad_assign, bad_from, last_assigned, says}
use Rattle.attr_core.specs.laws.FormLaws.{attribute_at}
use Rattle.attr_core.specs.inner.LabelBits.{HasItsLabels, HasListed, HaveTheirLabels, assign_of}
use Rattle.attr_core.specs.laws.LabelBitsLaws.{Extends, bits_mark, extends_both, extends_self, keeps_place, place_of}
use Rattle.attr_core.specs.laws.LabelWalkLaws.{both_sets, if_among, said_by_lists, said_lists, told_all, told_more}
use Rattle.attr_core.proofs.MayHaveLaws.{here_by}
use Rattle.attr_core.specs.inner.ReadIn.{bad_in, invariant_in}
use Rattle.attr_core.specs.Shapes.{host_key, of_shape}
use Rattle.attr_core.proofs.TaintedMayHaveLaws.{listed_back, listed_front, placed}
use Rattle.attr_core.specs.Tainting.{bits_of, different, is_listed, labels_in, labels_of, said_of, tainting_form, told, with_label}
use Rattle.attr_core.specs.Templates.{form}
use Rattle.attr_core.proofs.TemplatesLaws.{bad_is, invariant_is}
use Rattle.attr_core.specs.declared.template.Template.{Template}
use Rattle.attr_core.specs.declared.template.Template.TheVariants.{Tainting}

-- More assigns append labels.
with_extends : (b : Bool) (labels : List (List ℕ)) (l : List ℕ) → Extends (if b then labels else labels ++ l ∷ []) labels
with_extends true labels l = extends_self labels
with_extends false labels l = (l ∷ [], refl)

different_extends : (labels more : List (List ℕ)) → Extends (different labels more) labels
different_extends labels [] = extends_self labels
different_extends labels (l ∷ more) =
    extends_both (different labels (l ∷ more)) (with_label labels l) labels (different_extends (with_label labels l) more)
    (with_extends (is_listed labels l) labels l)

labels_extend : (earlier more : List Given) → Extends (labels_of (earlier ++ more)) (labels_of earlier)
labels_extend earlier more =
    subst (λ (ls : List (List ℕ)). Extends ls (labels_of earlier)) (sym (told_all earlier more))
    (different_extends (labels_of earlier) (flat_map (λ (a : Given). told a.table) more))

-- A set of labels with their indices contains them among more labels too.
has_listed : (all labels ls : List (List ℕ)) → Extends all labels
    → ((l : List ℕ) → is_listed ls l ≡ true → (k : ℕ) × (place_of labels l ≡ Some k)) → HasListed all ls (bits_of labels ls)
has_listed all labels ls extends each number = (
  λ has.
      let (l, listed, at) = (bits_mark labels ls each number).0 has in
      (l, listed, keeps_place all labels l number extends at),
  λ marks.
      let (l, listed, at) = marks in
      let (k, here) = each l listed in
      let whole : Some k ≡ Some number = sym (keeps_place all labels l k extends here) ∙ at in
      (bits_mark labels ls each number).1 (l, listed, here ∙ whole),
)

none_listed : (all : List (List ℕ)) → HasListed all [] 0
none_listed all = bits_mark all [] (λ l listed. absurd (false≢true listed))

-- The attribute of one assign.
sets_have : (all before labels : List (List ℕ)) (taints untaints : Option (List (List ℕ))) (x : Labels) → Extends all labels
    → labels ≡ different before (unwrap_or taints [] ++ unwrap_or untaints []) → said_by_lists labels taints untaints ≡ Some x
    → HasListed all (unwrap_or taints []) x.taints × HasListed all (unwrap_or untaints []) x.untaints
sets_have all before labels None untaints x extends is said = cc
sets_have all before labels (Some ts) None x extends is said = cc
sets_have all before labels (Some ts) (Some us) x extends is said =
    let sets = both_sets (bits_of labels ts) (bits_of labels us) in
    let same : sets ≡ x = (if_among (nat_lt (length labels) 65 && list_all (is_listed ts) us) sets x said).1 in (
      subst (λ (s : Labels). HasListed all ts s.taints) same
          (has_listed all labels ts extends (λ l listed. placed before (ts ++ us) labels is l (listed_front ts us l listed))),
      subst (λ (s : Labels). HasListed all us s.untaints) same
          (has_listed all labels us extends (λ l listed. placed before (ts ++ us) labels is l (listed_back ts us l listed))),
    )

assign_has : (all : List (List ℕ)) (earlier : List Given) (a : Given) (x : Labels) → Extends all (labels_of (earlier ++ a ∷ []))
    → said_of (labels_of (earlier ++ a ∷ [])) a.table ≡ Some x → HasItsLabels all (Some a) x
assign_has all earlier a x extends said =
    let labels : List (List ℕ) = labels_of (earlier ++ a ∷ []) in
    let (put_on, taken_off) =
    sets_have all (labels_of earlier) labels (labels_in (codes "taints") a.table) (labels_in (codes "untaints") a.table) x extends
    (told_more earlier a) (sym (said_lists labels a.table) ∙ said) in
    record { put_on = put_on; taken_off = taken_off }

-- The result of all assigns for a host: nothing if none is for it.
abbrev IsSaid : List (List ℕ) → Option Given → Option Labels → Type 0
IsSaid all None None = Unit {0}
IsSaid all None (Some x) = ⊥
IsSaid all (Some a) None = ⊥
IsSaid all (Some a) (Some x) = HasItsLabels all (Some a) x

here_said : (all : List (List ℕ)) (b : Bool) (a : Given) (o : Option Labels) (x : Labels) → o ≡ Some x → HasItsLabels all (Some a) x
    → IsSaid all (if b then Some a else None) (if b then o else None)
here_said all true a o x is has = subst (IsSaid all (Some a)) (sym is) has
here_said all false a o x is has = tt

last_is : (all : List (List ℕ)) (a b : Option Given) (x y : Option Labels) → IsSaid all a x → IsSaid all b y
    → IsSaid all (option_or a b) (option_or x y)
last_is all None b None y later here = here
last_is all None b (Some x) y later here = absurd later
last_is all (Some a) b None y later here = absurd later
last_is all (Some a) b (Some x) y later here = later

good_here : {A : Type 0} (o : Option A) (later : Option ℕ) (n : ℕ) → (if is_some o then later else Some n) ≡ None
    → (x : A) × (o ≡ Some x) × (later ≡ None)
good_here None later n good = cc
good_here (Some x) later n good = (x, refl, good)

hosts_said : (hosts : List Host) (all : List (List ℕ)) (earlier : List Given) (host : ℕ) (rest : List Given)
    → Extends all (labels_of (earlier ++ rest)) → bad_from (says tainting_form hosts) earlier rest ≡ None
    → IsSaid all (last_assigned (λ before a. Some a) earlier host rest) (last_assigned (says tainting_form hosts) earlier host rest)
hosts_said hosts all earlier host [] extends good = tt
hosts_said hosts all earlier host (a ∷ rest) extends good =
    let said : Option Labels = says tainting_form hosts earlier a in
    let (x, is, behind) = good_here said (bad_from (says tainting_form hosts) (earlier ++ a ∷ []) rest) (length earlier) good in
    let whole : Extends all (labels_of ((earlier ++ a ∷ []) ++ rest)) =
    subst (λ (gs : List Given). Extends all (labels_of gs)) (sym (append_assoc earlier (a ∷ []) rest)) extends in
    let here : Extends all (labels_of (earlier ++ a ∷ [])) =
    extends_both all (labels_of ((earlier ++ a ∷ []) ++ rest)) (labels_of (earlier ++ a ∷ [])) whole (labels_extend (earlier ++ a ∷ []) rest) in
    let reads = (here_by (of_shape a.table (host_key ∷ tainting_form.keys)) (tainting_form.reads hosts earlier a) x is).1 in
    last_is all (last_assigned (λ before b. Some b) (earlier ++ a ∷ []) host rest) (if a.host == host then Some a else None)
    (last_assigned (says tainting_form hosts) (earlier ++ a ∷ []) host rest) (if a.host == host then said else None)
    (hosts_said hosts all (earlier ++ a ∷ []) host rest whole behind)
    (here_said all (a.host == host) a said x is (assign_has all earlier a x here reads))

said_has : (all : List (List ℕ)) (a : Option Given) (x : Option Labels) → IsSaid all a x → HasItsLabels all a (unwrap_or x untainted)
said_has all None None said = record { put_on = none_listed all; taken_off = none_listed all }
said_has all None (Some x) said = absurd said
said_has all (Some a) None said = absurd said
said_has all (Some a) (Some x) said = said

tainted : (hosts : List Host) (assigns : List Given) → bad_assign tainting_form hosts assigns ≡ None
    → HaveTheirLabels assigns (any.Tainting (attributes_in tainting_form hosts assigns))
unfolding HaveTheirLabels
tainted hosts assigns good host within =
    let n : ℕ = length hosts in
    let last : ℕ → Option Labels = λ i. last_assigned (says tainting_form hosts) [] i assigns in
    let below : host < n = subst (λ m. host < m) (length-map-range_with_len (λ i. unwrap_or (last i) untainted) 0 n) within in
    subst (HasItsLabels (labels_of assigns) (assign_of assigns host))
    (sym (attribute_at (says tainting_form hosts) (λ i. untainted) n assigns host untainted below))
    (said_has (labels_of assigns) (assign_of assigns host) (last host)
    (hosts_said hosts (labels_of assigns) [] host assigns (extends_self (labels_of assigns)) good))

labels_made : (t : Template) (hosts : List Host) (assigns : List Given) → bad_assign (form t) hosts assigns ≡ None
    → HaveTheirLabels assigns ((form t).make (attributes_in (form t) hosts assigns))
unfolding HaveTheirLabels
labels_made Tainting hosts assigns good = tainted hosts assigns good
labels_made t hosts assigns good = tt

pub hosts_have_labels : (hosts : List Host) (t : Template) (assigns : List Given) → bad_in hosts t assigns ≡ None
    → HaveTheirLabels assigns (invariant_in hosts t assigns)
hosts_have_labels hosts t assigns good =
    subst (HaveTheirLabels assigns) (sym (invariant_is hosts t assigns)) (labels_made t hosts assigns (sym (bad_is hosts t assigns) ∙ good))
