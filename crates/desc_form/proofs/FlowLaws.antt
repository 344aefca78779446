-- A flow is parsed from a value if and only if the value is the array of its strings. Flows are valid for a version if and only if it is 2
-- or none of them has services.
use Rattle.std.proofs.Common.{◌≡◌, ◌≢◌, ℕ, ℤ, pos, Bool, true, false, ◌||◌, ◌==◌, suc, ◌-◌, ◌<◌, ◌≤◌, List, [], ◌∷◌, length, Option, Some, None, option_map, option_and_then, refl, ap, ◌∙◌, sym, subst, arith}
use Rattle.std.proofs.lemmas.Bool.{and_parts, false≢true}
use Rattle.std.proofs.lemmas.Bool.Decides.{Decides-int_eq, nat_tests}
use Rattle.std.proofs.lemmas.List.Elements.{All-cons, All-head, All-nil, All-tail}
use Rattle.std.specs.Cmp.Derive.{both_true}
use Rattle.std.specs.Ordering.{int_eq}
use Rattle.std.specs.Prelude.{IsSomeAnd, SomeIff, filter_map}
use Rattle.std.specs.List.{All, AllZip, list_all}
use Rattle.toml.specs.Data.{Data, string, array, as_integer, as_str}
use Rattle.desc_form.specs.Places.{fits_version}
use Rattle.desc_form.specs.RawFlow.{RawFlow, flow_of_texts, flow_of_values, raw_flow}
use Rattle.desc_form.specs.inner.RawForm.{IsFlow, IsInteger, IsText}
use Rattle.table_core.specs.Keys.{is_text}
use Rattle.table_core.specs.Listing.{each}
use Rattle.table_core.specs.Tables.{elements, elements_of}
use Rattle.text_core.proofs.StepsLaws.{bind_some}

-- Each string of a list is parsed, and only lists of strings are parsed.
texts_by : (d : Data) (ds : List Data) (here : Option (List ℕ)) (rest : Option (List (List ℕ))) (texts : List (List ℕ)) → as_str d ≡ here
    → each as_str ds ≡ rest → ((others : List (List ℕ)) → rest ≡ Some others → AllZip IsText ds others)
    → option_and_then (λ x. option_map (λ xs. x ∷ xs) rest) here ≡ Some texts → AllZip IsText (d ∷ ds) texts
texts_by (string s) ds (Some t) (Some others) [] is is_rest behind read = cc
texts_by (string s) ds (Some t) (Some others) (x ∷ xs) is is_rest behind read = (cc, behind xs cc)
texts_by d ds None rest texts is is_rest behind read = cc
texts_by d ds (Some t) None texts is is_rest behind read = cc
texts_by _ ds (Some t) (Some others) texts is is_rest behind read = cc

texts_read : (ds : List Data) (texts : List (List ℕ)) → each as_str ds ≡ Some texts → AllZip IsText ds texts
texts_read [] [] read = tt
texts_read [] (t ∷ texts) read = cc
texts_read (d ∷ ds) texts read = texts_by d ds (as_str d) (each as_str ds) texts refl refl (λ others. texts_read ds others) read

texts_say : (ds : List Data) (texts : List (List ℕ)) → AllZip IsText ds texts → each as_str ds ≡ Some texts
texts_say [] [] zipped = refl
texts_say [] (t ∷ texts) zipped = absurd zipped
texts_say (d ∷ ds) [] zipped = absurd zipped
texts_say (d ∷ ds) (t ∷ texts) (is_text, zipped) = rw (is_text, texts_say ds texts zipped) refl

flow_texts : (texts : List (List ℕ)) (f : RawFlow) → flow_of_texts texts ≡ Some f → texts ≡ f.from ∷ f.to ∷ f.services
flow_texts [] f said = cc
flow_texts (a ∷ []) f said = cc
flow_texts (a ∷ b ∷ texts) f said = cc

-- The flow that is parsed from a value corresponds to the value.
pub flow_read : (d : Data) (f : RawFlow) → raw_flow d ≡ Some f → IsFlow d f
unfolding raw_flow elements_of
flow_read (array ds) f read =
    let (texts, texts_are, said) = bind_some (each as_str (elements ds)) flow_of_texts f read in
    (ds, refl, subst (AllZip IsText (elements ds)) (flow_texts texts f said) (texts_read (elements ds) texts texts_are))
flow_read _ f read = cc

pub flow_says : (d : Data) (f : RawFlow) → IsFlow d f → raw_flow d ≡ Some f
unfolding raw_flow elements_of
flow_says d f (ds, is_array, zipped) = rw (is_array, texts_say (elements ds) (f.from ∷ f.to ∷ f.services) zipped) refl

-- ---- values, without the services

all_texts : (ds : List Data) → list_all is_text ds ≡ true → each as_str ds ≡ Some (filter_map as_str ds)
all_texts [] all = refl
all_texts (string s ∷ ds) all = rw (all_texts ds all) refl
all_texts (_ ∷ ds) all = cc

not_all_texts : (ds : List Data) → list_all is_text ds ≡ false → each as_str ds ≡ None
not_all_texts [] all = cc
not_all_texts (string s ∷ ds) all = rw (not_all_texts ds all) refl
not_all_texts (_ ∷ ds) all = refl

pub values_short : (ds : List Data) → length ds < 2 → flow_of_values ds ≡ None
values_short [] short = refl
values_short (string s ∷ []) short = refl
values_short (_ ∷ []) short = refl
values_short (a ∷ b ∷ ds) short = absurd (omega (arith, short))

pub values_say : (a b : Data) (ds : List Data) (from to : List ℕ) → as_str a ≡ Some from → as_str b ≡ Some to → list_all is_text ds ≡ true
    → flow_of_values (a ∷ b ∷ ds) ≡ Some (record { from = from; to = to; services = filter_map as_str ds })
values_say a b ds from to first second all = rw (first, second, all_texts ds all) refl

pub values_no_texts : (a b : Data) (ds : List Data) (from to : List ℕ) → as_str a ≡ Some from → as_str b ≡ Some to → list_all is_text ds ≡ false
    → flow_of_values (a ∷ b ∷ ds) ≡ None
values_no_texts a b ds from to first second none = rw (first, second, not_all_texts ds none) refl

-- Their number only.
pub no_services : (ds : List Data) → list_all is_text ds ≡ false → option_map (λ (f : RawFlow). length f.services) (flow_of_values ds) ≡ None
no_services ds none = rw (not_all_texts ds none) refl

left_of : (texts : List (List ℕ)) (n : ℕ) (o : Option ℕ) → length texts ≡ n → SomeIff o (2 ≤ n) (n - 2)
    → o ≡ option_map (λ (f : RawFlow). length f.services) (flow_of_texts texts)
left_of [] n None same left = refl
left_of (a ∷ []) n None same left = refl
left_of (a ∷ b ∷ texts) n None same left = absurd (left (omega (arith, same)))
left_of [] n (Some k) same (there, is) = absurd (omega (arith, same, there))
left_of (a ∷ []) n (Some k) same (there, is) = absurd (omega (arith, same, there))
left_of (a ∷ b ∷ texts) n (Some k) same (there, is) = let left : k ≡ length texts = omega (arith, same, there, is) in ap Some left

texts_as_long : (ds : List Data) → list_all is_text ds ≡ true → length (filter_map as_str ds) ≡ length ds
texts_as_long [] all = refl
texts_as_long (string s ∷ ds) all = ap suc (texts_as_long ds all)
texts_as_long (_ ∷ ds) all = cc

pub services_left : (ds : List Data) (n : ℕ) (o : Option ℕ) → list_all is_text ds ≡ true → length ds ≡ n → SomeIff o (2 ≤ n) (n - 2)
    → o ≡ option_map (λ (f : RawFlow). length f.services) (flow_of_values ds)
services_left ds n o all same left = rw (all_texts ds all) (left_of (filter_map as_str ds) n o (texts_as_long ds all ∙ same) left)

-- ---- versions

some_long : (n : ℕ) (may : Bool) → may ≡ false → ((suc n == 0) || may) ≡ true → ⊥
some_long n may never fits = grind (arith, nat_tests)

none_or : {A : Type 0} (xs : List A) (may : Bool) → may ≡ false → ((length xs == 0) || may) ≡ true → xs ≡ []
none_or [] may never fits = refl
none_or (x ∷ xs) may never fits = absurd (some_long (length xs) may never fits)

differs : (n : ℤ) → n ≢ pos 2 → (b : Bool) → int_eq n (pos 2) ≡ b → b ≡ false
differs n other false is = refl
differs n other true is = absurd (other ((Decides-int_eq n (pos 2)).0 is))

-- Flows that are valid for a version other than 2 have no services.
pub whole_where : (n : ℤ) (fs : List RawFlow) → list_all (fits_version (Some n)) fs ≡ true → n ≢ pos 2
    → All (λ (f : RawFlow). f.services ≡ []) fs
whole_where n [] fit other = All-nil (λ (f : RawFlow). f.services ≡ [])
whole_where n (f ∷ fs) fit other =
    let (here, behind) = and_parts (fits_version (Some n) f) (list_all (fits_version (Some n)) fs) fit in
    All-cons (λ (f : RawFlow). f.services ≡ []) f fs
    (none_or f.services (int_eq n (pos 2)) (differs n other (int_eq n (pos 2)) refl) here) (whole_where n fs behind other)

narrowed : (a b : Bool) → b ≡ true → (a || b) ≡ true
narrowed true b may = refl
narrowed false b may = may

fit_two : (n : ℤ) (fs : List RawFlow) → int_eq n (pos 2) ≡ true → list_all (fits_version (Some n)) fs ≡ true
fit_two n [] two = refl
fit_two n (f ∷ fs) two = both_true (narrowed (length f.services == 0) (int_eq n (pos 2)) two) (fit_two n fs two)

fit_whole : (n : ℤ) (fs : List RawFlow) → All (λ (f : RawFlow). f.services ≡ []) fs → list_all (fits_version (Some n)) fs ≡ true
fit_whole n [] whole = refl
fit_whole n (f ∷ fs) whole =
    let here : f.services ≡ [] = All-head (λ (f : RawFlow). f.services ≡ []) f fs whole in
    rw here (fit_whole n fs (All-tail (λ (f : RawFlow). f.services ≡ []) f fs whole))

fit_by : (n : ℤ) (fs : List RawFlow) (b : Bool) → int_eq n (pos 2) ≡ b → (n ≢ pos 2 → All (λ (f : RawFlow). f.services ≡ []) fs)
    → list_all (fits_version (Some n)) fs ≡ true
fit_by n fs true two whole = fit_two n fs two
fit_by n fs false two whole =
    fit_whole n fs (whole (λ same. false≢true (sym two ∙ (Decides-int_eq n (pos 2)).1 same)))

-- Flows are valid for a version if it is 2 or none of them has services.
pub fit_where : (n : ℤ) (fs : List RawFlow) → (n ≢ pos 2 → All (λ (f : RawFlow). f.services ≡ []) fs)
    → list_all (fits_version (Some n)) fs ≡ true
fit_where n fs whole = fit_by n fs (int_eq n (pos 2)) refl whole

-- The version of a document is the number at its key.
pub said_version : (o : Option Data) (n : ℤ) → IsSomeAnd o (λ d. IsInteger d n) → option_and_then as_integer o ≡ Some n
said_version None n stands = absurd stands
said_version (Some d) n stands = rw stands refl
