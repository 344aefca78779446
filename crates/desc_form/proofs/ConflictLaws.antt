-- A pair is parsed from a value if and only if the value is the array of its two strings.
use Rattle.std.proofs.Common.{◌≡◌, ℕ, suc, Bool, true, false, ◌==◌, List, [], ◌∷◌, length, Option, Some, None, option_map, refl, ap, ◌∙◌, sym, subst, arith}
use Rattle.std.proofs.lemmas.Bool.{and_parts}
use Rattle.std.proofs.lemmas.Bool.Decides.{nat_tests}
use Rattle.std.specs.List.{AllZip, cons_option, list_all}
use Rattle.std.specs.Prelude.{filter_map, if◌then◌else◌, is_some}
use Rattle.toml.specs.Data.{Data}
use Rattle.desc_form.proofs.FlowLaws.{flow_read, flow_says}
use Rattle.desc_form.specs.RawFlow.{RawFlow, raw_flow}
use Rattle.desc_form.specs.inner.RawForm.{IsPair}
use Rattle.desc_form.specs.RawTemplate.{RawPair, pair_of_flow, raw_pair}
use Rattle.text_core.specs.Steps.{◌>>=◌}
use Rattle.text_core.proofs.StepsLaws.{bind_some}

some_long : (n : ℕ) → (suc n == 0) ≡ true → ⊥
some_long n is = grind (arith, nat_tests)

none_behind : {A : Type 0} (xs : List A) → (length xs == 0) ≡ true → xs ≡ []
none_behind [] is = refl
none_behind (x ∷ xs) is = absurd (some_long (length xs) is)

-- The flow of a pair has nothing after its two strings.
pair_by : (from to : List ℕ) (services : List (List ℕ)) (b : Bool) (p : RawPair) → (length services == 0) ≡ b
    → (if b then Some (record { sender = from; receiver = to }) else None) ≡ Some p → from ∷ to ∷ services ≡ p.sender ∷ p.receiver ∷ []
pair_by from to services true p is said =
    let none = none_behind services is in
    let sender : from ≡ p.sender = cc in
    let receiver : to ≡ p.receiver = cc in
    λ i. sender i ∷ receiver i ∷ none i
pair_by from to services false p is said = cc

-- The pair that is parsed from a value corresponds to the value.
pub pair_read : (d : Data) (p : RawPair) → raw_pair d ≡ Some p → IsPair d p
unfolding raw_pair
pair_read d p read =
    let (f, flow, said) = bind_some (raw_flow d) pair_of_flow p read in
    let (ds, is_array, zipped) = flow_read d f flow in
    (ds, is_array, subst (AllZip _ _) (pair_by f.from f.to f.services (length f.services == 0) p refl said) zipped)

pub pair_says : (d : Data) (p : RawPair) → IsPair d p → raw_pair d ≡ Some p
unfolding raw_pair
pair_says d p is =
    let said : raw_flow d ≡ Some (record { from = p.sender; to = p.receiver; services = [] }) =
    flow_says d (record { from = p.sender; to = p.receiver; services = [] }) is in
    rw said refl

pair_first : (d : Data) (ds : List Data) (o : Option RawPair) → raw_pair d ≡ o → is_some o ≡ true
    → AllZip IsPair ds (filter_map raw_pair ds) → AllZip IsPair (d ∷ ds) (cons_option o (filter_map raw_pair ds))
pair_first d ds None read there zipped = cc
pair_first d ds (Some p) read there zipped = (pair_read d p read, zipped)

-- If each element is a pair, each is parsed.
pub pairs_read : (ds : List Data) → list_all (λ d. is_some (raw_pair d)) ds ≡ true → AllZip IsPair ds (filter_map raw_pair ds)
pairs_read [] all = tt
pairs_read (d ∷ ds) all =
    let (here, behind) = and_parts (is_some (raw_pair d)) (list_all (λ e. is_some (raw_pair e)) ds) all in
    pair_first d ds (raw_pair d) refl here (pairs_read ds behind)

pub pairs_say : (ds : List Data) (ps : List RawPair) → AllZip IsPair ds ps → list_all (λ d. is_some (raw_pair d)) ds ≡ true
pairs_say [] ps zipped = refl
pairs_say (d ∷ ds) [] zipped = absurd zipped
pairs_say (d ∷ ds) (p ∷ ps) (is, zipped) = rw (pair_says d p is, pairs_say ds ps zipped) refl

-- A value is a pair if it is a flow without services.
abbrev paired : List ℕ → List ℕ → Bool → Option RawPair
paired from to b = if b then Some (record { sender = from; receiver = to }) else None

counted_by : (from to : List ℕ) (n : ℕ) (b : Bool) → (n == 0) ≡ b → (n == 0) ≡ is_some (paired from to b)
counted_by from to n true is = is
counted_by from to n false is = is

pub counted : (o : Option RawFlow) (n : ℕ) → option_map (λ (f : RawFlow). length f.services) o ≡ Some n → (n == 0) ≡ is_some (o >>= pair_of_flow)
counted None n is = cc
counted (Some f) n is =
    let same : length f.services ≡ n = cc in
    ap (λ k. k == 0) (sym same) ∙ counted_by f.from f.to (length f.services) (length f.services == 0) refl

pub uncounted : (o : Option RawFlow) → option_map (λ (f : RawFlow). length f.services) o ≡ None → false ≡ is_some (o >>= pair_of_flow)
uncounted None is = refl
uncounted (Some f) is = cc
