use Rattle.std.proofs.Common.{◌≡◌, ℕ, ◌≤◌, ◌-◌, List, [], ◌∷◌, length, map, get_or, take, drop, Option, Some, arith, ap, ◌∙◌, sym, refl}
use Rattle.std.proofs.lemmas.List.{length-map}
use Rattle.toml.specs.View.{view}
use Rattle.desc_form.proofs.FlowLaws.{values_say, values_short, values_no_texts}
use Rattle.desc_form.specs.RawFlow.{RawFlow, flow_of_values}
use Rattle.desc_form.proofs.flows.flow_of.Goals as goal

pub returns-in_default : goal.returns-in_default
returns-in_default c =
    let values = c.args.values.now in
    sym (values_short (map view values) (omega (arith, length-map values view, c.in_default.len_below)))

take_all : {A : Type 0} (xs : List A) → take (length xs) xs ≡ xs
take_all [] = refl
take_all (x ∷ xs) = ap (λ ys. x ∷ ys) (take_all xs)

-- Two values, and those after them.
parted : {A B : Type 0} (f : A → B) (xs : List A) (x y : A) → 2 ≤ length xs → x ≡ get_or xs 0 x → y ≡ get_or xs 1 y
    → map f xs ≡ f x ∷ f y ∷ map f (take (length xs - 2) (drop 2 xs))
parted f [] x y long first second = absurd (omega (arith, long))
parted f (a ∷ []) x y long first second = absurd (omega (arith, long))
parted f (a ∷ b ∷ xs) x y long first second =
    let count : length (a ∷ b ∷ xs) - 2 ≡ length xs = omega arith in
    rw (count, take_all xs) (λ i. f (sym first i) ∷ f (sym second i) ∷ map f xs)

pub returns-then-not-are_texts : goal.returns-then-not-are_texts
returns-then-not-are_texts c =
    let values = c.args.values.now in
    let behind = map view (take (length values - 2) (drop 2 values)) in
    let whole = parted view values c.first-item.result c.second-item.result c.in-len2-up.len_at_least c.first-item.is c.second-item.is in
    sym (ap flow_of_values whole
    ∙ values_no_texts (view c.first-item.result) (view c.second-item.result) behind c.in-Some-Some.from.now c.in-Some-Some.to.now
    (sym c.in-Some-Some.ensures) (sym c.in-Some-Some.ensures') (sym c.if-not-are_texts.ensures))

abbrev flow : List ℕ → List ℕ → List (List ℕ) → Option RawFlow
flow from to services = Some (record { from = from; to = to; services = services })

pub returns : goal.returns
returns c =
    let values = c.args.values.now in
    let behind = map view (take (length values - 2) (drop 2 values)) in
    let whole = parted view values c.first-item.result c.second-item.result c.in-len2-up.len_at_least c.first-item.is c.second-item.is in
    let said =
    values_say (view c.first-item.result) (view c.second-item.result) behind c.in-Some-Some.from.now c.in-Some-Some.to.now
    (sym c.in-Some-Some.ensures) (sym c.in-Some-Some.ensures') (sym c.if-not-are_texts.ensures) in
    ap (flow c.in-Some-Some.from.now c.in-Some-Some.to.now) c.in_ok-services.ensures ∙ sym (ap flow_of_values whole ∙ said)
