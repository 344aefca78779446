-- Tests of all names that are used in a description, place by place.
use Rattle.std.proofs.Common.{◌≡◌, ℕ, ◌+◌, Bool, true, false, cond, not, ◌&&◌, List, [], ◌∷◌, ◌++◌, map, Option, Some, option_map, refl, ap, ◌∙◌}
use Rattle.std.proofs.lemmas.List.Folds.{list_all-append}
use Rattle.std.specs.List.{find, flat_map, list_all}
use Rattle.std.specs.Option.{option_or}
use Rattle.desc_form.specs.RawDescription.{RawDescription, RawAssign, RawHost, RawInvariant}
use Rattle.desc_form.specs.RawFlow.{RawFlow}
use Rattle.desc_form.specs.HostConditions.{bad_name}
use Rattle.desc_form.specs.Mentions.{NameUse, all_names, assign_names_of, flow_names_of, used_names}
use Rattle.desc_form.specs.inner.NameUseView.{assign_name, host_name}
use Rattle.text_core.specs.FirstMatch.{Numbered, first_found, numbered, numbered_from}
use Rattle.text_core.specs.Name.{is_name}

hosts_tested : (test : List ℕ → Bool) (k : ℕ) (hs : List RawHost)
    → list_all (λ (m : NameUse). test m.name) (map host_name (numbered_from k hs)) ≡ list_all (λ (h : RawHost). test h.name) hs
hosts_tested test k [] = refl
hosts_tested test k (h ∷ hs) = ap (λ b. test h.name && b) (hosts_tested test (k + 1) hs)

assigns_tested : (test : List ℕ → Bool) (i k : ℕ) (assigns : List RawAssign)
    → list_all (λ (m : NameUse). test m.name) (map (assign_name i) (numbered_from k assigns))
    ≡ list_all (λ (a : RawAssign). test a.host) assigns
assigns_tested test i k [] = refl
assigns_tested test i k (a ∷ assigns) = ap (λ b. test a.host && b) (assigns_tested test i (k + 1) assigns)

abbrev pub all_assigns : (List ℕ → Bool) → List RawInvariant → Bool
all_assigns test is = list_all (λ (i : RawInvariant). list_all (λ (a : RawAssign). test a.host) i.assigns) is

abbrev pub all_ends : (List ℕ → Bool) → List RawFlow → Bool
all_ends test fs = list_all (λ (f : RawFlow). test f.from && test f.to) fs

invariants_tested : (test : List ℕ → Bool) (k : ℕ) (is : List RawInvariant)
    → list_all (λ (m : NameUse). test m.name) (flat_map assign_names_of (numbered_from k is)) ≡ all_assigns test is
invariants_tested test k [] = refl
invariants_tested test k (i ∷ is) =
    list_all-append (λ (m : NameUse). test m.name) (map (assign_name k) (numbered i.assigns))
    (flat_map assign_names_of (numbered_from (k + 1) is))
    ∙ (λ t. assigns_tested test k 1 i.assigns t && invariants_tested test (k + 1) is t)

both_then : (a b c d : Bool) → c ≡ d → (a && (b && c)) ≡ ((a && b) && d)
both_then true b c d same = ap (λ x. b && x) same
both_then false b c d same = refl

flows_tested : (test : List ℕ → Bool) (k : ℕ) (fs : List RawFlow)
    → list_all (λ (m : NameUse). test m.name) (flat_map flow_names_of (numbered_from k fs)) ≡ all_ends test fs
flows_tested test k [] = refl
flows_tested test k (f ∷ fs) = both_then (test f.from) (test f.to) _ (all_ends test fs) (flows_tested test (k + 1) fs)

-- The names that refer to hosts: in assigns, then in flows.
pub used_tested : (test : List ℕ → Bool) (w : RawDescription)
    → list_all (λ (m : NameUse). test m.name) (used_names w) ≡ (all_assigns test w.invariants && all_ends test w.flows)
unfolding used_names
used_tested test w =
    list_all-append (λ (m : NameUse). test m.name) (flat_map assign_names_of (numbered w.invariants)) (flat_map flow_names_of (numbered w.flows))
    ∙ (λ t. invariants_tested test 1 w.invariants t && flows_tested test 1 w.flows t)

-- All names: those of hosts, then those that refer to hosts.
pub names_tested : (test : List ℕ → Bool) (w : RawDescription)
    → list_all (λ (m : NameUse). test m.name) (all_names w)
    ≡ (list_all (λ (h : RawHost). test h.name) w.hosts && (all_assigns test w.invariants && all_ends test w.flows))
unfolding all_names
names_tested test w =
    list_all-append (λ (m : NameUse). test m.name) (map host_name (numbered w.hosts)) (used_names w)
    ∙ (λ t. hosts_tested test 1 w.hosts t && used_tested test w t)

-- The first illegal name, part by part.
found_by : {A B : Type 0} (tell : A → B) (b : Bool) (x : A) (here behind : Option A) (rest : Option B)
    → option_map tell behind ≡ option_or (option_map tell here) rest
    → option_map tell (cond b (Some x) behind) ≡ option_or (option_map tell (cond b (Some x) here)) rest
found_by tell true x here behind rest later = refl
found_by tell false x here behind rest later = later

found_in_both : {A B : Type 0} (test : A → Bool) (tell : A → B) (xs ys : List A)
    → option_map tell (find test (xs ++ ys)) ≡ option_or (option_map tell (find test xs)) (option_map tell (find test ys))
found_in_both test tell [] ys = refl
found_in_both test tell (x ∷ xs) ys =
    found_by tell (test x) x (find test xs) (find test (xs ++ ys)) (option_map tell (find test ys)) (found_in_both test tell xs ys)

pub bad_name_append : (names others : List NameUse) → bad_name (names ++ others) ≡ option_or (bad_name names) (bad_name others)
unfolding bad_name
bad_name_append names others = found_in_both (λ (m : NameUse). not (is_name m.name)) _ names others

pub bad_name_in_turn : (is : List (Numbered RawInvariant))
    → bad_name (flat_map assign_names_of is) ≡ first_found (λ i. bad_name (assign_names_of i)) is
unfolding bad_name
bad_name_in_turn [] = refl
bad_name_in_turn (i ∷ is) =
    bad_name_append (assign_names_of i) (flat_map assign_names_of is) ∙ ap (option_or (bad_name (assign_names_of i))) (bad_name_in_turn is)
