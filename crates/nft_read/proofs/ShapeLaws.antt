-- The text of a table, and whether the table can be loaded, depend on its contents alone.
use Rattle.std.proofs.Common.{◌≡◌, ◌≢◌, ◌∙◌, ◌≤◌, ℕ, zero, suc, true, List, [], ◌∷◌, ◌++◌, Option, Some, None, map, length, refl, sym, ap, ap₂, subst}
use Rattle.std.specs.Prelude.{slice_get, codes}
use Rattle.std.specs.List.{concat}
use Rattle.std.specs.Option.{option_map, option_map_or}
use Rattle.std.proofs.lemmas.Option.{same_Some, slice_get-map}
use Rattle.nft_rules.specs.declared.table.Chain.{Chain}
use Rattle.nft_rules.specs.declared.table.Element.{Element}
use Rattle.nft_rules.specs.declared.table.MatchRule.{MatchRule}
use Rattle.nft_rules.specs.declared.table.Rule.{Rule}
use Rattle.nft_rules.specs.declared.table.Rule.TheVariants.{Map, Match}
use Rattle.nft_rules.specs.declared.table.Table.{Table}
use Rattle.nft_rules.specs.declared.table.Verdict.{Verdict}
use Rattle.nft_rules.specs.declared.table.Verdict.TheVariants.{Accept, Drop, Goto}
use Rattle.nft_rules.specs.Loadable.{AreRules, AscendFrom, IsChainName, IsLoadable, IsRule, LeadBelow, LeadsBelow, is_service_match}
use Rattle.nft_text.specs.Text.{after_element, chain_end, chain_head, chains_pieces, element_pieces, element_text, forward_head, map_head, match_line, name_of, range_text, rule_pieces, rules_pieces, service_match, state_text, table_end, table_head, table_text, verdict_text}
use Rattle.nft_read.specs.Shape.{ChainShape, RuleShape, MapOf, MatchOf, TableShape, chain_shape, rule_shape, table_shape}

-- ---- The text of the contents

name_shaped : (all : List Chain) (c : ℕ) → name_of all c ≡ option_map_or (λ (x : ChainShape). x.name) (slice_get (map chain_shape all) c) []
name_shaped [] c = refl
name_shaped (x ∷ all) zero = refl
name_shaped (x ∷ all) (suc c) = name_shaped all c

same_names : (all own : List Chain) → map chain_shape all ≡ map chain_shape own → (c : ℕ) → name_of all c ≡ name_of own c
same_names all own same c =
    name_shaped all c ∙ ap (λ xs. option_map_or (λ (x : ChainShape). x.name) (slice_get xs c) []) same ∙ sym (name_shaped own c)

verdict_same : (all own : List Chain) → ((c : ℕ) → name_of all c ≡ name_of own c) → (v : Verdict) → verdict_text all v ≡ verdict_text own v
verdict_same all own names Accept = refl
verdict_same all own names Drop = refl
verdict_same all own names (Goto c) = ap (λ n. codes "goto " ++ n) (names c)

elements_same : (all own : List Chain) → ((c : ℕ) → name_of all c ≡ name_of own c) → (es : List Element) → element_pieces all es ≡ element_pieces own es
unfolding element_text
elements_same all own names [] = refl
elements_same all own names (e ∷ es) =
    ap₂ (λ v ps. (range_text e.range ++ (codes " : " ++ (v ++ after_element es))) ∷ ps) (verdict_same all own names e.verdict) (elements_same all own names es)

match_same : (all own : List Chain) → ((c : ℕ) → name_of all c ≡ name_of own c) → (r : MatchRule) → match_line all r ≡ match_line own r
unfolding match_line
match_same all own names r =
    ap (λ v. codes "\t\t" ++ (state_text r.established ++ (service_match r.service ++ (v ++ codes "\n")))) (verdict_same all own names r.verdict)

-- The pieces of the contents of a rule.
abbrev shape_pieces : List Chain → RuleShape → List (List ℕ)
shape_pieces all (MapOf end es) = map_head end ∷ element_pieces all es
shape_pieces all (MatchOf r) = match_line all r ∷ []

rule_shaped : (all : List Chain) (rule : Rule) → rule_pieces all rule ≡ shape_pieces all (rule_shape rule)
rule_shaped all (Map m) = refl
rule_shaped all (Match r) = refl

shape_same : (all own : List Chain) → ((c : ℕ) → name_of all c ≡ name_of own c) → (r : RuleShape) → shape_pieces all r ≡ shape_pieces own r
shape_same all own names (MapOf end es) = ap (λ ps. map_head end ∷ ps) (elements_same all own names es)
shape_same all own names (MatchOf r) = ap (λ l. l ∷ []) (match_same all own names r)

abbrev shapes_pieces : List Chain → List RuleShape → List (List ℕ)
shapes_pieces all [] = []
shapes_pieces all (r ∷ rs) = shape_pieces all r ++ shapes_pieces all rs

rules_shaped : (all : List Chain) (rules : List Rule) → rules_pieces all rules ≡ shapes_pieces all (map rule_shape rules)
rules_shaped all [] = refl
rules_shaped all (r ∷ rs) = ap₂ (λ x y. x ++ y) (rule_shaped all r) (rules_shaped all rs)

shapes_same : (all own : List Chain) → ((c : ℕ) → name_of all c ≡ name_of own c) → (rs : List RuleShape) → shapes_pieces all rs ≡ shapes_pieces own rs
shapes_same all own names [] = refl
shapes_same all own names (r ∷ rs) = ap₂ (λ x y. x ++ y) (shape_same all own names r) (shapes_same all own names rs)

abbrev chain_shape_pieces : List Chain → ChainShape → List (List ℕ)
chain_shape_pieces all x = chain_head x.name ∷ (shapes_pieces all x.rules ++ chain_end ∷ [])

abbrev chain_shapes_pieces : List Chain → List ChainShape → List (List ℕ)
chain_shapes_pieces all [] = []
chain_shapes_pieces all (x ∷ xs) = chain_shape_pieces all x ++ chain_shapes_pieces all xs

chains_shaped : (all xs : List Chain) → chains_pieces all xs ≡ chain_shapes_pieces all (map chain_shape xs)
chains_shaped all [] = refl
chains_shaped all (x ∷ xs) =
    ap₂ (λ r y. (chain_head x.name.items ∷ (r ++ chain_end ∷ [])) ++ y) (rules_shaped all x.rules.items) (chains_shaped all xs)

chains_same : (all own : List Chain) → ((c : ℕ) → name_of all c ≡ name_of own c) → (xs : List ChainShape)
    → chain_shapes_pieces all xs ≡ chain_shapes_pieces own xs
chains_same all own names [] = refl
chains_same all own names (x ∷ xs) =
    ap₂ (λ r y. (chain_head x.name ∷ (r ++ chain_end ∷ [])) ++ y) (shapes_same all own names x.rules) (chains_same all own names xs)

pub text_same : (a b : Table) → table_shape a ≡ table_shape b → table_text a ≡ table_text b
text_same a b same =
    let all = a.chains.items in
    let own = b.chains.items in
    let shapes : map chain_shape all ≡ map chain_shape own = ap (λ (s : TableShape). s.chains) same in
    let names = same_names all own shapes in
    let chains : chains_pieces all all ≡ chains_pieces own own =
    chains_shaped all all ∙ ap (λ xs. chain_shapes_pieces all xs) shapes ∙ chains_same all own names (map chain_shape own) ∙ sym (chains_shaped own own) in
    let rules : rules_pieces all a.forward.items ≡ rules_pieces own b.forward.items =
    rules_shaped all a.forward.items ∙ ap (λ rs. shapes_pieces all rs) (ap (λ (s : TableShape). s.forward) same)
    ∙ shapes_same all own names (map rule_shape b.forward.items) ∙ sym (rules_shaped own b.forward.items) in
    ap₂ (λ cs rs. concat (table_head ∷ (cs ++ (forward_head ∷ (rs ++ table_end ∷ []))))) chains rules

-- ---- Whether the contents can be loaded

abbrev IsShape : ℕ → RuleShape → Type 0
IsShape n (MapOf end es) = (es ≢ []) × AscendFrom 0 es × LeadBelow n es
IsShape n (MatchOf r) = (is_service_match r.service ≡ true) × LeadsBelow n r.verdict

abbrev AreShapes : ℕ → List RuleShape → Type 0
AreShapes n [] = Unit {0}
AreShapes n (r ∷ rs) = IsShape n r × AreShapes n rs

to_shape : (n : ℕ) (rule : Rule) → IsRule n rule → IsShape n (rule_shape rule)
to_shape n (Map m) is = is
to_shape n (Match r) is = is

of_shape : (n : ℕ) (rule : Rule) → IsShape n (rule_shape rule) → IsRule n rule
of_shape n (Map m) is = is
of_shape n (Match r) is = is

to_shapes : (n : ℕ) (rules : List Rule) → AreRules n rules → AreShapes n (map rule_shape rules)
to_shapes n [] are = tt
to_shapes n (r ∷ rs) are = (to_shape n r are.0, to_shapes n rs are.1)

of_shapes : (n : ℕ) (rules : List Rule) → AreShapes n (map rule_shape rules) → AreRules n rules
of_shapes n [] are = tt
of_shapes n (r ∷ rs) are = (of_shape n r are.0, of_shapes n rs are.1)

rules_same : (n : ℕ) (rs qs : List Rule) → map rule_shape rs ≡ map rule_shape qs → AreRules n rs → AreRules n qs
rules_same n rs qs same are = of_shapes n qs (subst (AreShapes n) same (to_shapes n rs are))

none_some : (x : ChainShape) → None ≡ Some x → ⊥
none_some x is = cc

-- The chain of the other list at the same index.
there_same : (xs ys : List Chain) → map chain_shape xs ≡ map chain_shape ys → (c : ℕ) (y : Chain) → slice_get ys c ≡ Some y
    → (x : Chain) × (slice_get xs c ≡ Some x) × (chain_shape x ≡ chain_shape y)
there_same xs ys same c y there = by_get (slice_get xs c) refl
  where
    shaped : option_map chain_shape (slice_get xs c) ≡ Some (chain_shape y)
    shaped = sym (slice_get-map chain_shape xs c) ∙ ap (λ zs. slice_get zs c) same ∙ slice_get-map chain_shape ys c ∙ ap (λ o. option_map chain_shape o) there

    by_get : (o : Option Chain) → slice_get xs c ≡ o → (x : Chain) × (slice_get xs c ≡ Some x) × (chain_shape x ≡ chain_shape y)
    by_get None is = let clash : None ≡ Some (chain_shape y) = ap (λ o. option_map chain_shape o) (sym is) ∙ shaped in absurd (none_some (chain_shape y) clash)
    by_get (Some x) is = (x, is, same_Some (chain_shape x) (chain_shape y) (ap (λ o. option_map chain_shape o) (sym is) ∙ shaped))

counted : (chains : List Chain) → length (map chain_shape chains) ≡ length chains
counted [] = refl
counted (x ∷ chains) = ap suc (counted chains)

pub loadable_same : (a b : Table) → table_shape a ≡ table_shape b → IsLoadable a → IsLoadable b
loadable_same a b same is =
    let xs = a.chains.items in
    let ys = b.chains.items in
    let shapes : map chain_shape xs ≡ map chain_shape ys = ap (λ (s : TableShape). s.chains) same in
    let count : length xs ≡ length ys = sym (counted xs) ∙ ap (λ zs. length zs) shapes ∙ counted ys in
    record {
      few = subst (λ (n : ℕ). n ≤ 100000) count is.few;
      forward = subst (λ (n : ℕ). AreRules n b.forward.items) count
          (rules_same (length xs) a.forward.items b.forward.items (ap (λ (s : TableShape). s.forward) same) is.forward);
      back = λ c y there.
          let x = there_same xs ys shapes c y there in
          rules_same c x.0.rules.items y.rules.items (ap (λ (s : ChainShape). s.rules) x.2) (is.back c x.0 x.1);
      named = λ c y there.
          let x = there_same xs ys shapes c y there in
          subst (λ (n : List ℕ). IsChainName n) (ap (λ (s : ChainShape). s.name) x.2) (is.named c x.0 x.1);
      distinct = λ c d y z there here equal.
          let x = there_same xs ys shapes c y there in
          let w = there_same xs ys shapes d z here in
          is.distinct c d x.0 w.0 x.1 w.1 (ap (λ (s : ChainShape). s.name) x.2 ∙ equal ∙ sym (ap (λ (s : ChainShape). s.name) w.2));
    }
