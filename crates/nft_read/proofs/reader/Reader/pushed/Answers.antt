use Rattle.std.proofs.Common.{◌≡◌, ◌∙◌, ◌++◌, ◌≤◌, ◌<◌, ◌+◌, ℕ, suc, refl, List, [], ◌∷◌, None, Vec, Global, map, length, length-append, sym, ap, subst, arith}
use Rattle.std.specs.List.{position_from}
use Rattle.std.specs.Prelude.{bytes_eq}
use Rattle.nft_rules.specs.declared.table.Chain.{Chain}
use Rattle.nft_read.specs.Shape.{chain_shape}
use Rattle.nft_read.specs.inner.TableSteps.{State, names_of}
use Rattle.nft_read.specs.inner.LineSteps.{index_of}
use Rattle.nft_read.proofs.NameLaws.{keys_pushed, names_pushed}
use Rattle.nft_read.proofs.reader.Reader.pushed.Goals as goal

fresh : (s t : State) → s ≡ t → index_of (names_of t.chains) t.name ≡ None → index_of (names_of s.chains) s.name ≡ None
fresh s t is none = subst (λ (u : State). index_of (names_of u.chains) u.name ≡ None) (sym is) none

counted : (chains : List Chain) → length (map chain_shape chains) ≡ length chains
counted [] = refl
counted (x ∷ chains) = ap suc (counted chains)

few : (s : State) (chains new : List Chain) (x : Chain) → map chain_shape chains ≡ s.chains → new ≡ chains ++ x ∷ [] → length s.chains < 100000
    → length new ≤ 100000
few s chains new x is pushed less =
    let counts : length chains ≡ length s.chains = sym (counted chains) ∙ ap (λ xs. length xs) is in
    let more : length new ≡ length chains + 1 = ap (λ xs. length xs) pushed ∙ length-append chains (x ∷ []) in
    omega (arith, counts, more, less)

pub invariant_of-result : goal.invariant_of-result
invariant_of-result c =
    let name = c.self.inside.name.items in
    let keys = c.self.inside.names.keys in
    let chains = c.self.inside.chains.items in
    let none = fresh _ c.args.self c.self.view_is c.requires.fresh in
    record {
      same =
          ap (λ (ks : List (Vec ℕ Global)). map (λ (k : Vec ℕ Global). k.items) ks) c.in_ok-insert.ensures.keys
          ∙ keys_pushed keys c.in_ok-key.key name (c.in_ok-key.ensures.items ∙ c.deref.ensures.value)
          (ap (λ (ns : List (List ℕ)). position_from (bytes_eq name) 0 ns) c.self.invariant.same ∙ none)
          ∙ ap (λ (ns : List (List ℕ)). ns ++ name ∷ []) c.self.invariant.same
          ∙ sym (names_pushed chains (record { name = c.self.inside.name; rules = c.self.inside.rules }))
          ∙ ap (λ (xs : List Chain). names_of (map chain_shape xs)) (sym c.in_ok-push.ensures.items);
      few = few c.args.self chains c.push.new.self.items _ (ap (λ (s : State). s.chains) c.self.view_is) c.in_ok-push.ensures.items c.requires.few;
    }
