-- The index of a name.
use Rattle.std.proofs.Common.{◌≡◌, ◌∙◌, ◌++◌, ℕ, ◌+◌, Bool, true, false, List, [], ◌∷◌, Option, Some, None, Vec, Global, map, refl, ap, cond}
use Rattle.std.specs.Prelude.{bytes_eq, if◌then◌else◌}
use Rattle.nft_rules.specs.declared.table.Chain.{Chain}
use Rattle.nft_read.specs.Shape.{chain_shape}
use Rattle.nft_read.specs.inner.TableSteps.{names_of}
use Rattle.std.specs.List.{list_any, position_from}

pub place_mapped : {A B : Type 0} (f : A → B) (t : B → Bool) (i : ℕ) (xs : List A) → position_from (λ x. t (f x)) i xs ≡ position_from t i (map f xs)
place_mapped f t i [] = refl
place_mapped f t i (x ∷ xs) = ap (λ o. cond (t (f x)) (Some i) o) (place_mapped f t (i + 1) xs)

any_by : {A : Type 0} (t : A → Bool) (x : A) (xs : List A) (i : ℕ) (o : Option ℕ) (b : Bool) → t x ≡ b → cond b (Some i) o ≡ None
    → (o ≡ None → list_any t xs ≡ false) → list_any t (x ∷ xs) ≡ false
any_by t x xs i o true is none more = cc
any_by t x xs i o false is none more = rw is (more none)

none_any : {A : Type 0} (t : A → Bool) (i : ℕ) (xs : List A) → position_from t i xs ≡ None → list_any t xs ≡ false
none_any t i [] none = refl
none_any t i (x ∷ xs) none = any_by t x xs i (position_from t (i + 1) xs) (t x) refl none (none_any t (i + 1) xs)

pub map_last : {A B : Type 0} (f : A → B) (xs : List A) (x : A) → map f (xs ++ x ∷ []) ≡ map f xs ++ f x ∷ []
map_last f [] x = refl
map_last f (y ∷ xs) x = ap (λ ys. f y ∷ ys) (map_last f xs x)

-- A new name is the last one.
pub keys_pushed : (keys : List (Vec ℕ Global)) (key : Vec ℕ Global) (name : List ℕ) → key.items ≡ name
    → position_from (bytes_eq name) 0 (map (λ (k : Vec ℕ Global). k.items) keys) ≡ None
    → map (λ (k : Vec ℕ Global). k.items) (if list_any (λ (k : Vec ℕ Global). bytes_eq key.items k.items) keys then keys else keys ++ key ∷ [])
    ≡ map (λ (k : Vec ℕ Global). k.items) keys ++ name ∷ []
keys_pushed keys key name is none =
    let fresh = none_any (λ (k : Vec ℕ Global). bytes_eq name k.items) 0 keys (place_mapped (λ (k : Vec ℕ Global). k.items) (bytes_eq name) 0 keys ∙ none) in
    ap (λ (n : List ℕ). map (λ (k : Vec ℕ Global). k.items) (if list_any (λ (k : Vec ℕ Global). bytes_eq n k.items) keys then keys else keys ++ key ∷ [])) is
    ∙ ap (λ (b : Bool). map (λ (k : Vec ℕ Global). k.items) (if b then keys else keys ++ key ∷ [])) fresh
    ∙ map_last (λ (k : Vec ℕ Global). k.items) keys key
    ∙ ap (λ (n : List ℕ). map (λ (k : Vec ℕ Global). k.items) keys ++ n ∷ []) is

pub names_pushed : (chains : List Chain) (x : Chain)
    → names_of (map chain_shape (chains ++ x ∷ [])) ≡ names_of (map chain_shape chains) ++ x.name.items ∷ []
names_pushed [] x = refl
names_pushed (y ∷ chains) x = ap (λ ys. y.name.items ∷ ys) (names_pushed chains x)
