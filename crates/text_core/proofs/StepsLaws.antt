-- Lemmas on steps.
use Rattle.std.proofs.Common.{◌≡◌, ℕ, Bool, true, false, List, Option, Some, None, ◌⊎◌, inl, inr, refl, sym, ap}
use Rattle.std.specs.Prelude.{if◌then◌else◌, bytes_eq, Ok}
use Rattle.std.specs.Option.{ok_or, option_map}
use Rattle.std.proofs.lemmas.Slice.Eq.{bytes_eq-Decides}
use Rattle.text_core.specs.Steps.{◌>>=◌}

-- If the sequence succeeded, each step succeeded.
pub bind_some : {A B : Type 0} (o : Option A) (f : A → Option B) (y : B) → (o >>= f) ≡ Some y → (x : A) × (o ≡ Some x) × (f x ≡ Some y)
bind_some None f y h = cc
bind_some (Some x) f y h = (x, refl, h)

-- The result of a conditional is the result of one of its arms.
pub if_parts : {A : Type 0} (b : Bool) (x y z : A) → (if b then x else y) ≡ z → ((b ≡ true) × (x ≡ z)) ⊎ ((b ≡ false) × (y ≡ z))
if_parts true x y z h = inl (refl, h)
if_parts false x y z h = inr (refl, h)

pub ok_or_parts : {A W : Type 0} (o : Option A) (why : W) (x : A) → ok_or o why ≡ Ok x → o ≡ Some x
ok_or_parts None why x h = cc
ok_or_parts (Some y) why x h = cc

pub map_parts : {A B : Type 0} (f : A → B) (o : Option A) (y : B) → option_map f o ≡ Some y → (x : A) × (o ≡ Some x) × (f x ≡ y)
map_parts f None y h = cc
map_parts f (Some x) y h = (x, refl, cc)

-- Strings that compare equal are equal, and a string compares equal to itself.
pub bytes_same : (a b : List ℕ) → bytes_eq a b ≡ true → a ≡ b
bytes_same a b h = (bytes_eq-Decides a b).0 h

pub bytes_own : (a : List ℕ) → bytes_eq a a ≡ true
bytes_own a = (bytes_eq-Decides a a).1 refl

-- A test passes or fails.
pub split_bool : {P : Type 0} (b : Bool) → (b ≡ true → P) → (b ≡ false → P) → P
split_bool true f g = f refl
split_bool false f g = g refl

-- Strings that a test distinguishes do not compare equal.
pub bytes_apart : (a b : List ℕ) (p : List ℕ → Bool) → p a ≡ true → p b ≡ false → bytes_eq a b ≡ false
bytes_apart a b p holds fails = split_bool (bytes_eq a b) (λ same. let e = ap p (bytes_same a b same) in cc) (λ other. other)

-- Two results are equal if each has the value of the other.
pub same_options : {A : Type 0} (o p : Option A) → ((x : A) → o ≡ Some x → p ≡ Some x) → ((x : A) → p ≡ Some x → o ≡ Some x) → o ≡ p
same_options (Some x) p gives given = sym (gives x refl)
same_options None (Some x) gives given = given x refl
same_options None None gives given = refl
