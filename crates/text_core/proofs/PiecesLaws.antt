-- Lemmas on splitting: the parts of a split join to the string, and a joined string is split at the separator.
use Rattle.std.proofs.Common.{◌≡◌, ◌≢◌, ℕ, Bool, cond, true, false, nat_eq, ◌==◌, not, ◌&&◌, List, [], ◌∷◌, ◌++◌, Option, Some, None, refl, sym, ap, ◌∙◌, arith}
use Rattle.std.specs.Option.{option_map}
use Rattle.std.specs.List.{All}
use Rattle.std.proofs.lemmas.Bool.Decides.{nat_tests}
use Rattle.std.proofs.lemmas.List.Elements.{All-nil, All-cons}
use Rattle.text_core.specs.inner.Pieces.{split_once}

-- The string does not contain the separator.
abbrev pub lacks : ℕ → List ℕ → Bool
lacks mark [] = true
lacks mark (b ∷ bs) = not (b == mark) && lacks mark bs

pub lacks_parts : (mark b : ℕ) (bs : List ℕ) → lacks mark (b ∷ bs) ≡ true → (nat_eq b mark ≡ false) × (lacks mark bs ≡ true)
lacks_parts mark b bs h = grind (arith, nat_tests)

pub lacks-append : (mark : ℕ) (front rest : List ℕ) → lacks mark front ≡ true → lacks mark rest ≡ true → lacks mark (front ++ rest) ≡ true
lacks-append mark [] rest first second = second
lacks-append mark (b ∷ front) rest first second =
    let parts = lacks_parts mark b front first in
    rw (parts.0, lacks-append mark front rest parts.1 second) refl

-- A string that is joined by a separator is split there.
pub split_once-append : (mark : ℕ) (front rest : List ℕ) → lacks mark front ≡ true → split_once mark (front ++ (mark ∷ rest)) ≡ Some (front, rest)
split_once-append mark [] rest h = grind (arith, nat_tests)
split_once-append mark (b ∷ front) rest h =
    let parts = lacks_parts mark b front h in
    rw (parts.0, split_once-append mark front rest parts.1) refl

pub split_once_none : (mark : ℕ) (bs : List ℕ) → lacks mark bs ≡ true → split_once mark bs ≡ None
split_once_none mark [] h = refl
split_once_none mark (b ∷ bs) h =
    let parts = lacks_parts mark b bs h in
    rw (parts.0, split_once_none mark bs parts.1) refl

abbrev behind : ℕ → List ℕ × List ℕ → List ℕ × List ℕ
behind b parts = (b ∷ parts.0, parts.1)

joined_same : (mark : ℕ) (p q : List ℕ × List ℕ) → p ≡ q → p.0 ++ (mark ∷ p.1) ≡ q.0 ++ (mark ∷ q.1)
joined_same mark p q e = ap (λ r. r.0 ++ (mark ∷ r.1)) e

joined_behind : (mark b : ℕ) (bs front rest : List ℕ) (r : Option (List ℕ × List ℕ)) → ((f g : List ℕ) → r ≡ Some (f, g) → bs ≡ f ++ (mark ∷ g)) → option_map (behind b) r ≡ Some (front, rest) → b ∷ bs ≡ front ++ (mark ∷ rest)
joined_behind mark b bs front rest None before h = cc
joined_behind mark b bs front rest (Some p) before h =
    let same : behind b p ≡ (front, rest) = cc in
    ap (λ xs. b ∷ xs) (before p.0 p.1 refl) ∙ joined_same mark (behind b p) (front, rest) same

joined_by_first : (mark b : ℕ) (bs front rest : List ℕ) (r : Option (List ℕ × List ℕ)) (t : Bool) → ((f g : List ℕ) → r ≡ Some (f, g) → bs ≡ f ++ (mark ∷ g)) → nat_eq b mark ≡ t → cond {A = Option (List ℕ × List ℕ)} t (Some ([], bs)) (option_map (behind b) r) ≡ Some (front, rest) → b ∷ bs ≡ front ++ (mark ∷ rest)
joined_by_first mark b bs front rest r true before e h =
    let is_mark : b ≡ mark = grind (arith, nat_tests) in
    let same : ◌≡◌ {A = List ℕ × List ℕ} ([], bs) (front, rest) = cc in
    ap (λ x. x ∷ bs) is_mark ∙ joined_same mark ([], bs) (front, rest) same
joined_by_first mark b bs front rest r false before e h = joined_behind mark b bs front rest r before h

-- The parts joined by the separator are the string.
pub split_once_joined : (mark : ℕ) (bs front rest : List ℕ) → split_once mark bs ≡ Some (front, rest) → bs ≡ front ++ (mark ∷ rest)
split_once_joined mark [] front rest h = cc
split_once_joined mark (b ∷ bs) front rest h =
    joined_by_first mark b bs front rest (split_once mark bs) (nat_eq b mark) (λ f g. split_once_joined mark bs f g) refl h

differs : (b mark : ℕ) → nat_eq b mark ≡ false → b ≢ mark
differs b mark other same = grind (arith, nat_tests)

-- The same in terms of std.
pub lacks_all : (mark : ℕ) (bs : List ℕ) → lacks mark bs ≡ true → All (λ b. b ≢ mark) bs
lacks_all mark [] h = All-nil (λ b. b ≢ mark)
lacks_all mark (b ∷ bs) h =
    let parts = lacks_parts mark b bs h in
    All-cons (λ b. b ≢ mark) b bs (differs b mark parts.0) (lacks_all mark bs parts.1)

front_behind : (mark b : ℕ) (front rest : List ℕ) (r : Option (List ℕ × List ℕ)) → nat_eq b mark ≡ false → ((f g : List ℕ) → r ≡ Some (f, g) → lacks mark f ≡ true) → option_map (behind b) r ≡ Some (front, rest) → lacks mark front ≡ true
front_behind mark b front rest None other before h = cc
front_behind mark b front rest (Some p) other before h =
    let same : behind b p ≡ (front, rest) = cc in
    ap (λ q. lacks mark q.0) (sym same) ∙ rw (other, before p.0 p.1 refl) refl

front_by_first : (mark b : ℕ) (bs front rest : List ℕ) (r : Option (List ℕ × List ℕ)) (t : Bool) → ((f g : List ℕ) → r ≡ Some (f, g) → lacks mark f ≡ true) → nat_eq b mark ≡ t → cond {A = Option (List ℕ × List ℕ)} t (Some ([], bs)) (option_map (behind b) r) ≡ Some (front, rest) → lacks mark front ≡ true
front_by_first mark b bs front rest r true before e h =
    let same : ◌≡◌ {A = List ℕ × List ℕ} ([], bs) (front, rest) = cc in
    ap (λ q. lacks mark q.0) (sym same)
front_by_first mark b bs front rest r false before e h = front_behind mark b front rest r e before h

-- The first part does not contain the separator.
pub split_once_front : (mark : ℕ) (bs front rest : List ℕ) → split_once mark bs ≡ Some (front, rest) → lacks mark front ≡ true
split_once_front mark [] front rest h = cc
split_once_front mark (b ∷ bs) front rest h =
    front_by_first mark b bs front rest (split_once mark bs) (nat_eq b mark) (λ f g. split_once_front mark bs f g) refl h
