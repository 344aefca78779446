-- The specification of each part of an entry, and its change by one more field.
use Rattle.std.proofs.Common.{◌≡◌, ◌≢◌, ◌⊎◌, inl, inr, ℕ, Bool, true, false, List, [], ◌∷◌, ◌++◌, Option, Some, None, refl, sym, ap, subst, ◌∙◌, arith}
use Rattle.std.specs.Prelude.{◌==◌, ◌||◌, if◌then◌else◌, is_some, unwrap_or}
use Rattle.std.proofs.lemmas.Bool.Decides.{nat_tests}
use Rattle.std.proofs.lemmas.Bool.{or_parts}
use Rattle.text_core.proofs.StepsLaws.{split_bool}
use Rattle.host_net.specs.declared.prefix.Prefix.{Prefix}
use Rattle.ofp_rules.specs.declared.entry.FrameKind.{FrameKind}
use Rattle.ofp_rules.specs.declared.entry.FrameKind.TheVariants.{Any}
use Rattle.ofp_rules.specs.declared.entry.Action.{Action}
use Rattle.ofp_rules.specs.declared.entry.Entry.{Entry}
use Rattle.ofp_read.specs.declared.given.Given.{Given}
use Rattle.ofp_read.specs.inner.FieldTable.{is_given}
use Rattle.ofp_read.specs.inner.FlowLine.{nothing_given, entry_of}
use Rattle.ofp_read.specs.Grammar.{Part, priority, table, kind, source, destination, protocol, source_port, destination_port, IsNoneOf, AreDistinct}
use Rattle.ofp_read.proofs.PartWords.{IsUnsaid}

-- 1. The specification of a part.

abbrev pub Value : Part → Type 0
Value priority = Option ℕ
Value table = Bool
Value kind = Option FrameKind
Value source = Option Prefix
Value destination = Option Prefix
Value protocol = Option ℕ
Value source_port = Option ℕ
Value destination_port = Option ℕ

abbrev pub value_of : (p : Part) → Given → Value p
value_of priority g = g.priority
value_of table g = g.table
value_of kind g = g.kind
value_of source g = g.src
value_of destination g = g.dst
value_of protocol g = g.proto
value_of source_port g = g.tp_src
value_of destination_port g = g.tp_dst

abbrev pub own_value : (p : Part) → Entry → Value p
own_value priority e = Some e.priority
own_value table e = true
own_value kind e = Some e.kind
own_value source e = e.src
own_value destination e = e.dst
own_value protocol e = e.proto
own_value source_port e = e.tp_src
own_value destination_port e = e.tp_dst

-- The part is not specified, or it is.
abbrev pub Lacks : Part → Given → Type 0
Lacks p g = is_given g p ≡ false

abbrev pub IsGiven : Given → Part → Type 0
IsGiven g p = is_given g p ≡ true

-- The part is specified as the entry has it.
abbrev pub Has : Part → Entry → Given → Type 0
Has p e g = value_of p g ≡ own_value p e

-- Both specify the same for the part.
abbrev pub Same : Part → Given → Given → Type 0
Same p g h = value_of p g ≡ value_of p h

pub same_given : (p : Part) (g h : Given) → Same p g h → is_given g p ≡ is_given h p
same_given priority g h same = ap is_some same
same_given table g h same = same
same_given kind g h same = ap is_some same
same_given source g h same = ap is_some same
same_given destination g h same = ap is_some same
same_given protocol g h same = ap is_some same
same_given source_port g h same = ap is_some same
same_given destination_port g h same = ap is_some same

pub nothing_lacks : (p : Part) → Lacks p nothing_given
nothing_lacks priority = refl
nothing_lacks table = refl
nothing_lacks kind = refl
nothing_lacks source = refl
nothing_lacks destination = refl
nothing_lacks protocol = refl
nothing_lacks source_port = refl
nothing_lacks destination_port = refl

-- 2. Parts are distinguished by their indices.

abbrev pub place_of : Part → ℕ
place_of priority = 0
place_of table = 1
place_of kind = 2
place_of protocol = 3
place_of source = 4
place_of destination = 5
place_of source_port = 6
place_of destination_port = 7

abbrev part_at : ℕ → Part
part_at n =
    if n == 0 then priority else if n == 1 then table else if n == 2 then kind else if n == 3 then protocol else if n == 4 then source else if n == 5 then destination else if n == 6 then source_port else destination_port

at_own_place : (p : Part) → part_at (place_of p) ≡ p
at_own_place priority = refl
at_own_place table = refl
at_own_place kind = refl
at_own_place source = refl
at_own_place destination = refl
at_own_place protocol = refl
at_own_place source_port = refl
at_own_place destination_port = refl

-- Two parts are equal or distinct.
pub one_or_not : (p q : Part) → (p ≡ q) ⊎ (p ≢ q)
one_or_not p q = split_bool (place_of p == place_of q)
    (λ same. inl (sym (at_own_place p) ∙ ap part_at (one_number (place_of p) (place_of q) same) ∙ at_own_place q))
    (λ other. inr (λ is. let same : (place_of p == place_of q) ≡ true = own_number (place_of p) (place_of q) (ap place_of is) in cc))
  where
    one_number : (n m : ℕ) → (n == m) ≡ true → n ≡ m
    one_number n m h = grind (arith, nat_tests)

    own_number : (n m : ℕ) → n ≡ m → (n == m) ≡ true
    own_number n m h = grind (arith, nat_tests)

-- What holds of a part holds of it in a longer list of parts.
pub one_more : (Is : Part → Type 0) (p q : Part) (ps : List Part) → Is q → Is p ⊎ IsNoneOf p ps → Is p ⊎ IsNoneOf p (q ∷ ps)
one_more Is p q ps own (inl is) = inl is
one_more Is p q ps own (inr none) = elim (one_or_not p q) [
  | inl same ↦ inl (subst (λ (x : Part). Is x) (sym same) own)
  | inr apart ↦ inr (apart, none)
]

-- 3. One part is specified as the entry has it, and no other part changes.

abbrev pub with_part : Part → Entry → Given → Given
with_part p e g =
    record {
      priority = if place_of p == 0 then own_value priority e else g.priority;
      table = if place_of p == 1 then own_value table e else g.table;
      kind = if place_of p == 2 then own_value kind e else g.kind;
      src = if place_of p == 4 then own_value source e else g.src;
      dst = if place_of p == 5 then own_value destination e else g.dst;
      proto = if place_of p == 3 then own_value protocol e else g.proto;
      tp_src = if place_of p == 6 then own_value source_port e else g.tp_src;
      tp_dst = if place_of p == 7 then own_value destination_port e else g.tp_dst;
    }

pub has_with : (p : Part) (e : Entry) (g : Given) → Has p e (with_part p e g)
has_with priority e g = refl
has_with table e g = refl
has_with kind e g = refl
has_with source e g = refl
has_with destination e g = refl
has_with protocol e g = refl
has_with source_port e g = refl
has_with destination_port e g = refl

pub same_but : (p q : Part) (e : Entry) (g : Given) → q ≢ p → Same q g (with_part p e g)
same_but p q e g apart = by_part q (λ is. apart (sym (at_own_place q) ∙ ap part_at (sym is) ∙ at_own_place p))
  where
    kept : {A : Type 0} (n m : ℕ) (x y : A) → n ≢ m → y ≡ (if n == m then x else y)
    kept n m x y apart = ap (λ t. if t then x else y) (sym (not_equal n m apart))
      where
        not_equal : (n m : ℕ) → n ≢ m → (n == m) ≡ false
        not_equal n m h = grind (arith, nat_tests)

    by_part : (r : Part) → place_of p ≢ place_of r → Same r g (with_part p e g)
    by_part priority other = kept (place_of p) 0 (own_value priority e) g.priority other
    by_part table other = kept (place_of p) 1 (own_value table e) g.table other
    by_part kind other = kept (place_of p) 2 (own_value kind e) g.kind other
    by_part source other = kept (place_of p) 4 (own_value source e) g.src other
    by_part destination other = kept (place_of p) 5 (own_value destination e) g.dst other
    by_part protocol other = kept (place_of p) 3 (own_value protocol e) g.proto other
    by_part source_port other = kept (place_of p) 6 (own_value source_port e) g.tp_src other
    by_part destination_port other = kept (place_of p) 7 (own_value destination_port e) g.tp_dst other

-- 4. An entry has the specified parts, and the defaults of all others.

is_given_or : {A : Type 0} (o : Option A) (other : A) → is_some o ≡ true → o ≡ Some (unwrap_or o other)
is_given_or None other given = cc
is_given_or (Some x) other given = refl

is_none : {A : Type 0} (o : Option A) → is_some o ≡ false → o ≡ None
is_none None lacks = refl
is_none (Some x) lacks = cc

pub has_own : (p : Part) (g : Given) (a : Action) → IsGiven g p → Has p (entry_of g a) g
has_own priority g a given = is_given_or g.priority 32768 given
has_own table g a given = given
has_own kind g a given = is_given_or g.kind Any given
has_own source g a given = refl
has_own destination g a given = refl
has_own protocol g a given = refl
has_own source_port g a given = refl
has_own destination_port g a given = refl

pub unsaid_own : (p : Part) (g : Given) (a : Action) → Lacks p g → IsUnsaid p (entry_of g a)
unsaid_own priority g a lacks = ap (λ (o : Option ℕ). unwrap_or o 32768) (is_none g.priority lacks)
unsaid_own table g a lacks = tt
unsaid_own kind g a lacks = ap (λ (o : Option FrameKind). unwrap_or o Any) (is_none g.kind lacks)
unsaid_own source g a lacks = is_none g.src lacks
unsaid_own destination g a lacks = is_none g.dst lacks
unsaid_own protocol g a lacks = is_none g.proto lacks
unsaid_own source_port g a lacks = is_none g.tp_src lacks
unsaid_own destination_port g a lacks = is_none g.tp_dst lacks

-- 5. Some parts are specified, and no others change.

abbrev pub OfEach : (Part → Type 0) → List Part → Type 0
OfEach Is [] = Unit {0}
OfEach Is (p ∷ ps) = Is p × OfEach Is ps

pub of_each : (Is Also : Part → Type 0) (ps : List Part) → ((p : Part) → Is p → Also p) → OfEach Is ps → OfEach Also ps
of_each Is Also [] from each = tt
of_each Is Also (p ∷ ps) from each = (from p each.0, of_each Is Also ps from each.1)

pub of_both : (Is : Part → Type 0) (ps qs : List Part) → OfEach Is ps → OfEach Is qs → OfEach Is (ps ++ qs)
of_both Is [] qs first second = second
of_both Is (p ∷ ps) qs first second = (first.0, of_both Is ps qs first.1 second)

none_of_both : (p : Part) (qs rs : List Part) → IsNoneOf p qs → IsNoneOf p rs → IsNoneOf p (qs ++ rs)
none_of_both p [] rs first second = second
none_of_both p (q ∷ qs) rs first second = (first.0, none_of_both p qs rs first.1 second)

pub none_of_first : (p : Part) (qs rs : List Part) → IsNoneOf p (qs ++ rs) → IsNoneOf p qs
none_of_first p [] rs none = tt
none_of_first p (q ∷ qs) rs none = (none.0, none_of_first p qs rs none.1)

pub none_of_second : (p : Part) (qs rs : List Part) → IsNoneOf p (qs ++ rs) → IsNoneOf p rs
none_of_second p [] rs none = none
none_of_second p (q ∷ qs) rs none = none_of_second p qs rs none.1

pub distinct_both : (ps qs : List Part) → AreDistinct ps → AreDistinct qs → OfEach (λ p. IsNoneOf p qs) ps → AreDistinct (ps ++ qs)
distinct_both [] qs first second apart = second
distinct_both (p ∷ ps) qs first second apart =
    (none_of_both p ps qs first.0 apart.0, distinct_both ps qs first.1 second apart.1)

-- Some part is specified.
abbrev pub is_said : Given → List Part → Bool
is_said g [] = false
is_said g (p ∷ []) = is_given g p
is_said g (p ∷ q ∷ ps) = is_given g p || is_said g (q ∷ ps)

pub none_said : (g : Given) (ps : List Part) → is_said g ps ≡ false → OfEach (λ p. Lacks p g) ps
none_said g [] h = tt
none_said g (p ∷ []) h = (h, tt)
none_said g (p ∷ q ∷ ps) h = let both = or_parts (is_given g p) (is_said g (q ∷ ps)) h in (both.0, none_said g (q ∷ ps) both.1)

pub said_none : (g : Given) (ps : List Part) → OfEach (λ p. Lacks p g) ps → is_said g ps ≡ false
said_none g [] lack = refl
said_none g (p ∷ []) lack = lack.0
said_none g (p ∷ q ∷ ps) lack = λ i. lack.0 i || said_none g (q ∷ ps) lack.1 i

pub not_both : {b : Bool} → b ≡ false → b ≡ true → ⊥
not_both lacks given = cc

-- A specified part is not among the unspecified ones, and vice versa.
pub given_is_none : (p : Part) (ps : List Part) (g : Given) → IsGiven g p → OfEach (λ q. Lacks q g) ps → IsNoneOf p ps
given_is_none p [] g given lack = tt
given_is_none p (q ∷ ps) g given lack = ((λ is. not_both lack.0 (ap (is_given g) (sym is) ∙ given)), given_is_none p ps g given lack.1)

pub lacking_is_none : (p : Part) (ps : List Part) (g : Given) → Lacks p g → OfEach (IsGiven g) ps → IsNoneOf p ps
lacking_is_none p [] g lacks given = tt
lacking_is_none p (q ∷ ps) g lacks given = ((λ is. not_both (ap (is_given g) (sym is) ∙ lacks) given.0), lacking_is_none p ps g lacks given.1)
