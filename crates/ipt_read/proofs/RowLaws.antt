-- The options of the parser are those of the table, by their names.
use Rattle.std.proofs.Common.{◌≡◌, ◌⊎◌, inl, inr, ℕ, Bool, true, false, cond, not, ◌&&◌, List, [], ◌∷◌, map, Option, Some, None, refl, sym, ap, subst, ◌∙◌}
use Rattle.std.specs.Prelude.{codes, bytes_eq}
use Rattle.std.specs.List.{list_all}
use Rattle.std.specs.Map.{lookup}
use Rattle.std.specs.Option.{option_map}
use Rattle.std.proofs.lemmas.Bool.{and_parts, not-true}
use Rattle.text_core.proofs.StepsLaws.{if_parts, map_parts, bytes_same}
use Rattle.ipt_rules.specs.Chain.{Chain}
use Rattle.ipt_read.specs.declared.option.RuleOption.{RuleOption}
use Rattle.ipt_read.specs.declared.option.RuleOption.TheVariants.{Source, Destination, Protocol, SourcePort, DestinationPort, Interface, Module, CtState, State, Comment, Jump, RejectWith, LogPrefix, LogLevel}
use Rattle.ipt_read.specs.Options.{PartialRule, Row, row_of}
use Rattle.ipt_read.specs.Grammar.{Stands, IsValue, IsPiece, plain, turned}
use Rattle.ipt_read.specs.LineFault.{IsInterface}
use Rattle.ipt_read.specs.inner.OptionSteps.{named_options, option_of, written, row, is_allowed_here, bars, is_interface}

-- 1. The names of options.

pub option_written : (o : RuleOption) → option_of (written o) ≡ Some o
unfolding option_of
option_written Source = refl
option_written Destination = refl
option_written Protocol = refl
option_written SourcePort = refl
option_written DestinationPort = refl
option_written Interface = refl
option_written Module = refl
option_written CtState = refl
option_written State = refl
option_written Comment = refl
option_written Jump = refl
option_written RejectWith = refl
option_written LogPrefix = refl
option_written LogLevel = refl

abbrev is_named : List ℕ × RuleOption → Bool
is_named entry = bytes_eq entry.0 (written entry.1) && not (is_interface entry.1)

same_option : (o p : RuleOption) → ◌≡◌ {A = Option RuleOption} (Some o) (Some p) → o ≡ p
same_option o p h = cc

found : (name : List ℕ) (o : RuleOption) (entries : List (List ℕ × RuleOption)) → list_all is_named entries ≡ true → lookup (bytes_eq name) entries ≡ Some o
    → (name ≡ written o) × (is_interface o ≡ false)
found name o [] all h = cc
found name o (entry ∷ entries) all h = elim (if_parts (bytes_eq name entry.0) (Some entry.1) (lookup (bytes_eq name) entries) (Some o) h) [
  | inl here ↦
      let same = same_option entry.1 o here.1 in
      let parts = and_parts (is_named entry) (list_all is_named entries) all in
      let its = and_parts (bytes_eq entry.0 (written entry.1)) (not (is_interface entry.1)) parts.0 in
      (bytes_same name entry.0 here.0 ∙ bytes_same entry.0 (written entry.1) its.0 ∙ ap written same, sym (ap is_interface same) ∙ not-true (is_interface entry.1) its.1)
  | inr there ↦ found name o entries (and_parts (is_named entry) (list_all is_named entries) all).1 there.1
]

found_named : (name : List ℕ) (o : RuleOption) → lookup (bytes_eq name) named_options ≡ Some o → (name ≡ written o) × (is_interface o ≡ false)
found_named name o h = found name o named_options refl h

-- 2. Their rows.

lookup_mapped : {A B : Type 0} (f : A → B) (test : List ℕ → Bool) (entries : List (List ℕ × A))
    → lookup test (map (λ (e : List ℕ × A). (e.0, f e.1)) entries) ≡ option_map f (lookup test entries)
lookup_mapped f test [] = refl
lookup_mapped {A = A} f test (entry ∷ entries) = by_test (test entry.0) (lookup_mapped f test entries)
  where
    by_test : (t : Bool) → lookup test (map (λ (e : List ℕ × A). (e.0, f e.1)) entries) ≡ option_map f (lookup test entries)
        → cond t (Some (f entry.1)) (lookup test (map (λ (e : List ℕ × A). (e.0, f e.1)) entries)) ≡ option_map f (cond t (Some entry.1) (lookup test entries))
    by_test true others = refl
    by_test false others = others

row_is : (name : List ℕ) → row_of name ≡ option_map row (lookup (bytes_eq name) named_options)
row_is name = lookup_mapped row (bytes_eq name) named_options

-- An option is an interface match, or has a row in the table.
option_parts : (name : List ℕ) (o : Option RuleOption) → option_of name ≡ o
    → (IsInterface name × (o ≡ Some Interface)) ⊎ (lookup (bytes_eq name) named_options ≡ o)
unfolding option_of
option_parts name o h = elim (if_parts (bytes_eq name (codes "-i")) (Some Interface) _ o h) [
  | inl first ↦ inl (inl (bytes_same name (codes "-i") first.0), sym first.1)
  | inr a ↦ elim (if_parts (bytes_eq name (codes "-o")) (Some Interface) (lookup (bytes_eq name) named_options) o a.1) [
    | inl second ↦ inl (inr (bytes_same name (codes "-o") second.0), sym second.1)
    | inr other ↦ inr other.1
  ]
]

in_table : (name : List ℕ) (o : RuleOption) → option_of name ≡ Some o → is_interface o ≡ false → lookup (bytes_eq name) named_options ≡ Some o
in_table name o h address = elim (option_parts name (Some o) h) [
  | inl interface ↦ let is : false ≡ true = sym address ∙ ap is_interface (same_option o Interface interface.1) in cc
  | inr there ↦ there
]

pub name_by : (name : List ℕ) (o : RuleOption) → option_of name ≡ Some o → is_interface o ≡ false → name ≡ written o
name_by name o h address = (found_named name o (in_table name o h address)).0

pub row_by : (name : List ℕ) (o : RuleOption) → option_of name ≡ Some o → is_interface o ≡ false → row_of name ≡ Some (row o)
row_by name o h address = row_is name ∙ ap (option_map row) (in_table name o h address)

pub row_found : (name : List ℕ) (r : Row) → row_of name ≡ Some r → (o : RuleOption) × (option_of name ≡ Some o) × (is_interface o ≡ false) × (r ≡ row o)
row_found name r h =
    let parts = map_parts row (lookup (bytes_eq name) named_options) r (sym (row_is name) ∙ h) in
    let its = found_named name parts.0 parts.1 in
    (parts.0, ap option_of its.0 ∙ option_written parts.0, its.1, sym parts.2)

pub interface_by : (name : List ℕ) (o : RuleOption) → option_of name ≡ Some o → is_interface o ≡ true → IsInterface name
interface_by name o h is = elim (option_parts name (Some o) h) [
  | inl interface ↦ interface.0
  | inr there ↦ let other : false ≡ true = sym (found_named name o there).1 ∙ is in cc
]

pub interface_is : (name : List ℕ) → IsInterface name → option_of name ≡ Some Interface
unfolding option_of
interface_is name (inl first) = ap option_of first
interface_is name (inr second) = ap option_of second

-- 3. Where they are allowed, and their values.

pub record StandsBy (given : PartialRule) (negated : Bool) (o : RuleOption) : Type 0 where
  pub here : is_allowed_here given o ≡ true
  pub address : is_interface o ≡ false
  pub free : bars given negated o ≡ false

pub stands_by : (given : PartialRule) (negated : Bool) (name : List ℕ) (o : RuleOption) → option_of name ≡ Some o → StandsBy given negated o → Stands given negated name (row o)
stands_by given negated name o named stands = record { named = row_by name o named stands.address; here = stands.here; free = stands.free }

pub by_stands : (given : PartialRule) (negated : Bool) (name : List ℕ) (r : Row) → Stands given negated name r
    → (o : RuleOption) × (option_of name ≡ Some o) × StandsBy given negated o × (r ≡ row o)
by_stands given negated name r stands =
    let at = row_found name r stands.named in
    let its = subst (λ (q : Row). Stands given negated name q) at.3 stands in
    (at.0, at.1, record { here = its.here; address = at.2; free = its.free }, at.3)

abbrev pub IsValueOf : List Chain → PartialRule → RuleOption → Bool → List (List ℕ) → PartialRule → Type 0
IsValueOf chains given o negated value now = IsValue chains given negated (written o) value now

pub value_named : {chains : List Chain} {given now : PartialRule} {negated : Bool} {name : List ℕ} {o : RuleOption} {value : List (List ℕ)} → option_of name ≡ Some o → is_interface o ≡ false
    → IsValueOf chains given o negated value now → IsValue chains given negated name value now
value_named {chains = chains} {given = given} {now = now} {negated = negated} {name = name} {o = o} {value = value} named address is =
    subst (λ (v : List ℕ). IsValue chains given negated v value now) (sym (name_by name o named address)) is

pub named_value : {chains : List Chain} {given now : PartialRule} {negated : Bool} {name : List ℕ} {o : RuleOption} {value : List (List ℕ)} → option_of name ≡ Some o → is_interface o ≡ false
    → IsValue chains given negated name value now → IsValueOf chains given o negated value now
named_value {chains = chains} {given = given} {now = now} {negated = negated} {name = name} {o = o} {value = value} named address is =
    subst (λ (v : List ℕ). IsValue chains given negated v value now) (name_by name o named address) is

pub plain_by : {chains : List Chain} {given now : PartialRule} {name : List ℕ} {o : RuleOption} {value : List (List ℕ)} → option_of name ≡ Some o → StandsBy given false o
    → IsValueOf chains given o false value now → IsPiece chains given (name ∷ value) now
plain_by {given = given} {name = name} {o = o} named stands is = plain (stands_by given false name o named stands) (value_named named stands.address is)

pub turned_by : {chains : List Chain} {given now : PartialRule} {name : List ℕ} {o : RuleOption} {value : List (List ℕ)} → given.target ≡ None → option_of name ≡ Some o → StandsBy given true o
    → IsValueOf chains given o true value now → IsPiece chains given (codes "!" ∷ name ∷ value) now
turned_by {given = given} {name = name} {o = o} free named stands is = turned free (stands_by given true name o named stands) (value_named named stands.address is)

-- An option with its value, by the option that the parser takes it for.
pub data IsPieceBy (chains : List Chain) (given : PartialRule) : List (List ℕ) → PartialRule → Type 0 where
  bare_piece : {name : List ℕ} {o : RuleOption} {value : List (List ℕ)} {now : PartialRule} → option_of name ≡ Some o → StandsBy given false o
      → IsValueOf chains given o false value now → IsPieceBy chains given (name ∷ value) now
  bang_piece : {name : List ℕ} {o : RuleOption} {value : List (List ℕ)} {now : PartialRule} → given.target ≡ None → option_of name ≡ Some o → StandsBy given true o
      → IsValueOf chains given o true value now → IsPieceBy chains given (codes "!" ∷ name ∷ value) now

pub piece_by : (chains : List Chain) (given now : PartialRule) (ws : List (List ℕ)) → IsPiece chains given ws now → IsPieceBy chains given ws now
piece_by chains given now ws (plain {name = name} {row = r} stands is) =
    let at = by_stands given false name r stands in
    bare_piece at.1 at.2 (named_value at.1 at.2.address is)
piece_by chains given now ws (turned {name = name} {row = r} free stands is) =
    let at = by_stands given true name r stands in
    bang_piece free at.1 at.2 (named_value at.1 at.2.address is)
