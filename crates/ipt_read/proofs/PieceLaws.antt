-- Lemmas on rule lines: a line is parsed if and only if the grammar derives it.
use Rattle.std.proofs.Common.{◌≡◌, ℕ, Bool, true, false, not, ◌&&◌, ◌==◌, List, [], ◌∷◌, ◌++◌, Option, Some, None, ◌⊎◌, inl, inr, refl, sym, ap, ◌∙◌, subst}
use Rattle.std.specs.Prelude.{Result, Ok, Err, bytes_eq, codes, is_some}
use Rattle.std.specs.Option.{option_map}
use Rattle.std.proofs.lemmas.Bool.{and_parts, not-false}
use Rattle.text_core.proofs.StepsLaws.{if_parts, map_parts, ok_or_parts, bytes_same, split_bool}
use Rattle.host_net.specs.Prefix.{prefix_of}
use Rattle.ipt_rules.specs.Chain.{Chain}
use Rattle.ipt_read.specs.declared.fault.IptWhy.{IptWhy}
use Rattle.ipt_read.specs.declared.fault.IptWhy.TheVariants.{BadLine, Interface as AnInterface, UnknownOption, BadValue}
use Rattle.ipt_read.specs.declared.option.RuleOption.{RuleOption}
use Rattle.ipt_read.specs.declared.option.RuleOption.TheVariants.{Source, Destination, Protocol, SourcePort, DestinationPort, Interface, Module, CtState, State, Comment, Jump, RejectWith, LogPrefix, LogLevel}
use Rattle.ipt_read.specs.declared.option.Place.{Place}
use Rattle.ipt_read.specs.declared.option.Place.TheVariants.{AtOption, AfterBang, AtValue, InText}
use Rattle.ipt_read.specs.Options.{PartialRule}
use Rattle.ipt_read.specs.inner.OptionSteps.{option_of, is_allowed_here, is_interface, bars, target_of, with_module, value_refusal}
use Rattle.ipt_read.specs.inner.ValueSteps.{closes, quoted, text_of, states_of, with_value}
use Rattle.ipt_read.specs.inner.ServiceSteps.{asked_protocol, asked_ports}
use Rattle.ipt_read.specs.inner.RuleLine.{at_option, is_bang, word_step, goes_on, word_by_word}
use Rattle.ipt_read.specs.Values.{IsRestOfText, closing, open_still}
use Rattle.ipt_read.proofs.RowLaws.{StandsBy, IsValueOf, plain_by, turned_by, IsPieceBy, bare_piece, bang_piece, piece_by}
use Rattle.ipt_read.proofs.ValueLaws.{rest_ends, text_ends, ends_text, text_open, open_text}
use Rattle.ipt_read.specs.Grammar.{IsPiece, AreOptionWords, none_left, one_more}
use Rattle.ipt_read.proofs.GrammarLaws.{one_word, text, IsTaken, taken_word, taken_text, value_taken}

-- If the sequence succeeded, each step succeeded.
pub goes_parts : {A B : Type 0} (r : Result A IptWhy) (f : A → Result B IptWhy) (y : B) → goes_on r f ≡ Ok y → (x : A) × (r ≡ Ok x) × (f x ≡ Ok y)
goes_parts (Ok x) f y h = (x, refl, h)
goes_parts (Err why) f y h = cc

-- After a token of a string, an option follows or the string continues.
abbrev pub IsBehindValue : Place → Type 0
IsBehindValue place = (place ≡ AtOption) ⊎ (place ≡ InText)

closes_place : (bs : List ℕ) (place : Place) → closes bs ≡ Some place → IsBehindValue place
closes_place [] place h = inl cc
closes_place (b ∷ bs) place h = cc

pub quoted_place : (taken : Bool) (bs : List ℕ) (place : Place) → quoted taken bs ≡ Some place → IsBehindValue place
quoted_place taken [] place h = inr cc
quoted_place taken (b ∷ bs) place h = elim (if_parts taken (quoted false bs) _ (Some place) h) [
  | inl behind ↦ quoted_place false bs place behind.1
  | inr open_text ↦ elim (if_parts (b == 92) (quoted true bs) _ (Some place) open_text.1) [
    | inl back ↦ quoted_place true bs place back.1
    | inr other ↦ elim (if_parts (b == 34) (closes bs) (quoted false bs) (Some place) other.1) [
      | inl mark ↦ closes_place bs place mark.1
      | inr byte ↦ quoted_place false bs place byte.1
    ]
  ]
]

text_place : (word : List ℕ) (place : Place) → text_of word ≡ Some place → IsBehindValue place
unfolding text_of
text_place [] place h = inl cc
text_place (b ∷ bs) place h = elim (if_parts (b == 34) (quoted false bs) (Some AtOption) (Some place) h) [
  | inl mark ↦ quoted_place false bs place mark.1
  | inr byte ↦ inl cc
]

same_place : (p q : PartialRule × Place) → p ≡ q → p.1 ≡ q.1
same_place p q e = ap (λ r. r.1) e

at_place : {A : Type 0} (f : A → PartialRule × Place) (o : Option A) (now : PartialRule) (place : Place) → ((x : A) → (f x).1 ≡ AtOption) → option_map f o ≡ Some (now, place) → IsBehindValue place
at_place f o now place each h =
    let parts = map_parts f o (now, place) h in
    inl (sym (same_place (f parts.0) (now, place) parts.2) ∙ each parts.0)

text_value_place : (given now : PartialRule) (word : List ℕ) (place : Place) → option_map {T = Place} {U = PartialRule × Place} (λ p. (given, p)) (text_of word) ≡ Some (now, place) → IsBehindValue place
text_value_place given now word place h =
    let parts = map_parts {B = PartialRule × Place} (λ p. (given, p)) (text_of word) (now, place) h in
    text_place word place (parts.1 ∙ ap (λ p. Some p) (same_place (given, parts.0) (now, place) parts.2))

pub value_place : (chains : List Chain) (given now : PartialRule) (o : RuleOption) (negated : Bool) (word : List ℕ) (place : Place) → with_value chains given o negated word ≡ Some (now, place) → IsBehindValue place
unfolding with_value
value_place chains given now Source negated word place h = at_place _ (prefix_of word) now place (λ x. refl) h
value_place chains given now Destination negated word place h = at_place _ (prefix_of word) now place (λ x. refl) h
value_place chains given now Protocol negated word place h = at_place _ (asked_protocol word) now place (λ x. refl) h
value_place chains given now SourcePort negated word place h = at_place _ (asked_ports word) now place (λ x. refl) h
value_place chains given now DestinationPort negated word place h = at_place _ (asked_ports word) now place (λ x. refl) h
value_place chains given now Interface negated word place h = cc
value_place chains given now Module negated word place h = at_place _ (with_module given word) now place (λ x. refl) h
value_place chains given now CtState negated word place h = at_place _ (states_of word) now place (λ x. refl) h
value_place chains given now State negated word place h = at_place _ (states_of word) now place (λ x. refl) h
value_place chains given now Comment negated word place h = text_value_place given now word place h
value_place chains given now Jump negated word place h = at_place _ (target_of chains word) now place (λ x. refl) h
value_place chains given now RejectWith negated word place h =
    let e : ◌≡◌ {A = PartialRule × Place} (given, AtOption) (now, place) = cc in
    inl (sym (same_place (given, AtOption) (now, place) e))
value_place chains given now LogPrefix negated word place h = text_value_place given now word place h
value_place chains given now LogLevel negated word place h =
    let e : ◌≡◌ {A = PartialRule × Place} (given, AtOption) (now, place) = cc in
    inl (sym (same_place (given, AtOption) (now, place) e))

-- The facts about an option at its position.
pub record IsOptionAt (given : PartialRule) (negated : Bool) (o : RuleOption) (now : PartialRule × Place) : Type 0 where
  pub stands : StandsBy given negated o
  pub behind : now ≡ (given, AtValue o negated)

pub option_at : (given : PartialRule) (negated : Bool) (option : Option RuleOption) (now : PartialRule × Place) → at_option given negated option ≡ Ok now → (o : RuleOption) × (option ≡ Some o) × IsOptionAt given negated o now
option_at given negated None now h = cc
option_at given negated (Some o) now h = elim (if_parts (not (is_allowed_here given o)) (Err UnknownOption) _ (Ok now) h) [
  | inl bad ↦ cc
  | inr here ↦ elim (if_parts (is_interface o) (Err AnInterface) _ (Ok now) here.1) [
    | inl bad ↦ cc
    | inr address ↦ elim (if_parts (bars given negated o) (Err BadLine) (Ok (given, AtValue o negated)) (Ok now) address.1) [
      | inl bad ↦ cc
      | inr fits ↦
          let stands_here : is_allowed_here given o ≡ true = not-false (is_allowed_here given o) here.0 in
          (o, refl, record { stands = record { here = stands_here; address = address.0; free = fits.0 }; behind = cc })
    ]
  ]
]

-- The remaining tokens of a line, by the position of the first.
abbrev pub IsLeft : List Chain → PartialRule → Place → List (List ℕ) → PartialRule → Type 0
IsLeft chains given AtOption ws last = AreOptionWords chains given ws last
IsLeft chains given AfterBang ws last = given.target ≡ None → AreOptionWords chains given (codes "!" ∷ ws) last
IsLeft chains given (AtValue o negated) ws last =
    (value : List (List ℕ)) × (rest : List (List ℕ)) × (now : PartialRule) × (ws ≡ value ++ rest) × IsValueOf chains given o negated value now × AreOptionWords chains now rest last
IsLeft chains given InText ws last =
    (front : List (List ℕ)) × (rest : List (List ℕ)) × (ws ≡ front ++ rest) × IsRestOfText front × AreOptionWords chains given rest last

plain_left : (chains : List Chain) (given last : PartialRule) (o : RuleOption) (w : List ℕ) (ws : List (List ℕ)) → option_of w ≡ Some o → StandsBy given false o → IsLeft chains given (AtValue o false) ws last → AreOptionWords chains given (w ∷ ws) last
plain_left chains given last o w ws named stands left =
    subst (λ (vs : List (List ℕ)). AreOptionWords chains given (w ∷ vs) last) (sym left.3) (one_more (plain_by named stands left.4) left.5)

turned_left : (chains : List Chain) (given last : PartialRule) (o : RuleOption) (w : List ℕ) (ws : List (List ℕ)) → option_of w ≡ Some o → StandsBy given true o → IsLeft chains given (AtValue o true) ws last → given.target ≡ None → AreOptionWords chains given (codes "!" ∷ w ∷ ws) last
turned_left chains given last o w ws named stands left free =
    subst (λ (vs : List (List ℕ)). AreOptionWords chains given (codes "!" ∷ w ∷ vs) last) (sym left.3) (one_more (turned_by free named stands left.4) left.5)

none_of : {A : Type 0} (o : Option A) → not (is_some o) ≡ true → o ≡ None
none_of None h = refl
none_of (Some x) h = cc

pub bang_parts : (given : PartialRule) (w : List ℕ) → is_bang given w ≡ true → (given.target ≡ None) × (w ≡ codes "!")
unfolding is_bang
bang_parts given w h =
    let parts = and_parts (not (is_some given.target)) (bytes_eq w (codes "!")) h in
    (none_of given.target parts.0, bytes_same w (codes "!") parts.1)

-- Sound: a line that is parsed has options.
at_step : (chains : List Chain) (given last : PartialRule) (place : Place) (w : List ℕ) (ws : List (List ℕ)) (t : PartialRule × Place) → word_step chains given place w ≡ Ok t → IsLeft chains t.0 t.1 ws last → IsLeft chains given place (w ∷ ws) last
unfolding word_step
at_step chains given last AtOption w ws t step left = elim (if_parts (is_bang given w) (Ok (given, AfterBang)) (at_option given false (option_of w)) (Ok t) step) [
  | inl bang ↦
      let parts = bang_parts given w bang.0 in
      let e : ◌≡◌ {A = PartialRule × Place} (given, AfterBang) t = cc in
      subst (λ (v : List ℕ). AreOptionWords chains given (v ∷ ws) last) (sym parts.1) (subst (λ (p : PartialRule × Place). IsLeft chains p.0 p.1 ws last) (sym e) left parts.0)
  | inr option ↦
      let at = option_at given false (option_of w) t option.1 in
      plain_left chains given last at.0 w ws at.1 at.2.stands (subst (λ (p : PartialRule × Place). IsLeft chains p.0 p.1 ws last) at.2.behind left)
]
at_step chains given last AfterBang w ws t step left =
    let at = option_at given true (option_of w) t step in
    turned_left chains given last at.0 w ws at.1 at.2.stands (subst (λ (p : PartialRule × Place). IsLeft chains p.0 p.1 ws last) at.2.behind left)
at_step chains given last (AtValue o negated) w ws t step left =
    let said : with_value chains given o negated w ≡ Some (t.0, t.1) = ok_or_parts (with_value chains given o negated w) (value_refusal o) t step in
    elim (value_place chains given t.0 o negated w t.1 said) [
      | inl option ↦ (w ∷ [], ws, t.0, refl, one_word o (said ∙ ap (λ p. Some (t.0, p)) option), subst (λ (p : Place). IsLeft chains t.0 p ws last) option left)
      | inr behind ↦
          let rest = subst (λ (p : Place). IsLeft chains t.0 p ws last) behind left in
          (w ∷ rest.0, rest.1, t.0, ap (λ vs. w ∷ vs) rest.2, text o (said ∙ ap (λ p. Some (t.0, p)) behind) rest.3, rest.4)
    ]
at_step chains given last InText w ws t step left =
    let parts = map_parts {B = PartialRule × Place} (λ p. (given, p)) (quoted false w) t (ok_or_parts (option_map (λ p. (given, p)) (quoted false w)) BadValue t step) in
    let there = subst (λ (p : PartialRule × Place). IsLeft chains p.0 p.1 ws last) (sym parts.2) left in
    elim (quoted_place false w parts.0 parts.1) [
      | inl option ↦ (w ∷ [], ws, refl, rest_ends (text_ends w (parts.1 ∙ ap (λ p. Some p) option)), subst (λ (p : Place). IsLeft chains given p ws last) option there)
      | inr behind ↦
          let rest = subst (λ (p : Place). IsLeft chains given p ws last) behind there in
          (w ∷ rest.0, rest.1, ap (λ vs. w ∷ vs) rest.2, open_still (text_open w (parts.1 ∙ ap (λ p. Some p) behind)) rest.3, rest.4)
    ]

pub pieces_left : (chains : List Chain) (given last : PartialRule) (place : Place) (ws : List (List ℕ)) → word_by_word chains given place ws ≡ Ok last → IsLeft chains given place ws last
pieces_left chains given last AtOption [] h = let e : given ≡ last = cc in subst (λ (g : PartialRule). AreOptionWords chains given [] g) e none_left
pieces_left chains given last AfterBang [] h = cc
pieces_left chains given last (AtValue o negated) [] h = cc
pieces_left chains given last InText [] h = cc
pieces_left chains given last place (w ∷ ws) h =
    let parts = goes_parts (word_step chains given place w) (λ t. word_by_word chains t.0 t.1 ws) last h in
    at_step chains given last place w ws parts.0 parts.1 (pieces_left chains parts.0.0 last parts.0.1 ws parts.2)

pub pieces_of_read : (chains : List Chain) (given last : PartialRule) (ws : List (List ℕ)) → word_by_word chains given AtOption ws ≡ Ok last → AreOptionWords chains given ws last
pieces_of_read chains given last ws h = pieces_left chains given last AtOption ws h

-- Complete: options are parsed.
rest_read : (chains : List Chain) (given : PartialRule) (ws vs : List (List ℕ)) → IsRestOfText ws → word_by_word chains given InText (ws ++ vs) ≡ word_by_word chains given AtOption vs
unfolding word_step
rest_read chains given ws vs (closing {w = w} inside is written) = rw (ends_text w inside is written) refl
rest_read chains given ws vs (open_still {w = w} {ws = rest} is others) = rw (open_text w is) (rest_read chains given rest vs others)

taken_read : (chains : List Chain) (given now : PartialRule) (o : RuleOption) (negated : Bool) (ws vs : List (List ℕ)) → IsTaken chains given o negated ws now → word_by_word chains given (AtValue o negated) (ws ++ vs) ≡ word_by_word chains now AtOption vs
unfolding word_step
taken_read chains given now o negated ws vs (taken_word h) = rw h refl
taken_read chains given now o negated ws vs (taken_text {ws = rest} h others) = rw h (rest_read chains now rest vs others)

value_read : (chains : List Chain) (given now : PartialRule) (o : RuleOption) (negated : Bool) (ws vs : List (List ℕ)) → IsValueOf chains given o negated ws now → word_by_word chains given (AtValue o negated) (ws ++ vs) ≡ word_by_word chains now AtOption vs
value_read chains given now o negated ws vs is = taken_read chains given now o negated ws vs (value_taken chains given now o negated ws is)

and_false : (b : Bool) → (b && false) ≡ false
and_false true = refl
and_false false = refl

pub stands_at : (given : PartialRule) (negated : Bool) (o : RuleOption) → StandsBy given negated o → at_option given negated (Some o) ≡ Ok (given, AtValue o negated)
stands_at given negated o stands = rw (stands.here, stands.address, stands.free) refl

is_no_bang : (given : PartialRule) (name : List ℕ) (o : RuleOption) → option_of name ≡ Some o → is_bang given name ≡ false
unfolding is_bang option_of
is_no_bang given name o named = split_bool (bytes_eq name (codes "!"))
    (λ same. let e = ap option_of (bytes_same name (codes "!") same) in cc)
    (λ other. rw other (and_false (not (is_some given.target))))

pub bang_stands : (given : PartialRule) → given.target ≡ None → is_bang given (codes "!") ≡ true
unfolding is_bang
bang_stands given free = rw free refl

piece_read_by : (chains : List Chain) (given now : PartialRule) (ws vs : List (List ℕ)) → IsPieceBy chains given ws now → word_by_word chains given AtOption (ws ++ vs) ≡ word_by_word chains now AtOption vs
unfolding word_step
piece_read_by chains given now ws vs (bare_piece {name = name} {o = o} {value = value} named stands value_is) =
    rw (is_no_bang given name o named, named, stands_at given false o stands) (value_read chains given now o false value vs value_is)
piece_read_by chains given now ws vs (bang_piece {name = name} {o = o} {value = value} free named stands value_is) =
    rw (bang_stands given free, named, stands_at given true o stands) (value_read chains given now o true value vs value_is)

pub piece_read : (chains : List Chain) (given now : PartialRule) (ws vs : List (List ℕ)) → IsPiece chains given ws now → word_by_word chains given AtOption (ws ++ vs) ≡ word_by_word chains now AtOption vs
piece_read chains given now ws vs is = piece_read_by chains given now ws vs (piece_by chains given now ws is)

pub read_of_pieces : (chains : List Chain) (given last : PartialRule) (ws : List (List ℕ)) → AreOptionWords chains given ws last → word_by_word chains given AtOption ws ≡ Ok last
read_of_pieces chains given last ws none_left = refl
read_of_pieces chains given last ws (one_more {now = now} {ws = front} {vs = rest} piece others) =
    piece_read chains given now front rest piece ∙ read_of_pieces chains now last rest others
