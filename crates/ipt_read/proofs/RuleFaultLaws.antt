-- The reasons why tokens are no rule line, in terms of the format, agree with the steps of the parser.
use Rattle.std.proofs.Common.{◌≡◌, ◌≢◌, ◌⊎◌, inl, inr, ℕ, Bool, true, false, not, List, [], ◌∷◌, ◌++◌, Option, Some, None, refl, sym, ap, subst, ◌∙◌, append_assoc}
use Rattle.std.specs.Prelude.{Result, Ok, Err, codes, is_none}
use Rattle.std.specs.Option.{option_map, ok_or}
use Rattle.std.proofs.lemmas.Bool.{not-true, not-false}
use Rattle.text_core.proofs.StepsLaws.{if_parts, split_bool}
use Rattle.ipt_rules.specs.declared.rule.Target.{Target}
use Rattle.ipt_rules.specs.Chain.{Chain}
use Rattle.ipt_read.specs.declared.fault.IptWhy.{IptWhy}
use Rattle.ipt_read.specs.declared.fault.IptWhy.TheVariants.{BadLine, UnknownOption, Interface as AnInterface, BadValue}
use Rattle.ipt_read.specs.declared.option.RuleOption.{RuleOption}
use Rattle.ipt_read.specs.declared.option.RuleOption.TheVariants as opt
use Rattle.ipt_read.specs.declared.option.Place.{Place}
use Rattle.ipt_read.specs.declared.option.Place.TheVariants.{AtOption, AfterBang, AtValue, InText}
use Rattle.ipt_read.specs.Options.{PartialRule, Row, row_of, is_repeated_or_negated}
use Rattle.ipt_read.specs.inner.OptionSteps.{option_of, row, is_allowed_here, is_interface, bars, with_module, target_of, value_refusal}
use Rattle.ipt_read.specs.inner.ValueSteps.{quoted, with_value}
use Rattle.ipt_read.specs.Values.{IsRestOfText, closing, open_still}
use Rattle.ipt_read.proofs.RowLaws.{StandsBy, IsValueOf, stands_by, by_stands, value_named, named_value, plain_by, turned_by, row_by, row_found, interface_by, interface_is}
use Rattle.ipt_read.proofs.ValueLaws.{rest_ends, text_ends, ends_text, text_open, open_text}
use Rattle.ipt_read.specs.inner.RuleLine.{at_option, is_bang, word_step, goes_on, word_by_word}
use Rattle.ipt_read.specs.Grammar.{Stands, IsValue, AreOptionWords, none_left, one_more}
use Rattle.ipt_read.proofs.GrammarLaws.{one_word, text, IsTaken, taken_word, taken_text, value_taken, never_open}
use Rattle.ipt_read.proofs.PieceLaws.{quoted_place, value_place, option_at, bang_parts, pieces_left, stands_at, bang_stands, piece_read}
use Rattle.ipt_read.specs.LineFault.{IsInterface, HasOptionFaultAt, interface, unknown, barred, value_missing, bad_value, IsStuck, bare_option, bang_option, bang_last}

-- 1. The token at which parsing a rule line fails.

abbrev HasNoValue : List Chain → PartialRule → RuleOption → Bool → List (List ℕ) → Type 0
HasNoValue chains given o negated ws =
    (value rest : List (List ℕ)) (now : PartialRule) → ws ≡ value ++ rest → IsValueOf chains given o negated value now → ⊥

abbrev LostAt : List Chain → PartialRule → List (List ℕ) → IptWhy → Type 0
LostAt chains given ws why =
    (read : List (List ℕ)) × (rest : List (List ℕ)) × (last : PartialRule) × (ws ≡ read ++ rest) × AreOptionWords chains given read last × IsStuck chains last rest why

abbrev reason : RuleOption → List (List ℕ) → IptWhy
reason o [] = BadValue
reason o (w ∷ ws) = value_refusal o

abbrev HasNoRest : List (List ℕ) → Type 0
HasNoRest ws = (front rest : List (List ℕ)) → ws ≡ front ++ rest → IsRestOfText front → ⊥

abbrev Lost : List Chain → PartialRule → Place → List (List ℕ) → IptWhy → Type 0
Lost chains given AtOption ws why = LostAt chains given ws why
Lost chains given AfterBang ws why = given.target ≡ None → LostAt chains given (codes "!" ∷ ws) why
Lost chains given (AtValue o negated) ws why =
    ((value : List (List ℕ)) × (rest : List (List ℕ)) × (now : PartialRule) × (ws ≡ value ++ rest) × IsValueOf chains given o negated value now × LostAt chains now rest why)
    ⊎ (HasNoValue chains given o negated ws × (why ≡ reason o ws))
Lost chains given InText ws why =
    ((front : List (List ℕ)) × (rest : List (List ℕ)) × (ws ≡ front ++ rest) × IsRestOfText front × LostAt chains given rest why)
    ⊎ (HasNoRest ws × (why ≡ BadValue))

-- The first token of a value, or of the rest of a string.
no_rest_of : (w : List ℕ) (ws : List (List ℕ)) → quoted false w ≡ None → HasNoRest (w ∷ ws)
no_rest_of w ws none front rest cut (closing {w = v} inside is written) =
    let first : w ≡ v = cc in
    let read : quoted false w ≡ Some AtOption = ap (quoted false) first ∙ ends_text v inside is written in cc
no_rest_of w ws none front rest cut (open_still {w = v} is others) =
    let first : w ≡ v = cc in
    let read : quoted false w ≡ Some InText = ap (quoted false) first ∙ open_text v is in cc

no_rest_at_end : HasNoRest []
no_rest_at_end front rest cut (closing inside is written) = cc
no_rest_at_end front rest cut (open_still is others) = cc

no_rest_more : (w : List ℕ) (ws : List (List ℕ)) → quoted false w ≡ Some InText → HasNoRest ws → HasNoRest (w ∷ ws)
no_rest_more w ws read none front rest cut (closing {w = v} inside is written) =
    let first : w ≡ v = cc in
    let other : quoted false w ≡ Some AtOption = ap (quoted false) first ∙ ends_text v inside is written in cc
no_rest_more w ws read none front rest cut (open_still {w = v} {ws = vs} is others) =
    let behind : ws ≡ vs ++ rest = cc in none vs rest behind others

no_value_by : (chains : List Chain) (given : PartialRule) (o : RuleOption) (negated : Bool) (w : List ℕ) (ws value rest : List (List ℕ)) (now : PartialRule) → with_value chains given o negated w ≡ None → w ∷ ws ≡ value ++ rest → IsTaken chains given o negated value now → ⊥
no_value_by chains given o negated w ws value rest now none cut (taken_word {w = v} read) =
    let first : w ≡ v = cc in
    let other = ap (with_value chains given o negated) first ∙ read in cc
no_value_by chains given o negated w ws value rest now none cut (taken_text {w = v} read others) =
    let first : w ≡ v = cc in
    let other = ap (with_value chains given o negated) first ∙ read in cc

no_value_of : (chains : List Chain) (given : PartialRule) (o : RuleOption) (negated : Bool) (w : List ℕ) (ws : List (List ℕ)) → with_value chains given o negated w ≡ None → HasNoValue chains given o negated (w ∷ ws)
no_value_of chains given o negated w ws none value rest now cut is =
    no_value_by chains given o negated w ws value rest now none cut (value_taken chains given now o negated value is)

no_value_end : (chains : List Chain) (given : PartialRule) (o : RuleOption) (negated : Bool) (value rest : List (List ℕ)) (now : PartialRule) → [] ≡ value ++ rest → IsTaken chains given o negated value now → ⊥
no_value_end chains given o negated value rest now cut (taken_word read) = cc
no_value_end chains given o negated value rest now cut (taken_text read others) = cc

no_value_at_end : (chains : List Chain) (given : PartialRule) (o : RuleOption) (negated : Bool) → HasNoValue chains given o negated []
no_value_at_end chains given o negated value rest now cut is =
    no_value_end chains given o negated value rest now cut (value_taken chains given now o negated value is)

no_value_text : (chains : List Chain) (given then_given : PartialRule) (o : RuleOption) (negated : Bool) (w : List ℕ) (ws value rest : List (List ℕ)) (now : PartialRule) → with_value chains given o negated w ≡ Some (then_given, InText) → HasNoRest ws → w ∷ ws ≡ value ++ rest → IsTaken chains given o negated value now → ⊥
no_value_text chains given then_given o negated w ws value rest now read none cut (taken_word {w = v} other) =
    let first : w ≡ v = cc in
    let both : ◌≡◌ {A = Option (PartialRule × Place)} (Some (then_given, InText)) (Some (now, AtOption)) = sym read ∙ ap (with_value chains given o negated) first ∙ other in
    let pair : ◌≡◌ {A = PartialRule × Place} (then_given, InText) (now, AtOption) = cc in
    let place : InText ≡ AtOption = ap (λ (r : PartialRule × Place). r.1) pair in cc
no_value_text chains given then_given o negated w ws value rest now read none cut (taken_text {ws = vs} other others) =
    let behind : ws ≡ vs ++ rest = cc in none vs rest behind others

-- Only a string continues in the next token.
text_reason : (chains : List Chain) (given now : PartialRule) (o : RuleOption) (negated : Bool) (w : List ℕ) → with_value chains given o negated w ≡ Some (now, InText) → value_refusal o ≡ BadValue
unfolding with_value
text_reason chains given now opt.Module negated w h = absurd (never_open _ (with_module given w) now (λ x. refl) h)
text_reason chains given now opt.Jump negated w h = absurd (never_open _ (target_of chains w) now (λ x. refl) h)
text_reason chains given now opt.Source negated w h = refl
text_reason chains given now opt.Destination negated w h = refl
text_reason chains given now opt.Protocol negated w h = refl
text_reason chains given now opt.SourcePort negated w h = refl
text_reason chains given now opt.DestinationPort negated w h = refl
text_reason chains given now opt.Interface negated w h = refl
text_reason chains given now opt.CtState negated w h = refl
text_reason chains given now opt.State negated w h = refl
text_reason chains given now opt.Comment negated w h = refl
text_reason chains given now opt.RejectWith negated w h = refl
text_reason chains given now opt.LogPrefix negated w h = refl
text_reason chains given now opt.LogLevel negated w h = refl

err_same : (w v : IptWhy) → ◌≡◌ {A = Result (PartialRule × Place) IptWhy} (Err w) (Err v) → w ≡ v
err_same w v h = cc

is_not_known : (name : List ℕ) (given : PartialRule) → option_of name ≡ None → IsInterface name → given.target ≢ None
is_not_known name given none is = let other = interface_is name is in cc

no_row : (name : List ℕ) (given : PartialRule) → option_of name ≡ None → (r : Row) → row_of name ≡ Some r → r.stands given ≡ false
no_row name given none r named = let at = row_found name r named in let other = at.1 in cc

some_option : (o p : RuleOption) → ◌≡◌ {A = Option RuleOption} (Some o) (Some p) → o ≡ p
some_option o p h = cc

misplaced_interface : (given : PartialRule) (name : List ℕ) (o : RuleOption) → option_of name ≡ Some o → is_allowed_here given o ≡ false → IsInterface name → given.target ≢ None
misplaced_interface given name o named wrong is free =
    let same : opt.Interface ≡ o = some_option opt.Interface o (sym (interface_is name is) ∙ named) in
    let stands : is_allowed_here given o ≡ true = sym (ap (is_allowed_here given) same) ∙ ap (λ (t : Option Target). is_none t) free in
    cc

misplaced_row : (given : PartialRule) (name : List ℕ) (o : RuleOption) → option_of name ≡ Some o → is_allowed_here given o ≡ false → (r : Row) → row_of name ≡ Some r → r.stands given ≡ false
misplaced_row given name o named wrong r found =
    let at = row_found name r found in
    let same : at.0 ≡ o = some_option at.0 o (sym at.1 ∙ named) in
    subst (λ (q : Row). q.stands given ≡ false) (sym at.3) (ap (is_allowed_here given) same ∙ wrong)

no_target : (o : Option Target) → is_none o ≡ true → o ≡ None
no_target None h = refl
no_target (Some t) h = cc

interface_stands : (given : PartialRule) (name : List ℕ) (o : RuleOption) → option_of name ≡ Some o → IsInterface name → is_allowed_here given o ≡ true → given.target ≡ None
interface_stands given name o named is here =
    let same : opt.Interface ≡ o = some_option opt.Interface o (sym (interface_is name is) ∙ named) in
    no_target given.target (ap (is_allowed_here given) same ∙ here)

stuck_by : (chains : List Chain) (given : PartialRule) (negated : Bool) (name : List ℕ) (ws : List (List ℕ)) (option : Option RuleOption) (why : IptWhy) → option_of name ≡ option → at_option given negated option ≡ Err why → HasOptionFaultAt chains given negated name ws why
stuck_by chains given negated name ws None why is h =
    subst (HasOptionFaultAt chains given negated name ws) (err_same UnknownOption why h) (unknown (is_not_known name given is) (no_row name given is))
stuck_by chains given negated name ws (Some o) why is h = elim (if_parts (not (is_allowed_here given o)) (Err UnknownOption) _ (Err why) h) [
  | inl bad ↦
      let wrong = not-true (is_allowed_here given o) bad.0 in
      subst (HasOptionFaultAt chains given negated name ws) (err_same UnknownOption why bad.1) (unknown (misplaced_interface given name o is wrong) (misplaced_row given name o is wrong))
  | inr here ↦ elim (if_parts (is_interface o) (Err AnInterface) _ (Err why) here.1) [
    | inl bad ↦
        subst (HasOptionFaultAt chains given negated name ws) (err_same AnInterface why bad.1)
        (interface (interface_by name o is bad.0) (interface_stands given name o is (interface_by name o is bad.0) (not-false (is_allowed_here given o) here.0)))
    | inr address ↦ elim (if_parts (bars given negated o) (Err BadLine) (Ok (given, AtValue o negated)) (Err why) address.1) [
      | inl bad ↦
          subst (HasOptionFaultAt chains given negated name ws) (err_same BadLine why bad.1)
          (barred (row o) (row_by name o is address.0) (not-false (is_allowed_here given o) here.0) bad.0)
      | inr fits ↦ let wrong = fits.1 in cc
    ]
  ]
]

no_bang : (given : PartialRule) (w : List ℕ) → is_bang given w ≡ false → given.target ≡ None → w ≢ codes "!"
no_bang given w other free = λ same. let is : is_bang given w ≡ true = ap (is_bang given) same ∙ bang_stands given free in cc

no_value_stuck : (chains : List Chain) (given : PartialRule) (negated : Bool) (name : List ℕ) (o : RuleOption) (ws : List (List ℕ)) → option_of name ≡ Some o → StandsBy given negated o → HasNoValue chains given o negated ws → HasOptionFaultAt chains given negated name ws (reason o ws)
no_value_stuck chains given negated name o [] named stands none = value_missing (row o) (stands_by given negated name o named stands)
no_value_stuck chains given negated name o (w ∷ ws) named stands none =
    bad_value (row o) (stands_by given negated name o named stands) (λ value rest now cut is. none value rest now cut (named_value named stands.address is))

-- A token that is rejected.
at_refusal : (chains : List Chain) (given : PartialRule) (place : Place) (w : List ℕ) (ws : List (List ℕ)) (why : IptWhy) → word_step chains given place w ≡ Err why → Lost chains given place (w ∷ ws) why
unfolding word_step
at_refusal chains given AtOption w ws why h = elim (if_parts (is_bang given w) (Ok (given, AfterBang)) (at_option given false (option_of w)) (Err why) h) [
  | inl bang ↦ let wrong = bang.1 in cc
  | inr option ↦ ([], w ∷ ws, given, refl, none_left, bare_option (no_bang given w option.0) (stuck_by chains given false w ws (option_of w) why refl option.1))
]
at_refusal chains given AfterBang w ws why h =
    λ free. ([], codes "!" ∷ w ∷ ws, given, refl, none_left, bang_option free (stuck_by chains given true w ws (option_of w) why refl h))
at_refusal chains given (AtValue o negated) w ws why h = by_said (with_value chains given o negated w) refl h
  where
    by_said : (said : Option (PartialRule × Place)) → with_value chains given o negated w ≡ said → ok_or said (value_refusal o) ≡ Err why → Lost chains given (AtValue o negated) (w ∷ ws) why
    by_said None is e = inr (no_value_of chains given o negated w ws is, sym (err_same (value_refusal o) why e))
    by_said (Some t) is e = cc
at_refusal chains given InText w ws why h = by_place (quoted false w) refl h
  where
    by_place : (said : Option Place) → quoted false w ≡ said → ok_or {T = PartialRule × Place} (option_map {T = Place} {U = PartialRule × Place} (λ place. (given, place)) said) BadValue ≡ Err why → Lost chains given InText (w ∷ ws) why
    by_place None is e = inr (no_rest_of w ws is, sym (err_same BadValue why e))
    by_place (Some place) is e = cc

-- A token that is accepted, before tokens at which parsing fails.
option_lost : (chains : List Chain) (given : PartialRule) (o : RuleOption) (w : List ℕ) (ws : List (List ℕ)) (why : IptWhy) → option_of w ≡ Some o → StandsBy given false o → (given.target ≡ None → w ≢ codes "!") → Lost chains given (AtValue o false) ws why → LostAt chains given (w ∷ ws) why
option_lost chains given o w ws why named stands bare (inl (value, rest, now, cut, is, lost)) =
    (w ∷ (value ++ lost.0), lost.1, lost.2, ap (λ vs. w ∷ vs) (cut ∙ ap (λ vs. value ++ vs) lost.3 ∙ sym (append_assoc value lost.0 lost.1)), one_more (plain_by named stands is) lost.4, lost.5)
option_lost chains given o w ws why named stands bare (inr (none, same)) =
    ([], w ∷ ws, given, refl, none_left, bare_option bare (subst (HasOptionFaultAt chains given false w ws) (sym same) (no_value_stuck chains given false w o ws named stands none)))

bang_lost : (chains : List Chain) (given : PartialRule) (o : RuleOption) (w : List ℕ) (ws : List (List ℕ)) (why : IptWhy) → option_of w ≡ Some o → StandsBy given true o → given.target ≡ None → Lost chains given (AtValue o true) ws why → LostAt chains given (codes "!" ∷ w ∷ ws) why
bang_lost chains given o w ws why named stands free (inl (value, rest, now, cut, is, lost)) =
    (codes "!" ∷ w ∷ (value ++ lost.0), lost.1, lost.2, ap (λ vs. codes "!" ∷ w ∷ vs) (cut ∙ ap (λ vs. value ++ vs) lost.3 ∙ sym (append_assoc value lost.0 lost.1)), one_more (turned_by free named stands is) lost.4, lost.5)
bang_lost chains given o w ws why named stands free (inr (none, same)) =
    ([], codes "!" ∷ w ∷ ws, given, refl, none_left, bang_option free (subst (HasOptionFaultAt chains given true w ws) (sym same) (no_value_stuck chains given true w o ws named stands none)))

value_lost : (chains : List Chain) (given now : PartialRule) (o : RuleOption) (negated : Bool) (w : List ℕ) (ws : List (List ℕ)) (why : IptWhy) → with_value chains given o negated w ≡ Some (now, InText) → Lost chains now InText ws why → Lost chains given (AtValue o negated) (w ∷ ws) why
value_lost chains given now o negated w ws why read (inl (front, rest, cut, is, lost)) =
    inl (w ∷ front, rest, now, ap (λ vs. w ∷ vs) cut, text o read is, lost)
value_lost chains given now o negated w ws why read (inr (none, same)) =
    inr (
      (λ value rest later cut is. no_value_text chains given now o negated w ws value rest later read none cut (value_taken chains given later o negated value is)),
      same ∙ sym (text_reason chains given now o negated w read),
    )

rest_lost : (chains : List Chain) (given : PartialRule) (w : List ℕ) (ws : List (List ℕ)) (why : IptWhy) → quoted false w ≡ Some InText → Lost chains given InText ws why → Lost chains given InText (w ∷ ws) why
rest_lost chains given w ws why read (inl (front, rest, cut, is, lost)) =
    inl (w ∷ front, rest, ap (λ vs. w ∷ vs) cut, open_still (text_open w read) is, lost)
rest_lost chains given w ws why read (inr (none, same)) = inr (no_rest_more w ws read none, same)

at_lost : (chains : List Chain) (given : PartialRule) (place : Place) (w : List ℕ) (ws : List (List ℕ)) (t : PartialRule × Place) (why : IptWhy) → word_step chains given place w ≡ Ok t → Lost chains t.0 t.1 ws why → Lost chains given place (w ∷ ws) why
unfolding word_step
at_lost chains given AtOption w ws t why step lost = elim (if_parts (is_bang given w) (Ok (given, AfterBang)) (at_option given false (option_of w)) (Ok t) step) [
  | inl bang ↦
      let parts = bang_parts given w bang.0 in
      let e : ◌≡◌ {A = PartialRule × Place} (given, AfterBang) t = cc in
      subst (λ (v : List ℕ). LostAt chains given (v ∷ ws) why) (sym parts.1) (subst (λ (p : PartialRule × Place). Lost chains p.0 p.1 ws why) (sym e) lost parts.0)
  | inr option ↦
      let at = option_at given false (option_of w) t option.1 in
      option_lost chains given at.0 w ws why at.1 at.2.stands (no_bang given w option.0) (subst (λ (p : PartialRule × Place). Lost chains p.0 p.1 ws why) at.2.behind lost)
]
at_lost chains given AfterBang w ws t why step lost =
    let at = option_at given true (option_of w) t step in
    λ free. bang_lost chains given at.0 w ws why at.1 at.2.stands free (subst (λ (p : PartialRule × Place). Lost chains p.0 p.1 ws why) at.2.behind lost)
at_lost chains given (AtValue o negated) w ws t why step lost =
    let said : with_value chains given o negated w ≡ Some (t.0, t.1) = said_of (with_value chains given o negated w) step in
    elim (value_place chains given t.0 o negated w t.1 said) [
      | inl option ↦ inl (w ∷ [], ws, t.0, refl, one_word o (said ∙ ap (λ p. Some (t.0, p)) option), subst (λ (p : Place). Lost chains t.0 p ws why) option lost)
      | inr behind ↦ value_lost chains given t.0 o negated w ws why (said ∙ ap (λ p. Some (t.0, p)) behind) (subst (λ (p : Place). Lost chains t.0 p ws why) behind lost)
    ]
  where
    said_of : (said : Option (PartialRule × Place)) → ok_or said (value_refusal o) ≡ Ok t → said ≡ Some (t.0, t.1)
    said_of None e = cc
    said_of (Some p) e = cc
at_lost chains given InText w ws t why step lost = by_place (quoted false w) refl step
  where
    by_place : (said : Option Place) → quoted false w ≡ said → ok_or {T = PartialRule × Place} (option_map {T = Place} {U = PartialRule × Place} (λ place. (given, place)) said) BadValue ≡ Ok t → Lost chains given InText (w ∷ ws) why
    by_place None is e = cc
    by_place (Some place) is e =
        let pair : ◌≡◌ {A = PartialRule × Place} (given, place) t = cc in
        let there = subst (λ (p : PartialRule × Place). Lost chains p.0 p.1 ws why) (sym pair) lost in
        elim (quoted_place false w place is) [
          | inl option ↦ inl (w ∷ [], ws, refl, rest_ends (text_ends w (is ∙ ap (λ p. Some p) option)), subst (λ (p : Place). Lost chains given p ws why) option there)
          | inr behind ↦ rest_lost chains given w ws why (is ∙ ap (λ p. Some p) behind) (subst (λ (p : Place). Lost chains given p ws why) behind there)
        ]

err_given : (w v : IptWhy) → ◌≡◌ {A = Result PartialRule IptWhy} (Err w) (Err v) → w ≡ v
err_given w v h = cc

lost_by : (chains : List Chain) (given : PartialRule) (place : Place) (w : List ℕ) (ws : List (List ℕ)) (why : IptWhy) (r : Result (PartialRule × Place) IptWhy) → word_step chains given place w ≡ r → ((t : PartialRule × Place) → word_by_word chains t.0 t.1 ws ≡ Err why → Lost chains t.0 t.1 ws why) → goes_on r (λ t. word_by_word chains t.0 t.1 ws) ≡ Err why → Lost chains given place (w ∷ ws) why
lost_by chains given place w ws why (Err cause) is later h = at_refusal chains given place w ws why (is ∙ ap (λ e. Err e) (err_given cause why h))
lost_by chains given place w ws why (Ok t) is later h = at_lost chains given place w ws t why is (later t h)

lost : (chains : List Chain) (given : PartialRule) (place : Place) (ws : List (List ℕ)) (why : IptWhy) → word_by_word chains given place ws ≡ Err why → Lost chains given place ws why
lost chains given AtOption [] why h = cc
lost chains given AfterBang [] why h = λ free. ([], codes "!" ∷ [], given, refl, none_left, subst (IsStuck chains given (codes "!" ∷ [])) (err_given BadLine why h) (bang_last free))
lost chains given (AtValue o negated) [] why h = inr (no_value_at_end chains given o negated, sym (err_given BadValue why h))
lost chains given InText [] why h = inr (no_rest_at_end, sym (err_given BadValue why h))
lost chains given place (w ∷ ws) why h = lost_by chains given place w ws why (word_step chains given place w) refl (λ t. lost chains t.0 t.1 ws why) h

pub stuck_of_read : (chains : List Chain) (given : PartialRule) (ws : List (List ℕ)) (why : IptWhy) → word_by_word chains given AtOption ws ≡ Err why → LostAt chains given ws why
stuck_of_read chains given ws why h = lost chains given AtOption ws why h

-- 2. If parsing fails by the format, the parser rejects.

pieces_read : (chains : List Chain) (given last : PartialRule) (read rest : List (List ℕ)) → AreOptionWords chains given read last → word_by_word chains given AtOption (read ++ rest) ≡ word_by_word chains last AtOption rest
pieces_read chains given last read rest none_left = refl
pieces_read chains given last read rest (one_more {now = now} {ws = front} {vs = vs} piece others) =
    ap (word_by_word chains given AtOption) (append_assoc front vs rest) ∙ piece_read chains given now front (vs ++ rest) piece ∙ pieces_read chains now last vs rest others

value_refused : (chains : List Chain) (given : PartialRule) (o : RuleOption) (negated : Bool) (w : List ℕ) (ws : List (List ℕ)) (r : Result PartialRule IptWhy) → HasNoValue chains given o negated (w ∷ ws) → word_by_word chains given (AtValue o negated) (w ∷ ws) ≡ r → r ≡ Err (value_refusal o)
value_refused chains given o negated w ws (Ok last) none is =
    let left = pieces_left chains given last (AtValue o negated) (w ∷ ws) is in
    absurd (none left.0 left.1 left.2 left.3 left.4)
value_refused chains given o negated w ws (Err why) none is = elim (lost chains given (AtValue o negated) (w ∷ ws) why is) [
  | inl value ↦ absurd (none value.0 value.1 value.2 value.3 value.4)
  | inr reason_is ↦ ap (λ e. Err e) reason_is.1
]

-- If a row is misplaced, so is its option.
misplaced_read : (given : PartialRule) (negated : Bool) (name : List ℕ) (option : Option RuleOption) → option_of name ≡ option → (IsInterface name → given.target ≢ None)
    → ((r : Row) → row_of name ≡ Some r → r.stands given ≡ false) → at_option given negated option ≡ Err UnknownOption
misplaced_read given negated name None is apart misplaced = refl
misplaced_read given negated name (Some o) is apart misplaced = by_test (is_interface o) (is_allowed_here given o) refl refl
  where
    by_test : (i m : Bool) → is_interface o ≡ i → is_allowed_here given o ≡ m → at_option given negated (Some o) ≡ Err UnknownOption
    by_test true true address here = let its = interface_by name o is address in absurd (apart its (interface_stands given name o is its here))
    by_test false true address here = let wrong : is_allowed_here given o ≡ false = misplaced (row o) (row_by name o is address) in cc
    by_test i false address here = rw here refl

interface_at : (given : PartialRule) (negated : Bool) → given.target ≡ None → at_option given negated (Some opt.Interface) ≡ Err AnInterface
interface_at given negated free = rw free refl

barred_at : (given : PartialRule) (negated : Bool) (name : List ℕ) (r : Row) → row_of name ≡ Some r → r.stands given ≡ true → is_repeated_or_negated given negated r ≡ true → at_option given negated (option_of name) ≡ Err BadLine
barred_at given negated name r named here bar =
    let at = row_found name r named in
    let its : is_allowed_here given at.0 ≡ true = subst (λ (q : Row). q.stands given ≡ true) at.3 here in
    let own : bars given negated at.0 ≡ true = subst (λ (q : Row). is_repeated_or_negated given negated q ≡ true) at.3 bar in
    ap (at_option given negated) at.1 ∙ rw (its, at.2, own) refl

missing_read : (chains : List Chain) (given : PartialRule) (negated : Bool) (name : List ℕ) (r : Row) → Stands given negated name r → goes_on (at_option given negated (option_of name)) (λ t. word_by_word chains t.0 t.1 []) ≡ Err BadValue
missing_read chains given negated name r stands =
    let at = by_stands given negated name r stands in
    ap (λ (o : Option RuleOption). goes_on (at_option given negated o) (λ t. word_by_word chains t.0 t.1 [])) at.1 ∙ rw (stands_at given negated at.0 at.2) refl

bad_value_read : (chains : List Chain) (given : PartialRule) (negated : Bool) (name w : List ℕ) (ws : List (List ℕ)) (r : Row) → Stands given negated name r
    → ((value rest : List (List ℕ)) (now : PartialRule) → w ∷ ws ≡ value ++ rest → IsValue chains given negated name value now → ⊥)
    → goes_on (at_option given negated (option_of name)) (λ t. word_by_word chains t.0 t.1 (w ∷ ws)) ≡ Err r.refusal
bad_value_read chains given negated name w ws r stands none =
    let at = by_stands given negated name r stands in
    let none_by : HasNoValue chains given at.0 negated (w ∷ ws) = λ value rest now cut is. none value rest now cut (value_named at.1 at.2.address is) in
    ap (λ (o : Option RuleOption). goes_on (at_option given negated o) (λ t. word_by_word chains t.0 t.1 (w ∷ ws))) at.1
    ∙ ap (λ (s : Result (PartialRule × Place) IptWhy). goes_on s (λ t. word_by_word chains t.0 t.1 (w ∷ ws))) (stands_at given negated at.0 at.2)
    ∙ value_refused chains given at.0 negated w ws (word_by_word chains given (AtValue at.0 negated) (w ∷ ws)) none_by refl
    ∙ ap (λ (q : Row). Err q.refusal) (sym at.3)

stuck_step : (chains : List Chain) (given : PartialRule) (negated : Bool) (name : List ℕ) (ws : List (List ℕ)) (why : IptWhy) → HasOptionFaultAt chains given negated name ws why → goes_on (at_option given negated (option_of name)) (λ t. word_by_word chains t.0 t.1 ws) ≡ Err why
stuck_step chains given negated name ws why (interface is free) = rw (interface_is name is, interface_at given negated free) refl
stuck_step chains given negated name ws why (unknown apart misplaced) = rw (misplaced_read given negated name (option_of name) refl apart misplaced) refl
stuck_step chains given negated name ws why (barred r named here bar) = rw (barred_at given negated name r named here bar) refl
stuck_step chains given negated name ws why (value_missing r stands) = missing_read chains given negated name r stands
stuck_step chains given negated name ws why (bad_value {w = w} {ws = vs} r stands none) = bad_value_read chains given negated name w vs r stands none

not_bang : (given : PartialRule) (name : List ℕ) → (given.target ≡ None → name ≢ codes "!") → is_bang given name ≡ false
not_bang given name bare = split_bool (is_bang given name) (λ is. let parts = bang_parts given name is in absurd (bare parts.0 parts.1)) (λ other. other)

stuck_read : (chains : List Chain) (given : PartialRule) (ws : List (List ℕ)) (why : IptWhy) → IsStuck chains given ws why → word_by_word chains given AtOption ws ≡ Err why
unfolding word_step
stuck_read chains given ws why (bare_option {name = name} {ws = vs} bare is) = rw (not_bang given name bare) (stuck_step chains given false name vs why is)
stuck_read chains given ws why (bang_option {name = name} {ws = vs} free is) = rw (bang_stands given free) (stuck_step chains given true name vs why is)
stuck_read chains given ws why (bang_last free) = rw (bang_stands given free) refl

pub read_of_stuck : (chains : List Chain) (given last : PartialRule) (read rest : List (List ℕ)) (why : IptWhy) → AreOptionWords chains given read last → IsStuck chains last rest why → word_by_word chains given AtOption (read ++ rest) ≡ Err why
read_of_stuck chains given last read rest why pieces is = pieces_read chains given last read rest pieces ∙ stuck_read chains last rest why is
