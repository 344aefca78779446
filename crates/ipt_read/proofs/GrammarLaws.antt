-- The values of options in `Grammar` agree with the steps of the parser.
use Rattle.std.proofs.Common.{◌≡◌, ℕ, ◌∙◌, sym, ap, refl, subst, inl, inr, ◌⊎◌, ◌≤◌, Bool, true, false, List, [], ◌∷◌, Option, Some, None, arith}
use Rattle.std.specs.Prelude.{◌==◌, nat_lt, codes, bytes_eq}
use Rattle.std.specs.Option.{option_map, option_or}
use Rattle.std.proofs.lemmas.Bool.{and_parts, and_from}
use Rattle.std.proofs.lemmas.Bool.Decides.{nat_tests}
use Rattle.text_core.specs.Lines.{begins_with}
use Rattle.text_core.proofs.StepsLaws.{if_parts, map_parts, bytes_same, bytes_own}
use Rattle.host_net.specs.Prefix.{prefix_of}
use Rattle.host_net.specs.Service.{tcp, udp, has_ports}
use Rattle.host_net.specs.ServiceText.{protocol_text}
use Rattle.host_net.proofs.PrefixTextLaws.{prefix_of-read, prefix_of-spelled, prefix_of-fits}
use Rattle.ipt_rules.specs.declared.rule.ProtoMatch.{ProtoMatch}
use Rattle.ipt_rules.specs.declared.rule.Target.{Target}
use Rattle.ipt_rules.specs.declared.rule.Target.TheVariants.{Jump as JumpsTo}
use Rattle.ipt_rules.specs.Chain.{Chain, number_of}
use Rattle.ipt_rules.specs.RuleParts.{names_ports}
use Rattle.ipt_rules.proofs.TextLaws.{which_has_ports}
use Rattle.ipt_read.specs.declared.option.RuleOption.{RuleOption}
use Rattle.ipt_read.specs.declared.option.RuleOption.TheVariants.{Source, Destination, Protocol, SourcePort, DestinationPort, Interface, Module, CtState, State, Comment, Jump, RejectWith, LogPrefix, LogLevel}
use Rattle.ipt_read.specs.declared.option.Place.{Place}
use Rattle.ipt_read.specs.declared.option.Place.TheVariants.{AtOption, InText}
use Rattle.ipt_read.specs.Options.{PartialRule, named_target}
use Rattle.ipt_read.specs.inner.OptionSteps.{option_of, target_of, jump_to, with_module, is_own_module}
use Rattle.ipt_read.specs.inner.ServiceSteps.{asked_protocol, asked_ports}
use Rattle.ipt_read.proofs.RowLaws.{IsValueOf, option_written}
use Rattle.ipt_read.proofs.ServiceValueLaws.{protocol_said, protocol_read, ports_said, ports_read}
use Rattle.ipt_read.proofs.StateLaws.{states_said, said_states}
use Rattle.ipt_read.proofs.ValueLaws.{rest_ends, text_ends, ends_text, text_open, open_text}
use Rattle.ipt_read.specs.inner.ValueSteps.{quoted, text_of, states_of, with_value}
use Rattle.ipt_read.specs.Values.{IsRestOfText, closing, open_still, IsText, bare, in_quotes}
use Rattle.ipt_read.specs.Grammar.{IsValue, source, destination, protocol, source_port, destination_port, conntrack_module, state_module, comment_module, own_module, states, target, jump, a_text, a_word}

-- 1. Strings.

quote_is : (b : ℕ) → (b == 34) ≡ true → b ≡ 34
quote_is b h = grind (arith, nat_tests)

in_one_word : (w : List ℕ) → text_of w ≡ Some AtOption → IsText (w ∷ [])
unfolding text_of
in_one_word [] h = bare refl
in_one_word (b ∷ bs) h = elim (if_parts (b == 34) (quoted false bs) (Some AtOption) (Some AtOption) h) [
  | inl mark ↦ subst (λ (a : ℕ). IsText ((a ∷ bs) ∷ [])) (sym (quote_is b mark.0)) (in_quotes (rest_ends (text_ends bs mark.1)))
  | inr byte ↦ bare byte.0
]

in_more_words : (w : List ℕ) (ws : List (List ℕ)) → text_of w ≡ Some InText → IsRestOfText ws → IsText (w ∷ ws)
unfolding text_of
in_more_words [] ws h rest = cc
in_more_words (b ∷ bs) ws h rest = elim (if_parts (b == 34) (quoted false bs) (Some AtOption) (Some InText) h) [
  | inl mark ↦ subst (λ (a : ℕ). IsText ((a ∷ bs) ∷ ws)) (sym (quote_is b mark.0)) (in_quotes (open_still (text_open bs mark.1) rest))
  | inr byte ↦ cc
]

bare_step : (w : List ℕ) → begins_with 34 w ≡ false → text_of w ≡ Some AtOption
unfolding text_of
bare_step [] h = refl
bare_step (b ∷ bs) h = rw h refl

quoted_step : (w : List ℕ) (place : Place) → quoted false w ≡ Some place → text_of (34 ∷ w) ≡ Some place
unfolding text_of
quoted_step w place h = h

-- 2. Each value that a step accepts is valid.

pair_said : {A : Type 0} (P : PartialRule → Type 0) (f : A → PartialRule × Place) (o : Option A) (now : PartialRule × Place) → ((x : A) → o ≡ Some x → P (f x).0) → option_map f o ≡ Some now → P now.0
pair_said P f o now each h =
    let parts = map_parts f o now h in
    subst (λ (p : PartialRule × Place). P p.0) parts.2 (each parts.0 parts.1)

text_said : (given : PartialRule) (word : List ℕ) (now : PartialRule) (place : Place) → option_map {T = Place} {U = PartialRule × Place} (λ p. (given, p)) (text_of word) ≡ Some (now, place) → (text_of word ≡ Some place) × (given ≡ now)
text_said given word now place h =
    let parts = map_parts {B = PartialRule × Place} (λ p. (given, p)) (text_of word) (now, place) h in
    (parts.1 ∙ ap (λ (r : PartialRule × Place). Some r.1) parts.2, ap (λ (r : PartialRule × Place). r.0) parts.2)

same_given : (given now : PartialRule) → ◌≡◌ {A = Option (PartialRule × Place)} (Some (given, AtOption)) (Some (now, AtOption)) → given ≡ now
same_given given now h = let e : ◌≡◌ {A = PartialRule × Place} (given, AtOption) (now, AtOption) = cc in ap (λ (r : PartialRule × Place). r.0) e

some_given : (given now : PartialRule) → ◌≡◌ {A = Option PartialRule} (Some given) (Some now) → given ≡ now
some_given given now h = cc

module_named : (chains : List Chain) (given now : PartialRule) (negated : Bool) (w name : List ℕ) → w ≡ name → IsValueOf chains given Module negated (name ∷ []) now
    → IsValueOf chains given Module negated (w ∷ []) now
module_named chains given now negated w name same is = subst (λ (v : List ℕ). IsValueOf chains given Module negated (v ∷ []) now) (sym same) is

own_said : (chains : List Chain) (given : PartialRule) (negated : Bool) (w : List ℕ) (o : Option ProtoMatch) → given.rule.proto ≡ o → is_own_module o w ≡ true
    → IsValueOf chains given Module negated (w ∷ []) (record given { ports = true })
own_said chains given negated w None said own = cc
own_said chains given negated w (Some part) said own =
    let parts = and_parts (names_ports (Some part)) (bytes_eq w (protocol_text part.proto)) own in
    module_named chains given _ negated w (protocol_text part.proto) (bytes_same w (protocol_text part.proto) parts.1) (own_module part said parts.0)

module_said : (chains : List Chain) (given now : PartialRule) (negated : Bool) (w : List ℕ) → with_module given w ≡ Some now → IsValueOf chains given Module negated (w ∷ []) now
unfolding with_module
module_said chains given now negated w h = elim (if_parts (bytes_eq w (codes "conntrack")) (Some (record given { conntrack = true })) _ (Some now) h) [
  | inl is ↦ subst (λ (g : PartialRule). IsValueOf chains given Module negated (w ∷ []) g) (some_given _ now is.1) (module_named chains given _ negated w (codes "conntrack") (bytes_same w (codes "conntrack") is.0) conntrack_module)
  | inr a ↦ elim (if_parts (bytes_eq w (codes "state")) (Some (record given { states = true })) _ (Some now) a.1) [
    | inl is ↦ subst (λ (g : PartialRule). IsValueOf chains given Module negated (w ∷ []) g) (some_given _ now is.1) (module_named chains given _ negated w (codes "state") (bytes_same w (codes "state") is.0) state_module)
    | inr b ↦ elim (if_parts (bytes_eq w (codes "comment")) (Some (record given { comments = true })) _ (Some now) b.1) [
      | inl is ↦ subst (λ (g : PartialRule). IsValueOf chains given Module negated (w ∷ []) g) (some_given _ now is.1) (module_named chains given _ negated w (codes "comment") (bytes_same w (codes "comment") is.0) comment_module)
      | inr d ↦ elim (if_parts (is_own_module given.rule.proto w) (Some (record given { ports = true })) None (Some now) d.1) [
        | inl is ↦ subst (λ (g : PartialRule). IsValueOf chains given Module negated (w ∷ []) g) (some_given _ now is.1) (own_said chains given negated w given.rule.proto refl is.0)
        | inr bad ↦ cc
      ]
    ]
  ]
]

jump_said : (chains : List Chain) (given : PartialRule) (negated : Bool) (w : List ℕ) (t : Target) (o : Option ℕ) → named_target w ≡ None → number_of chains w ≡ o → jump_to o ≡ Some t
    → IsValueOf chains given Jump negated (w ∷ []) (record given { target = Some t })
jump_said chains given negated w t None none number h = cc
jump_said chains given negated w t (Some c) none number h = elim (if_parts (nat_lt c 3) None (Some (JumpsTo c)) (Some t) h) [
  | inl low ↦ cc
  | inr high ↦
      let e : JumpsTo c ≡ t = cc in
      let up : 3 ≤ c = grind (arith, nat_tests, high.0) in
      subst (λ (u : Target). IsValueOf chains given Jump negated (w ∷ []) (record given { target = Some u })) e (jump c none number up)
]

named_said : (chains : List Chain) (given : PartialRule) (negated : Bool) (w : List ℕ) (t : Target) (o : Option Target) → named_target w ≡ o → option_or o (jump_to (number_of chains w)) ≡ Some t
    → IsValueOf chains given Jump negated (w ∷ []) (record given { target = Some t })
named_said chains given negated w t None none h = jump_said chains given negated w t (number_of chains w) none refl h
named_said chains given negated w t (Some u) there h = let e : u ≡ t = cc in target t (there ∙ ap (λ v. Some v) e)

target_said : (chains : List Chain) (given : PartialRule) (negated : Bool) (w : List ℕ) (t : Target) → target_of chains w ≡ Some t → IsValueOf chains given Jump negated (w ∷ []) (record given { target = Some t })
unfolding target_of
target_said chains given negated w t h = named_said chains given negated w t (named_target w) refl h

word_said : (chains : List Chain) (given now : PartialRule) (o : RuleOption) (negated : Bool) (w : List ℕ) → with_value chains given o negated w ≡ Some (now, AtOption) → IsValueOf chains given o negated (w ∷ []) now
unfolding with_value
word_said chains given now Source negated w h =
    pair_said (λ g. IsValueOf chains given Source negated (w ∷ []) g) _ (prefix_of w) (now, AtOption) (λ p e. source p (prefix_of-fits w p e) (prefix_of-spelled w p e)) h
word_said chains given now Destination negated w h =
    pair_said (λ g. IsValueOf chains given Destination negated (w ∷ []) g) _ (prefix_of w) (now, AtOption) (λ p e. destination p (prefix_of-fits w p e) (prefix_of-spelled w p e)) h
word_said chains given now Protocol negated w h =
    pair_said (λ g. IsValueOf chains given Protocol negated (w ∷ []) g) _ (asked_protocol w) (now, AtOption) (λ proto e. protocol proto (protocol_said w proto e)) h
word_said chains given now SourcePort negated w h =
    pair_said (λ g. IsValueOf chains given SourcePort negated (w ∷ []) g) _ (asked_ports w) (now, AtOption) (λ ports e. source_port ports.0 ports.1 (ports_said w ports e)) h
word_said chains given now DestinationPort negated w h =
    pair_said (λ g. IsValueOf chains given DestinationPort negated (w ∷ []) g) _ (asked_ports w) (now, AtOption) (λ ports e. destination_port ports.0 ports.1 (ports_said w ports e)) h
word_said chains given now Interface negated w h = cc
word_said chains given now Module negated w h =
    pair_said (λ g. IsValueOf chains given Module negated (w ∷ []) g) _ (with_module given w) (now, AtOption) (λ g e. module_said chains given g negated w e) h
word_said chains given now CtState negated w h =
    pair_said (λ g. IsValueOf chains given CtState negated (w ∷ []) g) _ (states_of w) (now, AtOption) (λ flags e. states flags.0 flags.1 (inl refl) (states_said w flags.0 flags.1 e)) h
word_said chains given now State negated w h =
    pair_said (λ g. IsValueOf chains given State negated (w ∷ []) g) _ (states_of w) (now, AtOption) (λ flags e. states flags.0 flags.1 (inr refl) (states_said w flags.0 flags.1 e)) h
word_said chains given now Comment negated w h =
    let said = text_said given w now AtOption h in
    subst (λ (g : PartialRule). IsValueOf chains given Comment negated (w ∷ []) g) said.1 (a_text (inl refl) (in_one_word w said.0))
word_said chains given now Jump negated w h =
    pair_said (λ g. IsValueOf chains given Jump negated (w ∷ []) g) _ (target_of chains w) (now, AtOption) (λ t e. target_said chains given negated w t e) h
word_said chains given now RejectWith negated w h =
    subst (λ (g : PartialRule). IsValueOf chains given RejectWith negated (w ∷ []) g) (same_given given now h) (a_word (inl refl))
word_said chains given now LogPrefix negated w h =
    let said = text_said given w now AtOption h in
    subst (λ (g : PartialRule). IsValueOf chains given LogPrefix negated (w ∷ []) g) said.1 (a_text (inr refl) (in_one_word w said.0))
word_said chains given now LogLevel negated w h =
    subst (λ (g : PartialRule). IsValueOf chains given LogLevel negated (w ∷ []) g) (same_given given now h) (a_word (inr refl))

pub never_open : {A : Type 0} (f : A → PartialRule × Place) (o : Option A) (now : PartialRule) → ((x : A) → (f x).1 ≡ AtOption) → option_map f o ≡ Some (now, InText) → ⊥
never_open f o now each h =
    let parts = map_parts f o (now, InText) h in
    let place : AtOption ≡ InText = sym (each parts.0) ∙ ap (λ (r : PartialRule × Place). r.1) parts.2 in
    cc

not_open : (given now : PartialRule) → ◌≡◌ {A = Option (PartialRule × Place)} (Some (given, AtOption)) (Some (now, InText)) → ⊥
not_open given now h =
    let e : ◌≡◌ {A = PartialRule × Place} (given, AtOption) (now, InText) = cc in
    let place : AtOption ≡ InText = ap (λ (r : PartialRule × Place). r.1) e in
    cc

words_said : (chains : List Chain) (given now : PartialRule) (o : RuleOption) (negated : Bool) (w : List ℕ) (ws : List (List ℕ)) → with_value chains given o negated w ≡ Some (now, InText) → IsRestOfText ws → IsValueOf chains given o negated (w ∷ ws) now
unfolding with_value
words_said chains given now Source negated w ws h rest = absurd (never_open _ (prefix_of w) now (λ x. refl) h)
words_said chains given now Destination negated w ws h rest = absurd (never_open _ (prefix_of w) now (λ x. refl) h)
words_said chains given now Protocol negated w ws h rest = absurd (never_open _ (asked_protocol w) now (λ x. refl) h)
words_said chains given now SourcePort negated w ws h rest = absurd (never_open _ (asked_ports w) now (λ x. refl) h)
words_said chains given now DestinationPort negated w ws h rest = absurd (never_open _ (asked_ports w) now (λ x. refl) h)
words_said chains given now Interface negated w ws h rest = cc
words_said chains given now Module negated w ws h rest = absurd (never_open _ (with_module given w) now (λ x. refl) h)
words_said chains given now CtState negated w ws h rest = absurd (never_open _ (states_of w) now (λ x. refl) h)
words_said chains given now State negated w ws h rest = absurd (never_open _ (states_of w) now (λ x. refl) h)
words_said chains given now Comment negated w ws h rest =
    let said = text_said given w now InText h in
    subst (λ (g : PartialRule). IsValueOf chains given Comment negated (w ∷ ws) g) said.1 (a_text (inl refl) (in_more_words w ws said.0 rest))
words_said chains given now Jump negated w ws h rest = absurd (never_open _ (target_of chains w) now (λ x. refl) h)
words_said chains given now RejectWith negated w ws h rest = absurd (not_open given now h)
words_said chains given now LogPrefix negated w ws h rest =
    let said = text_said given w now InText h in
    subst (λ (g : PartialRule). IsValueOf chains given LogPrefix negated (w ∷ ws) g) said.1 (a_text (inr refl) (in_more_words w ws said.0 rest))
words_said chains given now LogLevel negated w ws h rest = absurd (not_open given now h)

pub one_word : {chains : List Chain} {given now : PartialRule} (o : RuleOption) {negated : Bool} {w : List ℕ} → with_value chains given o negated w ≡ Some (now, AtOption) → IsValueOf chains given o negated (w ∷ []) now
one_word {chains = chains} {given = given} {now = now} o {negated = negated} {w = w} h = word_said chains given now o negated w h

pub text : {chains : List Chain} {given now : PartialRule} (o : RuleOption) {negated : Bool} {w : List ℕ} {ws : List (List ℕ)} → with_value chains given o negated w ≡ Some (now, InText) → IsRestOfText ws → IsValueOf chains given o negated (w ∷ ws) now
text {chains = chains} {given = given} {now = now} o {negated = negated} {w = w} {ws = ws} h rest = words_said chains given now o negated w ws h rest

-- 3. Each valid value is accepted by the steps.

pub data IsTaken (chains : List Chain) (given : PartialRule) (o : RuleOption) (negated : Bool) : List (List ℕ) → PartialRule → Type 0 where
  taken_word : {w : List ℕ} {now : PartialRule} → with_value chains given o negated w ≡ Some (now, AtOption) → IsTaken chains given o negated (w ∷ []) now
  taken_text : {w : List ℕ} {ws : List (List ℕ)} {now : PartialRule} → with_value chains given o negated w ≡ Some (now, InText)
      → IsRestOfText ws → IsTaken chains given o negated (w ∷ ws) now

abbrev TakesText : List Chain → PartialRule → RuleOption → Bool → Type 0
TakesText chains given o negated = (w : List ℕ) (place : Place) → text_of w ≡ Some place → with_value chains given o negated w ≡ Some (given, place)

quotes_taken : (chains : List Chain) (given : PartialRule) (o : RuleOption) (negated : Bool) (w : List ℕ) (ws vs : List (List ℕ)) → TakesText chains given o negated → vs ≡ w ∷ ws → IsRestOfText vs → IsTaken chains given o negated ((34 ∷ w) ∷ ws) given
quotes_taken chains given o negated w ws vs takes same (closing {w = v} inside is written) =
    let first : v ≡ w = cc in
    let others : [] ≡ ws = cc in
    subst (λ (us : List (List ℕ)). IsTaken chains given o negated ((34 ∷ w) ∷ us) given) others
    (taken_word (takes (34 ∷ w) AtOption (quoted_step w AtOption (ap (quoted false) (sym first) ∙ ends_text v inside is written))))
quotes_taken chains given o negated w ws vs takes same (open_still {w = v} {ws = us} is rest) =
    let first : v ≡ w = cc in
    let others : us ≡ ws = cc in
    taken_text (takes (34 ∷ w) InText (quoted_step w InText (ap (quoted false) (sym first) ∙ open_text v is))) (subst IsRestOfText others rest)

text_taken : (chains : List Chain) (given : PartialRule) (o : RuleOption) (negated : Bool) (ws : List (List ℕ)) → TakesText chains given o negated → IsText ws → IsTaken chains given o negated ws given
text_taken chains given o negated ws takes (bare {w = w} other) = taken_word (takes w AtOption (bare_step w other))
text_taken chains given o negated ws takes (in_quotes {w = w} {ws = vs} rest) = quotes_taken chains given o negated w vs (w ∷ vs) takes refl rest

comment_takes : (chains : List Chain) (given : PartialRule) (negated : Bool) → TakesText chains given Comment negated
unfolding with_value
comment_takes chains given negated w place h = rw h refl

prefix_takes : (chains : List Chain) (given : PartialRule) (negated : Bool) → TakesText chains given LogPrefix negated
unfolding with_value
prefix_takes chains given negated w place h = rw h refl

-- The module of a protocol.
abbrev OtherNames : ℕ → Type 0
OtherNames proto =
    (bytes_eq (protocol_text proto) (codes "conntrack") ≡ false) × (bytes_eq (protocol_text proto) (codes "state") ≡ false) × (bytes_eq (protocol_text proto) (codes "comment") ≡ false)

other_names : (proto : ℕ) → (proto ≡ tcp) ⊎ (proto ≡ udp) → OtherNames proto
other_names proto (inl is) = subst OtherNames (sym is) (refl, refl, refl)
other_names proto (inr is) = subst OtherNames (sym is) (refl, refl, refl)

own_named : (part : ProtoMatch) (o : Option ProtoMatch) → o ≡ Some part → names_ports (Some part) ≡ true → is_own_module o (protocol_text part.proto) ≡ true
own_named part o said names =
    ap (λ (p : Option ProtoMatch). is_own_module p (protocol_text part.proto)) said
    ∙ and_from (names_ports (Some part)) (bytes_eq (protocol_text part.proto) (protocol_text part.proto)) names (bytes_own (protocol_text part.proto))

pub with_own_module : (given : PartialRule) (part : ProtoMatch) → given.rule.proto ≡ Some part → names_ports (Some part) ≡ true → with_module given (protocol_text part.proto) ≡ Some (record given { ports = true })
unfolding with_module
with_own_module given part said names =
    let others = other_names part.proto (which_has_ports part.proto (and_parts _ (has_ports part.proto) names).1) in
    rw (others.0, others.1, others.2, own_named part given.rule.proto said names) refl

jump_read : (chains : List Chain) (w : List ℕ) (c : ℕ) → named_target w ≡ None → number_of chains w ≡ Some c → 3 ≤ c → target_of chains w ≡ Some (JumpsTo c)
unfolding target_of
jump_read chains w c none number up =
    let high : nat_lt c 3 ≡ false = grind (arith, nat_tests) in
    rw (none, number, high) refl

target_read : (chains : List Chain) (w : List ℕ) (t : Target) → named_target w ≡ Some t → target_of chains w ≡ Some t
unfolding target_of
target_read chains w t there = rw there refl

taken_as : {chains : List Chain} {given now : PartialRule} {negated : Bool} {ws : List (List ℕ)} {p : RuleOption} (o : RuleOption) → ◌≡◌ {A = Option RuleOption} (Some p) (Some o) → IsTaken chains given p negated ws now → IsTaken chains given o negated ws now
taken_as {chains = chains} {given = given} {now = now} {negated = negated} {ws = ws} {p = p} o h is = let same : p ≡ o = cc in subst (λ (q : RuleOption). IsTaken chains given q negated ws now) same is

taken_by : (chains : List Chain) (given now : PartialRule) (o : RuleOption) (negated : Bool) (name : List ℕ) (ws : List (List ℕ)) → option_of name ≡ Some o → IsValue chains given negated name ws now → IsTaken chains given o negated ws now
unfolding option_of with_value with_module
taken_by chains given now o negated name ws named (source {w = w} p fits spelled) = taken_as {p = Source} o named (taken_word (rw (prefix_of-read w p fits spelled) refl))
taken_by chains given now o negated name ws named (destination {w = w} p fits spelled) = taken_as {p = Destination} o named (taken_word (rw (prefix_of-read w p fits spelled) refl))
taken_by chains given now o negated name ws named (protocol {w = w} proto is) = taken_as {p = Protocol} o named (taken_word (rw (protocol_read w proto is) refl))
taken_by chains given now o negated name ws named (source_port {w = w} low high are) = taken_as {p = SourcePort} o named (taken_word (rw (ports_read w low high are) refl))
taken_by chains given now o negated name ws named (destination_port {w = w} low high are) = taken_as {p = DestinationPort} o named (taken_word (rw (ports_read w low high are) refl))
taken_by chains given now o negated name ws named (states {w = w} new established (inl its) list) =
    taken_as {p = CtState} o (sym (ap option_of its) ∙ named) (taken_word (rw (said_states w new established list) refl))
taken_by chains given now o negated name ws named (states {w = w} new established (inr its) list) =
    taken_as {p = State} o (sym (ap option_of its) ∙ named) (taken_word (rw (said_states w new established list) refl))
taken_by chains given now o negated name ws named conntrack_module = taken_as {p = Module} o named (taken_word refl)
taken_by chains given now o negated name ws named state_module = taken_as {p = Module} o named (taken_word refl)
taken_by chains given now o negated name ws named comment_module = taken_as {p = Module} o named (taken_word refl)
taken_by chains given now o negated name ws named (own_module part said names) = taken_as {p = Module} o named (taken_word (rw (with_own_module given part said names) refl))
taken_by chains given now o negated name ws named (target {w = w} t there) = taken_as {p = Jump} o named (taken_word (rw (target_read chains w t there) refl))
taken_by chains given now o negated name ws named (jump {w = w} c none number up) = taken_as {p = Jump} o named (taken_word (rw (jump_read chains w c none number up) refl))
taken_by chains given now o negated name ws named (a_text (inl its) is) =
    taken_as {p = Comment} o (sym (ap option_of its) ∙ named) (text_taken chains given Comment negated ws (comment_takes chains given negated) is)
taken_by chains given now o negated name ws named (a_text (inr its) is) =
    taken_as {p = LogPrefix} o (sym (ap option_of its) ∙ named) (text_taken chains given LogPrefix negated ws (prefix_takes chains given negated) is)
taken_by chains given now o negated name ws named (a_word (inl its)) = taken_as {p = RejectWith} o (sym (ap option_of its) ∙ named) (taken_word refl)
taken_by chains given now o negated name ws named (a_word (inr its)) = taken_as {p = LogLevel} o (sym (ap option_of its) ∙ named) (taken_word refl)

pub value_taken : (chains : List Chain) (given now : PartialRule) (o : RuleOption) (negated : Bool) (ws : List (List ℕ)) → IsValueOf chains given o negated ws now → IsTaken chains given o negated ws now
value_taken chains given now o negated ws is = taken_by chains given now o negated _ ws (option_written o) is
