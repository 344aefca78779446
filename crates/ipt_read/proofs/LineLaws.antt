-- Lemmas on the lines of a file: a line is parsed if and only if the grammar derives it.
use Rattle.std.proofs.Common.{◌≡◌, ℕ, ◌+◌, ◌<◌, Bool, true, false, not, ◌&&◌, ◌||◌, ◌==◌, IsTrue, List, [], ◌∷◌, ◌++◌, Option, Some, None, inl, inr, refl, sym, ap, ◌∙◌, subst, arith, length, drop}
use Rattle.std.specs.Prelude.{Result, Ok, Err, bytes_eq, codes, nat_lt, nat_le, slice_set}
use Rattle.std.proofs.lemmas.Bool.{and_parts, not-false}
use Rattle.std.proofs.lemmas.Bool.Decides.{nat_tests}
use Rattle.text_core.specs.Lines.{words, begins_with}
use Rattle.text_core.specs.inner.Pieces.{split_once}
use Rattle.text_core.proofs.StepsLaws.{if_parts, bytes_same}
use Rattle.ipt_rules.specs.declared.rule.Rule.{Rule}
use Rattle.ipt_rules.specs.declared.rule.Policy.{Policy}
use Rattle.ipt_rules.specs.declared.rule.Policy.TheVariants.{Accept, Drop}
use Rattle.ipt_rules.specs.Chain.{Chain, number_of, user_chain, with_policy, with_rule}
use Rattle.ipt_rules.specs.ChainTable.{chain_limit, rule_limit}
use Rattle.ipt_rules.specs.Name.{is_user_name}
use Rattle.ipt_rules.specs.Text.{policy_text}
use Rattle.ipt_read.specs.declared.fault.IptWhy.{IptWhy}
use Rattle.ipt_read.specs.declared.fault.IptWhy.TheVariants.{BadLine, BadChain, TooMany, OtherTable}
use Rattle.ipt_read.specs.declared.option.Place.TheVariants.{AtOption}
use Rattle.ipt_read.specs.inner.Counts.{is_count, is_packets_part}
use Rattle.ipt_read.specs.Options.{PartialRule, empty_rule}
use Rattle.ipt_read.specs.inner.OptionSteps.{rule_of}
use Rattle.ipt_read.specs.inner.RuleLine.{word_by_word, rule_in, append_of, rule_line_of}
use Rattle.ipt_read.specs.ParserStates.{Stage, Front, Table, After, ParserState, line_of}
use Rattle.ipt_read.specs.inner.LineStep.{no_words, table_line_of, policy_word, built_in_policy, with_built_in, declare, declare_by, chain_line_of, with_read_rule, commit_line_of, body_line_of, line_at, line_of_words, line_step}
use Rattle.ipt_read.specs.Grammar.{AreOptionWords, IsOptionalCounter, IsRuleLine, IsChainLine, IsLine, table, built_in, user, rule, commit}
use Rattle.ipt_read.proofs.ValueLaws.{count_said, said_count}
use Rattle.ipt_read.proofs.PieceLaws.{goes_parts, pieces_of_read, read_of_pieces}

-- 1. Rule lines.

pair_parts : (c k : ℕ) (r q : Rule) → ◌≡◌ {A = ℕ × Rule} (c, r) (k, q) → (c ≡ k) × (r ≡ q)
pair_parts c k r q e = (λ i. (e i).0, λ i. (e i).1)

ok_pair : (c k : ℕ) (r q : Rule) → ◌≡◌ {A = Result (ℕ × Rule) IptWhy} (Ok (c, r)) (Ok (k, q)) → (c ≡ k) × (r ≡ q)
ok_pair c k r q e = let p : ◌≡◌ {A = ℕ × Rule} (c, r) (k, q) = cc in pair_parts c k r q p

in_line : (chains : List Chain) (front : List (List ℕ)) (name : List ℕ) (ws : List (List ℕ)) (k : ℕ) (r : Rule) (o : Option ℕ) → IsOptionalCounter front → number_of chains name ≡ o → rule_in chains o ws ≡ Ok (k, r) → IsRuleLine chains (front ++ (codes "-A" ∷ name ∷ ws)) k r
in_line chains front name ws k r None counted found h = cc
in_line chains front name ws k r (Some c) counted found h =
    let parts = goes_parts {B = ℕ × Rule} (word_by_word chains empty_rule AtOption ws) (λ given. Ok (c, rule_of given)) (k, r) h in
    let same = ok_pair c k (rule_of parts.0) r parts.2 in
    record {
      name = name;
      pieces = ws;
      given = parts.0;
      written = (front, counted, refl);
      number = found ∙ ap (λ n. Some n) same.0;
      fit = pieces_of_read chains empty_rule parts.0 ws parts.1;
      same = sym same.1;
    }

append_line : (chains : List Chain) (front ws : List (List ℕ)) (k : ℕ) (r : Rule) → IsOptionalCounter front → append_of chains ws ≡ Ok (k, r) → IsRuleLine chains (front ++ ws) k r
append_line chains front [] k r counted h = cc
append_line chains front (a ∷ []) k r counted h = cc
append_line chains front (a ∷ name ∷ ws) k r counted h = elim (if_parts (bytes_eq a (codes "-A")) (rule_in chains (number_of chains name) ws) (Err BadLine) (Ok (k, r)) h) [
  | inl append ↦
      subst (λ (v : List ℕ). IsRuleLine chains (front ++ (v ∷ name ∷ ws)) k r) (sym (bytes_same a (codes "-A") append.0))
      (in_line chains front name ws k r (number_of chains name) counted refl append.1)
  | inr bad ↦ cc
]

pub rule_line_of_read : (chains : List Chain) (ws : List (List ℕ)) (k : ℕ) (r : Rule) → rule_line_of chains ws ≡ Ok (k, r) → IsRuleLine chains ws k r
unfolding rule_line_of
rule_line_of_read chains [] k r h = cc
rule_line_of_read chains (w ∷ ws) k r h = elim (if_parts (begins_with 91 w) _ (append_of chains (w ∷ ws)) (Ok (k, r)) h) [
  | inl figure ↦ elim (if_parts (is_count w) (append_of chains ws) (Err BadLine) (Ok (k, r)) figure.1) [
    | inl count ↦ append_line chains (w ∷ []) ws k r (inr (w, count_said w count.0, refl)) count.1
    | inr bad ↦ cc
  ]
  | inr bare ↦ append_line chains [] (w ∷ ws) k r (inl refl) bare.1
]

first_true : (a b : Bool) → (a && b) ≡ true → a ≡ true
first_true true b h = refl
first_true false b h = cc

pub count_begins : (w : List ℕ) → is_count w ≡ true → begins_with 91 w ≡ true
unfolding is_count
count_begins [] h = cc
count_begins (b ∷ bs) h = first_true (b == 91) (is_packets_part (split_once 58 bs)) h

counted_read : (chains : List Chain) (w : List ℕ) (ws : List (List ℕ)) (c : ℕ) (r : Rule) → is_count w ≡ true → append_of chains ws ≡ Ok (c, r) → rule_line_of chains (w ∷ ws) ≡ Ok (c, r)
unfolding rule_line_of
counted_read chains w ws c r count read = rw (count_begins w count, count) read

append_read : (chains : List Chain) (name : List ℕ) (pieces : List (List ℕ)) (c : ℕ) (given : PartialRule) → number_of chains name ≡ Some c → AreOptionWords chains empty_rule pieces given → append_of chains (codes "-A" ∷ name ∷ pieces) ≡ Ok (c, rule_of given)
append_read chains name pieces c given number fit = rw (number, read_of_pieces chains empty_rule given pieces fit) refl

line_read : (chains : List Chain) (front : List (List ℕ)) (name : List ℕ) (pieces : List (List ℕ)) (c : ℕ) (given : PartialRule) → IsOptionalCounter front → number_of chains name ≡ Some c → AreOptionWords chains empty_rule pieces given → rule_line_of chains (front ++ (codes "-A" ∷ name ∷ pieces)) ≡ Ok (c, rule_of given)
unfolding rule_line_of
line_read chains front name pieces c given (inl bare) number fit =
    subst (λ (f : List (List ℕ)). rule_line_of chains (f ++ (codes "-A" ∷ name ∷ pieces)) ≡ Ok (c, rule_of given)) (sym bare) (append_read chains name pieces c given number fit)
line_read chains front name pieces c given (inr count) number fit =
    subst (λ (f : List (List ℕ)). rule_line_of chains (f ++ (codes "-A" ∷ name ∷ pieces)) ≡ Ok (c, rule_of given)) (sym count.2)
    (counted_read chains count.0 (codes "-A" ∷ name ∷ pieces) c (rule_of given) (said_count count.0 count.1) (append_read chains name pieces c given number fit))

pub read_of_rule_line : (chains : List Chain) (ws : List (List ℕ)) (k : ℕ) (r : Rule) → IsRuleLine chains ws k r → rule_line_of chains ws ≡ Ok (k, r)
read_of_rule_line chains ws k r line =
    ap (rule_line_of chains) line.written.2 ∙ line_read chains line.written.0 line.name line.pieces k line.given line.written.1 line.number line.fit ∙ ap (λ q. Ok (k, q)) (sym line.same)

-- 2. Chain lines.

front_of_count : (count : List ℕ) → IsTrue (is_count count) → IsOptionalCounter (count ∷ [])
front_of_count count h = inr (count, count_said count h, refl)

pub policy_behind : (ws : List (List ℕ)) (p : List ℕ) → policy_word ws ≡ Some p → (behind : List (List ℕ)) × IsOptionalCounter behind × (ws ≡ p ∷ behind)
policy_behind [] p h = cc
policy_behind (q ∷ []) p h = let e : q ≡ p = cc in ([], inl refl, ap (λ v. v ∷ []) e)
policy_behind (q ∷ count ∷ []) p h = elim (if_parts (is_count count) (Some q) None (Some p) h) [
  | inl yes' ↦ let e : q ≡ p = cc in (count ∷ [], front_of_count count yes'.0, ap (λ v. v ∷ count ∷ []) e)
  | inr no' ↦ cc
]
policy_behind (q ∷ count ∷ more ∷ ws) p h = cc

counted_policy : (p count : List ℕ) → IsTrue (is_count count) → policy_word (p ∷ count ∷ []) ≡ Some p
counted_policy p count h = rw h refl

pub policy_read : (p : List ℕ) (behind : List (List ℕ)) → IsOptionalCounter behind → policy_word (p ∷ behind) ≡ Some p
policy_read p behind (inl bare) = ap (λ b. policy_word (p ∷ b)) bare
policy_read p behind (inr count) = ap (λ b. policy_word (p ∷ b)) count.2 ∙ counted_policy p count.0 (said_count count.0 count.1)

pub colon_word : (w : List ℕ) → begins_with 58 w ≡ true → w ≡ 58 ∷ drop 1 w
colon_word [] h = cc
colon_word (b ∷ bs) h = let e : b ≡ 58 = grind (arith, nat_tests) in ap (λ c. c ∷ bs) e

pub built_in_said : (word : List ℕ) (p : Policy) → built_in_policy word ≡ Some p → word ≡ policy_text (Some p)
built_in_said word p h = elim (if_parts (bytes_eq word (codes "ACCEPT")) (Some Accept) _ (Some p) h) [
  | inl accept ↦ let e : Accept ≡ p = cc in bytes_same word (codes "ACCEPT") accept.0 ∙ ap (λ q. policy_text (Some q)) e
  | inr rest ↦ elim (if_parts (bytes_eq word (codes "DROP")) (Some Drop) None (Some p) rest.1) [
    | inl drop_word ↦ let e : Drop ≡ p = cc in bytes_same word (codes "DROP") drop_word.0 ∙ ap (λ q. policy_text (Some q)) e
    | inr bad ↦ cc
  ]
]

pub built_in_read : (p : Policy) → built_in_policy (policy_text (Some p)) ≡ Some p
built_in_read Accept = refl
built_in_read Drop = refl

-- A chain line of a built-in chain.
built_in_line : (n : ℕ) (s t : ParserState) (ws : List (List ℕ)) (name policy : List ℕ) (c : ℕ) (o : Option Policy) → s.stage ≡ Table → IsChainLine ws name policy → number_of s.chains name ≡ Some c → built_in_policy policy ≡ o → with_built_in n s c o ≡ Ok t → IsLine n s ws t
built_in_line n s t ws name policy c None stage line number said h = cc
built_in_line n s t ws name policy c (Some p) stage line number said h = elim (if_parts (nat_lt c 3 && (line_of s.declared c == 0)) (Ok (record s { chains = with_policy s.chains c p; declared = slice_set s.declared c n })) (Err BadChain) (Ok t) h) [
  | inl fits ↦
      let parts = and_parts (nat_lt c 3) (line_of s.declared c == 0) fits.0 in
      let low : c < 3 = grind (arith, nat_tests, parts.0) in
      let free : line_of s.declared c ≡ 0 = grind (arith, nat_tests, parts.1) in
      let whole : IsChainLine ws name (policy_text (Some p)) = subst (λ (v : List ℕ). IsChainLine ws name v) (built_in_said policy p said) line in
      let e : record s { chains = with_policy s.chains c p; declared = slice_set s.declared c n } ≡ t = cc in
      subst (λ (u : ParserState). IsLine n s ws u) e (built_in p stage whole number low free)
  | inr bad ↦ cc
]

user_line : (n : ℕ) (s t : ParserState) (ws : List (List ℕ)) (name policy : List ℕ) → s.stage ≡ Table → IsChainLine ws name policy → number_of s.chains name ≡ None → declare n s name policy None ≡ Ok t → IsLine n s ws t
user_line n s t ws name policy stage line number h = elim (if_parts (not (is_user_name name && bytes_eq policy (codes "-"))) (Err BadChain) _ (Ok t) h) [
  | inl bad ↦ cc
  | inr fits ↦ elim (if_parts (nat_le chain_limit (length s.chains)) (Err TooMany) (Ok (record s { chains = s.chains ++ user_chain name ∷ []; declared = s.declared ++ n ∷ [] })) (Ok t) fits.1) [
    | inl many ↦ cc
    | inr few ↦
        let parts = and_parts (is_user_name name) (bytes_eq policy (codes "-")) (not-false (is_user_name name && bytes_eq policy (codes "-")) fits.0) in
        let room : length s.chains < 4096 = grind (arith, nat_tests, few.0) in
        let whole : IsChainLine ws name (policy_text None) = subst (λ (v : List ℕ). IsChainLine ws name v) (bytes_same policy (codes "-") parts.1) line in
        let e : record s { chains = s.chains ++ user_chain name ∷ []; declared = s.declared ++ n ∷ [] } ≡ t = cc in
        subst (λ (u : ParserState). IsLine n s ws u) e (user stage whole number parts.0 room)
  ]
]

declared_line : (n : ℕ) (s t : ParserState) (ws : List (List ℕ)) (name policy : List ℕ) (o : Option ℕ) → s.stage ≡ Table → IsChainLine ws name policy → number_of s.chains name ≡ o → declare n s name policy o ≡ Ok t → IsLine n s ws t
declared_line n s t ws name policy None stage line number h = user_line n s t ws name policy stage line number h
declared_line n s t ws name policy (Some c) stage line number h =
    built_in_line n s t ws name policy c (built_in_policy policy) stage line number refl h

chain_line_by : (n : ℕ) (s t : ParserState) (w : List ℕ) (ws : List (List ℕ)) (o : Option (List ℕ)) → s.stage ≡ Table → begins_with 58 w ≡ true → policy_word ws ≡ o → declare_by n s (drop 1 w) o ≡ Ok t → IsLine n s (w ∷ ws) t
chain_line_by n s t w ws None stage colon said h = cc
chain_line_by n s t w ws (Some p) stage colon said h =
    let parts = policy_behind ws p said in
    declared_line n s t (w ∷ ws) (drop 1 w) p (number_of s.chains (drop 1 w)) stage
    (parts.0, parts.1, ap (λ v. v ∷ ws) (colon_word w colon) ∙ ap (λ vs. (58 ∷ drop 1 w) ∷ vs) parts.2) refl h

-- 3. The lines by the position in the file.

rule_line_by : (n : ℕ) (s t : ParserState) (ws : List (List ℕ)) (o : Result (ℕ × Rule) IptWhy) → s.stage ≡ Table → rule_line_of s.chains ws ≡ o → with_read_rule s o ≡ Ok t → IsLine n s ws t
rule_line_by n s t ws (Err why) stage read h = cc
rule_line_by n s t ws (Ok r) stage read h = elim (if_parts (nat_le rule_limit s.rules) (Err TooMany) (Ok (record s { chains = with_rule s.chains r.0 r.1; rules = s.rules + 1 })) (Ok t) h) [
  | inl many ↦ cc
  | inr few ↦
      let room : s.rules < 1000000 = grind (arith, nat_tests, few.0) in
      let e : record s { chains = with_rule s.chains r.0 r.1; rules = s.rules + 1 } ≡ t = cc in
      subst (λ (u : ParserState). IsLine n s ws u) e (rule stage (rule_line_of_read s.chains ws r.0 r.1 read) room)
]

pub nothing_behind : (ws : List (List ℕ)) → not (no_words ws) ≡ false → ws ≡ []
nothing_behind [] h = refl
nothing_behind (w ∷ ws) h = cc

-- A line of one token.
lone_line : (n : ℕ) (s t : ParserState) (w word : List ℕ) (ws : List (List ℕ)) → bytes_eq w word ≡ true → not (no_words ws) ≡ false
    → IsLine n s (word ∷ []) t → IsLine n s (w ∷ ws) t
lone_line n s t w word ws is alone line =
    subst (λ (vs : List (List ℕ)). IsLine n s vs t) (λ i. sym (bytes_same w word is) i ∷ sym (nothing_behind ws alone) i) line

commit_line_by : (n : ℕ) (s t : ParserState) (w : List ℕ) (ws : List (List ℕ)) → s.stage ≡ Table → commit_line_of s w ws ≡ Ok t → IsLine n s (w ∷ ws) t
commit_line_by n s t w ws stage h = elim (if_parts (not (bytes_eq w (codes "COMMIT"))) (Err BadLine) _ (Ok t) h) [
  | inl bad ↦ cc
  | inr word ↦ elim (if_parts (not (no_words ws)) (Err BadLine) (Ok (record s { stage = After })) (Ok t) word.1) [
    | inl bad ↦ cc
    | inr alone ↦
        let e : record s { stage = After } ≡ t = cc in
        subst (λ (u : ParserState). IsLine n s (w ∷ ws) u) e
        (lone_line n s (record s { stage = After }) w (codes "COMMIT") ws (not-false (bytes_eq w (codes "COMMIT")) word.0) alone.0 (commit stage))
  ]
]

table_line_by : (n : ℕ) (s t : ParserState) (w : List ℕ) (ws : List (List ℕ)) → s.stage ≡ Front → table_line_of s w ws ≡ Ok t → IsLine n s (w ∷ ws) t
table_line_by n s t w ws stage h = elim (if_parts (not (begins_with 42 w)) (Err BadLine) _ (Ok t) h) [
  | inl bad ↦ cc
  | inr star ↦ elim (if_parts (not (bytes_eq w (codes "*filter"))) (Err OtherTable) _ (Ok t) star.1) [
    | inl bad ↦ cc
    | inr word ↦ elim (if_parts (not (no_words ws)) (Err BadLine) (Ok (record s { stage = Table })) (Ok t) word.1) [
      | inl bad ↦ cc
      | inr alone ↦
          let e : record s { stage = Table } ≡ t = cc in
          subst (λ (u : ParserState). IsLine n s (w ∷ ws) u) e
          (lone_line n s (record s { stage = Table }) w (codes "*filter") ws (not-false (bytes_eq w (codes "*filter")) word.0) alone.0 (table stage))
    ]
  ]
]

body_line_by : (n : ℕ) (s t : ParserState) (w : List ℕ) (ws : List (List ℕ)) → s.stage ≡ Table → body_line_of n s w ws ≡ Ok t → IsLine n s (w ∷ ws) t
unfolding body_line_of chain_line_of
body_line_by n s t w ws stage h = elim (if_parts (begins_with 58 w) _ _ (Ok t) h) [
  | inl colon ↦ chain_line_by n s t w ws (policy_word ws) stage colon.0 refl colon.1
  | inr rest ↦ elim (if_parts (bytes_eq w (codes "-A") || begins_with 91 w) _ (commit_line_of s w ws) (Ok t) rest.1) [
    | inl append ↦ rule_line_by n s t (w ∷ ws) (rule_line_of s.chains (w ∷ ws)) stage refl append.1
    | inr other ↦ commit_line_by n s t w ws stage other.1
  ]
]

stage_line : (n : ℕ) (s t : ParserState) (w : List ℕ) (ws : List (List ℕ)) (stage : Stage) → s.stage ≡ stage → line_at stage n s w ws ≡ Ok t → IsLine n s (w ∷ ws) t
stage_line n s t w ws Front at_front h = table_line_by n s t w ws at_front h
stage_line n s t w ws Table at_table h = body_line_by n s t w ws at_table h
stage_line n s t w ws After at_behind h = cc

line_by_words : (n : ℕ) (s t : ParserState) (ws : List (List ℕ)) → line_of_words n s ws ≡ Ok t → IsLine n s ws t
unfolding line_of_words
line_by_words n s t [] h = cc
line_by_words n s t (w ∷ ws) h = stage_line n s t w ws s.stage refl h

abbrev pub IsTextLine : ℕ → ParserState → List ℕ → ParserState → Type 0
IsTextLine n s l t = IsLine n s (words l) t

-- Sound: the grammar derives a line that is parsed.
pub line_of_read : (n : ℕ) (s t : ParserState) (l : List ℕ) → line_step n s l ≡ Ok t → IsTextLine n s l t
line_of_read n s t l h = line_by_words n s t (words l) h

-- 4. Complete: a line that the grammar derives is parsed.

pub low_free : (c k : ℕ) → c < 3 → k ≡ 0 → (nat_lt c 3 && (k == 0)) ≡ true
low_free c k low free = grind (arith, nat_tests)

few_chains : (n : ℕ) → n < chain_limit → nat_le chain_limit n ≡ false
few_chains n h = grind (arith, nat_tests)

few_rules : (n : ℕ) → n < rule_limit → nat_le rule_limit n ≡ false
few_rules n h = grind (arith, nat_tests)

built_in_read_line : (n : ℕ) (s : ParserState) (name : List ℕ) (behind : List (List ℕ)) (c : ℕ) (p : Policy) → IsOptionalCounter behind → number_of s.chains name ≡ Some c → c < 3 → line_of s.declared c ≡ 0 → chain_line_of n s (58 ∷ name) (policy_text (Some p) ∷ behind) ≡ Ok (record s { chains = with_policy s.chains c p; declared = slice_set s.declared c n })
unfolding chain_line_of
built_in_read_line n s name behind c p counted number low free =
    rw (policy_read (policy_text (Some p)) behind counted, number, built_in_read p, low_free c (line_of s.declared c) low free) refl

user_read_line : (n : ℕ) (s : ParserState) (name : List ℕ) (behind : List (List ℕ)) → IsOptionalCounter behind → number_of s.chains name ≡ None → is_user_name name ≡ true → length s.chains < 4096 → chain_line_of n s (58 ∷ name) (policy_text None ∷ behind) ≡ Ok (record s { chains = s.chains ++ user_chain name ∷ []; declared = s.declared ++ n ∷ [] })
unfolding chain_line_of
user_read_line n s name behind counted number legal few =
    rw (policy_read (codes "-") behind counted, number, legal, few_chains (length s.chains) few) refl

in_body : (n : ℕ) (s t : ParserState) (w : List ℕ) (ws : List (List ℕ)) → s.stage ≡ Table → body_line_of n s w ws ≡ Ok t → line_of_words n s (w ∷ ws) ≡ Ok t
unfolding line_of_words
in_body n s t w ws stage h = ap (λ (g : Stage). line_at g n s w ws) stage ∙ h

chain_in_body : (n : ℕ) (s t : ParserState) (name : List ℕ) (ws : List (List ℕ)) → s.stage ≡ Table → chain_line_of n s (58 ∷ name) ws ≡ Ok t → line_of_words n s ((58 ∷ name) ∷ ws) ≡ Ok t
unfolding body_line_of
chain_in_body n s t name ws stage h = in_body n s t (58 ∷ name) ws stage h

count_is_no_chain : (w : List ℕ) → begins_with 91 w ≡ true → begins_with 58 w ≡ false
count_is_no_chain [] h = cc
count_is_no_chain (b ∷ bs) h = grind (arith, nat_tests)

or_true : (b : Bool) → (b || true) ≡ true
or_true true = refl
or_true false = refl

rule_read_line : (n : ℕ) (s : ParserState) (ws : List (List ℕ)) (c : ℕ) (r : Rule) → IsRuleLine s.chains ws c r → s.rules < 1000000 → with_read_rule s (rule_line_of s.chains ws) ≡ Ok (record s { chains = with_rule s.chains c r; rules = s.rules + 1 })
rule_read_line n s ws c r line few = rw (read_of_rule_line s.chains ws c r line, few_rules s.rules few) refl

rule_in_body : (n : ℕ) (s t : ParserState) (front : List (List ℕ)) (name : List ℕ) (pieces : List (List ℕ)) → s.stage ≡ Table → IsOptionalCounter front → with_read_rule s (rule_line_of s.chains (front ++ (codes "-A" ∷ name ∷ pieces))) ≡ Ok t → line_of_words n s (front ++ (codes "-A" ∷ name ∷ pieces)) ≡ Ok t
unfolding body_line_of
rule_in_body n s t front name pieces stage (inl bare) h =
    subst (λ (f : List (List ℕ)). with_read_rule s (rule_line_of s.chains (f ++ (codes "-A" ∷ name ∷ pieces))) ≡ Ok t → line_of_words n s (f ++ (codes "-A" ∷ name ∷ pieces)) ≡ Ok t) (sym bare)
    (λ g. in_body n s t (codes "-A") (name ∷ pieces) stage g) h
rule_in_body n s t front name pieces stage (inr count) h =
    subst (λ (f : List (List ℕ)). with_read_rule s (rule_line_of s.chains (f ++ (codes "-A" ∷ name ∷ pieces))) ≡ Ok t → line_of_words n s (f ++ (codes "-A" ∷ name ∷ pieces)) ≡ Ok t) (sym count.2)
    (λ g. in_body n s t count.0 (codes "-A" ∷ name ∷ pieces) stage (rw (count_is_no_chain count.0 (count_begins count.0 (said_count count.0 count.1)), count_begins count.0 (said_count count.0 count.1), or_true (bytes_eq count.0 (codes "-A"))) g)) h

words_read : (n : ℕ) (s t : ParserState) (ws : List (List ℕ)) → IsLine n s ws t → line_of_words n s ws ≡ Ok t
unfolding line_of_words body_line_of
words_read n s t ws (table stage) = ap (λ (g : Stage). line_at g n s (codes "*filter") []) stage
words_read n s t ws (commit stage) = ap (λ (g : Stage). line_at g n s (codes "COMMIT") []) stage
words_read n s t ws (built_in {name = name} {c = c} p stage line number low free) =
    ap (line_of_words n s) line.2 ∙ chain_in_body n s t name (policy_text (Some p) ∷ line.0) stage (built_in_read_line n s name line.0 c p line.1 number low free)
words_read n s t ws (user {name = name} stage line number legal few) =
    ap (line_of_words n s) line.2 ∙ chain_in_body n s t name (policy_text None ∷ line.0) stage (user_read_line n s name line.0 line.1 number legal few)
words_read n s t ws (rule {c = c} {r = r} stage line few) =
    ap (line_of_words n s) line.written.2 ∙ rule_in_body n s t line.written.0 line.name line.pieces stage line.written.1
    (ap (λ vs. with_read_rule s (rule_line_of s.chains vs)) (sym line.written.2) ∙ rule_read_line n s ws c r line few)

pub read_of_line : (n : ℕ) (s t : ParserState) (l : List ℕ) → IsTextLine n s l t → line_step n s l ≡ Ok t
read_of_line n s t l line = words_read n s t (words l) line
