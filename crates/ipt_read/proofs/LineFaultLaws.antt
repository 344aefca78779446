-- The reasons why a line is rejected, in terms of the format, agree with the steps of the parser.
use Rattle.std.proofs.Common.{◌≡◌, ◌≢◌, ◌⊎◌, inl, inr, ℕ, ◌+◌, ◌<◌, ◌≤◌, Bool, true, false, not, ◌&&◌, ◌||◌, ◌==◌, List, [], ◌∷◌, ◌++◌, Option, Some, None, refl, sym, ap, subst, ◌∙◌, arith, length, drop}
use Rattle.std.specs.Prelude.{Result, Ok, Err, codes, bytes_eq, nat_lt, nat_le}
use Rattle.std.proofs.lemmas.Bool.{and_parts, and_from, not-true, not-false}
use Rattle.std.proofs.lemmas.Bool.Decides.{nat_tests}
use Rattle.text_core.specs.Lines.{begins_with, words, are_comment, is_comment}
use Rattle.text_core.proofs.StepsLaws.{if_parts, split_bool, bytes_same, bytes_own}
use Rattle.ipt_rules.specs.declared.rule.Policy.{Policy}
use Rattle.ipt_rules.specs.declared.rule.Rule.{Rule}
use Rattle.ipt_rules.specs.Chain.{Chain, number_of, with_rule}
use Rattle.ipt_rules.specs.ChainTable.{chain_limit, rule_limit}
use Rattle.ipt_rules.specs.Name.{is_user_name}
use Rattle.ipt_rules.specs.Text.{policy_text}
use Rattle.ipt_read.specs.declared.fault.IptWhy.{IptWhy}
use Rattle.ipt_read.specs.declared.fault.IptWhy.TheVariants.{BadLine, OtherTable, BadChain, UnknownChain, AfterCommit, TooMany}
use Rattle.ipt_read.specs.declared.option.Place.TheVariants.{AtOption}
use Rattle.ipt_read.specs.inner.Counts.{is_count}
use Rattle.ipt_read.specs.Options.{PartialRule, empty_rule}
use Rattle.ipt_read.specs.inner.OptionSteps.{rule_of}
use Rattle.ipt_read.specs.inner.RuleLine.{goes_on, word_by_word, rule_in, append_of, rule_line_of}
use Rattle.ipt_read.specs.ParserStates.{Stage, Front, Table, After, ParserState, line_of}
use Rattle.ipt_read.specs.inner.LineStep.{no_words, table_line_of, policy_word, built_in_policy, with_built_in, declare, declare_by, chain_line_of, with_read_rule, commit_line_of, body_line_of, line_at, line_of_words, line_step}
use Rattle.ipt_read.specs.Grammar.{IsOptionalCounter, IsChainLine}
use Rattle.ipt_read.proofs.ValueLaws.{count_said, said_count}
use Rattle.ipt_read.proofs.LineLaws.{rule_line_of_read, read_of_rule_line, count_begins, policy_read, policy_behind, colon_word, built_in_said, built_in_read, low_free}
use Rattle.ipt_read.proofs.RuleFaultLaws.{stuck_of_read, read_of_stuck}
use Rattle.ipt_read.specs.LineFault.{IsBadRule, not_begun, no_chain, stuck, MayDeclare, a_built_in, a_user, BeginsRule, IsBad, no_table, other_table, behind_table, bad_chain, many_chains, bad_rule, many_rules, other_line, after_commit}

-- 1. Rule lines.

err_rule : (w v : IptWhy) → ◌≡◌ {A = Result (ℕ × Rule) IptWhy} (Err w) (Err v) → w ≡ v
err_rule w v h = cc

given_err : (r : Result PartialRule IptWhy) (c : ℕ) (why : IptWhy) → goes_on {B = ℕ × Rule} r (λ given. Ok (c, rule_of given)) ≡ Err why → r ≡ Err why
given_err (Ok given) c why h = cc
given_err (Err cause) c why h = ap (λ e. Err e) (err_rule cause why h)

in_bad : (chains : List Chain) (front : List (List ℕ)) (name : List ℕ) (pieces : List (List ℕ)) (why : IptWhy) (o : Option ℕ) → IsOptionalCounter front → number_of chains name ≡ o → rule_in chains o pieces ≡ Err why → IsBadRule chains (front ++ (codes "-A" ∷ name ∷ pieces)) why
in_bad chains front name pieces why None counted number h =
    subst (IsBadRule chains (front ++ (codes "-A" ∷ name ∷ pieces))) (err_rule UnknownChain why h) (no_chain name pieces (front, counted, refl) number)
in_bad chains front name pieces why (Some c) counted number h =
    let at = stuck_of_read chains empty_rule pieces why (given_err (word_by_word chains empty_rule AtOption pieces) c why h) in
    stuck name c at.0 at.1 at.2 (front, counted, ap (λ ps. front ++ (codes "-A" ∷ name ∷ ps)) at.3) number at.4 at.5

abbrev NoAppend : List (List ℕ) → Type 0
NoAppend ws = (name : List ℕ) (pieces : List (List ℕ)) → ws ≡ codes "-A" ∷ name ∷ pieces → ⊥

abbrev NotBegun : List (List ℕ) → Type 0
NotBegun ws = (front : List (List ℕ)) (name : List ℕ) (pieces : List (List ℕ)) → IsOptionalCounter front → ws ≡ front ++ (codes "-A" ∷ name ∷ pieces) → ⊥

bad_line_rule : (chains : List Chain) (ws : List (List ℕ)) (why : IptWhy) → NotBegun ws → ◌≡◌ {A = Result (ℕ × Rule) IptWhy} (Err BadLine) (Err why) → IsBadRule chains ws why
bad_line_rule chains ws why none h = subst (IsBadRule chains ws) (err_rule BadLine why h) (not_begun (λ name pieces is. none is.0 name pieces is.1 is.2))

append_bad : (chains : List Chain) (front ws : List (List ℕ)) (why : IptWhy) → IsOptionalCounter front → (NoAppend ws → NotBegun (front ++ ws)) → append_of chains ws ≡ Err why → IsBadRule chains (front ++ ws) why
append_bad chains front [] why counted missing h = bad_line_rule chains (front ++ []) why (missing (λ name pieces e. cc)) h
append_bad chains front (a ∷ []) why counted missing h = bad_line_rule chains (front ++ (a ∷ [])) why (missing (λ name pieces e. cc)) h
append_bad chains front (a ∷ name ∷ ws) why counted missing h = elim (if_parts (bytes_eq a (codes "-A")) (rule_in chains (number_of chains name) ws) (Err BadLine) (Err why) h) [
  | inl append ↦
      subst (λ (v : List ℕ). IsBadRule chains (front ++ (v ∷ name ∷ ws)) why) (sym (bytes_same a (codes "-A") append.0))
      (in_bad chains front name ws why (number_of chains name) counted refl append.1)
  | inr bad ↦ bad_line_rule chains (front ++ (a ∷ name ∷ ws)) why (missing (λ other pieces e. not_append a name other ws pieces bad.0 e)) bad.1
]
  where
    not_append : (a name other : List ℕ) (ws pieces : List (List ℕ)) → bytes_eq a (codes "-A") ≡ false → a ∷ name ∷ ws ≡ codes "-A" ∷ other ∷ pieces → ⊥
    not_append a name other ws pieces apart e =
        let same : a ≡ codes "-A" = cc in
        let is : bytes_eq a (codes "-A") ≡ true = ap (λ v. bytes_eq v (codes "-A")) same in cc

first_words : (w v : List ℕ) (ws vs : List (List ℕ)) → w ∷ ws ≡ v ∷ vs → (w ≡ v) × (ws ≡ vs)
first_words w v ws vs e = (cc, cc)

bare_missing : (w : List ℕ) (ws : List (List ℕ)) → begins_with 91 w ≡ false → NoAppend (w ∷ ws) → NotBegun (w ∷ ws)
bare_missing w ws other none front name pieces (inl bare) e = none name pieces (e ∙ ap (λ f. f ++ (codes "-A" ∷ name ∷ pieces)) bare)
bare_missing w ws other none front name pieces (inr count) e =
    let parts = first_words w count.0 ws (codes "-A" ∷ name ∷ pieces) (e ∙ ap (λ f. f ++ (codes "-A" ∷ name ∷ pieces)) count.2) in
    let begins : begins_with 91 w ≡ true = ap (begins_with 91) parts.0 ∙ count_begins count.0 (said_count count.0 count.1) in cc

counted_missing : (w : List ℕ) (ws : List (List ℕ)) → begins_with 91 w ≡ true → NoAppend ws → NotBegun (w ∷ ws)
counted_missing w ws begins none front name pieces (inl bare) e =
    let parts = first_words w (codes "-A") ws (name ∷ pieces) (e ∙ ap (λ f. f ++ (codes "-A" ∷ name ∷ pieces)) bare) in
    let other : begins_with 91 w ≡ false = ap (begins_with 91) parts.0 in cc
counted_missing w ws begins none front name pieces (inr count) e =
    let parts = first_words w count.0 ws (codes "-A" ∷ name ∷ pieces) (e ∙ ap (λ f. f ++ (codes "-A" ∷ name ∷ pieces)) count.2) in
    none name pieces parts.1

no_count_missing : (w : List ℕ) (ws : List (List ℕ)) → begins_with 91 w ≡ true → is_count w ≡ false → NotBegun (w ∷ ws)
no_count_missing w ws begins other_word front name pieces (inl bare) e =
    let parts = first_words w (codes "-A") ws (name ∷ pieces) (e ∙ ap (λ f. f ++ (codes "-A" ∷ name ∷ pieces)) bare) in
    let other : begins_with 91 w ≡ false = ap (begins_with 91) parts.0 in cc
no_count_missing w ws begins other_word front name pieces (inr count) e =
    let parts = first_words w count.0 ws (codes "-A" ∷ name ∷ pieces) (e ∙ ap (λ f. f ++ (codes "-A" ∷ name ∷ pieces)) count.2) in
    let is : is_count w ≡ true = ap is_count parts.0 ∙ said_count count.0 count.1 in cc

no_words_begun : NotBegun []
no_words_begun [] name pieces counted e = cc
no_words_begun (f ∷ fs) name pieces counted e = cc

bad_rule_of_read : (chains : List Chain) (ws : List (List ℕ)) (why : IptWhy) → rule_line_of chains ws ≡ Err why → IsBadRule chains ws why
unfolding rule_line_of
bad_rule_of_read chains [] why h = bad_line_rule chains [] why no_words_begun h
bad_rule_of_read chains (w ∷ ws) why h = elim (if_parts (begins_with 91 w) _ (append_of chains (w ∷ ws)) (Err why) h) [
  | inl figure ↦ elim (if_parts (is_count w) (append_of chains ws) (Err BadLine) (Err why) figure.1) [
    | inl count ↦ append_bad chains (w ∷ []) ws why (inr (w, count_said w count.0, refl)) (counted_missing w ws figure.0) count.1
    | inr bad ↦ bad_line_rule chains (w ∷ ws) why (no_count_missing w ws figure.0 bad.0) bad.1
  ]
  | inr bare ↦ append_bad chains [] (w ∷ ws) why (inl refl) (bare_missing w ws bare.0) bare.1
]

counted_begun : (chains : List Chain) (w : List ℕ) (ws : List (List ℕ)) → is_count w ≡ true → rule_line_of chains (w ∷ ws) ≡ append_of chains ws
unfolding rule_line_of
counted_begun chains w ws count = rw (count_begins w count, count) refl

begun : (chains : List Chain) (front : List (List ℕ)) (name : List ℕ) (pieces : List (List ℕ)) → IsOptionalCounter front → rule_line_of chains (front ++ (codes "-A" ∷ name ∷ pieces)) ≡ rule_in chains (number_of chains name) pieces
unfolding rule_line_of
begun chains front name pieces (inl bare) = ap (λ f. rule_line_of chains (f ++ (codes "-A" ∷ name ∷ pieces))) bare
begun chains front name pieces (inr count) =
    ap (λ f. rule_line_of chains (f ++ (codes "-A" ∷ name ∷ pieces))) count.2 ∙ counted_begun chains count.0 (codes "-A" ∷ name ∷ pieces) (said_count count.0 count.1)

is_bad_line : (chains : List Chain) (ws : List (List ℕ)) (why : IptWhy) → NotBegun ws → IsBadRule chains ws why → why ≡ BadLine
is_bad_line chains ws why none (not_begun other) = refl
is_bad_line chains ws why none (no_chain name pieces is number) = absurd (none is.0 name pieces is.1 is.2)
is_bad_line chains ws why none (stuck name c read rest given is number fit at) = absurd (none is.0 name (read ++ rest) is.1 is.2)

not_begun_read : (chains : List Chain) (ws : List (List ℕ)) (r : Result (ℕ × Rule) IptWhy) → NotBegun ws → rule_line_of chains ws ≡ r → r ≡ Err BadLine
not_begun_read chains ws (Ok (c, rule)) none is =
    let line = rule_line_of_read chains ws c rule is in
    absurd (none line.written.0 line.name line.pieces line.written.1 line.written.2)
not_begun_read chains ws (Err why) none is = ap (λ e. Err e) (is_bad_line chains ws why none (bad_rule_of_read chains ws why is))

read_of_bad_rule : (chains : List Chain) (ws : List (List ℕ)) (why : IptWhy) → IsBadRule chains ws why → rule_line_of chains ws ≡ Err why
read_of_bad_rule chains ws why (not_begun none) =
    not_begun_read chains ws (rule_line_of chains ws) (λ front name pieces counted written. none name pieces (front, counted, written)) refl
read_of_bad_rule chains ws why (no_chain name pieces is number) =
    ap (rule_line_of chains) is.2 ∙ begun chains is.0 name pieces is.1 ∙ ap (λ o. rule_in chains o pieces) number
read_of_bad_rule chains ws why (stuck name c read rest given is number fit at) =
    ap (rule_line_of chains) is.2 ∙ begun chains is.0 name (read ++ rest) is.1 ∙ ap (λ o. rule_in chains o (read ++ rest)) number
    ∙ ap (λ r. goes_on {B = ℕ × Rule} r (λ g. Ok (c, rule_of g))) (read_of_stuck chains empty_rule given read rest why fit at)

-- 2. Chain lines.

record IsFull (s : ParserState) (ws : List (List ℕ)) : Type 0 where
  name : List ℕ
  line : IsChainLine ws name (policy_text None)
  number : number_of s.chains name ≡ None
  legal : is_user_name name ≡ true
  full : 4096 ≤ length s.chains

abbrev Says : ParserState → List (List ℕ) → Result ParserState IptWhy → Type 0
Says s ws (Ok t) = MayDeclare s ws
Says s ws (Err why) = ((why ≡ BadChain) × (MayDeclare s ws → ⊥)) ⊎ ((why ≡ TooMany) × IsFull s ws)

chain_parts : (w : List ℕ) (ws : List (List ℕ)) (name policy : List ℕ) → IsChainLine (w ∷ ws) name policy → (drop 1 w ≡ name) × (policy_word ws ≡ Some policy)
chain_parts w ws name policy line =
    let parts = first_words w (58 ∷ name) ws (policy ∷ line.0) line.2 in
    (ap (drop 1) parts.0, ap policy_word parts.1 ∙ policy_read policy line.0 line.1)

some_policy : (p q : List ℕ) → ◌≡◌ {A = Option (List ℕ)} (Some p) (Some q) → p ≡ q
some_policy p q h = cc

some_number : (p q : ℕ) → ◌≡◌ {A = Option ℕ} (Some p) (Some q) → p ≡ q
some_number p q h = cc

chain_whole : (w : List ℕ) (ws : List (List ℕ)) (p : List ℕ) → begins_with 58 w ≡ true → policy_word ws ≡ Some p → IsChainLine (w ∷ ws) (drop 1 w) p
chain_whole w ws p colon said =
    let parts = policy_behind ws p said in
    (parts.0, parts.1, ap (λ v. v ∷ ws) (colon_word w colon) ∙ ap (λ vs. (58 ∷ drop 1 w) ∷ vs) parts.2)

not_policy : (s : ParserState) (w : List ℕ) (ws : List (List ℕ)) → policy_word ws ≡ None → MayDeclare s (w ∷ ws) → ⊥
not_policy s w ws none (a_built_in name policy c line number low free) = let parts = chain_parts w ws name (policy_text (Some policy)) line in let said = parts.1 in cc
not_policy s w ws none (a_user name line number legal) = let parts = chain_parts w ws name (policy_text None) line in let said = parts.1 in cc

not_built_in : (s : ParserState) (w : List ℕ) (ws : List (List ℕ)) (p : List ℕ) (c : ℕ) → policy_word ws ≡ Some p → number_of s.chains (drop 1 w) ≡ Some c
    → ((policy : Policy) → p ≡ policy_text (Some policy) → c < 3 → line_of s.declared c ≡ 0 → ⊥) → MayDeclare s (w ∷ ws) → ⊥
not_built_in s w ws p c said number none (a_built_in name policy k line other low free) =
    let parts = chain_parts w ws name (policy_text (Some policy)) line in
    let same : c ≡ k = some_number c k (sym number ∙ ap (number_of s.chains) parts.0 ∙ other) in
    none policy (some_policy p (policy_text (Some policy)) (sym said ∙ parts.1)) (omega (arith, same, low)) (ap (line_of s.declared) same ∙ free)
not_built_in s w ws p c said number none (a_user name line other legal) =
    let parts = chain_parts w ws name (policy_text None) line in
    let clash = sym number ∙ ap (number_of s.chains) parts.0 ∙ other in cc

not_user : (s : ParserState) (w : List ℕ) (ws : List (List ℕ)) (p : List ℕ) → policy_word ws ≡ Some p → number_of s.chains (drop 1 w) ≡ None
    → (is_user_name (drop 1 w) && bytes_eq p (codes "-")) ≡ false → MayDeclare s (w ∷ ws) → ⊥
not_user s w ws p said number none (a_built_in name policy k line other low free) =
    let parts = chain_parts w ws name (policy_text (Some policy)) line in
    let clash = sym number ∙ ap (number_of s.chains) parts.0 ∙ other in cc
not_user s w ws p said number none (a_user name line other legal) =
    let parts = chain_parts w ws name (policy_text None) line in
    let dash : p ≡ codes "-" = some_policy p (codes "-") (sym said ∙ parts.1) in
    let is_name : is_user_name (drop 1 w) ≡ true = ap is_user_name parts.0 ∙ legal in
    let is_dash : bytes_eq p (codes "-") ≡ true = ap (λ v. bytes_eq v (codes "-")) dash in
    let both = and_from (is_user_name (drop 1 w)) (bytes_eq p (codes "-")) is_name is_dash in cc

is_low : (c : ℕ) → nat_lt c 3 ≡ true → c < 3
is_low c h = grind (arith, nat_tests)

is_zero : (k : ℕ) → (k == 0) ≡ true → k ≡ 0
is_zero k h = grind (arith, nat_tests)

built_in_says : (n : ℕ) (s : ParserState) (w : List ℕ) (ws : List (List ℕ)) (p : List ℕ) (c : ℕ) (o : Option Policy) → begins_with 58 w ≡ true → policy_word ws ≡ Some p → number_of s.chains (drop 1 w) ≡ Some c → built_in_policy p ≡ o → Says s (w ∷ ws) (with_built_in n s c o)
built_in_says n s w ws p c None colon said number is =
    inl (refl, not_built_in s w ws p c said number (λ policy same low free. let read : built_in_policy p ≡ Some policy = ap built_in_policy same ∙ built_in_read policy in cc))
built_in_says n s w ws p c (Some policy) colon said number is = split_bool (nat_lt c 3 && (line_of s.declared c == 0))
    (λ fits.
    let parts = and_parts (nat_lt c 3) (line_of s.declared c == 0) fits in
    rw fits (a_built_in (drop 1 w) policy c (subst (IsChainLine (w ∷ ws) (drop 1 w)) (built_in_said p policy is) (chain_whole w ws p colon said)) number (is_low c parts.0) (is_zero (line_of s.declared c) parts.1)))
    (λ other.
    rw other (inl (refl, not_built_in s w ws p c said number (λ q same low free. let fits = low_free c (line_of s.declared c) low free in cc))))

user_says : (n : ℕ) (s : ParserState) (w : List ℕ) (ws : List (List ℕ)) (p : List ℕ) → begins_with 58 w ≡ true → policy_word ws ≡ Some p → number_of s.chains (drop 1 w) ≡ None → Says s (w ∷ ws) (declare n s (drop 1 w) p None)
user_says n s w ws p colon said number = split_bool (is_user_name (drop 1 w) && bytes_eq p (codes "-"))
    (λ fits.
    let parts = and_parts (is_user_name (drop 1 w)) (bytes_eq p (codes "-")) fits in
    let line = subst (IsChainLine (w ∷ ws) (drop 1 w)) (bytes_same p (codes "-") parts.1) (chain_whole w ws p colon said) in
    split_bool (nat_le chain_limit (length s.chains))
    (λ many.
    let full : 4096 ≤ length s.chains = grind (arith, nat_tests) in
    rw (fits, many) (inr (refl, record { name = drop 1 w; line = line; number = number; legal = parts.0; full = full })))
    (λ few. rw (fits, few) (a_user (drop 1 w) line number parts.0)))
    (λ other. rw other (inl (refl, not_user s w ws p said number other)))

declare_says : (n : ℕ) (s : ParserState) (w : List ℕ) (ws : List (List ℕ)) (p : List ℕ) (o : Option ℕ) → begins_with 58 w ≡ true → policy_word ws ≡ Some p → number_of s.chains (drop 1 w) ≡ o → Says s (w ∷ ws) (declare n s (drop 1 w) p o)
declare_says n s w ws p None colon said number = user_says n s w ws p colon said number
declare_says n s w ws p (Some c) colon said number = built_in_says n s w ws p c (built_in_policy p) colon said number refl

chain_says_by : (n : ℕ) (s : ParserState) (w : List ℕ) (ws : List (List ℕ)) (o : Option (List ℕ)) → begins_with 58 w ≡ true → policy_word ws ≡ o → Says s (w ∷ ws) (declare_by n s (drop 1 w) o)
chain_says_by n s w ws None colon said = inl (refl, not_policy s w ws said)
chain_says_by n s w ws (Some p) colon said = declare_says n s w ws p (number_of s.chains (drop 1 w)) colon said refl

chain_says : (n : ℕ) (s : ParserState) (w : List ℕ) (ws : List (List ℕ)) → begins_with 58 w ≡ true → Says s (w ∷ ws) (chain_line_of n s w ws)
unfolding chain_line_of
chain_says n s w ws colon = chain_says_by n s w ws (policy_word ws) colon refl

-- 3. Lines.

err_said : (w v : IptWhy) → ◌≡◌ {A = Result ParserState IptWhy} (Err w) (Err v) → w ≡ v
err_said w v h = cc

apart : (w name : List ℕ) → bytes_eq w name ≡ false → w ≢ name
apart w name other = λ same. let own : bytes_eq w name ≡ true = ap (λ v. bytes_eq v name) same ∙ bytes_own name in cc

found_apart : (w name : List ℕ) → w ≢ name → bytes_eq w name ≡ false
found_apart w name other = split_bool (bytes_eq w name) (λ same. absurd (other (bytes_same w name same))) (λ h. h)

some_words : (ws : List (List ℕ)) → no_words ws ≡ false → ws ≢ []
some_words [] h = cc
some_words (w ∷ ws) h = λ e. cc

words_some : (ws : List (List ℕ)) → ws ≢ [] → no_words ws ≡ false
words_some [] h = absurd (h refl)
words_some (w ∷ ws) h = refl

front_bad : (s : ParserState) (w : List ℕ) (ws : List (List ℕ)) (why : IptWhy) → s.stage ≡ Front → table_line_of s w ws ≡ Err why → IsBad s w ws why
front_bad s w ws why stage h = elim (if_parts (not (begins_with 42 w)) (Err BadLine) _ (Err why) h) [
  | inl bad ↦ subst (IsBad s w ws) (err_said BadLine why bad.1) (no_table stage (not-true (begins_with 42 w) bad.0))
  | inr star ↦ elim (if_parts (not (bytes_eq w (codes "*filter"))) (Err OtherTable) _ (Err why) star.1) [
    | inl bad ↦ subst (IsBad s w ws) (err_said OtherTable why bad.1) (other_table stage (not-false (begins_with 42 w) star.0) (apart w (codes "*filter") (not-true (bytes_eq w (codes "*filter")) bad.0)))
    | inr word ↦ elim (if_parts (not (no_words ws)) (Err BadLine) (Ok (record s { stage = Table })) (Err why) word.1) [
      | inl bad ↦ subst (IsBad s w ws) (err_said BadLine why bad.1) (behind_table stage (bytes_same w (codes "*filter") (not-false (bytes_eq w (codes "*filter")) word.0)) (some_words ws (not-true (no_words ws) bad.0)))
      | inr fine ↦ let wrong = fine.1 in cc
    ]
  ]
]

chain_bad : (s : ParserState) (w : List ℕ) (ws : List (List ℕ)) (why : IptWhy) (r : Result ParserState IptWhy) → s.stage ≡ Table → begins_with 58 w ≡ true → Says s (w ∷ ws) r → r ≡ Err why → IsBad s w ws why
chain_bad s w ws why (Ok t) stage colon says h = cc
chain_bad s w ws why (Err cause) stage colon (inl bad) h = subst (IsBad s w ws) (sym bad.0 ∙ err_said cause why h) (bad_chain stage colon bad.1)
chain_bad s w ws why (Err cause) stage colon (inr full) h =
    subst (IsBad s w ws) (sym full.0 ∙ err_said cause why h) (many_chains stage full.1.name full.1.line full.1.number full.1.legal full.1.full)

begins_of : (w : List ℕ) → (bytes_eq w (codes "-A") || begins_with 91 w) ≡ true → BeginsRule w
begins_of w h = split_bool (bytes_eq w (codes "-A"))
    (λ is. inl (bytes_same w (codes "-A") is))
    (λ other. inr (second (bytes_eq w (codes "-A")) (begins_with 91 w) other h))
  where
    second : (a b : Bool) → a ≡ false → (a || b) ≡ true → b ≡ true
    second true b e f = cc
    second false b e f = f

or_true : (b : Bool) → (b || true) ≡ true
or_true true = refl
or_true false = refl

begins_read : (w : List ℕ) → BeginsRule w → (bytes_eq w (codes "-A") || begins_with 91 w) ≡ true
begins_read w (inl is) = ap (λ v. bytes_eq v (codes "-A") || begins_with 91 v) is
begins_read w (inr is) = ap (λ b. bytes_eq w (codes "-A") || b) is ∙ or_true (bytes_eq w (codes "-A"))

begins_no_chain : (w : List ℕ) → BeginsRule w → begins_with 58 w ≡ false
begins_no_chain w (inl is) = ap (begins_with 58) is
begins_no_chain [] (inr is) = cc
begins_no_chain (b ∷ bs) (inr is) = grind (arith, nat_tests)

rule_bad : (s : ParserState) (w : List ℕ) (ws : List (List ℕ)) (why : IptWhy) (r : Result (ℕ × Rule) IptWhy) → s.stage ≡ Table → BeginsRule w → rule_line_of s.chains (w ∷ ws) ≡ r → with_read_rule s r ≡ Err why → IsBad s w ws why
rule_bad s w ws why (Err cause) stage begins read h =
    subst (IsBad s w ws) (err_said cause why h) (bad_rule stage begins (bad_rule_of_read s.chains (w ∷ ws) cause read))
rule_bad s w ws why (Ok r) stage begins read h = elim (if_parts (nat_le rule_limit s.rules) (Err TooMany) (Ok (record s { chains = with_rule s.chains r.0 r.1; rules = s.rules + 1 })) (Err why) h) [
  | inl many ↦
      let full : 1000000 ≤ s.rules = grind (arith, nat_tests, many.0) in
      subst (IsBad s w ws) (err_said TooMany why many.1) (many_rules stage begins r.0 r.1 (rule_line_of_read s.chains (w ∷ ws) r.0 r.1 read) full)
  | inr fine ↦ let wrong = fine.1 in cc
]

commit_bad : (s : ParserState) (w : List ℕ) (ws : List (List ℕ)) (why : IptWhy) → s.stage ≡ Table → begins_with 58 w ≡ false → (bytes_eq w (codes "-A") || begins_with 91 w) ≡ false → commit_line_of s w ws ≡ Err why → IsBad s w ws why
commit_bad s w ws why stage colon other h = elim (if_parts (not (bytes_eq w (codes "COMMIT"))) (Err BadLine) _ (Err why) h) [
  | inl bad ↦
      subst (IsBad s w ws) (err_said BadLine why bad.1)
      (other_line stage colon none (λ e. apart w (codes "COMMIT") (not-true (bytes_eq w (codes "COMMIT")) bad.0) (first_words w (codes "COMMIT") ws [] e).0))
  | inr word ↦ elim (if_parts (not (no_words ws)) (Err BadLine) (Ok (record s { stage = After })) (Err why) word.1) [
    | inl bad ↦
        subst (IsBad s w ws) (err_said BadLine why bad.1)
        (other_line stage colon none (λ e. some_words ws (not-true (no_words ws) bad.0) (first_words w (codes "COMMIT") ws [] e).1))
    | inr fine ↦ let wrong = fine.1 in cc
  ]
]
  where
    none : BeginsRule w → ⊥
    none begins = let is = begins_read w begins in cc

body_bad : (n : ℕ) (s : ParserState) (w : List ℕ) (ws : List (List ℕ)) (why : IptWhy) → s.stage ≡ Table → body_line_of n s w ws ≡ Err why → IsBad s w ws why
unfolding body_line_of
body_bad n s w ws why stage h = elim (if_parts (begins_with 58 w) (chain_line_of n s w ws) _ (Err why) h) [
  | inl colon ↦ chain_bad s w ws why (chain_line_of n s w ws) stage colon.0 (chain_says n s w ws colon.0) colon.1
  | inr rest ↦ elim (if_parts (bytes_eq w (codes "-A") || begins_with 91 w) _ (commit_line_of s w ws) (Err why) rest.1) [
    | inl append ↦ rule_bad s w ws why (rule_line_of s.chains (w ∷ ws)) stage (begins_of w append.0) refl append.1
    | inr other ↦ commit_bad s w ws why stage rest.0 other.0 other.1
  ]
]

bad_by : (n : ℕ) (s : ParserState) (w : List ℕ) (ws : List (List ℕ)) (why : IptWhy) (stage : Stage) → s.stage ≡ stage → line_at stage n s w ws ≡ Err why → IsBad s w ws why
bad_by n s w ws why Front is h = front_bad s w ws why is h
bad_by n s w ws why Table is h = body_bad n s w ws why is h
bad_by n s w ws why After is h = subst (IsBad s w ws) (err_said AfterCommit why h) (after_commit is)

pub bad_of_step : (n : ℕ) (s : ParserState) (w : List ℕ) (ws : List (List ℕ)) (why : IptWhy) → line_of_words n s (w ∷ ws) ≡ Err why → IsBad s w ws why
unfolding line_of_words
bad_of_step n s w ws why h = bad_by n s w ws why s.stage refl h

-- 4. A bad line is rejected.

at_stage : (n : ℕ) (s : ParserState) (w : List ℕ) (ws : List (List ℕ)) (stage : Stage) (r : Result ParserState IptWhy) → s.stage ≡ stage → line_at stage n s w ws ≡ r → line_of_words n s (w ∷ ws) ≡ r
unfolding line_of_words
at_stage n s w ws stage r is h = ap (λ (g : Stage). line_at g n s w ws) is ∙ h

chain_refused : (s : ParserState) (ws : List (List ℕ)) (r : Result ParserState IptWhy) → (MayDeclare s ws → ⊥) → Says s ws r → r ≡ Err BadChain
chain_refused s ws (Ok t) none says = absurd (none says)
chain_refused s ws (Err why) none (inl bad) = ap (λ e. Err e) bad.0
chain_refused s ws (Err why) none (inr full) = absurd (none (a_user full.1.name full.1.line full.1.number full.1.legal))

chain_full : (s : ParserState) (ws : List (List ℕ)) (n : ℕ) (name : List ℕ) (behind : List (List ℕ)) → IsOptionalCounter behind → number_of s.chains name ≡ None → is_user_name name ≡ true → 4096 ≤ length s.chains → chain_line_of n s (58 ∷ name) (policy_text None ∷ behind) ≡ Err TooMany
unfolding chain_line_of
chain_full s ws n name behind counted number legal full =
    let many : nat_le chain_limit (length s.chains) ≡ true = grind (arith, nat_tests) in
    rw (policy_read (codes "-") behind counted, number, legal, many) refl

colon_body : (n : ℕ) (s : ParserState) (w : List ℕ) (ws : List (List ℕ)) → begins_with 58 w ≡ true → body_line_of n s w ws ≡ chain_line_of n s w ws
unfolding body_line_of
colon_body n s w ws colon = rw colon refl

rule_body : (n : ℕ) (s : ParserState) (w : List ℕ) (ws : List (List ℕ)) → BeginsRule w → body_line_of n s w ws ≡ with_read_rule s (rule_line_of s.chains (w ∷ ws))
unfolding body_line_of
rule_body n s w ws begins = rw (begins_no_chain w begins, begins_read w begins) refl

other_body : (n : ℕ) (s : ParserState) (w : List ℕ) (ws : List (List ℕ)) → begins_with 58 w ≡ false → (bytes_eq w (codes "-A") || begins_with 91 w) ≡ false → body_line_of n s w ws ≡ commit_line_of s w ws
unfolding body_line_of
other_body n s w ws colon other = rw (colon, other) refl

commit_refused : (s : ParserState) (w : List ℕ) (ws : List (List ℕ)) → w ∷ ws ≢ codes "COMMIT" ∷ [] → commit_line_of s w ws ≡ Err BadLine
commit_refused s w ws other = split_bool (bytes_eq w (codes "COMMIT"))
    (λ is.
    let some : no_words ws ≡ false = words_some ws (λ none. other (λ i. bytes_same w (codes "COMMIT") is i ∷ none i)) in
    rw (is, some) refl)
    (λ differs. rw differs refl)

not_begins : (w : List ℕ) → (BeginsRule w → ⊥) → (bytes_eq w (codes "-A") || begins_with 91 w) ≡ false
not_begins w none = split_bool (bytes_eq w (codes "-A") || begins_with 91 w) (λ is. absurd (none (begins_of w is))) (λ h. h)

pub step_of_bad : (n : ℕ) (s : ParserState) (w : List ℕ) (ws : List (List ℕ)) (why : IptWhy) → IsBad s w ws why → line_of_words n s (w ∷ ws) ≡ Err why
step_of_bad n s w ws why (no_table stage none) = at_stage n s w ws Front (Err BadLine) stage (rw none refl)
step_of_bad n s w ws why (other_table stage star other) = at_stage n s w ws Front (Err OtherTable) stage (rw (star, found_apart w (codes "*filter") other) refl)
step_of_bad n s w ws why (behind_table stage is some) =
    at_stage n s w ws Front (Err BadLine) stage (subst (λ (v : List ℕ). table_line_of s v ws ≡ Err BadLine) (sym is) (rw (words_some ws some) refl))
step_of_bad n s w ws why (bad_chain stage colon none) =
    at_stage n s w ws Table (Err BadChain) stage (colon_body n s w ws colon ∙ chain_refused s (w ∷ ws) (chain_line_of n s w ws) none (chain_says n s w ws colon))
step_of_bad n s w ws why (many_chains stage name line number legal full) =
    let parts = first_words w (58 ∷ name) ws (policy_text None ∷ line.0) line.2 in
    at_stage n s w ws Table (Err TooMany) stage
    (colon_body n s w ws (ap (begins_with 58) parts.0) ∙ (λ i. chain_line_of n s (parts.0 i) (parts.1 i)) ∙ chain_full s ws n name line.0 line.1 number legal full)
step_of_bad n s w ws why (bad_rule stage begins bad) =
    at_stage n s w ws Table (Err why) stage (rule_body n s w ws begins ∙ ap (with_read_rule s) (read_of_bad_rule s.chains (w ∷ ws) why bad))
step_of_bad n s w ws why (many_rules stage begins c r line full) =
    at_stage n s w ws Table (Err TooMany) stage (rule_body n s w ws begins ∙ ap (with_read_rule s) (read_of_rule_line s.chains (w ∷ ws) c r line) ∙ rules_full c r)
  where
    rules_full : (c : ℕ) (r : Rule) → with_read_rule s (Ok (c, r)) ≡ Err TooMany
    rules_full c r = let many : nat_le rule_limit s.rules ≡ true = grind (arith, nat_tests, full) in rw many refl
step_of_bad n s w ws why (other_line stage colon none other) =
    at_stage n s w ws Table (Err BadLine) stage (other_body n s w ws colon (not_begins w none) ∙ commit_refused s w ws other)
step_of_bad n s w ws why (after_commit stage) = at_stage n s w ws After (Err AfterCommit) stage refl

-- 5. The same for a line.

abbrev pub IsBadLine : ParserState → List (List ℕ) → IptWhy → Type 0
IsBadLine s ws why = (w : List ℕ) × (vs : List (List ℕ)) × (ws ≡ w ∷ vs) × IsBad s w vs why

words_bad : (n : ℕ) (s : ParserState) (ws : List (List ℕ)) (why : IptWhy) → are_comment ws ≡ false → line_of_words n s ws ≡ Err why → IsBadLine s ws why
words_bad n s [] why word h = cc
words_bad n s (w ∷ ws) why word h = (w, ws, refl, bad_of_step n s w ws why h)

pub bad_line_of_step : (n : ℕ) (s : ParserState) (l : List ℕ) (why : IptWhy) → is_comment l ≡ false → line_step n s l ≡ Err why → IsBadLine s (words l) why
unfolding is_comment
bad_line_of_step n s l why word h = words_bad n s (words l) why word h

pub step_of_bad_line : (n : ℕ) (s : ParserState) (l : List ℕ) (why : IptWhy) → IsBadLine s (words l) why → line_step n s l ≡ Err why
step_of_bad_line n s l why bad = ap (line_of_words n s) bad.2 ∙ step_of_bad n s bad.0 bad.1 why bad.3
