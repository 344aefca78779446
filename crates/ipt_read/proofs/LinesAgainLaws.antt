-- The text of a rule set is parsed back to the same chains.
use Rattle.std.proofs.Common.{◌≡◌, ℕ, ◌+◌, ◌<◌, ◌≤◌, true, false, IsTrue, List, [], ◌∷◌, ◌++◌, append-nil, append_assoc, Option, Some, None, inr, refl, sym, ap, ◌∙◌, subst, arith, length, map, length-append}
use Rattle.std.specs.Prelude.{if◌then◌else◌, codes, bytes_eq}
use Rattle.std.specs.List.{flat_map, concat, position_from}
use Rattle.text_core.specs.Lines.{words, lines, is_comment}
use Rattle.text_core.proofs.PiecesLaws.{lacks}
use Rattle.text_core.specs.Reading.{Follows}
use Rattle.text_core.proofs.LinesLaws.{lines_ended}
use Rattle.text_core.proofs.SpacedLaws.{spaced}
use Rattle.ipt_rules.specs.declared.rule.Policy.{Policy}
use Rattle.ipt_rules.specs.declared.rule.Rule.{Rule}
use Rattle.ipt_rules.specs.declared.rule.Target.{Target}
use Rattle.ipt_rules.specs.declared.rule.Target.TheVariants.{Jump}
use Rattle.ipt_rules.specs.Chain.{Chain, name_of, number_of, user_chain, with_rule, changed_at}
use Rattle.ipt_rules.specs.ChainTable.{rule_count}
use Rattle.ipt_rules.specs.Name.{is_user_name}
use Rattle.ipt_rules.specs.Text.{newline, policy_text, chain_line, rule_line, rule_lines, commit_line}
use Rattle.ipt_read.specs.Values.{IsCounter}
use Rattle.ipt_read.proofs.LineLaws.{IsTextLine}
use Rattle.ipt_read.specs.ParserStates.{Table, After, ParserState}
use Rattle.ipt_read.specs.Grammar.{IsLine, user, rule, commit}
use Rattle.ipt_read.specs.inner.WrittenWords.{rule_words}
use Rattle.ipt_read.proofs.FineRulesLaws.{AddressFits}
use Rattle.ipt_rules.specs.inner.RuleParts.{is_rule}
use Rattle.ipt_read.proofs.WrittenLaws.{IsFound, rule_words_read}
use Rattle.ipt_read.proofs.WrittenTextLaws.{rule_line_spaced}

-- 1. Lines from a position within the table up to COMMIT.

abbrev pub within : List Chain → List ℕ → ℕ → ParserState
within chains declared rules = record { stage = Table; chains = chains; declared = declared; rules = rules }

-- From these chains and this number of rules the lines lead to the end of a text with the chains `all`.
abbrev pub Reaches : List (List ℕ) → List Chain → ℕ → List Chain → Type 0
Reaches ls chains rules all = (n : ℕ) (declared : List ℕ) → (u : ParserState) × Follows IsTextLine n (within chains declared rules) ls u × (u.stage ≡ After) × (u.chains ≡ all)

-- A line that is no comment.
pub record IsWritten (l : List ℕ) (ws : List (List ℕ)) : Type 0 where
  pub read : words l ≡ ws
  pub counts : is_comment l ≡ false
  pub ends : lacks 10 l ≡ true

reaches_line : (l : List ℕ) (ws : List (List ℕ)) (ls : List (List ℕ)) (chains now all : List Chain) (rules more : ℕ) → IsWritten l ws → ((n : ℕ) (d : List ℕ) → (e : List ℕ) × IsLine n (within chains d rules) ws (within now e more)) → Reaches ls now more all → Reaches (l ∷ ls) chains rules all
reaches_line l ws ls chains now all rules more written step others = λ n d.
    let one = step n d in
    let rest = others (n + 1) one.0 in
    (rest.0, inr (within now one.0 more, written.counts, subst (λ (vs : List (List ℕ)). IsLine n (within chains d rules) vs (within now one.0 more)) (sym written.read) one.1, rest.1), rest.2, rest.3)

commit_written : IsWritten (codes "COMMIT") (codes "COMMIT" ∷ [])
unfolding is_comment
commit_written = record { read = refl; counts = refl; ends = refl }

-- The same for formatted lines, each with its line end.
abbrev pub Says : List (List ℕ) → List Chain → ℕ → List Chain → Type 0
Says ts chains rules all = Reaches (lines (concat ts)) chains rules all

line_off : (t l : List ℕ) (ts : List (List ℕ)) → t ≡ l ++ newline → lacks 10 l ≡ true → lines (concat (t ∷ ts)) ≡ l ∷ lines (concat ts)
line_off t l ts is ends =
    ap (λ v. lines (v ++ concat ts)) is ∙ ap lines (append_assoc l newline (concat ts)) ∙ lines_ended l (concat ts) ends

says_line : (t l : List ℕ) (ws : List (List ℕ)) (ts : List (List ℕ)) (chains now all : List Chain) (rules more : ℕ) → t ≡ l ++ newline → IsWritten l ws → ((n : ℕ) (d : List ℕ) → (e : List ℕ) × IsLine n (within chains d rules) ws (within now e more)) → Says ts now more all → Says (t ∷ ts) chains rules all
says_line t l ws ts chains now all rules more is written step others =
    subst (λ (ls : List (List ℕ)). Reaches ls chains rules all) (sym (line_off t l ts is written.ends)) (reaches_line l ws (lines (concat ts)) chains now all rules more written step others)

pub says_commit : (chains : List Chain) (rules : ℕ) → Says (commit_line ∷ []) chains rules chains
says_commit chains rules = λ n d.
    (record { stage = After; chains = chains; declared = d; rules = rules }, inr (record { stage = After; chains = chains; declared = d; rules = rules }, commit_written.counts, commit refl, refl), refl, refl)

-- 2. User chains.

abbrev pub user_words : List ℕ → List (List ℕ)
user_words name = (58 ∷ name) ∷ codes "-" ∷ codes "[0:0]" ∷ []

pub zero_count : IsCounter (codes "[0:0]")
zero_count = record { packets = codes "0"; bytes = codes "0"; are_figures = (refl, refl); written = refl }

-- Each user chain has a new and legal name, and the limit is not reached.
abbrev pub AreNew : List Chain → List Chain → Type 0
AreNew front [] = Unit {0}
AreNew front (x ∷ xs) = (number_of front x.name ≡ None) × IsTrue (is_user_name x.name) × (length front < 4096) × IsWritten (spaced (user_words x.name)) (user_words x.name) × (x.policy ≡ None) × AreNew (front ++ user_chain x.name ∷ []) xs

abbrev pub bare : Chain → Chain
bare x = user_chain x.name

user_step : (front : List Chain) (x : Chain) → number_of front x.name ≡ None → IsTrue (is_user_name x.name) → length front < 4096 → (n : ℕ) (d : List ℕ) → (e : List ℕ) × IsLine n (within front d 0) (user_words x.name) (within (front ++ user_chain x.name ∷ []) e 0)
user_step front x new legal few = λ n d.
    (d ++ n ∷ [], user refl (codes "[0:0]" ∷ [], inr (codes "[0:0]", zero_count, refl), refl) new legal few)

user_line_spaced : (x : Chain) → x.policy ≡ None → chain_line x ≡ spaced (user_words x.name) ++ newline
unfolding chain_line
user_line_spaced x plain =
    ap (λ (o : Option Policy). 58 ∷ (x.name ++ (32 ∷ (policy_text o ++ (codes " [0:0]" ++ newline))))) plain
    ∙ ap (λ v. 58 ∷ v) (sym (append_assoc x.name (codes " - [0:0]") newline))

pub users_reach : (front users : List Chain) (ts : List (List ℕ)) (all : List Chain) → AreNew front users → Says ts (front ++ map bare users) 0 all → Says (map chain_line users ++ ts) front 0 all
users_reach front [] ts all new others = subst (λ (cs : List Chain). Says ts cs 0 all) (append-nil front) others
users_reach front (x ∷ xs) ts all new others =
    says_line (chain_line x) (spaced (user_words x.name)) (user_words x.name) (map chain_line xs ++ ts) front (front ++ bare x ∷ []) all 0 0 (user_line_spaced x new.4) new.3 (user_step front x new.0 new.1 new.2)
    (users_reach (front ++ bare x ∷ []) xs ts all new.5 (subst (λ (cs : List Chain). Says ts cs 0 all) (sym (append_assoc front (bare x ∷ []) (map bare xs))) others))

-- 3. Rules, chain by chain.

unfoldable pub names_of : List Chain → List (List ℕ)
names_of xs = map (λ x. x.name) xs

pub names_append : (xs ys : List Chain) → names_of (xs ++ ys) ≡ names_of xs ++ map (λ y. y.name) ys
unfolding names_of
names_append [] ys = refl
names_append (x ∷ xs) ys = ap (λ ns. x.name ∷ ns) (names_append xs ys)

position_names : (w : List ℕ) (i : ℕ) (xs : List Chain) → position_from (λ x. bytes_eq x.name w) i xs ≡ position_from (λ n. bytes_eq n w) i (names_of xs)
unfolding names_of
position_names w i [] = refl
position_names w i (x ∷ xs) = ap (λ o. if bytes_eq x.name w then Some i else o) (position_names w (i + 1) xs)

-- Lookup gives the same results in chains with the same names.
pub same_numbers : (xs ys : List Chain) (w : List ℕ) → names_of xs ≡ names_of ys → number_of xs w ≡ number_of ys w
same_numbers xs ys w same =
    position_names w 0 xs ∙ ap (position_from (λ n. bytes_eq n w) 0) same ∙ sym (position_names w 0 ys)

changed_middle : (done : List Chain) (x : Chain) (tail : List Chain) (f : Chain → Chain) → changed_at (done ++ x ∷ tail) (length done) f ≡ done ++ f x ∷ tail
changed_middle [] x tail f = refl
changed_middle (y ∷ done) x tail f = ap (λ ys. y ∷ ys) (changed_middle done x tail f)

names_middle : (done : List Chain) (x y : Chain) (tail : List Chain) → x.name ≡ y.name → names_of (done ++ x ∷ tail) ≡ names_of (done ++ y ∷ tail)
unfolding names_of
names_middle [] x y tail same = ap (λ n. n ∷ map (λ z. z.name) tail) same
names_middle (z ∷ done) x y tail same = ap (λ ns. z.name ∷ ns) (names_middle done x y tail same)

abbrev filled : Chain → List Rule → Chain
filled x rules = record x { rules = rules }

-- The requirements for parsing a rule back.
abbrev pub RuleFits : List Chain → Rule → Type 0
RuleFits all r = AddressFits r.src × AddressFits r.dst × IsFound all all r.target × IsTrue (is_rule r)

abbrev pub AllFit : List Chain → List ℕ → List Rule → Type 0
AllFit all name [] = Unit {0}
AllFit all name (r ∷ rs) = RuleFits all r × IsWritten (spaced (rule_words all name r)) (rule_words all name r) × AllFit all name rs

found_alike : (said all : List Chain) (t : Target) → names_of said ≡ names_of all → IsFound all all t → IsFound said all t
found_alike said all (Jump c) same found = (same_numbers said all (name_of all c) same ∙ found.0, found.1, found.2)
found_alike said all _ same found = tt

rule_step : (all done : List Chain) (x : Chain) (tail : List Chain) (pre : List Rule) (k : ℕ) (r : Rule) → names_of (done ++ x ∷ tail) ≡ names_of all → number_of all x.name ≡ Some (length done) → k < 1000000 → RuleFits all r → (n : ℕ) (d : List ℕ) → (e : List ℕ) × IsLine n (within (done ++ filled x pre ∷ tail) d k) (rule_words all x.name r) (within (done ++ filled x (pre ++ r ∷ []) ∷ tail) e (k + 1))
unfolding with_rule
rule_step all done x tail pre k r names number few fits = λ n d.
    let same = names_middle done (filled x pre) x tail refl ∙ names in
    let there = same_numbers (done ++ filled x pre ∷ tail) all x.name same ∙ number in
    let line = rule_words_read (done ++ filled x pre ∷ tail) all x.name (length done) r there fits.0 fits.1 (found_alike (done ++ filled x pre ∷ tail) all r.target same fits.2) fits.3 in
    (d, subst (λ (cs : List Chain). IsLine n (within (done ++ filled x pre ∷ tail) d k) (rule_words all x.name r) (within cs d (k + 1))) (changed_middle done (filled x pre) tail (λ y. record y { rules = y.rules ++ r ∷ [] })) (rule refl line few))

abbrev bodies_of : List Chain → List ℕ → List Rule → List (List ℕ)
bodies_of all name rules = map (rule_line all name) rules

fill_reach : (all done : List Chain) (x : Chain) (tail : List Chain) (pre rs : List Rule) (k : ℕ) (ts : List (List ℕ)) → names_of (done ++ x ∷ tail) ≡ names_of all → number_of all x.name ≡ Some (length done) → k + length rs ≤ 1000000 → AllFit all x.name rs → Says ts (done ++ filled x (pre ++ rs) ∷ tail) (k + length rs) all → Says (bodies_of all x.name rs ++ ts) (done ++ filled x pre ∷ tail) k all
fill_reach all done x tail pre [] k ts names number few fit others =
    subst (λ (rs : List Rule). Says ts (done ++ filled x rs ∷ tail) k all) (append-nil pre) (subst (λ (m : ℕ). Says ts (done ++ filled x (pre ++ []) ∷ tail) m all) (omega arith) others)
fill_reach all done x tail pre (r ∷ rs) k ts names number few fit others =
    says_line (rule_line all x.name r) (spaced (rule_words all x.name r)) (rule_words all x.name r) (bodies_of all x.name rs ++ ts) (done ++ filled x pre ∷ tail) (done ++ filled x (pre ++ r ∷ []) ∷ tail) all k (k + 1) (rule_line_spaced all x.name r) fit.1 (rule_step all done x tail pre k r names number (omega arith) fit.0)
    (fill_reach all done x tail (pre ++ r ∷ []) rs (k + 1) ts names number (omega arith) fit.2
    (subst (λ (qs : List Rule). Says ts (done ++ filled x qs ∷ tail) (k + 1 + length rs) all) (sym (append_assoc pre (r ∷ []) rs))
    (subst (λ (m : ℕ). Says ts (done ++ filled x (pre ++ r ∷ rs) ∷ tail) m all) (omega arith) others)))

-- A chain without its rules.
abbrev pub emptied : Chain → Chain
emptied x = record x { rules = [] }

-- Each chain from here on is found under its number, and its rules satisfy the requirements.
abbrev pub EachFits : List Chain → ℕ → List Chain → Type 0
EachFits all c [] = Unit {0}
EachFits all c (x ∷ xs) = (number_of all x.name ≡ Some c) × AllFit all x.name x.rules × EachFits all (c + 1) xs

names_emptied : (done todo : List Chain) → names_of (done ++ map emptied todo) ≡ names_of (done ++ todo)
unfolding names_of
names_emptied [] [] = refl
names_emptied [] (x ∷ todo) = ap (λ ns. x.name ∷ ns) (names_emptied [] todo)
names_emptied (y ∷ done) todo = ap (λ ns. y.name ∷ ns) (names_emptied done todo)

pub chains_reach : (all done todo : List Chain) (k : ℕ) (ts : List (List ℕ)) → done ++ todo ≡ all → EachFits all (length done) todo → k + rule_count todo ≤ 1000000 → Says ts all (k + rule_count todo) all → Says (flat_map (rule_lines all) todo ++ ts) (done ++ map emptied todo) k all
chains_reach all done [] k ts whole fits few others =
    subst (λ (cs : List Chain). Says ts cs k all) (sym whole) (subst (λ (m : ℕ). Says ts all m all) (omega arith) others)
chains_reach all done (x ∷ todo) k ts whole fits few others =
    let names : names_of (done ++ x ∷ map emptied todo) ≡ names_of all =
    names_middle done x x (map emptied todo) refl ∙ ap names_of (sym (append_assoc done (x ∷ []) (map emptied todo))) ∙ names_emptied (done ++ x ∷ []) todo ∙ ap names_of (append_assoc done (x ∷ []) todo ∙ whole) in
    subst (λ (bs : List (List ℕ)). Says bs (done ++ emptied x ∷ map emptied todo) k all) (sym (append_assoc (bodies_of all x.name x.rules) (flat_map (rule_lines all) todo) ts))
    (fill_reach all done x (map emptied todo) [] x.rules k (flat_map (rule_lines all) todo ++ ts) names fits.0 (omega arith) fits.1
    (subst (λ (cs : List Chain). Says (flat_map (rule_lines all) todo ++ ts) cs (k + length x.rules) all) (append_assoc done (x ∷ []) (map emptied todo))
    (chains_reach all (done ++ x ∷ []) todo (k + length x.rules) ts (append_assoc done (x ∷ []) todo ∙ whole)
    (subst (λ (c : ℕ). EachFits all c todo) (let e : length done + 1 ≡ length (done ++ x ∷ []) = omega (arith, length-append done (x ∷ [])) in e) fits.2)
    (omega arith)
    (subst (λ (m : ℕ). Says ts all m all) (omega arith) others))))
