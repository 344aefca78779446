-- Round trip, line by line: the text of a rule set is parsed back to the same chains.
use Rattle.std.proofs.Common.{◌≡◌, ℕ, suc, ◌+◌, ◌<◌, ◌≤◌, Bool, true, false, cond, List, [], ◌∷◌, ◌++◌, append_assoc, Option, Some, None, inr, refl, sym, ap, ◌∙◌, subst, arith, length, map, length-append}
use Rattle.std.specs.Prelude.{codes, bytes_eq, IsSome}
use Rattle.std.specs.List.{position_from, flat_map, concat, list_all}
use Rattle.text_core.specs.Lines.{lines, is_comment}
use Rattle.text_core.proofs.LinesLaws.{lines_ended}
use Rattle.text_core.proofs.SpacedLaws.{spaced, prints}
use Rattle.text_core.specs.Reading.{Follows}
use Rattle.ipt_rules.specs.declared.rule.Policy.{Policy}
use Rattle.ipt_rules.specs.declared.rule.Policy.TheVariants.{Accept, Drop}
use Rattle.ipt_rules.specs.declared.rule.Rule.{Rule}
use Rattle.ipt_rules.specs.declared.rule.Target.{Target}
use Rattle.ipt_rules.specs.declared.rule.Target.TheVariants.{Jump}
use Rattle.ipt_rules.specs.Chain.{Chain, name_of, policy_of, number_of, with_policy, built_in_chains}
use Rattle.ipt_rules.specs.ChainTable.{rule_count}
use Rattle.ipt_rules.specs.inner.ChainTable.{IsTable}
use Rattle.ipt_rules.specs.Name.{is_user_name}
use Rattle.ipt_rules.specs.Text.{newline, policy_text, chain_line, rule_lines, table_line, commit_line, text}
use Rattle.ipt_read.proofs.LineLaws.{IsTextLine}
use Rattle.ipt_read.specs.ParserStates.{Table, After, ParserState, initial_state}
use Rattle.ipt_read.specs.Grammar.{IsLine, table, built_in, IsChainLine}
use Rattle.ipt_read.specs.inner.Goes.{Goes}
use Rattle.ipt_read.proofs.FineRulesLaws.{RulesAreFine, ChainsAreFine, HasFineRules}
use Rattle.ipt_read.proofs.WrittenLaws.{IsFound}
use Rattle.ipt_read.proofs.PrintedLaws.{is_printed, spaced_written, user_name_printed, user_name_free, JumpPrints, rule_written}
use Rattle.ipt_read.proofs.LinesAgainLaws.{IsWritten, Says, AreNew, AllFit, EachFits, user_words, users_reach, chains_reach, says_commit, emptied, bare, zero_count, same_numbers, names_of, names_append}

-- 1. Indices in the list of chains.

name_middle : (done : List Chain) (x : Chain) (todo : List Chain) → name_of (done ++ x ∷ todo) (length done) ≡ x.name
name_middle [] x todo = refl
name_middle (y ∷ done) x todo = name_middle done x todo

policy_middle : (done : List Chain) (x : Chain) (todo : List Chain) → policy_of (done ++ x ∷ todo) (length done) ≡ x.policy
policy_middle [] x todo = refl
policy_middle (y ∷ done) x todo = policy_middle done x todo

length_middle : (done : List Chain) (x : Chain) (todo : List Chain) → length done < length (done ++ x ∷ todo)
length_middle done x todo = omega (arith, length-append done (x ∷ todo))

found_middle : (all done : List Chain) (x : Chain) (todo : List Chain) → IsTable all → done ++ x ∷ todo ≡ all → number_of all x.name ≡ Some (length done)
found_middle all done x todo named whole =
    ap (number_of all) (sym (name_middle done x todo) ∙ ap (λ cs. name_of cs (length done)) whole) ∙ named.found (length done) (subst (λ (cs : List Chain). length done < length cs) whole (length_middle done x todo))

-- A name that is found after some chains is the name of none of them.
unfound_by : (t : Bool) (i n : ℕ) (o o' : Option ℕ) → (o ≡ Some (i + 1 + n) → o' ≡ None) → cond t (Some i) o ≡ Some (i + suc n) → cond t (Some i) o' ≡ None
unfound_by true i n o o' others h = let e : i ≡ i + suc n = cc in absurd (omega arith)
unfound_by false i n o o' others h = others (h ∙ ap (λ k. Some k) (let e : i + suc n ≡ i + 1 + n = omega arith in e))

unfound_from : (p : Chain → Bool) (i : ℕ) (xs ys : List Chain) → position_from p i (xs ++ ys) ≡ Some (i + length xs) → position_from p i xs ≡ None
unfound_from p i [] ys h = refl
unfound_from p i (x ∷ xs) ys h =
    unfound_by (p x) i (length xs) (position_from p (i + 1) (xs ++ ys)) (position_from p (i + 1) xs) (unfound_from p (i + 1) xs ys) h

unfound : (all done todo : List Chain) (w : List ℕ) → done ++ todo ≡ all → number_of all w ≡ Some (length done) → number_of done w ≡ None
unfound all done todo w whole h =
    unfound_from (λ x. bytes_eq x.name w) 0 done todo (ap (λ cs. number_of cs w) whole ∙ h ∙ ap (λ k. Some k) (let e : length done ≡ 0 + length done = omega arith in e))

-- 2. User chains are new, and their rules satisfy the requirements.

user_at : (all done : List Chain) (x : Chain) (todo : List Chain) → IsTable all → done ++ x ∷ todo ≡ all → 3 ≤ length done → (is_user_name x.name ≡ true) × (x.policy ≡ None)
user_at all done x todo named whole high =
    let there : length done < length all = subst (λ (cs : List Chain). length done < length cs) whole (length_middle done x todo) in
    let user_is = named.user (length done) high there in
    let name_is : name_of all (length done) ≡ x.name = ap (λ cs. name_of cs (length done)) (sym whole) ∙ name_middle done x todo in
    let policy_is : policy_of all (length done) ≡ x.policy = ap (λ cs. policy_of cs (length done)) (sym whole) ∙ policy_middle done x todo in
    (subst (λ (w : List ℕ). is_user_name w ≡ true) name_is user_is.0, sym policy_is ∙ user_is.1)

user_written : (name : List ℕ) → is_user_name name ≡ true → IsWritten (spaced (user_words name)) (user_words name)
user_written name legal =
    let printed = user_name_printed name legal in
    spaced_written (58 ∷ name) (codes "-" ∷ codes "[0:0]" ∷ []) (rw printed.0 refl) refl

names_more : (front done : List Chain) (x : Chain) → names_of front ≡ names_of done → names_of (front ++ bare x ∷ []) ≡ names_of (done ++ x ∷ [])
names_more front done x same = names_append front (bare x ∷ []) ∙ ap (λ ns. ns ++ x.name ∷ []) same ∙ sym (names_append done (x ∷ []))

are_new : (all front done users : List Chain) → IsTable all → length all ≤ 4096 → names_of front ≡ names_of done → length front ≡ length done → done ++ users ≡ all → 3 ≤ length done → AreNew front users
are_new all front done [] named few names lengths whole high = tt
are_new all front done (x ∷ xs) named few names lengths whole high =
    let legal = user_at all done x xs named whole high in
    let there : length done < length all = subst (λ (cs : List Chain). length done < length cs) whole (length_middle done x xs) in (
      same_numbers front done x.name names ∙ unfound all done (x ∷ xs) x.name whole (found_middle all done x xs named whole),
      legal.0,
      omega arith,
      user_written x.name legal.0,
      legal.1,
      are_new all (front ++ bare x ∷ []) (done ++ x ∷ []) xs named few (names_more front done x names) (omega (arith, length-append front (bare x ∷ []), length-append done (x ∷ []))) (append_assoc done (x ∷ []) xs ∙ whole) (omega (arith, length-append done (x ∷ []))),
    )

jump_found : (all : List Chain) (t : Target) → IsTable all → Goes (length all) t → IsFound all all t × JumpPrints all t
jump_found all (Jump c) named goes =
    let legal = (named.user c goes.0 goes.1).0 in
    ((named.found c goes.1, goes.0, user_name_free (name_of all c) legal), (user_name_printed (name_of all c) legal).1)
jump_found all _ named goes = (tt, tt)

all_fit : (all : List Chain) (name : List ℕ) (rs : List Rule) → IsTable all → is_printed name ≡ true → RulesAreFine (length all) rs → AllFit all name rs
all_fit all name [] named printed fine = tt
all_fit all name (r ∷ rs) named printed fine =
    let found = jump_found all r.target named fine.2 in
    ((fine.0, fine.1, found.0, fine.3), rule_written all name r printed fine.3 found.1, all_fit all name rs named printed fine.4)

-- The names are printable.
abbrev ArePrinted : List Chain → Type 0
ArePrinted [] = Unit {0}
ArePrinted (x ∷ xs) = (is_printed x.name ≡ true) × ArePrinted xs

each_fits : (all done todo : List Chain) (c : ℕ) → IsTable all → c ≡ length done → done ++ todo ≡ all → ArePrinted todo → ChainsAreFine (length all) todo → EachFits all c todo
each_fits all done [] c named is whole printed fine = tt
each_fits all done (x ∷ xs) c named is whole printed fine = (
  found_middle all done x xs named whole ∙ ap (λ k. Some k) (sym is),
  all_fit all x.name x.rules named printed.0 fine.0,
  each_fits all (done ++ x ∷ []) xs (c + 1) named (omega (arith, is, length-append done (x ∷ []))) (append_assoc done (x ∷ []) xs ∙ whole) printed.1 fine.1,
)

users_printed : (all done users : List Chain) → IsTable all → done ++ users ≡ all → 3 ≤ length done → ArePrinted users
users_printed all done [] named whole high = tt
users_printed all done (x ∷ xs) named whole high =
    ((user_name_printed x.name (user_at all done x xs named whole high).0).1, users_printed all (done ++ x ∷ []) xs named (append_assoc done (x ∷ []) xs ∙ whole) (omega (arith, length-append done (x ∷ []))))

-- 3. The head of the text: the table line and the three built-in chains.

abbrev built : List ℕ → Policy → Chain
built name policy = record { name = name; policy = Some policy; rules = [] }

abbrev built_words : List ℕ → Policy → List (List ℕ)
built_words name policy = (58 ∷ name) ∷ policy_text (Some policy) ∷ codes "[0:0]" ∷ []

built_line : (name : List ℕ) (policy : Policy) → IsChainLine (built_words name policy) name (policy_text (Some policy))
built_line name policy = (codes "[0:0]" ∷ [], inr (codes "[0:0]", zero_count, refl), refl)

-- The three policies replace the initial ones, by their lines.
abbrev three : Policy → Policy → Policy → List Chain
three p q r = built (codes "INPUT") p ∷ built (codes "FORWARD") q ∷ built (codes "OUTPUT") r ∷ []

input_line : (p : Policy) → IsLine 2 (record { stage = Table; chains = built_in_chains; declared = 0 ∷ 0 ∷ 0 ∷ []; rules = 0 }) (built_words (codes "INPUT") p) (record { stage = Table; chains = three p Accept Accept; declared = 2 ∷ 0 ∷ 0 ∷ []; rules = 0 })
unfolding with_policy
input_line p = built_in {c = 0} p refl (built_line (codes "INPUT") p) refl (omega arith) refl

forward_line : (p q : Policy) → IsLine 3 (record { stage = Table; chains = three p Accept Accept; declared = 2 ∷ 0 ∷ 0 ∷ []; rules = 0 }) (built_words (codes "FORWARD") q) (record { stage = Table; chains = three p q Accept; declared = 2 ∷ 3 ∷ 0 ∷ []; rules = 0 })
unfolding with_policy
forward_line p q = built_in {c = 1} q refl (built_line (codes "FORWARD") q) refl (omega arith) refl

output_line : (p q r : Policy) → IsLine 4 (record { stage = Table; chains = three p q Accept; declared = 2 ∷ 3 ∷ 0 ∷ []; rules = 0 }) (built_words (codes "OUTPUT") r) (record { stage = Table; chains = three p q r; declared = 2 ∷ 3 ∷ 4 ∷ []; rules = 0 })
unfolding with_policy
output_line p q r = built_in {c = 2} r refl (built_line (codes "OUTPUT") r) refl (omega arith) refl

table_written : IsWritten (codes "*filter") (codes "*filter" ∷ [])
unfolding is_comment
table_written = record { read = refl; counts = refl; ends = refl }

built_written : (name : List ℕ) (p : Policy) → list_all prints name ≡ true → IsWritten (spaced (built_words name p)) (built_words name p)
built_written name Accept printed = spaced_written (58 ∷ name) (codes "ACCEPT" ∷ codes "[0:0]" ∷ []) (rw printed refl) refl
built_written name Drop printed = spaced_written (58 ∷ name) (codes "DROP" ∷ codes "[0:0]" ∷ []) (rw printed refl) refl

-- One line of a text before others.
off_line : (n : ℕ) (s t u : ParserState) (line l : List ℕ) (ws : List (List ℕ)) (ts : List (List ℕ)) → line ≡ l ++ newline → IsWritten l ws → IsLine n s ws t → Follows IsTextLine (n + 1) t (lines (concat ts)) u → Follows IsTextLine n s (lines (concat (line ∷ ts))) u
off_line n s t u line l ws ts is written step others =
    subst (λ (ls : List (List ℕ)). Follows IsTextLine n s ls u) (sym (ap (λ v. lines (v ++ concat ts)) is ∙ ap lines (append_assoc l newline (concat ts)) ∙ lines_ended l (concat ts) written.ends))
    (inr (t, written.counts, subst (λ (vs : List (List ℕ)). IsLine n s vs t) (sym written.read) step, others))

built_text_of : (name : List ℕ) (p : Policy) → 58 ∷ (name ++ (32 ∷ (policy_text (Some p) ++ (codes " [0:0]" ++ newline)))) ≡ spaced (built_words name p) ++ newline
built_text_of name Accept = ap (λ v. 58 ∷ v) (sym (append_assoc name (codes " ACCEPT [0:0]") newline))
built_text_of name Drop = ap (λ v. 58 ∷ v) (sym (append_assoc name (codes " DROP [0:0]") newline))

built_text : (x : Chain) (name : List ℕ) (p : Policy) → x.name ≡ name → x.policy ≡ Some p → chain_line x ≡ spaced (built_words name p) ++ newline
unfolding chain_line
built_text x name p e f = ap (λ (o : Option Policy). 58 ∷ (x.name ++ (32 ∷ (policy_text o ++ (codes " [0:0]" ++ newline))))) f ∙ ap (λ v. 58 ∷ (v ++ (32 ∷ (policy_text (Some p) ++ (codes " [0:0]" ++ newline))))) e ∙ built_text_of name p

head_follows : (a b c : Chain) (p q r : Policy) (ts : List (List ℕ)) (all : List Chain) → a.name ≡ codes "INPUT" → a.policy ≡ Some p → b.name ≡ codes "FORWARD" → b.policy ≡ Some q → c.name ≡ codes "OUTPUT" → c.policy ≡ Some r → Says ts (three p q r) 0 all → (u : ParserState) × Follows IsTextLine 1 initial_state (lines (concat (table_line ∷ chain_line a ∷ chain_line b ∷ chain_line c ∷ ts))) u × (u.stage ≡ After) × (u.chains ≡ all)
head_follows a b c p q r ts all an ap' bn bp cn cp says =
    let rest = says 5 (2 ∷ 3 ∷ 4 ∷ []) in (
      rest.0,
      off_line 1 initial_state (record { stage = Table; chains = built_in_chains; declared = 0 ∷ 0 ∷ 0 ∷ []; rules = 0 }) rest.0 table_line (codes "*filter") (codes "*filter" ∷ []) (chain_line a ∷ chain_line b ∷ chain_line c ∷ ts) refl table_written (table refl)
          (off_line 2 (record { stage = Table; chains = built_in_chains; declared = 0 ∷ 0 ∷ 0 ∷ []; rules = 0 }) (record { stage = Table; chains = three p Accept Accept; declared = 2 ∷ 0 ∷ 0 ∷ []; rules = 0 }) rest.0 (chain_line a) (spaced (built_words (codes "INPUT") p)) (built_words (codes "INPUT") p) (chain_line b ∷ chain_line c ∷ ts) (built_text a (codes "INPUT") p an ap') (built_written (codes "INPUT") p refl) (input_line p)
          (off_line 3 (record { stage = Table; chains = three p Accept Accept; declared = 2 ∷ 0 ∷ 0 ∷ []; rules = 0 }) (record { stage = Table; chains = three p q Accept; declared = 2 ∷ 3 ∷ 0 ∷ []; rules = 0 }) rest.0 (chain_line b) (spaced (built_words (codes "FORWARD") q)) (built_words (codes "FORWARD") q) (chain_line c ∷ ts) (built_text b (codes "FORWARD") q bn bp) (built_written (codes "FORWARD") q refl) (forward_line p q)
          (off_line 4 (record { stage = Table; chains = three p q Accept; declared = 2 ∷ 3 ∷ 0 ∷ []; rules = 0 }) (record { stage = Table; chains = three p q r; declared = 2 ∷ 3 ∷ 4 ∷ []; rules = 0 }) rest.0 (chain_line c) (spaced (built_words (codes "OUTPUT") r)) (built_words (codes "OUTPUT") r) ts (built_text c (codes "OUTPUT") r cn cp) (built_written (codes "OUTPUT") r refl) (output_line p q r) rest.1))),
      rest.2,
      rest.3,
    )

-- 4. The entire text.

some_policy : (o : Option Policy) → IsSome o → (p : Policy) × (o ≡ Some p)
some_policy None h = cc
some_policy (Some p) h = (p, refl)

emptied_users : (all done users : List Chain) → IsTable all → done ++ users ≡ all → 3 ≤ length done → map emptied users ≡ map bare users
emptied_users all done [] named whole high = refl
emptied_users all done (x ∷ xs) named whole high =
    let plain = (user_at all done x xs named whole high).1 in
    let others = emptied_users all (done ++ x ∷ []) xs named (append_assoc done (x ∷ []) xs ∙ whole) (omega (arith, length-append done (x ∷ []))) in
    λ i. record { name = x.name; policy = plain i; rules = [] } ∷ others i

emptied_built : (x : Chain) (name : List ℕ) (p : Policy) → x.name ≡ name → x.policy ≡ Some p → emptied x ≡ built name p
emptied_built x name p e f = λ i. record { name = e i; policy = f i; rules = [] }

three_names : (a b c : Chain) (p q r : Policy) → a.name ≡ codes "INPUT" → b.name ≡ codes "FORWARD" → c.name ≡ codes "OUTPUT" → names_of (three p q r) ≡ names_of (a ∷ b ∷ c ∷ [])
unfolding names_of
three_names a b c p q r an bn cn = λ i. sym an i ∷ sym bn i ∷ sym cn i ∷ []

none_some : IsSome {T = Policy} None → ⊥
none_some h = cc

again_with : (a b c : Chain) (users : List Chain) (p q r : Policy) → HasFineRules (a ∷ b ∷ c ∷ users) → a.policy ≡ Some p → b.policy ≡ Some q → c.policy ≡ Some r → (u : ParserState) × Follows IsTextLine 1 initial_state (lines (text (a ∷ b ∷ c ∷ users))) u × (u.stage ≡ After) × (u.chains ≡ a ∷ b ∷ c ∷ users)
again_with a b c users p q r fine pa pb pc =
    let named : IsTable (a ∷ b ∷ c ∷ users) = fine.named in
    let an : a.name ≡ codes "INPUT" = named.input in
    let bn : b.name ≡ codes "FORWARD" = named.forward in
    let cn : c.name ≡ codes "OUTPUT" = named.output in
    let high : 3 ≤ length (a ∷ b ∷ c ∷ []) = omega arith in
    let printed : ArePrinted (a ∷ b ∷ c ∷ users) =
    (ap is_printed an, (ap is_printed bn, (ap is_printed cn, users_printed (a ∷ b ∷ c ∷ users) (a ∷ b ∷ c ∷ []) users named refl high))) in
    let fits = each_fits (a ∷ b ∷ c ∷ users) [] (a ∷ b ∷ c ∷ users) 0 named refl refl printed fine.fine in
    let end = says_commit (a ∷ b ∷ c ∷ users) (0 + rule_count (a ∷ b ∷ c ∷ users)) in
    let few : 0 + rule_count (a ∷ b ∷ c ∷ users) ≤ 1000000 = omega (arith, fine.few_rules) in
    let from_empty : Says (flat_map (rule_lines (a ∷ b ∷ c ∷ users)) (a ∷ b ∷ c ∷ users) ++ (commit_line ∷ [])) (emptied a ∷ emptied b ∷ emptied c ∷ map emptied users) 0 (a ∷ b ∷ c ∷ users) = chains_reach (a ∷ b ∷ c ∷ users) [] (a ∷ b ∷ c ∷ users) 0 (commit_line ∷ []) refl fits few end in
    let rest = emptied_users (a ∷ b ∷ c ∷ users) (a ∷ b ∷ c ∷ []) users named refl high in
    let start : emptied a ∷ emptied b ∷ emptied c ∷ map emptied users ≡ three p q r ++ map bare users =
    λ i. emptied_built a (codes "INPUT") p an pa i ∷ emptied_built b (codes "FORWARD") q bn pb i ∷ emptied_built c (codes "OUTPUT") r cn pc i ∷ rest i in
    let names : names_of (three p q r) ≡ names_of (a ∷ b ∷ c ∷ []) = three_names a b c p q r an bn cn in
    let new = are_new (a ∷ b ∷ c ∷ users) (three p q r) (a ∷ b ∷ c ∷ []) users named fine.few_chains names refl refl high in
    head_follows a b c p q r (map chain_line users ++ (flat_map (rule_lines (a ∷ b ∷ c ∷ users)) (a ∷ b ∷ c ∷ users) ++ (commit_line ∷ []))) (a ∷ b ∷ c ∷ users) an pa bn pb cn pc
    (users_reach (three p q r) users (flat_map (rule_lines (a ∷ b ∷ c ∷ users)) (a ∷ b ∷ c ∷ users) ++ (commit_line ∷ [])) (a ∷ b ∷ c ∷ users) new
    (subst (λ (cs : List Chain). Says (flat_map (rule_lines (a ∷ b ∷ c ∷ users)) (a ∷ b ∷ c ∷ users) ++ (commit_line ∷ [])) cs 0 (a ∷ b ∷ c ∷ users)) start from_empty))

pub again : (all : List Chain) → HasFineRules all → (u : ParserState) × Follows IsTextLine 1 initial_state (lines (text all)) u × (u.stage ≡ After) × (u.chains ≡ all)
again [] fine = absurd (none_some (fine.named.built_in 0 (omega arith)))
again (a ∷ []) fine = absurd (none_some (fine.named.built_in 1 (omega arith)))
again (a ∷ b ∷ []) fine = absurd (none_some (fine.named.built_in 2 (omega arith)))
again (a ∷ b ∷ c ∷ users) fine =
    let p = some_policy a.policy (fine.named.built_in 0 (omega arith)) in
    let q = some_policy b.policy (fine.named.built_in 1 (omega arith)) in
    let r = some_policy c.policy (fine.named.built_in 2 (omega arith)) in
    again_with a b c users p.0 q.0 r.0 fine p.1 q.1 r.1
