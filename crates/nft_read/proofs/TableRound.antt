-- The text of a table is parsed, line by line.
use Rattle.std.proofs.Common.{◌≡◌, ◌≢◌, ◌∙◌, ◌+◌, ◌≤◌, ◌<◌, ℕ, zero, suc, Bool, true, false, List, [], ◌∷◌, ◌++◌, append_assoc, Some, None, map, length, refl, sym, ap, subst, arith}
use Rattle.std.specs.Prelude.{bytes_eq, codes, drop, nat_lt, slice_get, if◌then◌else◌}
use Rattle.std.specs.Bool.{Decides}
use Rattle.std.specs.List.{AllByRecursion, concat, list_all, position_from}
use Rattle.std.specs.Option.{option_and_then, option_map_or}
use Rattle.std.proofs.lemmas.List.{append-nil}
use Rattle.std.proofs.lemmas.List.Folds.{concat-append}
use Rattle.std.proofs.lemmas.Bool.Decides.{nat_tests}
use Rattle.std.proofs.lemmas.Slice.Eq.{bytes_eq-Decides}
use Rattle.std.proofs.lemmas.Option.{same_Some, slice_get_within}
use Rattle.text_core.specs.Lines.{lines}
use Rattle.text_core.proofs.GetLaws.{get_front, get_seam}
use Rattle.text_core.proofs.LinesLaws.{lines_ended}
use Rattle.text_core.proofs.PiecesLaws.{lacks, lacks-append}
use Rattle.text_core.specs.Name.{is_name_byte}
use Rattle.nft_rules.specs.declared.table.Chain.{Chain}
use Rattle.nft_rules.specs.declared.table.Rule.{Rule}
use Rattle.nft_rules.specs.declared.table.Rule.TheVariants.{Map, Match}
use Rattle.nft_rules.specs.declared.table.Table.{Table}
use Rattle.nft_rules.specs.declared.table.End.{End}
use Rattle.nft_rules.specs.declared.table.End.TheVariants.{Source, Destination}
use Rattle.nft_rules.specs.declared.table.Element.{Element}
use Rattle.nft_rules.specs.Loadable.{AreDistinct, AreNamed, AreRules, IsChainName, LeadBack, IsRule}
use Rattle.nft_text.specs.Text.{chain_end, chain_head, chain_pieces, chains_pieces, forward_head, forward_pieces, name_of, rule_pieces, rules_pieces, table_end, table_head, table_text}
use Rattle.nft_read.specs.declared.reader.Phase.{Phase}
use Rattle.nft_read.specs.declared.reader.Phase.TheVariants.{Between, Base, Within, Blank, Forward, Closed, Done}
use Rattle.nft_read.specs.Reading.{ChainFits, IsTable, RuleFits}
use Rattle.nft_read.specs.Shape.{ChainShape, RuleShape, chain_shape, rule_shape, table_shape}
use Rattle.nft_read.specs.inner.LineSteps.{index_of, word}
use Rattle.nft_read.specs.inner.TableSteps.{State, closed_by, done_state, names_of, run, is_shape, start, step, with_rule, with_shape}
use Rattle.nft_space.specs.inner.Checks.{is_chain_name}
use Rattle.nft_space.proofs.CheckLaws.{name_decided, rule_decided}
use Rattle.nft_read.proofs.NameLaws.{map_last}
use Rattle.nft_read.proofs.ShapeTests.{shape_tested}
use Rattle.nft_read.proofs.WordRound.{Known, at_blank, blank, line_end, name_lacks, word_read}
use Rattle.nft_read.proofs.MatchRound.{map_line, rule_lacks, rule_line, rule_read, rule_text}

abbrev pub at : Phase → List ℕ → List RuleShape → List ChainShape → State
at phase name rules chains = record { phase = phase; name = name; rules = rules; chains = chains }

run_line : (s t : State) (l rest : List ℕ) → lacks 10 l ≡ true → step s l ≡ Some t → run s (lines (l ++ (10 ∷ rest))) ≡ run t (lines rest)
run_line s t l rest ended is = ap (run s) (lines_ended l rest ended) ∙ ap (λ o. option_and_then (λ u. run u (lines rest)) o) is

-- ---- The rules of a chain

valid_shape : (n : ℕ) (s : State) (r : Rule) → length s.chains ≡ n → IsRule n r → with_shape s (rule_shape r) ≡ Some (record s { rules = s.rules ++ rule_shape r ∷ [] })
valid_shape n s r count is =
    let valid : is_shape (length s.chains) (rule_shape r) ≡ true =
    ap (λ k. is_shape k (rule_shape r)) count ∙ sym (shape_tested n r) ∙ (rule_decided n r).1 is in
    rw valid refl

data InChain : Phase → Type 0 where
  within : InChain Within
  forward : InChain Forward

rule_step : (p : Phase) (name : List ℕ) (rules : List RuleShape) (chains : List ChainShape) (line : List ℕ) → InChain p
    → bytes_eq line (codes "\t}") ≡ false → step (at p name rules chains) line ≡ with_rule (at p name rules chains) line
unfolding step
rule_step _ name rules chains line within other = rw other refl
rule_step _ name rules chains line forward other = rw other refl

map_open : (all : List Chain) (end : End) (es : List Element) → bytes_eq (map_line all end es) (codes "\t}") ≡ false
map_open all end [] = refl
map_open all Source (e ∷ es) = refl
map_open all Destination (e ∷ es) = refl

rule_open : (all : List Chain) (rule : Rule) → bytes_eq (rule_line all rule) (codes "\t}") ≡ false
rule_open all (Map m) = map_open all m.end m.elements.items
rule_open all (Match r) = refl

rules_run : (all : List Chain) (n : ℕ) (p : Phase) (name : List ℕ) (chains : List ChainShape) → InChain p → Known (names_of chains) all n
    → length chains ≡ n → (rules : List RuleShape) (rs : List Rule) → AreRules n rs → AllByRecursion RuleFits rs → (rest : List ℕ)
    → run (at p name rules chains) (lines (concat (rules_pieces all rs) ++ rest)) ≡ run (at p name (rules ++ map rule_shape rs) chains) (lines rest)
rules_run all n p name chains inside known count rules [] are fits rest = ap (λ xs. run (at p name xs chains) (lines rest)) (sym (append-nil rules))
rules_run all n p name chains inside known count rules (r ∷ rs) are fits rest =
    let names = names_of chains in
    let more = concat (rules_pieces all rs) ++ rest in
    let text : concat (rule_pieces all r ++ rules_pieces all rs) ++ rest ≡ rule_line all r ++ (10 ∷ more) =
    ap (λ x. x ++ rest) (concat-append (rule_pieces all r) (rules_pieces all rs))
    ∙ append_assoc (concat (rule_pieces all r)) (concat (rules_pieces all rs)) rest ∙ rule_text all n r more are.0 in
    let stepped : step (at p name rules chains) (rule_line all r) ≡ Some (at p name (rules ++ rule_shape r ∷ []) chains) =
    rule_step p name rules chains (rule_line all r) inside (rule_open all r)
    ∙ ap (option_and_then (with_shape (at p name rules chains))) (rule_read names all n r known are.0 fits.0)
    ∙ valid_shape n (at p name rules chains) r count are.0 in
    ap (λ x. run (at p name rules chains) (lines x)) text
    ∙ run_line (at p name rules chains) (at p name (rules ++ rule_shape r ∷ []) chains) (rule_line all r) more (rule_lacks names all n r known are.0 fits.0) stepped
    ∙ rules_run all n p name chains inside known count (rules ++ rule_shape r ∷ []) rs are.1 fits.1 rest
    ∙ ap (λ xs. run (at p name xs chains) (lines rest)) (append_assoc rules (rule_shape r ∷ []) (map rule_shape rs))

-- ---- A chain

head_other : (name : List ℕ) → IsChainName name → bytes_eq (codes "\tchain " ++ (name ++ codes " {")) (codes "\tchain forward {") ≡ false
head_other name named = by_test (bytes_eq (codes "\tchain " ++ (name ++ codes " {")) (codes "\tchain forward {")) refl
  where
    by_test : (b : Bool) → bytes_eq (codes "\tchain " ++ (name ++ codes " {")) (codes "\tchain forward {") ≡ b → b ≡ false
    by_test false other = refl
    by_test true same =
        let equal = (bytes_eq-Decides (codes "\tchain " ++ (name ++ codes " {")) (codes "\tchain forward {")).0 same in
        let forward : name ≡ codes "forward" =
        sym (word_read name (codes " {") (name_lacks 32 name blank named.bytes) (at_blank (codes "{"))) ∙ ap (λ l. word (drop 7 l)) equal in
        absurd (named.other forward)

head_step : (name : List ℕ) (chains : List ChainShape) → IsChainName name
    → step (at Between [] [] chains) (codes "\tchain " ++ (name ++ codes " {")) ≡ Some (at Within name [] chains)
unfolding step
head_step name chains named =
    rw (head_other name named)
    (ap (λ w. if is_chain_name w then Some (at Within w [] chains) else None) (word_read name (codes " {") (name_lacks 32 name blank named.bytes) (at_blank (codes "{")))
    ∙ rw ((name_decided name).1 named) refl)

head_text : (name rest : List ℕ) → chain_head name ++ rest ≡ (codes "\tchain " ++ (name ++ codes " {")) ++ (10 ∷ rest)
unfolding chain_head
head_text name rest = ap (λ x. codes "\tchain " ++ x) (append_assoc name (codes " {\n") rest ∙ sym (append_assoc name (codes " {") (10 ∷ rest)))

head_lacks : (name : List ℕ) → IsChainName name → lacks 10 (codes "\tchain " ++ (name ++ codes " {")) ≡ true
head_lacks name named =
    lacks-append 10 (codes "\tchain ") (name ++ codes " {") refl (lacks-append 10 name (codes " {") (name_lacks 10 name line_end named.bytes) refl)

close_step : (name : List ℕ) (rules : List RuleShape) (chains : List ChainShape) → nat_lt (length chains) 100000 ≡ true
    → index_of (names_of chains) name ≡ None
    → step (at Within name rules chains) (codes "\t}") ≡ Some (at Blank [] [] (chains ++ record { name = name; rules = rules } ∷ []))
unfolding step
close_step name rules chains few fresh = rw few (ap (closed_by (at Within name rules chains)) fresh)

blank_step : (chains : List ChainShape) → step (at Blank [] [] chains) [] ≡ Some (at Between [] [] chains)
unfolding step
blank_step chains = refl

end_text : (rest : List ℕ) → chain_end ++ rest ≡ codes "\t}" ++ (10 ∷ ([] ++ (10 ∷ rest)))
unfolding chain_end
end_text rest = refl

chain_run : (all : List Chain) (x : Chain) (chains : List ChainShape) (rest : List ℕ) → Known (names_of chains) all (length chains)
    → AreRules (length chains) x.rules.items → ChainFits x → IsChainName x.name.items → length chains < 100000
    → index_of (names_of chains) x.name.items ≡ None
    → run (at Between [] [] chains) (lines (concat (chain_pieces all x) ++ rest)) ≡ run (at Between [] [] (chains ++ chain_shape x ∷ [])) (lines rest)
chain_run all x chains rest known are fits named few fresh =
    let name = x.name.items in
    let rs = x.rules.items in
    let pieces = rules_pieces all rs in
    let behind = chain_end ++ rest in
    let split : concat (pieces ++ chain_end ∷ []) ++ rest ≡ concat pieces ++ behind =
    ap (λ y. y ++ rest) (concat-append pieces (chain_end ∷ [])) ∙ append_assoc (concat pieces) (concat (chain_end ∷ [])) rest
    ∙ ap (λ y. concat pieces ++ (y ++ rest)) (append-nil chain_end) in
    let text : concat (chain_pieces all x) ++ rest ≡ (codes "\tchain " ++ (name ++ codes " {")) ++ (10 ∷ (concat pieces ++ behind)) =
    append_assoc (chain_head name) (concat (pieces ++ chain_end ∷ [])) rest ∙ ap (λ y. chain_head name ++ y) split ∙ head_text name (concat pieces ++ behind) in
    let below : nat_lt (length chains) 100000 ≡ true = grind (arith, nat_tests, few) in
    ap (λ y. run (at Between [] [] chains) (lines y)) text
    ∙ run_line (at Between [] [] chains) (at Within name [] chains) (codes "\tchain " ++ (name ++ codes " {")) (concat pieces ++ behind)
    (head_lacks name named) (head_step name chains named)
    ∙ rules_run all (length chains) Within name chains within known refl [] rs are fits behind
    ∙ ap (λ y. run (at Within name (map rule_shape rs) chains) (lines y)) (end_text rest)
    ∙ run_line (at Within name (map rule_shape rs) chains) (at Blank [] [] (chains ++ chain_shape x ∷ [])) (codes "\t}") ([] ++ (10 ∷ rest)) refl
    (close_step name (map rule_shape rs) chains below fresh)
    ∙ run_line (at Blank [] [] (chains ++ chain_shape x ∷ [])) (at Between [] [] (chains ++ chain_shape x ∷ [])) [] rest refl
    (blank_step (chains ++ chain_shape x ∷ []))

-- ---- The names of the chains so far

not_same : (v w : List ℕ) → v ≢ w → bytes_eq v w ≡ false
not_same v w differs = by_test (bytes_eq v w) (bytes_eq-Decides v w)
  where
    by_test : (b : Bool) → Decides b (v ≡ w) → b ≡ false
    by_test true decides = absurd (differs (decides.0 refl))
    by_test false decides = refl

place_found : (w : List ℕ) (k : ℕ) (done : List Chain) (c : ℕ) (x : Chain) → slice_get done c ≡ Some x → x.name.items ≡ w
    → ((d : ℕ) (y : Chain) → d < c → slice_get done d ≡ Some y → y.name.items ≢ w)
    → position_from (bytes_eq w) k (names_of (map chain_shape done)) ≡ Some (k + c)
place_found w k [] c x there same earlier = cc
place_found w k (y ∷ done) zero x there same earlier =
    let equal : bytes_eq w y.name.items ≡ true =
    (bytes_eq-Decides w y.name.items).1 (sym same ∙ ap (λ (z : Chain). z.name.items) (sym (same_Some y x there))) in
    rw equal (ap (λ n. Some n) (let e : k ≡ k + 0 = omega arith in e))
place_found w k (y ∷ done) (suc c) x there same earlier =
    let other : bytes_eq w y.name.items ≡ false = not_same w y.name.items (λ is. earlier 0 y (omega arith) refl (sym is)) in
    rw other
    (place_found w (k + 1) done c x there same (λ d z less at. earlier (suc d) z (omega (arith, less)) at)
    ∙ ap (λ n. Some n) (let e : k + 1 + c ≡ k + suc c = omega arith in e))

place_none : (w : List ℕ) (k : ℕ) (done : List Chain) → ((d : ℕ) (y : Chain) → slice_get done d ≡ Some y → y.name.items ≢ w)
    → position_from (bytes_eq w) k (names_of (map chain_shape done)) ≡ None
place_none w k [] others = refl
place_none w k (y ∷ done) others =
    rw (not_same w y.name.items (λ is. others 0 y refl (sym is))) (place_none w (k + 1) done (λ d z at. others (suc d) z at))

name_there : (all : List Chain) (c : ℕ) (x : Chain) → slice_get all c ≡ Some x → name_of all c ≡ x.name.items
name_there all c x there = ap (λ o. option_map_or (λ (chain : Chain). chain.name.items) o []) there

there_before : (done : List Chain) (c : ℕ) → c < length done → (x : Chain) × (slice_get done c ≡ Some x)
there_before [] c less = absurd (omega (arith, less))
there_before (x ∷ done) zero less = (x, refl)
there_before (x ∷ done) (suc c) less = there_before done c (omega (arith, less))

known_front : (all done todo : List Chain) → done ++ todo ≡ all → AreNamed all → AreDistinct all → Known (names_of (map chain_shape done)) all (length done)
known_front all done todo parts named distinct = record {
  index = λ c less.
      let x = there_before done c less in
      let there : slice_get all c ≡ Some x.0 = ap (λ xs. slice_get xs c) (sym parts) ∙ get_front done todo c x.0 x.1 in
      place_found (name_of all c) 0 done c x.0 x.1 (sym (name_there all c x.0 there))
      (λ d y before at same.
      let here : slice_get all d ≡ Some y = ap (λ xs. slice_get xs d) (sym parts) ∙ get_front done todo d y at in
      let equal : d ≡ c = distinct d c y x.0 here there (same ∙ name_there all c x.0 there) in
      absurd (omega (arith, before, equal)))
      ∙ ap (λ n. Some n) (let e : 0 + c ≡ c = omega arith in e);
  plain = λ c less.
      let x = there_before done c less in
      let there : slice_get all c ≡ Some x.0 = ap (λ xs. slice_get xs c) (sym parts) ∙ get_front done todo c x.0 x.1 in
      subst (λ (n : List ℕ). list_all is_name_byte n ≡ true) (sym (name_there all c x.0 there)) (named c x.0 there).bytes;
}

-- ---- All chains

counted : (chains : List Chain) → length (map chain_shape chains) ≡ length chains
counted [] = refl
counted (x ∷ chains) = ap suc (counted chains)

fits_at : (xs : List Chain) (i : ℕ) (x : Chain) → AllByRecursion ChainFits xs → slice_get xs i ≡ Some x → ChainFits x
fits_at [] i x fits there = cc
fits_at (y ∷ xs) zero x fits there = subst (λ (z : Chain). ChainFits z) (same_Some y x there) fits.0
fits_at (y ∷ xs) (suc i) x fits there = fits_at xs i x fits.1 there

chains_run : (all done todo : List Chain) (rest : List ℕ) → done ++ todo ≡ all → length all ≤ 100000 → LeadBack all → AreNamed all → AreDistinct all
    → AllByRecursion ChainFits all
    → run (at Between [] [] (map chain_shape done)) (lines (concat (chains_pieces all todo) ++ rest)) ≡ run (at Between [] [] (map chain_shape all)) (lines rest)
chains_run all done [] rest parts few back named distinct fits =
    ap (λ xs. run (at Between [] [] (map chain_shape xs)) (lines rest)) (sym (append-nil done) ∙ parts)
chains_run all done (x ∷ todo) rest parts few back named distinct fits =
    let chains = map chain_shape done in
    let there : slice_get all (length done) ≡ Some x = ap (λ xs. slice_get xs (length done)) (sym parts) ∙ get_seam done x todo in
    let count = counted done in
    let within = slice_get_within all (length done) x there in
    let known : Known (names_of chains) all (length chains) =
    subst (λ (n : ℕ). Known (names_of chains) all n) (sym count) (known_front all done (x ∷ todo) parts named distinct) in
    let rules : AreRules (length chains) x.rules.items = subst (λ (n : ℕ). AreRules n x.rules.items) (sym count) (back (length done) x there) in
    let fresh : index_of (names_of chains) x.name.items ≡ None =
    place_none x.name.items 0 done (λ d y at same.
    let here : slice_get all d ≡ Some y = ap (λ xs. slice_get xs d) (sym parts) ∙ get_front done (x ∷ todo) d y at in
    let equal : d ≡ length done = distinct d (length done) y x here there same in
    let less = slice_get_within done d y at in
    absurd (omega (arith, less, equal))) in
    let text : concat (chain_pieces all x ++ chains_pieces all todo) ++ rest ≡ concat (chain_pieces all x) ++ (concat (chains_pieces all todo) ++ rest) =
    ap (λ y. y ++ rest) (concat-append (chain_pieces all x) (chains_pieces all todo))
    ∙ append_assoc (concat (chain_pieces all x)) (concat (chains_pieces all todo)) rest in
    ap (λ y. run (at Between [] [] chains) (lines y)) text
    ∙ chain_run all x chains (concat (chains_pieces all todo) ++ rest) known rules (fits_at all (length done) x fits there) (named (length done) x there)
    (omega (arith, count, within, few)) fresh
    ∙ ap (λ xs. run (at Between [] [] xs) (lines (concat (chains_pieces all todo) ++ rest))) (sym (map_last chain_shape done x))
    ∙ chains_run all (done ++ x ∷ []) todo rest (append_assoc done (x ∷ []) todo ∙ parts) few back named distinct fits

-- ---- The base chain, and the whole table

forward_text : (rest : List ℕ)
    → forward_head ++ rest ≡ codes "\tchain forward {" ++ (10 ∷ (codes "\t\ttype filter hook forward priority filter; policy drop;" ++ (10 ∷ rest)))
unfolding forward_head
forward_text rest = refl

base_step : (chains : List ChainShape) → step (at Between [] [] chains) (codes "\tchain forward {") ≡ Some (at Base [] [] chains)
unfolding step
base_step chains = refl

type_step : (chains : List ChainShape)
    → step (at Base [] [] chains) (codes "\t\ttype filter hook forward priority filter; policy drop;") ≡ Some (at Forward [] [] chains)
unfolding step
type_step chains = refl

last_step : (rules : List RuleShape) (chains : List ChainShape) → step (at Forward [] rules chains) (codes "\t}") ≡ Some (at Closed [] rules chains)
unfolding step
last_step rules chains = refl

done_step : (rules : List RuleShape) (chains : List ChainShape) → step (at Closed [] rules chains) (codes "}") ≡ Some (at Done [] rules chains)
unfolding step
done_step rules chains = refl

table_end_text : table_end ++ [] ≡ codes "\t}" ++ (10 ∷ (codes "}" ++ (10 ∷ [])))
unfolding table_end
table_end_text = refl

table_step : step start (codes "table ip topos {") ≡ Some (at Between [] [] [])
unfolding step
table_step = refl

table_text_head : (rest : List ℕ) → table_head ++ rest ≡ codes "table ip topos {" ++ (10 ∷ rest)
unfolding table_head
table_text_head rest = refl

forward_run : (table : Table) → IsTable table
    → run (at Between [] [] (map chain_shape table.chains.items)) (lines (concat (forward_pieces table))) ≡ Some (done_state (table_shape table))
forward_run table is =
    let all = table.chains.items in
    let chains = map chain_shape all in
    let rs = table.forward.items in
    let pieces = rules_pieces all rs in
    let known : Known (names_of chains) all (length all) = known_front all all [] (append-nil all) is.loadable.named is.loadable.distinct in
    let split : concat (pieces ++ table_end ∷ []) ≡ concat pieces ++ (table_end ++ []) = concat-append pieces (table_end ∷ []) in
    ap (λ y. run (at Between [] [] chains) (lines (forward_head ++ y))) split
    ∙ ap (λ y. run (at Between [] [] chains) (lines y)) (forward_text (concat pieces ++ (table_end ++ [])))
    ∙ run_line (at Between [] [] chains) (at Base [] [] chains) (codes "\tchain forward {")
    (codes "\t\ttype filter hook forward priority filter; policy drop;" ++ (10 ∷ (concat pieces ++ (table_end ++ [])))) refl (base_step chains)
    ∙ run_line (at Base [] [] chains) (at Forward [] [] chains) (codes "\t\ttype filter hook forward priority filter; policy drop;")
    (concat pieces ++ (table_end ++ [])) refl (type_step chains)
    ∙ rules_run all (length all) Forward [] chains forward known (counted all) [] rs is.loadable.forward is.forward (table_end ++ [])
    ∙ ap (λ y. run (at Forward [] (map rule_shape rs) chains) (lines y)) table_end_text
    ∙ run_line (at Forward [] (map rule_shape rs) chains) (at Closed [] (map rule_shape rs) chains) (codes "\t}") (codes "}" ++ (10 ∷ [])) refl
    (last_step (map rule_shape rs) chains)
    ∙ run_line (at Closed [] (map rule_shape rs) chains) (at Done [] (map rule_shape rs) chains) (codes "}") [] refl (done_step (map rule_shape rs) chains)

-- A printed table is parsed to its contents.
pub table_run : (table : Table) → IsTable table → run start (lines (table_text table)) ≡ Some (done_state (table_shape table))
table_run table is =
    let all = table.chains.items in
    let pieces = chains_pieces all all in
    let split : concat (pieces ++ forward_pieces table) ≡ concat pieces ++ concat (forward_pieces table) = concat-append pieces (forward_pieces table) in
    ap (λ y. run start (lines (table_head ++ y))) split
    ∙ ap (λ y. run start (lines y)) (table_text_head (concat pieces ++ concat (forward_pieces table)))
    ∙ run_line start (at Between [] [] []) (codes "table ip topos {") (concat pieces ++ concat (forward_pieces table)) refl table_step
    ∙ chains_run all [] all (concat (forward_pieces table)) refl is.loadable.few is.loadable.back is.loadable.named is.loadable.distinct is.chains
    ∙ forward_run table is
