-- The keys of each table that `toml` parses ascend. Its parser inserts each key in order, so the keys of its nodes ascend after each
-- expression of a document.
use Rattle.std.proofs.Common.{◌≡◌, ℕ, zero, suc, Bool, true, false, ◌&&◌, List, [], ◌∷◌, Option, Some, None, Ordering, Less, Equal, Greater, nat_cmp, option_map, option_and_then, refl, ap, ◌∙◌, subst, ◌⊎◌, inl, inr}
use Rattle.std.proofs.lemmas.Bool.{and_from, and_parts}
use Rattle.std.proofs.lemmas.Cmp.{nat_list_cmp_total}
use Rattle.std.proofs.lemmas.Option.{same_Some}
use Rattle.std.specs.Cmp.Lexicographic.{slice_cmp}
use Rattle.std.specs.Ordering.{is_lt, match_ordering, ordering_reverse}
use Rattle.std.specs.Prelude.{◌==◌, ◌++◌, drop, length, slice_index, if◌then◌else◌}
use Rattle.toml.specs.Data.{Data, string, array, table, Items, no_items, item, Members, is_before, is_sorted, items_are_sorted, members_are_sorted, push_item, same_key}
use Rattle.toml.specs.Parse.{after_byte, after_element, atom, ends_line, expression, header_key, items, key_equals, keyval, line, lines, members, parse_document, read_map, scalar_data, skip_bom, val}
use Rattle.toml.specs.Tables.{Definition, Document, Edit, Expression, Node, Nodes, Origin, along_dots, along_header, array_table, at_found, at_key, by_dot, by_header, close, close_node, define, define_as, dot_node, dotted, get_node, header, header_node, implicit, insert, key_value, new_node, no_nodes, node, open_array, open_table, put, redefine, replace, std_table, value}
use Rattle.toml_parser.specs.Lexical.{first, left_brace, left_bracket, right_brace, right_bracket, skip_blank, skip_ws}
use Rattle.toml_parser.specs.Numbers.{unquoted}
use Rattle.toml_parser.specs.Strings.{Key, quoted, recursion_limit, starts_string}
use Rattle.toml_parser.specs.declared.scalar.Scalar.{Scalar}
use Rattle.toml_parser.specs.declared.scalar.Scalar.TheVariants.{Boolean}

-- The steps of a parse that succeeded.
taken : {A B : Type 0} (f : A → Option B) (o : Option A) (y : B) → option_and_then f o ≡ Some y → (x : A) × (o ≡ Some x) × (f x ≡ Some y)
taken f None y is = cc
taken f (Some x) y is = (x, refl, is)

mapped : {A B : Type 0} (f : A → B) (o : Option A) (y : B) → option_map f o ≡ Some y → (x : A) × (o ≡ Some x) × (f x ≡ y)
mapped f None y is = cc
mapped f (Some x) y is = (x, refl, same_Some (f x) y is)

picked : {A : Type 0} (b : Bool) (here there : Option A) (y : A) → (if b then here else there) ≡ Some y → (here ≡ Some y) ⊎ (there ≡ Some y)
picked true here there y is = inl is
picked false here there y is = inr is

-- The effect of `read_map` on a parse result.
abbrev under : {A B : Type 0} → (A → B) → A × List ℕ → B × List ℕ
under f p = (f p.0, p.1)

-- The keys of the nodes ascend, and so do those of each table in them.
abbrev AreSorted : Nodes → Type 0
AreSorted ns = members_are_sorted (close ns) ≡ true

abbrev IsSorted : Node → Type 0
IsSorted x = is_sorted (close_node x) ≡ true

-- ---- arrays

push_sorted : (ds : Items) (d : Data) → items_are_sorted ds ≡ true → is_sorted d ≡ true → items_are_sorted (push_item ds d) ≡ true
push_sorted no_items d all here = and_from (is_sorted d) true here refl
push_sorted (item e ds) d all here =
    let (first, behind) = and_parts (is_sorted e) (items_are_sorted ds) all in
    and_from (is_sorted e) (items_are_sorted (push_item ds d)) first (push_sorted ds d behind here)

pushed_sorted : (ds : Items) (d : Data) → items_are_sorted (push_item ds d) ≡ true → (items_are_sorted ds ≡ true) × (is_sorted d ≡ true)
pushed_sorted no_items d all = (refl, (and_parts (is_sorted d) true all).0)
pushed_sorted (item e ds) d all =
    let (first, behind) = and_parts (is_sorted e) (items_are_sorted (push_item ds d)) all in
    let (before, here) = pushed_sorted ds d behind in
    (and_from (is_sorted e) (items_are_sorted ds) first before, here)

-- ---- nodes

sorted_node : (k : List ℕ) (x : Node) (ns : Nodes) → is_before k (close ns) ≡ true → IsSorted x → AreSorted ns → AreSorted (node k x ns)
sorted_node k x ns first here behind =
    and_from (is_before k (close ns) && is_sorted (close_node x)) (members_are_sorted (close ns))
    (and_from (is_before k (close ns)) (is_sorted (close_node x)) first here) behind

node_parts : (k : List ℕ) (x : Node) (ns : Nodes) → AreSorted (node k x ns) → (is_before k (close ns) ≡ true) × IsSorted x × AreSorted ns
node_parts k x ns sorted =
    let (front, behind) = and_parts (is_before k (close ns) && is_sorted (close_node x)) (members_are_sorted (close ns)) sorted in
    let (first, here) = and_parts (is_before k (close ns)) (is_sorted (close_node x)) front in
    (first, here, behind)

before_by : (o : Ordering) (l k m : List ℕ) (x z : Node) (ns : Nodes) → is_lt (slice_cmp nat_cmp l k) ≡ true → is_lt (slice_cmp nat_cmp l m) ≡ true
    → is_before l (close (match_ordering o (node k x (node m z ns)) (node m x ns) (node m z (insert k x ns)))) ≡ true
before_by Less l k m x z ns new first = new
before_by Equal l k m x z ns new first = first
before_by Greater l k m x z ns new first = first

before_insert : (l k : List ℕ) (x : Node) (ns : Nodes) → is_lt (slice_cmp nat_cmp l k) ≡ true → is_before l (close ns) ≡ true
    → is_before l (close (insert k x ns)) ≡ true
before_insert l k x no_nodes new first = new
before_insert l k x (node m z ns) new first = before_by (slice_cmp nat_cmp k m) l k m x z ns new first

insert_by : (o : Ordering) (k l : List ℕ) (x y : Node) (ns : Nodes) → slice_cmp nat_cmp k l ≡ o → IsSorted x → AreSorted (node l y ns)
    → AreSorted (insert k x ns) → AreSorted (match_ordering o (node k x (node l y ns)) (node l x ns) (node l y (insert k x ns)))
insert_by Less k l x y ns order here sorted later = sorted_node k x (node l y ns) (ap is_lt order) here sorted
insert_by Equal k l x y ns order here sorted later =
    let (first, _, behind) = node_parts l y ns sorted in
    sorted_node l x ns first here behind
insert_by Greater k l x y ns order here sorted later =
    let (first, there, behind) = node_parts l y ns sorted in
    let less : slice_cmp nat_cmp l k ≡ Less = nat_list_cmp_total.antisymm l k ∙ ap ordering_reverse order in
    sorted_node l y (insert k x ns) (before_insert l k x ns (ap is_lt less) first) there later

insert_sorted : (k : List ℕ) (x : Node) (ns : Nodes) → IsSorted x → AreSorted ns → AreSorted (insert k x ns)
insert_sorted k x no_nodes here sorted = sorted_node k x no_nodes refl here sorted
insert_sorted k x (node l y ns) here sorted =
    let (_, _, behind) = node_parts l y ns sorted in
    insert_by (slice_cmp nat_cmp k l) k l x y ns refl here sorted (insert_sorted k x ns here behind)

before_replace_by : (b : Bool) (l k m : List ℕ) (x z : Node) (ns : Nodes) → is_lt (slice_cmp nat_cmp l m) ≡ true
    → is_before l (close (if b then node m x ns else node m z (replace k x ns))) ≡ true
before_replace_by true l k m x z ns first = first
before_replace_by false l k m x z ns first = first

before_replace : (l k : List ℕ) (x : Node) (ns : Nodes) → is_before l (close ns) ≡ true → is_before l (close (replace k x ns)) ≡ true
before_replace l k x no_nodes first = first
before_replace l k x (node m z ns) first = before_replace_by (same_key k m) l k m x z ns first

replace_by : (b : Bool) (k l : List ℕ) (x y : Node) (ns : Nodes) → IsSorted x → AreSorted (node l y ns) → AreSorted (replace k x ns)
    → AreSorted (if b then node l x ns else node l y (replace k x ns))
replace_by true k l x y ns here sorted later =
    let (first, _, behind) = node_parts l y ns sorted in
    sorted_node l x ns first here behind
replace_by false k l x y ns here sorted later =
    let (first, there, behind) = node_parts l y ns sorted in
    sorted_node l y (replace k x ns) (before_replace l k x ns first) there later

replace_sorted : (k : List ℕ) (x : Node) (ns : Nodes) → IsSorted x → AreSorted ns → AreSorted (replace k x ns)
replace_sorted k x no_nodes here sorted = sorted
replace_sorted k x (node l y ns) here sorted =
    let (_, _, behind) = node_parts l y ns sorted in
    replace_by (same_key k l) k l x y ns here sorted (replace_sorted k x ns here behind)

get_sorted : (k : List ℕ) (ns : Nodes) (x : Node) → AreSorted ns → get_node k ns ≡ Some x → IsSorted x
get_sorted k no_nodes x sorted is = cc
get_sorted k (node l y ns) x sorted is =
    let (_, here, behind) = node_parts l y ns sorted in
    elim (picked (same_key k l) (Some y) (get_node k ns) x is) [
      | inl found ↦ subst IsSorted (same_Some y x found) here
      | inr later ↦ get_sorted k ns x behind later
    ]

-- ---- edits

abbrev Keeps : Edit → Type 0
Keeps edit = (ns m : Nodes) → AreSorted ns → edit ns ≡ Some m → AreSorted m

abbrev StaysSorted : (Node → Option Node) → Type 0
StaysSorted change = (x y : Node) → IsSorted x → change x ≡ Some y → IsSorted y

made_sorted : (k : List ℕ) (origin : Origin) (edit : Edit) → Keeps edit → (ns m : Nodes) → AreSorted ns
    → option_map (λ new. insert k (open_table origin new) ns) (edit no_nodes) ≡ Some m → AreSorted m
made_sorted k origin edit keeps ns m sorted is =
    let (new, edited, same) = mapped (λ new. insert k (open_table origin new) ns) (edit no_nodes) m is in
    subst AreSorted same (insert_sorted k (open_table origin new) ns (keeps no_nodes new refl edited) sorted)

changed_sorted : (k : List ℕ) (change : Node → Option Node) → StaysSorted change → (x : Node) (ns m : Nodes) → IsSorted x → AreSorted ns
    → option_map (λ new. replace k new ns) (change x) ≡ Some m → AreSorted m
changed_sorted k change stays x ns m here sorted is =
    let (new, changed, same) = mapped (λ new. replace k new ns) (change x) m is in
    subst AreSorted same (replace_sorted k new ns (stays x new here changed) sorted)

inner_sorted : (origin after : Origin) (edit : Edit) → Keeps edit → (inner : Nodes) (y : Node) → IsSorted (open_table origin inner)
    → option_map (open_table after) (edit inner) ≡ Some y → IsSorted y
inner_sorted origin after edit keeps inner y here is =
    let (new, edited, same) = mapped (open_table after) (edit inner) y is in
    subst IsSorted same (keeps inner new here edited)

header_sorted : (edit : Edit) → Keeps edit → StaysSorted (header_node edit)
header_sorted edit keeps (value d) y here is = cc
header_sorted edit keeps (open_table origin inner) y here is = inner_sorted origin origin edit keeps inner y here is
header_sorted edit keeps (open_array done last) y here is =
    let (before, ends) = pushed_sorted done (table (close last)) here in
    let (new, edited, same) = mapped (open_array done) (edit last) y is in
    subst IsSorted same (push_sorted done (table (close new)) before (keeps last new ends edited))

dot_sorted : (edit : Edit) → Keeps edit → StaysSorted (dot_node edit)
dot_sorted edit keeps (value d) y here is = cc
dot_sorted edit keeps (open_table header inner) y here is = cc
dot_sorted edit keeps (open_table implicit inner) y here is = inner_sorted implicit dotted edit keeps inner y here is
dot_sorted edit keeps (open_table dotted inner) y here is = inner_sorted dotted dotted edit keeps inner y here is
dot_sorted edit keeps (open_array done last) y here is = cc

by_header_sorted : (k : List ℕ) (edit : Edit) → Keeps edit → (ns m : Nodes) (o : Option Node) → AreSorted ns → get_node k ns ≡ o
    → by_header k edit ns o ≡ Some m → AreSorted m
by_header_sorted k edit keeps ns m None sorted found is = made_sorted k implicit edit keeps ns m sorted is
by_header_sorted k edit keeps ns m (Some x) sorted found is =
    changed_sorted k (header_node edit) (header_sorted edit keeps) x ns m (get_sorted k ns x sorted found) sorted is

by_dot_sorted : (k : List ℕ) (edit : Edit) → Keeps edit → (ns m : Nodes) (o : Option Node) → AreSorted ns → get_node k ns ≡ o
    → by_dot k edit ns o ≡ Some m → AreSorted m
by_dot_sorted k edit keeps ns m None sorted found is = made_sorted k dotted edit keeps ns m sorted is
by_dot_sorted k edit keeps ns m (Some x) sorted found is =
    changed_sorted k (dot_node edit) (dot_sorted edit keeps) x ns m (get_sorted k ns x sorted found) sorted is

header_keeps : (path : List (List ℕ)) (edit : Edit) → Keeps edit → Keeps (along_header path edit)
unfolding along_header
header_keeps [] edit keeps ns m sorted is = keeps ns m sorted is
header_keeps (k ∷ path) edit keeps ns m sorted is =
    by_header_sorted k (along_header path edit) (header_keeps path edit keeps) ns m (get_node k ns) sorted refl is

dots_keep : (path : List (List ℕ)) (edit : Edit) → Keeps edit → Keeps (along_dots path edit)
unfolding along_dots
dots_keep [] edit keeps ns m sorted is = keeps ns m sorted is
dots_keep (k ∷ path) edit keeps ns m sorted is =
    by_dot_sorted k (along_dots path edit) (dots_keep path edit keeps) ns m (get_node k ns) sorted refl is

-- A definition whose value is sorted.
abbrev IsSortedIn : Definition → Type 0
IsSortedIn (key_value d) = is_sorted d ≡ true
IsSortedIn std_table = Unit {0}
IsSortedIn array_table = Unit {0}

new_sorted : (what : Definition) → IsSortedIn what → IsSorted (new_node what)
new_sorted (key_value d) here = here
new_sorted std_table here = refl
new_sorted array_table here = refl

redefined : (what : Definition) → StaysSorted (redefine what)
redefined std_table (open_table implicit inner) y here is = subst IsSorted (same_Some (open_table header inner) y is) here
redefined array_table (open_array done last) y here is =
    subst IsSorted (same_Some (open_array (push_item done (table (close last))) no_nodes) y is)
    (push_sorted (push_item done (table (close last))) (table (close no_nodes)) here refl)
redefined (key_value d) x y here is = cc
redefined std_table (open_table dotted inner) y here is = cc
redefined std_table (open_table header inner) y here is = cc
redefined std_table (value d) y here is = cc
redefined std_table (open_array done last) y here is = cc
redefined array_table (value d) y here is = cc
redefined array_table (open_table origin inner) y here is = cc

at_found_sorted : (k : List ℕ) (what : Definition) → IsSortedIn what → (ns m : Nodes) (o : Option Node) → AreSorted ns → get_node k ns ≡ o
    → at_found k what ns o ≡ Some m → AreSorted m
at_found_sorted k what right ns m None sorted found is =
    subst AreSorted (same_Some (insert k (new_node what) ns) m is) (insert_sorted k (new_node what) ns (new_sorted what right) sorted)
at_found_sorted k what right ns m (Some x) sorted found is =
    changed_sorted k (redefine what) (redefined what) x ns m (get_sorted k ns x sorted found) sorted is

key_keeps : (k : List ℕ) (what : Definition) → IsSortedIn what → Keeps (at_key k what)
unfolding at_key
key_keeps k what right ns m sorted is = at_found_sorted k what right ns m (get_node k ns) sorted refl is

-- ---- values

scalar_sorted : (s : Scalar) → is_sorted (scalar_data s) ≡ true
scalar_sorted (Boolean b) = refl
scalar_sorted s = refl

-- The parse result is sorted.
abbrev HasSorted : Data × List ℕ → Type 0
HasSorted r = is_sorted r.0 ≡ true

atom_sorted : (text : List ℕ) (r : Data × List ℕ) → atom text ≡ Some r → HasSorted r
unfolding atom
atom_sorted text r is =
    elim (picked (starts_string text) (read_map string (quoted text)) (read_map scalar_data (unquoted text)) r is) [
      | inl quote ↦ let (s, _, same) = mapped (under string) (quoted text) r quote in subst HasSorted same refl
      | inr other ↦
          let (s, _, same) = mapped (under scalar_data) (unquoted text) r other in subst HasSorted same (scalar_sorted s.0)
    ]

-- A parser returns sorted values.
abbrev GivesSorted : (List ℕ → Option (Data × List ℕ)) → Type 0
GivesSorted reader = (text : List ℕ) (r : Data × List ℕ) → reader text ≡ Some r → HasSorted r

items_sorted : (reader : List ℕ → Option (Data × List ℕ)) → GivesSorted reader → (n : ℕ) (found : Items) (text : List ℕ) (r : Items × List ℕ)
    → items_are_sorted found ≡ true → items reader n found text ≡ Some r → items_are_sorted r.0 ≡ true
unfolding items
items_sorted reader gives zero found text r before is = cc
items_sorted reader gives (suc n) found text r before is =
    let start = skip_blank text in
    let more : Data × List ℕ → Option (Items × List ℕ) = λ v. option_and_then (items reader n (push_item found v.0)) (after_element right_bracket v.1) in
    elim (picked (first start == right_bracket) (Some (found, drop 1 start)) (option_and_then more (reader start)) r is) [
      | inl done ↦ subst (λ (q : Items × List ℕ). items_are_sorted q.0 ≡ true) (same_Some (found, drop 1 start) r done) before
      | inr next ↦
          let (v, one, behind) = taken more (reader start) r next in
          let (rest, _, others) = taken (items reader n (push_item found v.0)) (after_element right_bracket v.1) r behind in
          items_sorted reader gives n (push_item found v.0) rest r (push_sorted found v.0 before (gives start v one)) others
    ]

keyval_sorted : (reader : List ℕ → Option (Data × List ℕ)) → GivesSorted reader → (text : List ℕ) (e : (Key × Data) × List ℕ)
    → keyval reader text ≡ Some e → is_sorted e.0.1 ≡ true
keyval_sorted reader gives text e is =
    let pair : Key × List ℕ → Option ((Key × Data) × List ℕ) = λ k. read_map (λ d. (k.0, d)) (reader k.1) in
    let (k, _, behind) = taken pair (key_equals text) e is in
    let (p, one, same) = mapped (under (λ (d : Data). (k.0, d))) (reader k.1) e behind in
    subst (λ (q : (Key × Data) × List ℕ). is_sorted q.0.1 ≡ true) same (gives k.1 p one)

put_keeps : (key : Key) (d : Data) → is_sorted d ≡ true → Keeps (put key d)
put_keeps key d here = dots_keep key.0 (at_key key.1 (key_value d)) (key_keeps key.1 (key_value d) here)

members_sorted : (reader : List ℕ → Option (Data × List ℕ)) → GivesSorted reader → (n : ℕ) (found : Nodes) (text : List ℕ) (r : Members × List ℕ)
    → AreSorted found → members reader n found text ≡ Some r → members_are_sorted r.0 ≡ true
unfolding members
members_sorted reader gives zero found text r before is = cc
members_sorted reader gives (suc n) found text r before is =
    let start = skip_blank text in
    let behind : (Key × Data) × List ℕ → Nodes → Option (Members × List ℕ) = λ e next. option_and_then (members reader n next) (after_element right_brace e.1) in
    let more : (Key × Data) × List ℕ → Option (Members × List ℕ) = λ e. option_and_then (behind e) (put e.0.0 e.0.1 found) in
    elim (picked (first start == right_brace) (Some (close found, drop 1 start)) (option_and_then more (keyval reader start)) r is) [
      | inl done ↦ subst (λ (q : Members × List ℕ). members_are_sorted q.0 ≡ true) (same_Some (close found, drop 1 start) r done) before
      | inr pair ↦
          let (e, one, edit) = taken more (keyval reader start) r pair in
          let (next, edited, ahead) = taken (behind e) (put e.0.0 e.0.1 found) r edit in
          let (rest, _, others) = taken (members reader n next) (after_element right_brace e.1) r ahead in
          members_sorted reader gives n next rest r (put_keeps e.0.0 e.0.1 (keyval_sorted reader gives start e one) found next before edited) others
    ]

val_sorted : (deep : ℕ) → GivesSorted (val deep)
unfolding val
val_sorted zero text r is = atom_sorted text r is
val_sorted (suc deep) text r is =
    let list = items (val deep) (length text) no_items (drop 1 text) in
    let inline = members (val deep) (length text) no_nodes (drop 1 text) in
    elim (picked (first text == left_bracket) (read_map array list) (if first text == left_brace then read_map table inline else atom text) r is) [
      | inl bracket ↦
          let (p, one, same) = mapped (under array) list r bracket in
          subst HasSorted same (items_sorted (val deep) (val_sorted deep) (length text) no_items (drop 1 text) p refl one)
      | inr other ↦ elim (picked (first text == left_brace) (read_map table inline) (atom text) r other) [
        | inl brace ↦
            let (p, one, same) = mapped (under table) inline r brace in
            subst HasSorted same (members_sorted (val deep) (val_sorted deep) (length text) no_nodes (drop 1 text) p refl one)
        | inr plain ↦ atom_sorted text r plain
      ]
    ]

-- ---- documents

define_sorted : (doc : Document) (key : Key) (what : Definition) (next : Document) → AreSorted doc.0 → IsSortedIn what
    → define_as doc key what ≡ Some next → AreSorted next.0
define_sorted doc key (key_value d) next sorted right is =
    let (root, edited, same) = mapped (λ (root : Nodes). (root, doc.1)) (along_header doc.1 (put key d) doc.0) next is in
    subst (λ (q : Document). AreSorted q.0) same (header_keeps doc.1 (put key d) (put_keeps key d right) doc.0 root sorted edited)
define_sorted doc key std_table next sorted right is =
    let edit = at_key key.1 std_table in
    let (root, edited, same) = mapped (λ (root : Nodes). (root, key.0 ++ key.1 ∷ [])) (along_header key.0 edit doc.0) next is in
    subst (λ (q : Document). AreSorted q.0) same (header_keeps key.0 edit (key_keeps key.1 std_table tt) doc.0 root sorted edited)
define_sorted doc key array_table next sorted right is =
    let edit = at_key key.1 array_table in
    let (root, edited, same) = mapped (λ (root : Nodes). (root, key.0 ++ key.1 ∷ [])) (along_header key.0 edit doc.0) next is in
    subst (λ (q : Document). AreSorted q.0) same (header_keeps key.0 edit (key_keeps key.1 array_table tt) doc.0 root sorted edited)

-- The definition of an expression.
abbrev HasSortedIn : Expression × List ℕ → Type 0
HasSortedIn e = IsSortedIn e.0.1

abbrev elements_header : Key × List ℕ → Option (Expression × List ℕ)
elements_header k = option_map (λ rest. ((k.0, array_table), rest)) (after_byte right_bracket k.1)

expression_sorted : (text : List ℕ) (e : Expression × List ℕ) → expression text ≡ Some e → HasSortedIn e
unfolding expression
expression_sorted text e is =
    let arrays = option_and_then elements_header (header_key (drop 2 text)) in
    let tables = read_map (λ (k : Key). (k, std_table)) (header_key (drop 1 text)) in
    let pairs = read_map (λ (p : Key × Data). (p.0, key_value p.1)) (keyval (val recursion_limit) text) in
    elim (picked (first text == left_bracket && slice_index text 1 == left_bracket) arrays (if first text == left_bracket then tables else pairs) e is) [
      | inl double ↦
          let (k, _, behind) = taken elements_header (header_key (drop 2 text)) e double in
          let (rest, _, same) = mapped (λ (rest : List ℕ). ((k.0, array_table), rest)) (after_byte right_bracket k.1) e behind in
          subst HasSortedIn same tt
      | inr other ↦ elim (picked (first text == left_bracket) tables pairs e other) [
        | inl named ↦
            let (k, _, same) = mapped (under (λ (k : Key). (k, std_table))) (header_key (drop 1 text)) e named in subst HasSortedIn same tt
        | inr pair ↦
            let (p, one, same) = mapped (under (λ (p : Key × Data). (p.0, key_value p.1))) (keyval (val recursion_limit) text) e pair in
            subst HasSortedIn same (keyval_sorted (val recursion_limit) (val_sorted recursion_limit) text p one)
      ]
    ]

line_sorted : (text : List ℕ) (e : Expression × List ℕ) → line text ≡ Some e → HasSortedIn e
unfolding line
line_sorted text e is =
    let whole : Expression × List ℕ → Option (Expression × List ℕ) = λ f. if ends_line (skip_ws f.1) then Some f else None in
    let (found, one, ends) = taken whole (expression text) e is in
    elim (picked (ends_line (skip_ws found.1)) (Some found) None e ends) [
      | inl ended ↦ subst HasSortedIn (same_Some found e ended) (expression_sorted text found one)
      | inr none ↦ cc
    ]

lines_sorted : (n : ℕ) (doc : Document) (text : List ℕ) (last : Document) → AreSorted doc.0 → lines n doc text ≡ Some last → AreSorted last.0
unfolding lines define
lines_sorted zero doc text last sorted is = cc
lines_sorted (suc n) doc text last sorted is =
    let start = skip_blank text in
    let behind : Expression × List ℕ → Document → Option Document = λ e next. lines n next e.1 in
    let more : Expression × List ℕ → Option Document = λ e. option_and_then (behind e) (define doc e.0) in
    elim (picked (length start == 0) (Some doc) (option_and_then more (line start)) last is) [
      | inl done ↦ subst (λ (q : Document). AreSorted q.0) (same_Some doc last done) sorted
      | inr next ↦
          let (e, one, defines) = taken more (line start) last next in
          let (after, defined, others) = taken (behind e) (define doc e.0) last defines in
          lines_sorted n after e.1 last (define_sorted doc e.0.0 e.0.1 after sorted (line_sorted start e one) defined) others
    ]

-- The table of a parsed text.
pub parse_document-sorted : (text : List ℕ) (ms : Members) → parse_document text ≡ Some ms → members_are_sorted ms ≡ true
unfolding parse_document
parse_document-sorted text ms is =
    let (doc, read, same) = mapped (λ (doc : Document). close doc.0) (lines (suc (length text)) (no_nodes, []) (skip_bom text)) ms is in
    subst (λ (t : Members). members_are_sorted t ≡ true) same (lines_sorted (suc (length text)) (no_nodes, []) (skip_bom text) doc refl read)
