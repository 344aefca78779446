-- The table of an assign that specifies an attribute of its template is shallow: its values are strings, integers, booleans and arrays, and
-- the arrays of a template contain strings.
use Rattle.std.proofs.Common.{◌≡◌, ℕ, ◌&&◌, Bool, true, false, List, [], ◌∷◌, ◌++◌, Option, Some, None, option_map, option_and_then, is_some, refl, ap, ◌∙◌, sym}
use Rattle.std.proofs.lemmas.Bool.{and_parts, false≢true}
use Rattle.std.specs.List.{AllByRecursion, list_all}
use Rattle.std.specs.Option.{option_map_or}
use Rattle.std.specs.Prelude.{codes, not, if◌then◌else◌}
use Rattle.std.specs.Str.{bytes_eq}
use Rattle.host_net.specs.Host.{Host}
use Rattle.toml.specs.Data.{Data, string, table, Members, members_are_sorted}
use Rattle.attr_core.specs.Assigns.{Given}
use Rattle.attr_core.specs.OwnTables.{Declared, table_form}
use Rattle.attr_core.specs.Forms.{Form, bad_assign, bad_from, says}
use Rattle.attr_core.specs.NoReach.{all_denied, noreach_attribute, noreach_form}
use Rattle.attr_core.specs.Partners.{master_of, partner_of, partners_attribute, partners_form}
use Rattle.tmpl_zones.specs.Partners.{Partner}
use Rattle.text_core.proofs.StepsLaws.{bind_some, map_parts}
use Rattle.attr_core.proofs.MayHaveLaws.{here_by}
use Rattle.attr_core.specs.Peers.{peer}
use Rattle.attr_core.specs.Shapes.{host_key, of_shape}
use Rattle.attr_core.specs.Templates.{form}
use Rattle.attr_core.specs.declared.template.Template.{Template}
use Rattle.attr_core.specs.declared.template.Template.TheVariants.{Partners, NoReach}
use Rattle.table_core.specs.Keys.{Key, Kind, Array, all_suit, has_only_keys, is_text, lacks_key}
use Rattle.table_core.specs.Listing.{each}
use Rattle.table_core.specs.Shallow.{IsShallow}
use Rattle.table_core.proofs.ShallowLaws.{ListsTexts, keys_shallow}
use Rattle.table_core.specs.Tables.{list_at, text_at}

-- The table of the assign has at most two levels.
abbrev pub IsShallowGiven : Given → Type 0
IsShallowGiven a = members_are_sorted a.table ≡ true → IsShallow 2 (table a.table)

-- ---- shapes

shape_shallow : (keys : List Key) (ms : Members) → of_shape ms keys ≡ true → AllByRecursion (ListsTexts ms) keys → members_are_sorted ms ≡ true
    → IsShallow 2 (table ms)
unfolding of_shape
shape_shallow keys ms shaped lists sorted =
    let (front, suits) = and_parts (has_only_keys keys ms && not (lacks_key keys ms)) (all_suit keys ms) shaped in
    let (only, _) = and_parts (has_only_keys keys ms) (not (lacks_key keys ms)) front in
    keys_shallow keys ms sorted only suits lists

-- A shape without an array.
abbrev asks_no_array : Kind → Bool
asks_no_array Array = false
asks_no_array _ = true

abbrev has_no_arrays : List Key → Bool
has_no_arrays keys = list_all (λ key. asks_no_array key.kind) keys

no_lists : (keys : List Key) (ms : Members) → has_no_arrays keys ≡ true → AllByRecursion (ListsTexts ms) keys
no_lists [] ms none = tt
no_lists (key ∷ keys) ms none =
    let (here, behind) = and_parts (asks_no_array key.kind) (has_no_arrays keys) none in
    (λ array stands. absurd (false≢true (sym (ap asks_no_array array) ∙ here)), no_lists keys ms behind)

-- ---- the requirements of a template on a table

without_arrays : (f : Form) → has_no_arrays (host_key ∷ f.keys) ≡ true → (hosts : List Host) (earlier : List Given) (a : Given)
    (x : f.template.Attribute) → says f hosts earlier a ≡ Some x → IsShallowGiven a
without_arrays f none hosts earlier a x said sorted =
    let (shaped, _) = here_by (of_shape a.table (host_key ∷ f.keys)) (f.reads hosts earlier a) x said in
    shape_shallow (host_key ∷ f.keys) a.table shaped (no_lists (host_key ∷ f.keys) a.table none) sorted

-- A list of other hosts is a list of strings.
peers_by : (o : Option ℕ) (rest : Option (List ℕ)) (xs : List ℕ) → option_and_then (λ y. option_map (λ ys. y ∷ ys) rest) o ≡ Some xs
    → (is_some o ≡ true) × (is_some rest ≡ true)
peers_by None rest xs read = cc
peers_by (Some y) None xs read = cc
peers_by (Some y) (Some ys) xs read = (refl, refl)

peer_text : (hosts : List Host) (host : ℕ) (d : Data) → is_some (peer hosts host d) ≡ true → is_text d ≡ true
unfolding peer
peer_text hosts host (string s) named = refl
peer_text hosts host _ named = cc

some_of : {A : Type 0} (o : Option A) → is_some o ≡ true → (x : A) × (o ≡ Some x)
some_of None there = absurd (false≢true there)
some_of (Some x) there = (x, refl)

peers_are_texts : (hosts : List Host) (host : ℕ) (ds : List Data) (xs : List ℕ) → each (peer hosts host) ds ≡ Some xs
    → list_all is_text ds ≡ true
peers_are_texts hosts host [] xs read = refl
peers_are_texts hosts host (d ∷ ds) xs read =
    let (here, behind) = peers_by (peer hosts host d) (each (peer hosts host) ds) xs read in
    let (others, is) = some_of (each (peer hosts host) ds) behind in
    rw (peer_text hosts host d here) (peers_are_texts hosts host ds others is)

listed_texts : (o : Option (List Data)) (ds : List Data) → o ≡ Some ds → list_all is_text ds ≡ true → option_map_or (list_all is_text) o false ≡ true
listed_texts o ds is all = rw is all

noreach_shallow : (hosts : List Host) (earlier : List Given) (a : Given) (x : noreach_form.template.Attribute)
    → says noreach_form hosts earlier a ≡ Some x → IsShallowGiven a
unfolding noreach_attribute all_denied
noreach_shallow hosts earlier a x said sorted =
    let (shaped, read) = here_by (of_shape a.table (host_key ∷ noreach_form.keys)) (noreach_attribute hosts a.host a.table) x said in
    let (ds, stands, denied) = bind_some (list_at (codes "deny") a.table) _ x read in
    let (others, peers, _) = map_parts _ (each (peer hosts a.host) ds) x denied in
    let texts = peers_are_texts hosts a.host ds others peers in
    shape_shallow (host_key ∷ noreach_form.keys) a.table shaped
    (λ array there. cc, (λ array there. listed_texts (list_at (codes "deny") a.table) ds stands texts, tt)) sorted

-- ---- partners: only a master has a list

-- A list that is present is a list of strings, if a kind is parsed.
list_read : (hosts : List Host) (host : ℕ) (o : Option (List Data)) (word : List ℕ) (x : Partner) → partner_of hosts host o word ≡ Some x
    → is_some o ≡ true → option_map_or (list_all is_text) o false ≡ true
unfolding master_of
list_read hosts host None word x read there = cc
list_read hosts host (Some ds) word x read there =
    let (_, master) = here_by (bytes_eq word (codes "master")) (master_of hosts host ds) x read in
    let (others, peers, _) = map_parts _ (each (peer hosts host) ds) x master in
    peers_are_texts hosts host ds others peers

partners_shallow : (hosts : List Host) (earlier : List Given) (a : Given) (x : partners_form.template.Attribute)
    → says partners_form hosts earlier a ≡ Some x → IsShallowGiven a
unfolding partners_attribute
partners_shallow hosts earlier a x said sorted =
    let (shaped, read) = here_by (of_shape a.table (host_key ∷ partners_form.keys)) (partners_attribute hosts a.host a.table) x said in
    let from = list_at (codes "from") a.table in
    let (word, is, kind) = bind_some (text_at (codes "kind") a.table) (partner_of hosts a.host from) x read in
    shape_shallow (host_key ∷ partners_form.keys) a.table shaped
    (λ array there. cc, (λ array there. cc, (λ array there. list_read hosts a.host from word x kind there, tt))) sorted

-- ---- all templates

says_shallow : (t : Template) (hosts : List Host) (earlier : List Given) (a : Given) (x : (form t).template.Attribute)
    → says (form t) hosts earlier a ≡ Some x → IsShallowGiven a
says_shallow NoReach hosts earlier a x said = noreach_shallow hosts earlier a x said
says_shallow Partners hosts earlier a x said = partners_shallow hosts earlier a x said
says_shallow t hosts earlier a x said = without_arrays (form t) refl hosts earlier a x said

good_step : {A : Type 0} (o : Option A) (later : Option ℕ) (n : ℕ) → (if is_some o then later else Some n) ≡ None
    → (is_some o ≡ true) × (later ≡ None)
good_step None later n none = cc
good_step (Some x) later n none = (refl, none)

-- Tables that specify an attribute are shallow.
abbrev AreSaidShallow : Form → List Host → Type 0
AreSaidShallow f hosts = (earlier : List Given) (a : Given) (x : f.template.Attribute) → says f hosts earlier a ≡ Some x → IsShallowGiven a

each_shallow : (f : Form) (hosts : List Host) → AreSaidShallow f hosts → (earlier rest : List Given) → bad_from (says f hosts) earlier rest ≡ None
    → AllByRecursion IsShallowGiven rest
each_shallow f hosts said_shallow earlier [] none = tt
each_shallow f hosts said_shallow earlier (a ∷ rest) none =
    let (here, behind) = good_step (says f hosts earlier a) _ _ none in
    let (x, said) = some_of (says f hosts earlier a) here in
    (said_shallow earlier a x said, each_shallow f hosts said_shallow (earlier ++ a ∷ []) rest behind)

-- If none of the assigns is bad, the table of each is shallow.
pub assigns_shallow : (hosts : List Host) (t : Template) (assigns : List Given) → bad_assign (form t) hosts assigns ≡ None
    → AllByRecursion IsShallowGiven assigns
assigns_shallow hosts t assigns none = each_shallow (form t) hosts (λ earlier a x said. says_shallow t hosts earlier a x said) [] assigns none

-- The same for a declared template.
pub kinds_shallow : (hosts : List Host) (d : Declared) (assigns : List Given) → bad_assign (table_form d) hosts assigns ≡ None
    → AllByRecursion IsShallowGiven assigns
kinds_shallow hosts d assigns none =
    each_shallow (table_form d) hosts (λ earlier a x said. without_arrays (table_form d) refl hosts earlier a x said) [] assigns none
