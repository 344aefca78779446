-- The results of the map from names to addresses agree with the list of hosts.
use Rattle.std.proofs.Common.{◌≡◌, ℕ, zero, suc, ◌+◌, ◌<◌, Bool, true, false, cond, List, [], ◌∷◌, map, length, get_or, slice_get, position, Option, Some, None, refl, sym, ap, ◌∙◌, arith}
use Rattle.std.proofs.Common.{true≢false}
use Rattle.std.proofs.lemmas.Bool.Decides.{nat_tests}
use Rattle.std.specs.Cmp.Lexicographic.{bytes_decides}
use Rattle.std.specs.List.{position_from, list_all}
use Rattle.std.specs.Option.{option_map}
use Rattle.std.specs.Str.{bytes_eq}
use Rattle.std.specs.Map.{keys_of, values_of}
use Rattle.std.proofs.lemmas.Iterator.Adapters.{position_from-zero}
use Rattle.host_net.specs.Host.{Host, host_named}
use Rattle.host_net.specs.inner.HostsView.{host_view, hosts_view}
use Rattle.text_core.specs.Name.{is_name}
use Rattle.host_net.specs.declared.addresses.Addresses.{Addresses}

pub all_parts : {A : Type 0} (p : A → Bool) (x : A) (xs : List A) → list_all p (x ∷ xs) ≡ true → (p x ≡ true) × (list_all p xs ≡ true)
all_parts p x xs h = grind (arith, nat_tests)

-- A search over a mapped list is a search over the list.
pub position_from-map : {A B : Type 0} (f : A → B) (t : B → Bool) (i : ℕ) (xs : List A) → position_from t i (map f xs) ≡ position_from (λ x. t (f x)) i xs
position_from-map f t i [] = refl
position_from-map f t i (x ∷ xs) = ap (λ o. cond (t (f x)) (Some i) o) (position_from-map f t (i + 1) xs)

-- A search over the values, or over the keys, finds the host.
pub value_place : (t : Host → Bool) (u : Addresses → Bool) → ((e : List ℕ × Addresses) → u e.1 ≡ t (host_view e)) → (es : List (List ℕ × Addresses)) → position u (values_of es) ≡ position_from t 0 (hosts_view es)
value_place t u same es =
    position_from-zero u (values_of es)
    ∙ position_from-map (λ e. e.1) u 0 es
    ∙ ap (λ (test : List ℕ × Addresses → Bool). position_from test 0 es) (λ i e. same e i)
    ∙ sym (position_from-map host_view t 0 es)

pub key_place : (name : List ℕ) (es : List (List ℕ × Addresses)) → position (bytes_eq name) (keys_of es) ≡ host_named (hosts_view es) name
key_place name es =
    position_from-zero (bytes_eq name) (keys_of es)
    ∙ position_from-map (λ e. e.0) (bytes_eq name) 0 es
    ∙ sym (position_from-map host_view (λ h. bytes_eq name h.name) 0 es)

-- The key, or the value, at an index is that of the host at this index.
pub key_at : (es : List (List ℕ × Addresses)) (i : ℕ) (n : List ℕ) → i < length (hosts_view es) → n ≡ get_or (keys_of es) i n → option_map (λ (h : Host). h.name) (slice_get (hosts_view es) i) ≡ Some n
key_at [] i n h e = absurd (omega arith)
key_at (x ∷ es) zero n h e = ap (λ bs. Some bs) (sym e)
key_at (x ∷ es) (suc i) n h e = key_at es i n (omega arith) e

pub value_at : (es : List (List ℕ × Addresses)) (i : ℕ) (v : Addresses) → i < length (hosts_view es) → v ≡ get_or (values_of es) i v → option_map (λ (h : Host). h.prefixes) (slice_get (hosts_view es) i) ≡ Some v.prefixes.items
value_at [] i v h e = absurd (omega arith)
value_at (x ∷ es) zero v h e = ap (λ (d : Addresses). Some d.prefixes.items) (sym e)
value_at (x ∷ es) (suc i) v h e = value_at es i v (omega arith) e

-- A text that is not a valid name is no host's name.
other_text_by : (name other : List ℕ) (t : Bool) → is_name name ≡ false → is_name other ≡ true → bytes_eq name other ≡ t → bytes_eq name other ≡ false
other_text_by name other true bad good e = absurd (true≢false (sym good ∙ sym (ap is_name ((bytes_decides name other).0 e)) ∙ bad))
other_text_by name other false bad good e = e

pub unnamed : (name : List ℕ) (hs : List Host) (i : ℕ) → is_name name ≡ false → list_all (λ h. is_name h.name) hs ≡ true → position_from (λ h. bytes_eq name h.name) i hs ≡ None
unnamed name [] i bad good = refl
unnamed name (h ∷ hs) i bad good =
    let parts = all_parts (λ h. is_name h.name) h hs good in
    rw (other_text_by name h.name (bytes_eq name h.name) bad parts.0 refl) (unnamed name hs (i + 1) bad parts.1)

-- What the result of `Name::new` states about its text.
given_by : (text name : List ℕ) (t : Bool) → (cond t (Some text) None) ≡ Some name → name ≡ text
given_by text name true e = cc
given_by text name false e = cc

pub name_given : (text name : List ℕ) (r : Option (List ℕ)) → r ≡ cond (is_name text) (Some text) None → r ≡ Some name → name ≡ text
name_given text name r said some = given_by text name (is_name text) (sym said ∙ some)

missing_by : (text : List ℕ) (t : Bool) → (cond t (Some text) None) ≡ None → t ≡ false
missing_by text true e = cc
missing_by text false e = refl

pub name_missing : (text : List ℕ) (r : Option (List ℕ)) → r ≡ cond (is_name text) (Some text) None → r ≡ None → is_name text ≡ false
name_missing text r said none = missing_by text (is_name text) (sym said ∙ none)
