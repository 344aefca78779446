-- Entries that are added in sequence: in parts, and their final list.
use Rattle.std.proofs.Common.{◌≡◌, ℕ, ◌+◌, ◌<◌, ◌≤◌, true, List, [], ◌∷◌, ◌++◌, length, drop, get_or, refl, sym, ap, ◌∙◌, append_assoc, arith}
use Rattle.std.specs.Prelude.{nat_lt, if◌then◌else◌}
use Rattle.std.specs.List.{flat_map}
use Rattle.std.proofs.lemmas.List.{append-nil, at_drop_more}
use Rattle.std.proofs.lemmas.Bool.Decides.{nat_tests}
use Rattle.host_net.specs.declared.prefix.Prefix.{Prefix}
use Rattle.ofp_rules.specs.declared.entry.Entry.{Entry}
use Rattle.ofp_rules.specs.Ambiguity.{most_entries}
use Rattle.emit_core.specs.inner.KeptEntries.{AreCounted, KeptEntries, no_entries, with_entries, with_entry}

-- First some entries, then others.
pub in_parts : (es : KeptEntries) (xs ys : List Entry) → with_entries es (xs ++ ys) ≡ with_entries (with_entries es xs) ys
in_parts es [] ys = refl
in_parts es (x ∷ xs) ys = in_parts (with_entry es x) xs ys

-- Adding the entries for one more prefix: the remaining entries before are these entries, followed by the remaining
-- ones now.
pub grow_prefix : (written : Prefix → List Entry) (qs : List Prefix) (i : ℕ) (q : Prefix) (old new whole : KeptEntries)
    → i < length qs → q ≡ get_or qs i q
    → with_entries old (flat_map written (drop i qs)) ≡ whole
    → new ≡ with_entries old (written q)
    → with_entries new (flat_map written (drop (i + 1) qs)) ≡ whole
grow_prefix written qs i q old new whole below read before step =
    ap (λ (x : KeptEntries). with_entries x (flat_map written (drop (i + 1) qs))) (step ∙ ap (λ (x : Prefix). with_entries old (written x)) read)
    ∙ sym (in_parts old (written (get_or qs i q)) (flat_map written (drop (i + 1) qs)))
    ∙ sym (at_drop_more (λ (xs : List Prefix). with_entries old (flat_map written xs)) qs i q below)
    ∙ before

count_with : (es : KeptEntries) (xs : List Entry) → (with_entries es xs).count ≡ es.count + length xs
count_with es [] = omega arith
count_with es (x ∷ xs) = let later = count_with (with_entry es x) xs in omega (arith, later)

is_below : (n : ℕ) → n < most_entries → nat_lt n most_entries ≡ true
is_below n below = grind (arith, nat_tests)

kept_with : (es : KeptEntries) (xs : List Entry) → es.count + length xs ≤ most_entries → (with_entries es xs).kept ≡ es.kept ++ xs
kept_with es [] few = sym (append-nil es.kept)
kept_with es (x ∷ xs) few =
    let here : nat_lt es.count most_entries ≡ true = is_below es.count (omega (arith, few)) in
    kept_with (with_entry es x) xs (omega (arith, few))
    ∙ ap (λ b. (if b then es.kept ++ x ∷ [] else es.kept) ++ xs) here
    ∙ append_assoc es.kept (x ∷ []) xs

pub all_counted : (xs : List Entry) (es : KeptEntries) → es ≡ with_entries no_entries xs → AreCounted xs es
all_counted xs es is =
    let counted : es.count ≡ length xs = omega (arith, ap (λ x. x.count) is, count_with no_entries xs) in
    record { counted = counted; kept = λ few. ap (λ x. x.kept) is ∙ kept_with no_entries xs (omega (arith, counted, few)) }
