-- Lemmas on lists of events: the effect of one more event on the packets that were seen.
use Rattle.std.proofs.Common.{◌≡◌, ◌≢◌, ◌⊎◌, inl, inr, ℕ, zero, suc, ◌<◌, List, [], ◌∷◌, ◌++◌, length, slice_get, Some, refl, ap, ◌∙◌, arith}
use Rattle.std.proofs.lemmas.Option.{slice_get_within}
use Rattle.host_net.specs.declared.packet.Packet.{Packet}
use Rattle.host_net.specs.Packet.{swap_of}
use Rattle.pkt_core.specs.declared.event.Event.{Event}
use Rattle.pkt_core.specs.declared.event.Event.TheVariants.{Seen, Forget}
use Rattle.pkt_core.specs.Events.{SeenAt, UnforgottenSince, WasSeen}

-- Appending an element preserves the elements at earlier indices.
pub get_before : {A : Type 0} (xs ys : List A) (k : ℕ) (x : A) → slice_get xs k ≡ Some x → slice_get (xs ++ ys) k ≡ Some x
get_before [] ys k x there = cc
get_before (z ∷ xs) ys zero x there = there
get_before (z ∷ xs) ys (suc k) x there = get_before xs ys k x there

pub get_last : {A : Type 0} (xs : List A) (x : A) → slice_get (xs ++ x ∷ []) (length xs) ≡ Some x
get_last [] x = refl
get_last (z ∷ xs) x = get_last xs x

pub get_back : {A : Type 0} (xs : List A) (x y : A) (k : ℕ) → slice_get (xs ++ x ∷ []) k ≡ Some y
    → (slice_get xs k ≡ Some y) ⊎ ((k ≡ length xs) × (x ≡ y))
get_back [] x y zero there = inr (refl, cc)
get_back [] x y (suc k) there = cc
get_back (z ∷ xs) x y zero there = inl there
get_back (z ∷ xs) x y (suc k) there = elim (get_back xs x y k there) [ inl h ↦ inl h | inr h ↦ inr (ap suc h.0, h.1) ]

pub unforgotten_back : (past : List Event) (e : Event) (k : ℕ) (q : Packet) → UnforgottenSince (past ++ e ∷ []) k q
    → UnforgottenSince past k q
unforgotten_back past e k q none j r later there = none j r later (get_before past (e ∷ []) j (Forget r) there)

-- A packet event forgets no connection.
pub unforgotten-seen : (past : List Event) (p : Packet) (k : ℕ) (q : Packet) → UnforgottenSince past k q
    → UnforgottenSince (past ++ Seen p ∷ []) k q
unforgotten-seen past p k q none j r later there =
    elim (get_back past (Seen p) (Forget r) j there) [ inl h ↦ none j r later h | inr h ↦ absurd (seen_is_none p r h.1) ]
  where
    seen_is_none : (p r : Packet) → Seen p ≡ Forget r → ⊥
    seen_is_none p r h = cc

pub unforgotten-forget : (past : List Event) (p : Packet) (k : ℕ) (q : Packet) → UnforgottenSince past k q → p ≢ q → p ≢ swap_of q
    → UnforgottenSince (past ++ Forget p ∷ []) k q
unforgotten-forget past p k q none apart turned j r later there =
    elim (get_back past (Forget p) (Forget r) j there) [ inl h ↦ none j r later h | inr h ↦ other r (same p r h.1) ]
  where
    same : (p r : Packet) → Forget p ≡ Forget r → p ≡ r
    same p r h = cc

    other : (r : Packet) → p ≡ r → (r ≢ q) × (r ≢ swap_of q)
    other r is = ((λ h. apart (is ∙ h)), (λ h. turned (is ∙ h)))

-- After one more packet event, the packets seen before are still seen, and so is the packet.
pub WasSeen-stays : (past : List Event) (p q : Packet) → WasSeen past q → WasSeen (past ++ Seen p ∷ []) q
WasSeen-stays past p q was = record {
  place = was.place;
  seen = get_before past (Seen p ∷ []) was.place (Seen q) was.seen;
  unforgotten = unforgotten-seen past p was.place q was.unforgotten;
}

-- No event follows the last one.
pub unforgotten_last : (past : List Event) (p q : Packet) → UnforgottenSince (past ++ Seen p ∷ []) (length past) q
unforgotten_last past p q j r later there =
    elim (get_back past (Seen p) (Forget r) j there) [ inl h ↦ absurd (before j (slice_get_within past j (Forget r) h) later) | inr h ↦ absurd (last j h.0 later) ]
  where
    before : (j : ℕ) → j < length past → length past < j → ⊥
    before j a b = omega arith

    last : (j : ℕ) → j ≡ length past → length past < j → ⊥
    last j a b = omega arith

pub WasSeen-now : (past : List Event) (p q : Packet) → p ≡ q → WasSeen (past ++ Seen p ∷ []) q
WasSeen-now past p q is = record {
  place = length past;
  seen = get_last past (Seen p) ∙ ap (λ (r : Packet). Some (Seen r)) is;
  unforgotten = unforgotten_last past p q;
}

pub WasSeen-behind_seen : (past : List Event) (p q : Packet) → WasSeen (past ++ Seen p ∷ []) q → WasSeen past q ⊎ (p ≡ q)
WasSeen-behind_seen past p q was =
    elim (get_back past (Seen p) (Seen q) was.place was.seen) [
      | inl h ↦ inl (record { place = was.place; seen = h; unforgotten = unforgotten_back past (Seen p) was.place q was.unforgotten })
      | inr h ↦ inr (same p q h.1)
    ]
  where
    same : (p q : Packet) → Seen p ≡ Seen q → p ≡ q
    same p q h = cc

-- After one more forget event, the packets seen before are still seen, except those of the forgotten connection.
pub WasSeen-kept : (past : List Event) (p q : Packet) → WasSeen past q → p ≢ q → p ≢ swap_of q → WasSeen (past ++ Forget p ∷ []) q
WasSeen-kept past p q was apart turned = record {
  place = was.place;
  seen = get_before past (Forget p ∷ []) was.place (Seen q) was.seen;
  unforgotten = unforgotten-forget past p was.place q was.unforgotten apart turned;
}

pub unforgotten-behind_forget : (past : List Event) (p : Packet) (k : ℕ) (q : Packet) → k < length past
    → UnforgottenSince (past ++ Forget p ∷ []) k q → (p ≢ q) × (p ≢ swap_of q)
unforgotten-behind_forget past p k q within none = none (length past) p within (get_last past (Forget p))

pub seen_behind_forget : (past : List Event) (p q : Packet) (k : ℕ) → SeenAt (past ++ Forget p ∷ []) k q → SeenAt past k q
seen_behind_forget past p q k there = elim (get_back past (Forget p) (Seen q) k there) [ inl h ↦ h | inr h ↦ absurd (apart p q h.1) ]
  where
    apart : (p q : Packet) → Forget p ≡ Seen q → ⊥
    apart p q h = cc

pub WasSeen-behind_forget : (past : List Event) (p q : Packet) → WasSeen (past ++ Forget p ∷ []) q
    → WasSeen past q × (p ≢ q) × (p ≢ swap_of q)
WasSeen-behind_forget past p q was =
    let there = seen_behind_forget past p q was.place was.seen in
    let apart = unforgotten-behind_forget past p was.place q (slice_get_within past was.place (Seen q) there) was.unforgotten in
    (record { place = was.place; seen = there; unforgotten = unforgotten_back past (Forget p) was.place q was.unforgotten }, apart.0, apart.1)

pub WasSeen-none : (q : Packet) → WasSeen [] q → ⊥
WasSeen-none q was = none q was.seen
  where
    none : (q : Packet) → SeenAt [] was.place q → ⊥
    none q h = cc
