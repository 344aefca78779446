-- Lemmas on parts: packets that no part of a list separates.
use Rattle.std.proofs.Common.{◌≡◌, ℕ, ◌^◌, ◌<◌, ◌==◌, List, [], ◌∷◌, ◌++◌, refl, sym, ◌∙◌}
use Rattle.std.specs.List.{AllByRecursion, Contains, flat_map}
use Rattle.host_net.specs.declared.packet.Packet.{Packet}
use Rattle.host_net.specs.declared.prefix.Prefix.{Prefix}
use Rattle.host_net.specs.Packet.{IsPacket, swap_of}
use Rattle.host_net.specs.Prefix.{covers}
use Rattle.host_net.proofs.PrefixLaws.{covers_between}
use Rattle.host_net.specs.PrefixView.{first_address, last_address}
use Rattle.audit_core.specs.Cuts.{Cuts, cut_addresses, cut_ports, cuts_by, named_protocols}
use Rattle.audit_core.specs.inner.Cuts.{AreOneClass}
use Rattle.audit_core.specs.Parts.{Part, Addresses, Protocol, Ports}
use Rattle.audit_core.specs.inner.Ranges.{AreTogether, within}
use Rattle.rules_space.proofs.ListLaws.{contains_first, contains_later}
use Rattle.audit_core.proofs.OrderLemmas.{contains_within}
use Rattle.audit_core.proofs.RangeLemmas.{named_alike, same_test, within_alike, within_from, within_parts}

-- The part does not separate the packets: it contains both or neither, by each field to which it applies.
abbrev pub IsAlikeFor : Packet → Packet → Part → Type 0
IsAlikeFor p q (Addresses prefix) = (covers prefix p.src ≡ covers prefix q.src) × (covers prefix p.dst ≡ covers prefix q.dst)
IsAlikeFor p q (Protocol n) = (n == p.proto) ≡ (n == q.proto)
IsAlikeFor p q (Ports low high) = (within low high p.sport ≡ within low high q.sport) × (within low high p.dport ≡ within low high q.dport)

abbrev pub AreAlikeFor : List Part → Packet → Packet → Type 0
AreAlikeFor parts p q = AllByRecursion (IsAlikeFor p q) parts

-- 1. Elements of lists.

pub all_parts : {X : Type 0} (P : X → Type 0) (xs ys : List X) → AllByRecursion P (xs ++ ys) → AllByRecursion P xs × AllByRecursion P ys
all_parts P [] ys all = (tt, all)
all_parts P (x ∷ xs) ys all = let rest = all_parts P xs ys all.1 in ((all.0, rest.0), rest.1)

pub all_weaker : {X : Type 0} (P Q : X → Type 0) (xs : List X) → ((x : X) → P x → Q x) → AllByRecursion P xs → AllByRecursion Q xs
all_weaker P Q [] weaker all = tt
all_weaker P Q (x ∷ xs) weaker all = (weaker x all.0, all_weaker P Q xs weaker all.1)

-- A property of all elements that are listed for the elements of a list.
pub all_listed : {X Y : Type 0} (P : Y → Type 0) (Q : X → Type 0) (f : X → List Y) (xs : List X) → ((x : X) → AllByRecursion P (f x) → Q x)
    → AllByRecursion P (flat_map f xs) → AllByRecursion Q xs
all_listed P Q f [] each all = tt
all_listed P Q f (x ∷ xs) each all =
    let both = all_parts P (f x) (flat_map f xs) all in
    (each x both.0, all_listed P Q f xs each both.1)

all_from : {X : Type 0} (P : X → Type 0) (xs : List X) → ((x : X) → Contains xs x → P x) → AllByRecursion P xs
all_from P [] each = tt
all_from P (x ∷ xs) each = (each x (contains_first x xs x refl), all_from P xs (λ y there. each y (contains_later x xs y there)))

-- 2. Packets that no part separates.

covers_is : (p : Prefix) (a : ℕ) → covers p a ≡ within (first_address p) (last_address p) a
covers_is p a =
    same_test (covers p a) (within (first_address p) (last_address p) a)
    (λ h. let ends = (covers_between p a).0 h in within_from (first_address p) (last_address p) a ends.0 ends.1)
    (λ h. (covers_between p a).1 (within_parts (first_address p) (last_address p) a h))

covers_alike : (p : Prefix) (a b : ℕ) → a < 2 ^ 32 → b < 2 ^ 32 → AreTogether (cut_addresses (Addresses p)) a b → covers p a ≡ covers p b
covers_alike p a b at bt together =
    covers_is p a ∙ within_alike (2 ^ 32) (first_address p) (last_address p) a b at bt together ∙ sym (covers_is p b)

-- No part separates two packets of one class.
pub one_class_alike : (parts : List Part) (p q : Packet) → IsPacket p → IsPacket q → AreOneClass (cuts_by parts) p q → AreAlikeFor parts p q
one_class_alike parts p q is_p is_q one = all_from (IsAlikeFor p q) parts each
  where
    address : (x : Part) → Contains parts x → (a b : ℕ) → AreTogether (cuts_by parts).addresses a b → AreTogether (cut_addresses x) a b
    address x there a b together c cut = together c (contains_later 0 (flat_map cut_addresses parts) c (contains_within cut_addresses parts x c there cut))

    port : (x : Part) → Contains parts x → (a b : ℕ) → AreTogether (cuts_by parts).ports a b → AreTogether (cut_ports x) a b
    port x there a b together c cut = together c (contains_later 0 (flat_map cut_ports parts) c (contains_within cut_ports parts x c there cut))

    each : (x : Part) → Contains parts x → IsAlikeFor p q x
    each (Addresses prefix) there = (
      covers_alike prefix p.src q.src is_p.0 is_q.0 (address (Addresses prefix) there p.src q.src one.src),
      covers_alike prefix p.dst q.dst is_p.1 is_q.1 (address (Addresses prefix) there p.dst q.dst one.dst),
    )
    each (Protocol n) there =
        named_alike (cuts_by parts).protocols n p.proto q.proto (contains_within named_protocols parts (Protocol n) n there (contains_first n [] n refl)) one.proto
    each (Ports low high) there = (
      within_alike (2 ^ 16) low high p.sport q.sport is_p.3 is_q.3 (port (Ports low high) there p.sport q.sport one.sport),
      within_alike (2 ^ 16) low high p.dport q.dport is_p.4 is_q.4 (port (Ports low high) there p.dport q.dport one.dport),
    )

pub alike_back : (parts : List Part) (p q : Packet) → AreAlikeFor parts p q → AreAlikeFor parts q p
alike_back parts p q = all_weaker (IsAlikeFor p q) (IsAlikeFor q p) parts back
  where
    back : (x : Part) → IsAlikeFor p q x → IsAlikeFor q p x
    back (Addresses prefix) same = (sym same.0, sym same.1)
    back (Protocol n) same = sym same
    back (Ports low high) same = (sym same.0, sym same.1)

-- The swaps of packets that no part separates.
pub alike_swapped : (parts : List Part) (p q : Packet) → AreAlikeFor parts p q → AreAlikeFor parts (swap_of p) (swap_of q)
alike_swapped parts p q = all_weaker (IsAlikeFor p q) (IsAlikeFor (swap_of p) (swap_of q)) parts swapped
  where
    swapped : (x : Part) → IsAlikeFor p q x → IsAlikeFor (swap_of p) (swap_of q) x
    swapped (Addresses prefix) same = (same.1, same.0)
    swapped (Protocol n) same = same
    swapped (Ports low high) same = (same.1, same.0)

-- The swaps of packets in one class are in one class.
pub swaps_alike : (cuts : Cuts) (p q : Packet) → AreOneClass cuts p q → AreOneClass cuts (swap_of p) (swap_of q)
swaps_alike cuts p q one = record { src = one.dst; dst = one.src; proto = one.proto; sport = one.dport; dport = one.sport }
