-- The parts that are appended, in order.
use Rattle.std.proofs.Common.{◌≡◌, ℕ, zero, suc, ◌+◌, List, [], ◌∷◌, ◌++◌, Some, map, take, sym, ap, subst, ◌∙◌, arith, append_assoc, append-nil}
use Rattle.std.specs.Prelude.{slice_get}
use Rattle.std.specs.List.{flat_map}
use Rattle.std.specs.Option.{option_map}
use Rattle.std.proofs.lemmas.Grind.{flat_map-append}
use Rattle.std.proofs.lemmas.List.{map-append, take_more as take_next}
use Rattle.std.proofs.lemmas.Option.{get_or_from_slice_get, slice_get_within}
use Rattle.host_net.specs.declared.prefix.Prefix.{Prefix}
use Rattle.host_net.specs.Host.{Host}
use Rattle.host_net.specs.Hosts.{all_prefixes}
use Rattle.audit_core.specs.declared.named.Found.{Found}
use Rattle.audit_core.specs.Cuts.{cut_addresses, cut_ports, named_protocols}
use Rattle.audit_core.specs.inner.Named.{AreMore}
use Rattle.audit_core.specs.Parts.{Part, Addresses}

-- 1. More parts.

joined : {Y : Type 0} (f : Part → List Y) (xs ys : List Part) (a b c : List Y) → b ≡ a ++ flat_map f xs → c ≡ b ++ flat_map f ys
    → c ≡ a ++ flat_map f (xs ++ ys)
joined {Y} f xs ys a b c first second =
    second ∙ ap (λ (l : List Y). l ++ flat_map f ys) first ∙ append_assoc a (flat_map f xs) (flat_map f ys)
    ∙ ap (λ (l : List Y). a ++ l) (sym (flat_map-append f xs ys))

pub named_more : (xs ys : List Part) (a b c : Found) → AreMore xs a b → AreMore ys b c → AreMore (xs ++ ys) a c
named_more xs ys a b c first second = record {
  addresses = joined cut_addresses xs ys a.addresses.items b.addresses.items c.addresses.items first.addresses second.addresses;
  protocols = joined named_protocols xs ys a.protocols.items b.protocols.items c.protocols.items first.protocols second.protocols;
  ports = joined cut_ports xs ys a.ports.items b.ports.items c.ports.items first.ports second.ports;
}

-- One step of a loop that appends all of zs.
pub named_step : (xs ys zs : List Part) (a b c : Found) → AreMore xs a b → AreMore ys b c → xs ++ ys ≡ zs → AreMore zs a c
named_step xs ys zs a b c first second is = subst (λ (ps : List Part). AreMore ps a c) is (named_more xs ys a b c first second)

-- 2. Lists that a loop traverses.

pub take_more : {X : Type 0} (xs : List X) (i : ℕ) (x : X) → slice_get xs i ≡ Some x → take (i + 1) xs ≡ take i xs ++ x ∷ []
take_more xs i x here =
    take_next xs i x (slice_get_within xs i x here) ∙ ap (λ y. take i xs ++ y ∷ []) (get_or_from_slice_get xs i x x here)

-- The concatenated lists of the elements so far and of the next element.
pub listed_more : {X Y : Type 0} (f : X → List Y) (xs : List X) (i : ℕ) (x : X) → take (i + 1) xs ≡ take i xs ++ x ∷ []
    → flat_map f (take i xs) ++ f x ≡ flat_map f (take (i + 1) xs)
listed_more f xs i x more =
    ap (λ l. flat_map f (take i xs) ++ l) (sym (append-nil (f x))) ∙ sym (flat_map-append f (take i xs) (x ∷ [])) ∙ ap (flat_map f) (sym more)

-- The prefixes of the hosts so far and of the next host.
host_more : (hosts : List Host) (i : ℕ) (qs : List Prefix) → option_map (λ h. h.prefixes) (slice_get hosts i) ≡ Some qs
    → all_prefixes (take (i + 1) hosts) ≡ all_prefixes (take i hosts) ++ qs
host_more [] i qs here = cc
host_more (h ∷ hs) zero qs here = let same : h.prefixes ≡ qs = cc in append-nil h.prefixes ∙ same
host_more (h ∷ hs) (suc i) qs here =
    let step : suc i + 1 ≡ suc (i + 1) = omega arith in
    ap (λ (n : ℕ). all_prefixes (take n (h ∷ hs))) step ∙ ap (λ (l : List Prefix). h.prefixes ++ l) (host_more hs i qs here)
    ∙ sym (append_assoc h.prefixes (all_prefixes (take i hs)) qs)

pub hosts_more : (hosts : List Host) (i : ℕ) (qs : List Prefix) → option_map (λ h. h.prefixes) (slice_get hosts i) ≡ Some qs
    → map Addresses (all_prefixes (take i hosts)) ++ map Addresses qs ≡ map Addresses (all_prefixes (take (i + 1) hosts))
hosts_more hosts i qs here = sym (map-append Addresses (all_prefixes (take i hosts)) qs) ∙ ap (map Addresses) (sym (host_more hosts i qs here))
