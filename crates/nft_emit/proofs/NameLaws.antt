-- The names of chains are valid, and distinct.
use Rattle.std.proofs.Common.{◌≡◌, ℕ, ◌<◌, ◌≤◌, ◌^◌, zero, suc, Bool, true, false, not, ◌&&◌, List, [], ◌∷◌, ◌++◌, length, refl, sym, ap, arith, length-append}
use Rattle.std.specs.Prelude.{codes, decimal, slice_get, get_or, nat_lt, nat_le}
use Rattle.std.specs.Char.{is_ascii_digit}
use Rattle.std.specs.List.{list_all}
use Rattle.std.specs.Option.{option_map_or}
use Rattle.std.specs.Str.{all_ascii_digits, bytes_eq}
use Rattle.std.proofs.lemmas.Bool.{and_parts}
use Rattle.std.proofs.lemmas.Bool.Decides.{nat_tests}
use Rattle.std.proofs.lemmas.Fmt.{decimal_injective, length-decimal-le}
use Rattle.std.proofs.lemmas.List.{append_cancel_left}
use Rattle.std.proofs.lemmas.Slice.Eq.{bytes_eq-Decides}
use Rattle.text_core.proofs.DecimalLaws.{decimal_digits}
use Rattle.text_core.specs.inner.Pairs.{no_pair}
use Rattle.text_core.specs.Name.{is_name, is_name_byte}
use Rattle.host_net.specs.Host.{Host}
use Rattle.host_net.specs.inner.Hosts.{IsHosts}
use Rattle.nft_rules.specs.Loadable.{IsChainName}
use Rattle.nft_emit.specs.inner.Building.{sender_name, services_name}

-- 1. Names of different chains.

pub services_differ : (c d : ℕ) → c < 2 ^ 32 → d < 2 ^ 32 → services_name c ≡ services_name d → c ≡ d
services_differ c d low small same =
    decimal_injective c d (omega (arith, low)) (omega (arith, small)) (append_cancel_left (codes "services_") (decimal c) (decimal d) same)

first_byte : (xs ys : List ℕ) → codes "from_" ++ xs ≡ codes "services_" ++ ys → ◌≡◌ {A = ℕ} 102 115
first_byte xs ys same = ap (λ (bs : List ℕ). get_or bs 0 0) same

pub kinds_differ : (hosts : List Host) (i c : ℕ) → sender_name hosts i ≡ services_name c → ⊥
kinds_differ hosts i c same =
    let differ = first_byte (option_map_or (λ h. h.name) (slice_get hosts i) []) (decimal c) same in omega (arith, differ)

abbrev name_at : List Host → ℕ → List ℕ
name_at hosts i = option_map_or (λ h. h.name) (slice_get hosts i) []

not_both : (b : Bool) → b ≡ true → not b ≡ true → ⊥
not_both true is other = cc
not_both false is other = cc

other_host : (h : Host) (hs : List Host) (j : ℕ) → j < length hs → list_all (λ y. not (bytes_eq y.name h.name)) hs ≡ true → name_at hs j ≡ h.name → ⊥
other_host h [] j low all same = absurd (omega (arith, low))
other_host h (g ∷ hs) zero low all same =
    let parts = and_parts (not (bytes_eq g.name h.name)) (list_all (λ y. not (bytes_eq y.name h.name)) hs) all in
    not_both (bytes_eq g.name h.name) ((bytes_eq-Decides g.name h.name).1 same) parts.0
other_host h (g ∷ hs) (suc j) low all same =
    let parts = and_parts (not (bytes_eq g.name h.name)) (list_all (λ y. not (bytes_eq y.name h.name)) hs) all in
    other_host h hs j (omega (arith, low)) parts.1 same

hosts_differ : (hs : List Host) (i j : ℕ) → i < length hs → j < length hs → no_pair (λ h g. bytes_eq h.name g.name) hs ≡ true → name_at hs i ≡ name_at hs j → i ≡ j
hosts_differ [] i j low small none same = absurd (omega (arith, low))
hosts_differ (h ∷ hs) zero zero low small none same = refl
hosts_differ (h ∷ hs) zero (suc j) low small none same =
    let parts = and_parts (list_all (λ y. not (bytes_eq y.name h.name)) hs) (no_pair (λ h g. bytes_eq h.name g.name) hs) none in
    absurd (other_host h hs j (omega (arith, small)) parts.0 (sym same))
hosts_differ (h ∷ hs) (suc i) zero low small none same =
    let parts = and_parts (list_all (λ y. not (bytes_eq y.name h.name)) hs) (no_pair (λ h g. bytes_eq h.name g.name) hs) none in
    absurd (other_host h hs i (omega (arith, low)) parts.0 same)
hosts_differ (h ∷ hs) (suc i) (suc j) low small none same =
    let parts = and_parts (list_all (λ y. not (bytes_eq y.name h.name)) hs) (no_pair (λ h g. bytes_eq h.name g.name) hs) none in
    ap (λ (n : ℕ). suc n) (hosts_differ hs i j (omega (arith, low)) (omega (arith, small)) parts.1 same)

pub senders_differ : (hosts : List Host) (i j : ℕ) → IsHosts hosts → i < length hosts → j < length hosts → sender_name hosts i ≡ sender_name hosts j → i ≡ j
senders_differ hosts i j are low small same =
    hosts_differ hosts i j low small are.distinct (append_cancel_left (codes "from_") (name_at hosts i) (name_at hosts j) same)

-- 2. Valid names.

digit_named : (b : ℕ) → is_ascii_digit b ≡ true → is_name_byte b ≡ true
digit_named b digit = rw digit refl

digits_named : (bs : List ℕ) → all_ascii_digits bs ≡ true → list_all is_name_byte bs ≡ true
digits_named [] digits = refl
digits_named (b ∷ bs) digits =
    let (here, after) = and_parts (is_ascii_digit b) _ digits in
    rw (digit_named b here) (digits_named bs after)

services_other : (xs : List ℕ) → codes "services_" ++ xs ≡ codes "forward" → ⊥
services_other xs same = let differ : ◌≡◌ {A = ℕ} 115 102 = ap (λ (bs : List ℕ). get_or bs 0 0) same in omega (arith, differ)

sender_other : (xs : List ℕ) → codes "from_" ++ xs ≡ codes "forward" → ⊥
sender_other xs same = let differ : ◌≡◌ {A = ℕ} 114 111 = ap (λ (bs : List ℕ). get_or bs 1 0) same in omega (arith, differ)

pub services_named : (c : ℕ) → c < 2 ^ 32 → IsChainName (services_name c)
services_named c low = record {
  letter = refl;
  no_keyword = refl;
  bytes = digits_named (decimal c) (decimal_digits c (omega (arith, low)));
  short = omega (arith, length-append (codes "services_") (decimal c), length-decimal-le 10 c (omega arith) (omega (arith, low)) (omega (arith, low)));
  other = services_other (decimal c);
}

name_there : (hs : List Host) (i : ℕ) → i < length hs → list_all (λ h. is_name h.name) hs ≡ true → is_name (name_at hs i) ≡ true
name_there [] i low all = absurd (omega (arith, low))
name_there (h ∷ hs) zero low all = (and_parts (is_name h.name) (list_all (λ g. is_name g.name) hs) all).0
name_there (h ∷ hs) (suc i) low all =
    name_there hs i (omega (arith, low)) (and_parts (is_name h.name) (list_all (λ g. is_name g.name) hs) all).1

short_name : (name : List ℕ) → is_name name ≡ true → length name ≤ 32
short_name name is =
    let parts = and_parts (nat_lt 0 (length name) && nat_le (length name) 32) (list_all is_name_byte name) is in
    let bounds = and_parts (nat_lt 0 (length name)) (nat_le (length name) 32) parts.0 in
    grind (arith, nat_tests, bounds.1)

named_bytes : (name : List ℕ) → is_name name ≡ true → list_all is_name_byte name ≡ true
named_bytes name is = (and_parts (nat_lt 0 (length name) && nat_le (length name) 32) (list_all is_name_byte name) is).1

pub sender_named : (hosts : List Host) (i : ℕ) → IsHosts hosts → i < length hosts → IsChainName (sender_name hosts i)
sender_named hosts i are low =
    let named = name_there hosts i low are.named in
    record {
      letter = refl;
      no_keyword = refl;
      bytes = named_bytes (name_at hosts i) named;
      short = omega (arith, length-append (codes "from_") (name_at hosts i), short_name (name_at hosts i) named);
      other = sender_other (name_at hosts i);
    }
