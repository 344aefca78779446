-- Lemmas on prefixes: two prefixes that cover one address, two that share their leading bits, and the bounds of the addresses of a prefix.
use Rattle.std.proofs.Common.{◌≡◌, ℕ, ◌/◌, ◌^◌, ◌*◌, ◌+◌, ◌-◌, ◌≤◌, ◌<◌, min, IsTrue, ap, sym, ◌∙◌, refl, arith, ◌↔◌, inl, inr}
use Rattle.std.proofs.Math.Nat.{div-lt_iff_lt-mul, div-mul-le_self, lt-div-mul-add, mul-le-mul_right}
use Rattle.std.proofs.lemmas.Nat.{div-mul-add, pow-add, pow_pos, shr-shr}
use Rattle.std.proofs.lemmas.Bool.Decides.{nat_tests}
use Rattle.std.proofs.lemmas.Bool.{cases_lt}
use Rattle.host_net.specs.declared.prefix.Prefix.{Prefix}
use Rattle.host_net.specs.Prefix.{front, covers, meets}
use Rattle.host_net.specs.PrefixView.{first_address, last_address}
use Rattle.host_net.specs.inner.PrefixView.{ShareAddress}

-- Leading bits of a longer list of leading bits.
pub front_of_longer : (k m a : ℕ) → k ≤ m → m ≤ 32 → front k a ≡ front m a / 2 ^ (m - k)
front_of_longer k m a shorter fits =
    let places : (32 - m) + (m - k) ≡ 32 - k = omega arith in
    sym (shr-shr a (32 - m) (m - k) ∙ ap (λ n. a / 2 ^ n) places)

-- Addresses that agree in more bits agree in fewer.
pub front_shorter : (k m a b : ℕ) → k ≤ m → m ≤ 32 → front m a ≡ front m b → front k a ≡ front k b
front_shorter k m a b shorter fits same =
    front_of_longer k m a shorter fits ∙ ap (λ n. n / 2 ^ (m - k)) same ∙ sym (front_of_longer k m b shorter fits)

pub covers_front : (p : Prefix) (a : ℕ) → IsTrue (covers p a) → front p.len p.addr ≡ front p.len a
unfolding covers
covers_front p a h = grind (arith, nat_tests)

pub front_covers : (p : Prefix) (a : ℕ) → front p.len p.addr ≡ front p.len a → IsTrue (covers p a)
unfolding covers
front_covers p a h = grind (arith, nat_tests)

pub meets_front : (p q : Prefix) → IsTrue (meets p q) → front (min p.len q.len) p.addr ≡ front (min p.len q.len) q.addr
unfolding meets
meets_front p q h = grind (arith, nat_tests)

pub front_meets : (p q : Prefix) → front (min p.len q.len) p.addr ≡ front (min p.len q.len) q.addr → IsTrue (meets p q)
unfolding meets
front_meets p q h = grind (arith, nat_tests)

-- A prefix covers its own address.
pub covers_own : (p : Prefix) → IsTrue (covers p p.addr)
covers_own p = front_covers p p.addr refl

-- Prefixes that cover a common number overlap.
pub covered_by_both : (p q : Prefix) (a : ℕ) → IsTrue (covers p a) → IsTrue (covers q a) → IsTrue (meets p q)
covered_by_both p q a by_p by_q =
    let shorter_p : min p.len q.len ≤ p.len = omega arith in
    let shorter_q : min p.len q.len ≤ q.len = omega arith in
    front_meets p q
    (front_shorter (min p.len q.len) p.len p.addr a shorter_p p.fits (covers_front p a by_p)
    ∙ sym (front_shorter (min p.len q.len) q.len q.addr a shorter_q q.fits (covers_front q a by_q)))

pub meets_comm : (p q : Prefix) → IsTrue (meets p q) → IsTrue (meets q p)
meets_comm p q h =
    let same : min p.len q.len ≡ min q.len p.len = omega arith in
    front_meets q p (rw (← same) (sym (meets_front p q h)))

-- If two prefixes overlap and the first is no longer than the second, it covers the address of the second.
pub meets_covers : (p q : Prefix) → p.len ≤ q.len → IsTrue (meets p q) → IsTrue (covers p q.addr)
meets_covers p q shorter h =
    let len : min p.len q.len ≡ p.len = omega arith in
    front_covers p q.addr (rw len at (meets_front p q h))

pub share_where_meets : (p q : Prefix) → p.addr < 2 ^ 32 → q.addr < 2 ^ 32 → IsTrue (meets p q) → ShareAddress p q
share_where_meets p q in_p in_q h = elim (cases_lt p.len q.len) [
  | inl shorter ↦ (q.addr, in_q, meets_covers p q (omega arith) h, covers_own q)
  | inr longer ↦ (p.addr, in_p, covers_own p, meets_covers q p longer (meets_comm p q h))
]

-- Two prefixes overlap if and only if both cover some address.
pub meets_ShareAddress : (p q : Prefix) → p.addr < 2 ^ 32 → q.addr < 2 ^ 32 → IsTrue (meets p q) ↔ ShareAddress p q
meets_ShareAddress p q in_p in_q =
    (share_where_meets p q in_p in_q, λ shared. covered_by_both p q shared.0 shared.2 shared.3)

-- The numbers whose quotient by m is q are the m numbers from q * m on.
taken_to : (q m a : ℕ) → 0 < m → q ≡ a / m → (q * m ≤ a) × (a ≤ q * m + (m - 1))
taken_to q m a some same =
    rw same (div-mul-le_self a m, let above : a < a / m * m + m = lt-div-mul-add some in omega arith)

taken_from : (q m a : ℕ) → 0 < m → q * m ≤ a → a ≤ q * m + (m - 1) → q ≡ a / m
taken_from q m a some from to =
    let place : q * m + (a - q * m) ≡ a = omega arith in
    sym (div-mul-add q m (a - q * m) (omega arith)) ∙ ap (λ n. n / m) place

-- A prefix covers the addresses from its first to its last.
pub covers_between : (p : Prefix) (a : ℕ) → IsTrue (covers p a) ↔ ((first_address p ≤ a) × (a ≤ last_address p))
unfolding first_address last_address
covers_between p a =
    let some : 0 < 2 ^ (32 - p.len) = pow_pos (32 - p.len) in (
      λ covered. taken_to (front p.len p.addr) (2 ^ (32 - p.len)) a some (covers_front p a covered),
      λ between. front_covers p a (taken_from (front p.len p.addr) (2 ^ (32 - p.len)) a some between.0 between.1),
    )

last_below : (q n m : ℕ) → 0 < m → q < n → q * m + (m - 1) < n * m
last_below q n m some less =
    let room : (q + 1) * m ≤ n * m = mul-le-mul_right m (let next : q + 1 ≤ n = omega arith in next) in
    let more : (q + 1) * m ≡ q * m + m = grind arith in
    omega arith

pub last_address_fits : (p : Prefix) → p.addr < 2 ^ 32 → last_address p < 2 ^ 32
unfolding last_address
last_address_fits p fits =
    let some : 0 < 2 ^ (32 - p.len) = pow_pos (32 - p.len) in
    let places : p.len + (32 - p.len) ≡ 32 = omega (arith, p.fits) in
    let whole : 2 ^ p.len * 2 ^ (32 - p.len) ≡ 2 ^ 32 = sym (pow-add 2 p.len (32 - p.len)) ∙ ap (λ n. 2 ^ n) places in
    let below : p.addr / 2 ^ (32 - p.len) < 2 ^ p.len = (div-lt_iff_lt-mul some).1 (rw whole fits) in
    rw (← whole) (last_below (front p.len p.addr) (2 ^ p.len) (2 ^ (32 - p.len)) some below)
