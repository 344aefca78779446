-- The prefix of a range, searched by its length.
use Rattle.std.proofs.Common.{◌≡◌, ◌∙◌, ◌<◌, ◌≤◌, ◌+◌, ◌-◌, ℕ, suc, Bool, true, false, Some, None, ap, arith}
use Rattle.std.specs.Prelude.{if◌then◌else◌}
use Rattle.host_net.specs.Prefix.{prefix_with}
use Rattle.header_space.specs.declared.address_range.AddressRange.{AddressRange}
use Rattle.nft_text.specs.Text.{has_addresses, prefix_from}

left_one : (len : ℕ) → len < 33 → 33 - len ≡ suc (33 - (len + 1))
left_one len below = omega (arith, below)

step : (range : AddressRange) (len : ℕ) (b : Bool) → len < 33 → has_addresses range (prefix_with range.first len) ≡ b
    → prefix_from range (33 - len) len ≡ (if b then Some (prefix_with range.first len) else prefix_from range (33 - (len + 1)) (len + 1))
step range len b below is =
    ap (λ (count : ℕ). prefix_from range count len) (left_one len below)
    ∙ ap (λ (found : Bool). if found then Some (prefix_with range.first len) else prefix_from range (33 - (len + 1)) (len + 1)) is

pub prefix_later : (range : AddressRange) (len : ℕ) → len < 33 → has_addresses range (prefix_with range.first len) ≡ false
    → prefix_from range (33 - len) len ≡ prefix_from range (33 - (len + 1)) (len + 1)
prefix_later range len below other = step range len false below other

pub prefix_here : (range : AddressRange) (len : ℕ) → len < 33 → has_addresses range (prefix_with range.first len) ≡ true
    → prefix_from range (33 - len) len ≡ Some (prefix_with range.first len)
prefix_here range len below found = step range len true below found

pub prefix_end : (range : AddressRange) (len : ℕ) → 33 ≤ len → None ≡ prefix_from range (33 - len) len
prefix_end range len past = ap (λ (count : ℕ). prefix_from range count len) (none_left len past)
  where
    none_left : (len : ℕ) → 33 ≤ len → 0 ≡ 33 - len
    none_left len past = omega (arith, past)
