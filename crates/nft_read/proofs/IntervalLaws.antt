-- An interval is parsed from its text, and from no other text.
use Rattle.std.proofs.Common.{◌≡◌, ◌∙◌, ◌<◌, ◌^◌, ◌++◌, ◌==◌, ◌+◌, ℕ, zero, suc, Bool, true, false, List, Option, Some, None, inl, inr, refl, sym, ap, ap₂, subst, arith}
use Rattle.std.specs.Option.{option_map}
use Rattle.std.specs.Prelude.{IfSome, bytes_eq, codes, decimal, if◌then◌else◌}
use Rattle.std.proofs.lemmas.Bool.Decides.{nat_tests}
use Rattle.text_core.specs.FirstMatch.{some_if}
use Rattle.text_core.proofs.DecimalLaws.{decimal_lacks}
use Rattle.text_core.proofs.FirstsLaws.{some_same}
use Rattle.text_core.proofs.PiecesLaws.{lacks, lacks-append, split_once-append, split_once_none}
use Rattle.text_core.proofs.StepsLaws.{bytes_same, bytes_own}
use Rattle.host_net.specs.Prefix.{address_text, prefix_text, prefix_with}
use Rattle.host_net.specs.PrefixView.{IsSpelling, first_address, last_address}
use Rattle.host_net.specs.declared.prefix.Prefix.{Prefix}
use Rattle.host_net.proofs.PrefixTextLaws.{address_lacks, address_of-address_text, prefix_of-read}
use Rattle.header_space.specs.declared.address_range.AddressRange.{AddressRange}
use Rattle.nft_text.specs.Text.{has_addresses, interval_text, prefix_from, range_prefix, range_text}
use Rattle.nft_read.specs.inner.IntervalSteps.{between_of, by_parts, candidate, checked, interval_of, range_of}

-- ---- The prefix of a range has its addresses

pub record IsFound (range : AddressRange) (p : Prefix) : Type 0 where
  pub addresses : has_addresses range p ≡ true
  pub first : p.addr ≡ range.first

found : (range : AddressRange) (count len : ℕ) (p : Prefix) → prefix_from range count len ≡ Some p → IsFound range p
found range zero len p is = cc
found range (suc count) len p is = by_test (has_addresses range (prefix_with range.first len)) refl is (λ later. found range count (len + 1) p later)
  where
    by_test : (b : Bool) → has_addresses range (prefix_with range.first len) ≡ b
        → (if b then Some (prefix_with range.first len) else prefix_from range count (len + 1)) ≡ Some p
        → (prefix_from range count (len + 1) ≡ Some p → IsFound range p) → IsFound range p
    by_test true has is behind = subst (λ (q : Prefix). IsFound range q) (some_same (prefix_with range.first len) p is) (record { addresses = has; first = refl })
    by_test false has is behind = behind is

same_range : (range : AddressRange) (p : Prefix) → has_addresses range p ≡ true → range_of p ≡ range
same_range range p has =
    let first : first_address p ≡ range.first = grind (arith, nat_tests) in
    let last : last_address p ≡ range.last = grind (arith, nat_tests) in
    λ i. record { first = first i; last = last i }

-- ---- The candidate of the text of a range

between_read : (range : AddressRange) → range.first < 2 ^ 32 → range.last < 2 ^ 32 → candidate (interval_text range None) ≡ Some range
between_read range first last =
    ap (by_parts (interval_text range None))
    (split_once-append 45 (address_text range.first) (address_text range.last) (address_lacks 45 range.first refl refl))
    ∙ ap₂ between_of (address_of-address_text range.first first) (address_of-address_text range.last last)

prefix_lacks : (p : Prefix) → lacks 45 (prefix_text p) ≡ true
unfolding prefix_text
prefix_lacks p =
    lacks-append 45 (address_text p.addr) (codes "/" ++ decimal p.len) (address_lacks 45 p.addr refl refl)
    (decimal_lacks 45 p.len refl (omega (arith, p.fits)))

spelled_read : (text : List ℕ) (range : AddressRange) (p : Prefix) → range.first < 2 ^ 32 → IsFound range p → IsSpelling text p
    → lacks 45 text ≡ true → candidate text ≡ Some range
spelled_read text range p first is spelled no_dash =
    let fits : p.addr < 2 ^ 32 = omega (arith, is.first, first) in
    ap (by_parts text) (split_once_none 45 text no_dash)
    ∙ ap (λ (o : Option Prefix). option_map range_of o) (prefix_of-read text p fits spelled)
    ∙ ap (λ (r : AddressRange). Some r) (same_range range p is.addresses)

block_read : (range : AddressRange) (p : Prefix) → range.first < 2 ^ 32 → IsFound range p → candidate (interval_text range (Some p)) ≡ Some range
block_read range p first is = by_length (p.len == 32) refl
  where
    by_length : (b : Bool) → (p.len == 32) ≡ b → candidate (if b then address_text p.addr else prefix_text p) ≡ Some range
    by_length true whole =
        let single : p.len ≡ 32 = grind (arith, nat_tests) in
        spelled_read (address_text p.addr) range p first is (inr (single, refl)) (address_lacks 45 p.addr refl refl)
    by_length false shorter = spelled_read (prefix_text p) range p first is (inl refl) (prefix_lacks p)

candidate_own : (range : AddressRange) → range.first < 2 ^ 32 → range.last < 2 ^ 32 → candidate (range_text range) ≡ Some range
unfolding range_text
candidate_own range first last = by_prefix (range_prefix range) refl
  where
    by_prefix : (o : Option Prefix) → range_prefix range ≡ o → candidate (interval_text range o) ≡ Some range
    by_prefix None is = between_read range first last
    by_prefix (Some p) is = block_read range p first (found range 33 0 p is)

-- ---- The two directions

checked_said : (text : List ℕ) (o : Option AddressRange) → IfSome (checked text o) (λ range. text ≡ range_text range)
checked_said text None = tt
checked_said text (Some range) = by_test (bytes_eq text (range_text range)) refl
  where
    by_test : (b : Bool) → bytes_eq text (range_text range) ≡ b → IfSome (some_if b range) (λ range. text ≡ range_text range)
    by_test true same = bytes_same text (range_text range) same
    by_test false other = tt

pub interval_said : (text : List ℕ) (r : Option AddressRange) → r ≡ interval_of text → IfSome r (λ range. text ≡ range_text range)
interval_said text r is = subst (λ (o : Option AddressRange). IfSome o (λ range. text ≡ range_text range)) (sym is) (checked_said text (candidate text))

pub own_text : (range : AddressRange) → range.first < 2 ^ 32 → range.last < 2 ^ 32 → interval_of (range_text range) ≡ Some range
own_text range first last =
    ap (checked (range_text range)) (candidate_own range first last)
    ∙ ap (λ (b : Bool). some_if b range) (bytes_own (range_text range))

pub interval_read : (text : List ℕ) (r : Option AddressRange) (range : AddressRange) → r ≡ interval_of text → range.first < 2 ^ 32
    → range.last < 2 ^ 32 → text ≡ range_text range → r ≡ Some range
interval_read text r range is first last written = is ∙ ap interval_of written ∙ own_text range first last
