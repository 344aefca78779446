use Rattle.std.proofs.Common.{◌≡◌, ◌∙◌, ◌*◌, ◌+◌, ◌-◌, ◌<◌, ◌^◌, ◌%◌, ◌++◌, ◌∷◌, [], List, ℕ, ap, append_assoc, append-nil, arith, sym}
use Rattle.std.proofs.lemmas.Nat.{one_shl, pow_pos}
use Rattle.host_net.specs.declared.prefix.Prefix.{Prefix}
use Rattle.nft_chains.specs.Translation.{cover}
use Rattle.nft_chains.proofs.CoverLaws.{cover_halves, cover_none, cover_one, cover_whole, half_block}
use Rattle.nft_chains.proofs.prefixes.+push_cover.Goals as goal
use Rattle.nft_chains.proofs.prefixes.+push_cover.Goals.{then-bits-eq0-via-then-bits-eq0, then-bits-eq0-via-else-bits-eq0+then-is_outside}

pub returns-then-is_within : goal.returns-then-is_within
returns-then-is_within t c =
    let old = c.args.prefixes.now.items in
    c.in_ok-push.ensures.items
    ∙ ap (λ (q : Prefix). old ++ q ∷ []) c.prefix_with.ensures
    ∙ ap (λ (qs : List Prefix). old ++ qs) (sym (cover_whole c.args.bits c.args.first c.args.range (sym c.is_within.ensures ∙ c.if-is_within.true)))

pub push_cover-requires : goal.push_cover-requires
push_cover-requires t c =
    let some : 0 < c.args.bits = omega (arith, c.if-bits-eq0.false) in
    (omega (arith, some, c.decreases), (omega (arith, c.requires.bits), omega (arith, c.requires.block, half_block c.args.bits some)))

pub overflow_add-first : goal.overflow_add-first
overflow_add-first t c =
    let some : 0 < c.args.bits = omega (arith, c.if-bits-eq0.false) in
    let shifted : 1 * 2 ^ (c.args.bits - 1) % 4294967296 ≡ 2 ^ (c.args.bits - 1) = one_shl (c.args.bits - 1) 32 (omega (arith, some, c.requires.bits)) in
    omega (arith, shifted, c.requires.block, half_block c.args.bits some, pow_pos (c.args.bits - 1))

pub push_cover-requires-2 : goal.push_cover-requires-2
push_cover-requires-2 t c =
    let some : 0 < c.args.bits = omega (arith, c.if-bits-eq0.false) in
    let shifted : 1 * 2 ^ (c.args.bits - 1) % 4294967296 ≡ 2 ^ (c.args.bits - 1) = one_shl (c.args.bits - 1) 32 (omega (arith, some, c.requires.bits)) in (
      omega (arith, some, c.decreases),
      (omega (arith, c.requires.bits), omega (arith, shifted, c.requires.block, half_block c.args.bits some)),
    )

pub returns : goal.returns
returns t c =
    let old = c.args.prefixes.now.items in
    let bits = c.args.bits in
    let first = c.args.first in
    let range = c.args.range in
    let some : 0 < bits = omega (arith, c.if-bits-eq0.false) in
    let shifted : 1 * 2 ^ (bits - 1) % 4294967296 ≡ 2 ^ (bits - 1) = one_shl (bits - 1) 32 (omega (arith, some, c.requires.bits)) in
    let low = cover (bits - 1) first range in
    let high = cover (bits - 1) (first + 1 * 2 ^ (bits - 1) % 4294967296) range in
    c.in_ok-push_cover-2.ensures
    ∙ ap (λ (qs : List Prefix). qs ++ high) c.in_ok-push_cover.ensures
    ∙ append_assoc old low high
    ∙ ap (λ (n : ℕ). old ++ (low ++ cover (bits - 1) (first + n) range)) shifted
    ∙ ap (λ (qs : List Prefix). old ++ qs)
    (sym (cover_halves bits first range some (sym c.is_within.ensures ∙ c.if-is_within.false) (sym c.is_outside.ensures ∙ c.if-is_outside.false)))

nothing_more : (old more : List Prefix) → more ≡ [] → old ≡ old ++ more
nothing_more old more none = sym (ap (λ (qs : List Prefix). old ++ qs) none ∙ append-nil old)

pub returns-then-bits-eq0 : goal.returns-then-bits-eq0
returns-then-bits-eq0 t c =
    let outside = sym c.is_within.ensures ∙ c.if-is_within.false in
    nothing_more c.args.prefixes.now.items (cover c.args.bits c.args.first c.args.range) (elim c.then-bits-eq0.branch [
      | then-bits-eq0-via-then-bits-eq0 w ↦ cover_one c.args.bits c.args.first c.args.range (omega (arith, w.if-bits-eq0.true)) outside
      | then-bits-eq0-via-else-bits-eq0+then-is_outside w ↦
          cover_none c.args.bits c.args.first c.args.range outside (sym w.is_outside.ensures ∙ w.if-is_outside.true)
    ])
