use Rattle.std.proofs.Common.{◌≡◌, ◌<◌, ℕ, List, refl, Some, slice_get, slice_index_or, arith, length}
use Rattle.std.proofs.lemmas.Option.{slice_get-get_or}
use Rattle.host_net.specs.declared.tuple_space.Key.{Key}
use Rattle.host_net.specs.inner.CoverView.{SameBits}
use Rattle.host_net.proofs.CoverLemmas.{no_key, next_found, next_none, next_other}
use Rattle.host_net.proofs.tuple_space.next_of.Goals as goal

-- The key at this index.
stands : (keys : List Key) (at : ℕ) → at < length keys → slice_get keys at ≡ Some (slice_index_or keys at no_key)
stands keys at within = slice_get-get_or keys at no_key within

pub returns-then-at-keys : goal.returns-then-at-keys
returns-then-at-keys c = λ order.
    next_none c.args.keys.now c.args.from.now c.place_of-at.result order (c.place_of-at.ensures.point order.rise) (omega (arith, c.if-at-keys.true))

pub returns-then-shares_bits : goal.returns-then-shares_bits
returns-then-shares_bits c = λ order.
    let bound = c.place_of-at.ensures.bound in
    next_found c.args.keys.now c.args.from.now c.place_of-at.result order (c.place_of-at.ensures.point order.rise)
    (slice_index_or c.args.keys.now c.place_of-at.result no_key)
    (stands c.args.keys.now c.place_of-at.result (omega (arith, bound, c.if-at-keys.false)))
    (c.if-shares_bits.ensures.0 refl)

pub returns-else-shares_bits : goal.returns-else-shares_bits
returns-else-shares_bits c = λ order.
    let bound = c.place_of-at.ensures.bound in
    let others : SameBits (slice_index_or c.args.keys.now c.place_of-at.result no_key) c.args.from.now → ⊥ =
    λ same. (let on = c.if-shares_bits.ensures.1 same in let off = c.if-shares_bits.false in cc) in
    next_other c.args.keys.now c.args.from.now c.place_of-at.result order (c.place_of-at.ensures.point order.rise)
    (slice_index_or c.args.keys.now c.place_of-at.result no_key)
    (stands c.args.keys.now c.place_of-at.result (omega (arith, bound, c.if-at-keys.false))) others
