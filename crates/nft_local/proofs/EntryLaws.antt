-- The verdict of the chains of a direction on a packet.
use Rattle.std.proofs.Common.{◌≡◌, inl, ℕ, ◌<◌, Bool, true, false, ◌&&◌, List, [], ◌∷◌, Some, None, refl, sym, subst, ◌∙◌, arith, true≢false}
use Rattle.std.specs.Prelude.{IfOk, OnOk, slice_get}
use Rattle.std.specs.declared.result.Result.{Result}
use Rattle.std.specs.declared.result.Result.TheVariants.{Ok, Err}
use Rattle.std.proofs.lemmas.Bool.{and_parts}
use Rattle.host_net.specs.declared.packet.Packet.{Packet}
use Rattle.host_net.specs.declared.packet.CtState.{CtState}
use Rattle.host_net.specs.Host.{Host}
use Rattle.host_net.specs.Prefix.{covers}
use Rattle.host_net.specs.PrefixView.{first_address, last_address}
use Rattle.host_net.proofs.PrefixLaws.{covers_between}
use Rattle.header_space.specs.Owners.{LiesIn}
use Rattle.emit_core.specs.declared.direction.Direction.{Direction}
use Rattle.emit_core.specs.declared.direction.Direction.TheVariants.{Outbound, Inbound}
use Rattle.emit_core.specs.Directions.{other_direction}
use Rattle.emit_core.specs.OtherAddress.{other_address}
use Rattle.host_emit.specs.LocalLayout.{loopback}
use Rattle.host_emit.specs.HostEnforcement.{is_internal}
use Rattle.nft_rules.specs.declared.table.Chain.{Chain}
use Rattle.nft_rules.specs.declared.table.Element.{Element}
use Rattle.nft_rules.specs.declared.table.End.{End}
use Rattle.nft_rules.specs.declared.table.Rule.{Rule}
use Rattle.nft_rules.specs.declared.table.Rule.TheVariants.{Map}
use Rattle.nft_rules.specs.declared.table.Verdict.{Verdict}
use Rattle.nft_rules.specs.declared.table.Verdict.TheVariants.{Accept, Goto}
use Rattle.nft_rules.specs.Loadable.{AreRules, AscendFrom, LeadBelow, LeadsBelow}
use Rattle.nft_rules.specs.Maps.{LeadsNowhere, LeadsTo}
use Rattle.nft_rules.specs.Semantics.{Decides, address_at}
use Rattle.nft_rules.proofs.EvalLaws.{Follows, decides_first}
use Rattle.nft_local.specs.inner.Entries.{IsEntry, IsEntryChain, IsSide, LeadsOwn, far_end, loopback_range, near_end}

-- 1. Loopback addresses.

in_loopback : (a : ℕ) → covers loopback a ≡ true → LiesIn loopback_range a
unfolding first_address last_address
in_loopback a on = let between = (covers_between loopback a).0 on in (between.0, between.1)

off_loopback : (a : ℕ) → covers loopback a ≡ false → LiesIn loopback_range a → ⊥
unfolding first_address last_address
off_loopback a off lies = true≢false (sym ((covers_between loopback a).1 (lies.0, lies.1)) ∙ off)

-- 2. The first rule of a chain.

pub entry_on : (chains : List Chain) (state : CtState) (packet : Packet) (end : End) (v : Verdict) (behind rules : List Rule) (passes : Bool)
    → IsEntry end v behind rules → covers loopback (address_at end packet) ≡ true → Follows chains state packet behind (Some v) passes
    → Decides chains state packet rules passes
entry_on chains state packet end v behind rules passes entry on follows =
    subst (λ (rs : List Rule). Decides chains state packet rs passes) (sym entry.rules_are)
    (decides_first chains state packet (Map (record { end = end; elements = entry.elements })) behind passes (Some v)
    (subst (λ (es : List Element). LeadsTo es (address_at end packet) v) (sym entry.items) (inl (in_loopback (address_at end packet) on, refl))) follows)

pub entry_off : (chains : List Chain) (state : CtState) (packet : Packet) (end : End) (v : Verdict) (behind rules : List Rule) (passes : Bool)
    → IsEntry end v behind rules → covers loopback (address_at end packet) ≡ false → Decides chains state packet behind passes
    → Decides chains state packet rules passes
entry_off chains state packet end v behind rules passes entry off decides =
    subst (λ (rs : List Rule). Decides chains state packet rs passes) (sym entry.rules_are)
    (decides_first chains state packet (Map (record { end = end; elements = entry.elements })) behind passes None
    (subst (λ (es : List Element). LeadsNowhere es (address_at end packet)) (sym entry.items) (off_loopback (address_at end packet) off, tt)) decides)

not_empty : (es : List Element) (e : Element) → es ≡ e ∷ [] → es ≡ [] → ⊥
not_empty es e is none = let other : e ∷ [] ≡ [] = sym is ∙ none in cc

pub entry_loads : (hosts : List Host) (near : End) (h c : ℕ) (end : End) (v : Verdict) (x : Chain) (n : ℕ) → IsEntryChain hosts near h c end v x
    → c < n → LeadsBelow n v → AreRules n x.rules.items
entry_loads hosts near h c end v x n is below leads =
    subst (AreRules n) (sym is.entry.rules_are) (
      (
        not_empty is.entry.elements.items _ is.entry.items,
        subst (AscendFrom 0) (sym is.entry.items) (omega arith, omega arith, tt),
        subst (LeadBelow n) (sym is.entry.items) (leads, tt),
      ),
      is.own.loads n below,
    )

-- 3. The two ends of a packet.

pub near_address : (side : Direction) (packet : Packet) → address_at (near_end side) packet ≡ other_address (other_direction side) packet
near_address Outbound packet = refl
near_address Inbound packet = refl

right_off : (a b : Bool) → (a && b) ≡ false → a ≡ true → b ≡ false
right_off true b off on = off
right_off false b off on = cc

left_off : (a b : Bool) → (a && b) ≡ false → b ≡ true → a ≡ false
left_off true true off on = cc
left_off true false off on = cc
left_off false b off on = refl

far_off : (side : Direction) (packet : Packet) → is_internal packet ≡ false → covers loopback (address_at (near_end side) packet) ≡ true
    → covers loopback (address_at (far_end side) packet) ≡ false
far_off Outbound packet off on = right_off (covers loopback packet.src) (covers loopback packet.dst) off on
far_off Inbound packet off on = left_off (covers loopback packet.src) (covers loopback packet.dst) off on

near_on : (side : Direction) (packet : Packet) → is_internal packet ≡ true → covers loopback (address_at (near_end side) packet) ≡ true
near_on Outbound packet on = (and_parts (covers loopback packet.src) (covers loopback packet.dst) on).0
near_on Inbound packet on = (and_parts (covers loopback packet.src) (covers loopback packet.dst) on).1

far_on : (side : Direction) (packet : Packet) → is_internal packet ≡ true → covers loopback (address_at (far_end side) packet) ≡ true
far_on Outbound packet on = (and_parts (covers loopback packet.src) (covers loopback packet.dst) on).1
far_on Inbound packet on = (and_parts (covers loopback packet.src) (covers loopback packet.dst) on).0

-- 4. Both chains of a direction.

module _ (hosts : List Host) (h : ℕ) (side : Direction) (c m : ℕ) (x y : Chain) (is : IsSide hosts h side c m x y) (chains : List Chain)
    (there : slice_get chains m ≡ Some x) (state : CtState) (packet : Packet) where
  -- An internal packet is accepted.
  pub internal_passes : is_internal packet ≡ true → Decides chains state packet y.rules.items true
  internal_passes on =
      entry_on chains state packet (near_end side) (Goto m) is.own.behind y.rules.items true is.own.entry (near_on side packet on) (
        x,
        there,
        entry_on chains state packet (far_end side) Accept is.loopback.behind x.rules.items true is.loopback.entry (far_on side packet on) refl,
      )

  -- Another packet is decided by the rules behind the maps.
  pub external_passes : (passes : Bool) → is_internal packet ≡ false
      → ((behind : List Rule) → LeadsOwn hosts (near_end side) h c behind → Decides chains state packet behind passes)
      → Decides chains state packet y.rules.items passes
  external_passes passes off decides = by_near (covers loopback (address_at (near_end side) packet)) refl
    where
      by_near : (b : Bool) → covers loopback (address_at (near_end side) packet) ≡ b → Decides chains state packet y.rules.items passes
      by_near true on =
          entry_on chains state packet (near_end side) (Goto m) is.own.behind y.rules.items passes is.own.entry on (
            x,
            there,
            entry_off chains state packet (far_end side) Accept is.loopback.behind x.rules.items passes is.loopback.entry (far_off side packet off on)
                (decides is.loopback.behind is.loopback.own),
          )
      by_near false away =
          entry_off chains state packet (near_end side) (Goto m) is.own.behind y.rules.items passes is.own.entry away (decides is.own.behind is.own.own)

-- 5. The chains that are added.

pub if_ok : {T E : Type 0} (r : Result T E) (P Q : T → Type 0) → ((x : T) → P x → Q x) → IfOk r P → IfOk r Q
if_ok (Ok x) P Q turn p = turn x p
if_ok (Err e) P Q turn p = p

pub on_ok : {T E : Type 0} (r : Result T E) (P Q : Type 0) → (P → Q) → OnOk r P → OnOk r Q
on_ok (Ok x) P Q turn p = turn p
on_ok (Err e) P Q turn p = p

pub entry_chain : (hosts : List Host) (h c : ℕ) (near end own_near own_end : End) (v own_v : Verdict) (behind rules : List Rule) (x : Chain)
    → own_near ≡ near → own_end ≡ end → own_v ≡ v → LeadsOwn hosts own_near h c behind → IsEntry own_end own_v behind rules → x.rules.items ≡ rules
    → IsEntryChain hosts near h c end v x
entry_chain hosts h c near end own_near own_end v own_v behind rules x same_near same_end same_v leads entry is = record {
  behind = behind;
  own = subst (λ (e : End). LeadsOwn hosts e h c behind) same_near leads;
  entry =
      subst (λ (rs : List Rule). IsEntry end v behind rs) (sym is)
      (subst (λ (w : Verdict). IsEntry end w behind rules) same_v (subst (λ (e : End). IsEntry e own_v behind rules) same_end entry));
}
