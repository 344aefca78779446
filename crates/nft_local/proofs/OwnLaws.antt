-- The rules for the packets of one host.
use Rattle.std.proofs.Common.{◌≡◌, ℕ, ◌<◌, ◌^◌, Bool, true, false, ◌==◌, List, [], ◌∷◌, ◌++◌, Option, Some, None, length, refl, sym, ap, subst, ◌∙◌, eq-eqb, ne_eqb}
use Rattle.std.specs.Prelude.{if◌then◌else◌, slice_get}
use Rattle.std.specs.Option.{option_and_then}
use Rattle.host_net.specs.declared.packet.Packet.{Packet}
use Rattle.host_net.specs.Host.{Host, owner_of, rest_of}
use Rattle.host_net.specs.Packet.{IsPacket}
use Rattle.nft_rules.specs.declared.table.End.{End}
use Rattle.nft_rules.specs.declared.table.End.TheVariants.{Source, Destination}
use Rattle.nft_rules.specs.declared.table.Rule.{Rule}
use Rattle.nft_rules.specs.declared.table.Verdict.{Verdict}
use Rattle.nft_rules.specs.declared.table.Verdict.TheVariants.{Goto}
use Rattle.nft_rules.specs.Semantics.{address_at}
use Rattle.nft_rules.specs.Semantics.Decides.{by_policy}
use Rattle.nft_rules.proofs.EvalLaws.{Ends}
use Rattle.nft_emit.specs.declared.cuts.Cut.{Cut}
use Rattle.nft_emit.specs.inner.Cuts.{AreCuts}
use Rattle.nft_emit.specs.inner.Falls.{Falls, verdict_at, verdict_of}
use Rattle.nft_emit.proofs.BuildLaws.{pushed_at}
use Rattle.nft_emit.proofs.FallLaws.{AllLeadBelow, MayLeadBelow, falls_given, falls_load}
use Rattle.nft_emit.proofs.SendLaws.{verdict_there}
use Rattle.nft_local.specs.inner.Entries.{LeadsOwn, OnlyAt, verdict_for}

-- 1. The verdicts of hosts.

for_itself : (h : ℕ) (v : Verdict) → verdict_for h v h ≡ Some v
for_itself h v = ap (λ b. if b then Some v else None) (eq-eqb h h refl)

for_other : (h : ℕ) (v : Verdict) (j : ℕ) → (j ≡ h → ⊥) → verdict_for h v j ≡ None
for_other h v j other = ap (λ b. if b then Some v else None) (ne_eqb j h other)

pub only_push : (h n : ℕ) (v : Verdict) (verdicts : List (Option Verdict)) → length verdicts ≡ n → OnlyAt h v verdicts
    → OnlyAt h v (verdicts ++ verdict_for h v n ∷ [])
only_push h n v verdicts whole only =
    pushed_at (λ j w. w ≡ verdict_for h v j) verdicts (verdict_for h v n) only (ap (verdict_for h v) (sym whole))

own_verdict : (h : ℕ) (v : Verdict) (verdicts : List (Option Verdict)) → OnlyAt h v verdicts → h < length verdicts → verdict_of verdicts (Some h) ≡ Some v
own_verdict h v verdicts only low = only h (verdict_at verdicts h) (verdict_there verdicts h low) ∙ for_itself h v

other_verdict : (h : ℕ) (v : Verdict) (verdicts : List (Option Verdict)) → OnlyAt h v verdicts → (o : Option ℕ) → (o ≡ Some h → ⊥)
    → verdict_of verdicts o ≡ None
other_verdict h v verdicts only None other = refl
other_verdict h v verdicts only (Some j) other = by_place (slice_get verdicts j) refl
  where
    by_place : (o : Option (Option Verdict)) → slice_get verdicts j ≡ o → option_and_then (λ w. w) o ≡ None
    by_place None at = refl
    by_place (Some w) at = only j w at ∙ for_other h v j (λ same. other (ap (λ i. Some i) same))

only_below : (n h c : ℕ) (verdicts : List (Option Verdict)) → OnlyAt h (Goto c) verdicts → c < n → AllLeadBelow n verdicts
only_below n h c verdicts only low = λ j w at. subst (MayLeadBelow n) (sym (only j w at)) (by_test (j == h))
  where
    by_test : (b : Bool) → MayLeadBelow n (if b then Some (Goto c) else None)
    by_test true = low
    by_test false = tt

-- 2. The rules.

pub small_address : (end : End) (packet : Packet) → IsPacket packet → address_at end packet < 2 ^ 32
small_address Source packet is = is.0
small_address Destination packet is = is.1

pub leads_own : (hosts : List Host) (cuts : List Cut) (end : End) (h c : ℕ) (verdicts : List (Option Verdict)) (rules : List Rule) → AreCuts hosts cuts
    → h < length verdicts → OnlyAt h (Goto c) verdicts → Falls end cuts verdicts (rest_of hosts) rules → LeadsOwn hosts end h c rules
leads_own hosts cuts end h c verdicts rules are low only falls = record {
  loads = λ n below. falls_load n end hosts cuts verdicts (rest_of hosts) rules are (only_below n h c verdicts only below) falls;
  own = λ chains state packet chain passes is owned there decides.
      falls_given chains state packet end hosts cuts verdicts rules passes are (small_address end packet is) falls
      (subst (λ (o : Option ℕ). Ends chains state packet (verdict_of verdicts o) passes) (sym owned)
      (subst (λ (v : Option Verdict). Ends chains state packet v passes) (sym (own_verdict h (Goto c) verdicts only low)) (chain, there, decides)));
  other = λ chains state packet is other.
      falls_given chains state packet end hosts cuts verdicts rules false are (small_address end packet is) falls
      (subst (λ (v : Option Verdict). Ends chains state packet v false)
      (sym (other_verdict h (Goto c) verdicts only (owner_of hosts (address_at end packet)) other)) by_policy);
}
