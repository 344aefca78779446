-- The packets that the chain of a sender lets pass.
use Rattle.std.proofs.Common.{◌≡◌, ℕ, zero, suc, ◌<◌, Bool, true, false, List, [], ◌∷◌, ◌++◌, Option, Some, None, map, length, refl, sym, ap, subst, ◌∙◌, arith}
use Rattle.std.specs.Prelude.{slice_get}
use Rattle.std.specs.List.{list_any}
use Rattle.std.specs.Option.{option_and_then}
use Rattle.std.proofs.lemmas.Option.{slice_get_within}
use Rattle.host_net.specs.declared.packet.Packet.{Packet}
use Rattle.host_net.specs.declared.packet.CtState.{CtState}
use Rattle.host_net.specs.Host.{owner_of, rest_of}
use Rattle.host_net.specs.Packet.{IsPacket}
use Rattle.host_net.specs.Services.{services_of}
use Rattle.host_net.specs.inner.Services.{AreServices}
use Rattle.pkt_core.specs.Firewall.{is_established}
use Rattle.pkt_core.specs.FlowPolicy.{FlowPolicy}
use Rattle.emit_core.proofs.HostChainLaws.{may_link_owner}
use Rattle.emit_core.specs.declared.direction.Direction.TheVariants.{Outbound}
use Rattle.emit_core.specs.Directions.{permits}
use Rattle.emit_core.specs.inner.Link.{served}
use Rattle.nft_rules.specs.declared.table.Chain.{Chain}
use Rattle.nft_rules.specs.declared.table.End.TheVariants.{Source, Destination}
use Rattle.nft_rules.specs.declared.table.MatchRule.{MatchRule}
use Rattle.nft_rules.specs.declared.table.Rule.{Rule}
use Rattle.nft_rules.specs.declared.table.Rule.TheVariants.{Match}
use Rattle.nft_rules.specs.declared.table.Verdict.{Verdict}
use Rattle.nft_rules.specs.declared.table.Verdict.TheVariants.{Accept, Drop, Goto}
use Rattle.nft_rules.specs.Semantics.{Decides, fits}
use Rattle.nft_rules.specs.Semantics.Decides.{by_policy}
use Rattle.nft_emit.specs.declared.cuts.Cut.{Cut}
use Rattle.nft_emit.specs.inner.Building.{AreAccepting, Extends, HasRules}
use Rattle.nft_emit.specs.inner.Cuts.{AreCuts}
use Rattle.nft_emit.specs.inner.Falls.{Falls, verdict_at, verdict_of}
use Rattle.nft_emit.specs.inner.Links.{Accepts, Fits, accepts, may_send}
use Rattle.nft_emit.specs.inner.Sending.{AreHeads, RowFits, Sends}
use Rattle.nft_emit.proofs.BuildLaws.{at_end, extends_push, has_rules_more, pushed_at}
use Rattle.nft_rules.proofs.EvalLaws.{Ends, none_decides}
use Rattle.nft_emit.proofs.EvalLaws.{accepting_given, accepting_only}
use Rattle.nft_emit.proofs.FallLaws.{AllLeadBelow, MayLeadBelow, falls_given, falls_only}
use Rattle.nft_emit.proofs.LinkLaws.{both_accept, both_accepting}

-- 1. The verdict on the packets from one host to another.

pub link_accepts : (chains : List Chain) (policy : FlowPolicy) (i j c : ℕ) (rules : List MatchRule) → AreServices policy.site.services
    → rules ≡ accepts false Destination (served (permits policy.permitted i j) (services_of policy.site.services i j)) ++ accepts true Source (served (permits policy.stateful j i) (services_of policy.site.services j i))
    → HasRules chains c (map Match rules) → Accepts chains policy i j c
link_accepts chains policy i j c rules are is has =
    let there = permits policy.permitted i j in
    let back = permits policy.stateful j i in
    let ss = services_of policy.site.services i j in
    let rs = services_of policy.site.services j i in
    record {
      rules = rules;
      there = has;
      accepting = subst AreAccepting (sym is) (both_accepting there back ss rs (are.valid i j) (are.valid j i));
      same = λ packet state known. ap (list_any (fits state packet)) is ∙ both_accept packet state there back ss rs known;
    }

pub fits_more : (old new : List Chain) (policy : FlowPolicy) (i j : ℕ) (v : Option Verdict) → Extends old new → Fits old policy i j v → Fits new policy i j v
fits_more old new policy i j None more fits = fits
fits_more old new policy i j (Some Accept) more fits = fits
fits_more old new policy i j (Some Drop) more fits = fits
fits_more old new policy i j (Some (Goto c)) more fits = record {
  rules = fits.rules;
  there = has_rules_more old new c (map Match fits.rules) more fits.there;
  accepting = fits.accepting;
  same = fits.same;
}

fits_below : (chains : List Chain) (policy : FlowPolicy) (i j : ℕ) (v : Option Verdict) → Fits chains policy i j v → MayLeadBelow (length chains) v
fits_below chains policy i j None fits = tt
fits_below chains policy i j (Some Accept) fits = tt
fits_below chains policy i j (Some Drop) fits = tt
fits_below chains policy i j (Some (Goto c)) fits = slice_get_within chains c fits.there.chain fits.there.there

fits_only : (chains : List Chain) (policy : FlowPolicy) (packet : Packet) (state : CtState) (i j : ℕ) (v : Option Verdict) (passes : Bool) → IsPacket packet
    → Fits chains policy i j v → Ends chains state packet v passes → passes ≡ may_send policy packet state i j
fits_only chains policy packet state i j None passes is fits ends = none_decides chains state packet passes ends ∙ sym (fits packet state)
fits_only chains policy packet state i j (Some Accept) passes is fits ends = ends ∙ sym (fits packet state)
fits_only chains policy packet state i j (Some Drop) passes is fits ends = ends ∙ sym (fits packet state)
fits_only chains policy packet state i j (Some (Goto c)) passes is fits ends =
    let one : Some ends.0 ≡ Some fits.there.chain = sym ends.1 ∙ fits.there.there in
    let same : ends.0 ≡ fits.there.chain = cc in
    accepting_only chains state packet fits.rules passes fits.accepting
    (subst (λ (rs : List Rule). Decides chains state packet rs passes) (ap (λ (x : Chain). x.rules.items) same ∙ fits.there.rules_are) ends.2)
    ∙ fits.same packet state is

fits_given : (chains : List Chain) (policy : FlowPolicy) (packet : Packet) (state : CtState) (i j : ℕ) (v : Option Verdict) → IsPacket packet
    → Fits chains policy i j v → Ends chains state packet v (may_send policy packet state i j)
fits_given chains policy packet state i j None is fits = subst (Decides chains state packet []) (sym (fits packet state)) by_policy
fits_given chains policy packet state i j (Some Accept) is fits = fits packet state
fits_given chains policy packet state i j (Some Drop) is fits = fits packet state
fits_given chains policy packet state i j (Some (Goto c)) is fits = (
  fits.there.chain,
  fits.there.there,
  subst (λ (rs : List Rule). Decides chains state packet rs (may_send policy packet state i j)) (sym fits.there.rules_are)
      (subst (Decides chains state packet (map Match fits.rules)) (fits.same packet state is) (accepting_given chains state packet fits.rules fits.accepting)),
)

-- 2. The verdict on the packets of a sender.

there_below : {A : Type 0} (xs : List A) (j : ℕ) → j < length xs → (x : A) × (slice_get xs j ≡ Some x)
there_below [] j low = absurd (omega (arith, low))
there_below (x ∷ xs) zero low = (x, refl)
there_below (x ∷ xs) (suc j) low = there_below xs j (omega (arith, low))

pub verdict_there : (verdicts : List (Option Verdict)) (j : ℕ) → j < length verdicts → slice_get verdicts j ≡ Some (verdict_at verdicts j)
verdict_there verdicts j low =
    let found = there_below verdicts j low in
    found.1 ∙ ap (λ (v : Option Verdict). Some v) (sym (ap (option_and_then (λ (v : Option Verdict). v)) found.1))

pub row_more : (old new : List Chain) (policy : FlowPolicy) (i : ℕ) (row : List (Option Verdict)) (v : Option Verdict) → Extends old new
    → RowFits old policy i row → Fits new policy i (length row) v → RowFits new policy i (row ++ v ∷ [])
row_more old new policy i row v more before fits =
    pushed_at (λ j u. Fits new policy i j u) row v (λ j u at. fits_more old new policy i j u more (before j u at)) fits

row_extends : (old new : List Chain) (policy : FlowPolicy) (i : ℕ) (row : List (Option Verdict)) → Extends old new → RowFits old policy i row → RowFits new policy i row
row_extends old new policy i row more before = λ j v at. fits_more old new policy i j v more (before j v at)

pub row_below : (chains : List Chain) (policy : FlowPolicy) (i : ℕ) (row : List (Option Verdict)) → RowFits chains policy i row → AllLeadBelow (length chains) row
row_below chains policy i row fits = λ j v at. fits_below chains policy i j v (fits j v at)

pub sends_more : (old new : List Chain) (policy : FlowPolicy) (cuts : List Cut) (i c : ℕ) → Extends old new → Sends old policy cuts i c → Sends new policy cuts i c
sends_more old new policy cuts i c more sends = record {
  chain = sends.chain;
  there = more c sends.chain sends.there;
  row = sends.row;
  whole = sends.whole;
  fits = row_extends old new policy i sends.row more sends.fits;
  falls = sends.falls;
}

pub sender_sends : (chains : List Chain) (policy : FlowPolicy) (cuts : List Cut) (i : ℕ) (row : List (Option Verdict)) (x : Chain)
    → length row ≡ length policy.site.hosts → RowFits chains policy i row → Falls Destination cuts row (rest_of policy.site.hosts) x.rules.items
    → Sends (chains ++ x ∷ []) policy cuts i (length chains)
sender_sends chains policy cuts i row x whole fits falls = record {
  chain = x;
  there = at_end chains x;
  row = row;
  whole = whole;
  fits = row_extends chains (chains ++ x ∷ []) policy i row (extends_push chains (x ∷ [])) fits;
  falls = falls;
}

owner_only : (chains : List Chain) (policy : FlowPolicy) (packet : Packet) (state : CtState) (i : ℕ) (row : List (Option Verdict)) (owner : Option ℕ) (passes : Bool) → IsPacket packet
    → RowFits chains policy i row → ((j : ℕ) → owner ≡ Some j → j < length row) → Ends chains state packet (verdict_of row owner) passes
    → passes ≡ may_link_owner Outbound policy packet (is_established state) i owner
owner_only chains policy packet state i row None passes is fits below ends = none_decides chains state packet passes ends
owner_only chains policy packet state i row (Some j) passes is fits below ends =
    fits_only chains policy packet state i j (verdict_at row j) passes is (fits j (verdict_at row j) (verdict_there row j (below j refl))) ends

owner_given : (chains : List Chain) (policy : FlowPolicy) (packet : Packet) (state : CtState) (i : ℕ) (row : List (Option Verdict)) (owner : Option ℕ) → IsPacket packet
    → RowFits chains policy i row → ((j : ℕ) → owner ≡ Some j → j < length row)
    → Ends chains state packet (verdict_of row owner) (may_link_owner Outbound policy packet (is_established state) i owner)
owner_given chains policy packet state i row None is fits below = by_policy
owner_given chains policy packet state i row (Some j) is fits below =
    fits_given chains policy packet state i j (verdict_at row j) is (fits j (verdict_at row j) (verdict_there row j (below j refl)))

pub sends_only : (chains : List Chain) (policy : FlowPolicy) (cuts : List Cut) (packet : Packet) (state : CtState) (i c : ℕ) (passes : Bool) → IsPacket packet
    → AreCuts policy.site.hosts cuts → ((a j : ℕ) → owner_of policy.site.hosts a ≡ Some j → j < length policy.site.hosts) → Sends chains policy cuts i c
    → Ends chains state packet (Some (Goto c)) passes → passes ≡ may_link_owner Outbound policy packet (is_established state) i (owner_of policy.site.hosts packet.dst)
sends_only chains policy cuts packet state i c passes is are below sends ends =
    let one : Some ends.0 ≡ Some sends.chain = sym ends.1 ∙ sends.there in
    let same : ends.0 ≡ sends.chain = cc in
    owner_only chains policy packet state i sends.row (owner_of policy.site.hosts packet.dst) passes is sends.fits
    (λ j of. subst (λ (n : ℕ). j < n) (sym sends.whole) (below packet.dst j of))
    (falls_only chains state packet Destination policy.site.hosts cuts sends.row sends.chain.rules.items passes are is.1 sends.falls
    (subst (λ (x : Chain). Decides chains state packet x.rules.items passes) same ends.2))

pub sends_given : (chains : List Chain) (policy : FlowPolicy) (cuts : List Cut) (packet : Packet) (state : CtState) (i c : ℕ) → IsPacket packet
    → AreCuts policy.site.hosts cuts → ((a j : ℕ) → owner_of policy.site.hosts a ≡ Some j → j < length policy.site.hosts) → Sends chains policy cuts i c
    → Ends chains state packet (Some (Goto c)) (may_link_owner Outbound policy packet (is_established state) i (owner_of policy.site.hosts packet.dst))
sends_given chains policy cuts packet state i c is are below sends = (
  sends.chain,
  sends.there,
  falls_given chains state packet Destination policy.site.hosts cuts sends.row sends.chain.rules.items _ are is.1 sends.falls
      (owner_given chains policy packet state i sends.row (owner_of policy.site.hosts packet.dst) is sends.fits
      (λ j of. subst (λ (n : ℕ). j < n) (sym sends.whole) (below packet.dst j of))),
)

-- 3. The verdicts of the base chain.

pub heads_more : (old new : List Chain) (policy : FlowPolicy) (cuts : List Cut) (heads : List (Option Verdict)) (c : ℕ) → Extends old new
    → AreHeads old policy cuts heads → Sends new policy cuts (length heads) c → AreHeads new policy cuts (heads ++ Some (Goto c) ∷ [])
heads_more old new policy cuts heads c more before sends =
    pushed_at (λ i v. (d : ℕ) × (v ≡ Some (Goto d)) × Sends new policy cuts i d) heads (Some (Goto c))
    (λ i v at. let found = before i v at in (found.0, found.1, sends_more old new policy cuts i found.0 more found.2))
    (c, refl, sends)

pub heads_below : (chains : List Chain) (policy : FlowPolicy) (cuts : List Cut) (heads : List (Option Verdict)) → AreHeads chains policy cuts heads
    → AllLeadBelow (length chains) heads
heads_below chains policy cuts heads are = λ i v at.
    let found = are i v at in
    subst (MayLeadBelow (length chains)) (sym found.1) (slice_get_within chains found.0 found.2.chain found.2.there)
