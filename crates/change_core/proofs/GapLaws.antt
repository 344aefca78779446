-- Laws of gaps: a gap is new if and only if the old network has no gap between some owners of its hosts.
use Rattle.std.proofs.Common.{◌≡◌, ◌↔◌, ℕ, ◌<◌, ◌^◌, Bool, true, false, cond, ◌&&◌, ◌||◌, List, [], ◌∷◌, ◌++◌, Option, Some, None, refl, sym, ap, ◌∙◌, lit<}
use Rattle.std.specs.Prelude.{IsTrue}
use Rattle.std.specs.Option.{is_none}
use Rattle.std.specs.Global.{Global}
use Rattle.std.specs.declared.vec.Vec.{Vec}
use Rattle.std.proofs.lemmas.Bool.{and_parts}
use Rattle.host_net.specs.declared.packet.Packet.{Packet}
use Rattle.host_net.specs.Host.{Host, owner_of}
use Rattle.flow_set.specs.declared.flow.Flow.{Flow}
use Rattle.flow_set.specs.Flow.{same_flow}
use Rattle.flow_set.specs.FlowSet.{SetOfFlows, has, with_flow}
use Rattle.flow_set.specs.laws.FlowLaws.{has-append, has-with_flow, same_test}
use Rattle.change_core.specs.Weaker.{IsNewGap, IsOfFlow}
use Rattle.change_core.specs.inner.Listing.{is_new, lacks_from, lacks_some}
use Rattle.change_core.specs.inner.Sharing.{AreShared, Shares, flow_in, row_at}
use Rattle.change_core.proofs.ServingLaws.{passes_some, some_passes}
use Rattle.change_core.proofs.WeakerLaws.{flow_of, flow_there}

-- 1. Packets between hosts.

-- A packet between two addresses.
abbrev packet_between : ℕ → ℕ → Packet
packet_between a b = record { src = a; dst = b; proto = 0; sport = 0; dport = 0 }

of_flow_between : (hosts : List Host) (f : Flow) (a b : ℕ) → a < 2 ^ 32 → b < 2 ^ 32 → owner_of hosts a ≡ Some f.from → owner_of hosts b ≡ Some f.to
    → IsOfFlow hosts f (packet_between a b)
of_flow_between hosts f a b source destination from to = record {
  packet = (source, destination, lit< tt, lit< tt, lit< tt);
  src = from;
  dst = to;
}

none_where : (o : Option Flow) → is_none o ≡ true → o ≡ None
none_where None is = refl
none_where (Some f) is = cc

none_unless : (o : Option Flow) → ((g : Flow) → o ≡ Some g → ⊥) → is_none o ≡ true
none_unless None never = refl
none_unless (Some g) never = absurd (never g refl)

-- 2. New gaps.

pub new_where : (old : List Host) (old_gaps : List Flow) (new : List Host) (gaps : List Flow) (rows : List (Vec (Option ℕ) Global))
    → AreShared new old rows → (f : Flow) → IsTrue (has gaps f) → IsTrue (is_new old_gaps rows f) → IsNewGap old old_gaps new gaps f
new_where old old_gaps new gaps rows shared f gap lacks =
    let sender = some_passes (lacks_from old_gaps (row_at rows f.to)) (row_at rows f.from) lacks in
    let receiver = some_passes (λ r. is_none (flow_in old_gaps sender.0 r)) (row_at rows f.to) sender.2 in
    let from : Shares new old f.from sender.0 = ((shared f.from).exact sender.0).0 sender.1 in
    let to : Shares new old f.to receiver.0 = ((shared f.to).exact receiver.0).0 receiver.1 in
    let none : flow_in old_gaps sender.0 receiver.0 ≡ None = none_where (flow_in old_gaps sender.0 receiver.0) receiver.2 in
    record {
      is_gap = gap;
      packet = packet_between from.0 to.0;
      of_gap = of_flow_between new f from.0 to.0 from.1 to.1 from.2 to.2;
      of_no_old_gap = λ g there of. unlisted g there (sym from.3 ∙ of.src) (sym to.3 ∙ of.dst) none;
    }
  where
    unlisted : {s r : Option ℕ} (g : Flow) → IsTrue (has old_gaps g) → s ≡ Some g.from → r ≡ Some g.to → flow_in old_gaps s r ≡ None → ⊥
    unlisted {s = s} {r = r} g there source destination none =
        let found : flow_in old_gaps s r ≡ Some g =
        ap (λ (x : Option ℕ). flow_in old_gaps x r) source ∙ ap (flow_in old_gaps (Some g.from)) destination ∙ flow_there old_gaps g there in
        let no : None ≡ Some g = sym none ∙ found in
        let never : ⊥ = cc in
        never

pub where_new : (old : List Host) (old_gaps : List Flow) (new : List Host) (gaps : List Flow) (rows : List (Vec (Option ℕ) Global))
    → AreShared new old rows → (f : Flow) → IsNewGap old old_gaps new gaps f → IsTrue (is_new old_gaps rows f)
where_new old old_gaps new gaps rows shared f is =
    let p = is.packet in
    let from : Shares new old f.from (owner_of old p.src) = (p.src, is.of_gap.packet.0, is.of_gap.src, refl) in
    let to : Shares new old f.to (owner_of old p.dst) = (p.dst, is.of_gap.packet.1, is.of_gap.dst, refl) in
    let none : is_none (flow_in old_gaps (owner_of old p.src) (owner_of old p.dst)) ≡ true =
    none_unless (flow_in old_gaps (owner_of old p.src) (owner_of old p.dst))
    (λ g found.
    let of = flow_of old_gaps (owner_of old p.src) (owner_of old p.dst) g found in
    is.of_no_old_gap g of.listed (record { packet = is.of_gap.packet; src = of.sender; dst = of.receiver })) in
    passes_some (lacks_from old_gaps (row_at rows f.to)) (row_at rows f.from) (owner_of old p.src) (((shared f.from).exact (owner_of old p.src)).1 from)
    (passes_some (λ r. is_none (flow_in old_gaps (owner_of old p.src) r)) (row_at rows f.to) (owner_of old p.dst)
    (((shared f.to).exact (owner_of old p.dst)).1 to) none)

-- 3. The set of new gaps.

same_case : (w s t : Bool) → w ≡ t → ((w && true) || (s && t)) ≡ ((s || true) && t)
same_case true true true is = refl
same_case true false true is = refl
same_case false true false is = refl
same_case false false false is = refl
same_case true s false is = cc
same_case false s true is = cc

other_case : (w s t : Bool) → ((w && false) || (s && t)) ≡ ((s || false) && t)
other_case true true t = refl
other_case true false t = refl
other_case false true t = refl
other_case false false t = refl

more_members : (test : Flow → Bool) (f g : Flow) (seen : Bool) (wanted : Bool) → wanted ≡ test f
    → ((wanted && same_flow f g) || (seen && test g)) ≡ ((seen || (same_flow f g || false)) && test g)
more_members test f g seen wanted is = by_same (same_flow f g) refl
  where
    by_same : (b : Bool) → same_flow f g ≡ b → ((wanted && b) || (seen && test g)) ≡ ((seen || (b || false)) && test g)
    by_same true same = same_case wanted seen (test g) (is ∙ same_test test f g same)
    by_same false same = other_case wanted seen (test g)

inserted_members : (old new : SetOfFlows) (f g : Flow) (wanted : Bool)
    → new ≡ cond wanted (record { size = old.size; flows = with_flow old.flows f }) old
    → has new.flows g ≡ ((wanted && same_flow f g) || has old.flows g)
inserted_members old new f g true is = ap (λ (s : SetOfFlows). has s.flows g) is ∙ has-with_flow old.flows f g
inserted_members old new f g false is = ap (λ (s : SetOfFlows). has s.flows g) is

pub inserted_size : (old new : SetOfFlows) (f : Flow) (wanted : Bool) → new ≡ cond wanted (record { size = old.size; flows = with_flow old.flows f }) old
    → new.size ≡ old.size
inserted_size old new f true is = ap (λ (s : SetOfFlows). s.size) is
inserted_size old new f false is = ap (λ (s : SetOfFlows). s.size) is

-- The members of the set after one more flow.
pub members_more : (test : Flow → Bool) (old new : SetOfFlows) (seen : List Flow) (f : Flow) (wanted : Bool)
    → ((g : Flow) → has old.flows g ≡ (has seen g && test g)) → wanted ≡ test f
    → new ≡ cond wanted (record { size = old.size; flows = with_flow old.flows f }) old
    → (g : Flow) → has new.flows g ≡ (has (seen ++ f ∷ []) g && test g)
members_more test old new seen f wanted before is after g =
    inserted_members old new f g wanted after
    ∙ ap (λ (b : Bool). (wanted && same_flow f g) || b) (before g)
    ∙ more_members test f g (has seen g) wanted is
    ∙ ap (λ (b : Bool). b && test g) (sym (has-append seen (f ∷ []) g))

-- The test of a flow, by the rows of its hosts.
pub new_by_rows : (old_gaps : List Flow) (rows senders receivers : List (Vec (Option ℕ) Global)) (f : Flow) (from to : List (Option ℕ)) (wanted : Bool)
    → senders ≡ rows → receivers ≡ rows → from ≡ row_at senders f.from → to ≡ row_at receivers f.to → wanted ≡ lacks_some old_gaps from to
    → wanted ≡ is_new old_gaps rows f
new_by_rows old_gaps rows senders receivers f from to wanted first second source destination is =
    is
    ∙ ap (λ (l : List (Option ℕ)). lacks_some old_gaps l to) (source ∙ ap (λ (r : List (Vec (Option ℕ) Global)). row_at r f.from) first)
    ∙ ap (lacks_some old_gaps (row_at rows f.from)) (destination ∙ ap (λ (r : List (Vec (Option ℕ) Global)). row_at r f.to) second)

pub gaps_where : (old : List Host) (old_gaps : List Flow) (new : List Host) (gaps : List Flow) (rows : List (Vec (Option ℕ) Global)) (fs : List Flow)
    → AreShared new old rows → ((g : Flow) → has fs g ≡ (has gaps g && is_new old_gaps rows g)) → (f : Flow)
    → (IsTrue (has fs f) ↔ IsNewGap old old_gaps new gaps f)
gaps_where old old_gaps new gaps rows fs shared members f = (
  (λ there.
      let parts = and_parts (has gaps f) (is_new old_gaps rows f) (sym (members f) ∙ there) in
      new_where old old_gaps new gaps rows shared f parts.0 parts.1),
  (λ is.
      let lacks : is_new old_gaps rows f ≡ true = where_new old old_gaps new gaps rows shared f is in
      members f ∙ ap (λ (b : Bool). b && is_new old_gaps rows f) is.is_gap ∙ lacks),
)
