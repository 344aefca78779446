-- Laws of weaker flows: the packets that two flows share, and the list of weaker flows.
use Rattle.std.proofs.Common.{◌≡◌, ◌≢◌, inl, inr, ℕ, ◌<◌, Bool, true, false, cond, List, [], ◌∷◌, Option, Some, None, get_or, refl, sym, ap, subst, ◌∙◌, arith, lit<}
use Rattle.std.specs.Prelude.{IsTrue}
use Rattle.std.specs.List.{AllPairs, Contains, flat_map}
use Rattle.std.specs.Global.{Global}
use Rattle.std.specs.declared.vec.Vec.{Vec}
use Rattle.std.proofs.lemmas.Bool.{or_cases, or_right}
use Rattle.std.proofs.lemmas.Bool.Decides.{nat_tests}
use Rattle.std.proofs.lemmas.List.Elements.{Contains-get_or}
use Rattle.std.proofs.lemmas.List.Kept.{AllPairs-cons}
use Rattle.std.proofs.lemmas.Option.{cond_some}
use Rattle.host_net.specs.declared.packet.Packet.{Packet}
use Rattle.host_net.specs.Services.{services_of}
use Rattle.host_net.specs.Site.{Site}
use Rattle.host_net.specs.inner.Services.{AreServices}
use Rattle.flow_set.specs.declared.flow.Flow.{Flow}
use Rattle.flow_set.specs.Flow.{before, same_flow}
use Rattle.flow_set.specs.FlowSet.{IsOrdered, has}
use Rattle.flow_set.specs.laws.FlowLaws.{has_first, same_flow-true}
use Rattle.change_core.specs.declared.weaker.Weaker.{Weaker}
use Rattle.change_core.specs.Weaker.{AreWeaker, ComesBefore, IsWeaker, SharePacket}
use Rattle.change_core.specs.inner.Listing.{weaker_from, weaker_of, weaker_with}
use Rattle.change_core.specs.inner.Serving.{flows_meet}
use Rattle.change_core.specs.inner.Sharing.{AreShared, OwnerBefore, Shares, flow_in, row_at}
use Rattle.change_core.proofs.ListLaws.{contains_cases, contains_first, contains_later, contains_none, pairs_none, pairs_of_parts, pairs_one, part_among, part_of}
use Rattle.change_core.proofs.ServingLaws.{is_of_one, meet_where, of_one, where_meet}

-- 1. Packets of two flows.

shared_by : (new old : Site) (f g : Flow) → AreServices new.services → AreServices old.services → f.from ≢ f.to → g.from ≢ g.to
    → Shares new.hosts old.hosts f.from (Some g.from) → Shares new.hosts old.hosts f.to (Some g.to)
    → IsTrue (flows_meet new.services old.services f g) → SharePacket new old f g
shared_by new old f g new_valid old_valid f_apart g_apart from to meet =
    let at = meet_where (services_of new.services f.from f.to) (services_of old.services g.from g.to) (new_valid.valid f.from f.to) (old_valid.valid g.from g.to) meet in
    let p : Packet = record { src = from.0; dst = to.0; proto = at.protocol; sport = 0; dport = at.port } in
    let matched = at.matched p refl refl in (
      p,
      (from.1, to.1, at.few, lit< tt, at.last),
      is_of_one new f p from.2 to.2 f_apart matched.0,
      is_of_one old g p from.3 to.3 g_apart matched.1,
    )

senders_share : (new old : Site) (f g : Flow) → SharePacket new old f g → Shares new.hosts old.hosts f.from (Some g.from)
senders_share new old f g (p, packet, of_new, of_old) = (p.src, packet.0, (of_one new f p of_new).source, (of_one old g p of_old).source)

receivers_share : (new old : Site) (f g : Flow) → SharePacket new old f g → Shares new.hosts old.hosts f.to (Some g.to)
receivers_share new old f g (p, packet, of_new, of_old) = (p.dst, packet.1, (of_one new f p of_new).destination, (of_one old g p of_old).destination)

services_share : (new old : Site) (f g : Flow) → SharePacket new old f g → IsTrue (flows_meet new.services old.services f g)
services_share new old f g (p, packet, of_new, of_old) =
    where_meet (services_of new.services f.from f.to) (services_of old.services g.from g.to) p (of_one new f p of_new).served (of_one old g p of_old).served

-- 2. Flows of a list.

pub has_where : (fs : List Flow) (f : Flow) → Contains fs f → IsTrue (has fs f)
has_where [] f there = absurd (contains_none f there)
has_where (g ∷ gs) f there = elim (contains_cases g gs f there) [
  | inl is ↦ subst (λ (x : Flow). IsTrue (has (g ∷ gs) x)) is (has_first g gs)
  | inr later ↦ or_right (same_flow g f) (has gs f) (has_where gs f later)
]

pub where_has : (fs : List Flow) (f : Flow) → IsTrue (has fs f) → Contains fs f
where_has [] f there = cc
where_has (g ∷ gs) f there = elim (or_cases (same_flow g f) (has gs f) there) [
  | inl same ↦ contains_first g gs f (same_flow-true g f same)
  | inr later ↦ contains_later g gs f (where_has gs f later)
]

flow_pairs : (fs : List Flow) → IsOrdered fs → AllPairs (λ f g. IsTrue (before f g)) fs
flow_pairs [] ordered = pairs_none (λ f g. IsTrue (before f g))
flow_pairs (f ∷ fs) ordered =
    AllPairs-cons (λ g h. IsTrue (before g h)) f fs (λ k d low. ordered.0 (get_or fs k d) (has_where fs (get_or fs k d) (Contains-get_or fs k d low)))
    (flow_pairs fs ordered.1)

-- A flow between two owners: both are its hosts, and the list has it.
pub record IsFlowOf (fs : List Flow) (from to : Option ℕ) (g : Flow) : Type 0 where
  pub sender : from ≡ Some g.from
  pub receiver : to ≡ Some g.to
  pub listed : IsTrue (has fs g)

pub flow_of : (fs : List Flow) (from to : Option ℕ) (g : Flow) → flow_in fs from to ≡ Some g → IsFlowOf fs from to g
flow_of fs (Some i) (Some j) g is =
    let parts = cond_some (has fs (record { from = i; to = j })) (record { from = i; to = j }) g is in
    record {
      sender = ap (λ (f : Flow). Some f.from) parts.1;
      receiver = ap (λ (f : Flow). Some f.to) parts.1;
      listed = subst (λ (f : Flow). IsTrue (has fs f)) parts.1 parts.0;
    }
flow_of fs (Some i) None g is = cc
flow_of fs None to g is = cc

pub flow_there : (fs : List Flow) (g : Flow) → IsTrue (has fs g) → flow_in fs (Some g.from) (Some g.to) ≡ Some g
flow_there fs g there = ap (λ (b : Bool). cond b (Some g) None) there

-- 3. The elements of the list.

-- The flow of an element, and its old flow, whose services fit.
record IsWith (fits : Flow → Bool) (f : Flow) (o : Option Flow) (w : Weaker) : Type 0 where
  flow : w.flow ≡ f
  old : o ≡ Some w.old
  fit : IsTrue (fits w.old)

one_is : (fits : Flow → Bool) (f : Flow) (o : Option Flow) (w : Weaker) → Contains (weaker_with fits f o) w → IsWith fits f o w
one_is fits f None w there = absurd (contains_none w there)
one_is fits f (Some g) w there = by_test (fits g) refl there
  where
    by_test : (b : Bool) → fits g ≡ b → Contains (cond b (record { flow = f; old = g } ∷ []) []) w → IsWith fits f (Some g) w
    by_test true fit among = elim (contains_cases (record { flow = f; old = g }) [] w among) [
      | inl is ↦ record {
        flow = sym (ap (λ (v : Weaker). v.flow) is);
        old = ap (λ (v : Weaker). Some v.old) is;
        fit = subst (λ (v : Weaker). IsTrue (fits v.old)) is fit;
      }
      | inr none ↦ absurd (contains_none w none)
    ]
    by_test false fit among = absurd (contains_none w among)

-- The flow of an element, and its old flow between the owner and one of the others.
record IsFrom (fits : Flow → Bool) (denied : List Flow) (f : Flow) (to : List (Option ℕ)) (sender : Option ℕ) (w : Weaker) : Type 0 where
  flow : w.flow ≡ f
  old : IsFlowOf denied sender (Some w.old.to) w.old
  among : Contains to (Some w.old.to)
  fit : IsTrue (fits w.old)

from_is : (fits : Flow → Bool) (denied : List Flow) (f : Flow) (to : List (Option ℕ)) (sender : Option ℕ) (w : Weaker)
    → Contains (weaker_from fits denied f to sender) w → IsFrom fits denied f to sender w
from_is fits denied f to sender w there =
    let part = part_of (λ r. weaker_with fits f (flow_in denied sender r)) to w there in
    let one = one_is fits f (flow_in denied sender part.0) w part.2 in
    let old = flow_of denied sender part.0 w.old one.old in
    record {
      flow = one.flow;
      old = subst (λ (r : Option ℕ). IsFlowOf denied sender r w.old) old.receiver old;
      among = subst (Contains to) old.receiver part.1;
      fit = one.fit;
    }

same_some : (i j : ℕ) (o : Option ℕ) → o ≡ Some i → o ≡ Some j → i ≡ j
same_some i j o left right = let both : Some i ≡ Some j = sym left ∙ right in cc

receiver_before : (f g : Flow) → f.from ≡ g.from → f.to < g.to → IsTrue (before f g)
receiver_before f g same low = grind (arith, nat_tests)

sender_before : (f g : Flow) → f.from < g.from → IsTrue (before f g)
sender_before f g low = grind (arith, nat_tests)

owners_rise : (x y : Option ℕ) (i j : ℕ) → OwnerBefore x y → x ≡ Some i → y ≡ Some j → i < j
owners_rise x y i j rises left right =
    subst (λ (o : Option ℕ). OwnerBefore (Some i) o) right (subst (λ (o : Option ℕ). OwnerBefore o y) left rises)

-- 4. The order of the pairs of one flow.

one_pairs : (fits : Flow → Bool) (f : Flow) (o : Option Flow) → AllPairs ComesBefore (weaker_with fits f o)
one_pairs fits f None = pairs_none ComesBefore
one_pairs fits f (Some g) = by_test (fits g)
  where
    by_test : (b : Bool) → AllPairs ComesBefore (cond b (record { flow = f; old = g } ∷ []) [])
    by_test true = pairs_one ComesBefore (record { flow = f; old = g })
    by_test false = pairs_none ComesBefore

from_pairs : (fits : Flow → Bool) (denied : List Flow) (f : Flow) (to : List (Option ℕ)) (sender : Option ℕ) → AllPairs OwnerBefore to
    → AllPairs ComesBefore (weaker_from fits denied f to sender)
from_pairs fits denied f to sender ascending =
    pairs_of_parts OwnerBefore ComesBefore (λ r. weaker_with fits f (flow_in denied sender r)) (λ r. one_pairs fits f (flow_in denied sender r)) across to
    ascending
  where
    across : (x y : Option ℕ) → OwnerBefore x y → (u v : Weaker) → Contains (weaker_with fits f (flow_in denied sender x)) u
        → Contains (weaker_with fits f (flow_in denied sender y)) v → ComesBefore u v
    across x y rises u v left right =
        let one = one_is fits f (flow_in denied sender x) u left in
        let two = one_is fits f (flow_in denied sender y) v right in
        let first = flow_of denied sender x u.old one.old in
        let second = flow_of denied sender y v.old two.old in
        inr (
          one.flow ∙ sym two.flow,
          receiver_before u.old v.old (same_some u.old.from v.old.from sender first.sender second.sender)
              (owners_rise x y u.old.to v.old.to rises first.receiver second.receiver),
        )

flow_parts : (fits : Flow → Bool) (denied : List Flow) (f : Flow) (from to : List (Option ℕ)) → AllPairs OwnerBefore from → AllPairs OwnerBefore to
    → AllPairs ComesBefore (flat_map (weaker_from fits denied f to) from)
flow_parts fits denied f from to senders receivers =
    pairs_of_parts OwnerBefore ComesBefore (weaker_from fits denied f to) (λ s. from_pairs fits denied f to s receivers) across from senders
  where
    across : (x y : Option ℕ) → OwnerBefore x y → (u v : Weaker) → Contains (weaker_from fits denied f to x) u
        → Contains (weaker_from fits denied f to y) v → ComesBefore u v
    across x y rises u v left right =
        let first = from_is fits denied f to x u left in
        let second = from_is fits denied f to y v right in
        inr (
          first.flow ∙ sym second.flow,
          sender_before u.old v.old (owners_rise x y u.old.from v.old.from rises first.old.sender second.old.sender),
        )

-- 5. The list of all pairs.

module _ (old : Site) (denied : List Flow) (new : Site) (free : List Flow) (rows : List (Vec (Option ℕ) Global)) where
  -- The rows have the owners of all addresses, services are valid, and no flow is from a host to itself.
  pub record AreSides : Type 0 where
    pub shared : AreShared new.hosts old.hosts rows
    pub old_valid : AreServices old.services
    pub new_valid : AreServices new.services
    pub denied_apart : (f : Flow) → IsTrue (has denied f) → f.from ≢ f.to
    pub free_apart : (f : Flow) → IsTrue (has free f) → f.from ≢ f.to
    pub ordered : IsOrdered free

  weaker_is : AreSides → (w : Weaker) → Contains (flat_map (weaker_of new.services old.services denied rows) free) w → IsWeaker old denied new free w
  weaker_is sides w there =
      let part = part_of (weaker_of new.services old.services denied rows) free w there in
      let f = part.0 in
      let fits = flows_meet new.services old.services f in
      let inner = part_of (weaker_from fits denied f (row_at rows f.to)) (row_at rows f.from) w part.2 in
      let is = from_is fits denied f (row_at rows f.to) inner.0 w inner.2 in
      let here : IsTrue (has free f) = has_where free f part.1 in
      let from : Shares new.hosts old.hosts f.from (Some w.old.from) =
      ((sides.shared f.from).exact (Some w.old.from)).0 (subst (Contains (row_at rows f.from)) is.old.sender inner.1) in
      let to : Shares new.hosts old.hosts f.to (Some w.old.to) = ((sides.shared f.to).exact (Some w.old.to)).0 is.among in
      record {
        is_free = subst (λ (g : Flow). IsTrue (has free g)) (sym is.flow) here;
        is_denied = is.old.listed;
        shared =
            subst (λ (g : Flow). SharePacket new old g w.old) (sym is.flow)
            (shared_by new old f w.old sides.new_valid sides.old_valid (sides.free_apart f here) (sides.denied_apart w.old is.old.listed) from to is.fit);
      }

  weaker_there : AreSides → (w : Weaker) → IsWeaker old denied new free w → Contains (flat_map (weaker_of new.services old.services denied rows) free) w
  weaker_there sides w is =
      let f = w.flow in
      let g = w.old in
      let fits = flows_meet new.services old.services f in
      let from = ((sides.shared f.from).exact (Some g.from)).1 (senders_share new old f g is.shared) in
      let to = ((sides.shared f.to).exact (Some g.to)).1 (receivers_share new old f g is.shared) in
      let one : Contains (weaker_with fits f (Some g)) w =
      subst (λ (b : Bool). Contains (cond b (w ∷ []) []) w) (sym (services_share new old f g is.shared)) (contains_first w [] w refl) in
      let among : Contains (weaker_with fits f (flow_in denied (Some g.from) (Some g.to))) w =
      subst (λ (o : Option Flow). Contains (weaker_with fits f o) w) (sym (flow_there denied g is.is_denied)) one in
      part_among (weaker_of new.services old.services denied rows) free f w (where_has free f is.is_free)
      (part_among (weaker_from fits denied f (row_at rows f.to)) (row_at rows f.from) (Some g.from) w from
      (part_among (λ r. weaker_with fits f (flow_in denied (Some g.from) r)) (row_at rows f.to) (Some g.to) w to among))

  of_flow : (f : Flow) (w : Weaker) → Contains (weaker_of new.services old.services denied rows f) w → w.flow ≡ f
  of_flow f w there =
      let fits = flows_meet new.services old.services f in
      let part = part_of (weaker_from fits denied f (row_at rows f.to)) (row_at rows f.from) w there in
      (from_is fits denied f (row_at rows f.to) part.0 w part.2).flow

  across_flows : (f g : Flow) → IsTrue (before f g) → (u v : Weaker) → Contains (weaker_of new.services old.services denied rows f) u
      → Contains (weaker_of new.services old.services denied rows g) v → ComesBefore u v
  across_flows f g rises u v left right =
      inl (subst (λ (h : Flow). IsTrue (before u.flow h)) (sym (of_flow g v right))
      (subst (λ (h : Flow). IsTrue (before h g)) (sym (of_flow f u left)) rises))

  -- The list of all pairs is the list of the weaker flows.
  pub weaker_where : (ws : List Weaker) → AreSides → ws ≡ flat_map (weaker_of new.services old.services denied rows) free → AreWeaker old denied new free ws
  weaker_where ws sides is = subst (AreWeaker old denied new free) (sym is) (record {
    ascending =
        pairs_of_parts (λ f g. IsTrue (before f g)) ComesBefore (weaker_of new.services old.services denied rows)
        (λ f. flow_parts (flows_meet new.services old.services f) denied f (row_at rows f.from) (row_at rows f.to) (sides.shared f.from).ascending
        (sides.shared f.to).ascending) across_flows free (flow_pairs free sides.ordered);
    exact = λ w. (weaker_is sides w, weaker_there sides w);
  })
