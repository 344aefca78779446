-- Laws of candidates: if a packet between two owners is gained, the pair of owners is a candidate.
use Rattle.std.proofs.Common.{◌≡◌, ◌⊎◌, inl, inr, ◌<◌, ◌≤◌, ◌^◌, ◌==◌, ◌&&◌, ℕ, Bool, true, false, List, [], ◌∷◌, ◌++◌, length, Option, Some, None, refl, sym, ap, subst, ◌∙◌, arith}
use Rattle.std.specs.Prelude.{not, nat_le, if◌then◌else◌, OnOk, Result}
use Rattle.std.specs.List.{list_all}
use Rattle.std.specs.Global.{Global}
use Rattle.std.specs.declared.vec.Vec.{Vec}
use Rattle.std.proofs.lemmas.Bool.{and_from, and_parts, cases_lt, eqb-true}
use Rattle.std.proofs.lemmas.Bool.Decides.{nat_tests}
use Rattle.std.proofs.lemmas.Result.{on_ok_weaker}
use Rattle.host_net.specs.declared.packet.Packet.{Packet}
use Rattle.host_net.specs.declared.service.Service.{Service}
use Rattle.host_net.specs.Host.{Host, owner_of}
use Rattle.host_net.specs.Service.{is_served, serves}
use Rattle.host_net.specs.Services.{RestrictedFlow, services_of}
use Rattle.flow_set.specs.declared.flow.Flow.{Flow}
use Rattle.flow_set.specs.FlowSet.{has}
use Rattle.header_space.specs.declared.address_range.AddressRange.{AddressRange}
use Rattle.header_space.specs.declared.owners.Owned.{Owned}
use Rattle.header_space.specs.Owners.{GoesBetween, LiesInOne}
use Rattle.pass_core.specs.declared.pairs.PairServices.{PairServices}
use Rattle.pass_core.specs.declared.passing_range.PassingRange.{PassingRange}
use Rattle.pass_core.specs.Pairs.{IsListedFor}
use Rattle.pass_core.specs.Passing.{ArePassing}
use Rattle.pass_core.specs.inner.Listing.{IsAdded}
use Rattle.pass_core.proofs.PairLemmas.{added_nothing, none_passing}
use Rattle.pkt_core.specs.FlowPolicy.{flow_of_owners}
use Rattle.change_core.specs.Names.{IsOfNames, name_from, named_owner}
use Rattle.change_core.specs.declared.gained.Gained.{Gained}
use Rattle.change_core.specs.declared.named_owner.NamedOwner.{NamedOwner}
use Rattle.change_core.specs.declared.owner_pair.OwnerPair.{OwnerPair}
use Rattle.change_core.specs.declared.owners.Owners.{Owners}
use Rattle.change_core.specs.inner.Candidates.{AreOwners, flow_covers, flow_gains, may_change, may_change_from, may_gain, new_hosts, old_hosts, pair_covers, pair_gains, pair_of, some_owners}
use Rattle.change_core.specs.inner.Covering.{covers, one_covers, services_cover}
use Rattle.change_core.specs.inner.Gaining.{IsGained, PolicyFlows}
use Rattle.change_core.specs.inner.Naming.{IsNamed, name_in, name_of}
use Rattle.change_core.specs.inner.Sharing.{AreShared, row_at}
use Rattle.change_core.proofs.NamingLaws.{between_named}
use Rattle.change_core.proofs.ServingLaws.{belongs, one_of_all, passes_some, served, served_by, serves_at, some_passes}

-- 1. Services that cover others.

not_is : (b : Bool) → not b ≡ true → b ≡ false
not_is true is = cc is
not_is false is = refl

is_not : (b : Bool) → (b ≡ true → false ≡ true) → not b ≡ true
is_not true never = never refl
is_not false never = refl

covered_serves : (s t : Service) (p : Packet) → covers s t ≡ true → serves s p ≡ true → serves t p ≡ true
covered_serves s t p covered matched =
    let parts = and_parts (t.proto == s.proto) (nat_le t.low s.low && nat_le s.high t.high) covered in
    let ports = and_parts (nat_le t.low s.low) (nat_le s.high t.high) parts.1 in
    let by = served_by s p matched in
    serves_at t p (eqb-true t.proto s.proto parts.0 ∙ by.protocol) (lower t.low s.low p.dport ports.0 by.low) (upper s.high t.high p.dport ports.1 by.high)
  where
    lower : (a b c : ℕ) → nat_le a b ≡ true → b ≤ c → a ≤ c
    lower a b c first second = grind (arith, nat_tests)

    upper : (a b c : ℕ) → nat_le a b ≡ true → c ≤ a → c ≤ b
    upper a b c first second = grind (arith, nat_tests)

pub cover_serves : (services others : List Service) (p : Packet) → services_cover services others ≡ true → is_served others p ≡ true
    → is_served services p ≡ true
cover_serves [] others p covered matched = refl
cover_serves (t ∷ ts) [] p covered matched = cc covered
cover_serves (t ∷ ts) (s ∷ ss) p covered matched =
    let one = some_passes (λ u. serves u p) (s ∷ ss) matched in
    let all : list_all (one_covers (t ∷ ts)) (s ∷ ss) ≡ true = covered in
    let other = some_passes (covers one.0) (t ∷ ts) (one_of_all (one_covers (t ∷ ts)) (s ∷ ss) one.0 all one.1) in
    served (t ∷ ts) other.0 p other.1 (covered_serves one.0 other.0 p other.2 one.2)

-- 2. Flows that a packet has gained.

flow_serves : (services : List RestrictedFlow) (flows : List Flow) (others : List Service) (p : Packet) (o : Option Flow)
    → flow_covers services flows others o ≡ true → is_served others p ≡ true → belongs services flows p o ≡ true
flow_serves services flows others p None covered matched = cc covered
flow_serves services flows others p (Some g) covered matched =
    let parts = and_parts (has flows g) (services_cover (services_of services g.from g.to) others) covered in
    and_from (has flows g) (is_served (services_of services g.from g.to) p) parts.0
    (cover_serves (services_of services g.from g.to) others p parts.1 matched)

flow_gained : (services : List RestrictedFlow) (flows : List Flow) (lost : PolicyFlows) (pair : OwnerPair) (p : Packet) (o : Option Flow)
    → belongs services flows p o ≡ true → belongs lost.site.services lost.flows p (flow_of_owners pair.from pair.to) ≡ false
    → flow_gains services flows lost pair o ≡ true
flow_gained services flows lost pair p None belong none = cc belong
flow_gained services flows lost pair p (Some f) belong none =
    let own = services_of services f.from f.to in
    let parts = and_parts (has flows f) (is_served own p) belong in
    and_from (has flows f) (not (pair_covers lost pair own)) parts.0
    (is_not (pair_covers lost pair own)
    (λ covered. sym none ∙ flow_serves lost.site.services lost.flows own p (flow_of_owners pair.from pair.to) covered parts.1))

-- The owners of the addresses of a packet under one description.
abbrev owners_in : List Host → Packet → OwnerPair
owners_in hosts p = pair_of (owner_of hosts p.src) (owner_of hosts p.dst)

pair_gained : (held lost : PolicyFlows) (p : Packet) → IsGained lost held p
    → pair_gains held lost (owners_in held.site.hosts p) (owners_in lost.site.hosts p) ≡ true
pair_gained held lost p gained =
    flow_gained held.site.services held.flows lost (owners_in lost.site.hosts p) p
    (flow_of_owners (owner_of held.site.hosts p.src) (owner_of held.site.hosts p.dst)) gained.1 gained.0

gain_where : (q : Gained) (p : Packet) → IsGained q.lost q.held p → may_gain q (owners_in (new_hosts q) p) (owners_in (old_hosts q) p) ≡ true
gain_where q p gained = by_kind q.comes
  where
    by_kind : (b : Bool)
        → (if b then pair_gains q.held q.lost (owners_in (if b then q.held.site.hosts else q.lost.site.hosts) p) (owners_in (if b then q.lost.site.hosts else q.held.site.hosts) p)
        else pair_gains q.held q.lost (owners_in (if b then q.lost.site.hosts else q.held.site.hosts) p) (owners_in (if b then q.held.site.hosts else q.lost.site.hosts) p))
        ≡ true
    by_kind true = pair_gained q.held q.lost p gained
    by_kind false = pair_gained q.held q.lost p gained

-- 3. Owners under both descriptions.

owners_where : (new old : List Host) (rows : List (Vec (Option ℕ) Global)) → AreShared new old rows → (test : (newer older : Option ℕ) → Bool) (a : ℕ)
    → a < 2 ^ 32 → test (owner_of new a) (owner_of old a) ≡ true → some_owners rows test (named_owner new old a) ≡ true
owners_where new old rows shared test a low passes = by_owners (owner_of new a) (owner_of old a) refl refl passes
  where
    by_owners : (n o : Option ℕ) → owner_of new a ≡ n → owner_of old a ≡ o → test n o ≡ true → some_owners rows test (name_from n o) ≡ true
    by_owners (Some i) o newer older on =
        passes_some (test (Some i)) (row_at rows i) o (((shared i).exact o).1 (a, low, newer, older)) on
    by_owners None (Some j) newer older on = on
    by_owners None None newer older on = on

pub change_where : (q : Gained) (rows : List (Vec (Option ℕ) Global)) → AreShared (new_hosts q) (old_hosts q) rows → (from to : NamedOwner) (p : Packet)
    → IsOfNames (new_hosts q) (old_hosts q) from to p → IsGained q.lost q.held p → may_change q rows from to ≡ true
change_where q rows shared from to p of gained =
    subst (λ (x : NamedOwner). may_change q rows x to ≡ true) of.src
    (owners_where (new_hosts q) (old_hosts q) rows shared (may_change_from q rows to) p.src of.packet.0
    (subst (λ (x : NamedOwner). may_change_from q rows x (owner_of (new_hosts q) p.src) (owner_of (old_hosts q) p.src) ≡ true) of.dst
    (owners_where (new_hosts q) (old_hosts q) rows shared
    (λ newer older. may_gain q (pair_of (owner_of (new_hosts q) p.src) newer) (pair_of (owner_of (old_hosts q) p.src) older)) p.dst of.packet.1
    (gain_where q p gained))))

pub owners_alike : (new old new_hosts old_hosts : List Host) (owners : Owners) → new_hosts ≡ new → old_hosts ≡ old
    → AreOwners new_hosts old_hosts owners → AreOwners new old owners
owners_alike new old new_hosts old_hosts owners newer older are =
    subst (λ (hosts : List Host). AreOwners hosts old owners) newer (subst (λ (hosts : List Host). AreOwners new_hosts hosts owners) older are)

-- 4. The list of a pair of owners.

pub none_counted : (ranges : List AddressRange) (count : ℕ) (empty : Bool) → count ≡ length ranges → empty ≡ (count == 0) → empty ≡ true
    → length ranges ≡ 0
none_counted ranges count empty counted is on = sym counted ∙ eqb-true count 0 (sym is ∙ on)

none_within : (ranges : List AddressRange) (a : ℕ) → length ranges ≡ 0 → LiesInOne ranges a → ⊥
none_within [] a none lies = lies
none_within (r ∷ rs) a none lies = omega (arith, none)

-- No packet goes from or to an owner without addresses.
pub none_from : (from to : List AddressRange) → length from ≡ 0 → (p : Packet) → GoesBetween from to p → ⊥
none_from from to none p goes = none_within from p.src none goes.src

pub none_to : (from to : List AddressRange) → length to ≡ 0 → (p : Packet) → GoesBetween from to p → ⊥
none_to from to none p goes = none_within to p.dst none goes.dst

pub none_gained : (q : Gained) (rows : List (Vec (Option ℕ) Global)) (from to : Owned) (n : ℕ) (may : Bool) → AreShared (new_hosts q) (old_hosts q) rows
    → n ≡ length (new_hosts q) → IsNamed (new_hosts q) (old_hosts q) from → IsNamed (new_hosts q) (old_hosts q) to
    → may ≡ may_change q rows (name_of n from.owner) (name_of n to.owner) → may ≡ false → (p : Packet)
    → GoesBetween from.ranges.items to.ranges.items p → IsGained q.lost q.held p → ⊥
none_gained q rows from to n may shared counted source destination is off p goes gained =
    let of = (between_named (new_hosts q) (old_hosts q) from to source destination p).0 goes in
    let on : may ≡ true =
    is
    ∙ ap (λ (k : ℕ). may_change q rows (name_of k from.owner) (name_of k to.owner)) counted
    ∙ change_where q rows shared (name_in (new_hosts q) from) (name_in (new_hosts q) to) p of gained in
    let never : true ≡ false = sym on ∙ off in
    cc never

pub listed_none : (Holds Between : Packet → Type 0) (from to : Option ℕ) (list : List PairServices) → ((p : Packet) → Between p → Holds p → ⊥)
    → IsAdded (IsListedFor Holds Between from to) list list
listed_none Holds Between from to list none = added_nothing (IsListedFor Holds Between from to) list none

-- The entry of a pair is added if it has ranges.
pub listed_some : (Holds : Packet → Type 0) (sources targets : List AddressRange) (from to : Option ℕ) (list : List PairServices)
    (ranges : Vec PassingRange Global) {A E : Type 0} (result : Result A E) (new : List PairServices)
    → ArePassing Holds (GoesBetween sources targets) ranges.items
    → (0 < length ranges.items → OnOk result (new ≡ list ++ record { from = from; to = to; ranges = ranges } ∷ []))
    → (length ranges.items ≡ 0 → OnOk result (new ≡ list))
    → OnOk result (IsAdded (IsListedFor Holds (GoesBetween sources targets) from to) list new)
listed_some Holds sources targets from to list ranges result new are some none = by_count (cases_lt 0 (length ranges.items))
  where
    Listed : List PairServices → Type 0
    Listed = IsListedFor Holds (GoesBetween sources targets) from to

    by_count : (0 < length ranges.items) ⊎ (length ranges.items ≤ 0) → OnOk result (IsAdded Listed list new)
    by_count (inl more) =
        on_ok_weaker result
        (λ is. (
          record { from = from; to = to; ranges = ranges } ∷ [],
          is,
          record { source = refl; destination = refl; some = more; passing = are },
        )) (some more)
    by_count (inr empty) =
        let zero : length ranges.items ≡ 0 = omega (arith, empty) in
        on_ok_weaker result
        (λ is. subst (IsAdded Listed list) (sym is)
        (added_nothing Listed list (none_passing Holds (GoesBetween sources targets) ranges.items (λ p goes. goes.packet) are zero)))
        (none zero)
