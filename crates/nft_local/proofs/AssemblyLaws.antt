-- The chains of a machine can be loaded, and enforce the policy on it.
use Rattle.std.proofs.Common.{◌≡◌, ◌⊎◌, inl, inr, ℕ, ◌+◌, ◌<◌, ◌≤◌, ◌==◌, Bool, true, false, ◌&&◌, List, [], ◌∷◌, ◌++◌, Option, Some, None, length, refl, sym, ap, subst, ◌∙◌, arith, eq-eqb, true≢false}
use Rattle.std.specs.Prelude.{codes, get_or, slice_get}
use Rattle.std.specs.List.{AllByRecursion}
use Rattle.std.specs.Option.{option_map_or}
use Rattle.std.specs.declared.vec.Vec.{Vec}
use Rattle.std.specs.Global.{Global}
use Rattle.std.proofs.lemmas.List.{length_push}
use Rattle.std.proofs.lemmas.Option.{same_Some}
use Rattle.host_net.specs.declared.packet.Packet.{Packet}
use Rattle.host_net.specs.declared.packet.CtState.{CtState}
use Rattle.host_net.specs.Host.{Host, covers_any, owner_of}
use Rattle.host_net.specs.inner.Hosts.{IsHosts}
use Rattle.host_net.specs.Packet.{IsPacket}
use Rattle.host_net.proofs.OwnerLaws.{owner_of_covered}
use Rattle.pkt_core.specs.Filter.{Enforces}
use Rattle.pkt_core.specs.FlowPolicy.{FlowPolicy, lets_pass}
use Rattle.emit_core.specs.declared.direction.Direction.{Direction}
use Rattle.emit_core.specs.declared.direction.Direction.TheVariants.{Outbound, Inbound}
use Rattle.emit_core.specs.Directions.{other_direction}
use Rattle.emit_core.specs.OtherAddress.{other_address}
use Rattle.host_emit.specs.HostEnforcement.{IsExternal, is_internal, is_own}
use Rattle.host_emit.specs.LocalLayout.{is_specific, prefixes_of}
use Rattle.host_emit.proofs.GuardingLaws.{owned_covered}
use Rattle.nft_rules.specs.declared.table.Chain.{Chain}
use Rattle.nft_rules.specs.declared.table.Rule.{Rule}
use Rattle.nft_rules.specs.declared.table.Table.{Table}
use Rattle.nft_rules.specs.Loadable.{AreDistinct, AreNamed, AreRules, IsChainName, IsLoadable, LeadBack, chain_limit}
use Rattle.nft_rules.specs.Semantics.{Decides, PassesTable, address_at}
use Rattle.nft_rules.specs.Semantics.Decides.{by_policy, by_next, by_accept, by_drop, by_goto}
use Rattle.nft_read.specs.Reading.{ChainFits}
use Rattle.nft_emit.specs.LayoutNames.{HaveLayoutNames, layout_limit}
use Rattle.nft_emit.specs.inner.Building.{Extends}
use Rattle.nft_emit.proofs.BuildLaws.{IsNew, at_end, distinct_push, extends_more, extends_push, pushed_at}
use Rattle.nft_local.specs.HostTable.{IsMachineTable, PassesMachine, own_name}
use Rattle.nft_local.specs.inner.Assembly.{IsAssembled, flows_name}
use Rattle.nft_local.specs.inner.Entries.{AddsSide, IsSide, LeadsOwn, loopback_name, near_end}
use Rattle.nft_local.specs.inner.Part.{part_at}
use Rattle.nft_local.proofs.EntryLaws.{entry_loads, external_passes, internal_passes, near_address}
use Rattle.nft_rules.proofs.OneLaws.{decides_same}
use Rattle.nft_local.proofs.PartLaws.{part_passes}

-- 1. Names.

apart : (k : ℕ) (xs ys : List ℕ) → (get_or xs k 0 == get_or ys k 0) ≡ false → xs ≡ ys → ⊥
apart k xs ys differ same = true≢false (sym (eq-eqb (get_or xs k 0) (get_or ys k 0) (ap (λ bs. get_or bs k 0) same)) ∙ differ)

new_in : (xs : List Chain) → HaveLayoutNames xs → (name : List ℕ) → ((index : List ℕ) → codes "services_" ++ index ≡ name → ⊥)
    → ((host : List ℕ) → codes "from_" ++ host ≡ name → ⊥) → IsNew xs name
new_in xs have name no_services no_from = λ c y at same. elim (have c y at) [
  | inl is ↦ no_services is.0 (sym is.1 ∙ same)
  | inr is ↦ no_from is.0 (sym is.1 ∙ same)
]

-- None of the chains has one of these names.
abbrev AllNew : List (List ℕ) → List Chain → Type 0
AllNew [] xs = Unit {0}
AllNew (name ∷ names) xs = IsNew xs name × AllNew names xs

abbrev DiffersFrom : List ℕ → List (List ℕ) → Type 0
DiffersFrom name [] = Unit {0}
DiffersFrom name (m ∷ ms) = (name ≡ m → ⊥) × DiffersFrom name ms

new_push : (later : List (List ℕ)) (name : List ℕ) (xs : List Chain) (x : Chain) → x.name.items ≡ name → DiffersFrom name later → AllNew later xs
    → AllNew later (xs ++ x ∷ [])
new_push [] name xs x is differ new = tt
new_push (m ∷ ms) name xs x is differ new = (
  pushed_at (λ c y. y.name.items ≡ m → ⊥) xs x new.0 (λ same. differ.0 (sym is ∙ same)),
  new_push ms name xs x is differ.1 new.1,
)

flows_valid : IsChainName flows_name
flows_valid = record { letter = refl; no_keyword = refl; bytes = refl; short = omega arith; other = apart 1 flows_name (codes "forward") refl }

loopback_valid : (side : Direction) → IsChainName (loopback_name side)
loopback_valid Outbound = record { letter = refl; no_keyword = refl; bytes = refl; short = omega arith; other = apart 0 (codes "output_loopback") (codes "forward") refl }
loopback_valid Inbound = record { letter = refl; no_keyword = refl; bytes = refl; short = omega arith; other = apart 0 (codes "input_loopback") (codes "forward") refl }

own_valid : (side : Direction) → IsChainName (own_name side)
own_valid Outbound = record { letter = refl; no_keyword = refl; bytes = refl; short = omega arith; other = apart 0 (codes "output_own") (codes "forward") refl }
own_valid Inbound = record { letter = refl; no_keyword = refl; bytes = refl; short = omega arith; other = apart 0 (codes "input_own") (codes "forward") refl }

-- 2. Chains that are added one after the other. Chains with the names `later` can be added to them.

record IsGrown (later : List (List ℕ)) (xs : List Chain) : Type 0 where
  back : LeadBack xs
  named : AreNamed xs
  distinct : AreDistinct xs
  new : AllNew later xs

grown_push : (name : List ℕ) (later : List (List ℕ)) (xs : List Chain) (x : Chain) → IsGrown (name ∷ later) xs → x.name.items ≡ name
    → IsChainName name → DiffersFrom name later → AreRules (length xs) x.rules.items → IsGrown later (xs ++ x ∷ [])
grown_push name later xs x grown is valid differ rules = record {
  back = pushed_at (λ c y. AreRules c y.rules.items) xs x grown.back rules;
  named = pushed_at (λ c y. IsChainName y.name.items) xs x grown.named (subst IsChainName (sym is) valid);
  distinct = distinct_push xs x grown.distinct (subst (IsNew xs) (sym is) grown.new.0);
  new = new_push later name xs x is differ grown.new.1;
}

abbrev five : List (List ℕ)
five = flows_name ∷ loopback_name Outbound ∷ own_name Outbound ∷ loopback_name Inbound ∷ own_name Inbound ∷ []

new_side : (xs : List Chain) → HaveLayoutNames xs → (side : Direction) → IsNew xs (loopback_name side)
new_side xs have Outbound =
    new_in xs have (loopback_name Outbound) (λ index. apart 0 (codes "services_" ++ index) (loopback_name Outbound) refl)
    (λ host. apart 0 (codes "from_" ++ host) (loopback_name Outbound) refl)
new_side xs have Inbound =
    new_in xs have (loopback_name Inbound) (λ index. apart 0 (codes "services_" ++ index) (loopback_name Inbound) refl)
    (λ host. apart 0 (codes "from_" ++ host) (loopback_name Inbound) refl)

new_own : (xs : List Chain) → HaveLayoutNames xs → (side : Direction) → IsNew xs (own_name side)
new_own xs have Outbound =
    new_in xs have (own_name Outbound) (λ index. apart 0 (codes "services_" ++ index) (own_name Outbound) refl)
    (λ host. apart 0 (codes "from_" ++ host) (own_name Outbound) refl)
new_own xs have Inbound =
    new_in xs have (own_name Inbound) (λ index. apart 0 (codes "services_" ++ index) (own_name Inbound) refl)
    (λ host. apart 0 (codes "from_" ++ host) (own_name Inbound) refl)

grown_start : (table : Table) → IsLoadable table → HaveLayoutNames table.chains.items → IsGrown five table.chains.items
grown_start table loads have =
    let xs = table.chains.items in
    record {
      back = loads.back;
      named = loads.named;
      distinct = loads.distinct;
      new = (
        new_in xs have flows_name (λ index. apart 0 (codes "services_" ++ index) flows_name refl) (λ host. apart 1 (codes "from_" ++ host) flows_name refl),
        (
          new_side xs have Outbound,
          (new_own xs have Outbound, (new_side xs have Inbound, (new_own xs have Inbound, tt))),
        ),
      );
    }

-- The two chains of a direction.
side_grown : (hosts : List Host) (h : ℕ) (side : Direction) (c : ℕ) (later : List (List ℕ)) (xs : List Chain) (x y : Chain)
    → IsGrown (loopback_name side ∷ own_name side ∷ later) xs → c < length xs → IsSide hosts h side c (length xs) x y
    → DiffersFrom (loopback_name side) (own_name side ∷ later) → DiffersFrom (own_name side) later → IsGrown later ((xs ++ x ∷ []) ++ y ∷ [])
side_grown hosts h side c later xs x y grown low is differ own_differs =
    let more = length_push xs x in
    grown_push (own_name side) later (xs ++ x ∷ []) y
    (grown_push (loopback_name side) (own_name side ∷ later) xs x grown is.loopback_named (loopback_valid side) differ
    (entry_loads hosts (near_end side) h c _ _ x (length xs) is.loopback low tt))
    is.own_named (own_valid side) own_differs
    (entry_loads hosts (near_end side) h c _ _ y (length (xs ++ x ∷ [])) is.own (omega (arith, low, more)) (omega (arith, more)))

side_length : (xs : List Chain) (x y : Chain) (n : ℕ) → length xs ≡ n → length ((xs ++ x ∷ []) ++ y ∷ []) ≡ n + 2
side_length xs x y n long =
    let one = length_push xs x in
    let two = length_push (xs ++ x ∷ []) y in
    omega (arith, one, two, long)

side_extends : (xs : List Chain) (x y : Chain) (new : List Chain) → new ≡ (xs ++ x ∷ []) ++ y ∷ [] → Extends xs new
side_extends xs x y new is =
    subst (Extends xs) (sym is)
    (extends_more xs (xs ++ x ∷ []) ((xs ++ x ∷ []) ++ y ∷ []) (extends_push xs (x ∷ [])) (extends_push (xs ++ x ∷ []) (y ∷ [])))

-- The two chains of a direction, and their places.
record IsPlaced (hosts : List Host) (h : ℕ) (side : Direction) (c : ℕ) (chains : List Chain) : Type 0 where
  entry : ℕ
  index : ℕ
  loopback : Chain
  own : Chain
  loopback_there : slice_get chains entry ≡ Some loopback
  own_there : slice_get chains index ≡ Some own
  sides : IsSide hosts h side c entry loopback own

placed : (hosts : List Host) (h : ℕ) (side : Direction) (c : ℕ) (xs ys chains : List Chain) → AddsSide hosts h side c xs ys → Extends ys chains
    → IsPlaced hosts h side c chains
placed hosts h side c xs ys chains adds more =
    let x = adds.0 in
    let y = adds.1 in
    record {
      entry = length xs;
      index = length (xs ++ x ∷ []);
      loopback = x;
      own = y;
      loopback_there =
          more (length xs) x
          (subst (λ (zs : List Chain). slice_get zs (length xs) ≡ Some x) (sym adds.2)
          (extends_push (xs ++ x ∷ []) (y ∷ []) (length xs) x (at_end xs x)));
      own_there =
          more (length (xs ++ x ∷ [])) y
          (subst (λ (zs : List Chain). slice_get zs (length (xs ++ x ∷ [])) ≡ Some y) (sym adds.2) (at_end (xs ++ x ∷ []) y));
      sides = adds.3;
    }

-- 3. Chains that are added change no verdict.

decides_more : (old new : List Chain) (state : CtState) (packet : Packet) (rules : List Rule) (passes : Bool) → Extends old new
    → Decides old state packet rules passes → Decides new state packet rules passes
decides_more old new state packet _ _ more by_policy = by_policy
decides_more old new state packet (rule ∷ rules) passes more (by_next gives later) = by_next gives (decides_more old new state packet rules passes more later)
decides_more old new state packet (rule ∷ rules) _ more (by_accept gives) = by_accept gives
decides_more old new state packet (rule ∷ rules) _ more (by_drop gives) = by_drop gives
decides_more old new state packet (rule ∷ rules) passes more (by_goto c chain gives there later) =
    by_goto c chain gives (more c chain there) (decides_more old new state packet chain.rules.items passes more later)

-- 4. The packets of a host.

covered_owned : (hosts : List Host) (a h : ℕ) → IsHosts hosts → covers_any (prefixes_of hosts h) a ≡ true → owner_of hosts a ≡ Some h
covered_owned hosts a h known covered = by_host (slice_get hosts h) refl covered
  where
    by_host : (o : Option Host) → slice_get hosts h ≡ o → covers_any (option_map_or (λ (x : Host). x.prefixes) o []) a ≡ true → owner_of hosts a ≡ Some h
    by_host None there own = cc
    by_host (Some x) there own = owner_of_covered hosts h x a known there own

module _ (policy : FlowPolicy) (h : ℕ) (known : IsHosts policy.site.hosts) (specific : is_specific policy.site.hosts h ≡ true) where
  near_ends : (side : Direction) (packet : Packet) → owner_of policy.site.hosts (address_at (near_end side) packet) ≡ Some h
      → (owner_of policy.site.hosts packet.src ≡ Some h) ⊎ (owner_of policy.site.hosts packet.dst ≡ Some h)
  near_ends Outbound packet owned = inl owned
  near_ends Inbound packet owned = inr owned

  behind_given : (table : Table) (chains : List Chain) (flows : Chain) (c : ℕ) (side : Direction) (state : CtState) (packet : Packet)
      → Enforces (PassesTable table) (part_at h policy) → Extends table.chains.items chains → slice_get chains c ≡ Some flows
      → flows.rules.items ≡ table.forward.items → IsPacket packet → (behind : List Rule) → LeadsOwn policy.site.hosts (near_end side) h c behind
      → Decides chains state packet behind (is_own side policy.site.hosts h packet && lets_pass policy packet state)
  behind_given table chains flows c side state packet enforces more there is_forward is behind own = by_own (is_own side policy.site.hosts h packet) refl
    where
      hosts : List Host
      hosts = policy.site.hosts

      decided : owner_of hosts (address_at (near_end side) packet) ≡ Some h → Decides chains state packet flows.rules.items (lets_pass policy packet state)
      decided owned =
          subst (λ (rs : List Rule). Decides chains state packet rs (lets_pass policy packet state)) (sym is_forward)
          (subst (Decides chains state packet table.forward.items) (part_passes h policy packet state (near_ends side packet owned))
          (decides_more table.chains.items chains state packet table.forward.items (lets_pass (part_at h policy) packet state) more (enforces.given packet state is)))

      by_own : (b : Bool) → is_own side hosts h packet ≡ b → Decides chains state packet behind (b && lets_pass policy packet state)
      by_own true ours =
          let owned = ap (owner_of hosts) (near_address side packet)
          ∙ covered_owned hosts (other_address (other_direction side) packet) h known ours in
          own.own chains state packet flows (lets_pass policy packet state) is owned there (decided owned)
      by_own false others =
          own.other chains state packet is (λ owned. true≢false (sym (owned_covered hosts (other_address (other_direction side) packet) h specific
          (sym (ap (owner_of hosts) (near_address side packet)) ∙ owned)) ∙ others))

-- 5. The chains of a machine.

module _ (policy : FlowPolicy) (h : ℕ) (table : Table) (chains : List Chain) (loads : IsLoadable table) (few : length table.chains.items ≤ layout_limit)
    (have : HaveLayoutNames table.chains.items) (is : IsAssembled policy.site.hosts h table.chains.items table.forward.items chains) where
  grown_one : IsGrown (loopback_name Outbound ∷ own_name Outbound ∷ loopback_name Inbound ∷ own_name Inbound ∷ []) is.one
  grown_one =
      subst (IsGrown (loopback_name Outbound ∷ own_name Outbound ∷ loopback_name Inbound ∷ own_name Inbound ∷ [])) (sym is.flows.1)
      (grown_push flows_name (loopback_name Outbound ∷ own_name Outbound ∷ loopback_name Inbound ∷ own_name Inbound ∷ []) table.chains.items is.flows.0
      (grown_start table loads have) is.flows.2.named flows_valid (
        apart 0 flows_name (loopback_name Outbound) refl,
        (
          apart 0 flows_name (own_name Outbound) refl,
          (apart 0 flows_name (loopback_name Inbound) refl, (apart 0 flows_name (own_name Inbound) refl, tt)),
        ),
      )
      (subst (AreRules (length table.chains.items)) (sym is.flows.2.rules_are) loads.forward))

  length_one : length is.one ≡ length table.chains.items + 1
  length_one = ap (λ (xs : List Chain). length xs) is.flows.1 ∙ length_push table.chains.items is.flows.0

  grown_two : IsGrown (loopback_name Inbound ∷ own_name Inbound ∷ []) is.two
  grown_two =
      subst (IsGrown (loopback_name Inbound ∷ own_name Inbound ∷ [])) (sym is.out.2)
      (side_grown policy.site.hosts h Outbound (length table.chains.items) (loopback_name Inbound ∷ own_name Inbound ∷ []) is.one is.out.0 is.out.1 grown_one
      (omega (arith, length_one)) is.out.3 (
        apart 7 (loopback_name Outbound) (own_name Outbound) refl,
        (apart 0 (loopback_name Outbound) (loopback_name Inbound) refl, (apart 0 (loopback_name Outbound) (own_name Inbound) refl, tt)),
      )
      (apart 0 (own_name Outbound) (loopback_name Inbound) refl, (apart 0 (own_name Outbound) (own_name Inbound) refl, tt)))

  length_two : length is.two ≡ length table.chains.items + 3
  length_two =
      let long = ap (λ (xs : List Chain). length xs) is.out.2 ∙ side_length is.one is.out.0 is.out.1 (length table.chains.items + 1) length_one in
      omega (arith, long)

  grown_all : IsGrown [] chains
  grown_all =
      subst (IsGrown []) (sym is.into.2)
      (side_grown policy.site.hosts h Inbound (length table.chains.items) [] is.two is.into.0 is.into.1 grown_two (omega (arith, length_two)) is.into.3
      (apart 6 (loopback_name Inbound) (own_name Inbound) refl, tt) tt)

  few_all : length chains ≤ chain_limit
  few_all =
      let long = ap (λ (xs : List Chain). length xs) is.into.2 ∙ side_length is.two is.into.0 is.into.1 (length table.chains.items + 3) length_two in
      omega (arith, long, few)

  more_two : Extends is.two chains
  more_two = side_extends is.two is.into.0 is.into.1 chains is.into.2

  more_one : Extends is.one chains
  more_one = extends_more is.one is.two chains (side_extends is.one is.out.0 is.out.1 is.two is.out.2) more_two

  more_old : Extends table.chains.items chains
  more_old = extends_more table.chains.items is.one chains (subst (Extends table.chains.items) (sym is.flows.1) (extends_push table.chains.items (is.flows.0 ∷ []))) more_one

  flows_there : slice_get chains (length table.chains.items) ≡ Some is.flows.0
  flows_there =
      more_one (length table.chains.items) is.flows.0
      (subst (λ (xs : List Chain). slice_get xs (length table.chains.items) ≡ Some is.flows.0) (sym is.flows.1) (at_end table.chains.items is.flows.0))

  -- The two chains of a direction, and their places.
  at_side : (side : Direction) → IsPlaced policy.site.hosts h side (length table.chains.items) chains
  at_side Outbound = placed policy.site.hosts h Outbound (length table.chains.items) is.one is.two chains is.out more_two
  at_side Inbound = placed policy.site.hosts h Inbound (length table.chains.items) is.two chains chains is.into (λ c x there. there)

  pub machine_loads : (forward : Vec Rule Global) (all : Vec Chain Global) → forward.items ≡ [] → all.items ≡ chains
      → IsLoadable (record { forward = forward; chains = all })
  machine_loads forward all none same = record {
    few = subst (λ (xs : List Chain). length xs ≤ chain_limit) (sym same) few_all;
    forward = subst (AreRules (length all.items)) (sym none) tt;
    back = subst LeadBack (sym same) grown_all.back;
    named = subst AreNamed (sym same) grown_all.named;
    distinct = subst AreDistinct (sym same) grown_all.distinct;
  }

  pub machine_table : IsHosts policy.site.hosts → is_specific policy.site.hosts h ≡ true → Enforces (PassesTable table) (part_at h policy)
      → AllByRecursion ChainFits chains → IsMachineTable policy h chains
  machine_table known specific enforces fits = record {
    loadable = record {
      few = few_all;
      back = grown_all.back;
      named = grown_all.named;
      distinct = grown_all.distinct;
      continues = λ side. let p = at_side side in (p.index, p.own, p.own_there, p.sides.own_named);
      fits = fits;
    };
    enforces = record {
      given = λ side state packet ext. passes side state packet (is_own side policy.site.hosts h packet && lets_pass policy packet state) (external side state packet ext);
      only = λ side state packet verdict ext found.
          one_verdict side state packet (is_own side policy.site.hosts h packet && lets_pass policy packet state) verdict (external side state packet ext) found;
      internal = λ side state packet small on. passes side state packet true (internal side state packet on);
    };
  }
    where
      external : (side : Direction) (state : CtState) (packet : Packet) → IsExternal packet
          → Decides chains state packet (at_side side).own.rules.items (is_own side policy.site.hosts h packet && lets_pass policy packet state)
      external side state packet ext =
          let p = at_side side in
          external_passes policy.site.hosts h side (length table.chains.items) p.entry p.loopback p.own p.sides chains p.loopback_there state packet
          (is_own side policy.site.hosts h packet && lets_pass policy packet state) ext.1
          (behind_given policy h known specific table chains is.flows.0 (length table.chains.items) side state packet enforces more_old flows_there
          is.flows.2.rules_are ext.0)

      internal : (side : Direction) (state : CtState) (packet : Packet) → is_internal packet ≡ true
          → Decides chains state packet (at_side side).own.rules.items true
      internal side state packet on =
          let p = at_side side in
          internal_passes policy.site.hosts h side (length table.chains.items) p.entry p.loopback p.own p.sides chains p.loopback_there state packet on

      passes : (side : Direction) (state : CtState) (packet : Packet) (verdict : Bool) → Decides chains state packet (at_side side).own.rules.items verdict
          → PassesMachine chains side state packet verdict
      passes side state packet verdict decides =
          let p = at_side side in
          record { index = p.index; chain = p.own; there = p.own_there; named = p.sides.own_named; decides = decides }

      one_verdict : (side : Direction) (state : CtState) (packet : Packet) (verdict other : Bool)
          → Decides chains state packet (at_side side).own.rules.items verdict → PassesMachine chains side state packet other → other ≡ verdict
      one_verdict side state packet verdict other decides found =
          let p = at_side side in
          let index : found.index ≡ p.index =
          grown_all.distinct found.index p.index found.chain p.own found.there p.own_there (found.named ∙ sym p.sides.own_named) in
          let chain : found.chain ≡ p.own =
          same_Some found.chain p.own (sym found.there ∙ ap (λ c. slice_get chains c) index ∙ p.own_there) in
          decides_same chains state packet p.index p.own.rules.items verdict other grown_all.back (grown_all.back p.index p.own p.own_there) decides
          (subst (λ (x : Chain). Decides chains state packet x.rules.items other) chain found.decides)
