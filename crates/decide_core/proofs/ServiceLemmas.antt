-- Boxes of services, added one by one.
use Rattle.std.proofs.Common.{◌≡◌, ◌⊎◌, ◌↔◌, inl, inr, ℕ, ◌+◌, ◌-◌, ◌*◌, ◌<◌, ◌≤◌, ◌∙◌, Bool, false, IsTrue, List, [], ◌∷◌, ◌++◌, get_or, length, take, sym, subst, arith}
use Rattle.std.specs.List.{All}
use Rattle.std.proofs.lemmas.Bool.{cases_eq, true≢false}
use Rattle.std.proofs.lemmas.List.{take_all, take_more}
use Rattle.std.proofs.lemmas.List.Elements.{All-nil, All-push}
use Rattle.host_net.specs.declared.packet.Packet.{Packet}
use Rattle.header_space.specs.declared.packet_box.PacketBox.{PacketBox}
use Rattle.header_space.specs.Boxes.{IsBox, IsIn}
use Rattle.header_space.specs.declared.address_range.AddressRange.{AddressRange}
use Rattle.header_space.specs.Owners.{LiesInOne}
use Rattle.header_space.proofs.OwnersLaws.{covered_cases, covered_left, covered_only, covered_right}
use Rattle.pass_core.specs.Services.{service_of}
use Rattle.rules_space.specs.Rules.{AnyRules}
use Rattle.decide_core.specs.declared.deciders.Deciders.{Deciders}
use Rattle.decide_core.specs.declared.service_block.ServiceBlock.{ServiceBlock}
use Rattle.decide_core.specs.Deciders.{AreDeciders, DecidesOne, IsInOne, PassesAmong}
use Rattle.decide_core.specs.ServiceRanges.{HasServiceBetween, HasServiceFrom}
use Rattle.decide_core.specs.inner.ServiceBoxes.{AddsBoxes, HasServiceOf}
use Rattle.ipt_rules.specs.declared.marks.Place.{Place}
use Rattle.std.proofs.Common.{Option, Some, None}

-- ---- added boxes

in_first : (xs : List PacketBox) (b : PacketBox) (p : Packet) → IsInOne xs p → IsInOne (xs ++ b ∷ []) p
in_first [] b p inside = absurd inside
in_first (x ∷ xs) b p inside = elim inside [ inl here ↦ inl here | inr later ↦ inr (in_first xs b p later) ]

in_last : (xs : List PacketBox) (b : PacketBox) (p : Packet) → IsIn b p → IsInOne (xs ++ b ∷ []) p
in_last [] b p inside = inl inside
in_last (x ∷ xs) b p inside = inr (in_last xs b p inside)

pub in_either : (xs : List PacketBox) (b : PacketBox) (p : Packet) → IsInOne (xs ++ b ∷ []) p → IsInOne xs p ⊎ IsIn b p
in_either [] b p inside = elim inside [ inl here ↦ inr here | inr none ↦ absurd none ]
in_either (x ∷ xs) b p inside = elim inside [
  | inl here ↦ inl (inl here)
  | inr later ↦ elim (in_either xs b p later) [ inl first ↦ inl (inr first) | inr last ↦ inr last ]
]

pub adds_none : (Among : Packet → Type 0) (xs : List PacketBox) → ((p : Packet) → Among p → ⊥) → AddsBoxes Among xs xs
adds_none Among xs none = record {
  boxes = λ all. all;
  exact = λ p. (λ inside. inl inside, λ either. elim either [ inl inside ↦ inside | inr among ↦ absurd (none p among) ]);
}

pub adds_one : (Among : Packet → Type 0) (xs ys : List PacketBox) (b : PacketBox) → ys ≡ xs ++ b ∷ [] → IsBox b → ((p : Packet) → IsIn b p ↔ Among p)
    → AddsBoxes Among xs ys
adds_one Among xs ys b is box exact = subst (λ (zs : List PacketBox). AddsBoxes Among xs zs) (sym is) (record {
  boxes = λ all. All-push IsBox xs b all box;
  exact = λ p. (
    λ inside. elim (in_either xs b p inside) [ inl first ↦ inl first | inr last ↦ inr ((exact p).0 last) ],
    λ either. elim either [ inl first ↦ in_first xs b p first | inr among ↦ in_last xs b p ((exact p).1 among) ],
  );
})

pub adds_both : (One Two : Packet → Type 0) (xs ys zs : List PacketBox) → AddsBoxes One xs ys → AddsBoxes Two ys zs → AddsBoxes (λ p. One p ⊎ Two p) xs zs
adds_both One Two xs ys zs one two = record {
  boxes = λ all. two.boxes (one.boxes all);
  exact = λ p. (
    λ inside. elim ((two.exact p).0 inside) [
      | inl before ↦ elim ((one.exact p).0 before) [ inl first ↦ inl first | inr among ↦ inr (inl among) ]
      | inr among ↦ inr (inr among)
    ],
    λ either. elim either [
      | inl first ↦ (two.exact p).1 (inl ((one.exact p).1 (inl first)))
      | inr among ↦ elim among [ inl by_one ↦ (two.exact p).1 (inl ((one.exact p).1 (inr by_one))) | inr by_two ↦ (two.exact p).1 (inr by_two) ]
    ],
  );
}

pub adds_same : (One Two : Packet → Type 0) (xs ys : List PacketBox) → ((p : Packet) → One p ↔ Two p) → AddsBoxes One xs ys → AddsBoxes Two xs ys
adds_same One Two xs ys same one = record {
  boxes = one.boxes;
  exact = λ p. (
    λ inside. elim ((one.exact p).0 inside) [ inl first ↦ inl first | inr among ↦ inr ((same p).0 among) ],
    λ either. elim either [ inl first ↦ (one.exact p).1 (inl first) | inr among ↦ (one.exact p).1 (inr ((same p).1 among)) ],
  );
}

pub all_added : (Among : Packet → Type 0) (xs ys : List PacketBox) → xs ≡ [] → AddsBoxes Among xs ys → All IsBox ys
all_added Among xs ys none adds = adds.boxes (subst (λ (zs : List PacketBox). All IsBox zs) (sym none) (All-nil IsBox))

pub exactly_added : (Among : Packet → Type 0) (xs ys : List PacketBox) → xs ≡ [] → AddsBoxes Among xs ys → (p : Packet) → IsInOne ys p ↔ Among p
exactly_added Among xs ys none adds p = (
  λ inside. elim ((adds.exact p).0 inside) [
    | inl before ↦ absurd (subst (λ (zs : List PacketBox). IsInOne zs p) none before)
    | inr among ↦ among
  ],
  λ among. (adds.exact p).1 (inr among),
)

-- ---- blocks of services

pub no_block : (from to : AddressRange) (block : ServiceBlock) (b : Bool)
    → (IsTrue b ↔ ((block.low_proto ≤ block.high_proto) × (block.low_port ≤ block.high_port))) → b ≡ false → (p : Packet) → HasServiceOf from to block p → ⊥
no_block from to block b iff off p has = true≢false (sym (iff.1 (omega arith, omega arith)) ∙ off)

pub no_services : (from to : AddressRange) (low high : ℕ) → high < low → (p : Packet) → HasServiceFrom from to low high p → ⊥
no_services from to low high none p has = omega arith

module _ (from to : AddressRange) (low high : ℕ) where
  -- A packet with the protocol and the port of a block is a packet of the range, if its service is from `low` to `high`.
  of_block : (block : ServiceBlock) (p : Packet) → HasServiceOf from to block p → low ≤ service_of p → service_of p ≤ high → HasServiceFrom from to low high p
  of_block block p has above below = record { packet = has.packet; src = has.src; dst = has.dst; low = above; high = below }

  to_block : (block : ServiceBlock) (p : Packet) → HasServiceFrom from to low high p → block.low_proto ≤ p.proto → p.proto ≤ block.high_proto
      → block.low_port ≤ p.dport → p.dport ≤ block.high_port → HasServiceOf from to block p
  to_block block p has low_proto high_proto low_port high_port = record {
    packet = has.packet;
    src = has.src;
    dst = has.dst;
    low_proto = low_proto;
    high_proto = high_proto;
    low_port = low_port;
    high_port = high_port;
  }

  -- The bounds as protocols and ports.
  module _ (a m b n : ℕ) (low_is : low ≡ a * 65536 + m) (high_is : high ≡ b * 65536 + n) (small : m < 65536) (small_too : n < 65536) where
    abbrev block_of : ℕ → ℕ → ℕ → ℕ → ServiceBlock
    block_of c d e f = record { low_proto = c; high_proto = d; low_port = e; high_port = f }

    pub one_block : a ≡ b → (p : Packet) → HasServiceOf from to (block_of a b m n) p ↔ HasServiceFrom from to low high p
    one_block same p = (
      λ has. of_block (block_of a b m n) p has (omega arith) (omega arith),
      λ has. let port = has.packet.4 in to_block (block_of a b m n) p has (omega arith) (omega arith) (omega arith) (omega arith),
    )

    abbrev InOne : Packet → Type 0
    InOne p =
        (HasServiceOf from to (block_of a a m 65535) p ⊎ HasServiceOf from to (block_of (a + 1) (b - 1) 0 65535) p)
        ⊎ HasServiceOf from to (block_of b b 0 n) p

    into_services : a < b → (p : Packet) → InOne p → HasServiceFrom from to low high p
    into_services less p either = elim either [
      | inl early ↦ elim early [
        | inl has ↦ of_block (block_of a a m 65535) p has (omega arith) (omega arith)
        | inr has ↦ of_block (block_of (a + 1) (b - 1) 0 65535) p has (omega arith) (omega arith)
      ]
      | inr has ↦ of_block (block_of b b 0 n) p has (omega arith) (omega arith)
    ]

    from_services : a < b → (p : Packet) → HasServiceFrom from to low high p → InOne p
    from_services less p has =
        let port = has.packet.4 in
        let not_before : a ≤ p.proto = omega arith in
        let not_behind : p.proto ≤ b = omega arith in
        elim (cases_eq p.proto a) [
          | inl first ↦ inl (inl (to_block (block_of a a m 65535) p has not_before (omega arith) (omega arith) (omega arith)))
          | inr after ↦ elim (cases_eq p.proto b) [
            | inl last ↦ inr (to_block (block_of b b 0 n) p has (omega arith) not_behind (omega arith) (omega arith))
            | inr inner ↦ inl (inr (to_block (block_of (a + 1) (b - 1) 0 65535) p has (omega arith) (omega arith) (omega arith) (omega arith)))
          ]
        ]

    pub three_blocks : a < b → (p : Packet) → InOne p ↔ HasServiceFrom from to low high p
    three_blocks less p = (into_services less p, from_services less p)

-- ---- between sets of addresses

module _ (low high : ℕ) where
  moved : (from to sources targets : List AddressRange) (p : Packet) → (LiesInOne from p.src → LiesInOne sources p.src)
      → (LiesInOne to p.dst → LiesInOne targets p.dst) → HasServiceBetween from to low high p → HasServiceBetween sources targets low high p
  moved from to sources targets p src dst has = record {
    between = record { packet = has.between.packet; src = src has.between.src; dst = dst has.between.dst };
    low = has.low;
    high = has.high;
  }

  -- One more range of destinations.
  target_more : (s : AddressRange) (to : List AddressRange) (r : AddressRange) (p : Packet)
      → (HasServiceBetween (s ∷ []) to low high p ⊎ HasServiceFrom s r low high p) ↔ HasServiceBetween (s ∷ []) (to ++ r ∷ []) low high p
  target_more s to r p = (
    λ either. elim either [
      | inl has ↦ moved (s ∷ []) to (s ∷ []) (to ++ r ∷ []) p (λ src. src) (covered_left to (r ∷ []) p.dst) has
      | inr has ↦
          record {
            between = record { packet = has.packet; src = inl has.src; dst = covered_right to (r ∷ []) p.dst (inl has.dst) };
            low = has.low;
            high = has.high;
          }
    ],
    λ has. let between = has.between in elim (covered_cases to (r ∷ []) p.dst between.dst) [
      | inl first ↦ inl (moved (s ∷ []) (to ++ r ∷ []) (s ∷ []) to p (λ src. src) (λ dst. first) has)
      | inr last ↦
          inr (record { packet = between.packet; src = covered_only s p.src between.src; dst = covered_only r p.dst last; low = has.low; high = has.high })
    ],
  )

  -- One more range of sources.
  source_more : (from : List AddressRange) (s : AddressRange) (to : List AddressRange) (p : Packet)
      → (HasServiceBetween from to low high p ⊎ HasServiceBetween (s ∷ []) to low high p) ↔ HasServiceBetween (from ++ s ∷ []) to low high p
  source_more from s to p = (
    λ either. elim either [
      | inl has ↦ moved from to (from ++ s ∷ []) to p (covered_left from (s ∷ []) p.src) (λ dst. dst) has
      | inr has ↦ moved (s ∷ []) to (from ++ s ∷ []) to p (covered_right from (s ∷ []) p.src) (λ dst. dst) has
    ],
    λ has. elim (covered_cases from (s ∷ []) p.src has.between.src) [
      | inl first ↦ inl (moved (from ++ s ∷ []) to from to p (λ src. first) (λ dst. dst) has)
      | inr last ↦ inr (moved (from ++ s ∷ []) to (s ∷ []) to p (λ src. last) (λ dst. dst) has)
    ],
  )

  pub no_targets : (s : AddressRange) (p : Packet) → HasServiceBetween (s ∷ []) [] low high p → ⊥
  no_targets s p has = has.between.dst

  pub no_sources : (to : List AddressRange) (p : Packet) → HasServiceBetween [] to low high p → ⊥
  no_sources to p has = has.between.src

  pub next_target : (s : AddressRange) (to : List AddressRange) (i : ℕ) (d : AddressRange) (xs ys zs : List PacketBox) → i < length to
      → AddsBoxes (HasServiceBetween (s ∷ []) (take i to) low high) xs ys → AddsBoxes (HasServiceFrom s (get_or to i d) low high) ys zs
      → AddsBoxes (HasServiceBetween (s ∷ []) (take (i + 1) to) low high) xs zs
  next_target s to i d xs ys zs within one two =
      subst (λ (rs : List AddressRange). AddsBoxes (HasServiceBetween (s ∷ []) rs low high) xs zs) (sym (take_more to i d within))
      (adds_same (λ p. HasServiceBetween (s ∷ []) (take i to) low high p ⊎ HasServiceFrom s (get_or to i d) low high p)
      (HasServiceBetween (s ∷ []) (take i to ++ get_or to i d ∷ []) low high) xs zs (target_more s (take i to) (get_or to i d))
      (adds_both (HasServiceBetween (s ∷ []) (take i to) low high) (HasServiceFrom s (get_or to i d) low high) xs ys zs one two))

  pub next_source : (from to : List AddressRange) (i : ℕ) (d : AddressRange) (xs ys zs : List PacketBox) → i < length from
      → AddsBoxes (HasServiceBetween (take i from) to low high) xs ys → AddsBoxes (HasServiceBetween (get_or from i d ∷ []) to low high) ys zs
      → AddsBoxes (HasServiceBetween (take (i + 1) from) to low high) xs zs
  next_source from to i d xs ys zs within one two =
      subst (λ (rs : List AddressRange). AddsBoxes (HasServiceBetween rs to low high) xs zs) (sym (take_more from i d within))
      (adds_same (λ p. HasServiceBetween (take i from) to low high p ⊎ HasServiceBetween (get_or from i d ∷ []) to low high p)
      (HasServiceBetween (take i from ++ get_or from i d ∷ []) to low high) xs zs (source_more (take i from) (get_or from i d) to)
      (adds_both (HasServiceBetween (take i from) to low high) (HasServiceBetween (get_or from i d ∷ []) to low high) xs ys zs one two))

  pub begins : (to : List AddressRange) (xs : List PacketBox) → xs ≡ [] → AddsBoxes (HasServiceBetween [] to low high) [] xs
  begins to xs none =
      subst (λ (ys : List PacketBox). AddsBoxes (HasServiceBetween [] to low high) [] ys) (sym none)
      (adds_none (HasServiceBetween [] to low high) [] (no_sources to))

  pub all_targets : (s : AddressRange) (to : List AddressRange) (i : ℕ) (xs ys : List PacketBox) → length to ≤ i
      → AddsBoxes (HasServiceBetween (s ∷ []) (take i to) low high) xs ys → AddsBoxes (HasServiceBetween (s ∷ []) to low high) xs ys
  all_targets s to i xs ys past adds =
      subst (λ (rs : List AddressRange). AddsBoxes (HasServiceBetween (s ∷ []) rs low high) xs ys) (take_all i to past) adds

  pub all_sources : (from to : List AddressRange) (i : ℕ) (xs ys : List PacketBox) → length from ≤ i
      → AddsBoxes (HasServiceBetween (take i from) to low high) xs ys → AddsBoxes (HasServiceBetween from to low high) xs ys
  all_sources from to i xs ys past adds =
      subst (λ (rs : List AddressRange). AddsBoxes (HasServiceBetween rs to low high) xs ys) (take_all i from past) adds

-- ---- deciders of the same packets

module _ (rules : AnyRules) (One Two : Packet → Type 0) (same : (p : Packet) → One p ↔ Two p) where
  decides_too : (e : Option Place) → DecidesOne rules (PassesAmong rules One) e ↔ DecidesOne rules (PassesAmong rules Two) e
  decides_too e = (
    λ one. record { packet = one.packet; among = ((same one.packet).0 one.among.0, one.among.1); decides = one.decides },
    λ two. record { packet = two.packet; among = ((same two.packet).1 two.among.0, two.among.1); decides = two.decides },
  )

  pub same_deciders : (d : Deciders) → AreDeciders rules One d → AreDeciders rules Two d
  same_deciders d are = record {
    ascending = are.ascending;
    exact = λ place. (
      λ listed. (decides_too (Some place)).0 ((are.exact place).0 listed),
      λ two. (are.exact place).1 ((decides_too (Some place)).1 two),
    );
    by_default = (λ on. (decides_too None).0 (are.by_default.0 on), λ two. are.by_default.1 ((decides_too None).1 two));
  }
