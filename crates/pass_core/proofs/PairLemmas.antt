-- Services by pair: lists, sources, and equivalent questions.
use Rattle.std.proofs.Common.{◌≡◌, ◌↔◌, inl, inr, ℕ, zero, suc, ◌+◌, ◌<◌, ◌≤◌, Bool, true, false, IsTrue, List, [], ◌∷◌, ◌++◌, map, take, length, get_or, Option, Some, None, is_some, refl, sym, ap, subst, ◌∙◌, arith, append_assoc, append-nil, true≢false, if◌then◌else◌}
use Rattle.std.specs.Prelude.{IfSome}
use Rattle.std.specs.Bool.{Decides}
use Rattle.std.specs.List.{All}
use Rattle.std.proofs.lemmas.List.{take_all, take_more}
use Rattle.std.proofs.lemmas.Option.{IfSome_then}
use Rattle.std.proofs.lemmas.List.Elements.{All-head, All-nil, All-push, All-tail, All-weaker}
use Rattle.host_net.specs.declared.packet.Packet.{Packet}
use Rattle.host_net.specs.Packet.{IsPacket}
use Rattle.header_space.specs.declared.address_range.AddressRange.{AddressRange}
use Rattle.pass_core.specs.declared.area.Area.{Area}
use Rattle.header_space.specs.declared.owners.Owned.{Owned}
use Rattle.pass_core.specs.declared.pairs.PairServices.{PairServices}
use Rattle.pass_core.specs.declared.passing_range.PassingRange.{PassingRange}
use Rattle.host_net.specs.Host.{Host}
use Rattle.header_space.specs.Owners.{AreOwned, GoesBetween, IsOfPair, IsOwned, IsRange, LiesIn, LiesInOne, owners_of}
use Rattle.header_space.proofs.OwnersLaws.{covered_cases, covered_left, covered_only, covered_owned, covered_right}
use Rattle.rules_space.proofs.ListLaws.{take_at}
use Rattle.pass_core.specs.Pairs.{AreListed, AreListedByOwners, AreListedFor, AreListedFrom, IsListedFor}
use Rattle.pass_core.specs.Passing.{ArePassing, IsExampleOf, IsOfService, IsShown}
use Rattle.pass_core.specs.Services.{service_count, service_of}
use Rattle.pass_core.specs.inner.Areas.{IsArea, IsInArea, IsInOne, areas_between}
use Rattle.header_space.specs.declared.packet_box.PacketBox.{PacketBox}
use Rattle.header_space.specs.Boxes.{IsIn}
use Rattle.header_space.specs.Searching.{IsLeastWhere}
use Rattle.pass_core.proofs.AreaLemmas.{all_areas, goes_between, in_areas, in_either}
use Rattle.pass_core.specs.inner.Listing.{AreSources, IsAdded, IsPacketIn, PassesSome, every_address}

-- ---- questions that are equivalent for the selected packets

module _ (Holds Others Between Among : Packet → Type 0) (between : (p : Packet) → Between p ↔ Among p)
    (holds : (p : Packet) → Between p → (Holds p ↔ Others p)) where
  decided_alike : (b : Bool) (p : Packet) → Between p → Decides b (Holds p) → Decides b (Others p)
  decided_alike b p is decided = (λ on. (holds p is).0 (decided.0 on), λ other. decided.1 ((holds p is).1 other))

  decided_back : (b : Bool) (p : Packet) → Between p → Decides b (Others p) → Decides b (Holds p)
  decided_back b p is decided = (λ on. (holds p is).1 (decided.0 on), λ held. decided.1 ((holds p is).0 held))

  example_alike : (r : PassingRange) (b : Bool) (p : Packet) → IsExampleOf Holds Between r b p → IsExampleOf Others Among r b p
  example_alike r b p is = record {
    between = (between p).0 is.between;
    low = is.low;
    high = is.high;
    decided = decided_alike b p is.between is.decided;
  }

  examples_alike : (r : PassingRange) (o : Option Packet) → IfSome o (λ p. IsExampleOf Holds Between r false p)
      → IfSome o (λ p. IsExampleOf Others Among r false p)
  examples_alike r o is = IfSome_then o is (λ p example. example_alike r false p example)

  shown_alike : (r : PassingRange) → IsShown Holds Between r → IsShown Others Among r
  shown_alike r is = record {
    some = is.some;
    services = is.services;
    passes = example_alike r true r.passes is.passes;
    stays = examples_alike r r.stays is.stays;
  }

  of_service : (n : ℕ) (b : Bool) → (p : Packet) × IsOfService Holds Between n b p → (p : Packet) × IsOfService Others Among n b p
  of_service n b (p, is) = (
    p,
    record { between = (between p).0 is.between; service = is.service; decided = decided_alike b p is.between is.decided },
  )

  back_service : (n : ℕ) (b : Bool) → (p : Packet) × IsOfService Others Among n b p → (p : Packet) × IsOfService Holds Between n b p
  back_service n b (p, is) =
      let counts = (between p).1 is.between in (p, record { between = counts; service = is.service; decided = decided_back b p counts is.decided })

  pub passing_alike : (rs : List PassingRange) → ArePassing Holds Between rs → ArePassing Others Among rs
  passing_alike rs are = record {
    maximal = are.maximal;
    shown = All-weaker (λ r. IsShown Holds Between r) (λ r. IsShown Others Among r) shown_alike rs are.shown;
    wholly = λ n small. (
      λ lies p among service. let is = (between p).1 among in (holds p is).0 ((are.wholly n small).0 lies p is service),
      λ wholly. (are.wholly n small).1 (λ p is service. (holds p is).1 (wholly p ((between p).0 is) service)),
    );
    in_part = λ n small. (
      λ lies. let part = (are.in_part n small).0 lies in (of_service n true part.0, of_service n false part.1),
      λ part. (are.in_part n small).1 (back_service n true part.0, back_service n false part.1),
    );
    not = λ n small. (
      λ none p among service other. let is = (between p).1 among in (are.not n small).0 none p is service ((holds p is).1 other),
      λ none. (are.not n small).1 (λ p is service held. none p ((between p).0 is) service ((holds p is).0 held)),
    );
  }

  pub listed_alike : (from to : Option ℕ) (ss : List PairServices) → IsListedFor Holds Between from to ss → IsListedFor Others Among from to ss
  listed_alike from to [] none = λ p among other. let is = (between p).1 among in none p is ((holds p is).1 other)
  listed_alike from to (s ∷ []) one = record {
    source = one.source;
    destination = one.destination;
    some = one.some;
    passing = passing_alike s.ranges.items one.passing;
  }
  listed_alike from to (s ∷ t ∷ ss) wrong = absurd wrong

-- ---- lists for one owner after another

listed_push : {A : Type 0} (Listed : A → List PairServices → Type 0) (xs : List A) (x : A) (ss one : List PairServices) → AreListedFor Listed xs ss
    → Listed x one → AreListedFor Listed (xs ++ x ∷ []) (ss ++ one)
listed_push Listed [] x ss one none listed = (one, [], ap (λ (l : List PairServices). l ++ one) none ∙ sym (append-nil one), listed, refl)
listed_push Listed (y ∷ ys) x ss one are listed = (
  are.0,
  are.1 ++ one,
  ap (λ (l : List PairServices). l ++ one) are.2 ∙ append_assoc are.0 are.1 one,
  are.3,
  listed_push Listed ys x are.1 one are.4 listed,
)

pub listed_step : {A : Type 0} (Listed : A → List PairServices → Type 0) (xs : List A) (i : ℕ) (x : A) (old new : List PairServices) → i < length xs
    → x ≡ get_or xs i x → AreListedFor Listed (take i xs) old → IsAdded (Listed x) old new → AreListedFor Listed (take (i + 1) xs) new
listed_step Listed xs i x old new within read are added =
    rw (take_at xs i x within read, added.1) (listed_push Listed (take i xs) x old added.0 are added.2)

pub added_step : {A : Type 0} (Listed : A → List PairServices → Type 0) (xs : List A) (i : ℕ) (x : A) (old mid new : List PairServices) → i < length xs
    → x ≡ get_or xs i x → IsAdded (λ ss. AreListedFor Listed (take i xs) ss) old mid → IsAdded (Listed x) mid new
    → IsAdded (λ ss. AreListedFor Listed (take (i + 1) xs) ss) old new
added_step Listed xs i x old mid new within read first second = (
  first.0 ++ second.0,
  second.1 ∙ ap (λ (l : List PairServices). l ++ second.0) first.1 ∙ append_assoc old first.0 second.0,
  listed_step Listed xs i x first.0 (first.0 ++ second.0) within read first.2 (second.0, refl, second.2),
)

pub added_nothing : (Listed : List PairServices → Type 0) (ss : List PairServices) → Listed [] → IsAdded Listed ss ss
added_nothing Listed ss listed = ([], sym (append-nil ss), listed)

pub listed_each : {A : Type 0} (Listed Others : A → List PairServices → Type 0) → ((x : A) (ss : List PairServices) → Listed x ss → Others x ss)
    → (xs : List A) (ss : List PairServices) → AreListedFor Listed xs ss → AreListedFor Others xs ss
listed_each Listed Others each [] ss are = are
listed_each Listed Others each (x ∷ xs) ss are = (are.0, are.1, are.2, each x are.0 are.3, listed_each Listed Others each xs are.1 are.4)

pub listed_map : {A B : Type 0} (P : A → Type 0) (f : A → B) (Listed : A → List PairServices → Type 0) (Others : B → List PairServices → Type 0)
    → ((x : A) (ss : List PairServices) → P x → Listed x ss → Others (f x) ss)
    → (xs : List A) (ss : List PairServices) → All P xs → AreListedFor Listed xs ss → AreListedFor Others (map f xs) ss
listed_map P f Listed Others each [] ss all are = are
listed_map P f Listed Others each (x ∷ xs) ss all are = (
  are.0,
  are.1,
  are.2,
  each x are.0 (All-head P x xs all) are.3,
  listed_map P f Listed Others each xs are.1 (All-tail P x xs all) are.4,
)

-- An equivalent restricted question has the same lists.
pub from_part : (Holds Part : Packet → Type 0) (owned : List Owned) (from : Owned) (old new : List PairServices)
    → ((p : Packet) → IsPacket p → LiesInOne from.ranges.items p.src → (Part p ↔ Holds p))
    → IsAdded (AreListedFrom Part owned from) old new → IsAdded (AreListedFrom Holds owned from) old new
from_part Holds Part owned from old new agree added = (
  added.0,
  added.1,
  listed_each (λ to ss. IsListedFor Part (GoesBetween from.ranges.items to.ranges.items) from.owner to.owner ss)
      (λ to ss. IsListedFor Holds (GoesBetween from.ranges.items to.ranges.items) from.owner to.owner ss)
      (λ to ss. listed_alike Part Holds (GoesBetween from.ranges.items to.ranges.items) (GoesBetween from.ranges.items to.ranges.items)
      (λ p. (λ is. is, λ is. is)) (λ p goes. agree p goes.packet goes.src) from.owner to.owner ss) owned added.0 added.2,
)

-- ---- addresses in ranges

in_at : (areas : List Area) (i : ℕ) (d : Area) (p : Packet) → i < length areas → IsInArea (get_or areas i d) p → IsInOne areas p
in_at [] i d p within here = absurd (omega (arith, within))
in_at (x ∷ areas) zero d p within here = inl here
in_at (x ∷ areas) (suc i) d p within here = inr (in_at areas i d p (omega (arith, within)) here)

pub hull_step : (ranges : List AddressRange) (i : ℕ) (d old new : AddressRange) → i < length ranges
    → ((a : ℕ) → LiesInOne (take i ranges) a → LiesIn old a) → ((a : ℕ) → LiesIn old a → LiesIn new a)
    → ((a : ℕ) → LiesIn (get_or ranges i d) a → LiesIn new a) → (a : ℕ) → LiesInOne (take (i + 1) ranges) a → LiesIn new a
hull_step ranges i d old new within before left right a there =
    elim (covered_cases (take i ranges) (get_or ranges i d ∷ []) a (subst (λ (l : List AddressRange). LiesInOne l a) (take_more ranges i d within) there)) [
      | inl first ↦ left a (before a first)
      | inr last ↦ right a (covered_only (get_or ranges i d) a last)
    ]

-- The question restricted to the packets of an owner.
pub part_agrees : {Q : Type 0} (HoldsOf : Q → Packet → Type 0) (q t : Q) (found : Option Q) (ranges given : List AddressRange) (range every : AddressRange)
    (b : PacketBox) → found ≡ Some t → IfSome found (λ x. (p : Packet) → IsIn b p → (HoldsOf x p ↔ HoldsOf q p)) → given ≡ ranges
    → ((a : ℕ) → LiesInOne given a → LiesIn range a) → every ≡ every_address
    → ((p : Packet) → IsPacket p → LiesIn range p.src → LiesIn every p.dst → IsIn b p)
    → (p : Packet) → IsPacket p → LiesInOne ranges p.src → (HoldsOf t p ↔ HoldsOf q p)
part_agrees {Q = Q} HoldsOf q t found ranges given range every b some agree same covers all inside p is lies =
    let from = covers p.src (subst (λ (l : List AddressRange). LiesInOne l p.src) (sym same) lies) in
    let to = subst (λ (r : AddressRange). LiesIn r p.dst) (sym all) (omega arith, let small = is.1 in omega (arith, small)) in
    let agrees = subst (λ (o : Option Q). IfSome o (λ x. (r : Packet) → IsIn b r → (HoldsOf x r ↔ HoldsOf q r))) some agree in
    agrees p (inside p is from to)

-- ---- sources

pub no_sources : (Holds : Packet → Type 0) (sources : List AddressRange) → sources ≡ [] → AreSources Holds [] sources
no_sources Holds sources none =
    subst (AreSources Holds []) (sym none) (record { each = All-nil IsRange; within = λ a there. there; covered = λ p is there held. there })

in_range : (r : AddressRange) (p : Packet) → IsPacket p → LiesIn r p.src → IsPacketIn (record { from = r; to = every_address }) p
in_range r p is src = record { packet = is; inside = (src, (omega arith, let small = is.1 in omega (arith, small))) }

source_if : (Holds : Packet → Type 0) (ranges : List AddressRange) (r : AddressRange) (old new : List AddressRange) (wanted : Bool) → IsRange r
    → AreSources Holds ranges old → (IsTrue wanted ↔ PassesSome Holds (IsPacketIn (record { from = r; to = every_address })))
    → new ≡ old ++ (if wanted then r ∷ [] else []) → AreSources Holds (ranges ++ r ∷ []) new
source_if Holds ranges r old new true range are some same =
    subst (AreSources Holds (ranges ++ r ∷ [])) (sym same)
    (record {
      each = All-push IsRange old r are.each range;
      within = λ a there. elim (covered_cases old (r ∷ []) a there) [
        | inl first ↦ covered_left ranges (r ∷ []) a (are.within a first)
        | inr last ↦ covered_right ranges (r ∷ []) a last
      ];
      covered = λ p is there held. elim (covered_cases ranges (r ∷ []) p.src there) [
        | inl first ↦ covered_left old (r ∷ []) p.src (are.covered p is first held)
        | inr last ↦ covered_right old (r ∷ []) p.src last
      ];
    })
source_if Holds ranges r old new false range are some same =
    subst (AreSources Holds (ranges ++ r ∷ [])) (sym (same ∙ append-nil old))
    (record {
      each = are.each;
      within = λ a there. covered_left ranges (r ∷ []) a (are.within a there);
      covered = λ p is there held. elim (covered_cases ranges (r ∷ []) p.src there) [
        | inl first ↦ are.covered p is first held
        | inr last ↦ absurd (true≢false (sym (some.1 (p, in_range r p is (covered_only r p.src last), held))))
      ];
    })

pub source_step : (Holds : Packet → Type 0) (ranges : List AddressRange) (i : ℕ) (d every : AddressRange) (old new : List AddressRange) (wanted : Bool)
    → i < length ranges → every ≡ every_address → All IsRange ranges → AreSources Holds (take i ranges) old
    → (IsTrue wanted ↔ PassesSome Holds (IsPacketIn (record { from = get_or ranges i d; to = every })))
    → new ≡ old ++ (if wanted then get_or ranges i d ∷ [] else []) → AreSources Holds (take (i + 1) ranges) new
source_step Holds ranges i d every old new wanted within all each are some same =
    subst (λ (l : List AddressRange). AreSources Holds l new) (sym (take_more ranges i d within))
    (source_if Holds (take i ranges) (get_or ranges i d) old new wanted (each i d within) are
    (subst (λ (e : AddressRange). IsTrue wanted ↔ PassesSome Holds (IsPacketIn (record { from = get_or ranges i d; to = e }))) all some) same)

-- ---- whether some packet passes

pub found_in : (Holds : Packet → Type 0) (area : Area) (b : PacketBox) (found : Option Packet) (some : Bool) → some ≡ is_some found
    → ((p : Packet) → IsPacket p → LiesIn area.from p.src → LiesIn area.to p.dst → IsIn b p)
    → ((p : Packet) → IsIn b p → IsPacket p × LiesIn area.from p.src × LiesIn area.to p.dst)
    → IsLeastWhere Holds b found → (IsTrue some ↔ PassesSome Holds (IsPacketIn area))
found_in Holds area b None some same inside packets least = (
  λ on. absurd (true≢false (sym on ∙ same)),
  λ pass. absurd (least pass.0 (inside pass.0 pass.1.packet pass.1.inside.0 pass.1.inside.1) pass.2),
)
found_in Holds area b (Some q) some same inside packets least = (
  λ on. let is = packets q least.inside in (q, record { packet = is.0; inside = (is.1, is.2) }, least.holds),
  λ pass. same,
)

module _ (Holds : Packet → Type 0) (areas : List Area) (i : ℕ) (d : Area) (some : Bool) (within : i < length areas)
    (passes : IsTrue some ↔ PassesSome Holds (IsPacketIn (get_or areas i d))) where
  pub none_step : some ≡ false → ((p : Packet) → IsPacket p → IsInOne (take i areas) p → Holds p → ⊥)
      → (p : Packet) → IsPacket p → IsInOne (take (i + 1) areas) p → Holds p → ⊥
  none_step off none p is there held =
      elim (in_either (take i areas) (get_or areas i d ∷ []) p (subst (λ (l : List Area). IsInOne l p) (take_more areas i d within) there)) [
        | inl first ↦ none p is first held
        | inr last ↦ elim last [
          | inl here ↦ true≢false (sym (passes.1 (p, record { packet = is; inside = here }, held)) ∙ off)
          | inr other ↦ other
        ]
      ]

  pub some_at : (from to : List AddressRange) → areas ≡ areas_between from to → some ≡ true → PassesSome Holds (GoesBetween from to)
  some_at from to same on =
      let found = passes.0 on in
      (found.0, goes_between from to areas found.0 same found.1.packet (in_at areas i d found.0 within found.1.inside), found.2)

pub area_at : (from to : List AddressRange) (areas : List Area) (i : ℕ) (d : Area) → areas ≡ areas_between from to → i < length areas
    → All IsRange from → All IsRange to → IsArea (get_or areas i d)
area_at from to areas i d same within sources targets =
    subst (λ (l : List Area). All IsArea l) (sym same) (all_areas from to sources targets) i d within

pub none_between : (Holds : Packet → Type 0) (from to : List AddressRange) (areas : List Area) (i : ℕ) (some : Bool) → areas ≡ areas_between from to
    → length areas ≤ i → some ≡ false → ((p : Packet) → IsPacket p → IsInOne (take i areas) p → Holds p → ⊥)
    → (IsTrue some ↔ PassesSome Holds (GoesBetween from to))
none_between Holds from to areas i some same all off none = (
  λ on. absurd (true≢false (sym on ∙ off)),
  λ pass. absurd (none pass.0 pass.1.packet
      (subst (λ (l : List Area). IsInOne l pass.0) (sym (take_all i areas (omega (arith, all)))) (in_areas from to areas pass.0 same pass.1)) pass.2),
)

-- ---- one pair

some_services : (Holds Between : Packet → Type 0) (rs : List PassingRange) (p : Packet) → IsPacket p → Between p → Holds p → ArePassing Holds Between rs
    → 0 < length rs
some_services Holds Between [] p is between held are =
    let small : service_of p < service_count = let proto = is.2 in let port = is.4 in omega (arith, proto, port) in
    absurd ((are.not (service_of p) small).0 (λ kind lies. lies) p between refl held)
some_services Holds Between (r ∷ rs) p is between held are = omega arith

-- If no service passes, no packet passes.
pub none_passing : (Holds Between : Packet → Type 0) (rs : List PassingRange) → ((p : Packet) → Between p → IsPacket p) → ArePassing Holds Between rs
    → length rs ≡ 0 → (p : Packet) → Between p → Holds p → ⊥
none_passing Holds Between rs packets are none p between held =
    let some = some_services Holds Between rs p (packets p between) between held are in omega (arith, some, none)

module _ (Holds : Packet → Type 0) (from sources to : List AddressRange) (are : AreSources Holds from sources) where
  pub into_pair : PassesSome Holds (GoesBetween sources to) → PassesSome Holds (GoesBetween from to)
  into_pair (p, goes, held) = (p, record { packet = goes.packet; src = are.within p.src goes.src; dst = goes.dst }, held)

  pub none_of_pair : (PassesSome Holds (GoesBetween sources to) → ⊥) → (p : Packet) → GoesBetween from to p → Holds p → ⊥
  none_of_pair none p goes held =
      none (p, record { packet = goes.packet; src = are.covered p goes.packet goes.src held; dst = goes.dst }, held)

pub entry_of : (Holds : Packet → Type 0) (from to : List AddressRange) (source destination : Option ℕ) (s : PairServices)
    → PassesSome Holds (GoesBetween from to) → s.from ≡ source → s.to ≡ destination → ArePassing Holds (GoesBetween from to) s.ranges.items
    → IsListedFor Holds (GoesBetween from to) source destination (s ∷ [])
entry_of Holds from to source destination s (p, goes, held) is_from is_to are = record {
  source = is_from;
  destination = is_to;
  some = some_services Holds (GoesBetween from to) s.ranges.items p goes.packet goes held are;
  passing = are;
}

-- ---- pairs of owners

module _ (Holds : Packet → Type 0) (hosts : List Host) (owned : List Owned) (are : AreOwned hosts owned) where
  is_of_pair : (from to : Owned) → IsOwned hosts from → IsOwned hosts to → (p : Packet)
      → (GoesBetween from.ranges.items to.ranges.items p ↔ IsOfPair hosts from.owner to.owner p)
  is_of_pair from to source destination p = (
    λ goes. record {
      packet = goes.packet;
      src = covered_owned hosts from.owner from.ranges.items source.owned p.src goes.src;
      dst = covered_owned hosts to.owner to.ranges.items destination.owned p.dst goes.dst;
    },
    λ is. record {
      packet = is.packet;
      src = source.covered p.src (let small = is.packet.0 in omega (arith, small)) is.src;
      dst = destination.covered p.dst (let small = is.packet.1 in omega (arith, small)) is.dst;
    },
  )

  abbrev listed_to : Option ℕ → Option ℕ → List PairServices → Type 0
  listed_to from to ss = IsListedFor Holds (IsOfPair hosts from to) from to ss

  to_each : (from : Owned) → (ss : List PairServices) → IsOwned hosts from → AreListedFrom Holds owned from ss
      → AreListedFor (listed_to from.owner) (owners_of hosts) ss
  to_each from ss source listed =
      subst (λ (os : List (Option ℕ)). AreListedFor (listed_to from.owner) os ss) are.owners
      (listed_map (IsOwned hosts) (λ (x : Owned). x.owner)
      (λ to ones. IsListedFor Holds (GoesBetween from.ranges.items to.ranges.items) from.owner to.owner ones) (listed_to from.owner)
      (λ to ones destination one. listed_alike Holds Holds (GoesBetween from.ranges.items to.ranges.items) (IsOfPair hosts from.owner to.owner)
      (is_of_pair from to source destination) (λ p goes. (λ held. held, λ held. held)) from.owner to.owner ones one) owned ss are.each listed)

  pub by_owners : (ss : List PairServices) → AreListed Holds owned ss → AreListedByOwners Holds hosts ss
  by_owners ss listed =
      subst (λ (os : List (Option ℕ)). AreListedFor (λ from. AreListedFor (listed_to from) (owners_of hosts)) os ss) are.owners
      (listed_map (IsOwned hosts) (λ (x : Owned). x.owner) (AreListedFrom Holds owned) (λ from. AreListedFor (listed_to from) (owners_of hosts))
      to_each owned ss are.each listed)
