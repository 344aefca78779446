-- The result of a visit of a survey, and the invariant of a survey of areas.
use Rattle.std.proofs.Common.{◌≡◌, ◌⊎◌, ◌↔◌, inl, inr, ℕ, zero, suc, ◌+◌, ◌<◌, ◌≤◌, Bool, true, false, List, [], ◌∷◌, map, drop, drop-cons, get_or, length, add-one, Option, Some, None, refl, sym, ap, subst, ◌∙◌, arith}
use Rattle.std.specs.Prelude.{IfSome}
use Rattle.std.specs.Bool.{Decides}
use Rattle.std.specs.List.{All}
use Rattle.std.proofs.lemmas.Bool.Decides.{not_from_Decides}
use Rattle.std.proofs.lemmas.Option.{IfSome_then}
use Rattle.host_net.specs.declared.packet.Packet.{Packet}
use Rattle.host_net.specs.Packet.{IsPacket}
use Rattle.header_space.specs.declared.packet_box.PacketBox.{PacketBox}
use Rattle.header_space.specs.Boxes.{IsBox, IsIn, Narrows}
use Rattle.header_space.proofs.BoxLaws.{least_in, own_least}
use Rattle.pass_core.specs.declared.area.Area.{Area}
use Rattle.pass_core.specs.declared.service.Service.{Service}
use Rattle.pass_core.specs.declared.survey.Survey.{Survey}
use Rattle.header_space.specs.Owners.{LiesIn}
use Rattle.pass_core.specs.Services.{service_of}
use Rattle.pass_core.specs.inner.Areas.{IsArea, IsInArea, IsInOne, box_of}
use Rattle.pass_core.specs.inner.Numbers.{number}
use Rattle.pass_core.specs.inner.Asking.{IsAsked, part_or}
use Rattle.pass_core.specs.inner.Surveying.{AreAlike, AreFellows, Grows, GrowsBy, HasFound, HasService, IsFound, IsFoundIf, IsFoundIn, IsKnown, IsRecorded, IsSurveyed, IsUnderWay, Notes, Raises, noted}
use Rattle.pass_core.specs.laws.SurveyLaws.{recorded_still}

-- ---- the packets of a part

-- The fellows of packets of the narrowed box are in the part that was tested.
pub in_part : (old up part new : PacketBox) (q f : Packet) → Raises old up → Narrows up part → new.least ≡ old.least
    → new.greatest.src ≡ part.greatest.src → new.greatest.dst ≡ part.greatest.dst → new.greatest.sport ≡ part.greatest.sport
    → IsIn new q → AreFellows q f → HasService part f → IsIn part f
in_part old up part new q f raises narrows least src dst sport inside fellows has =
    let same : part.least ≡ new.least = narrows.least ∙ raises.least ∙ sym least in
    let low_src = ap (λ (p : Packet). p.src) same in
    let low_dst = ap (λ (p : Packet). p.dst) same in
    let low_sport = ap (λ (p : Packet). p.sport) same in
    record {
      above = record { src = omega arith; dst = omega arith; proto = has.from_proto; sport = omega arith; dport = has.from_port };
      below = record { src = omega arith; dst = omega arith; proto = has.to_proto; sport = omega arith; dport = has.to_port };
    }

-- ---- a result is recorded

-- The survey up to an earlier service.
abbrev pub up_to : Survey → Service → Survey
up_to s last = record s { last = last }

module _ (Holds : Packet → Type 0) where
  grows_noted : (part : PacketBox) (s : Survey) (last : Service) (passes : Bool) (p : Packet) → number last ≤ number s.last
      → (number s.first ≤ number s.last → number s.first ≤ number last) → IsFoundIn Holds part (up_to s last) passes p
      → Grows Holds part s (noted (up_to s last) passes p)
  grows_noted part s last true p less some found = record {
    first = refl;
    last = less;
    some = some;
    passes = inr (p, refl, record { inside = found.inside; service = found.service; alike = found.alike });
    stays = inl refl;
  }
  grows_noted part s last false p less some found = record {
    first = refl;
    last = less;
    some = some;
    passes = inl refl;
    stays = inr (p, refl, record { inside = found.inside; service = found.service; alike = found.alike });
  }

  known_noted : (part : PacketBox) (s : Survey) (last : Service) (passes : Bool) (p : Packet)
      → ((q : Packet) → IsIn part q → AreAlike Holds (number s.first) (number last) passes q)
      → (q : Packet) → IsIn part q → IsKnown Holds (noted (up_to s last) passes p) q
  known_noted part s last true p alike q inside = λ service f fellows is between.
      inl ((alike q inside f fellows is between.0 between.1).0 refl, tt)
  known_noted part s last false p alike q inside = λ service f fellows is between.
      inr (not_from_Decides false (alike q inside f fellows is between.0 between.1) refl, tt)

module _ (Holds : Packet → Type 0) (within part : PacketBox) (s : Survey) (end last : Service) (passes : Bool) (service : service_of within.least ≡ number s.first)
    (narrows : Narrows within part) (low : service_of within.least ≤ number end)
    (alike : (q f : Packet) → IsIn part q → AreFellows q f → IsPacket f → service_of within.least ≤ service_of f → service_of f ≤ number end
    → Decides passes (Holds f))
    (less : number last ≤ number s.last) (fewer : number last ≤ number end) (either : (last ≡ s.last) ⊎ (last ≡ end)) where
  all_alike : (q : Packet) → IsIn part q → AreAlike Holds (number s.first) (number last) passes q
  all_alike q inside = λ f fellows is from to. alike q f inside fellows is (omega (arith, service, from)) (omega (arith, to, fewer))

  some : number s.first ≤ number s.last → number s.first ≤ number last
  some first = elim either [
    | inl same ↦ subst (λ (t : Service). number s.first ≤ number t) (sym same) first
    | inr same ↦ subst (λ (t : Service). number s.first ≤ number t) (sym same) (omega (arith, service, low))
  ]

  found_least : IsFoundIn Holds part (up_to s last) passes within.least
  found_least = record { inside = least_in within part narrows; service = service; alike = all_alike within.least (least_in within part narrows) }

  pub answer_grows : Grows Holds part s (noted (up_to s last) passes within.least)
  answer_grows = grows_noted Holds part s last passes within.least less some found_least

  pub answer_known : (q : Packet) → IsIn part q → IsKnown Holds (noted (up_to s last) passes within.least) q
  answer_known = known_noted Holds part s last passes within.least all_alike

-- ---- one area after another

there_known : (Holds : Packet → Type 0) (s : Survey) (p : Packet) → IsRecorded Holds s p → HasFound s
there_known Holds s p recorded = elim recorded [ inl passes ↦ inl passes.1 | inr stays ↦ inr stays.1 ]

fewer_found : (Holds : Packet → Type 0) (areas : List Area) (first last less : ℕ) (passes : Bool) (o : Option Packet) → less ≤ last
    → IsFoundIf Holds areas first last passes o → IsFoundIf Holds areas first less passes o
fewer_found Holds areas first last less passes o low found = IfSome_then o found (λ p at. record {
  inside = at.inside;
  packet = at.packet;
  service = at.service;
  alike = λ f fellows is from to. at.alike f fellows is from (omega (arith, low, to));
})

module _ (Holds Part : Packet → Type 0) (areas : List Area) (first : Service) (a : Area) (rest left : List Area) (x y : Survey) (same : left ≡ a ∷ rest)
    (all : (f : Packet) → IsInOne left f → IsInOne areas f) (area : IsArea a) (packets : (p : Packet) → IsIn (box_of a first) p → IsPacket p)
    (has_first : x.first ≡ first) (grows : Grows Part (box_of a first) x y)
    (knows : (p : Packet) → IsIn (box_of a first) p → IsKnown Part y p)
    (agree : (p : Packet) → IsPacket p → IsInArea a p → (Part p ↔ Holds p))
    (way : IsUnderWay Holds areas left x) where
  pub next_first : y.first ≡ first
  next_first = grows.first ∙ has_first

  first_number : number first ≡ number y.first
  first_number = ap number (sym next_first)

  some_left : number y.first ≤ number y.last
  some_left = subst (λ (t : Service). number t ≤ number y.last) (sym grows.first) (grows.some way.some)

  next_found : (passes : Bool) (old new : Option Packet) → Notes Part (box_of a first) y passes old new
      → IsFoundIf Holds areas (number x.first) (number x.last) passes old
      → IsFoundIf Holds areas (number y.first) (number y.last) passes new
  next_found passes old new notes found = elim notes [
    | inl kept ↦
        subst (λ (o : Option Packet). IsFoundIf Holds areas (number y.first) (number y.last) passes o) (sym kept)
        (subst (λ (t : Service). IsFoundIf Holds areas (number t) (number y.last) passes old) (sym grows.first)
        (fewer_found Holds areas (number x.first) (number x.last) (number y.last) passes old grows.last found))
    | inr one ↦
        subst (λ (o : Option Packet). IsFoundIf Holds areas (number y.first) (number y.last) passes o) (sym one.1)
        (found_there passes one.0 one.2)
  ]
    where
      found_there : (passes : Bool) (p : Packet) → IsFoundIn Part (box_of a first) y passes p
          → IsFound Holds areas (number y.first) (number y.last) passes p
      found_there passes p one = record {
        inside =
            all p (subst (λ (xs : List Area). IsInOne xs p) (sym same)
            (inl ((one.inside.above.src, one.inside.below.src), (one.inside.above.dst, one.inside.below.dst))));
        packet = packets p one.inside;
        service = one.service;
        alike = λ f fellows is from to.
            let agrees = agree f is (
              (subst (λ (n : ℕ). LiesIn a.from n) (sym fellows.src) (one.inside.above.src, one.inside.below.src)),
              (subst (λ (n : ℕ). LiesIn a.to n) (sym fellows.dst) (one.inside.above.dst, one.inside.below.dst)),
            ) in
            let decided = one.alike f fellows is from to in
            (λ on. agrees.0 (decided.0 on), λ holds. decided.1 (agrees.1 holds));
      }

  -- The results for the packets of the area are recorded.
  recorded_here : (f : Packet) → IsPacket f → IsInArea a f → IsSurveyed y (service_of f) → IsRecorded Holds y f
  recorded_here f is here between =
      let p : Packet = record { src = f.src; dst = f.dst; proto = first.proto; sport = f.sport; dport = first.port } in
      let fits : f.sport ≤ 65535 = let small = is.3 in omega (arith, small) in
      let inside : IsIn (box_of a first) p = record {
        above = record { src = here.0.0; dst = here.1.0; proto = omega arith; sport = omega arith; dport = omega arith };
        below = record { src = here.0.1; dst = here.1.1; proto = omega arith; sport = fits; dport = omega arith };
      } in
      let fellows : AreFellows p f = record { src = refl; dst = refl; sport = refl } in
      elim (knows p inside first_number f fellows is between) [
        | inl passes ↦ inl ((agree f is here).0 passes.0, passes.1)
        | inr stays ↦ inr (λ holds. stays.0 ((agree f is here).1 holds), stays.1)
      ]

  pub next_area : IsUnderWay Holds areas rest y
  next_area = record {
    some = some_left;
    passes = next_found true x.passes y.passes grows.passes way.passes;
    stays = next_found false x.stays y.stays grows.stays way.stays;
    covers = λ f is inside between.
        let from = rw grows.first at between.0 in
        elim (way.covers f is inside (from, omega (arith, grows.last, between.1))) [
          | inl there ↦ elim (here_or_later f (subst (λ (xs : List Area). IsInOne xs f) same there)) [
            | inl here ↦ inr (recorded_here f is here between)
            | inr later ↦ inl later
          ]
          | inr recorded ↦ inr (recorded_still Part Holds (box_of a first) x y f grows recorded)
        ];
  }
    where
      here_or_later : (f : Packet) → IsInOne (a ∷ rest) f → IsInArea a f ⊎ IsInOne rest f
      here_or_later f there = there

  pub next_has_found : HasFound y
  next_has_found =
      let p = (box_of a first).least in
      let box : IsBox (box_of a first) = record { src = area.0; dst = area.1; proto = omega arith; sport = omega arith; dport = omega arith } in
      let inside : IsIn (box_of a first) p = own_least (box_of a first) box in
      let fellows : AreFellows p p = record { src = refl; dst = refl; sport = refl } in
      let low : number y.first ≤ service_of p = let e = first_number in omega (arith, e) in
      let high : service_of p ≤ number y.last = let e = first_number in let h = some_left in omega (arith, e, h) in
      there_known Part y p (knows p inside first_number p fellows (packets p inside) (low, high))

-- ---- surveys with an unchanged question

module _ {Q : Type 0} (HoldsOf : Q → Packet → Type 0) where
  pub known_by : (asked asks : Q) (b whole : PacketBox) (x y : Survey) → whole ≡ b → GrowsBy HoldsOf asked asks whole x y
      → ((p : Packet) → IsIn whole p → IsKnown (HoldsOf asks) y p) → (p : Packet) → IsIn b p → IsKnown (HoldsOf asked) y p
  known_by asked asks b whole x y same grows knows p inside =
      subst (λ (q : Q). IsKnown (HoldsOf q) y p) grows.0 (knows p (subst (λ (c : PacketBox). IsIn c p) (sym same) inside))

  -- The question restricted to an area.
  pub asked_part : (q : Q) (a : Area) (b : PacketBox) (part : Option Q) → IsArea a
      → ((p : Packet) → IsPacket p → LiesIn a.from p.src → LiesIn a.to p.dst → IsIn b p)
      → IfSome part (λ t. (p : Packet) → IsIn b p → (HoldsOf t p ↔ HoldsOf q p)) → IsAsked (HoldsOf q) a (HoldsOf (part_or q part))
  asked_part q a b None area inside agree = record { packets = area; same = λ p is here. (λ holds. holds, λ holds. holds) }
  asked_part q a b (Some t) area inside agree = record { packets = area; same = λ p is here. agree p (inside p is here.0 here.1) }

-- ---- the area at an index

module _ {A : Type 0} (area_of : A → Area) (part_of : A → Packet → Type 0) (Holds : Packet → Type 0) (asked : List A) where
  in_dropped : (i : ℕ) (left : List A) (p : Packet) → IsInOne (map area_of (drop i left)) p → IsInOne (map area_of left) p
  in_dropped zero left p there = there
  in_dropped (suc i) [] p there = absurd there
  in_dropped (suc i) (a ∷ left) p there = inr (in_dropped i left p there)

  module _ (i : ℕ) (e : A) (x y : Survey) (within : i < length asked) (read : e ≡ get_or asked i e)
      (are : All (λ a. IsAsked Holds (area_of a) (part_of a)) asked) (packets : (p : Packet) → IsIn (box_of (area_of e) x.first) p → IsPacket p)
      (grows : Grows (part_of e) (box_of (area_of e) x.first) x y)
      (knows : (p : Packet) → IsIn (box_of (area_of e) x.first) p → IsKnown (part_of e) y p)
      (way : IsUnderWay Holds (map area_of asked) (map area_of (drop i asked)) x) where
    asked_here : IsAsked Holds (area_of e) (part_of e)
    asked_here = subst (λ (a : A). IsAsked Holds (area_of a) (part_of a)) (sym read) (are i e within)

    same_left : map area_of (drop i asked) ≡ area_of e ∷ map area_of (drop (suc i) asked)
    same_left = ap (map area_of) (drop-cons asked i e within ∙ ap (λ (a : A). a ∷ drop (suc i) asked) (sym read))

    pub step_way : IsUnderWay Holds (map area_of asked) (map area_of (drop (i + 1) asked)) y
    step_way =
        subst (λ (n : ℕ). IsUnderWay Holds (map area_of asked) (map area_of (drop n asked)) y) (sym (add-one i))
        (next_area Holds (part_of e) (map area_of asked) x.first (area_of e) (map area_of (drop (suc i) asked)) (map area_of (drop i asked)) x y same_left
        (λ f there. in_dropped i asked f there) asked_here.packets packets refl grows knows asked_here.same way)

    pub step_found : HasFound y
    step_found =
        next_has_found Holds (part_of e) (map area_of asked) x.first (area_of e) (map area_of (drop (suc i) asked)) (map area_of (drop i asked)) x y same_left
        (λ f there. in_dropped i asked f there) asked_here.packets packets refl grows knows asked_here.same way
