-- Laws of surveys by sets of packets.
use Rattle.std.proofs.Common.{◌≡◌, ◌⊎◌, inl, inr, ℕ, ◌<◌, ◌≤◌, Bool, true, false, List, Option, Some, None, is_some, refl, sym, ap, subst, ◌∙◌, arith}
use Rattle.std.specs.Prelude.{not}
use Rattle.std.specs.Bool.{Decides}
use Rattle.host_net.specs.declared.packet.Packet.{Packet}
use Rattle.host_net.specs.declared.packet.CtState.TheVariants.{New}
use Rattle.host_net.specs.Packet.{IsPacket}
use Rattle.header_space.specs.declared.address_range.AddressRange.{AddressRange}
use Rattle.header_space.specs.declared.packet_box.PacketBox.{PacketBox}
use Rattle.header_space.specs.Boxes.{IsBox, IsIn, IsNoHigher}
use Rattle.header_space.specs.Owners.{GoesBetween}
use Rattle.ipt_rules.specs.Chain.{Chain}
use Rattle.ipt_rules.specs.Semantics.{PassesChains}
use Rattle.packet_set.specs.declared.find.Found.{Found}
use Rattle.packet_set.specs.declared.node.Node.{Node}
use Rattle.packet_set.specs.Finding.{IsFound, IsOneOrNone, IsUpTo}
use Rattle.packet_set.specs.Nodes.{has}
use Rattle.rules_set.specs.declared.pair.PairSets.{PairSets}
use Rattle.rules_set.specs.Pairs.{ArePairSets}
use Rattle.rules_space.specs.Verdicts.{GivesOne}
use Rattle.pass_core.specs.declared.service.Service.{Service}
use Rattle.pass_core.specs.declared.survey.Survey.{Survey}
use Rattle.pass_core.specs.Services.{service_of}
use Rattle.pass_core.specs.inner.Areas.{IsInOne, areas_between}
use Rattle.pass_core.specs.inner.Numbers.{number}
use Rattle.pass_core.specs.inner.PairSurveys.{HasNone}
use Rattle.pass_core.specs.inner.Surveying.{AreFellows, HasService, IsFoundIf, IsSurvey, IsThere}
use Rattle.pass_core.proofs.AreaLemmas.{goes_between, in_areas}

not_true : (b : Bool) → not b ≡ true → b ≡ false
not_true true is = absurd (cc)
not_true false is = refl

pub there_by : (o : Option Packet) → is_some o ≡ true → IsThere o
there_by None is = absurd (cc)
there_by (Some p) is = tt

pub start_to : (whole part rest : PacketBox) (first last : Service) → whole.least.proto ≡ first.proto → whole.least.dport ≡ first.port → part.least ≡ whole.least
    → rest.least ≡ part.least → service_of rest.least ≤ number last → number first ≤ number last
start_to whole part rest first last proto port one two low =
    let a = ap (λ (p : Packet). p.proto) (two ∙ one) in
    let b = ap (λ (p : Packet). p.dport) (two ∙ one) in
    omega (arith, a, b, proto, port, low)

true_or_false : (b : Bool) → (b ≡ true) ⊎ (b ≡ false)
true_or_false true = inl refl
true_or_false false = inr refl

module _ (chains : List Chain) (from to : List AddressRange) (nodes : List Node) (sets : PairSets) (are : ArePairSets chains New from to nodes sets)
    (one : GivesOne (PassesChains chains)) where
  abbrev Holds : Packet → Type 0
  Holds p = PassesChains chains New p true

  decides : (p : Packet) (b : Bool) → IsPacket p → PassesChains chains New p b → Decides b (Holds p)
  decides p b is passes = (
    λ on. subst (PassesChains chains New p) on passes,
    λ holds. (one New p is).2 b passes ∙ sym ((one New p is).2 true holds),
  )

  verdict : (p : Packet) (b : Bool) → GoesBetween from to p → has nodes sets.passing p ≡ b → PassesChains chains New p b
  verdict p b goes is = subst (PassesChains chains New p) is (are.passes p goes)

  stays_verdict : (p : Packet) → IsPacket p → has nodes sets.staying p ≡ true → PassesChains chains New p false
  stays_verdict p is stays =
      let goes = are.between p is (inr stays) in
      verdict p false goes (not_true (has nodes sets.passing p) (sym (are.stays p goes) ∙ stays))

  passes_verdict : (p : Packet) → IsPacket p → has nodes sets.passing p ≡ true → PassesChains chains New p true
  passes_verdict p is passes = verdict p true (are.between p is (inl passes)) passes

  module _ (whole part rest : PacketBox) (first : Service) (s : Survey) (passing staying : Found)
      (every : (p : Packet) → IsPacket p → whole.least.proto ≤ p.proto → p.proto ≤ whole.greatest.proto → whole.least.dport ≤ p.dport
      → p.dport ≤ whole.greatest.dport → IsIn whole p)
      (packets : (p : Packet) → IsIn whole p → IsPacket p)
      (proto : whole.least.proto ≡ first.proto) (port : whole.least.dport ≡ first.port)
      (found : IsFound nodes sets.passing whole passing)
      (part_least : part.least ≡ whole.least) (part_greatest : part.greatest ≡ record whole.greatest { proto = passing.proto; dport = passing.dport })
      (also : IsFound nodes sets.staying part staying)
      (rest_least : rest.least ≡ part.least) (rest_greatest : rest.greatest ≡ record part.greatest { proto = staying.proto; dport = staying.dport })
      (begins : s.first ≡ first) (passes : s.passes ≡ passing.packet) (stays : s.stays ≡ staying.packet)
      (some : IsThere passing.packet ⊎ IsThere staying.packet)
      (low : service_of rest.least ≤ number s.last)
      (alike : (f : Packet) → IsPacket f → service_of rest.least ≤ service_of f → service_of f ≤ number s.last → HasService rest f) where
    -- Facts of the boxes as numbers.
    proto_least : rest.least.proto ≡ first.proto
    proto_least = ap (λ (p : Packet). p.proto) (rest_least ∙ part_least) ∙ proto

    port_least : rest.least.dport ≡ first.port
    port_least = ap (λ (p : Packet). p.dport) (rest_least ∙ part_least) ∙ port

    start : service_of rest.least ≡ number first
    start = let a = proto_least in let b = port_least in omega (arith, a, b)

    rest_proto : rest.greatest.proto ≡ staying.proto
    rest_proto = ap (λ (p : Packet). p.proto) rest_greatest

    rest_dport : rest.greatest.dport ≡ staying.dport
    rest_dport = ap (λ (p : Packet). p.dport) rest_greatest

    part_proto : part.greatest.proto ≡ passing.proto
    part_proto = ap (λ (p : Packet). p.proto) part_greatest

    part_dport : part.greatest.dport ≡ passing.dport
    part_dport = ap (λ (p : Packet). p.dport) part_greatest

    module _ (f : Packet) (is : IsPacket f) (after : number first ≤ service_of f) (before : service_of f ≤ number s.last) where
      service : HasService rest f
      service = alike f is (let a = start in omega (arith, a, after)) before

      in_whole : IsUpTo whole passing f
      in_whole =
          let a = service.from_proto in let b = service.to_proto in let c = service.from_port in let d = service.to_port in
          let e = rest_proto in let g = rest_dport in let h = part_proto in let i = part_dport in
          let j = also.proto_most in let k = also.dport_most in let l = found.proto_most in let m = found.dport_most in
          let n = proto_least in let o = port_least in
          record {
            inside = every f is (omega (arith, a, n, proto)) (omega (arith, b, e, j, h, l)) (omega (arith, c, o, port)) (omega (arith, d, g, k, i, m));
            proto = omega (arith, b, e, j, h);
            dport = omega (arith, d, g, k, i);
          }

      in_part : IsUpTo part staying f
      in_part =
          let b = service.to_proto in let d = service.to_port in let e = rest_proto in let g = rest_dport in
          let h = part_proto in let i = part_dport in let x = in_whole.inside in let y = in_whole.proto in let z = in_whole.dport in
          record {
            inside = record {
              above = subst (λ (p : Packet). IsNoHigher p f) (sym part_least) x.above;
              below = subst (λ (p : Packet). IsNoHigher f p) (sym part_greatest) (record {
                src = x.below.src;
                dst = x.below.dst;
                proto = y;
                sport = x.below.sport;
                dport = z;
              });
            };
            proto = omega (arith, b, e);
            dport = omega (arith, d, g);
          }

    part_whole : (q : Packet) → IsIn part q → IsIn whole q
    part_whole q inside =
        let below : IsNoHigher q (record whole.greatest { proto = passing.proto; dport = passing.dport }) = subst (λ (p : Packet). IsNoHigher q p) part_greatest inside.below in
        let a = below.proto in let b = below.dport in let c = found.proto_most in let d = found.dport_most in
        record {
          above = subst (λ (p : Packet). IsNoHigher p q) part_least inside.above;
          below = record { src = below.src; dst = below.dst; proto = omega (arith, a, c); sport = below.sport; dport = omega (arith, b, d) };
        }

    passes_if : (o : Option Packet) → IsOneOrNone nodes sets.passing whole passing o
        → IsFoundIf Holds (areas_between from to) (number first) (number s.last) true o
    passes_if None none = tt
    passes_if (Some q) it =
        let packet = packets q it.inside in
        let a = it.proto in let b = it.dport in
        let here : service_of q ≡ number first = omega (arith, a, b, proto, port) in
        let begin : number first ≤ number s.last = let x = start in omega (arith, x, low) in
        let fellow : (f : Packet) → AreFellows q f → IsPacket f → number first ≤ service_of f → service_of f ≤ number s.last → Decides true (Holds f) =
        λ f fellows is after before.
        decides f true is (passes_verdict f is (it.fellows f (in_whole f is after before) (record { src = fellows.src; dst = fellows.dst; sport = fellows.sport }))) in
        let goes = are.between q packet (inl (it.fellows q (in_whole q packet (omega (arith, here)) (omega (arith, here, begin))) (record { src = refl; dst = refl; sport = refl }))) in
        record { inside = in_areas from to (areas_between from to) q refl goes; packet = packet; service = here; alike = fellow }

    stays_if : (o : Option Packet) → IsOneOrNone nodes sets.staying part staying o
        → IsFoundIf Holds (areas_between from to) (number first) (number s.last) false o
    stays_if None none = tt
    stays_if (Some q) it =
        let packet = packets q (part_whole q it.inside) in
        let a = it.proto in let b = it.dport in
        let c = ap (λ (p : Packet). p.proto) part_least in let d = ap (λ (p : Packet). p.dport) part_least in
        let here : service_of q ≡ number first = omega (arith, a, b, c, d, proto, port) in
        let begin : number first ≤ number s.last = let x = start in omega (arith, x, low) in
        let fellow : (f : Packet) → AreFellows q f → IsPacket f → number first ≤ service_of f → service_of f ≤ number s.last → Decides false (Holds f) =
        λ f fellows is after before.
        decides f false is (stays_verdict f is (it.fellows f (in_part f is after before) (record { src = fellows.src; dst = fellows.dst; sport = fellows.sport }))) in
        let goes = are.between q packet (inr (it.fellows q (in_part q packet (omega (arith, here)) (omega (arith, here, begin))) (record { src = refl; dst = refl; sport = refl }))) in
        record { inside = in_areas from to (areas_between from to) q refl goes; packet = packet; service = here; alike = fellow }

    some_there : (set : ℕ) (b : PacketBox) (f : Found) (o : Option Packet) (p : Packet) → IsOneOrNone nodes set b f o → IsUpTo b f p
        → has nodes set p ≡ true → IsThere o
    some_there set b f None p none up it = let off = none p up in absurd (cc)
    some_there set b f (Some q) p found_one up it = tt

    recorded : (f : Packet) → IsPacket f → IsInOne (areas_between from to) f → number first ≤ service_of f → service_of f ≤ number s.last
        → (Holds f × IsThere passing.packet) ⊎ ((Holds f → ⊥) × IsThere staying.packet)
    recorded f is inside after before =
        let goes = goes_between from to (areas_between from to) f refl is inside in
        elim (true_or_false (has nodes sets.passing f)) [
          | inl on ↦ inl (verdict f true goes on, some_there sets.passing whole passing passing.packet f found.packet (in_whole f is after before) on)
          | inr off ↦ inr (
            (λ holds. let wrong = (decides f false is (verdict f false goes off)).1 holds in absurd (cc)),
            some_there sets.staying part staying staying.packet f also.packet (in_part f is after before)
                (are.stays f goes ∙ ap not off),
          )
        ]

    pub survey_is : IsSurvey Holds (areas_between from to) (number first) s
    survey_is =
        let begin : number s.first ≡ number first = ap number begins in
        record {
          first = begin;
          some = let x = start in omega (arith, x, low, begin);
          passes = subst (λ (n : ℕ). IsFoundIf Holds (areas_between from to) n (number s.last) true s.passes) (sym begin)
              (subst (IsFoundIf Holds (areas_between from to) (number first) (number s.last) true) (sym passes) (passes_if passing.packet found.packet));
          stays = subst (λ (n : ℕ). IsFoundIf Holds (areas_between from to) n (number s.last) false s.stays) (sym begin)
              (subst (IsFoundIf Holds (areas_between from to) (number first) (number s.last) false) (sym stays) (stays_if staying.packet also.packet));
          covers = λ f is inside surveyed.
              let after = surveyed.0 in
              elim (recorded f is inside (omega (arith, begin, after)) surveyed.1) [
                | inl one_passes ↦ inl (one_passes.0, subst IsThere (sym passes) one_passes.1)
                | inr one_stays ↦ inr (one_stays.0, subst IsThere (sym stays) one_stays.1)
              ];
          found = elim some [ inl there ↦ inl (subst IsThere (sym passes) there) | inr there ↦ inr (subst IsThere (sym stays) there) ];
        }

-- ---- a service without packets

none_by : (nodes : List Node) (set : ℕ) (b : PacketBox) (f : Found) (p : Packet) → f.packet ≡ None → IsFound nodes set b f → IsUpTo b f p → has nodes set p ≡ false
none_by nodes set b f p none found up = (subst (IsOneOrNone nodes set b f) none found.packet) p up

pub none_there : (nodes : List Node) (sets : PairSets) (whole part : PacketBox) (first : Service) (passing staying : Found)
    → ((p : Packet) → IsPacket p → whole.least.proto ≤ p.proto → p.proto ≤ whole.greatest.proto → whole.least.dport ≤ p.dport
    → p.dport ≤ whole.greatest.dport → IsIn whole p)
    → IsBox whole → whole.least.proto ≡ first.proto → whole.least.dport ≡ first.port → IsFound nodes sets.passing whole passing
    → part.least ≡ whole.least → part.greatest ≡ record whole.greatest { proto = passing.proto; dport = passing.dport }
    → IsFound nodes sets.staying part staying → passing.packet ≡ None → staying.packet ≡ None → ((p : Packet) → IsIn whole p → IsPacket p) → HasNone nodes sets (number first)
none_there nodes sets whole part first passing staying every is_box proto port found part_least part_greatest also passes_none stays_none packets chains from to are p goes service =
    let packet = goes.packet in
    let least : IsIn whole whole.least =
    record { above = record { src = omega arith; dst = omega arith; proto = omega arith; sport = omega arith; dport = omega arith }; below = is_box } in
    let bound = (packets whole.least least).4 in
    let small : first.port < 65536 = omega (arith, bound, port) in
    let low = packet.4 in
    let same_proto : p.proto ≡ first.proto = omega (arith, service, low, small) in
    let same_port : p.dport ≡ first.port = omega (arith, service, low, small) in
    let a = is_box.proto in
    let b = is_box.dport in
    let c = found.proto in
    let d = found.dport in
    let inside : IsIn whole p =
    every p packet (omega (arith, same_proto, proto)) (omega (arith, same_proto, proto, a)) (omega (arith, same_port, port)) (omega (arith, same_port, port, b)) in
    let up : IsUpTo whole passing p = record { inside = inside; proto = omega (arith, same_proto, proto, c); dport = omega (arith, same_port, port, d) } in
    let off : has nodes sets.passing p ≡ false = none_by nodes sets.passing whole passing p passes_none found up in
    let above : IsNoHigher part.least p = subst (λ (q : Packet). IsNoHigher q p) (sym part_least) inside.above in
    let below : IsNoHigher p part.greatest =
    subst (λ (q : Packet). IsNoHigher p q) (sym part_greatest)
    (record { src = inside.below.src; dst = inside.below.dst; proto = up.proto; sport = inside.below.sport; dport = up.dport }) in
    let e = also.proto in
    let f = also.dport in
    let g = ap (λ (q : Packet). q.proto) part_least in
    let h = ap (λ (q : Packet). q.dport) part_least in
    let rest : IsUpTo part staying p = record {
      inside = record { above = above; below = below };
      proto = omega (arith, same_proto, proto, e, g);
      dport = omega (arith, same_port, port, f, h);
    } in
    let stays_off : has nodes sets.staying p ≡ false = none_by nodes sets.staying part staying p stays_none also rest in
    let stays : has nodes sets.staying p ≡ true = are.stays p goes ∙ ap not off in
    absurd (let wrong : true ≡ false = sym stays ∙ stays_off in cc)

pub none_of : (o : Option Packet) → is_some o ≡ false → o ≡ None
none_of None is = refl
none_of (Some p) is = absurd (cc)
