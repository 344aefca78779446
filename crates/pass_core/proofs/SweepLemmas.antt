-- The invariant of a sweep over the services, after one more survey.
use Rattle.std.proofs.Common.{◌≡◌, ◌⊎◌, ◌↔◌, inl, inr, ℕ, ◌+◌, ◌/◌, ◌%◌, ◌<◌, ◌≤◌, Bool, true, false, List, Option, Some, None, is_none, refl, sym, ap, subst, arith}
use Rattle.std.specs.Prelude.{IfSome, IfNone}
use Rattle.std.specs.List.{All}
use Rattle.std.proofs.lemmas.Bool.Decides.{not_from_Decides}
use Rattle.std.proofs.lemmas.List.Elements.{All-weaker}
use Rattle.std.proofs.lemmas.Option.{IfSome_then}
use Rattle.header_space.proofs.SplitLaws.{le_or_lt}
use Rattle.host_net.specs.declared.packet.Packet.{Packet}
use Rattle.host_net.specs.Packet.{IsPacket}
use Rattle.pass_core.specs.declared.area.Area.{Area}
use Rattle.pass_core.specs.declared.passing_range.PassingRange.{PassingRange}
use Rattle.pass_core.specs.declared.service.Service.{Service}
use Rattle.pass_core.specs.declared.survey.Survey.{Survey}
use Rattle.pass_core.specs.Passing.{ArePassing, IsExampleOf, IsOfService, IsShown, LiesInRange, PassesInPart, PassesNot, PassesWholly}
use Rattle.pass_core.specs.Services.{service_count, service_of}
use Rattle.pass_core.specs.inner.Areas.{IsInOne}
use Rattle.pass_core.specs.inner.Joining.{Appends, AppendsIf, range_of}
use Rattle.pass_core.specs.inner.Numbers.{number, number_before}
use Rattle.pass_core.specs.inner.Surveying.{AreFellows, IsFound, IsFoundIf, IsSurvey, IsThere}
use Rattle.pass_core.specs.inner.Sweeping.{IsPlaced, IsSwept, PassesAs}
use Rattle.pass_core.proofs.AreaLemmas.{in_same}
use Rattle.pass_core.proofs.RangeLemmas.{IsAppended, LiesHere, joined, lies_below}

-- The kind of range that has the services of a survey, or `None` if they do not pass.
abbrev pub kind_of : Option Packet → Option Packet → Option Bool
kind_of None stays = None
kind_of (Some p) stays = Some (is_none stays)

-- ---- the first sweep, and the last one

wholly_if : (Holds : Packet → Type 0) (Between : Packet → Type 0) (rs : List PassingRange) (n : ℕ) (k : Option Bool) → PassesAs Holds Between k n
    → ((b : Bool) → LiesInRange rs b n ↔ (k ≡ Some b)) → LiesInRange rs true n ↔ PassesWholly Holds Between n
wholly_if Holds Between rs n None passes lies = (λ here. let wrong : None ≡ Some true = (lies true).0 here in absurd (cc), λ wholly. absurd (passes.1 wholly))
wholly_if Holds Between rs n (Some true) passes lies = (λ here. passes.0, λ wholly. (lies true).1 refl)
wholly_if Holds Between rs n (Some false) passes lies = (λ here. let wrong : Some false ≡ Some true = (lies true).0 here in absurd (cc), λ wholly. absurd (passes.1 wholly))

in_part_if : (Holds : Packet → Type 0) (Between : Packet → Type 0) (rs : List PassingRange) (n : ℕ) (k : Option Bool) → PassesAs Holds Between k n
    → ((b : Bool) → LiesInRange rs b n ↔ (k ≡ Some b)) → LiesInRange rs false n ↔ PassesInPart Holds Between n
in_part_if Holds Between rs n None passes lies = (λ here. let wrong : None ≡ Some false = (lies false).0 here in absurd (cc), λ part. absurd (passes.2 part))
in_part_if Holds Between rs n (Some true) passes lies = (λ here. let wrong : Some true ≡ Some false = (lies false).0 here in absurd (cc), λ part. absurd (passes.1 part))
in_part_if Holds Between rs n (Some false) passes lies = (λ here. passes.0, λ part. (lies false).1 refl)

not_if : (Holds : Packet → Type 0) (Between : Packet → Type 0) (rs : List PassingRange) (n : ℕ) (k : Option Bool) → PassesAs Holds Between k n
    → ((b : Bool) → LiesInRange rs b n ↔ (k ≡ Some b)) → ((b : Bool) → LiesInRange rs b n → ⊥) ↔ PassesNot Holds Between n
not_if Holds Between rs n None passes lies = (λ none. passes.0, λ not b here. let wrong : None ≡ Some b = (lies b).0 here in cc)
not_if Holds Between rs n (Some true) passes lies = (λ none. absurd (none true ((lies true).1 refl)), λ not. absurd (passes.2 not))
not_if Holds Between rs n (Some false) passes lies = (λ none. absurd (none false ((lies false).1 refl)), λ not. absurd (passes.2 not))

pub swept_all : (Holds : Packet → Type 0) (Between : Packet → Type 0) (rs : List PassingRange) → IsSwept Holds Between rs service_count
    → ArePassing Holds Between rs
swept_all Holds Between rs swept = record {
  maximal = swept.maximal;
  shown = swept.shown;
  wholly = λ n small. let at = swept.placed n small in wholly_if Holds Between rs n at.kind at.passes at.lies;
  in_part = λ n small. let at = swept.placed n small in in_part_if Holds Between rs n at.kind at.passes at.lies;
  not = λ n small. let at = swept.placed n small in not_if Holds Between rs n at.kind at.passes at.lies;
}

pub next_number : (o : Option Service) (n : ℕ) → IfSome o (λ s. number s ≡ n + 1) → IfNone o (n + 1 ≡ service_count) → number_before o ≡ n + 1
next_number None n some none = sym none
next_number (Some s) n some none = some

-- ---- one more survey

module _ (Holds : Packet → Type 0) (Between : Packet → Type 0) (n : ℕ) where
  -- How a service passes, determined by the recorded packets.
  kinds : (passes stays : Option Packet)
      → (IsThere passes → (p : Packet) × IsOfService Holds Between n true p) → (IsThere stays → (p : Packet) × IsOfService Holds Between n false p)
      → ((p : Packet) → Between p → service_of p ≡ n → (Holds p × IsThere passes) ⊎ ((Holds p → ⊥) × IsThere stays))
      → IsThere passes ⊎ IsThere stays → PassesAs Holds Between (kind_of passes stays) n
  kinds None None some other each found = elim found [ inl none ↦ absurd none | inr none ↦ absurd none ]
  kinds None (Some q) some other each found = (
    no_pass,
    (λ wholly. let p = other tt in not_from_Decides false p.1.decided refl (wholly p.0 p.1.between p.1.service)),
    (λ part. no_pass part.0.0 part.0.1.between part.0.1.service (part.0.1.decided.0 refl)),
  )
    where
      no_pass : PassesNot Holds Between n
      no_pass p between service holds = elim (each p between service) [ inl passes ↦ passes.1 | inr stays ↦ stays.0 holds ]
  kinds (Some q) None some other each found = (
    all_pass,
    (λ part. not_from_Decides false part.1.1.decided refl (all_pass part.1.0 part.1.1.between part.1.1.service)),
    (λ not. let p = some tt in not p.0 p.1.between p.1.service (p.1.decided.0 refl)),
  )
    where
      all_pass : PassesWholly Holds Between n
      all_pass p between service = elim (each p between service) [ inl passes ↦ passes.0 | inr stays ↦ absurd stays.1 ]
  kinds (Some q) (Some r) some other each found = (
    (some tt, other tt),
    (λ wholly. let p = other tt in not_from_Decides false p.1.decided refl (wholly p.0 p.1.between p.1.service)),
    (λ not. let p = some tt in not p.0 p.1.between p.1.service (p.1.decided.0 refl)),
  )

-- The fellow of the packet that has service n.
abbrev pub fellow : Packet → ℕ → Packet
fellow p n = record { src = p.src; dst = p.dst; proto = n / 65536; sport = p.sport; dport = n % 65536 }

fellow_service : (p : Packet) (n : ℕ) → service_of (fellow p n) ≡ n
fellow_service p n = omega arith

fellow_packet : (p : Packet) (n : ℕ) → IsPacket p → n < service_count → IsPacket (fellow p n)
fellow_packet p n is small = (is.0, is.1, omega (arith, small), is.3, omega arith)

module _ (Holds : Packet → Type 0) (Between : Packet → Type 0) (areas : List Area) (first : ℕ) (s : Survey) (is : IsSurvey Holds areas first s)
    (into : (p : Packet) → IsPacket p → IsInOne areas p → Between p) (packet : (p : Packet) → Between p → IsPacket p)
    (inside : (p : Packet) → Between p → IsInOne areas p) (small : number s.last < service_count) where
  example : (n : ℕ) (passes : Bool) (o : Option Packet) → first ≤ n → n ≤ number s.last → IsFoundIf Holds areas (number s.first) (number s.last) passes o → IsThere o
      → (p : Packet) × IsOfService Holds Between n passes p
  example n passes None from to found there = absurd there
  example n passes (Some q) from to found there =
      let p = fellow q n in
      let fits : IsPacket p = fellow_packet q n found.packet (omega (arith, to, small)) in
      let service : service_of p ≡ n = fellow_service q n in
      let fellows : AreFellows q p = record { src = refl; dst = refl; sport = refl } in (
        p,
        record {
          between = into p fits (in_same areas q p refl refl found.inside);
          service = service;
          decided = found.alike p fellows fits (omega (arith, is.first, from, service)) (omega (arith, to, service));
        },
      )

  service_kind : (n : ℕ) → first ≤ n → n ≤ number s.last → PassesAs Holds Between (kind_of s.passes s.stays) n
  service_kind n from to =
      kinds Holds Between n s.passes s.stays (λ there. example n true s.passes from to is.passes there) (λ there. example n false s.stays from to is.stays there)
      (λ p between service. let start = is.first in is.covers p (packet p between) (inside p between) (omega (arith, start, from, service), omega (arith, to, service)))
      is.found

  -- The recorded packets of a survey are examples of its range.
  example_of : (q : Packet) (passes : Bool) (p : Packet) → IsFound Holds areas (number s.first) (number s.last) passes p
      → IsExampleOf Holds Between (range_of s q) passes p
  example_of q passes p found =
      let fellows : AreFellows p p = record { src = refl; dst = refl; sport = refl } in
      let low : number s.first ≤ service_of p = omega (arith, found.service) in
      let high : service_of p ≤ number s.last = omega (arith, found.service, is.some) in
      record { between = into p found.packet found.inside; low = low; high = high; decided = found.alike p fellows found.packet low high }

  examples_of : (q : Packet) (o : Option Packet) → IsFoundIf Holds areas (number s.first) (number s.last) false o
      → IfSome o (λ p. IsExampleOf Holds Between (range_of s q) false p)
  examples_of q o found = IfSome_then o found (λ p at. example_of q false p at)

  shown_range : (q : Packet) → s.passes ≡ Some q → IsShown Holds Between (range_of s q)
  shown_range q passes = record {
    some = is.some;
    services = small;
    passes = example_of q true q (subst (λ (o : Option Packet). IsFoundIf Holds areas (number s.first) (number s.last) true o) passes is.passes);
    stays = examples_of q s.stays is.stays;
  }

  kind_is : (o : Option Packet) (n : ℕ) → s.passes ≡ o → first ≤ n → n ≤ number s.last → PassesAs Holds Between (kind_of o s.stays) n
  kind_is o n same from to = subst (λ (p : Option Packet). PassesAs Holds Between (kind_of p s.stays) n) same (service_kind n from to)

  module _ (old new : List PassingRange) (swept : IsSwept Holds Between old first) where
    nothing : s.passes ≡ None → IsSwept Holds Between old (number s.last + 1)
    nothing none = record {
      maximal = swept.maximal;
      shown = swept.shown;
      below =
          All-weaker (λ (r : PassingRange). r.high < first) (λ (r : PassingRange). r.high < number s.last + 1)
          (λ r low. let start = is.first in let some = is.some in omega (arith, low, start, some)) old swept.below;
      placed = λ n low. elim (le_or_lt first n) [
        | inl from ↦ record {
          kind = None;
          passes = kind_is None n none from (omega (arith, low));
          lies = λ b. (λ lies. absurd (lies_below old b first n swept.below from lies), λ wrong. absurd (cc));
        }
        | inr before ↦ swept.placed n before
      ];
    }

    something : (q : Packet) → s.passes ≡ Some q → IsAppended Holds Between old (range_of s q) new → IsSwept Holds Between new (number s.last + 1)
    something q some appended = record {
      maximal = appended.maximal;
      shown = appended.shown;
      below = appended.below;
      placed = λ n low. elim (le_or_lt first n) [ inl from ↦ placed_here n from (omega (arith, low)) | inr before ↦ placed_before n before ];
    }
      where
        here : (n : ℕ) (b : Bool) → first ≤ n → n ≤ number s.last → Some (is_none s.stays) ≡ Some b → LiesHere (range_of s q) b n
        here n b from to kind = let start = is.first in (cc, omega (arith, start, from), to)

        placed_here : (n : ℕ) → first ≤ n → n ≤ number s.last → IsPlaced Holds Between new n
        placed_here n from to = record {
          kind = Some (is_none s.stays);
          passes = kind_is (Some q) n some from to;
          lies = λ b. (
            λ lies. elim (appended.lies b n lies) [
              | inl old_lies ↦ absurd (lies_below old b first n swept.below from old_lies)
              | inr here ↦ ap (λ (x : Bool). Some x) here.0
            ],
            λ kind. appended.new_lies b n (here n b from to kind),
          );
        }

        placed_before : (n : ℕ) → n < first → IsPlaced Holds Between new n
        placed_before n before = let at = swept.placed n before in record {
          kind = at.kind;
          passes = at.passes;
          lies = λ b. (
            λ lies. elim (appended.lies b n lies) [
              | inl old_lies ↦ (at.lies b).0 old_lies
              | inr here ↦ let start = is.first in let from = here.1 in absurd (omega (arith, start, from, before))
            ],
            λ kind. appended.old_lies b n ((at.lies b).1 kind),
          );
        }

    appends : (o : Option Packet) → s.passes ≡ o → AppendsIf s o old new → IsSwept Holds Between new (number s.last + 1)
    appends None none same = subst (λ (rs : List PassingRange). IsSwept Holds Between rs (number s.last + 1)) (sym same) (nothing none)
    appends (Some q) some joins =
        something q some
        (joined Holds Between (range_of s q) (shown_range q some) old new swept.maximal swept.shown
        (subst (λ (n : ℕ). All (λ x. x.high < n) old) (sym is.first) swept.below) joins)

    pub swept_on : Appends s old new → IsSwept Holds Between new (number s.last + 1)
    swept_on joins = appends s.passes refl joins
