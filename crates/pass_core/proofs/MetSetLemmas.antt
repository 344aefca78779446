-- Marks on the rules that packets meet, by sets of packets.
use Rattle.std.proofs.Common.{◌≡◌, inl, inr, ℕ, zero, suc, ◌+◌, ◌<◌, ◌≤◌, ◌∙◌, true, IsTrue, List, [], ◌∷◌, Option, Some, None, get_or, length, take, refl, sym, subst, arith}
use Rattle.std.specs.List.{All}
use Rattle.std.proofs.lemmas.List.{take_all, take_more}
use Rattle.host_net.specs.declared.packet.Packet.{Packet}
use Rattle.host_net.specs.declared.packet.CtState.{CtState}
use Rattle.host_net.specs.declared.packet.CtState.TheVariants.{New, Established}
use Rattle.header_space.specs.Boxes.{IsIn, Narrows, every_packet}
use Rattle.header_space.specs.declared.packet_box.PacketBox.{PacketBox}
use Rattle.header_space.proofs.BoxLaws.{narrows_in, own_least}
use Rattle.ipt_rules.specs.Chain.{Chain}
use Rattle.ipt_rules.specs.Marks.{is_marked}
use Rattle.ipt_rules.specs.Meets.{IsMet}
use Rattle.ipt_rules.specs.declared.marks.Place.{Place}
use Rattle.packet_set.specs.Finding.{IsMember}
use Rattle.packet_set.specs.Nodes.{has}
use Rattle.packet_set.specs.declared.node.Node.{Node}
use Rattle.rules_set.specs.Meeting.{AreMet, IsListed}
use Rattle.rules_set.specs.declared.met.MetSet.{MetSet}
use Rattle.rules_set.specs.declared.met.MetSets.{MetSets}
use Rattle.rules_set.proofs.WalkLaws.{listed_push}
use Rattle.pass_core.specs.inner.Meeting.{AreMarked, IsSoundSet, MarksMore, MetRules}
use Rattle.pass_core.specs.laws.MeetingLaws.{marks_by_more}

-- ---- one packet

single_in : (q p : Packet) → IsIn every_packet q → IsIn (record { least = q; greatest = q }) p → IsIn every_packet p
single_in q p top inside =
    let a = top.below in
    let b = inside.below in
    record {
      above = record { src = omega arith; dst = omega arith; proto = omega arith; sport = omega arith; dport = omega arith };
      below = record {
        src = let x = a.src in let y = b.src in omega (arith, x, y);
        dst = let x = a.dst in let y = b.dst in omega (arith, x, y);
        proto = let x = a.proto in let y = b.proto in omega (arith, x, y);
        sport = let x = a.sport in let y = b.sport in omega (arith, x, y);
        dport = let x = a.dport in let y = b.dport in omega (arith, x, y);
      };
    }

module _ (nodes : List Node) (m : MetSet) (old new : MetRules) (sound : IsSoundSet old.chains nodes m) where
  abbrev Marked : Type 0
  Marked = (p : Packet) → IsIn every_packet p → has nodes m.set p ≡ true → IsTrue (is_marked new.marks m.place)

  -- The packet of the set was visited.
  pub visited : (q : Packet) (b : PacketBox) → IsMember nodes m.set every_packet (Some q) → Narrows (record { least = q; greatest = q }) b
      → MarksMore b old new → ((p : Packet) → IsIn b p → AreMarked new p) → MarksMore every_packet old new × Marked
  visited q b found part more known = (
    marks_by_more every_packet b old new (λ p inside. single_in q p found.0 (narrows_in (record { least = q; greatest = q }) b p part inside)) more,
    λ p inside on.
        let least : IsIn b q = subst (λ (x : Packet). IsIn b x) part.least (own_least b part.is_box) in
        let w = sound.met q found.0 found.1 in
        known q least w.0 m.place (subst (λ (chains : List Chain). IsMet chains q w.0 m.place) (sym more.chains) w.1),
  )

pub unvisited : (nodes : List Node) (m : MetSet) (o : Option Packet) → o ≡ None → IsMember nodes m.set every_packet o
    → (p : Packet) → IsIn every_packet p → has nodes m.set p ≡ true → ⊥
unvisited nodes m None is none p inside on = let off = none p inside in cc
unvisited nodes m (Some q) is found p inside on = cc

-- ---- one set after another

pub sound_still : (chains others : List Chain) (nodes : List Node) (sets : List MetSet) (i : ℕ) (d : MetSet) → others ≡ chains → i < length sets
    → All (IsSoundSet chains nodes) sets → IsSoundSet others nodes (get_or sets i d)
sound_still chains others nodes sets i d same low all = subst (λ (cs : List Chain). IsSoundSet cs nodes (get_or sets i d)) (sym same) (all i d low)

abbrev pub AreListedMarked : List Node → List MetSet → MetRules → Type 0
AreListedMarked nodes sets m = (p : Packet) → IsIn every_packet p → (place : Place) → IsListed nodes sets p place → IsTrue (is_marked m.marks place)

pub marked_more : (nodes : List Node) (sets : List MetSet) (i : ℕ) (d : MetSet) (x y : MetRules) → i < length sets → MarksMore every_packet x y
    → AreListedMarked nodes (take i sets) x
    → ((p : Packet) → IsIn every_packet p → has nodes (get_or sets i d).set p ≡ true → IsTrue (is_marked y.marks (get_or sets i d).place))
    → AreListedMarked nodes (take (i + 1) sets) y
marked_more nodes sets i d x y low more before now p inside place listed =
    let m = get_or sets i d in
    elim (listed_push nodes p place m (take i sets) (subst (λ (l : List MetSet). IsListed nodes l p place) (take_more sets i d low) listed)) [
      | inl old ↦ more.kept place (before p inside place old)
      | inr own ↦ subst (λ (at : Place). IsTrue (is_marked y.marks at)) own.0 (now p inside own.1)
    ]

pub marked_all : (nodes : List Node) (sets : List MetSet) (i : ℕ) (x : MetRules) → length sets ≤ i → AreListedMarked nodes (take i sets) x
    → AreListedMarked nodes sets x
marked_all nodes sets i x all are = subst (λ (l : List MetSet). AreListedMarked nodes l x) (take_all i sets all) are

-- ---- the sets of a state

module _ (old new : List Node) (chains : List Chain) (state : CtState) (incoming : ℕ) (m : MetSets) (are : AreMet old new chains state every_packet incoming m)
    (every : (p : Packet) → has old incoming p ≡ true) where
  listed_own : (nodes : List Node) (sets : List MetSet) (i : ℕ) (d : MetSet) (p : Packet) → i < length sets → has nodes (get_or sets i d).set p ≡ true
      → IsListed nodes sets p (get_or sets i d).place
  listed_own nodes [] i d p low on = absurd (omega (arith, low))
  listed_own nodes (x ∷ xs) zero d p low on = inl (refl, on)
  listed_own nodes (x ∷ xs) (suc i) d p low on = inr (listed_own nodes xs i d p (omega (arith, low)) on)

  pub sets_sound : All (IsSoundSet chains new) m.sets.items
  sets_sound i d low = record {
    there = (are.sets i d low).there;
    met = λ p inside on.
        let x = get_or m.sets.items i d in
        (state, ((are.met p inside x.place).0 (listed_own new m.sets.items i d p low on)).1);
  }

  pub state_marked : (marked : MetRules) → AreListedMarked new m.sets.items marked → (p : Packet) → IsIn every_packet p → (place : Place)
      → IsMet chains p state place → IsTrue (is_marked marked.marks place)
  state_marked marked all p inside place met = all p inside place ((are.met p inside place).1 (every p, met))

-- ---- both states

pub all_marked : (chains : List Chain) (old mid new : MetRules) → old.chains ≡ chains → MarksMore every_packet old mid → MarksMore every_packet mid new
    → ((p : Packet) → IsIn every_packet p → (place : Place) → IsMet chains p New place → IsTrue (is_marked mid.marks place))
    → ((p : Packet) → IsIn every_packet p → (place : Place) → IsMet chains p Established place → IsTrue (is_marked new.marks place))
    → (p : Packet) → IsIn every_packet p → AreMarked new p
all_marked chains old mid new same first second new_ones others p inside New place met =
    second.kept place (new_ones p inside place (subst (λ (cs : List Chain). IsMet cs p New place) (second.chains ∙ (first.chains ∙ same)) met))
all_marked chains old mid new same first second new_ones others p inside Established place met =
    others p inside place (subst (λ (cs : List Chain). IsMet cs p Established place) (second.chains ∙ (first.chains ∙ same)) met)
