-- Marks on the rules that decide packets, box by box.
use Rattle.std.proofs.Common.{◌≡◌, ◌⊎◌, ◌↔◌, inl, inr, ℕ, zero, suc, ◌+◌, ◌<◌, ◌∙◌, true, IsTrue, List, [], ◌∷◌, Option, Some, None, get_or, length, take, refl, sym, ap, subst, arith}
use Rattle.std.specs.Prelude.{IfSome}
use Rattle.std.proofs.lemmas.List.{take_more}
use Rattle.host_net.specs.declared.packet.Packet.{Packet}
use Rattle.header_space.specs.declared.packet_box.PacketBox.{PacketBox}
use Rattle.header_space.specs.Boxes.{IsIn}
use Rattle.ipt_rules.specs.declared.marks.Place.{Place}
use Rattle.ipt_rules.specs.Marks.{marks_of}
use Rattle.ipt_rules.proofs.MarkLemmas.{kept_if, marked_if, only_if}
use Rattle.rules_space.specs.Rules.{AnyRules}
use Rattle.decide_core.specs.declared.deciders.Deciders.{Deciders}
use Rattle.decide_core.specs.Deciders.{AreDeciders, DecidesOne, IsDecider, IsInOne, PassesAmong}
use Rattle.decide_core.specs.inner.Deciding.{Counts, CountsAmong, Deciding, HasNoted, IsKnown, NotesMore, NotesMoreIn, is_noted, noted}
use Rattle.decide_core.specs.inner.Marked.{AreMarked}
use Rattle.decide_core.specs.laws.DecidingLaws.{known_still, same_one}
use Rattle.decide_core.proofs.ServiceLemmas.{in_either}

-- The rule at the place has a mark, set or not. The default always has.
abbrev pub IsThere : Deciding → Option Place → Type 0
IsThere x d = IfSome d (λ place. place.rule < length (marks_of x.marks place.chain))

module _ (x : Deciding) where
  pub noted_self : (d : Option Place) → IsThere x d → IsTrue (is_noted (noted x d) d)
  noted_self None there = refl
  noted_self (Some place) low = marked_if x.marks place low true refl

  pub noted_kept : (d : Option Place) → IsThere x d → (e : Option Place) → IsTrue (is_noted x e) → IsTrue (is_noted (noted x d) e)
  noted_kept None there None on = refl
  noted_kept None there (Some place) on = on
  noted_kept (Some place) low None on = on
  noted_kept (Some place) low (Some other) on = kept_if x.marks place low true other on

  pub noted_only : (d : Option Place) → IsThere x d → (e : Option Place) → IsTrue (is_noted (noted x d) e) → IsTrue (is_noted x e) ⊎ (e ≡ d)
  noted_only None there None on = inr refl
  noted_only None there (Some place) on = inl on
  noted_only (Some place) low None on = inl on
  noted_only (Some place) low (Some other) on = elim (only_if x.marks place low true other on) [
    | inl old ↦ inl old
    | inr same ↦ inr (ap (λ (q : Place). Some q) same.0)
  ]

  pub same_rules : (d : Option Place) → (noted x d).rules ≡ x.rules
  same_rules None = refl
  same_rules (Some place) = refl

  pub same_passing : (d : Option Place) → (noted x d).passing ≡ x.passing
  same_passing None = refl
  same_passing (Some place) = refl

  notes : (Among : Packet → Type 0) (d : Option Place) (p : Packet) → IsThere x d → Among p → Counts x.rules x.passing p → IsDecider x.rules p d
      → NotesMore Among x (noted x d)
  notes Among d p there among counts decides = record {
    rules = same_rules d;
    passing = same_passing d;
    kept = λ e on. noted_kept d there e on;
    only = λ e on. elim (noted_only d there e on) [
      | inl old ↦ inl old
      | inr same ↦
          inr (record { packet = p; among = (among, counts); decides = rw same decides })
    ];
  }

  pub visit_grows : (b : PacketBox) (y : Deciding) (d : Option Place) (p : Packet) → IsIn b p → y ≡ noted x d → IsThere x d → Counts x.rules x.passing p
      → IsDecider x.rules p d → NotesMoreIn b x y
  visit_grows b y d p inside is there counts decides =
      subst (λ (z : Deciding). NotesMoreIn b x z) (sym is) (notes (IsIn b) d p there inside counts decides)

  noted_known : (d : Option Place) (p : Packet) → IsThere x d → ((other : Option Place) → IsDecider x.rules p other → other ≡ d) → IsKnown (noted x d) p
  noted_known d p there only = λ counts other decides.
      rw (only other (rw (same_rules d) at decides)) (noted_self d there)

  pub visit_known : (y : Deciding) (d : Option Place) (p : Packet) → y ≡ noted x d → IsThere x d
      → ((other : Option Place) → IsDecider x.rules p other → other ≡ d) → IsKnown y p
  visit_known y d p is there only = subst (λ (z : Deciding). IsKnown z p) (sym is) (noted_known d p there only)

-- ---- boxes

pub in_whole : (boxes : List PacketBox) (i : ℕ) (d : PacketBox) (p : Packet) → i < length boxes → IsIn (get_or boxes i d) p → IsInOne boxes p
in_whole [] i d p low inside = absurd (omega (arith, low))
in_whole (x ∷ boxes) zero d p low inside = inl inside
in_whole (x ∷ boxes) (suc i) d p low inside = inr (in_whole boxes i d p (omega (arith, low)) inside)

pub in_more : (boxes : List PacketBox) (i : ℕ) (d : PacketBox) (p : Packet) → i < length boxes → IsInOne (take (i + 1) boxes) p
    → IsInOne (take i boxes) p ⊎ IsIn (get_or boxes i d) p
in_more boxes i d p low inside =
    in_either (take i boxes) (get_or boxes i d) p (subst (λ (bs : List PacketBox). IsInOne bs p) (take_more boxes i d low) inside)

module _ (boxes : List PacketBox) (i : ℕ) (d : PacketBox) (low : i < length boxes) (x y : Deciding) (more : NotesMoreIn (get_or boxes i d) x y) where
  pub known_more : ((p : Packet) → IsIn (get_or boxes i d) p → IsKnown y p) → ((p : Packet) → IsInOne (take i boxes) p → IsKnown x p)
      → (p : Packet) → IsInOne (take (i + 1) boxes) p → IsKnown y p
  known_more now before p inside = elim (in_more boxes i d p low inside) [
    | inl earlier ↦ known_still (IsIn (get_or boxes i d)) x y p more (before p earlier)
    | inr here ↦ now p here
  ]

  pub only_more : ((e : Option Place) → IsTrue (is_noted x e) → DecidesOne x.rules (CountsAmong x (IsInOne boxes)) e)
      → (e : Option Place) → IsTrue (is_noted y e) → DecidesOne y.rules (CountsAmong y (IsInOne boxes)) e
  only_more before e on = same_one (IsInOne boxes) y x e (sym more.rules) (sym more.passing) (elim (more.only e on) [
    | inl old ↦ before e old
    | inr found ↦
        record {
          packet = found.packet;
          among = (in_whole boxes i d found.packet low found.among.0, found.among.1);
          decides = found.decides;
        }
  ])

-- ---- all deciders of packets that pass

module _ (rules : AnyRules) (Among : Packet → Type 0) (x : Deciding) (same : x.rules ≡ rules) (passing : x.passing ≡ true) (has : HasNoted Among x) where
  noted_iff : (e : Option Place) → IsTrue (is_noted x e) ↔ DecidesOne rules (PassesAmong rules Among) e
  noted_iff e = (
    λ on. rw (same, passing) at (has.only e on),
    λ one. has.known one.packet one.among.0 (rw (same, passing) one.among.1) e (rw same one.decides),
  )

  pub are_deciders : (d : Deciders) → AreMarked x.marks d.places.items → d.by_default ≡ x.by_default → AreDeciders rules Among d
  are_deciders d marked default = record {
    ascending = marked.ascending;
    exact = λ place. (
      λ listed. (noted_iff (Some place)).0 ((marked.exact place).0 listed),
      λ one. (marked.exact place).1 ((noted_iff (Some place)).1 one),
    );
    by_default = (λ on. (noted_iff None).0 (sym default ∙ on), λ one. default ∙ (noted_iff None).1 one);
  }
