-- The unmarked entries are the dead entries.
use Rattle.std.proofs.Common.{◌≡◌, inl, inr, ℕ, ◌∙◌, Bool, false, not, List, Option, Some, length, refl, sym, ap, subst, arith}
use Rattle.std.proofs.lemmas.Bool.{false_from_ne_true, not-true, true≢false}
use Rattle.host_net.specs.declared.packet.Packet.{Packet}
use Rattle.header_space.specs.declared.packet_box.PacketBox.{PacketBox}
use Rattle.header_space.specs.Boxes.{IsIn, every_packet}
use Rattle.ipt_rules.specs.declared.marks.Place.{Place}
use Rattle.ipt_rules.specs.Marks.{is_marked}
use Rattle.ofp_rules.specs.declared.entry.Entry.{Entry}
use Rattle.rules_space.specs.Rules.{Entries}
use Rattle.rules_space.proofs.EveryPacketLaws.{in_every, packet_in_every}
use Rattle.rules_space.proofs.NumberLaws.{where_has, where_only, where_rises}
use Rattle.decide_core.specs.DeadEntries.{AreDeadEntries, IsDeadEntry}
use Rattle.decide_core.specs.Deciders.{DecidesOne}
use Rattle.decide_core.specs.inner.Deciding.{Counts, CountsAmong, Deciding, IsKnown, NotesMoreIn, is_noted}
use Rattle.decide_core.specs.inner.Marked.{entry_at, unmarked_below}

module _ (entries : List Entry) (b : PacketBox) (x y : Deciding) (same : x.rules ≡ Entries entries) (every : b ≡ every_packet) (all : x.passing ≡ false)
    (none : (e : Option Place) → is_noted x e ≡ false) (more : NotesMoreIn b x y) (known : (p : Packet) → IsIn b p → IsKnown y p) where
  counts : (p : Packet) → Counts y.rules y.passing p
  counts p = subst (λ (c : Bool). Counts y.rules c p) (sym (more.passing ∙ all)) tt

  unmarked_dead : (k : ℕ) → is_marked y.marks (entry_at k) ≡ false → IsDeadEntry entries k
  unmarked_dead k off p is decides =
      let inside : IsIn b p = rw every (in_every p is) in
      true≢false (sym (known p inside (counts p) (Some (entry_at k)) (rw (more.rules, same) (refl, decides))) ∙ off)

  dead_decides : (k : ℕ) → IsDeadEntry entries k → DecidesOne x.rules (CountsAmong x (IsIn b)) (Some (entry_at k)) → ⊥
  dead_decides k dead one =
      let decides = rw same at one.decides in dead one.packet (packet_in_every one.packet (rw every at one.among.0)) decides.1

  dead_unmarked : (k : ℕ) → IsDeadEntry entries k → is_marked y.marks (entry_at k) ≡ false
  dead_unmarked k dead =
      false_from_ne_true (is_marked y.marks (entry_at k))
      (λ on. elim (more.only (Some (entry_at k)) on) [
        | inl before ↦ true≢false (sym before ∙ none (Some (entry_at k)))
        | inr one ↦ dead_decides k dead one
      ])

  -- The entry is unmarked.
  abbrev unmarked : ℕ → Bool
  unmarked k = not (is_marked y.marks (entry_at k))

  pub are_dead : (n : ℕ) (ks : List ℕ) → n ≡ length entries → ks ≡ unmarked_below y.marks n → AreDeadEntries entries ks
  are_dead n ks count are = subst (AreDeadEntries entries) (sym are) (record {
    ascending = where_rises unmarked n;
    exact = λ k. (
      λ found. let is = where_only unmarked n k found in let low = is.0 in (omega (arith, low, count), unmarked_dead k (not-true (is_marked y.marks (entry_at k)) is.1)),
      λ dead. let low = dead.0 in where_has unmarked n k (omega (arith, low, count)) (ap not (dead_unmarked k dead.1)),
    );
  })
