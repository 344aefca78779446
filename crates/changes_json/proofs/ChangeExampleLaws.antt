-- Laws of changes: all changes from one policy to another are determined, but for their examples.
use Rattle.std.proofs.Common.{◌≡◌, ◌<◌, List, [], ◌∷◌, ◌++◌, length, map, refl, sym, ap, ◌∙◌, arith}
use Rattle.std.proofs.lemmas.List.{map-append}
use Rattle.host_net.specs.declared.packet.Packet.{Packet}
use Rattle.pkt_core.specs.FlowPolicy.{FlowPolicy}
use Rattle.change_core.specs.Changes.{AreChanges, AreChangesBy, AreListedFor, ChangesBy, IsChange, IsListedFor, all_kinds, names_of}
use Rattle.change_core.specs.Names.{IsOfNames}
use Rattle.change_core.specs.declared.change.Change.{Change}
use Rattle.change_core.specs.declared.kind.ChangeKind.{ChangeKind}
use Rattle.change_core.specs.declared.named_owner.NamedOwner.{NamedOwner}
use Rattle.pass_core.specs.Passing.{ArePassing}
use Rattle.pass_core.specs.declared.passing_range.PassingRange.{PassingRange}
use Rattle.changes_json.specs.WithoutExamples.{change_without_examples}
use Rattle.range_json.specs.WithoutExamples.{range_without_examples}
use Rattle.range_json.proofs.RangeExampleLaws.{ranges_are_alike}

-- The parts of joined lists are alike.
all_alike : {X Y Z : Type 0} (facts : Y → Z) (Listed : X → List Y → Type 0) → ((x : X) (ys zs : List Y) → Listed x ys → Listed x zs → map facts ys ≡ map facts zs)
    → (one rest other others : List Y) (x : X) → Listed x one → Listed x other → map facts rest ≡ map facts others
    → map facts (one ++ rest) ≡ map facts (other ++ others)
all_alike facts Listed alike one rest other others x is also later =
    map-append facts one rest ∙ (λ i. alike x one other is also i ++ later i) ∙ sym (map-append facts other others)

lists_alike : {X : Type 0} (Listed : X → List Change → Type 0)
    → ((x : X) (ys zs : List Change) → Listed x ys → Listed x zs → map change_without_examples ys ≡ map change_without_examples zs)
    → (xs : List X) (cs ds : List Change) → AreListedFor Listed xs cs → AreListedFor Listed xs ds → map change_without_examples cs ≡ map change_without_examples ds
lists_alike Listed alike [] cs ds one other = ap (map change_without_examples) (one ∙ sym other)
lists_alike Listed alike (x ∷ xs) cs ds one other =
    ap (map change_without_examples) one.2
    ∙ all_alike change_without_examples Listed alike one.0 one.1 other.0 other.1 x one.3 other.3 (lists_alike Listed alike xs one.1 other.1 one.4 other.4)
    ∙ sym (ap (map change_without_examples) other.2)

module _ (old new : FlowPolicy) where
  -- Some packet changes, if there is a range.
  some_changes : (kind : ChangeKind) (from to : NamedOwner) (rs : List PassingRange) → 0 < length rs
      → ArePassing (ChangesBy old new kind) (IsOfNames new.site.hosts old.site.hosts from to) rs
      → (p : Packet) × IsOfNames new.site.hosts old.site.hosts from to p × ChangesBy old new kind p
  some_changes kind from to [] some are = absurd (omega (arith, some))
  some_changes kind from to (r ∷ rs) some are =
      let shown = (are.shown 0 r (omega arith)).passes in
      (r.passes, shown.between, shown.decided.0 refl)

  is_none : (kind : ChangeKind) (from to : NamedOwner) (c : Change) → IsListedFor old new kind from to [] → IsChange old new kind from to c → ⊥
  is_none kind from to c none is = let some = some_changes kind from to c.ranges.items is.some is.services in none some.0 some.1 some.2

  one_alike : (kind : ChangeKind) (from to : NamedOwner) (cs ds : List Change) → IsListedFor old new kind from to cs → IsListedFor old new kind from to ds
      → map change_without_examples cs ≡ map change_without_examples ds
  one_alike kind from to [] [] one other = refl
  one_alike kind from to [] (d ∷ []) none is = absurd (is_none kind from to d none is)
  one_alike kind from to (c ∷ []) [] is none = absurd (is_none kind from to c none is)
  one_alike kind from to (c ∷ []) (d ∷ []) one other =
      let kinds : c.kind ≡ d.kind = one.kind_is ∙ sym other.kind_is in
      let sources : c.from ≡ d.from = one.source ∙ sym other.source in
      let ends : c.to ≡ d.to = one.destination ∙ sym other.destination in
      let ranges : map range_without_examples c.ranges.items ≡ map range_without_examples d.ranges.items =
      ranges_are_alike (ChangesBy old new kind) (IsOfNames new.site.hosts old.site.hosts from to) c.ranges.items d.ranges.items one.services other.services in
      λ i. (kinds i, sources i, ends i, ranges i) ∷ []
  one_alike kind from to [] (d ∷ e ∷ ds) one other = absurd other
  one_alike kind from to (c ∷ []) (d ∷ e ∷ ds) one other = absurd other
  one_alike kind from to (c ∷ e ∷ cs) ds one other = absurd one

  kind_alike : (kind : ChangeKind) (cs ds : List Change) → AreChangesBy old new kind cs → AreChangesBy old new kind ds → map change_without_examples cs ≡ map change_without_examples ds
  kind_alike kind cs ds one other =
      lists_alike (λ from. AreListedFor (λ to. IsListedFor old new kind from to) (names_of old new))
      (λ from ys zs. lists_alike (λ to. IsListedFor old new kind from to) (λ to. one_alike kind from to) (names_of old new) ys zs) (names_of old new) cs ds one other

  -- Two lists of all changes are alike.
  pub changes_are_alike : (cs ds : List Change) → AreChanges old new cs → AreChanges old new ds → map change_without_examples cs ≡ map change_without_examples ds
  changes_are_alike cs ds one other = lists_alike (AreChangesBy old new) kind_alike all_kinds cs ds one other
