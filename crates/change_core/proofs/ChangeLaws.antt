-- Laws of lists of changes: how they result from lists of pairs, and which packets change if a list has a change.
use Rattle.std.proofs.Common.{◌≡◌, ◌↔◌, inl, inr, ℕ, ◌<◌, Bool, true, false, List, [], ◌∷◌, ◌++◌, length, map, refl, sym, ap, subst, ◌∙◌, arith, append_assoc, append-nil}
use Rattle.std.specs.List.{All, Contains}
use Rattle.std.proofs.lemmas.List.{map-append}
use Rattle.std.proofs.lemmas.List.Elements.{All-head, All-tail, Contains-append_left, Contains-append_right}
use Rattle.host_net.specs.declared.packet.Packet.{Packet}
use Rattle.host_net.specs.Packet.{IsPacket}
use Rattle.header_space.specs.declared.owners.Owned.{Owned}
use Rattle.header_space.specs.Owners.{GoesBetween}
use Rattle.pass_core.specs.declared.pairs.PairServices.{PairServices}
use Rattle.pass_core.specs.declared.passing_range.PassingRange.{PassingRange}
use Rattle.pass_core.specs.Pairs.{AreListed, AreListedFor as ArePairsFor, IsListedFor as IsPairFor}
use Rattle.pass_core.specs.Passing.{IsShown}
use Rattle.pass_core.proofs.PairLemmas.{passing_alike}
use Rattle.pkt_core.specs.FlowPolicy.{FlowPolicy, permits, permits_reply_to}
use Rattle.change_core.specs.declared.change.Change.{Change}
use Rattle.change_core.specs.declared.kind.ChangeKind.{ChangeKind}
use Rattle.change_core.specs.declared.kind.ChangeKind.TheVariants.{FlowComes, FlowGoes, AnswersCome, AnswersGo}
use Rattle.change_core.specs.declared.named_owner.NamedOwner.{NamedOwner}
use Rattle.change_core.specs.Changes.{AreChanges, AreChangesBy, AreListedFor, ChangesBy, Comes, IsChange, IsComplete, IsListedFor, TreatAlike, all_kinds, names_of}
use Rattle.change_core.specs.Names.{IsOfNames, named_owner}
use Rattle.change_core.specs.inner.Changing.{IsAdded, change_of}
use Rattle.change_core.specs.inner.Naming.{AreNamed, IsNamed, name_in, name_of}
use Rattle.change_core.proofs.ListLaws.{contains_cases, contains_none}
use Rattle.change_core.proofs.NamingLaws.{between_named, name_among}

-- 1. A list of pairs becomes a list of changes of one kind.

listed_map : {A B : Type 0} (P : A → Type 0) (f : A → B) (g : PairServices → Change) (Listed : A → List PairServices → Type 0)
    (Others : B → List Change → Type 0) → ((x : A) (ss : List PairServices) → P x → Listed x ss → Others (f x) (map g ss))
    → (xs : List A) (ss : List PairServices) → All P xs → ArePairsFor Listed xs ss → AreListedFor Others (map f xs) (map g ss)
listed_map P f g Listed Others each [] ss all are = ap (map g) are
listed_map P f g Listed Others each (x ∷ xs) ss all are = (
  map g are.0,
  map g are.1,
  ap (map g) are.2 ∙ map-append g are.0 are.1,
  each x are.0 (All-head P x xs all) are.3,
  listed_map P f g Listed Others each xs are.1 (All-tail P x xs all) are.4,
)

module _ (old new : FlowPolicy) (kind : ChangeKind) (Holds : Packet → Type 0) (holds : (p : Packet) → (Holds p ↔ ChangesBy old new kind p)) where
  -- The change of a pair of owners.
  pair_change : (from to : Owned) → IsNamed new.site.hosts old.site.hosts from → IsNamed new.site.hosts old.site.hosts to → (ss : List PairServices)
      → IsPairFor Holds (GoesBetween from.ranges.items to.ranges.items) from.owner to.owner ss
      → IsListedFor old new kind (name_in new.site.hosts from) (name_in new.site.hosts to) (map (change_of kind (length new.site.hosts)) ss)
  pair_change from to source destination [] none =
      λ p of changes. none p ((between_named new.site.hosts old.site.hosts from to source destination p).1 of) ((holds p).1 changes)
  pair_change from to source destination (s ∷ []) one = record {
    kind_is = refl;
    source = ap (name_of (length new.site.hosts)) one.source;
    destination = ap (name_of (length new.site.hosts)) one.destination;
    some = one.some;
    services = passing_alike Holds (ChangesBy old new kind) (GoesBetween from.ranges.items to.ranges.items)
        (IsOfNames new.site.hosts old.site.hosts (name_in new.site.hosts from) (name_in new.site.hosts to))
        (between_named new.site.hosts old.site.hosts from to source destination) (λ p is. holds p) s.ranges.items one.passing;
  }
  pair_change from to source destination (s ∷ t ∷ ss) wrong = absurd wrong

  -- The changes from one owner.
  row_changes : (owned : List Owned) → All (IsNamed new.site.hosts old.site.hosts) owned → (from : Owned) → IsNamed new.site.hosts old.site.hosts from
      → (ss : List PairServices)
      → ArePairsFor (λ to. IsPairFor Holds (GoesBetween from.ranges.items to.ranges.items) from.owner to.owner) owned ss
      → AreListedFor (λ to. IsListedFor old new kind (name_in new.site.hosts from) to) (map (name_in new.site.hosts) owned)
      (map (change_of kind (length new.site.hosts)) ss)
  row_changes owned all from source ss are =
      listed_map (IsNamed new.site.hosts old.site.hosts) (name_in new.site.hosts) (change_of kind (length new.site.hosts))
      (λ to. IsPairFor Holds (GoesBetween from.ranges.items to.ranges.items) from.owner to.owner)
      (λ to. IsListedFor old new kind (name_in new.site.hosts from) to) (λ to ones destination one. pair_change from to source destination ones one)
      owned ss all are

  all_changes : (owned : List Owned) → All (IsNamed new.site.hosts old.site.hosts) owned → (ss : List PairServices) → AreListed Holds owned ss
      → AreListedFor (λ from. AreListedFor (λ to. IsListedFor old new kind from to) (map (name_in new.site.hosts) owned))
      (map (name_in new.site.hosts) owned) (map (change_of kind (length new.site.hosts)) ss)
  all_changes owned all ss are =
      listed_map (IsNamed new.site.hosts old.site.hosts) (name_in new.site.hosts) (change_of kind (length new.site.hosts))
      (λ from. ArePairsFor (λ to. IsPairFor Holds (GoesBetween from.ranges.items to.ranges.items) from.owner to.owner) owned)
      (λ from. AreListedFor (λ to. IsListedFor old new kind from to) (map (name_in new.site.hosts) owned))
      (λ from ones source row. row_changes owned all from source ones row) owned ss all are

  pub changes_of_pairs : (owned : List Owned) → AreNamed new.site.hosts old.site.hosts owned → (ss : List PairServices) → AreListed Holds owned ss
      → (n : ℕ) → n ≡ length new.site.hosts → AreChangesBy old new kind (map (change_of kind n) ss)
  changes_of_pairs owned named ss are n is =
      subst (λ (k : ℕ). AreChangesBy old new kind (map (change_of kind k) ss)) (sym is)
      (subst (λ (names : List NamedOwner). AreListedFor (λ from. AreListedFor (λ to. IsListedFor old new kind from to) names) names
      (map (change_of kind (length new.site.hosts)) ss)) named.names (all_changes owned named.each ss are))

-- 2. The lists of the kinds are concatenated.

regroup : (a b c d : List Change) → ((a ++ b) ++ c) ++ d ≡ a ++ (b ++ (c ++ (d ++ [])))
regroup a b c d = simp (append_assoc, append-nil)

pub four_added : (old new : FlowPolicy) (a b c d e : List Change) → a ≡ [] → IsAdded (AreChangesBy old new FlowComes) a b
    → IsAdded (AreChangesBy old new FlowGoes) b c → IsAdded (AreChangesBy old new AnswersCome) c d → IsAdded (AreChangesBy old new AnswersGo) d e
    → AreChanges old new e
four_added old new a b c d e empty first second third fourth = (
  first.0,
  second.0 ++ (third.0 ++ (fourth.0 ++ [])),
  whole,
  first.2,
  (second.0, third.0 ++ (fourth.0 ++ []), refl, second.2, (third.0, fourth.0 ++ [], refl, third.2, (fourth.0, [], refl, fourth.2, refl))),
)
  where
    one : b ≡ first.0
    one = first.1 ∙ ap (λ (l : List Change). l ++ first.0) empty

    two : c ≡ first.0 ++ second.0
    two = second.1 ∙ ap (λ (l : List Change). l ++ second.0) one

    three : d ≡ (first.0 ++ second.0) ++ third.0
    three = third.1 ∙ ap (λ (l : List Change). l ++ third.0) two

    whole : e ≡ first.0 ++ (second.0 ++ (third.0 ++ (fourth.0 ++ [])))
    whole = fourth.1 ∙ ap (λ (l : List Change). l ++ fourth.0) three ∙ regroup first.0 second.0 third.0 fourth.0

-- 3. The list has the change of each packet that changes.

-- A part of the list is the list for an element.
pub record IsPartFor {A : Type 0} (Listed : A → List Change → Type 0) (x : A) (cs : List Change) : Type 0 where
  pub part : List Change
  pub listed : Listed x part
  pub within : (c : Change) → Contains part c → Contains cs c

part_for : {A : Type 0} (Listed : A → List Change → Type 0) (xs : List A) (cs : List Change) → AreListedFor Listed xs cs → (x : A) → Contains xs x
    → IsPartFor Listed x cs
part_for Listed [] cs are x there = absurd (contains_none x there)
part_for {A = A} Listed (y ∷ xs) cs are x there = elim (contains_cases y xs x there) [
  | inl is ↦ record {
    part = are.0;
    listed = subst (λ (z : A). Listed z are.0) is are.3;
    within = λ c has. subst (λ (l : List Change). Contains l c) (sym are.2) (Contains-append_left are.0 are.1 c has);
  }
  | inr later ↦
      let rest = part_for Listed xs are.1 are.4 x later in
      record {
        part = rest.part;
        listed = rest.listed;
        within = λ c has. subst (λ (l : List Change). Contains l c) (sym are.2) (Contains-append_right are.0 are.1 c (rest.within c has));
      }
]

kind_among : (kind : ChangeKind) → Contains all_kinds kind
kind_among FlowComes = (0, omega arith, refl)
kind_among FlowGoes = (1, omega arith, refl)
kind_among AnswersCome = (2, omega arith, refl)
kind_among AnswersGo = (3, omega arith, refl)

one_change : (old new : FlowPolicy) (kind : ChangeKind) (from to : NamedOwner) (one : List Change) → IsListedFor old new kind from to one → (p : Packet)
    → IsOfNames new.site.hosts old.site.hosts from to p → ChangesBy old new kind p → (c : Change) × Contains one c × IsChange old new kind from to c
one_change old new kind from to [] none p of changes = absurd (none p of changes)
one_change old new kind from to (c ∷ []) is p of changes = (c, (0, omega arith, refl), is)
one_change old new kind from to (c ∷ d ∷ cs) wrong p of changes = absurd wrong

pub complete_where : (old new : FlowPolicy) (cs : List Change) → AreChanges old new cs → IsComplete old new cs
complete_where old new cs are kind p is changes =
    let from = named_owner new.site.hosts old.site.hosts p.src in
    let to = named_owner new.site.hosts old.site.hosts p.dst in
    let names = names_of old new in
    let of_kind : IsPartFor (AreChangesBy old new) kind cs = part_for (AreChangesBy old new) all_kinds cs are kind (kind_among kind) in
    let row : IsPartFor (λ f. AreListedFor (λ t. IsListedFor old new kind f t) names) from of_kind.part =
    part_for (λ f. AreListedFor (λ t. IsListedFor old new kind f t) names) names of_kind.part of_kind.listed from
    (name_among new.site.hosts old.site.hosts p.src) in
    let cell : IsPartFor (λ t. IsListedFor old new kind from t) to row.part =
    part_for (λ t. IsListedFor old new kind from t) names row.part row.listed to (name_among new.site.hosts old.site.hosts p.dst) in
    let found : (c : Change) × Contains cell.part c × IsChange old new kind from to c =
    one_change old new kind from to cell.part cell.listed p (record { packet = is; src = refl; dst = refl }) changes in
    (found.0, of_kind.within found.0 (row.within found.0 (cell.within found.0 found.1)), found.2)

-- 4. The list is empty if and only if the policies are equivalent.

same_where : (before after : Bool) → (Comes before after → ⊥) → (Comes after before → ⊥) → before ≡ after
same_where true true comes goes = refl
same_where true false comes goes = absurd (goes (refl, refl))
same_where false true comes goes = absurd (comes (refl, refl))
same_where false false comes goes = refl

comes_not : (before after : Bool) → before ≡ after → Comes before after → ⊥
comes_not before after is comes = let no : true ≡ false = sym comes.1 ∙ sym is ∙ comes.0 in let never : ⊥ = cc in never

no_change : (old new : FlowPolicy) → TreatAlike old new → (kind : ChangeKind) (p : Packet) → IsPacket p → ChangesBy old new kind p → ⊥
no_change old new alike FlowComes p is changes = comes_not (permits old p) (permits new p) (alike p is).0 changes
no_change old new alike FlowGoes p is changes = comes_not (permits new p) (permits old p) (sym (alike p is).0) changes
no_change old new alike AnswersCome p is changes = comes_not (permits_reply_to old p) (permits_reply_to new p) (alike p is).1 changes
no_change old new alike AnswersGo p is changes = comes_not (permits_reply_to new p) (permits_reply_to old p) (sym (alike p is).1) changes

first_passes : (Holds Between : Packet → Type 0) (rs : List PassingRange) → 0 < length rs → All (λ r. IsShown Holds Between r) rs
    → (p : Packet) × Between p × Holds p
first_passes Holds Between [] some shown = absurd (omega (arith, some))
first_passes Holds Between (r ∷ rs) some shown =
    let here = All-head (λ r. IsShown Holds Between r) r rs shown in (r.passes, here.passes.between, here.passes.decided.0 refl)

none_listed : {A : Type 0} (Listed : A → List Change → Type 0) → ((x : A) (one : List Change) → Listed x one → one ≡ []) → (xs : List A)
    (cs : List Change) → AreListedFor Listed xs cs → cs ≡ []
none_listed Listed none [] cs are = are
none_listed Listed none (x ∷ xs) cs are =
    are.2 ∙ ap (λ (l : List Change). l ++ are.1) (none x are.0 are.3) ∙ none_listed Listed none xs are.1 are.4

module _ (old new : FlowPolicy) where
  no_pair : TreatAlike old new → (kind : ChangeKind) (from to : NamedOwner) (one : List Change) → IsListedFor old new kind from to one → one ≡ []
  no_pair alike kind from to [] listed = refl
  no_pair alike kind from to (c ∷ []) is =
      let found = first_passes (ChangesBy old new kind) (IsOfNames new.site.hosts old.site.hosts from to) c.ranges.items is.some is.services.shown in
      absurd (no_change old new alike kind found.0 found.1.packet found.2)
  no_pair alike kind from to (c ∷ d ∷ cs) wrong = absurd wrong

  none_where : (cs : List Change) → AreChanges old new cs → TreatAlike old new → cs ≡ []
  none_where cs are alike =
      none_listed (AreChangesBy old new)
      (λ kind ones. none_listed (λ from. AreListedFor (λ to. IsListedFor old new kind from to) (names_of old new))
      (λ from row. none_listed (λ to. IsListedFor old new kind from to) (λ to one. no_pair alike kind from to one) (names_of old new) row)
      (names_of old new) ones) all_kinds cs are

  none_changes : (cs : List Change) → AreChanges old new cs → cs ≡ [] → (kind : ChangeKind) (p : Packet) → IsPacket p → ChangesBy old new kind p → ⊥
  none_changes cs are empty kind p is changes =
      let has = complete_where old new cs are kind p is changes in contains_none has.0 (subst (λ (l : List Change). Contains l has.0) empty has.1)

  alike_where : (cs : List Change) → AreChanges old new cs → cs ≡ [] → TreatAlike old new
  alike_where cs are empty p is = (
    same_where (permits old p) (permits new p) (none_changes cs are empty FlowComes p is) (none_changes cs are empty FlowGoes p is),
    same_where (permits_reply_to old p) (permits_reply_to new p) (none_changes cs are empty AnswersCome p is) (none_changes cs are empty AnswersGo p is),
  )

  pub none_exactly : (cs : List Change) → AreChanges old new cs → (cs ≡ []) ↔ TreatAlike old new
  none_exactly cs are = (alike_where cs are, none_where cs are)
