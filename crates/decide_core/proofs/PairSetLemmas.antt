-- Deciders of new packets between two sets of addresses, by sets of packets.
use Rattle.std.proofs.Common.{◌≡◌, ◌⊎◌, ◌↔◌, inl, inr, ℕ, suc, ◌+◌, ◌<◌, ◌≤◌, ◌∙◌, Bool, true, false, IsTrue, List, [], ◌∷◌, ◌++◌, Option, Some, None, get_or, is_some, length, take, refl, sym, ap, subst, arith}
use Rattle.std.specs.Prelude.{IsSome}
use Rattle.std.specs.List.{All}
use Rattle.std.proofs.lemmas.List.{take_all, take_more}
use Rattle.host_net.specs.Packet.{IsPacket}
use Rattle.host_net.specs.declared.packet.Packet.{Packet}
use Rattle.host_net.specs.declared.packet.CtState.TheVariants.{New}
use Rattle.host_net.specs.declared.packet.Verdict.{Verdict}
use Rattle.header_space.specs.Boxes.{IsIn}
use Rattle.header_space.specs.Owners.{GoesBetween, IsRange, LiesIn, LiesInOne}
use Rattle.header_space.specs.declared.address_range.AddressRange.{AddressRange}
use Rattle.header_space.specs.declared.packet_box.PacketBox.{PacketBox}
use Rattle.ipt_rules.specs.Chain.{Chain, rules_of}
use Rattle.ipt_rules.specs.Matching.{matches}
use Rattle.ipt_rules.specs.Meets.{verdict_at}
use Rattle.ipt_rules.specs.Semantics.{Gives, PassesChains}
use Rattle.ipt_rules.specs.declared.marks.Place.{Place}
use Rattle.ipt_rules.specs.inner.OneOutcome.{AreDeterministic}
use Rattle.ipt_rules.specs.Marks.{marks_of}
use Rattle.ipt_rules.proofs.MeaningLaws.{gives_once}
use Rattle.ipt_rules.proofs.MeetsLaws.{meets_gives}
use Rattle.ipt_rules.proofs.WalkingLemmas.{decided_gives}
use Rattle.packet_set.specs.Finding.{IsMember}
use Rattle.packet_set.specs.Nodes.{has}
use Rattle.packet_set.specs.declared.node.Node.{Node}
use Rattle.rules_set.specs.Meeting.{AreMet, AreSetsOfRules, IsListed}
use Rattle.rules_set.specs.Pairs.{ArePairSets}
use Rattle.rules_set.specs.declared.met.MetSet.{MetSet}
use Rattle.rules_set.specs.declared.met.MetSets.{MetSets}
use Rattle.rules_set.specs.declared.pair.PairSets.{PairSets}
use Rattle.rules_space.specs.Rules.{AnyRules, Chains, filter_of}
use Rattle.rules_space.specs.Verdicts.{GivesOne}
use Rattle.decide_core.specs.Deciders.{IsDecider, IsInOne}
use Rattle.decide_core.specs.ServiceRanges.{HasServiceBetween, HasServiceFrom}
use Rattle.decide_core.specs.declared.pair_sets.PairDeciders.{PairDeciders}
use Rattle.decide_core.specs.inner.Classifying.{HasMarks, HasRule}
use Rattle.decide_core.specs.inner.Deciding.{Deciding, HasNoted, is_noted, noted}
use Rattle.decide_core.specs.inner.PairSets.{AddsNotes, AreMetBetween, ArePairDeciders, HasAny, IsDecidedBy, IsEnded, IsInside, IsNotedBy, IsSoundSet, PassesBetween}
use Rattle.decide_core.proofs.ClassifyingLemmas.{verdict_there}
use Rattle.decide_core.proofs.DecidingLemmas.{IsThere, in_more, in_whole, noted_kept, noted_only, noted_self, same_passing, same_rules}

-- ---- boxes

module _ (nodes : List Node) (set : ℕ) (boxes : List PacketBox) (i : ℕ) (d : PacketBox) (low : i < length boxes) where
  pub none_more : ((p : Packet) → IsInOne (take i boxes) p → has nodes set p ≡ false) → ((p : Packet) → IsIn (get_or boxes i d) p → has nodes set p ≡ false)
      → (p : Packet) → IsInOne (take (i + 1) boxes) p → has nodes set p ≡ false
  none_more before now p inside = elim (in_more boxes i d p low inside) [ inl earlier ↦ before p earlier | inr here ↦ now p here ]

  pub any_there : (q : Packet) → IsIn (get_or boxes i d) q → has nodes set q ≡ true → HasAny nodes set boxes
  any_there q inside is = (q, in_whole boxes i d q low inside, is)

pub any_member : (nodes : List Node) (set : ℕ) (boxes : List PacketBox) (i : ℕ) (d : PacketBox) → i < length boxes → (o : Option Packet) → is_some o ≡ true
    → IsMember nodes set (get_or boxes i d) o → HasAny nodes set boxes
any_member nodes set boxes i d low None is found = absurd (cc)
any_member nodes set boxes i d low (Some q) is found = any_there nodes set boxes i d low q found.0 found.1

pub no_member : (nodes : List Node) (set : ℕ) (b : PacketBox) (o : Option Packet) → is_some o ≡ false → IsMember nodes set b o
    → (p : Packet) → IsIn b p → has nodes set p ≡ false
no_member nodes set b None is none = none
no_member nodes set b (Some q) is found = absurd (cc)

pub none_at_all : (nodes : List Node) (set : ℕ) (boxes : List PacketBox) (i : ℕ) → length boxes ≤ i
    → ((p : Packet) → IsInOne (take i boxes) p → has nodes set p ≡ false) → HasAny nodes set boxes → ⊥
none_at_all nodes set boxes i all none any =
    let off : has nodes set any.0 ≡ false = none any.0 (subst (λ (bs : List PacketBox). IsInOne bs any.0) (sym (take_all i boxes all)) any.1) in
    let on = any.2 in cc

-- ---- marks

pub notes_one : (x y : Deciding) (d : Option Place) → y ≡ noted x d → IsThere x d → AddsNotes (λ e. e ≡ d) x y
notes_one x y d is there = subst (λ (z : Deciding). AddsNotes (λ e. e ≡ d) x z) (sym is) (record {
  rules = same_rules x d;
  passing = same_passing x d;
  exact = λ e. (
    λ on. noted_only x d there e on,
    λ on. elim on [
      | inl old ↦ noted_kept x d there e old
      | inr same ↦ subst (λ (z : Option Place). IsTrue (is_noted (noted x d) z)) (sym same) (noted_self x d there)
    ],
  );
})

pub rule_marked : (x : Deciding) (place : Place) → HasMarks x.rules x.marks → HasRule x.rules place → place.rule < length (marks_of x.marks place.chain)
rule_marked x place marks rule = let same = marks place.chain in omega (arith, same, rule)

pub notes_same : (A B : Option Place → Type 0) (x y : Deciding) → ((e : Option Place) → A e ↔ B e) → AddsNotes A x y → AddsNotes B x y
notes_same A B x y same adds = record {
  rules = adds.rules;
  passing = adds.passing;
  exact = λ e. (
    λ on. elim ((adds.exact e).0 on) [ inl old ↦ inl old | inr new ↦ inr ((same e).0 new) ],
    λ on. (adds.exact e).1 (elim on [ inl old ↦ inl old | inr new ↦ inr ((same e).1 new) ]),
  );
}

pub notes_none : (A : Option Place → Type 0) (x : Deciding) → ((e : Option Place) → A e → ⊥) → AddsNotes A x x
notes_none A x none = record {
  rules = refl;
  passing = refl;
  exact = λ e. (λ on. inl on, λ on. elim on [ inl old ↦ old | inr new ↦ absurd (none e new) ]);
}

pub notes_both : (A B C : Option Place → Type 0) (x y z : Deciding) → ((e : Option Place) → (A e ⊎ B e) ↔ C e) → AddsNotes A x y → AddsNotes B y z → AddsNotes C x z
notes_both A B C x y z same first second = record {
  rules = second.rules ∙ first.rules;
  passing = second.passing ∙ first.passing;
  exact = λ e. (
    λ on. elim ((second.exact e).0 on) [
      | inl before ↦ elim ((first.exact e).0 before) [ inl old ↦ inl old | inr new ↦ inr ((same e).0 (inl new)) ]
      | inr new ↦ inr ((same e).0 (inr new))
    ],
    λ on. (second.exact e).1 (elim on [
      | inl old ↦ inl ((first.exact e).1 (inl old))
      | inr new ↦ elim ((same e).1 new) [ inl one ↦ inl ((first.exact e).1 (inr one)) | inr two ↦ inr two ]
    ]),
  );
}

-- ---- one set after another

-- A packet of the boxes is in one of the sets, of a rule whose target is a verdict.
abbrev pub IsNotedIn : List Node → List MetSet → List PacketBox → Option Place → Type 0
IsNotedIn nodes sets boxes None = ⊥
IsNotedIn nodes sets boxes (Some place) = (p : Packet) × IsInOne boxes p × IsEnded nodes sets p place

-- A packet of the boxes is in the set, of a rule whose target is a verdict.
abbrev pub IsNotedOf : List Node → MetSet → List PacketBox → Option Place → Type 0
IsNotedOf nodes m boxes e = (e ≡ Some m.place) × (m.ends ≡ true) × HasAny nodes m.set boxes

ended_push : (nodes : List Node) (p : Packet) (place : Place) (m : MetSet) (sets : List MetSet) → IsEnded nodes (sets ++ m ∷ []) p place
    → IsEnded nodes sets p place ⊎ ((m.place ≡ place) × (m.ends ≡ true) × (has nodes m.set p ≡ true))
ended_push nodes p place m [] (inl one) = inr one
ended_push nodes p place m [] (inr none) = absurd none
ended_push nodes p place m (x ∷ xs) (inl one) = inl (inl one)
ended_push nodes p place m (x ∷ xs) (inr more) = elim (ended_push nodes p place m xs more) [ inl is ↦ inl (inr is) | inr is ↦ inr is ]

pushed_ended : (nodes : List Node) (p : Packet) (place : Place) (m : MetSet) (sets : List MetSet)
    → IsEnded nodes sets p place ⊎ ((m.place ≡ place) × (m.ends ≡ true) × (has nodes m.set p ≡ true)) → IsEnded nodes (sets ++ m ∷ []) p place
pushed_ended nodes p place m [] (inl none) = absurd none
pushed_ended nodes p place m [] (inr one) = inl one
pushed_ended nodes p place m (x ∷ xs) (inl (inl one)) = inl one
pushed_ended nodes p place m (x ∷ xs) (inl (inr more)) = inr (pushed_ended nodes p place m xs (inl more))
pushed_ended nodes p place m (x ∷ xs) (inr one) = inr (pushed_ended nodes p place m xs (inr one))

same_some : {x y : Place} → Some x ≡ Some y → x ≡ y
same_some e = cc

module _ (nodes : List Node) (boxes : List PacketBox) where
  noted_more : (sets : List MetSet) (m : MetSet) (e : Option Place) → (IsNotedIn nodes sets boxes e ⊎ IsNotedOf nodes m boxes e) ↔ IsNotedIn nodes (sets ++ m ∷ []) boxes e
  noted_more sets m None = (
    λ on. elim on [ inl none ↦ none | inr one ↦ absurd (let wrong : None ≡ Some m.place = one.0 in cc) ],
    λ none. absurd none,
  )
  noted_more sets m (Some place) = (
    λ on. elim on [
      | inl w ↦ (w.0, w.1, pushed_ended nodes w.0 place m sets (inl w.2))
      | inr w ↦ (w.2.0, w.2.1, pushed_ended nodes w.2.0 place m sets (inr (sym (same_some w.0), w.1, w.2.2)))
    ],
    λ w. elim (ended_push nodes w.0 place m sets w.2) [
      | inl old ↦ inl (w.0, w.1, old)
      | inr own ↦ inr (ap (λ (q : Place). Some q) (sym own.0), own.1, (w.0, w.1, own.2))
    ],
  )

  notes_more : (sets : List MetSet) (i : ℕ) (m d : MetSet) (x y z : Deciding) → i < length sets → m ≡ get_or sets i d
      → AddsNotes (IsNotedIn nodes (take i sets) boxes) x y → AddsNotes (IsNotedOf nodes m boxes) y z → AddsNotes (IsNotedIn nodes (take (i + 1) sets) boxes) x z
  notes_more sets i m d x y z low read before now =
      let is : take (i + 1) sets ≡ take i sets ++ m ∷ [] = take_more sets i d low ∙ ap (λ (v : MetSet). take i sets ++ v ∷ []) (sym read) in
      subst (λ (l : List MetSet). AddsNotes (IsNotedIn nodes l boxes) x z) (sym is)
      (notes_both (IsNotedIn nodes (take i sets) boxes) (IsNotedOf nodes m boxes) (IsNotedIn nodes (take i sets ++ m ∷ []) boxes) x y z
      (noted_more (take i sets) m) before now)

  pub notes_more_at : (sets xs : List MetSet) (i : ℕ) (d : MetSet) (x y z : Deciding) → xs ≡ sets → i < length xs
      → AddsNotes (IsNotedIn nodes (take i sets) boxes) x y → AddsNotes (IsNotedOf nodes (get_or xs i d) boxes) y z
      → AddsNotes (IsNotedIn nodes (take (i + 1) sets) boxes) x z
  notes_more_at sets xs i d x y z same low before now =
      notes_more sets i (get_or xs i d) d x y z (subst (λ (l : List MetSet). i < length l) same low) (ap (λ (l : List MetSet). get_or l i d) same) before now

  noted_first : (e : Option Place) → IsNotedIn nodes [] boxes e → ⊥
  noted_first None on = on
  noted_first (Some place) on = on.2

  pub notes_first : (x : Deciding) → AddsNotes (IsNotedIn nodes [] boxes) x x
  notes_first x = notes_none (IsNotedIn nodes [] boxes) x noted_first

  noted_last : (m : MetSets) (e : Option Place)
      → (IsNotedIn nodes m.sets.items boxes e ⊎ ((e ≡ None) × HasAny nodes m.returned boxes)) ↔ IsNotedBy nodes m boxes e
  noted_last m None = (λ on. elim on [ inl none ↦ absurd none | inr w ↦ w.1 ], λ w. inr (refl, w))
  noted_last m (Some place) = (
    λ on. elim on [ inl w ↦ w | inr w ↦ absurd (let wrong : Some place ≡ None = w.0 in cc) ],
    λ w. inl w,
  )

  -- The default is marked if a packet of the boxes is decided by no rule.
  pub notes_default : (m : MetSets) (i : ℕ) (x y z : Deciding) → length m.sets.items ≤ i → AddsNotes (IsNotedIn nodes (take i m.sets.items) boxes) x y
      → AddsNotes (λ e. (e ≡ None) × HasAny nodes m.returned boxes) y z → AddsNotes (IsNotedBy nodes m boxes) x z
  notes_default m i x y z all before now =
      notes_both (IsNotedIn nodes m.sets.items boxes) (λ e. (e ≡ None) × HasAny nodes m.returned boxes) (IsNotedBy nodes m boxes) x y z (noted_last m)
      (subst (λ (l : List MetSet). AddsNotes (IsNotedIn nodes l boxes) x y) (take_all i m.sets.items all) before) now

pub sound_at : (rules others : AnyRules) (nodes : List Node) (sets : List MetSet) (i : ℕ) (m d : MetSet) → others ≡ rules → i < length sets → m ≡ get_or sets i d
    → All (IsSoundSet rules nodes) sets → IsSoundSet others nodes m
sound_at rules others nodes sets i m d same low read all =
    subst (λ (r : AnyRules). IsSoundSet r nodes m) (sym same) (subst (IsSoundSet rules nodes) (sym read) (all i d low))

-- ---- the deciders of a range of services

module _ (rules : AnyRules) (from to : List AddressRange) (low high : ℕ) (s : PairDeciders) (are : ArePairDeciders rules from to s) (boxes : List PacketBox)
    (exact : (p : Packet) → IsInOne boxes p ↔ HasServiceFrom s.source s.target low high p) where
  decided_one : (e : Option Place) → IsNotedBy s.diagrams s.met boxes e
      → (p : Packet) × HasServiceBetween from to low high p × filter_of rules New p true × IsDecider rules p e
  decided_one e w =
      let service = (exact w.0).0 w.1 in
      let inside : IsInside s w.0 = record { packet = service.packet; src = service.src; dst = service.dst } in
      let only = are.only w.0 e inside w.2 in
      (w.0, record { between = only.0.0; low = service.low; high = service.high }, only.0.1, only.1)

  one_decided : (p : Packet) (e : Option Place) → HasServiceBetween from to low high p → filter_of rules New p true → IsDecider rules p e
      → IsNotedBy s.diagrams s.met boxes e
  one_decided p e among passes decides =
      let inside = are.covers p among.between in (
        p,
        (exact p).1 (record { packet = inside.packet; src = inside.src; dst = inside.dst; low = among.low; high = among.high }),
        are.all p e (among.between, passes) decides,
      )

  pub pair_noted : (x d : Deciding) → x.rules ≡ rules → x.passing ≡ true → ((e : Option Place) → is_noted x e ≡ false)
      → AddsNotes (IsNotedBy s.diagrams s.met boxes) x d → HasNoted (HasServiceBetween from to low high) d
  pair_noted x d same passing none adds =
      let new_rules : d.rules ≡ rules = adds.rules ∙ same in
      let new_passing : d.passing ≡ true = adds.passing ∙ passing in
      record {
        known = λ p among counts e decides.
            (adds.exact e).1 (inr (one_decided p e among (rw (new_rules, new_passing) at counts) (rw new_rules at decides)));
        only = λ e on. elim ((adds.exact e).0 on) [
          | inl old ↦ absurd (let off = none e in let yes : is_noted x e ≡ true = old in cc)
          | inr w ↦
              let one = decided_one e w in
              record { packet = one.0; among = (one.1, rw (new_rules, new_passing) one.2); decides = rw new_rules one.3 }
        ];
      }

-- ---- the sets of the rules that packets meet

pub met_between_is : (mid new : List Node) (chains : List Chain) (from to : List AddressRange) (b : PacketBox) (s : PairSets) (m : MetSets)
    → ArePairSets chains New from to mid s → AreMet mid new chains New b s.passing m → AreMetBetween chains from to b new m
met_between_is mid new chains from to b s m pair are = record {
  sets = are.sets;
  passing = mid;
  set = s.passing;
  between = λ p packet on. pair.between p packet (inl on);
  passes = pair.passes;
  met = are.met;
  there = are.there;
  returned = are.returned;
}

module _ (nodes : List Node) (chains : List Chain) (p : Packet) (place : Place) where
  listed_ended : (sets : List MetSet) → AreSetsOfRules nodes chains sets → IsSome (verdict_at chains place) → IsListed nodes sets p place → IsEnded nodes sets p place
  listed_ended [] all some is = is
  listed_ended (m ∷ ms) all some (inl one) =
      inl (one.0, (all 0 m (omega arith)).ends ∙ (ap (λ (q : Place). is_some (verdict_at chains q)) one.0 ∙ some), one.1)
  listed_ended (m ∷ ms) all some (inr more) = inr (listed_ended ms (λ k d within. all (suc k) d (omega (arith, within))) some more)

  ended_listed : (sets : List MetSet) → AreSetsOfRules nodes chains sets → IsEnded nodes sets p place → IsListed nodes sets p place × IsSome (verdict_at chains place)
  ended_listed [] all is = absurd is
  ended_listed (m ∷ ms) all (inl one) =
      (inl (one.0, one.2), ap (λ (q : Place). is_some (verdict_at chains q)) (sym one.0) ∙ (sym (all 0 m (omega arith)).ends ∙ one.1))
  ended_listed (m ∷ ms) all (inr more) = let w = ended_listed ms (λ k d within. all (suc k) d (omega (arith, within))) more in (inr w.0, w.1)

none_if : (o : Option Verdict) → ((v : Verdict) → o ≡ Some v → ⊥) → o ≡ None
none_if None never = refl
none_if (Some v) never = absurd (never v refl)

module _ (chains : List Chain) (one : AreDeterministic chains) (p : Packet) where
  meets_none : Gives (matches p New) chains (rules_of chains 1) None → IsDecider (Chains chains) p None
  meets_none gives = λ place met.
      none_if (verdict_at chains place) (λ v is. let wrong : Some v ≡ None = gives_once (meets_gives met refl is) gives in cc)

  gives_none : IsDecider (Chains chains) p None → Gives (matches p New) chains (rules_of chains 1) None
  gives_none decides = decided_gives (matches p New) chains 1 None one decides

module _ (chains : List Chain) (from to : List AddressRange) (b : PacketBox) (s : PairDeciders) (one : AreDeterministic chains)
    (gives : GivesOne (PassesChains chains)) (source : IsRange s.source) (target : IsRange s.target)
    (sources : (a : ℕ) → LiesInOne from a → LiesIn s.source a) (targets : (a : ℕ) → LiesInOne to a → LiesIn s.target a)
    (boxed : (p : Packet) → IsPacket p → LiesIn s.source p.src → LiesIn s.target p.dst → IsIn b p)
    (are : AreMetBetween chains from to b s.diagrams s.met) where
  in_box : (p : Packet) → IsInside s p → IsIn b p
  in_box p inside = boxed p inside.packet inside.src inside.dst

  covered : (p : Packet) → GoesBetween from to p → IsInside s p
  covered p goes = record { packet = goes.packet; src = sources p.src goes.src; dst = targets p.dst goes.dst }

  passing : (p : Packet) → IsInside s p → has are.passing are.set p ≡ true → PassesBetween (Chains chains) from to p
  passing p inside on =
      let goes = are.between p inside.packet on in
      (goes, subst (λ (x : Bool). PassesChains chains New p x) on (are.passes p goes))

  is_passing : (p : Packet) → PassesBetween (Chains chains) from to p → has are.passing are.set p ≡ true
  is_passing p passes =
      let w = gives New p passes.0.packet in
      w.2 (has are.passing are.set p) (are.passes p passes.0) ∙ sym (w.2 true passes.1)

  only_decided : (p : Packet) (e : Option Place) → IsInside s p → IsDecidedBy s.diagrams s.met p e
      → PassesBetween (Chains chains) from to p × IsDecider (Chains chains) p e
  only_decided p None inside on = let w = (are.returned p (in_box p inside)).0 on in (passing p inside w.0, meets_none chains one p w.1)
  only_decided p (Some place) inside on =
      let listed = ended_listed s.diagrams chains p place s.met.sets.items are.sets on in
      let w = (are.met p (in_box p inside) place).0 listed.0 in
      (passing p inside w.0, (w.1, listed.1))

  all_decided : (p : Packet) (e : Option Place) → PassesBetween (Chains chains) from to p → IsDecider (Chains chains) p e → IsDecidedBy s.diagrams s.met p e
  all_decided p None passes decides = (are.returned p (in_box p (covered p passes.0))).1 (is_passing p passes, gives_none chains one p decides)
  all_decided p (Some place) passes decides =
      listed_ended s.diagrams chains p place s.met.sets.items are.sets decides.1
      ((are.met p (in_box p (covered p passes.0)) place).1 (is_passing p passes, decides.0))

  sound : (m : MetSet) → (m.set < length s.diagrams) → m.ends ≡ is_some (verdict_at chains m.place) → IsSoundSet (Chains chains) s.diagrams m
  sound m there ends = record {
    there = there;
    rule = λ on. verdict_there (rules_of chains m.place.chain) m.place.rule _ refl (sym ends ∙ on);
  }

  pub pair_deciders : ArePairDeciders (Chains chains) from to s
  pair_deciders = record {
    source = source;
    target = target;
    sets = λ k d within. let m = are.sets k d within in sound (get_or s.met.sets.items k d) m.there m.ends;
    returned = are.there;
    covers = covered;
    only = only_decided;
    all = all_decided;
  }
