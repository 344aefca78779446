-- Without places that no packet meets, each packet has the same verdict.
use Rattle.std.proofs.Common.{◌≡◌, inl, inr, ℕ, zero, suc, ◌+◌, Bool, true, false, List, [], ◌∷◌, Option, Some, None, refl, sym, subst, ◌∙◌, arith}
use Rattle.std.specs.Prelude.{if◌then◌else◌, slice_get, length}
use Rattle.std.specs.List.{Contains}
use Rattle.std.proofs.lemmas.Option.{same_Some}
use Rattle.host_net.specs.declared.packet.Packet.{Packet}
use Rattle.host_net.specs.declared.packet.CtState.{CtState}
use Rattle.header_space.specs.Owners.{LiesIn}
use Rattle.nft_rules.specs.declared.table.Chain.{Chain}
use Rattle.nft_rules.specs.declared.table.Element.{Element}
use Rattle.nft_rules.specs.declared.table.End.{End}
use Rattle.nft_rules.specs.declared.table.MatchRule.{MatchRule}
use Rattle.nft_rules.specs.declared.table.Rule.{Rule}
use Rattle.nft_rules.specs.declared.table.Rule.TheVariants.{Map, Match}
use Rattle.nft_rules.specs.declared.table.Table.{Table}
use Rattle.nft_rules.specs.declared.table.Verdict.{Verdict}
use Rattle.nft_rules.specs.declared.table.Verdict.TheVariants.{Accept, Drop, Goto}
use Rattle.nft_rules.specs.Loadable.{AreRules, IsLoadable, IsRule}
use Rattle.nft_rules.specs.Maps.{Leads, LeadsNowhere, LeadsTo}
use Rattle.nft_rules.specs.Semantics.{Decides, Gives, PassesTable, address_at, fits}
use Rattle.nft_rules.specs.Semantics.Decides.{by_policy, by_next, by_accept, by_drop, by_goto}
use Rattle.nft_rules.proofs.EvalLaws.{Follows, first_decides, none_decides}
use Rattle.nft_rules.proofs.OneLaws.{gives_same}
use Rattle.nft_space.proofs.OneLaws.{passes_one}
use Rattle.nft_flows.specs.Dead.{AreDeadTablePlaces}
use Rattle.nft_flows.specs.Places.{IsMet, MatchesAt, MeetsFrom, meets_here, meets_later, meets_there}
use Rattle.nft_flows.specs.Removal.{AreChainsLeft, AreElementsLeft, AreRemovableTablePlaces, AreRulesLeft, IsGoneIn, IsLeft, IsLeftOut, IsTableWithout}
use Rattle.nft_flows.specs.declared.place.TablePlace.{TablePlace}

-- ---- Elements

-- No element that is gone contains the address.
abbrev KeepsAddress : (Gone : Option ℕ → Type 0) → ℕ → List Element → ℕ → Type 0
KeepsAddress Gone i es a = (j : ℕ) (e : Element) → slice_get es j ≡ Some e → LiesIn e.range a → Gone (Some (i + j)) → ⊥

keeps_later : (Gone : Option ℕ → Type 0) (i : ℕ) (e : Element) (es : List Element) (a : ℕ) → KeepsAddress Gone i (e ∷ es) a → KeepsAddress Gone (i + 1) es a
keeps_later Gone i e es a keeps j x there lies gone =
    let same : i + 1 + j ≡ i + suc j = omega arith in
    keeps (suc j) x there lies (subst (λ (n : ℕ). Gone (Some n)) same gone)

keeps_first : (Gone : Option ℕ → Type 0) (i : ℕ) (e : Element) (es : List Element) (a : ℕ) → KeepsAddress Gone i (e ∷ es) a → Gone (Some i) → LiesIn e.range a → ⊥
keeps_first Gone i e es a keeps gone lies =
    let same : i ≡ i + 0 = omega arith in
    keeps 0 e refl lies (subst (λ (n : ℕ). Gone (Some n)) same gone)

to_left : (Gone : Option ℕ → Type 0) (i : ℕ) (es left : List Element) (a : ℕ) (v : Verdict) → KeepsAddress Gone i es a → AreElementsLeft Gone i es left
    → LeadsTo es a v → LeadsTo left a v
to_left Gone i [] left a v keeps are leads = absurd leads
to_left Gone i (e ∷ es) left a v keeps (inl (gone, later)) (inl here) = absurd (keeps_first Gone i e es a keeps gone here.0)
to_left Gone i (e ∷ es) left a v keeps (inl (gone, later)) (inr leads) = to_left Gone (i + 1) es left a v (keeps_later Gone i e es a keeps) later leads
to_left Gone i (e ∷ es) left a v keeps (inr (others, is, there, later)) (inl here) = rw is (inl here)
to_left Gone i (e ∷ es) left a v keeps (inr (others, is, there, later)) (inr leads) =
    rw is (inr (to_left Gone (i + 1) es others a v (keeps_later Gone i e es a keeps) later leads))

from_left : (Gone : Option ℕ → Type 0) (i : ℕ) (es left : List Element) (a : ℕ) (v : Verdict) → AreElementsLeft Gone i es left → LeadsTo left a v
    → LeadsTo es a v
from_left Gone i [] left a v are leads = rw are at leads
from_left Gone i (e ∷ es) left a v (inl (gone, later)) leads = inr (from_left Gone (i + 1) es left a v later leads)
from_left Gone i (e ∷ es) left a v (inr (others, is, there, later)) leads = elim (rw is at leads) [
  | inl here ↦ inl here
  | inr on ↦ inr (from_left Gone (i + 1) es others a v later on)
]

nowhere_left : (Gone : Option ℕ → Type 0) (i : ℕ) (es left : List Element) (a : ℕ) → AreElementsLeft Gone i es left → LeadsNowhere es a
    → LeadsNowhere left a
nowhere_left Gone i [] left a are nowhere = rw are tt
nowhere_left Gone i (e ∷ es) left a (inl (gone, later)) nowhere = nowhere_left Gone (i + 1) es left a later nowhere.1
nowhere_left Gone i (e ∷ es) left a (inr (others, is, there, later)) nowhere = rw is (nowhere.0, nowhere_left Gone (i + 1) es others a later nowhere.1)

nowhere_from : (Gone : Option ℕ → Type 0) (i : ℕ) (es left : List Element) (a : ℕ) → KeepsAddress Gone i es a → AreElementsLeft Gone i es left
    → LeadsNowhere left a → LeadsNowhere es a
nowhere_from Gone i [] left a keeps are nowhere = tt
nowhere_from Gone i (e ∷ es) left a keeps (inl (gone, later)) nowhere =
    (keeps_first Gone i e es a keeps gone, nowhere_from Gone (i + 1) es left a (keeps_later Gone i e es a keeps) later nowhere)
nowhere_from Gone i (e ∷ es) left a keeps (inr (others, is, there, later)) nowhere =
    let on = rw is at nowhere in (on.0, nowhere_from Gone (i + 1) es others a (keeps_later Gone i e es a keeps) later on.1)

leads_left : (Gone : Option ℕ → Type 0) (es left : List Element) (a : ℕ) (v : Option Verdict) → KeepsAddress Gone 0 es a → AreElementsLeft Gone 0 es left
    → Leads es a v → Leads left a v
leads_left Gone es left a None keeps are leads = nowhere_left Gone 0 es left a are leads
leads_left Gone es left a (Some v) keeps are leads = to_left Gone 0 es left a v keeps are leads

leads_from : (Gone : Option ℕ → Type 0) (es left : List Element) (a : ℕ) (v : Option Verdict) → KeepsAddress Gone 0 es a → AreElementsLeft Gone 0 es left
    → Leads left a v → Leads es a v
leads_from Gone es left a None keeps are leads = nowhere_from Gone 0 es left a keeps are leads
leads_from Gone es left a (Some v) keeps are leads = from_left Gone 0 es left a v are leads

-- ---- One rule

module _ (state : CtState) (p : Packet) where
  -- The packet matches the rule at no place that is gone.
  abbrev KeepsMatches : (Gone : Option ℕ → Type 0) → Rule → Type 0
  KeepsMatches Gone rule = (element : Option ℕ) → Gone element → MatchesAt state p rule element → ⊥

  address_kept : (Gone : Option ℕ → Type 0) (end : End) (es : List Element)
      → ((element : Option ℕ) → Gone element → ((i : ℕ) (e : Element) → element ≡ Some i → slice_get es i ≡ Some e → LiesIn e.range (address_at end p) → ⊥))
      → KeepsAddress Gone 0 es (address_at end p)
  address_kept Gone end es keeps j e there lies gone =
      let same : 0 + j ≡ j = omega arith in
      keeps (Some j) (subst (λ (n : ℕ). Gone (Some n)) same gone) j e refl there lies

  gives_left : (Gone : Option ℕ → Type 0) (rule s : Rule) (v : Option Verdict) → KeepsMatches Gone rule → IsLeft Gone rule s → Gives state p rule v
      → Gives state p s v
  gives_left Gone (Map m) (Map k) v keeps (same, some, are) gives =
      let kept = address_kept Gone m.end m.elements.items (λ element gone i e is there lies. keeps (Some i) (rw is at gone) (e, there, lies)) in
      rw same (leads_left Gone m.elements.items k.elements.items (address_at m.end p) v kept are gives)
  gives_left Gone (Map m) (Match s) v keeps left gives = absurd left
  gives_left Gone (Match r) s v keeps (there, is) gives = rw is gives

  gives_from : (Gone : Option ℕ → Type 0) (rule s : Rule) (v : Option Verdict) → KeepsMatches Gone rule → IsLeft Gone rule s → Gives state p s v
      → Gives state p rule v
  gives_from Gone (Map m) (Map k) v keeps (same, some, are) gives =
      let kept = address_kept Gone m.end m.elements.items (λ element gone i e is there lies. keeps (Some i) (rw is at gone) (e, there, lies)) in
      leads_from Gone m.elements.items k.elements.items (address_at m.end p) v kept are (rw same at gives)
  gives_from Gone (Map m) (Match s) v keeps left gives = absurd left
  gives_from Gone (Match r) s v keeps (there, is) gives = rw is at gives

  fits_some : (r : MatchRule) (fit : Bool) (v : Verdict) → Some v ≡ (if fit then Some r.verdict else None) → fit ≡ true
  fits_some r true v is = refl
  fits_some r false v is = absurd (cc is)

  out_gives_none : (Gone : Option ℕ → Type 0) (rule : Rule) (v : Verdict) → KeepsMatches Gone rule → IsLeftOut Gone rule → Gives state p rule (Some v) → ⊥
  out_gives_none Gone (Map m) v keeps out gives =
      let kept = address_kept Gone m.end m.elements.items (λ element gone i e is there lies. keeps (Some i) (rw is at gone) (e, there, lies)) in
      to_left Gone 0 m.elements.items [] (address_at m.end p) v kept out gives
  out_gives_none Gone (Match r) v keeps out gives = keeps None out (fits_some r (fits state p r) v gives)

-- ---- Chains

chain_left : (Gone : TablePlace → Type 0) (k c : ℕ) (xs left : List Chain) (x : Chain) → AreChainsLeft Gone k xs left → slice_get xs c ≡ Some x
    → (y : Chain) × (slice_get left c ≡ Some y) × AreRulesLeft (IsGoneIn Gone (Some (k + c))) 0 x.rules.items y.rules.items
chain_left Gone k c [] left x are there = absurd (cc there)
chain_left Gone k zero (z ∷ xs) left x (y, others, is, name, rules, later) there =
    let same : k ≡ k + 0 = omega arith in
    let own : z ≡ x = cc there in
    (y, rw is refl, rw (sym same, sym own) rules)
chain_left Gone k (suc c) (z ∷ xs) left x (y, others, is, name, rules, later) there =
    let found = chain_left Gone (k + 1) c xs others x later there in
    let same : k + 1 + c ≡ k + suc c = omega arith in
    (found.0, rw is found.1, subst (λ (n : ℕ). AreRulesLeft (IsGoneIn Gone (Some n)) 0 x.rules.items found.0.rules.items) same found.2)

-- ---- A table

module _ (Gone : TablePlace → Type 0) (table other : Table) (without : IsTableWithout Gone table other) (loads : IsLoadable table) (state : CtState) (p : Packet)
    (unmet : (q : TablePlace) → Gone q → IsMet table p state q → ⊥) where
  -- What is met from these rules on is met.
  abbrev AreReached : Option ℕ → ℕ → List Rule → Type 0
  AreReached chain n rules = (q : TablePlace) → MeetsFrom table.chains.items state p q chain n rules → IsMet table p state q

  abbrev AreLeft : Option ℕ → ℕ → List Rule → List Rule → Type 0
  AreLeft chain n rules left = AreRulesLeft (IsGoneIn Gone chain) n rules left

  keeps : (chain : Option ℕ) (n : ℕ) (rule : Rule) (rules : List Rule) → AreReached chain n (rule ∷ rules) → KeepsMatches state p (IsGoneIn Gone chain n) rule
  keeps chain n rule rules reached element gone matches =
      unmet (record { chain = chain; rule = n; element = element }) gone
      (reached (record { chain = chain; rule = n; element = element }) (meets_here refl refl matches))

  reached_later : (chain : Option ℕ) (n : ℕ) (rule : Rule) (rules : List Rule) → Gives state p rule None → AreReached chain n (rule ∷ rules)
      → AreReached chain (n + 1) rules
  reached_later chain n rule rules gives reached q met = reached q (meets_later gives met)

  reached_there : (chain : Option ℕ) (n : ℕ) (rule : Rule) (rules : List Rule) (c : ℕ) (x : Chain) → Gives state p rule (Some (Goto c))
      → slice_get table.chains.items c ≡ Some x → AreReached chain n (rule ∷ rules) → AreReached (Some c) 0 x.rules.items
  reached_there chain n rule rules c x gives there reached q met = reached q (meets_there c x gives there met)

  chain_there : (c : ℕ) (x : Chain) → slice_get table.chains.items c ≡ Some x
      → (y : Chain) × (slice_get other.chains.items c ≡ Some y) × AreLeft (Some c) 0 x.rules.items y.rules.items
  chain_there c x there =
      let found = chain_left Gone 0 c table.chains.items other.chains.items x without.chains there in
      let same : 0 + c ≡ c = omega arith in
      (found.0, found.1, subst (λ (n : ℕ). AreLeft (Some n) 0 x.rules.items found.0.rules.items) same found.2)

  decides_left : (chain : Option ℕ) (n : ℕ) (rules left : List Rule) (passes : Bool) → AreReached chain n rules → AreLeft chain n rules left
      → Decides table.chains.items state p rules passes → Decides other.chains.items state p left passes
  decides_left chain n _ left _ reached are by_policy = rw are by_policy
  decides_left chain n (rule ∷ rules) left passes reached (inl (out, later)) (by_next gives on) =
      decides_left chain (n + 1) rules left passes (reached_later chain n rule rules gives reached) later on
  decides_left chain n (rule ∷ rules) left passes reached (inr (s, others, is, kept, later)) (by_next gives on) =
      rw is (by_next (gives_left state p (IsGoneIn Gone chain n) rule s None (keeps chain n rule rules reached) kept gives)
      (decides_left chain (n + 1) rules others passes (reached_later chain n rule rules gives reached) later on))
  decides_left chain n (rule ∷ rules) left _ reached (inl (out, later)) (by_accept gives) =
      absurd (out_gives_none state p (IsGoneIn Gone chain n) rule Accept (keeps chain n rule rules reached) out gives)
  decides_left chain n (rule ∷ rules) left _ reached (inr (s, others, is, kept, later)) (by_accept gives) =
      rw is (by_accept (gives_left state p (IsGoneIn Gone chain n) rule s (Some Accept) (keeps chain n rule rules reached) kept gives))
  decides_left chain n (rule ∷ rules) left _ reached (inl (out, later)) (by_drop gives) =
      absurd (out_gives_none state p (IsGoneIn Gone chain n) rule Drop (keeps chain n rule rules reached) out gives)
  decides_left chain n (rule ∷ rules) left _ reached (inr (s, others, is, kept, later)) (by_drop gives) =
      rw is (by_drop (gives_left state p (IsGoneIn Gone chain n) rule s (Some Drop) (keeps chain n rule rules reached) kept gives))
  decides_left chain n (rule ∷ rules) left passes reached (inl (out, later)) (by_goto c x gives there on) =
      absurd (out_gives_none state p (IsGoneIn Gone chain n) rule (Goto c) (keeps chain n rule rules reached) out gives)
  decides_left chain n (rule ∷ rules) left passes reached (inr (s, others, is, kept, later)) (by_goto c x gives there on) =
      let found = chain_there c x there in
      rw is (by_goto c found.0 (gives_left state p (IsGoneIn Gone chain n) rule s (Some (Goto c)) (keeps chain n rule rules reached) kept gives) found.1
      (decides_left (Some c) 0 x.rules.items found.0.rules.items passes (reached_there chain n rule rules c x gives there reached) found.2 on))

  -- What follows the verdict of the rule that is left, which is the verdict of the rule.
  follows_left : (chain : Option ℕ) (n m : ℕ) (rule s : Rule) (rules others : List Rule) (v : Option Verdict) (passes : Bool) → AreReached chain n (rule ∷ rules)
      → IsLeft (IsGoneIn Gone chain n) rule s → IsRule m rule → Gives state p rule v → Decides other.chains.items state p (s ∷ others) passes
      → Follows other.chains.items state p others v passes
  follows_left chain n m rule s rules others v passes reached kept is gives decides =
      let first = first_decides other.chains.items state p s others passes decides in
      let from = gives_from state p (IsGoneIn Gone chain n) rule s first.0 (keeps chain n rule rules reached) kept first.1 in
      subst (λ (u : Option Verdict). Follows other.chains.items state p others u passes) (gives_same m state p rule first.0 v is from gives) first.2

  decides_same : (chain : Option ℕ) (n m : ℕ) (rules left : List Rule) (passes also : Bool) → AreReached chain n rules → AreLeft chain n rules left
      → AreRules m rules → Decides table.chains.items state p rules passes → Decides other.chains.items state p left also → also ≡ passes
  decides_same chain n m _ left _ also reached are rules by_policy two = none_decides other.chains.items state p also (rw are at two)
  decides_same chain n m (rule ∷ rules) left passes also reached (inl (out, later)) are (by_next gives on) two =
      decides_same chain (n + 1) m rules left passes also (reached_later chain n rule rules gives reached) later are.1 on two
  decides_same chain n m (rule ∷ rules) left passes also reached (inr (s, others, is, kept, later)) are (by_next gives on) two =
      decides_same chain (n + 1) m rules others passes also (reached_later chain n rule rules gives reached) later are.1 on
      (follows_left chain n m rule s rules others None also reached kept are.0 gives (rw is at two))
  decides_same chain n m (rule ∷ rules) left _ also reached (inl (out, later)) are (by_accept gives) two =
      absurd (out_gives_none state p (IsGoneIn Gone chain n) rule Accept (keeps chain n rule rules reached) out gives)
  decides_same chain n m (rule ∷ rules) left _ also reached (inr (s, others, is, kept, later)) are (by_accept gives) two =
      follows_left chain n m rule s rules others (Some Accept) also reached kept are.0 gives (rw is at two)
  decides_same chain n m (rule ∷ rules) left _ also reached (inl (out, later)) are (by_drop gives) two =
      absurd (out_gives_none state p (IsGoneIn Gone chain n) rule Drop (keeps chain n rule rules reached) out gives)
  decides_same chain n m (rule ∷ rules) left _ also reached (inr (s, others, is, kept, later)) are (by_drop gives) two =
      follows_left chain n m rule s rules others (Some Drop) also reached kept are.0 gives (rw is at two)
  decides_same chain n m (rule ∷ rules) left passes also reached (inl (out, later)) are (by_goto c x gives there on) two =
      absurd (out_gives_none state p (IsGoneIn Gone chain n) rule (Goto c) (keeps chain n rule rules reached) out gives)
  decides_same chain n m (rule ∷ rules) left passes also reached (inr (s, others, is, kept, later)) are (by_goto c x gives there on) two =
      let found = chain_there c x there in
      let follows = follows_left chain n m rule s rules others (Some (Goto c)) also reached kept are.0 gives (rw is at two) in
      let same : follows.0 ≡ found.0 = same_Some follows.0 found.0 (sym follows.1 ∙ found.1) in
      decides_same (Some c) 0 c x.rules.items found.0.rules.items passes also (reached_there chain n rule rules c x gives there reached) found.2
      (loads.back c x there) on (subst (λ (y : Chain). Decides other.chains.items state p y.rules.items also) same follows.2)

  passes_left : (passes : Bool) → PassesTable table state p passes → PassesTable other state p passes
  passes_left passes one = decides_left None 0 table.forward.items other.forward.items passes (λ q met. met) without.forward one

  passes_from : (passes : Bool) → PassesTable other state p passes → PassesTable table state p passes
  passes_from passes two =
      let found = passes_one table state p loads in
      let same = decides_same None 0 (length table.chains.items) table.forward.items other.forward.items found.0 passes (λ q met. met) without.forward
      loads.forward found.1 two in
      subst (λ (b : Bool). PassesTable table state p b) (sym same) found.1

pub are_removable : (table : Table) (places : List TablePlace) → IsLoadable table → AreDeadTablePlaces table places → AreRemovableTablePlaces table places
are_removable table places loads dead other without p state passes is =
    let unmet = λ (q : TablePlace) (gone : Contains places q) (met : IsMet table p state q). ((dead.exact q).0 gone).unmet p state is met in (
      passes_left (Contains places) table other without loads state p unmet passes,
      passes_from (Contains places) table other without loads state p unmet passes,
    )
