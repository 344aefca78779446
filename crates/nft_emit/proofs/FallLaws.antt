-- Rules over the ranges of hosts have the verdict of the owner of an address.
use Rattle.std.proofs.Common.{◌≡◌, inl, inr, ℕ, ◌+◌, ◌<◌, ◌≤◌, ◌^◌, zero, suc, Bool, true, false, not, cond, List, [], ◌∷◌, ◌++◌, Option, Some, None, refl, sym, ap, subst, ◌∙◌, arith}
use Rattle.std.specs.Prelude.{slice_get}
use Rattle.std.specs.List.{filter, flat_map}
use Rattle.std.specs.declared.vec.Vec.{Vec}
use Rattle.std.specs.Global.{Global}
use Rattle.host_net.specs.declared.packet.Packet.{Packet}
use Rattle.host_net.specs.declared.packet.CtState.{CtState}
use Rattle.host_net.specs.Host.{Host, owner_of, rest_of}
use Rattle.nft_rules.specs.declared.table.Chain.{Chain}
use Rattle.nft_rules.specs.declared.table.Element.{Element}
use Rattle.nft_rules.specs.declared.table.End.{End}
use Rattle.nft_rules.specs.declared.table.Rule.{Rule}
use Rattle.nft_rules.specs.declared.table.Rule.TheVariants.{Map, Match}
use Rattle.nft_rules.specs.declared.table.Verdict.{Verdict}
use Rattle.nft_rules.specs.declared.table.Verdict.TheVariants.{Accept, Drop, Goto}
use Rattle.nft_rules.specs.Loadable.{AreRules, AscendFrom, LeadBelow, LeadsBelow}
use Rattle.nft_rules.specs.Maps.{Leads, LeadsTo, LeadsNowhere}
use Rattle.nft_rules.specs.Semantics.{Decides, address_at}
use Rattle.nft_rules.specs.Semantics.Decides.{by_policy}
use Rattle.nft_emit.specs.declared.cuts.Cut.{Cut}
use Rattle.nft_emit.specs.inner.Cuts.{AreCuts, AreOwned, IsCut, LieBetween}
use Rattle.nft_emit.specs.inner.Falls.{Falls, are_apart, is_apart, verdict_at, verdict_of, shown, element_if, element_of, map_rules, verdict_rules}
use Rattle.nft_rules.proofs.EvalLaws.{Ends, Follows, first_decides, decides_first, none_decides}
use Rattle.nft_rules.proofs.MapLaws.{leads_some}

-- 1. The verdict of the map, and that of the owner.

-- The map has the verdict for an address: that of its owner, or none if the rule after the map has the verdict of the owner.
abbrev IsShown : (after owned leads : Option Verdict) → Type 0
IsShown after owned (Some v) = shown after owned ≡ Some v
IsShown after owned None = owned ≡ after

none_shown : (after v : Option Verdict) → shown after v ≡ None → v ≡ after
none_shown None None none = refl
none_shown (Some b) None none = cc
none_shown after (Some v) none = cc

to_owner : (hosts : List Host) (after : Option Verdict) (verdicts : List (Option Verdict)) (cuts : List Cut) (a : ℕ) (v : Verdict) → AreOwned hosts cuts
    → LeadsTo (flat_map (element_of after verdicts) cuts) a v → shown after (verdict_of verdicts (owner_of hosts a)) ≡ Some v
to_owner hosts after verdicts [] a v owned leads = absurd leads
to_owner hosts after verdicts (x ∷ xs) a v owned leads =
    by_verdict (to_owner hosts after verdicts xs a v owned.1) (shown after (verdict_at verdicts x.host)) refl leads
  where
    by_verdict : (LeadsTo (flat_map (element_of after verdicts) xs) a v → shown after (verdict_of verdicts (owner_of hosts a)) ≡ Some v)
        → (o : Option Verdict) → shown after (verdict_at verdicts x.host) ≡ o → LeadsTo (element_if x.range o ++ flat_map (element_of after verdicts) xs) a v
        → shown after (verdict_of verdicts (owner_of hosts a)) ≡ Some v
    by_verdict more None is leads = more leads
    by_verdict more (Some u) is (inl here) =
        ap (λ (o : Option ℕ). shown after (verdict_of verdicts o)) (owned.0 a here.0) ∙ is ∙ ap (λ (w : Verdict). Some w) (sym here.1)
    by_verdict more (Some u) is (inr later) = more later

nowhere_cut : (hosts : List Host) (after : Option Verdict) (verdicts : List (Option Verdict)) (cuts : List Cut) (a : ℕ) → AreOwned hosts cuts
    → LeadsNowhere (flat_map (element_of after verdicts) cuts) a → IsCut cuts a → verdict_of verdicts (owner_of hosts a) ≡ after
nowhere_cut hosts after verdicts [] a owned leads is = absurd is
nowhere_cut hosts after verdicts (x ∷ xs) a owned leads is =
    by_verdict (nowhere_cut hosts after verdicts xs a owned.1) (shown after (verdict_at verdicts x.host)) refl leads is
  where
    by_verdict : (LeadsNowhere (flat_map (element_of after verdicts) xs) a → IsCut xs a → verdict_of verdicts (owner_of hosts a) ≡ after)
        → (o : Option Verdict) → shown after (verdict_at verdicts x.host) ≡ o → LeadsNowhere (element_if x.range o ++ flat_map (element_of after verdicts) xs) a
        → IsCut (x ∷ xs) a → verdict_of verdicts (owner_of hosts a) ≡ after
    by_verdict more None at leads (inl here) = ap (verdict_of verdicts) (owned.0 a here) ∙ none_shown after (verdict_at verdicts x.host) at
    by_verdict more None at leads (inr later) = more leads later
    by_verdict more (Some u) at leads (inl here) = absurd (leads.0 here)
    by_verdict more (Some u) at leads (inr later) = more leads.1 later

leads_owner : (hosts : List Host) (verdicts : List (Option Verdict)) (cuts : List Cut) (a : ℕ) (v : Option Verdict) → AreCuts hosts cuts → a < 2 ^ 32
    → Leads (flat_map (element_of (verdict_of verdicts (rest_of hosts)) verdicts) cuts) a v
    → IsShown (verdict_of verdicts (rest_of hosts)) (verdict_of verdicts (owner_of hosts a)) v
leads_owner hosts verdicts cuts a None are low leads = elim (are.covered a low) [
  | inl of_rest ↦ ap (verdict_of verdicts) of_rest
  | inr cut ↦ nowhere_cut hosts (verdict_of verdicts (rest_of hosts)) verdicts cuts a are.owned leads cut
]
leads_owner hosts verdicts cuts a (Some v) are low leads = to_owner hosts (verdict_of verdicts (rest_of hosts)) verdicts cuts a v are.owned leads

-- 2. The elements, in two maps.

part_leads : (test : Element → Bool) (es : List Element) (a : ℕ) (v : Verdict) → LeadsTo (filter test es) a v → LeadsTo es a v
part_leads test [] a v leads = leads
part_leads test (e ∷ es) a v leads = by_test (part_leads test es a v) (test e) leads
  where
    by_test : (LeadsTo (filter test es) a v → LeadsTo es a v) → (b : Bool) → LeadsTo (cond b (e ∷ filter test es) (filter test es)) a v → LeadsTo (e ∷ es) a v
    by_test more true (inl here) = inl here
    by_test more true (inr later) = inr (more later)
    by_test more false later = inr (more later)

parts_nowhere : (test : Element → Bool) (es : List Element) (a : ℕ) → LeadsNowhere (filter test es) a → LeadsNowhere (filter (λ e. not (test e)) es) a
    → LeadsNowhere es a
parts_nowhere test [] a first second = tt
parts_nowhere test (e ∷ es) a first second = by_test (parts_nowhere test es a) (test e) first second
  where
    by_test : (LeadsNowhere (filter test es) a → LeadsNowhere (filter (λ x. not (test x)) es) a → LeadsNowhere es a) → (b : Bool)
        → LeadsNowhere (cond b (e ∷ filter test es) (filter test es)) a
        → LeadsNowhere (cond (not b) (e ∷ filter (λ x. not (test x)) es) (filter (λ x. not (test x)) es)) a → LeadsNowhere (e ∷ es) a
    by_test more true one two = (one.0, more one.1 two)
    by_test more false one two = (two.0, more one two.1)

second_leads : (test : Element → Bool) (es : List Element) (a : ℕ) (v : Option Verdict) → LeadsNowhere (filter test es) a
    → Leads (filter (λ e. not (test e)) es) a v → Leads es a v
second_leads test es a None first second = parts_nowhere test es a first second
second_leads test es a (Some v) first second = part_leads (λ e. not (test e)) es a v second

-- 3. The rule after the maps.

after_only : (chains : List Chain) (state : CtState) (packet : Packet) (after : Option Verdict) (passes : Bool)
    → Decides chains state packet (verdict_rules after) passes → Ends chains state packet after passes
after_only chains state packet None passes decides = decides
after_only chains state packet (Some v) passes decides =
    let first = first_decides chains state packet (Match (record { established = false; service = None; verdict = v })) [] passes decides in
    subst (λ (o : Option Verdict). Follows chains state packet [] o passes) first.1 first.2

after_given : (chains : List Chain) (state : CtState) (packet : Packet) (after : Option Verdict) (passes : Bool)
    → Ends chains state packet after passes → Decides chains state packet (verdict_rules after) passes
after_given chains state packet None passes ends = ends
after_given chains state packet (Some v) passes ends =
    decides_first chains state packet (Match (record { established = false; service = None; verdict = v })) [] passes (Some v) refl ends

-- 4. All together.

follows_same : (chains : List Chain) (state : CtState) (packet : Packet) (rules others : List Rule) (v : Verdict) (passes : Bool)
    → Follows chains state packet rules (Some v) passes → Follows chains state packet others (Some v) passes
follows_same chains state packet rules others Accept passes follows = follows
follows_same chains state packet rules others Drop passes follows = follows
follows_same chains state packet rules others (Goto c) passes follows = follows

shown_only : (chains : List Chain) (state : CtState) (packet : Packet) (after owned v : Option Verdict) (passes : Bool) → IsShown after owned v
    → Follows chains state packet (verdict_rules after) v passes → Ends chains state packet owned passes
shown_only chains state packet after owned None passes is follows =
    subst (λ (o : Option Verdict). Ends chains state packet o passes) (sym is) (after_only chains state packet after passes follows)
shown_only chains state packet after (Some u) (Some v) passes is follows =
    let same : v ≡ u = cc in
    subst (λ (w : Verdict). Ends chains state packet (Some w) passes) same (follows_same chains state packet (verdict_rules after) [] v passes follows)
shown_only chains state packet None None (Some v) passes is follows = cc
shown_only chains state packet (Some b) None (Some Accept) passes is follows = cc
shown_only chains state packet (Some b) None (Some Drop) passes is follows =
    subst (Decides chains state packet []) (sym follows) by_policy
shown_only chains state packet (Some b) None (Some (Goto c)) passes is follows = cc

shown_given : (chains : List Chain) (state : CtState) (packet : Packet) (after owned v : Option Verdict) (passes : Bool) → IsShown after owned v
    → Ends chains state packet owned passes → Follows chains state packet (verdict_rules after) v passes
shown_given chains state packet after owned None passes is ends =
    after_given chains state packet after passes (subst (λ (o : Option Verdict). Ends chains state packet o passes) is ends)
shown_given chains state packet after (Some u) (Some v) passes is ends =
    let same : u ≡ v = cc in
    follows_same chains state packet [] (verdict_rules after) v passes (subst (λ (w : Verdict). Ends chains state packet (Some w) passes) same ends)
shown_given chains state packet None None (Some v) passes is ends = cc
shown_given chains state packet (Some b) None (Some Accept) passes is ends = cc
shown_given chains state packet (Some b) None (Some Drop) passes is ends = none_decides chains state packet passes ends
shown_given chains state packet (Some b) None (Some (Goto c)) passes is ends = cc

map_only : (chains : List Chain) (state : CtState) (packet : Packet) (end : End) (vec : Vec Element Global) (rules : List Rule) (passes : Bool)
    → (es : List Element) → vec.items ≡ es → Decides chains state packet (map_rules (record { end = end; elements = vec }) es ++ rules) passes
    → (v : Option Verdict) × Leads vec.items (address_at end packet) v × Follows chains state packet rules v passes
map_only chains state packet end vec rules passes [] is decides =
    (None, subst (λ (xs : List Element). LeadsNowhere xs (address_at end packet)) (sym is) tt, decides)
map_only chains state packet end vec rules passes (e ∷ es) is decides =
    first_decides chains state packet (Map (record { end = end; elements = vec })) rules passes decides

map_given : (chains : List Chain) (state : CtState) (packet : Packet) (end : End) (vec : Vec Element Global) (rules : List Rule) (passes : Bool)
    → (v : Option Verdict) → Leads vec.items (address_at end packet) v → Follows chains state packet rules v passes
    → (es : List Element) → vec.items ≡ es → Decides chains state packet (map_rules (record { end = end; elements = vec }) es ++ rules) passes
map_given chains state packet end vec rules passes None leads follows [] is = follows
map_given chains state packet end vec rules passes (Some v) leads follows [] is =
    absurd (subst (λ (xs : List Element). LeadsTo xs (address_at end packet) v) is leads)
map_given chains state packet end vec rules passes v leads follows (e ∷ es) is =
    decides_first chains state packet (Map (record { end = end; elements = vec })) rules passes v leads follows

-- The rules after the first map, and all rules.
abbrev after_first : End → Vec Element Global → Option Verdict → List Rule
after_first end second after = map_rules (record { end = end; elements = second }) second.items ++ verdict_rules after

abbrev both_rules : End → (first second : Vec Element Global) → Option Verdict → List Rule
both_rules end first second after = map_rules (record { end = end; elements = first }) first.items ++ after_first end second after

both_only : (chains : List Chain) (state : CtState) (packet : Packet) (end : End) (after owned : Option Verdict) (test : Element → Bool) (es : List Element)
    (first second : Vec Element Global) (passes : Bool) → ((v : Option Verdict) → Leads es (address_at end packet) v → IsShown after owned v)
    → first.items ≡ filter test es → second.items ≡ filter (λ e. not (test e)) es
    → Decides chains state packet (both_rules end first second after) passes → Ends chains state packet owned passes
both_only chains state packet end after owned test es first second passes leads first_is second_is decides =
    let found = map_only chains state packet end first (after_first end second after) passes first.items refl decides in
    by_first found.0 (subst (λ (xs : List Element). Leads xs (address_at end packet) found.0) first_is found.1) found.2
  where
    by_first : (v : Option Verdict) → Leads (filter test es) (address_at end packet) v
        → Follows chains state packet (after_first end second after) v passes
        → Ends chains state packet owned passes
    by_first None nowhere follows =
        let found = map_only chains state packet end second (verdict_rules after) passes second.items refl follows in
        shown_only chains state packet after owned found.0 passes (leads found.0 (second_leads test es (address_at end packet) found.0 nowhere
        (subst (λ (xs : List Element). Leads xs (address_at end packet) found.0) second_is found.1))) found.2
    by_first (Some v) there follows =
        shown_only chains state packet after owned (Some v) passes (leads (Some v) (part_leads test es (address_at end packet) v there))
        (follows_same chains state packet (after_first end second after) (verdict_rules after) v passes follows)

both_given : (chains : List Chain) (state : CtState) (packet : Packet) (end : End) (after owned : Option Verdict) (test : Element → Bool) (es : List Element)
    (first second : Vec Element Global) (passes : Bool) → ((v : Option Verdict) → Leads es (address_at end packet) v → IsShown after owned v)
    → first.items ≡ filter test es → second.items ≡ filter (λ e. not (test e)) es
    → Ends chains state packet owned passes → Decides chains state packet (both_rules end first second after) passes
both_given chains state packet end after owned test es first second passes leads first_is second_is ends =
    let found = leads_some first.items (address_at end packet) in
    map_given chains state packet end first (after_first end second after) passes found.0 found.1
    (by_first found.0 (subst (λ (xs : List Element). Leads xs (address_at end packet) found.0) first_is found.1)) first.items refl
  where
    by_first : (v : Option Verdict) → Leads (filter test es) (address_at end packet) v
        → Follows chains state packet (after_first end second after) v passes
    by_first None nowhere =
        let found = leads_some second.items (address_at end packet) in
        map_given chains state packet end second (verdict_rules after) passes found.0 found.1
        (shown_given chains state packet after owned found.0 passes (leads found.0 (second_leads test es (address_at end packet) found.0 nowhere
        (subst (λ (xs : List Element). Leads xs (address_at end packet) found.0) second_is found.1))) ends) second.items refl
    by_first (Some v) there =
        follows_same chains state packet (verdict_rules after) (after_first end second after) v passes
        (shown_given chains state packet after owned (Some v) passes (leads (Some v) (part_leads test es (address_at end packet) v there)) ends)

pub falls_only : (chains : List Chain) (state : CtState) (packet : Packet) (end : End) (hosts : List Host) (cuts : List Cut) (verdicts : List (Option Verdict)) (rules : List Rule) (passes : Bool)
    → AreCuts hosts cuts → address_at end packet < 2 ^ 32 → Falls end cuts verdicts (rest_of hosts) rules
    → Decides chains state packet rules passes → Ends chains state packet (verdict_of verdicts (owner_of hosts (address_at end packet))) passes
falls_only chains state packet end hosts cuts verdicts rules passes are low falls decides =
    both_only chains state packet end (verdict_of verdicts (rest_of hosts)) (verdict_of verdicts (owner_of hosts (address_at end packet)))
    (is_apart (are_apart falls.all)) falls.all falls.singles falls.others passes
    (λ v leads. leads_owner hosts verdicts cuts (address_at end packet) v are low (subst (λ (es : List Element). Leads es (address_at end packet) v) falls.all_are leads))
    falls.singles_are falls.others_are (subst (λ (rs : List Rule). Decides chains state packet rs passes) falls.rules_are decides)

pub falls_given : (chains : List Chain) (state : CtState) (packet : Packet) (end : End) (hosts : List Host) (cuts : List Cut) (verdicts : List (Option Verdict)) (rules : List Rule) (passes : Bool)
    → AreCuts hosts cuts → address_at end packet < 2 ^ 32 → Falls end cuts verdicts (rest_of hosts) rules
    → Ends chains state packet (verdict_of verdicts (owner_of hosts (address_at end packet))) passes → Decides chains state packet rules passes
falls_given chains state packet end hosts cuts verdicts rules passes are low falls ends =
    subst (λ (rs : List Rule). Decides chains state packet rs passes) (sym falls.rules_are)
    (both_given chains state packet end (verdict_of verdicts (rest_of hosts)) (verdict_of verdicts (owner_of hosts (address_at end packet)))
    (is_apart (are_apart falls.all)) falls.all falls.singles falls.others passes
    (λ v leads. leads_owner hosts verdicts cuts (address_at end packet) v are low (subst (λ (es : List Element). Leads es (address_at end packet) v) falls.all_are leads))
    falls.singles_are falls.others_are ends)

-- 5. The rules can be loaded.

ascend_less : (less from : ℕ) (es : List Element) → less ≤ from → AscendFrom from es → AscendFrom less es
ascend_less less from [] low ascend = tt
ascend_less less from (e ∷ es) low ascend = (omega (arith, low, ascend.0), ascend.1, ascend.2)

map_ascends : (after : Option Verdict) (verdicts : List (Option Verdict)) (from : ℕ) (cuts : List Cut) (end : ℕ) → LieBetween from cuts end
    → AscendFrom from (flat_map (element_of after verdicts) cuts)
map_ascends after verdicts from [] end between = tt
map_ascends after verdicts from (x ∷ xs) end between =
    by_verdict (map_ascends after verdicts (x.range.last + 1) xs end between.2) (shown after (verdict_at verdicts x.host))
  where
    by_verdict : AscendFrom (x.range.last + 1) (flat_map (element_of after verdicts) xs) → (o : Option Verdict)
        → AscendFrom from (element_if x.range o ++ flat_map (element_of after verdicts) xs)
    by_verdict later None =
        ascend_less from (x.range.last + 1) (flat_map (element_of after verdicts) xs) (omega (arith, between.0, between.1)) later
    by_verdict later (Some v) = (between.0, between.1, later)

-- A verdict leads to one of the first n chains, if there is a verdict.
abbrev pub MayLeadBelow : ℕ → Option Verdict → Type 0
MayLeadBelow n None = Unit {0}
MayLeadBelow n (Some v) = LeadsBelow n v

abbrev pub AllLeadBelow : ℕ → List (Option Verdict) → Type 0
AllLeadBelow n verdicts = (j : ℕ) (v : Option Verdict) → slice_get verdicts j ≡ Some v → MayLeadBelow n v

at_below : (n : ℕ) (verdicts : List (Option Verdict)) → AllLeadBelow n verdicts → (j : ℕ) → MayLeadBelow n (verdict_at verdicts j)
at_below n [] all j = tt
at_below n (v ∷ vs) all zero = all 0 v refl
at_below n (v ∷ vs) all (suc j) = at_below n vs (λ i. all (suc i)) j

of_below : (n : ℕ) (verdicts : List (Option Verdict)) → AllLeadBelow n verdicts → (owner : Option ℕ) → MayLeadBelow n (verdict_of verdicts owner)
of_below n verdicts all None = tt
of_below n verdicts all (Some j) = at_below n verdicts all j

shown_below : (n : ℕ) (after v : Option Verdict) → MayLeadBelow n v → MayLeadBelow n (shown after v)
shown_below n None None below = tt
shown_below n (Some b) None below = tt
shown_below n after (Some v) below = below

elements_below : (n : ℕ) (after : Option Verdict) (verdicts : List (Option Verdict)) → AllLeadBelow n verdicts → (cuts : List Cut)
    → LeadBelow n (flat_map (element_of after verdicts) cuts)
elements_below n after verdicts all [] = tt
elements_below n after verdicts all (x ∷ xs) =
    by_verdict (elements_below n after verdicts all xs) (shown after (verdict_at verdicts x.host)) (shown_below n after (verdict_at verdicts x.host) (at_below n verdicts all x.host))
  where
    by_verdict : LeadBelow n (flat_map (element_of after verdicts) xs) → (o : Option Verdict) → MayLeadBelow n o
        → LeadBelow n (element_if x.range o ++ flat_map (element_of after verdicts) xs)
    by_verdict later None below = later
    by_verdict later (Some v) below = (below, later)

verdict_loads : (n : ℕ) (after : Option Verdict) → MayLeadBelow n after → AreRules n (verdict_rules after)
verdict_loads n None below = tt
verdict_loads n (Some v) below = ((refl, below), tt)

part_ascends : (test : Element → Bool) (from : ℕ) (es : List Element) → AscendFrom from es → AscendFrom from (filter test es)
part_ascends test from [] ascend = tt
part_ascends test from (e ∷ es) ascend = by_test (part_ascends test (e.range.last + 1) es ascend.2) (test e)
  where
    by_test : AscendFrom (e.range.last + 1) (filter test es) → (b : Bool) → AscendFrom from (cond b (e ∷ filter test es) (filter test es))
    by_test later true = (ascend.0, ascend.1, later)
    by_test later false = ascend_less from (e.range.last + 1) (filter test es) (omega (arith, ascend.0, ascend.1)) later

part_below : (test : Element → Bool) (n : ℕ) (es : List Element) → LeadBelow n es → LeadBelow n (filter test es)
part_below test n [] below = tt
part_below test n (e ∷ es) below = by_test (part_below test n es below.1) (test e)
  where
    by_test : LeadBelow n (filter test es) → (b : Bool) → LeadBelow n (cond b (e ∷ filter test es) (filter test es))
    by_test later true = (below.0, later)
    by_test later false = later

map_loads : (n : ℕ) (end : End) (test : Element → Bool) (all : List Element) (vec : Vec Element Global) (rules : List Rule) → AscendFrom 0 all → LeadBelow n all
    → vec.items ≡ filter test all → AreRules n rules → (es : List Element) → vec.items ≡ es → AreRules n (map_rules (record { end = end; elements = vec }) es ++ rules)
map_loads n end test all vec rules ascend below is also [] are = also
map_loads n end test all vec rules ascend below is also (e ∷ es) are = (
  (
    λ none. let other : e ∷ es ≡ [] = sym are ∙ none in cc,
    subst (AscendFrom 0) (sym is) (part_ascends test 0 all ascend),
    subst (LeadBelow n) (sym is) (part_below test n all below),
  ),
  also,
)

pub falls_load : (n : ℕ) (end : End) (hosts : List Host) (cuts : List Cut) (verdicts : List (Option Verdict)) (rest : Option ℕ) (rules : List Rule) → AreCuts hosts cuts
    → AllLeadBelow n verdicts → Falls end cuts verdicts rest rules → AreRules n rules
falls_load n end hosts cuts verdicts rest rules are all falls =
    let after = verdict_of verdicts rest in
    let test = is_apart (are_apart falls.all) in
    let ascend = subst (AscendFrom 0) (sym falls.all_are) (map_ascends after verdicts 0 cuts (2 ^ 32) are.between) in
    let below = subst (LeadBelow n) (sym falls.all_are) (elements_below n after verdicts all cuts) in
    subst (AreRules n) (sym falls.rules_are)
    (map_loads n end test falls.all falls.singles (after_first end falls.others after) ascend below falls.singles_are
    (map_loads n end (λ e. not (test e)) falls.all falls.others (verdict_rules after) ascend below falls.others_are
    (verdict_loads n after (of_below n verdicts all rest)) falls.others.items refl) falls.singles.items refl)
