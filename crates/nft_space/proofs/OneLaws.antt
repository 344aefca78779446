-- A table that can be loaded has one verdict on each packet.
use Rattle.std.proofs.Common.{◌≡◌, ℕ, zero, suc, ◌<◌, ◌≤◌, Bool, List, [], ◌∷◌, Option, Some, None, refl, subst, length, arith}
use Rattle.std.specs.Prelude.{slice_get}
use Rattle.std.proofs.lemmas.Option.{slice_get_within}
use Rattle.host_net.specs.declared.packet.Packet.{Packet}
use Rattle.host_net.specs.declared.packet.CtState.{CtState}
use Rattle.nft_rules.specs.declared.table.Chain.{Chain}
use Rattle.nft_rules.specs.declared.table.Rule.{Rule}
use Rattle.nft_rules.specs.declared.table.Rule.TheVariants.{Map, Match}
use Rattle.nft_rules.specs.declared.table.Table.{Table}
use Rattle.nft_rules.specs.declared.table.Verdict.{Verdict}
use Rattle.nft_rules.specs.declared.table.Verdict.TheVariants.{Accept, Drop, Goto}
use Rattle.nft_rules.specs.Loadable.{AreRules, IsLoadable, LeadBack, LeadsBelow}
use Rattle.nft_rules.specs.Semantics.{Decides, Gives, PassesTable, address_at}
use Rattle.nft_rules.specs.Semantics.Decides.{by_policy}
use Rattle.nft_rules.proofs.EvalLaws.{Follows, decides_first}
use Rattle.nft_rules.proofs.MapLaws.{leads_some}
use Rattle.nft_rules.proofs.OneLaws.{decides_same}
use Rattle.nft_space.proofs.FirstLaws.{gives_below}

-- ---- At least one

gives_some : (state : CtState) (p : Packet) (rule : Rule) → (v : Option Verdict) × Gives state p rule v
gives_some state p (Map m) = leads_some m.elements.items (address_at m.end p)
gives_some state p (Match r) = (_, refl)

slice_get_there : (chains : List Chain) (c : ℕ) → c < length chains → (chain : Chain) × (slice_get chains c ≡ Some chain)
slice_get_there [] c within = absurd (omega arith)
slice_get_there (chain ∷ chains) zero within = (chain, refl)
slice_get_there (chain ∷ chains) (suc c) within = slice_get_there chains c (omega (arith, within))

-- The packet comes to a verdict from the chains before n.
abbrev DecideBelow : ℕ → List Chain → CtState → Packet → Type 0
DecideBelow n chains state p = (c : ℕ) (chain : Chain) → c < n → slice_get chains c ≡ Some chain → (passes : Bool) × Decides chains state p chain.rules.items passes

follows_some : (n : ℕ) (chains : List Chain) (state : CtState) (p : Packet) (rules : List Rule) (v : Option Verdict) → n ≤ length chains
    → DecideBelow n chains state p → ((w : Verdict) → v ≡ Some w → LeadsBelow n w) → (passes : Bool) × Decides chains state p rules passes
    → (passes : Bool) × Follows chains state p rules v passes
follows_some n chains state p rules None few below leads more = more
follows_some n chains state p rules (Some Accept) few below leads more = (_, refl)
follows_some n chains state p rules (Some Drop) few below leads more = (_, refl)
follows_some n chains state p rules (Some (Goto c)) few below leads more =
    let less : c < n = leads (Goto c) refl in
    let there = slice_get_there chains c (omega (arith, less, few)) in
    let found = below c there.0 less there.1 in
    (found.0, (there.0, there.1, found.1))

rules_some : (n : ℕ) (chains : List Chain) (state : CtState) (p : Packet) (rules : List Rule) → n ≤ length chains → DecideBelow n chains state p
    → AreRules n rules → (passes : Bool) × Decides chains state p rules passes
rules_some n chains state p [] few below are = (_, by_policy)
rules_some n chains state p (rule ∷ rules) few below are =
    let v = gives_some state p rule in
    let more = rules_some n chains state p rules few below are.1 in
    let found = follows_some n chains state p rules v.0 few below
    (λ w is. gives_below n state p rule w are.0 (subst (λ (u : Option Verdict). Gives state p rule u) is v.1)) more in
    (found.0, decides_first chains state p rule rules found.0 v.0 v.1 found.1)

decide_below : (n : ℕ) (chains : List Chain) (state : CtState) (p : Packet) → LeadBack chains → DecideBelow n chains state p
decide_below zero chains state p back c chain less there = absurd (omega (arith, less))
decide_below (suc n) chains state p back c chain less there =
    rules_some c chains state p chain.rules.items (let within = slice_get_within chains c chain there in omega (arith, within))
    (λ d other before at. decide_below n chains state p back d other (omega (arith, before, less)) at) (back c chain there)

-- ---- Exactly one

pub passes_one : (table : Table) (state : CtState) (p : Packet) → IsLoadable table
    → (passes : Bool) × PassesTable table state p passes × ((other : Bool) → PassesTable table state p other → other ≡ passes)
passes_one table state p is =
    let chains = table.chains.items in
    let found = rules_some (length chains) chains state p table.forward.items (omega arith) (decide_below (length chains) chains state p is.back) is.forward in
    (found.0, found.1, λ other two. decides_same chains state p (length chains) table.forward.items found.0 other is.back is.forward found.1 two)
