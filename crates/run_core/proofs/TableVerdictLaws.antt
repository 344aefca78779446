-- A table that can be loaded has a verdict on each packet.
use Rattle.std.proofs.Common.{◌≡◌, ◌⊎◌, inl, inr, ℕ, zero, suc, ◌<◌, ◌≤◌, Bool, true, false, List, [], ◌∷◌, Option, None, Some, length, refl, arith}
use Rattle.std.specs.Prelude.{get_or, if◌then◌else◌, slice_get}
use Rattle.std.proofs.lemmas.Bool.{cases_lt}
use Rattle.std.proofs.lemmas.Option.{slice_get_cases}
use Rattle.header_space.specs.Owners.{LiesIn}
use Rattle.header_space.specs.declared.address_range.AddressRange.{AddressRange}
use Rattle.host_net.specs.declared.packet.Packet.{Packet}
use Rattle.host_net.specs.declared.packet.CtState.{CtState}
use Rattle.nft_rules.specs.Loadable.{AreRules, IsLoadable, IsRule, LeadBack, LeadBelow, LeadsBelow}
use Rattle.nft_rules.specs.Maps.{Leads}
use Rattle.nft_rules.specs.Semantics.{Decides, Gives, PassesTable, address_at, by_accept, by_drop, by_goto, by_next, by_policy, fits}
use Rattle.nft_rules.specs.declared.table.Chain.{Chain}
use Rattle.nft_rules.specs.declared.table.Element.{Element}
use Rattle.nft_rules.specs.declared.table.Rule.{Rule}
use Rattle.nft_rules.specs.declared.table.Rule.TheVariants.{Map, Match}
use Rattle.nft_rules.specs.declared.table.Table.{Table}
use Rattle.nft_rules.specs.declared.table.Verdict.{Verdict}
use Rattle.nft_rules.specs.declared.table.Verdict.TheVariants.{Accept, Drop, Goto}

lies_or_not : (range : AddressRange) (a : ℕ) → LiesIn range a ⊎ (LiesIn range a → ⊥)
lies_or_not range a = elim (cases_lt a range.first) [
  | inl before ↦ inr (λ lies. omega (arith, before, lies.0))
  | inr from ↦ elim (cases_lt range.last a) [
    | inl behind ↦ inr (λ lies. omega (arith, behind, lies.1))
    | inr until ↦ inl (omega (arith, from), omega (arith, until))
  ]
]

-- A verdict, of which each `goto` leads to one of the first n chains.
abbrev MayLead : ℕ → Option Verdict → Type 0
MayLead n None = Unit {0}
MayLead n (Some v) = LeadsBelow n v

map_leads : (n : ℕ) (es : List Element) (a : ℕ) → LeadBelow n es → (v : Option Verdict) × Leads es a v × MayLead n v
map_leads n [] a below = (None, tt, tt)
map_leads n (e ∷ es) a below = elim (lies_or_not e.range a) [
  | inl lies ↦ (Some e.verdict, inl (lies, refl), below.0)
  | inr other ↦ behind other (map_leads n es a below.1)
]
  where
    behind : (LiesIn e.range a → ⊥) → (v : Option Verdict) × Leads es a v × MayLead n v → (v : Option Verdict) × Leads (e ∷ es) a v × MayLead n v
    behind other (None, leads, may) = (None, (other, leads), tt)
    behind other (Some v, leads, may) = (Some v, inr leads, may)

match_gives : (n : ℕ) (fits : Bool) (v : Verdict) → LeadsBelow n v → (w : Option Verdict) × (w ≡ (if fits then Some v else None)) × MayLead n w
match_gives n true v below = (Some v, refl, below)
match_gives n false v below = (None, refl, tt)

rule_gives : (n : ℕ) (state : CtState) (p : Packet) (rule : Rule) → IsRule n rule → (v : Option Verdict) × Gives state p rule v × MayLead n v
rule_gives n state p (Map m) is = map_leads n m.elements.items (address_at m.end p) is.2
rule_gives n state p (Match r) is = match_gives n (fits state p r) r.verdict is.1

module _ (chains : List Chain) (state : CtState) (p : Packet) where
  abbrev HasVerdict : List Rule → Type 0
  HasVerdict rules = (passes : Bool) × Decides chains state p rules passes

  -- The rules decide if those of each of the first n chains do.
  rules_decide : (n : ℕ) → ((c : ℕ) (chain : Chain) → c < n → slice_get chains c ≡ Some chain → HasVerdict chain.rules.items) → n ≤ length chains
      → (rules : List Rule) → AreRules n rules → HasVerdict rules
  rules_decide n lower within [] are = (false, by_policy)
  rules_decide n lower within (rule ∷ rules) are = by_verdict (rules_decide n lower within rules are.1) (rule_gives n state p rule are.0)
    where
      later : Gives state p rule None → HasVerdict rules → HasVerdict (rule ∷ rules)
      later gives rest = (rest.0, by_next gives rest.1)

      entered : (c : ℕ) (chain : Chain) → Gives state p rule (Some (Goto c)) → slice_get chains c ≡ Some chain → HasVerdict chain.rules.items → HasVerdict (rule ∷ rules)
      entered c chain gives there rest = (rest.0, by_goto c chain gives there rest.1)

      at : (c : ℕ) → c < n → Gives state p rule (Some (Goto c)) → HasVerdict (rule ∷ rules)
      at c below gives = elim (slice_get_cases chains c).1 [
        | inl found ↦ entered c found.0 gives found.2 (lower c found.0 below found.2)
        | inr past ↦ absurd (omega (arith, past.0, below, within))
      ]

      by_verdict : HasVerdict rules → (v : Option Verdict) × Gives state p rule v × MayLead n v → HasVerdict (rule ∷ rules)
      by_verdict rest (None, gives, may) = later gives rest
      by_verdict rest (Some Accept, gives, may) = (true, by_accept gives)
      by_verdict rest (Some Drop, gives, may) = (false, by_drop gives)
      by_verdict rest (Some (Goto c), gives, may) = at c may gives

  chains_decide : LeadBack chains → (n : ℕ) → (c : ℕ) (chain : Chain) → c < n → slice_get chains c ≡ Some chain → HasVerdict chain.rules.items
  chains_decide back zero c chain below there = absurd (omega (arith, below))
  chains_decide back (suc n) c chain below there =
      rules_decide c (λ d other under found. chains_decide back n d other (omega (arith, below, under)) found) (inside (slice_get_cases chains c).1)
      chain.rules.items (back c chain there)
    where
      inside : ((x : Chain) × (c < length chains) × (slice_get chains c ≡ Some x) × (get_or chains c x ≡ x)) ⊎ ((length chains ≤ c) × (slice_get chains c ≡ None)) → c ≤ length chains
      inside (inl found) = omega (arith, found.1)
      inside (inr past) = let none = past.1 in absurd (cc (none, there))

pub has_verdicts : (table : Table) → IsLoadable table → (state : CtState) (p : Packet) → (passes : Bool) × PassesTable table state p passes
has_verdicts table is state p =
    let chains = table.chains.items in
    rules_decide chains state p (length chains) (chains_decide chains state p is.back (length chains)) (omega arith) table.forward.items is.forward
