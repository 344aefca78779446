-- Rules have at most one verdict on a packet, if their intervals are disjoint and each `goto` leads back.
use Rattle.std.proofs.Common.{◌≡◌, ℕ, Bool, List, ◌∷◌, Option, Some, None, sym, subst, ◌∙◌}
use Rattle.std.proofs.lemmas.Option.{same_Some}
use Rattle.host_net.specs.declared.packet.Packet.{Packet}
use Rattle.host_net.specs.declared.packet.CtState.{CtState}
use Rattle.nft_rules.specs.declared.table.Chain.{Chain}
use Rattle.nft_rules.specs.declared.table.Rule.{Rule}
use Rattle.nft_rules.specs.declared.table.Rule.TheVariants.{Map, Match}
use Rattle.nft_rules.specs.declared.table.Verdict.{Verdict}
use Rattle.nft_rules.specs.declared.table.Verdict.TheVariants.{Accept, Drop, Goto}
use Rattle.nft_rules.specs.Loadable.{AreRules, IsRule, LeadBack}
use Rattle.nft_rules.specs.Semantics.{Decides, Gives, address_at}
use Rattle.nft_rules.specs.Semantics.Decides.{by_policy, by_next, by_accept, by_drop, by_goto}
use Rattle.nft_rules.proofs.EvalLaws.{Follows, first_decides, none_decides}
use Rattle.nft_rules.proofs.MapLaws.{leads_same}

pub gives_same : (n : ℕ) (state : CtState) (p : Packet) (rule : Rule) (v u : Option Verdict) → IsRule n rule → Gives state p rule v → Gives state p rule u
    → v ≡ u
gives_same n state p (Map m) v u is one two = leads_same m.elements.items (address_at m.end p) v u is.1 one two
gives_same n state p (Match r) v u is one two = one ∙ sym two

-- What follows the verdict of the first rule, if the verdict is known.
follows_first : (n : ℕ) (chains : List Chain) (state : CtState) (p : Packet) (rule : Rule) (rules : List Rule) (v : Option Verdict) (passes : Bool)
    → IsRule n rule → Gives state p rule v → Decides chains state p (rule ∷ rules) passes → Follows chains state p rules v passes
follows_first n chains state p rule rules v passes is gives decides =
    let first = first_decides chains state p rule rules passes decides in
    subst (λ (u : Option Verdict). Follows chains state p rules u passes) (gives_same n state p rule first.0 v is first.1 gives) first.2

pub decides_same : (chains : List Chain) (state : CtState) (p : Packet) (n : ℕ) (rules : List Rule) (passes other : Bool) → LeadBack chains
    → AreRules n rules → Decides chains state p rules passes → Decides chains state p rules other → other ≡ passes
decides_same chains state p n _ _ other back are by_policy two = none_decides chains state p other two
decides_same chains state p n (rule ∷ rules) passes other back are (by_next gives one) two =
    decides_same chains state p n rules passes other back are.1 one (follows_first n chains state p rule rules None other are.0 gives two)
decides_same chains state p n (rule ∷ rules) _ other back are (by_accept gives) two =
    follows_first n chains state p rule rules (Some Accept) other are.0 gives two
decides_same chains state p n (rule ∷ rules) _ other back are (by_drop gives) two =
    follows_first n chains state p rule rules (Some Drop) other are.0 gives two
decides_same chains state p n (rule ∷ rules) passes other back are (by_goto c chain gives there one) two =
    let found = follows_first n chains state p rule rules (Some (Goto c)) other are.0 gives two in
    let same : found.0 ≡ chain = same_Some found.0 chain (sym found.1 ∙ there) in
    decides_same chains state p c chain.rules.items passes other back (back c chain there) one
    (subst (λ (x : Chain). Decides chains state p x.rules.items other) same found.2)
