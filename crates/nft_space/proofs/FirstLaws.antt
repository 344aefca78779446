-- The first verdict of rules, and what follows from it.
use Rattle.std.proofs.Common.{◌≡◌, inl, inr, ℕ, zero, suc, ◌<◌, Bool, true, false, List, [], ◌∷◌, Option, Some, None, sym, ap, subst, ◌∙◌, take}
use Rattle.std.specs.Prelude.{slice_get, if◌then◌else◌}
use Rattle.std.proofs.lemmas.Option.{same_Some}
use Rattle.host_net.specs.declared.packet.Packet.{Packet}
use Rattle.host_net.specs.declared.packet.CtState.{CtState}
use Rattle.header_space.specs.declared.packet_box.PacketBox.{PacketBox}
use Rattle.header_space.specs.Boxes.{IsIn, Narrows}
use Rattle.header_space.proofs.BoxLaws.{least_in}
use Rattle.nft_rules.specs.declared.table.Chain.{Chain}
use Rattle.nft_rules.specs.declared.table.Element.{Element}
use Rattle.nft_rules.specs.declared.table.Rule.{Rule}
use Rattle.nft_rules.specs.declared.table.Rule.TheVariants.{Map, Match}
use Rattle.nft_rules.specs.declared.table.Verdict.{Verdict}
use Rattle.nft_rules.specs.declared.table.Verdict.TheVariants.{Accept, Drop, Goto}
use Rattle.nft_rules.specs.Loadable.{AreRules, IsRule, LeadBelow, LeadsBelow}
use Rattle.nft_rules.specs.Maps.{LeadsTo}
use Rattle.nft_rules.specs.Semantics.{Decides, Gives, address_at, fits}
use Rattle.nft_rules.proofs.EvalLaws.{Ends, decides_first}
use Rattle.nft_space.specs.inner.First.{Ascend, First, NoneGives}
use Rattle.nft_space.specs.inner.First.First.{at_end, later, here}

pub rules_ascend : (n : ℕ) (rules : List Rule) → AreRules n rules → Ascend rules
rules_ascend n [] are = tt
rules_ascend n (Map m ∷ rules) are = (are.0.1, rules_ascend n rules are.1)
rules_ascend n (Match r ∷ rules) are = (tt, rules_ascend n rules are.1)

-- ---- The loop over rules

pub none_first : (state : CtState) (p : Packet) (rules : List Rule) → NoneGives state p rules → First state p rules None
none_first state p [] none = at_end
none_first state p (r ∷ rules) none = later none.0 (none_first state p rules none.1)

pub found_first : (state : CtState) (p : Packet) (rules : List Rule) (i : ℕ) (rule : Rule) (v : Verdict) → NoneGives state p (take i rules)
    → slice_get rules i ≡ Some rule → Gives state p rule (Some v) → First state p rules (Some v)
found_first state p [] i rule v none is gives = cc
found_first state p (r ∷ rules) zero rule v none is gives =
    here v (subst (λ (x : Rule). Gives state p x (Some v)) (sym (same_Some r rule is)) gives)
found_first state p (r ∷ rules) (suc i) rule v none is gives = later none.0 (found_first state p rules i rule v none.1 is gives)

pub one_more : (state : CtState) (p : Packet) (rules : List Rule) (i : ℕ) (rule : Rule) → NoneGives state p (take i rules)
    → slice_get rules i ≡ Some rule → Gives state p rule None → NoneGives state p (take (suc i) rules)
one_more state p [] i rule none is gives = cc
one_more state p (r ∷ rules) zero rule none is gives =
    (subst (λ (x : Rule). Gives state p x None) (sym (same_Some r rule is)) gives, tt)
one_more state p (r ∷ rules) (suc i) rule none is gives = (none.0, one_more state p rules i rule none.1 is gives)

-- ---- The walk

pub first_ends : (chains : List Chain) (state : CtState) (p : Packet) (rules : List Rule) (v : Option Verdict) (passes : Bool) → First state p rules v
    → Ends chains state p v passes → Decides chains state p rules passes
first_ends chains state p _ _ passes at_end ends = ends
first_ends chains state p (rule ∷ rules) v passes (later gives more) ends =
    decides_first chains state p rule rules passes None gives (first_ends chains state p rules v passes more ends)
first_ends chains state p (rule ∷ rules) _ passes (here v gives) ends = by_verdict v gives ends
  where
    by_verdict : (w : Verdict) → Gives state p rule (Some w) → Ends chains state p (Some w) passes → Decides chains state p (rule ∷ rules) passes
    by_verdict Accept gives ends = decides_first chains state p rule rules passes (Some Accept) gives ends
    by_verdict Drop gives ends = decides_first chains state p rule rules passes (Some Drop) gives ends
    by_verdict (Goto c) gives ends = decides_first chains state p rule rules passes (Some (Goto c)) gives ends

leads_below : (n : ℕ) (es : List Element) (a : ℕ) (v : Verdict) → LeadBelow n es → LeadsTo es a v → LeadsBelow n v
leads_below n [] a v lead leads = absurd leads
leads_below n (e ∷ es) a v lead (inl found) = subst (λ (w : Verdict). LeadsBelow n w) (sym found.1) lead.0
leads_below n (e ∷ es) a v lead (inr more) = leads_below n es a v lead.1 more

fitted_below : (n : ℕ) (b : Bool) (u v : Verdict) → Some v ≡ (if b then Some u else None) → LeadsBelow n u → LeadsBelow n v
fitted_below n true u v is below = subst (λ (w : Verdict). LeadsBelow n w) (sym (same_Some v u is)) below
fitted_below n false u v is below = cc

pub gives_below : (n : ℕ) (state : CtState) (p : Packet) (rule : Rule) (v : Verdict) → IsRule n rule → Gives state p rule (Some v) → LeadsBelow n v
gives_below n state p (Map m) v is gives = leads_below n m.elements.items (address_at m.end p) v is.2 gives
gives_below n state p (Match r) v is gives = fitted_below n (fits state p r) r.verdict v gives is.1

pub first_below : (n : ℕ) (state : CtState) (p : Packet) (rules : List Rule) (v : Verdict) → AreRules n rules → First state p rules (Some v) → LeadsBelow n v
first_below n state p [] v are first = elim first [ ]
first_below n state p (rule ∷ rules) v are (later gives more) = first_below n state p rules v are.1 more
first_below n state p (rule ∷ rules) v are (here _ gives) = gives_below n state p rule v are.0 gives

-- A `goto` of the rules leads to an earlier chain.
pub goto_below : (n c : ℕ) (state : CtState) (b part : PacketBox) (rules : List Rule) (o : Option Verdict) (v : Verdict) → AreRules n rules
    → Narrows b part → ((p : Packet) → IsIn part p → First state p rules o) → o ≡ Some v → v ≡ Goto c → c < n
goto_below n c state b part rules o v are narrows first is goto =
    first_below n state b.least rules (Goto c) are
    (subst (λ (u : Option Verdict). First state b.least rules u) (is ∙ ap (λ (w : Verdict). Some w) goto) (first b.least (least_in b part narrows)))
