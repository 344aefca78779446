-- The evaluation of rules that accept.
use Rattle.std.proofs.Common.{◌≡◌, Bool, true, false, ◌||◌, List, [], ◌∷◌, Option, Some, None, map, refl, sym, ap, ◌∙◌}
use Rattle.std.specs.Prelude.{if◌then◌else◌}
use Rattle.std.specs.List.{list_any}
use Rattle.host_net.specs.declared.packet.Packet.{Packet}
use Rattle.host_net.specs.declared.packet.CtState.{CtState}
use Rattle.nft_rules.specs.declared.table.Chain.{Chain}
use Rattle.nft_rules.specs.declared.table.MatchRule.{MatchRule}
use Rattle.nft_rules.specs.declared.table.Rule.{Rule}
use Rattle.nft_rules.specs.declared.table.Rule.TheVariants.{Match}
use Rattle.nft_rules.specs.declared.table.Verdict.{Verdict}
use Rattle.nft_rules.specs.declared.table.Verdict.TheVariants.{Accept, Drop, Goto}
use Rattle.nft_rules.specs.Semantics.{Decides, fits}
use Rattle.nft_rules.specs.Semantics.Decides.{by_policy}
use Rattle.nft_rules.proofs.EvalLaws.{Follows, decides_first, first_decides, none_decides}
use Rattle.nft_emit.specs.inner.Building.{AreAccepting}

fitted : (chains : List Chain) (state : CtState) (packet : Packet) (rules : List Rule) (passes b later : Bool) (v : Option Verdict)
    → v ≡ (if b then Some Accept else None) → Follows chains state packet rules v passes
    → (Decides chains state packet rules passes → passes ≡ later) → passes ≡ (b || later)
fitted chains state packet rules passes true later None is follows more = cc
fitted chains state packet rules passes true later (Some Accept) is follows more = follows
fitted chains state packet rules passes true later (Some Drop) is follows more = cc
fitted chains state packet rules passes true later (Some (Goto c)) is follows more = cc
fitted chains state packet rules passes false later None is follows more = more follows
fitted chains state packet rules passes false later (Some v) is follows more = cc

pub accepting_only : (chains : List Chain) (state : CtState) (packet : Packet) (rs : List MatchRule) (passes : Bool) → AreAccepting rs
    → Decides chains state packet (map Match rs) passes → passes ≡ list_any (fits state packet) rs
accepting_only chains state packet [] passes are decides = none_decides chains state packet passes decides
accepting_only chains state packet (r ∷ rs) passes are decides =
    let first = first_decides chains state packet (Match r) (map Match rs) passes decides in
    fitted chains state packet (map Match rs) passes (fits state packet r) (list_any (fits state packet) rs) first.0
    (first.1 ∙ ap (λ (v : Verdict). if fits state packet r then Some v else None) are.0) first.2
    (accepting_only chains state packet rs passes are.2)

fitting : (chains : List Chain) (state : CtState) (packet : Packet) (r : MatchRule) (rules : List Rule) (b later : Bool) → fits state packet r ≡ b
    → r.verdict ≡ Accept → Decides chains state packet rules later → Decides chains state packet (Match r ∷ rules) (b || later)
fitting chains state packet r rules true later is accepts more =
    decides_first chains state packet (Match r) rules true (Some Accept)
    (sym (ap (λ (b : Bool). if b then Some r.verdict else None) is ∙ ap (λ (v : Verdict). Some v) accepts)) refl
fitting chains state packet r rules false later is accepts more =
    decides_first chains state packet (Match r) rules later None (sym (ap (λ (b : Bool). if b then Some r.verdict else None) is)) more

pub accepting_given : (chains : List Chain) (state : CtState) (packet : Packet) (rs : List MatchRule) → AreAccepting rs
    → Decides chains state packet (map Match rs) (list_any (fits state packet) rs)
accepting_given chains state packet [] are = by_policy
accepting_given chains state packet (r ∷ rs) are =
    fitting chains state packet r (map Match rs) (fits state packet r) (list_any (fits state packet) rs) refl are.0
    (accepting_given chains state packet rs are.2)
