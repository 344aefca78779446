-- The evaluation of rules, one rule after another.
use Rattle.std.proofs.Common.{◌≡◌, Bool, true, false, List, [], ◌∷◌, Option, Some, None, refl, sym, subst}
use Rattle.std.specs.Prelude.{slice_get}
use Rattle.host_net.specs.declared.packet.Packet.{Packet}
use Rattle.host_net.specs.declared.packet.CtState.{CtState}
use Rattle.nft_rules.specs.declared.table.Chain.{Chain}
use Rattle.nft_rules.specs.declared.table.Rule.{Rule}
use Rattle.nft_rules.specs.declared.table.Verdict.{Verdict}
use Rattle.nft_rules.specs.declared.table.Verdict.TheVariants.{Accept, Drop, Goto}
use Rattle.nft_rules.specs.Semantics.{Decides, Gives}
use Rattle.nft_rules.specs.Semantics.Decides.{by_policy, by_next, by_accept, by_drop, by_goto}

-- What follows a verdict of a rule, or no verdict: then the rules after it decide.
abbrev pub Follows : List Chain → CtState → Packet → List Rule → Option Verdict → Bool → Type 0
Follows chains state packet rules None passes = Decides chains state packet rules passes
Follows chains state packet rules (Some Accept) passes = passes ≡ true
Follows chains state packet rules (Some Drop) passes = passes ≡ false
Follows chains state packet rules (Some (Goto c)) passes =
    (chain : Chain) × (slice_get chains c ≡ Some chain) × Decides chains state packet chain.rules.items passes

-- What follows a verdict, or no verdict at the end of a chain.
abbrev pub Ends : List Chain → CtState → Packet → Option Verdict → Bool → Type 0
Ends chains state packet = Follows chains state packet []

pub first_decides : (chains : List Chain) (state : CtState) (packet : Packet) (rule : Rule) (rules : List Rule) (passes : Bool)
    → Decides chains state packet (rule ∷ rules) passes → (v : Option Verdict) × Gives state packet rule v × Follows chains state packet rules v passes
first_decides chains state packet rule rules passes (by_next gives later) = (None, gives, later)
first_decides chains state packet rule rules _ (by_accept gives) = (Some Accept, gives, refl)
first_decides chains state packet rule rules _ (by_drop gives) = (Some Drop, gives, refl)
first_decides chains state packet rule rules passes (by_goto c chain gives there later) = (Some (Goto c), gives, (chain, there, later))

pub decides_first : (chains : List Chain) (state : CtState) (packet : Packet) (rule : Rule) (rules : List Rule) (passes : Bool) (v : Option Verdict)
    → Gives state packet rule v → Follows chains state packet rules v passes → Decides chains state packet (rule ∷ rules) passes
decides_first chains state packet rule rules passes None gives later = by_next gives later
decides_first chains state packet rule rules passes (Some Accept) gives is = subst (Decides chains state packet (rule ∷ rules)) (sym is) (by_accept gives)
decides_first chains state packet rule rules passes (Some Drop) gives is = subst (Decides chains state packet (rule ∷ rules)) (sym is) (by_drop gives)
decides_first chains state packet rule rules passes (Some (Goto c)) gives found = by_goto c found.0 gives found.1 found.2

pub none_decides : (chains : List Chain) (state : CtState) (packet : Packet) (passes : Bool) → Decides chains state packet [] passes → passes ≡ false
none_decides chains state packet _ by_policy = refl
