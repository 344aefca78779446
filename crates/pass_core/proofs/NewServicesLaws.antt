-- Laws of services by sets of packets.
use Rattle.std.proofs.Common.{◌≡◌, ap, List, Option, Some, None}
use Rattle.std.specs.Prelude.{IfSome}
use Rattle.ipt_rules.specs.Chain.{Chain}
use Rattle.rules_space.specs.Rules.{AnyRules, Chains, Entries, chains_of}

pub chains_are : (rules : AnyRules) (chains : List Chain) → chains_of rules ≡ Some chains → rules ≡ Chains chains
chains_are (Chains own) chains is = let same : own ≡ chains = cc in ap Chains same
chains_are (Entries entries) chains is = absurd (cc)

pub some_weaker : {A : Type 0} (P Q : A → Type 0) → ((x : A) → P x → Q x) → (o : Option A) → IfSome o P → IfSome o Q
some_weaker P Q weaker None is = tt
some_weaker P Q weaker (Some x) is = weaker x is
