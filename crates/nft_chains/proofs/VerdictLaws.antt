-- The chains of a table have the verdicts of the table.
use Rattle.std.proofs.Common.{◌≡◌, inl, inr, ℕ, zero, suc, ◌+◌, Bool, true, false, List, [], ◌∷◌, ◌++◌, Some, None, refl, sym, ap, subst, length, arith}
use Rattle.std.specs.Prelude.{slice_get}
use Rattle.std.specs.Option.{option_map_or}
use Rattle.std.proofs.lemmas.Option.{same_Some}
use Rattle.host_net.specs.declared.packet.Packet.{Packet}
use Rattle.host_net.specs.declared.packet.CtState.{CtState}
use Rattle.host_net.specs.Packet.{IsPacket}
use Rattle.host_net.specs.Verdict.{verdict_if}
use Rattle.ipt_rules.specs.declared.rule.Target.TheVariants.{Drop as ToDrop}
use Rattle.ipt_rules.specs.Chain.{Chain}
use Rattle.ipt_rules.specs.Matching.{matches}
use Rattle.ipt_rules.specs.Semantics.{PassesChains}
use Rattle.ipt_rules.proofs.MeaningLaws.{verdict_once}
use Rattle.ipt_rules.proofs.SayingLaws.{verdict_said}
use Rattle.nft_rules.specs.declared.table.Chain.{Chain as TableChain}
use Rattle.nft_rules.specs.declared.table.Table.{Table}
use Rattle.nft_rules.specs.Loadable.{IsLoadable}
use Rattle.nft_rules.specs.Semantics.{PassesTable}
use Rattle.nft_chains.specs.Translation.{HaveSameVerdicts, chain_number, chains_from, chains_of, every_packet, rules_of_rules}
use Rattle.nft_chains.proofs.SayLaws.{HaveChains, Tells, decides_tells}

from_here : (k c : ℕ) (xs : List TableChain) (x : TableChain) → slice_get xs c ≡ Some x
    → option_map_or (λ (y : Chain). y.rules) (slice_get (chains_from k xs) c) [] ≡ rules_of_rules x.rules.items ++ every_packet ToDrop ∷ []
from_here k c [] x there = absurd (cc there)
from_here k zero (y ∷ xs) x there = ap (λ (z : TableChain). rules_of_rules z.rules.items ++ every_packet ToDrop ∷ []) (same_Some y x there)
from_here k (suc c) (y ∷ xs) x there = from_here (k + 1) c xs x there

pub have_chains : (table : Table) → HaveChains table.chains.items (chains_of table)
have_chains table c x there =
    let third : chain_number c ≡ suc (suc (suc c)) = omega arith in
    rw third (from_here 0 c table.chains.items x there)

passes_chains : (table : Table) (state : CtState) (p : Packet) (passes : Bool)
    → Tells (matches p state) (chains_of table) (rules_of_rules table.forward.items) passes → PassesChains (chains_of table) state p passes
passes_chains table state p passes (inl said) = verdict_said (chains_of table) 1 p state (Some (verdict_if passes)) said
passes_chains table state p passes (inr passed) =
    subst (λ (b : Bool). PassesChains (chains_of table) state p b) (sym passed.0) (verdict_said (chains_of table) 1 p state None passed.1)

to_chains : (table : Table) (state : CtState) (p : Packet) (passes : Bool) → IsLoadable table → IsPacket p → PassesTable table state p passes
    → PassesChains (chains_of table) state p passes
to_chains table state p passes is packet decides =
    passes_chains table state p passes
    (decides_tells table.chains.items (chains_of table) state p (length table.chains.items) table.forward.items passes packet
    (have_chains table) is.back is.forward decides)

one_verdict : (a b : Bool) → verdict_if a ≡ verdict_if b → a ≡ b
one_verdict true true same = refl
one_verdict false false same = refl
one_verdict true false same = cc
one_verdict false true same = cc

-- The table has a verdict on each packet.
abbrev pub HasVerdicts : Table → Type 0
HasVerdicts table = (state : CtState) (p : Packet) → IsPacket p → (passes : Bool) × PassesTable table state p passes

from_chains : (table : Table) (state : CtState) (p : Packet) (passes : Bool) → IsLoadable table → HasVerdicts table → IsPacket p
    → PassesChains (chains_of table) state p passes → PassesTable table state p passes
from_chains table state p passes is some packet chains =
    let found = some state p packet in
    let same : verdict_if found.0 ≡ verdict_if passes = verdict_once (to_chains table state p found.0 is packet found.1) chains in
    subst (PassesTable table state p) (one_verdict found.0 passes same) found.1

pub same_verdicts : (table : Table) → IsLoadable table → HasVerdicts table → HaveSameVerdicts table (chains_of table)
same_verdicts table is some state p passes packet =
    (to_chains table state p passes is packet, from_chains table state p passes is some packet)
