-- The laws of tables of nftables: tables with the same text have the same chains, and so the same verdicts.
use Rattle.std.proofs.Common.{◌≡◌, ◌∙◌, ◌+◌, ◌≤◌, ℕ, Bool, true, false, if◌then◌else◌, List, [], ◌∷◌, ◌++◌, Option, None, Some, drop, length, map, refl, ap, sym, subst, arith}
use Rattle.std.specs.Prelude.{nat_lt}
use Rattle.std.specs.List.{flat_map}
use Rattle.std.proofs.lemmas.Bool.Decides.{nat_tests}
use Rattle.std.proofs.lemmas.List.{take-append-drop}
use Rattle.host_net.specs.declared.packet.Packet.{Packet}
use Rattle.host_net.specs.declared.packet.CtState.{CtState}
use Rattle.host_net.specs.Packet.{IsPacket}
use Rattle.ipt_rules.specs.Chain.{Chain}
use Rattle.ipt_rules.specs.ChainTable.{chain_limit, rule_count, rule_limit}
use Rattle.ipt_rules.specs.Semantics.{PassesChains}
use Rattle.ipt_rules.specs.declared.ruleset.BuildRefusal.{BuildRefusal}
use Rattle.ipt_rules.specs.declared.ruleset.BuildRefusal.TheVariants.{TooMany}
use Rattle.ipt_rules.specs.inner.Build.{first_unknown, refusal_of}
use Rattle.ipt_rules.specs.declared.rule.Rule.{Rule as ChainRule}
use Rattle.ipt_rules.specs.declared.rule.Target.TheVariants.{Drop as ToDrop}
use Rattle.nft_chains.proofs.VerdictLaws.{same_verdicts}
use Rattle.nft_chains.specs.Refusals.{IsTooLarge}
use Rattle.nft_chains.specs.Translation.{built_in_of, chain_name, chains_from, chains_of, element_rules, every_packet, match_rule, rules_of_rule, rules_of_rules}
use Rattle.nft_chains.specs.declared.refusal.ChainsRefusal.{ChainsRefusal}
use Rattle.nft_chains.specs.declared.refusal.ChainsRefusal.TheVariants.{TooManyChains, TooManyRules}
use Rattle.nft_read.proofs.WholeLaws.{table_one}
use Rattle.nft_read.specs.Reading.{HasCause, IsTable}
use Rattle.nft_read.specs.Shape.{ChainShape, MapOf, MatchOf, RuleShape, TableShape, chain_shape, rule_shape, table_shape}
use Rattle.nft_read.specs.declared.fault.NftWhy.{NftWhy}
use Rattle.nft_read.specs.declared.fault.NftWhy.TheVariants.{BadLine, NoTable, TooLong}
use Rattle.nft_rules.specs.Semantics.{PassesTable}
use Rattle.nft_rules.specs.declared.table.Chain.{Chain as TableChain}
use Rattle.nft_rules.specs.declared.table.Rule.{Rule}
use Rattle.nft_rules.specs.declared.table.Rule.TheVariants.{Map, Match}
use Rattle.nft_rules.specs.declared.table.Table.{Table}
use Rattle.nft_text.specs.Text.{table_text}
use Rattle.pkt_core.specs.Filter.{Enforces}
use Rattle.pkt_core.specs.FlowPolicy.{FlowPolicy}
use Rattle.report_core.proofs.TraceLaws.{AnswersOnce, chains_answer_once}
use Rattle.run_core.specs.Filters.{AreEquivalentFilters}
use Rattle.run_core.specs.Tables.{AreFew, HasRules, IsLayoutTable, IsReadingOfTable, NoText, RejectsTable, TableRules, TooLarge, passes_text}
use Rattle.run_core.proofs.TableVerdictLaws.{has_verdicts}
use Rattle.text_core.specs.Lines.{lines}
use Rattle.text_core.specs.declared.faults.TextFault.TheVariants.{Refused}

-- ---- the chains follow from the contents of a table

abbrev shape_rules : RuleShape → List ChainRule
shape_rules (MapOf end es) = flat_map (element_rules end) es
shape_rules (MatchOf r) = match_rule r ∷ []

rule_by_shape : (r : Rule) → rules_of_rule r ≡ shape_rules (rule_shape r)
rule_by_shape (Map m) = refl
rule_by_shape (Match r) = refl

rules_by_shape : (rs : List Rule) → rules_of_rules rs ≡ flat_map shape_rules (map rule_shape rs)
rules_by_shape [] = refl
rules_by_shape (r ∷ rs) =
    ap (λ (xs : List ChainRule). xs ++ rules_of_rules rs) (rule_by_shape r) ∙ ap (λ (xs : List ChainRule). shape_rules (rule_shape r) ++ xs) (rules_by_shape rs)

abbrev chain_with : ℕ → List ChainRule → Chain
chain_with c rules = record { name = chain_name c; policy = None; rules = rules ++ every_packet ToDrop ∷ [] }

abbrev shape_chains : ℕ → List ChainShape → List Chain
shape_chains c [] = []
shape_chains c (x ∷ xs) = chain_with c (flat_map shape_rules x.rules) ∷ shape_chains (c + 1) xs

chains_by_shape : (c : ℕ) (xs : List TableChain) → chains_from c xs ≡ shape_chains c (map chain_shape xs)
chains_by_shape c [] = refl
chains_by_shape c (x ∷ xs) =
    ap (λ (rules : List ChainRule). chain_with c rules ∷ chains_from (c + 1) xs) (rules_by_shape x.rules.items)
    ∙ ap (λ (ys : List Chain). chain_with c (flat_map shape_rules (map rule_shape x.rules.items)) ∷ ys) (chains_by_shape (c + 1) xs)

abbrev of_shape : TableShape → List Chain
of_shape s = built_in_of (flat_map shape_rules s.forward) ++ shape_chains 0 s.chains

table_by_shape : (table : Table) → chains_of table ≡ of_shape (table_shape table)
table_by_shape table =
    ap (λ (rules : List ChainRule). built_in_of rules ++ chains_from 0 table.chains.items) (rules_by_shape table.forward.items)
    ∙ ap (λ (xs : List Chain). built_in_of (flat_map shape_rules (map rule_shape table.forward.items)) ++ xs) (chains_by_shape 0 table.chains.items)

pub one_chains : (a b : Table) → IsTable a → IsTable b → table_text a ≡ table_text b → chains_of a ≡ chains_of b
one_chains a b is own same = table_by_shape a ∙ ap of_shape (table_one a b is own same) ∙ sym (table_by_shape b)

-- ---- verdicts

to_chains : (table : Table) (chains : List Chain) (state : CtState) (p : Packet) (passes : Bool) → IsTable table → chains_of table ≡ chains → IsPacket p
    → PassesTable table state p passes → PassesChains chains state p passes
to_chains table chains state p passes is same packet said =
    subst (λ (xs : List Chain). PassesChains xs state p passes) same
    ((same_verdicts table is.loadable (λ s q any. has_verdicts table is.loadable s q) state p passes packet).0 said)

from_chains : (table : Table) (chains : List Chain) (state : CtState) (p : Packet) (passes : Bool) → IsTable table → chains_of table ≡ chains → IsPacket p
    → PassesChains chains state p passes → PassesTable table state p passes
from_chains table chains state p passes is same packet said =
    (same_verdicts table is.loadable (λ s q any. has_verdicts table is.loadable s q) state p passes packet).1
    (subst (λ (xs : List Chain). PassesChains xs state p passes) (sym same) said)

-- A table with these rules has the verdicts of each table with the text.
pub text_alike : (table : Table) (rules : TableRules) → HasRules table rules → AreEquivalentFilters (PassesChains rules.chains) (passes_text rules.text)
text_alike table rules has state p passes packet = (
  λ said. (table, has.is_table, has.text, from_chains table rules.chains state p passes has.is_table (sym has.chains) packet said),
  λ said. to_chains said.0 rules.chains state p passes said.1
      (one_chains said.0 table said.1 has.is_table (sym said.2 ∙ has.text) ∙ sym has.chains) packet said.3,
)

pub text_answers_once : (bytes : List ℕ) (rules : TableRules) → IsReadingOfTable bytes rules → AnswersOnce IsPacket (passes_text rules.text)
text_answers_once bytes rules read state p a b packet first second =
    let alike = text_alike read.table rules read.has_rules in
    chains_answer_once rules.chains state p a b tt ((alike state p a packet).1 first) ((alike state p b packet).1 second)

pub layout_table_enforces : (policy : FlowPolicy) (rules : TableRules) → IsLayoutTable policy rules → Enforces (passes_text rules.text) policy
layout_table_enforces policy rules layout = record {
  given = λ p state packet. (layout.table, layout.has_rules.is_table, layout.has_rules.text, layout.enforces.given p state packet);
  only = λ p state passes packet said.
      let alike = text_alike layout.table rules layout.has_rules in
      layout.enforces.only p state passes packet
      (from_chains layout.table rules.chains state p passes layout.has_rules.is_table (sym layout.has_rules.chains) packet ((alike state p passes packet).1 said));
}

-- ---- readings

same_rules : (a b : TableRules) → a.text ≡ b.text → a.chains ≡ b.chains → a ≡ b
same_rules a b text chains = λ i. record { text = text i; chains = chains i }

-- Tables with the same text have the same rules.
rules_once : (a b : TableRules) (x y : Table) → HasRules x a → HasRules y b → a.text ≡ b.text → a ≡ b
rules_once a b x y has also same =
    same_rules a b same (has.chains ∙ one_chains x y has.is_table also.is_table (sym has.text ∙ same ∙ also.text) ∙ sym also.chains)

pub one_table_reading : (bytes : List ℕ) (a b : TableRules) → IsReadingOfTable bytes a → IsReadingOfTable bytes b → a ≡ b
one_table_reading bytes a b p q = rules_once a b p.table q.table p.has_rules q.has_rules (p.is_text ∙ sym q.is_text)

pub table_only_reading : (policy : FlowPolicy) (rules others : TableRules) → IsLayoutTable policy rules → IsReadingOfTable rules.text others → others ≡ rules
table_only_reading policy rules others layout read = rules_once others rules read.table layout.table read.has_rules layout.has_rules read.is_text

pub table_read_again : (policy : FlowPolicy) (rules : TableRules) → IsLayoutTable policy rules → length rules.text ≤ 67108864 → AreFew rules.chains
    → IsReadingOfTable rules.text rules
table_read_again policy rules layout short few =
    record { is_text = refl; short = short; few = few; table = layout.table; has_rules = layout.has_rules }

few_not_large : (table : Table) (why : ChainsRefusal) → AreFew (chains_of table) → IsTooLarge table why → ⊥
few_not_large table TooManyChains few large = omega (arith, few.0, large)
few_not_large table TooManyRules few large = omega (arith, few.1, large.1)

no_cause : (bytes : List ℕ) (rules : TableRules) (number : ℕ) (why : NftWhy) → IsReadingOfTable bytes rules → HasCause bytes (Refused number why) → ⊥
no_cause bytes rules number TooLong read cause = omega (arith, read.short, cause.1)
no_cause bytes rules number BadLine read cause = cause (
  read.table,
  read.has_rules.is_table,
  drop number (lines bytes),
  ap lines (sym read.has_rules.text ∙ read.is_text) ∙ sym (take-append-drop number (lines bytes)),
)
no_cause bytes rules number NoTable read cause = cause.1 read.table read.has_rules.is_table (sym read.is_text ∙ read.has_rules.text)

pub read_or_rejected : (bytes line : List ℕ) (rules : TableRules) → IsReadingOfTable bytes rules → RejectsTable bytes line → ⊥
read_or_rejected bytes line rules read (NoText number why cause told) = no_cause bytes rules number why read cause
read_or_rejected bytes line rules read (TooLarge table why is same large told) =
    let chains : rules.chains ≡ chains_of table =
    read.has_rules.chains ∙ one_chains read.table table read.has_rules.is_table is (sym read.has_rules.text ∙ read.is_text ∙ same) in
    few_not_large table why (subst AreFew chains read.few) large

-- ---- the limits of a rule set

few_by_tests : (count rules : ℕ) (a b : Bool) (more : Option BuildRefusal) → nat_lt chain_limit count ≡ a → nat_lt rule_limit rules ≡ b
    → (if a then Some (TooMany count) else if b then Some (TooMany rules) else more) ≡ None → (count ≤ chain_limit) × (rules ≤ rule_limit)
few_by_tests count rules true b more is also none = absurd (cc none)
few_by_tests count rules false true more is also none = absurd (cc none)
few_by_tests count rules false false more is also none = (grind (arith, nat_tests), grind (arith, nat_tests))

pub few_if_accepted : (chains : List Chain) → refusal_of chains ≡ None → AreFew chains
unfolding refusal_of
few_if_accepted chains none =
    few_by_tests (length chains) (rule_count chains) (nat_lt chain_limit (length chains)) (nat_lt rule_limit (rule_count chains)) (first_unknown (length chains) 0 chains) refl refl none
