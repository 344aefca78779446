-- The report of the sample is unique.
use Rattle.std.proofs.Common.{◌≡◌, ℕ, List, Result, Ok, Err, length, map, filter, sym, ap, subst, ◌∙◌, refl, arith}
use Rattle.desc_core.specs.Description.{described_by_table}
use Rattle.ipt_rules.specs.Chain.{Chain}
use Rattle.ipt_rules.specs.Semantics.{PassesChains}
use Rattle.ipt_rules.specs.Text.{text_lines}
use Rattle.net_core.specs.Network.{Network}
use Rattle.net_core.specs.Policies.{IsPolicyOf, Policy}
use Rattle.net_core.proofs.PolicyLaws.{policy_is_one}
use Rattle.pkt_core.specs.Filter.{RunsFromNoConnections}
use Rattle.pkt_core.specs.FlowPolicy.{FlowPolicy}
use Rattle.pkt_core.specs.Tracking.{no_connections}
use Rattle.report_core.specs.CheckReport.{AreViolations}
use Rattle.report_core.specs.FlowPolicies.{flow_policy_of}
use Rattle.report_core.proofs.ReportLaws.{offences_are_one}
use Rattle.sample_core.specs.Sample.{Found, IsSample, IsTableLines, chains_of, offence_size, sample_events, sample_text, was_forwarded}
use Rattle.sample_core.specs.inner.SampleCounts.{rows}
use Rattle.sample_core.specs.SampleTable.{sample_table}
use Rattle.sample_core.specs.declared.counts.TableLines.{TableLines}
use Rattle.sample_core.specs.declared.counts.TableLines.TheVariants.{Lines, NeedsState, TooMany}
use Rattle.report_core.proofs.TraceLaws.{AnyPacket, any_known, chains_answer_once, runs_once}

abbrev value_or : {A R : Type 0} → A → Result A R → A
value_or d (Ok x) = x
value_or d (Err e) = d

said_same : {A R : Type 0} (r : Result A R) (a b : A) → r ≡ Ok a → r ≡ Ok b → a ≡ b
said_same r a b first second = ap (value_or a) (sym first ∙ second)

table_is_one : (policy : FlowPolicy) (t u : TableLines) → IsTableLines policy t → IsTableLines policy u → t ≡ u
table_is_one policy NeedsState NeedsState a b = refl
table_is_one policy NeedsState TooMany a b = absurd (a b.0)
table_is_one policy NeedsState (Lines m) a b = absurd (a b.0)
table_is_one policy TooMany NeedsState a b = absurd (b a.0)
table_is_one policy TooMany TooMany a b = refl
table_is_one policy TooMany (Lines m) (_, many) (_, few, counted) = absurd (omega (arith, many, few))
table_is_one policy (Lines m) NeedsState a b = absurd (b a.0)
table_is_one policy (Lines m) TooMany (_, few, counted) (_, many) = absurd (omega (arith, many, few))
table_is_one policy (Lines m) (Lines k) (_, few, counted) (_, other, told) = ap Lines (counted ∙ sym told)

-- Its results are equal.
record AreSame (n : ℕ) (f g : Found n) : Type 0 where
  network : f.network ≡ g.network
  policy : f.policy ≡ g.policy
  offences : f.offences ≡ g.offences
  table : f.table ≡ g.table
  results : f.results ≡ g.results

found_is_one : (n : ℕ) (f g : Found n) → AreSame n f g
found_is_one n f g =
    let net : f.network ≡ g.network = said_same (described_by_table (sample_table n)) f.network g.network f.described g.described in
    let policy : f.policy ≡ g.policy =
    policy_is_one g.network f.policy g.policy (subst (λ (d : Network). IsPolicyOf d f.policy) net f.is_policy) g.is_policy in
    let chains : chains_of f.network f.policy ≡ chains_of g.network g.policy = λ i. chains_of (net i) (policy i) in
    let same_table : IsTableLines (flow_policy_of g.network g.policy) f.table =
    subst (λ (d : Network). IsTableLines (flow_policy_of d g.policy) f.table) net
    (subst (λ (x : Policy). IsTableLines (flow_policy_of f.network x) f.table) policy f.is_table) in
    let last : List Chain = chains_of g.network g.policy in
    record {
      network = net;
      policy = policy;
      offences = offences_are_one g.network.invariants g.network.asked.flows f.offences g.offences
          (subst (λ (d : Network). AreViolations d.invariants d.asked.flows f.offences) net f.are_offences) g.are_offences;
      table = table_is_one (flow_policy_of g.network g.policy) f.table g.table same_table g.is_table;
      results = runs_once AnyPacket (PassesChains last) (chains_answer_once last) no_connections (sample_events n) (any_known (sample_events n))
          f.results g.results (subst (λ (x : List Chain). RunsFromNoConnections (PassesChains x) (sample_events n) f.results) chains f.run) g.run;
    }

text_is_one : (n : ℕ) (f g : Found n) → AreSame n f g → sample_text n f ≡ sample_text n g
text_is_one n f g same = λ i.
    rows n (length (same.network i).hosts) (length (same.network i).asked.flows) (map offence_size (same.offences i))
    (length (same.policy i).permitted.flows) (length (same.policy i).stateful.flows)
    (length (text_lines (chains_of (same.network i) (same.policy i)))) (same.table i) (length (sample_events n))
    (length (filter was_forwarded (same.results i)))

pub sample_is_one : (n : ℕ) (a b : List ℕ) → IsSample n a → IsSample n b → a ≡ b
sample_is_one n a b p q = p.written ∙ text_is_one n p.found q.found (found_is_one n p.found q.found) ∙ sym q.written
