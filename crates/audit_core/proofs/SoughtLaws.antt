-- The result of the search through all packets is the finding of the audit: the least packet on which the two sides differ is the packet of
-- its class.
use Rattle.std.proofs.Common.{◌≡◌, inl, inr, sym, subst, arith}
use Rattle.host_net.specs.declared.packet.Packet.{Packet}
use Rattle.flow_set.specs.FlowSet.{IsSubset}
use Rattle.pkt_core.specs.FlowPolicy.{permits, permits_reply_to}
use Rattle.audit_core.specs.declared.finding.Finding.{Finding}
use Rattle.audit_core.specs.declared.finding.Finding.TheVariants.{Equal, Differ as Differing}
use Rattle.audit_core.specs.declared.finding.Trace.{Trace}
use Rattle.audit_core.specs.declared.kind.Kind.{Kind}
use Rattle.audit_core.specs.declared.kind.Kind.TheVariants.{Alone, AfterSwap, AfterBoth}
use Rattle.audit_core.specs.Cuts.{cuts_between, parts_between}
use Rattle.header_space.proofs.SeekLaws.{not_before}
use Rattle.audit_core.specs.Findings.{IsFirstTrace, events_of, trace_of}
use Rattle.audit_core.specs.Places.{IsClassPacket, representatives_of}
use Rattle.rules_space.specs.Rules.{filter_of}
use Rattle.audit_core.specs.Lists.{front_of, list_of}
use Rattle.audit_core.specs.Pairs.{DiffersAt}
use Rattle.audit_core.specs.Sides.{Differ, Sides}
use Rattle.audit_core.specs.inner.Findings.{IsFinding}
use Rattle.rules_space.specs.Verdicts.{GivesOne}
use Rattle.audit_core.proofs.FindingOnceLaws.{ordered}
use Rattle.audit_core.specs.inner.Faults.{IsFirstKind, IsLeastFault, IsSought}
use Rattle.audit_core.specs.laws.ListLaws.{differ_on}
use Rattle.audit_core.proofs.AlikeLemmas.{alike_by_parts, class_of_packet, right_alike}
use Rattle.audit_core.proofs.AuditLemmas.{class_packets}
use Rattle.audit_core.proofs.JudgingLemmas.{agree_kind, agree_where_right, wrong_differs}
use Rattle.audit_core.proofs.PartLemmas.{one_class_alike}

-- The packet that represents the class of a least fault has the same fault, and is no greater.
class_packet : (sides : Sides) (kind : Kind) (trace : Trace) (least : IsLeastFault sides kind trace)
    → IsClassPacket (representatives_of (cuts_between sides)) least.at
class_packet sides kind trace least =
    let class = class_of_packet sides least.at least.packet in
    let alike = alike_by_parts sides class.0 least.at (one_class_alike (parts_between sides) class.0 least.at class.1 least.packet class.3) in
    elim (ordered class.0 least.at) [
      | inl before ↦
          let right = right_alike sides kind class.0 least.at alike (least.first class.0 class.1 before) in
          absurd (least.wrong.wrong (right least.wrong.asked trace.forwards least.wrong.said))
      | inr rest ↦ elim rest [
        | inl after ↦ absurd (not_before class.0 least.at class.4 after)
        | inr same ↦ subst (λ (q : Packet). IsClassPacket (representatives_of (cuts_between sides)) q) same class.2
      ]
    ]

module _ (sides : Sides) (gives : GivesOne (filter_of sides.rules)) (subset : IsSubset sides.policy.stateful sides.policy.permitted) where
  trace_differs : (trace : Trace) (kind : Kind) (p : Packet) → trace ≡ trace_of kind p trace.forwards → DiffersAt sides kind p trace.forwards
      → Differ sides (events_of trace)
  trace_differs trace kind p is differs =
      subst (λ (t : Trace). Differ sides (events_of t)) (sym is)
      (by_kind kind (differ_on (filter_of sides.rules) (permits sides.policy) (permits_reply_to sides.policy) (front_of kind p) p trace.forwards differs))
    where
      by_kind : (kind : Kind) → Differ sides (list_of kind p) → Differ sides (events_of (trace_of kind p trace.forwards))
      by_kind Alone differ = differ
      by_kind AfterSwap differ = differ
      by_kind AfterBoth differ = differ

  first_trace : (trace : Trace) → IsFirstKind sides trace → IsFirstTrace sides (representatives_of (cuts_between sides)) trace
  first_trace trace found =
      let least = found.least in
      let packets = class_packets (cuts_between sides) in
      let differs = wrong_differs sides gives subset found.kind (λ h. found.earlier Alone h) least.at least.packet trace.forwards least.wrong in
      record {
        kind = found.kind;
        packet = least.at;
        is = least.is;
        first = record {
          is_class = class_packet sides found.kind trace least;
          packet = least.packet;
          differ = differs;
          first = λ r is before. agree_kind sides gives subset found.kind found.earlier r (packets r is) (least.first r (packets r is) before);
        };
        earlier = λ k h q is.
            agree_kind sides gives subset k (λ l less. found.earlier l (omega arith)) q (packets q is) (found.earlier k h q (packets q is));
        differ = trace_differs trace found.kind least.at least.is differs;
      }

  pub found_by_sought : (built : Sides) (finding : Finding) → built ≡ sides → IsSought built finding → IsFinding sides finding
  found_by_sought built finding same sought = by_finding finding (subst (λ (s : Sides). IsSought s finding) same sought)
    where
      by_finding : (finding : Finding) → IsSought sides finding → IsFinding sides finding
      by_finding Equal right = agree_where_right sides gives subset right
      by_finding (Differing trace) found = first_trace trace found
