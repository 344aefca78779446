-- The headline, from the results of the commands that write rules and descriptions, and of the command that compares rules.
use Rattle.std.proofs.Common.{◌≡◌, inl, inr, ℕ, List, Option, Some, subst}
use Rattle.rules_space.specs.Rules.{AnyRules}
use Rattle.edge_io.specs.Observable.{Files}
use Rattle.net_core.specs.Network.{Network}
use Rattle.pkt_core.specs.Firewall.{Filter}
use Rattle.std.specs.FinMap.{get}
use Rattle.std.specs.Prelude.{IfSome, codes}
use Rattle.topos_top.specs.Command.{Command, Check, Policy, Rules, Repair, Trace, Sample, Migrate, Audit, Edit, Local, LocalTable, ParseAs}
use Rattle.run_core.specs.OfPolicy.{ForwardsForNetwork}
use Rattle.topos_top.specs.Audit.{audit_outcomes}
use Rattle.topos_top.specs.Commands.{plan_of}
use Rattle.run_core.specs.CommandPlan.{HoldsAtStop}
use Rattle.run_core.specs.Dialects.{rule_dialect_of}
use Rattle.run_core.specs.Outcomes.{AnyOutcome, EndsWithGuarantee}
use Rattle.topos_top.specs.Local.{EnforcesPolicyLocally, LocalDialect, local_chains, local_outcomes, local_table}
use Rattle.topos_top.specs.Promises.{HasCause, MeetsHeadline}
use Rattle.topos_top.specs.Repair.{repair_outcomes}
use Rattle.run_core.specs.Replies.{StopsRunAt}
use Rattle.run_core.specs.Reply.{Reply}
use Rattle.topos_top.specs.Rules.{ListedHolds, EnforcesPolicyText, rules_outcomes}
use Rattle.run_core.specs.Shelf.{ShelfChange, since}
use Rattle.run_core.specs.SinkChanges.{SinkChange, Appends}
use Rattle.run_core.specs.declared.dialect.Dialect.{Dialect}
use Rattle.run_core.specs.FileFormats.{FileFormat}
use Rattle.run_core.specs.declared.status.Status.TheVariants.{Done}
use Rattle.topos_top.proofs.ParseLaws.{one_ask}
use Rattle.topos_top.proofs.CommandLaws.{kept}
use Rattle.run_core.proofs.FormatLaws.{IsLawfulFormat}
use Rattle.run_core.proofs.OutcomesLaws.{AreKept}
use Rattle.run_core.proofs.CommandPlanLaws.{holds_at_stop}
use Rattle.run_core.proofs.RunLaws.{stop_status}

-- The only outcome of the two commands with status done is that of the rules.
by_rules : (dialect : Dialect) (d : Network) (text : List ℕ) → AnyOutcome (EndsWithGuarantee Done text) (rules_outcomes dialect d) → ListedHolds d × EnforcesPolicyText (rule_dialect_of dialect) d text
by_rules dialect d text (inl violated) = let other = violated.0.0 in cc other
by_rules dialect d text (inr (inl hindered)) = let other = hindered.0.0 in cc other
by_rules dialect d text (inr (inr (inl written))) = (written.0.1.0, written.1)
by_rules dialect d text (inr (inr (inr none))) = absurd none

by_repair : (dialect : Dialect) (d : Network) (text : List ℕ) → AnyOutcome (EndsWithGuarantee Done text) (repair_outcomes dialect d) → EnforcesPolicyText (rule_dialect_of dialect) d text
by_repair dialect d text (inl hindered) = let other = hindered.0.0 in cc other
by_repair dialect d text (inr (inl written)) = written.1
by_repair dialect d text (inr (inr none)) = absurd none

by_local : (dialect : LocalDialect) (d : Network) (host text : List ℕ) → AnyOutcome (EndsWithGuarantee Done text) (local_outcomes dialect d host)
    → ListedHolds d × EnforcesPolicyLocally dialect d host text
by_local dialect d host text (inl violated) = let other = violated.0.0 in cc other
by_local dialect d host text (inr (inl barred)) = let other = barred.0.0 in cc other
by_local dialect d host text (inr (inr (inl written))) = (written.0.1.0, written.1)
by_local dialect d host text (inr (inr (inr none))) = absurd none

by_audit : (d : Network) (filter : Filter) (rules : AnyRules) (text : List ℕ) → AnyOutcome (EndsWithGuarantee Done text) (audit_outcomes d filter rules)
    → (text ≡ codes "equal\n") × ForwardsForNetwork d filter
by_audit d filter rules text (inl many) = let other = many.0.0 in cc other
by_audit d filter rules text (inr (inl differ)) = let other = differ.0.0 in cc other
by_audit d filter rules text (inr (inr (inl equal))) = (equal.0.2, equal.1)
by_audit d filter rules text (inr (inr (inr none))) = absurd none

meets : (command : Command) (shelf : ShelfChange) (out : SinkChange)
    → HoldsAtStop shelf.only_failures (plan_of command) shelf.before (λ format file at. ⊥) (λ outcomes at. (shelf.after ≡ at) × ((text : List ℕ) × AnyOutcome (EndsWithGuarantee Done text) outcomes × Appends out text))
    → MeetsHeadline command shelf out
meets (Rules dialect file) shelf out (inl stopped) = absurd stopped
meets (Rules dialect file) shelf out (inr on) =
    let end = by_rules dialect on.said on.next.1.0 on.next.1.1 in
    record { bytes = on.bytes; held = on.held; said = on.said; read = on.read; so = (end.0, (on.next.1.0, on.next.1.2, end.1)) }
meets (Repair dialect file) shelf out (inl stopped) = absurd stopped
meets (Repair dialect file) shelf out (inr on) =
    record { bytes = on.bytes; held = on.held; said = on.said; read = on.read; so = (on.next.1.0, on.next.1.2, by_repair dialect on.said on.next.1.0 on.next.1.1) }
meets (Migrate file) shelf out (inl stopped) = absurd stopped
meets (Migrate file) shelf out (inr on) = elim on.next.1.1 [
  | inl end ↦ record { bytes = on.bytes; held = on.held; said = on.said; read = on.read; so = subst (Appends out) end.1 on.next.1.2 }
  | inr none ↦ absurd none
]
meets (Local file host) shelf out (inl stopped) = absurd stopped
meets (Local file host) shelf out (inr on) =
    let end = by_local local_chains on.said host on.next.1.0 on.next.1.1 in
    record { bytes = on.bytes; held = on.held; said = on.said; read = on.read; so = (end.0, (on.next.1.0, on.next.1.2, end.1)) }
meets (LocalTable file host) shelf out (inl stopped) = absurd stopped
meets (LocalTable file host) shelf out (inr on) =
    let end = by_local local_table on.said host on.next.1.0 on.next.1.1 in
    record { bytes = on.bytes; held = on.held; said = on.said; read = on.read; so = (end.0, (on.next.1.0, on.next.1.2, end.1)) }
meets (Audit dialect file rules) shelf out (inl stopped) = absurd stopped
meets (Audit dialect file rules) shelf out (inr on) = elim on.next [
  | inl stopped ↦ absurd stopped
  | inr second ↦
      let end = by_audit on.said ((rule_dialect_of dialect).filter second.said) ((rule_dialect_of dialect).audited second.said) second.next.1.0 second.next.1.1 in
      record {
        bytes = on.bytes;
        held = on.held;
        said = on.said;
        read = on.read;
        so = record {
          bytes = second.bytes;
          held = subst (λ (t : Option Files). IfSome t (λ files. get files rules ≡ Some second.bytes)) on.took.began.told second.held;
          said = second.said;
          read = second.read;
          so = (end.1, subst (Appends out) end.0 second.next.1.2);
        };
      }
]
meets (Check file) shelf out came = tt
meets (Policy file) shelf out came = tt
meets (Trace dialect rules events) shelf out came = tt
meets (Sample hosts) shelf out came = tt
meets (Edit file edits) shelf out came = tt

-- No file stops a run with status done.
never_done : (seen : ShelfChange) (format : FileFormat) (file : List ℕ) (given : Reply) → IsLawfulFormat format → StopsRunAt seen format file given → given.status ≡ Done → ⊥
never_done seen format file given laws stops done = stop_status seen format file (λ t. t ≡ Done → ⊥) given laws (λ e. cc e) (λ e. cc e) (λ e. cc e) (λ e. cc e) stops done

pub headline_law : (words : List (List ℕ)) (shelf : ShelfChange) (out err : SinkChange) → HasCause Done words shelf out err
    → (command : Command) → ParseAs words command → MeetsHeadline command shelf out
headline_law words shelf out err wrote command asked =
    subst (λ (a : Command). MeetsHeadline a shelf out) (one_ask words wrote.command command wrote.asked asked) (meets wrote.command shelf out
    (holds_at_stop AreKept shelf.only_failures (plan_of wrote.command) shelf.before _ _ _ _ (kept wrote.command)
    (λ format file at laws here. never_done (since at shelf) format file here.0 laws here.1 here.2) (λ outcomes at owed here. (here.0, (here.1.0, here.1.1, here.1.2.0))) wrote.along))
