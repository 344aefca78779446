use Rattle.std.proofs.lemmas.Result.{IfOk-weaker}
use Rattle.changes_json.proofs.ChangesLaws.{changes_fit}
use Rattle.changes_json.proofs.WeakeningLaws.{weakening_fits}
use Rattle.report_core.specs.FlowPolicies.{flow_policy_of}
use Rattle.query_top.proofs.changes.changes_text.Goals as goal

pub changes_json-requires-clause-changes : goal.changes_json-requires-clause-changes
changes_json-requires-clause-changes c =
    let are = rw (c.policy_between.ensures, c.policy_between-2.ensures) at c.in_ok-changes.ensures.changes in
    rw (c.hosts.ensures.value, c.hosts-2.ensures.value, c.deref.ensures.value)
    (changes_fit (flow_policy_of c.args.old.now c.args.before.now) (flow_policy_of c.args.new.now c.args.after.now) c.in_ok-changes.changes.items are)

pub changes_json-requires-clause-weakening : goal.changes_json-requires-clause-weakening
changes_json-requires-clause-weakening c =
    rw (c.hosts.ensures.value, c.hosts-2.ensures.value)
    (weakening_fits c.args.old.now c.args.before.now c.args.new.now c.args.after.now c.args.weakening.now c.hosts.ensures.hosts.few c.requires.weakening)

pub returns : goal.returns
returns c =
    let are = rw (c.policy_between.ensures, c.policy_between-2.ensures) at c.in_ok-changes.ensures.changes in
    let complete = rw (c.policy_between.ensures, c.policy_between-2.ensures) at c.in_ok-changes.ensures.complete in
    let exact = rw (c.policy_between.ensures, c.policy_between-2.ensures) at c.in_ok-changes.ensures.exact in
    let told = rw (c.hosts.ensures.value, c.hosts-2.ensures.value, c.deref.ensures.value) at c.changes_json.ensures in
    IfOk-weaker c.changes_json.result _ _
    (λ text written is_weaker some. record {
      before = c.args.before.now;
      is_before = c.requires.before;
      after = c.args.after.now;
      is_after = c.requires.after;
      changes = c.in_ok-changes.changes.items;
      all = record { are = are; complete = complete; exact = exact };
      weakening = c.args.weakening.now;
      is_weakening = c.requires.weakening;
      some = some;
      written = written;
    })
    told
