use Rattle.std.proofs.Common.{◌≡◌, ap, length, refl, subst, ◌∙◌}
use Rattle.emit_core.specs.Layout.{layout}
use Rattle.flow_set.specs.FlowSet.{SetOfFlows}
use Rattle.host_net.specs.Site.{site_with}
use Rattle.pkt_core.specs.FlowPolicy.{FlowPolicy, policy_with}
use Rattle.report_core.specs.FlowPolicies.{flow_policy_of}
use Rattle.sample_core.specs.Sample.{IsTableLines}
use Rattle.sample_core.specs.inner.SampleCounts.{AreRunCounts}
use Rattle.sample_core.proofs.printed.counts_by.Goals as goal

pub returns : goal.returns
returns c =
    let d = c.args.description.now in
    let p = c.args.policy.now in
    let run = c.in_ok-run.run' in
    let same : c.new-asked.result ≡ flow_policy_of d p =
    c.new-asked.ensures
    ∙ (λ i. policy_with (site_with (c.hosts.ensures.value i) (c.services.ensures.value i))
    (c.permitted-permitted.ensures.value i).flows (c.stateful-stateful.ensures.value i).flows) in
    let ran = subst (λ (x : FlowPolicy). AreRunCounts c.args.count (layout x) run.rules run.events run.forwarded)
    same c.in_ok-run.ensures in
    record {
      found = record {
        network = d;
        described = c.requires.described;
        policy = p;
        is_policy = c.requires.policy;
        offences = c.in_ok-offending.ensures.offences;
        are_offences = c.in_ok-offending.ensures.found;
        table = c.in_ok-table.table;
        is_table = subst (λ (x : FlowPolicy). IsTableLines x c.in_ok-table.table) same c.in_ok-table.ensures;
        results = ran.passed.results;
        run = ran.passed.run;
      };
      hosts = c.count.ensures.value ∙ ap (λ (x : FlowPolicy). length x.site.hosts) same;
      asked = c.len.ensures ∙ ap (λ (set : SetOfFlows). length set.flows) c.asked.ensures.value;
      offending = c.in_ok-offending.ensures.counted;
      permitted = c.len-2.ensures ∙ ap (λ (set : SetOfFlows). length set.flows) c.permitted-permitted.ensures.value;
      stateful = c.len-3.ensures ∙ ap (λ (set : SetOfFlows). length set.flows) c.stateful-stateful.ensures.value;
      rules = ran.lines;
      table = refl;
      events = ran.all;
      forwarded = ran.passed.counted;
    }
