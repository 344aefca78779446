use Rattle.std.proofs.Common.{◌<◌, ℕ, length, sym, ap, option_map}
use Rattle.std.proofs.lemmas.List.Elements.{All-push}
use Rattle.attr_core.specs.Assigns.{Given}
use Rattle.toml.specs.View.{table_view}
use Rattle.attr_core.specs.declared.assign.Assign.{Assign}
use Rattle.host_net.proofs.NamedLaws.{host_named_within}
use Rattle.desc_core.proofs.KnownLemmas.{assigns_more}
use Rattle.desc_core.proofs.known.assigns_among.Goals as goal

pub loop-assign-preserved : goal.loop-assign-preserved
loop-assign-preserved c =
    let a : Assign = record { host = c.in-Some.host; table = c.assign-item.result.table } in
    let with_table : ℕ → Given = λ host. record { host = host; table = table_view c.assign-item.result.table.now } in
    record {
      hosts =
          rw c.in_ok-push.ensures.items (All-push (λ (b : Assign). b.host < length c.args.hosts.now) c.loop-assign.assigns.items a c.loop-assign.invariant.hosts
          (host_named_within c.args.hosts.now _ _ (sym c.in-Some.ensures)));
      grown =
          assigns_more c.args.hosts.now c.loop-assign.assigns.items c.push.new.self.items a c.assign-item.result c.args.written.now c.loop-assign.assign-index _ c.in_ok-push.ensures.items c.loop-assign-test.true c.assign-item.is
          (ap (option_map with_table) (sym (rw c.as_bytes.ensures.value at c.in-Some.ensures)))
          c.loop-assign.invariant.grown;
    }
