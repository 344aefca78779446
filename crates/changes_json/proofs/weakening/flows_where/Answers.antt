use Rattle.std.proofs.Common.{◌∙◌}
use Rattle.change_core.proofs.GapLaws.{inserted_size}
use Rattle.changes_json.specs.inner.Wanting.{is_wanted}
use Rattle.changes_json.proofs.WeakeningLaws.{where_more}
use Rattle.changes_json.proofs.weakening.flows_where.Goals as goal

pub loop-finding-preserved : goal.loop-finding-preserved
loop-finding-preserved c =
    let kept = c.loop-finding.invariant in
    record {
      size = inserted_size c.loop-finding.set c.insert_if.new.set c.finding-item.result.flow c.has.result c.insert_if.ensures ∙ kept.size;
      flows =
          where_more (is_wanted c.args.wanted) c.loop-finding.set c.insert_if.new.set c.args.found.now c.loop-finding.finding-index c.finding-item.result
          c.has.result c.loop-finding-test.true c.finding-item.is kept.flows c.has.ensures c.insert_if.ensures;
    }
