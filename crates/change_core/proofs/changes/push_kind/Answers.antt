use Rattle.std.proofs.Common.{map, sym}
use Rattle.std.proofs.lemmas.Result.{on_ok_weaker}
use Rattle.change_core.specs.inner.Changing.{change_of}
use Rattle.change_core.proofs.CandidateLaws.{owners_alike}
use Rattle.change_core.proofs.ChangeLaws.{changes_of_pairs}
use Rattle.change_core.proofs.changes.push_kind.Goals as goal

pub gained_by_pairs-requires-clause-owners : goal.gained_by_pairs-requires-clause-owners
gained_by_pairs-requires-clause-owners c =
    owners_alike _ _ c.args.new.now.site.hosts c.args.old.now.site.hosts c.args.owners.now (sym c.by.ensures.new) (sym c.by.ensures.old) c.requires

pub returns : goal.returns
returns c =
    on_ok_weaker c.push_all.result
    (λ is. (
      map (change_of c.args.kind c.count-2.result) c.in_ok-pairs.pairs.items,
      is,
      changes_of_pairs c.args.old.now c.args.new.now c.args.kind _ c.by.ensures.gained c.args.owners.now.named.items c.requires.named
          c.in_ok-pairs.pairs.items c.in_ok-pairs.ensures c.count-2.result c.count-2.ensures.value,
    ))
    c.push_all.ensures
