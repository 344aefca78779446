use Rattle.header_space.specs.Owners.{GoesBetween}
use Rattle.change_core.specs.inner.Gaining.{IsGained}
use Rattle.change_core.proofs.CandidateLaws.{listed_none, listed_some, none_counted, none_from, none_gained, none_to}
use Rattle.change_core.proofs.candidates.Candidates.push_pair.Goals as goal
use Rattle.change_core.proofs.candidates.Candidates.push_pair.Goals.{then-is_empty-via-then-is_empty, then-is_empty-via-else-is_empty+then-is_empty-2, then-is_empty-via-else-is_empty+else-is_empty-2+then-not-may_change}

pub returns-then-is_empty : goal.returns-then-is_empty
returns-then-is_empty c =
    let q = c.args.self.now.gained in
    let from = c.args.from.now in
    let to = c.args.to.now in
    listed_none (IsGained q.lost q.held) (GoesBetween from.ranges.items to.ranges.items) from.owner to.owner c.args.list.now.items
    (elim c.then-is_empty.branch [
      | then-is_empty-via-then-is_empty w ↦
          λ p goes gained.
          none_from from.ranges.items to.ranges.items (none_counted from.ranges.items from.ranges.len c.is_empty.result from.ranges.ok.0 c.is_empty.ensures w.if-is_empty.true) p goes
      | then-is_empty-via-else-is_empty+then-is_empty-2 w ↦
          λ p goes gained.
          none_to from.ranges.items to.ranges.items
          (none_counted to.ranges.items to.ranges.len w.is_empty-else-is_empty.result to.ranges.ok.0 w.is_empty-else-is_empty.ensures w.if-is_empty-2.true) p goes
      | then-is_empty-via-else-is_empty+else-is_empty-2+then-not-may_change w ↦
          none_gained q c.args.self.now.owners.now.rows.items from to c.args.self.now.count w.may_change.result c.requires.owners.shared c.requires.count c.requires.from
          c.requires.to w.may_change.ensures w.if-not-may_change.true
    ])

pub returns : goal.returns
returns c =
    let q = c.args.self.now.gained in
    let from = c.args.from.now in
    let to = c.args.to.now in
    listed_some (IsGained q.lost q.held) from.ranges.items to.ranges.items from.owner to.owner c.args.list.now.items c.in_ok-ranges.ranges
    c.push_some.result c.push_some.new.list.items (rw (c.deref.ensures.value, c.deref-2.ensures.value) at c.in_ok-ranges.ensures)
    c.push_some.ensures.some c.push_some.ensures.none
