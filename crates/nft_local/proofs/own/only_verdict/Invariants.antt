use Rattle.std.proofs.Common.{◌≡◌, length}
use Rattle.nft_local.specs.inner.Entries.{OnlyAt}
use Rattle.nft_local.proofs.own.only_verdict.Given as goal

abbrev pub invariant-loop-other : goal.invariant-loop-other
invariant-loop-other l = record {
  whole : length l.verdicts.items ≡ l.other;
  only : OnlyAt l.host l.verdict l.verdicts.items;
}
