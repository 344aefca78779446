use Rattle.std.proofs.Common.{◌≡◌, ℕ, ◌<◌, Some, length}
use Rattle.std.specs.Prelude.{slice_get}
use Rattle.nft_rules.specs.declared.table.MatchRule.{MatchRule}
use Rattle.nft_rules.specs.declared.table.Rule.TheVariants.{Match}
use Rattle.nft_emit.proofs.classes.are_rules.Given as goal

abbrev pub invariant-loop-i : goal.invariant-loop-i
invariant-loop-i l = record {
  long : length l.rules ≡ length l.wanted;
  same : (j : ℕ) (r : MatchRule) → j < l.i → slice_get l.wanted j ≡ Some r → slice_get l.rules j ≡ Some (Match r);
}
