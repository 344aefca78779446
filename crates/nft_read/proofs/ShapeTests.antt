-- The test of a rule is the test of its contents.
use Rattle.std.proofs.Common.{◌≡◌, ℕ, refl}
use Rattle.nft_rules.specs.declared.table.Rule.{Rule}
use Rattle.nft_rules.specs.declared.table.Rule.TheVariants.{Map, Match}
use Rattle.nft_space.specs.inner.Checks.{is_rule}
use Rattle.nft_read.specs.Shape.{rule_shape}
use Rattle.nft_read.specs.inner.TableSteps.{is_shape}

pub shape_tested : (n : ℕ) (r : Rule) → is_rule n r ≡ is_shape n (rule_shape r)
shape_tested n (Map m) = refl
shape_tested n (Match r) = refl
