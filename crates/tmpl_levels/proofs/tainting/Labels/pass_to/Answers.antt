use Rattle.std.proofs.Common.{◌<◌, ◌^◌, arith, eq-eqb}
use Rattle.std.proofs.lemmas.Bool.{eqb-true}
use Rattle.tmpl_levels.proofs.Bits.{passes_from_mask, mask_from_passes}
use Rattle.tmpl_levels.proofs.tainting.Labels.pass_to.Goals as goal

pub returns : goal.returns
returns c =
    let taints : c.args.self.taints < 2 ^ 64 = omega arith in
    let untaints : c.args.self.untaints < 2 ^ 64 = omega arith in (
      λ same. passes_from_mask _ _ _ taints untaints (eqb-true _ _ same),
      λ passes. eq-eqb _ _ (mask_from_passes _ _ _ taints untaints passes),
    )
