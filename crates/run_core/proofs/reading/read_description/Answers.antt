use Rattle.std.proofs.Common.{refl}
use Rattle.std.proofs.lemmas.Result.{err_from_is_err_and}
use Rattle.run_core.specs.FileFormats.{description}
use Rattle.run_core.proofs.Taking.{description_refused}
use Rattle.run_core.proofs.reading.read_description.Goals as goal

pub returns-in_err-describe : goal.returns-in_err-describe
returns-in_err-describe g c =
    let p = err_from_is_err_and c.from_residual-in_err-describe.result c.from_residual-in_err-describe.ensures.1 in
    rw p.1 (description_refused description (λ bytes line none. none) refl _ c.args.name.now c.in_ok-bytes.bytes.items c.in_err-describe.field-0.0 _ c.in_ok-bytes.ensures
    (λ why is. rw (is, c.deref.ensures.value) at c.in_err-describe.ensures.given) p.2)
