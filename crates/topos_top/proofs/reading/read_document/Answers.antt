use Rattle.std.proofs.Common.{refl}
use Rattle.std.proofs.lemmas.Result.{err_from_is_err_and}
use Rattle.topos_top.specs.FileFormats.{document}
use Rattle.run_core.proofs.Taking.{description_refused}
use Rattle.topos_top.proofs.reading.read_document.Goals as goal

pub returns-in_err-migrate : goal.returns-in_err-migrate
returns-in_err-migrate g c =
    let p = err_from_is_err_and c.from_residual-in_err-migrate.result c.from_residual-in_err-migrate.ensures.1 in
    rw p.1 (description_refused document (λ bytes line none. none) refl _ c.args.name.now c.in_ok-bytes.bytes.items c.in_err-migrate.field-0.0 _ c.in_ok-bytes.ensures
    (λ why is. rw (is, c.deref.ensures.value) at c.in_err-migrate.ensures) p.2)
