use Rattle.std.proofs.Common.{Err, None, ap, arith, refl}
use Rattle.run_core.specs.Replies.{NoMemory, Stopped}
use Rattle.run_core.specs.inner.Views.{reply_view}
use Rattle.run_core.proofs.Taking.{took_whole, took_too_much}
use Rattle.run_core.proofs.reading.take.Goals as goal

pub returns-in-Ok : goal.returns-in-Ok
returns-in-Ok g c =
    let ensures = c.in-Ok.ensures in
    let bytes = c.in-Ok.bytes in
    took_whole (g.K.Format.format_of c.args.format.now) c.args.name.now bytes.items _ ensures.whole
    (record { told = ensures.files_unchanged; faults_monotone = ensures.faults_monotone; begins = ensures.opened_once }) ensures.no_fault (λ e. cc e)
    (omega (arith, bytes.ok.0, ensures.count)) (omega (arith, bytes.ok.0, ensures.within, c.most.ensures.most))

pub returns-in-Err-TooLong : goal.returns-in-Err-TooLong
returns-in-Err-TooLong g c =
    let ensures = c.in-Err-TooLong.ensures in
    let is = ap (λ why. Err why) c.in-Err-TooLong.field-0-is in
    took_too_much (g.K.Format.format_of c.args.format.now) c.args.name.now _ (reply_view c.too_long.result) (rw c.most.ensures.most at (ensures.longer is))
    (record { told = ensures.files_unchanged; faults_monotone = ensures.faults_monotone; begins = ensures.opened_once })
    (rw c.most.ensures.most at (ensures.too_long.0 is)) c.too_long.ensures

pub returns-in-Err-Read : goal.returns-in-Err-Read
returns-in-Err-Read g c =
    let ensures = c.in-Err-Read.ensures in
    let is = ap (λ why. Err why) c.in-Err-Read.field-0-is in
    rw c.error.ensures (Stopped None (record { began = record { told = ensures.files_unchanged; faults_monotone = ensures.faults_monotone; begins = ensures.opened_once }; held = ensures.read is; taken = tt }) refl)

pub returns-in-Err-Memory : goal.returns-in-Err-Memory
returns-in-Err-Memory g c =
    let ensures = c.in-Err-Memory.ensures in
    NoMemory (record { told = ensures.files_unchanged; faults_monotone = ensures.faults_monotone; begins = ensures.opened_once }) c.no_memory.ensures
