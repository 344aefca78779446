-- Lemmas on one line.
use Rattle.std.proofs.Common.{ℕ, List}
use Rattle.std.specs.Prelude.{IsTrue}
use Rattle.text_core.specs.inner.TextAnswers.{HasReason}
use Rattle.text_core.specs.declared.faults.LineFault.{LineFault}
use Rattle.text_core.specs.declared.faults.LineFault.TheVariants.{Bad, Memory}
use Rattle.ofp_rules.specs.declared.entry.Entry.{Entry}
use Rattle.ofp_rules.specs.Matching.{asks_of_ip}
use Rattle.ofp_read.specs.declared.fault.OfpWhy.{OfpWhy}
use Rattle.ofp_read.specs.declared.fault.OfpWhy.TheVariants as whys
use Rattle.ofp_read.specs.Grammar.{Writes}
use Rattle.ofp_read.specs.inner.State.{IsLeftOut}
use Rattle.ofp_read.specs.TextLines.{IsBad, too_many, ambiguous}

pub asks_written : (line : List ℕ) (e : Entry) → Writes line e → IsTrue (asks_of_ip e)
asks_written line e writes = writes.1

bad_entry : (before : List Entry) (line : List ℕ) (e : Entry) (why : OfpWhy) → Writes line e → IsLeftOut before e why
    → IsBad before line why
bad_entry before line e whys.TooLong writes out = absurd out
bad_entry before line e whys.BadLine writes out = absurd out
bad_entry before line e whys.UnknownField writes out = absurd out
bad_entry before line e whys.BadValue writes out = absurd out
bad_entry before line e whys.NeedsIp writes out = absurd out
bad_entry before line e whys.UnknownAction writes out = absurd out
bad_entry before line e whys.Ambiguous writes out = ambiguous e out.1.1 out.1.0 writes out.0 out.1.2 out.1.3
bad_entry before line e whys.TooMany writes out = too_many e writes out

pub entry_told : (before : List Entry) (line : List ℕ) (e : Entry) (fault : LineFault OfpWhy) → Writes line e
    → HasReason (IsLeftOut before e) fault → HasReason (IsBad before line) fault
entry_told before line e (Bad why) writes out = bad_entry before line e why writes out
entry_told before line e Memory writes out = tt
