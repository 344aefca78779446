-- The result of reading a file, or of failing to read it, is the observation of the call.
use Rattle.std.proofs.Common.{◌≡◌, ◌∙◌, ℕ, ◌+◌, ◌<◌, ◌≤◌, ◌⊎◌, inl, inr, min, List, length, Option, None, Some, Err, refl, sym, ap, arith, replicate}
use Rattle.std.proofs.lemmas.List.{length-replicate}
use Rattle.std.specs.Prelude.{IfSome, IsSomeAnd}
use Rattle.std.specs.FinMap.{get}
use Rattle.desc_core.specs.Description.{described}
use Rattle.desc_core.specs.declared.fault.DescFault.{DescFault}
use Rattle.desc_core.specs.declared.fault.DescFault.TheVariants as desc
use Rattle.desc_form.specs.declared.refusal.Refusal.{Refusal}
use Rattle.edge_io.specs.Observable.{Files}
use Rattle.report_core.specs.RefusalLine.{refusal_text}
use Rattle.run_core.specs.FileFormats.{FileFormat, IsNoDescription, IsRefused}
use Rattle.run_core.specs.inner.Reads.{ConsumesFile}
use Rattle.run_core.specs.inner.Views.{description_reply}
use Rattle.run_core.specs.Replies.{StopsRunAt, NoMemory, Stopped}
use Rattle.run_core.specs.Reply.{Reply, error}
use Rattle.run_core.specs.Shelf.{BeganOne, ShelfChange, Holds}
use Rattle.run_core.specs.declared.status.Status.{Status}
use Rattle.run_core.specs.declared.status.Status.TheVariants.{BadDescription}

-- A file that was read completely.
pub took_whole : {E : Type 0} (format : FileFormat) (file bytes : List ℕ) (shelf : ShelfChange) → Holds shelf.before file bytes → BeganOne shelf.before shelf.after
    → (shelf.only_failures → E ⊎ (shelf.after.faults ≡ shelf.before.faults)) → (E → ⊥)
    → length bytes ≡ shelf.after.taken → length bytes ≤ format.most → ConsumesFile shelf format file bytes
took_whole format file bytes shelf held began fault none taken within = record {
  held = held;
  took = record {
    began = began;
    no_fault = λ only. elim (fault only) [ inl e ↦ absurd (none e) | inr same ↦ same ];
    taken = omega (arith, taken, within);
  };
}

-- For every limit there are bytes beyond it.
some_longer : (limit : ℕ) → (bytes : List ℕ) × (limit < length bytes)
some_longer limit = (replicate (limit + 1) 0, rw length-replicate (omega arith))

-- The bytes of an observable file that is too long.
told_longer : (limit : ℕ) (held : Option (List ℕ)) → IsSomeAnd held (λ bytes. limit < length bytes)
    → (bytes : List ℕ) × (held ≡ Some bytes) × (limit < length bytes)
told_longer limit None longer = absurd longer
told_longer limit (Some bytes) longer = (bytes, refl, longer)

-- Bytes that are too long are the content of the file, if it is observable.
too_long_seen : (limit : ℕ) (file : List ℕ) (told : Option Files)
    → IfSome told (λ files. IsSomeAnd (get files file) (λ bytes. limit < length bytes))
    → (bytes : List ℕ) × IfSome told (λ files. get files file ≡ Some bytes) × (limit < length bytes)
too_long_seen limit file None longer = let some = some_longer limit in (some.0, tt, some.1)
too_long_seen limit file (Some files) longer = told_longer limit (get files file) longer

-- A file of which one byte beyond the limit was read: an observable file is longer than the limit, and an unobservable one may be any file
-- that is.
pub took_too_much : (format : FileFormat) (file : List ℕ) (shelf : ShelfChange) (given : Reply) → IfSome shelf.before.told (λ files. IsSomeAnd (get files file) (λ bytes. format.most < length bytes))
    → BeganOne shelf.before shelf.after → shelf.after.taken ≡ format.most + 1 → ((bytes : List ℕ) → format.most < length bytes → IsRefused format bytes given)
    → StopsRunAt shelf format file given
took_too_much format file shelf given longer began taken refused =
    let seen = too_long_seen format.most file shelf.before.told longer in
    Stopped (Some seen.0) (record { began = began; held = seen.1; taken = counted seen.0 seen.2 }) (refused seen.0 seen.2)
  where
    counted : (bytes : List ℕ) → format.most < length bytes → shelf.after.taken ≡ min (length bytes) (format.most + 1)
    counted bytes longer = omega (arith, longer, taken)

-- Bytes that are rejected.
pub refused_whole : (format : FileFormat) (file bytes : List ℕ) (shelf : ShelfChange) (given : Reply) → ConsumesFile shelf format file bytes → IsRefused format bytes given → StopsRunAt shelf format file given
refused_whole format file bytes shelf given took refused =
    Stopped (Some bytes) (record { began = took.took.began; held = took.held; taken = took.took.taken }) refused

-- A description that is refused, or for which memory runs out.
pub description_refused : (format : FileFormat) → ((bytes line : List ℕ) → IsNoDescription bytes line → format.Refuses bytes line) → format.refused_as ≡ BadDescription
    → (shelf : ShelfChange) (file bytes : List ℕ) (fault : DescFault) (given : Reply) → ConsumesFile shelf format file bytes
    → ((why : Refusal) → fault ≡ desc.Refused why → described bytes ≡ Err why) → given ≡ description_reply fault → StopsRunAt shelf format file given
description_refused format refuses status shelf file bytes (desc.Refused why) given took cause is =
    refused_whole format file bytes shelf given took (record {
      line = refusal_text why;
      refuses = refuses bytes (refusal_text why) (why, cause why refl, refl);
      replied = is ∙ ap (λ (ended : Status). error ended (refusal_text why)) (sym status);
    })
description_refused format refuses status shelf file bytes desc.Memory given took cause is = NoMemory took.took.began is
