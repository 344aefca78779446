-- Whether bytes are a table.
use Rattle.std.proofs.Common.{◌≡◌, ℕ, ◌≤◌, ◌<◌, false, List, length, Some, None, Ok, Err, inl, inr, arith}
use Rattle.std.proofs.lemmas.Bool.{cases_Bool}
use Rattle.std.proofs.lemmas.Bool.Decides.{nat_tests}
use Rattle.std.proofs.lemmas.Str.{is_utf8-from_IsUtf8, IsUtf8-from_is_utf8}
use Rattle.std.specs.Prelude.{IsUtf8, nat_lt}
use Rattle.std.specs.Str.{is_utf8}
use Rattle.toml.specs.Data.{Members}
use Rattle.toml.specs.Parse.{parse_document}
use Rattle.desc_core.specs.Document.{document}
use Rattle.desc_core.specs.inner.Parts.{table_of}
use Rattle.desc_core.specs.Conditions.{byte_limit}
use Rattle.desc_form.specs.Refusals.{refused}
use Rattle.desc_form.specs.declared.refusal.Place.TheVariants.{Document}
use Rattle.desc_form.specs.declared.refusal.Why.TheVariants.{TooLong, NotToml}

pub too_long : (bytes : List ℕ) → byte_limit < length bytes → table_of bytes ≡ Err (refused TooLong Document)
unfolding table_of
too_long bytes long = grind (arith, nat_tests)

short : (bytes : List ℕ) → length bytes ≤ byte_limit → nat_lt byte_limit (length bytes) ≡ false
short bytes fits = grind (arith, nat_tests)

pub well_read : (bytes : List ℕ) (table : Members) → length bytes ≤ byte_limit → IsUtf8 bytes → parse_document bytes ≡ Some table → table_of bytes ≡ Ok table
unfolding table_of document
well_read bytes table fits utf8 read = rw (short bytes fits, is_utf8-from_IsUtf8 bytes utf8, read)

pub not_toml : (bytes : List ℕ) → length bytes ≤ byte_limit → (IsUtf8 bytes → parse_document bytes ≡ None) → table_of bytes ≡ Err (refused NotToml Document)
unfolding table_of document
not_toml bytes fits refused =
    elim (cases_Bool (is_utf8 bytes)) [
      | inl utf8 ↦ rw (short bytes fits, utf8, refused (IsUtf8-from_is_utf8 bytes utf8))
      | inr other ↦ rw (short bytes fits, other)
    ]
