-- A description, from its bytes to its table and from there to its raw description.
use Rattle.std.proofs.Common.{◌≡◌, ℕ, Bool, true, false, List, length, Option, Some, None, Result, Ok, Err, refl, ap, ◌∙◌, subst, sym}
use Rattle.std.specs.Option.{ok_or, option_or}
use Rattle.std.specs.Prelude.{◌≢◌, if◌then◌else◌, nat_lt, IfOk}
use Rattle.desc_core.specs.inner.TableFacts.{IsRight}
use Rattle.desc_core.proofs.TableFactsLaws.{IsRight-described, described-IsRight}
use Rattle.toml.specs.Data.{Members}
use Rattle.desc_core.specs.inner.AllConditions.{conditions}
use Rattle.desc_core.specs.Conditions.{byte_limit, table_conditions}
use Rattle.desc_core.specs.Description.{described, described_by, described_by_table, ok_unless_refused}
use Rattle.desc_core.proofs.DescriptionLaws.{form_first}
use Rattle.desc_core.specs.Document.{document}
use Rattle.desc_core.specs.inner.Reads.{Reads}
use Rattle.net_core.specs.Network.{Network}
use Rattle.desc_core.specs.inner.Order.{IsLeast, NoneHolds}
use Rattle.desc_core.specs.inner.Parts.{network_or, table_of}
use Rattle.desc_core.specs.RawNetwork.{network_of}
use Rattle.desc_core.proofs.OrderLaws.{IsLeast-described, IsLeast-table, NoneHolds-described, NoneHolds-table}
use Rattle.desc_core.specs.inner.Whole.{IsDescribed, IsDescribedByTable}
use Rattle.desc_core.proofs.WholeLaws.{IsDescribed-described, IsDescribedByTable-described}
use Rattle.desc_core.specs.declared.fault.DescFault.{DescFault}
use Rattle.desc_core.specs.declared.fault.DescFault.TheVariants.{Memory, Refused}
use Rattle.text_core.specs.FirstMatch.{first_of}
use Rattle.desc_form.specs.FormConditions.{form_conditions}
use Rattle.desc_form.specs.Refusals.{refused}
use Rattle.desc_form.specs.RawDescription.{written}
use Rattle.desc_form.specs.declared.refusal.Place.TheVariants.{Document}
use Rattle.desc_form.specs.declared.refusal.Refusal.{Refusal}
use Rattle.desc_form.specs.declared.refusal.Why.TheVariants.{TooLong, NotToml}

refused_by : {A : Type 0} (o p q : Option Refusal) (x : A) (r : Refusal) → o ≡ option_or p q → p ≡ Some r → ok_unless_refused o x ≡ Err r
refused_by o p q x r first here = rw (first, here) refl

passed_to : {A : Type 0} (o p q : Option Refusal) (x : A) → o ≡ option_or p q → p ≡ None → ok_unless_refused o x ≡ ok_unless_refused q x
passed_to o p q x first none = rw (first, none) refl

pub form_refused : (table : Members) (r : Refusal) → first_of (form_conditions table) ≡ Some r → described_by_table table ≡ Err r
unfolding described_by_table
form_refused table r here = refused_by _ _ _ (network_of (written table)) r (form_first table) here

pub form_passed : (table : Members) → first_of (form_conditions table) ≡ None → described_by_table table ≡ network_or (written table)
unfolding described_by_table network_or
form_passed table none = passed_to _ _ _ (network_of (written table)) (form_first table) none

-- The result of the table of the bytes, or the reason why there is none.
abbrev by_table : Result Members Refusal → Result Network Refusal
by_table (Ok table) = described_by_table table
by_table (Err r) = Err r

by_document : (read : Option Members) → described_by read ≡ by_table (ok_or read (refused NotToml Document))
by_document None = refl
by_document (Some table) = refl

by_length : (long : Bool) (read : Option Members)
    → (if long then Err (refused TooLong Document) else described_by read) ≡ by_table (if long then Err (refused TooLong Document) else ok_or read (refused NotToml Document))
by_length true read = refl
by_length false read = by_document read

described_is : (bytes : List ℕ) → described bytes ≡ by_table (table_of bytes)
unfolding described table_of
described_is bytes = by_length (nat_lt byte_limit (length bytes)) (document bytes)

pub table_refused : (bytes : List ℕ) (fault : DescFault) → Reads {A = Members} (Err fault) (table_of bytes) → Reads {A = Network} (Err fault) (described bytes)
table_refused bytes (Refused r) none = described_is bytes ∙ ap by_table none
table_refused bytes Memory none = tt

pub table_read : (bytes : List ℕ) (table : Members) → table_of bytes ≡ Ok table → described bytes ≡ described_by_table table
table_read bytes table read = described_is bytes ∙ ap by_table read

-- For bytes.
pub least_told : (bytes : List ℕ) (result : Result Network DescFault) → Reads result (described bytes) → (r : Refusal) → result ≡ Err (Refused r) → IsLeast 1 (conditions bytes) r
least_told bytes result given r is = IsLeast-described bytes r (subst (λ (x : Result Network DescFault). Reads x (described bytes)) is given)

pub whole_read : (bytes : List ℕ) (result : Result Network DescFault) → Reads result (described bytes) → IfOk result (λ d. IsDescribed bytes d)
whole_read bytes (Ok d) given = IsDescribed-described bytes d given
whole_read bytes (Err fault) given = tt

pub none_holds : (bytes : List ℕ) (result : Result Network DescFault) → Reads result (described bytes) → IfOk result (λ d. NoneHolds (conditions bytes))
none_holds bytes (Ok d) given = NoneHolds-described bytes d given
none_holds bytes (Err fault) given = tt

-- For a table.
pub table_least : (table : Members) (result : Result Network DescFault) → Reads result (described_by_table table) → (r : Refusal) → result ≡ Err (Refused r)
    → IsLeast 3 (table_conditions table) r
table_least table result given r is = IsLeast-table table r (subst (λ (x : Result Network DescFault). Reads x (described_by_table table)) is given)

pub table_whole : (table : Members) (result : Result Network DescFault) → Reads result (described_by_table table) → IfOk result (λ d. IsDescribedByTable table d)
table_whole table (Ok d) given = IsDescribedByTable-described table d given
table_whole table (Err fault) given = tt

pub table_none : (table : Members) (result : Result Network DescFault) → Reads result (described_by_table table) → IfOk result (λ d. NoneHolds (table_conditions table))
table_none table (Ok d) given = NoneHolds-table table d given
table_none table (Err fault) given = tt

pub table_right : (table : Members) (result : Result Network DescFault) → Reads result (described_by_table table) → IfOk result (λ d. IsRight table)
table_right table (Ok d) given = IsRight-described table d given
table_right table (Err fault) given = tt

pub never_refused : (table : Members) (result : Result Network DescFault) → Reads result (described_by_table table) → IsRight table → (r : Refusal) → result ≢ Err (Refused r)
never_refused table result given right r is =
    let refused : described_by_table table ≡ Err r = subst (λ (x : Result Network DescFault). Reads x (described_by_table table)) is given in
    let never : Ok (network_of (written table)) ≡ Err r = sym (described-IsRight table right) ∙ refused in
    cc
