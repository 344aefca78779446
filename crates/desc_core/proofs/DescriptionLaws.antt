-- Consequences for descriptions that are accepted, and for those that are refused.
use Rattle.std.proofs.Common.{◌≡◌, ℕ, ◌<◌, true, false, Bool, List, [], ◌∷◌, ◌++◌, length, Option, Some, None, Ok, Err, refl, ap, sym, ◌∙◌}
use Rattle.std.proofs.lemmas.Bool.{lt-ltb}
use Rattle.std.specs.Option.{option_map_or, option_or}
use Rattle.std.specs.Prelude.{nat_lt, is_none, if◌then◌else◌}
use Rattle.toml.specs.Data.{Members}
use Rattle.desc_core.specs.inner.AllConditions.{conditions, not_toml, too_long}
use Rattle.desc_core.specs.Conditions.{byte_limit, table_conditions}
use Rattle.desc_core.specs.Description.{described, described_by, described_by_table, ok_unless_refused}
use Rattle.desc_core.specs.Document.{document}
use Rattle.net_core.specs.Network.{Network}
use Rattle.desc_core.specs.RawNetwork.{network_of}
use Rattle.desc_core.specs.UseConditions.{use_conditions}
use Rattle.text_core.specs.FirstMatch.{first_of, some_if}
use Rattle.text_core.proofs.FirstsLaws.{neither}
use Rattle.desc_form.specs.FormConditions.{form_conditions}
use Rattle.desc_form.specs.Refusals.{refused}
use Rattle.desc_form.specs.RawDescription.{written}
use Rattle.desc_form.specs.declared.refusal.Place.TheVariants.{Document}
use Rattle.desc_form.specs.declared.refusal.Refusal.{Refusal}
use Rattle.desc_form.specs.declared.refusal.Why.TheVariants.{NotToml, TooLong}
use Rattle.desc_form.specs.HostConditions.{host_conditions}

-- No condition applies to the table, and d is its network.
pub record IsAccepted (table : Members) (d : Network) : Type 0 where
  pub form : first_of (form_conditions table) ≡ None
  pub hosts : first_of (host_conditions (written table)) ≡ None
  pub uses : first_of (use_conditions (written table)) ≡ None
  pub network : network_of (written table) ≡ d

-- The bytes are a table that describes d.
pub record IsTableOf (bytes : List ℕ) (d : Network) : Type 0 where
  pub table : Members
  pub document : document bytes ≡ Some table
  pub says : described_by_table table ≡ Ok d

-- The first of two concatenated lists is that of the first list, otherwise that of the second.
pub first_of-append : {A : Type 0} (xs ys : List (Option A)) → first_of (xs ++ ys) ≡ option_or (first_of xs) (first_of ys)
first_of-append [] ys = refl
first_of-append (None ∷ xs) ys = first_of-append xs ys
first_of-append (Some x ∷ xs) ys = refl

-- The result if nothing is refused, and the refusal otherwise.
pub passed : {A : Type 0} (o : Option Refusal) (x y : A) → ok_unless_refused o x ≡ Ok y → (o ≡ None) × (x ≡ y)
passed None x y said = (refl, cc)
passed (Some r) x y said = cc

pub told_by : {A : Type 0} (o : Option Refusal) (x : A) (r : Refusal) → ok_unless_refused o x ≡ Err r → o ≡ Some r
told_by None x r said = cc
told_by (Some s) x r said = cc

-- ---- tables

-- The conditions on a table in groups: its form, its hosts, and the uses of the hosts.
pub form_first : (table : Members) → first_of (table_conditions table) ≡ option_or (first_of (form_conditions table)) (first_of (host_conditions (written table) ++ use_conditions (written table)))
unfolding table_conditions
form_first table = first_of-append (form_conditions table) (host_conditions (written table) ++ use_conditions (written table))

pub by_groups : (table : Members)
    → first_of (table_conditions table) ≡ option_or (first_of (form_conditions table)) (option_or (first_of (host_conditions (written table))) (first_of (use_conditions (written table))))
by_groups table =
    form_first table ∙ ap (option_or (first_of (form_conditions table))) (first_of-append (host_conditions (written table)) (use_conditions (written table)))

pub accepted : (table : Members) (d : Network) → described_by_table table ≡ Ok d → IsAccepted table d
unfolding described_by_table
accepted table d said =
    let (none, network) = passed (first_of (table_conditions table)) (network_of (written table)) d said in
    let (form, content) = neither (first_of (form_conditions table)) _ (sym (by_groups table) ∙ none) in
    let (hosts, uses) = neither (first_of (host_conditions (written table))) _ content in
    record { form = form; hosts = hosts; uses = uses; network = network }

pub told_of_table : (table : Members) (r : Refusal) → described_by_table table ≡ Err r → first_of (table_conditions table) ≡ Some r
unfolding described_by_table
told_of_table table r said = told_by (first_of (table_conditions table)) (network_of (written table)) r said

pub none_of_table : (table : Members) (d : Network) → described_by_table table ≡ Ok d → first_of (table_conditions table) ≡ None
unfolding described_by_table
none_of_table table d said = (passed (first_of (table_conditions table)) (network_of (written table)) d said).0

-- ---- bytes

by_document : (bytes : List ℕ) (read : Option Members) (d : Network) → document bytes ≡ read → described_by read ≡ Ok d → IsTableOf bytes d
by_document bytes None d is said = cc
by_document bytes (Some table) d is said = record { table = table; document = is; says = said }

by_length : (bytes : List ℕ) (long : Bool) (d : Network)
    → (if long then Err (refused TooLong Document) else described_by (document bytes)) ≡ Ok d → IsTableOf bytes d
by_length bytes true d said = cc
by_length bytes false d said = by_document bytes (document bytes) d refl said

pub table_of_bytes : (bytes : List ℕ) (d : Network) → described bytes ≡ Ok d → IsTableOf bytes d
unfolding described
table_of_bytes bytes d said = by_length bytes (nat_lt byte_limit (length bytes)) d said

-- Bytes beyond the size limit are refused, regardless of their content.
pub described-too_long : (bytes : List ℕ) → byte_limit < length bytes → described bytes ≡ Err (refused TooLong Document)
unfolding described
described-too_long bytes longer = let above = lt-ltb _ _ longer in rw above refl

-- The reported refusal of bytes is the first of the conditions that apply.
told_of_document : (read : Option Members) (r : Refusal) → described_by read ≡ Err r
    → first_of (some_if (is_none read) (refused NotToml Document) ∷ option_map_or table_conditions read []) ≡ Some r
told_of_document None r said = cc
told_of_document (Some table) r said = told_of_table table r said

told_by_length : (long : Bool) (read : Option Members) (r : Refusal)
    → (if long then Err (refused TooLong Document) else described_by read) ≡ Err r
    → first_of (some_if long (refused TooLong Document) ∷ some_if (is_none read) (refused NotToml Document) ∷ option_map_or table_conditions read []) ≡ Some r
told_by_length true read r said = cc
told_by_length false read r said = told_of_document read r said

pub told : (bytes : List ℕ) (r : Refusal) → described bytes ≡ Err r → first_of (conditions bytes) ≡ Some r
unfolding described conditions too_long not_toml
told bytes r said = told_by_length (nat_lt byte_limit (length bytes)) (document bytes) r said

-- If the bytes describe a network, none of the conditions applies.
none_of_document : (read : Option Members) (d : Network) → described_by read ≡ Ok d
    → first_of (some_if (is_none read) (refused NotToml Document) ∷ option_map_or table_conditions read []) ≡ None
none_of_document None d said = cc
none_of_document (Some table) d said = none_of_table table d said

none_by_length : (long : Bool) (read : Option Members) (d : Network)
    → (if long then Err (refused TooLong Document) else described_by read) ≡ Ok d
    → first_of (some_if long (refused TooLong Document) ∷ some_if (is_none read) (refused NotToml Document) ∷ option_map_or table_conditions read []) ≡ None
none_by_length true read d said = cc
none_by_length false read d said = none_of_document read d said

pub none_told : (bytes : List ℕ) (d : Network) → described bytes ≡ Ok d → first_of (conditions bytes) ≡ None
unfolding described conditions too_long not_toml
none_told bytes d said = none_by_length (nat_lt byte_limit (length bytes)) (document bytes) d said
