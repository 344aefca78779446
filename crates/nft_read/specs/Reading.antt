-- The table whose text a file is, and why a file is the text of no table.
use Rattle.std.specs.Prelude.{◌≡◌, ℕ, ◌<◌, ◌≤◌, ◌^◌, List, ◌++◌, Option, Some, None, length, take, codes}
use Rattle.std.specs.List.{AllByRecursion}
use Rattle.text_core.specs.Lines.{lines}
use Rattle.text_core.specs.declared.faults.TextFault.{TextFault}
use Rattle.text_core.specs.declared.faults.TextFault.TheVariants.{Refused, Memory}
use Rattle.nft_rules.specs.declared.table.Chain.{Chain}
use Rattle.nft_rules.specs.declared.table.Element.{Element}
use Rattle.nft_rules.specs.declared.table.PortMatch.{PortMatch}
use Rattle.nft_rules.specs.declared.table.Rule.{Rule}
use Rattle.nft_rules.specs.declared.table.Rule.TheVariants.{Map, Match}
use Rattle.nft_rules.specs.declared.table.ServiceMatch.{ServiceMatch}
use Rattle.nft_rules.specs.declared.table.Table.{Table}
use Rattle.nft_rules.specs.Loadable.{IsLoadable}
use Rattle.nft_text.specs.Text.{table_text}
use Rattle.nft_read.specs.declared.fault.NftWhy.{NftWhy}
use Rattle.nft_read.specs.declared.fault.NftWhy.TheVariants.{TooLong, BadLine, NoTable}

-- The greatest size of a file, in bytes.
abbrev pub byte_limit : ℕ
byte_limit = 67108864

-- Addresses have 32 bits, and ports 16, as in each table of a program.
abbrev pub ElementFits : Element → Type 0
ElementFits e = (e.range.first < 2 ^ 32) × (e.range.last < 2 ^ 32)

abbrev pub PortsFit : Option PortMatch → Type 0
PortsFit None = Unit {0}
PortsFit (Some m) = (m.low < 2 ^ 16) × (m.high < 2 ^ 16)

abbrev pub ServiceFits : Option ServiceMatch → Type 0
ServiceFits None = Unit {0}
ServiceFits (Some s) = PortsFit s.ports

abbrev pub RuleFits : Rule → Type 0
RuleFits (Map m) = AllByRecursion ElementFits m.elements.items
RuleFits (Match r) = ServiceFits r.service

abbrev pub ChainFits : Chain → Type 0
ChainFits x = AllByRecursion RuleFits x.rules.items

-- A table that can be loaded.
pub record IsTable (table : Table) : Type 0 where
  pub loadable : IsLoadable table
  pub chains : AllByRecursion ChainFits table.chains.items
  pub forward : AllByRecursion RuleFits table.forward.items

-- The file is the text of the table.
pub record IsReading (text : List ℕ) (table : Table) : Type 0 where
  pub short : length text ≤ byte_limit
  pub loadable : IsLoadable table
  pub is_text : text ≡ table_text table

-- The text of a table that can be loaded begins with these lines.
abbrev pub BeginsTable : List (List ℕ) → Type 0
BeginsTable front = (table : Table) × IsTable table × (rest : List (List ℕ)) × (lines (table_text table) ≡ front ++ rest)

-- Why a file is refused: it is too long; no text of a table begins with its lines up to this one; or it is the text of no table. Line 0
-- stands for the whole file.
abbrev pub HasCause : List ℕ → TextFault NftWhy → Type 0
HasCause text (Refused line TooLong) = (line ≡ 0) × (byte_limit < length text)
HasCause text (Refused line BadLine) = BeginsTable (take line (lines text)) → ⊥
HasCause text (Refused line NoTable) = (line ≡ 0) × ((table : Table) → IsTable table → text ≡ table_text table → ⊥)
HasCause text Memory = Unit {0}

-- The name of a reason, as it is printed.
abbrev pub name : NftWhy → List ℕ
name TooLong = codes "TooLong"
name BadLine = codes "BadLine"
name NoTable = codes "NoTable"
