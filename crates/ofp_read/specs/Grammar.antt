-- The grammar of a flow line: its fields, its action, and the entry that it adds (ovs-ofctl(8), "Flow Syntax"; ovs-fields(7)).
use Rattle.std.specs.Prelude.{◌≡◌, ◌≢◌, ◌<◌, ◌^◌, ◌⊎◌, ◌||◌, ◌==◌, ℕ, Bool, true, false, IsTrue, List, [], ◌∷◌, ◌++◌, Option, Some, None, length, codes, decimal}
use Rattle.std.specs.List.{AllByRecursion, filter, last_or, list_all, slice_split}
use Rattle.std.specs.Option.{option_map_or}
use Rattle.text_core.specs.Lines.{is_blank}
use Rattle.host_net.specs.declared.prefix.Prefix.{Prefix}
use Rattle.host_net.specs.PrefixView.{IsSpelling}
use Rattle.host_net.specs.Service.{has_name}
use Rattle.host_net.specs.ServiceText.{protocol_text}
use Rattle.ofp_rules.specs.declared.entry.FrameKind.{FrameKind}
use Rattle.ofp_rules.specs.declared.entry.FrameKind.TheVariants.{Any, Arp, Ip}
use Rattle.ofp_rules.specs.declared.entry.Action.{Action}
use Rattle.ofp_rules.specs.declared.entry.Action.TheVariants.{Normal, Drop}
use Rattle.ofp_rules.specs.declared.entry.Entry.{Entry}
use Rattle.ofp_rules.specs.Matching.{asks_of_ip}
use Rattle.ofp_rules.specs.Ambiguity.{ContradictsNone, most_entries}

-- 1. Fields.

-- Fields are separated by commas (44) and blanks.
abbrev pub is_separator : ℕ → Bool
is_separator b = b == 44 || is_blank b

-- The string is not empty.
abbrev pub has_bytes : List ℕ → Bool
has_bytes [] = false
has_bytes (b ∷ bs) = true

-- The fields of a line: the nonempty strings between its commas and blanks.
abbrev pub fields : List ℕ → List (List ℕ)
fields text = filter has_bytes (slice_split is_separator text)

-- The part of an entry that a field specifies.
pub data Part : Type 0 where
  priority : Part
  table : Part
  kind : Part
  protocol : Part
  source : Part
  destination : Part
  source_port : Part
  destination_port : Part

-- A frame kind, by its name or by the number of its EtherType.
abbrev pub IsKindText : FrameKind → List ℕ → Type 0
IsKindText Any text = ⊥
IsKindText Arp text = (text ≡ codes "arp") ⊎ ((text ≡ codes "dl_type=0x0806") ⊎ (text ≡ codes "dl_type=0x806"))
IsKindText Ip text = (text ≡ codes "ip") ⊎ ((text ≡ codes "dl_type=0x0800") ⊎ (text ≡ codes "dl_type=0x800"))

-- An address field: its name, and a notation of the prefix.
abbrev pub IsAddressText : (name : List ℕ) → Option Prefix → (text : List ℕ) → Type 0
IsAddressText name given text =
    (p : Prefix) × (spelling : List ℕ) × (given ≡ Some p) × (p.addr < 2 ^ 32) × IsSpelling spelling p × (text ≡ name ++ spelling)

-- A number field: its name, and the number, which is below a limit.
abbrev pub IsNumberText : (name : List ℕ) → (limit : ℕ) → Option ℕ → (text : List ℕ) → Type 0
IsNumberText name limit given text = (number : ℕ) × (given ≡ Some number) × (number < limit) × (text ≡ name ++ decimal number)

-- The fields for one part: the name before their values, the meaning of such a field for an entry, and the value of the entry if no field
-- specifies the part.
pub record PartFields : Type 1 where
  pub name : List ℕ
  pub Says : Entry → List ℕ → Type 0
  pub Unsaid : Entry → Type 0

-- The fields for an optional address of an entry.
abbrev pub of_address : (name : List ℕ) → (Entry → Option Prefix) → PartFields
of_address name given = record { name = name; Says = λ e. IsAddressText name (given e); Unsaid = λ e. given e ≡ None }

-- The fields for an optional number of an entry, below a limit.
abbrev pub of_number : (name : List ℕ) → (limit : ℕ) → (Entry → Option ℕ) → PartFields
of_number name limit given = record { name = name; Says = λ e. IsNumberText name limit (given e); Unsaid = λ e. given e ≡ None }

-- The fields for each part. The only table is 0.
abbrev pub about : Part → PartFields
about priority = record (of_number (codes "priority=") (2 ^ 16) (λ e. Some e.priority)) { Unsaid = λ e. e.priority ≡ 32768 }
about table = record { name = codes "table="; Says = λ e text. text ≡ codes "table=0"; Unsaid = λ e. Unit {0} }
about kind = record { name = codes "dl_type="; Says = λ e. IsKindText e.kind; Unsaid = λ e. e.kind ≡ Any }
about protocol = of_number (codes "nw_proto=") (2 ^ 8) (λ e. e.proto)
about source = of_address (codes "nw_src=") (λ e. e.src)
about destination = of_address (codes "nw_dst=") (λ e. e.dst)
about source_port = of_number (codes "tp_src=") (2 ^ 16) (λ e. e.tp_src)
about destination_port = of_number (codes "tp_dst=") (2 ^ 16) (λ e. e.tp_dst)

-- Each field specifies the part at its index, or, if it is the name of a protocol of IPv4 frames, both the kind and the protocol.
pub data EachSays (e : Entry) : List Part → List (List ℕ) → Type 0 where
  no_field : EachSays e [] []
  one_part : {part : Part} {parts : List Part} {text : List ℕ} {texts : List (List ℕ)} → (about part).Says e text → EachSays e parts texts
      → EachSays e (part ∷ parts) (text ∷ texts)
  two_parts : {parts : List Part} {text : List ℕ} {texts : List (List ℕ)} (proto : ℕ) → e.kind ≡ Ip → e.proto ≡ Some proto
      → IsTrue (has_name proto) × (text ≡ protocol_text proto) → EachSays e parts texts → EachSays e (kind ∷ protocol ∷ parts) (text ∷ texts)

-- The part differs from each of the others.
abbrev pub IsNoneOf : Part → List Part → Type 0
IsNoneOf part others = AllByRecursion (λ other. part ≢ other) others

-- The parts are pairwise distinct.
abbrev pub AreDistinct : List Part → Type 0
AreDistinct [] = Unit {0}
AreDistinct (part ∷ parts) = IsNoneOf part parts × AreDistinct parts

-- The fields of an entry, in any order: no two specify the same part.
pub record AreFieldsOf (e : Entry) (texts : List (List ℕ)) : Type 0 where
  pub parts : List Part
  pub each : EachSays e parts texts
  pub once : AreDistinct parts
  pub others : (part : Part) → IsNoneOf part parts → (about part).Unsaid e

-- 2. Lines.

-- The notation of an action.
abbrev pub IsActionText : Action → List ℕ → Type 0
IsActionText Normal text = (text ≡ codes "actions=NORMAL") ⊎ (text ≡ codes "actions=normal")
IsActionText Drop text = text ≡ codes "actions=drop"

-- A field may begin after this prefix: the prefix is empty, or ends with a comma or blank.
abbrev pub ends_with_separator : List ℕ → Bool
ends_with_separator front = option_map_or is_separator (last_or None front) true

-- A line has the flow of an entry: its fields, then its action, then only blanks.
pub record HasFlow (line : List ℕ) (e : Entry) : Type 0 where
  pub front : List ℕ
  pub action : List ℕ
  pub blanks : List ℕ
  pub written : line ≡ front ++ (action ++ blanks)
  pub apart : IsTrue (ends_with_separator front)
  pub of_fields : AreFieldsOf e (fields front)
  pub of_action : IsActionText e.action action
  pub blank : IsTrue (list_all is_blank blanks)

-- A line encodes an entry: it has its flow, and the entry matches only on fields that its frames have.
abbrev pub Writes : List ℕ → Entry → Type 0
Writes line e = HasFlow line e × IsTrue (asks_of_ip e)

-- A line adds the entry that it encodes: fewer than 8,192 entries precede it, and it conflicts with none of them.
abbrev pub AddsEntry : ℕ → (before : List Entry) → (line : List ℕ) → (now : List Entry) → Type 0
AddsEntry n before line now =
    (e : Entry) × Writes line e × (length before < most_entries) × ContradictsNone before e × (now ≡ before ++ e ∷ [])
