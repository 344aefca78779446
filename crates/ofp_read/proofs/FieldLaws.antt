-- A field is read if and only if it specifies parts that are not specified yet.
use Rattle.std.proofs.Common.{◌≡◌, ◌⊎◌, ℕ, ◌+◌, ◌<◌, ◌^◌, true, List, [], ◌∷◌, ◌++◌, Option, Some, None, refl, sym, ap, subst, ◌∙◌, arith, inl, inr}
use Rattle.std.specs.Prelude.{IsTrue, Ok, Err, codes, decimal, bytes_eq, if◌then◌else◌}
use Rattle.std.specs.Option.{option_map, ok_or}
use Rattle.text_core.specs.inner.Decimal.{number}
use Rattle.text_core.specs.inner.Pieces.{split_once}
use Rattle.text_core.proofs.DecimalLaws.{number-decimal, decimal_of_number}
use Rattle.text_core.proofs.StepsLaws.{if_parts, map_parts, ok_or_parts, bytes_same}
use Rattle.host_net.specs.declared.prefix.Prefix.{Prefix}
use Rattle.host_net.specs.Prefix.{prefix_of}
use Rattle.host_net.proofs.PrefixTextLaws.{prefix_of-read, prefix_of-spelled, prefix_of-fits}
use Rattle.host_net.specs.Service.{has_name}
use Rattle.host_net.specs.ServiceText.{protocol_text}
use Rattle.ofp_rules.specs.declared.entry.FrameKind.{FrameKind}
use Rattle.ofp_rules.specs.declared.entry.FrameKind.TheVariants as frames
use Rattle.ofp_rules.specs.declared.entry.Action.TheVariants as actions
use Rattle.ofp_rules.specs.declared.entry.Entry.{Entry}
use Rattle.ofp_read.specs.declared.fault.OfpWhy.TheVariants.{BadLine, UnknownField, BadValue}
use Rattle.ofp_read.specs.declared.given.Key.{Key}
use Rattle.ofp_read.specs.declared.given.Key.TheVariants as key
use Rattle.ofp_read.specs.declared.given.Given.{Given}
use Rattle.ofp_read.specs.inner.FieldTable.{key_named, kind_named, part_of, frame_types, frame_type, with_value, with_key, with_kind, with_parts, with_field}
use Rattle.ofp_read.specs.Grammar.{Part, priority, table, kind, source, destination, protocol, source_port, destination_port, IsKindText, IsAddressText, IsNumberText, EachSays, IsNoneOf, AreDistinct, no_field, one_part, two_parts}
use Rattle.ofp_read.specs.Unwritten.{IsAbout, by_name, kind_alone, protocol_alone}
use Rattle.ofp_read.proofs.PartWords.{Says, name_of, IsNamed, named_one}
use Rattle.ofp_read.proofs.KeyLaws.{parts_alone, parts_by, parts_in, key_written, Names, kind_written}
use Rattle.ofp_read.proofs.NamedLaws.{named_is, some_same}
use Rattle.ofp_read.proofs.PartLaws.{Lacks, Has, Same, IsGiven, OfEach, value_of, with_part, same_but, is_said, none_said, said_none}

-- 1. A field that is read specifies parts.

-- From g to h the field specifies these parts, and no others change.
pub record IsStep (g h : Given) (text : List ℕ) : Type 0 where
  pub parts : List Part
  pub once : AreDistinct parts
  pub free : OfEach (λ p. Lacks p g) parts
  pub given : OfEach (IsGiven h) parts
  pub others : (p : Part) → IsNoneOf p parts → Same p g h
  pub says : (e : Entry) → OfEach (λ p. Has p e h) parts → EachSays e parts (text ∷ [])

-- A step that specifies one part, as some entry has it.
step_one : (p : Part) (e : Entry) (g h : Given) (text : List ℕ) → with_part p e g ≡ h → Lacks p g → IsGiven h p
    → ((f : Entry) → Has p f h → Says p f text) → IsStep g h text
step_one p e g h text is lacks given says = record {
  parts = p ∷ [];
  once = (tt, tt);
  free = (lacks, tt);
  given = (given, tt);
  others = λ q none. same_but p q e g none.0 ∙ ap (value_of q) is;
  says = λ f has. one_part (says f has.0) no_field;
}

-- An entry with the specified parts.
abbrev pub entry_with : ℕ → FrameKind → Option Prefix → Entry
entry_with n k p =
    record { priority = n; kind = k; src = p; dst = p; proto = Some n; tp_src = Some n; tp_dst = Some n; action = actions.Drop }

number_said : (most limit : ℕ) (name text value : List ℕ) (given : Option ℕ) (n : ℕ) → most < limit → limit < 2 ^ 64
    → text ≡ name ++ value → Some n ≡ given → number most value ≡ Some n → IsNumberText name limit given text
number_said most limit name text value given n below small written is read =
    let said = decimal_of_number most value n (omega arith) read in
    (n, sym is, omega (arith, said.1), written ∙ ap (λ bs. name ++ bs) said.0)

address_said : (name text value : List ℕ) (given : Option Prefix) (p : Prefix) → text ≡ name ++ value → Some p ≡ given
    → prefix_of value ≡ Some p → IsAddressText name given text
address_said name text value given p written is read = (p, value, sym is, prefix_of-fits value p read, prefix_of-spelled value p read, written)

step_kind : (g : Given) (text : List ℕ) (k : FrameKind) → IsKindText k text → Lacks kind g → IsStep g (record g { kind = Some k }) text
step_kind g text k is lacks =
    step_one kind (entry_with 0 k None) g (record g { kind = Some k }) text refl lacks refl
    (λ f has. subst (λ (j : FrameKind). IsKindText j text) (some_same k f.kind has) is)

abbrev IsTypeOf : List ℕ → FrameKind → Type 0
IsTypeOf value k = IsKindText k (codes "dl_type=" ++ value)

frame_type_said : (value : List ℕ) (k : FrameKind) → frame_type value ≡ Some k → IsTypeOf value k
unfolding frame_type
frame_type_said value k h =
    named_is IsTypeOf value frame_types k h (inr (inl refl), (inr (inr refl), (inr (inl refl), (inr (inr refl), tt))))

-- The name of a protocol specifies two parts.
step_protocol : (g : Given) (text : List ℕ) (k : FrameKind) (n : ℕ) → Names text (k, Some n) → Lacks kind g → Lacks protocol g
    → IsStep g (record g { kind = Some k; proto = Some n }) text
step_protocol g text k n names lacks none =
    let e = entry_with n k None in
    record {
      parts = kind ∷ protocol ∷ [];
      once = (((λ same. cc), tt), (tt, tt));
      free = (lacks, (none, tt));
      given = (refl, (refl, tt));
      others = λ q apart. same_but kind q e g apart.0 ∙ same_but protocol q e (with_part kind e g) apart.1.0;
      says = λ f has. two_parts n (sym (some_same k f.kind has.0) ∙ names.0) (sym has.1.0) names.1 no_field;
    }

step_by_value : (g h : Given) (text value : List ℕ) (k : Key) → text ≡ name_of (part_of k) ++ value → Lacks (part_of k) g
    → with_value g k value ≡ Some h → IsStep g h text
unfolding with_value
step_by_value g h text value key.Priority written lacks read =
    let parts = map_parts (λ (n : ℕ). record g { priority = Some n }) (number 65535 value) h read in
    step_one priority (entry_with parts.0 frames.Any None) g h text parts.2 lacks (ap (λ (x : Given). is_said x (priority ∷ [])) (sym parts.2))
    (λ f has. number_said 65535 (2 ^ 16) (codes "priority=") text value (Some f.priority) parts.0 (omega arith) (omega arith) written
    (ap (λ (x : Given). x.priority) parts.2 ∙ has) parts.1)
step_by_value g h text value key.Table written lacks read =
    elim (if_parts (bytes_eq value (codes "0")) (Some (record g { table = true })) None (Some h) read) [
      | inl is ↦
          let same = some_same (record g { table = true }) h is.1 in
          step_one table (entry_with 0 frames.Any None) g h text same lacks (ap (λ (x : Given). x.table) (sym same))
          (λ f has. written ∙ ap (λ bs. codes "table=" ++ bs) (bytes_same value (codes "0") is.0))
      | inr none ↦ cc
    ]
step_by_value g h text value key.FrameType written lacks read =
    let parts = map_parts (λ (k : FrameKind). record g { kind = Some k }) (frame_type value) h read in
    subst (λ (x : Given). IsStep g x text) parts.2
    (step_kind g text parts.0 (subst (IsKindText parts.0) (sym written) (frame_type_said value parts.0 parts.1)) lacks)
step_by_value g h text value key.Source written lacks read =
    let parts = map_parts (λ (p : Prefix). record g { src = Some p }) (prefix_of value) h read in
    step_one source (entry_with 0 frames.Any (Some parts.0)) g h text parts.2 lacks (ap (λ (x : Given). is_said x (source ∷ [])) (sym parts.2))
    (λ f has. address_said (codes "nw_src=") text value f.src parts.0 written (ap (λ (x : Given). x.src) parts.2 ∙ has) parts.1)
step_by_value g h text value key.Destination written lacks read =
    let parts = map_parts (λ (p : Prefix). record g { dst = Some p }) (prefix_of value) h read in
    step_one destination (entry_with 0 frames.Any (Some parts.0)) g h text parts.2 lacks (ap (λ (x : Given). is_said x (destination ∷ [])) (sym parts.2))
    (λ f has. address_said (codes "nw_dst=") text value f.dst parts.0 written (ap (λ (x : Given). x.dst) parts.2 ∙ has) parts.1)
step_by_value g h text value key.Protocol written lacks read =
    let parts = map_parts (λ (n : ℕ). record g { proto = Some n }) (number 255 value) h read in
    step_one protocol (entry_with parts.0 frames.Any None) g h text parts.2 lacks (ap (λ (x : Given). is_said x (protocol ∷ [])) (sym parts.2))
    (λ f has. number_said 255 (2 ^ 8) (codes "nw_proto=") text value f.proto parts.0 (omega arith) (omega arith) written
    (ap (λ (x : Given). x.proto) parts.2 ∙ has) parts.1)
step_by_value g h text value key.SourcePort written lacks read =
    let parts = map_parts (λ (n : ℕ). record g { tp_src = Some n }) (number 65535 value) h read in
    step_one source_port (entry_with parts.0 frames.Any None) g h text parts.2 lacks (ap (λ (x : Given). is_said x (source_port ∷ [])) (sym parts.2))
    (λ f has. number_said 65535 (2 ^ 16) (codes "tp_src=") text value f.tp_src parts.0 (omega arith) (omega arith) written
    (ap (λ (x : Given). x.tp_src) parts.2 ∙ has) parts.1)
step_by_value g h text value key.DestinationPort written lacks read =
    let parts = map_parts (λ (n : ℕ). record g { tp_dst = Some n }) (number 65535 value) h read in
    step_one destination_port (entry_with parts.0 frames.Any None) g h text parts.2 lacks (ap (λ (x : Given). is_said x (destination_port ∷ [])) (sym parts.2))
    (λ f has. number_said 65535 (2 ^ 16) (codes "tp_dst=") text value f.tp_dst parts.0 (omega arith) (omega arith) written
    (ap (λ (x : Given). x.tp_dst) parts.2 ∙ has) parts.1)

-- What the table tells of a field: its parts, and the partial entry with its value.
pub record Told (g : Given) (text : List ℕ) : Type 0 where
  pub parts : List Part
  pub about : IsAbout parts text
  pub now : Option Given
  pub told : with_field g text ≡ (if is_said g parts then Err BadLine else ok_or now BadValue)
  pub step : (h : Given) → OfEach (λ p. Lacks p g) parts → now ≡ Some h → IsStep g h text

abbrev pub IsUnknown : Given → List ℕ → Type 0
IsUnknown g text = (with_field g text ≡ Err UnknownField) × (parts_in text ≡ None)

told_kind : (g : Given) (text : List ℕ) (o : Option (FrameKind × Option ℕ)) → split_once 61 text ≡ None → kind_named text ≡ o
    → Told g text ⊎ IsUnknown g text
told_kind g text None is found =
    inr (ap (with_parts g text) is ∙ ap (with_kind g) found, ap (parts_by text) is ∙ ap (option_map parts_alone) found)
told_kind g text (Some (k, None)) is found =
    let names = kind_written text (k, None) found in
    let now = record g { kind = Some k } in
    inl (record {
      parts = kind ∷ [];
      about = kind_alone names.0;
      now = Some now;
      told = ap (with_parts g text) is ∙ ap (with_kind g) found;
      step = λ h lack same. subst (λ (x : Given). IsStep g x text) (some_same now h same) (step_kind g text k names.1 lack.0);
    })
told_kind g text (Some (k, Some n)) is found =
    let names = kind_written text (k, Some n) found in
    let now = record g { kind = Some k; proto = Some n } in
    inl (record {
      parts = kind ∷ protocol ∷ [];
      about = protocol_alone n names.1;
      now = Some now;
      told = ap (with_parts g text) is ∙ ap (with_kind g) found;
      step = λ h lack same. subst (λ (x : Given). IsStep g x text) (some_same now h same) (step_protocol g text k n names lack.0 lack.1.0);
    })

told_key : (g : Given) (text name value : List ℕ) (o : Option Key) → split_once 61 text ≡ Some (name, value) → key_named name ≡ o
    → Told g text ⊎ IsUnknown g text
told_key g text name value None is found =
    inr (ap (with_parts g text) is ∙ ap (with_key g value) found, ap (parts_by text) is ∙ ap (option_map (λ k. part_of k ∷ [])) found)
told_key g text name value (Some k) is found =
    let written = key_written text name value k is found in
    inl (record {
      parts = part_of k ∷ [];
      about = by_name (part_of k) value written;
      now = with_value g k value;
      told = ap (with_parts g text) is ∙ ap (with_key g value) found;
      step = λ h lack read. step_by_value g h text value k written lack.0 read;
    })

told_split : (g : Given) (text : List ℕ) (o : Option (List ℕ × List ℕ)) → split_once 61 text ≡ o → Told g text ⊎ IsUnknown g text
told_split g text None is = told_kind g text (kind_named text) is refl
told_split g text (Some (name, value)) is = told_key g text name value (key_named name) is refl

pub told_or_unknown : (g : Given) (text : List ℕ) → Told g text ⊎ IsUnknown g text
told_or_unknown g text = told_split g text (split_once 61 text) refl

pub step_of_read : (g h : Given) (text : List ℕ) → with_field g text ≡ Ok h → IsStep g h text
step_of_read g h text read = elim (told_or_unknown g text) [
  | inl tells ↦ elim (if_parts (is_said g tells.parts) (Err BadLine) (ok_or tells.now BadValue) (Ok h) (sym tells.told ∙ read)) [
    | inl twice ↦ let clash = twice.1 in cc
    | inr once ↦ tells.step h (none_said g tells.parts once.0) (ok_or_parts tells.now BadValue h once.1)
  ]
  | inr unknown ↦ let clash = sym unknown.0 ∙ read in cc
]

-- 2. A field that specifies new parts is read.

-- A field with a key that is not specified yet, and a valid value.
read_value : (g h : Given) (k : Key) (text value : List ℕ) → with_field g text ≡ with_key g value (Some k) → Lacks (part_of k) g
    → with_value g k value ≡ Some h → with_field g text ≡ Ok h
read_value g h k text value is lacks read =
    is ∙ ap (λ t. if t then Err BadLine else ok_or (with_value g k value) BadValue) lacks ∙ ap (λ o. ok_or o BadValue) read

number_read : (most limit : ℕ) (name text : List ℕ) (given : Option ℕ) (said : IsNumberText name limit given text) → limit ≡ most + 1
    → limit < 2 ^ 64 → number most (decimal said.0) ≡ Some said.0
number_read most limit name text given said is small =
    let below = said.2 in number-decimal most said.0 (omega arith) (omega arith)

read_name : (k : FrameKind) (g : Given) (text : List ℕ) → with_field g text ≡ with_kind g (Some (k, None)) → Lacks kind g
    → with_field g text ≡ Ok (record g { kind = Some k })
read_name k g text is lacks = is ∙ ap (λ t. if t then Err BadLine else Ok (record g { kind = Some k })) lacks

read_protocol_name : (n : ℕ) (g : Given) (text : List ℕ) → with_field g text ≡ with_kind g (Some (frames.Ip, Some n)) → Lacks kind g
    → Lacks protocol g → with_field g text ≡ Ok (record g { kind = Some frames.Ip; proto = Some n })
read_protocol_name n g text is lacks none =
    is ∙ ap (λ t. if t then Err BadLine else Ok (record g { kind = Some frames.Ip; proto = Some n }))
    (said_none g (kind ∷ protocol ∷ []) (lacks, (none, tt)))

pub read_kind : (k : FrameKind) (g : Given) (text : List ℕ) → IsKindText k text → Lacks kind g
    → with_field g text ≡ Ok (record g { kind = Some k })
unfolding key_named kind_named with_value frame_type
read_kind frames.Any g text is lacks = absurd is
read_kind frames.Arp g text (inl e) lacks = read_name frames.Arp g text (ap (with_field g) e) lacks
read_kind frames.Arp g text (inr (inl e)) lacks = read_value g _ key.FrameType text (codes "0x0806") (ap (with_field g) e) lacks refl
read_kind frames.Arp g text (inr (inr e)) lacks = read_value g _ key.FrameType text (codes "0x806") (ap (with_field g) e) lacks refl
read_kind frames.Ip g text (inl e) lacks = read_name frames.Ip g text (ap (with_field g) e) lacks
read_kind frames.Ip g text (inr (inl e)) lacks = read_value g _ key.FrameType text (codes "0x0800") (ap (with_field g) e) lacks refl
read_kind frames.Ip g text (inr (inr e)) lacks = read_value g _ key.FrameType text (codes "0x800") (ap (with_field g) e) lacks refl

read_named : (n : ℕ) (g : Given) (text : List ℕ) → IsNamed n text → Lacks kind g → Lacks protocol g
    → with_field g text ≡ Ok (record g { kind = Some frames.Ip; proto = Some n })
unfolding kind_named
read_named n g text (inl (is, e)) lacks none = read_protocol_name n g text (ap (with_field g) e ∙ ap (λ m. with_kind g (Some (frames.Ip, Some m))) (sym is)) lacks none
read_named n g text (inr (inl (is, e))) lacks none =
    read_protocol_name n g text (ap (with_field g) e ∙ ap (λ m. with_kind g (Some (frames.Ip, Some m))) (sym is)) lacks none
read_named n g text (inr (inr (is, e))) lacks none =
    read_protocol_name n g text (ap (with_field g) e ∙ ap (λ m. with_kind g (Some (frames.Ip, Some m))) (sym is)) lacks none

pub read_protocol : (n : ℕ) (k : FrameKind) (o : Option ℕ) (g : Given) (text : List ℕ) → k ≡ frames.Ip → o ≡ Some n
    → IsTrue (has_name n) × (text ≡ protocol_text n) → Lacks kind g → Lacks protocol g
    → with_field g text ≡ Ok (record g { kind = Some k; proto = o })
read_protocol n k o g text ip its is lacks none =
    read_named n g text (named_one n text is) lacks none ∙ sym (λ i. Ok (record g { kind = Some (ip i); proto = its i }))

pub read_of_says : (p : Part) (e : Entry) (g : Given) (text : List ℕ) → Says p e text → Lacks p g → with_field g text ≡ Ok (with_part p e g)
unfolding key_named with_value
read_of_says priority e g text says lacks =
    read_value g _ key.Priority text (decimal says.0) (ap (with_field g) says.3) lacks
    (ap (option_map (λ n. record g { priority = Some n })) (number_read 65535 (2 ^ 16) (name_of priority) text _ says refl (omega arith))
    ∙ ap (λ o. Some (record g { priority = o })) (sym says.1))
read_of_says table e g text says lacks = read_value g _ key.Table text (codes "0") (ap (with_field g) says) lacks refl
read_of_says kind e g text says lacks = read_kind e.kind g text says lacks
read_of_says source e g text says lacks =
    read_value g _ key.Source text says.1 (ap (with_field g) says.5) lacks
    (ap (option_map (λ q. record g { src = Some q })) (prefix_of-read says.1 says.0 says.3 says.4)
    ∙ ap (λ o. Some (record g { src = o })) (sym says.2))
read_of_says destination e g text says lacks =
    read_value g _ key.Destination text says.1 (ap (with_field g) says.5) lacks
    (ap (option_map (λ q. record g { dst = Some q })) (prefix_of-read says.1 says.0 says.3 says.4)
    ∙ ap (λ o. Some (record g { dst = o })) (sym says.2))
read_of_says protocol e g text says lacks =
    read_value g _ key.Protocol text (decimal says.0) (ap (with_field g) says.3) lacks
    (ap (option_map (λ n. record g { proto = Some n })) (number_read 255 (2 ^ 8) (name_of protocol) text _ says refl (omega arith))
    ∙ ap (λ o. Some (record g { proto = o })) (sym says.1))
read_of_says source_port e g text says lacks =
    read_value g _ key.SourcePort text (decimal says.0) (ap (with_field g) says.3) lacks
    (ap (option_map (λ n. record g { tp_src = Some n })) (number_read 65535 (2 ^ 16) (name_of source_port) text _ says refl (omega arith))
    ∙ ap (λ o. Some (record g { tp_src = o })) (sym says.1))
read_of_says destination_port e g text says lacks =
    read_value g _ key.DestinationPort text (decimal says.0) (ap (with_field g) says.3) lacks
    (ap (option_map (λ n. record g { tp_dst = Some n })) (number_read 65535 (2 ^ 16) (name_of destination_port) text _ says refl (omega arith))
    ∙ ap (λ o. Some (record g { tp_dst = o })) (sym says.1))

pub read_of_each : (e : Entry) (ps : List Part) (g : Given) (text : List ℕ) → EachSays e ps (text ∷ []) → OfEach (λ p. Lacks p g) ps
    → (h : Given) × (with_field g text ≡ Ok h)
read_of_each e [] g text says lack = elim says [ ]
read_of_each e (p ∷ []) g text (one_part says rest) lack = (with_part p e g, read_of_says p e g text says lack.0)
read_of_each e (p ∷ q ∷ ps) g text (one_part says rest) lack = elim rest [ ]
read_of_each e (kind ∷ protocol ∷ []) g text (two_parts n ip its says rest) lack =
    (record g { kind = Some e.kind; proto = e.proto }, read_protocol n e.kind e.proto g text ip its says lack.0 lack.1.0)
read_of_each e (kind ∷ protocol ∷ p ∷ ps) g text (two_parts n ip its says rest) lack = elim rest [ ]
