-- The names of fields: the parts that a text specifies, regardless of its value.
use Rattle.std.proofs.Common.{◌≡◌, ◌⊎◌, inl, inr, ℕ, List, [], ◌∷◌, ◌++◌, Option, Some, None, refl, sym, ap, ◌∙◌, append_assoc, IsTrue}
use Rattle.std.specs.Prelude.{codes, decimal}
use Rattle.std.specs.Option.{option_map}
use Rattle.text_core.specs.inner.Pieces.{split_once}
use Rattle.text_core.proofs.PiecesLaws.{split_once_joined}
use Rattle.host_net.specs.Service.{has_name}
use Rattle.host_net.specs.ServiceText.{protocol_text}
use Rattle.ofp_rules.specs.declared.entry.FrameKind.{FrameKind}
use Rattle.ofp_rules.specs.declared.entry.FrameKind.TheVariants as frames
use Rattle.ofp_rules.specs.declared.entry.Entry.{Entry}
use Rattle.ofp_read.specs.declared.given.Key.{Key}
use Rattle.ofp_read.specs.inner.FieldTable.{keys, key_named, kinds, kind_named, part_of}
use Rattle.ofp_read.specs.Grammar.{Part, priority, table, kind, source, destination, protocol, source_port, destination_port, IsKindText, EachSays, one_part, two_parts}
use Rattle.ofp_read.specs.Unwritten.{IsAbout, by_name, kind_alone, protocol_alone}
use Rattle.ofp_read.proofs.PartWords.{Says, name_of, IsNamed, named_one}
use Rattle.ofp_read.proofs.NamedLaws.{named_is, some_same}

-- 1. A text specifies at most one list of parts.

abbrev pub parts_alone : FrameKind × Option ℕ → List Part
parts_alone (k, None) = kind ∷ []
parts_alone (k, Some n) = kind ∷ protocol ∷ []

abbrev pub parts_by : List ℕ → Option (List ℕ × List ℕ) → Option (List Part)
parts_by text None = option_map parts_alone (kind_named text)
parts_by text (Some parts) = option_map (λ k. part_of k ∷ []) (key_named parts.0)

abbrev pub parts_in : List ℕ → Option (List Part)
parts_in text = parts_by text (split_once 61 text)

in_named : (part : Part) (value : List ℕ) → parts_in (name_of part ++ value) ≡ Some (part ∷ [])
unfolding key_named
in_named priority value = refl
in_named table value = refl
in_named kind value = refl
in_named protocol value = refl
in_named source value = refl
in_named destination value = refl
in_named source_port value = refl
in_named destination_port value = refl

in_protocol : (n : ℕ) (text : List ℕ) → IsNamed n text → parts_in text ≡ Some (kind ∷ protocol ∷ [])
unfolding kind_named
in_protocol n text (inl is) = ap parts_in is.1
in_protocol n text (inr (inl is)) = ap parts_in is.1
in_protocol n text (inr (inr is)) = ap parts_in is.1

pub parts_about : (parts : List Part) (text : List ℕ) → IsAbout parts text → parts_in text ≡ Some parts
unfolding kind_named
parts_about parts text (by_name part value is) = ap parts_in is ∙ in_named part value
parts_about parts text (kind_alone (inl is)) = ap parts_in is
parts_about parts text (kind_alone (inr is)) = ap parts_in is
parts_about parts text (protocol_alone n is) = in_protocol n text (named_one n text is)

pub one_about : (parts others : List Part) (text : List ℕ) → IsAbout parts text → IsAbout others text → parts ≡ others
one_about parts others text a b = some_same parts others (sym (parts_about parts text a) ∙ parts_about others text b)

-- 2. What a field says is about its parts.

kind_about : (k : FrameKind) (text : List ℕ) → IsKindText k text → IsAbout (kind ∷ []) text
kind_about frames.Any text is = absurd is
kind_about frames.Arp text (inl is) = kind_alone (inr is)
kind_about frames.Arp text (inr (inl is)) = by_name kind (codes "0x0806") is
kind_about frames.Arp text (inr (inr is)) = by_name kind (codes "0x806") is
kind_about frames.Ip text (inl is) = kind_alone (inl is)
kind_about frames.Ip text (inr (inl is)) = by_name kind (codes "0x0800") is
kind_about frames.Ip text (inr (inr is)) = by_name kind (codes "0x800") is

pub says_about : (p : Part) (e : Entry) (text : List ℕ) → Says p e text → IsAbout (p ∷ []) text
says_about priority e text says = by_name priority (decimal says.0) says.3
says_about table e text says = by_name table (codes "0") says
says_about kind e text says = kind_about e.kind text says
says_about source e text says = by_name source says.1 says.5
says_about destination e text says = by_name destination says.1 says.5
says_about protocol e text says = by_name protocol (decimal says.0) says.3
says_about source_port e text says = by_name source_port (decimal says.0) says.3
says_about destination_port e text says = by_name destination_port (decimal says.0) says.3

pub each_about : (e : Entry) (ps : List Part) (text : List ℕ) → EachSays e ps (text ∷ []) → IsAbout ps text
each_about e [] text says = elim says [ ]
each_about e (p ∷ []) text (one_part says rest) = says_about p e text says
each_about e (p ∷ q ∷ ps) text (one_part says rest) = elim rest [ ]
each_about e (kind ∷ protocol ∷ []) text (two_parts n ip its says rest) = protocol_alone n says
each_about e (kind ∷ protocol ∷ p ∷ ps) text (two_parts n ip its says rest) = elim rest [ ]

-- 3. The names of the table.

name_is : (name : List ℕ) (k : Key) → key_named name ≡ Some k → name ++ 61 ∷ [] ≡ name_of (part_of k)
unfolding key_named
name_is name k found = named_is (λ n j. n ++ 61 ∷ [] ≡ name_of (part_of j)) name keys k found
    (refl, (refl, (refl, (refl, (refl, (refl, (refl, (refl, tt))))))))

pub key_written : (text name value : List ℕ) (k : Key) → split_once 61 text ≡ Some (name, value) → key_named name ≡ Some k
    → text ≡ name_of (part_of k) ++ value
key_written text name value k is found =
    split_once_joined 61 text name value is ∙ sym (append_assoc name (61 ∷ []) value) ∙ ap (λ bs. bs ++ value) (name_is name k found)

-- A text that is the name of a frame kind, or of a protocol of IPv4 frames.
abbrev pub Names : List ℕ → FrameKind × Option ℕ → Type 0
Names text (k, None) = ((text ≡ codes "ip") ⊎ (text ≡ codes "arp")) × IsKindText k text
Names text (k, Some n) = (k ≡ frames.Ip) × (IsTrue (has_name n) × (text ≡ protocol_text n))

pub kind_written : (text : List ℕ) (named : FrameKind × Option ℕ) → kind_named text ≡ Some named → Names text named
unfolding kind_named
kind_written text named found = named_is Names text kinds named found
    ((inl refl, inl refl), ((inr refl, inl refl), ((refl, (refl, refl)), ((refl, (refl, refl)), ((refl, (refl, refl)), tt)))))
