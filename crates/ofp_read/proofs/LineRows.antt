-- Test vectors: fields in front of an action, actions, and their decided readings.
use Rattle.std.proofs.Common.{◌≡◌, ℕ, false, List, [], ◌∷◌, Some, None, map, refl}
use Rattle.std.specs.Prelude.{Result, Ok, Err, codes}
use Rattle.std.specs.Fmt.{digits}
use Rattle.text_core.specs.inner.Decimal.{number}
use Rattle.text_core.specs.Lines.{words, is_comment}
use Rattle.host_net.specs.Prefix.{prefix_of, prefix_text, address_text, octet}
use Rattle.ofp_rules.specs.declared.entry.FrameKind.TheVariants.{Ip}
use Rattle.ofp_read.specs.declared.fault.OfpWhy.{OfpWhy}
use Rattle.ofp_read.specs.declared.fault.OfpWhy.TheVariants.{BadLine, UnknownField, BadValue}
use Rattle.ofp_read.specs.declared.given.Given.{Given}
use Rattle.ofp_read.specs.inner.FieldTable.{key_named, kind_named, frame_type, with_value, with_field}
use Rattle.ofp_read.specs.inner.FlowLine.{nothing_given, action_of}
use Rattle.ofp_read.specs.Grammar.{fields}

abbrev then_fields : Result Given OfpWhy → List (List ℕ) → Result Given OfpWhy
then_fields (Err why) texts = Err why
then_fields (Ok given) [] = Ok given
then_fields (Ok given) (text ∷ texts) = then_fields (with_field given text) texts

-- A line of commas and blanks has tokens, so it is no comment.
row_commas_no_comment : is_comment (codes " , ") ≡ false
unfolding is_comment
row_commas_no_comment = refl

-- Fields that are those of no entry, and the reasons.
abbrev refused_fields : List (List ℕ × OfpWhy)
refused_fields =
    -- A comment mark after a comma is a field.
    (codes ",# x", UnknownField)
    -- An action in a field's value is not the action of the line.
    ∷ (codes "ip,nw_src=actions=drop", BadValue)
    -- From left to right: a second frame kind takes precedence over its value, a bad value over a later second frame
    -- kind.
    ∷ (codes "ip,dl_type=x", BadLine)
    ∷ (codes "dl_type=x,ip", BadValue)
    -- The name takes precedence over everything else of a field, and a repeated field over its value.
    ∷ (codes "ip=", UnknownField)
    ∷ (codes "priority=1,priority=x", BadLine)
    -- One frame kind and one protocol: the second is rejected, regardless of its value.
    ∷ (codes "priority=5,tcp,udp", BadLine)
    ∷ (codes "tcp,ip", BadLine)
    ∷ (codes "dl_type=0x0800,icmp", BadLine)
    ∷ (codes "priority=5,tcp,nw_proto=6", BadLine)
    ∷ (codes "tcp,nw_proto=999", BadLine)
    ∷ (codes "nw_proto=6,tcp", BadLine)
    ∷ (codes "nw_proto=999,tcp", BadValue)
    ∷ (codes "udp,tp_src=1,tp_src=x", BadLine)
    -- Values.
    ∷ (codes "tcp,tp_dst=65536", BadValue)
    ∷ (codes "tcp,tp_src=080", BadValue)
    ∷ (codes "ip,nw_proto=256", BadValue)
    -- A protocol name with a value, and a number without one, are no fields.
    ∷ (codes "tcp=", UnknownField)
    ∷ (codes "ip,nw_proto", UnknownField)
    ∷ []

fields_refused : map (λ (r : List ℕ × OfpWhy). then_fields (Ok nothing_given) (fields r.0)) refused_fields
    ≡ map (λ (r : List ℕ × OfpWhy). Err r.1) refused_fields
unfolding frame_type kind_named key_named number prefix_of octet address_text prefix_text with_value digits
fields_refused = refl

-- In any order; commas and blanks at the beginning are skipped.
row_number_first : then_fields (Ok nothing_given) (fields (codes " ,tp_dst=0 nw_proto=17,,ip ")) ≡ Ok (record { priority = None; table = false; kind = Some Ip; src = None; dst = None; proto = Some 17; tp_src = None; tp_dst = Some 0 })
unfolding key_named kind_named with_value number digits
row_number_first = refl

-- Blanks within an action and a comma after it are parts of it.
row_blank_within : action_of (words (codes "actions= drop")) ≡ None
row_blank_within = refl

row_comma_behind : action_of (words (codes "actions=drop,")) ≡ None
row_comma_behind = refl
