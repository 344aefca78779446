-- The formatted line of an entry encodes it.
use Rattle.std.proofs.Common.{◌≡◌, ℕ, ◌<◌, ◌^◌, Bool, true, false, ◌||◌, List, [], ◌∷◌, ◌++◌, Option, Some, None, is_some, refl, sym, ap, subst, ◌∙◌, arith, inl, append-nil, append_assoc}
use Rattle.std.specs.Prelude.{codes, decimal, nat_lt, ◌==◌, if◌then◌else◌, IsTrue}
use Rattle.std.specs.List.{onto_first}
use Rattle.std.proofs.lemmas.Bool.{and_parts}
use Rattle.std.proofs.lemmas.Bool.Decides.{nat_tests}
use Rattle.text_core.specs.Lines.{words, is_blank, ends_word, are_comment, is_comment}
use Rattle.text_core.proofs.PiecesLaws.{lacks, lacks-append}
use Rattle.host_net.specs.declared.prefix.Prefix.{Prefix}
use Rattle.host_net.specs.Prefix.{prefix_text}
use Rattle.ofp_rules.specs.declared.entry.FrameKind.{FrameKind}
use Rattle.ofp_rules.specs.declared.entry.FrameKind.TheVariants as frames
use Rattle.ofp_rules.specs.declared.entry.Action.{Action}
use Rattle.ofp_rules.specs.declared.entry.Action.TheVariants.{Normal, Drop}
use Rattle.ofp_rules.specs.declared.entry.Entry.{Entry}
use Rattle.ofp_rules.specs.Matching.{asks_of_ip, kind_asks}
use Rattle.ofp_rules.specs.Text.{kind_text, field_text, action_text, entry_line}
use Rattle.ofp_rules.specs.inner.Ranges.{in_range}
use Rattle.ofp_rules.proofs.RangesLaws.{in_range_parts}
use Rattle.ofp_read.specs.declared.given.Given.{Given}
use Rattle.ofp_read.specs.inner.FlowLine.{nothing_given, entry_of}
use Rattle.ofp_read.specs.Grammar.{priority, source, destination, source_port, destination_port, fields, AreFieldsOf, IsActionText, Writes}
use Rattle.ofp_read.proofs.FieldLaws.{entry_with, read_of_says}
use Rattle.ofp_read.proofs.FieldsLaws.{reads_none, fields_of_reads}
use Rattle.ofp_read.proofs.PieceLaws.{IsPiece, joined, address_piece, number_piece, of_priority, of_kind, kind_piece}

-- 1. The line up to its action.

abbrev front_text : Entry → List ℕ
front_text e =
    field_text (codes "priority=") decimal (Some e.priority)
    ++ (kind_text e.kind e.proto
    ++ (field_text (codes "nw_src=") prefix_text e.src
    ++ (field_text (codes "nw_dst=") prefix_text e.dst ++ (field_text (codes "tp_src=") decimal e.tp_src ++ field_text (codes "tp_dst=") decimal e.tp_dst))))

-- The partial entries behind its pieces.
abbrev with_src : Entry → Option Prefix → Given
with_src e o = record (of_kind e.priority e.kind e.proto) { src = o }

abbrev with_dst : Entry → Option Prefix → Given
with_dst e o = record (with_src e e.src) { dst = o }

abbrev with_tp_src : Entry → Option ℕ → Given
with_tp_src e o = record (with_dst e e.dst) { tp_src = o }

abbrev with_tp_dst : Entry → Option ℕ → Given
with_tp_dst e o = record (with_tp_src e e.tp_src) { tp_dst = o }

front_piece : (e : Entry) → in_range e ≡ true → IsTrue (asks_of_ip e) → IsPiece nothing_given (with_tp_dst e e.tp_dst) (front_text e)
front_piece e fits asks =
    let room = in_range_parts e fits in
    let of_ip = and_parts (kind_asks e.kind (is_some e.src || (is_some e.dst || is_some e.proto))) _ asks in
    joined nothing_given (of_priority (Some e.priority)) (with_tp_dst e e.tp_dst) _ _
    (number_piece of_priority 112 (codes "riority=") (2 ^ 16) (Some e.priority)
    (λ n less. read_of_says priority (entry_with n frames.Any None) nothing_given _ (n, refl, less, refl) refl) refl (omega arith) (small e.priority room.priority))
    (joined (of_priority (Some e.priority)) (of_kind e.priority e.kind e.proto) (with_tp_dst e e.tp_dst) _ _
    (kind_piece e.priority (is_some e.src) (is_some e.dst) e.kind e.proto of_ip.0 room.proto)
    (joined (with_src e None) (with_src e e.src) (with_tp_dst e e.tp_dst) _ _
    (address_piece (with_src e) 110 (codes "w_src=") e.src
    (λ q less. read_of_says source (entry_with 0 frames.Any (Some q)) (with_src e None) _ (q, prefix_text q, refl, less, inl refl, refl) refl) refl room.src)
    (joined (with_dst e None) (with_dst e e.dst) (with_tp_dst e e.tp_dst) _ _
    (address_piece (with_dst e) 110 (codes "w_dst=") e.dst
    (λ q less. read_of_says destination (entry_with 0 frames.Any (Some q)) (with_dst e None) _ (q, prefix_text q, refl, less, inl refl, refl) refl) refl room.dst)
    (joined (with_tp_src e None) (with_tp_src e e.tp_src) (with_tp_dst e e.tp_dst) _ _
    (number_piece (with_tp_src e) 116 (codes "p_src=") (2 ^ 16) e.tp_src
    (λ n less. read_of_says source_port (entry_with n frames.Any None) (with_tp_src e None) _ (n, refl, less, refl) refl) refl (omega arith) room.tp_src)
    (number_piece (with_tp_dst e) 116 (codes "p_dst=") (2 ^ 16) e.tp_dst
    (λ n less. read_of_says destination_port (entry_with n frames.Any None) (with_tp_dst e None) _ (n, refl, less, refl) refl) refl (omega arith) room.tp_dst)))))
  where
    small : (n : ℕ) → n < 2 ^ 16 → nat_lt n (2 ^ 16) ≡ true
    small n h = grind (arith, nat_tests)

-- 2. The line.

abbrev pub bare_line : Entry → List ℕ
bare_line e = front_text e ++ action_text e.action

pub line_is : (e : Entry) → entry_line e ≡ bare_line e ++ 10 ∷ []
unfolding entry_line
line_is e = simp append_assoc refl

action_is : (a : Action) → IsActionText a (action_text a)
action_is Normal = inl refl
action_is Drop = refl

entry_own : (e : Entry) (k : FrameKind) → e.kind ≡ k → entry_of (record (of_kind e.priority k e.proto) { src = e.src; dst = e.dst; tp_src = e.tp_src; tp_dst = e.tp_dst }) e.action ≡ e
entry_own e frames.Any is = λ i. record e { kind = sym is i }
entry_own e frames.Arp is = λ i. record e { kind = sym is i }
entry_own e frames.Ip is = λ i. record e { kind = sym is i }

pub bare_writes : (e : Entry) → in_range e ≡ true → IsTrue (asks_of_ip e) → Writes (bare_line e) e
bare_writes e fits asks =
    let piece = front_piece e fits asks in
    let cut : fields (front_text e) ≡ piece.texts = ap fields (sym (append-nil (front_text e))) ∙ piece.cut [] ∙ append-nil piece.texts in
    let of_fields = fields_of_reads (with_tp_dst e e.tp_dst) piece.texts e.action (piece.read [] reads_none) in (
      record {
        front = front_text e;
        action = action_text e.action;
        blanks = [];
        written = ap (λ bs. front_text e ++ bs) (sym (append-nil (action_text e.action)));
        apart = piece.apart;
        of_fields = subst (AreFieldsOf e) (sym cut) (subst (λ (f : Entry). AreFieldsOf f piece.texts) (entry_own e e.kind refl) of_fields);
        of_action = action_is e.action;
        blank = refl;
      },
      asks,
    )

-- 3. The line contains no line end, and it is no comment.

action_lacks : (a : Action) → lacks 10 (action_text a) ≡ true
action_lacks Normal = refl
action_lacks Drop = refl

pub bare_lacks : (e : Entry) → in_range e ≡ true → IsTrue (asks_of_ip e) → lacks 10 (bare_line e) ≡ true
bare_lacks e fits asks = lacks-append 10 (front_text e) (action_text e.action) (front_piece e fits asks).one_line (action_lacks e.action)

not_comment : (b : ℕ) (bs : List ℕ) → is_blank b ≡ false → (b == 35) ≡ false → is_comment (b ∷ bs) ≡ false
unfolding is_comment
not_comment b bs word other =
    ap (λ t. are_comment (if t then words bs else if ends_word bs then (b ∷ []) ∷ words bs else onto_first b (words bs))) word
    ∙ by_end (ends_word bs) (words bs)
  where
    by_end : (t : Bool) (ws : List (List ℕ)) → are_comment (if t then (b ∷ []) ∷ ws else onto_first b ws) ≡ false
    by_end true ws = other
    by_end false [] = other
    by_end false (w ∷ ws) = other

pub bare_flow : (e : Entry) → is_comment (bare_line e) ≡ false
bare_flow e = not_comment 112 _ refl refl
