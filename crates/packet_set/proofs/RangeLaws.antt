-- Laws of sets by ranges of numbers.
use Rattle.std.proofs.Common.{◌≡◌, ℕ, Bool, true, false, List, [], ◌∷◌, drop, length, refl, sym, ap, ◌∙◌}
use Rattle.std.specs.Prelude.{not, ◌&&◌, ◌||◌, if◌then◌else◌}
use Rattle.host_net.specs.declared.packet.Packet.{Packet}
use Rattle.header_space.specs.declared.header_match.FieldMatch.{FieldMatch}
use Rattle.header_space.specs.declared.header_match.HeaderMatch.{HeaderMatch}
use Rattle.header_space.specs.Matching.{field_fits, fits, lies_in, range_fits}
use Rattle.packet_set.specs.declared.node.Node.{Node}
use Rattle.packet_set.specs.Nodes.{has}
use Rattle.header_space.specs.declared.address_range.AddressRange.{AddressRange}
use Rattle.packet_set.specs.Sets.{IsSet, is_among}
use Rattle.packet_set.proofs.HasLaws.{has_empty, has_every}

pub set_same : (nodes : List Node) (set : ℕ) (P Q : Packet → Bool) → ((p : Packet) → P p ≡ Q p) → IsSet nodes set P → IsSet nodes set Q
set_same nodes set P Q same is = record { there = is.there; exact = λ p. is.exact p ∙ same p }

off : (l e x : Bool) → e ≡ false → (if l then e else x) ≡ (not l && x)
off true e x none = none
off false e x none = refl

on : (l e x : Bool) → e ≡ false → (if l then x else e) ≡ (l && x)
on true e x none = refl
on false e x none = none

pub fits_not : (range : FieldMatch) (nodes : List Node) (p : Packet) (n : ℕ) (x : Bool) → range.negated ≡ true
    → (if lies_in range n then has nodes 0 p else x) ≡ (range_fits range n && x)
fits_not range nodes p n x negated =
    off (lies_in range n) _ x (has_empty nodes p) ∙ ap (λ (b : Bool). (if b then not (lies_in range n) else lies_in range n) && x) (sym negated)

pub fits_plain : (range : FieldMatch) (nodes : List Node) (p : Packet) (n : ℕ) (x : Bool) → range.negated ≡ false
    → (if lies_in range n then x else has nodes 0 p) ≡ (range_fits range n && x)
fits_plain range nodes p n x plain =
    on (lies_in range n) _ x (has_empty nodes p) ∙ ap (λ (b : Bool). (if b then not (lies_in range n) else lies_in range n) && x) (sym plain)

and_true : (x y : Bool) → y ≡ true → (x && y) ≡ x
and_true true y e = e
and_true false y e = refl

and_none : (x : Bool) → false ≡ (x && false)
and_none true = refl
and_none false = refl

-- The order of the fields does not matter.
in_order : (src dst proto sport dport : Bool) → (proto && (dport && (src && (dst && sport)))) ≡ (src && (dst && (proto && (sport && dport))))
in_order false dst proto sport dport = (ap (λ (x : Bool). proto && x) (sym (and_none dport))) ∙ sym (and_none proto)
in_order true false proto sport dport = (ap (λ (x : Bool). proto && x) (sym (and_none dport))) ∙ sym (and_none proto)
in_order true true false sport dport = refl
in_order true true true true true = refl
in_order true true true true false = refl
in_order true true true false true = refl
in_order true true true false false = refl

pub all_fit : (asked : HeaderMatch) (none one two three four : List Node) (sport dst src dport : ℕ)
    → IsSet one sport (λ p. field_fits asked.sport p.sport && has none 1 p)
    → IsSet two dst (λ p. field_fits asked.dst p.dst && has one sport p)
    → IsSet three src (λ p. field_fits asked.src p.src && has two dst p)
    → IsSet four dport (λ p. field_fits asked.dport p.dport && has three src p)
    → (p : Packet) → (field_fits asked.proto p.proto && has four dport p) ≡ fits asked p
all_fit asked none one two three four sport dst src dport a b c d p =
    ap (λ (x : Bool). field_fits asked.proto p.proto && x) (d.exact p
    ∙ ap (λ (x : Bool). field_fits asked.dport p.dport && x) (c.exact p
    ∙ ap (λ (x : Bool). field_fits asked.src p.src && x) (b.exact p
    ∙ ap (λ (x : Bool). field_fits asked.dst p.dst && x) (a.exact p ∙ and_true (field_fits asked.sport p.sport) (has none 1 p) (has_every none p)))))
    ∙ in_order (field_fits asked.src p.src) (field_fits asked.dst p.dst) (field_fits asked.proto p.proto) (field_fits asked.sport p.sport) (field_fits asked.dport p.dport)

-- ---- lists of ranges

pub among_none : (ranges : List AddressRange) (n : ℕ) → is_among (drop (length ranges) ranges) n ≡ false
among_none [] n = refl
among_none (range ∷ ranges) n = among_none ranges n

pub among_more : (here later there : Bool) → ((later && there) || (here && there)) ≡ ((here || later) && there)
among_more true true true = refl
among_more true true false = refl
among_more true false true = refl
among_more true false false = refl
among_more false true true = refl
among_more false true false = refl
among_more false false true = refl
among_more false false false = refl
