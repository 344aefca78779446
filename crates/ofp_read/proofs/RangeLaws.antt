-- The numbers of an entry that a line encodes fit a frame.
use Rattle.std.proofs.Common.{◌≡◌, ◌<◌, ◌^◌, inl, inr, ℕ, true, List, Option, Some, ap, ◌∙◌, arith}
use Rattle.std.specs.Prelude.{nat_lt, IsTrue}
use Rattle.std.proofs.lemmas.Bool.{and_from}
use Rattle.std.proofs.lemmas.Bool.Decides.{nat_tests}
use Rattle.host_net.specs.declared.prefix.Prefix.{Prefix}
use Rattle.ofp_rules.specs.declared.entry.Entry.{Entry}
use Rattle.ofp_rules.specs.inner.Ranges.{address_fits, in_range, number_fits}
use Rattle.ofp_read.specs.Grammar.{Part, priority, table, kind, source, destination, protocol, source_port, destination_port, IsAddressText, IsNumberText, Writes}
use Rattle.ofp_read.proofs.PartWords.{Says, IsUnsaid, name_of, IsNamed, named_one}
use Rattle.ofp_read.proofs.EntryLaws.{fields_are}

-- The value of this part of the entry fits.
abbrev Fits : Part → Entry → Type 0
Fits priority e = nat_lt e.priority (2 ^ 16) ≡ true
Fits table e = Unit {0}
Fits kind e = Unit {0}
Fits source e = address_fits e.src ≡ true
Fits destination e = address_fits e.dst ≡ true
Fits protocol e = number_fits (2 ^ 8) e.proto ≡ true
Fits source_port e = number_fits (2 ^ 16) e.tp_src ≡ true
Fits destination_port e = number_fits (2 ^ 16) e.tp_dst ≡ true

below : (n limit : ℕ) → n < limit → nat_lt n limit ≡ true
below n limit h = grind (arith, nat_tests)

address_said : (name : List ℕ) (given : Option Prefix) (text : List ℕ) → IsAddressText name given text → address_fits given ≡ true
address_said name given text said = ap address_fits said.2 ∙ below said.0.addr (2 ^ 32) said.3

number_said : (name : List ℕ) (limit : ℕ) (given : Option ℕ) (text : List ℕ) → IsNumberText name limit given text
    → number_fits limit given ≡ true
number_said name limit given text said = ap (number_fits limit) said.1 ∙ below said.0 limit said.2

named_fits : (n : ℕ) (text : List ℕ) → IsNamed n text → nat_lt n (2 ^ 8) ≡ true
named_fits n text (inl (is, e)) = ap (λ m. nat_lt m (2 ^ 8)) is
named_fits n text (inr (inl (is, e))) = ap (λ m. nat_lt m (2 ^ 8)) is
named_fits n text (inr (inr (is, e))) = ap (λ m. nat_lt m (2 ^ 8)) is

-- For a part that is specified, or not.
said_fits : (p : Part) (e : Entry) (text : List ℕ) → Says p e text → Fits p e
said_fits priority e text said = number_said (name_of priority) (2 ^ 16) (Some e.priority) text said
said_fits table e text said = tt
said_fits kind e text said = tt
said_fits source e text said = address_said (name_of source) e.src text said
said_fits destination e text said = address_said (name_of destination) e.dst text said
said_fits protocol e text said = number_said (name_of protocol) (2 ^ 8) e.proto text said
said_fits source_port e text said = number_said (name_of source_port) (2 ^ 16) e.tp_src text said
said_fits destination_port e text said = number_said (name_of destination_port) (2 ^ 16) e.tp_dst text said

unsaid_fits : (p : Part) (e : Entry) → IsUnsaid p e → Fits p e
unsaid_fits priority e unsaid = ap (λ n. nat_lt n (2 ^ 16)) unsaid
unsaid_fits table e unsaid = tt
unsaid_fits kind e unsaid = tt
unsaid_fits source e unsaid = ap address_fits unsaid
unsaid_fits destination e unsaid = ap address_fits unsaid
unsaid_fits protocol e unsaid = ap (number_fits (2 ^ 8)) unsaid
unsaid_fits source_port e unsaid = ap (number_fits (2 ^ 16)) unsaid
unsaid_fits destination_port e unsaid = ap (number_fits (2 ^ 16)) unsaid

pub written_in_range : (line : List ℕ) (e : Entry) → Writes line e → IsTrue (in_range e)
written_in_range line e writes =
    let fields = writes.0.of_fields in
    let fits : (p : Part) → Fits p e = fields_are e e (λ p. Fits p e) (λ p text said also. said_fits p e text said)
    (λ n m text named also. (tt, ap (number_fits (2 ^ 8)) named.1 ∙ named_fits n text (named_one n text named.2)))
    (λ p unsaid also. unsaid_fits p e unsaid) _ fields fields in
    and_from _ _ (fits priority)
    (and_from _ _ (fits protocol)
    (and_from _ _ (fits source_port) (and_from _ _ (fits destination_port) (and_from _ _ (fits source) (fits destination)))))
