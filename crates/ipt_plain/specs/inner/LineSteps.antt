-- The calls of this crate, as functions.
use Rattle.std.specs.Prelude.{ℕ, ◌+◌, Bool, true, false, ◌||◌, ◌&&◌, ◌==◌, not, nat_lt, if◌then◌else◌, List, [], ◌∷◌, Option, Some, None, codes, bytes_eq, length}
use Rattle.std.specs.List.{list_any}
use Rattle.text_core.specs.Lines.{is_blank, is_comment, words}
use Rattle.ipt_plain.specs.declared.arguments.Place.{Place}
use Rattle.ipt_plain.specs.declared.arguments.Place.TheVariants.{Between, Token, Text, Escaped, Behind, Bad}
use Rattle.ipt_plain.specs.declared.fault.PlainFault.{PlainFault}
use Rattle.ipt_plain.specs.declared.fault.PlainWhy.{PlainWhy}
use Rattle.ipt_plain.specs.declared.fault.PlainWhy.TheVariants.{LongLine, ZeroByte, InnerQuote, AllPorts, NoForward}

-- The position after a byte.
abbrev pub place_after : Place → ℕ → Place
place_after Between b = if is_blank b then Between else if b == 34 then Text else Token
place_after Token b = if is_blank b then Between else if b == 34 then Bad else Token
place_after Text b = if b == 92 then Escaped else if b == 34 then Behind else Text
place_after Escaped b = Text
place_after Behind b = if is_blank b then Between else Bad
place_after Bad b = Bad

-- A line may end here.
abbrev pub may_end : Place → Bool
may_end Between = true
may_end Token = true
may_end Text = false
may_end Escaped = false
may_end Behind = true
may_end Bad = false

-- The rest of the line completes a line that consists of arguments.
abbrev pub has_arguments : Place → List ℕ → Bool
has_arguments place [] = may_end place
has_arguments place (b ∷ bs) = has_arguments (place_after place b) bs

unfoldable pub is_bang : List ℕ → Bool
is_bang w = bytes_eq w (codes "!")

unfoldable pub is_port_option : List ℕ → Bool
is_port_option w = bytes_eq w (codes "--sport") || bytes_eq w (codes "--dport")

unfoldable pub is_all_ports : List ℕ → Bool
is_all_ports w = bytes_eq w (codes "0:65535") || bytes_eq w (codes "0:") || bytes_eq w (codes ":65535")

-- Three tokens are a negated match on all ports.
abbrev pub is_negated_match : List ℕ → List ℕ → List ℕ → Bool
is_negated_match bang option ports = is_bang bang && is_port_option option && is_all_ports ports

-- The tokens, after two earlier ones, contain the end of a negated match on all ports.
abbrev pub negates_all_ports : (earlier last : List ℕ) → List (List ℕ) → Bool
negates_all_ports earlier last [] = false
negates_all_ports earlier last (w ∷ ws) = is_negated_match earlier last w || negates_all_ports last w ws

abbrev pub has_zero : List ℕ → Bool
has_zero line = list_any (λ b. b == 0) line

-- The reason why a line that is no comment is read otherwise.
abbrev pub rule_fault : List ℕ → Option PlainWhy
rule_fault line =
    if not (has_arguments Between line) then Some InnerQuote else if negates_all_ports [] [] (words line) then Some AllPorts else None

-- The reason why a line is read otherwise.
unfoldable pub line_fault : List ℕ → Option PlainWhy
line_fault line =
    if nat_lt 10239 (length line) then Some LongLine else if has_zero line then Some ZeroByte else if is_comment line then None else rule_fault line

abbrev pub begins_forward : List (List ℕ) → Bool
begins_forward [] = false
begins_forward (w ∷ ws) = bytes_eq w (codes ":FORWARD")

-- The line is a chain line of FORWARD.
unfoldable pub is_forward : List ℕ → Bool
is_forward line = begins_forward (words line)

abbrev pub fault_or : Option PlainWhy → ℕ → Option PlainFault → Option PlainFault
fault_or None n others = others
fault_or (Some why) n others = Some (record { line = n; why = why })

-- The first fault of the lines from line n on, after lines of which one is a chain line of FORWARD or none is.
abbrev pub text_fault : Bool → ℕ → List (List ℕ) → Option PlainFault
text_fault forward n [] = if forward then None else Some (record { line = n; why = NoForward })
text_fault forward n (l ∷ ls) = fault_or (line_fault l) n (text_fault (forward || is_forward l) (n + 1) ls)
