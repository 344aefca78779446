-- Parsing the values of `-p`, `--sport` and `--dport`. Callers do not see this; they use `ServiceValues`.
use Rattle.std.specs.Prelude.{ℕ, ◌&&◌, ◌==◌, nat_le, if◌then◌else◌, List, [], ◌∷◌, Option, Some, None}
use Rattle.std.specs.Option.{option_or}
use Rattle.text_core.specs.inner.Decimal.{number}
use Rattle.text_core.specs.inner.Pieces.{split_once}
use Rattle.text_core.specs.Steps.{◌>>=◌}
use Rattle.host_net.specs.Service.{max_port}
use Rattle.host_net.specs.inner.ServiceSteps.{protocol_of}
use Rattle.ipt_read.specs.ServiceValues.{other_protocol}
use Rattle.ipt_read.specs.inner.Counts.{is_nothing}

-- The protocol of a name.
abbrev pub named_protocol : List ℕ → Option ℕ
named_protocol word = option_or (other_protocol word) (protocol_of word)

abbrev pub if_positive : Option ℕ → Option ℕ
if_positive None = None
if_positive (Some n) = if n == 0 then None else Some n

-- The protocol of a name, or otherwise of a number.
unfoldable pub asked_protocol : List ℕ → Option ℕ
asked_protocol word = option_or (named_protocol word) (if_positive (number 255 word))

-- A port, or the default if none is written.
abbrev pub port_or : ℕ → List ℕ → Option ℕ
port_or other [] = Some other
port_or other (b ∷ bs) = number max_port (b ∷ bs)

-- The ports from one to another, if they are in order.
abbrev pub ports_between : List ℕ → List ℕ → Option (ℕ × ℕ)
ports_between first last = do
  low ← port_or 0 first
  high ← port_or max_port last
  if nat_le low high then Some (low, high) else None

-- The ports of a token, given the parts before and after a colon, or otherwise one port.
abbrev pub ports_of_parts : List ℕ → Option (List ℕ × List ℕ) → Option (ℕ × ℕ)
ports_of_parts word None = do
  port ← number max_port word
  Some (port, port)
ports_of_parts word (Some parts) = if is_nothing parts.0 && is_nothing parts.1 then None else ports_between parts.0 parts.1

unfoldable pub asked_ports : List ℕ → Option (ℕ × ℕ)
asked_ports word = ports_of_parts word (split_once 58 word)
