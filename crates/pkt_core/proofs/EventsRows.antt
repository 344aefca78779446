-- Test vectors: lines of event files, and their parse results.
use Rattle.std.proofs.Common.{◌≡◌, refl}
use Rattle.std.specs.Prelude.{codes, Ok, Err}
use Rattle.std.specs.Fmt.{digits}
use Rattle.text_core.specs.inner.Decimal.{number}
use Rattle.text_core.specs.Lines.{words}
use Rattle.text_core.specs.declared.faults.ListWhy.TheVariants.{BadLine, BadValue}
use Rattle.host_net.specs.inner.PrefixSteps.{address_of}
use Rattle.pkt_core.specs.declared.event.Event.TheVariants.{Seen, Forget}
use Rattle.pkt_core.specs.inner.EventSteps.{event_of, event_by, packet_of}

-- A packet with a named protocol. Ports are taken unchanged, also those of `icmp`.
row_packet : event_of (words (codes "packet 8.8.8.8 10.1.0.10 icmp 3333 443")) ≡ Ok (Seen record { src = 134744072; dst = 167837706; proto = 1; sport = 3333; dport = 443 })
unfolding event_of event_by packet_of address_of number digits
row_packet = refl

row_forget : event_of (words (codes "forget 0.0.0.1 0.0.0.2 255 0 65535")) ≡ Ok (Forget record { src = 1; dst = 2; proto = 255; sport = 0; dport = 65535 })
unfolding event_of event_by packet_of address_of number digits
row_forget = refl

-- A bad line takes precedence over every bad value.
row_verb : event_of (words (codes "drop x x x x x")) ≡ Err BadLine
unfolding event_of event_by packet_of address_of number digits
row_verb = refl

row_count : event_of (words (codes "packet x x x x")) ≡ Err BadLine
unfolding event_of
row_count = refl

-- `esp` is not a protocol name here, an address has no length, and leading zeros are rejected.
row_esp : event_of (words (codes "packet 0.0.0.1 0.0.0.2 esp 1 2")) ≡ Err BadValue
unfolding event_of event_by packet_of address_of number digits
row_esp = refl

row_length : event_of (words (codes "packet 0.0.0.1/32 0.0.0.2 6 1 2")) ≡ Err BadValue
unfolding event_of event_by packet_of address_of number digits
row_length = refl

row_zero : event_of (words (codes "packet 0.0.0.1 0.0.0.2 06 1 2")) ≡ Err BadValue
unfolding event_of event_by packet_of address_of number digits
row_zero = refl
