-- The model of the private type of an entry, and tests of entries.
use Rattle.std.specs.Prelude.{ℕ, Bool, false, not, nat_lt, List, map, slice_get, Option, option_map}
use Rattle.std.specs.Option.{option_map_or}
use Rattle.desc_form.specs.HostConditions as condition
use Rattle.desc_form.specs.Refusals.{refused_item}
use Rattle.desc_form.specs.declared.entries.Entry.{Entry}
use Rattle.desc_form.specs.declared.refusal.Place.TheVariants.{Host}
use Rattle.desc_form.specs.declared.refusal.Refusal.{Refusal}
use Rattle.desc_form.specs.declared.refusal.Why.TheVariants.{TooMany}
use Rattle.host_net.specs.Limits.{prefix_limit}
use Rattle.host_net.specs.Prefix.{is_exact, prefix_of}
use Rattle.host_net.specs.declared.prefix.Prefix.{Prefix}
use Rattle.text_core.specs.FirstMatch.{Numbered, numbered}

abbrev pub entry_view : Entry → condition.Entry
entry_view e = record { host = e.host; item = e.item; prefix = e.prefix }

abbrev pub entry_at : ℕ → Numbered (List ℕ) → condition.Entry
entry_at host e = record { host = host; item = e.number; prefix = prefix_of e.what }

abbrev pub entries_at : ℕ → List (List ℕ) → List condition.Entry
entries_at host texts = map (entry_at host) (numbered texts)

-- The number of prefixes of all hosts exceeds the limit.
abbrev pub too_many_prefixes : List condition.Entry → Option Refusal
too_many_prefixes es = option_map (λ e. refused_item TooMany (Host e.host) e.item) (slice_get es prefix_limit)

-- The entry is a prefix of at least one bit.
abbrev pub is_prefix : Option Prefix → Bool
is_prefix said = option_map_or (λ p. nat_lt 0 p.len) said false

-- The entry is a prefix with bits set after its length.
abbrev pub has_host_bits : Option Prefix → Bool
has_host_bits said = option_map_or (λ p. not (is_exact p)) said false
