-- Refusals 6 to 14 of a description: its version, its sizes, its names, its hosts and their prefixes (the description's
-- format, docs/FORMATS.md).
use Rattle.std.specs.Prelude.{ℕ, ◌+◌, ℤ, pos, Bool, false, not, ◌&&◌, ◌||◌, nat_lt, List, [], ◌∷◌, length, map, flat_map, find, slice_get, Option, option_map}
use Rattle.std.specs.Option.{option_map_or}
use Rattle.std.specs.Ordering.{int_eq}
use Rattle.std.specs.Str.{bytes_eq}
use Rattle.desc_form.specs.declared.refusal.Place.{Place}
use Rattle.desc_form.specs.declared.refusal.Place.TheVariants.{Document, Host, Invariant, Template}
use Rattle.desc_form.specs.declared.refusal.Refusal.{Refusal}
use Rattle.desc_form.specs.declared.refusal.Why.{Why}
use Rattle.desc_form.specs.declared.refusal.Why.TheVariants.{BadVersion, TooMany, BadName, DuplicateHost, BadPrefix, HostBits, NoAddress, TwoRests, Overlap}
use Rattle.text_core.specs.FirstMatch.{some_if, first_of, numbered, Numbered, first_conflict}
use Rattle.desc_form.specs.Mentions.{NameUse, all_names}
use Rattle.desc_form.specs.Refusals.{barred_at, first_at, refused, refused_item}
use Rattle.desc_form.specs.RawDescription.{RawDescription, RawHost, RawInvariant}
use Rattle.desc_form.specs.RawTemplate.{RawTemplate}
use Rattle.text_core.specs.Name.{is_name}
use Rattle.host_net.specs.Host.{has_no_address}
use Rattle.host_net.specs.Limits.{host_limit, prefix_limit, invariant_limit}
use Rattle.host_net.specs.Prefix.{is_exact, meets, prefix_of}
use Rattle.host_net.specs.declared.prefix.Prefix.{Prefix}

-- An entry of the prefix list of a host: its item number there, and the prefix that it denotes, if it denotes one.
pub record Entry : Type 0 where
  pub host : ℕ
  pub item : ℕ
  pub prefix : Option Prefix

-- The entries of one host.
abbrev pub entries_of : Numbered RawHost → List Entry
entries_of h = map (λ e. record { host = h.number; item = e.number; prefix = prefix_of e.what }) (numbered h.what.at)

-- The entries of all hosts, by host and item.
unfoldable pub all_entries : RawDescription → List Entry
all_entries w = flat_map entries_of (numbered w.hosts)

-- 6: the version is neither 1 nor 2.
unfoldable pub bad_version : ℤ → Option Refusal
bad_version version = some_if (not (int_eq version (pos 1) || int_eq version (pos 2))) (refused BadVersion Document)

-- The greatest number of declared templates.
abbrev pub template_limit : ℕ
template_limit = 16

-- A list has more elements than a limit: the refusal is at the first element beyond it.
abbrev pub beyond : {A : Type 0} → ℕ → (ℕ → Place) → List A → Option Refusal
beyond limit place xs = some_if (nat_lt limit (length xs)) (refused TooMany (place (limit + 1)))

-- 7: there are too many hosts, then too many prefixes, then too many invariants, then too many templates.
unfoldable pub too_many : List RawHost → List Entry → List RawInvariant → List RawTemplate → Option Refusal
too_many hs es invariants templates =
    first_of
    (beyond host_limit Host hs
    ∷ option_map (λ e. refused_item TooMany (Host e.host) e.item) (slice_get es prefix_limit)
    ∷ beyond invariant_limit Invariant invariants
    ∷ beyond template_limit Template templates
    ∷ [])

-- 8: a text in the position of a name is no legal name.
unfoldable pub bad_name : List NameUse → Option Refusal
bad_name names = option_map (λ m. refused_item BadName m.place m.item) (find (λ m. not (is_name m.name)) names)

-- 9: a host has the name of an earlier one.
unfoldable pub duplicate_host : List RawHost → Option Refusal
duplicate_host hs = barred_at DuplicateHost Host (λ h g. bytes_eq h.name g.name) hs

-- The refusal of the first entry whose prefix satisfies a test.
abbrev pub first_entry : Why → (Option Prefix → Bool) → List Entry → Option Refusal
first_entry why test es = option_map (λ e. refused_item why (Host e.host) e.item) (find (λ e. test e.prefix) es)

-- 10: an entry is no prefix, or a prefix of length 0.
unfoldable pub bad_prefix : List Entry → Option Refusal
bad_prefix es = first_entry BadPrefix (λ said. not (option_map_or (λ p. nat_lt 0 p.len) said false)) es

-- 11: an entry has bits set after the length.
unfoldable pub host_bits : List Entry → Option Refusal
host_bits es = first_entry HostBits (λ said. option_map_or (λ p. not (is_exact p)) said false) es

-- 12: a host has neither a prefix nor the rest mark, or both.
unfoldable pub no_address : List RawHost → Option Refusal
no_address hs = first_at NoAddress Host (λ h. has_no_address h.at h.rest) hs

-- 13: a second host has the rest mark.
unfoldable pub two_rests : List RawHost → Option Refusal
two_rests hs = barred_at TwoRests Host (λ h g. h.rest && g.rest) hs

-- The prefixes of two entries share an address.
abbrev pub entries_meet : Option Prefix → Option Prefix → Bool
entries_meet said other = option_map_or (λ p. option_map_or (meets p) other false) said false

-- 14: a prefix shares an address with an earlier one, by host and item.
unfoldable pub overlap : List Entry → Option Refusal
overlap es =
    option_map (λ p. record (refused_item Overlap (Host p.later.host) p.later.item) { other = p.earlier.host })
    (first_conflict (λ e f. entries_meet e.prefix f.prefix) es)

-- Conditions 10 to 14.
abbrev pub address_conditions : List RawHost → List Entry → List (Option Refusal)
address_conditions hs es = bad_prefix es ∷ host_bits es ∷ no_address hs ∷ two_rests hs ∷ overlap es ∷ []

-- The conditions in the order of their numbers, 6 to 14.
unfoldable pub host_conditions : RawDescription → List (Option Refusal)
host_conditions w =
    bad_version w.version
    ∷ too_many w.hosts (all_entries w) w.invariants w.templates
    ∷ bad_name (all_names w)
    ∷ duplicate_host w.hosts
    ∷ address_conditions w.hosts (all_entries w)
