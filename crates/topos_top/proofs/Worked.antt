-- Test vectors: a number of hosts, and some arguments that form no command.
use Rattle.std.proofs.Common.{◌≡◌, ℕ, List, [], ◌∷◌, None, Some, refl}
use Rattle.std.specs.Prelude.{codes}
use Rattle.std.specs.Fmt.{digits}
use Rattle.text_core.specs.inner.Decimal.{number}
use Rattle.topos_top.specs.Command.{Sample}
use Rattle.topos_top.specs.inner.Command.{command_of}

sample_words : command_of (codes "sample" ∷ codes "256" ∷ []) ≡ Some (Sample 256)
unfolding command_of number digits
sample_words = refl

-- No host, more than the limit, a leading zero, no number, an argument too many.
no_hosts : command_of (codes "sample" ∷ codes "0" ∷ []) ≡ None
unfolding command_of number digits
no_hosts = refl

many_hosts : command_of (codes "sample" ∷ codes "257" ∷ []) ≡ None
unfolding command_of number digits
many_hosts = refl

padded_hosts : command_of (codes "sample" ∷ codes "01" ∷ []) ≡ None
unfolding command_of number digits
padded_hosts = refl

word_for_hosts : command_of (codes "sample" ∷ codes "x" ∷ []) ≡ None
unfolding command_of number digits
word_for_hosts = refl

sample_alone : command_of (codes "sample" ∷ []) ≡ None
unfolding command_of
sample_alone = refl

sample_of_file : (file : List ℕ) → command_of (codes "sample" ∷ codes "8" ∷ file ∷ []) ≡ None
unfolding command_of number digits
sample_of_file file = refl

-- Rules of another dialect, an argument too few, an argument too many.
other_dialect : (file : List ℕ) → command_of (codes "rules" ∷ codes "nftables" ∷ file ∷ []) ≡ None
unfolding command_of
other_dialect file = refl

no_file : command_of (codes "repair" ∷ codes "iptables" ∷ []) ≡ None
unfolding command_of
no_file = refl

one_word : command_of (codes "check" ∷ []) ≡ None
unfolding command_of
one_word = refl

too_many : (file other : List ℕ) → command_of (codes "policy" ∷ file ∷ other ∷ []) ≡ None
unfolding command_of
too_many file other = refl
