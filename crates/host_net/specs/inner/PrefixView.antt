-- The addresses that two prefixes share.
use Rattle.std.specs.Prelude.{ℕ, ◌^◌, ◌<◌, IsTrue}
use Rattle.host_net.specs.declared.prefix.Prefix.{Prefix}
use Rattle.host_net.specs.Prefix.{covers}

-- Both prefixes cover some address.
abbrev pub ShareAddress : Prefix → Prefix → Type 0
ShareAddress p q = (a : ℕ) × (a < 2 ^ 32) × IsTrue (covers p a) × IsTrue (covers q a)
