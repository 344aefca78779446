-- Whether the addresses that rules match on have 32 bits.
use Rattle.std.specs.Prelude.{◌^◌, Bool, true, ◌&&◌, nat_lt, IsTrue, List, Option, Some, None}
use Rattle.std.specs.List.{list_all}
use Rattle.ipt_rules.specs.declared.rule.AddrMatch.{AddrMatch}
use Rattle.ipt_rules.specs.declared.rule.Rule.{Rule}
use Rattle.ipt_rules.specs.Chain.{Chain}

-- The address of a match has 32 bits.
abbrev pub address_fits : Option AddrMatch → Bool
address_fits None = true
address_fits (Some part) = nat_lt part.prefix.addr (2 ^ 32)

abbrev pub addresses_fit : Rule → Bool
addresses_fit r = address_fits r.src && address_fits r.dst

abbrev pub AddressesFit : List Chain → Type 0
AddressesFit chains = IsTrue (list_all (λ x. list_all addresses_fit x.rules) chains)
