-- The fields of a service. Not visible to callers.
use Rattle.packet_set.specs.declared.field.Field.{Field}
use Rattle.packet_set.specs.declared.field.Field.TheVariants.{Proto, Dport}

-- The field is part of the service of a packet.
abbrev pub IsService : Field → Type 0
IsService Proto = Unit {0}
IsService Dport = Unit {0}
IsService _ = ⊥
