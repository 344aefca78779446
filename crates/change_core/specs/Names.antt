-- Owners of addresses under a new and an old description, and their order.
use Rattle.std.specs.Prelude.{◌≡◌, ℕ, ◌+◌, List, [], ◌∷◌, Option, Some, None}
use Rattle.host_net.specs.Host.{Host, owner_of}
use Rattle.host_net.specs.Packet.{IsPacket}
use Rattle.host_net.specs.declared.packet.Packet.{Packet}
use Rattle.change_core.specs.declared.named_owner.NamedOwner.{NamedOwner}
use Rattle.change_core.specs.declared.named_owner.NamedOwner.TheVariants.{New, Old, Nobody}

-- The owner is the host of the new description if there is one, else the host of the old description if there is one, else nobody.
abbrev pub name_from : (new old : Option ℕ) → NamedOwner
name_from (Some i) old = New i
name_from None (Some j) = Old j
name_from None None = Nobody

-- The owner of an address is the host of the new description that owns it, else the host of the old description that owns it, else nobody.
abbrev pub named_owner : (new old : List Host) → ℕ → NamedOwner
named_owner new old a = name_from (owner_of new a) (owner_of old a)

-- The hosts of the old description, with numbers from j on, then nobody.
abbrev pub old_names_from : ℕ → List Host → List NamedOwner
old_names_from j [] = Nobody ∷ []
old_names_from j (h ∷ hs) = Old j ∷ old_names_from (j + 1) hs

-- The hosts of the new description, with numbers from i on, then the hosts of the old description, then nobody.
abbrev pub new_names_from : ℕ → (new old : List Host) → List NamedOwner
new_names_from i [] old = old_names_from 0 old
new_names_from i (h ∷ hs) old = New i ∷ new_names_from (i + 1) hs old

-- All owners in their order.
abbrev pub all_names : (new old : List Host) → List NamedOwner
all_names new old = new_names_from 0 new old

-- Packet p belongs to the pair: `from` owns its source, and `to` owns its destination.
pub record IsOfNames (new old : List Host) (from to : NamedOwner) (p : Packet) : Type 0 where
  pub packet : IsPacket p
  pub src : named_owner new old p.src ≡ from
  pub dst : named_owner new old p.dst ≡ to
