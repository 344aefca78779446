-- The three short lists at a packet, agreement of a filter and a policy on them, and the condition on the verdicts of the filter. Callers
-- use `Agreement` instead.
use Rattle.std.specs.Prelude.{◌≡◌, Bool, ◌||◌, IsTrue, List, [], ◌∷◌}
use Rattle.host_net.specs.declared.packet.Packet.{Packet}
use Rattle.host_net.specs.declared.packet.CtState.TheVariants.{New, Established}
use Rattle.host_net.specs.Packet.{swap_of}
use Rattle.pkt_core.specs.declared.event.Event.{Event}
use Rattle.pkt_core.specs.declared.event.Event.TheVariants.{Seen}
use Rattle.pkt_core.specs.Firewall.{Filter, may_pass}
use Rattle.audit_core.specs.Agreement.{AgreeOn}

-- The three lists at a packet: the packet only, the packet after its swap, and the packet after itself and its swap.
abbrev pub alone : Packet → List Event
alone p = Seen p ∷ []

abbrev pub after_swap : Packet → List Event
after_swap p = Seen (swap_of p) ∷ Seen p ∷ []

abbrev pub after_both : Packet → List Event
after_both p = Seen p ∷ Seen (swap_of p) ∷ Seen p ∷ []

-- The filter and the policy agree on the three lists at a packet.
pub record AgreeAt (filter : Filter) (permitted stateful : Packet → Bool) (p : Packet) : Type 0 where
  pub first : AgreeOn filter permitted stateful (alone p)
  pub second : AgreeOn filter permitted stateful (after_swap p)
  pub third : AgreeOn filter permitted stateful (after_both p)

-- The filter has the verdict of the policy on the packet: always in the state New, and in the state Established if the packet or its swap
-- is permitted, because no other packet enters this state.
pub record IsJudged (filter : Filter) (permitted stateful : Packet → Bool) (p : Packet) : Type 0 where
  pub new : (passes : Bool) → filter New p passes → passes ≡ may_pass permitted stateful New p
  pub established : IsTrue (permitted p || permitted (swap_of p)) → (passes : Bool) → filter Established p passes
      → passes ≡ may_pass permitted stateful Established p
