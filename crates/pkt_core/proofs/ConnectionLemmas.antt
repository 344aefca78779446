-- The connection of a packet determines its state.
use Rattle.std.proofs.Common.{◌≡◌, ◌||◌, Bool, true, false, Option, Some, None, refl}
use Rattle.std.specs.Prelude.{is_some, if◌then◌else◌}
use Rattle.std.specs.Option.{unwrap_or}
use Rattle.host_net.specs.declared.packet.Packet.{Packet}
use Rattle.host_net.specs.declared.packet.CtState.TheVariants.{New, Established}
use Rattle.host_net.specs.Packet.{swap_of}
use Rattle.pkt_core.specs.inner.ConnectionTable.{connection_by, connection_of, state_by}
use Rattle.pkt_core.specs.Tracking.{ConnectionTable, state_of}

pub state_is : (kept : ConnectionTable) (p : Packet) → state_by (connection_of kept p) ≡ state_of kept p
state_is kept p = by_marks (kept (swap_of p)) (kept p)
  where
    by_marks : (other own : Option Bool) → state_by (connection_by other own) ≡ (if (is_some other || unwrap_or own false) then Established else New)
    by_marks (Some m) own = refl
    by_marks None (Some true) = refl
    by_marks None (Some false) = refl
    by_marks None None = refl
