use Rattle.pkt_core.proofs.AnyTrackingLaws.{states_are_sound}
use Rattle.pkt_core.proofs.FewerStatesLaws.{policy_fewer}
use Rattle.pkt_core.proofs.laws.tracked_states_are_sound.Goals as goal

pub returns : goal.returns
returns c = record { sound = states_are_sound; fewer = policy_fewer }
