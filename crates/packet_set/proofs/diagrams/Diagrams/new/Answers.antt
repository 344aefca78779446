use Rattle.packet_set.proofs.KeptLaws.{kept_new, two_by}
use Rattle.packet_set.proofs.diagrams.Diagrams.new.Goals as goal

pub invariant_of-result : goal.invariant_of-result
invariant_of-result c = kept_new c.push-2.new.self.items c.in_ok-vec.field-0.items 64 (two_by c.new-nodes.result.items c.push.new.self.items c.push-2.new.self.items _ _ c.new-nodes.ensures.items c.in_ok-push.ensures.items c.in_ok-push-2.ensures.items) (c.in_ok-vec.ensures.items_if_clones_equal (λ y e. e))
