use Rattle.header_space.proofs.search.+least_after.Given as goal

abbrev pub decreases-least_after : goal.decreases-least_after
decreases-least_after g l = l.depth
