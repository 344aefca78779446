use Rattle.nft_chains.proofs.prefixes.+push_cover.Given as goal

abbrev pub decreases-push_cover : goal.decreases-push_cover
decreases-push_cover l = l.bits
