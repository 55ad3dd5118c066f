-- The levels left fall with each call.
use Rattle.extractor.proofs.partners.+partners_within.Given as goal

abbrev pub decreases-partners_within : goal.decreases-partners_within
decreases-partners_within l = l.left
