-- All places at once.
use Rattle.validator.proofs.WordTests.{places_by}
use Rattle.validator.proofs.known_places.Goals as goal

pub returns : goal.returns
returns c = places_by _ _ _ _ _ c.word_of.ensures c.fits.ensures
