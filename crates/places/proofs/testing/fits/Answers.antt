use Rattle.places.proofs.Fitting.{fits_is}
use Rattle.places.proofs.testing.fits.Goals as goal

pub returns : goal.returns
returns c = cc (fits_is c.args.w c.args.used
    c.args.n c.ranges.w.fits
    c.requires)
