use Rattle.type_rules.proofs.Fits.{fits_exactly}
use Rattle.type_rules.proofs.law.fits_exactly.Goals as goal

pub returns : goal.returns
returns c = fits_exactly
