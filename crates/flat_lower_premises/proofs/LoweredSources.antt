-- The flat program of a source that is not too long fits.
use Rattle.std.proofs.Common.{arith}
use Rattle.flat_lower_premises.specs.inside.Laws.{LoweredFits}
use Rattle.flat_lower_premises.proofs.Programs.{fits_at_any_length}
use Rattle.flat_lower_premises.proofs.CodeWeights.{few_statements}

-- the flat program of a source that is not too long fits
pub lowered_fits : LoweredFits
lowered_fits P s few jumps rows short =
    let f = fits_at_any_length P s few jumps rows in
    let most = few_statements P in
    record {
      each = f.each;
      main = f.main;
      few = omega (arith, most, short);
      bytes = f.bytes;
      room = f.room;
    }
