-- Little blocks fit the machine.
use Rattle.std.proofs.Common.{inl, inr}
use Rattle.c_compile_blocks.specs.inside.Limits.{LittleBlocksFit}
use Rattle.c_compile_blocks.proofs.PlainFit.{plain_fits}
use Rattle.c_compile_blocks.proofs.SmallFit.{small_ifs}

-- little blocks fit the machine
pub fits_machine : LittleBlocksFit
fits_machine b fits (inl s) = plain_fits b fits (inl s)
fits_machine b fits (inr (inl g)) = plain_fits b fits (inr g)
fits_machine b fits (inr (inr h)) = small_ifs b fits h
