-- What holds of all that may be added holds of the function of each format.
use Rattle.c_library.proofs.FormatForms.{definition_keeps}
use Rattle.c_library.proofs.Holds.{Fact, Allows}
use Rattle.c_library.proofs.KeptLibrary.{FormatsHave}

-- so the definitions of formats may be added
pub formats_kept : (P : Fact) → Allows P → FormatsHave P
formats_kept P a format fs e = definition_keeps P a format fs e
