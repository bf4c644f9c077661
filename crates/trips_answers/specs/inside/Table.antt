-- Beside what is believed of Table.antt: what a call of the program answered and wrote, status by status.
use Rattle.std.specs.Prelude.{ℕ, List, Option}
use Rattle.trips_requests.specs.Table.{IsCutShort}
use Rattle.trips_answers.specs.Request.{Request}
use Rattle.trips_answers.specs.Answer.{IsAnswer}

-- Some answer that holds was cut off: the first part of its report was written.
abbrev pub IsCutOff : Option Request → (List ℕ → Option (List ℕ)) → Type 0
    → Option (List ℕ) → Option (List ℕ) → Type 0
IsCutOff request held rose old new = IsCutShort (IsAnswer request held rose) old new
