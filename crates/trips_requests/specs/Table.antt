-- What reading a file comes to, and what a call answers and writes, status by status.
use Rattle.std.specs.Prelude.{◌≡◌, ◌⊎◌, ℕ, ◌<◌, ◌≤◌, List, [], ◌∷◌, Option, IfSome, length}
use Rattle.trips_outside.specs.Outside.{Appended, AppendedPart, Holds}
use Rattle.trips_requests.specs.declared.loading.Loaded.{Loaded}
use Rattle.trips_requests.specs.declared.loading.Loaded.TheVariants.{Fault, TooLarge, Bytes}
use Rattle.trips_requests.specs.declared.status.Status.{Status}
use Rattle.trips_requests.specs.declared.status.Status.TheVariants as status
use Rattle.trips_requests.specs.Texts.{read_fault_text, too_large_text, IsFixed}

-- A fault comes only where the count of the files' faults rose. The bytes are those that are told,
-- if they are told, and within the limit.
abbrev pub IsRead : Option (List ℕ) → Type 0 → ℕ → Loaded → Type 0
IsRead held rose limit Fault = rose
IsRead held rose limit TooLarge = IfSome held (λ bytes. limit < length bytes)
IsRead held rose limit (Bytes bytes) = Holds held bytes × (length bytes ≤ limit)

-- what a file was read to, or the answer where it was not read
abbrev pub AfterReading : Loaded → (List ℕ → Type 0) → Status → List ℕ → Type 0
AfterReading Fault next s report = IsFixed status.ReadFault read_fault_text s report
AfterReading TooLarge next s report = IsFixed status.Refused too_large_text s report
AfterReading (Bytes bytes) next s report = next bytes

-- one of these statuses
abbrev pub IsOneOf : Status → List Status → Type 0
IsOneOf s [] = ⊥
IsOneOf s (one ∷ others) = (s ≡ one) ⊎ IsOneOf s others

-- this status was answered, and just this report was written
abbrev pub Reports : Status → Option (List ℕ) → Option (List ℕ) → Status → List ℕ → Type 0
Reports s old new told report = (s ≡ told) × Appended old new report

-- just a report was written of which this holds
abbrev pub Wrote : Option (List ℕ) → Option (List ℕ) → (List ℕ → Type 0) → Type 0
Wrote old new holds = (report : List ℕ) × holds report × Appended old new report

-- Some answer that holds was cut off: the first part of its report was written.
abbrev pub IsCutShort : (Status → List ℕ → Type 0) → Option (List ℕ) → Option (List ℕ) → Type 0
IsCutShort holds old new =
    (other : Status) × (report : List ℕ) × holds other report × AppendedPart old new report

-- The table, over the statuses and reports that are answers which hold: nothing was appended, the first part
-- of a report where the sink's count of faults rose (`cut`), or all of the report of this very answer.
abbrev pub IsWritten : (Status → List ℕ → Type 0) → Option (List ℕ) → Option (List ℕ) → Type 0 → Status
    → Type 0
IsWritten holds old new cut status.Memory = Appended old new []
IsWritten holds old new cut status.WriteFault = cut × IsCutShort holds old new
IsWritten holds old new cut s = (report : List ℕ) × holds s report × Appended old new report
