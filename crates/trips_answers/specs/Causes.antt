-- Which answers may come, and the cause of each, said of texts, images and the machine alone. Own.
use Rattle.std.specs.Prelude.{◌≡◌, ◌⊎◌, ℕ, ◌<◌, ◌≤◌, List, [], ◌∷◌, Option, None, Some, IfSome, IsSomeAnd, length}
use Rattle.trips_outside.specs.Outside.{Appended, Holds}
use Rattle.trips_answers.specs.Work.{Work}
use Rattle.trips_answers.specs.Work.{Evaluate, Four}
use Rattle.trips_requests.specs.declared.loading.Loaded.{Loaded}
use Rattle.trips_requests.specs.declared.status.Status.{Status}
use Rattle.trips_requests.specs.declared.status.Status.TheVariants as status
use Rattle.trips_requests.specs.Table.{IsRead, AfterReading, IsOneOf}
use Rattle.trips_requests.specs.Texts.{read_fault_text, usage_text, IsFixed}
use Rattle.trips_answers.specs.Request.{Request, origin_held}
use Rattle.trips_answers.specs.Asks.{limit_of}
use Rattle.trips_answers.specs.Read.{HoldsInput, IsInputRead, IsLarge, MayBeLarge}
use Rattle.trips_answers.specs.Done.{CanBeDone, DoesWork}
use Rattle.trips_answers.specs.Refused.{MayLack, MayRefuseTrace}
use Rattle.trips_answers.specs.Fours.{Further, further_of}
use Rattle.trips_answers.specs.Traced.{IsTraceFault}

-- the request's file is told, and is longer than its limit
abbrev pub HasLargeFile : Request → (List ℕ → Option (List ℕ)) → Type 0
HasLargeFile q held =
    IsSomeAnd (origin_held held q.origin) (λ bytes. limit_of q.form < length bytes)

-- the file is told and within its limit, and the input is told and longer than its own
abbrev pub HasLargeInput : Request → (List ℕ → Option (List ℕ)) → Type 0
HasLargeInput q held =
    IsSomeAnd (origin_held held q.origin) (λ bytes. length bytes ≤ limit_of q.form)
    × IsLarge q.input held

-- the file is too large, or else the input
abbrev pub IsTooLarge : Request → (List ℕ → Option (List ℕ)) → Type 0
IsTooLarge q held = HasLargeFile q held ⊎ HasLargeInput q held

-- the file has too many bytes, or the request's work cannot be done with them
abbrev pub CannotBeDone : Request → List ℕ → Type 0
CannotBeDone q bytes = (limit_of q.form < length bytes) ⊎ (CanBeDone q.work q.form bytes → ⊥)

-- a further file has too many bytes, or cannot be run, as far as they are told
abbrev pub IsUnfitAmong : List Further → Type 0
IsUnfitAmong [] = ⊥
IsUnfitAmong (f ∷ fs) = IfSome f.1 (λ bytes. (limit_of f.0 < length bytes) ⊎ (CanBeDone Four f.0 bytes → ⊥))
    ⊎ IsUnfitAmong fs

-- of `four`, a further file could not be read, has too many bytes, or cannot be run, as far as they are told
abbrev pub MayBeFurtherFault : List Further → Type 0 → Work → Status → List ℕ → Type 0
MayBeFurtherFault fs rose work s report = (work ≡ Four)
    × ((rose × IsFixed status.ReadFault read_fault_text s report) ⊎ (IsUnfitAmong fs × (s ≡ status.Refused)))

-- A request has to be refused, as far as its files and its input are told.
abbrev pub MayBeUnfit : Option Request → (List ℕ → Option (List ℕ)) → Type 0
MayBeUnfit None held = ⊥
MayBeUnfit (Some q) held = IfSome (origin_held held q.origin) (CannotBeDone q)
    ⊎ (MayBeLarge q.input held ⊎ (MayRefuseTrace q held ⊎ (MayLack q held
    ⊎ ((q.work ≡ Four) × IsUnfitAmong (further_of held q)))))

-- It has to be refused, by a file or an input that is told.
abbrev pub IsUnfit : Option Request → (List ℕ → Option (List ℕ)) → Type 0
IsUnfit None held = ⊥
IsUnfit (Some q) held = IsSomeAnd (origin_held held q.origin) (CannotBeDone q) ⊎ IsLarge q.input held

-- Each status but those that tell the end of the work has its cause.
pub record HasCauses (request : Option Request) (held : List ℕ → Option (List ℕ)) (file_fault sink_fault : Type 0)
    (old new : Option (List ℕ)) (s : Status) : Type 0 where
  -- the words make no request
  pub usage : s ≡ status.Usage → request ≡ None
  -- a fault of the files was counted
  pub read_fault : s ≡ status.ReadFault → file_fault
  -- the file or the input is too large, or the work cannot be done with the file, or the trace is refused, or the
  -- image lacks what is asked of it, or a further file of `four` is too large or cannot be run, as far as they are
  -- told
  pub refused : s ≡ status.Refused → MayBeUnfit request held
  -- a fault of the sink was counted
  pub write_fault : s ≡ status.WriteFault → sink_fault
  -- want of memory leaves nothing written
  pub memory : s ≡ status.Memory → Appended old new []

-- What cannot be served is refused, unless a failure comes first.
pub record RefusesUnfit (request : Option Request) (held : List ℕ → Option (List ℕ)) (s : Status) : Type 0 where
  -- words that make no request
  pub usage : request ≡ None → IsOneOf s (status.Usage ∷ status.Memory ∷ status.WriteFault ∷ [])
  -- a file or an input that is too large, or a file with which the work cannot be done
  pub unfit : IsUnfit request held
      → IsOneOf s (status.Refused ∷ status.ReadFault ∷ status.Memory ∷ status.WriteFault ∷ [])

-- A request's work ended with this status: the file and the input are those that the names hold, as far as they are
-- told, and the status and some report tell the work with them.
pub record EndsWork (held : List ℕ → Option (List ℕ)) (q : Request) (s : Status) : Type 0 where
  pub bytes : List ℕ
  pub input : List ℕ
  pub report : List ℕ
  pub holds : Holds (origin_held held q.origin) bytes
  pub holds_input : HoldsInput q.input held input
  pub done : DoesWork q.work q.form q.unroll q.most q.show bytes input s report
  -- only an evaluation is undefined
  pub undefined : s ≡ status.Undefined → q.work ≡ Evaluate

-- the work is refused, which cannot be done with these bytes, or it is done
abbrev pub EndsOrRefuses : Request → List ℕ → List ℕ → Status → List ℕ → Type 0
EndsOrRefuses q bytes input s report = ((CanBeDone q.work q.form bytes → ⊥) × (s ≡ status.Refused))
    ⊎ DoesWork q.work q.form q.unroll q.most q.show bytes input s report

-- behind the file the input is read, and of `verify` the trace's file, of `four` the further ones
abbrev pub MayAnswerBehind : Request → (List ℕ → Option (List ℕ)) → Type 0 → List ℕ → Status → List ℕ → Type 0
MayAnswerBehind q held rose bytes s report = (loaded : Loaded) × IsInputRead q.input held rose loaded
    × AfterReading loaded (λ input. EndsOrRefuses q bytes input s report
    ⊎ (IsTraceFault (held q.trace) rose q.work bytes input s report
    ⊎ MayBeFurtherFault (further_of held q) rose q.work s report)) s report

-- Of the request (none where the words make none), of what names hold, and of whether the count of the files' faults
-- rose, this may be the answer. Which report a refusal has is told by `IsAnswer`.
abbrev pub MayAnswer : Option Request → (List ℕ → Option (List ℕ)) → Type 0 → Status → List ℕ → Type 0
MayAnswer None held rose s report = IsFixed status.Usage usage_text s report
MayAnswer (Some q) held rose s report =
    (loaded : Loaded) × IsRead (origin_held held q.origin) rose (limit_of q.form) loaded
    × AfterReading loaded (λ bytes. MayAnswerBehind q held rose bytes s report) s report
