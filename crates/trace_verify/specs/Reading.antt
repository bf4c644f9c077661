-- What a verifier holds, byte for byte, and what the bytes that follow come to.
use Rattle.std.specs.Prelude.{◌≡◌, ℕ, suc, ◌==◌, nat_lt, cond, List, [], ◌∷◌, ◌++◌, length, slice_index}
use Rattle.std.specs.Prelude.{Option, Some, None}
use Rattle.std.specs.Str.{bytes_eq}
use Rattle.byteorder.specs.Endian.{big_bytes}
use Rattle.trips_isa.specs.declared.block.Block.{Block}
use Rattle.trips_isa.specs.declared.block.Spot.TheVariants as spot
use Rattle.trips_isa.specs.declared.run.Stepped.{Stepped}
use Rattle.trips_isa.specs.declared.run.Stepped.TheVariants.{Went, Ended, StackFull, Trap}
use Rattle.trips_isa.specs.Machine.{State, step_of}
use Rattle.trace_verify.specs.declared.fault.VerifyFault.{VerifyFault}
use Rattle.trace_verify.specs.declared.fault.VerifyFault.TheVariants.{Magic, Version, Truncated, Trailing}
use Rattle.trace_verify.specs.declared.fault.VerifyFault.TheVariants.{Past, WrongToken, WrongBlock}
use Rattle.trace_verify.specs.declared.fault.VerifyFault.TheVariants.{WrongExit, Faulting, TooLong}
use Rattle.trace_verify.specs.Spelling.{magic, front, end_bytes, Listed, listed_of, exit_taken}
use Rattle.trace_verify.specs.FirstFault.{record_size}

-- what comes next
pub data Place : Type 0 where
  -- the magic and the version
  Front : Place
  -- a block's number or the end word
  Number : Place
  -- the exit of the next block
  Exit : Place
  -- a record, and those behind it; the exit has come
  Records : (exit : ℕ) (here : Listed) (later : List Listed) → Place
  -- nothing: the end word has come
  Whole : Place
  -- nothing: this is wrong
  Stopped : (fault : VerifyFault) → Place

-- how far the run and the bytes have come
pub record Progress : Type 0 where
  -- the machine's state, and what its last step answered
  pub state : State
  pub answer : Stepped
  -- how many entries and how many bytes have come
  pub count : ℕ
  pub at : ℕ

-- what is held between two bytes
pub record Reading : Type 0 where
  pub progress : Progress
  pub place : Place
  -- the bytes of the field that is not whole
  pub seen : List ℕ

-- before the first byte of a field
abbrev pub before : Place → Progress → Reading
before p c = record { progress = c; place = p; seen = [] }

-- within a field, of which these bytes have come
abbrev pub within : Place → List ℕ → Progress → Reading
within p seen c = record { progress = c; place = p; seen = seen }

-- before the first byte of all
abbrev pub begun : State → Progress
begun s = record { state = s; answer = Went; count = 0; at = 0 }

abbrev pub unread : State → Reading
unread s = before Front (begun s)

-- each part takes the bytes of its field with the last one ---------------------------------------

abbrev pub front_seen : List ℕ → Progress → Reading
front_seen seen c =
    cond (length seen == 8) (cond (bytes_eq seen magic) (within Front seen c) (before (Stopped Magic) c))
    (cond (length seen == 12) (cond (bytes_eq seen front) (before Number c) (before (Stopped Version) c))
    (within Front seen c))

-- a number that is not the end word, by what the last step answered
abbrev pub block_come : ℕ → List ℕ → Progress → Stepped → Reading
block_come budget seen c Went =
    cond (bytes_eq seen (big_bytes 4 c.state.next))
    (cond (nat_lt c.count budget) (before Exit c) (before (Stopped (TooLong c.count)) c))
    (before (Stopped (WrongBlock c.count)) c)
block_come budget seen c Ended = before (Stopped (Past c.count)) c
block_come budget seen c StackFull = before (Stopped (Past c.count)) c
block_come budget seen c (Trap m) = before (Stopped (Past c.count)) c

abbrev pub number_come : ℕ → List ℕ → Progress → Reading
number_come budget seen c =
    cond (bytes_eq seen end_bytes) (before Whole c) (block_come budget seen c c.answer)

abbrev pub number_seen : ℕ → List ℕ → Progress → Reading
number_seen budget seen c =
    cond (length seen == 4) (number_come budget seen c) (within Number seen c)

-- the step of the entry is made, unless it traps
abbrev pub stepped_to : Progress → State → Stepped → Reading
stepped_to c t Went = before Number (record c { state = t; answer = Went; count = suc c.count })
stepped_to c t Ended = before Number (record c { state = t; answer = Ended; count = suc c.count })
stepped_to c t StackFull = before Number (record c { state = t; answer = StackFull; count = suc c.count })
stepped_to c t (Trap m) = before (Stopped (Faulting c.count)) c

-- all records have come
abbrev pub entry_come : List Block → ℕ → Progress → Reading
entry_come blocks exit c =
    cond (exit == exit_taken blocks c.state)
    (stepped_to c (step_of blocks c.state).0 (step_of blocks c.state).1)
    (before (Stopped (WrongExit c.count)) c)

-- the next record, if there is one
abbrev pub records_next : List Block → ℕ → Progress → List Listed → Reading
records_next blocks exit c [] = entry_come blocks exit c
records_next blocks exit c (l ∷ ls) = before (Records exit l ls) c

-- a record that is whole
abbrev pub record_come : List Block → ℕ → Listed → List Listed → List ℕ → Progress → Reading
record_come blocks exit l ls seen c = cond (bytes_eq seen l.bytes) (records_next blocks exit c ls)
    (before (Stopped (WrongToken c.count (spot.Inst l.slot))) c)

-- a record, by its size
abbrev pub record_seen : List Block → ℕ → Listed → List Listed → List ℕ → Progress → Option ℕ → Reading
record_seen blocks exit l ls seen c None = before (Stopped (WrongToken c.count (spot.Inst l.slot))) c
record_seen blocks exit l ls seen c (Some n) =
    cond (length seen == n) (record_come blocks exit l ls seen c) (within (Records exit l ls) seen c)

-- a byte x has come and is counted, and `seen` ends with it
abbrev pub come : List Block → ℕ → Place → ℕ → List ℕ → Progress → Reading
come blocks budget Front x seen c = front_seen seen c
come blocks budget Number x seen c = number_seen budget seen c
come blocks budget Exit x seen c = records_next blocks x c (listed_of blocks c.state)
come blocks budget (Records exit l ls) x seen c =
    record_seen blocks exit l ls seen c (record_size (slice_index seen 0))
come blocks budget Whole x seen c = before Whole c
come blocks budget (Stopped f) x seen c = before (Stopped f) c

-- behind the end word each byte is one too many, and behind a fault none is read
abbrev pub take_at : List Block → ℕ → Place → Reading → ℕ → Reading
take_at blocks budget Whole r x = before (Stopped (Trailing r.progress.at)) r.progress
take_at blocks budget (Stopped f) r x = r
take_at blocks budget p r x =
    come blocks budget p x (r.seen ++ x ∷ []) (record (r.progress) { at = suc r.progress.at })

-- a byte is read
abbrev pub take_byte : List Block → ℕ → Reading → ℕ → Reading
take_byte blocks budget r x = take_at blocks budget r.place r x

-- bytes are read
abbrev pub feeds : List Block → ℕ → Reading → List ℕ → Reading
feeds blocks budget r [] = r
feeds blocks budget r (x ∷ xs) = feeds blocks budget (take_byte blocks budget r x) xs
