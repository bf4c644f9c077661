-- The first fault of bytes that are no trace, in the order of the bytes.
use Rattle.std.specs.Prelude.{◌≡◌, ℕ, suc, ◌+◌, ◌≤◌, ◌<◌, ◌%◌, ◌==◌, nat_lt, cond, List, [], ◌∷◌, ◌++◌, length}
use Rattle.std.specs.Prelude.{take, Option, Some, None}
use Rattle.byteorder.specs.Endian.{big_bytes}
use Rattle.trips_isa.specs.declared.block.Block.{Block}
use Rattle.trips_isa.specs.declared.block.Spot.TheVariants as spot
use Rattle.trips_isa.specs.declared.run.Stepped.{Stepped}
use Rattle.trips_isa.specs.declared.run.Stepped.TheVariants.{Went}
use Rattle.trips_isa.specs.Machine.{State, runs, step_of}
use Rattle.trace_verify.specs.declared.fault.VerifyFault.{VerifyFault}
use Rattle.trace_verify.specs.declared.fault.VerifyFault.TheVariants.{Magic, Version, Truncated, Trailing}
use Rattle.trace_verify.specs.declared.fault.VerifyFault.TheVariants.{Past, WrongToken, WrongBlock}
use Rattle.trace_verify.specs.declared.fault.VerifyFault.TheVariants.{WrongExit, Faulting, TooLong}
use Rattle.trace_verify.specs.Spelling.{magic, front, end_bytes, Listed, listed_of, listed_bytes}
use Rattle.trace_verify.specs.Spelling.{exit_taken, entry_with, entry_bytes}
use Rattle.trace_verify.specs.Traces.{HasEntries, entries, Traps}

-- how many bytes a record has that begins with this one: with 0, or with 4 · mark + 1 or 4 · mark + 2 for a mark from
-- 0 to 3; no record begins with another
abbrev pub record_size : ℕ → Option ℕ
record_size x = cond (nat_lt x 16)
    (cond (x == 0) (Some 1) (cond (x % 4 == 1) (Some 1) (cond (x % 4 == 2) (Some 9) None))) None

-- the bytes begin with no record, or with another one than this
pub data IsWrong (want : List ℕ) : List ℕ → Type 0 where
  no_record : {x : ℕ} {more : List ℕ} → record_size x ≡ None → IsWrong want (x ∷ more)
  another : {x : ℕ} {more : List ℕ} (rest others : List ℕ) → more ≡ rest ++ others
      → record_size x ≡ Some (suc (length rest)) → (x ∷ rest ≡ want → ⊥) → IsWrong want (x ∷ more)

-- the bytes end before a record does
pub data IsShort : List ℕ → Type 0 where
  nothing : IsShort []
  begun : {x : ℕ} {more : List ℕ} (n : ℕ) → record_size x ≡ Some n → suc (length more) < n
      → IsShort (x ∷ more)

-- the run goes on before this entry, which is within the budget
pub record Goes (o : Stepped) (budget entry : ℕ) : Type 0 where
  pub went : o ≡ Went
  pub within : entry < budget

-- What is wrong first in bytes that follow on some entries, where the run has come to a state and answered o: `entry`
-- is the number of the entry that is read, and `size` the number of all bytes.
pub data EntryFault (blocks : List Block) (s : State) (o : Stepped) (budget entry size : ℕ) (rest : List ℕ)
    : VerifyFault → Type 0 where
  -- the block's number, or the end word
  no_number : length rest < 4 → EntryFault blocks s o budget entry size rest (Truncated size)
  trailing : (x : ℕ) (more : List ℕ) (at : ℕ) → rest ≡ end_bytes ++ (x ∷ more) → at + suc (length more) ≡ size
      → EntryFault blocks s o budget entry size rest (Trailing at)
  past : (number more : List ℕ) → rest ≡ number ++ more → length number ≡ 4 → (number ≡ end_bytes → ⊥)
      → (o ≡ Went → ⊥) → EntryFault blocks s o budget entry size rest (Past entry)
  wrong_block : (number more : List ℕ) → rest ≡ number ++ more → length number ≡ 4 → (number ≡ end_bytes → ⊥)
      → o ≡ Went → (number ≡ big_bytes 4 s.next → ⊥)
      → EntryFault blocks s o budget entry size rest (WrongBlock entry)
  too_long : (more : List ℕ) → rest ≡ big_bytes 4 s.next ++ more → o ≡ Went → budget ≤ entry
      → EntryFault blocks s o budget entry size rest (TooLong entry)
  -- the exit, and the record of each used slot
  no_exit : rest ≡ big_bytes 4 s.next → Goes o budget entry
      → EntryFault blocks s o budget entry size rest (Truncated size)
  short_record : (exit : ℕ) (before after : List Listed) (l : Listed) (more : List ℕ)
      → listed_of blocks s ≡ before ++ (l ∷ after) → rest ≡ entry_with s.next exit before ++ more
      → Goes o budget entry → IsShort more
      → EntryFault blocks s o budget entry size rest (Truncated size)
  wrong_token : (exit : ℕ) (before after : List Listed) (l : Listed) (more : List ℕ)
      → listed_of blocks s ≡ before ++ (l ∷ after) → rest ≡ entry_with s.next exit before ++ more
      → Goes o budget entry → IsWrong l.bytes more
      → EntryFault blocks s o budget entry size rest (WrongToken entry (spot.Inst l.slot))
  -- the whole entry
  wrong_exit : (exit : ℕ) (more : List ℕ) → rest ≡ entry_with s.next exit (listed_of blocks s) ++ more
      → Goes o budget entry → (exit ≡ exit_taken blocks s → ⊥)
      → EntryFault blocks s o budget entry size rest (WrongExit entry)
  faulting : (more : List ℕ) → rest ≡ entry_bytes blocks s ++ more → Goes o budget entry
      → Traps (step_of blocks s).1 → EntryFault blocks s o budget entry size rest (Faulting entry)

-- The first fault of bytes that are to be the trace of a run from a state, within a budget.
pub data FirstFault (blocks : List Block) (s : State) (budget : ℕ) (bytes : List ℕ) : VerifyFault → Type 0 where
  -- the magic and the version
  no_front : length bytes < 12 → (8 ≤ length bytes → take 8 bytes ≡ magic)
      → FirstFault blocks s budget bytes (Truncated (length bytes))
  bad_magic : 8 ≤ length bytes → (take 8 bytes ≡ magic → ⊥) → FirstFault blocks s budget bytes Magic
  bad_version : (version rest : List ℕ) → bytes ≡ magic ++ (version ++ rest) → length version ≡ 4
      → (version ≡ big_bytes 4 1 → ⊥) → FirstFault blocks s budget bytes Version
  -- behind the entries of k steps
  in_entry : (k : ℕ) (rest : List ℕ) (f : VerifyFault) → HasEntries blocks s k → k ≤ budget
      → bytes ≡ front ++ (entries blocks s k ++ rest)
      → EntryFault blocks (runs blocks s k).0 (runs blocks s k).1 budget k (length bytes) rest f
      → FirstFault blocks s budget bytes f
