-- Worked rows of traces, by evaluation.
use Rattle.std.proofs.Common.{◌≡◌, ℕ, List, [], ◌∷◌, ◌++◌, length, take, replicate, Option, Some, None, pos, refl}
use Rattle.trips_isa.specs.declared.op.Op.{Op}
use Rattle.trips_isa.specs.declared.op.Op.TheVariants as op
use Rattle.trips_isa.specs.declared.block.Sense.TheVariants.{Always, OnTrue, OnFalse}
use Rattle.trips_isa.specs.declared.block.Sense.{Sense}
use Rattle.trips_isa.specs.declared.block.Spot.{Spot}
use Rattle.trips_isa.specs.declared.block.Spot.TheVariants as spot
use Rattle.trips_isa.specs.declared.block.Inst.{Inst}
use Rattle.trips_isa.specs.declared.block.Block.{Block}
use Rattle.trips_isa.specs.Tables.{deepest}
use Rattle.trips_isa.specs.Blocks.{given}
use Rattle.trips_isa.specs.Marks.{mark_given, mask_places}
use Rattle.trips_isa.specs.Outcomes.{all_stores}
use Rattle.trips_isa.specs.Machine.{State, runs}
use Rattle.trace_verify.specs.declared.fault.VerifyFault.TheVariants.{Truncated, WrongToken}
use Rattle.trace_verify.specs.Spelling.{front, end_bytes, listed_of, exit_taken, entry_bytes}
use Rattle.trace_verify.specs.Traces.{entries}
use Rattle.trace_verify.specs.Reading.{unread, feeds}
use Rattle.trace_verify.specs.Verdicts.{Verified, Refused, verdict}

abbrev slot : Op → Sense → ℕ → Option Spot → Option Spot → Option Inst
slot o sense imm first second = Some (record {
  op = o;
  sense = sense;
  imm = pos imm;
  number = 0;
  first = first;
  second = second;
})

abbrev plain : Op → ℕ → Option Spot → Option Inst
plain o imm first = slot o Always imm first None

abbrev block : List (Option Inst) → Block
block insts = record {
  reads = record { items = [] };
  writes = record { items = 0 ∷ 3 ∷ [] };
  mask = 0;
  insts = record { items = insts };
}

abbrev entry : State
entry = record {
  registers = replicate 8 0;
  memory = replicate 16 0;
  next = 0;
  rest = [];
  output = [];
  trace = [];
}

-- `genu 3 W[0]`, `genu 7 W[1]`, `scall 0`
abbrev row : List Block
row = block (plain op.Genu 3 (Some (spot.Write 0)) ∷ plain op.Genu 7
    (Some (spot.Write 1)) ∷ plain op.Scall 0 None ∷ []) ∷ []

-- a word of eight bytes below 256
abbrev word : ℕ → List ℕ
word n = 0 ∷ 0 ∷ 0 ∷ 0 ∷ 0 ∷ 0 ∷ 0 ∷ n ∷ []

-- the block, the exit, two words and a branch
abbrev row_entry : ℕ → List ℕ
row_entry n = 0 ∷ 0 ∷ 0 ∷ 0 ∷ 0 ∷ (2 ∷ word 3) ++ ((2 ∷ word n) ++ 1 ∷ [])

-- its entry
pub entry_of_row : entry_bytes row entry ≡ row_entry 7
unfolding deepest given mark_given listed_of exit_taken
entry_of_row = refl

-- the file has 40 bytes
abbrev file : ℕ → List ℕ
file n = front ++ (row_entry n ++ end_bytes)

-- its trace
pub file_of_row : front ++ (entries row entry 1 ++ end_bytes) ≡ file 7
unfolding deepest given mark_given listed_of exit_taken runs
file_of_row = refl

-- so many bytes
pub length_of_file : length (file 7) ≡ 40
length_of_file = refl

-- it is verified
pub row_is_verified : verdict (feeds row 100000 (unread entry) (file 7)) ≡ Verified 1
unfolding deepest given all_stores mark_given mask_places listed_of exit_taken
row_is_verified = refl

-- with byte 34 changed to 8
pub row_is_refused : verdict (feeds row 100000 (unread entry) (file 8)) ≡ Refused (WrongToken 0 (spot.Inst 1))
unfolding deepest given all_stores mark_given mask_places listed_of exit_taken
row_is_refused = refl

-- cut to 39 bytes
pub row_is_cut : verdict (feeds row 100000 (unread entry) (take 39 (file 7))) ≡ Refused (Truncated 39)
unfolding deepest given all_stores mark_given mask_places listed_of exit_taken
row_is_cut = refl

-- a division by 0 whose token reaches no output: its mark is recorded, and the slot that does not fire is Absent
abbrev guarded : List Block
guarded = block (plain op.Genu 1 (Some (spot.Left 2)) ∷ plain op.Genu 0 (Some (spot.Right 2))
    ∷ plain op.Divs 0 (Some (spot.Left 5)) ∷ plain op.Genu 1 (Some (spot.Left 4))
    ∷ slot op.Mov Always 0 (Some (spot.Pred 5)) (Some (spot.Pred 6)) ∷ slot op.Mov OnFalse 0
    (Some (spot.Write 1)) None
    ∷ slot op.Mov OnTrue 0 (Some (spot.Write 1)) None ∷ plain op.Genu 9 (Some (spot.Left 6))
    ∷ plain op.Genu 3 (Some (spot.Write 0)) ∷ plain op.Scall 0 None ∷ []) ∷ []

-- the entry of that block
pub entry_of_guarded : entry_bytes guarded entry ≡ 0 ∷ 0 ∷ 0 ∷ 0 ∷ 0 ∷ (2 ∷ word 1) ++ ((2 ∷ word 0) ++ ((6 ∷ word 0)
    ++ ((2 ∷ word 1) ++ ((2 ∷ word 1) ++ (0 ∷ (2 ∷ word 9) ++ ((2 ∷ word 9) ++ ((2 ∷ word 3) ++ 1 ∷ [])))))))
unfolding deepest given mark_given listed_of exit_taken
entry_of_guarded = refl
