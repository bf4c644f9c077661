-- Worked rows of causes, marks and traps, by evaluation.
use Rattle.std.proofs.Common.{◌≡◌, ℕ, ◌^◌, ◌-◌, List, [], ◌∷◌, replicate, Option, Some, None, refl}
use Rattle.std.proofs.Common.{true, false, pos, slice_index, length}
use Rattle.std.specs.Prelude.{◌∷◌}
use Rattle.trips_isa.specs.declared.op.Op.{Op}
use Rattle.trips_isa.specs.declared.op.Op.TheVariants as op
use Rattle.trips_isa.specs.declared.block.Sense.{Sense}
use Rattle.trips_isa.specs.declared.block.Sense.TheVariants.{Always, OnTrue, OnFalse}
use Rattle.trips_isa.specs.declared.block.Spot.{Spot}
use Rattle.trips_isa.specs.declared.block.Spot.TheVariants.{Left, Right, Pred, Write}
use Rattle.trips_isa.specs.declared.block.Inst.{Inst}
use Rattle.trips_isa.specs.declared.block.Block.{Block}
use Rattle.trips_isa.specs.Tables.{deepest}
use Rattle.trips_isa.specs.Blocks.{given, token_of}
use Rattle.trips_isa.specs.Outcomes.{all_stores}
use Rattle.trips_isa.specs.declared.run.Stepped.TheVariants.{Ended, Trap}
use Rattle.trips_isa.specs.declared.causes.TrapCause.TheVariants.{DivisionByZero, Misaligned, OutsideMemory}
use Rattle.trips_isa.specs.TrapCauses.{number_of, no_mark}
use Rattle.trips_isa.specs.declared.operands.Operands.TheVariants.{Nulls, Words}
use Rattle.trips_isa.specs.Faults.{fault_of, fault_at}
use Rattle.trips_isa.specs.Marks.{least, mark_by, mark_given, mask_places}
use Rattle.trips_isa.specs.inside.Acts.{Divided, Accessed, block_acts}
use Rattle.trips_isa.specs.Machine.{State, step_of, runs}

-- causes and the least of marks -----------------------------------------------------------------

pub divided_by_zero : fault_of op.Divu 7 0 ≡ number_of DivisionByZero
divided_by_zero = refl

pub multiplied_by_zero : fault_of op.Mul 7 0 ≡ no_mark
multiplied_by_zero = refl

pub misaligned : fault_at 1 8 ≡ number_of Misaligned
misaligned = refl

pub last_word : fault_at 4194296 8 ≡ no_mark
last_word = refl

pub outside : fault_at 4194304 8 ≡ number_of OutsideMemory
outside = refl

pub misaligned_before_outside : fault_at (2 ^ 64 - 1) 8 ≡ number_of Misaligned
misaligned_before_outside = refl

pub least_of_marks : least 3 (least 0 2) ≡ 2
least_of_marks = refl

pub least_skips_none : least 0 (least 3 0) ≡ 3
least_skips_none = refl

-- a null operand hides the other's mark and the own fault; words hide none
pub null_hides : mark_by (λ l r. 1) (Nulls true false) 3 2 0 ≡ 3
null_hides = refl

pub words_hide_none : mark_by (λ l r. 1) (Words 5 0) 3 2 0 ≡ 1
words_hide_none = refl

-- four blocks that write G[0] and G[3] -----------------------------------------------------------

abbrev slot : Op → Sense → ℕ → Option Spot → Option Spot → Option Inst
slot o sense imm first second = Some (record {
  op = o;
  sense = sense;
  imm = pos imm;
  number = 0;
  first = first;
  second = second;
})

abbrev plain : Op → ℕ → Option Spot → Option Inst
plain o imm first = slot o Always imm first None

abbrev block : List (Option Inst) → Block
block insts = record {
  reads = record { items = [] };
  writes = record { items = 0 ∷ 3 ∷ [] };
  mask = 0;
  insts = record { items = insts };
}

abbrev entry : State
entry = record {
  registers = replicate 8 0;
  memory = replicate 16 0;
  next = 0;
  rest = [];
  output = [];
  trace = [];
}

-- a division by 0 reaches a write
abbrev dividing : Block
dividing = block (plain op.Genu 1 (Some (Left 2)) ∷ plain op.Genu 0 (Some (Right 2)) ∷ plain op.Divs 0
    (Some (Write 1)) ∷ plain op.Genu 3 (Some (Write 0)) ∷ plain op.Scall 0 None ∷ [])

pub division_traps : step_of (dividing ∷ []) entry ≡ (entry, Trap DivisionByZero)
unfolding deepest given all_stores mark_given mask_places
division_traps = refl

pub division_stays : runs (dividing ∷ []) entry 3 ≡ (entry, Trap DivisionByZero)
unfolding deepest given all_stores mark_given mask_places runs
division_stays = refl

pub division_adds_nothing : length (runs (dividing ∷ []) entry 3).0.trace ≡ 0
unfolding deepest given all_stores mark_given mask_places runs
division_adds_nothing = refl

pub division_is_done :
    block_acts dividing (token_of dividing (replicate 8 0) [] deepest) ≡ Divided 0 ∷ []
unfolding deepest given
division_is_done = refl

-- a division by 0 reaches no output: the write's other producer fires
abbrev guarded : Block
guarded = block (plain op.Genu 1 (Some (Left 2)) ∷ plain op.Genu 0 (Some (Right 2)) ∷ plain op.Divs 0
    (Some (Left 5)) ∷ plain op.Genu 1 (Some (Left 4)) ∷ slot op.Mov Always 0 (Some (Pred 5))
    (Some (Pred 6)) ∷ slot op.Mov OnFalse 0 (Some (Write 1)) None ∷ slot op.Mov OnTrue 0
    (Some (Write 1)) None ∷ plain op.Genu 9 (Some (Left 6)) ∷ plain op.Genu 3 (Some (Write 0))
    ∷ plain op.Scall 0 None ∷ [])

pub guarded_ends : (step_of (guarded ∷ []) entry).1 ≡ Ended
unfolding deepest given all_stores mark_given mask_places
guarded_ends = refl

pub guarded_result : slice_index (step_of (guarded ∷ []) entry).0.registers 3 ≡ 9
unfolding deepest given all_stores mark_given mask_places
guarded_result = refl

-- a misaligned load reaches a write
abbrev loading : Block
loading = block (plain op.Genu 1 (Some (Left 1)) ∷ plain op.Ld 0 (Some (Write 1)) ∷ plain op.Genu 3
    (Some (Write 0)) ∷ plain op.Scall 0 None ∷ [])

pub load_traps : step_of (loading ∷ []) entry ≡ (entry, Trap Misaligned)
unfolding deepest given all_stores mark_given mask_places
load_traps = refl

pub load_is_done : block_acts loading (token_of loading (replicate 8 0) [] deepest)
    ≡ Accessed 1 8 ∷ []
unfolding deepest given
load_is_done = refl

-- a misaligned store is owed by the mask, and its value's place is no write
abbrev storing : Block
storing = record {
  reads = record { items = [] };
  writes = record { items = [] };
  mask = 1;
  insts = record {
    items = plain op.Genu 1 (Some (Left 2)) ∷ plain op.Genu 7 (Some (Right 2))
        ∷ plain op.Sh 0 None ∷ plain op.Scall 0 None ∷ [];
  };
}

pub store_traps : step_of (storing ∷ []) entry ≡ (entry, Trap Misaligned)
unfolding deepest given all_stores mark_given mask_places
store_traps = refl
