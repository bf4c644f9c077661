-- Worked rows of the definitions, by evaluation.
use Rattle.std.proofs.Common.{◌≡◌, ℕ, ◌-◌, ◌^◌, true, false, List, [], ◌∷◌, replicate, Option, Some}
use Rattle.std.proofs.Common.{None, refl, pos, negsuc, slice_index, get_or}
use Rattle.std.specs.Prelude.{ℤ}
use Rattle.trips_isa.specs.declared.op.Op.{Op}
use Rattle.trips_isa.specs.declared.op.Op.TheVariants as op
use Rattle.trips_isa.specs.declared.block.Token.TheVariants.{Null, Word}
use Rattle.trips_isa.specs.declared.block.Sense.TheVariants.{Always, OnFalse}
use Rattle.trips_isa.specs.declared.block.Spot.{Spot}
use Rattle.trips_isa.specs.declared.block.Spot.TheVariants.{Inst as InstSpot, Left, Right, Write}
use Rattle.trips_isa.specs.declared.block.Inst.{Inst}
use Rattle.trips_isa.specs.declared.block.ReadSlot.{ReadSlot}
use Rattle.trips_isa.specs.declared.block.Stored.{Stored}
use Rattle.trips_isa.specs.declared.block.Block.{Block}
use Rattle.trips_isa.specs.declared.run.Stepped.TheVariants.{Went, Ended}
use Rattle.trips_isa.specs.Alu.{alu_of, word}
use Rattle.trips_isa.specs.Rule.{matched}
use Rattle.trips_isa.specs.Tables.{deepest}
use Rattle.trips_isa.specs.inside.Places.{producers}
use Rattle.trips_isa.specs.Stores.{byte_seen}
use Rattle.trips_isa.specs.Blocks.{given}
use Rattle.trips_isa.specs.Marks.{mask_places, mark_given}
use Rattle.trips_isa.specs.Outcomes.{all_stores}
use Rattle.trips_isa.specs.Machine.{State, runs, step_of}

-- arithmetic: the least number by -1, a division by zero, a shift by 65, signs
-- ------------------------

pub least_by_minus_one : alu_of op.Divs (2 ^ 63) (2 ^ 64 - 1) ≡ 2 ^ 63
least_by_minus_one = refl

pub divided_toward_zero : alu_of op.Divs (2 ^ 64 - 7) 2 ≡ 2 ^ 64 - 3
divided_toward_zero = refl

pub by_zero : alu_of op.Divu 7 0 ≡ 0
by_zero = refl

pub shifted_by_one : alu_of op.Sll 3 65 ≡ 6
shifted_by_one = refl

pub shifted_with_sign : alu_of op.Sra (2 ^ 64 - 8) 1 ≡ 2 ^ 64 - 4
shifted_with_sign = refl

pub byte_of_sign : alu_of op.Extsb 384 0 ≡ 2 ^ 64 - 128
byte_of_sign = refl

pub less_with_sign : alu_of op.Tlt (2 ^ 64 - 1) 0 ≡ 1
less_with_sign = refl

pub not_less_unsigned : alu_of op.Tltu (2 ^ 64 - 1) 0 ≡ 0
not_less_unsigned = refl

pub immediate_with_sign : word (negsuc 255) ≡ 2 ^ 64 - 256
immediate_with_sign = refl

pub appended : alu_of op.App 2 5 ≡ 131077
appended = refl

-- a null token matches neither sense
pub null_on_false : matched OnFalse (Some Null) ≡ false
null_on_false = refl

pub even_on_false : matched OnFalse (Some (Word 4)) ≡ true
even_on_false = refl

-- two blocks: a late divide feeds a store, and the next block loads what it stored
-- ----------------------

abbrev inst : Op → ℤ → ℕ → Option Spot → Inst
inst o imm number target = record {
  op = o;
  sense = Always;
  imm = imm;
  number = number;
  first = target;
  second = None;
}

abbrev plain : Op → ℤ → ℕ → Option Spot → Option Inst
plain o imm number target = Some (inst o imm number target)

abbrev block : List ReadSlot → List ℕ → ℕ → List (Option Inst) → Block
block reads writes mask insts = record {
  reads = record { items = reads };
  writes = record { items = writes };
  mask = mask;
  insts = record { items = insts };
}

abbrev storing : Block
storing = block [] [] 1
    (plain op.Genu (pos 7) 0 (Some (Left 2)) ∷ plain op.Genu (pos 1) 0
    (Some (Right 2)) ∷ plain op.Divu (pos 0) 0 (Some (Left 4))
    ∷ plain op.Genu (pos 171) 0 (Some (Right 4)) ∷ plain op.Sb (pos 0) 0 None ∷ plain op.Bro
    (pos 2) 0 None ∷ [])

abbrev loading : Block
loading = block [] (0 ∷ 3 ∷ []) 0
    (plain op.Genu (pos 0) 0 (Some (Left 1)) ∷ plain op.Ld (pos 0) 0
    (Some (Write 1)) ∷ plain op.Genu (pos 3) 0 (Some (Write 0)) ∷ plain op.Scall
    (pos 0) 0 None ∷ [])

abbrev image : List Block
image = storing ∷ loading ∷ []

abbrev small : State
small = record {
  registers = replicate 8 0;
  memory = replicate 16 0;
  next = 0;
  rest = [];
  output = [];
  trace = [];
}

pub went : (step_of image small).1 ≡ Went
unfolding deepest given all_stores mask_places mark_given
went = refl

pub stored : (step_of image small).0.memory ≡ 0 ∷ 0 ∷ 0 ∷ 0 ∷ 0 ∷ 0 ∷ 0 ∷ 171 ∷ replicate 8 0
unfolding deepest given all_stores mask_places mark_given
stored = refl

pub ended : (runs image small 2).1 ≡ Ended
unfolding deepest given all_stores mask_places mark_given runs
ended = refl

pub loaded : slice_index (runs image small 2).0.registers 3 ≡ 171
unfolding deepest given all_stores mask_places mark_given runs
loaded = refl

pub divide_is_asked : producers storing (Left 4) ≡ InstSpot 2 ∷ []
divide_is_asked = refl

-- stores: a byte from two stores and memory, and a null store that hides nothing
-- ----------------------------

abbrev put : ℕ → ℕ → ℕ → Option ℕ → Stored
put number address size value = record {
  number = number;
  address = address;
  size = size;
  value = value;
}

abbrev three_stores : ℕ → Option Stored
three_stores n = get_or (Some (put 0 0 4 (Some 16909060)) ∷ Some (put 1 2 1 (Some 170)) ∷ Some
    (put 2 0 1 None) ∷ []) n None

abbrev nines : ℕ → ℕ
nines a = 9

pub from_the_lower_store : byte_seen three_stores nines 3 1 ≡ 2
from_the_lower_store = refl

pub from_the_higher_store : byte_seen three_stores nines 3 2 ≡ 170
from_the_higher_store = refl

pub from_memory : byte_seen three_stores nines 3 4 ≡ 9
from_memory = refl

pub null_hides_nothing : byte_seen three_stores nines 3 0 ≡ 1
null_hides_nothing = refl

pub not_from_its_own_number : byte_seen three_stores nines 1 2 ≡ 3
not_from_its_own_number = refl
