-- Reading the word of an instruction.
use Rattle.std.specs.Prelude.{ℕ, ◌+◌, ◌-◌, ◌/◌, ◌%◌, ℤ, pos, negsuc, Option, Some, None}
use Rattle.std.specs.Prelude.{if◌then◌else◌, nat_lt, ◌==◌}
use Rattle.trips_isa.specs.declared.op.Op.{Op}
use Rattle.trips_isa.specs.declared.op.Op.TheVariants.{Bro, Callo, Gens}
use Rattle.trips_isa.specs.declared.form.Form.{Form}
use Rattle.trips_isa.specs.declared.form.Form.TheVariants.{General, Immediate, Load, Store, Branch}
use Rattle.trips_isa.specs.declared.form.Form.TheVariants.{Constant}
use Rattle.trips_isa.specs.declared.block.Spot.{Spot}
use Rattle.trips_isa.specs.declared.block.Spot.TheVariants as spot
use Rattle.trips_isa.specs.declared.block.Sense.{Sense}
use Rattle.trips_isa.specs.declared.block.Sense.TheVariants.{Always, OnTrue, OnFalse}
use Rattle.trips_isa.specs.declared.block.Inst.{Inst}
use Rattle.trips_isa.specs.Forms.{form_of}
use Rattle.trips_isa.specs.Limits.{offset_half}
use Rattle.isa_table.specs.inside.Codes.{op_with_numbers}

infixl 10 ◌>>=◌
-- goes on with what was read; where one field is refused, the word is
abbrev pub ◌>>=◌ : {A B : Type 0} → Option A → (A → Option B) → Option B
None >>= f = None
(Some x) >>= f = f x

-- the field of so many values, each worth unit
abbrev pub part : ℕ → ℕ → ℕ → ℕ
part word unit values = word / unit % values

-- the predicate of its number: 0 always, 2 on false, 3 on true, and 1 is refused
unfoldable pub sense_at : ℕ → Option Sense
sense_at n = if n == 0 then Some Always else
    (if n == 2 then Some OnFalse else (if n == 3 then Some OnTrue else None))

-- the predicate of a word, in the two bits behind its opcode
abbrev pub sense_in : ℕ → Option Sense
sense_in w = sense_at (part w 8388608 4)

-- what a target's field says: a spot, or none
abbrev pub Target : Type 0
Target = Option Spot

-- the target of its number: 0 none, from 32 on writes, from 128 on predicates, from 256 on left
-- operands, from 384 on right ones; the others are refused
unfoldable pub target_at : ℕ → Option Target
target_at t =
    if t == 0 then Some None else (
    if nat_lt t 32 then None else (
    if nat_lt t 64 then Some (Some (spot.Write (t - 32))) else (
    if nat_lt t 128 then None else (
    if nat_lt t 256 then Some (Some (spot.Pred (t - 128))) else (
    if nat_lt t 384 then Some (Some (spot.Left (t - 256))) else
    Some (Some (spot.Right (t - 384))))))))

-- a field of 2 half values as a number from -half to half - 1
unfoldable pub signed_at : ℕ → ℕ → ℤ
signed_at half n = if nat_lt n half then pos n else negsuc (half + half - 1 - n)

-- both targets, the second only with a first
unfoldable pub pair_of : Target → Target → Option (Target × Target)
pair_of (Some s) second = Some (Some s, second)
pair_of None None = Some (None, None)
pair_of None (Some s) = None

-- both targets of form G, target 0 in the lowest nine bits and target 1 above it
unfoldable pub targets_at : ℕ → Option (Target × Target)
targets_at w = target_at (part w 1 512) >>= λ first. target_at (part w 512 512)
    >>= λ second. pair_of first second

-- the offset of a branch in chunks; one that names no block by it has 0
unfoldable pub offset_at : Op → ℕ → Option ℤ
offset_at Bro n = Some (signed_at offset_half n)
offset_at Callo n = Some (signed_at offset_half n)
offset_at op n = if n == 0 then Some (pos 0) else None

-- only the constant of `gens` has a sign
unfoldable pub constant_of : Op → ℕ → ℤ
constant_of Gens n = signed_at 32768 n
constant_of op n = pos n

-- an instruction of form G, its operation being told by the opcode and the extended opcode
unfoldable pub general_at : Op → ℕ → Option Inst
general_at op w = sense_in w >>= λ sense. targets_at w >>= λ targets. Some (record {
  op = op;
  sense = sense;
  imm = pos 0;
  number = 0;
  first = targets.0;
  second = targets.1;
})

-- an instruction of form I, with an immediate of nine bits, of which one is its sign
unfoldable pub immediate_at : Op → ℕ → Option Inst
immediate_at op w = sense_in w >>= λ sense. target_at (part w 1 512) >>= λ first. Some (record {
  op = op;
  sense = sense;
  imm = signed_at 256 (part w 512 512);
  number = 0;
  first = first;
  second = None;
})

-- a load, with its number in the block's memory order and its immediate
unfoldable pub load_at : Op → ℕ → Option Inst
load_at op w = sense_in w >>= λ sense. target_at (part w 1 512) >>= λ first. Some (record {
  op = op;
  sense = sense;
  imm = signed_at 256 (part w 512 512);
  number = part w 262144 32;
  first = first;
  second = None;
})

-- the last nine bits are 0
unfoldable pub store_at : Op → ℕ → Option Inst
store_at op w = sense_in w >>= λ sense. if part w 1 512 == 0 then Some (record {
  op = op;
  sense = sense;
  imm = signed_at 256 (part w 512 512);
  number = part w 262144 32;
  first = None;
  second = None;
}) else None

-- a branch, whose number is its exit
unfoldable pub branch_at : Op → ℕ → Option Inst
branch_at op w = sense_in w >>= λ sense. offset_at op (part w 1 1048576) >>= λ offset. Some
    (record {
      op = op;
      sense = sense;
      imm = offset;
      number = part w 1048576 8;
      first = None;
      second = None;
    })

-- a constant, which has no predicate
unfoldable pub constant_at : Op → ℕ → Option Inst
constant_at op w = target_at (part w 1 512) >>= λ first. Some (record {
  op = op;
  sense = Always;
  imm = constant_of op (part w 512 65536);
  number = 0;
  first = first;
  second = None;
})

-- the instruction of a word whose operation is told; none where a field is refused
unfoldable pub form_at : Form → Op → ℕ → Option Inst
form_at General op w = general_at op w
form_at Immediate op w = immediate_at op w
form_at Load op w = load_at op w
form_at Store op w = store_at op w
form_at Branch op w = branch_at op w
form_at Constant op w = constant_at op w

-- the operation that the word names; only the first two opcodes have an extended one
unfoldable pub op_in : ℕ → Option Op
op_in w = op_with_numbers (part w 33554432 128)
    (if nat_lt (part w 33554432 128) 3 then part w 262144 32 else 0)

-- the instruction that a word spells, if it spells one
unfoldable pub inst_of_word : ℕ → Option Inst
inst_of_word w = op_in w >>= λ op. form_at (form_of op) op w

-- what a word says of a slot: the word 0 that it is empty; none where it is no instruction
unfoldable pub slot_of_word : ℕ → Option (Option Inst)
slot_of_word w = if w == 0 then Some None else (inst_of_word w >>= λ i. Some (Some i))
