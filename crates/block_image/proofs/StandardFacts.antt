-- Worked rows of the definitions, by evaluation: the example of docs/MACHINE.md, "The image", and
-- single words.
use Rattle.std.proofs.Common.{◌≡◌, ◌+◌, ◌*◌, ℕ, List, [], ◌∷◌, ◌++◌, replicate, Option, Some, None}
use Rattle.std.proofs.Common.{refl}
use Rattle.std.specs.Prelude.{pos, negsuc, length}
use Rattle.trips_isa.specs.declared.op.Op.TheVariants as op
use Rattle.trips_isa.specs.declared.block.Sense.TheVariants.{Always, OnTrue, OnFalse}
use Rattle.trips_isa.specs.declared.block.Spot.TheVariants as spot
use Rattle.trips_isa.specs.declared.block.Inst.{Inst}
use Rattle.trips_isa.specs.declared.block.Image.{Image}
use Rattle.isa_table.specs.Codes.{code_of}
use Rattle.block_image.specs.Words.{inst_word}
use Rattle.block_image.specs.Headers.{words_from, read_fields}
use Rattle.block_image.specs.Spelling.{magic, block_bytes, chunks_of, spelling}

-- words of each form
-- --------------------------------------------------------------------------------

-- opcode 1, on false 2, extended 27, second target the left operand of slot 2, first the predicate
-- of slot 1
pub mov_word : inst_word (record {
  op = op.Mov;
  sense = OnFalse;
  imm = pos 0;
  number = 0;
  first = Some (spot.Pred 1);
  second = Some (spot.Left 2);
}) ≡ 0x036e0481
unfolding code_of
mov_word = refl

-- opcode 2, on true 3, extended 1, immediate -2, W[1]
pub subi_word : inst_word (record {
  op = op.Subi;
  sense = OnTrue;
  imm = negsuc 1;
  number = 0;
  first = Some (spot.Write 1);
  second = None;
}) ≡ 0x0587fc21
unfolding code_of
subi_word = refl

-- opcode 22, number 31, immediate 255, the right operand of slot 127
pub ld_word : inst_word (record {
  op = op.Ld;
  sense = Always;
  imm = pos 255;
  number = 31;
  first = Some (spot.Right 127);
  second = None;
}) ≡ 0x2c7dffff
unfolding code_of
ld_word = refl

-- opcode 24, number 1, immediate -256
pub sb_word : inst_word (record {
  op = op.Sb;
  sense = Always;
  imm = negsuc 255;
  number = 1;
  first = None;
  second = None;
}) ≡ 0x30060000
unfolding code_of
sb_word = refl

-- opcode 33, exit 7, offset -1
pub callo_word : inst_word
    (record {
      op = op.Callo;
      sense = Always;
      imm = negsuc 0;
      number = 7;
      first = None;
      second = None;
    }) ≡ 0x427fffff
unfolding code_of
callo_word = refl

-- opcode 49, constant -32768
pub gens_word : inst_word (record {
  op = op.Gens;
  sense = Always;
  imm = negsuc 32767;
  number = 0;
  first = None;
  second = None;
}) ≡ 0x63000000
unfolding code_of
gens_word = refl

-- register 127, both targets the right operand of slot 127
pub last_read : read_fields
    (Some (record { register = 127; first = spot.Right 127; second = None })) ≡ 0x7fffff
last_read = refl

-- register 1, second target the right operand of slot 5, first the left
pub two_targets : read_fields
    (Some (record { register = 1; first = spot.Left 5; second = Some (spot.Right 5) })) ≡ 65536 +
    133 * 256 + 5
two_targets = refl

-- the example
-- -----------------------------------------------------------------------------------------

pub genu : ℕ → ℕ → Option Inst
genu n w = Some (record {
  op = op.Genu;
  sense = Always;
  imm = pos n;
  number = 0;
  first = Some (spot.Write w);
  second = None;
})

pub scall : Option Inst
scall = Some (record {
  op = op.Scall;
  sense = Always;
  imm = pos 0;
  number = 0;
  first = None;
  second = None;
})

pub example : Image
example = record {
  blocks = record {
    reads = record { items = [] };
    writes = record { items = 0 ∷ 3 ∷ [] };
    mask = 0;
    insts = record { items = genu 3 0 ∷ genu 7 1 ∷ scall ∷ replicate 125 None };
  } ∷ [];
  bytes = [];
}

pub zeros : ℕ → List ℕ
zeros n = replicate n 0

-- the 276 bytes: the container, words 1, 21 and 23 of the header, and three instructions
pub example_bytes : List ℕ
unfolding zeros
example_bytes =
    magic ++ (0 ∷ 0 ∷ 0 ∷ 1 ∷ 0 ∷ 0 ∷ 0 ∷ 1 ∷ 0 ∷ 0 ∷ 0 ∷ 0 ∷ [])
    ++ (zeros 7 ++ 3 ∷ zeros 76) ++ (0x80 ∷ zeros 7) ++ (0x80 ∷ zeros 35)
    ++ (0x60 ∷ 0 ∷ 6 ∷ 0x20 ∷ 0x60 ∷ 0 ∷ 0x0e ∷ 0x21 ∷ 0x48 ∷ 0 ∷ 0 ∷ 0 ∷ zeros 116)

pub example_size : length example_bytes ≡ 276
unfolding example_bytes zeros
example_size = refl

pub example_spelled : spelling example ≡ example_bytes
unfolding example example_bytes zeros genu scall code_of words_from block_bytes chunks_of
example_spelled = refl
