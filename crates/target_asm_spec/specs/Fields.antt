-- The fields of an instruction's line: targets, predicates and numbers.
use Rattle.std.specs.Prelude.{ℕ, ℤ, List, [], ◌∷◌, ◌++◌, Option, Some, None, codes}
use Rattle.std.specs.Fmt.{decimal, signed_decimal}
use Rattle.trips_isa.specs.declared.op.Op.{Op}
use Rattle.trips_isa.specs.declared.op.Op.TheVariants.{Bro, Callo}
use Rattle.trips_isa.specs.declared.form.Form.{Form}
use Rattle.trips_isa.specs.declared.form.Form.TheVariants.{General, Immediate, Load, Store, Branch}
use Rattle.trips_isa.specs.declared.form.Form.TheVariants.{Constant}
use Rattle.trips_isa.specs.declared.block.Spot.{Spot}
use Rattle.trips_isa.specs.declared.block.Sense.{Sense}
use Rattle.trips_isa.specs.declared.block.Sense.TheVariants.{Always, OnTrue, OnFalse}
use Rattle.trips_isa.specs.declared.block.Inst.{Inst}
use Rattle.isa_table.specs.Spots.{spot_text}

-- a target with the space before it; nothing where there is none
abbrev pub target_text : Option Spot → List ℕ
target_text None = []
target_text (Some s) = 32 ∷ spot_text s

-- the ending of a mnemonic that tells the predicate
unfoldable pub sense_text : Sense → List ℕ
sense_text Always = []
sense_text OnTrue = codes "_t"
sense_text OnFalse = codes "_f"

-- where a branch goes that names the block by an offset: a block of the image, or a place where
-- none starts
abbrev pub goal_text : Option ℕ → ℤ → List ℕ
goal_text (Some k) offset = 64 ∷ decimal k
goal_text None offset = 33 ∷ signed_decimal offset

-- only `bro` and `callo` have an offset
abbrev pub branch_text : Op → Option ℕ → ℤ → List ℕ
branch_text Bro goal offset = 32 ∷ goal_text goal offset
branch_text Callo goal offset = 32 ∷ goal_text goal offset
branch_text op goal offset = []

-- the numbers of an instruction, each after a space
abbrev pub numbers_text : Form → Inst → Option ℕ → List ℕ
numbers_text General i goal = []
numbers_text Immediate i goal = 32 ∷ signed_decimal i.imm
numbers_text Constant i goal = 32 ∷ signed_decimal i.imm
numbers_text Load i goal = 32 ∷ (decimal i.number ++ 32 ∷ signed_decimal i.imm)
numbers_text Store i goal = 32 ∷ (decimal i.number ++ 32 ∷ signed_decimal i.imm)
numbers_text Branch i goal = 32 ∷ (decimal i.number ++ branch_text i.op goal i.imm)
