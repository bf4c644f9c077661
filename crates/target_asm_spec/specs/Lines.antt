-- The lines of a target text as they are spelled, whatever their numbers.
use Rattle.std.specs.Prelude.{◌≡◌, ℕ, zero, suc, ◌+◌, ℤ, pos, negsuc, List, [], ◌∷◌, ◌++◌}
use Rattle.std.specs.Prelude.{map, Option, Some, None, codes}
use Rattle.std.specs.Int.Digits.{digits_of}
use Rattle.trips_isa.specs.declared.op.Op.{Op}
use Rattle.trips_isa.specs.declared.op.Op.TheVariants.{Bro, Callo}
use Rattle.trips_isa.specs.declared.form.Form.{Form}
use Rattle.trips_isa.specs.declared.form.Form.TheVariants.{General, Immediate, Load, Store, Branch}
use Rattle.trips_isa.specs.declared.form.Form.TheVariants.{Constant}
use Rattle.trips_isa.specs.declared.block.Sense.{Sense}
use Rattle.trips_isa.specs.declared.block.Sense.TheVariants.{Always}
use Rattle.trips_isa.specs.Forms.{form_of}
use Rattle.isa_table.specs.Mnemonics.{mnemonic_of}
use Rattle.target_asm_spec.specs.Numbers.{hex_word}
use Rattle.target_asm_spec.specs.Fields.{sense_text}
use Rattle.target_asm_spec.specs.declared.spelled.Goal.{Goal}
use Rattle.target_asm_spec.specs.declared.spelled.Goal.TheVariants.{Label, Offset}
use Rattle.target_asm_spec.specs.declared.spelled.Numbers.{Numbers}
use Rattle.target_asm_spec.specs.declared.spelled.Targets.{Targets}
use Rattle.target_asm_spec.specs.declared.spelled.SpelledTarget.{SpelledTarget}
use Rattle.target_asm_spec.specs.declared.spelled.SpelledTarget.TheVariants as spelled
use Rattle.target_asm_spec.specs.declared.spelled.SpelledInst.{SpelledInst}
use Rattle.target_asm_spec.specs.declared.spelled.SpelledRead.{SpelledRead}
use Rattle.target_asm_spec.specs.declared.spelled.SpelledWrite.{SpelledWrite}

-- the decimal digits of a number of any size, without leading zeros
unfoldable pub natural_text : ℕ → List ℕ
natural_text zero = 48 ∷ []
natural_text (suc n) = map (λ d. 48 + d) (digits_of 10 (suc n))

-- a number; one below zero has a sign
unfoldable pub number_text : ℤ → List ℕ
number_text (pos n) = natural_text n
number_text (negsuc n) = 45 ∷ natural_text (suc n)

-- What comes after each of the following is its last argument.

-- a target: `W[3]`, `N[5,0]`, `N[5,1]` or `N[5,p]`
unfoldable pub target_words : SpelledTarget → List ℕ → List ℕ
target_words (spelled.Write n) rest = codes "W[" ++ (number_text n ++ 93 ∷ rest)
target_words (spelled.Left n) rest = codes "N[" ++ (number_text n ++ (codes ",0]" ++ rest))
target_words (spelled.Right n) rest = codes "N[" ++ (number_text n ++ (codes ",1]" ++ rest))
target_words (spelled.Pred n) rest = codes "N[" ++ (number_text n ++ (codes ",p]" ++ rest))

-- a target after a space, if there is one
unfoldable pub maybe_words : Option SpelledTarget → List ℕ → List ℕ
maybe_words None rest = rest
maybe_words (Some t) rest = 32 ∷ target_words t rest

-- where a branch goes: `@k` or `!n`
unfoldable pub goal_words : Option Goal → List ℕ → List ℕ
goal_words None rest = rest
goal_words (Some (Label k)) rest = codes " @" ++ (number_text k ++ rest)
goal_words (Some (Offset n)) rest = codes " !" ++ (number_text n ++ rest)

-- the numbers of an operation of a form
unfoldable pub numbers_words : Form → Numbers → List ℕ → List ℕ
numbers_words General n rest = rest
numbers_words Immediate n rest = 32 ∷ (number_text n.imm ++ rest)
numbers_words Constant n rest = 32 ∷ (number_text n.imm ++ rest)
numbers_words Load n rest = 32 ∷ (number_text n.number ++ 32 ∷ (number_text n.imm ++ rest))
numbers_words Store n rest = 32 ∷ (number_text n.number ++ 32 ∷ (number_text n.imm ++ rest))
numbers_words Branch n rest = 32 ∷ (number_text n.number ++ goal_words n.goal rest)

-- the line of an instruction
unfoldable pub inst_words : SpelledInst → List ℕ → List ℕ
inst_words s rest = codes "N[" ++ (number_text s.slot ++ 93 ∷ 32 ∷ (mnemonic_of s.op ++
    (sense_text s.sense ++ numbers_words (form_of s.op) s.numbers
    (maybe_words s.targets.first (maybe_words s.targets.second (10 ∷ rest))))))

-- the line of a read
unfoldable pub read_words : SpelledRead → List ℕ → List ℕ
read_words s rest = codes "R[" ++ (number_text s.number ++ 93 ∷ (codes " read G[" ++
    (number_text s.register ++ 93 ∷ 32 ∷ target_words s.first (maybe_words s.second (10 ∷ rest)))))

-- the line of a write
unfoldable pub write_words : SpelledWrite → List ℕ → List ℕ
write_words s rest = codes "W[" ++ (number_text s.number ++ 93 ∷ (codes " write G[" ++
    (number_text s.register ++ 93 ∷ 10 ∷ rest)))

-- the line of a block
unfoldable pub block_words : ℤ → ℕ → List ℕ → List ℕ
block_words number mask rest = codes "block " ++ (number_text number ++ (codes " mask " ++
    (hex_word mask ++ 10 ∷ rest)))

-- the line that tells the number of data bytes
unfoldable pub count_words : ℤ → List ℕ → List ℕ
count_words n rest = codes "data " ++ (number_text n ++ 10 ∷ rest)

-- ---- what an operation may have

-- an operation that makes a constant has no predicate
abbrev pub MayHaveSense : Form → Sense → Type 0
MayHaveSense Constant sense = sense ≡ Always
MayHaveSense form sense = Unit {0}

-- `bro` and `callo` say where they go, and no other operation does
abbrev pub MayHaveGoal : Op → Option Goal → Type 0
MayHaveGoal Bro None = ⊥
MayHaveGoal Bro (Some goal) = Unit {0}
MayHaveGoal Callo None = ⊥
MayHaveGoal Callo (Some goal) = Unit {0}
MayHaveGoal op goal = goal ≡ None

-- two targets, one, or none; no second without a first
abbrev pub MayHaveTargets : Form → Targets → Type 0
MayHaveTargets General t = t.first ≡ None → t.second ≡ None
MayHaveTargets Store t = (t.first ≡ None) × (t.second ≡ None)
MayHaveTargets Branch t = (t.first ≡ None) × (t.second ≡ None)
MayHaveTargets form t = t.second ≡ None

-- the parts of a line are those of its operation
pub record IsInstruction (s : SpelledInst) : Type 0 where
  -- a predicate, a goal and targets only as the operation's form has them
  pub sense : MayHaveSense (form_of s.op) s.sense
  pub goal : MayHaveGoal s.op s.numbers.goal
  pub targets : MayHaveTargets (form_of s.op) s.targets

-- a read names the operands of instructions
abbrev pub IsOperand : SpelledTarget → Type 0
IsOperand (spelled.Left n) = Unit {0}
IsOperand (spelled.Right n) = Unit {0}
IsOperand (spelled.Pred n) = ⊥
IsOperand (spelled.Write n) = ⊥

-- one, or two that are spelled differently
abbrev pub AreOperands : SpelledTarget → Option SpelledTarget → Type 0
AreOperands first None = IsOperand first
AreOperands first (Some second) = IsOperand first × IsOperand second
    × (target_words second [] ≡ target_words first [] → ⊥)
