-- Flat programs that the passes take: what each statement may name, and the counts that they prove
-- bounds with.
use Rattle.std.specs.Prelude.{◌≡◌, ℕ, ◌+◌, ◌%◌, ◌^◌, ◌<◌, ◌≤◌, Bool, true, false, cond, ◌&&◌, ◌||◌}
use Rattle.std.specs.Prelude.{nat_le, nat_lt, List, [], ◌∷◌, Option, Some, None, slice_get, length}
use Rattle.std.specs.Prelude.{All}
use Rattle.trips_isa.specs.declared.op.Op.{Op}
use Rattle.trips_isa.specs.declared.op.Op.TheVariants.{Null}
use Rattle.trips_isa.specs.declared.form.Form.{Form}
use Rattle.trips_isa.specs.declared.form.Form.TheVariants.{General}
use Rattle.trips_isa.specs.Forms.{form_of, is_load, is_store}
use Rattle.trips_isa.specs.Stores.{data_size}
use Rattle.ir_forms.specs.declared.flat.Arg.{Arg}
use Rattle.ir_forms.specs.declared.flat.Arg.TheVariants.{Const, Var}
use Rattle.ir_forms.specs.inside.Limits.{first_temporary, first_scratch, variable_count, most_statements}
use Rattle.ir_forms.specs.inside.FlatCode.{Step, Let, Frame, Load, Save, Call, Put, Get, If, Loop, Break}
use Rattle.ir_forms.specs.inside.FlatCode.{Continue, Return, Halt, Code, Nop, ◌▹◌, Function, Program}
use Rattle.ir_forms.specs.inside.Frames.{frames_at, frame_limit}

-- OPERATIONS

-- the form of operations on words alone, without an immediate and a number of a load or store
abbrev pub is_general : Form → Bool
is_general General = true
is_general _ = false

-- an operation on one or two words, in its general form
abbrev pub operates : Op → Bool
operates Null = false
operates op = is_general (form_of op)

-- one of the machine's loads: 1, 2, 4 or 8 bytes, extended by sign or by zero
abbrev pub loads : Op → Bool
loads op = is_load (form_of op)

-- one of the machine's stores, of the low 1, 2, 4 or 8 bytes of a word
abbrev pub stores : Op → Bool
stores op = is_store (form_of op)

-- VARIABLES

-- a scalar of the function or a temporary: it stays set over a call, and may be an argument
abbrev pub is_lasting : ℕ → ℕ → Bool
is_lasting scalars v = nat_lt v scalars || (nat_le first_temporary v && nat_lt v first_scratch)

-- or a scratch variable
abbrev pub is_variable : ℕ → ℕ → Bool
is_variable scalars v = is_lasting scalars v || (nat_le first_scratch v && nat_lt v variable_count)

-- a variable that a function with so many scalars has
abbrev pub FitsVar : ℕ → ℕ → Type 0
FitsVar scalars v = is_variable scalars v ≡ true

-- a constant is a word
abbrev pub FitsArg : ℕ → Arg → Type 0
FitsArg scalars (Const w) = w < 2 ^ 64
FitsArg scalars (Var v) = FitsVar scalars v

-- an argument of a call: a word, or a variable that stays set over calls
abbrev pub FitsLasting : ℕ → Arg → Type 0
FitsLasting scalars (Const w) = w < 2 ^ 64
FitsLasting scalars (Var v) = is_lasting scalars v ≡ true

-- the arguments of a call, each of them
abbrev pub FitsLastings : ℕ → List Arg → Type 0
FitsLastings scalars [] = Unit {0}
FitsLastings scalars (a ∷ rest) = FitsLasting scalars a × FitsLastings scalars rest

-- where a call's result goes, if anywhere: to a variable that stays set over calls
abbrev pub FitsResult : ℕ → Option ℕ → Type 0
FitsResult scalars None = Unit {0}
FitsResult scalars (Some v) = is_lasting scalars v ≡ true

-- what is returned, if anything
abbrev pub FitsReturn : ℕ → Option Arg → Type 0
FitsReturn scalars None = Unit {0}
FitsReturn scalars (Some a) = FitsArg scalars a

-- STATEMENTS

-- a call has the arguments that its function takes
pub record FitsCall (fs : List Function) (f : ℕ) (args : List Arg) : Type 0 where
  -- the function that is called
  pub function : Function
  -- it stands under that number
  pub found : slice_get fs f ≡ Some function
  pub arity : length args ≡ function.params

-- Statements of a function of n scalars, whose arrays have k bytes. Whether a statement stands in the
-- body of a loop says whether it may break.
abbrev mutual
  -- its operation is of its kind, what it names is there, and its parts fit
  pub FitsStep : List Function → ℕ → ℕ → Bool → Step → Type 0
  FitsStep fs n k inside (Let to op a b) =
      (operates op ≡ true) × FitsVar n to × FitsArg n a × FitsArg n b
  FitsStep fs n k inside (Frame to at) = FitsVar n to × (at ≤ k)
  FitsStep fs n k inside (Load to op a) = (loads op ≡ true) × FitsVar n to × FitsArg n a
  FitsStep fs n k inside (Save op a v) = (stores op ≡ true) × FitsArg n a × FitsArg n v
  FitsStep fs n k inside (Call f args to kept) =
      FitsCall fs f args × FitsLastings n args × FitsResult n to
  FitsStep fs n k inside (Put a) = FitsArg n a
  FitsStep fs n k inside (Get to) = FitsVar n to
  FitsStep fs n k inside (If a one other) =
      FitsArg n a × FitsCode fs n k inside one × FitsCode fs n k inside other
  FitsStep fs n k inside (Loop body post) = FitsCode fs n k true body × FitsCode fs n k false post
  FitsStep fs n k inside Break = inside ≡ true
  FitsStep fs n k inside Continue = inside ≡ true
  FitsStep fs n k inside (Return a) = FitsReturn n a
  FitsStep fs n k inside (Halt a) = FitsArg n a

  -- each of the statements fits
  pub FitsCode : List Function → ℕ → ℕ → Bool → Code → Type 0
  FitsCode fs n k inside Nop = Unit {0}
  FitsCode fs n k inside (s ▹ rest) = FitsStep fs n k inside s × FitsCode fs n k inside rest

-- COUNTS

abbrev mutual
  -- one statement counts with those in its legs, or in its body and the part after it
  pub steps_in : Step → ℕ
  steps_in (If a one other) = 1 + (steps_of one + steps_of other)
  steps_in (Loop body post) = 1 + (steps_of body + steps_of post)
  steps_in _ = 1

  -- the statements of code, those in parts among them
  pub steps_of : Code → ℕ
  steps_of Nop = 0
  steps_of (s ▹ rest) = steps_in s + steps_of rest

-- the statements of functions, each function counting one besides
abbrev pub steps_of_all : List Function → ℕ
steps_of_all [] = 0
steps_of_all (f ∷ fs) = 1 + steps_of f.body + steps_of_all fs

-- The blocks that code makes where each place ends one: at most 5 to save, 2 for arguments, one to
-- come back to, 5 to restore, and the rest, of a call; the head, the part behind the body and what
-- follows, of a loop; both legs and what follows, of an if; what follows, of all others.
abbrev mutual
  -- the most blocks of one statement with its parts
  pub code_blocks_in : Step → ℕ
  code_blocks_in (Call f args to kept) = 14
  code_blocks_in (Get to) = 2
  code_blocks_in (If a one other) = 3 + (code_blocks one + code_blocks other)
  code_blocks_in (Loop body post) = 3 + (code_blocks body + code_blocks post)
  code_blocks_in _ = 1

  -- the most blocks of statements in order
  pub code_blocks : Code → ℕ
  code_blocks Nop = 0
  code_blocks (s ▹ rest) = code_blocks_in s + code_blocks rest

-- a function has at most six blocks besides
abbrev pub code_blocks_of_all : List Function → ℕ
code_blocks_of_all [] = 0
code_blocks_of_all (f ∷ fs) = 6 + code_blocks f.body + code_blocks_of_all fs

-- a leg that is empty or one operation
abbrev pub is_small_leg : Code → Bool
is_small_leg Nop = true
is_small_leg (Let to op a b ▹ Nop) = true
is_small_leg _ = false

-- no statement at all
abbrev pub is_empty : Code → Bool
is_empty Nop = true
is_empty (s ▹ rest) = false

-- a small if: its legs are each empty or one operation, and not both empty
abbrev pub small_if : Code → Code → ℕ
small_if one other =
    cond (is_small_leg one && is_small_leg other) (cond (is_empty one && is_empty other) 0 1) 0

abbrev mutual
  -- the small ifs of one statement: itself, and those in its parts
  pub small_ifs_in : Step → ℕ
  small_ifs_in (If a one other) = small_if one other + (small_ifs one + small_ifs other)
  small_ifs_in (Loop body post) = small_ifs body + small_ifs post
  small_ifs_in _ = 0

  -- the small ifs of code, at any depth
  pub small_ifs : Code → ℕ
  small_ifs Nop = 0
  small_ifs (s ▹ rest) = small_ifs_in s + small_ifs rest

-- the small ifs of functions
abbrev pub small_ifs_of_all : List Function → ℕ
small_ifs_of_all [] = 0
small_ifs_of_all (f ∷ fs) = small_ifs f.body + small_ifs_of_all fs

-- PROGRAMS

-- a function that the passes take: its variables have numbers of their own, its arguments have
-- registers, and its statements fit
pub record FitsFunction (fs : List Function) (f : Function) : Type 0 where
  -- their numbers end before those of temporaries
  pub scalars : f.scalars ≤ first_temporary
  -- the parameters are the first scalars
  pub params : f.params ≤ f.scalars
  -- eight registers carry arguments
  pub few : f.params ≤ 8
  -- its frame is made of whole words
  pub words : f.arrays % 8 ≡ 0
  -- at its outside there is no loop to leave
  pub body : FitsCode fs f.scalars f.arrays false f.body

-- a program that the passes take, as the lowering of a text makes it
pub record FitsProgram (P : Program) : Type 0 where
  -- each function fits, and calls functions that there are
  pub each : (f : ℕ) (g : Function) → slice_get P.functions f ≡ Some g → FitsFunction P.functions g
  -- main is there, without parameters
  pub main : FitsCall P.functions P.main []
  -- functions count with their statements
  pub few : steps_of_all P.functions ≤ most_statements
  -- what globals begin with is bytes
  pub bytes : All (λ b. b < 256) P.bytes
  -- globals and frames lie inside data memory
  pub room : frames_at P.bytes + frame_limit ≤ data_size
