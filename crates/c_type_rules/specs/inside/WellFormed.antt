-- A typed program that is well formed: what evaluation and translation may rely on.
use Rattle.std.specs.Prelude.{◌≡◌, ℕ, ◌+◌, ◌*◌, ◌≤◌, List, [], ◌∷◌, Option, Some, None}
use Rattle.std.specs.Prelude.{length, drop, slice_get}
use Rattle.c_tree.specs.Limits.{most_object_bytes, most_parameters, most_scalars}
use Rattle.c_tree.specs.declared.token.Kind.TheVariants.{Int}
use Rattle.c_tree.specs.declared.typed.Slot.{Slot}
use Rattle.c_tree.specs.declared.typed.Slot.TheVariants as slot
use Rattle.c_tree.specs.declared.typed.TypedArray.{TypedArray}
use Rattle.c_tree.specs.declared.typed.TypedFunc.{TypedFunc}
use Rattle.c_tree.specs.declared.typed.TypedGlobal.{TypedGlobal}
use Rattle.c_tree.specs.declared.typed.TypedProgram.{TypedProgram}
use Rattle.c_tree.specs.declared.typed.TypedStmt.{out-TypedStmt}
use Rattle.c_constant.specs.Kinds.{bytes, IsWord}
use Rattle.c_type.specs.States.{nowhere}
use Rattle.c_type_rules.specs.inside.KeptStatements.{WellFormedStmt}

-- the condition holds of each of the list
abbrev pub Each : {A : Type 0} → (A → Type 0) → List A → Type 0
Each Q [] = Unit {0}
Each Q (x ∷ xs) = Q x × Each Q xs

-- GLOBALS

-- how many values a global holds
abbrev pub count_of : Option ℕ → ℕ
count_of None = 1
count_of (Some n) = n

-- the bytes of a global
abbrev pub global_bytes : TypedGlobal → ℕ
global_bytes g = count_of g.length * bytes g.kind

-- those of several
abbrev pub all_bytes : List TypedGlobal → ℕ
all_bytes [] = 0
all_bytes (g ∷ gs) = global_bytes g + all_bytes gs

-- an array with two sizes has whole rows, and a row has an element
abbrev pub IsRows : Option ℕ → ℕ → Type 0
IsRows None n = Unit {0}
IsRows (Some r) n = (1 ≤ r) × ((m : ℕ) × (n ≡ m * r))

-- an array has an element, and what is no array has no rows; a global holds no fewer values than it is given,
-- each of its type
pub record GlobalFits (g : TypedGlobal) : Type 0 where
  pub some : 1 ≤ count_of g.length
  pub single : g.length ≡ None → g.row ≡ None
  pub rows : IsRows g.row (count_of g.length)
  -- the others begin as zero
  pub holds : length g.init ≤ count_of g.length
  pub words : Each (IsWord g.kind) g.init

-- FUNCTIONS

-- a local array has an element, and no more bytes than an array may have
pub record ArrayFits (a : TypedArray) : Type 0 where
  pub some : 1 ≤ a.length
  pub rows : IsRows a.row a.length
  pub bytes : a.length * bytes a.kind ≤ most_object_bytes

-- the slot holds a value, and does not stand for an array
abbrev pub IsScalar : Slot → Type 0
IsScalar (slot.Scalar k) = Unit {0}
IsScalar (slot.Address k q) = ⊥

-- a row of an array parameter has an element, and no more bytes than an array may have
abbrev pub SlotFits : Slot → Type 0
SlotFits (slot.Address k (Some n)) = (1 ≤ n) × (n * bytes k ≤ most_object_bytes)
SlotFits _ = Unit {0}

-- a function that is well formed
pub record FunctionFits (P : TypedProgram) (f : TypedFunc) : Type 0 where
  -- no more parameters than a function may have, each of which has a slot
  pub params : f.params ≤ most_parameters
  pub slots : f.params ≤ length f.scalars
  -- no more slots than a function may have scalars, of which those after the parameters hold values
  pub scalars : length f.scalars ≤ most_scalars
  pub locals : Each IsScalar (drop f.params f.scalars)
  -- of its array parameters
  pub rows : Each SlotFits f.scalars
  pub arrays : Each ArrayFits f.arrays
  -- the body is well formed, and in no loop and no switch
  pub body : WellFormedStmt P f nowhere (out-TypedStmt f.body)

-- MAIN

-- a function of type int(void)
pub record IsMain (P : TypedProgram) : Type 0 where
  pub function : TypedFunc
  -- by the number that the program says
  pub is : slice_get P.functions P.main ≡ Some function
  pub result : function.result ≡ Some Int
  pub params : function.params ≡ 0

-- a program that is well formed
pub record WellFormed (P : TypedProgram) : Type 0 where
  pub globals : Each GlobalFits P.globals
  -- the globals have no more bytes than they may have
  pub bytes : all_bytes P.globals ≤ most_object_bytes
  -- each in the program whose functions it calls
  pub functions : Each (FunctionFits P) P.functions
  pub main : IsMain P
