-- Flat programs as plain data, which their meaning and the passes recurse on.
use Rattle.std.specs.Prelude.{ℕ, Bool, List, Option}
use Rattle.trips_isa.specs.declared.op.Op.{Op}
use Rattle.ir_forms.specs.declared.flat.Arg.{Arg}

-- A call has besides the variables that stay set over it.
mutual
  -- a statement, which works on numbered variables and on byte memory
  pub data Step : Type 0 where
    -- a variable gets what an operation on words gives
    Let : (to : ℕ) (op : Op) (a b : Arg) → Step
    -- a variable gets the address of a byte of the call's own arrays
    Frame : (to at : ℕ) → Step
    Load : (to : ℕ) (op : Op) (address : Arg) → Step
    Save : (op : Op) (address value : Arg) → Step
    Call : (function : ℕ) (args : List Arg) (to : Option ℕ) (kept : ℕ → Bool) → Step
    -- the low byte of a value is put out
    Put : (value : Arg) → Step
    -- a variable gets the next byte of the input, or -1 at its end
    Get : (to : ℕ) → Step
    -- the first where the test is not 0
    If : (test : Arg) (one other : Code) → Step
    -- body and post by turns, until it is left; a continue in the body leads to the post
    Loop : (body post : Code) → Step
    Break : Step
    Continue : Step
    Return : (value : Option Arg) → Step
    -- the whole run ends, from any depth of calls, with its result
    Halt : (value : Arg) → Step

  -- statements in order
  pub data Code : Type 0 where
    Nop : Code
    ◌▹◌ : (s : Step) (rest : Code) → Code

infixr 50 ◌▹◌
-- one after the other
abbrev pub Then : Code → Code → Code
Then Nop b = b
Then (s ▹ a) b = s ▹ Then a b

-- one statement alone
abbrev pub only : Step → Code
only s = s ▹ Nop

-- a function, its first `params` scalars its parameters
pub record Function : Type 0 where
  pub params : ℕ
  -- how many scalars it has, numbered from 0
  pub scalars : ℕ
  -- the bytes of its local arrays
  pub arrays : ℕ
  pub body : Code

-- a program, with the number of the function main
pub record Program : Type 0 where
  pub functions : List Function
  -- the start of data memory
  pub bytes : List ℕ
  -- its place among the functions
  pub main : ℕ
