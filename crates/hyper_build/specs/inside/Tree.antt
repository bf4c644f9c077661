-- Flat code with annotations: where blocks are cut, and which groups of variables a call saves.
use Rattle.std.specs.Prelude.{ℕ, ◌+◌, Bool, true, false, not, List, [], ◌∷◌, Option}
use Rattle.std.specs.List.{concat}
use Rattle.trips_isa.specs.declared.op.Op.{Op}
use Rattle.ir_forms.specs.declared.flat.Arg.{Arg}
use Rattle.ir_forms.specs.inside.FlatCode.{Step, Code, Nop, ◌▹◌, Function, Let, Frame, Load, Save, Call, Put}
use Rattle.ir_forms.specs.inside.FlatCode.{Get, If, Loop, Break, Continue, Return, Halt}
use Rattle.ir_forms.specs.inside.FlatFits.{steps_in, steps_of}
use Rattle.reg_assign.specs.inside.Keeps.{calls_in, calls, is_among}

-- Each name is the flat statement's with `At`. `cut` says that the block ends behind the statement; of a loop, that it
-- ends between body and post; of a break, a continue, a return or the end of the run, that what stands behind has a
-- block. `joined` makes an if an item of its block, `small` cuts a call behind each group that it saves or restores,
-- and its arguments behind every third.
mutual
  -- a flat statement with its annotations
  pub data Stmt : Type 0 where
    LetAt : (cut : Bool) (to : ℕ) (op : Op) (a b : Arg) → Stmt
    FrameAt : (cut : Bool) (to at : ℕ) → Stmt
    LoadAt : (cut : Bool) (to : ℕ) (op : Op) (address : Arg) → Stmt
    SaveAt : (cut : Bool) (op : Op) (address value : Arg) → Stmt
    CallAt : (cut small : Bool) (function : ℕ) (args : List Arg) (to : Option ℕ)
        (groups : List (List ℕ)) → Stmt
    PutAt : (value : Arg) → Stmt
    GetAt : (cut : Bool) (to : ℕ) → Stmt
    IfAt : (cut joined : Bool) (test : Arg) (one other : Tree) → Stmt
    LoopAt : (cut : Bool) (body post : Tree) → Stmt
    BreakAt : (cut : Bool) → Stmt
    ContinueAt : (cut : Bool) → Stmt
    ReturnAt : (cut : Bool) (value : Option Arg) → Stmt
    HaltAt : (cut : Bool) (value : Arg) → Stmt

  -- statements in order
  pub data Tree : Type 0 where
    End : Tree
    ◌▸◌ : (s : Stmt) (rest : Tree) → Tree

infixr 50 ◌▸◌
-- THE FLAT PROGRAM BELOW

-- the variables of all groups
abbrev pub is_saved : List (List ℕ) → ℕ → Bool
is_saved groups = is_among (concat groups)

-- The flat code without cuts; a call keeps what it saves.
abbrev mutual
  -- of one statement, the one of the same name without `At`
  pub plain_in : Stmt → Step
  plain_in (LetAt c to op a b) = Let to op a b
  plain_in (FrameAt c to at) = Frame to at
  plain_in (LoadAt c to op a) = Load to op a
  plain_in (SaveAt c op a v) = Save op a v
  plain_in (CallAt c small f args to groups) = Call f args to (is_saved groups)
  plain_in (PutAt v) = Put v
  plain_in (GetAt c to) = Get to
  plain_in (IfAt c joined t one other) = If t (plain one) (plain other)
  plain_in (LoopAt c body post) = Loop (plain body) (plain post)
  plain_in (BreakAt c) = Break
  plain_in (ContinueAt c) = Continue
  plain_in (ReturnAt c v) = Return v
  plain_in (HaltAt c v) = Halt v

  -- of code
  pub plain : Tree → Code
  plain End = Nop
  plain (s ▸ rest) = plain_in s ▹ plain rest

-- a function with annotations; `small` cuts its way in behind every third item
pub record Routine : Type 0 where
  pub params : ℕ
  pub scalars : ℕ
  pub arrays : ℕ
  pub small : Bool
  pub body : Tree

-- the flat function below a function with annotations
abbrev pub function_of : Routine → Function
function_of g =
    record { params = g.params; scalars = g.scalars; arrays = g.arrays; body = plain g.body }

-- ANNOTATING

-- a statement that nothing goes on behind
abbrev pub leaves : Step → Bool
leaves Break = true
leaves Continue = true
leaves (Return v) = true
leaves (Halt v) = true
leaves _ = false

-- Whether code does anything before it leaves. Such code has a block of its own behind a statement that
-- leaves; what leaves at once, or is empty, has none.
abbrev pub goes_on : Code → Bool
goes_on Nop = false
goes_on (s ▹ rest) = not (leaves s)

-- Where a plan cuts, by the number of a statement in the order of the program, and what its calls
-- save, by the number of a call.
pub record Plan : Type 0 where
  pub cut : ℕ → Bool
  -- whether an if is an item of its block, or a loop's test goes on in it
  pub joined : ℕ → Bool
  -- whether a call ends a block behind each group that it saves or restores, and behind every third argument; of a
  -- function, behind every third parameter
  pub small : ℕ → Bool
  -- the variables that a call saves, by groups
  pub groups : ℕ → List (List ℕ)

-- Code with a plan's annotations, where i statements and k calls stand before it. `on` says whether the
-- code behind a statement goes on.
abbrev mutual
  -- one statement, with the plan's answers at its number
  pub annotated_in : Plan → ℕ → ℕ → Bool → Step → Stmt
  annotated_in p i k on (Let to op a b) = LetAt (p.cut i) to op a b
  annotated_in p i k on (Frame to at) = FrameAt (p.cut i) to at
  annotated_in p i k on (Load to op a) = LoadAt (p.cut i) to op a
  annotated_in p i k on (Save op a v) = SaveAt (p.cut i) op a v
  annotated_in p i k on (Call f args to kept) = CallAt (p.cut i) (p.small i) f args to (p.groups k)
  annotated_in p i k on (Put v) = PutAt v
  annotated_in p i k on (Get to) = GetAt (p.cut i) to
  annotated_in p i k on (If t one other) =
      IfAt (p.cut i) (p.joined i) t (annotated p (i + 1) k one)
      (annotated p (i + 1 + steps_of one) (k + calls one) other)
  annotated_in p i k on (Loop body post) =
      LoopAt (p.cut i) (annotated p (i + 1) k body)
      (annotated p (i + 1 + steps_of body) (k + calls body) post)
  annotated_in p i k on Break = BreakAt on
  annotated_in p i k on Continue = ContinueAt on
  annotated_in p i k on (Return v) = ReturnAt on v
  annotated_in p i k on (Halt v) = HaltAt on v

  -- code, whose first statement has the number i
  pub annotated : Plan → ℕ → ℕ → Code → Tree
  annotated p i k Nop = End
  annotated p i k (s ▹ rest) =
      annotated_in p i k (goes_on rest) s ▸ annotated p (i + steps_in s) (k + calls_in s) rest

-- A plan's functions, where i statements and functions and k calls stand before them.
abbrev pub annotated_all : Plan → ℕ → ℕ → List Function → List Routine
annotated_all p i k [] = []
annotated_all p i k (f ∷ fs) =
    record {
      params = f.params;
      scalars = f.scalars;
      arrays = f.arrays;
      small = p.small i;
      body = annotated p (i + 1) k f.body;
    }
    ∷ annotated_all p (i + 1 + steps_of f.body) (k + calls f.body) fs
