-- What annotated programs must fulfil: what the flat form asks, and besides constants that are words,
-- places inside the arrays, and calls that save only lasting variables, in at most five groups.
use Rattle.std.specs.Prelude.{◌≡◌, ℕ, ◌+◌, ◌%◌, ◌^◌, ◌<◌, ◌≤◌, Bool, true, false, List, [], ◌∷◌}
use Rattle.std.specs.Prelude.{length, Option, Some, None, slice_get}
use Rattle.trips_isa.specs.Stores.{data_size}
use Rattle.ir_forms.specs.declared.flat.Arg.{Arg}
use Rattle.ir_forms.specs.declared.flat.Arg.TheVariants.{Const, Var}
use Rattle.ir_forms.specs.inside.Frames.{frame_limit}
use Rattle.ir_forms.specs.inside.FlatFits.{is_lasting, FitsVar, FitsArg, FitsLastings, FitsResult}
use Rattle.ir_forms.specs.inside.FlatFits.{FitsReturn, operates, loads, stores}
use Rattle.hyper_build.specs.inside.Tree.{Stmt, LetAt, FrameAt, LoadAt, SaveAt, CallAt, PutAt, GetAt, IfAt}
use Rattle.hyper_build.specs.inside.Tree.{LoopAt, BreakAt, ContinueAt, ReturnAt, HaltAt, Tree, End, ◌▸◌, Routine}
use Rattle.hyper_build.specs.inside.Tree.{is_saved}
use Rattle.hyper_build.specs.inside.Straight.{Place}
use Rattle.hyper_build.specs.inside.Merging.{SetsLow}
use Rattle.hyper_build.specs.inside.Entries.{end_label}
use Rattle.hyper_build.specs.inside.Routines.{routine_blocks, system_block, full_label}
use Rattle.hyper_build.specs.inside.World.{World, Has, IsFaithful, frame}

-- WORDS

-- a constant of the code is a word
abbrev pub IsWordArg : Arg → Type 0
IsWordArg (Const w) = w < 2 ^ 64
IsWordArg (Var v) = Unit {0}

-- each argument of a call is such
abbrev pub AreWordArgs : List Arg → Type 0
AreWordArgs [] = Unit {0}
AreWordArgs (a ∷ rest) = IsWordArg a × AreWordArgs rest

-- what is returned, if anything, is such
abbrev pub IsWordReturn : Option Arg → Type 0
IsWordReturn None = Unit {0}
IsWordReturn (Some a) = IsWordArg a

-- STATEMENTS

-- a call of a function that is there, with the arguments that it takes
pub record FitsCallAt (W : World) (g : Routine) (f : ℕ) (args : List Arg) (to : Option ℕ)
    (groups : List (List ℕ)) : Type 0
  where
    -- the function that is called
    pub routine : Routine
    pub found : slice_get W.routines f ≡ Some routine
    pub arity : length args ≡ routine.params
    -- arguments stay set while variables are saved
    pub lasting : FitsLastings g.scalars args
    pub words : AreWordArgs args
    pub result : FitsResult g.scalars to
    -- it saves lasting variables of its own function alone
    pub saved : (v : ℕ) → is_saved groups v ≡ true → is_lasting g.scalars v ≡ true
    -- 80 variables by 16
    pub few : length groups ≤ 5

-- whether code stands in the body of a loop says whether it may break
abbrev mutual
  -- its operation is of its kind, its variables are those of the function, its constants are words
  pub FitsStmt : World → Routine → Bool → Stmt → Type 0
  FitsStmt W g inside (LetAt c to op a b) =
      (operates op ≡ true) × FitsVar g.scalars to × FitsArg g.scalars a × FitsArg g.scalars b
      × IsWordArg a × IsWordArg b
  FitsStmt W g inside (FrameAt c to at) = FitsVar g.scalars to × (at ≤ g.arrays)
  FitsStmt W g inside (LoadAt c to op a) =
      (loads op ≡ true) × FitsVar g.scalars to × FitsArg g.scalars a × IsWordArg a
  FitsStmt W g inside (SaveAt c op a v) =
      (stores op ≡ true) × FitsArg g.scalars a × FitsArg g.scalars v × IsWordArg a × IsWordArg v
  FitsStmt W g inside (CallAt c small f args to groups) = FitsCallAt W g f args to groups
  FitsStmt W g inside (PutAt a) = FitsArg g.scalars a × IsWordArg a
  FitsStmt W g inside (GetAt c to) = FitsVar g.scalars to
  FitsStmt W g inside (IfAt c joined a one other) =
      FitsArg g.scalars a × IsWordArg a × FitsTree W g inside one × FitsTree W g inside other
  FitsStmt W g inside (LoopAt c body post) = FitsTree W g true body × FitsTree W g false post
  FitsStmt W g inside (BreakAt c) = inside ≡ true
  FitsStmt W g inside (ContinueAt c) = inside ≡ true
  FitsStmt W g inside (ReturnAt c a) = FitsReturn g.scalars a × IsWordReturn a
  FitsStmt W g inside (HaltAt c a) = FitsArg g.scalars a × IsWordArg a

  -- each statement of code
  pub FitsTree : World → Routine → Bool → Tree → Type 0
  FitsTree W g inside End = Unit {0}
  FitsTree W g inside (s ▸ rest) = FitsStmt W g inside s × FitsTree W g inside rest

-- PROGRAMS

-- a function whose variables and arguments have registers, and whose frame is whole words
pub record FitsRoutine (W : World) (g : Routine) : Type 0 where
  -- their numbers end before those of temporaries
  pub scalars : g.scalars ≤ 64
  pub params : g.params ≤ g.scalars
  -- eight registers carry arguments
  pub few : g.params ≤ 8
  pub words : g.arrays % 8 ≡ 0
  -- at its outside there is no loop to leave
  pub body : FitsTree W g false g.body

-- The blocks of each function stand in the program, and it fits.
pub record IsBuilt (W : World) : Type 0 where
  -- the block that ends a run with its result
  pub ends : slice_get W.program end_label ≡ Some (system_block 3 end_label)
  -- the block that ends a run whose stack is full
  pub full : slice_get W.program full_label ≡ Some (system_block 4 full_label)
  -- from its entry on
  pub has : (f : ℕ) (g : Routine) → slice_get W.routines f ≡ Some g
      → Has W.program (W.entries f)
      (routine_blocks (W.base + frame_limit) W.entries (W.entries f) g)
  pub fits : (f : ℕ) (g : Routine) → slice_get W.routines f ≡ Some g → FitsRoutine W g
  -- globals and frames are whole words inside data memory
  pub words : W.base % 8 ≡ 0
  pub room : W.base + frame_limit ≤ data_size
  -- each block that stands has an address
  pub faithful : (l : ℕ) → l < length W.program → IsFaithful W.at l

-- a place in function g
pub record IsPlace (W : World) (g : Routine) (p : Place) : Type 0 where
  pub frame : p.frame ≡ frame g
  pub arrays : p.arrays ≡ g.arrays
  -- calls lead to the functions' entries
  pub entries : (f : ℕ) → p.entries f ≡ W.entries f
  -- the way out leaves alone the register in which a loop's test is kept
  pub low : SetsLow p.gave.items
