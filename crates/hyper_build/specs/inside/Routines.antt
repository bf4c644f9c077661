-- The blocks of functions, and of a whole program: the test of the stack, the way in and the way
-- out, and the first three blocks.
use Rattle.std.specs.Prelude.{ℕ, zero, suc, ◌+◌, List, [], ◌∷◌, ◌++◌}
use Rattle.trips_isa.specs.declared.op.Op.TheVariants.{Mov, Add, Sub, Tltu, Ld, Sd}
use Rattle.ir_forms.specs.declared.hyper.Source.TheVariants.{Const, Reg}
use Rattle.ir_forms.specs.declared.hyper.Exit.TheVariants as exit
use Rattle.ir_forms.specs.inside.Frames.{frame_of, frame_limit}
use Rattle.ir_forms.specs.inside.HyperCode.{Done, Set, Load, Leave, Test, Block}
use Rattle.hyper_build.specs.inside.Tree.{Routine, function_of}
use Rattle.hyper_build.specs.inside.Parts.{capped, set_then, save_then, cut, cut_blocks, cut_size, moved}
use Rattle.hyper_build.specs.inside.Parts.{moved_blocks, moved_size}
use Rattle.hyper_build.specs.inside.Passing.{parameter_moves, parameter_cuts}
use Rattle.hyper_build.specs.inside.Straight.{Place}
use Rattle.hyper_build.specs.inside.Sizes.{size}
use Rattle.hyper_build.specs.inside.Entries.{entry, end_label}
use Rattle.hyper_build.specs.inside.Build.{blocks}

-- the block that ends the run with a full stack
abbrev pub full_label : ℕ
full_label = 2

-- FUNCTIONS

-- the bytes of a function's frame, as a constant of the code
abbrev pub frame_bytes : Routine → ℕ
frame_bytes g = capped (frame_of (function_of g))

-- what a return goes on with: the frame is left, and its first word is the return address
abbrev pub way_out : Routine → Block
way_out g = record {
  items = Set 1 Sub (Reg 1) (Const (frame_bytes g)) (Load 2 Ld (Reg 1) Done);
  tail = Leave exit.Return;
}

-- where a function's statements stand
abbrev pub place_of : Routine → (ℕ → ℕ) → Place
place_of g entries = record {
  frame = frame_of (function_of g);
  arrays = g.arrays;
  entries = entries;
  broke = 0;
  again = 0;
  gave = way_out g;
}

-- whether the frame's end lies behind the end of all frames, in register 0
abbrev pub stack_test : ℕ → Routine → ℕ → Block
stack_test end g way_in = record {
  items = Set 0 Add (Reg 1) (Const (frame_bytes g)) (Set 0 Tltu (Const end) (Reg 0) Done);
  tail = Test (Reg 0) (Leave (exit.Jump full_label)) (Leave (exit.Jump way_in));
}

-- the return address goes to the frame's first word, and the stack register to the frame's end
abbrev pub way_in : Routine → Block → Block
way_in g k = save_then Sd (Reg 1) (Reg 2) (set_then 1 Add (Reg 1) (Const (frame_bytes g)) k)

-- how many blocks end behind moves of parameters
abbrev pub parameters_size : Routine → ℕ
parameters_size g = moved_size (parameter_cuts g.small) 0 (parameter_moves 0 g.params)

-- the first label behind a function's way in, where its entry is e
abbrev pub body_label : Routine → ℕ → ℕ
body_label g e = e + 2 + parameters_size g + cut_size g.small

-- the rest of a block that does the body
abbrev pub body_entry : Routine → (ℕ → ℕ) → ℕ → Block
body_entry g entries e = entry (place_of g entries) g.body (body_label g e) (way_out g)

-- what follows the way in
abbrev pub to_body : Routine → (ℕ → ℕ) → ℕ → Block
to_body g entries e = cut g.small (e + 2 + parameters_size g) (body_entry g entries e)

-- how many blocks a function has: the test of the stack, the way in, those behind parameters, and
-- its body's
abbrev pub routine_size : Routine → ℕ
routine_size g = 2 + parameters_size g + cut_size g.small + size g.body

-- the blocks of a function whose entry is e, where the frames end at `end`
abbrev pub routine_blocks : ℕ → (ℕ → ℕ) → ℕ → Routine → List Block
routine_blocks end entries e g =
    let moves = parameter_moves 0 g.params in
    stack_test end g (e + 1)
    ∷ way_in g (moved (parameter_cuts g.small) 0 moves (e + 2) (to_body g entries e))
    ∷ (moved_blocks (parameter_cuts g.small) 0 moves (e + 2) (to_body g entries e)
    ++ (cut_blocks g.small (body_entry g entries e)
    ++ blocks (place_of g entries) g.body (body_label g e) (way_out g)))

-- PROGRAMS

-- the entry of function f, where the first stands at label e
abbrev pub entry_from : ℕ → List Routine → ℕ → ℕ
entry_from e [] f = 0
entry_from e (g ∷ gs) zero = e
entry_from e (g ∷ gs) (suc f) = entry_from (e + routine_size g) gs f

-- the blocks of functions, of which the first stands at label e
abbrev pub all_blocks : ℕ → (ℕ → ℕ) → ℕ → List Routine → List Block
all_blocks end entries e [] = []
all_blocks end entries e (g ∷ gs) =
    routine_blocks end entries e g ++ all_blocks end entries (e + routine_size g) gs

-- block 0: the stack is empty, and main is called
abbrev pub start_block : ℕ → ℕ → Block
start_block base main = record {
  items = Set 1 Mov (Const base) (Const 0) Done;
  tail = Leave (exit.Call main end_label);
}

-- a block that makes a system call and goes on behind itself
abbrev pub system_block : ℕ → ℕ → Block
system_block call l =
    record { items = Set 0 Mov (Const call) (Const 0) Done; tail = Leave (exit.System (l + 1)) }

-- Start, end and full, and then the functions.
abbrev pub built : ℕ → List Routine → ℕ → List Block
built base fs main =
    let entries = entry_from 3 fs in
    start_block base (entries main) ∷ system_block 3 end_label ∷ system_block 4 full_label
    ∷ all_blocks (base + frame_limit) entries 3 fs
