-- What emission does before functions, and the blocks of a program.
use Rattle.std.specs.Prelude.{◌≡◌, ℕ, ◌+◌, Bool, List, [], ◌∷◌}
use Rattle.trips_isa.specs.declared.op.Op.TheVariants.{Add, Tltu, Sd}
use Rattle.ir_forms.specs.declared.hyper.Source.TheVariants.{Const, Reg}
use Rattle.ir_forms.specs.declared.hyper.Exit.TheVariants as exit
use Rattle.ir_forms.specs.inside.Frames.{register_of, argument_register, frame_of, frame_limit, frames_at}
use Rattle.ir_forms.specs.inside.FlatCode.{Code, Function, Program}
use Rattle.ir_forms.specs.inside.HyperCode.{Done, Set, Leave, Test, Block}
use Rattle.ir_forms.specs.inside.HyperRuns.{jump}
use Rattle.hyper_build.specs.declared.numbering.Numbering.{Numbering}
use Rattle.hyper_build.specs.inside.Parts.{capped, set_then, save_then}
use Rattle.hyper_build.specs.inside.Passing.{parameter_moves, parameter_cuts}
use Rattle.hyper_build.specs.inside.Routines.{full_label, start_block, system_block}
use Rattle.hyper_build.specs.inside.Entries.{end_label}
use Rattle.hyper_build.specs.inside.Laws.{plan_of, built_program}
use Rattle.hyper_build.specs.inside.Ground.{Ground, plan, entry_at, left}
use Rattle.hyper_build.specs.inside.Backward.{Emission, with_rest, put_out, cut_at, before, setting}
use Rattle.hyper_build.specs.inside.BackwardStatements.{moving}
use Rattle.hyper_build.specs.inside.BackwardCode.{emit}
use Rattle.hyper_build.specs.inside.Forward.{numbers_start, number_all, entries_from}

-- FUNCTIONS

-- the way into a frame: the return address goes to its first word, and the stack register to its end
abbrev pub entering : ℕ → Block → Block
entering frame k = save_then Sd (Reg 1) (Reg 2) (set_then 1 Add (Reg 1) (Const (capped frame)) k)

-- a test of register 0 alone
abbrev pub forked : ℕ → ℕ → Block
forked one other = record {
  items = Done;
  tail = Test (Reg 0) (Leave (exit.Jump one)) (Leave (exit.Jump other));
}

-- parameter i comes from its register
abbrev pub parameter_out : Bool → ℕ → Emission → Emission
parameter_out small i s =
    setting (register_of i) (cut_at (parameter_cuts small i) s) (Reg (argument_register i))

-- whether a frame's end lies behind the end of all frames
abbrev pub testing : ℕ → ℕ → ℕ → Block
testing end frame way_in = record {
  items = Set 0 Add (Reg 1) (Const (capped frame)) (Set 0 Tltu (Const end) (Reg 0) Done);
  tail = Test (Reg 0) (Leave (exit.Jump full_label)) (Leave (exit.Jump way_in));
}

-- the ground of a function
abbrev pub ground_of : Ground → Function → Ground
ground_of g f = record {
  cuts = g.cuts;
  joins = g.joins;
  groups = g.groups;
  entries = g.entries;
  frame = frame_of f;
  arrays = f.arrays;
}

-- before a function's body: its parameters are moved
abbrev pub parameters_out : Ground → ℕ → Emission → Emission
parameters_out g params s =
    let t = before (plan g) s in
    moving (parameter_cuts ((plan g).small t.place)) 0 (parameter_moves 0 params) t

-- and before these: the way in, and the test of the stack, which are blocks of their own
abbrev pub way_in_out : ℕ → ℕ → Emission → Emission
way_in_out end frame s =
    let t = put_out (with_rest (entering frame s.rest) s) in
    put_out (with_rest (testing end frame t.label) t)

-- before a function's body, at whose end the function returns; no loop stands around it
abbrev pub body_out : Ground → Code → Emission → Emission
body_out g c s = emit g 0 0 c (with_rest (left g.frame) s)

-- the blocks of a function, where the frames end at `end`
abbrev pub function_out : ℕ → Ground → Function → Emission → Emission
function_out end g f s =
    way_in_out end (frame_of f) (parameters_out (ground_of g f) f.params (body_out (ground_of g f) f.body s))

-- before functions, the last of them first
abbrev pub functions_out : ℕ → Ground → List Function → Emission → Emission
functions_out end g [] s = s
functions_out end g (f ∷ fs) s = function_out end g f (functions_out end g fs s)

-- PROGRAMS

-- behind all functions
abbrev pub emission_end : Numbering → Emission
emission_end n = record {
  label = n.label;
  place = n.place;
  calls = n.calls;
  notes = n.notes;
  out = [];
  rest = jump 0;
}

-- the three blocks in front of all functions: the start, the end, and the end with a full stack
abbrev pub first_blocks : ℕ → ℕ → List Block → List Block
first_blocks base main out =
    start_block base main ∷ system_block 3 end_label ∷ system_block 4 full_label ∷ out

-- what emission knows of a program
abbrev pub program_ground : List Bool → List Bool → List (List (List ℕ)) → List ℕ → Ground
program_ground cuts joins groups entries = record {
  cuts = cuts;
  joins = joins;
  groups = groups;
  entries = entries;
  frame = 0;
  arrays = 0;
}

-- the blocks of a program: numbers forward, and then emission backward
abbrev pub emitted_program : List Bool → List Bool → List (List (List ℕ)) → Program → List Block
emitted_program cuts joins groups P =
    let p = plan_of cuts joins groups in
    let entries = entries_from p P.functions numbers_start in
    let end = emission_end (number_all p P.functions numbers_start) in
    first_blocks (frames_at P.bytes) (entry_at entries P.main)
    (functions_out (frames_at P.bytes + frame_limit) (program_ground cuts joins groups entries)
    P.functions end).out

-- for all lists of answers, all groups and every program these are the blocks of the program
abbrev pub EmissionBuilds : Type 0
EmissionBuilds =
    (cuts joins : List Bool) (groups : List (List (List ℕ))) (P : Program)
    → emitted_program cuts joins groups P ≡ built_program (plan_of cuts joins groups) P
