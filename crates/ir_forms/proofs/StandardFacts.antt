-- Worked rows of the three meanings, by evaluation.
use Rattle.std.proofs.Common.{◌≡◌, ℕ, pos, List, [], ◌∷◌, replicate, slice_index, get_or, true}
use Rattle.std.proofs.Common.{false, Option, Some, None, refl}
use Rattle.std.specs.Prelude.{ℤ}
use Rattle.trips_isa.specs.declared.op.Op.{Op}
use Rattle.trips_isa.specs.declared.op.Op.TheVariants as op
use Rattle.trips_isa.specs.declared.block.Token.TheVariants.{Null, Word}
use Rattle.trips_isa.specs.declared.block.Sense.{Sense}
use Rattle.trips_isa.specs.declared.block.Sense.TheVariants.{OnTrue, OnFalse}
use Rattle.trips_isa.specs.Rule.{Answer}
use Rattle.ir_forms.specs.declared.flat.Arg.{Arg}
use Rattle.ir_forms.specs.declared.flat.Arg.TheVariants.{Const, Var}
use Rattle.ir_forms.specs.declared.hyper.Source.TheVariants as source
use Rattle.ir_forms.specs.declared.hyper.Exit.{Exit}
use Rattle.ir_forms.specs.declared.hyper.Exit.TheVariants as exit
use Rattle.ir_forms.specs.declared.flow.FlowSource.{FlowSource}
use Rattle.ir_forms.specs.declared.flow.FlowSource.TheVariants.{Read, Node}
use Rattle.ir_forms.specs.declared.flow.Guard.{Guard}
use Rattle.ir_forms.specs.declared.flow.FlowNode.{FlowNode}
use Rattle.ir_forms.specs.declared.flow.FlowBlock.{FlowBlock}
use Rattle.trips_isa.specs.inside.Acts.{Divided}
use Rattle.ir_forms.specs.inside.FlatCode.{Step, Let, Frame, Load, Save, Call, Put, Get, If, Loop, Break}
use Rattle.ir_forms.specs.inside.FlatCode.{Continue, Return, Halt, Code, Nop, ◌▹◌, Function, Program}
use Rattle.ir_forms.specs.inside.FlatViews.{stays}
use Rattle.ir_forms.specs.inside.Frames.{frame_limit, frames_at, register_of, slot_of}
use Rattle.ir_forms.specs.inside.Cells.{Checks, apply, load, save, marked}
use Rattle.ir_forms.specs.inside.FlatSteps.{Res, Gone, Broke, Again, Gave, Halts, NoRoom, Exited}
use Rattle.ir_forms.specs.inside.FlatSteps.{Unfinished, Wild}
use Rattle.ir_forms.specs.inside.FlatRuns.{first_memory, flat_run, checked, unchecked, only_tame}
use Rattle.ir_forms.specs.inside.FlatRuns.{only_clean}
use Rattle.ir_forms.specs.inside.HyperCode as hyper
use Rattle.ir_forms.specs.inside.HyperRuns.{Machine, Standing, Running, Ended, Unclean, labels_alone}
use Rattle.ir_forms.specs.inside.HyperRuns.{block_at, run}
use Rattle.ir_forms.specs.inside.FlowRuns.{AtStart, written, exits, fired, count, inst_of}

-- FLAT

-- what is seen of a run: how it ends, its value, the turns left or the rounds, and the output
abbrev value : Option ℕ → ℕ
value None = 99
value (Some v) = v

abbrev seen : Res → List ℕ
seen (Gone s m) = 1 ∷ []
seen (Broke s m) = 2 ∷ []
seen (Again s m) = 3 ∷ []
seen (Gave v s m) = 4 ∷ value v ∷ m ∷ s.output
seen (Halts (NoRoom out)) = 5 ∷ out
seen (Halts (Exited w s m)) = 8 ∷ []
seen (Unfinished out r) = 6 ∷ r ∷ out
seen Wild = 7 ∷ []

abbrev routine : ℕ → ℕ → ℕ → Code → Function
routine params scalars arrays body = record {
  params = params;
  scalars = scalars;
  arrays = arrays;
  body = body;
}

abbrev program : List Function → List ℕ → Program
program functions bytes = record { functions = functions; bytes = bytes; main = 0 }

-- a main of one scalar with an array of 8 bytes
abbrev main : Code → Program
main body = program (routine 0 1 8 body ∷ []) []

abbrev set : ℕ → ℕ → Step
set to w = Let to op.Mov (Const w) (Const 0)

abbrev give : ℕ → Step
give v = Return (Some (Var v))

abbrev twin : Checks → Program → ℕ → List ℕ
twin c P m = seen (flat_run c P (65 ∷ []) m)

-- two statements are two turns
pub two_turns : twin checked (main (set 64 7 ▹ give 64 ▹ Nop)) 2 ≡ 4 ∷ 7 ∷ 0 ∷ []
unfolding flat_run frame_limit first_memory apply load save marked
two_turns = refl

pub one_turn_is_too_few : twin checked (main (set 64 7 ▹ give 64 ▹ Nop)) 1 ≡ 6 ∷ 0 ∷ []
unfolding flat_run frame_limit first_memory apply load save marked
one_turn_is_too_few = refl

-- a call is priced at ten, and sets its parameters
abbrev calling : Program
calling = program (routine 0 1 0 (Call 1 (Const 5 ∷ [])
    (Some 64) stays ▹ give 64 ▹ Nop) ∷ routine 1 1 0 (give 0 ▹ Nop)
    ∷ []) []

pub twelve_turns : twin checked calling 12 ≡ 4 ∷ 5 ∷ 0 ∷ []
unfolding flat_run frame_limit first_memory apply load save marked
twelve_turns = refl

pub nine_pay_no_call : twin checked calling 9 ≡ 6 ∷ 0 ∷ []
unfolding flat_run frame_limit first_memory apply load save marked
nine_pay_no_call = refl

-- a variable that was not set is a breach, and else 0
pub unset_is_wild : twin checked (main (give 0 ▹ Nop)) 9 ≡ 7 ∷ []
unfolding flat_run frame_limit first_memory apply load save marked
unset_is_wild = refl

pub unset_is_zero : twin only_clean (main (give 0 ▹ Nop)) 9 ≡ 4 ∷ 0 ∷ 8 ∷ []
unfolding flat_run frame_limit first_memory apply load save marked
unset_is_zero = refl

-- a scratch variable is unset over a call, a scalar is not
abbrev over_call : ℕ → Program
over_call v =
    program (routine 0 1 0 (set v 3 ▹ Call 1 [] None stays ▹ give v ▹ Nop) ∷ routine 0 0 0
    (Return None ▹ Nop) ∷ []) []

pub scratch_is_lost : twin checked (over_call 80) 20 ≡ 7 ∷ []
unfolding flat_run frame_limit first_memory apply load save marked
scratch_is_lost = refl

pub scalar_stays : twin checked (over_call 0) 20 ≡ 4 ∷ 3 ∷ 7 ∷ []
unfolding flat_run frame_limit first_memory apply load save marked
scalar_stays = refl

-- a division by 0 faults, and else gives 0
abbrev dividing : Program
dividing = main (Let 64 op.Divs (Const 1) (Const 0) ▹ give 64 ▹ Nop)

pub division_faults : twin only_clean dividing 9 ≡ 7 ∷ []
unfolding flat_run frame_limit first_memory apply load save marked
division_faults = refl

pub division_gives_zero : twin only_tame dividing 9 ≡ 4 ∷ 0 ∷ 7 ∷ []
unfolding flat_run frame_limit first_memory apply load save marked
division_gives_zero = refl

-- an element is loaded after it was saved in this call, the most significant byte first
pub not_saved_yet : twin checked (main (Frame 64 0 ▹ Load 65 op.Ld (Var 64) ▹ give 65 ▹ Nop)) 9
    ≡ 7 ∷ []
unfolding flat_run frame_limit first_memory apply load save marked
not_saved_yet = refl

pub first_byte_is_high : twin checked (main
    (Frame 64 0 ▹ Save op.Sh (Var 64) (Const 65794) ▹ Load 65 op.Lb (Var 64) ▹
    give 65 ▹ Nop)) 9 ≡ 4 ∷ 1 ∷ 5 ∷ []
unfolding flat_run frame_limit first_memory apply load save marked
first_byte_is_high = refl

-- globals may be loaded from the start; the frames begin behind them
abbrev loading : ℕ → Program
loading at = program (routine 0 0 0 (Load 64 op.Lw (Const at) ▹ give 64 ▹ Nop) ∷ [])
    (0 ∷ 0 ∷ 1 ∷ 2 ∷ 9 ∷ [])

pub global_is_held : twin checked (loading 0) 9 ≡ 4 ∷ 258 ∷ 7 ∷ []
unfolding flat_run frame_limit first_memory apply load save marked
global_is_held = refl

pub frames_are_closed : twin checked (loading 8) 9 ≡ 7 ∷ []
unfolding flat_run frame_limit first_memory apply load save marked
frames_are_closed = refl

pub behind_the_frames : twin checked (loading 1048584) 9 ≡ 4 ∷ 0 ∷ 7 ∷ []
unfolding flat_run frame_limit first_memory apply load save marked
behind_the_frames = refl

-- for (v = 0; v < 2; v++) put v out, by a continue
abbrev counting : Program
counting = main (set 0 0 ▹ Loop (Let 64 op.Tlt (Var 0) (Const 2) ▹ If (Var 64) Nop
    (Break ▹ Nop) ▹ Put (Var 0) ▹
    Continue ▹ Nop) (Let 0 op.Add (Var 0) (Const 1) ▹ Nop) ▹ give 0 ▹ Nop)

pub loop_counts : twin checked counting 20 ≡ 4 ∷ 2 ∷ 2 ∷ 0 ∷ 1 ∷ []
unfolding flat_run frame_limit first_memory apply load save marked
loop_counts = refl

pub rounds_are_counted : twin checked counting 14 ≡ 6 ∷ 3 ∷ 0 ∷ 1 ∷ []
unfolding flat_run frame_limit first_memory apply load save marked
rounds_are_counted = refl

-- no break in the part after the body
pub no_break_in_post : twin unchecked (main (Loop Nop (Break ▹ Nop) ▹ Nop)) 9 ≡ 7 ∷ []
unfolding flat_run frame_limit first_memory apply load save marked
no_break_in_post = refl

-- the frames of main and of a function with an array take all bytes, or one word too many
abbrev deep : ℕ → Program
deep size = program (routine 0 0 0 (Call 1 [] None stays ▹ set 64 1 ▹ give 64 ▹ Nop)
    ∷ routine 0 0 size (Return None ▹ Nop) ∷ []) []

pub just_fits : twin checked (deep 1048288) 20 ≡ 4 ∷ 1 ∷ 7 ∷ []
unfolding flat_run frame_limit first_memory apply load save marked
just_fits = refl

pub too_deep : twin checked (deep 1048296) 20 ≡ 5 ∷ []
unfolding flat_run frame_limit first_memory apply load save marked
too_deep = refl

-- An end of the whole run gives its value from any depth: two calls deep, in a loop, with what was put out before.
-- Nothing behind it is done, neither there nor in the callers.
abbrev ended_deep : Arg → Program
ended_deep x = program (routine 0 0 0 (Call 1 [] (Some 64) stays ▹ Put (Const 66) ▹ set 64 1 ▹ give 64 ▹ Nop)
    ∷ routine 0 0 0 (Loop (Call 2 [] None stays ▹ Nop) Nop ▹ Nop)
    ∷ routine 0 1 8 (Put (Const 65) ▹ Halt x ▹ Put (Const 67) ▹ Nop) ∷ []) []

pub ended_in_a_call : twin checked (ended_deep (Const 7)) 30 ≡ 4 ∷ 7 ∷ 7 ∷ 65 ∷ []
unfolding flat_run frame_limit first_memory apply load save marked
ended_in_a_call = refl

-- it is a turn, as a return is
pub end_is_a_turn : twin checked (main (Halt (Const 9) ▹ Nop)) 1 ≡ twin checked (main (Return (Some (Const 9)) ▹ Nop)) 1
unfolding flat_run frame_limit first_memory apply load save marked
end_is_a_turn = refl

pub no_turn_to_end : twin checked (ended_deep (Const 7)) 22 ≡ 6 ∷ 3 ∷ 65 ∷ []
unfolding flat_run frame_limit first_memory apply load save marked
no_turn_to_end = refl

-- what it reads must be set
pub end_reads : twin checked (ended_deep (Var 0)) 30 ≡ 7 ∷ []
unfolding flat_run frame_limit first_memory apply load save marked
end_reads = refl

-- the input's byte, and -1 at its end
pub input_ends : twin checked (main (Get 64 ▹ Get 65 ▹ Let 64 op.Add (Var 64)
    (Var 65) ▹ give 64 ▹ Nop)) 9 ≡ 4 ∷ 64 ∷ 5
    ∷ []
unfolding flat_run frame_limit first_memory apply load save marked
input_ends = refl

-- registers and slots
pub last_scalar : register_of 63 ≡ 75
last_scalar = refl

pub first_temporary : register_of 64 ≡ 76
first_temporary = refl

pub first_scratch : register_of 80 ≡ 4
first_scratch = refl

pub slots_of_temporaries : slot_of 64 ≡ 8
slots_of_temporaries = refl

pub slots_of_scalars : slot_of 0 ≡ 136
slots_of_scalars = refl

pub behind_globals : frames_at (0 ∷ 0 ∷ 1 ∷ 2 ∷ 9 ∷ []) ≡ 8
behind_globals = refl

-- HYPER

abbrev block : hyper.Items → Exit → hyper.Block
block items e = record { items = items; tail = hyper.Leave e }

abbrev sets : ℕ → ℕ → hyper.Items → hyper.Items
sets r w rest = hyper.Set r op.Mov (source.Const w) (source.Const 0) rest

-- a machine with 16 bytes
abbrev small : Machine
small = record { registers = λ r. 0; memory = replicate 16 0; input = 65 ∷ []; output = [] }

abbrev runs : List hyper.Block → ℕ → Standing
runs P n = run true labels_alone P n (block_at P 0) small

-- puts out an A and ends with 7
abbrev ending : List hyper.Block
ending = block (sets 0 1 (sets 3 65 hyper.Done)) (exit.System 1)
    ∷ block (sets 0 3 (sets 3 7 hyper.Done)) (exit.System 0) ∷ []

pub still_running : runs ending 1 ≡ Running (65 ∷ [])
still_running = refl

pub ends_with_seven : runs ending 2 ≡ Ended (65 ∷ []) 7
ends_with_seven = refl

-- a call comes back to its label
abbrev there_and_back : List hyper.Block
there_and_back =
    block hyper.Done (exit.Call 2 1) ∷ block (sets 0 3 hyper.Done) (exit.System 0)
    ∷ block (sets 3 5 hyper.Done) exit.Return ∷ []

pub comes_back : runs there_and_back 3 ≡ Ended [] 5
comes_back = refl

-- a byte is taken in
pub takes_in : runs (block (sets 0 2 hyper.Done) (exit.System 1) ∷ block (sets 0 3 hyper.Done)
    (exit.System 0) ∷ []) 2
    ≡ Ended [] 65
takes_in = refl

-- a store and a load of one byte of it, in a leg
abbrev in_leg : List hyper.Block
in_leg =
    block (sets 4 1 (hyper.If (source.Reg 4)
    (hyper.Save op.Sw (source.Const 4) (source.Const 258)
    (hyper.Load 3 op.Lb (source.Const 6) hyper.Done))
    (sets 3 9 hyper.Done) (sets 0 3 hyper.Done)))
    (exit.System 0) ∷ []

pub leg_is_done : runs in_leg 1 ≡ Ended [] 1
leg_is_done = refl

-- a load that is not aligned faults, and a division by 0 does
abbrev faulting : List hyper.Block
faulting = block (hyper.Load 3 op.Lh (source.Const 1) hyper.Done) (exit.Jump 0) ∷ []

pub load_faults : runs faulting 1 ≡ Unclean
load_faults = refl

pub load_gives_zero : run false labels_alone faulting 1 (block_at faulting 0) small ≡ Running []
load_gives_zero = refl

-- FLOW

abbrev node : Op → ℤ → Option Guard → List FlowSource → List FlowSource → FlowNode
node o imm guard left right = record {
  op = o;
  imm = imm;
  number = 0;
  guard = guard;
  left = left;
  right = right;
}

abbrev under : ℕ → Sense → Option Guard
under n sense = Some (record { node = n; sense = sense })

-- if (r1 != 0) r2 = r1 / r3; and a jump to block 7
abbrev guarded : FlowBlock
guarded = record {
  nodes =
      node op.Tnei (pos 0) None (Read 1 ∷ []) []
      ∷ node op.Divu (pos 0) (under 0 OnTrue) (Read 1 ∷ []) (Read 3 ∷ [])
      ∷ node op.Null (pos 0) (under 0 OnFalse) [] []
      ∷ node op.Bro (pos 7) None [] [] ∷ [];
  reads = 1 ∷ 3 ∷ [];
  writes = record { register = 2; sources = Node 1 ∷ Node 2 ∷ [] } ∷ [];
  mask = 0;
}

abbrev regs_with : ℕ → ℕ → ℕ
regs_with one r = slice_index (0 ∷ one ∷ 9 ∷ 4 ∷ []) r

abbrev table_of : List Answer → ℕ → Answer
table_of answers j = get_or answers j None

abbrev taken : ℕ → Answer
taken = table_of (Some (Word 1) ∷ Some (Word 3) ∷ None ∷ Some (Word 0) ∷ [])

pub taken_obeys : AtStart (regs_with 12) [] taken guarded
taken_obeys = (refl, (refl, (refl, (refl, tt))))

pub taken_writes : written (regs_with 12) taken guarded.writes 2 ≡ 3
taken_writes = refl

pub taken_divides : fired (regs_with 12) taken guarded.nodes ≡ Divided 4 ∷ []
taken_divides = refl

abbrev untaken : ℕ → Answer
untaken = table_of (Some (Word 0) ∷ None ∷ Some Null ∷ Some (Word 0) ∷ [])

pub untaken_obeys : AtStart (regs_with 0) [] untaken guarded
untaken_obeys = (refl, (refl, (refl, (refl, tt))))

-- a null token leaves the register as it was
pub untaken_writes : written (regs_with 0) untaken guarded.writes 2 ≡ 9
untaken_writes = refl

pub untaken_divides_nothing : fired (regs_with 0) untaken guarded.nodes ≡ []
untaken_divides_nothing = refl

pub one_token : count (regs_with 0) untaken (Node 1 ∷ Node 2 ∷ []) ≡ 1
one_token = refl

pub one_exit : exits taken 0 guarded.nodes ≡ (inst_of (node op.Bro (pos 7) None [] []), Word 0) ∷ []
one_exit = refl
