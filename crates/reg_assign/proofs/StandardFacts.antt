-- Worked rows: what must be kept over the calls of small programs, and what its loss does.
use Rattle.std.proofs.Common.{◌≡◌, ℕ, List, [], ◌∷◌, Option, Some, None, refl}
use Rattle.trips_isa.specs.declared.op.Op.TheVariants as op
use Rattle.ir_forms.specs.declared.flat.Arg.TheVariants.{Const, Var}
use Rattle.ir_forms.specs.inside.FlatCode.{Step, Let, Call, Put, If, Loop, Break, Continue, Return, Code}
use Rattle.ir_forms.specs.inside.FlatCode.{Halt, Nop, ◌▹◌, only, Function, Program}
use Rattle.ir_forms.specs.inside.FlatViews.{stays}
use Rattle.ir_forms.specs.inside.Frames.{frame_limit}
use Rattle.ir_forms.specs.inside.Cells.{apply, load, save, marked}
use Rattle.ir_forms.specs.inside.FlatSteps.{Res, Gave, Wild}
use Rattle.ir_forms.specs.inside.FlatRuns.{first_memory, flat_run, checked}
use Rattle.reg_assign.specs.inside.Live.{members, live_lists, groups_of}
use Rattle.reg_assign.specs.inside.Keeps.{assigned_program}

abbrev routine : Code → Function
routine body = record { params = 0; scalars = 8; arrays = 0; body = body }

abbrev program : List Function → Program
program functions = record { functions = functions; bytes = []; main = 0 }

-- the lists of a main
abbrev lists : Code → List (List ℕ)
lists body = live_lists (program (routine body ∷ []))

-- a call of the function behind main
abbrev call : ℕ → Step
call to = Call 1 [] (Some to) stays

abbrev set : ℕ → Step
set to = Let to op.Mov (Const 7) (Const 0)

abbrev give : ℕ → Step
give v = Return (Some (Var v))

-- what a call sets is not kept over it
pub result_is_not_kept : lists (call 0 ▹ give 0 ▹ Nop) ≡ [] ∷ []
unfolding members
result_is_not_kept = refl

-- what is read behind a call is kept over it, and what is not read is not
pub first_is_kept :
    lists (call 0 ▹ call 1 ▹ set 2 ▹ Let 3 op.Add (Var 0) (Var 1) ▹ give 3 ▹ Nop)
    ≡ [] ∷ (0 ∷ []) ∷ []
unfolding members
first_is_kept = refl

-- an argument is read before the call
pub argument_is_not_kept : lists (set 5 ▹ Call 1 (Var 5 ∷ []) None stays ▹ Nop) ≡ [] ∷ []
unfolding members
argument_is_not_kept = refl

-- what is set before it is read is not kept
pub set_again : lists (set 5 ▹ call 0 ▹ set 5 ▹ give 5 ▹ Nop) ≡ [] ∷ []
unfolding members
set_again = refl

-- temporaries as scalars, in increasing order; scratch variables never
pub temporaries : lists
    (call 80 ▹ Let 64 op.Add (Var 79) (Var 80) ▹ Let 64 op.Add (Var 64) (Var 3) ▹ give 64 ▹ Nop)
    ≡ (3 ∷ 79 ∷ []) ∷ []
unfolding members
temporaries = refl

-- what a loop reads before a call is read again in its next turn
abbrev turn : Code → Code → Code
turn body post = Loop body post ▹ give 5 ▹ Nop

pub next_turn : lists (turn (If (Var 0) Nop (only Break) ▹ call 64 ▹ Nop) (only (set 1)))
    ≡ (0 ∷ 5 ∷ []) ∷ []
unfolding members
next_turn = refl

-- a continue leads to the part behind the body, a break behind the loop, a return nowhere
pub part_behind : lists (turn (call 64 ▹ Continue ▹ Nop) (only (Put (Var 2)))) ≡ (2 ∷ 5 ∷ []) ∷ []
unfolding members
part_behind = refl

pub leaving : lists (turn (call 64 ▹ Break ▹ Nop) (only (Put (Var 2)))) ≡ (5 ∷ []) ∷ []
unfolding members
leaving = refl

pub returning : lists (turn (call 64 ▹ give 64 ▹ Nop) (only (Put (Var 2)))) ≡ [] ∷ []
unfolding members
returning = refl

-- behind the end of the whole run nothing is live but what the end reads, and before it what it reads is
pub ending_the_run : lists (turn (call 64 ▹ Halt (Var 3) ▹ Put (Var 2) ▹ Nop) (only (Put (Var 2)))) ≡ (3 ∷ []) ∷ []
unfolding members
ending_the_run = refl

-- the functions in their order, and in each the calls in theirs
pub in_order : live_lists (program
    (routine (If (Var 0) (call 1 ▹ give 2 ▹ Nop) (call 1 ▹ give 3 ▹ Nop) ▹ Nop)
    ∷ routine (call 0 ▹ give 4 ▹ Nop) ∷ []))
    ≡ (2 ∷ []) ∷ (3 ∷ []) ∷ (4 ∷ []) ∷ []
unfolding members
in_order = refl

-- groups of at most 16
pub two_groups :
    groups_of (0 ∷ 1 ∷ 2 ∷ 3 ∷ 4 ∷ 5 ∷ 6 ∷ 7 ∷ 8 ∷ 9 ∷ 10 ∷ 11 ∷ 12 ∷ 13 ∷ 14 ∷ 15 ∷ 70 ∷ [])
    ≡ (0 ∷ 1 ∷ 2 ∷ 3 ∷ 4 ∷ 5 ∷ 6 ∷ 7 ∷ 8 ∷ 9 ∷ 10 ∷ 11 ∷ 12 ∷ 13 ∷ 14 ∷ 15 ∷ []) ∷ (70 ∷ []) ∷ []
two_groups = refl

pub no_groups : groups_of [] ≡ []
no_groups = refl

-- what is seen of a run: how it ends, and its value
abbrev value : Option ℕ → ℕ
value None = 99
value (Some v) = v

abbrev ending : Res → List ℕ
ending (Gave v s m) = 4 ∷ value v ∷ []
ending Wild = 7 ∷ []
ending _ = []

-- a main that reads behind a call what it set before it
abbrev across : Program
across = program (routine (set 0 ▹ call 1 ▹ give 0 ▹ Nop) ∷ routine (set 0 ▹ give 0 ▹ Nop) ∷ [])

pub kept_it_is_there : ending (flat_run checked (assigned_program across ((0 ∷ []) ∷ [])) [] 40)
    ≡ 4 ∷ 7 ∷ []
unfolding flat_run frame_limit first_memory apply load save marked
kept_it_is_there = refl

-- where it is not kept it is lost
pub lost_it_is_wild : ending (flat_run checked (assigned_program across ([] ∷ [])) [] 40) ≡ 7 ∷ []
unfolding flat_run frame_limit first_memory apply load save marked
lost_it_is_wild = refl
