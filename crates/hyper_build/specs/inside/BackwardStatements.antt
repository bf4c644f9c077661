-- What emission does before a single statement and before a call.
use Rattle.std.specs.Prelude.{ℕ, suc, ◌-◌, Bool, List, [], ◌∷◌, Option}
use Rattle.trips_isa.specs.declared.op.Op.{Op}
use Rattle.trips_isa.specs.declared.op.Op.TheVariants.{Mov, Sub}
use Rattle.ir_forms.specs.declared.flat.Arg.{Arg}
use Rattle.ir_forms.specs.declared.hyper.Source.TheVariants.{Const, Reg}
use Rattle.ir_forms.specs.declared.hyper.Exit.{Exit}
use Rattle.ir_forms.specs.declared.hyper.Exit.TheVariants as exit
use Rattle.ir_forms.specs.inside.Frames.{register_of, argument_register}
use Rattle.ir_forms.specs.inside.HyperCode.{Done, Set, Leave, Block}
use Rattle.hyper_build.specs.inside.Tree.{Plan}
use Rattle.hyper_build.specs.inside.Parts.{source, capped, set_then, load_then, save_then, Move}
use Rattle.hyper_build.specs.inside.Passing.{saving, restoring, argument_moves, argument_cuts, result_then}
use Rattle.hyper_build.specs.inside.Entries.{call_block}
use Rattle.hyper_build.specs.inside.Backward.{Emission, with_rest, put_out, cut_at, fall, fall_call, before}
use Rattle.hyper_build.specs.inside.Backward.{setting}

-- SINGLE STATEMENTS

-- a variable becomes what an operation gives
abbrev pub let_out : Plan → ℕ → Op → Arg → Arg → Emission → Emission
let_out plan to op a b s =
    with_rest (set_then (register_of to) op (source a) (source b) (before plan s).rest) (before plan s)

-- a variable becomes the address of a byte of the arrays
abbrev pub frame_out : Plan → ℕ → ℕ → ℕ → Emission → Emission
frame_out plan arrays to at s =
    with_rest (set_then (register_of to) Sub (Reg 1) (Const (capped (arrays - at))) (before plan s).rest)
    (before plan s)

-- a variable becomes what a load gives
abbrev pub load_out : Plan → ℕ → Op → Arg → Emission → Emission
load_out plan to op a s =
    with_rest (load_then (register_of to) op (source a) (before plan s).rest) (before plan s)

-- a store
abbrev pub save_out : Plan → Op → Arg → Arg → Emission → Emission
save_out plan op a v s =
    with_rest (save_then op (source a) (source v) (before plan s).rest) (before plan s)

-- a block's end alone
abbrev pub left_by : Exit → Block
left_by e = record { items = Done; tail = Leave e }

-- the end of a block that puts out a byte and goes on at a label
abbrev pub put_byte : Arg → ℕ → Block
put_byte v l = record {
  items = Set 0 Mov (Const 1) (Const 0) (Set 3 Mov (source v) (Const 0) Done);
  tail = Leave (exit.System l);
}

-- the end of a block that takes in a byte and goes on at a label
abbrev pub get_byte : ℕ → Block
get_byte l = record { items = Set 0 Mov (Const 2) (Const 0) Done; tail = Leave (exit.System l) }

-- a byte is put out
abbrev pub byte_out : Arg → Emission → Emission
byte_out v s = with_rest (put_byte v (put_out (fall s)).label) (put_out (fall s))

-- a byte that was taken in comes from register 3
abbrev pub got : Plan → ℕ → Emission → Emission
got plan to s = put_out (setting (register_of to) (before plan s) (Reg 3))

-- a byte is taken in
abbrev pub byte_in : Plan → ℕ → Emission → Emission
byte_in plan to s = with_rest (get_byte (got plan to s).label) (got plan to s)

-- where nothing behind is reached
abbrev pub leaving : Block → Emission → Emission
leaving k s = with_rest k (fall s)

-- CALLS

-- a part of a chain, behind which the block ends, or does not
abbrev pub parted : Bool → (Block → Block) → Emission → Emission
parted c part s = with_rest (part (cut_at c s).rest) (cut_at c s)

-- groups of variables, behind each of which the block ends, or does not
abbrev pub chained : Bool → (List ℕ → Block → Block) → List (List ℕ) → Emission → Emission
chained c part [] s = s
chained c part (g ∷ gs) s = parted c (part g) (chained c part gs s)

-- Moves from number i on; behind those that `cuts` tells a block ends.
abbrev pub moving : (ℕ → Bool) → ℕ → List Move → Emission → Emission
moving cuts i [] s = s
moving cuts i (x ∷ xs) s = setting x.to (cut_at (cuts i) (moving cuts (suc i) xs s)) x.from

-- argument i goes to its register
abbrev pub argument_out : Bool → ℕ → Arg → Emission → Emission
argument_out small i a s =
    setting (argument_register i) (cut_at (argument_cuts small i) s) (source a)

-- the block that a call comes back to
abbrev pub back_out : Plan → ℕ → Option ℕ → Emission → Emission
back_out plan frame to s =
    let t = before plan (fall_call s) in
    put_out (chained (plan.small t.place) (restoring frame) (plan.groups t.calls)
    (with_rest (result_then to t.rest) t))

-- and the call, from the state at the block that it comes back to
abbrev pub call_out : Plan → ℕ → ℕ → List Arg → Emission → Emission
call_out plan frame entry args t =
    chained (plan.small t.place) (saving frame) (plan.groups t.calls)
    (moving (argument_cuts (plan.small t.place)) 0 (argument_moves 0 args)
    (with_rest (call_block entry t.label) t))
