-- The rest of a block that goes on with annotated code.
use Rattle.std.specs.Prelude.{ℕ, ◌+◌, ◌-◌, Bool, true, false, cond, ◌||◌, not, List, map, Option, Some, None}
use Rattle.trips_isa.specs.declared.op.Op.TheVariants.{Mov, Sub}
use Rattle.ir_forms.specs.declared.flat.Arg.{Arg}
use Rattle.ir_forms.specs.declared.hyper.Source.TheVariants.{Const, Reg}
use Rattle.ir_forms.specs.declared.hyper.Exit.TheVariants as exit
use Rattle.ir_forms.specs.inside.Frames.{register_of}
use Rattle.ir_forms.specs.inside.HyperCode.{Done, Set, If, Leave, Test, Block}
use Rattle.ir_forms.specs.inside.HyperRuns.{jump}
use Rattle.hyper_build.specs.inside.Tree.{Stmt, LetAt, FrameAt, LoadAt, SaveAt, CallAt, PutAt, GetAt, IfAt}
use Rattle.hyper_build.specs.inside.Tree.{LoopAt, BreakAt, ContinueAt, ReturnAt, HaltAt, Tree, End, ◌▸◌}
use Rattle.hyper_build.specs.inside.Parts.{source, capped, set_then, load_then, save_then, cut, chain}
use Rattle.hyper_build.specs.inside.Parts.{chain_size, moved}
use Rattle.hyper_build.specs.inside.Passing.{saving, restoring, argument_moves, argument_cuts}
use Rattle.hyper_build.specs.inside.Straight.{Place, straight, items_of, is_item}
use Rattle.hyper_build.specs.inside.Legs.{exit_leg, label_or, leg_size, is_loop_test}
use Rattle.hyper_build.specs.inside.Sizes.{arguments_size, size_in, size, part_size}
use Rattle.hyper_build.specs.inside.Merging.{merged, test_register}

-- CALLS

-- a call leaves its block: register 2 gets the address of `back`
abbrev pub call_block : ℕ → ℕ → Block
call_block to back = record { items = Done; tail = Leave (exit.Call to back) }

-- the saves, and then the arguments, where blocks stand from label l on; a small call has a block for each group
abbrev pub call_entry : Place → Bool → ℕ → List Arg → List (List ℕ) → ℕ → Block
call_entry p small f args groups l =
    chain small (map (saving p.frame) groups) l
    (moved (argument_cuts small) 0 (argument_moves 0 args) (l + chain_size small groups)
    (call_block (p.entries f) (l + chain_size small groups + arguments_size small args)))

-- the block that a call comes back to: the restores, and then the rest
abbrev pub back_block : Place → Bool → List (List ℕ) → ℕ → Block → Block
back_block p small groups l k = chain small (map (restoring p.frame) groups) l k

-- RETURNS

-- the block that main comes back to, which ends the run with its result
abbrev pub end_label : ℕ
end_label = 1

-- a value goes to register 3
abbrev pub give : Option Arg → Block → Block
give None k = k
give (Some a) k = set_then 3 Mov (source a) (Const 0) k

-- LOOPS

-- What the body goes on with: the part behind it, in a block of its own or, where that is items
-- alone, in the same one.
abbrev pub body_end : Place → Bool → Tree → ℕ → ℕ → Block
body_end p c post l head =
    cond (c || not (straight post)) (jump l)
    (record { items = items_of p post Done; tail = Leave (exit.Jump head) })

-- an if: a test, or an item where it is joined
abbrev pub choose : Bool → Block → Block → Block
choose true item test = item
choose false item test = test

-- The rest of a block that does a statement and then k, where the blocks that the statement begins
-- stand from label l on.
abbrev mutual
  -- of one statement
  pub entry_in : Place → Stmt → ℕ → Block → Block
  entry_in p (LetAt c to op a b) l k =
      set_then (register_of to) op (source a) (source b) (cut c l k)
  entry_in p (FrameAt c to at) l k =
      set_then (register_of to) Sub (Reg 1) (Const (capped (p.arrays - at))) (cut c l k)
  entry_in p (LoadAt c to op a) l k = load_then (register_of to) op (source a) (cut c l k)
  entry_in p (SaveAt c op a v) l k = save_then op (source a) (source v) (cut c l k)
  entry_in p (CallAt c small f args to groups) l k = call_entry p small f args groups l
  entry_in p (PutAt v) l k = record {
    items = Set 0 Mov (Const 1) (Const 0) (Set 3 Mov (source v) (Const 0) Done);
    tail = Leave (exit.System l);
  }
  entry_in p (GetAt c to) l k =
      record { items = Set 0 Mov (Const 2) (Const 0) Done; tail = Leave (exit.System l) }
  entry_in p (IfAt c joined t one other) l k =
      let l1 = l + leg_size one (size one) in
      let join = l1 + leg_size other (size other) in
      let rest = cut c l k in
      choose (is_item joined one other)
      (record {
        items = If (source t) (items_of p one Done) (items_of p other Done) rest.items;
        tail = rest.tail;
      })
      (record {
        items = Done;
        tail = Test (source t) (Leave (exit.Jump (label_or l (exit_leg p join one))))
            (Leave (exit.Jump (label_or l1 (exit_leg p join other))));
      })
  entry_in p (LoopAt c body post) l k = jump l
  entry_in p (BreakAt c) l k = jump p.broke
  entry_in p (ContinueAt c) l k = jump p.again
  entry_in p (ReturnAt c v) l k = give v p.gave
  entry_in p (HaltAt c v) l k = give (Some v) (jump end_label)

  -- of code: each statement goes on with the next, and the last with k
  pub entry : Place → Tree → ℕ → Block → Block
  entry p End l k = k
  entry p (s ▸ rest) l k = entry_in p s l (entry p rest (l + size_in s) k)

-- The rest of a block that does a loop's test and, where it holds, its leg and then k; else the loop is left.
abbrev pub test_entry : Place → Stmt → ℕ → Block → Block
test_entry p (IfAt c joined t one other) l k =
    merged test_register (source t) (entry p one l (cut c (l + size one) k)) (jump p.broke)
test_entry p _ l k = k

-- and that does a statement of a loop's body, by whether it is the test
abbrev pub part_entry : Bool → Place → Stmt → ℕ → Block → Block
part_entry test p s l k = choose test (test_entry p s l k) (entry_in p s l k)

-- and that does a loop's body
abbrev pub turn_entry : Place → Tree → ℕ → Block → Block
turn_entry p End l k = k
turn_entry p (s ▸ rest) l k =
    part_entry (is_loop_test s rest) p s l
    (turn_entry p rest (l + part_size (is_loop_test s rest) s) k)
