-- The blocks of annotated code. They are numbered forward: those that a statement begins stand from
-- a label on, those of the next statement behind them.
use Rattle.std.specs.Prelude.{ℕ, ◌+◌, cond, List, [], ◌∷◌, ◌++◌, map}
use Rattle.trips_isa.specs.declared.op.Op.TheVariants.{Mov}
use Rattle.ir_forms.specs.declared.hyper.Source.TheVariants.{Const, Reg}
use Rattle.ir_forms.specs.inside.Frames.{register_of}
use Rattle.ir_forms.specs.inside.HyperCode.{Block}
use Rattle.ir_forms.specs.inside.HyperRuns.{jump}
use Rattle.hyper_build.specs.inside.Tree.{Stmt, LetAt, FrameAt, LoadAt, SaveAt, CallAt, PutAt, GetAt, IfAt}
use Rattle.hyper_build.specs.inside.Tree.{LoopAt, BreakAt, ContinueAt, ReturnAt, HaltAt, Tree, End, ◌▸◌}
use Rattle.hyper_build.specs.inside.Parts.{set_then, cut, cut_blocks, chain_blocks, chain_size, moved, moved_blocks}
use Rattle.hyper_build.specs.inside.Passing.{saving, restoring, argument_moves, argument_cuts, result_then}
use Rattle.hyper_build.specs.inside.Straight.{Place, in_loop, is_item}
use Rattle.hyper_build.specs.inside.Legs.{exit_leg, label_or, leg_blocks, leg_size, is_bare, post_exit, post_size}
use Rattle.hyper_build.specs.inside.Legs.{is_loop_test}
use Rattle.hyper_build.specs.inside.Sizes.{arguments_size, size_in, size, turn_size, part_size}
use Rattle.hyper_build.specs.inside.Entries.{call_block, back_block, body_end, entry, turn_entry}

-- The blocks that a statement begins, from label l on.
abbrev mutual
  -- of one statement, before the rest k, beside the rest of the block in which it stands
  pub blocks_in : Place → Stmt → ℕ → Block → List Block
  blocks_in p (LetAt c to op a b) l k = cut_blocks c k
  blocks_in p (FrameAt c to at) l k = cut_blocks c k
  blocks_in p (LoadAt c to op a) l k = cut_blocks c k
  blocks_in p (SaveAt c op a v) l k = cut_blocks c k
  blocks_in p (CallAt c small f args to groups) l k =
      let n = chain_size small groups in
      let a = arguments_size small args in
      let back = l + n + a in
      let last = result_then to (cut c (back + 1 + n) k) in
      let moves = argument_moves 0 args in
      let call = call_block (p.entries f) back in
      chain_blocks small (map (saving p.frame) groups) l
      (moved (argument_cuts small) 0 moves (l + n) call)
      ++ (moved_blocks (argument_cuts small) 0 moves (l + n) call
      ++ (back_block p small groups (back + 1) last
      ∷ (chain_blocks small (map (restoring p.frame) groups) (back + 1) last ++ cut_blocks c k)))
  blocks_in p (PutAt v) l k = k ∷ []
  blocks_in p (GetAt c to) l k =
      set_then (register_of to) Mov (Reg 3) (Const 0) (cut c (l + 1) k) ∷ cut_blocks c k
  blocks_in p (IfAt c joined t one other) l k =
      let l1 = l + leg_size one (size one) in
      let join = l1 + leg_size other (size other) in
      cond (is_item joined one other) (cut_blocks c k)
      (leg_blocks (exit_leg p join one) (entry p one (l + 1) (jump join))
      (blocks p one (l + 1) (jump join))
      ++ (leg_blocks (exit_leg p join other) (entry p other (l1 + 1) (jump join))
      (blocks p other (l1 + 1) (jump join)) ++ k ∷ []))
  blocks_in p (LoopAt c body post) l k =
      let next = l + 1 + turn_size body in
      let bare = is_bare c body post in
      let out = post_exit bare l in
      let again = label_or next out in
      let q = in_loop p (next + post_size bare (size post)) again in
      let after = body_end q c post again l in
      turn_entry q body (l + 1) after
      ∷ (turn_blocks q body (l + 1) after
      ++ (leg_blocks out (entry q post (next + 1) (jump l)) (blocks q post (next + 1) (jump l)) ++ k ∷ []))
  blocks_in p (BreakAt c) l k = cut_blocks c k
  blocks_in p (ContinueAt c) l k = cut_blocks c k
  blocks_in p (ReturnAt c v) l k = cut_blocks c k
  blocks_in p (HaltAt c v) l k = cut_blocks c k

  -- of code, those of its first statement in front
  pub blocks : Place → Tree → ℕ → Block → List Block
  blocks p End l k = []
  blocks p (s ▸ rest) l k =
      blocks_in p s l (entry p rest (l + size_in s) k) ++ blocks p rest (l + size_in s) k

  -- of a loop's test
  pub test_blocks : Place → Stmt → ℕ → Block → List Block
  test_blocks p (IfAt c joined t one other) l k =
      blocks p one l (cut c (l + size one) k) ++ cut_blocks c k
  test_blocks p _ l k = []

  -- of a loop's body
  pub turn_blocks : Place → Tree → ℕ → Block → List Block
  turn_blocks p End l k = []
  turn_blocks p (s ▸ rest) l k =
      let l1 = l + part_size (is_loop_test s rest) s in
      let k1 = turn_entry p rest l1 k in
      cond (is_loop_test s rest) (test_blocks p s l k1) (blocks_in p s l k1) ++ turn_blocks p rest l1 k
