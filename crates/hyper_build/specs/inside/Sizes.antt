-- How many blocks annotated code begins.
use Rattle.std.specs.Prelude.{ℕ, ◌+◌, Bool, cond, List}
use Rattle.ir_forms.specs.declared.flat.Arg.{Arg}
use Rattle.hyper_build.specs.inside.Tree.{Stmt, LetAt, FrameAt, LoadAt, SaveAt, CallAt, PutAt, GetAt, IfAt}
use Rattle.hyper_build.specs.inside.Tree.{LoopAt, BreakAt, ContinueAt, ReturnAt, HaltAt, Tree, End, ◌▸◌}
use Rattle.hyper_build.specs.inside.Parts.{cut_size, chain_size, moved_size}
use Rattle.hyper_build.specs.inside.Passing.{argument_moves, argument_cuts}
use Rattle.hyper_build.specs.inside.Straight.{is_item}
use Rattle.hyper_build.specs.inside.Legs.{leg_size, is_bare, post_size, is_loop_test}

-- the labels that a call needs for its arguments
abbrev pub arguments_size : Bool → List Arg → ℕ
arguments_size small args = moved_size (argument_cuts small) 0 (argument_moves 0 args)

-- of a statement
abbrev mutual
  -- a cut behind it begins a block, and its parts begin theirs
  pub size_in : Stmt → ℕ
  size_in (LetAt c to op a b) = cut_size c
  size_in (FrameAt c to at) = cut_size c
  size_in (LoadAt c to op a) = cut_size c
  size_in (SaveAt c op a v) = cut_size c
  size_in (CallAt c small f args to groups) =
      chain_size small groups + (arguments_size small args + (1 + (chain_size small groups + cut_size c)))
  size_in (PutAt v) = 1
  size_in (GetAt c to) = 1 + cut_size c
  size_in (IfAt c joined t one other) =
      cond (is_item joined one other) (cut_size c)
      (leg_size one (size one)
      + (leg_size other (size other) + 1))
  size_in (LoopAt c body post) = 1 + (turn_size body + (post_size (is_bare c body post) (size post) + 1))
  size_in (BreakAt c) = cut_size c
  size_in (ContinueAt c) = cut_size c
  size_in (ReturnAt c v) = cut_size c
  size_in (HaltAt c v) = cut_size c

  -- of code
  pub size : Tree → ℕ
  size End = 0
  size (s ▸ rest) = size_in s + size rest

  -- of a loop's test, whose leg goes on in its block
  pub test_size : Stmt → ℕ
  test_size (IfAt c joined t one other) = size one + cut_size c
  test_size _ = 0

  -- of a loop's body
  pub turn_size : Tree → ℕ
  turn_size End = 0
  turn_size (s ▸ rest) = cond (is_loop_test s rest) (test_size s) (size_in s) + turn_size rest

-- of a statement of a loop's body, by whether it is the test
abbrev pub part_size : Bool → Stmt → ℕ
part_size test s = cond test (test_size s) (size_in s)
