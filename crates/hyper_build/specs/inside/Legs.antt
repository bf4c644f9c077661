-- Legs of ifs and last parts of loops that have no block of their own, and where they lead.
use Rattle.std.specs.Prelude.{ℕ, ◌+◌, Bool, true, false, ◌&&◌, ◌||◌, not, List, [], ◌∷◌, Option, Some, None}
use Rattle.ir_forms.specs.inside.FlatCode.{Step, Let, Frame, Load, Save, If, Continue, Code, Nop, ◌▹◌}
use Rattle.ir_forms.specs.inside.HyperCode.{Block}
use Rattle.hyper_build.specs.inside.Tree.{Stmt, IfAt, BreakAt, ContinueAt, Tree, End, ◌▸◌, plain}
use Rattle.hyper_build.specs.inside.Straight.{Place}

-- LEGS

-- where a leg that has no block of its own leads
abbrev pub exit_leg : Place → ℕ → Tree → Option ℕ
exit_leg p join End = Some join
exit_leg p join (BreakAt c ▸ End) = Some p.broke
exit_leg p join (ContinueAt c ▸ End) = Some p.again
exit_leg p join _ = None

-- the label that a leg leads to: its exit, or, where it has blocks, that of its first
abbrev pub label_or : ℕ → Option ℕ → ℕ
label_or l None = l
label_or l (Some exit) = exit

-- a leg's blocks: none, or its first and the others
abbrev pub leg_blocks : Option ℕ → Block → List Block → List Block
leg_blocks None first others = first ∷ others
leg_blocks (Some exit) first others = []

-- how many blocks a leg has, which begins `others` behind its first
abbrev pub leg_size : Tree → ℕ → ℕ
leg_size End others = 0
leg_size (BreakAt c ▸ End) others = 0
leg_size (ContinueAt c ▸ End) others = 0
leg_size _ others = 1 + others

-- LOOPS

-- a break alone
abbrev pub is_break : Tree → Bool
is_break (BreakAt c ▸ End) = true
is_break _ = false

-- no statement
abbrev pub is_end : Tree → Bool
is_end End = true
is_end (s ▸ rest) = false

-- whether a statement is an operation
abbrev pub is_operation : Step → Bool
is_operation (Let to op a b) = true
is_operation (Frame to at) = true
is_operation (Load to op a) = true
is_operation (Save op a v) = true
is_operation _ = false

-- whether code is operations alone, and has no if
abbrev pub are_operations : Code → Bool
are_operations Nop = true
are_operations (s ▹ rest) = is_operation s && are_operations rest

-- whether a continue of code leads to the last part of the loop whose body the code is
abbrev mutual
  -- a continue in a leg of an if counts; one in a loop inside leads to that loop
  pub continues_in : Step → Bool
  continues_in (If x one other) = continues one || continues other
  continues_in Continue = true
  continues_in _ = false

  -- any statement of the code does
  pub continues : Code → Bool
  continues Nop = false
  continues (s ▹ rest) = continues_in s || continues rest

-- Whether a loop's last part has no block of its own: it does nothing, or the body's block goes on with its
-- operations and nothing else leads to it.
abbrev pub is_bare : Bool → Tree → Tree → Bool
is_bare c body post = is_end post || (not c && (are_operations (plain post) && not (continues (plain body))))

-- where a loop goes on whose last part has no block of its own: at its head
abbrev pub post_exit : Bool → ℕ → Option ℕ
post_exit true head = Some head
post_exit false head = None

-- how many blocks a loop's last part has, which begins `others` behind its first
abbrev pub post_size : Bool → ℕ → ℕ
post_size true others = 0
post_size false others = 1 + others

-- an if that is joined and whose second leg is a break alone
abbrev pub is_test : Stmt → Bool
is_test (IfAt c joined t one other) = joined && is_break other
is_test _ = false

-- the test of a loop: such an if, the last statement of the body
abbrev pub is_loop_test : Stmt → Tree → Bool
is_loop_test s rest = is_end rest && is_test s
