-- The flat code of expressions. The code of an expression at depth d puts its value into temporary
-- d and changes no lower temporary; arguments go into temporaries d, d + 1 and on.
use Rattle.std.specs.Prelude.{ℕ, suc, ◌+◌, Bool, true, false, cond, List, [], ◌∷◌, Option, Some}
use Rattle.std.specs.Prelude.{None, slice_get}
use Rattle.flat_lower.specs.inside.Tree.{RowElement}
use Rattle.c_tree.specs.declared.Kind.{Kind}
use Rattle.c_tree.specs.declared.UnaryOp.{UnaryOp}
use Rattle.c_tree.specs.declared.BumpOp.{BumpOp}
use Rattle.c_tree.specs.declared.BinaryOp.{BinaryOp}
use Rattle.c_tree.specs.declared.BinaryOp.TheVariants.{LogicalOr, LogicalAnd}
use Rattle.c_tree.specs.declared.Place.{Place}
use Rattle.c_tree.specs.declared.Place.TheVariants.{Global, Scalar, Array}
use Rattle.c_tree.specs.declared.Callee.{Callee}
use Rattle.c_tree.specs.declared.Callee.TheVariants.{Func, GetChar, PutChar, Exit}
use Rattle.c_meaning_spec.specs.Task.{is_array}
use Rattle.trips_isa.specs.declared.op.Op.TheVariants as op
use Rattle.ir_forms.specs.declared.flat.Arg.{Arg}
use Rattle.ir_forms.specs.declared.flat.Arg.TheVariants.{Const, Var}
use Rattle.ir_forms.specs.inside.FlatCode.{Code, Nop, Then, only, Let, Load, Save, Put, Get, If}
use Rattle.ir_forms.specs.inside.FlatCode as flat
use Rattle.ir_forms.specs.inside.FlatViews.{stays}
use Rattle.flat_lower.specs.declared.powers.Power.{Power}
use Rattle.flat_lower.specs.inside.Tree.{Expr, Number, Name, Element, Call, Unary, Cast, Convert, Bump}
use Rattle.flat_lower.specs.inside.Tree.{Binary, Choice, Assign, Comma, Exprs, NoExprs, WithExpr, kind_of}
use Rattle.flat_lower.specs.inside.Operations.{temp, scratch, set_word, copied, converted_to}
use Rattle.flat_lower.specs.inside.Operations.{converted_here, binary_code, unary_code, bumped, is_before}
use Rattle.flat_lower.specs.inside.Operations.{load_op, save_op}
use Rattle.flat_lower.specs.inside.Powers.{exponent_of, immediate_for, immediate_code, scaled_by}
use Rattle.flat_lower.specs.inside.Objects.{Context, global_at, address_code, whole_code, row_of}

-- where a kind is known
abbrev pub with_kind : Option Kind → (Kind → Code) → Code
with_kind None f = Nop
with_kind (Some k) f = f k

-- NAMES

-- the value of a global: an array's is its address
abbrev pub global_code : Context → Bool → ℕ → ℕ → Kind → Code
global_code c true g to k = whole_code c (Global g) to
global_code c false g to k = only (Load to (load_op k) (Const (global_at c.globals g)))

-- a scalar's value, or the address that an array's name stands for
abbrev pub name_code : Context → Place → ℕ → Kind → Code
name_code c (Global g) to k = global_code c (is_array (slice_get c.globals g)) g to k
name_code c (Scalar i) to k = copied to i
name_code c (Array a) to k = whole_code c (Array a) to

-- the index in temporary d of the first element of a row, and the index in the next temporary of the row,
-- make an index among all elements
abbrev pub joined_by : Option ℕ → ℕ → Code
joined_by None d = Nop
joined_by (Some q) d =
    Then (scaled_by (exponent_of q) q (temp d))
    (only (Let (temp d) op.Add (Var (temp d)) (Var (temp (suc d)))))

-- the code of two indexes of an array, by that of each
abbrev pub joined_code : Context → Place → ℕ → Code → Code → Code
joined_code c p d row index = Then row (Then index (joined_by (row_of c p) d))

-- the element whose index stands in temporary d
abbrev pub element_code : Context → Place → ℕ → Kind → Code
element_code c p d k =
    Then (address_code c p k (temp d) (temp d)) (only (Load (temp d) (load_op k) (Var (temp d))))

-- BUMPS

-- the new value goes where it is read from
abbrev pub bump_scalar : BumpOp → Bool → ℕ → ℕ → Kind → Code
bump_scalar o true i d k = Then (bumped o k i i) (copied (temp d) i)
bump_scalar o false i d k = Then (copied (temp d) i) (bumped o k i i)

-- what stands at an address, which no step here changes
abbrev pub bump_memory : BumpOp → Bool → Arg → ℕ → Kind → Code
bump_memory o true at d k =
    Then (only (Load (temp d) (load_op k) at))
    (Then (bumped o k (temp d) (temp d)) (only (Save (save_op k) at (Var (temp d)))))
bump_memory o false at d k =
    Then (only (Load (temp d) (load_op k) at))
    (Then (bumped o k (scratch 1) (temp d)) (only (Save (save_op k) at (Var (scratch 1)))))

-- ++ and -- on a name
abbrev pub bump_name : Context → BumpOp → Place → ℕ → Kind → Code
bump_name c o (Global g) d k = bump_memory o (is_before o) (Const (global_at c.globals g)) d k
bump_name c o (Scalar i) d k = bump_scalar o (is_before o) i d k
bump_name c o (Array a) d k = Nop

-- ++ and -- on an element, whose address is in a temporary
abbrev pub bump_element : Context → BumpOp → Place → ℕ → Kind → Code
bump_element c o p d k =
    Then (address_code c p k (scratch 0) (temp d))
    (bump_memory o (is_before o) (Var (scratch 0)) d k)

-- behind the index, where there is one
abbrev pub bump_code : Context → BumpOp → ℕ → Expr → Kind → Code
bump_code c o d (Name j p) k = bump_name c o p d k
bump_code c o d (Element j p index) k = bump_element c o p d k
bump_code c o d (RowElement j p row index) k = bump_element c o p d k
bump_code c o d _ k = Nop

-- ASSIGNMENTS

-- to a name: `=` takes the value in temporary d
abbrev pub assign_name : Context → Place → ℕ → Kind → Code
assign_name c (Global g) d k = only (Save (save_op k) (Const (global_at c.globals g))
    (Var (temp d)))
assign_name c (Scalar i) d k = copied i (temp d)
assign_name c (Array a) d k = Nop

-- the old value of a name, converted to the type of the operation, in temporary d
abbrev pub old_name : Context → Place → ℕ → Kind → Kind → Code
old_name c (Global g) d at k =
    Then (only (Load (temp d) (load_op k) (Const (global_at c.globals g))))
    (converted_here (Some k) at (temp d))
old_name c (Scalar i) d at k = converted_to (Some k) at (temp d) i
old_name c (Array a) d at k = Nop

-- the operation on temporaries d and y, and the result's conversion to the left side's type
abbrev pub compound_code : BinaryOp → ℕ → ℕ → Kind → Kind → Code
compound_code o d y at k =
    Then (binary_code o at (temp d) (temp y)) (converted_here (Some at) k (temp d))

-- to an element: the address stands in temporary d + 1, the old value in temporary d
abbrev pub old_element : Context → Place → ℕ → Kind → Kind → Code
old_element c p d at k =
    Then (address_code c p k (temp (suc d)) (temp d))
    (Then (only (Load (temp d) (load_op k) (Var (temp (suc d)))))
    (converted_here (Some k) at (temp d)))

-- the address in temporary d, the value in temporary d + 1
abbrev pub assign_element : ℕ → Kind → Code
assign_element d k =
    Then (only (Save (save_op k) (Var (temp d)) (Var (temp (suc d)))))
    (copied (temp d) (temp (suc d)))

-- before the right side: what follows the index, where there is one
abbrev pub before_right : Context → Option BinaryOp → Kind → ℕ → Expr → Kind → Code
before_right c None at d (Element j p index) k = address_code c p k (temp d) (temp d)
before_right c None at d (RowElement j p row index) k = address_code c p k (temp d) (temp d)
before_right c (Some o) at d (Element j p index) k = old_element c p d at k
before_right c (Some o) at d (RowElement j p row index) k = old_element c p d at k
before_right c (Some o) at d (Name j p) k = old_name c p d at k
before_right c o at d _ k = Nop

-- the temporary of the right side
abbrev pub right_at : Option BinaryOp → ℕ → Expr → ℕ
right_at None d (Name j p) = d
right_at (Some o) d (Name j p) = suc d
right_at None d (Element j p index) = suc d
right_at None d (RowElement j p row index) = suc d
right_at (Some o) d (Element j p index) = suc (suc d)
right_at (Some o) d (RowElement j p row index) = suc (suc d)
right_at o d _ = d

-- behind the right side
abbrev pub after_right : Context → Option BinaryOp → Kind → ℕ → Expr → Kind → Code
after_right c None at d (Name j p) k = assign_name c p d k
after_right c None at d (Element j p index) k = assign_element d k
after_right c None at d (RowElement j p row index) k = assign_element d k
after_right c (Some o) at d (Name j p) k =
    Then (compound_code o d (suc d) at k) (assign_name c p d k)
after_right c (Some o) at d (Element j p index) k =
    Then (compound_code o d (suc (suc d)) at k)
    (only (Save (save_op k) (Var (temp (suc d))) (Var (temp d))))
after_right c (Some o) at d (RowElement j p row index) k =
    Then (compound_code o d (suc (suc d)) at k)
    (only (Save (save_op k) (Var (temp (suc d))) (Var (temp d))))
after_right c o at d _ k = Nop

-- CALLS

-- the temporaries that the arguments stand in
abbrev pub temps : ℕ → Exprs → List Arg
temps d NoExprs = []
temps d (WithExpr e rest) = Var (temp d) ∷ temps (suc d) rest

-- the variable that takes the result of a call, if it has one
abbrev pub result_var : Option Kind → ℕ → Option ℕ
result_var None d = None
result_var (Some k) d = Some (temp d)

-- `putchar` gives the byte that it puts out; `exit` and `abort` end the whole run
abbrev pub call_code : Callee → Option Kind → ℕ → List Arg → Code
call_code (Func f) k d args = only (flat.Call f args (result_var k d) stays)
call_code GetChar k d args = only (Get (temp d))
call_code PutChar k d args =
    Then (only (Put (Var (temp d)))) (only (Let (temp d) op.Extub (Var (temp d)) (Const 0)))
call_code Exit k d args = only (flat.Halt (Var (temp d)))

-- EXPRESSIONS

-- the answer of a test of temporary d
abbrev pub tested : ℕ → Code
tested d = only (Let (temp d) op.Tne (Var (temp d)) (Const 0))

-- the right operand in the next temporary and the operation on both, or the operation on a power of two
abbrev pub strict_code : BinaryOp → Option Kind → ℕ → Option Power → Code → Code
strict_code o k d None right =
    Then right (with_kind k (λ k. binary_code o k (temp d) (temp (suc d))))
strict_code o k d (Some p) right = with_kind k (λ k. immediate_code o k p (temp d))

-- the right side is done only where the left one does not tell; what is 0 stands there already
abbrev pub binary_end : BinaryOp → Option Kind → ℕ → Option Power → Code → Code
binary_end LogicalAnd k d m right = only (If (Var (temp d)) (Then right (tested d)) Nop)
binary_end LogicalOr k d m right = only (If (Var (temp d)) (set_word (temp d) 1)
    (Then right (tested d)))
binary_end o k d m right = strict_code o k d m right

-- the temporary of the right operand
abbrev pub operand_at : BinaryOp → ℕ → ℕ
operand_at LogicalAnd d = d
operand_at LogicalOr d = d
operand_at o d = suc d

abbrev mutual
  -- the code that leaves the value of an expression in temporary d
  pub expr_code : Context → ℕ → Expr → Code
  expr_code c d (Number k w) = set_word (temp d) w
  expr_code c d (Name k p) = with_kind k (name_code c p (temp d))
  expr_code c d (Element k p index) = Then (expr_code c d index) (with_kind k (element_code c p d))
  expr_code c d (RowElement k p row index) =
      Then (joined_code c p d (expr_code c d row) (expr_code c (suc d) index))
      (with_kind k (element_code c p d))
  expr_code c d (Call k f args) = Then (args_code c d args) (call_code f k d (temps d args))
  expr_code c d (Unary k o e) =
      Then (expr_code c d e) (with_kind (kind_of e) (λ j. unary_code o j (temp d)))
  expr_code c d (Cast k to e) = Then (expr_code c d e) (converted_here (kind_of e) to (temp d))
  expr_code c d (Convert k to e) = Then (expr_code c d e) (converted_here (kind_of e) to (temp d))
  expr_code c d (Bump k o e) = Then (index_code c d e) (with_kind (kind_of e) (bump_code c o d e))
  expr_code c d (Binary k o l r) =
      Then (expr_code c d l)
      (binary_end o (kind_of l) d (immediate_for o (kind_of l) r) (expr_code c (operand_at o d) r))
  expr_code c d (Choice k t one other) =
      Then (expr_code c d t) (only (If (Var (temp d)) (expr_code c d one) (expr_code c d other)))
  expr_code c d (Assign k o at l r) =
      Then (index_code c d l)
      (Then (with_kind (kind_of l) (before_right c o at d l))
      (Then (expr_code c (right_at o d l) r) (with_kind (kind_of l) (after_right c o at d l))))
  expr_code c d (Comma k l r) = Then (expr_code c d l) (expr_code c d r)

  -- the index of a left side, which may have two
  pub index_code : Context → ℕ → Expr → Code
  index_code c d (Element k p index) = expr_code c d index
  index_code c d (RowElement k p row index) =
      joined_code c p d (expr_code c d row) (expr_code c (suc d) index)
  index_code c d _ = Nop

  -- the code that leaves the values of the arguments in the temporaries from d on
  pub args_code : Context → ℕ → Exprs → Code
  args_code c d NoExprs = Nop
  args_code c d (WithExpr e rest) = Then (expr_code c d e) (args_code c (suc d) rest)
