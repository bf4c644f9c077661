-- Expressions: operands from the left, side effects at once.
use Rattle.std.specs.Prelude.{ℕ, cond, [], Option, Some, None}
use Rattle.c_tree.specs.declared.Kind.{Kind}
use Rattle.c_tree.specs.declared.BinaryOp.{BinaryOp}
use Rattle.c_tree.specs.declared.BinaryOp.TheVariants.{LogicalOr, LogicalAnd}
use Rattle.c_tree.specs.declared.UnaryOp.{UnaryOp}
use Rattle.c_tree.specs.declared.BumpOp.{BumpOp}
use Rattle.c_tree.specs.declared.Place.{Place}
use Rattle.c_tree.specs.declared.TypedExpr.{TypedExpr}
use Rattle.c_tree.specs.TypedTrees.{Node, node_of}
use Rattle.c_tree.specs.declared.TypedNode.TheOpen.{Number, Name, Element, Call, Unary}
use Rattle.c_tree.specs.declared.TypedNode.TheOpen.{Cast, Convert, Bump, Binary, Choice, Assign}
use Rattle.c_tree.specs.declared.TypedNode.TheOpen.{Comma}
use Rattle.c_tree.specs.declared.TypedProgram.{TypedProgram}
use Rattle.c_meaning_spec.specs.declared.signal.Signal.{Signal}
use Rattle.c_meaning_spec.specs.declared.signal.Signal.TheVariants.{Value}
use Rattle.c_meaning_spec.specs.declared.signal.Halt.TheVariants.{Faults}
use Rattle.c_meaning_spec.specs.declared.fault.Fault.TheVariants.{IllFormed}
use Rattle.c_meaning_spec.specs.declared.signal.Object.{Object}
use Rattle.c_meaning_spec.specs.State.{State, Result, Go, Over, spend, want, with_some, given, cell}
use Rattle.c_meaning_spec.specs.inside.State.{then}
use Rattle.c_meaning_spec.specs.State.{held, missing, store}
use Rattle.c_constant.specs.Kinds.{converted}
use Rattle.c_meaning_spec.specs.Word.{is_false, truth_of, binary_of, unary_of, compound_of, bump_of}
use Rattle.c_meaning_spec.specs.Word.{bump_value, unary_fault, binary_fault, compound_fault, bump_fault}
use Rattle.c_meaning_spec.specs.Task.{Parts, Of, element_of, row_element_of, scalar_of, name, element}
use Rattle.c_meaning_spec.specs.Task.{after_row}
use Rattle.c_meaning_spec.specs.Call.{arguments}

-- OPERATIONS

-- the value of an expression, converted to a type
abbrev pub converting : Kind → Signal → State → Result
converting to v s = want v s (λ w. Go (Value (converted to w)) s)

-- an operation on the value of an operand
abbrev pub unary : UnaryOp → Option Kind → Signal → State → Result
unary op k v s = want v s (λ a. given (unary_of op k a) (unary_fault op k a) s)

-- an operation on the value of the left operand and that of the right one
abbrev pub operated : BinaryOp → Option Kind → ℕ → Signal → State → Result
operated op k a v s = want v s (λ b. given (binary_of op k a b) (binary_fault op k a b) s)

-- the right operand after the left one
abbrev pub after_left : Parts → BinaryOp → Option Kind → TypedExpr → Signal → State → Result
after_left rec op k right v s = want v s (λ a. then (rec (Of right) s) (operated op k a))

-- 1 where the value is not 0, and else 0
abbrev pub truth : Signal → State → Result
truth v s = want v s (λ w. Go (Value (truth_of w)) s)

-- the right side of && and || is evaluated only where the left one does not tell
abbrev pub after_and : Parts → TypedExpr → Signal → State → Result
after_and rec right v s = want v s (λ w. cond (is_false w) (Go (Value 0) s)
    (then (rec (Of right) s) truth))

-- the same of `||`
abbrev pub after_or : Parts → TypedExpr → Signal → State → Result
after_or rec right v s = want v s (λ w. cond (is_false w) (then (rec (Of right) s) truth)
    (Go (Value 1) s))

-- an operation on two operands
abbrev pub binary : Parts → BinaryOp → TypedExpr → TypedExpr → State → Result
binary rec LogicalAnd left right s = then (rec (Of left) s) (after_and rec right)
binary rec LogicalOr left right s = then (rec (Of left) s) (after_or rec right)
binary rec op left right s = then (rec (Of left) s) (after_left rec op left.kind right)

-- a value is taken of the legs of a choice and of the right side of a comma
abbrev pub valued : Signal → State → Result
valued v s = want v s (λ w. Go (Value w) s)

-- the leg that the test chooses
abbrev pub after_choice : Parts → TypedExpr → TypedExpr → Signal → State → Result
after_choice rec one other v s =
    want v s (λ w. cond (is_false w) (then (rec (Of other) s) valued)
    (then (rec (Of one) s) valued))

-- the right side of a comma after the left one
abbrev pub after_comma : Parts → TypedExpr → Signal → State → Result
after_comma rec right v s = then (rec (Of right) s) valued

-- ASSIGNMENT

-- the value of the right side is stored
abbrev pub assigned : Object → Signal → State → Result
assigned x v s = want v s (λ w. store s x w)

-- the result of the operation on the old value and that of the right side is stored
abbrev pub compounded : BinaryOp → Option Kind → Kind → Object → ℕ → Signal → State → Result
compounded op to at x old v s = want v s (λ b. with_some (compound_of op to at old b)
    (compound_fault op to at old b) s
    (λ w. store s x w))

-- a compound assignment reads the old value before the right side is evaluated
abbrev pub assign_to : Parts → Option BinaryOp → Option Kind → Kind → TypedExpr → State → Object
    → Result
assign_to rec None to at right s x = then (rec (Of right) s) (assigned x)
assign_to rec (Some op) to at right s x =
    with_some (held (cell s x)) (missing s x) s (λ old. then (rec (Of right) s) (compounded op to at x old))

-- an assignment to the element of the array that p names, by the value of its index
abbrev pub assign_element : Parts → Option BinaryOp → Option Kind → Kind → Place → TypedExpr
    → Signal → State → Result
assign_element rec op to at p right v s =
    want v s (λ w. with_some (element_of p w s) IllFormed s (assign_to rec op to at right s))

-- an assignment to an element by two indexes, of which the first is known, by the value of the second
abbrev pub assign_row : Parts → Option BinaryOp → Option Kind → Kind → Place → ℕ → TypedExpr → Signal
    → State → Result
assign_row rec op to at p i right v s =
    want v s (λ j. with_some (row_element_of p i j s) IllFormed s (assign_to rec op to at right s))

-- the second index after the first one
abbrev pub assign_after_row : Parts → Option BinaryOp → Option Kind → Kind → Place → TypedExpr
    → TypedExpr → Signal → State → Result
assign_after_row rec op to at p index right v s =
    want v s (λ i. then (rec (Of index) s) (assign_row rec op to at p i right))

-- of the left side only indexes are evaluated
abbrev pub assign : Parts → Option BinaryOp → Option Kind → Kind → Node → TypedExpr → State → Result
assign rec op to at (Name p) right s = with_some (scalar_of p) IllFormed s (assign_to rec op to at right s)
assign rec op to at (Element p None index) right s =
    then (rec (Of index) s) (assign_element rec op to at p right)
assign rec op to at (Element p (Some row) index) right s =
    then (rec (Of row) s) (assign_after_row rec op to at p index right)
assign rec op to at _ right s = Over (Faults IllFormed) s

-- after a store: the value that the whole gives
abbrev pub giving : ℕ → Signal → State → Result
giving w v s = Go (Value w) s

-- ++ and -- on an object
abbrev pub bump_object : BumpOp → Option Kind → State → Object → Result
bump_object op k s x =
    with_some (held (cell s x)) (missing s x) s (λ old.
    with_some (bump_of op k old) (bump_fault op k old) s (λ new. then (store s x new) (giving (bump_value op old new))))

-- ++ and -- on an element, by the value of its index
abbrev pub bump_element : BumpOp → Option Kind → Place → Signal → State → Result
bump_element op k p v s = want v s (λ w. with_some (element_of p w s) IllFormed s (bump_object op k s))

-- ++ and -- on an element by two indexes, of which the first is known, by the value of the second
abbrev pub bump_row : BumpOp → Option Kind → Place → ℕ → Signal → State → Result
bump_row op k p i v s =
    want v s (λ j. with_some (row_element_of p i j s) IllFormed s (bump_object op k s))

-- the second index after the first one
abbrev pub bump_after_row : Parts → BumpOp → Option Kind → Place → TypedExpr → Signal → State → Result
bump_after_row rec op k p index v s = want v s (λ i. then (rec (Of index) s) (bump_row op k p i))

-- of the operand only indexes are evaluated
abbrev pub bump : Parts → BumpOp → Option Kind → Node → State → Result
bump rec op k (Name p) s = with_some (scalar_of p) IllFormed s (bump_object op k s)
bump rec op k (Element p None index) s = then (rec (Of index) s) (bump_element op k p)
bump rec op k (Element p (Some row) index) s =
    then (rec (Of row) s) (bump_after_row rec op k p index)
bump rec op k _ s = Over (Faults IllFormed) s

-- NODES

-- a node after its step; a conversion that stands in another is in no typed tree
abbrev pub opened : Parts → TypedProgram → Node → State → Result
opened rec P (Number w) s = Go (Value w) s
opened rec P (Name p) s = name P p s
opened rec P (Element p None index) s = then (rec (Of index) s) (element p)
opened rec P (Element p (Some row) index) s = then (rec (Of row) s) (after_row rec p index)
opened rec P (Call f args) s = arguments rec P f args [] s
opened rec P (Unary op e) s = then (rec (Of e) s) (unary op e.kind)
opened rec P (Cast to e) s = then (rec (Of e) s) (converting to)
opened rec P (Convert to e) s = Over (Faults IllFormed) s
opened rec P (Bump op e) s = bump rec op e.kind (node_of e) s
opened rec P (Binary op l r) s = binary rec op l r s
opened rec P (Choice t one other) s = then (rec (Of t) s) (after_choice rec one other)
opened rec P (Assign op at l r) s = assign rec op l.kind at (node_of l) r s
opened rec P (Comma l r) s = then (rec (Of l) s) (after_comma rec r)

-- each node spends its step before its parts
abbrev pub node : Parts → TypedProgram → Node → State → Result
node rec P n s = spend s (opened rec P n)

-- a conversion that typing adds costs nothing
abbrev pub expression : Parts → TypedProgram → Node → State → Result
expression rec P (Convert to e) s = then (node rec P (node_of e) s) (converting to)
expression rec P n s = node rec P n s
