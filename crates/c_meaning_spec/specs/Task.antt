-- What is evaluated, and what a name stands for.
use Rattle.std.specs.Prelude.{ℕ, ◌+◌, ◌*◌, Bool, true, false, cond, ◌&&◌, nat_lt, List, length, Option}
use Rattle.std.specs.Prelude.{Some, None, slice_get}
use Rattle.c_tree.specs.declared.Place.{Place}
use Rattle.c_tree.specs.declared.Place.TheVariants.{Global, Scalar, Array}
use Rattle.c_tree.specs.declared.TypedExpr.{TypedExpr}
use Rattle.c_tree.specs.declared.TypedStmt.{TypedStmt}
use Rattle.c_tree.specs.declared.TypedGlobal.{TypedGlobal}
use Rattle.c_tree.specs.declared.TypedProgram.{TypedProgram}
use Rattle.c_meaning_spec.specs.declared.signal.Signal.{Signal}
use Rattle.c_meaning_spec.specs.declared.signal.Signal.TheVariants.{Value}
use Rattle.c_meaning_spec.specs.declared.signal.Object.{Object}
use Rattle.c_meaning_spec.specs.declared.signal.Object.TheVariants.{InScalar, InArray}
use Rattle.c_meaning_spec.specs.State.{State, Result, Go, want, with_some, cell, held, load}
use Rattle.c_meaning_spec.specs.inside.State.{then}
use Rattle.c_meaning_spec.specs.State.{row_in, row_size}
use Rattle.c_meaning_spec.specs.declared.fault.Fault.TheVariants.{IllFormed}

-- an expression, a statement, or a loop from its test on
pub data Task : Type 0 where
  Of : (e : TypedExpr) → Task
  Run : (st : TypedStmt) → Task
  Turn : (test post : Option TypedExpr) (body : TypedStmt) → Task

-- what evaluates the parts of a task
abbrev pub Parts : Type 0
Parts = Task → State → Result

-- the number of the array that a name names
abbrev pub array_of : Place → State → Option ℕ
array_of (Global g) s = Some g
array_of (Scalar i) s = held (cell s (InScalar i))
array_of (Array a) s = Some (s.base + a)

-- an element of an array, if there is one
abbrev pub element_in : Option ℕ → ℕ → Option Object
element_in None w = None
element_in (Some a) w = Some (InArray a w)

-- an element by the word of its index; that it is outside its array is met where it is read or
-- stored
abbrev pub element_of : Place → ℕ → State → Option Object
element_of p w s = element_in (array_of p s) w

-- the place of an element by two indexes among the cells of an array, of which there are n in rows of
-- q: one behind them all where an index is outside its own dimension
abbrev pub place_in : Option ℕ → ℕ → ℕ → ℕ → ℕ
place_in None n i j = n
place_in (Some q) n i j = cond (nat_lt j q && nat_lt (i * q + j) n) (i * q + j) n

-- an element of an array by two indexes, if there is the array
abbrev pub row_element_in : Option ℕ → ℕ → ℕ → List (Option ℕ) → List (List (Option ℕ)) → Option Object
row_element_in None i j rows arrays = None
row_element_in (Some a) i j rows arrays =
    Some (InArray a (place_in (row_size (slice_get rows a)) (length (row_in (slice_get arrays a))) i j))

-- an element by the words of its two indexes; that one is outside is met where it is read or stored
abbrev pub row_element_of : Place → ℕ → ℕ → State → Option Object
row_element_of p i j s = row_element_in (array_of p s) i j s.rows s.arrays

-- the scalar that a name names
abbrev pub scalar_of : Place → Option Object
scalar_of (Global g) = Some (InArray g 0)
scalar_of (Scalar i) = Some (InScalar i)
scalar_of (Array a) = None

-- whether a global has a length
abbrev pub has_length : Option ℕ → Bool
has_length None = false
has_length (Some n) = true

-- whether a global is an array
abbrev pub is_array : Option TypedGlobal → Bool
is_array None = false
is_array (Some g) = has_length g.length

-- the value of a name; an array's is its number
abbrev pub name : TypedProgram → Place → State → Result
name P (Global g) s = cond (is_array (slice_get P.globals g)) (Go (Value g) s)
    (load (InArray g 0) s)
name P (Scalar i) s = load (InScalar i) s
name P (Array a) s = Go (Value (s.base + a)) s

-- the value of an element, by the value of its index
abbrev pub element : Place → Signal → State → Result
element p v s = want v s (λ w. with_some (element_of p w s) IllFormed s (λ x. load x s))

-- the value of an element by two indexes, of which the first is known, by the value of the second
abbrev pub row_element : Place → ℕ → Signal → State → Result
row_element p i v s = want v s (λ j. with_some (row_element_of p i j s) IllFormed s (λ x. load x s))

-- the second index after the first one
abbrev pub after_row : Parts → Place → TypedExpr → Signal → State → Result
after_row rec p index v s = want v s (λ i. then (rec (Of index) s) (row_element p i))
