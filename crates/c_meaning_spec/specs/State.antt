-- What an evaluation goes over: no addresses, but lists of optional numbers.
use Rattle.std.specs.Prelude.{ℕ, zero, suc, List, [], Option, Some, None, length, slice_get, slice_set}
use Rattle.c_meaning_spec.specs.declared.signal.Signal.{Signal}
use Rattle.c_meaning_spec.specs.declared.signal.Signal.TheVariants.{Value}
use Rattle.c_meaning_spec.specs.declared.signal.Halt.{Halt}
use Rattle.c_meaning_spec.specs.declared.signal.Halt.TheVariants.{NoStep, Faults}
use Rattle.c_meaning_spec.specs.declared.fault.Fault.{Fault}
use Rattle.c_meaning_spec.specs.declared.fault.Fault.TheVariants.{Outside, OutsideRows, NeverSet, NoValue, IllFormed}
use Rattle.c_meaning_spec.specs.declared.signal.Object.{Object}
use Rattle.c_meaning_spec.specs.declared.signal.Object.TheVariants.{InScalar, InArray}

-- What is told of where an evaluation stopped, by offsets in the text of the tokens that name its expressions.
pub record Told : Type 0 where
  -- the innermost expression that was not evaluated to its end, none where it stopped in none
  pub at : Option ℕ
  -- the calls that were open, the innermost first; that of main is none of them
  pub calls : List ℕ

-- what is told while an evaluation goes on
abbrev pub nothing_told : Told
nothing_told = record { at = None; calls = [] }

-- A value is held as its word: the number modulo 2^64. What is not set is none. Arrays are
-- numbered: the globals come first, a global scalar being an array of length 1, and then the arrays
-- of each active function. The scalar of an array parameter holds the number of the array that it
-- stands for. An array with two sizes is the list of its rows' cells, row behind row.
pub record State : Type 0 where
  -- the steps that are left
  pub stock : ℕ
  -- the bytes that are not read yet, and those that were put out
  pub input : List ℕ
  pub output : List ℕ
  -- the scalars of the function that runs
  pub scalars : List (Option ℕ)
  -- of the program and of all active functions
  pub arrays : List (List (Option ℕ))
  -- the second size of each array, none where it has one
  pub rows : List (Option ℕ)
  -- the number of the running function's first array
  pub base : ℕ
  -- the bytes of the frames of the active functions
  pub room : ℕ
  -- where the evaluation stopped: nothing, as long as it goes on
  pub told : Told

-- a part of the program goes on, or the evaluation stops before the end of main
pub data Result : Type 0 where
  Go : (v : Signal) (s : State) → Result
  Over : (why : Halt) (s : State) → Result

-- a step, if one is left
abbrev pub spend_of : ℕ → State → (State → Result) → Result
spend_of zero s next = Over NoStep s
spend_of (suc n) s next = next (record s { stock = n })

-- a step of the stock
abbrev pub spend : State → (State → Result) → Result
spend s next = spend_of s.stock s next

-- with the value that a part gave; taking the value of what gave none is undefined
abbrev pub want : Signal → State → (ℕ → Result) → Result
want (Value w) s next = next w
want _ s next = Over (Faults NoValue) s

-- with what is there; otherwise it is undefined for this reason
abbrev pub with_some : {A : Type 0} → Option A → Fault → State → (A → Result) → Result
with_some None c s next = Over (Faults c) s
with_some (Some x) c s next = next x

-- a value, if there is one; otherwise it is undefined for this reason
abbrev pub given : Option ℕ → Fault → State → Result
given o c s = with_some o c s (λ w. Go (Value w) s)

-- OBJECTS

-- a cell of an array
abbrev pub cell_in : Option (List (Option ℕ)) → ℕ → Option (Option ℕ)
cell_in None i = None
cell_in (Some row) i = slice_get row i

-- a scalar or an element, if there is one
abbrev pub cell : State → Object → Option (Option ℕ)
cell s (InScalar i) = slice_get s.scalars i
cell s (InArray a i) = cell_in (slice_get s.arrays a) i

-- what it holds, if it is there and is set
abbrev pub held : Option (Option ℕ) → Option ℕ
held None = None
held (Some c) = c

-- the cells of an array, if it is there
abbrev pub row_in : Option (List (Option ℕ)) → List (Option ℕ)
row_in None = []
row_in (Some row) = row

-- the arrays with one element set
abbrev pub element_set : List (List (Option ℕ)) → ℕ → ℕ → Option ℕ → List (List (Option ℕ))
element_set rows a i c = slice_set rows a (slice_set (row_in (slice_get rows a)) i c)

-- a state in which an object holds something else
abbrev pub written : State → Object → Option ℕ → State
written s (InScalar i) c = record s { scalars = slice_set s.scalars i c }
written s (InArray a i) c = record s { arrays = element_set s.arrays a i c }

-- the second size of an array, if it is there and has two
abbrev pub row_size : Option (Option ℕ) → Option ℕ
row_size None = None
row_size (Some q) = q

-- why there is no element of an array of n, by its second size
abbrev pub outside : Option ℕ → ℕ → ℕ → Fault
outside None i n = Outside i n
outside (Some q) i n = OutsideRows n q

-- why a cell holds no word: there is none, or it is not set
abbrev pub no_word : Fault → Option (Option ℕ) → Fault
no_word c None = c
no_word c (Some x) = NeverSet

-- why an object holds no word, or cannot be stored into
abbrev pub missing : State → Object → Fault
missing s (InScalar i) = no_word IllFormed (slice_get s.scalars i)
missing s (InArray a i) =
    no_word (outside (row_size (slice_get s.rows a)) i (length (row_in (slice_get s.arrays a))))
    (cell_in (slice_get s.arrays a) i)

-- the value that an object holds
abbrev pub load : Object → State → Result
load x s = given (held (cell s x)) (missing s x) s

-- a word into an object, if it is there; the whole gives the word
abbrev pub store_in : Option (Option ℕ) → State → Object → ℕ → Result
store_in None s x w = Over (Faults (missing s x)) s
store_in (Some c) s x w = Go (Value w) (written s x (Some w))

-- a word into an object
abbrev pub store : State → Object → ℕ → Result
store s x w = store_in (cell s x) s x w
