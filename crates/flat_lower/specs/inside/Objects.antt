-- Where objects lie, and the flat code of their addresses.
use Rattle.std.specs.Prelude.{ℕ, zero, suc, ◌+◌, ◌*◌, Bool, cond, List, [], ◌∷◌, map, Option, Some}
use Rattle.std.specs.Prelude.{None, slice_get}
use Rattle.c_tree.specs.declared.Kind.{Kind}
use Rattle.c_tree.specs.declared.Place.{Place}
use Rattle.c_tree.specs.declared.Place.TheVariants.{Global, Scalar, Array}
use Rattle.c_tree.specs.declared.Slot.{Slot}
use Rattle.c_tree.specs.declared.Slot.TheVariants as slot
use Rattle.c_tree.specs.declared.TypedArray.{TypedArray}
use Rattle.c_tree.specs.declared.TypedGlobal.{TypedGlobal}
use Rattle.c_meaning_spec.specs.Task.{is_array}
use Rattle.c_constant.specs.Kinds.{bytes}
use Rattle.c_meaning_spec.specs.Call.{array_bytes}
use Rattle.c_meaning_spec.specs.Eval.{length_of}
use Rattle.trips_isa.specs.declared.op.Op.TheVariants as op
use Rattle.ir_forms.specs.declared.flat.Arg.{Arg}
use Rattle.ir_forms.specs.declared.flat.Arg.TheVariants.{Const, Var}
use Rattle.ir_forms.specs.inside.FlatCode.{Code, Nop, Then, only, Let, Frame}
use Rattle.ir_forms.specs.inside.Frames.{rounded}
use Rattle.flat_lower.specs.inside.Operations.{temp, scratch, shift_of}

-- what the code of a function needs to know
pub record Context : Type 0 where
  pub globals : List TypedGlobal
  -- of the function, its parameters first
  pub scalars : List Slot
  pub arrays : List TypedArray

-- a global takes whole words, a scalar too
abbrev pub global_bytes : TypedGlobal → ℕ
global_bytes g = rounded (length_of g.length * bytes g.kind)

-- the bytes of the first of some objects
abbrev pub bytes_before : List ℕ → ℕ → ℕ
bytes_before [] n = 0
bytes_before (b ∷ bs) zero = 0
bytes_before (b ∷ bs) (suc n) = b + bytes_before bs n

-- the address of a global
unfoldable pub global_at : List TypedGlobal → ℕ → ℕ
global_at globals g = bytes_before (map global_bytes globals) g

-- the place of a local array among the function's
unfoldable pub array_at : List TypedArray → ℕ → ℕ
array_at arrays a = bytes_before (map array_bytes arrays) a

-- the second size of a global, if it is there and has two
abbrev pub global_row : Option TypedGlobal → Option ℕ
global_row None = None
global_row (Some g) = g.row

-- of the array that a parameter stands for
abbrev pub slot_row : Option Slot → Option ℕ
slot_row None = None
slot_row (Some (slot.Scalar k)) = None
slot_row (Some (slot.Address k q)) = q

-- of a local array
abbrev pub array_row : Option TypedArray → Option ℕ
array_row None = None
array_row (Some a) = a.row

-- the second size of the array that a name stands for
abbrev pub row_of : Context → Place → Option ℕ
row_of c (Global g) = global_row (slice_get c.globals g)
row_of c (Scalar i) = slot_row (slice_get c.scalars i)
row_of c (Array a) = array_row (slice_get c.arrays a)

-- an offset in a variable and the address of an object make an address
abbrev pub based : Context → Place → ℕ → ℕ → Code
based c (Global g) to x = only (Let to op.Add (Var x) (Const (global_at c.globals g)))
based c (Scalar i) to x = only (Let to op.Add (Var x) (Var i))
based c (Array a) to x =
    Then (only (Frame (scratch 1) (array_at c.arrays a)))
    (only (Let to op.Add (Var x) (Var (scratch 1))))

-- by the exponent of an element's size
abbrev pub address_by : ℕ → Context → Place → ℕ → ℕ → Code
address_by zero c p to x = based c p to x
address_by (suc n) c p to x =
    Then (only (Let to op.Sll (Var x) (Const (suc n)))) (based c p to to)

-- the address of the element whose index stands in x
abbrev pub address_code : Context → Place → Kind → ℕ → ℕ → Code
address_code c p k to x = address_by (shift_of k) c p to x

-- the address of an object that an array's name stands for
abbrev pub whole_code : Context → Place → ℕ → Code
whole_code c (Global g) to = only (Let to op.Mov (Const (global_at c.globals g)) (Const 0))
whole_code c (Scalar i) to = only (Let to op.Mov (Var i) (Const 0))
whole_code c (Array a) to = only (Frame to (array_at c.arrays a))
