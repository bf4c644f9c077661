-- What the places and the calls of a function name: objects and functions of its program.
use Rattle.std.specs.Prelude.{ℕ, List, [], ◌∷◌, Option, Some, None, option_map, slice_get, take}
use Rattle.c_tree.specs.declared.token.Kind.{Kind}
use Rattle.c_tree.specs.declared.token.Kind.TheVariants.{Int, Long}
use Rattle.c_tree.specs.declared.typed.Place.{Place}
use Rattle.c_tree.specs.declared.typed.Place.TheVariants as place
use Rattle.c_tree.specs.declared.typed.Callee.{Callee}
use Rattle.c_tree.specs.declared.typed.Callee.TheVariants as callee
use Rattle.c_tree.specs.declared.typed.Slot.{Slot}
use Rattle.c_tree.specs.declared.typed.Slot.TheVariants as slot
use Rattle.c_tree.specs.declared.typed.TypedArray.{TypedArray}
use Rattle.c_tree.specs.declared.typed.TypedFunc.{TypedFunc}
use Rattle.c_tree.specs.declared.typed.TypedGlobal.{TypedGlobal}
use Rattle.c_tree.specs.declared.typed.TypedProgram.{TypedProgram}

-- OBJECTS

-- an array: the type of its elements, and how many of them a row has where it has two sizes
pub record Shape : Type 0 where
  pub kind : Kind
  -- none where it has one size
  pub row : Option ℕ

-- an array of elements of the type, with this second size
abbrev pub shape : Kind → Option ℕ → Shape
shape k q = record { kind = k; row = q }

-- the type of a global without a length
abbrev pub scalar_kind : Kind → Option ℕ → Option Kind
scalar_kind k None = Some k
scalar_kind k (Some n) = None

-- the array that a global with a length is
abbrev pub shape_if : Shape → Option ℕ → Option Shape
shape_if s None = None
shape_if s (Some n) = Some s

-- the type of a global that is a scalar
abbrev pub global_scalar : Option TypedGlobal → Option Kind
global_scalar None = None
global_scalar (Some g) = scalar_kind g.kind g.length

-- the array that a global is, if it is one
abbrev pub global_array : Option TypedGlobal → Option Shape
global_array None = None
global_array (Some g) = shape_if (shape g.kind g.row) g.length

-- the type of a slot that holds a value
abbrev pub slot_scalar : Option Slot → Option Kind
slot_scalar (Some (slot.Scalar k)) = Some k
slot_scalar _ = None

-- the array that a slot stands for, if it stands for one
abbrev pub slot_array : Option Slot → Option Shape
slot_array (Some (slot.Address k q)) = Some (shape k q)
slot_array _ = None

-- a local array
abbrev pub local_array : Option TypedArray → Option Shape
local_array None = None
local_array (Some a) = Some (shape a.kind a.row)

-- the type of the scalar that a place names, none where it names no scalar
abbrev pub scalar_at : TypedProgram → TypedFunc → Place → Option Kind
scalar_at P f (place.Global n) = global_scalar (slice_get P.globals n)
scalar_at P f (place.Scalar n) = slot_scalar (slice_get f.scalars n)
scalar_at P f (place.Array n) = None

-- the array that a place names, none where it names no array; an array parameter names one
abbrev pub array_at : TypedProgram → TypedFunc → Place → Option Shape
array_at P f (place.Global n) = global_array (slice_get P.globals n)
array_at P f (place.Scalar n) = slot_array (slice_get f.scalars n)
array_at P f (place.Array n) = local_array (slice_get f.arrays n)

-- FUNCTIONS

-- what a function gives, none where it is void, and what it takes
pub record Signature : Type 0 where
  pub result : Option Kind
  -- in order, each a value or an array
  pub params : List Slot

-- a result and parameters
abbrev pub signature : Option Kind → List Slot → Signature
signature result params = record { result = result; params = params }

-- the signature of a function
abbrev pub of_function : TypedFunc → Signature
of_function f = signature f.result (take f.params f.scalars)

-- the signature of what a call calls, none where the program has no such function
abbrev pub signature_of : TypedProgram → Callee → Option Signature
signature_of P (callee.Func n) = option_map of_function (slice_get P.functions n)
signature_of P callee.GetChar = Some (signature (Some Int) [])
signature_of P callee.PutChar = Some (signature (Some Int) (slot.Scalar Int ∷ []))
signature_of P callee.Exit = Some (signature None (slot.Scalar Long ∷ []))
