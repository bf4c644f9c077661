-- Local declarations (C17 6.7): the first fault, the typed tree, and the state after them.
use Rattle.std.specs.Prelude.{ℕ, ◌*◌, not, nat_le, nat_lt, length, List, Option, Some, None}
use Rattle.c_tree.specs.declared.token.Kind.{Kind}
use Rattle.c_tree.specs.Limits.{most_scalars, most_object_bytes}
use Rattle.c_tree.specs.declared.tree.ArraySize.{ArraySize}
use Rattle.c_tree.specs.declared.tree.ArraySize.TheVariants as size
use Rattle.c_tree.specs.declared.tree.Expr.{Expr}
use Rattle.c_tree.specs.declared.typed.Place.TheVariants as place
use Rattle.c_tree.specs.declared.typed.TypedStmt.{TypedStmt}
use Rattle.c_tree.specs.declared.typed.TypedStmt.TheVariants as typed
use Rattle.c_constant.specs.Kinds.{bytes}
use Rattle.c_type_expr.specs.Scope.{Scope}
use Rattle.c_type_expr.specs.declared.fault.TypeFault.TheVariants.{Twice, Mismatch, TooManyScalars, TooLarge}
use Rattle.c_type_expr.specs.declared.role.Role.TheVariants.{Value}
use Rattle.c_type_expr.specs.Blames.{Blame, first, unless}
use Rattle.c_type_expr.specs.Constants.{size_fault}
use Rattle.c_constant.specs.Constant.{length_of, word_in}
use Rattle.c_type.specs.declared.state.State.{State}
use Rattle.c_type.specs.States.{with_scalar, with_array, is_taken, length_in, row_in}
use Rattle.c_type.specs.LeftOut.{full_if, value_of}

-- a name that may not be declared there
abbrev pub twice_fault : Scope → List ℕ → ℕ → Blame
twice_fault G w l = unless (not (is_taken G w)) (Twice l)

-- a function has at most 64 scalars, its parameters among them
abbrev pub scalar_fault : List ℕ → ℕ → State → Blame
scalar_fault w l v =
    first (twice_fault v.names w l) (unless (nat_lt (length v.scalars) most_scalars) (TooManyScalars l))

-- an array has at most 1,048,576 bytes
abbrev pub array_fault : ℕ → Kind → List ℕ → ℕ → Scope → Blame
array_fault n k w l G =
    first (twice_fault G w l) (unless (nat_le (n * bytes k) most_object_bytes) (TooLarge l))

-- a local array has no initialiser
abbrev pub no_init : Option Expr → ℕ → Blame
no_init None l = None
no_init (Some e) l = Some (Mismatch l)

-- the name is in scope in its own initialiser
abbrev pub scalar_init_fault : Kind → List ℕ → Option Expr → ℕ → State → Blame
scalar_init_fault k w init l v =
    first (scalar_fault w l v) (full_if init Value (with_scalar k w v).names)

-- how many rows the sizes of an array give, 1 where it has one size
abbrev pub rows_of : ArraySize → ℕ
rows_of (size.Sized e) = 1
rows_of (size.Rows (Some r) e) = word_in (length_of r)
rows_of _ = 0

-- how many elements they give in all
abbrev pub extent : ArraySize → ℕ
extent s = rows_of s * length_in s

-- the sizes of a local array are given, and constants of at least 1
abbrev pub sizes_fault : ArraySize → ℕ → Scope → Blame
sizes_fault size.Scalar l G = Some (Mismatch l)
sizes_fault size.Open l G = Some (Mismatch l)
sizes_fault (size.Sized e) l G = size_fault e G
sizes_fault (size.Rows None e) l G = Some (Mismatch l)
sizes_fault (size.Rows (Some r) e) l G = first (size_fault r G) (size_fault e G)

-- the sizes come before the declarator
abbrev pub sized_fault : ArraySize → Kind → List ℕ → Option Expr → ℕ → Scope → Blame
sized_fault s k w init l G =
    first (first (sizes_fault s l G) (array_fault (extent s) k w l G)) (no_init init l)

-- a declaration's first fault: the sizes, the declarator, then the initialiser
abbrev pub declare_fault : ArraySize → Kind → List ℕ → Option Expr → ℕ → State → Blame
declare_fault size.Scalar k w init l v = scalar_init_fault k w init l v
declare_fault s k w init l v = sized_fault s k w init l v.names

-- the state after a declaration
abbrev pub declared : ArraySize → Kind → List ℕ → State → State
declared size.Scalar k w v = with_scalar k w v
declared s k w v = with_array k (row_in s) w (extent s) v

-- the typed declaration
abbrev pub declare_tree : ArraySize → Kind → List ℕ → Option Expr → State → TypedStmt
declare_tree size.Scalar k w init v =
    typed.Declare (place.Scalar (length v.scalars)) (value_of init k (with_scalar k w v).names)
declare_tree s k w init v = typed.Declare (place.Array (length v.arrays)) None
