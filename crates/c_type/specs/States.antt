-- What the typing of a function keeps, from its parameters on, and what is around a statement.
use Rattle.std.specs.Prelude.{ℕ, Option, List, [], ◌∷◌, ◌++◌, length, true, false, Bool, ◌||◌, Some, None}
use Rattle.c_tree.specs.declared.token.Kind.{Kind}
use Rattle.c_tree.specs.declared.tree.Stmt.{Stmt}
use Rattle.c_tree.specs.declared.tree.StmtNode.{StmtNode}
use Rattle.c_tree.specs.declared.typed.Place.TheVariants as place
use Rattle.c_tree.specs.declared.typed.Slot.TheVariants as slot
use Rattle.c_type_expr.specs.declared.meaning.Meaning.TheVariants as meaning
use Rattle.c_type_expr.specs.Scope.{opened, closed, declared_in, bound, Scope, look_up, is_here, same_name}
use Rattle.c_type.specs.declared.state.State.{State}
use Rattle.c_tree.specs.declared.tree.Label.{Label}
use Rattle.c_tree.specs.declared.tree.Section.{Section, roll-Section}
use Rattle.c_type.specs.declared.state.Around.{Around}
use Rattle.c_tree.specs.declared.tree.ArraySize.{ArraySize}
use Rattle.c_tree.specs.declared.tree.ArraySize.TheVariants as size
use Rattle.c_type_expr.specs.declared.meaning.Meaning.{Meaning}
use Rattle.c_constant.specs.Constant.{length_of, word_in}
use Rattle.c_tree.specs.declared.tree.Param.{Param}
use Rattle.c_tree.specs.declared.typed.Slot.{Slot}

-- the state with one block more
abbrev pub entered : State → State
entered v = record v { names = opened v.names }

-- the state without the innermost block
abbrev pub left : State → State
left v = record v { names = closed v.names }

-- a scalar more, whose number is the count of those before it
abbrev pub with_scalar : Kind → List ℕ → State → State
with_scalar k w v =
    record v {
      names = declared_in (bound w (meaning.Scalar k (place.Scalar (length v.scalars)))) v.names;
      scalars = v.scalars ++ slot.Scalar k ∷ [];
    }

-- an array parameter more, of this second size or of one size, which takes a scalar's slot
abbrev pub with_address : Kind → Option ℕ → List ℕ → State → State
with_address k q w v =
    record v {
      names = declared_in (bound w (meaning.Array k q (place.Scalar (length v.scalars)))) v.names;
      scalars = v.scalars ++ slot.Address k q ∷ [];
    }

-- a local array more, of so many elements in all
abbrev pub with_array : Kind → Option ℕ → List ℕ → ℕ → State → State
with_array k q w n v =
    record v {
      names = declared_in (bound w (meaning.Array k q (place.Array (length v.arrays)))) v.names;
      arrays = v.arrays ++ (record { kind = k; length = n; row = q }) ∷ [];
    }

-- the scalar of a switch more, which has no name
abbrev pub with_switch : Kind → State → State
with_switch k v = record v { scalars = v.scalars ++ slot.Scalar k ∷ [] }

-- the statement of an offset and a node
abbrev pub at : ℕ → StmtNode → Stmt
at l n = record { offset = l; node = n }

-- around a body or an `else` of no loop and no switch
abbrev pub nowhere : Around
nowhere = record { may_break = false; may_continue = false }

-- around the body of a loop
abbrev pub in_loop : Around
in_loop = record { may_break = true; may_continue = true }

-- around a statement of a switch: a `continue` is that of a loop around the switch
abbrev pub in_switch : Around → Around
in_switch b = record { may_break = true; may_continue = b.may_continue }

-- the section of these labels and statements
abbrev pub sectioned : List Label → List Stmt → Section
sectioned ls ss = roll-Section (record { labels = ls; body = ss })

-- whether a name stands for `EOF`
abbrev pub is_end : Option Meaning → Bool
is_end (Some meaning.EndOfFile) = true
is_end _ = false

-- a name that this block declares already; after the include also `EOF`, which no block may declare
abbrev pub is_taken : Scope → List ℕ → Bool
is_taken G w = is_here G w || is_end (look_up G w)

-- how many elements a row has, or an array of one size
abbrev pub length_in : ArraySize → ℕ
length_in (size.Sized e) = word_in (length_of e)
length_in (size.Rows o e) = word_in (length_of e)
length_in _ = 0

-- this second size, of an array with two sizes
abbrev pub row_if : ArraySize → ℕ → Option ℕ
row_if (size.Rows o e) n = Some n
row_if _ n = None

-- the same, of an array with two sizes alone
abbrev pub row_in : ArraySize → Option ℕ
row_in s = row_if s (length_in s)

-- a parameter takes a word, or the address of an array
abbrev pub slot_for : ArraySize → Kind → Slot
slot_for size.Scalar k = slot.Scalar k
slot_for s k = slot.Address k (row_in s)

-- the same of a parameter
abbrev pub slot_of : Param → Slot
slot_of p = slot_for p.size p.kind

-- is it the name?
abbrev pub is_named : Option (List ℕ) → List ℕ → Bool
is_named None w = false
is_named (Some v) w = same_name v w

-- does one of the parameters have the name?
abbrev pub named_among : List Param → List ℕ → Bool
named_among [] w = false
named_among (p ∷ ps) w = is_named p.name w || named_among ps w

-- what the function keeps of a parameter
abbrev pub named_param : Option (List ℕ) → ArraySize → Kind → State → State
named_param None s k v = v
named_param (Some w) size.Scalar k v = with_scalar k w v
named_param (Some w) s k v = with_address k (row_in s) w v

-- the state with all parameters
abbrev pub with_params : List Param → State → State
with_params [] v = v
with_params (p ∷ ps) v = with_params ps (named_param p.name p.size p.kind v)

-- the state before any parameter
abbrev pub started : Scope → Option Kind → State
started G given = record { names = opened G; scalars = []; arrays = []; result = given }
