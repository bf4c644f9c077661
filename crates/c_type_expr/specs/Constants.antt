-- The first fault of a constant expression and of a full expression (C17 6.6, 6.8).
use Rattle.std.specs.Prelude.{ℕ, Bool, true, false, is_some, List, [], ◌∷◌, Option, Some, None}
use Rattle.c_tree.specs.declared.tree.Expr.{Expr, Expr-F, fold-Expr}
use Rattle.c_tree.specs.declared.tree.ExprNode.TheOpen.{ExprNode-F, Number, Name, Element, Call}
use Rattle.c_tree.specs.declared.tree.ExprNode.TheOpen.{Group, Unary, Cast, Bump, Binary, Choice}
use Rattle.c_tree.specs.declared.tree.ExprNode.TheOpen.{Assign, Comma}
use Rattle.c_type_expr.specs.declared.meaning.Meaning.{Meaning}
use Rattle.c_type_expr.specs.declared.meaning.Meaning.TheVariants as meaning
use Rattle.c_type_expr.specs.Scope.{Scope, look_up}
use Rattle.c_constant.specs.Kinds.{converted}
use Rattle.c_constant.specs.Constant.{constant, ends, length_of, word_in}
use Rattle.c_constant.specs.Need.{need_fits}
use Rattle.c_tree.specs.declared.token.Kind.{Kind}
use Rattle.c_type_expr.specs.declared.fault.TypeFault.TheVariants.{Unknown, Mismatch, Need}
use Rattle.c_type_expr.specs.declared.role.Role.{Role}
use Rattle.c_type_expr.specs.Blames.{Blame, first, unless}
use Rattle.c_type_expr.specs.Faults.{fault}

-- what is no constant: a known name, or an unknown one
abbrev pub no_constant : Bool → ℕ → Blame
no_constant true l = Some (Mismatch l)
no_constant false l = Some (Unknown l)

-- a name: the constant `EOF`, another known name, or an unknown one
abbrev pub name_fixed : Option Meaning → ℕ → Blame
name_fixed None l = Some (Unknown l)
name_fixed (Some meaning.EndOfFile) l = None
name_fixed (Some _) l = Some (Mismatch l)

-- may a call of it be more than a call of a function that is not in scope or that the unit does not
-- define?
abbrev pub calls_known : Option Meaning → Bool
calls_known None = false
calls_known (Some (meaning.Function result params callee defined)) = is_some callee
calls_known (Some _) = true

-- the first of several expressions that is no constant
abbrev pub all_fixed : List (Scope → Blame) → Scope → Blame
all_fixed [] G = None
all_fixed (e ∷ es) G = first (e G) (all_fixed es G)

-- what of a first index is no constant, where there are two
abbrev pub row_fixed : Option (Scope → Blame) → Scope → Blame
row_fixed None G = None
row_fixed (Some e) G = e G

-- numbers, groups, casts, operators and `EOF` are constants; another name is none, known or not, an
-- element is judged as its array's name, and a call as the function's
abbrev pub node_fixed : ExprNode-F (ℕ → Scope → Blame) (Scope → Blame) → ℕ → Scope → Blame
node_fixed (Number v k) l G = None
node_fixed (Name w) l G = name_fixed (look_up G w) l
node_fixed (Element w row i) l G =
    first (row_fixed row G) (first (i G) (no_constant (is_some (look_up G w)) l))
node_fixed (Call w es) l G = first (all_fixed es G) (no_constant (calls_known (look_up G w)) l)
node_fixed (Group e) l G = e G
node_fixed (Unary op e) l G = e G
node_fixed (Cast to e) l G = e G
node_fixed (Bump op e) l G = first (e G) (Some (Mismatch l))
node_fixed (Binary op x y) l G = first (x G) (y G)
node_fixed (Choice t x y) l G = first (t G) (first (x G) (y G))
node_fixed (Assign op x y) l G = first (x G) (first (y G) (Some (Mismatch l)))
node_fixed (Comma x y) l G = first (x G) (first (y G) (Some (Mismatch l)))

-- the same of an expression, whose node has its offset
abbrev pub fixed_offset : Expr-F (ℕ → Scope → Blame) (Scope → Blame) → Scope → Blame
fixed_offset e = e.node e.offset

-- the first part of an expression that is no constant
unfoldable pub not_fixed : Expr → Scope → Blame
not_fixed e = fold-Expr (ℕ → Scope → Blame) (Scope → Blame) node_fixed fixed_offset e

-- a value that is wanted and is none
abbrev pub value_fault : Option ℕ → ℕ → Blame
value_fault v l = unless (is_some v) (Mismatch l)

-- more temporaries than a full expression may need
abbrev pub need_fault : Expr → Blame
need_fault e = unless (need_fits e) (Need e.offset)

-- a full expression
abbrev pub full : Expr → Role → Scope → Blame
full e r G = first (fault e G r) (need_fault e)

-- a full expression that is a constant: its parts, its value, its need
abbrev pub full_constant : Expr → Scope → Blame
full_constant e G =
    first (not_fixed e G) (first (value_fault (constant ends e).value e.offset) (need_fault e))

-- the word of a constant's value at a type
abbrev pub constant_at : Kind → Expr → ℕ
constant_at k e = converted k (word_in (constant ends e).value)

-- a size: a constant of at least 1
abbrev pub size_fault : Expr → Scope → Blame
size_fault e G = first (not_fixed e G) (value_fault (length_of e) e.offset)
