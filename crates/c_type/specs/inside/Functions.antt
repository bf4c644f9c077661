-- Beside what is believed of Functions.antt: functions (C17 6.7.6.3, 6.9.1).
use Rattle.std.specs.Prelude.{ℕ, ◌+◌, Bool, true, nat_lt, length, List, [], ◌∷◌, ◌++◌}
use Rattle.std.specs.Prelude.{map, Option, Some, None}
use Rattle.c_tree.specs.Limits.{most_parameters}
use Rattle.c_tree.specs.declared.token.Kind.{Kind}
use Rattle.c_tree.specs.declared.tree.ArraySize.{ArraySize}
use Rattle.c_tree.specs.declared.tree.ArraySize.TheVariants as size
use Rattle.c_tree.specs.declared.tree.Param.{Param}
use Rattle.c_tree.specs.declared.tree.Stmt.{Stmt}
use Rattle.c_tree.specs.declared.typed.Place.TheVariants as place
use Rattle.c_tree.specs.declared.typed.Slot.{Slot}
use Rattle.c_type_expr.specs.declared.meaning.Meaning.{Meaning}
use Rattle.c_type_expr.specs.declared.meaning.Meaning.TheVariants as meaning
use Rattle.c_type_expr.specs.Scope.{Scope, look_up, declared_in, bound}
use Rattle.c_type_expr.specs.declared.fault.TypeFault.TheVariants.{TooManyParams}
use Rattle.c_type_expr.specs.Constants.{size_fault}
use Rattle.c_type_expr.specs.Blames.{Blame, first, unless}
use Rattle.c_type.specs.declared.file_scope.FileScope.{FileScope}
use Rattle.c_type.specs.States.{nowhere, row_in, slot_of, started, with_params}
use Rattle.c_type.specs.Units.{function_fault}
use Rattle.c_type.specs.FileScopes.{function_names}
use Rattle.c_type.specs.Functions.{name_fault, row_bytes_fault, callee_in, body_part, entry}

-- what the name of a parameter means, of that number among the scalars
abbrev pub param_meaning : ArraySize → Kind → ℕ → Meaning
param_meaning size.Scalar k n = meaning.Scalar k (place.Scalar n)
param_meaning s k n = meaning.Array k (row_in s) (place.Scalar n)

-- the names after a parameter of that number
abbrev pub param_names : Option (List ℕ) → ArraySize → Kind → ℕ → Scope → Scope
param_names None s k n G = G
param_names (Some w) s k n G = declared_in (bound w (param_meaning s k n)) G

-- the number of the next one
abbrev pub next_number : Option (List ℕ) → ℕ → ℕ
next_number None n = n
next_number (Some w) n = n + 1

-- the names after parameters, the first of that number
abbrev pub params_names : List Param → ℕ → Scope → Scope
params_names [] n G = G
params_names (p ∷ ps) n G =
    params_names ps (next_number p.name n) (param_names p.name p.size p.kind n G)

-- the second size of an array parameter is a constant of at least 1, in which the parameters before
-- it are in scope
abbrev pub row_fault : ArraySize → Scope → List Param → Blame
row_fault (size.Rows o e) G seen = size_fault e (with_params seen (started G None)).names
row_fault _ G seen = None

-- a parameter after others, with which a function has no more than it may have
abbrev pub param_fault : Bool → Scope → List Param → Param → Blame
param_fault is_def G seen p =
    first (row_fault p.size G seen)
    (first (name_fault is_def G seen p.name p.offset)
    (first (unless (nat_lt (length seen) most_parameters) (TooManyParams p.offset))
    (row_bytes_fault p.size p.kind p.offset)))

-- the first fault of parameters after others
abbrev pub params_fault : Bool → Scope → List Param → List Param → Blame
params_fault is_def G seen [] = None
params_fault is_def G seen (p ∷ ps) =
    first (param_fault is_def G seen p) (params_fault is_def G (seen ++ p ∷ []) ps)

-- a function of this result and these parameters
abbrev pub signature : Scope → List ℕ → Option Kind → List Slot → Bool → Meaning
signature T w given slots defined = meaning.Function given slots (callee_in (look_up T w)) defined

-- the names after its declaration
abbrev pub with_function : Scope → List ℕ → Option Kind → List Slot → Bool → Scope → Scope
with_function T w given slots defined G =
    function_names (callee_in (look_up T w)) w given slots defined G

-- the parameters are judged before the function itself
abbrev pub head_fault : Bool → Option Kind → List ℕ → List Param → ℕ → Scope → Blame
head_fault is_def given w params l G =
    first (params_fault is_def G [] params)
    (function_fault is_def given (map slot_of params) (look_up G w) l)

-- the first fault of a definition: what stands before the body, then the body
abbrev pub definition_fault : Scope → Option Kind → List ℕ → List Param → Stmt → ℕ → FileScope
    → Blame
definition_fault T given w params body l U =
    first (head_fault true given w params l U.names)
    ((body_part body).fault nowhere (entry T w given params U.names))
