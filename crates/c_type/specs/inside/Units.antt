-- Beside what is believed of Units.antt: file scope (C17 6.7, 6.9).
use Rattle.std.specs.Prelude.{ℕ, ◌-◌, replicate, take, drop}
use Rattle.std.specs.Prelude.{nat_lt, length, List, [], ◌∷◌, ◌++◌, Some, None}
use Rattle.c_tree.specs.declared.token.Kind.{Kind}
use Rattle.c_tree.specs.declared.tree.ArraySize.{ArraySize}
use Rattle.c_tree.specs.declared.tree.ArraySize.TheVariants as size
use Rattle.c_tree.specs.declared.tree.Expr.{Expr}
use Rattle.c_type_expr.specs.Scope.{Scope}
use Rattle.c_type_expr.specs.declared.fault.TypeFault.TheVariants.{Mismatch}
use Rattle.c_type_expr.specs.Blames.{Blame, first, unless}
use Rattle.c_type_expr.specs.Constants.{size_fault, full_constant}
use Rattle.c_type.specs.declared.file_scope.FileScope.{FileScope}
use Rattle.c_type.specs.FileScopes.{all_values, global_names}
use Rattle.c_type.specs.Units.{place_fault, count_of, init_fits}

-- the first fault of a global's values
abbrev pub values_fault : List Expr → Scope → Blame
values_fault [] G = None
values_fault (e ∷ es) G = first (full_constant e G) (values_fault es G)

-- the words of rows taken from those of all values, as many for each row as it has values
abbrev pub filled_rows : ℕ → List (List Expr) → List ℕ → List ℕ
filled_rows n [] ws = []
filled_rows n (es ∷ ess) ws =
    (take (length es) ws ++ replicate (n - length es) 0) ++ filled_rows n ess (drop (length es) ws)

-- the sizes come before the declarator, and the values after it; empty first brackets want a value or
-- a row
abbrev pub count_fault : ArraySize → List (List Expr) → ℕ → Scope → Blame
count_fault size.Scalar init l G = None
count_fault size.Open init l G = unless (nat_lt 0 (length (all_values init))) (Mismatch l)
count_fault (size.Sized e) init l G = size_fault e G
count_fault (size.Rows None e) init l G =
    first (size_fault e G) (unless (nat_lt 0 (length init)) (Mismatch l))
count_fault (size.Rows (Some r) e) init l G = first (size_fault r G) (size_fault e G)

-- what of the declarator comes before its values
abbrev pub admitted_fault : ArraySize → Kind → List ℕ → List (List Expr) → ℕ → FileScope → Blame
admitted_fault size k w init l U =
    first (count_fault size init l U.names) (place_fault (count_of size init) k w l U)

-- a global's first fault: the sizes, the declarator, the values, then that they are not too many
abbrev pub global_fault : ArraySize → Kind → List ℕ → List (List Expr) → ℕ → FileScope → Blame
global_fault size k w init l U =
    first (admitted_fault size k w init l U)
    (first (values_fault (all_values init) (global_names size k w U))
    (unless (init_fits size init) (Mismatch l)))
