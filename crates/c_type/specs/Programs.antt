-- A translation unit (C17 6.9): the first fault of its items, and `main` last (C17 5.1.2.2.1).
use Rattle.std.specs.Prelude.{ℕ, Bool, true, false, ◌&&◌, List, [], ◌∷◌, map, Option, Some}
use Rattle.std.specs.Prelude.{None}
use Rattle.c_tree.specs.declared.token.Kind.{Kind}
use Rattle.c_tree.specs.declared.token.Kind.TheVariants.{Int}
use Rattle.c_tree.specs.declared.tree.Param.{Param}
use Rattle.c_tree.specs.declared.tree.Program.{Program}
use Rattle.c_tree.specs.declared.tree.Top.{Top}
use Rattle.c_tree.specs.declared.tree.TopNode.{TopNode}
use Rattle.c_tree.specs.declared.tree.TopNode.TheVariants.{Include, Global, Func}
use Rattle.c_tree.specs.declared.typed.Callee.TheVariants as callee
use Rattle.c_tree.specs.declared.typed.Slot.{Slot}
use Rattle.c_constant.specs.Kinds.{same_kind}
use Rattle.c_type_expr.specs.declared.meaning.Meaning.{Meaning}
use Rattle.c_type_expr.specs.declared.meaning.Meaning.TheVariants as meaning
use Rattle.c_type_expr.specs.Scope.{Scope, declared_in, bound}
use Rattle.c_type.specs.declared.file_scope.FileScope.{FileScope}
use Rattle.c_type.specs.Units.{included, with_global}
use Rattle.c_type.specs.FileScopes.{with_functions}
use Rattle.c_type.specs.Functions.{with_prototype, with_definition}
use Rattle.c_type.specs.States.{slot_of}
use Rattle.c_type.specs.FileScopes.{count_after, empty_file}

-- the functions that the unit defines, wherever they stand, by their numbers in the order of the
-- text; the include stands for definitions of its three

-- the table after an item
abbrev pub noted : TopNode → ℕ → Scope → Scope
noted Include n T = with_functions T
noted (Func given w params (Some body)) n T =
    declared_in (bound w (meaning.Function None [] (Some (callee.Func n)) true)) T
noted _ n T = T

-- the table after several items
abbrev pub definitions : List Top → ℕ → Scope → Scope
definitions [] n T = T
definitions (t ∷ ts) n T = definitions ts (count_after t.node n) (noted t.node n T)

-- the table of a unit
abbrev pub table : List Top → Scope
table ts = definitions ts 0 ([] ∷ [])

-- the file scope after a prototype
abbrev pub with_prototype_at : Scope → Option Kind → List ℕ → List Param → FileScope → FileScope
with_prototype_at T given w params U =
    record U { names = with_prototype T w given (map slot_of params) U.names }

-- the file scope after it
abbrev pub node_after : Scope → TopNode → FileScope → FileScope
node_after T Include U = record U { names = included U.names }
node_after T (Global k w size init) U = with_global size k w init U
node_after T (Func given w params None) U = with_prototype_at T given w params U
node_after T (Func given w params (Some body)) U = with_definition T given w params body U

-- the file scope after an item
abbrev pub item_after : Scope → Top → FileScope → FileScope
item_after T t U = node_after T t.node U

-- the file scope after them
abbrev pub items_after : Scope → List Top → FileScope → FileScope
items_after T [] U = U
items_after T (t ∷ ts) U = items_after T ts (item_after T t U)

-- MAIN

-- is the result an int?
abbrev pub is_int : Option Kind → Bool
is_int None = false
is_int (Some k) = same_kind k Int

-- are there no parameters?
abbrev pub no_slots : List Slot → Bool
no_slots [] = true
no_slots (s ∷ ss) = false

-- a definition of type int(void)
abbrev pub is_main : Option Meaning → Bool
is_main (Some (meaning.Function result params callee defined)) =
    is_int result && no_slots params && defined
is_main _ = false

-- the file scope of a unit
abbrev pub whole : Program → FileScope
whole p = items_after (table p.items) p.items empty_file
