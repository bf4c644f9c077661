-- Beside what is believed of Programs.antt: A translation unit (C17 6.9).
use Rattle.std.specs.Prelude.{ℕ, false, List, [], ◌∷◌, Option, Some}
use Rattle.std.specs.Prelude.{None, Result, Ok, Err, ◌≡◌}
use Rattle.c_tree.specs.declared.token.Kind.{Kind}
use Rattle.c_tree.specs.declared.tree.Param.{Param}
use Rattle.c_tree.specs.declared.tree.Program.{Program}
use Rattle.c_tree.specs.declared.tree.Top.{Top}
use Rattle.c_tree.specs.declared.tree.TopNode.{TopNode}
use Rattle.c_tree.specs.declared.tree.TopNode.TheVariants.{Include, Global, Func}
use Rattle.c_tree.specs.declared.typed.TypedProgram.{TypedProgram}
use Rattle.c_type_expr.specs.Scope.{Scope, look_up}
use Rattle.c_type_expr.specs.declared.fault.TypeFault.{TypeFault}
use Rattle.c_type_expr.specs.declared.fault.TypeFault.TheVariants.{NoMain, Memory}
use Rattle.c_type_expr.specs.Blames.{Blame, first, unless}
use Rattle.c_type.specs.declared.file_scope.FileScope.{FileScope}
use Rattle.c_type.specs.Units.{include_fault}
use Rattle.c_type.specs.inside.Units.{global_fault}
use Rattle.c_type.specs.Functions.{callee_in}
use Rattle.c_type.specs.inside.Functions.{head_fault, definition_fault}
use Rattle.c_type.specs.FileScopes.{empty_file, main_name, number_in}
use Rattle.c_type.specs.Programs.{table, item_after, is_main, whole}

-- ITEMS

-- the first fault of a prototype
abbrev pub prototype_fault : Option Kind → List ℕ → List Param → ℕ → FileScope → Blame
prototype_fault given w params l U = head_fault false given w params l U.names

-- the first fault of an item of that offset
abbrev pub node_fault : Scope → TopNode → ℕ → FileScope → Blame
node_fault T Include l U = include_fault U.names l
node_fault T (Global k w size init) l U = global_fault size k w init l U
node_fault T (Func given w params None) l U = prototype_fault given w params l U
node_fault T (Func given w params (Some body)) l U = definition_fault T given w params body l U

-- the first fault of an item
abbrev pub item_fault : Scope → Top → FileScope → Blame
item_fault T t U = node_fault T t.node t.offset U

-- the first fault of several items
abbrev pub items_fault : Scope → List Top → FileScope → Blame
items_fault T [] U = None
items_fault T (t ∷ ts) U = first (item_fault T t U) (items_fault T ts (item_after T t U))

-- what fails of a translation unit first; a main that is missing is found last
abbrev pub program_fault : Program → Blame
program_fault p =
    first (items_fault (table p.items) p.items empty_file)
    (unless (is_main (look_up (whole p).names main_name)) NoMain)

-- the typed program of a unit without a fault
abbrev pub program_tree : Program → TypedProgram
program_tree p = record {
  globals = (whole p).globals;
  functions = (whole p).functions;
  main = number_in (callee_in (look_up (whole p).names main_name));
}

-- the table is that one, unless memory runs out
abbrev pub Notes : Scope → Scope → Result (Unit {0}) TypeFault → Type 0
Notes wanted new (Ok u) = new ≡ wanted
Notes wanted new (Err e) = e ≡ Memory
