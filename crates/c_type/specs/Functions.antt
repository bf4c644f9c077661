-- Functions (C17 6.7.6.3, 6.9.1): parameters, prototypes and definitions.
use Rattle.std.specs.Prelude.{ℕ, ◌*◌, Bool, not, ◌||◌, nat_le, length, List, [], ◌∷◌, ◌++◌}
use Rattle.std.specs.Prelude.{map, Option, Some, None}
use Rattle.c_tree.specs.Limits.{most_object_bytes}
use Rattle.c_tree.specs.declared.token.Kind.{Kind}
use Rattle.c_tree.specs.declared.tree.ArraySize.{ArraySize}
use Rattle.c_tree.specs.declared.tree.ArraySize.TheVariants as size
use Rattle.c_tree.specs.declared.tree.Param.{Param}
use Rattle.c_tree.specs.declared.tree.Section.{Section}
use Rattle.c_tree.specs.declared.tree.Stmt.{Stmt}
use Rattle.c_tree.specs.declared.tree.StmtNode.{StmtNode, out-StmtNode}
use Rattle.c_tree.specs.declared.tree.ForInit.{ForInit}
use Rattle.c_tree.specs.declared.tree.ForInit.TheOpen.{StmtNode-F, Compound}
use Rattle.c_tree.specs.declared.typed.Callee.{Callee}
use Rattle.c_tree.specs.declared.typed.Slot.{Slot}
use Rattle.c_tree.specs.declared.typed.TypedFunc.{TypedFunc}
use Rattle.c_tree.specs.declared.typed.TypedGlobal.{TypedGlobal}
use Rattle.c_tree.specs.declared.typed.TypedStmt.TheVariants as typed
use Rattle.c_type_expr.specs.declared.meaning.Meaning.{Meaning}
use Rattle.c_type_expr.specs.declared.meaning.Meaning.TheVariants as meaning
use Rattle.c_type_expr.specs.Scope.{Scope, look_up, closed}
use Rattle.c_type_expr.specs.declared.fault.TypeFault.TheVariants.{Twice, Mismatch}
use Rattle.c_type_expr.specs.declared.fault.TypeFault.TheVariants.{TooLarge}
use Rattle.c_constant.specs.Constant.{length_of, word_in}
use Rattle.c_constant.specs.Kinds.{bytes}
use Rattle.c_type_expr.specs.Blames.{Blame, unless}
use Rattle.c_type.specs.declared.file_scope.FileScope.{FileScope}
use Rattle.c_type.specs.declared.state.State.{State}
use Rattle.c_type.specs.States.{is_end, named_among}
use Rattle.c_type.specs.Statements.{Part, part, all_after, all_fault, all_trees}
use Rattle.c_type.specs.FileScopes.{prototype_names, body_entry}

-- PARAMETERS

-- a definition's parameters have names, each its own
abbrev pub name_fault : Bool → Scope → List Param → Option (List ℕ) → ℕ → Blame
name_fault is_def G seen None l = unless (not is_def) (Mismatch l)
name_fault is_def G seen (Some w) l =
    unless (not (named_among seen w || is_end (look_up G w))) (Twice l)

-- no row has more bytes than an array may have
abbrev pub row_bytes_fault : ArraySize → Kind → ℕ → Blame
row_bytes_fault (size.Rows o e) k l =
    unless (nat_le (word_in (length_of e) * bytes k) most_object_bytes) (TooLarge l)
row_bytes_fault _ k l = None

-- SIGNATURES: a call calls the definition that the unit has of the name, wherever it stands

-- what a call of the meaning calls
abbrev pub callee_in : Option Meaning → Option Callee
callee_in (Some (meaning.Function result params callee defined)) = callee
callee_in _ = None

-- a prototype that is repeated declares nothing
abbrev pub with_prototype : Scope → List ℕ → Option Kind → List Slot → Scope → Scope
with_prototype T w given slots G = prototype_names (callee_in (look_up T w)) w given slots G

-- DEFINITIONS

-- the outermost block of a body and the parameters are one scope
abbrev pub body_in : StmtNode-F ForInit StmtNode Section Stmt → Stmt → Part
body_in (Compound ss) s = record {
  after = all_after (map part ss);
  fault = all_fault (map part ss);
  tree = λ v. typed.Compound (all_trees (map part ss) v);
}
body_in _ s = part s

-- what the body of a function does
unfoldable pub body_part : Stmt → Part
body_part s = body_in (out-StmtNode s.node) s

-- the state in which the body of a function begins, by the callee that a table of definitions has
abbrev pub entry : Scope → List ℕ → Option Kind → List Param → Scope → State
entry T w given params G = body_entry (callee_in (look_up T w)) w given params G

-- the function of a body that begins in a state
abbrev pub typed_function : ℕ → Stmt → State → TypedFunc
typed_function count body v = record {
  result = ((body_part body).after v).result;
  params = count;
  scalars = ((body_part body).after v).scalars;
  arrays = ((body_part body).after v).arrays;
  body = (body_part body).tree v;
}

-- the file scope after a body that began in a state
abbrev pub file_with : List TypedGlobal → ℕ → List TypedFunc → ℕ → Stmt → State → FileScope
file_with globals bytes functions count body v = record {
  names = closed ((body_part body).after v).names;
  globals = globals;
  bytes = bytes;
  functions = functions ++ typed_function count body v ∷ [];
}

-- the file scope after a definition
abbrev pub with_definition : Scope → Option Kind → List ℕ → List Param → Stmt → FileScope
    → FileScope
with_definition T given w params body U =
    file_with U.globals U.bytes U.functions (length params) body (entry T w given params U.names)
