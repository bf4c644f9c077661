-- Where the functions of a unit are defined, in the order of the text.
use Rattle.std.specs.Prelude.{ℕ, List, [], ◌∷◌, Option, Some, None}
use Rattle.std.specs.List.{flat_map}
use Rattle.c_tree.specs.declared.tree.Stmt.{Stmt}
use Rattle.c_tree.specs.declared.tree.Top.{Top}
use Rattle.c_tree.specs.declared.tree.TopNode.{TopNode}
use Rattle.c_tree.specs.declared.tree.TopNode.TheVariants as top

-- the place of a function that has a body
abbrev pub with_body : ℕ → Option Stmt → List ℕ
with_body at None = []
with_body at (Some body) = at ∷ []

-- the place of an item that defines a function
abbrev pub defined_by : ℕ → TopNode → List ℕ
defined_by at (top.Func result name params body) = with_body at body
defined_by at _ = []

-- the same of an item
abbrev pub definition_of : Top → List ℕ
definition_of t = defined_by t.offset t.node

-- the offsets of the functions that some items define, each of its name
abbrev pub definitions_of : List Top → List ℕ
definitions_of items = flat_map definition_of items
