-- The names of the scalars of a function, in the order of their numbers: its parameters, and then those of its body in
-- the order of the text (docs/LANGUAGE.md, "Limits" of the typing). A switch has a scalar without a name, whose name
-- is empty here.
use Rattle.std.specs.Prelude.{ℕ, List, [], ◌∷◌, ◌++◌, map, Option, Some, None}
use Rattle.c_tree.specs.declared.tree.ArraySize.{ArraySize}
use Rattle.c_tree.specs.declared.tree.ArraySize.TheVariants as size
use Rattle.c_tree.specs.declared.tree.Param.{Param}
use Rattle.c_tree.specs.declared.tree.Section.{Section, out-Section}
use Rattle.c_tree.specs.declared.tree.Stmt.{Stmt, Stmt-F, fold-Stmt}
use Rattle.c_tree.specs.declared.tree.StmtNode.{StmtNode, fold-StmtNode}
use Rattle.c_tree.specs.declared.tree.ForInit.{ForInit, fold-ForInit}
use Rattle.c_tree.specs.declared.tree.ForInit.TheOpen.{StmtNode-F, ForInit-F, Section-F, Declare}
use Rattle.c_tree.specs.declared.tree.ForInit.TheOpen.{Plain, Switch}
use Rattle.c_tree.specs.declared.tree.ForInit.TheOpen.{Compound, If, While, Do, For, Break}
use Rattle.c_tree.specs.declared.tree.ForInit.TheOpen.{Continue, Return, Nothing, First, Locals}

-- names, one for each scalar
abbrev pub Names : Type 0
Names = List (List ℕ)

-- what a declaration adds: an array is no scalar
abbrev pub declared_names : List ℕ → ArraySize → Names
declared_names w size.Scalar = w ∷ []
declared_names w _ = []

-- those of several, one after another
abbrev pub all_names : List Names → Names
all_names [] = []
all_names (n ∷ ns) = n ++ all_names ns

-- those of an `else`, if there is one
abbrev pub else_names : Option Names → Names
else_names None = []
else_names (Some n) = n

-- those of a statement, where those of its parts are known; the scalar of a switch comes before those in it
abbrev pub node_names : StmtNode-F Names Names Names Names → Names
node_names (Declare k w s init) = declared_names w s
node_names (Plain e) = []
node_names (Compound all) = all_names all
node_names (If test one other) = one ++ else_names other
node_names (While test body) = body
node_names (Do body test) = body
node_names (For init test post body) = init ++ body
node_names (Switch test sections) = [] ∷ all_names sections
node_names Break = []
node_names Continue = []
node_names (Return e) = []

-- those of the first part of a `for`
abbrev pub first_names : ForInit-F Names Names Names Names → Names
first_names Nothing = []
first_names (First e) = []
first_names (Locals all) = all_names all

-- those of a section of a switch
abbrev pub section_names : Section-F Names Names Names Names → Names
section_names x = all_names x.body

-- a statement has those of its node
abbrev pub at_names : Stmt-F Names Names Names Names → Names
at_names s = s.node

-- the names of the scalars that a statement declares, by recursion on it
unfoldable pub names_of : Stmt → Names
names_of s = fold-Stmt Names Names Names Names first_names node_names section_names at_names s

-- those of its node
unfoldable pub names_in_node : StmtNode → Names
names_in_node n = fold-StmtNode Names Names Names Names first_names node_names section_names at_names n

-- those that the first part of a `for` declares
unfoldable pub names_in_first : ForInit → Names
names_in_first i = fold-ForInit Names Names Names Names first_names node_names section_names at_names i

-- those of a section
abbrev pub names_in_section : Section → Names
names_in_section x = all_names (map names_of (out-Section x).body)

-- that of a parameter; one without a name is no scalar
abbrev pub parameter_name : Option (List ℕ) → Names
parameter_name None = []
parameter_name (Some w) = w ∷ []

-- those of parameters
abbrev pub parameter_names : List Param → Names
parameter_names [] = []
parameter_names (p ∷ ps) = parameter_name p.name ++ parameter_names ps

-- those of a function of these parameters and this body
abbrev pub scalar_names : List Param → Stmt → Names
scalar_names params body = parameter_names params ++ names_of body
