-- Statements (C17 6.8): the first fault, the typed tree, and the state after them.
use Rattle.std.specs.Prelude.{ℕ, nat_lt, length, map, List, [], ◌∷◌, ◌++◌, Option, Some, None}
use Rattle.c_tree.specs.declared.token.Kind.{Kind}
use Rattle.c_tree.specs.declared.tree.Expr.{Expr}
use Rattle.c_tree.specs.declared.tree.Label.{Label}
use Rattle.c_tree.specs.declared.tree.Section.{Section, out-Section}
use Rattle.c_tree.specs.declared.tree.Stmt.{Stmt, Stmt-F, fold-Stmt}
use Rattle.c_tree.specs.declared.tree.ForInit.{ForInit, fold-ForInit}
use Rattle.c_tree.specs.declared.tree.ForInit.TheOpen.{StmtNode-F, ForInit-F, Section-F, Declare}
use Rattle.c_tree.specs.declared.tree.ForInit.TheOpen.{Plain, Switch}
use Rattle.c_tree.specs.declared.tree.ForInit.TheOpen.{Compound, If, While, Do, For, Break}
use Rattle.c_tree.specs.declared.tree.ForInit.TheOpen.{Continue, Return, Nothing, First, Locals}
use Rattle.c_tree.specs.declared.typed.TypedExpr.{TypedExpr}
use Rattle.c_tree.specs.declared.typed.TypedSection.{TypedSection}
use Rattle.c_tree.specs.declared.typed.TypedStmt.{TypedStmt}
use Rattle.c_tree.specs.declared.typed.TypedStmt.TheVariants as typed
use Rattle.c_tree.specs.declared.typed.TypedForInit.{TypedForInit}
use Rattle.c_tree.specs.declared.typed.TypedForInit.TheVariants as typed_init
use Rattle.c_type_expr.specs.Scope.{Scope}
use Rattle.c_tree.specs.Limits.{most_scalars}
use Rattle.c_type_expr.specs.declared.fault.TypeFault.TheVariants.{Mismatch, TooManyScalars}
use Rattle.c_type_expr.specs.declared.role.Role.TheVariants.{Value, Free}
use Rattle.c_type_expr.specs.Blames.{Blame, first, unless}
use Rattle.c_constant.specs.Kinds.{promoted}
use Rattle.c_type_expr.specs.Trees.{tree}
use Rattle.c_type_expr.specs.Conversions.{kind_of, with_convert}
use Rattle.c_type_expr.specs.Constants.{full}
use Rattle.c_type.specs.declared.state.State.{State}
use Rattle.c_type.specs.declared.state.Around.{Around}
use Rattle.c_type.specs.States.{entered, left, with_switch, in_loop, in_switch}
use Rattle.c_type.specs.LeftOut.{full_if, tree_if, value_of}
use Rattle.c_type.specs.Declarations.{declare_fault, declared, declare_tree}
pub use Rattle.c_type.specs.Labels.{word_if, label_word, same_label, label_among, case_fault, label_fault}
pub use Rattle.c_type.specs.Labels.{labels_fault}

-- what a statement does to the state, its first fault (by what is around it) and its tree
pub record Part : Type 0 where
  -- its declarations are in scope, and counted
  pub after : State → State
  -- by the place in which it stands, in a loop, in a switch or in neither
  pub fault : Around → State → Blame
  -- of use only where it has no fault
  pub tree : State → TypedStmt

-- the same of the first part of a `for`
pub record Beginning : Type 0 where
  -- its declarations are in scope in the whole `for`
  pub after : State → State
  pub fault : Around → State → Blame
  pub tree : State → TypedForInit

-- a section of a switch: its labels, and what its statements do
pub record SectionPart : Type 0 where
  -- in the order of the text
  pub labels : List Label
  pub body : List Part

-- the state after several statements
abbrev pub all_after : List Part → State → State
all_after [] v = v
all_after (p ∷ ps) v = all_after ps (p.after v)

-- the first fault of several
abbrev pub all_fault : List Part → Around → State → Blame
all_fault [] b v = None
all_fault (p ∷ ps) b v = first (p.fault b v) (all_fault ps b (p.after v))

-- the typed trees of several
abbrev pub all_trees : List Part → State → List TypedStmt
all_trees [] v = []
all_trees (p ∷ ps) v = p.tree v ∷ all_trees ps (p.after v)

-- the state after an `else` that may be left out
abbrev pub else_after : Option Part → State → State
else_after None v = v
else_after (Some p) v = p.after v

-- its first fault
abbrev pub else_fault : Option Part → Around → State → Blame
else_fault None b v = None
else_fault (Some p) b v = p.fault b v

-- its typed tree
abbrev pub else_tree : Option Part → State → Option TypedStmt
else_tree None v = None
else_tree (Some p) v = Some (p.tree v)

-- a return has a value exactly in a function that gives one
abbrev pub return_fault : Option Kind → Option Expr → ℕ → Blame
return_fault None None l = None
return_fault None (Some e) l = Some (Mismatch l)
return_fault (Some k) None l = Some (Mismatch l)
return_fault (Some k) (Some e) l = None

-- the typed return: its value converts to the result
abbrev pub return_tree : Option Kind → Option Expr → Scope → Option TypedExpr
return_tree None e G = tree_if e G
return_tree (Some k) e G = value_of e k G

-- a `do`: its body comes before its test
abbrev pub do_part : Part → Expr → Part
do_part body test = record {
  after = body.after;
  fault = λ b v. first (body.fault in_loop v) (full test Value (body.after v).names);
  tree = λ v. typed.Do (body.tree v) (tree test (body.after v).names);
}

-- a `for` is a block of its own, which holds its first part
abbrev pub tail_fault : Option Expr → Part → State → Blame
tail_fault post body v = first (full_if post Free v.names) (body.fault in_loop v)

-- the first fault behind the first part
abbrev pub rest_fault : Option Expr → Option Expr → Part → State → Blame
rest_fault test post body v = first (full_if test Value v.names) (tail_fault post body v)

-- the first fault of a `for`
abbrev pub for_fault : Beginning → Option Expr → Option Expr → Part → Around → State → Blame
for_fault init test post body b v =
    first (init.fault b v) (rest_fault test post body (init.after v))

-- the typed `for`
abbrev pub for_tree : Beginning → Option Expr → Option Expr → Part → State → TypedStmt
for_tree init test post body v =
    typed.For (init.tree v) (tree_if test (init.after v).names) (tree_if post (init.after v).names)
    (body.tree (init.after v))

-- a `for`
abbrev pub for_part : Beginning → Option Expr → Option Expr → Part → Part
for_part init test post body = record {
  after = λ v. left (body.after (init.after (entered v)));
  fault = λ b v. for_fault init test post body b (entered v);
  tree = λ v. for_tree init test post body (entered v);
}

-- SWITCHES

-- the type to which the test of a switch is promoted
abbrev pub switch_kind : Expr → Scope → Kind
switch_kind test G = promoted (kind_of (tree test G))

-- the first fault of a section behind these labels: its labels come before its statements
abbrev pub section_fault : Kind → List (Option ℕ) → SectionPart → Around → State → Blame
section_fault k seen x b v =
    first (labels_fault k seen x.labels v.names) (all_fault x.body b v)

-- the first fault of some sections
abbrev pub sections_fault : Kind → List (Option ℕ) → List SectionPart → Around → State → Blame
sections_fault k seen [] b v = None
sections_fault k seen (x ∷ xs) b v =
    first (section_fault k seen x b v)
    (sections_fault k (seen ++ map (label_word k) x.labels) xs b (all_after x.body v))

-- the state after them
abbrev pub sections_after : List SectionPart → State → State
sections_after [] v = v
sections_after (x ∷ xs) v = sections_after xs (all_after x.body v)

-- the typed section of a type
abbrev pub section_tree : Kind → SectionPart → State → TypedSection
section_tree k x v = record {
  labels = map (label_word k) x.labels;
  body = all_trees x.body v;
}

-- the typed sections
abbrev pub sections_trees : Kind → List SectionPart → State → List TypedSection
sections_trees k [] v = []
sections_trees k (x ∷ xs) v = section_tree k x v ∷ sections_trees k xs (all_after x.body v)

-- a switch: its test, then the scalar that it counts, then its sections
abbrev pub switch_fault : Expr → List SectionPart → ℕ → Around → State → Blame
switch_fault test xs l b v =
    first (full test Value v.names)
    (first (unless (nat_lt (length v.scalars) most_scalars) (TooManyScalars l))
    (sections_fault (switch_kind test v.names) [] xs (in_switch b)
    (with_switch (switch_kind test v.names) v)))

-- the typed switch: its test is promoted
abbrev pub switch_tree : Expr → List SectionPart → State → TypedStmt
switch_tree test xs v =
    let k = switch_kind test v.names in
    typed.Switch (length v.scalars) (with_convert k (tree test v.names))
    (sections_trees k xs (with_switch k v))

-- a switch
abbrev pub switch_part : Expr → List SectionPart → ℕ → Part
switch_part test xs l = record {
  after = λ v. sections_after xs (with_switch (switch_kind test v.names) v);
  fault = switch_fault test xs l;
  tree = switch_tree test xs;
}

-- what a node of that offset does
abbrev pub node_part : StmtNode-F Beginning (ℕ → Part) SectionPart Part → ℕ → Part
node_part (Declare k w size init) l = record {
  after = declared size k w;
  fault = λ b v. declare_fault size k w init l v;
  tree = declare_tree size k w init;
}
node_part (Plain e) l = record {
  after = λ v. v;
  fault = λ b v. full_if e Free v.names;
  tree = λ v. typed.Plain (tree_if e v.names);
}
node_part (Compound ps) l = record {
  after = λ v. left (all_after ps (entered v));
  fault = λ b v. all_fault ps b (entered v);
  tree = λ v. typed.Compound (all_trees ps (entered v));
}
node_part (If test one other) l = record {
  after = λ v. else_after other (one.after v);
  fault = λ b v. first (full test Value v.names)
      (first (one.fault b v) (else_fault other b (one.after v)));
  tree = λ v. typed.If (tree test v.names) (one.tree v) (else_tree other (one.after v));
}
node_part (While test body) l = record {
  after = body.after;
  fault = λ b v. first (full test Value v.names) (body.fault in_loop v);
  tree = λ v. typed.While (tree test v.names) (body.tree v);
}
node_part (Do body test) l = do_part body test
node_part (For init test post body) l = for_part init test post body
node_part (Switch test sections) l = switch_part test sections l
node_part Break l = record {
  after = λ v. v;
  fault = λ b v. unless b.may_break (Mismatch l);
  tree = λ v. typed.Break;
}
node_part Continue l = record {
  after = λ v. v;
  fault = λ b v. unless b.may_continue (Mismatch l);
  tree = λ v. typed.Continue;
}
node_part (Return e) l = record {
  after = λ v. v;
  fault = λ b v. first (full_if e Value v.names) (return_fault v.result e l);
  tree = λ v. typed.Return (return_tree v.result e v.names);
}

-- what the first part of a `for` does
abbrev pub init_part : ForInit-F Beginning (ℕ → Part) SectionPart Part → Beginning
init_part Nothing = record { after = λ v. v; fault = λ b v. None; tree = λ v. typed_init.Nothing }
init_part (First e) = record {
  after = λ v. v;
  fault = λ b v. full e Free v.names;
  tree = λ v. typed_init.First (tree e v.names);
}
init_part (Locals ps) = record {
  after = all_after ps;
  fault = all_fault ps;
  tree = λ v. typed_init.Locals (all_trees ps v);
}

-- a section has its labels, and what its statements do
abbrev pub section_part : Section-F Beginning (ℕ → Part) SectionPart Part → SectionPart
section_part x = record { labels = x.labels; body = x.body }

-- a statement, whose node has its offset
abbrev pub at_offset : Stmt-F Beginning (ℕ → Part) SectionPart Part → Part
at_offset s = s.node s.offset

-- what a statement does, by recursion on it
unfoldable pub part : Stmt → Part
part s = fold-Stmt Beginning (ℕ → Part) SectionPart Part init_part node_part section_part at_offset s

-- the labels of a section
abbrev pub labels_in : Section → List Label
labels_in x = (out-Section x).labels

-- its statements
abbrev pub statements_in : Section → List Stmt
statements_in x = (out-Section x).body

-- what the first part of a `for` does, by recursion on it
unfoldable pub beginning_of : ForInit → Beginning
beginning_of i =
    fold-ForInit Beginning (ℕ → Part) SectionPart Part init_part node_part section_part at_offset i
