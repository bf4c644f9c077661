-- The definitions at each statement.
use Rattle.std.proofs.Common.{◌≡◌, ℕ, List, [], ◌∷◌, map, max, Option, Some, None, sym, ap, ◌∙◌, subst}
use Rattle.std.specs.Prelude.{option_map, Result, Ok, Err}
use Rattle.std.specs.Result.{IsErrAnd}
use Rattle.c_tree.specs.declared.token.Kind.{Kind}
use Rattle.c_tree.specs.declared.tree.ArraySize.{ArraySize}
use Rattle.c_tree.specs.declared.tree.Expr.{Expr}
use Rattle.c_tree.specs.declared.tree.ForInit.{ForInit, fold-ForInit}
use Rattle.c_tree.specs.declared.tree.ForInit.TheOpen.{StmtNode-F}
use Rattle.c_tree.specs.declared.tree.Section.{Section, fold-Section}
use Rattle.c_tree.specs.declared.tree.Stmt.{Stmt, fold_out-Stmt, size-Stmt}
use Rattle.c_tree.specs.declared.tree.StmtNode.{StmtNode, map-StmtNode, fold-roll-StmtNode}
use Rattle.c_tree.specs.declared.tree.StmtNode.{fold-StmtNode, roll-StmtNode}
use Rattle.c_tree.specs.declared.tree.StmtNode.TheVariants as node
use Rattle.c_tree.specs.declared.typed.TypedStmt.{TypedStmt}
use Rattle.c_tree.specs.declared.typed.TypedStmt.TheVariants as typed
use Rattle.c_type_expr.specs.declared.fault.TypeFault.{TypeFault}
use Rattle.c_type_expr.specs.declared.fault.TypeFault.TheVariants.{Mismatch}
use Rattle.c_type_expr.specs.declared.role.Role.TheVariants.{Value, Free}
use Rattle.c_type_expr.specs.Blames.{first, unless}
use Rattle.c_type_expr.specs.Trees.{tree}
use Rattle.c_type_expr.specs.Constants.{full}
use Rattle.c_type_expr.specs.inside.Says.{Stops}
use Rattle.c_type.specs.declared.state.State.{State}
use Rattle.c_type.specs.declared.state.Around.{Around}
use Rattle.c_type.specs.States.{at, entered, left, in_loop}
use Rattle.c_type.specs.LeftOut.{full_if, tree_if}
use Rattle.c_type.specs.Declarations.{declared, declare_fault, declare_tree}
use Rattle.c_type.specs.Statements.{Part, Beginning, part, beginning_of, init_part, node_part, at_offset}
use Rattle.c_type.specs.Statements.{all_after, all_fault, all_trees, else_after, else_fault, else_tree}
use Rattle.c_type.specs.Statements.{rest_fault, for_fault, for_tree, return_fault, return_tree}
use Rattle.c_type.specs.Statements.{SectionPart, section_part, statements_in}
use Rattle.c_type.specs.inside.Runs.{Runs}

-- what is known of a statement, by its offset
abbrev pub A : Type 0
A = ℕ → Part

-- what a statement does is given by its node, whose parts are folded
pub part_by : (l : ℕ) (n : StmtNode) (x : StmtNode-F ForInit StmtNode Section Stmt) → roll-StmtNode x ≡ n
    → part (at l n) ≡ node_part (map-StmtNode ForInit StmtNode Section Stmt Beginning A SectionPart Part
    (fold-ForInit Beginning A SectionPart Part init_part node_part section_part at_offset)
    (fold-StmtNode Beginning A SectionPart Part init_part node_part section_part at_offset)
    (fold-Section Beginning A SectionPart Part init_part node_part section_part at_offset) part x) l
unfolding part
part_by l n x e =
    fold_out-Stmt Beginning A SectionPart Part init_part node_part section_part at_offset (at l n)
    ∙ ap (λ (m : StmtNode). fold-StmtNode Beginning A SectionPart Part init_part node_part section_part at_offset m l)
    (sym e)
    ∙ ap (λ (f : A). f l)
    (fold-roll-StmtNode Beginning A SectionPart Part init_part node_part section_part at_offset x)

-- the measure of a list of statements, and of a leg that may be left out
abbrev pub deepest : List Stmt → ℕ
deepest [] = 0
deepest (s ∷ ss) = max (size-Stmt s) (deepest ss)

-- the greatest size of a statement in some sections of a switch
abbrev pub deepest_in : List Section → ℕ
deepest_in [] = 0
deepest_in (x ∷ xs) = max (deepest (statements_in x)) (deepest_in xs)

-- the size of the statement behind `else`, if there is one
abbrev pub else_size : Option Stmt → ℕ
else_size None = 0
else_size (Some s) = size-Stmt s

-- a declaration: the state after it, its first fault and its tree
pub after-Declare : (l : ℕ) (k : Kind) (w : List ℕ) (size : ArraySize) (init : Option Expr) (v : State)
    → (part (at l (node.Declare k w size init))).after v ≡ declared size k w v
after-Declare l k w size init v =
    ap (λ (p : Part). p.after v) (part_by l _ (StmtNode-F.Declare k w size init) (node.rolls-Declare k w size init))

-- The first fault of a declaration.
pub fault-Declare : (l : ℕ) (k : Kind) (w : List ℕ) (size : ArraySize) (init : Option Expr) (b : Around) (v : State)
    → (part (at l (node.Declare k w size init))).fault b v ≡ declare_fault size k w init l v
fault-Declare l k w size init b v =
    ap (λ (p : Part). p.fault b v) (part_by l _ (StmtNode-F.Declare k w size init) (node.rolls-Declare k w size init))

-- The typed tree of a declaration.
pub tree-Declare : (l : ℕ) (k : Kind) (w : List ℕ) (size : ArraySize) (init : Option Expr) (v : State)
    → (part (at l (node.Declare k w size init))).tree v ≡ declare_tree size k w init v
tree-Declare l k w size init v =
    ap (λ (p : Part). p.tree v) (part_by l _ (StmtNode-F.Declare k w size init) (node.rolls-Declare k w size init))

pub ruleset on_declare = (after-Declare, fault-Declare, tree-Declare)

-- an expression statement: the state after it, its first fault and its tree
pub after-Plain : (l : ℕ) (e : Option Expr) (v : State) → (part (at l (node.Plain e))).after v ≡ v
after-Plain l e v = ap (λ (p : Part). p.after v) (part_by l _ (StmtNode-F.Plain e) (node.rolls-Plain e))

-- The first fault of an expression as a statement.
pub fault-Plain : (l : ℕ) (e : Option Expr) (b : Around) (v : State)
    → (part (at l (node.Plain e))).fault b v ≡ full_if e Free v.names
fault-Plain l e b v = ap (λ (p : Part). p.fault b v) (part_by l _ (StmtNode-F.Plain e) (node.rolls-Plain e))

-- The typed tree of an expression as a statement.
pub tree-Plain : (l : ℕ) (e : Option Expr) (v : State)
    → (part (at l (node.Plain e))).tree v ≡ typed.Plain (tree_if e v.names)
tree-Plain l e v = ap (λ (p : Part). p.tree v) (part_by l _ (StmtNode-F.Plain e) (node.rolls-Plain e))

pub ruleset on_plain = (after-Plain, fault-Plain, tree-Plain)

-- a block: the state after it, its first fault and its tree
pub after-Compound : (l : ℕ) (ss : List Stmt) (v : State)
    → (part (at l (node.Compound ss))).after v ≡ left (all_after (map part ss) (entered v))
after-Compound l ss v = ap (λ (p : Part). p.after v) (part_by l _ (StmtNode-F.Compound ss) (node.rolls-Compound ss))

-- The first fault of a block.
pub fault-Compound : (l : ℕ) (ss : List Stmt) (b : Around) (v : State)
    → (part (at l (node.Compound ss))).fault b v ≡ all_fault (map part ss) b (entered v)
fault-Compound l ss b v =
    ap (λ (p : Part). p.fault b v) (part_by l _ (StmtNode-F.Compound ss) (node.rolls-Compound ss))

-- The typed tree of a block.
pub tree-Compound : (l : ℕ) (ss : List Stmt) (v : State)
    → (part (at l (node.Compound ss))).tree v ≡ typed.Compound (all_trees (map part ss) (entered v))
tree-Compound l ss v = ap (λ (p : Part). p.tree v) (part_by l _ (StmtNode-F.Compound ss) (node.rolls-Compound ss))

pub ruleset on_compound = (after-Compound, fault-Compound, tree-Compound)

-- a `while`: the state after it, its first fault and its tree
pub after-While : (l : ℕ) (test : Expr) (body : Stmt) (v : State)
    → (part (at l (node.While test body))).after v ≡ (part body).after v
after-While l test body v =
    ap (λ (p : Part). p.after v) (part_by l _ (StmtNode-F.While test body) (node.rolls-While test body))

-- The first fault of a `while`.
pub fault-While : (l : ℕ) (test : Expr) (body : Stmt) (b : Around) (v : State)
    → (part (at l (node.While test body))).fault b v ≡ first (full test Value v.names) ((part body).fault in_loop v)
fault-While l test body b v =
    ap (λ (p : Part). p.fault b v) (part_by l _ (StmtNode-F.While test body) (node.rolls-While test body))

-- The typed tree of a `while`.
pub tree-While : (l : ℕ) (test : Expr) (body : Stmt) (v : State)
    → (part (at l (node.While test body))).tree v ≡ typed.While (tree test v.names) ((part body).tree v)
tree-While l test body v =
    ap (λ (p : Part). p.tree v) (part_by l _ (StmtNode-F.While test body) (node.rolls-While test body))

pub ruleset on_while = (after-While, fault-While, tree-While)

-- a `do`: the state after it, its first fault and its tree
pub after-Do : (l : ℕ) (body : Stmt) (test : Expr) (v : State)
    → (part (at l (node.Do body test))).after v ≡ (part body).after v
after-Do l body test v =
    ap (λ (p : Part). p.after v) (part_by l _ (StmtNode-F.Do body test) (node.rolls-Do body test))

-- The first fault of a `do`.
pub fault-Do : (l : ℕ) (body : Stmt) (test : Expr) (b : Around) (v : State)
    → (part (at l (node.Do body test))).fault b v ≡ first ((part body).fault in_loop v)
    (full test Value ((part body).after v).names)
fault-Do l body test b v =
    ap (λ (p : Part). p.fault b v) (part_by l _ (StmtNode-F.Do body test) (node.rolls-Do body test))

-- The typed tree of a `do`.
pub tree-Do : (l : ℕ) (body : Stmt) (test : Expr) (v : State)
    → (part (at l (node.Do body test))).tree v ≡ typed.Do ((part body).tree v) (tree test ((part body).after v).names)
tree-Do l body test v = ap (λ (p : Part). p.tree v) (part_by l _ (StmtNode-F.Do body test) (node.rolls-Do body test))

pub ruleset on_do = (after-Do, fault-Do, tree-Do)

-- a `for`: the state after it, its first fault and its tree
pub after-For : (l : ℕ) (init : ForInit) (test post : Option Expr) (body : Stmt) (v : State)
    → (part (at l (node.For init test post body))).after v ≡ left
    ((part body).after ((beginning_of init).after (entered v)))
unfolding beginning_of
after-For l init test post body v =
    ap (λ (p : Part). p.after v) (part_by l _ (StmtNode-F.For init test post body)
    (node.rolls-For init test post body))

-- The first fault of a `for`.
pub fault-For : (l : ℕ) (init : ForInit) (test post : Option Expr) (body : Stmt) (b : Around) (v : State)
    → (part (at l (node.For init test post body))).fault b v ≡ for_fault (beginning_of init) test post (part body) b
    (entered v)
unfolding beginning_of
fault-For l init test post body b v =
    ap (λ (p : Part). p.fault b v) (part_by l _ (StmtNode-F.For init test post body)
    (node.rolls-For init test post body))

-- The typed tree of a `for`.
pub tree-For : (l : ℕ) (init : ForInit) (test post : Option Expr) (body : Stmt) (v : State)
    → (part (at l (node.For init test post body))).tree v ≡ for_tree (beginning_of init) test post (part body)
    (entered v)
unfolding beginning_of
tree-For l init test post body v =
    ap (λ (p : Part). p.tree v) (part_by l _ (StmtNode-F.For init test post body)
    (node.rolls-For init test post body))

pub ruleset on_for = (after-For, fault-For, tree-For)

-- a `break`: the state after it, its first fault and its tree
pub after-Break : (l : ℕ) (v : State) → (part (at l node.Break)).after v ≡ v
after-Break l v = ap (λ (p : Part). p.after v) (part_by l _ StmtNode-F.Break node.rolls-Break)

-- The first fault of a break.
pub fault-Break : (l : ℕ) (b : Around) (v : State)
    → (part (at l node.Break)).fault b v ≡ unless b.may_break (Mismatch l)
fault-Break l b v = ap (λ (p : Part). p.fault b v) (part_by l _ StmtNode-F.Break node.rolls-Break)

-- The typed tree of a break.
pub tree-Break : (l : ℕ) (v : State) → (part (at l node.Break)).tree v ≡ typed.Break
tree-Break l v = ap (λ (p : Part). p.tree v) (part_by l _ StmtNode-F.Break node.rolls-Break)

pub ruleset on_break = (after-Break, fault-Break, tree-Break)

-- a `continue`: the state after it, its first fault and its tree
pub after-Continue : (l : ℕ) (v : State) → (part (at l node.Continue)).after v ≡ v
after-Continue l v = ap (λ (p : Part). p.after v) (part_by l _ StmtNode-F.Continue node.rolls-Continue)

-- The first fault of a continue.
pub fault-Continue : (l : ℕ) (b : Around) (v : State)
    → (part (at l node.Continue)).fault b v ≡ unless b.may_continue (Mismatch l)
fault-Continue l b v = ap (λ (p : Part). p.fault b v) (part_by l _ StmtNode-F.Continue node.rolls-Continue)

-- The typed tree of a continue.
pub tree-Continue : (l : ℕ) (v : State) → (part (at l node.Continue)).tree v ≡ typed.Continue
tree-Continue l v = ap (λ (p : Part). p.tree v) (part_by l _ StmtNode-F.Continue node.rolls-Continue)

pub ruleset on_continue = (after-Continue, fault-Continue, tree-Continue)

-- a `return`: the state after it, its first fault and its tree
pub after-Return : (l : ℕ) (e : Option Expr) (v : State) → (part (at l (node.Return e))).after v ≡ v
after-Return l e v = ap (λ (p : Part). p.after v) (part_by l _ (StmtNode-F.Return e) (node.rolls-Return e))

-- The first fault of a return.
pub fault-Return : (l : ℕ) (e : Option Expr) (b : Around) (v : State)
    → (part (at l (node.Return e))).fault b v ≡ first (full_if e Value v.names) (return_fault v.result e l)
fault-Return l e b v = ap (λ (p : Part). p.fault b v) (part_by l _ (StmtNode-F.Return e) (node.rolls-Return e))

-- The typed tree of a return.
pub tree-Return : (l : ℕ) (e : Option Expr) (v : State)
    → (part (at l (node.Return e))).tree v ≡ typed.Return (return_tree v.result e v.names)
tree-Return l e v = ap (λ (p : Part). p.tree v) (part_by l _ (StmtNode-F.Return e) (node.rolls-Return e))

pub ruleset on_return = (after-Return, fault-Return, tree-Return)

-- an `if`: the state after it, its first fault and its tree
pub after-If : (l : ℕ) (test : Expr) (one : Stmt) (other : Option Stmt) (v : State)
    → (part (at l (node.If test one other))).after v ≡ else_after (option_map part other) ((part one).after v)
after-If l test one None v =
    ap (λ (p : Part). p.after v) (part_by l _ (StmtNode-F.If test one None) (node.rolls-If test one None))
after-If l test one (Some s) v =
    ap (λ (p : Part). p.after v) (part_by l _ (StmtNode-F.If test one (Some s)) (node.rolls-If test one (Some s)))

-- The first fault of an if.
pub fault-If : (l : ℕ) (test : Expr) (one : Stmt) (other : Option Stmt) (b : Around) (v : State)
    → (part (at l (node.If test one other))).fault b v ≡ first (full test Value v.names)
    (first ((part one).fault b v) (else_fault (option_map part other) b ((part one).after v)))
fault-If l test one None b v =
    ap (λ (p : Part). p.fault b v) (part_by l _ (StmtNode-F.If test one None) (node.rolls-If test one None))
fault-If l test one (Some s) b v =
    ap (λ (p : Part). p.fault b v) (part_by l _ (StmtNode-F.If test one (Some s)) (node.rolls-If test one (Some s)))

-- The typed tree of an if.
pub tree-If : (l : ℕ) (test : Expr) (one : Stmt) (other : Option Stmt) (v : State)
    → (part (at l (node.If test one other))).tree v ≡ typed.If (tree test v.names) ((part one).tree v)
    (else_tree (option_map part other) ((part one).after v))
tree-If l test one None v =
    ap (λ (p : Part). p.tree v) (part_by l _ (StmtNode-F.If test one None) (node.rolls-If test one None))
tree-If l test one (Some s) v =
    ap (λ (p : Part). p.tree v) (part_by l _ (StmtNode-F.If test one (Some s)) (node.rolls-If test one (Some s)))

pub ruleset on_if = (after-If, fault-If, tree-If)

-- where the test has no fault, an `if`'s fault is that of its legs
pub if_next : (l : ℕ) (test : Expr) (one : Stmt) (other : Option Stmt) (b : Around) (v : State)
    → full test Value v.names ≡ None
    → (part (at l (node.If test one other))).fault b v ≡ first ((part one).fault b v)
    (else_fault (option_map part other) b ((part one).after v))
if_next l test one other b v e =
    fault-If l test one other b v
    ∙ ap (λ f. first f (first ((part one).fault b v) (else_fault (option_map part other) b ((part one).after v)))) e

-- where the test has no fault, a `while`'s fault is that of its body
pub while_next : (l : ℕ) (test : Expr) (body : Stmt) (b : Around) (v : State) → full test Value v.names ≡ None
    → (part (at l (node.While test body))).fault b v ≡ (part body).fault in_loop v
while_next l test body b v e = fault-While l test body b v ∙ ap (λ f. first f ((part body).fault in_loop v)) e

-- where the body has no fault, a `do`'s fault is that of its test
pub do_next : (l : ℕ) (body : Stmt) (test : Expr) (b : Around) (v : State) → (part body).fault in_loop v ≡ None
    → (part (at l (node.Do body test))).fault b v ≡ full test Value ((part body).after v).names
do_next l body test b v e =
    fault-Do l body test b v ∙ ap (λ f. first f (full test Value ((part body).after v).names)) e

-- where the first part has no fault, a `for`'s fault is that of the rest
pub for_next : (l : ℕ) (init : ForInit) (test post : Option Expr) (body : Stmt) (b : Around) (v : State)
    → (beginning_of init).fault b (entered v) ≡ None
    → (part (at l (node.For init test post body))).fault b v ≡ rest_fault test post (part body)
    ((beginning_of init).after (entered v))
for_next l init test post body b v e =
    fault-For l init test post body b v
    ∙ ap (λ f. first f (rest_fault test post (part body) ((beginning_of init).after (entered v)))) e

-- an error that is handed on keeps its cause
pub stopped : (p : Part) (b : Around) (old new : State) (r : Result TypedStmt TypeFault) (e : TypeFault)
    → IsErrAnd r (λ x. x ≡ e) → Stops (p.fault b old) e → Runs p b old new r
stopped p b old new (Ok t) e h s = absurd h
stopped p b old new (Err x) e h s = subst (Stops (p.fault b old)) (sym h) s
