-- Typed statements level by level, as plain data.
use Rattle.std.proofs.Common.{◌≡◌, ℕ, List, [], ◌∷◌, map, Option, Some, None, refl, sym, ap, ◌∙◌}
use Rattle.c_tree.specs.declared.Place.{Place}
use Rattle.c_tree.specs.declared.TypedExpr.{TypedExpr}
use Rattle.c_tree.specs.declared.TypedStmt.{TypedStmt, map-TypedStmt, fold-TypedStmt}
use Rattle.c_tree.specs.declared.TypedStmt.{fold-roll-TypedStmt, roll-TypedStmt}
use Rattle.c_tree.specs.declared.TypedStmt.TheVariants as node
use Rattle.c_tree.specs.declared.TypedForInit.{TypedForInit, map-TypedForInit, fold-TypedForInit}
use Rattle.c_tree.specs.declared.TypedForInit.{fold-roll-TypedForInit, roll-TypedForInit}
use Rattle.c_tree.specs.declared.TypedForInit.TheVariants as init
use Rattle.c_tree.specs.declared.TypedForInit.TheOpen.{TypedStmt-F, TypedForInit-F}
use Rattle.c_tree.specs.declared.TypedSection.{TypedSection, fold-TypedSection, fold_out-TypedSection}
use Rattle.flat_lower.specs.inside.Tree.{Stmt, Declare, Plain, Compound, If, While, Do, For, Break}
use Rattle.flat_lower.specs.inside.Tree.{Switch, Continue, Return, First, Nothing, FirstOf, Locals}
use Rattle.flat_lower.specs.inside.TreeViews.{expr_of, expr_if, stmt_by, first_by, stmt_of, Section}
use Rattle.flat_lower.specs.inside.TreeViews.{sections_of, section_by}
use Rattle.flat_lower.specs.inside.Emitted.{block_of, first_of, other_of, section_of, sections_in}

-- a section by the fold of the whole
abbrev section_fold : TypedSection → Section
section_fold x = fold-TypedSection First Stmt Section first_by stmt_by section_by x

-- is that of its statements
fold_section : (x : TypedSection) → section_fold x ≡ section_of x
unfolding stmt_of
fold_section x = fold_out-TypedSection First Stmt Section first_by stmt_by section_by x

all_sections : (xs : List TypedSection) → map section_fold xs ≡ map section_of xs
all_sections [] = refl
all_sections (x ∷ xs) =
    ap (λ (y : Section). y ∷ map section_fold xs) (fold_section x)
    ∙ ap (λ (ys : List Section). section_of x ∷ ys) (all_sections xs)

stmt_is : (x : TypedStmt-F TypedForInit TypedStmt TypedSection) (s : TypedStmt) → roll-TypedStmt x ≡ s
    → stmt_of s ≡ stmt_by (map-TypedStmt TypedForInit TypedStmt TypedSection First Stmt Section first_of
    stmt_of section_fold x)
unfolding stmt_of first_of
stmt_is x s e = ap (fold-TypedStmt First Stmt Section first_by stmt_by section_by) (sym e)
    ∙ fold-roll-TypedStmt First Stmt Section first_by stmt_by section_by x

first_is : (x : TypedForInit-F TypedForInit TypedStmt TypedSection) (i : TypedForInit)
    → roll-TypedForInit x ≡ i
    → first_of i ≡ first_by (map-TypedForInit TypedForInit TypedStmt TypedSection First Stmt Section
    first_of stmt_of section_fold x)
unfolding stmt_of first_of
first_is x i e = ap (fold-TypedForInit First Stmt Section first_by stmt_by section_by) (sym e)
    ∙ fold-roll-TypedForInit First Stmt Section first_by stmt_by section_by x

-- What a declaration is as plain data.
pub stmt-Declare : (p : Place) (e : Option TypedExpr)
    → stmt_of (node.Declare p e) ≡ Declare p (expr_if e)
stmt-Declare p e = stmt_is (TypedStmt-F.Declare p e) _ (node.rolls-Declare p e)

-- What an expression as a statement is as plain data.
pub stmt-Plain : (e : Option TypedExpr) → stmt_of (node.Plain e) ≡ Plain (expr_if e)
stmt-Plain e = stmt_is (TypedStmt-F.Plain e) _ (node.rolls-Plain e)

-- What a block is as plain data.
pub stmt-Compound : (all : List TypedStmt) → stmt_of (node.Compound all) ≡ Compound (block_of all)
stmt-Compound all = stmt_is (TypedStmt-F.Compound all) _ (node.rolls-Compound all)

-- What an if is as plain data.
pub stmt-If : (t : TypedExpr) (y : TypedStmt) (n : Option TypedStmt)
    → stmt_of (node.If t y n) ≡ If (expr_of t) (stmt_of y) (other_of n)
stmt-If t y None = stmt_is (TypedStmt-F.If t y None) _ (node.rolls-If t y None)
stmt-If t y (Some n) = stmt_is (TypedStmt-F.If t y (Some n)) _ (node.rolls-If t y (Some n))

-- What a `while` is as plain data.
pub stmt-While : (t : TypedExpr) (b : TypedStmt)
    → stmt_of (node.While t b) ≡ While (expr_of t) (stmt_of b)
stmt-While t b = stmt_is (TypedStmt-F.While t b) _ (node.rolls-While t b)

-- What a `do` is as plain data.
pub stmt-Do : (b : TypedStmt) (t : TypedExpr) → stmt_of (node.Do b t) ≡ Do (stmt_of b) (expr_of t)
stmt-Do b t = stmt_is (TypedStmt-F.Do b t) _ (node.rolls-Do b t)

-- What a `for` is as plain data.
pub stmt-For : (i : TypedForInit) (t p : Option TypedExpr) (b : TypedStmt)
    → stmt_of (node.For i t p b) ≡ For (first_of i) (expr_if t) (expr_if p) (stmt_of b)
stmt-For i t p b = stmt_is (TypedStmt-F.For i t p b) _ (node.rolls-For i t p b)

-- What a switch is as plain data.
pub stmt-Switch : (i : ℕ) (t : TypedExpr) (xs : List TypedSection)
    → stmt_of (node.Switch i t xs) ≡ Switch (expr_of t) (sections_in xs)
stmt-Switch i t xs = stmt_is (TypedStmt-F.Switch i t xs) _ (node.rolls-Switch i t xs)
    ∙ ap (λ ys. Switch (expr_of t) (sections_of ys)) (all_sections xs)

-- What a break is as plain data.
pub stmt-Break : stmt_of node.Break ≡ Break
stmt-Break = stmt_is TypedStmt-F.Break _ node.rolls-Break

-- What a continue is as plain data.
pub stmt-Continue : stmt_of node.Continue ≡ Continue
stmt-Continue = stmt_is TypedStmt-F.Continue _ node.rolls-Continue

-- What a return is as plain data.
pub stmt-Return : (e : Option TypedExpr) → stmt_of (node.Return e) ≡ Return (expr_if e)
stmt-Return e = stmt_is (TypedStmt-F.Return e) _ (node.rolls-Return e)

-- What a `for` that begins with nothing is as plain data.
pub first-Nothing : first_of init.Nothing ≡ Nothing
first-Nothing = first_is TypedForInit-F.Nothing _ init.rolls-Nothing

-- What a `for` that begins with an expression is as plain data.
pub first-First : (e : TypedExpr) → first_of (init.First e) ≡ FirstOf (expr_of e)
first-First e = first_is (TypedForInit-F.First e) _ (init.rolls-First e)

-- What a `for` that begins with declarations is as plain data.
pub first-Locals : (all : List TypedStmt) → first_of (init.Locals all) ≡ Locals (block_of all)
first-Locals all = first_is (TypedForInit-F.Locals all) _ (init.rolls-Locals all)
