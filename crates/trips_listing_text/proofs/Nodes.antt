-- The names that each statement declares, by those of its parts.
use Rattle.std.proofs.Common.{◌≡◌, ℕ, List, [], ◌∷◌, ◌++◌, map, Option, Some, None, refl, sym, ap, ◌∙◌}
use Rattle.std.specs.Prelude.{option_map}
use Rattle.std.proofs.lemmas.List.{append-nil}
use Rattle.c_tree.specs.declared.token.Kind.{Kind}
use Rattle.c_tree.specs.declared.tree.ArraySize.{ArraySize}
use Rattle.c_tree.specs.declared.tree.Expr.{Expr}
use Rattle.c_tree.specs.declared.tree.ForInit.{ForInit, fold-ForInit, map-ForInit, fold-roll-ForInit, roll-ForInit}
use Rattle.c_tree.specs.declared.tree.ForInit.TheVariants as first_part
use Rattle.c_tree.specs.declared.tree.ForInit.TheOpen.{StmtNode-F, ForInit-F}
use Rattle.c_tree.specs.declared.tree.Section.{Section, fold-Section, fold-roll-Section, out-Section}
use Rattle.c_tree.specs.declared.tree.Section.{roll-out-Section}
use Rattle.c_tree.specs.declared.tree.Stmt.{Stmt, fold_out-Stmt}
use Rattle.c_tree.specs.declared.tree.StmtNode.{StmtNode, map-StmtNode, fold-roll-StmtNode}
use Rattle.c_tree.specs.declared.tree.StmtNode.{fold-StmtNode, roll-StmtNode}
use Rattle.c_tree.specs.declared.tree.StmtNode.TheVariants as node
use Rattle.trips_listing_text.specs.Scalars.{Names, declared_names, all_names, else_names, node_names, first_names}
use Rattle.trips_listing_text.specs.Scalars.{section_names, at_names, names_of, names_in_node, names_in_first}
use Rattle.trips_listing_text.specs.Scalars.{names_in_section}

-- a section by the fold of the whole
abbrev section_fold : Section → Names
section_fold x = fold-Section Names Names Names Names first_names node_names section_names at_names x

fold_section : (x : Section) → section_fold x ≡ names_in_section x
unfolding names_of
fold_section x =
    ap (λ (y : Section). fold-Section Names Names Names Names first_names node_names section_names at_names y)
    (sym (roll-out-Section x))
    ∙ fold-roll-Section Names Names Names Names first_names node_names section_names at_names (out-Section x)

all_sections : (xs : List Section) → map section_fold xs ≡ map names_in_section xs
all_sections [] = refl
all_sections (x ∷ xs) =
    ap (λ (y : Names). y ∷ map section_fold xs) (fold_section x)
    ∙ ap (λ (ys : List Names). names_in_section x ∷ ys) (all_sections xs)

node_is : (x : StmtNode-F ForInit StmtNode Section Stmt) (n : StmtNode) → roll-StmtNode x ≡ n
    → names_in_node n ≡ node_names (map-StmtNode ForInit StmtNode Section Stmt Names Names Names Names
    names_in_first names_in_node section_fold names_of x)
unfolding names_of names_in_node names_in_first
node_is x n e =
    ap (fold-StmtNode Names Names Names Names first_names node_names section_names at_names) (sym e)
    ∙ fold-roll-StmtNode Names Names Names Names first_names node_names section_names at_names x

first_is : (x : ForInit-F ForInit StmtNode Section Stmt) (i : ForInit) → roll-ForInit x ≡ i
    → names_in_first i ≡ first_names (map-ForInit ForInit StmtNode Section Stmt Names Names Names Names
    names_in_first names_in_node section_fold names_of x)
unfolding names_of names_in_node names_in_first
first_is x i e =
    ap (fold-ForInit Names Names Names Names first_names node_names section_names at_names) (sym e)
    ∙ fold-roll-ForInit Names Names Names Names first_names node_names section_names at_names x

-- a statement has the names of its node
pub stmt_is : (s : Stmt) → names_of s ≡ names_in_node s.node
unfolding names_of names_in_node
stmt_is s = fold_out-Stmt Names Names Names Names first_names node_names section_names at_names s

pub on-Declare : (k : Kind) (w : List ℕ) (size : ArraySize) (init : Option Expr)
    → names_in_node (node.Declare k w size init) ≡ declared_names w size
on-Declare k w size init = node_is (StmtNode-F.Declare k w size init) _ (node.rolls-Declare k w size init)

pub on-Plain : (e : Option Expr) → names_in_node (node.Plain e) ≡ []
on-Plain e = node_is (StmtNode-F.Plain e) _ (node.rolls-Plain e)

pub on-Compound : (all : List Stmt) → names_in_node (node.Compound all) ≡ all_names (map names_of all)
on-Compound all = node_is (StmtNode-F.Compound all) _ (node.rolls-Compound all)

pub on-If : (t : Expr) (one : Stmt) (other : Option Stmt)
    → names_in_node (node.If t one other) ≡ names_of one ++ else_names (option_map names_of other)
on-If t one None = node_is (StmtNode-F.If t one None) _ (node.rolls-If t one None)
on-If t one (Some other) = node_is (StmtNode-F.If t one (Some other)) _ (node.rolls-If t one (Some other))

pub on-While : (t : Expr) (body : Stmt) → names_in_node (node.While t body) ≡ names_of body
on-While t body = node_is (StmtNode-F.While t body) _ (node.rolls-While t body)

pub on-Do : (body : Stmt) (t : Expr) → names_in_node (node.Do body t) ≡ names_of body
on-Do body t = node_is (StmtNode-F.Do body t) _ (node.rolls-Do body t)

pub on-For : (i : ForInit) (t p : Option Expr) (body : Stmt)
    → names_in_node (node.For i t p body) ≡ names_in_first i ++ names_of body
on-For i t p body = node_is (StmtNode-F.For i t p body) _ (node.rolls-For i t p body)

pub on-Switch : (t : Expr) (xs : List Section)
    → names_in_node (node.Switch t xs) ≡ [] ∷ all_names (map names_in_section xs)
on-Switch t xs =
    node_is (StmtNode-F.Switch t xs) _ (node.rolls-Switch t xs)
    ∙ ap (λ (ys : List Names). [] ∷ all_names ys) (all_sections xs)

pub on-Break : names_in_node node.Break ≡ []
on-Break = node_is StmtNode-F.Break _ node.rolls-Break

pub on-Continue : names_in_node node.Continue ≡ []
on-Continue = node_is StmtNode-F.Continue _ node.rolls-Continue

pub on-Return : (e : Option Expr) → names_in_node (node.Return e) ≡ []
on-Return e = node_is (StmtNode-F.Return e) _ (node.rolls-Return e)

pub on-Nothing : names_in_first first_part.Nothing ≡ []
on-Nothing = first_is ForInit-F.Nothing _ first_part.rolls-Nothing

pub on-First : (e : Expr) → names_in_first (first_part.First e) ≡ []
on-First e = first_is (ForInit-F.First e) _ (first_part.rolls-First e)

pub on-Locals : (all : List Stmt) → names_in_first (first_part.Locals all) ≡ all_names (map names_of all)
on-Locals all = first_is (ForInit-F.Locals all) _ (first_part.rolls-Locals all)

-- where a part has no names, none are added
pub nothing_more : (old more : Names) → more ≡ [] → old ≡ old ++ more
nothing_more old more e = sym (ap (λ (n : Names). old ++ n) e ∙ append-nil old)
