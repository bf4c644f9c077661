-- The definitions at a `switch`, section by section.
use Rattle.std.proofs.Common.{◌≡◌, ℕ, refl, List, [], ◌∷◌, map, sym, ap, ◌∙◌}
use Rattle.c_tree.specs.declared.tree.Expr.{Expr}
use Rattle.c_tree.specs.declared.tree.ForInit.TheOpen.{StmtNode-F}
use Rattle.c_tree.specs.declared.tree.Section.{Section, fold-Section, fold-roll-Section, out-Section}
use Rattle.c_tree.specs.declared.tree.Section.{roll-out-Section}
use Rattle.c_tree.specs.declared.tree.StmtNode.TheVariants as node
use Rattle.c_type.specs.declared.state.State.{State}
use Rattle.c_type.specs.declared.state.Around.{Around}
use Rattle.c_type.specs.States.{at, with_switch}
use Rattle.c_type.specs.Statements.{Part, Beginning, part, init_part, node_part, at_offset, SectionPart}
use Rattle.c_type.specs.Statements.{section_part, switch_part, switch_fault, switch_tree, switch_kind}
use Rattle.c_type.specs.Statements.{sections_after}
use Rattle.c_type.specs.inside.Statements.{section_of}
use Rattle.c_type.proofs.Nodes.{A, part_by}

-- each section is that of its statements
pub fold_section : (x : Section)
    → fold-Section Beginning A SectionPart Part init_part node_part section_part at_offset x
    ≡ section_of x
unfolding part
fold_section x =
    ap (λ (y : Section). fold-Section Beginning A SectionPart Part init_part node_part section_part at_offset y)
    (sym (roll-out-Section x))
    ∙ fold-roll-Section Beginning A SectionPart Part init_part node_part section_part at_offset (out-Section x)

all_sections : (xs : List Section)
    → map (fold-Section Beginning A SectionPart Part init_part node_part section_part at_offset) xs
    ≡ map section_of xs
all_sections [] = refl
all_sections (x ∷ xs) =
    ap (λ (y : SectionPart). y ∷ map (fold-Section Beginning A SectionPart Part init_part node_part section_part
    at_offset) xs) (fold_section x)
    ∙ ap (λ (ys : List SectionPart). section_of x ∷ ys) (all_sections xs)

-- what a switch does, by its sections
pub part-Switch : (l : ℕ) (test : Expr) (xs : List Section)
    → part (at l (node.Switch test xs)) ≡ switch_part test (map section_of xs) l
part-Switch l test xs =
    part_by l _ (StmtNode-F.Switch test xs) (node.rolls-Switch test xs)
    ∙ ap (λ ys. switch_part test ys l) (all_sections xs)

-- The state behind a switch.
pub after-Switch : (l : ℕ) (test : Expr) (xs : List Section) (v : State)
    → (part (at l (node.Switch test xs))).after v ≡ sections_after (map section_of xs)
    (with_switch (switch_kind test v.names) v)
after-Switch l test xs v = ap (λ (p : Part). p.after v) (part-Switch l test xs)

-- The first fault of a switch.
pub fault-Switch : (l : ℕ) (test : Expr) (xs : List Section) (b : Around) (v : State)
    → (part (at l (node.Switch test xs))).fault b v ≡ switch_fault test (map section_of xs) l b v
fault-Switch l test xs b v = ap (λ (p : Part). p.fault b v) (part-Switch l test xs)

-- The typed tree of a switch.
pub tree-Switch : (l : ℕ) (test : Expr) (xs : List Section) (v : State)
    → (part (at l (node.Switch test xs))).tree v ≡ switch_tree test (map section_of xs) v
tree-Switch l test xs v = ap (λ (p : Part). p.tree v) (part-Switch l test xs)

pub ruleset on_switch = (after-Switch, fault-Switch, tree-Switch)
