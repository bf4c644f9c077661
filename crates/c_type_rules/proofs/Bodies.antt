-- Every statement keeps what holds, and its typed tree is well formed.
use Rattle.std.proofs.Common.{ℕ, List, [], ◌∷◌, map, Some, None, sym, subst}
use Rattle.c_tree.specs.declared.tree.ForInit.{ForInit, roll-ForInit, map-ForInit, fold-ForInit, fold-roll-ForInit}
use Rattle.c_tree.specs.declared.tree.ForInit.TheOpen.{StmtNode-F, ForInit-F, Section-F}
use Rattle.c_tree.specs.declared.tree.Section.{Section, roll-Section, out-roll-Section, map-Section, fold-Section}
use Rattle.c_tree.specs.declared.tree.Stmt.{Stmt, Stmt-F, roll-Stmt, fold_out-Stmt, ind-Stmt}
use Rattle.c_tree.specs.declared.tree.StmtNode.{StmtNode, out-StmtNode, roll-StmtNode, map-StmtNode, fold-StmtNode}
use Rattle.c_tree.specs.declared.tree.StmtNode.{fold-roll-StmtNode}
use Rattle.c_tree.specs.declared.typed.TypedFunc.{TypedFunc}
use Rattle.c_tree.specs.declared.typed.TypedProgram.{TypedProgram}
use Rattle.c_tree.specs.declared.typed.TypedStmt.TheVariants as typed
use Rattle.c_type.specs.States.{at}
use Rattle.c_type.specs.Statements.{statements_in, Part, Beginning, SectionPart, node_part, init_part, section_part}
use Rattle.c_type.specs.Statements.{at_offset, part}
use Rattle.c_type.proofs.SwitchNodes.{fold_section}
use Rattle.c_type.specs.Functions.{body_in, body_part}
use Rattle.c_type_rules.specs.inside.KeptStatements as rule
use Rattle.c_type_rules.specs.inside.WellFormed.{Each}
use Rattle.c_type_rules.proofs.Moves.{made}
use Rattle.c_type_rules.proofs.SoundStatements.{Sound, SoundFirst, SoundAll, run, on_plain, on_all, on_else}
use Rattle.c_type_rules.proofs.SoundStatements.{on_compound, on_if}
use Rattle.c_type_rules.proofs.SoundStatements.{on_while, on_do, on_for, on_break, on_continue, on_return, on_nothing}
use Rattle.c_type_rules.proofs.Declarations.{on_declare}
use Rattle.c_type_rules.proofs.Switches.{on_switch}
use Rattle.c_type_rules.proofs.SoundStatements.{on_first, on_locals}

-- a part, once its offset is known
abbrev A : Type 0
A = ℕ → Part

-- what the definitions give of the first part of a `for`, and of a node
abbrev init_fold : ForInit → Beginning
init_fold = fold-ForInit Beginning A SectionPart Part init_part node_part section_part at_offset

abbrev node_fold : StmtNode → A
node_fold = fold-StmtNode Beginning A SectionPart Part init_part node_part section_part at_offset

abbrev section_fold : Section → SectionPart
section_fold = fold-Section Beginning A SectionPart Part init_part node_part section_part at_offset

module _ (P : TypedProgram) (f : TypedFunc) where
  -- what is shown of each
  abbrev InitGood : ForInit → Type 0
  InitGood i = SoundFirst P f (init_fold i)

  abbrev NodeGood : StmtNode → Type 0
  NodeGood n = (l : ℕ) → Sound P f (node_fold n l)

  abbrev SectionGood : Section → Type 0
  SectionGood x = SoundAll P f (section_fold x).body

  abbrev StmtGood : Stmt → Type 0
  StmtGood s = Sound P f (part s)

  module _ (I N X S : Type 0) (of_i : I → ForInit) (of_n : N → StmtNode) (of_x : X → Section) (of_s : S → Stmt)
      (good_i : (i : I) → InitGood (of_i i)) (good_x : (x : X) → SectionGood (of_x x))
      (good_s : (s : S) → StmtGood (of_s s)) where
    -- each of several statements
    each_good : (ss : List S) → Each (Sound P f) (map part (map of_s ss))
    each_good [] = tt
    each_good (s ∷ ss) = (good_s s, each_good ss)

    -- and all of them in order
    all_good : (ss : List S) → SoundAll P f (map part (map of_s ss))
    all_good ss = on_all P f (map part (map of_s ss)) (each_good ss)

    -- each of several sections
    each_section : (xs : List X) → Each (λ (p : SectionPart). SoundAll P f p.body) (map section_fold (map of_x xs))
    each_section [] = tt
    each_section (x ∷ xs) = (good_x x, each_section xs)

    -- each production, from its parts
    node_good : (l : ℕ) (y : StmtNode-F I N X S)
        → Sound P f (node_part
        (map-StmtNode ForInit StmtNode Section Stmt Beginning A SectionPart Part init_fold node_fold section_fold part
        (map-StmtNode I N X S ForInit StmtNode Section Stmt of_i of_n of_x of_s y)) l)
    node_good l (StmtNode-F.Declare k w size init) = on_declare P f k w size init l
    node_good l (StmtNode-F.Plain e) = on_plain P f e l
    node_good l (StmtNode-F.Compound ss) = on_compound P f (map part (map of_s ss)) l (all_good ss)
    node_good l (StmtNode-F.If test one None) =
        on_if P f test (part (of_s one)) None l (good_s one) (on_else P f None tt)
    node_good l (StmtNode-F.If test one (Some s)) =
        on_if P f test (part (of_s one)) (Some (part (of_s s))) l (good_s one)
        (on_else P f (Some (part (of_s s))) (good_s s))
    node_good l (StmtNode-F.While test body) = on_while P f test (part (of_s body)) l (good_s body)
    node_good l (StmtNode-F.Do body test) = on_do P f (part (of_s body)) test l (good_s body)
    node_good l (StmtNode-F.For init test post body) =
        on_for P f (init_fold (of_i init)) test post (part (of_s body)) l (good_i init) (good_s body)
    node_good l (StmtNode-F.Switch test xs) =
        on_switch P f test (map section_fold (map of_x xs)) l (each_section xs)
    node_good l StmtNode-F.Break = on_break P f l
    node_good l StmtNode-F.Continue = on_continue P f l
    node_good l (StmtNode-F.Return e) = on_return P f e l

    -- each first part of a `for`, from its parts
    init_good : (y : ForInit-F I N X S)
        → SoundFirst P f (init_part
        (map-ForInit ForInit StmtNode Section Stmt Beginning A SectionPart Part init_fold node_fold section_fold part
        (map-ForInit I N X S ForInit StmtNode Section Stmt of_i of_n of_x of_s y)))
    init_good ForInit-F.Nothing = on_nothing P f
    init_good (ForInit-F.First e) = on_first P f e
    init_good (ForInit-F.Locals ss) = on_locals P f (map part (map of_s ss)) (all_good ss)

    -- the same of a node as it is rolled
    at_node : (y : StmtNode-F I N X S)
        → NodeGood (roll-StmtNode (map-StmtNode I N X S ForInit StmtNode Section Stmt of_i of_n of_x of_s y))
    unfolding part
    at_node y l =
        subst (λ (g : A). Sound P f (g l))
        (sym (fold-roll-StmtNode Beginning A SectionPart Part init_part node_part section_part at_offset
        (map-StmtNode I N X S ForInit StmtNode Section Stmt of_i of_n of_x of_s y)))
        (node_good l y)

    -- the same of a first part as it is rolled
    at_init : (y : ForInit-F I N X S)
        → InitGood (roll-ForInit (map-ForInit I N X S ForInit StmtNode Section Stmt of_i of_n of_x of_s y))
    unfolding part
    at_init y =
        subst (λ (g : Beginning). SoundFirst P f g)
        (sym (fold-roll-ForInit Beginning A SectionPart Part init_part node_part section_part at_offset
        (map-ForInit I N X S ForInit StmtNode Section Stmt of_i of_n of_x of_s y)))
        (init_good y)

    -- the statements of a section as it is rolled
    in_section : (y : Section-F I N X S)
        → SoundAll P f (map part (statements_in (roll-Section (map-Section I N X S ForInit StmtNode Section Stmt of_i
        of_n of_x of_s y))))
    in_section y =
        subst (λ (x : Section-F ForInit StmtNode Section Stmt). SoundAll P f (map part x.body))
        (sym (out-roll-Section (map-Section I N X S ForInit StmtNode Section Stmt of_i of_n of_x of_s y)))
        (all_good y.body)

  -- a section is its statements
  at_section : (x : Section) → SoundAll P f (map part (statements_in x)) → SectionGood x
  at_section x h = subst (λ (p : SectionPart). SoundAll P f p.body) (sym (fold_section x)) h

  -- a statement is its node at its offset
  at_stmt : (l : ℕ) (n : StmtNode) → NodeGood n → StmtGood (at l n)
  unfolding part
  at_stmt l n h =
      subst (Sound P f)
      (sym (fold_out-Stmt Beginning A SectionPart Part init_part node_part section_part at_offset (at l n))) (h l)

  -- every statement keeps what holds, and its tree is well formed
  pub sound : (s : Stmt) → StmtGood s
  unfolding part
  sound =
      ind-Stmt InitGood NodeGood SectionGood StmtGood
      (λ x y e. subst (λ (x : ForInit-F ForInit StmtNode Section Stmt). InitGood (roll-ForInit x)) e
      (at_init _ _ _ _ (λ i. i.0) (λ n. n.0) (λ x. x.0) (λ s. s.0) (λ i. i.1) (λ x. x.1) (λ s. s.1) y))
      (λ x y e. subst (λ (x : StmtNode-F ForInit StmtNode Section Stmt). NodeGood (roll-StmtNode x)) e
      (at_node _ _ _ _ (λ i. i.0) (λ n. n.0) (λ x. x.0) (λ s. s.0) (λ i. i.1) (λ x. x.1) (λ s. s.1) y))
      (λ x y e. subst (λ (x : Section-F ForInit StmtNode Section Stmt). SectionGood (roll-Section x)) e
      (at_section _
      (in_section _ _ _ _ (λ i. i.0) (λ n. n.0) (λ x. x.0) (λ s. s.0) (λ i. i.1) (λ x. x.1) (λ s. s.1) y)))
      (λ x y e. subst (λ (x : Stmt-F ForInit StmtNode Section Stmt). StmtGood (roll-Stmt x)) e
      (at_stmt y.offset y.node.0 y.node.1))

  -- the same of each of several
  each_sound : (ss : List Stmt) → Each (Sound P f) (map part ss)
  each_sound [] = tt
  each_sound (s ∷ ss) = (sound s, each_sound ss)

  -- a body that is a compound opens no block
  in_sound : (x : StmtNode-F ForInit StmtNode Section Stmt) (s : Stmt) → Sound P f (body_in x s)
  in_sound (StmtNode-F.Compound ss) s =
      made P f typed.Compound (λ b t r. run P f b _ _ (typed.rolls-Compound t) (rule.compound r))
      (on_all P f (map part ss) (each_sound ss))
  in_sound _ s = sound s

  -- the same of a function's body, whose outermost block is the parameters'
  pub body_sound : (s : Stmt) → Sound P f (body_part s)
  unfolding body_part
  body_sound s = in_sound (out-StmtNode s.node) s
