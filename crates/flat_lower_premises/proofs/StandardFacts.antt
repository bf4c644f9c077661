-- The laws at a worked program, and what their premises keep out.
use Rattle.std.proofs.Common.{◌≡◌, ◌≤◌, [], ◌∷◌, length, Option, Some, None, refl}
use Rattle.std.proofs.Common.{sym, ap, ◌∙◌, subst, arith}
use Rattle.c_tree.specs.declared.token.Kind.{Kind}
use Rattle.c_tree.specs.declared.token.Kind.TheVariants.{Char, Int, Long}
use Rattle.c_tree.specs.declared.tree.BinaryOp.TheVariants.{Less, LogicalAnd, Add, ShiftLeft}
use Rattle.c_tree.specs.declared.typed.TypedExpr.{TypedExpr}
use Rattle.c_tree.specs.declared.typed.TypedFunc.{TypedFunc}
use Rattle.c_tree.specs.declared.typed.TypedNode.{roll-TypedNode, out-roll-TypedNode}
use Rattle.c_tree.specs.declared.typed.TypedNode.TheOpen as node
use Rattle.c_tree.specs.declared.typed.TypedProgram.{TypedProgram}
use Rattle.c_tree.specs.declared.typed.TypedStmt.{TypedStmt, roll-TypedStmt, out-TypedStmt}
use Rattle.c_tree.specs.declared.typed.TypedStmt.{out-roll-TypedStmt}
use Rattle.c_tree.specs.declared.typed.TypedForInit.TheOpen as stmt
use Rattle.c_constant.specs.Need.{Needs}
use Rattle.c_tree.specs.TypedTrees.{node_of}
use Rattle.c_type.specs.States.{nowhere}
use Rattle.c_type_rules.specs.inside.Expressions.{Gives, Has}
use Rattle.c_type_rules.specs.inside.Expressions as rule
use Rattle.c_type_rules.specs.inside.Needs.{FitsNeed}
use Rattle.c_tree.specs.TypedTrees.{Level}
use Rattle.c_type_rules.specs.inside.KeptStatements.{WellFormedStmt}
use Rattle.c_type_rules.specs.inside.KeptStatements as run
use Rattle.c_type_rules.specs.inside.WellFormed.{WellFormed}
use Rattle.flat_lower_premises.specs.inside.TypedTrees.{NodeHasWords, LevelHasWords, ProgramHasWords}
use Rattle.flat_lower_premises.specs.inside.TypedTrees as word
use Rattle.c_constant.specs.Kinds.{IsWord}
use Rattle.flat_lower.specs.inside.Tree as tree
use Rattle.flat_lower.specs.inside.Tree.{Source}
use Rattle.flat_lower.specs.inside.TreeViews.{source_of}
use Rattle.flat_lower.specs.inside.Objects.{global_bytes}
use Rattle.flat_lower.specs.inside.Fits.{FitsCompound, FitsSource}
use Rattle.flat_lower_premises.specs.inside.Limits.{HasFewGlobals, HasFewNodes}
use Rattle.flat_lower_premises.specs.inside.Most.{most_of}
use Rattle.flat_lower_premises.proofs.NodeNeeds.{level_needs, needs_is}
use Rattle.flat_lower_premises.proofs.FitPrograms.{source_fits}
use Rattle.flat_lower_premises.proofs.TypedTreeSizes.{body_nodes, at_stmt, at_node}

-- A PROGRAM

abbrev number : TypedExpr
number = record { kind = Some Int; at = 0; node = roll-TypedNode (node.Number 7) }

abbrev returned : TypedStmt
returned = roll-TypedStmt (stmt.Return (Some number))

abbrev main : TypedFunc
main = record {
  result = Some Int;
  params = 0;
  scalars = [];
  arrays = [];
  body = roll-TypedStmt (stmt.Compound (returned ∷ []));
}

-- char c = 1; int main(void) { return 7; }
abbrev seven : TypedProgram
seven = record {
  globals = record { kind = Char; length = None; row = None; init = 1 ∷ [] } ∷ [];
  functions = main ∷ [];
  main = 0;
}

ran : (s : Level) → WellFormedStmt seven main nowhere s
    → WellFormedStmt seven main nowhere (out-TypedStmt (roll-TypedStmt s))
ran s r = subst (WellFormedStmt seven main nowhere) (sym (out-roll-TypedStmt s)) r

number_is : Has seven main Int number
number_is =
    rule.itself refl
    (subst (Gives seven main (Some Int)) (sym (out-roll-TypedNode (node.Number 7))) rule.number)

number_need : FitsNeed number
number_need =
    let one = ap level_needs (out-roll-TypedNode (node.Number 7)) in
    subst (λ (n : Needs). n.need ≤ 16) (sym (needs_is number ∙ one)) (omega arith)

seven_of : IsWord Int 7
seven_of = record { below = omega arith; narrow = omega arith }

one_of : IsWord Char 1
one_of = record { below = omega arith; narrow = omega arith }

seven_is : WellFormed seven
seven_is = record {
  globals = (
    record {
      some = omega arith;
      single = λ h. refl;
      rows = tt;
      holds = omega arith;
      words = (one_of, tt);
    },
    tt,
  );
  bytes = omega arith;
  functions = (
    record {
      params = omega arith;
      slots = omega arith;
      scalars = omega arith;
      locals = tt;
      rows = tt;
      arrays = tt;
      body = ran _ (run.compound (run.next (ran _ (run.returns (number_is, number_need))) run.end));
    },
    tt,
  );
  main = record { function = main; is = refl; result = refl; params = refl };
}

worded : (s : Level) → LevelHasWords s → LevelHasWords (out-TypedStmt (roll-TypedStmt s))
worded s w = subst LevelHasWords (sym (out-roll-TypedStmt s)) w

number_words : NodeHasWords (Some Int) (node_of number)
number_words = subst (NodeHasWords (Some Int)) (sym (out-roll-TypedNode (node.Number 7)))
    (word.number seven_of)

seven_words : ProgramHasWords seven
seven_words = record {
  globals = ((one_of, tt), tt);
  functions = (
    worded _ (word.compound (word.one_stmt (worded _ (word.returns number_words)) word.no_stmt)),
    tt,
  );
}

-- the compound, the return and the number
seven_body : body_nodes main.body ≡ 3
seven_body =
    let b = at_stmt main.body (stmt.Compound (returned ∷ [])) refl in
    let r = at_stmt returned (stmt.Return (Some number)) refl in
    let n = at_node 0 (Some Int) number.node (node.Number 7) refl in
    omega (arith, b.1, r.1, n.1)

seven_nodes : HasFewNodes seven
seven_nodes = let b = seven_body in omega (arith, b)

-- it meets what is asked, and so it fits
seven_fits : FitsSource (source_of seven)
seven_fits = source_fits seven seven_is seven_words (omega arith) seven_nodes

-- THE PREMISES

-- what the grammar does not let stand in a compound assignment would not fit
no_comparison : FitsCompound (Some Less) Long Long (Some Long) → ⊥
no_comparison t = let e : Long ≡ Int = t.2 in absurd (cc e)

no_logical : (k : Kind) (r : Option Kind) → FitsCompound (Some LogicalAnd) k k r → ⊥
no_logical k r t = t

-- a shift of an int by a long, and a char to which an int is added
shift : FitsCompound (Some ShiftLeft) Int Int (Some Long)
shift = (tt, tt, refl)

sum : FitsCompound (Some Add) Int Char (Some Int)
sum = (tt, refl, refl)

-- a char takes a whole word
whole_word : global_bytes (record { kind = Char; length = None; row = None; init = [] }) ≡ 8
whole_word = refl

-- one global more than the limit
crowd : (P : TypedProgram) → length P.globals ≡ 8193 → HasFewGlobals P → ⊥
crowd P e l = absurd (omega (arith, e, l))

-- THE LARGEST BODY

abbrev func : tree.Stmts → tree.Func
func all = record {
  result = Some Int;
  params = 0;
  scalars = [];
  arrays = [];
  body = tree.Compound all;
}

-- { return 7; } and { }, each with its own step and that of a call
abbrev bodies : Source
bodies = record {
  globals = [];
  functions =
      func (tree.WithStmt (tree.Return (Some (tree.Number (Some Int) 7))) tree.NoStmts)
      ∷ func tree.NoStmts ∷ [];
  main = 0;
}

most : most_of bodies ≡ 4
unfolding most_of
most = refl
