-- The definitions at worked trees: some are well formed, and others are not.
use Rattle.std.proofs.Common.{◌≡◌, ℕ, ◌≤◌, List, [], ◌∷◌, replicate, Option, Some, None, refl, sym}
use Rattle.std.proofs.Common.{ap, ◌∙◌, subst, arith}
use Rattle.std.proofs.lemmas.Bool.{true≢false}
use Rattle.c_tree.specs.declared.token.Kind.{Kind}
use Rattle.c_tree.specs.declared.token.Kind.TheVariants.{Char, UChar, Short, UShort, Int, UInt, Long}
use Rattle.c_tree.specs.declared.token.Kind.TheVariants.{ULong}
use Rattle.c_tree.specs.declared.token.Kind.TheVariants as kind
use Rattle.c_tree.specs.declared.tree.BinaryOp.TheVariants.{Add, ShiftLeft}
use Rattle.c_tree.specs.declared.typed.Callee.TheVariants as callee
use Rattle.c_tree.specs.declared.typed.Place.{Place}
use Rattle.c_tree.specs.declared.typed.Place.TheVariants as place
use Rattle.c_tree.specs.declared.typed.Slot.{Slot}
use Rattle.c_tree.specs.declared.typed.Slot.TheVariants as slot
use Rattle.c_tree.specs.declared.typed.TypedExpr.{TypedExpr}
use Rattle.c_tree.specs.declared.typed.TypedFunc.{TypedFunc}
use Rattle.c_tree.specs.declared.typed.TypedGlobal.{TypedGlobal}
use Rattle.c_tree.specs.declared.typed.TypedNode.{roll-TypedNode, out-roll-TypedNode}
use Rattle.c_tree.specs.declared.typed.TypedNode.TheOpen.{Number, Name, Element, Call, Convert, Binary}
use Rattle.c_tree.specs.declared.typed.TypedProgram.{TypedProgram}
use Rattle.c_tree.specs.declared.typed.TypedStmt.{TypedStmt, roll-TypedStmt, out-TypedStmt, out-roll-TypedStmt}
use Rattle.c_tree.specs.declared.typed.TypedForInit.TheOpen.{Declare, Compound, While, Break, Continue, Return}
use Rattle.c_constant.specs.Kinds.{common, same_kind}
use Rattle.c_constant.specs.Need.{Needs}
use Rattle.std.specs.Prelude.{option_map, slice_get}
use Rattle.c_type_rules.specs.inside.Objects.{slot_scalar, of_function, Shape, shape, array_at}
use Rattle.c_tree.specs.TypedTrees.{Node}
use Rattle.c_type_rules.specs.inside.Expressions.{Gives, Has, Passes}
use Rattle.c_type_rules.specs.inside.Expressions as rule
use Rattle.c_type_rules.specs.inside.Needs.{FitsNeed}
use Rattle.c_tree.specs.TypedTrees.{Level}
use Rattle.c_type.specs.declared.state.Around.{Around}
use Rattle.c_type.specs.States.{nowhere, in_loop, in_switch}
use Rattle.c_type_rules.specs.inside.KeptStatements.{WellFormedStmt, Labels}
use Rattle.c_type_rules.specs.inside.KeptStatements as run
use Rattle.c_type_rules.specs.inside.WellFormed.{GlobalFits, FunctionFits, WellFormed}
use Rattle.c_type_rules.proofs.Moves.{some_is}
use Rattle.c_type_rules.proofs.TypedNeeds.{by}

-- an expression of a type
abbrev of : Kind → Node → TypedExpr
of k n = record { kind = Some k; at = 0; node = roll-TypedNode n }

-- a statement of its node
abbrev statement : Level → TypedStmt
statement s = roll-TypedStmt s

-- a function of type int(void) with a local int
abbrev function : List TypedStmt → TypedFunc
function all = record {
  result = Some Int;
  params = 0;
  scalars = slot.Scalar Int ∷ [];
  arrays = [];
  body = statement (Compound all);
}

-- int g[3];
abbrev three_ints : TypedGlobal
three_ints = record { kind = Int; length = Some 3; row = None; init = [] }

-- a program with one global
abbrev program : List TypedStmt → TypedProgram
program all = record { globals = three_ints ∷ []; functions = function all ∷ []; main = 0 }

-- what a conversion converts
abbrev inside : Node → TypedExpr
inside (Convert to e) = e
inside _ = of Int (Number 1)

module _ (P : TypedProgram) (f : TypedFunc) where
  -- a node as an expression
  given : (k : Kind) (n : Node) → Gives P f (Some k) n → Has P f k (of k n)
  given k n g = rule.itself refl (subst (Gives P f (Some k)) (sym (out-roll-TypedNode n)) g)

  -- a number has any type that it is given
  number : (k : Kind) (w : ℕ) → Has P f k (of k (Number w))
  number k w = given k (Number w) rule.number

  -- a statement as it is built
  ran : (b : Around) (s : Level) → WellFormedStmt P f b s → WellFormedStmt P f b (out-TypedStmt (statement s))
  ran b s r = subst (WellFormedStmt P f b) (sym (out-roll-TypedStmt s)) r

  -- a number needs one temporary
  one_need : (k : Kind) (w : ℕ) → FitsNeed (of k (Number w))
  one_need k w = subst (λ (n : Needs). n.need ≤ 16) (sym (by 0 (Some k) _ (Number w) refl)) (omega arith)

  -- THE TYPES OF OPERANDS

  -- a value has one type, that of its node
  its_kind : (j k : Kind) (n : Node) → Has P f j (of k n) → k ≡ j
  its_kind j k n (rule.itself e g) = some_is _ _ e
  its_kind j k n (rule.converted e d i b g) = some_is _ _ e

  -- 1 + 2
  sum : Gives P f (Some Int) (Binary Add (of Int (Number 1)) (of Int (Number 2)))
  sum = rule.binary (number Int 1) (number Int 2) refl refl refl

  -- an int shifted by a long is an int
  shift : Gives P f (Some Int) (Binary ShiftLeft (of Int (Number 1)) (of Long (Number 2)))
  shift = rule.binary (number Int 1) (number Long 2) refl refl refl

  -- no type has char in common with a char
  not_char : (k : Kind) → common Char k ≡ Char → ⊥
  not_char Char h = absurd (cc)
  not_char UChar h = absurd (cc)
  not_char Short h = absurd (cc)
  not_char UShort h = absurd (cc)
  not_char Int h = absurd (cc)
  not_char UInt h = absurd (cc)
  not_char Long h = absurd (cc)
  not_char ULong h = absurd (cc)
  not_char kind.Bool h = absurd (cc)

  -- a char is promoted before it is added
  char_sum : (r : Option Kind) (y : TypedExpr) → Gives P f r (Binary Add (of Char (Number 1)) y) → ⊥
  char_sum r y (rule.binary {i = j} {j = k} x z a b c) =
      let e = its_kind j Char (Number 1) x in not_char k (subst (λ j. common j k ≡ j) (sym e) a)

  -- an int is converted before a long is added
  int_and_long : (r : Option Kind) → Gives P f r (Binary Add (of Int (Number 1)) (of Long (Number 2))) → ⊥
  int_and_long r (rule.binary {i = j} {j = k} x z a b c) =
      let d = its_kind j Int (Number 1) x in
      let e = its_kind k Long (Number 2) z in
      let h : common Int Long ≡ Int =
      subst (λ k. common Int k ≡ Int) (sym e) (subst (λ j. common j k ≡ j) (sym d) a) in
      absurd (cc)

  -- a conversion is of another type
  same_type : Has P f Int (of Int (Convert Int (of Int (Number 1)))) → ⊥
  same_type (rule.itself e g) =
      no_node (subst (Gives P f (Some Int)) (out-roll-TypedNode (Convert Int (of Int (Number 1)))) g)
    where
      no_node : Gives P f (Some Int) (Convert Int (of Int (Number 1))) → ⊥
      no_node g = elim g [ ]
  same_type (rule.converted {j = j} {i = i} e d k b g) =
      let is : of Int (Number 1) ≡ i = ap inside (sym (out-roll-TypedNode (Convert Int (of Int (Number 1)))) ∙ d) in
      let int : j ≡ Int = some_is _ _ (sym k ∙ sym (ap (λ (x : TypedExpr). x.kind) is)) in
      absurd (true≢false (sym (ap (λ j. same_kind j Int) int) ∙ b))

  -- PLACES AND CALLS

  -- a place that names no slot
  no_slot : (n : ℕ) (r : Option Kind) → f.scalars ≡ [] → Gives P f r (Name (place.Scalar n)) → ⊥
  no_slot n r e (rule.scalar h) = let no : None ≡ Some _ = sym (ap (λ ss. slot_scalar (slice_get ss n)) e)
      ∙ h in absurd (cc)

  -- an array with two sizes has no element by one index
  one_index : (p : Place) (r : Option Kind) (k : Kind) (n : ℕ) (i : TypedExpr)
      → array_at P f p ≡ Some (shape k (Some n)) → Gives P f r (Element p None i) → ⊥
  one_index p r k n i e (rule.element {k = j} h x) =
      let is : shape k (Some n) ≡ shape j None = some_is _ _ (sym e ∙ h) in
      let no : Some n ≡ None = ap (λ (s : Shape). s.row) is in absurd (cc)

  -- an argument that is missing
  no_argument : (s : Slot) (slots : List Slot) → Passes P f (s ∷ slots) [] → ⊥
  no_argument (slot.Scalar k) slots p = elim p [ ]
  no_argument (slot.Address k q) slots p = elim p [ ]

  -- one too many
  surplus : (e : TypedExpr) (es : List TypedExpr) → Passes P f [] (e ∷ es) → ⊥
  surplus e es p = elim p [ ]

  -- a function that the program does not have
  no_function : (n : ℕ) (r : Option Kind) (es : List TypedExpr) → P.functions ≡ []
      → Gives P f r (Call (callee.Func n) es) → ⊥
  no_function n r es e (rule.call h p) =
      let no : None ≡ Some _ = sym (ap (λ fs. option_map of_function (slice_get fs n)) e) ∙ h in absurd (cc)

  -- JUMPS AND RETURNS

  -- while (1) break;
  loop : WellFormedStmt P f nowhere (While (of Int (Number 1)) (statement Break))
  loop =
      run.while_loop (record { kind = Int; value = (number Int 1, one_need Int 1) })
      (ran in_loop Break (run.breaks refl))

  -- a `break` in no loop
  lonely_break : WellFormedStmt P f nowhere Break → ⊥
  lonely_break (run.breaks h) = absurd (true≢false (sym h))

  -- a `continue` in no loop
  lonely_continue : WellFormedStmt P f nowhere Continue → ⊥
  lonely_continue (run.continues h) = absurd (true≢false (sym h))

  -- a `break` in a switch in no loop, and a `continue` there
  break_in_switch : WellFormedStmt P f (in_switch nowhere) Break
  break_in_switch = run.breaks refl

  continue_in_switch : WellFormedStmt P f (in_switch nowhere) Continue → ⊥
  continue_in_switch (run.continues h) = absurd (true≢false (sym h))

  -- two labels of one value, and two of `default`
  same_case : Labels Int [] (Some 7 ∷ Some 7 ∷ []) → ⊥
  same_case (run.a_label a b (run.a_label c d e)) = absurd (true≢false d)

  second_default : Labels Int [] (None ∷ None ∷ []) → ⊥
  second_default (run.a_label a b (run.a_label c d e)) = absurd (true≢false d)

  -- a parameter is not declared again
  declared_parameter : (b : Around) → f.params ≡ 1 → WellFormedStmt P f b (Declare (place.Scalar 0) None) → ⊥
  declared_parameter b e (run.scalar h s i) = absurd (omega (arith, e, h))

  -- a function that gives a value returns none
  nothing_returned : (b : Around) (k : Kind) → f.result ≡ Some k → WellFormedStmt P f b (Return None) → ⊥
  nothing_returned b k e (run.returns h) = subst (λ r. run.IsReturn P f r None) e h

  -- a function that is void returns a value
  value_returned : (b : Around) (t : TypedExpr) → f.result ≡ None → WellFormedStmt P f b (Return (Some t)) → ⊥
  value_returned b t e (run.returns h) = subst (λ r. run.IsReturn P f r (Some t)) e h

-- PROGRAMS

-- int g[3]; int main(void) { return 7; }
abbrev seven : TypedProgram
seven = program (statement (Return (Some (of Int (Number 7)))) ∷ [])

-- its only function
abbrev main : TypedFunc
main = function (statement (Return (Some (of Int (Number 7)))) ∷ [])

-- it is well formed
seven_is : WellFormed seven
seven_is = record {
  globals = (record { some = omega arith; single = λ h. refl; rows = tt; holds = omega arith; words = tt }, tt);
  bytes = omega arith;
  functions = (
    record {
      params = omega arith;
      slots = omega arith;
      scalars = omega arith;
      locals = (tt, tt);
      rows = (tt, tt);
      arrays = tt;
      body = ran seven main nowhere _
          (run.compound (run.next (ran seven main nowhere _
          (run.returns (number seven main Int 7, one_need seven main Int 7))) run.end));
    },
    tt,
  );
  main = record { function = main; is = refl; result = refl; params = refl };
}

-- a program without functions has no main
nothing : (m : ℕ) → WellFormed (record { globals = []; functions = []; main = m }) → ⊥
nothing m w = let no : None ≡ Some _ = w.main.is in absurd (cc)

-- 65 scalars are too many
crowd : (P : TypedProgram) (all : TypedStmt)
    → FunctionFits P (record {
      result = None;
      params = 0;
      scalars = replicate 65 (slot.Scalar Int);
      arrays = [];
      body = all;
    }) → ⊥
crowd P all w = absurd (omega (arith, w.scalars))

-- an array without elements
empty : GlobalFits (record { kind = Int; length = Some 0; row = None; init = [] }) → ⊥
empty w = absurd (omega (arith, w.some))

-- five elements are no rows of two
no_rows : GlobalFits (record { kind = Short; length = Some 5; row = Some 2; init = [] }) → ⊥
no_rows w = absurd (omega (arith, w.rows.1.1))
