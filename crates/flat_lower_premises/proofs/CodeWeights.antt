-- What the code of expressions, statements and programs weighs: so no program has more than so many flat
-- statements, nor more than so many blocks.
use Rattle.std.proofs.Common.{ℕ, suc, ◌+◌, ◌*◌, ◌≤◌, Bool, true, false, List, [], ◌∷◌, Option, Some, None}
use Rattle.std.proofs.Common.{refl, arith}
use Rattle.std.specs.Prelude.{nat_eq}
use Rattle.c_tree.specs.declared.Kind.{Kind}
use Rattle.c_tree.specs.declared.BinaryOp.{BinaryOp}
use Rattle.c_tree.specs.declared.BinaryOp.TheVariants.{LogicalOr, LogicalAnd}
use Rattle.c_tree.specs.declared.BumpOp.{BumpOp}
use Rattle.c_tree.specs.declared.Callee.{Callee}
use Rattle.c_tree.specs.declared.Callee.TheVariants as callee
use Rattle.c_tree.specs.declared.Place.{Place}
use Rattle.c_tree.specs.declared.Place.TheVariants.{Global, Scalar, Array}
use Rattle.c_tree.specs.declared.TypedGlobal.{TypedGlobal}
use Rattle.trips_isa.specs.declared.op.Op.TheVariants as op
use Rattle.ir_forms.specs.declared.flat.Arg.TheVariants.{Const, Var}
use Rattle.ir_forms.specs.inside.FlatCode.{Code, Nop, Then, only, Let}
use Rattle.ir_forms.specs.inside.FlatCode as flat
use Rattle.flat_lower.specs.inside.Tree.{Expr, Number, Name, Element, Call, Unary, Cast, Convert, Bump, Binary}
use Rattle.flat_lower.specs.inside.Tree.{Choice, Assign, Comma, Exprs, NoExprs, WithExpr, Stmt, Declare, Plain}
use Rattle.flat_lower.specs.inside.Tree.{Compound, If, While, Do, For, Break, Continue, Return, Stmts, NoStmts}
use Rattle.flat_lower.specs.inside.Tree.{WithStmt, First, Nothing, FirstOf, Locals, Func, RowElement, Switch}
use Rattle.flat_lower.specs.inside.Tree.{Sections, NoSections, WithSection, kind_of}
use Rattle.flat_lower.specs.inside.Switches.{in_switch}
use Rattle.flat_lower.specs.declared.around.Around.{Around}
use Rattle.flat_lower.specs.declared.around.Around.TheVariants as around
use Rattle.flat_lower.specs.inside.Operations.{set_word, temp, binary_code, unary_code}
use Rattle.flat_lower.specs.inside.Objects.{Context, row_of}
use Rattle.flat_lower.specs.inside.Expressions.{with_kind, name_code, element_code, bump_code, before_right}
use Rattle.flat_lower.specs.inside.Expressions.{joined_code, right_at, after_right, temps, call_code, binary_end}
use Rattle.flat_lower.specs.inside.Expressions.{tested, operand_at, expr_code, index_code, args_code, strict_code}
use Rattle.flat_lower.specs.declared.powers.Power.{Power}
use Rattle.flat_lower.specs.inside.Powers.{immediate_for, immediate_code}
use Rattle.flat_lower.specs.inside.Statements.{expr_if_code, declare_code, return_code, if_so, turn_code, loop_code}
use Rattle.flat_lower.specs.inside.Statements.{do_code, stmt_code, stmts_code, first_code, end_code, named_scalar}
use Rattle.flat_lower.specs.inside.Statements.{simple_arg, plain_code, plain_if_code, sections_code, context_of}
use Rattle.flat_lower.specs.inside.Statements.{lowered_from, lowered}
use Rattle.flat_lower.proofs.PlainEnds.{either_way}
use Rattle.flat_lower_premises.specs.inside.SourceNodes.{expr_nodes, exprs_nodes, expr_if_nodes, stmt_nodes}
use Rattle.flat_lower_premises.specs.inside.SourceNodes.{stmts_nodes, first_nodes, funcs_size}
use Rattle.flat_lower_premises.specs.inside.Laws.{FewStatements, FewBlocks}
use Rattle.flat_lower_premises.proofs.Weights.{Weight, weight_of_all, share, spare, by_steps, by_blocks}
use Rattle.flat_lower_premises.proofs.Weights.{all_steps_are, all_blocks_are, Takes, after, eased, none, one_more}
use Rattle.flat_lower_premises.proofs.Weights.{chosen, looped, known_kind}
use Rattle.flat_lower_premises.proofs.OperationWeights.{converted_here_takes, binary_takes, unary_takes}
use Rattle.flat_lower_premises.proofs.OperationWeights.{immediate_takes}
use Rattle.flat_lower_premises.proofs.OperationWeights.{name_takes, element_takes, bump_name_takes}
use Rattle.flat_lower_premises.proofs.OperationWeights.{bump_element_takes, before_name_takes, after_name_takes}
use Rattle.flat_lower_premises.proofs.OperationWeights.{before_element_takes, after_element_takes, joined_by_takes}
use Rattle.flat_lower_premises.proofs.OperationWeights.{before_row_takes, after_row_takes}
use Rattle.flat_lower_premises.proofs.SectionNodes.{bodies_nodes}
use Rattle.flat_lower_premises.proofs.SwitchWeights.{break_takes, continue_takes, section_takes, switched_takes}

-- LEFT SIDES

-- the index of a left side
abbrev IndexTakes : Weight → Context → ℕ → Expr → Type 0
IndexTakes w c d (Element k p index) = Takes w (spare w) (share w (expr_nodes index)) (expr_code c d index)
IndexTakes w c d (RowElement k p row index) =
    Takes w (2 * spare w) (share w (expr_nodes row + expr_nodes index) + 2)
    (joined_code c p d (expr_code c d row) (expr_code c (suc d) index))
IndexTakes w c d _ = Unit {0}

module _ (w : Weight) (c : Context) where
  bump_takes : (o : BumpOp) (d : ℕ) (e : Expr) (k : Option Kind) → IndexTakes w c d e
      → Takes w (spare w) (share w (1 + expr_nodes e))
      (Then (index_code c d e) (with_kind k (bump_code c o d e)))
  bump_takes o d (Name j p) k t =
      eased (known_kind 4 k (bump_code c o d (Name j p)) (λ k. bump_name_takes w c o p d k)) (omega arith)
  bump_takes o d (Element j p index) k t =
      eased (after t (known_kind 7 k (bump_code c o d (Element j p index))
      (λ k. bump_element_takes w c o p d k))) (omega arith)
  bump_takes o d (RowElement j p row index) k t =
      eased (after t (known_kind 7 k (bump_code c o d (RowElement j p row index))
      (λ k. bump_element_takes w c o p d k))) (omega arith)
  bump_takes o d e k t = eased (known_kind 0 k (bump_code c o d e) (λ k. none 0)) (omega arith)

  -- where the left side is none
  right_alone : (k : Option Kind) (f g : Kind → Code) (right : Code) (m n : ℕ)
      → ((k : Kind) → Takes w 0 0 (f k)) → ((k : Kind) → Takes w 0 0 (g k))
      → Takes w (spare w) (share w n) right
      → Takes w (spare w) (share w (1 + (m + n))) (Then (with_kind k f) (Then right (with_kind k g)))
  right_alone k f g right m n p q r =
      eased (after (known_kind 0 k f p) (after r (known_kind 0 k g q))) (omega arith)

  assign_takes : (o : Option BinaryOp) (at : Kind) (d : ℕ) (l : Expr) (k : Option Kind)
      (right : Code) (n : ℕ)
      → IndexTakes w c d l → Takes w (spare w) (share w n) right
      → Takes w (spare w) (share w (1 + (expr_nodes l + n))) (Then (index_code c d l)
      (Then (with_kind k (before_right c o at d l))
      (Then right (with_kind k (after_right c o at d l)))))
  assign_takes o at d (Name j p) k right n t q =
      eased (after (known_kind 2 k (before_right c o at d (Name j p))
      (λ k. before_name_takes w c o at d j p k))
      (after q (known_kind 5 k (after_right c o at d (Name j p))
      (λ k. after_name_takes w c o at d j p k)))) (omega arith)
  assign_takes o at d (Element j p index) k right n t q =
      eased (after t
      (after (known_kind 5 k (before_right c o at d (Element j p index))
      (λ k. before_element_takes w c o at d j p index k))
      (after q (known_kind 5 k (after_right c o at d (Element j p index))
      (λ k. after_element_takes w c o at d j p index k))))) (omega arith)
  assign_takes o at d (RowElement j p row index) k right n t q =
      eased (after t
      (after (known_kind 5 k (before_right c o at d (RowElement j p row index))
      (λ k. before_row_takes w c o at d j p row index k))
      (after q (known_kind 5 k (after_right c o at d (RowElement j p row index))
      (λ k. after_row_takes w c o at d j p row index k))))) (omega arith)
  assign_takes None at d l k right n t q =
      right_alone k (before_right c None at d l) (after_right c None at d l) right (expr_nodes l) n
      (λ k. none 0) (λ k. none 0) q
  assign_takes (Some o) at d l k right n t q =
      right_alone k (before_right c (Some o) at d l) (after_right c (Some o) at d l) right
      (expr_nodes l) n (λ k. none 0) (λ k. none 0) q

  -- EXPRESSIONS

  -- two indexes
  indexes_take : (p : Place) (d m n : ℕ) (row index : Code)
      → Takes w (spare w) (share w m) row → Takes w (spare w) (share w n) index
      → Takes w (2 * spare w) (share w (m + n) + 2) (joined_code c p d row index)
  indexes_take p d m n row index q r =
      eased (after q (after r (joined_by_takes w c (row_of c p) d))) (omega arith)

  word_takes : (to v : ℕ) → Takes w 0 1 (set_word to v)
  word_takes to v = record { few = omega arith }

  call_takes : (f : Callee) (k : Option Kind) (d : ℕ) (args : Exprs)
      → Takes w 0 (8 + 2 * w.branch) (call_code f k d (temps d args))
  call_takes (callee.Func f) k d args = record { few = omega (arith, w.calls) }
  call_takes callee.GetChar k d args = record { few = omega (arith, w.gets) }
  call_takes callee.PutChar k d args = record { few = omega arith }
  call_takes callee.Exit k d args = record { few = omega arith }

  tested_takes : (d : ℕ) → Takes w 0 1 (tested d)
  tested_takes d = record { few = omega arith }

  strict_takes : (o : BinaryOp) (k : Option Kind) (d : ℕ) (m : Option Power) (right : Code) (n : ℕ)
      → Takes w (spare w) n right → Takes w (spare w) (n + (w.branch + 4)) (strict_code o k d m right)
  strict_takes o k d None right n p =
      eased (after p (known_kind 3 k (λ k. binary_code o k (temp d) (temp (suc d)))
      (λ k. binary_takes w o k (temp d) (temp (suc d))))) (omega (arith, w.branches))
  strict_takes o k d (Some m) right n p =
      let h = p.few in
      eased (known_kind 5 k (λ k. immediate_code o k m (temp d)) (λ k. immediate_takes w o k m (temp d)))
      (omega (arith, w.branches))

  binary_end_takes : (o : BinaryOp) (k : Option Kind) (d : ℕ) (m : Option Power) (right : Code) (n : ℕ)
      → Takes w (spare w) n right → Takes w (spare w) (n + (w.branch + 4)) (binary_end o k d m right)
  binary_end_takes LogicalAnd k d m right n p =
      eased (chosen (Var (temp d)) (after p (tested_takes d)) (none 0)) (omega arith)
  binary_end_takes LogicalOr k d m right n p =
      eased (chosen (Var (temp d)) (word_takes (temp d) 1) (after p (tested_takes d))) (omega arith)
  binary_end_takes o k d m right n p = strict_takes o k d m right n p

  mutual
    pub expr_takes : (d : ℕ) (e : Expr) → Takes w (spare w) (share w (expr_nodes e)) (expr_code c d e)
    expr_takes d (Number k v) = eased (word_takes (temp d) v) (omega arith)
    expr_takes d (Name k p) =
        eased (known_kind 1 k (name_code c p (temp d)) (λ k. name_takes w c p (temp d) k)) (omega arith)
    expr_takes d (Element k p index) =
        eased (after (expr_takes d index) (known_kind 4 k (element_code c p d)
        (λ k. element_takes w c p d k))) (omega arith)
    expr_takes d (RowElement k p row index) =
        eased (after (indexes_take p d (expr_nodes row) (expr_nodes index) (expr_code c d row)
        (expr_code c (suc d) index) (expr_takes d row) (expr_takes (suc d) index))
        (known_kind 4 k (element_code c p d) (λ k. element_takes w c p d k))) (omega arith)
    expr_takes d (Call k f args) = eased (after (args_take d args) (call_takes f k d args)) (omega arith)
    expr_takes d (Unary k o e) =
        eased (after (expr_takes d e) (known_kind 2 (kind_of e) (λ j. unary_code o j (temp d))
        (λ j. unary_takes w o j (temp d)))) (omega arith)
    expr_takes d (Cast k to e) =
        eased (after (expr_takes d e) (converted_here_takes w (kind_of e) to (temp d))) (omega arith)
    expr_takes d (Convert k to e) =
        eased (after (expr_takes d e) (converted_here_takes w (kind_of e) to (temp d))) (omega arith)
    expr_takes d (Bump k o e) = bump_takes o d e (kind_of e) (index_takes d e)
    expr_takes d (Binary k o l r) =
        eased (after (expr_takes d l) (binary_end_takes o (kind_of l) d (immediate_for o (kind_of l) r)
        (expr_code c (operand_at o d) r)
        (share w (expr_nodes r)) (expr_takes (operand_at o d) r))) (omega arith)
    expr_takes d (Choice k t one other) =
        eased (after (expr_takes d t) (chosen (Var (temp d)) (expr_takes d one) (expr_takes d other)))
        (omega arith)
    expr_takes d (Assign k o at l r) = assign_takes o at d l (kind_of l)
        (expr_code c (right_at o d l) r) (expr_nodes r) (index_takes d l)
        (expr_takes (right_at o d l) r)
    expr_takes d (Comma k l r) = eased (after (expr_takes d l) (expr_takes d r)) (omega arith)

    index_takes : (d : ℕ) (e : Expr) → IndexTakes w c d e
    index_takes d (Element k p index) = expr_takes d index
    index_takes d (RowElement k p row index) = indexes_take p d (expr_nodes row) (expr_nodes index)
        (expr_code c d row) (expr_code c (suc d) index) (expr_takes d row) (expr_takes (suc d) index)
    index_takes d _ = tt

    args_take : (d : ℕ) (es : Exprs) → Takes w 0 (share w (exprs_nodes es)) (args_code c d es)
    args_take d NoExprs = record { few = omega arith }
    args_take d (WithExpr e rest) = eased (after (expr_takes d e) (args_take (suc d) rest)) (omega arith)

  -- STATEMENTS

  expr_if_takes : (e : Option Expr) → Takes w 0 (share w (expr_if_nodes e)) (expr_if_code c e)
  expr_if_takes None = record { few = omega arith }
  expr_if_takes (Some e) = eased (expr_takes 0 e) (omega arith)

  plain_takes : (e : Expr) → Takes w 0 (share w (expr_nodes e)) (plain_code c e)
  plain_takes (Assign k None at l r) =
      let long = expr_code c 0 (Assign k None at l r) in
      let most = share w (expr_nodes (Assign k None at l r)) in
      either_way (named_scalar l) (simple_arg r) long (λ a. Takes w 0 most a)
      (eased (expr_takes 0 (Assign k None at l r)) (omega arith))
      (λ i b ei eb. record { few = omega arith })
  plain_takes e = eased (expr_takes 0 e) (omega arith)

  plain_if_takes : (e : Option Expr) → Takes w 0 (share w (expr_if_nodes e)) (plain_if_code c e)
  plain_if_takes None = record { few = omega arith }
  plain_if_takes (Some e) = plain_takes e

  declare_takes : (p : Place) (e : Option Expr)
      → Takes w 1 (share w (1 + expr_if_nodes e)) (declare_code c p e)
  declare_takes (Scalar j) (Some e) =
      eased (after (expr_takes 0 e) (one_more (Let j op.Mov (Var (temp 0)) (Const 0)) refl)) (omega arith)
  declare_takes (Scalar j) None = eased (none 0) (omega arith)
  declare_takes (Global g) e = eased (none 0) (omega arith)
  declare_takes (Array a) e = eased (none 0) (omega arith)

  return_takes : (e : Option Expr) → Takes w 1 (share w (1 + expr_if_nodes e)) (return_code c e)
  return_takes None = record { few = omega arith }
  return_takes (Some e) =
      eased (after (expr_takes 0 e) (one_more (flat.Return (Some (Var (temp 0)))) refl)) (omega arith)

  if_so_takes : (body : Code) (n : ℕ) → Takes w 1 n body → Takes w 1 (n + (w.branch + 1)) (if_so body)
  if_so_takes body n p = eased (chosen (Var (temp 0)) p (one_more flat.Break refl)) (omega arith)

  turn_takes : (test : Option Expr) (body : Code) (n : ℕ) → Takes w 1 n body
      → Takes w 1 (share w (expr_if_nodes test) + n + 2) (turn_code c test body)
  turn_takes None body n p = eased p (omega arith)
  turn_takes (Some t) body n p = eased (after (expr_takes 0 t) (if_so_takes body n p)) (omega arith)

  loop_code_takes : (test post : Option Expr) (body : Code) (n : ℕ) → Takes w 1 (share w n) body
      → Takes w 1 (share w (1 + (expr_if_nodes test + (expr_if_nodes post + n))))
      (loop_code c test post body)
  loop_code_takes test post body n p =
      eased (looped (turn_takes test body (share w n) p) (expr_if_takes post)) (omega arith)

  do_code_takes : (t : Expr) (body : Code) (n : ℕ) → Takes w 1 (share w n) body
      → Takes w 1 (share w (1 + (n + expr_nodes t))) (do_code c t body)
  do_code_takes t body n p =
      eased (after (word_takes (temp 0) 1) (looped (if_so_takes body (share w n) p) (expr_takes 0 t)))
      (omega arith)

  mutual
    pub stmt_takes : (a : Around) (s : Stmt) → Takes w 1 (share w (stmt_nodes s)) (stmt_code c a s)
    stmt_takes a (Declare p e) = declare_takes p e
    stmt_takes a (Plain e) = eased (plain_if_takes e) (omega arith)
    stmt_takes a (Compound all) = eased (stmts_take a all) (omega arith)
    stmt_takes a (If t one other) =
        eased (after (expr_takes 0 t) (chosen (Var (temp 0)) (stmt_takes a one) (stmts_take a other)))
        (omega arith)
    stmt_takes a (While t body) =
        eased (loop_code_takes (Some t) None (stmt_code c around.Loop body) (stmt_nodes body)
        (stmt_takes around.Loop body)) (omega arith)
    stmt_takes a (Do body t) = do_code_takes t (stmt_code c around.Loop body) (stmt_nodes body)
        (stmt_takes around.Loop body)
    stmt_takes a (For first test post body) =
        eased (after (first_takes a first) (loop_code_takes test post (stmt_code c around.Loop body)
        (stmt_nodes body) (stmt_takes around.Loop body))) (omega arith)
    stmt_takes a (Switch t xs) =
        eased (after (expr_takes 0 t) (switched_takes w a xs (sections_code c (in_switch a) 0 xs)
        (sections_take (in_switch a) 0 xs))) (omega arith)
    stmt_takes a Break = eased (break_takes w a) (omega arith)
    stmt_takes a Continue = eased (continue_takes w a) (omega arith)
    stmt_takes a (Return e) = return_takes e

    stmts_take : (a : Around) (all : Stmts) → Takes w 0 (share w (stmts_nodes all)) (stmts_code c a all)
    stmts_take a NoStmts = record { few = omega arith }
    stmts_take a (WithStmt s rest) = eased (after (stmt_takes a s) (stmts_take a rest)) (omega arith)

    sections_take : (a : Around) (k : ℕ) (xs : Sections)
        → Takes w 0 (share w (bodies_nodes xs)) (sections_code c a k xs)
    sections_take a k NoSections = record { few = omega arith }
    sections_take a k (WithSection ls body rest) =
        eased (after (section_takes w k (stmts_code c a body) (stmts_nodes body) (stmts_take a body))
        (sections_take a (suc k) rest)) (omega arith)

    first_takes : (a : Around) (first : First) → Takes w 0 (share w (first_nodes first)) (first_code c a first)
    first_takes a Nothing = record { few = omega arith }
    first_takes a (FirstOf e) = eased (expr_takes 0 e) (omega arith)
    first_takes a (Locals all) = stmts_take a all

-- PROGRAMS

end_takes : (w : Weight) (b : Bool) → Takes w 0 1 (end_code b)
end_takes w true = record { few = omega arith }
end_takes w false = none 1

module _ (w : Weight) (globals : List TypedGlobal) (main : ℕ) where
  -- a body leaves one of its share, which the end takes
  body_takes : (b : Bool) (f : Func)
      → Takes w 0 (share w (stmt_nodes f.body))
      (Then (stmt_code (context_of globals f) around.Nowhere f.body) (end_code b))
  body_takes b f =
      eased (after (stmt_takes w (context_of globals f) around.Nowhere f.body) (end_takes w b)) (omega arith)

  functions_take : (n : ℕ) (fs : List Func)
      → weight_of_all w (lowered_from globals main n fs) ≤ share w (funcs_size fs)
  functions_take n [] = omega arith
  functions_take n (f ∷ fs) =
      let h = (body_takes (nat_eq n main) f).few in
      let rest = functions_take (suc n) fs in
      omega (arith, h, rest, w.functions)

-- a lowered program has at most four flat statements for each function and node of its source
pub few_statements : FewStatements
unfolding lowered
few_statements P =
    let h = functions_take by_steps P.globals P.main 0 P.functions in
    let k = all_steps_are (lowered_from P.globals P.main 0 P.functions) in
    omega (arith, h, k)

-- and at most six blocks for each
pub few_blocks : FewBlocks
unfolding lowered
few_blocks P =
    let h = functions_take by_blocks P.globals P.main 0 P.functions in
    let k = all_blocks_are (lowered_from P.globals P.main 0 P.functions) in
    omega (arith, h, k)
