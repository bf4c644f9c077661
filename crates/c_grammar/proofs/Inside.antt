-- Binary, conditional, assignment and comma expressions, and with them expressions at every depth.
use Rattle.std.proofs.Common.{◌≡◌, ℕ, zero, suc, ◌+◌, ◌<◌, ◌≤◌, true, false, leb, ◌∷◌, length, refl}
use Rattle.std.proofs.Common.{sym, ap, ◌∙◌, subst, arith}
use Rattle.std.proofs.lemmas.Bool.{false≢true, le-leb, leb-true}
use Rattle.c_tree.specs.declared.token.Mark.TheVariants as mark
use Rattle.c_tree.specs.declared.tree.Expr.{Expr}
use Rattle.c_tree.specs.declared.tree.ExprNode.TheVariants as node
use Rattle.c_grammar.specs.Tokens.{Tokens, punct, May}
use Rattle.c_grammar.specs.Operators.{told_at, Assigner, assigner_mark, assigner_op}
use Rattle.c_grammar.specs.inside.Operators.{binary_level}
use Rattle.c_grammar.specs.Expressions.{expr, Spells, number, name, group, element, call, suffix}
use Rattle.c_grammar.specs.Expressions.{row_element, prefix, cast, join, choice, assign, up}
use Rattle.c_grammar.specs.inside.Numbers.{is_mark}
use Rattle.c_grammar.specs.inside.Parsing.{and_then, is_next, expect}
use Rattle.c_grammar.specs.inside.ModelExpressions.{loop, binary_of, chosen_of, choice_from}
use Rattle.c_grammar.specs.inside.ModelExpressions.{conditional_of, assigned_of, assign_from}
use Rattle.c_grammar.specs.inside.ModelExpressions.{assignment_of, expression_of, inside}
use Rattle.c_grammar.specs.inside.ModelDepth.{Nested}
use Rattle.c_grammar.specs.inside.ModelOperators.{assigner_for, is_unary, seen}
use Rattle.c_grammar.proofs.Agree.{is_false}
use Rattle.c_grammar.proofs.Pieces.{Rel, Then, always, any, Piece, seq, done, Done, iff, turn}
use Rattle.c_grammar.proofs.Pieces.{ends_with, same_tree, Either, this, that, either_of}
use Rattle.c_grammar.proofs.TokenPieces.{Is, mark_piece}
use Rattle.c_grammar.proofs.DepthPieces.{OpenIs, opening}
use Rattle.c_grammar.proofs.Stops.{Stops, lower, not_next, mark_stops, assigner_for_self}
use Rattle.c_grammar.proofs.Stops.{assigner_unary, assigner_none, bind_assigner, Joining, below_joins}
use Rattle.c_grammar.proofs.Levels.{zero_token, zero_expr, zero_first, shortest, as_conditional}
use Rattle.c_grammar.proofs.Levels.{unary_is, unary_only}
use Rattle.c_grammar.proofs.Joins.{Level, ends_at, expr_here, joins_to, joins_from, joins_piece}
use Rattle.c_grammar.proofs.Joins.{joins_meets}
use Rattle.c_grammar.proofs.Expressions.{unary_piece}
use Rattle.c_grammar.proofs.OneDeeper.{Deeper, Among, by, plain, among}
use Rattle.c_grammar.proofs.Casts.{cast_piece}

-- the levels of binary operators count from the level of casts on
pub level_is : (n : ℕ) → binary_level n ≡ 3 + n
level_is zero = refl
level_is (suc n) = let h = level_is n in omega (arith, h)

level_joins : (n : ℕ) → n < 10 → Joining (binary_level n)
level_joins n lt =
    let h = level_is n in record {
      many = omega (arith, h);
      not_choice = λ e. omega (arith, h, e, lt);
      not_assign = λ e. omega (arith, h, e, lt);
    }

comma_joins : Joining 15
comma_joins = record {
  many = omega arith;
  not_choice = λ e. omega (arith, e);
  not_assign = λ e. omega (arith, e);
}

module _ (m d : ℕ) (nested : Nested) (known : Deeper nested m d) where
  -- the parser of binary expressions of each level is sound and complete
  pub binary_piece : (n : ℕ) → n ≤ 10 → Piece same_tree (Level (binary_level n) d) any always
      (ends_at (binary_level n)) zero_first m (binary_of nested n)
  unfolding binary_of
  binary_piece zero le = cast_piece m d nested known
  binary_piece (suc n) le =
      let p = binary_piece n (omega (arith, le)) in
      iff (seq (λ a ts. loop (binary_of nested n) (binary_level n) (length ts) a ts) p
      (λ a. joins_piece m d (binary_level n) (binary_of nested n) p a) (λ t. omega arith)
      (joins_meets m d (binary_level n) (binary_of nested n) p))
      joins_to (joins_from (level_joins n (omega (arith, le))))

  -- ---- conditional expressions

  abbrev ChosenIs : Expr → Rel Expr
  ChosenIs a =
      Then (OpenIs mark.Question d) (λ k. Then (Level 16 (suc d))
      (λ b. Then (Is mark.Colon) (λ k'. Then (Level 14 (suc d))
      (λ c. Done (told_at a.offset k (node.Choice a b c))))))

  chosen_piece : (a : Expr) → Piece same_tree (ChosenIs a) any always (ends_at 14)
      (λ t. punct 0 mark.Question ∷ zero_token ∷ punct 0 mark.Colon ∷ zero_token ∷ t) m
      (chosen_of nested a)
  unfolding chosen_of
  chosen_piece a =
      opening same_tree (λ k. Then (Level 16 (suc d))
      (λ b. Then (Is mark.Colon) (λ k'. Then (Level 14 (suc d))
      (λ c. Done (told_at a.offset k (node.Choice a b c)))))) always (ends_at 14)
      (λ t. zero_token ∷ punct 0 mark.Colon ∷ zero_token ∷ t) m d mark.Question _
      (λ t. omega arith)
      (λ k may t fr fr'. (
        told_at a.offset k (node.Choice a zero_expr zero_expr),
        (
          zero_expr,
          punct 0 mark.Colon ∷ zero_token ∷ t,
          shortest 16,
          (0, zero_token ∷ t, refl, (zero_expr, t, shortest 14, (refl, refl))),
        ),
      )) nested known.reach
      (λ h k. seq (λ b ts. and_then (expect mark.Colon ts)
      (λ _ ts. and_then (nested.conditional ts)
      (λ c ts. expr_here (told_at a.offset k (node.Choice a b c)) ts))) (known.expression_in h)
      (λ b. seq (λ _ ts. and_then (nested.conditional ts)
      (λ c ts. expr_here (told_at a.offset k (node.Choice a b c)) ts)) (mark_piece mark.Colon m)
      (λ k'. seq (λ c ts. expr_here (told_at a.offset k (node.Choice a b c)) ts) (known.conditional_in h)
      (λ c. done same_tree (told_at a.offset k (node.Choice a b c)) m (λ t h. tt)) (λ t. omega arith)
      (λ may x y u t r s. subst (Stops 14) (sym r.1) s))
      (λ t. omega arith) (λ may x y u t r s. tt))
      (λ t. omega arith) (λ may x y u t r s. mark_stops 16 mark.Colon (omega arith) r.0 r.1 u r.2))

  abbrev ChoiceFrom : Expr → Rel Expr
  ChoiceFrom a = Either (ChosenIs a) (Done a)

  choice_piece : (a : Expr) → Piece same_tree (ChoiceFrom a) any always (ends_at 14) (λ t. t) m
      (choice_from nested a)
  unfolding choice_from
  choice_piece a =
      either_of (is_mark mark.Question) (chosen_piece a) (done same_tree a m (λ t h. tt))
      (λ may x f t r. ap (is_next mark.Question) r.2.0)
      (λ may x f t r e. not_next mark.Question 14 f (subst (Stops 14) (sym r.1) e) (omega arith))

  choice_meets : (may : May) (a x : Expr) (u t : Tokens) → ChoiceFrom a may x u t → Stops 14 t
      → Stops 13 u
  choice_meets may a x u t (this r) s = mark_stops 13 mark.Question (omega arith) r.0 r.1 u r.2.0
  choice_meets may a x u t (that r) s = lower 13 14 u (omega arith) (subst (Stops 14) (sym r.1) s)

  choice_to : (may : May) (a e : Expr) (f u t : Tokens) → Spells may (expr 13 a) d f u
      → ChoiceFrom a may e u t → Level 14 d may e f t
  choice_to may a e f u t x (this q) =
      let b = q.3 in let k = b.3 in let c = k.3 in let o = q.2 in
      ends_with (λ e t. Level 14 d may e f t)
      (choice (subst (λ (u : Tokens). Spells may (expr 13 a) d f u) o.0 x) o.1
      (subst (λ (u : Tokens). Spells may (expr 16 b.0) (suc d) q.1 u) k.2 b.2) c.2) c.3
  choice_to may a e f u t x (that q) = ends_with (λ e t. Level 14 d may e f t) (up x) q

  choice_in : {n : ℕ} (may : May) (e : Expr) (f t : Tokens) → Spells may (expr n e) d f t → n ≡ 14
      → Then (Level 13 d) ChoiceFrom may e f t
  choice_in may _ _ t number q = absurd (omega (arith, q))
  choice_in may _ _ t name q = absurd (omega (arith, q))
  choice_in may _ _ t (group ok x) q = absurd (omega (arith, q))
  choice_in may _ _ t (element ok x) q = absurd (omega (arith, q))
  choice_in may _ _ t (row_element ok x ok' y) q = absurd (omega (arith, q))
  choice_in may _ _ t (call ok x) q = absurd (omega (arith, q))
  choice_in may _ f t (suffix x y) q = absurd (omega (arith, q))
  choice_in may _ _ t (prefix p ok x) q = absurd (omega (arith, q))
  choice_in may _ _ t (cast ok x y) q = absurd (omega (arith, q))
  choice_in may _ f t (join j x y) q = absurd ((below_joins j).not_choice (omega (arith, q)))
  choice_in may _ f t (choice {k = k} {k' = k'} {a = a} {b = b} {c = c} {m = v} {m' = w} x ok y z)
      q = (
        a,
        punct k mark.Question ∷ v,
        x,
        this
            (k, v, (refl, ok), (b, punct k' mark.Colon ∷ w, y, (k', w, refl, (c, t, z, (refl, refl))))),
      )
  choice_in may _ f t (assign s x ok y) q = absurd (omega (arith, q))
  choice_in may e f t (up {n = n} x) q =
      let h : n ≡ 13 = omega (arith, q) in
      (e, t, subst (λ (k : ℕ). Spells may (expr k e) d f t) h x, that (refl, refl))

  -- the parser of conditional expressions is sound and complete
  pub conditional_piece : Piece same_tree (Level 14 d) any always (ends_at 14) zero_first m
      (conditional_of nested)
  unfolding conditional_of
  conditional_piece =
      iff (seq (λ a ts. choice_from nested a ts) (binary_piece 10 (omega arith)) choice_piece
      (λ t. omega arith) choice_meets) (λ may e f t r. choice_to may r.0 e f r.1 t r.2 r.3)
      (λ may e f t x. choice_in may e f t x refl)

  -- ---- assignments

  abbrev AssignedIs : Expr → Assigner → Rel Expr
  AssignedIs a s = Then (OpenIs (assigner_mark s) d)
      (λ k. Then (Level 15 (suc d)) (λ b. Done (told_at a.offset k (node.Assign (assigner_op s) a b))))

  assigned_piece : (a : Expr) (s : Assigner)
      → Piece same_tree (AssignedIs a s) any always (ends_at 15)
      (λ t. punct 0 (assigner_mark s) ∷ zero_token ∷ t) m (assigned_of nested s a)
  unfolding assigned_of
  assigned_piece a s =
      opening same_tree (λ k. Then (Level 15 (suc d))
      (λ b. Done (told_at a.offset k (node.Assign (assigner_op s) a b)))) always
      (ends_at 15) zero_first m d (assigner_mark s) _ (λ t. omega arith)
      (λ k may t fr fr'. (
        told_at a.offset k (node.Assign (assigner_op s) a zero_expr),
        (zero_expr, t, shortest 15, (refl, refl)),
      )) nested known.reach
      (λ h k. seq (λ b ts. expr_here (told_at a.offset k (node.Assign (assigner_op s) a b)) ts)
      (known.assignment_in h) (λ b. done same_tree (told_at a.offset k (node.Assign (assigner_op s) a b)) m
      (λ t h. tt)) (λ t. omega arith) (λ may x y u t r e. subst (Stops 15) (sym r.1) e))

  abbrev AssignsTo : Expr → Assigner → Rel Expr
  AssignsTo a s may e f t = (is_unary a ≡ true) × AssignedIs a s may e f t

  abbrev AssignFrom : Expr → Rel Expr
  AssignFrom a = Among (AssignsTo a) (Done a)

  assign_piece : (a : Expr) → Piece same_tree (AssignFrom a) any always (ends_at 15) (λ t. t) m
      (assign_from nested a)
  unfolding assign_from
  assign_piece a =
      among (assigner_for a) (λ s ts e. turn (λ may x f t r. (assigner_unary a ts s e, r)) ts
      ((assigned_piece a s).sound ts tt))
      (λ s cut g g' may x f' t' r e f tied.
      (assigned_piece a s).complete cut g g' may x f' t' r.1 e f tied)
      (done same_tree a m (λ t h. tt))
      (λ s may x f t r. ap (seen (assigner_for a)) r.1.2.0 ∙ assigner_for_self a s r.0)
      (λ may x f t r e. assigner_none a f (subst (Stops 15) (sym r.1) e))

  assign_meets : (may : May) (a x : Expr) (u t : Tokens) → AssignFrom a may x u t → Stops 15 t
      → Stops 14 u
  assign_meets may a x u t (by s r) h =
      let b = bind_assigner s in mark_stops 14 (assigner_mark s) (omega (arith, b)) r.1.0 r.1.1 u r.1.2.0
  assign_meets may a x u t (plain r) h = lower 14 15 u (omega arith) (subst (Stops 15) (sym r.1) h)

  assign_to : (may : May) (a e : Expr) (f u t : Tokens) → Spells may (expr 14 a) d f u
      → AssignFrom a may e u t → Level 15 d may e f t
  assign_to may a e f u t x (by s r) =
      let q = r.1 in let b = q.3 in let o = q.2 in
      ends_with (λ e t. Level 15 d may e f t)
      (assign s (unary_only (subst (λ (u : Tokens). Spells may (expr 14 a) d f u) o.0 x) r.0) o.1
      b.2) b.3
  assign_to may a e f u t x (plain q) = ends_with (λ e t. Level 15 d may e f t) (up x) q

  assign_in : {n : ℕ} (may : May) (e : Expr) (f t : Tokens) → Spells may (expr n e) d f t → n ≡ 15
      → Then (Level 14 d) AssignFrom may e f t
  assign_in may _ _ t number q = absurd (omega (arith, q))
  assign_in may _ _ t name q = absurd (omega (arith, q))
  assign_in may _ _ t (group ok x) q = absurd (omega (arith, q))
  assign_in may _ _ t (element ok x) q = absurd (omega (arith, q))
  assign_in may _ _ t (row_element ok x ok' y) q = absurd (omega (arith, q))
  assign_in may _ _ t (call ok x) q = absurd (omega (arith, q))
  assign_in may _ f t (suffix x y) q = absurd (omega (arith, q))
  assign_in may _ _ t (prefix p ok x) q = absurd (omega (arith, q))
  assign_in may _ _ t (cast ok x y) q = absurd (omega (arith, q))
  assign_in may _ f t (join j x y) q = absurd ((below_joins j).not_assign (omega (arith, q)))
  assign_in may _ f t (choice x ok y z) q = absurd (omega (arith, q))
  assign_in may _ f t (assign {k = k} {a = a} {b = b} {m = v} s x ok y) q = (
    a,
    punct k (assigner_mark s) ∷ v,
    as_conditional x,
    by s (unary_is x (omega arith), (k, v, (refl, ok), (b, t, y, (refl, refl)))),
  )
  assign_in may e f t (up {n = n} x) q =
      let h : n ≡ 14 = omega (arith, q) in
      (e, t, subst (λ (k : ℕ). Spells may (expr k e) d f t) h x, plain (refl, refl))

  -- the parser of assignments is sound and complete
  pub assignment_piece : Piece same_tree (Level 15 d) any always (ends_at 15) zero_first m
      (assignment_of nested)
  unfolding assignment_of
  assignment_piece =
      iff (seq (λ a ts. assign_from nested a ts) conditional_piece assign_piece
      (λ t. omega arith) assign_meets) (λ may e f t r. assign_to may r.0 e f r.1 t r.2 r.3)
      (λ may e f t x. assign_in may e f t x refl)

  -- the parser of expressions is sound and complete
  pub expression_piece : Piece same_tree (Level 16 d) any always (ends_at 16) zero_first m
      (expression_of nested)
  unfolding expression_of
  expression_piece =
      iff (seq (λ a ts. loop (assignment_of nested) 15 (length ts) a ts) assignment_piece
      (λ a. joins_piece m d 15 (assignment_of nested) assignment_piece a) (λ t. omega arith)
      (joins_meets m d 15 (assignment_of nested) assignment_piece)) joins_to
      (joins_from comma_joins)

-- where no depth is left, one deeper is too deep
pub not_deeper : (m d : ℕ) → d + 0 ≡ m → leb (suc d) m ≡ false
not_deeper m d e = is_false (leb (suc d) m) (λ h. let h' = leb-true (suc d) m h in omega (arith, e, h'))

-- what is false gives anything
pub never : {A : Type 0} → false ≡ true → A
never e = absurd (false≢true e)

-- the parser of expressions one deeper is sound and complete, with so many depths left
pub inside_known : (m left d : ℕ) → d + left ≡ m → Deeper (inside left) m d
unfolding inside
inside_known m zero d fits =
    record {
      reach = (λ e. absurd (false≢true e), λ _. not_deeper m d fits);
      unary_in = λ e. never e;
      cast_deep = λ e. never e;
      conditional_in = λ e. never e;
      assignment_in = λ e. never e;
      expression_in = λ e. never e;
    }
inside_known m (suc left) d fits =
    let fits' : suc d + left ≡ m = omega (arith, fits) in
    let known = inside_known m left (suc d) fits' in
    record {
      reach = (λ _. le-leb (suc d) m (omega (arith, fits)), λ e. absurd (false≢true (sym e)));
      unary_in = λ _. unary_piece m (suc d) (inside left) known;
      cast_deep = λ _. cast_piece m (suc d) (inside left) known;
      conditional_in = λ _. conditional_piece m (suc d) (inside left) known;
      assignment_in = λ _. assignment_piece m (suc d) (inside left) known;
      expression_in = λ _. expression_piece m (suc d) (inside left) known;
    }
