-- Expressions that begin with a name: names, elements and calls.
use Rattle.std.proofs.Common.{◌≡◌, ℕ, suc, true, false, List, [], ◌∷◌, Some, None, refl, sym, ap, subst}
use Rattle.std.proofs.Common.{arith}
use Rattle.std.proofs.lemmas.Bool.{false≢true}
use Rattle.c_tree.specs.declared.token.Mark.TheVariants as mark
use Rattle.c_tree.specs.declared.tree.Expr.{Expr}
use Rattle.c_tree.specs.declared.tree.ExprNode.TheVariants as node
use Rattle.c_grammar.specs.Tokens.{Tokens, punct, named, May}
use Rattle.c_grammar.specs.Operators.{at}
use Rattle.c_grammar.specs.Expressions.{expr, args, arg_list, Spells, name, element, row_element, call}
use Rattle.c_grammar.specs.Expressions.{none, some, last, next}
use Rattle.c_grammar.specs.inside.Numbers.{is_mark}
use Rattle.c_grammar.specs.inside.Parsing.{is_next}
use Rattle.c_grammar.specs.inside.ModelDepth.{Nested}
use Rattle.c_grammar.specs.inside.ModelPrimaries.{index_of, second_of, after_index, element_of}
use Rattle.c_grammar.specs.inside.ModelPrimaries.{no_args_of, arg_list_of, args_of, call_of, after_name}
use Rattle.c_grammar.specs.inside.ModelPrimaries.{named_of}
use Rattle.c_grammar.proofs.Pieces.{Rel, Then, always, any, Piece, seq, done, Done, iff, ends_with}
use Rattle.c_grammar.proofs.Pieces.{same_tree, Either, this, that, either_of}
use Rattle.c_grammar.proofs.TokenPieces.{Is, mark_piece, Named, name_piece}
use Rattle.c_grammar.proofs.DepthPieces.{OpenIs, opening}
use Rattle.c_grammar.proofs.Lists.{Tail, ends, trails, goes, listed_piece}
use Rattle.c_grammar.proofs.Stops.{Stops, not_next}
use Rattle.c_grammar.proofs.Levels.{zero_token, zero_expr, zero_first, shortest, list_starts}
use Rattle.c_grammar.proofs.Levels.{starts_no_mark}
use Rattle.c_grammar.proofs.Joins.{Level, ends_at, expr_here}
use Rattle.c_grammar.proofs.OneDeeper.{Deeper, args_here, closed}

module _ (m d : ℕ) (nested : Nested) (known : Deeper nested m d) where
  -- an index in its brackets
  abbrev pub IndexIs : Rel Expr
  IndexIs = Then (OpenIs mark.LeftBracket d)
      (λ k. Then (Level 16 (suc d)) (λ e. Then (Is mark.RightBracket) (λ k'. Done e)))

  index_piece : Piece same_tree IndexIs any always always
      (λ t. punct 0 mark.LeftBracket ∷ zero_token ∷ punct 0 mark.RightBracket ∷ t) m (index_of nested)
  unfolding index_of
  index_piece =
      opening same_tree (λ k. Then (Level 16 (suc d))
      (λ e. Then (Is mark.RightBracket) (λ k'. Done e))) always
      always (λ t. zero_token ∷ punct 0 mark.RightBracket ∷ t) m d mark.LeftBracket _
      (λ t. omega arith)
      (λ k may t fr fr'. (
        zero_expr,
        (zero_expr, punct 0 mark.RightBracket ∷ t, shortest 16, (0, t, refl, (refl, refl))),
      )) nested
      known.reach
      (λ h k. closed mark.RightBracket (omega arith) (λ e. e) (known.expression_in h))

  abbrev SecondIs : ℕ → List ℕ → Expr → Rel Expr
  SecondIs l w r = Then IndexIs (λ e. Done (at l (node.Element w (Some r) e)))

  second_piece : (l : ℕ) (w : List ℕ) (r : Expr)
      → Piece same_tree (SecondIs l w r) any always (ends_at 0)
      (λ t. punct 0 mark.LeftBracket ∷ zero_token ∷ punct 0 mark.RightBracket ∷ t) m
      (second_of nested l w r)
  unfolding second_of
  second_piece l w r = seq (λ e ts. expr_here (at l (node.Element w (Some r) e)) ts) index_piece
      (λ e. done same_tree (at l (node.Element w (Some r) e)) m (λ t h. tt)) (λ t. omega arith)
      (λ may x y u t r h. tt)

  abbrev AfterIndex : ℕ → List ℕ → Expr → Rel Expr
  AfterIndex l w e = Either (SecondIs l w e) (Done (at l (node.Element w None e)))

  after_index_piece : (l : ℕ) (w : List ℕ) (e : Expr)
      → Piece same_tree (AfterIndex l w e) any always (ends_at 0) (λ t. t) m (after_index nested l w e)
  unfolding after_index
  after_index_piece l w i =
      either_of (is_mark mark.LeftBracket) (second_piece l w i)
      (done same_tree (at l (node.Element w None i)) m (λ t h. tt))
      (λ may x f t r. ap (is_next mark.LeftBracket) r.2.2.0)
      (λ may x f t r e. not_next mark.LeftBracket 0 f (subst (Stops 0) (sym r.1) e) (omega arith))

  abbrev ElementIs : ℕ → List ℕ → Rel Expr
  ElementIs l w = Then IndexIs (λ e. AfterIndex l w e)

  element_piece : (l : ℕ) (w : List ℕ) → Piece same_tree (ElementIs l w) any always (ends_at 0)
      (λ t. punct 0 mark.LeftBracket ∷ zero_token ∷ punct 0 mark.RightBracket ∷ t) m
      (element_of nested l w)
  unfolding element_of
  element_piece l w = seq (λ e ts. after_index nested l w e ts) index_piece
      (λ e. after_index_piece l w e) (λ t. omega arith) (λ may x y u t r h. tt)

  abbrev ArgsAre : Rel (List Expr)
  ArgsAre may es f t = Spells may (args es) (suc d) f t

  abbrev ListIs : Rel (List Expr)
  ListIs may es f t = Spells may (arg_list es) (suc d) f t

  list_piece : nested.allowed ≡ true → Piece same_tree ListIs any always always
      (λ t. zero_token ∷ punct 0 mark.RightParen ∷ t) m (arg_list_of nested)
  unfolding arg_list_of
  list_piece h = listed_piece (Level 15 (suc d)) ListIs (ends_at 15) zero_first m nested.assignment
      (known.assignment_in h) mark.RightParen false to from refl (λ x l t. (omega arith, omega arith))
      (λ may xs f t r e. absurd (false≢true e))
    where
      to_tail : (may : May) (e : Expr) (es : List Expr) (f u t : Tokens)
          → Spells may (expr 15 e) (suc d) f u → Tail ListIs mark.RightParen false e may es u t
          → Spells may (arg_list es) (suc d) f t
      to_tail may e _ f _ t x ends = last x
      to_tail may e _ f _ t x (trails q) = absurd (false≢true q)
      to_tail may e _ f _ t x (goes r) = next x r

      to : (may : May) (es : List Expr) (f t : Tokens)
          → Then (Level 15 (suc d)) (λ x. Tail ListIs mark.RightParen false x) may es f t
          → ListIs may es f t
      to may es f t r = to_tail may r.0 es f r.1 t r.2 r.3

      from : (may : May) (es : List Expr) (f t : Tokens) → ListIs may es f t
          → Then (Level 15 (suc d)) (λ x. Tail ListIs mark.RightParen false x) may es f t
      from may _ f t (last {k = k} {e = e} x) = (e, punct k mark.RightParen ∷ t, x, ends)
      from may _ f t (next {k = k} {e = e} {m = v} x y) = (e, punct k mark.Comma ∷ v, x, goes y)

  abbrev NoArgs : Rel (List Expr)
  NoArgs = Then (Is mark.RightParen) (λ k. Done [])

  no_args_piece : Piece same_tree NoArgs any always always (λ t. punct 0 mark.RightParen ∷ t) m
      (no_args_of nested)
  unfolding no_args_of
  no_args_piece = seq (λ _ ts. args_here [] ts) (mark_piece mark.RightParen m)
      (λ l. done same_tree [] m (λ t h. tt)) (λ t. omega arith) (λ may x y u t r h. tt)

  args_piece : nested.allowed ≡ true → Piece same_tree ArgsAre any always always
      (λ t. zero_token ∷ punct 0 mark.RightParen ∷ t) m (args_of nested)
  unfolding args_of
  args_piece h =
      iff (either_of (is_mark mark.RightParen) no_args_piece (list_piece h)
      (λ may x f t r. ap (is_next mark.RightParen) r.2)
      (λ may x f t r e. starts_no_mark mark.RightParen refl f (list_starts r))) to from
    where
      to : (may : May) (es : List Expr) (f t : Tokens) → Either NoArgs ListIs may es f t
          → ArgsAre may es f t
      to may es f t (this r) = subst (λ (u : Tokens). ArgsAre may es u t) (sym r.2)
          (ends_with (λ es t. ArgsAre may es (punct r.0 mark.RightParen ∷ r.1) t) none r.3)
      to may es f t (that r) = some r

      from : (may : May) (es : List Expr) (f t : Tokens) → ArgsAre may es f t
          → Either NoArgs ListIs may es f t
      from may _ _ t (none {k = k}) = this (k, t, refl, (refl, refl))
      from may es f t (some r) = that r

  -- the arguments of a call in their parentheses
  abbrev pub CallIs : ℕ → List ℕ → Rel Expr
  CallIs l w = Then (OpenIs mark.LeftParen d)
      (λ k. Then ArgsAre (λ es. Done (at l (node.Call w es))))

  call_piece : (l : ℕ) (w : List ℕ) → Piece same_tree (CallIs l w) any always (ends_at 0)
      (λ t. punct 0 mark.LeftParen ∷ zero_token ∷ punct 0 mark.RightParen ∷ t) m (call_of nested l w)
  unfolding call_of
  call_piece l w =
      opening same_tree (λ k. Then ArgsAre (λ es. Done (at l (node.Call w es)))) always (ends_at 0)
      (λ t. zero_token ∷ punct 0 mark.RightParen ∷ t) m d mark.LeftParen _ (λ t. omega arith)
      (λ k may t fr fr'. (
        at l (node.Call w (zero_expr ∷ [])),
        (zero_expr ∷ [], t, some (last (shortest 15)), (refl, refl)),
      )) nested known.reach
      (λ h k. seq (λ es ts. expr_here (at l (node.Call w es)) ts) (args_piece h)
      (λ es. done same_tree (at l (node.Call w es)) m (λ t h. tt)) (λ t. omega arith)
      (λ may x y u t r h. tt))

  abbrev AfterName : ℕ → List ℕ → Rel Expr
  AfterName l w = Either (ElementIs l w) (Either (CallIs l w) (Done (at l (node.Name w))))

  after_name_piece : (l : ℕ) (w : List ℕ)
      → Piece same_tree (AfterName l w) any always (ends_at 0) (λ t. t) m (after_name nested l w)
  unfolding after_name
  after_name_piece l w =
      either_of (is_mark mark.LeftBracket) (element_piece l w)
      (either_of (is_mark mark.LeftParen) (call_piece l w)
      (done same_tree (at l (node.Name w)) m (λ t h. tt))
      (λ may x f t r. ap (is_next mark.LeftParen) r.2.0)
      (λ may x f t r e. not_next mark.LeftParen 0 f (subst (Stops 0) (sym r.1) e) (omega arith)))
      (λ may x f t r. ap (is_next mark.LeftBracket) r.2.2.0) no_bracket
    where
      no_bracket : (may : May) (x : Expr) (f t : Tokens)
          → Either (CallIs l w) (Done (at l (node.Name w))) may x f t → Stops 0 t
          → is_next mark.LeftBracket f ≡ false
      no_bracket may x f t (this r) e = ap (is_next mark.LeftBracket) r.2.0
      no_bracket may x f t (that r) e = not_next mark.LeftBracket 0 f (subst (Stops 0) (sym r.1) e)
          (omega arith)

  abbrev NamedIs : Rel Expr
  NamedIs = Then Named (λ n. AfterName n.0 n.1)

  -- the parser of expressions that begin with a name is sound and complete
  pub named_piece : Piece same_tree NamedIs any always (ends_at 0) (λ t. named 0 (120 ∷ []) ∷ t) m
      (named_of nested)
  unfolding named_of
  named_piece = seq (λ n ts. after_name nested n.0 n.1 ts) (name_piece m)
      (λ n. after_name_piece n.0 n.1) (λ t. omega arith) (λ may x y u t r h. tt)

  -- an index in its brackets, and what spells it
  index_to : (may : May) (e : Expr) (f u : Tokens) → IndexIs may e f u
      → (k : ℕ) × (v : Tokens) × (k' : ℕ) × (f ≡ punct k mark.LeftBracket ∷ v)
      × (may (punct k mark.LeftBracket ∷ v) (suc d) ≡ true)
      × Spells may (expr 16 e) (suc d) v (punct k' mark.RightBracket ∷ u)
  index_to may e f u r =
      let c = r.3 in let b = c.3 in (
        r.0,
        r.1,
        b.0,
        r.2.0,
        r.2.1,
        ends_with (λ e t. Spells may (expr 16 e) (suc d) r.1 (punct b.0 mark.RightBracket ∷ t))
            (subst (λ (u : Tokens). Spells may (expr 16 c.0) (suc d) r.1 u) b.2 c.2) b.3,
      )

  -- the tokens of an index are one in its brackets
  pub index_from : (may : May) (e : Expr) (k k' : ℕ) (v u : Tokens)
      → may (punct k mark.LeftBracket ∷ v) (suc d) ≡ true
      → Spells may (expr 16 e) (suc d) v (punct k' mark.RightBracket ∷ u)
      → IndexIs may e (punct k mark.LeftBracket ∷ v) u
  index_from may e k k' v u ok x = (
    k,
    v,
    (refl, ok),
    (e, punct k' mark.RightBracket ∷ u, x, (k', u, refl, (refl, refl))),
  )

  element_to : (may : May) (l : ℕ) (w : List ℕ) (r e : Expr) (f u t : Tokens) → IndexIs may r f u
      → AfterIndex l w r may e u t → Spells may (expr 0 e) d (named l w ∷ f) t
  element_to may l w r e f u t x (that q) =
      let i = index_to may r f u x in
      subst (λ (f : Tokens). Spells may (expr 0 e) d (named l w ∷ f) t) (sym i.3)
      (ends_with (λ e t. Spells may (expr 0 e) d (named l w ∷ punct i.0 mark.LeftBracket ∷ i.1) t)
      (element i.4 i.5) q)
  element_to may l w r e f u t x (this q) =
      let i = index_to may r f u x in let j = index_to may q.0 u q.1 q.2 in
      subst (λ (f : Tokens). Spells may (expr 0 e) d (named l w ∷ f) t) (sym i.3)
      (ends_with (λ e t. Spells may (expr 0 e) d (named l w ∷ punct i.0 mark.LeftBracket ∷ i.1) t)
      (row_element i.4
      (subst (λ (z : Tokens). Spells may (expr 16 r) (suc d) i.1 (punct i.2 mark.RightBracket ∷ z)) j.3 i.5)
      j.4 j.5) q.3)

  -- what stands behind a name spells an expression with it
  pub named_to : (may : May) (l : ℕ) (w : List ℕ) (e : Expr) (f t : Tokens) → AfterName l w may e f t
      → Spells may (expr 0 e) d (named l w ∷ f) t
  named_to may l w e f t (this q) = element_to may l w q.0 e f q.1 t q.2 q.3
  named_to may l w e f t (that (this q)) =
      let c = q.3 in let o = q.2 in
      subst (λ (u : Tokens). Spells may (expr 0 e) d (named l w ∷ u) t) (sym o.0)
      (ends_with (λ e t. Spells may (expr 0 e) d (named l w ∷ punct q.0 mark.LeftParen ∷ q.1) t)
      (call o.1 c.2) c.3)
  named_to may l w e f t (that (that q)) =
      ends_with (λ e t. Spells may (expr 0 e) d (named l w ∷ f) t) name q
