-- Statements, where those one deeper are known: any statement, by its first token.
use Rattle.std.proofs.Common.{◌≡◌, ℕ, Bool, true, false, ◌∷◌, None, refl, sym, ap, subst}
use Rattle.c_tree.specs.declared.token.Lexeme.{Lexeme}
use Rattle.c_tree.specs.declared.token.Form.TheVariants as form
use Rattle.c_tree.specs.declared.token.Mark.TheVariants as mark
use Rattle.c_tree.specs.declared.token.Key.{Key}
use Rattle.c_tree.specs.declared.token.Key.TheVariants as key
use Rattle.c_tree.specs.declared.tree.Expr.{Expr}
use Rattle.c_tree.specs.declared.tree.Stmt.{Stmt}
use Rattle.c_tree.specs.declared.tree.StmtNode.{StmtNode}
use Rattle.c_tree.specs.declared.tree.StmtNode.TheVariants as node
use Rattle.c_grammar.specs.Tokens.{Tokens, punct, word, May}
use Rattle.c_grammar.specs.Expressions.{expr, Spells}
use Rattle.c_grammar.specs.Statements.{at, paren, test, stmt, inner, Writes, compound, empty, plain}
use Rattle.c_grammar.specs.Statements.{if_only, if_else, while, repeat, for, break, continue, return}
use Rattle.c_grammar.specs.Statements.{switch}
use Rattle.c_grammar.specs.inside.Numbers.{is_mark, is_key}
use Rattle.c_grammar.specs.inside.Parsing.{is_next, is_word}
use Rattle.c_grammar.specs.inside.ModelDepth.{Nested}
use Rattle.c_grammar.specs.inside.ModelStatements.{if_of, while_of, do_of, for_of, compound_of}
use Rattle.c_grammar.specs.inside.ModelStatements.{simple_of, stmt_of}
use Rattle.c_grammar.specs.inside.ModelBegins.{Below}
use Rattle.c_grammar.specs.inside.ModelSwitches.{switch_of}
use Rattle.c_grammar.proofs.Pieces.{Rel, Then, any, Piece, Done, iff, ends_with, Either, this, that}
use Rattle.c_grammar.proofs.Pieces.{either_of}
use Rattle.c_grammar.proofs.TokenPieces.{Is, IsWord}
use Rattle.c_grammar.proofs.Levels.{zero_token}
use Rattle.c_grammar.proofs.OneDeeper.{Deeper}
use Rattle.c_grammar.proofs.StatementParts.{closer_first, test_first}
use Rattle.c_grammar.proofs.StatementSpellings.{pair_tree, closed_off, StmtIs, stmt_first, Good}
use Rattle.c_grammar.proofs.SwitchPieces
use Rattle.c_grammar.proofs.LoopPieces
use Rattle.c_grammar.proofs.SimplePieces

module _ (m d : ℕ) (nested : Nested) (deeper : Deeper nested m d) (below : Below) (known : Good below m d) where
  abbrev SwitchIs : Rel (Bool × Stmt)
  SwitchIs = SwitchPieces.SwitchIs m d nested deeper below known

  abbrev switch_piece
      : Piece pair_tree SwitchIs any closed_off closed_off (λ t. word 0 key.Switch ∷ test_first (punct 0
      mark.LeftBrace ∷ punct 0 mark.RightBrace ∷ t)) m (switch_of nested below)
  switch_piece = SwitchPieces.switch_piece m d nested deeper below known

  abbrev WhileIs : Rel (Bool × Stmt)
  WhileIs = LoopPieces.WhileIs m d nested deeper below known

  abbrev while_piece
      : Piece pair_tree WhileIs any closed_off closed_off (λ t. word 0 key.While ∷ test_first (stmt_first t)) m
      (while_of nested below)
  while_piece = LoopPieces.while_piece m d nested deeper below known

  abbrev DoIs : Rel (Bool × Stmt)
  DoIs = LoopPieces.DoIs m d nested deeper below known

  abbrev do_piece
      : Piece pair_tree DoIs any closed_off closed_off (λ t. word 0 key.Do ∷ stmt_first (word 0 key.While ∷
      test_first (punct 0 mark.Semicolon ∷ t))) m (do_of nested below)
  do_piece = LoopPieces.do_piece m d nested deeper below known

  abbrev ForIs : Rel (Bool × Stmt)
  ForIs = LoopPieces.ForIs m d nested deeper below known

  abbrev for_piece
      : Piece pair_tree ForIs any closed_off closed_off (λ t. word 0 key.For ∷ punct 0 mark.LeftParen ∷ stmt_first
      (stmt_first (zero_token ∷ closer_first paren (stmt_first t)))) m (for_of nested below)
  for_piece = LoopPieces.for_piece m d nested deeper below known

  abbrev LeaveIs : Key → StmtNode → Rel (Bool × Stmt)
  LeaveIs k n = Then (IsWord k) (λ l. Then (Is mark.Semicolon) (λ j. Done (false, at l n)))

  abbrev ReturnIs : Rel (Bool × Stmt)
  ReturnIs = SimplePieces.ReturnIs m d nested deeper below known

  abbrev EmptyIs : Rel (Bool × Stmt)
  EmptyIs = Then (Is mark.Semicolon) (λ l. Done (false, at l (node.Plain None)))

  abbrev CompoundIs : Rel (Bool × Stmt)
  CompoundIs = SimplePieces.CompoundIs m d nested deeper below known

  abbrev compound_piece
      : Piece pair_tree CompoundIs any closed_off closed_off (λ t. punct 0 mark.LeftBrace ∷ punct 0 mark.RightBrace ∷
      t) m (compound_of nested below)
  compound_piece = SimplePieces.compound_piece m d nested deeper below known

  abbrev PlainIs : Rel (Bool × Stmt)
  PlainIs = SimplePieces.PlainIs m d nested deeper below known

  abbrev ElseIs : ℕ → Expr → Bool × Stmt → Rel (Bool × Stmt)
  ElseIs = LoopPieces.ElseIs m d nested deeper below known

  -- with `else` only where the first part is closed
  abbrev OtherIs : ℕ → Expr → Bool × Stmt → Rel (Bool × Stmt)
  OtherIs l c p may y f t = (p.0 ≡ false) × ElseIs l c p may y f t

  abbrev AloneIs : ℕ → Expr → Bool × Stmt → Rel (Bool × Stmt)
  AloneIs l c p = Done (true, at l (node.If c (p.1) None))

  abbrev IfIs : Rel (Bool × Stmt)
  IfIs = LoopPieces.IfIs m d nested deeper below known

  abbrev if_piece
      : Piece pair_tree IfIs any closed_off closed_off (λ t. word 0 key.If ∷ test_first (stmt_first t)) m (if_of
      nested below)
  if_piece = LoopPieces.if_piece m d nested deeper below known

  -- ---- any statement
  abbrev Simple3 : Rel (Bool × Stmt)
  Simple3 = Either EmptyIs PlainIs

  abbrev Simple2 : Rel (Bool × Stmt)
  Simple2 = Either (LeaveIs key.Continue node.Continue) Simple3

  abbrev Simple1 : Rel (Bool × Stmt)
  Simple1 = Either (LeaveIs key.Break node.Break) Simple2

  abbrev SimpleIs : Rel (Bool × Stmt)
  SimpleIs = Either ReturnIs Simple1

  abbrev simple_no : (k : Key) → is_key k (form.Key key.Return) ≡ false → is_key k (form.Key key.Break) ≡ false
      → is_key k (form.Key key.Continue) ≡ false → (may : May) (y : Bool × Stmt) (f t : Tokens) → SimpleIs may y f t
      → is_word k f ≡ false
  simple_no = SimplePieces.simple_no m d nested deeper below known

  abbrev simple_no_brace : (may : May) (y : Bool × Stmt) (f t : Tokens) → SimpleIs may y f t
      → is_next mark.LeftBrace f ≡ false
  simple_no_brace = SimplePieces.simple_no_brace m d nested deeper below known

  abbrev simple_piece : Piece pair_tree SimpleIs any closed_off closed_off stmt_first m (simple_of nested below)
  simple_piece = SimplePieces.simple_piece m d nested deeper below known

  abbrev Stmt5 : Rel (Bool × Stmt)
  Stmt5 = Either SwitchIs SimpleIs

  abbrev Stmt4 : Rel (Bool × Stmt)
  Stmt4 = Either ForIs Stmt5

  abbrev Stmt3 : Rel (Bool × Stmt)
  Stmt3 = Either DoIs Stmt4

  abbrev Stmt2 : Rel (Bool × Stmt)
  Stmt2 = Either WhileIs Stmt3

  abbrev Stmt1 : Rel (Bool × Stmt)
  Stmt1 = Either IfIs Stmt2

  abbrev StmtChain : Rel (Bool × Stmt)
  StmtChain = Either CompoundIs Stmt1

  stmt5_no : (may : May) (y : Bool × Stmt) (f t : Tokens) → Stmt5 may y f t
      → is_word key.For f ≡ false
  stmt5_no may y f t (this r) = ap (is_word key.For) r.2
  stmt5_no may y f t (that r) = simple_no key.For refl refl refl may y f t r

  stmt4_no : (may : May) (y : Bool × Stmt) (f t : Tokens) → Stmt4 may y f t
      → is_word key.Do f ≡ false
  stmt4_no may y f t (this r) = ap (is_word key.Do) r.2
  stmt4_no may y f t (that (this r)) = ap (is_word key.Do) r.2
  stmt4_no may y f t (that (that r)) = simple_no key.Do refl refl refl may y f t r

  stmt3_no : (may : May) (y : Bool × Stmt) (f t : Tokens) → Stmt3 may y f t
      → is_word key.While f ≡ false
  stmt3_no may y f t (this r) = ap (is_word key.While) r.2
  stmt3_no may y f t (that (this r)) = ap (is_word key.While) r.2
  stmt3_no may y f t (that (that (this r))) = ap (is_word key.While) r.2
  stmt3_no may y f t (that (that (that r))) = simple_no key.While refl refl refl may y f t r

  stmt2_no : (may : May) (y : Bool × Stmt) (f t : Tokens) → Stmt2 may y f t
      → is_word key.If f ≡ false
  stmt2_no may y f t (this r) = ap (is_word key.If) r.2
  stmt2_no may y f t (that (this r)) = ap (is_word key.If) r.2
  stmt2_no may y f t (that (that (this r))) = ap (is_word key.If) r.2
  stmt2_no may y f t (that (that (that (this r)))) = ap (is_word key.If) r.2
  stmt2_no may y f t (that (that (that (that r)))) = simple_no key.If refl refl refl may y f t r

  stmt1_no : (may : May) (y : Bool × Stmt) (f t : Tokens) → Stmt1 may y f t
      → is_next mark.LeftBrace f ≡ false
  stmt1_no may y f t (this r) = ap (is_next mark.LeftBrace) r.2
  stmt1_no may y f t (that (this r)) = ap (is_next mark.LeftBrace) r.2
  stmt1_no may y f t (that (that (this r))) = ap (is_next mark.LeftBrace) r.2
  stmt1_no may y f t (that (that (that (this r)))) = ap (is_next mark.LeftBrace) r.2
  stmt1_no may y f t (that (that (that (that (this r))))) = ap (is_next mark.LeftBrace) r.2
  stmt1_no may y f t (that (that (that (that (that r))))) = simple_no_brace may y f t r

  chain_piece : Piece pair_tree StmtChain any closed_off closed_off stmt_first m
      (stmt_of nested below)
  unfolding stmt_of
  chain_piece =
      either_of (is_mark mark.LeftBrace) compound_piece
      (either_of (is_key key.If) if_piece
      (either_of (is_key key.While) while_piece
      (either_of (is_key key.Do) do_piece
      (either_of (is_key key.For) for_piece
      (either_of (is_key key.Switch) switch_piece simple_piece
      (λ may y f t r. ap (is_word key.Switch) r.2)
      (λ may y f t r e. simple_no key.Switch refl refl refl may y f t r))
      (λ may y f t r. ap (is_word key.For) r.2) (λ may y f t r e. stmt5_no may y f t r))
      (λ may y f t r. ap (is_word key.Do) r.2) (λ may y f t r e. stmt4_no may y f t r))
      (λ may y f t r. ap (is_word key.While) r.2) (λ may y f t r e. stmt3_no may y f t r))
      (λ may y f t r. ap (is_word key.If) r.2) (λ may y f t r e. stmt2_no may y f t r))
      (λ may y f t r. ap (is_next mark.LeftBrace) r.2) (λ may y f t r e. stmt1_no may y f t r)

  from_front : {x : Lexeme} (may : May) (y : Bool × Stmt) (f u t : Tokens) → f ≡ x ∷ u
      → StmtIs d may y (x ∷ u) t → StmtIs d may y f t
  from_front may y f u t e w = subst (λ (f : Tokens). StmtIs d may y f t) (sym e) w

  no_to : (may : May) (l : ℕ) (c : Expr) (p y : Bool × Stmt) (f u v t : Tokens)
      → Writes may (test c) d f u → Writes may (inner (p.0) (p.1)) d u v
      → Either (OtherIs l c p) (AloneIs l c p) may y v t → StmtIs d may y (word l key.If ∷ f) t
  no_to may l c p y f u v t x z (that r) =
      ends_with (λ y t. StmtIs d may y (word l key.If ∷ f) t) (if_only x z) r
  no_to may l c p y f u v t x z (this r) =
      let k = r.1 in let q = k.3 in
      ends_with (λ y t. StmtIs d may y (word l key.If ∷ f) t)
      (if_else x (subst (λ (w : Tokens). Writes may (inner false (p.1)) d u w) k.2
      (subst (λ (b : Bool). Writes may (inner b (p.1)) d u v) r.0 z)) q.2) q.3

  stmt_to : (may : May) (y : Bool × Stmt) (f t : Tokens) → StmtChain may y f t → StmtIs d may y f t
  stmt_to may y f t (this r) = from_front may y f r.1 t r.2
      (ends_with (λ y t. StmtIs d may y (punct r.0 mark.LeftBrace ∷ r.1) t) (compound r.3.2) r.3.3)
  stmt_to may y f t (that (this r)) =
      let c = r.3 in let p = c.3 in from_front may y f r.1 t r.2 (no_to may r.0 c.0 p.0 y r.1 c.1 p.1 t c.2 p.2 p.3)
  stmt_to may y f t (that (that (this r))) =
      let c = r.3 in let p = c.3 in from_front may y f r.1 t r.2
      (ends_with (λ y t. StmtIs d may y (word r.0 key.While ∷ r.1) t) (while c.2 p.2) p.3)
  stmt_to may y f t (that (that (that (this r)))) =
      let p = r.3 in let w = p.3 in let c = w.3 in let k = c.3 in
      from_front may y f r.1 t r.2
      (ends_with (λ y t. StmtIs d may y (word r.0 key.Do ∷ r.1) t)
      (repeat (subst (λ (u : Tokens). Writes may (inner (p.0.0) (p.0.1)) d r.1 u) w.2 p.2)
      (subst (λ (u : Tokens). Writes may (test c.0) d w.1 u) k.2 c.2)) k.3)
  stmt_to may y f t (that (that (that (that (this r))))) =
      let k = r.3 in let i = k.3 in let o = i.3 in let o' = o.3 in let p = o'.3 in
      from_front may y f r.1 t r.2
      (subst (λ (u : Tokens). StmtIs d may y (word r.0 key.For ∷ u) t) (sym k.2)
      (ends_with (λ y t. StmtIs d may y (word r.0 key.For ∷ punct k.0 mark.LeftParen ∷ k.1) t)
      (for i.2 o.2 o'.2 p.2) p.3))
  stmt_to may y f t (that (that (that (that (that (this r)))))) =
      let c = r.3 in let k = c.3 in let xs = k.3 in
      from_front may y f r.1 t r.2
      (ends_with (λ y t. StmtIs d may y (word r.0 key.Switch ∷ r.1) t)
      (switch (subst (λ (u : Tokens). Writes may (test c.0) d r.1 u) k.2 c.2) xs.2) xs.3)
  stmt_to may y f t (that (that (that (that (that (that (this r))))))) =
      from_front may y f r.1 t r.2 (ends_with (λ y t. StmtIs d may y (word r.0 key.Return ∷ r.1) t)
      (return r.3.2) r.3.3)
  stmt_to may y f t (that (that (that (that (that (that (that (this r)))))))) =
      let k = r.3 in from_front may y f r.1 t r.2 (subst (λ (u : Tokens). StmtIs d may y (word r.0 key.Break ∷ u) t)
      (sym k.2) (ends_with (λ y t. StmtIs d may y (word r.0 key.Break ∷ punct k.0 mark.Semicolon ∷ k.1) t) break
      k.3))
  stmt_to may y f t (that (that (that (that (that (that (that (that (this r))))))))) =
      let k = r.3 in from_front may y f r.1 t r.2
      (subst (λ (u : Tokens). StmtIs d may y (word r.0 key.Continue ∷ u) t) (sym k.2)
      (ends_with (λ y t. StmtIs d may y (word r.0 key.Continue ∷ punct k.0 mark.Semicolon ∷ k.1) t) continue k.3))
  stmt_to may y f t (that (that (that (that (that (that (that (that (that (this r)))))))))) =
      from_front may y f r.1 t r.2 (ends_with
      (λ y t. StmtIs d may y (punct r.0 mark.Semicolon ∷ r.1) t) empty r.3)
  stmt_to may y f t (that (that (that (that (that (that (that (that (that (that r)))))))))) =
      let k = r.3 in ends_with (λ y t. StmtIs d may y f t)
      (plain (subst (λ (u : Tokens). Spells may (expr 16 r.0) d f u) k.2 r.2)) k.3

  is_simple : {may : May} {y : Bool × Stmt} {f t : Tokens} → SimpleIs may y f t
      → StmtChain may y f t
  is_simple r = that (that (that (that (that (that r)))))

  stmt_from : (may : May) (b : Bool) (s : Stmt) (f t : Tokens) → Writes may (stmt b s) d f t
      → StmtChain may (b, s) f t
  stmt_from may _ _ _ t (compound {l = l} {ss = ss} {m = u} x) =
      this (l, u, refl, (ss, t, x, (refl, refl)))
  stmt_from may _ _ _ t (if_only {l = l} {b = b} {c = c} {aye = s} {m = u} {m' = v} x z) =
      that (this (l, u, refl, (c, v, x, ((b, s), t, z, that (refl, refl)))))
  stmt_from may _ _ _ t (if_else {l = l} {k = k} {b = b} {c = c} {aye = s} {nay = n} {m = u}
      {m' = v} {m'' = w} x z y) =
      that (this (
        l,
        u,
        refl,
        (
          c,
          v,
          x,
          (
            (false, s),
            word k key.Else ∷ w,
            z,
            this (refl, (k, w, refl, ((b, n), t, y, (refl, refl)))),
          ),
        ),
      ))
  stmt_from may _ _ _ t (while {l = l} {b = b} {c = c} {s = s} {m = u} {m' = v} x z) =
      that (that (this (l, u, refl, (c, v, x, ((b, s), t, z, (refl, refl))))))
  stmt_from may _ _ _ t (repeat {l = l} {k = k} {k' = k'} {b = b} {c = c} {s = s} {m = u}
      {m' = v} z x) =
      that (that (that (this (
        l,
        u,
        refl,
        (
          (b, s),
          word k key.While ∷ v,
          z,
          (k, v, refl, (c, punct k' mark.Semicolon ∷ t, x, (k', t, refl, (refl, refl)))),
        ),
      ))))
  stmt_from may _ _ _ t (for {l = l} {k = k} {b = b} {i = i} {s = s} {o = o} {o' = o'} {m = u}
      {m1 = u1} {m2 = u2} {m3 = u3} xi xo xo' z) =
      that (that (that (that (this (
        l,
        punct k mark.LeftParen ∷ u,
        refl,
        (k, u, refl, (i, u1, xi, (o, u2, xo, (o', u3, xo', ((b, s), t, z, (refl, refl)))))),
      )))))
  stmt_from may _ _ _ t (switch {l = l} {k = k} {c = c} {xs = xs} {m = u} {m' = v} x z) =
      that (that (that (that (that (this (
        l,
        u,
        refl,
        (c, punct k mark.LeftBrace ∷ v, x, (k, v, refl, (xs, t, z, (refl, refl)))),
      ))))))
  stmt_from may _ _ _ t (return {l = l} {o = o} {m = u} x) =
      is_simple (this (l, u, refl, (o, t, x, (refl, refl))))
  stmt_from may _ _ _ t (break {l = l} {k = k}) =
      is_simple (that (this (l, punct k mark.Semicolon ∷ t, refl, (k, t, refl, (refl, refl)))))
  stmt_from may _ _ _ t (continue {l = l} {k = k}) =
      is_simple (that (that (this (l, punct k mark.Semicolon ∷ t, refl, (k, t, refl, (refl, refl))))))
  stmt_from may _ _ _ t (empty {l = l}) =
      is_simple (that (that (that (this (l, t, refl, (refl, refl))))))
  stmt_from may _ _ f t (plain {k = k} {e = e} x) =
      is_simple (that (that (that (that (
        e,
        punct k mark.Semicolon ∷ t,
        x,
        (k, t, refl, (refl, refl)),
      )))))

  -- the parser of statements is sound and complete
  pub stmt_piece : Piece pair_tree (StmtIs d) any closed_off closed_off stmt_first m
      (stmt_of nested below)
  stmt_piece = iff chain_piece stmt_to (λ may y f t x. stmt_from may y.0 y.1 f t x)
