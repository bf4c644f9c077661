-- Loops and `if`, where the statements one deeper are known.
use Rattle.std.proofs.Common.{◌≡◌, ℕ, Bool, true, false, ◌∷◌, Some, None, Ok, refl, sym, ap, ◌∙◌, subst}
use Rattle.std.proofs.Common.{arith}
use Rattle.c_tree.specs.declared.token.Mark.TheVariants as mark
use Rattle.c_tree.specs.declared.token.Key.TheVariants as key
use Rattle.c_tree.specs.declared.tree.Expr.{Expr}
use Rattle.c_tree.specs.declared.tree.Stmt.{Stmt}
use Rattle.c_tree.specs.declared.tree.StmtNode.TheVariants as node
use Rattle.c_grammar.specs.Tokens.{Tokens, punct, word, May}
use Rattle.c_grammar.specs.Statements.{at, semicolon, paren}
use Rattle.c_grammar.specs.inside.Numbers.{is_key}
use Rattle.c_grammar.specs.inside.Parsing.{and_then, is_word, expect, expect_keyword}
use Rattle.c_grammar.specs.inside.ModelDepth.{Nested}
use Rattle.c_grammar.specs.inside.ModelStatements.{else_of, no_of, if_of, while_of, do_of, for_of}
use Rattle.c_grammar.specs.inside.ModelBegins.{Below}
use Rattle.c_grammar.specs.inside.ModelConditions.{until_of, test_of}
use Rattle.c_grammar.specs.inside.ModelEntries.{init_of}
use Rattle.c_grammar.proofs.Agree.{stay, Tied, good}
use Rattle.c_grammar.proofs.Pieces.{Rel, read, Then, always, any, Piece, seq, forget, done, Done, turn}
use Rattle.c_grammar.proofs.Pieces.{same_tree, Either, this, that, either}
use Rattle.c_grammar.proofs.TokenPieces.{Is, mark_piece, IsWord, word_piece}
use Rattle.c_grammar.proofs.Levels.{zero_token}
use Rattle.c_grammar.proofs.OneDeeper.{Deeper}
use Rattle.c_grammar.proofs.Inside.{never}
use Rattle.c_grammar.proofs.StatementParts.{Until, closer_first, until_piece, Test, test_first}
use Rattle.c_grammar.proofs.StatementParts.{test_piece, stmt_here}
use Rattle.c_grammar.proofs.StatementSpellings.{pair_tree, closed_off, InnerIs, InitIs, stmt_first}
use Rattle.c_grammar.proofs.StatementSpellings.{Good, not_open, kept_off}
use Rattle.c_grammar.proofs.EntryPieces

module _ (m d : ℕ) (nested : Nested) (deeper : Deeper nested m d) (below : Below) (known : Good below m d) where
  abbrev init_piece : Piece same_tree (InitIs d) any always always stmt_first m (init_of nested below)
  init_piece = EntryPieces.init_piece m d nested deeper below known

  -- ---- loops

  inner_last : (make : Stmt → Stmt) → Piece pair_tree
      (Then (InnerIs d) (λ p. Done (p.0, make (p.1)))) any closed_off closed_off stmt_first m
      (λ ts. and_then (below.inner ts) (λ s ts. stmt_here (make s) ts))
  inner_last make = seq (λ s ts. stmt_here (make s) ts) known.inner_piece
      (λ p. done pair_tree (p.0, make (p.1)) m (λ t h. h)) (λ t. omega arith)
      (λ may x y u t r h. kept_off r h)

  -- the parts of a `while`
  abbrev pub WhileIs : Rel (Bool × Stmt)
  WhileIs = Then (IsWord key.While) (λ l. Then (Test d)
      (λ c. Then (InnerIs d) (λ p. Done (p.0, at l (node.While c (p.1))))))

  -- the parser of a `while` is sound and complete
  pub while_piece : Piece pair_tree WhileIs any closed_off closed_off
      (λ t. word 0 key.While ∷ test_first (stmt_first t)) m (while_of nested below)
  unfolding while_of
  while_piece =
      seq (λ l ts. and_then (test_of nested ts)
      (λ c ts. and_then (below.inner ts) (λ s ts. stmt_here (at l (node.While c s)) ts)))
      (word_piece key.While m)
      (λ l. seq (λ c ts. and_then (below.inner ts) (λ s ts. stmt_here (at l (node.While c s)) ts))
      (test_piece m d nested deeper) (λ c. inner_last (λ s. at l (node.While c s)))
      (λ t. omega arith) (λ may x y u t r h. tt))
      (λ t. omega arith) (λ may x y u t r h. tt)

  -- the parts of a `do`
  abbrev pub DoIs : Rel (Bool × Stmt)
  DoIs = Then (IsWord key.Do) (λ l. Then (InnerIs d)
      (λ p. Then (IsWord key.While) (λ k. Then (Test d)
      (λ c. Then (Is mark.Semicolon) (λ k'. Done (false, at l (node.Do (p.1) c)))))))

  -- the parser of a `do` is sound and complete
  pub do_piece : Piece pair_tree DoIs any closed_off closed_off
      (λ t. word 0 key.Do ∷ stmt_first (word 0 key.While ∷ test_first (punct 0 mark.Semicolon ∷ t))) m
      (do_of nested below)
  unfolding do_of
  do_piece =
      seq (λ l ts. and_then (below.inner ts)
      (λ s ts. and_then (expect_keyword key.While ts)
      (λ _ ts. and_then (test_of nested ts)
      (λ c ts. and_then (expect mark.Semicolon ts) (λ _ ts. stmt_here (at l (node.Do s c)) ts)))))
      (word_piece key.Do m)
      (λ l. seq (λ s ts. and_then (expect_keyword key.While ts)
      (λ _ ts. and_then (test_of nested ts)
      (λ c ts. and_then (expect mark.Semicolon ts) (λ _ ts. stmt_here (at l (node.Do s c)) ts))))
      known.inner_piece
      (λ p. forget (seq (λ _ ts. and_then (test_of nested ts)
      (λ c ts. and_then (expect mark.Semicolon ts)
      (λ _ ts. stmt_here (at l (node.Do (p.1) c)) ts))) (word_piece key.While m)
      (λ k. seq (λ c ts. and_then (expect mark.Semicolon ts)
      (λ _ ts. stmt_here (at l (node.Do (p.1) c)) ts)) (test_piece m d nested deeper)
      (λ c. seq (λ _ ts. stmt_here (at l (node.Do (p.1) c)) ts) (mark_piece mark.Semicolon m)
      (λ k'. done pair_tree (false, at l (node.Do (p.1) c)) m (λ t h e. never e))
      (λ t. omega arith) (λ may x y u t r h. tt))
      (λ t. omega arith) (λ may x y u t r h. tt))
      (λ t. omega arith) (λ may x y u t r h. tt)))
      (λ t. omega arith) (λ may p y u t r h. λ b. ap (is_word key.Else) r.2))
      (λ t. omega arith) (λ may x y u t r h. tt)

  -- the parts of a `for`
  abbrev pub ForIs : Rel (Bool × Stmt)
  ForIs =
      Then (IsWord key.For) (λ l. Then (Is mark.LeftParen)
      (λ k. Then (InitIs d) (λ i. Then (Until semicolon d)
      (λ o. Then (Until paren d) (λ o'. Then (InnerIs d)
      (λ p. Done (p.0, at l (node.For i o o' (p.1)))))))))

  -- the parser of a `for` is sound and complete
  pub for_piece : Piece pair_tree ForIs any closed_off closed_off
      (λ t. word 0 key.For ∷ punct 0 mark.LeftParen ∷ stmt_first
      (stmt_first (zero_token ∷ closer_first paren (stmt_first t)))) m (for_of nested below)
  unfolding for_of
  for_piece =
      seq (λ l ts. and_then (expect mark.LeftParen ts)
      (λ _ ts. and_then (init_of nested below ts)
      (λ i ts. and_then (until_of nested semicolon ts)
      (λ o ts. and_then (until_of nested paren ts)
      (λ o' ts. and_then (below.inner ts) (λ s ts. stmt_here (at l (node.For i o o' s)) ts))))))
      (word_piece key.For m)
      (λ l. seq (λ _ ts. and_then (init_of nested below ts)
      (λ i ts. and_then (until_of nested semicolon ts)
      (λ o ts. and_then (until_of nested paren ts)
      (λ o' ts. and_then (below.inner ts) (λ s ts. stmt_here (at l (node.For i o o' s)) ts)))))
      (mark_piece mark.LeftParen m)
      (λ k. seq (λ i ts. and_then (until_of nested semicolon ts)
      (λ o ts. and_then (until_of nested paren ts)
      (λ o' ts. and_then (below.inner ts) (λ s ts. stmt_here (at l (node.For i o o' s)) ts))))
      init_piece
      (λ i. seq (λ o ts. and_then (until_of nested paren ts)
      (λ o' ts. and_then (below.inner ts) (λ s ts. stmt_here (at l (node.For i o o' s)) ts)))
      (until_piece m d nested deeper semicolon)
      (λ o. seq (λ o' ts. and_then (below.inner ts)
      (λ s ts. stmt_here (at l (node.For i o o' s)) ts)) (until_piece m d nested deeper paren)
      (λ o'. inner_last (λ s. at l (node.For i o o' s))) (λ t. omega arith)
      (λ may x y u t r h. tt))
      (λ t. omega arith) (λ may x y u t r h. tt))
      (λ t. omega arith) (λ may x y u t r h. tt))
      (λ t. omega arith) (λ may x y u t r h. tt))
      (λ t. omega arith) (λ may x y u t r h. tt)

  -- ---- `if`

  -- the parts of an `else`
  abbrev pub ElseIs : ℕ → Expr → Bool × Stmt → Rel (Bool × Stmt)
  ElseIs l c p = Then (IsWord key.Else) (λ k. Then (InnerIs d)
      (λ q. Done (q.0, at l (node.If c (p.1) (Some (q.1))))))

  else_piece : (l : ℕ) (c : Expr) (p : Bool × Stmt)
      → Piece pair_tree (ElseIs l c p) any closed_off closed_off
      (λ t. word 0 key.Else ∷ stmt_first t) m (else_of nested below l c (p.1))
  unfolding else_of
  else_piece l c p =
      seq (λ _ ts. and_then (below.inner ts)
      (λ nay ts. stmt_here (at l (node.If c (p.1) (Some nay))) ts)) (word_piece key.Else m)
      (λ k. inner_last (λ s. at l (node.If c (p.1) (Some s)))) (λ t. omega arith)
      (λ may x y u t r h. tt)

  -- with `else` only where the first part is closed
  abbrev OtherIs : ℕ → Expr → Bool × Stmt → Rel (Bool × Stmt)
  OtherIs l c p may y f t = (p.0 ≡ false) × ElseIs l c p may y f t

  abbrev AloneIs : ℕ → Expr → Bool × Stmt → Rel (Bool × Stmt)
  AloneIs l c p = Done (true, at l (node.If c (p.1) None))

  alone_no_else : (l : ℕ) (c : Expr) (p y : Bool × Stmt) (u t : Tokens)
      → ((true, at l (node.If c (p.1) None)) ≡ y) × (u ≡ t) → closed_off y t
      → is_word key.Else u ≡ false
  alone_no_else l c p y u t r h = kept_off r h refl

  no_piece : (l : ℕ) (c : Expr) (p : Bool × Stmt)
      → Piece pair_tree (Either (OtherIs l c p) (AloneIs l c p)) (closed_off p) closed_off closed_off
      (λ t. t) m (no_of nested below l c (p.1))
  unfolding no_of
  no_piece l c p =
      either (is_key key.Else) (λ ts h e. turn (λ may y f t r. (not_open p.0 ts h e, r)) ts
      ((else_piece l c p).sound ts tt))
      (λ cut g g' may y f' t' r e f tied.
      (else_piece l c p).complete cut g g' may y f' t' r.1 e f tied)
      (λ t. omega arith) (λ may t fr fr'. ((true, at l (node.If c (p.1) None)), (refl, refl)))
      (λ ts h e. read (true, at l (node.If c (p.1) None)) ts
      (record { put = λ u. u; way = stay; is = refl; again = λ may w u. (refl, refl) }) (λ _. e))
      (λ cut g g' may y f' t' r e f tied. good f
      (subst (λ (u : Tokens). Tied cut g g' f u) r.1 tied) (ap (λ y. Ok (pair_tree y, f)) r.0))
      (λ may y f t r. ap (is_word key.Else) r.1.2) (λ may y f t r e. alone_no_else l c p y f t r e)

  no_meets : (l : ℕ) (c : Expr) → (may : May) (p y : Bool × Stmt) (u t : Tokens)
      → Either (OtherIs l c p) (AloneIs l c p) may y u t → closed_off y t → closed_off p u
  no_meets l c may p y u t (this r) h = λ b. never (sym r.0 ∙ b)
  no_meets l c may p y u t (that r) h = λ _. alone_no_else l c p y u t r h

  -- the parts of an `if`, with `else` or without
  abbrev pub IfIs : Rel (Bool × Stmt)
  IfIs = Then (IsWord key.If) (λ l. Then (Test d)
      (λ c. Then (InnerIs d) (λ p. Either (OtherIs l c p) (AloneIs l c p))))

  -- the parser of an `if` is sound and complete
  pub if_piece : Piece pair_tree IfIs any closed_off closed_off
      (λ t. word 0 key.If ∷ test_first (stmt_first t)) m (if_of nested below)
  unfolding if_of
  if_piece =
      seq (λ l ts. and_then (test_of nested ts)
      (λ c ts. and_then (below.inner ts) (λ s ts. no_of nested below l c s ts)))
      (word_piece key.If m)
      (λ l. seq (λ c ts. and_then (below.inner ts) (λ s ts. no_of nested below l c s ts))
      (test_piece m d nested deeper)
      (λ c. seq (λ s ts. no_of nested below l c s ts) known.inner_piece (λ p. no_piece l c p)
      (λ t. omega arith) (no_meets l c)) (λ t. omega arith) (λ may x y u t r h. tt))
      (λ t. omega arith) (λ may x y u t r h. tt)
