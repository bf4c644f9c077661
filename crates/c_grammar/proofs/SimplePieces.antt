-- Jumps, blocks and plain statements.
use Rattle.std.proofs.Common.{◌≡◌, ℕ, Bool, false, ◌∷◌, Some, None, refl, ap, ◌∙◌, arith}
use Rattle.c_tree.specs.declared.token.Form.TheVariants as form
use Rattle.c_tree.specs.declared.token.Mark.TheVariants as mark
use Rattle.c_tree.specs.declared.token.Key.{Key}
use Rattle.c_tree.specs.declared.token.Key.TheVariants as key
use Rattle.c_tree.specs.declared.tree.Stmt.{Stmt}
use Rattle.c_tree.specs.declared.tree.StmtNode.{StmtNode}
use Rattle.c_tree.specs.declared.tree.StmtNode.TheVariants as node
use Rattle.c_grammar.specs.Tokens.{Tokens, punct, word, May}
use Rattle.c_grammar.specs.Statements.{at, semicolon}
use Rattle.c_grammar.specs.inside.Numbers.{is_mark, is_key}
use Rattle.c_grammar.specs.inside.Parsing.{and_then, is_next, is_word, expect}
use Rattle.c_grammar.specs.inside.ModelDepth.{Nested}
use Rattle.c_grammar.specs.inside.ModelStatements.{leave_of, return_of, empty_of, compound_of, plain_of}
use Rattle.c_grammar.specs.inside.ModelStatements.{simple_of}
use Rattle.c_grammar.specs.inside.ModelBegins.{Below}
use Rattle.c_grammar.specs.inside.ModelConditions.{until_of}
use Rattle.c_grammar.specs.inside.ModelEntries.{entries_of}
use Rattle.c_grammar.proofs.Pieces.{Rel, Then, always, any, Piece, seq, done, Done, same_tree, Either}
use Rattle.c_grammar.proofs.Pieces.{this, that, either_of}
use Rattle.c_grammar.proofs.TokenPieces.{Is, mark_piece, IsWord, word_piece}
use Rattle.c_grammar.proofs.Stops.{mark_stops}
use Rattle.c_grammar.proofs.Levels.{level_starts, starts_no_mark}
use Rattle.c_grammar.proofs.Joins.{Level}
use Rattle.c_grammar.proofs.OneDeeper.{Deeper}
use Rattle.c_grammar.proofs.Inside.{expression_piece, never}
use Rattle.c_grammar.proofs.Begins.{starts_no_word}
use Rattle.c_grammar.proofs.StatementParts.{Until, until_piece, stmt_here}
use Rattle.c_grammar.proofs.StatementSpellings.{pair_tree, closed_off, EntriesAre, BodyIs, stmt_first}
use Rattle.c_grammar.proofs.StatementSpellings.{Good}
use Rattle.c_grammar.proofs.EntryPieces

module _ (m d : ℕ) (nested : Nested) (deeper : Deeper nested m d) (below : Below) (known : Good below m d) where
  abbrev entries_piece
      : Piece same_tree (EntriesAre d) any always always (λ t. punct 0 mark.RightBrace ∷ t) m (entries_of nested
      below)
  entries_piece = EntryPieces.entries_piece m d nested deeper below known

  abbrev LeaveIs : Key → StmtNode → Rel (Bool × Stmt)
  LeaveIs k n = Then (IsWord k) (λ l. Then (Is mark.Semicolon) (λ j. Done (false, at l n)))

  leave_piece : (k : Key) (n : StmtNode) → Piece pair_tree (LeaveIs k n) any closed_off closed_off
      (λ t. word 0 k ∷ punct 0 mark.Semicolon ∷ t) m (leave_of nested below k n)
  unfolding leave_of
  leave_piece k n =
      seq (λ l ts. and_then (expect mark.Semicolon ts) (λ _ ts. stmt_here (at l n) ts))
      (word_piece k m)
      (λ l. seq (λ _ ts. stmt_here (at l n) ts) (mark_piece mark.Semicolon m)
      (λ j. done pair_tree (false, at l n) m (λ t h e. never e)) (λ t. omega arith)
      (λ may x y u t r h. tt)) (λ t. omega arith) (λ may x y u t r h. tt)

  -- the parts of a `return`
  abbrev pub ReturnIs : Rel (Bool × Stmt)
  ReturnIs = Then (IsWord key.Return) (λ l. Then (Until semicolon d)
      (λ o. Done (false, at l (node.Return o))))

  return_piece : Piece pair_tree ReturnIs any closed_off closed_off
      (λ t. word 0 key.Return ∷ stmt_first t) m (return_of nested below)
  unfolding return_of
  return_piece =
      seq (λ l ts. and_then (until_of nested semicolon ts)
      (λ o ts. stmt_here (at l (node.Return o)) ts)) (word_piece key.Return m)
      (λ l. seq (λ o ts. stmt_here (at l (node.Return o)) ts)
      (until_piece m d nested deeper semicolon)
      (λ o. done pair_tree (false, at l (node.Return o)) m (λ t h e. never e)) (λ t. omega arith)
      (λ may x y u t r h. tt)) (λ t. omega arith) (λ may x y u t r h. tt)

  abbrev EmptyIs : Rel (Bool × Stmt)
  EmptyIs = Then (Is mark.Semicolon) (λ l. Done (false, at l (node.Plain None)))

  empty_piece : Piece pair_tree EmptyIs any closed_off closed_off
      (λ t. punct 0 mark.Semicolon ∷ t) m (empty_of nested below)
  unfolding empty_of
  empty_piece = seq (λ l ts. stmt_here (at l (node.Plain None)) ts) (mark_piece mark.Semicolon m)
      (λ l. done pair_tree (false, at l (node.Plain None)) m (λ t h e. never e)) (λ t. omega arith)
      (λ may x y u t r h. tt)

  -- the parts of a block
  abbrev pub CompoundIs : Rel (Bool × Stmt)
  CompoundIs = Then (Is mark.LeftBrace) (λ l. Then (EntriesAre d)
      (λ ss. Done (false, at l (node.Compound ss))))

  -- the parser of blocks is sound and complete
  pub compound_piece : Piece pair_tree CompoundIs any closed_off closed_off
      (λ t. punct 0 mark.LeftBrace ∷ punct 0 mark.RightBrace ∷ t) m (compound_of nested below)
  unfolding compound_of
  compound_piece =
      seq (λ l ts. and_then (entries_of nested below ts)
      (λ ss ts. stmt_here (at l (node.Compound ss)) ts)) (mark_piece mark.LeftBrace m)
      (λ l. seq (λ ss ts. stmt_here (at l (node.Compound ss)) ts) entries_piece
      (λ ss. done pair_tree (false, at l (node.Compound ss)) m (λ t h e. never e))
      (λ t. omega arith) (λ may x y u t r h. tt)) (λ t. omega arith) (λ may x y u t r h. tt)

  -- the body of a function
  pub body_piece : Piece same_tree (BodyIs d) any always always
      (λ t. punct 0 mark.LeftBrace ∷ punct 0 mark.RightBrace ∷ t) m (compound_of nested below)
  unfolding compound_of
  body_piece =
      seq (λ l ts. and_then (entries_of nested below ts)
      (λ ss ts. stmt_here (at l (node.Compound ss)) ts)) (mark_piece mark.LeftBrace m)
      (λ l. seq (λ ss ts. stmt_here (at l (node.Compound ss)) ts) entries_piece
      (λ ss. done same_tree (at l (node.Compound ss)) m (λ t h. tt)) (λ t. omega arith)
      (λ may x y u t r h. tt)) (λ t. omega arith) (λ may x y u t r h. tt)

  -- the parts of a plain statement
  abbrev pub PlainIs : Rel (Bool × Stmt)
  PlainIs = Then (Level 16 d) (λ e. Then (Is mark.Semicolon)
      (λ k. Done (false, at e.offset (node.Plain (Some e)))))

  plain_piece : Piece pair_tree PlainIs any closed_off closed_off stmt_first m
      (plain_of nested below)
  unfolding plain_of
  plain_piece =
      seq (λ e ts. and_then (expect mark.Semicolon ts)
      (λ _ ts. stmt_here (at e.offset (node.Plain (Some e))) ts))
      (expression_piece m d nested deeper)
      (λ e. seq (λ _ ts. stmt_here (at e.offset (node.Plain (Some e))) ts)
      (mark_piece mark.Semicolon m) (λ k. done pair_tree
      (false, at e.offset (node.Plain (Some e))) m (λ t h e. never e)) (λ t. omega arith)
      (λ may x y u t r h. tt))
      (λ t. omega arith) (λ may x y u t r h. mark_stops 16 mark.Semicolon
      (omega arith) r.0 r.1 u r.2)

  -- ---- any of these

  abbrev Simple3 : Rel (Bool × Stmt)
  Simple3 = Either EmptyIs PlainIs

  abbrev Simple2 : Rel (Bool × Stmt)
  Simple2 = Either (LeaveIs key.Continue node.Continue) Simple3

  abbrev Simple1 : Rel (Bool × Stmt)
  Simple1 = Either (LeaveIs key.Break node.Break) Simple2

  abbrev SimpleIs : Rel (Bool × Stmt)
  SimpleIs = Either ReturnIs Simple1

  plain_no_word : (k : Key) (may : May) (y : Bool × Stmt) (f t : Tokens) → PlainIs may y f t
      → is_word k f ≡ false
  plain_no_word k may y f t r = starts_no_word k f (level_starts r.2)

  simple3_no : (k : Key) (may : May) (y : Bool × Stmt) (f t : Tokens) → Simple3 may y f t
      → is_word k f ≡ false
  simple3_no k may y f t (this r) = ap (is_word k) r.2
  simple3_no k may y f t (that r) = plain_no_word k may y f t r

  simple2_no : (k : Key) → is_key k (form.Key key.Continue) ≡ false
      → (may : May) (y : Bool × Stmt) (f t : Tokens) → Simple2 may y f t → is_word k f ≡ false
  simple2_no k a may y f t (this r) = ap (is_word k) r.2 ∙ a
  simple2_no k a may y f t (that r) = simple3_no k may y f t r

  simple1_no : (k : Key) → is_key k (form.Key key.Break) ≡ false
      → is_key k (form.Key key.Continue) ≡ false → (may : May) (y : Bool × Stmt) (f t : Tokens)
      → Simple1 may y f t → is_word k f ≡ false
  simple1_no k a b may y f t (this r) = ap (is_word k) r.2 ∙ a
  simple1_no k a b may y f t (that r) = simple2_no k b may y f t r

  -- a simple statement begins with a word only where that word begins one
  pub simple_no : (k : Key) → is_key k (form.Key key.Return) ≡ false
      → is_key k (form.Key key.Break) ≡ false → is_key k (form.Key key.Continue) ≡ false
      → (may : May) (y : Bool × Stmt) (f t : Tokens) → SimpleIs may y f t → is_word k f ≡ false
  simple_no k a b c may y f t (this r) = ap (is_word k) r.2 ∙ a
  simple_no k a b c may y f t (that r) = simple1_no k b c may y f t r

  -- no simple statement begins with a brace
  pub simple_no_brace : (may : May) (y : Bool × Stmt) (f t : Tokens) → SimpleIs may y f t
      → is_next mark.LeftBrace f ≡ false
  simple_no_brace may y f t (this r) = ap (is_next mark.LeftBrace) r.2
  simple_no_brace may y f t (that (this r)) = ap (is_next mark.LeftBrace) r.2
  simple_no_brace may y f t (that (that (this r))) = ap (is_next mark.LeftBrace) r.2
  simple_no_brace may y f t (that (that (that (this r)))) = ap (is_next mark.LeftBrace) r.2
  simple_no_brace may y f t (that (that (that (that r)))) =
      starts_no_mark mark.LeftBrace refl f (level_starts r.2)

  -- the parser of simple statements is sound and complete
  pub simple_piece : Piece pair_tree SimpleIs any closed_off closed_off stmt_first m
      (simple_of nested below)
  unfolding simple_of
  simple_piece =
      either_of (is_key key.Return) return_piece
      (either_of (is_key key.Break) (leave_piece key.Break node.Break)
      (either_of (is_key key.Continue) (leave_piece key.Continue node.Continue)
      (either_of (is_mark mark.Semicolon) empty_piece plain_piece
      (λ may y f t r. ap (is_next mark.Semicolon) r.2)
      (λ may y f t r e. starts_no_mark mark.Semicolon refl f (level_starts r.2)))
      (λ may y f t r. ap (is_word key.Continue) r.2)
      (λ may y f t r e. simple3_no key.Continue may y f t r))
      (λ may y f t r. ap (is_word key.Break) r.2)
      (λ may y f t r e. simple2_no key.Break refl may y f t r))
      (λ may y f t r. ap (is_word key.Return) r.2)
      (λ may y f t r e. simple1_no key.Return refl refl may y f t r)
