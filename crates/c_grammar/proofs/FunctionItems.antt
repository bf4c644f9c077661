-- Functions of a translation unit, behind their names.
use Rattle.std.proofs.Common.{◌≡◌, ℕ, List, [], ◌∷◌, Option, Some, None, Ok, refl, sym, ap, subst}
use Rattle.std.proofs.Common.{arith}
use Rattle.c_tree.specs.declared.token.Mark.TheVariants as mark
use Rattle.c_tree.specs.declared.token.Kind.{Kind}
use Rattle.c_tree.specs.declared.tree.Param.{Param}
use Rattle.c_tree.specs.declared.tree.Stmt.{Stmt}
use Rattle.c_tree.specs.declared.tree.StmtNode.TheVariants as node
use Rattle.c_tree.specs.declared.tree.Top.{Top}
use Rattle.c_grammar.specs.Tokens.{Tokens, punct, named, May}
use Rattle.c_grammar.specs.Statements as s
use Rattle.c_grammar.specs.Units.{function, Units, params, func, prototype, definition}
use Rattle.c_grammar.specs.inside.Numbers.{is_mark}
use Rattle.c_grammar.specs.inside.Parsing.{Out, and_then, is_next}
use Rattle.c_grammar.specs.inside.ModelDepth.{Nested}
use Rattle.c_grammar.specs.inside.ModelUnits.{defined_of, declared_of, rest_of, func_of}
use Rattle.c_grammar.specs.inside.ModelParameters.{params_of}
use Rattle.c_grammar.proofs.Pieces.{Rel, Then, always, any, Piece, seq, done, Done, ends_with}
use Rattle.c_grammar.proofs.Pieces.{same_tree, Either, this, that, either_of}
use Rattle.c_grammar.proofs.TokenPieces.{Is, mark_piece}
use Rattle.c_grammar.proofs.Types.{type_first}
use Rattle.c_grammar.proofs.OneDeeper.{Deeper}
use Rattle.c_grammar.proofs.StatementSpellings.{BodyIs}
use Rattle.c_grammar.proofs.Parameters.{ParamsAre, params_piece}

abbrev top_here : Top → Tokens → Out Top
top_here x t = Ok (x, t)

abbrev tops_here : List Top → Tokens → Out (List Top)
tops_here x t = Ok (x, t)

module _ (m : ℕ) (nested : Nested) (known : Deeper nested m 0) (body : Tokens → Out Stmt)
    (body_known : Piece same_tree (BodyIs 1) any always always
    (λ t. punct 0 mark.LeftBrace ∷ punct 0 mark.RightBrace ∷ t) m body) where
  abbrev DefinedIs : Option Kind → ℕ → List ℕ → List Param → Rel Top
  DefinedIs r l w ps = Then (BodyIs 1) (λ b. Done (function l r w ps (Some b)))

  abbrev DeclaredIs : Option Kind → ℕ → List ℕ → List Param → Rel Top
  DeclaredIs r l w ps = Then (Is mark.Semicolon) (λ k. Done (function l r w ps None))

  abbrev RestIs : Option Kind → ℕ → List ℕ → List Param → Rel Top
  RestIs r l w ps = Either (DefinedIs r l w ps) (DeclaredIs r l w ps)

  defined_piece : (r : Option Kind) (l : ℕ) (w : List ℕ) (ps : List Param)
      → Piece same_tree (DefinedIs r l w ps) any always always
      (λ t. punct 0 mark.LeftBrace ∷ punct 0 mark.RightBrace ∷ t) m (defined_of nested body r l w ps)
  unfolding defined_of
  defined_piece r l w ps = seq (λ b ts. top_here (function l r w ps (Some b)) ts) body_known
      (λ b. done same_tree (function l r w ps (Some b)) m (λ t h. tt)) (λ t. omega arith)
      (λ may x y u t r h. tt)

  declared_piece : (r : Option Kind) (l : ℕ) (w : List ℕ) (ps : List Param)
      → Piece same_tree (DeclaredIs r l w ps) any always always (λ t. punct 0 mark.Semicolon ∷ t) m
      (declared_of nested body r l w ps)
  unfolding declared_of
  declared_piece r l w ps = seq (λ _ ts. top_here (function l r w ps None) ts)
      (mark_piece mark.Semicolon m) (λ k. done same_tree (function l r w ps None) m (λ t h. tt))
      (λ t. omega arith) (λ may x y u t r h. tt)

  rest_piece : (r : Option Kind) (l : ℕ) (w : List ℕ) (ps : List Param)
      → Piece same_tree (RestIs r l w ps) any always always (λ t. punct 0 mark.Semicolon ∷ t) m
      (rest_of nested body r l w ps)
  unfolding rest_of
  rest_piece r l w ps =
      either_of (is_mark mark.LeftBrace) (defined_piece r l w ps) (declared_piece r l w ps)
      (λ may x f t q. ap (is_next mark.LeftBrace) q.2.2)
      (λ may x f t q e. ap (is_next mark.LeftBrace) q.2)

  -- a function behind its name, as the list of one
  abbrev pub FuncIs : Option Kind → ℕ → List ℕ → Rel (List Top)
  FuncIs r l w = Then (Is mark.LeftParen)
      (λ k. Then ParamsAre (λ ps. Then (RestIs r l w ps) (λ x. Done (x ∷ []))))

  -- the parser of a function behind its name is sound and complete
  pub func_piece : (r : Option Kind) (l : ℕ) (w : List ℕ)
      → Piece same_tree (FuncIs r l w) any always always
      (λ t. punct 0 mark.LeftParen ∷ type_first
      (punct 0 mark.RightParen ∷ punct 0 mark.Semicolon ∷ t)) m (func_of nested body r l w)
  unfolding func_of
  func_piece r l w =
      seq (λ _ ts. and_then (params_of nested ts)
      (λ ps ts. and_then (rest_of nested body r l w ps ts) (λ x ts. tops_here (x ∷ []) ts)))
      (mark_piece mark.LeftParen m)
      (λ k. seq (λ ps ts. and_then (rest_of nested body r l w ps ts)
      (λ x ts. tops_here (x ∷ []) ts)) (params_piece m nested known)
      (λ ps. seq (λ x ts. tops_here (x ∷ []) ts) (rest_piece r l w ps)
      (λ x. done same_tree (x ∷ []) m (λ t h. tt)) (λ t. omega arith) (λ may x y u t r h. tt))
      (λ t. omega arith) (λ may x y u t r h. tt))
      (λ t. omega arith) (λ may x y u t r h. tt)

  rest_to : (may : May) (k : ℕ) (r : Option Kind) (l : ℕ) (w : List ℕ) (ps : List Param) (x : Top)
      (f u t : Tokens) → Units may (params ps) f u → RestIs r l w ps may x u t
      → Units may (func r x) (named l w ∷ punct k mark.LeftParen ∷ f) t
  rest_to may k r l w ps x f u t p (this q) =
      let b = q.2 in let e = b.3 in
      ends_with (λ x t. Units may (func r x) (named l w ∷ punct k mark.LeftParen ∷ f) t)
      (subst (λ (c : Stmt). Units may (func r (function l r w ps (Some c)))
      (named l w ∷ punct k mark.LeftParen ∷ f) q.1) (e.3.0)
      (subst (λ (v : Tokens). Units may (func r
      (function l r w ps (Some (s.at b.0 (node.Compound e.0)))))
      (named l w ∷ punct k mark.LeftParen ∷ f) v) (e.3.1)
      (definition (subst (λ (u : Tokens). Units may (params ps) f u) b.2 p) e.2)))
      q.3
  rest_to may k r l w ps x f u t p (that q) =
      ends_with (λ x t. Units may (func r x) (named l w ∷ punct k mark.LeftParen ∷ f) t)
      (prototype (subst (λ (u : Tokens). Units may (params ps) f u) q.2 p)) q.3

  -- what the parts of a function spell is a function
  pub func_to : (may : May) (r : Option Kind) (l : ℕ) (w : List ℕ) (xs : List Top) (f t : Tokens)
      → FuncIs r l w may xs f t → (x : Top) × (x ∷ [] ≡ xs) × Units may (func r x) (named l w ∷ f) t
  func_to may r l w xs f t q =
      let p = q.3 in let x = p.3 in (
        x.0,
        x.3.0,
        subst (λ (t : Tokens). Units may (func r x.0) (named l w ∷ f) t) x.3.1
            (subst (λ (f : Tokens). Units may (func r x.0) (named l w ∷ f) x.1) (sym q.2)
            (rest_to may q.0 r l w p.0 x.0 q.1 p.1 x.1 p.2 x.2)),
      )

  -- the spelling of a function is its name and its parts
  pub func_from : (may : May) (r : Option Kind) (x : Top) (f t : Tokens) → Units may (func r x) f t
      → (n : ℕ × List ℕ) × (u : Tokens) × (f ≡ named n.0 n.1 ∷ u) × FuncIs r n.0 n.1 may (x ∷ []) u t
  func_from may r _ _ t (prototype {l = l} {k = k} {k' = k'} {w = w} {ps = ps} {m = v} x) = (
    (l, w),
    punct k mark.LeftParen ∷ v,
    refl,
    (
      k,
      v,
      refl,
      (
        ps,
        punct k' mark.Semicolon ∷ t,
        x,
        (function l r w ps None, t, that (k', t, refl, (refl, refl)), (refl, refl)),
      ),
    ),
  )
  func_from may r _ _ t (definition {l = l} {k = k} {k' = k'} {w = w} {ps = ps} {ss = ss} {m = v}
      {m' = v'} x z) = (
        (l, w),
        punct k mark.LeftParen ∷ v,
        refl,
        (
          k,
          v,
          refl,
          (
            ps,
            punct k' mark.LeftBrace ∷ v',
            x,
            (
              function l r w ps (Some (s.at k' (node.Compound ss))),
              t,
              this (
                s.at k' (node.Compound ss),
                t,
                (k', v', refl, (ss, t, z, (refl, refl))),
                (refl, refl),
              ),
              (refl, refl),
            ),
          ),
        ),
      )
