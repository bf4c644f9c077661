-- Statements and declarations at every depth.
use Rattle.std.proofs.Common.{◌≡◌, ℕ, zero, suc, ◌+◌, Bool, true, false, cond, leb, [], ◌∷◌, Some, None}
use Rattle.std.proofs.Common.{refl, ◌∙◌, arith}
use Rattle.std.proofs.lemmas.Bool.{false≢true, le-leb}
use Rattle.c_tree.specs.declared.token.Lexeme.{Lexeme}
use Rattle.c_tree.specs.declared.token.Mark.TheVariants as mark
use Rattle.c_tree.specs.declared.token.Kind.{Kind}
use Rattle.c_tree.specs.declared.token.Kind.TheVariants as kind
use Rattle.c_tree.specs.declared.tree.ArraySize.TheVariants as size
use Rattle.c_tree.specs.declared.tree.Stmt.{Stmt}
use Rattle.c_tree.specs.declared.tree.StmtNode.TheVariants as node
use Rattle.c_grammar.specs.Tokens.{Tokens, punct, May}
use Rattle.c_grammar.specs.Places.{before}
use Rattle.c_grammar.specs.Types.{Types, unsigned}
use Rattle.c_grammar.specs.Statements.{at, declared, stmt, inner, Writes, bare, last_decl, declaration}
use Rattle.c_grammar.specs.Statements.{inner_is, plain}
use Rattle.c_grammar.specs.inside.Parsing.{Out, syntax, too_deep, first}
use Rattle.c_grammar.specs.inside.ModelTypes.{is_type, begins_type}
use Rattle.c_grammar.specs.inside.ModelExpressions.{inside}
use Rattle.c_grammar.specs.inside.ModelStatements.{below_at}
use Rattle.c_grammar.specs.inside.ModelBegins.{begins_statement}
use Rattle.c_grammar.proofs.Agree.{split_if, if_true, trans_le, stay, Opens, opens, frees_all}
use Rattle.c_grammar.proofs.Agree.{tied_first, deep}
use Rattle.c_grammar.proofs.Pieces.{Rel, Sound, read, stuck, Least, always, same_tree}
use Rattle.c_grammar.proofs.TokenPieces.{name_first}
use Rattle.c_grammar.proofs.Levels.{zero_expr, shortest}
use Rattle.c_grammar.proofs.Inside.{inside_known, not_deeper}
use Rattle.c_grammar.proofs.Begins.{inner_begins, locals_begin}
use Rattle.c_grammar.proofs.ShortestStatements.{begins_is, type_alone}
use Rattle.c_grammar.proofs.LocalDeclarations.{locals_first, locals_piece}
use Rattle.c_grammar.proofs.StatementSpellings.{pair_tree, closed_off, InnerIs, LocalsIn, stmt_first}
use Rattle.c_grammar.proofs.StatementSpellings.{Good}
use Rattle.c_grammar.proofs.Stmts.{stmt_piece}

inner_plain : {may : May} (d : ℕ) (u : Tokens) → may (stmt_first u) (suc d) ≡ true
    → Writes may (inner false (at 0 (node.Plain (Some zero_expr)))) d (stmt_first u) u
inner_plain d u h = inner_is h (plain (shortest 16))

inner_least : (d : ℕ) → Least (InnerIs d) stmt_first
inner_least d may t fr fr' = (
  (false, at 0 (node.Plain (Some zero_expr))),
  inner_plain d t (fr' _ _ (omega arith)),
)

abbrev x_declared : Kind → Stmt
x_declared k = declared 0 k (120 ∷ []) (size.Scalar, None)

locals_least : (d : ℕ) → Least (LocalsIn d) locals_first
locals_least d may t fr fr' = (
  x_declared kind.UInt ∷ [],
  (fr' (locals_first t) (suc d) (omega arith), declaration unsigned (last_decl bare)),
)

-- the token is kept, and what it opens is free
barred_inner : (m d : ℕ) (ts : Tokens) → Sound pair_tree (InnerIs d) closed_off m ts
    (cond (first begins_statement ts) (too_deep ts) (syntax ts))
barred_inner m d ts =
    split_if (Sound pair_tree (InnerIs d) closed_off m ts) (first begins_statement ts) _ _
    (λ e.
    let b = begins_is ts e in
    let w = b.3 in
    stuck _ (record {
      put = λ u. u;
      way = stay;
      is = refl;
      more = λ u. b.0 ∷ w.rest u;
      grows = λ u. trans_le (w.grows u) (omega arith);
      held = (b.0, b.1, w.rest, b.2, λ u. refl);
      completes = λ u.
          let fr = frees_all m (b.0 ∷ w.rest u) in
          let c = w.writes (before m (b.0 ∷ w.rest u)) (suc d) u fr in
          (c.0, inner_is (fr (b.0 ∷ w.rest u) (suc d) (omega arith)) c.1);
    }))
    (λ e. stuck _ (record {
      put = λ u. u;
      way = stay;
      is = refl;
      more = stmt_first;
      grows = λ u. omega arith;
      held = tt;
      completes = λ u. (
        (false, at 0 (node.Plain (Some zero_expr))),
        inner_plain d u (frees_all m (stmt_first u) (stmt_first u) (suc d) (omega arith)),
      );
    }))

type_is : (ts : Tokens) → begins_type ts ≡ true
    → (t : Lexeme) × (o : Tokens) × (k : Kind) × (ts ≡ t ∷ o)
    × ((u : Tokens) → Types t.offset k (t ∷ u) u)
type_is [] e = absurd (false≢true e)
type_is (t ∷ o) e = let a = type_alone t.offset t.form e in (t, o, a.0, refl, a.1)

barred_locals : (m d : ℕ) (ts : Tokens) → Sound same_tree (LocalsIn d) always m ts
    (cond (begins_type ts) (too_deep ts) (syntax ts))
barred_locals m d ts =
    split_if (Sound same_tree (LocalsIn d) always m ts) (begins_type ts) _ _
    (λ e.
    let b = type_is ts e in
    let more : Tokens → Tokens = λ u. b.0 ∷ name_first (punct 0 mark.Semicolon ∷ u) in
    stuck _ (record {
      put = λ u. u;
      way = stay;
      is = refl;
      more = more;
      grows = λ u. omega arith;
      held = (b.0, b.1, (λ u. name_first (punct 0 mark.Semicolon ∷ u)), b.3, λ u. refl);
      completes = λ u. (
        x_declared b.2 ∷ [],
        (
          frees_all m (more u) (more u) (suc d) (omega arith),
          declaration (b.4 (name_first (punct 0 mark.Semicolon ∷ u))) (last_decl bare),
        ),
      );
    }))
    (λ e. stuck _ (record {
      put = λ u. u;
      way = stay;
      is = refl;
      more = locals_first;
      grows = λ u. omega arith;
      held = tt;
      completes = λ u. (
        x_declared kind.UInt ∷ [],
        (
          frees_all m (locals_first u) (locals_first u) (suc d) (omega arith),
          declaration unsigned (last_decl bare),
        ),
      );
    }))

inner_may : {may : May} {b : Bool} {d : ℕ} {s : Stmt} {f t : Tokens} → Writes may (inner b s) d f t
    → may f (suc d) ≡ true
inner_may (inner_is ok x) = ok

inner_in : {may : May} {b : Bool} {d : ℕ} {s : Stmt} {f t : Tokens} → Writes may (inner b s) d f t
    → Writes may (stmt b s) (suc d) f t
inner_in (inner_is ok x) = x

nest_sound : {X A : Type 0} {tree : X → A} {R R' : Rel X} {Kept : X → Tokens → Type 0} {m : ℕ}
    → ((may : May) → Opens m may → (x : X) (f t : Tokens) → R may x f t → R' may x f t)
    → (ts : Tokens) {out : Out A} → Sound tree R Kept m ts out → Sound tree R' Kept m ts out
nest_sound h ts (read x t a k) = read x t
    (record {
      put = a.put;
      way = a.way;
      is = a.is;
      again = λ may w u. h may w x _ u (a.again may w u);
    }) k
nest_sound {m = m} h ts (stuck s o) =
    stuck s (record {
      put = o.put;
      way = o.way;
      is = o.is;
      more = o.more;
      grows = o.grows;
      held = o.held;
      completes = λ u. let c = o.completes u in (c.0, h (before m (o.more u)) (opens m (o.more u)) c.0 _ u c.1);
    })

-- the parser of statements with so many depths left is sound and complete
pub below_good : (m left d : ℕ) → d + left ≡ m → Good (below_at left) m d
unfolding below_at
below_good m zero d fits =
    record {
      inner_piece = record {
        grow = λ t. omega arith;
        least = inner_least d;
        sound = λ ts h. barred_inner m d ts;
        complete = λ cut g g' may p f' t' x e f tied.
            deep f f' (suc d) tied (if_true (first begins_statement f) (too_deep f) (syntax f)
            (tied_first cut g g' begins_statement tied ∙ inner_begins x)) (inner_may x)
            (not_deeper m d fits);
      };
      locals_in = record {
        grow = λ t. omega arith;
        least = locals_least d;
        sound = λ ts h. barred_locals m d ts;
        complete = λ cut g g' may ss f' t' x e f tied.
            deep f f' (suc d) tied (if_true (begins_type f) (too_deep f) (syntax f)
            (tied_first cut g g' is_type tied ∙ locals_begin x.1)) x.0 (not_deeper m d fits);
      };
    }
below_good m (suc left) d fits =
    let fits' : suc d + left ≡ m = omega (arith, fits) in
    let ok : leb (suc d) m ≡ true = le-leb (suc d) m (omega (arith, fits)) in
    let p = stmt_piece m (suc d) (inside left) (inside_known m left (suc d) fits') (below_at left)
    (below_good m left (suc d) fits') in
    let q = locals_piece m (suc d) (inside left) (inside_known m left (suc d) fits') in
    record {
      inner_piece = record {
        grow = λ t. omega arith;
        least = inner_least d;
        sound = λ ts h. nest_sound (λ may w x f t r. inner_is (w f (suc d) ok) r) ts
            (p.sound ts tt);
        complete = λ cut g g' may x f' t' r e f tied. p.complete cut g g' may x f' t'
            (inner_in r) e f tied;
      };
      locals_in = record {
        grow = λ t. omega arith;
        least = locals_least d;
        sound = λ ts h. nest_sound (λ may w x f t r. (w f (suc d) ok, r)) ts (q.sound ts tt);
        complete = λ cut g g' may x f' t' r e f tied. q.complete cut g g' may x f' t' r.1 e f tied;
      };
    }
