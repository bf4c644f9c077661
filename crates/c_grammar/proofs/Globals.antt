-- Globals, one or more, behind a type.
use Rattle.std.proofs.Common.{◌≡◌, ℕ, false, List, [], ◌∷◌, Ok, refl, sym, ap, subst, arith}
use Rattle.std.proofs.lemmas.Bool.{false≢true}
use Rattle.c_tree.specs.declared.token.Mark.TheVariants as mark
use Rattle.c_tree.specs.declared.token.Kind.{Kind}
use Rattle.c_tree.specs.declared.tree.Expr.{Expr}
use Rattle.c_tree.specs.declared.tree.ArraySize.{ArraySize}
use Rattle.c_tree.specs.declared.tree.Top.{Top}
use Rattle.c_grammar.specs.Tokens.{Tokens, punct, named, May}
use Rattle.c_grammar.specs.Units.{global, Units, shape, globals, last_global, next_global}
use Rattle.c_grammar.specs.inside.Parsing.{Out, and_then}
use Rattle.c_grammar.specs.inside.ModelDepth.{Nested}
use Rattle.c_grammar.specs.inside.ModelGlobals.{shape_of, global_of, more_globals_of, globals_of}
use Rattle.c_grammar.proofs.Pieces.{Rel, Then, always, any, Piece, seq, done, Done, same_tree}
use Rattle.c_grammar.proofs.TokenPieces.{Named, name_piece, name_first}
use Rattle.c_grammar.proofs.Lists.{Tail, ends, trails, goes, tail_piece, tail_meets}
use Rattle.c_grammar.proofs.Stops.{Stops}
use Rattle.c_grammar.proofs.OneDeeper.{Deeper}
use Rattle.c_grammar.proofs.GlobalShapes.{ShapeIs, shape_piece}

-- the spelling of some globals of one declaration
abbrev pub GlobalsAre : Kind → Rel (List Top)
GlobalsAre k may gs f t = Units may (globals k gs) f t

abbrev top_here : Top → Tokens → Out Top
top_here x t = Ok (x, t)

module _ (m : ℕ) (nested : Nested) (known : Deeper nested m 0) where
  abbrev GlobalIs : Kind → Rel Top
  GlobalIs k = Then Named (λ n. Then ShapeIs (λ s. Done (global n.0 k n.1 s)))

  abbrev global_ends : Top → Tokens → Type 0
  global_ends x t = Stops 15 t

  global_piece : (k : Kind) → Piece same_tree (GlobalIs k) any always global_ends name_first m
      (global_of nested k)
  unfolding global_of
  global_piece k =
      seq (λ n ts. and_then (shape_of nested ts) (λ s ts. top_here (global n.0 k n.1 s) ts))
      (name_piece m)
      (λ n. seq (λ s ts. top_here (global n.0 k n.1 s) ts) (shape_piece m nested known)
      (λ s. done same_tree (global n.0 k n.1 s) m (λ t h. tt)) (λ t. omega arith)
      (λ may x y u t r h. subst (Stops 15) (sym r.1) h)) (λ t. omega arith)
      (λ may x y u t r h. tt)

  globals_tail : (may : May) (k : Kind) (n : ℕ × List ℕ) (v u t : Tokens)
      (h : ArraySize × List (List Expr)) (x : Top) (gs : List Top) → Units may (shape h) v u
      → global n.0 k n.1 h ≡ x → Tail (GlobalsAre k) mark.Semicolon false x may gs u t
      → GlobalsAre k may gs (named n.0 n.1 ∷ v) t
  globals_tail may k n v _ t h x _ w e ends =
      subst (λ (y : Top). GlobalsAre k may (y ∷ []) (named n.0 n.1 ∷ v) t) e (last_global w)
  globals_tail may k n v _ t h x _ w e (trails q) = absurd (false≢true q)
  globals_tail may k n v _ t h x _ w e (goes {xs = gs} r) =
      subst (λ (y : Top). GlobalsAre k may (y ∷ gs) (named n.0 n.1 ∷ v) t) e (next_global w r)

  globals_to : (k : Kind) (may : May) (gs : List Top) (f t : Tokens)
      → Then (GlobalIs k) (λ x. Tail (GlobalsAre k) mark.Semicolon false x) may gs f t
      → GlobalsAre k may gs f t
  globals_to k may gs f t r =
      let x = r.2 in let h = x.3 in
      subst (λ (f : Tokens). GlobalsAre k may gs f t) (sym x.2)
      (globals_tail may k x.0 x.1 r.1 t h.0 r.0 gs
      (subst (λ (u : Tokens). Units may (shape h.0) x.1 u) h.3.1 h.2) h.3.0 r.3)

  globals_in : (i k : Kind) (may : May) (gs : List Top) (f t : Tokens) → GlobalsAre i may gs f t
      → i ≡ k → Then (GlobalIs k) (λ x. Tail (GlobalsAre k) mark.Semicolon false x) may gs f t
  globals_in _ k may _ _ t (last_global {l = l} {j = j} {k = i} {w = w} {s = h} {m = v} x) e = (
    global l i w h,
    punct j mark.Semicolon ∷ t,
    (
      (l, w),
      v,
      refl,
      (
        h,
        punct j mark.Semicolon ∷ t,
        x,
        (ap (λ (i : Kind). global l i w h) (sym e), refl),
      ),
    ),
    ends,
  )
  globals_in _ k may _ _ t (next_global {l = l} {j = j} {k = i} {w = w} {s = h} {gs = gs} {m = v}
      {m' = v'} x y) e = (
        global l i w h,
        punct j mark.Comma ∷ v',
        (
          (l, w),
          v,
          refl,
          (
            h,
            punct j mark.Comma ∷ v',
            x,
            (ap (λ (i : Kind). global l i w h) (sym e), refl),
          ),
        ),
        goes (subst (λ (i : Kind). GlobalsAre i may gs v' t) e y),
      )

  behind : (k : Kind) (x : Top) → Piece same_tree
      (Tail (GlobalsAre k) mark.Semicolon false x) any always always
      (λ t. punct 0 mark.Semicolon ∷ t) m (more_globals_of nested k x)
  unfolding more_globals_of
  behind k x =
      tail_piece (GlobalIs k) (GlobalsAre k) global_ends name_first m (global_of nested k)
      (global_piece k) mark.Semicolon false (globals_to k)
      (λ may gs f t x. globals_in k k may gs f t x refl) refl
      (λ x l t. (omega arith, omega arith))
      (λ may xs f t r e. absurd (false≢true e)) x

  -- the spelling of globals behind the name of the first
  abbrev pub GlobalsFrom : Kind → ℕ → List ℕ → Rel (List Top)
  GlobalsFrom k l w = Then ShapeIs (λ s. Tail (GlobalsAre k) mark.Semicolon false (global l k w s))

  -- the parser of globals behind the name of the first is sound and complete
  pub globals_piece : (k : Kind) (l : ℕ) (w : List ℕ)
      → Piece same_tree (GlobalsFrom k l w) any always always (λ t. punct 0 mark.Semicolon ∷ t) m
      (globals_of nested k l w)
  unfolding globals_of
  globals_piece k l w =
      seq (λ s ts. more_globals_of nested k (global l k w s) ts) (shape_piece m nested known)
      (λ s. behind k (global l k w s)) (λ t. omega arith)
      (λ may s gs u t r h. tail_meets (GlobalIs k) (GlobalsAre k) global_ends name_first m
      (global_of nested k) (global_piece k) mark.Semicolon false (globals_to k)
      (λ may gs f t x. globals_in k k may gs f t x refl) refl
      (λ x l t. (omega arith, omega arith))
      (λ may xs f t r e. absurd (false≢true e)) may (global l k w s) gs u t r)
