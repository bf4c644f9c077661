-- Translation units, item by item.
use Rattle.std.proofs.Common.{◌≡◌, ℕ, suc, ◌+◌, Bool, true, false, List, [], ◌∷◌, length, Option, Some}
use Rattle.std.proofs.Common.{None, Ok, refl, sym, ap, ◌∙◌, subst, arith}
use Rattle.std.proofs.lemmas.Bool.{false≢true}
use Rattle.c_tree.specs.declared.token.Form.{Form}
use Rattle.c_tree.specs.declared.token.Form.TheVariants as form
use Rattle.c_tree.specs.declared.token.Mark.TheVariants as mark
use Rattle.c_tree.specs.declared.token.Key.TheVariants as key
use Rattle.c_tree.specs.declared.token.Kind.{Kind}
use Rattle.c_tree.specs.declared.tree.Expr.{Expr}
use Rattle.c_tree.specs.declared.tree.ArraySize.{ArraySize}
use Rattle.c_tree.specs.declared.tree.Stmt.{Stmt}
use Rattle.c_tree.specs.declared.tree.Top.{Top}
use Rattle.c_tree.specs.declared.tree.TopNode.TheVariants as tops
use Rattle.c_grammar.specs.Tokens.{Tokens, token, punct, word, named, May}
use Rattle.c_grammar.specs.Types.{Types}
use Rattle.c_grammar.specs.Statements as s
use Rattle.c_grammar.specs.Units.{at, global, Units, shape, globals, result, func, item, unit}
use Rattle.c_grammar.specs.Units.{rows_sized, rows_filled, bare, valued, sized, filled, last_global}
use Rattle.c_grammar.specs.Units.{next_global, void, typed, include, a_function, some_globals}
use Rattle.c_grammar.specs.Units.{last_item, next_item}
use Rattle.c_grammar.specs.inside.Numbers.{is_mark, is_key}
use Rattle.c_grammar.specs.inside.Parsing.{Out, and_then, tail, offset_of, first, is_next, is_word}
use Rattle.c_grammar.specs.inside.Parsing.{name_of, to_end}
use Rattle.c_grammar.specs.inside.ModelTypes.{is_type, begins_type}
use Rattle.c_grammar.specs.inside.ModelExpressions.{inside}
use Rattle.c_grammar.specs.inside.ModelDepth.{Nested}
use Rattle.c_grammar.specs.inside.ModelStatements.{below_at, compound_of}
use Rattle.c_grammar.specs.inside.ModelUnits.{is_include, include_of, func_of, after_name, void_item_of}
use Rattle.c_grammar.specs.inside.ModelUnits.{typed_item_of, item_of, unit_of}
use Rattle.c_grammar.proofs.Agree.{split_if, apart, stay, one, Tied, head_step, Lands, good, past, fine}
use Rattle.c_grammar.proofs.Pieces.{Rel, Sound, read, stuck, Then, always, any, Piece, seq, iff}
use Rattle.c_grammar.proofs.Pieces.{same_tree, Either, this, that, either_of}
use Rattle.c_grammar.proofs.TokenPieces.{IsWord, word_piece, Named, name_piece, name_first}
use Rattle.c_grammar.proofs.Lists.{Tail, ends, trails, goes}
use Rattle.c_grammar.proofs.EndedLists.{at_end, EndTail, end_here, goes_on, to_end_piece}
use Rattle.c_grammar.proofs.Types.{TypeIs, type_piece, type_first, types_begin}
use Rattle.c_grammar.proofs.OneDeeper.{Deeper}
use Rattle.c_grammar.proofs.Inside.{inside_known}
use Rattle.c_grammar.proofs.Begins.{type_no_word}
use Rattle.c_grammar.proofs.StatementSpellings.{BodyIs}
use Rattle.c_grammar.proofs.SimplePieces.{body_piece}
use Rattle.c_grammar.proofs.Below.{below_good}
use Rattle.c_grammar.proofs.Globals.{GlobalsAre, GlobalsFrom, globals_piece}
use Rattle.c_grammar.proofs.UnitLengths.{units_shorter}
use Rattle.c_grammar.proofs.FunctionItems

abbrev ItemIs : Rel (List Top)
ItemIs may xs f t = Units may (item xs) f t

-- the spelling of a translation unit
abbrev pub UnitIs : Rel (List Top)
UnitIs may xs f t = Units may (unit xs) f t

data IncludeIs (may : May) : List Top → Tokens → Tokens → Type 0 where
  include_is : {l : ℕ} {t : Tokens} → IncludeIs may (at l tops.Include ∷ [])
      (token l form.Include ∷ t) t

include_form : (f : Form) → is_include f ≡ true → f ≡ form.Include
include_form form.Include e = refl
include_form _ e = absurd (false≢true e)

include_next : (ts : Tokens) → first is_include ts ≡ true
    → ts ≡ token (offset_of ts) form.Include ∷ tail ts
include_next [] e = absurd (false≢true e)
include_next (t ∷ ts) e = ap (λ (f : Form). token t.offset f ∷ ts) (include_form t.form e)

include_piece : (m : ℕ) → Piece same_tree IncludeIs any always always
    (λ t. token 0 form.Include ∷ t) m include_of
unfolding include_of
include_piece m =
    record {
      grow = λ t. omega arith;
      least = λ may t fr fr'. (at 0 tops.Include ∷ [], include_is);
      sound = λ ts h.
          split_if (Sound same_tree IncludeIs always m ts) (first is_include ts) _ _
          (λ e. read (at (offset_of ts) tops.Include ∷ []) (tail ts)
          (record {
            put = λ u. token (offset_of ts) form.Include ∷ u;
            way = one _;
            is = include_next ts e;
            again = λ may w u. include_is;
          }) tt)
          (λ e. stuck _ (record {
            put = λ u. u;
            way = stay;
            is = refl;
            more = λ u. token 0 form.Include ∷ u;
            grows = λ u. omega arith;
            held = tt;
            completes =
                λ u. (at 0 tops.Include ∷ [], include_is);
          }));
      complete = λ cut g g' may xs f' t' r e f tied. whole cut g g' may xs f' t' r f tied;
    }
  where
    whole : (cut : Bool) (g g' : Tokens) (may : May) (xs : List Top) (f' t' : Tokens)
        → IncludeIs may xs f' t' → (f : Tokens) → Tied cut g g' f f'
        → Lands cut g g' may m (include_of f) (λ to. Ok (xs, to)) t'
    whole cut g g' may _ _ t' (include_is {l = l}) f tied =
        head_step cut g g' (λ u. Lands cut g g' may m (include_of u)
        (λ to. Ok (at l tops.Include ∷ [], to)) t') tied (λ r tr. good r tr refl)
        (λ c. past c (fine cut g g' (omega arith)))

module _ (m : ℕ) (nested : Nested) (known : Deeper nested m 0) (body : Tokens → Out Stmt)
    (body_known : Piece same_tree (BodyIs 1) any always always
    (λ t. punct 0 mark.LeftBrace ∷ punct 0 mark.RightBrace ∷ t) m body) where
  abbrev FuncIs : Option Kind → ℕ → List ℕ → Rel (List Top)
  FuncIs = FunctionItems.FuncIs m nested known body body_known

  abbrev func_piece : (r : Option Kind) (l : ℕ) (w : List ℕ)
      → Piece same_tree (FuncIs r l w) any always always (λ t. punct 0 mark.LeftParen ∷ type_first (punct 0
      mark.RightParen ∷ punct 0 mark.Semicolon ∷ t)) m (func_of nested body r l w)
  func_piece = FunctionItems.func_piece m nested known body body_known

  abbrev func_to : (may : May) (r : Option Kind) (l : ℕ) (w : List ℕ) (xs : List Top) (f t : Tokens)
      → FuncIs r l w may xs f t → (x : Top) × (x ∷ [] ≡ xs) × Units may (func r x) (named l w ∷ f) t
  func_to = FunctionItems.func_to m nested known body body_known

  abbrev func_from : (may : May) (r : Option Kind) (x : Top) (f t : Tokens) → Units may (func r x) f t
      → (n : ℕ × List ℕ) × (u : Tokens) × (f ≡ named n.0 n.1 ∷ u) × FuncIs r n.0 n.1 may (x ∷ []) u t
  func_from = FunctionItems.func_from m nested known body body_known

  abbrev AfterName : Kind → ℕ → List ℕ → Rel (List Top)
  AfterName k l w = Either (FuncIs (Some k) l w) (GlobalsFrom m nested known k l w)

  after_name_piece : (k : Kind) (l : ℕ) (w : List ℕ)
      → Piece same_tree (AfterName k l w) any always always (λ t. punct 0 mark.Semicolon ∷ t) m
      (after_name nested body k l w)
  unfolding after_name
  after_name_piece k l w =
      either_of (is_mark mark.LeftParen) (func_piece (Some k) l w)
      (globals_piece m nested known k l w) (λ may x f t q. ap (is_next mark.LeftParen) q.2)
      (λ may gs f t q e. begins may q.0 gs f q.1 t q.2 q.3)
    where
      begins : (may : May) (h : ArraySize × List (List Expr)) (gs : List Top) (f u t : Tokens)
          → Units may (shape h) f u → Tail (GlobalsAre k) mark.Semicolon false
          (global l k w h) may gs u t → is_next mark.LeftParen f ≡ false
      begins may _ _ f _ t bare ends = refl
      begins may _ _ f _ t bare (trails q) = absurd (false≢true q)
      begins may _ _ f _ t bare (goes r) = refl
      begins may _ gs f u t (valued x) r = refl
      begins may _ gs f u t (sized x) r = refl
      begins may _ gs f u t (filled x y) r = refl
      begins may _ gs f u t (rows_sized x y) r = refl
      begins may _ gs f u t (rows_filled x y z) r = refl

  abbrev VoidItem : Rel (List Top)
  VoidItem = Then (IsWord key.Void) (λ l. Then Named (λ n. FuncIs None n.0 n.1))

  void_item_piece : Piece same_tree VoidItem any always always
      (λ t. word 0 key.Void ∷ name_first (punct 0 mark.LeftParen ∷ type_first
      (punct 0 mark.RightParen ∷ punct 0 mark.Semicolon ∷ t))) m (void_item_of nested body)
  unfolding void_item_of
  void_item_piece =
      seq (λ _ ts. and_then (name_of ts) (λ n ts. func_of nested body None n.0 n.1 ts))
      (word_piece key.Void m)
      (λ l. seq (λ n ts. func_of nested body None n.0 n.1 ts) (name_piece m)
      (λ n. func_piece None n.0 n.1) (λ t. omega arith) (λ may x y u t r h. tt))
      (λ t. omega arith) (λ may x y u t r h. tt)

  abbrev TypedItem : Rel (List Top)
  TypedItem = Then TypeIs (λ k. Then Named (λ n. AfterName k.1 n.0 n.1))

  abbrev item_first : Tokens → Tokens
  item_first t = type_first (name_first (punct 0 mark.Semicolon ∷ t))

  typed_item_piece : Piece same_tree TypedItem any always always item_first m
      (typed_item_of nested body)
  unfolding typed_item_of
  typed_item_piece =
      seq (λ k ts. and_then (name_of ts) (λ n ts. after_name nested body k.1 n.0 n.1 ts))
      (type_piece m)
      (λ k. seq (λ n ts. after_name nested body k.1 n.0 n.1 ts) (name_piece m)
      (λ n. after_name_piece k.1 n.0 n.1) (λ t. omega arith) (λ may x y u t r h. tt))
      (λ t. omega arith) (λ may x y u t r h. ap begins_type r.2)

  abbrev ItemChain : Rel (List Top)
  ItemChain = Either IncludeIs (Either VoidItem TypedItem)

  globals_are : (may : May) (k : Kind) (l : ℕ) (w : List ℕ) (h : ArraySize × List (List Expr))
      (gs : List Top) (v u t : Tokens) → Units may (shape h) v u
      → Tail (GlobalsAre k) mark.Semicolon false (global l k w h) may gs u t
      → GlobalsAre k may gs (named l w ∷ v) t
  globals_are may k l w h _ v _ t x ends = last_global x
  globals_are may k l w h _ v _ t x (trails q) = absurd (false≢true q)
  globals_are may k l w h _ v _ t x (goes r) = next_global x r

  item_to : (may : May) (xs : List Top) (f t : Tokens) → ItemChain may xs f t → ItemIs may xs f t
  item_to may _ _ t (this include_is) = include
  item_to may xs f t (that (this q)) =
      let n = q.3 in let x = func_to may None n.0.0 n.0.1 xs n.1 t n.3 in
      subst (λ (f : Tokens). ItemIs may xs f t) (sym (q.2 ∙ ap (λ u. word q.0 key.Void ∷ u) n.2))
      (subst (λ (xs : List Top). ItemIs may xs (word q.0 key.Void ∷ named n.0.0 n.0.1 ∷ n.1) t)
      x.1 (a_function void x.2))
  item_to may xs f t (that (that q)) =
      let n = q.3 in typed_to q.0.0 q.0.1 n.0.0 n.0.1 n.1 (subst (λ (u : Tokens). Types q.0.0 q.0.1 f u) n.2 q.2) n.3
    where
      typed_to : (l' : ℕ) (k : Kind) (l : ℕ) (w : List ℕ) (v : Tokens)
          → Types l' k f (named l w ∷ v) → AfterName k l w may xs v t → ItemIs may xs f t
      typed_to l' k l w v y (this q) =
          let x = func_to may (Some k) l w xs v t q in
          subst (λ (xs : List Top). ItemIs may xs f t) x.1 (a_function (typed y) x.2)
      typed_to l' k l w v y (that q) = some_globals y (globals_are may k l w q.0 xs v q.1 t q.2 q.3)

  func_item : (may : May) (r : Option Kind) (x : Top) (f u t : Tokens) → Units may (result r) f u
      → Units may (func r x) u t → ItemChain may (x ∷ []) f t
  func_item may _ x _ u t (void {l = l}) y =
      let n = func_from may None x u t y in that (this (l, u, refl, (n.0, n.1, n.2, n.3)))
  func_item may _ x f u t (typed {l = l} {k = k} z) y =
      let n = func_from may (Some k) x u t y in that (that ((l, k), u, z, (n.0, n.1, n.2, this n.3)))

  globals_item : (may : May) (l' : ℕ) (k j : Kind) (gs : List Top) (f u t : Tokens) → Types l' k f u
      → Units may (globals j gs) u t → j ≡ k → ItemChain may gs f t
  globals_item may l' k _ _ f _ t z (last_global {l = l} {j = j} {k = i} {w = w} {s = h} {m = v} x)
      e =
      that (that (
        (l', k),
        named l w ∷ v,
        z,
        (
          (l, w),
          v,
          refl,
          that (
            h,
            punct j mark.Semicolon ∷ t,
            x,
            subst (λ (i' : Kind). Tail (GlobalsAre k) mark.Semicolon false (global l k w h) may
                (global l i' w h ∷ []) (punct j mark.Semicolon ∷ t) t) (sym e) ends,
          ),
        ),
      ))
  globals_item may l' k _ _ f _ t z (next_global {l = l} {j = j} {k = i} {w = w} {s = h} {gs = gs}
      {m = v} {m' = v'} x y) e =
      that (that (
        (l', k),
        named l w ∷ v,
        z,
        (
          (l, w),
          v,
          refl,
          that (
            h,
            punct j mark.Comma ∷ v',
            x,
            subst (λ (i' : Kind). Tail (GlobalsAre k) mark.Semicolon false (global l k w h) may
                (global l i' w h ∷ gs) (punct j mark.Comma ∷ v') t) (sym e)
                (goes (subst (λ (i : Kind). GlobalsAre i may gs v' t) e y)),
          ),
        ),
      ))

  item_from : (may : May) (xs : List Top) (f t : Tokens) → ItemIs may xs f t → ItemChain may xs f t
  item_from may _ _ t include = this include_is
  item_from may _ f t (a_function {r = r} {x = x} {m = u} y z) = func_item may r x f u t y z
  item_from may gs f t (some_globals {l = l} {k = k} {m = u} y z) =
      globals_item may l k k gs f u t y z refl

  type_no_include : (f : Tokens) → begins_type f ≡ true → first is_include f ≡ false
  type_no_include f e = apart is_type is_include
      (λ g p q. false≢true (ap is_type (sym (include_form g q)) ∙ p)) f e

  item_piece : Piece same_tree ItemIs any always always item_first m (item_of nested body)
  unfolding item_of
  item_piece =
      iff (either_of is_include (include_piece m)
      (either_of (is_key key.Void) void_item_piece typed_item_piece
      (λ may xs f t q. ap (is_word key.Void) q.2)
      (λ may xs f t q e. type_no_word key.Void refl f (types_begin q.2)))
      no_void no_include) item_to item_from
    where
      no_void : (may : May) (xs : List Top) (f t : Tokens) → IncludeIs may xs f t
          → first is_include f ≡ true
      no_void may _ _ t include_is = refl

      no_include : (may : May) (xs : List Top) (f t : Tokens) → Either VoidItem TypedItem may xs f t
          → always xs t → first is_include f ≡ false
      no_include may xs f t (this q) e = ap (first is_include) q.2
      no_include may xs f t (that q) e = type_no_include f (types_begin q.2)

  -- the parser of items up to the end is sound and complete
  pub items_piece : Piece same_tree UnitIs any at_end at_end item_first m
      (λ ts. to_end (item_of nested body) (suc (length ts)) ts)
  items_piece = to_end_piece ItemIs UnitIs item_first m (item_of nested body) item_piece to from
      (λ may x f t r. units_shorter r)
    where
      to_tail : (may : May) (x xs : List Top) (f u t : Tokens) → Units may (item x) f u
          → EndTail UnitIs x may xs u t → Units may (unit xs) f t
      to_tail may x _ f _ t y end_here = last_item y
      to_tail may x _ f u t y (goes_on z) = next_item y z

      to : (may : May) (xs : List Top) (f t : Tokens)
          → Then ItemIs (λ x. EndTail UnitIs x) may xs f t → Units may (unit xs) f t
      to may xs f t r = to_tail may r.0 xs f r.1 t r.2 r.3

      from : (may : May) (xs : List Top) (f t : Tokens) → Units may (unit xs) f t
          → Then ItemIs (λ x. EndTail UnitIs x) may xs f t
      from may xs f t (last_item x) = (xs, t, x, end_here)
      from may _ f t (next_item {xs = xs} {m = u} x y) = (xs, u, x, goes_on y)

-- some tokens behind a shortest item of a unit
abbrev pub unit_first : Tokens → Tokens
unit_first t = type_first (name_first (punct 0 mark.Semicolon ∷ t))

-- where so many depths may be opened in a body
pub unit_piece : (m left : ℕ) → 1 + left ≡ m
    → Piece same_tree UnitIs any at_end at_end unit_first m (unit_of left)
unfolding unit_of
unit_piece m left fits =
    items_piece m (inside (suc left)) (inside_known m (suc left) 0 (omega (arith, fits)))
    (compound_of (inside left) (below_at left))
    (body_piece m 1 (inside left) (inside_known m left 1 fits) (below_at left)
    (below_good m left 1 fits))
