-- The parameters of a function.
use Rattle.std.proofs.Common.{◌≡◌, ℕ, true, false, List, [], ◌∷◌, Option, Some, None, Ok, refl, sym, ap}
use Rattle.std.proofs.Common.{◌∙◌, subst, arith}
use Rattle.std.proofs.lemmas.Bool.{false≢true}
use Rattle.c_tree.specs.declared.token.Mark.TheVariants as mark
use Rattle.c_tree.specs.declared.token.Key.TheVariants as key
use Rattle.c_tree.specs.declared.token.Kind.{Kind}
use Rattle.c_tree.specs.declared.tree.Expr.{Expr}
use Rattle.c_tree.specs.declared.tree.ArraySize.{ArraySize}
use Rattle.c_tree.specs.declared.tree.ArraySize.TheVariants as sizes
use Rattle.c_tree.specs.declared.tree.Param.{Param}
use Rattle.c_grammar.specs.Tokens.{Tokens, punct, word, named, May}
use Rattle.c_grammar.specs.Units.{parameter, Units, size, label, brackets, param, params, param_list}
use Rattle.c_grammar.specs.Units.{unlabelled, labelled, no_brackets, one_size, two_brackets}
use Rattle.c_grammar.specs.Units.{some_brackets, param_is, no_params, void_params, some_params}
use Rattle.c_grammar.specs.Units.{last_param, next_param}
use Rattle.c_grammar.specs.inside.Numbers.{is_mark, is_key}
use Rattle.c_grammar.specs.inside.Parsing.{Out, and_then, first, is_next, is_word, name_of}
use Rattle.c_grammar.specs.inside.ModelTypes.{begins_type}
use Rattle.c_grammar.specs.inside.ModelDepth.{Nested}
use Rattle.c_grammar.specs.inside.ModelPrimaries.{is_name}
use Rattle.c_grammar.specs.inside.ModelSizes.{size_of, two_pairs_of, after_first, dimensions_of}
use Rattle.c_grammar.specs.inside.ModelParameters.{label_of, brackets_of, param_of, no_params_of}
use Rattle.c_grammar.specs.inside.ModelParameters.{void_params_of, param_list_of, params_of}
use Rattle.c_grammar.proofs.Pieces.{Rel, Then, always, any, Piece, seq, done, Done, iff, ends_with}
use Rattle.c_grammar.proofs.Pieces.{same_tree, Either, this, that, either_of}
use Rattle.c_grammar.proofs.TokenPieces.{Is, mark_piece, IsWord, word_piece, Named, name_piece}
use Rattle.c_grammar.proofs.TokenPieces.{name_first}
use Rattle.c_grammar.proofs.Lists.{Tail, ends, trails, goes, listed_piece}
use Rattle.c_grammar.proofs.Types.{TypeIs, type_piece, type_first, types_begin}
use Rattle.c_grammar.proofs.Levels.{zero_token}
use Rattle.c_grammar.proofs.OneDeeper.{Deeper}
use Rattle.c_grammar.proofs.Begins.{type_no_word, type_no_mark}
use Rattle.c_grammar.proofs.ListedValues.{SizeIs, size_piece, second_piece, second_to, second_from}
use Rattle.c_grammar.proofs.ListedValues
use Rattle.c_grammar.proofs.GlobalShapes.{array_here}

abbrev ParamIs : Rel Param
ParamIs may p f t = Units may (param p) f t

abbrev ParamList : Rel (List Param)
ParamList may ps f t = Units may (param_list ps) f t

-- the spelling of some parameters
abbrev pub ParamsAre : Rel (List Param)
ParamsAre may ps f t = Units may (params ps) f t

abbrev param_here : Param → Tokens → Out Param
param_here x t = Ok (x, t)

abbrev params_here : List Param → Tokens → Out (List Param)
params_here x t = Ok (x, t)

abbrev label_here : ℕ × Option (List ℕ) → Tokens → Out (ℕ × Option (List ℕ))
label_here x t = Ok (x, t)

module _ (m : ℕ) (nested : Nested) (known : Deeper nested m 0) where
  -- a second size in its brackets
  abbrev SecondIs : Rel Expr
  SecondIs = ListedValues.SecondIs m nested known

  abbrev LabelIs : ℕ → Rel (ℕ × Option (List ℕ))
  LabelIs l may n f t = Units may (label l n) f t

  abbrev LabelledIs : Rel (ℕ × Option (List ℕ))
  LabelledIs = Then Named (λ n. Done (n.0, Some (n.1)))

  abbrev label_ends : ℕ × Option (List ℕ) → Tokens → Type 0
  label_ends n t = first is_name t ≡ false

  label_piece : (l : ℕ) → Piece same_tree (LabelIs l) any always label_ends (λ t. t) m (label_of l)
  unfolding label_of
  label_piece l =
      iff (either_of is_name labelled_piece (done same_tree (l, None) m (λ t h. tt))
      (λ may n f t r. ap (first is_name) r.2)
      (λ may n f t r e. subst (λ (u : Tokens). first is_name u ≡ false) (sym r.1) e)) to from
    where
      labelled_piece : Piece same_tree LabelledIs any always label_ends name_first m
          (λ ts. and_then (name_of ts) (λ n ts. label_here (n.0, Some (n.1)) ts))
      labelled_piece = seq (λ n ts. label_here (n.0, Some (n.1)) ts) (name_piece m)
          (λ n. done same_tree (n.0, Some (n.1)) m (λ t h. tt)) (λ t. omega arith)
          (λ may x y u t r h. tt)

      to : (may : May) (n : ℕ × Option (List ℕ)) (f t : Tokens)
          → Either LabelledIs (Done (l, None)) may n f t → LabelIs l may n f t
      to may n f t (this r) = subst (λ (f : Tokens). LabelIs l may n f t) (sym r.2)
          (ends_with (λ n t. LabelIs l may n (named r.0.0 r.0.1 ∷ r.1) t) labelled r.3)
      to may n f t (that r) = ends_with (λ n t. LabelIs l may n f t) unlabelled r

      from' : (j : ℕ) (may : May) (n : ℕ × Option (List ℕ)) (f t : Tokens)
          → Units may (label j n) f t → j ≡ l → Either LabelledIs (Done (l, None)) may n f t
      from' _ may _ _ t (unlabelled {l = j}) e = that (ap (λ (j : ℕ). (j, None)) (sym e), refl)
      from' _ may _ _ t (labelled {k = k} {w = w}) e = this ((k, w), t, refl, (refl, refl))

      from : (may : May) (n : ℕ × Option (List ℕ)) (f t : Tokens) → LabelIs l may n f t
          → Either LabelledIs (Done (l, None)) may n f t
      from may n f t x = from' l may n f t x refl

  abbrev BracketsAre : Rel ArraySize
  BracketsAre may a f t = Units may (brackets a) f t

  abbrev brackets_end : ArraySize → Tokens → Type 0
  brackets_end a t = is_next mark.LeftBracket t ≡ false

  abbrev TwoPairs : Option Expr → Rel ArraySize
  TwoPairs o = Then SecondIs (λ e. Done (sizes.Rows o e))

  two_pairs_piece : (o : Option Expr) → Piece same_tree (TwoPairs o) any always brackets_end
      (λ t. punct 0 mark.LeftBracket ∷ zero_token ∷ punct 0 mark.RightBracket ∷ t) m
      (two_pairs_of nested o)
  unfolding two_pairs_of
  two_pairs_piece o = seq (λ e ts. array_here (sizes.Rows o e) ts) (second_piece m nested known {Ends = always})
      (λ e. done same_tree (sizes.Rows o e) m (λ t h. tt)) (λ t. omega arith)
      (λ may x y u t r h. tt)

  abbrev AfterFirst : Option Expr → Rel ArraySize
  AfterFirst o = Either (TwoPairs o) (Done (one_size o))

  after_first_piece : (o : Option Expr) → Piece same_tree (AfterFirst o) any always brackets_end
      (λ t. t) m (after_first nested o)
  unfolding after_first
  after_first_piece o =
      either_of (is_mark mark.LeftBracket) (two_pairs_piece o)
      (done same_tree (one_size o) m (λ t h. tt))
      (λ may a f t r. ap (is_next mark.LeftBracket) r.2.2)
      (λ may a f t r e. subst (λ (u : Tokens). is_next mark.LeftBracket u ≡ false) (sym r.1) e)

  abbrev SomeBrackets : Rel ArraySize
  SomeBrackets = Then (Is mark.LeftBracket) (λ k. Then SizeIs AfterFirst)

  dimensions_piece : Piece same_tree SomeBrackets any always brackets_end
      (λ t. punct 0 mark.LeftBracket ∷ zero_token ∷ punct 0 mark.RightBracket ∷ t) m
      (dimensions_of nested)
  unfolding dimensions_of
  dimensions_piece =
      seq (λ _ ts. and_then (size_of nested ts) (λ o ts. after_first nested o ts))
      (mark_piece mark.LeftBracket m)
      (λ k. seq (λ o ts. after_first nested o ts) (size_piece m nested known) after_first_piece (λ t. omega arith)
      (λ may x y u t r h. tt)) (λ t. omega arith) (λ may x y u t r h. tt)

  brackets_piece : Piece same_tree BracketsAre any always brackets_end (λ t. t) m
      (brackets_of nested)
  unfolding brackets_of
  brackets_piece =
      iff (either_of (is_mark mark.LeftBracket) dimensions_piece
      (done same_tree sizes.Scalar m (λ t h. tt))
      (λ may a f t r. ap (is_next mark.LeftBracket) r.2)
      (λ may a f t r e. subst (λ (u : Tokens). is_next mark.LeftBracket u ≡ false) (sym r.1) e))
      to from
    where
      some_to : (may : May) (k : ℕ) (o : Option Expr) (a : ArraySize) (f u t : Tokens)
          → Units may (size o) f u → AfterFirst o may a u t
          → BracketsAre may a (punct k mark.LeftBracket ∷ f) t
      some_to may k o a f u t x (that q) =
          ends_with (λ a t. BracketsAre may a (punct k mark.LeftBracket ∷ f) t) (some_brackets x) q
      some_to may k o a f u t x (this r) =
          let i = second_to m nested known may r.0 u r.1 r.2 in
          ends_with (λ a t. BracketsAre may a (punct k mark.LeftBracket ∷ f) t)
          (two_brackets (subst (λ (u : Tokens). Units may (size o) f u) i.3 x) i.4) r.3

      to : (may : May) (a : ArraySize) (f t : Tokens)
          → Either SomeBrackets (Done sizes.Scalar) may a f t → BracketsAre may a f t
      to may a f t (this r) =
          let o = r.3 in
          subst (λ (f : Tokens). BracketsAre may a f t) (sym r.2)
          (some_to may r.0 o.0 a r.1 o.1 t o.2 o.3)
      to may a f t (that r) = ends_with (λ a t. BracketsAre may a f t) no_brackets r

      from : (may : May) (a : ArraySize) (f t : Tokens) → BracketsAre may a f t
          → Either SomeBrackets (Done sizes.Scalar) may a f t
      from may _ _ t no_brackets = that (refl, refl)
      from may _ _ t (some_brackets {k = k} {o = o} {m = u} x) =
          this (k, u, refl, (o, t, x, that (refl, refl)))
      from may _ _ t (two_brackets {k = k} {j = j} {j' = j'} {o = o} {e = e} {m = u} {m' = v} x y) =
          this (
            k,
            u,
            refl,
            (
              o,
              punct j mark.LeftBracket ∷ v,
              x,
              this (e, t, second_from m nested known may e j j' v t y, (refl, refl)),
            ),
          )

  -- a comma or a closing parenthesis follows
  abbrev param_ends : Param → Tokens → Type 0
  param_ends p t = (first is_name t ≡ false) × (is_next mark.LeftBracket t ≡ false)
      × (begins_type t ≡ false)

  abbrev LabelThen : ℕ → Kind → Rel Param
  LabelThen l k = Then (LabelIs l) (λ n. Then BracketsAre (λ a. Done (parameter n k a)))

  abbrev ParamChain : Rel Param
  ParamChain = Then TypeIs (λ k. LabelThen k.0 k.1)

  brackets_no_name : (may : May) (a : ArraySize) (u t : Tokens) → BracketsAre may a u t
      → first is_name t ≡ false → first is_name u ≡ false
  brackets_no_name may _ _ t no_brackets e = e
  brackets_no_name may _ _ t (some_brackets x) e = refl
  brackets_no_name may _ _ t (two_brackets x y) e = refl

  brackets_no_type : (may : May) (a : ArraySize) (u t : Tokens) → BracketsAre may a u t
      → begins_type t ≡ false → begins_type u ≡ false
  brackets_no_type may _ _ t no_brackets e = e
  brackets_no_type may _ _ t (some_brackets x) e = refl
  brackets_no_type may _ _ t (two_brackets x y) e = refl

  label_no_type : (may : May) (l : ℕ) (n : ℕ × Option (List ℕ)) (u t : Tokens) → LabelIs l may n u t
      → begins_type t ≡ false → begins_type u ≡ false
  label_no_type may _ _ _ t unlabelled e = e
  label_no_type may l _ _ t labelled e = refl

  chain_piece : Piece same_tree ParamChain any always param_ends type_first m (param_of nested)
  unfolding param_of
  chain_piece =
      seq (λ k ts. and_then (label_of k.0 ts)
      (λ n ts. and_then (brackets_of nested ts) (λ a ts. param_here (parameter n k.1 a) ts)))
      (type_piece m)
      (λ k. seq (λ n ts. and_then (brackets_of nested ts)
      (λ a ts. param_here (parameter n k.1 a) ts)) (label_piece k.0)
      (λ n. seq (λ a ts. param_here (parameter n k.1 a) ts) brackets_piece
      (λ a. done same_tree (parameter n k.1 a) m (λ t h. tt)) (λ t. omega arith)
      (λ may x y u t r h. subst (λ (u : Tokens). is_next mark.LeftBracket u ≡ false) (sym r.1) h.1))
      (λ t. omega arith) (λ may n p u t r h. brackets_no_name may r.0 u r.1 r.2
      (subst (λ (u : Tokens). first is_name u ≡ false) (sym r.3.1) h.0)))
      (λ t. omega arith)
      (λ may k p u t r h. let b = r.3 in label_no_type may k.0 r.0 u r.1 r.2
      (brackets_no_type may b.0 r.1 b.1 b.2 (subst (λ (u : Tokens). begins_type u ≡ false) (sym b.3.1) h.2)))

  param_piece : Piece same_tree ParamIs any always param_ends type_first m (param_of nested)
  param_piece = iff chain_piece to from
    where
      to : (may : May) (p : Param) (f t : Tokens) → ParamChain may p f t → ParamIs may p f t
      to may p f t r = let n = r.3 in let a = n.3 in ends_with (λ p t. ParamIs may p f t) (param_is r.2 n.2 a.2) a.3

      from : (may : May) (p : Param) (f t : Tokens) → ParamIs may p f t → ParamChain may p f t
      from may _ f t (param_is {l = l} {k = k} {n = n} {a = a} {m = u} {m' = v} x y z) =
          ((l, k), u, x, (n, v, y, (a, t, z, (refl, refl))))

  param_starts : (may : May) (p : Param) (f t : Tokens) → ParamIs may p f t → begins_type f ≡ true
  param_starts may _ f t (param_is x y z) = types_begin x

  list_starts : (may : May) (ps : List Param) (f t : Tokens) → ParamList may ps f t
      → begins_type f ≡ true
  list_starts may _ f t (last_param {p = p} x) = param_starts may p f _ x
  list_starts may _ f t (next_param {p = p} x y) = param_starts may p f _ x

  list_piece : Piece same_tree ParamList any always always
      (λ t. type_first (punct 0 mark.RightParen ∷ t)) m (param_list_of nested)
  unfolding param_list_of
  list_piece =
      listed_piece ParamIs ParamList param_ends type_first m
      (param_of nested) param_piece mark.RightParen false to from refl
      (λ x l t. ((refl, refl, refl), (refl, refl, refl)))
      (λ may xs f t r e. absurd (false≢true e))
    where
      to_tail : (may : May) (p : Param) (ps : List Param) (f u t : Tokens) → ParamIs may p f u
          → Tail ParamList mark.RightParen false p may ps u t → ParamList may ps f t
      to_tail may p _ f _ t x ends = last_param x
      to_tail may p _ f _ t x (trails q) = absurd (false≢true q)
      to_tail may p _ f _ t x (goes r) = next_param x r

      to : (may : May) (ps : List Param) (f t : Tokens)
          → Then ParamIs (λ x. Tail ParamList mark.RightParen false x) may ps f t
          → ParamList may ps f t
      to may ps f t r = to_tail may r.0 ps f r.1 t r.2 r.3

      from : (may : May) (ps : List Param) (f t : Tokens) → ParamList may ps f t
          → Then ParamIs (λ x. Tail ParamList mark.RightParen false x) may ps f t
      from may _ f t (last_param {k = k} {p = p} x) = (p, punct k mark.RightParen ∷ t, x, ends)
      from may _ f t (next_param {k = k} {p = p} {m = v} x y) =
          (p, punct k mark.Comma ∷ v, x, goes y)

  abbrev NoParams : Rel (List Param)
  NoParams = Then (Is mark.RightParen) (λ k. Done [])

  abbrev VoidParams : Rel (List Param)
  VoidParams = Then (IsWord key.Void) (λ k. NoParams)

  no_params_piece : Piece same_tree NoParams any always always (λ t. punct 0 mark.RightParen ∷ t) m
      (no_params_of nested)
  unfolding no_params_of
  no_params_piece = seq (λ _ ts. params_here [] ts) (mark_piece mark.RightParen m)
      (λ k. done same_tree [] m (λ t h. tt)) (λ t. omega arith) (λ may x y u t r h. tt)

  void_params_piece : Piece same_tree VoidParams any always always
      (λ t. word 0 key.Void ∷ punct 0 mark.RightParen ∷ t) m (void_params_of nested)
  unfolding void_params_of
  void_params_piece = seq (λ _ ts. no_params_of nested ts) (word_piece key.Void m)
      (λ k. no_params_piece) (λ t. omega arith) (λ may x y u t r h. tt)

  type_no_paren : (f : Tokens) → begins_type f ≡ true → is_next mark.RightParen f ≡ false
  type_no_paren f e = type_no_mark mark.RightParen f e

  type_no_void : (f : Tokens) → begins_type f ≡ true → is_word key.Void f ≡ false
  type_no_void f e = type_no_word key.Void refl f e

  -- the parser of parameters is sound and complete
  pub params_piece : Piece same_tree ParamsAre any always always
      (λ t. type_first (punct 0 mark.RightParen ∷ t)) m (params_of nested)
  unfolding params_of
  params_piece =
      iff (either_of (is_mark mark.RightParen) no_params_piece
      (either_of (is_key key.Void) void_params_piece list_piece
      (λ may ps f t r. ap (is_word key.Void) r.2)
      (λ may ps f t r e. type_no_void f (list_starts may ps f t r)))
      (λ may ps f t r. ap (is_next mark.RightParen) r.2) no_paren) to from
    where
      no_paren : (may : May) (ps : List Param) (f t : Tokens)
          → Either VoidParams ParamList may ps f t → always ps t → is_next mark.RightParen f ≡ false
      no_paren may ps f t (this r) e = ap (is_next mark.RightParen) r.2
      no_paren may ps f t (that r) e = type_no_paren f (list_starts may ps f t r)

      to : (may : May) (ps : List Param) (f t : Tokens)
          → Either NoParams (Either VoidParams ParamList) may ps f t → ParamsAre may ps f t
      to may ps f t (this r) = subst (λ (f : Tokens). ParamsAre may ps f t) (sym r.2)
          (ends_with (λ ps t. ParamsAre may ps (punct r.0 mark.RightParen ∷ r.1) t) no_params r.3)
      to may ps f t (that (this r)) =
          let k = r.3 in
          subst (λ (f : Tokens). ParamsAre may ps f t)
          (sym (r.2 ∙ ap (λ u. word r.0 key.Void ∷ u) k.2))
          (ends_with (λ ps t. ParamsAre may ps
          (word r.0 key.Void ∷ punct k.0 mark.RightParen ∷ k.1) t) void_params k.3)
      to may ps f t (that (that r)) = some_params r

      from : (may : May) (ps : List Param) (f t : Tokens) → ParamsAre may ps f t
          → Either NoParams (Either VoidParams ParamList) may ps f t
      from may _ _ t (no_params {k = k}) = this (k, t, refl, (refl, refl))
      from may _ _ t (void_params {k = k} {k' = k'}) =
          that (this (k, punct k' mark.RightParen ∷ t, refl, (k', t, refl, (refl, refl))))
      from may ps f t (some_params x) = that (that x)
