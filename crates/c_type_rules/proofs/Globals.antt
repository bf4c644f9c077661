-- Globals: each keeps what holds at file scope.
use Rattle.std.proofs.Common.{◌≡◌, ℕ, zero, suc, ◌+◌, ◌-◌, ◌*◌, ◌≤◌, true, false, List, [], ◌∷◌, ◌++◌, map, length}
use Rattle.std.proofs.Common.{Some, None, refl, sym, ap, ◌∙◌, subst, arith, append-nil, length-append}
use Rattle.std.specs.Prelude.{replicate, nat_le}
use Rattle.std.proofs.lemmas.List.{length-replicate}
use Rattle.std.proofs.Math.Nat.{mul-le-mul_right, le_refl, zero-mul, suc-mul, add_comm}
use Rattle.std.proofs.lemmas.Bool.{leb-true, ltb-true}
use Rattle.c_tree.specs.declared.token.Kind.{Kind}
use Rattle.c_tree.specs.declared.token.Kind.TheVariants.{Char, UChar, Short, UShort, Int, UInt}
use Rattle.c_tree.specs.declared.token.Kind.TheVariants.{Long, ULong}
use Rattle.c_tree.specs.declared.token.Kind.TheVariants as kind
use Rattle.c_tree.specs.declared.tree.ArraySize.{ArraySize}
use Rattle.c_tree.specs.declared.tree.ArraySize.TheVariants as size
use Rattle.c_tree.specs.declared.tree.Expr.{Expr}
use Rattle.c_tree.specs.declared.typed.TypedFunc.{TypedFunc}
use Rattle.c_tree.specs.declared.typed.TypedGlobal.{TypedGlobal}
use Rattle.c_type_expr.specs.Scope.{Scope, Frame, bound}
use Rattle.c_type_expr.specs.Constants.{constant_at}
use Rattle.c_constant.specs.Constant.{word_in, length_of}
use Rattle.c_constant.proofs.Conversions.{converted_word}
use Rattle.c_constant.specs.Kinds.{bytes, converted}
use Rattle.c_type.specs.States.{is_end, row_in}
use Rattle.c_type.specs.Units.{count_of, row_words, rows_words, init_words, rows_fit, init_fits, typed_global}
use Rattle.c_type.specs.Units.{with_global}
use Rattle.c_type.specs.inside.Units.{count_fault, global_fault}
use Rattle.c_type.specs.FileScopes.{global_meaning, all_values, length_in}
use Rattle.c_type_rules.specs.inside.Objects as object
use Rattle.c_constant.specs.Kinds.{IsWord}
use Rattle.c_type_rules.specs.inside.WellFormed.{Each, IsRows, GlobalFits, global_bytes, all_bytes}
use Rattle.c_type_rules.specs.inside.WellFormed as fits
use Rattle.c_type_rules.proofs.Moves.{split, held}
use Rattle.c_type_rules.proofs.Values.{both}
use Rattle.c_type_rules.proofs.Lists.{each_last, each_both, size_some, product_some}
use Rattle.c_type_rules.proofs.Frames.{Agrees, fresh_agrees}
use Rattle.c_type_rules.proofs.Files.{More, Bound, declare, still_ends}
use Rattle.c_type_rules.proofs.Steps.{at_last, program, file, Holds, Step}

-- a global more takes its bytes
bytes_more : (gs : List TypedGlobal) (g : TypedGlobal) → all_bytes (gs ++ g ∷ []) ≡ global_bytes g + all_bytes gs
bytes_more [] g = refl
bytes_more (x ∷ gs) g = omega (arith, bytes_more gs g)

-- how many values the typed global holds
holds_as : (size : ArraySize) (init : List (List Expr)) → fits.count_of (length_in size (count_of size init))
    ≡ count_of size init
holds_as size.Scalar init = refl
holds_as size.Open init = refl
holds_as (size.Sized e) init = refl
holds_as (size.Rows o e) init = refl

-- a global without a fault has a value
some_values : (size : ArraySize) (init : List (List Expr)) (l : ℕ) (G : Scope) → count_fault size init l G ≡ None
    → 1 ≤ count_of size init
some_values size.Scalar init l G h = omega arith
some_values size.Open init l G h =
    let n = length (all_values init) in product_some 1 n (omega arith) (ltb-true 0 n (held _ _ h))
some_values (size.Sized e) init l G h =
    product_some 1 (word_in (length_of e)) (omega arith) (size_some e G h)
some_values (size.Rows None e) init l G h =
    let s = split _ _ h in
    product_some (length init) (word_in (length_of e)) (ltb-true 0 (length init) (held _ _ s.1)) (size_some e G s.0)
some_values (size.Rows (Some r) e) init l G h =
    let s = split _ _ h in
    product_some (word_in (length_of r)) (word_in (length_of e)) (size_some r G s.0) (size_some e G s.1)

-- and whole rows
whole_rows : (size : ArraySize) (init : List (List Expr)) (l : ℕ) (G : Scope) → count_fault size init l G ≡ None
    → IsRows (row_in size) (count_of size init)
whole_rows size.Scalar init l G h = tt
whole_rows size.Open init l G h = tt
whole_rows (size.Sized e) init l G h = tt
whole_rows (size.Rows None e) init l G h = (size_some e G (split _ _ h).0, (length init, refl))
whole_rows (size.Rows (Some r) e) init l G h = (size_some e G (split _ _ h).1, (word_in (length_of r), refl))

-- zero is a word of each type
zero_word : (k : Kind) → IsWord k 0
unfolding converted
zero_word Char = converted_word Char 0
zero_word UChar = converted_word UChar 0
zero_word Short = converted_word Short 0
zero_word UShort = converted_word UShort 0
zero_word Int = converted_word Int 0
zero_word UInt = converted_word UInt 0
zero_word Long = converted_word Long 0
zero_word ULong = converted_word ULong 0
zero_word kind.Bool = converted_word kind.Bool 0

zeros_in : (k : Kind) (n : ℕ) → Each (IsWord k) (replicate n 0)
zeros_in k zero = tt
zeros_in k (suc n) = (zero_word k, zeros_in k n)

-- its values are of its type
words_in : (k : Kind) (es : List Expr) → Each (IsWord k) (map (constant_at k) es)
words_in k [] = tt
words_in k (e ∷ es) = (converted_word k _, words_in k es)

rows_in : (k : Kind) (n : ℕ) (ess : List (List Expr)) → Each (IsWord k) (rows_words k n ess)
rows_in k n [] = tt
rows_in k n (es ∷ ess) =
    each_both (IsWord k) (row_words k n es) (rows_words k n ess)
    (each_both (IsWord k) (map (constant_at k) es) (replicate (n - length es) 0) (words_in k es)
    (zeros_in k (n - length es))) (rows_in k n ess)

init_in : (size : ArraySize) (k : Kind) (init : List (List Expr)) → Each (IsWord k) (init_words size k init)
init_in size.Scalar k init = words_in k (all_values init)
init_in size.Open k init = words_in k (all_values init)
init_in (size.Sized e) k init = words_in k (all_values init)
init_in (size.Rows o e) k init = rows_in k (word_in (length_of e)) init

-- as many as are given
as_many : (k : Kind) (es : List Expr) → length (map (constant_at k) es) ≡ length es
as_many k [] = refl
as_many k (e ∷ es) = ap suc (as_many k es)

-- rows that fit are as long as they are said to be
row_long : (k : Kind) (n : ℕ) (es : List Expr) → length es ≤ n → length (row_words k n es) ≡ n
row_long k n es h =
    let m = length es in
    length-append (map (constant_at k) es) (replicate (n - m) 0)
    ∙ ap (λ i. i + length {A = ℕ} (replicate (n - m) 0)) (as_many k es)
    ∙ ap (λ i. m + i) (length-replicate (n - m) 0)
    ∙ omega (arith, h)

rows_long : (k : Kind) (n : ℕ) (ess : List (List Expr)) → rows_fit n ess ≡ true
    → length (rows_words k n ess) ≡ length ess * n
rows_long k n [] h = sym (zero-mul n)
rows_long k n (es ∷ ess) h =
    let q = both (nat_le (length es) n) (rows_fit n ess) h in
    length-append (row_words k n es) (rows_words k n ess)
    ∙ ap (λ i. i + length (rows_words k n ess)) (row_long k n es (leb-true (length es) n q.0))
    ∙ ap (λ i. n + i) (rows_long k n ess q.1)
    ∙ add_comm n (length ess * n) ∙ sym (suc-mul (length ess) n)

-- no more than the global holds
init_long : (size : ArraySize) (k : Kind) (init : List (List Expr)) → init_fits size init ≡ true
    → length (init_words size k init) ≤ count_of size init
init_long size.Scalar k init h =
    subst (λ n. n ≤ count_of size.Scalar init) (sym (as_many k (all_values init))) (leb-true _ _ h)
init_long size.Open k init h =
    subst (λ n. n ≤ count_of size.Open init) (sym (as_many k (all_values init))) (leb-true _ _ h)
init_long (size.Sized e) k init h =
    subst (λ n. n ≤ count_of (size.Sized e) init) (sym (as_many k (all_values init))) (leb-true _ _ h)
init_long (size.Rows None e) k init h =
    let n = word_in (length_of e) in
    subst (λ m. m ≤ length init * n) (sym (rows_long k n init h)) (le_refl (length init * n))
init_long (size.Rows (Some r) e) k init h =
    let n = word_in (length_of e) in
    let m = word_in (length_of r) in
    let q = both (nat_le (length init) m) (rows_fit n init) h in
    subst (λ i. i ≤ m * n) (sym (rows_long k n init q.1)) (mul-le-mul_right n (leb-true (length init) m q.0))

-- what has no sizes has no rows
no_rows : (size : ArraySize) (n : ℕ) → length_in size n ≡ None → row_in size ≡ None
no_rows size.Scalar n h = refl
no_rows size.Open n h = refl
no_rows (size.Sized e) n h = refl
no_rows (size.Rows o e) n h = absurd (cc)

-- a global is not `EOF`
not_end : (size : ArraySize) (k : Kind) (n : ℕ) → is_end (Some (global_meaning size k n)) ≡ false
not_end size.Scalar k n = refl
not_end size.Open k n = refl
not_end (size.Sized e) k n = refl
not_end (size.Rows o e) k n = refl

module _ (T : Scope) (m : ℕ) where
  -- the name of a global names it
  global_bound : (size : ArraySize) (k : Kind) (w : List ℕ) (init : List (List Expr)) (G : Scope)
      (gs : List TypedGlobal) (fs : List TypedFunc)
      → Bound T (program T m (gs ++ typed_global size k init ∷ []) fs) G w (global_meaning size k (length gs))
  global_bound size.Scalar k w init G gs fs =
      λ f. ap object.global_scalar (at_last gs (typed_global size.Scalar k init))
  global_bound size.Open k w init G gs fs = λ f. ap object.global_array (at_last gs (typed_global size.Open k init))
  global_bound (size.Sized e) k w init G gs fs =
      λ f. ap object.global_array (at_last gs (typed_global (size.Sized e) k init))
  global_bound (size.Rows o e) k w init G gs fs =
      λ f. ap object.global_array (at_last gs (typed_global (size.Rows o e) k init))

  -- a global that has no fault
  pub on_global : (k : Kind) (w : List ℕ) (size : ArraySize) (init : List (List Expr)) (l : ℕ) (N : Scope) (n : ℕ)
      (F : Frame) (gs : List TypedGlobal) (b : ℕ) (fs : List TypedFunc)
      → Holds T m N n F gs b fs → global_fault size k w init l (file T m F gs b fs) ≡ None
      → Step T m N n F fs (with_global size k w init (file T m F gs b fs))
  on_global k w size init l N n F gs b fs i h =
      let s = split _ _ h in
      let q = split _ _ s.0 in
      let p = split _ _ q.1 in
      let g = typed_global size k init in
      let x = bound w (global_meaning size k (length gs)) in
      let P' = program T m (gs ++ g ∷ []) fs in
      let more : More (program T m gs fs) P' =
      record { globals = g ∷ []; functions = []; are = refl; and = sym (append-nil fs) } in
      let agrees : Agrees x (F ∷ []) = fresh_agrees w (global_meaning size k (length gs)) l F p.0 in
      let many : length g.init ≤ count_of size init = init_long size k init (held _ _ (split _ _ s.1).1) in
      let room : count_of size init * bytes k + b ≤ 1048576 =
      leb-true (count_of size init * bytes k + b) 1048576 (held _ _ p.1) in
      let good : GlobalFits g = record {
        some = subst (λ n. 1 ≤ n) (sym (holds_as size init)) (some_values size init l (F ∷ []) q.0);
        single = no_rows size (count_of size init);
        rows = subst (λ n. IsRows (row_in size) n) (sym (holds_as size init))
            (whole_rows size init l (F ∷ []) q.0);
        holds = subst (λ n. length g.init ≤ n) (sym (holds_as size init)) many;
        words = init_in size k init;
      } in
      record {
        frame = x ∷ F;
        globals = gs ++ g ∷ [];
        bytes = count_of size init * bytes k + b;
        functions = fs;
        after = refl;
        holds = record {
          names = declare T (program T m gs fs) P' N F x more agrees (global_bound size k w init ((x ∷ F) ∷ []) gs fs)
              (still_ends T (program T m gs fs) P' N F x more agrees (not_end size k (length gs)) i.names) i.names;
          count = i.count;
          globals = each_last GlobalFits gs g i.globals good;
          bytes = bytes_more gs g ∙ ap (λ n. n * bytes k + all_bytes gs) (holds_as size init)
              ∙ ap (λ n. count_of size init * bytes k + n) i.bytes;
          room = room;
        };
        added = x ∷ [];
        are = refl;
        fit = λ P known old. old;
      }
