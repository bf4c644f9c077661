-- One turn of each loop of the parser.
use Rattle.std.proofs.Common.{◌≡◌, ℕ, zero, suc, ◌+◌, ◌-◌, ◌<◌, ◌≤◌, Bool, true, false, cond, eqb, List, []}
use Rattle.std.proofs.Common.{◌∷◌, ◌++◌}
use Rattle.std.proofs.Common.{length, Option, Some, None, Result, Ok, Err, refl, sym, ap, ◌∙◌, subst, arith}
use Rattle.std.proofs.Common.{append_assoc}
use Rattle.std.proofs.lemmas.Bool.{false≢true, eqb-true, eqb-false, ne_eqb, eq-eqb}
use Rattle.c_tree.specs.declared.token.Lexeme.{Lexeme}
use Rattle.c_tree.specs.declared.token.Form.{Form}
use Rattle.c_tree.specs.declared.token.Form.TheVariants as form
use Rattle.c_tree.specs.declared.token.Mark.{Mark}
use Rattle.c_tree.specs.declared.token.Mark.TheVariants as mark
use Rattle.c_tree.specs.declared.tree.Expr.{Expr}
use Rattle.c_tree.specs.declared.tree.BinaryOp.{BinaryOp}
use Rattle.c_tree.specs.declared.tree.BinaryOp.TheVariants as binary
use Rattle.c_tree.specs.Marks.{operator}
use Rattle.c_tree.specs.ByMark.{marked_operator, with_level}
use Rattle.c_grammar.specs.Tokens.{Tokens}
use Rattle.c_grammar.specs.Operators.{Joiner, op, comma, joiner_mark, joined, below, Suffix, suffixed}
use Rattle.c_grammar.specs.inside.Operators.{binary_level}
use Rattle.c_grammar.specs.Operators.{Assigner, assigner_mark, assigner_op}
use Rattle.c_grammar.specs.inside.Numbers.{is_mark}
use Rattle.c_grammar.specs.inside.Parsing.{Stop, Out, and_then, by_option, syntax, tail, offset_of, is_next, expect}
use Rattle.c_grammar.specs.inside.Parsing.{listed}
use Rattle.c_grammar.specs.inside.ModelExpressions.{loop, suffixes, assigned_of, assign_from, inside}
use Rattle.c_grammar.specs.inside.ModelExpressions.{cast_of, binary_of, assignment_of, expression_of}
use Rattle.c_grammar.specs.inside.ModelExpressions.{postfix_of}
use Rattle.c_grammar.specs.inside.ModelOperators.{joiner, joiner_of, marked_joiner, if_below, seen}
use Rattle.c_grammar.specs.inside.ModelOperators.{suffix_of, assigner_for}
use Rattle.c_grammar.specs.inside.ModelPrimaries.{arg_list_of, primary_of}
use Rattle.c_grammar.proofs.Agree.{place}
use Rattle.c_grammar.proofs.Numbers.{mark_is}
use Rattle.c_grammar.proofs.Pieces.{same_tree, always, sound_short}
use Rattle.c_grammar.proofs.Stops.{by_some, by_none, joiner_is}
use Rattle.c_grammar.proofs.Joins.{Level}
use Rattle.c_grammar.proofs.Inside.{inside_known, level_is, binary_piece, assignment_piece}
use Rattle.c_parse.specs.inside.Reads.{operator_of, operator_at, joins_by, IsAssigner, Fails, Reads, opened, behind}
use Rattle.c_parse.specs.declared.fault.Stopped.{Stopped}
use Rattle.c_parse.specs.declared.fault.Stopped.TheVariants as stopped

-- ---- the operator of a level

-- the operator, where it joins at this level
abbrev pub of_level : ℕ → Option (ℕ × BinaryOp) → Option BinaryOp
of_level n None = None
of_level n (Some p) = cond (eqb (p.0) n) (Some (p.1)) None

same_eqb : (a b c d : ℕ) → (a ≡ b → c ≡ d) → (c ≡ d → a ≡ b) → eqb a b ≡ eqb c d
same_eqb a b c d to from = by (eqb c d) refl
  where
    by : (x : Bool) → eqb c d ≡ x → eqb a b ≡ eqb c d
    by true h = eq-eqb a b (from (eqb-true c d h)) ∙ sym h
    by false h = ne_eqb a b (λ e. eqb-false c d h (to e)) ∙ sym h

level_shift : (k l n : ℕ) → k ≡ 3 + l → eqb k (binary_level n) ≡ eqb l n
level_shift k l n e =
    let h = level_is n in same_eqb k (binary_level n) l n (λ i. omega (arith, e, h, i)) (λ i. omega (arith, e, h, i))

abbrev some_op : BinaryOp → Option BinaryOp
some_op o = Some o

pick : (o : BinaryOp) (l n : ℕ) → below (op o) ≡ 3 + l
    → operator_of (if_below (binary_level n) (Some (op o))) ≡ of_level n (Some (l, o))
pick o l n e = by (eqb l n) (level_shift (below (op o)) l n e)
  where
    by : (b : Bool) → eqb (below (op o)) (binary_level n) ≡ b
        → operator_of (cond (eqb (below (op o)) (binary_level n)) (Some (op o)) None) ≡ cond b (some_op o) None
    by true h = rw h refl
    by false h = rw h refl

pick_comma : (k : ℕ) → operator_of (if_below k (Some comma)) ≡ None
pick_comma k = by (eqb (below comma) k)
  where
    by : (b : Bool) → operator_of (cond b (Some comma) None) ≡ None
    by true = refl
    by false = refl

by_operator : (n : ℕ) (x : Option BinaryOp)
    → operator_of (if_below (binary_level n) (joiner_of x)) ≡ of_level n (with_level x)
by_operator n None = refl
by_operator n (Some o) = pick o (operator o).level n refl

mark_operator : (n : ℕ) (m : Mark) → operator_of (if_below (binary_level n) (marked_joiner m)) ≡ of_level n
    (joins_by (form.Mark m))
mark_operator n mark.Comma = pick_comma (binary_level n)
mark_operator n m = by_operator n (marked_operator m)

form_operator : (n : ℕ) (f : Form) → operator_of (joiner (binary_level n) f) ≡ of_level n (joins_by f)
form_operator n (form.Mark m) = mark_operator n m
form_operator n _ = refl

-- the operator of a level is the one that joins, if it is of this level
pub operator_is : (n : ℕ) (ts : Tokens) → operator_at n ts ≡ of_level n (seen joins_by ts)
operator_is n [] = refl
operator_is n (t ∷ ts) = form_operator n t.form

-- ---- phrases joined to the left

then_same : {A B : Type 0} (out : Out A) (f f' : A → Tokens → Out B)
    → ((a : A) (r : Tokens) → length r ≤ length (place out) → f a r ≡ f' a r) → and_then out f ≡ and_then out f'
then_same (Ok p) f f' h = h p.0 p.1 (omega arith)
then_same (Err s) f f' h = refl

by_same : {A B : Type 0} (o : Option A) (x : B) (f f' : A → B) → ((j : A) → f j ≡ f' j)
    → by_option o x f ≡ by_option o x f'
by_same None x f f' h = refl
by_same (Some j) x f f' h = h j

module _ (inner : Tokens → Out Expr) (short : (ts : Tokens) → length (place (inner ts)) ≤ length ts) (k : ℕ) where
  fuel : (n n' : ℕ) (a : Expr) (ts : Tokens) → length ts ≤ n → length ts ≤ n'
      → loop inner k n a ts ≡ loop inner k n' a ts
  fuel zero zero a ts l l' = refl
  fuel zero (suc n') a [] l l' = refl
  fuel zero (suc n') a (t ∷ ts) l l' = absurd (omega (arith, l))
  fuel (suc n) zero a [] l l' = refl
  fuel (suc n) zero a (t ∷ ts) l l' = absurd (omega (arith, l'))
  fuel (suc n) (suc n') a [] l l' = refl
  fuel (suc n) (suc n') a (t ∷ ts) l l' =
      by_same (joiner k t.form) _ _ _ (λ j. then_same (inner ts) _ _
      (λ b r le. fuel n n' (joined t.offset j a b) r (omega (arith, short ts, l, le))
      (omega (arith, short ts, l', le))))

  abbrev here : Expr → Tokens → Out Expr
  here a ts = Ok (a, ts)

  turn : (whole : Expr) (t : Lexeme) (ts : Tokens) (j : Joiner) → joiner k t.form ≡ Some j
      → loop inner k (length (t ∷ ts)) whole (t ∷ ts) ≡ and_then (inner ts)
      (λ r rest. loop inner k (length ts) (joined t.offset j whole r) rest)
  turn whole t ts j e =
      by_some (joiner k t.form) j (here whole (t ∷ ts))
      (λ j. and_then (inner ts) (λ r rest. loop inner k (length ts) (joined t.offset j whole r) rest)) e

  pub loop_on : (whole r : Expr) (rest rest2 : Tokens) (j : Joiner) → seen (joiner k) rest ≡ Some j
      → inner (tail rest) ≡ Ok (r, rest2) → loop inner k (length rest) whole rest ≡ loop inner k (length rest2)
      (joined (offset_of rest) j whole r) rest2
  loop_on whole r [] rest2 j e h = absurd cc
  loop_on whole r (t ∷ ts) rest2 j e h =
      turn whole t ts j e
      ∙ ap (λ (o : Out Expr). and_then o (λ r rest. loop inner k (length ts) (joined t.offset j whole r) rest)) h
      ∙ fuel (length ts) (length rest2) (joined t.offset j whole r) rest2
      (omega (arith, short ts, ap (λ (o : Out Expr). length (place o)) h)) (omega arith)

  pub loop_off : (whole : Expr) (rest : Tokens) (j : Joiner) (s : Stop) → seen (joiner k) rest ≡ Some j
      → inner (tail rest) ≡ Err s → loop inner k (length rest) whole rest ≡ Err s
  loop_off whole [] j s e h = absurd cc
  loop_off whole (t ∷ ts) j s e h =
      turn whole t ts j e ∙ ap (λ (o : Out Expr). and_then o
      (λ r rest. loop inner k (length ts) (joined t.offset j whole r) rest)) h

  pub loop_end : (whole : Expr) (rest : Tokens) → seen (joiner k) rest ≡ None
      → loop inner k (length rest) whole rest ≡ Ok (whole, rest)
  loop_end whole [] e = refl
  loop_end whole (t ∷ ts) e =
      by_none (joiner k t.form) (here whole (t ∷ ts))
      (λ j. and_then (inner ts) (λ r rest. loop inner k (length ts) (joined t.offset j whole r) rest)) e

  pub loop_shorter : (rest rest2 : Tokens) (r : Expr) (j : Joiner) → seen (joiner k) rest ≡ Some j
      → inner (tail rest) ≡ Ok (r, rest2) → length rest2 < length rest
  loop_shorter [] rest2 r j e h = absurd cc
  loop_shorter (t ∷ ts) rest2 r j e h = omega (arith, short ts, ap (λ (o : Out Expr). length (place o)) h)

binary_short : (left n : ℕ) → n ≤ 10 → (ts : Tokens) → length (place (binary_of (inside left) n ts)) ≤ length ts
binary_short left n le ts =
    sound_short same_tree (Level (binary_level n) 0) always left ts (binary_of (inside left) n ts)
    ((binary_piece left 0 (inside left) (inside_known left left 0 (omega arith)) n le).sound ts tt)

assignment_short : (left : ℕ) (ts : Tokens) → length (place (assignment_of (inside left) ts)) ≤ length ts
assignment_short left ts =
    sound_short same_tree (Level 15 0) always left ts (assignment_of (inside left) ts)
    ((assignment_piece left 0 (inside left) (inside_known left left 0 (omega arith))).sound ts tt)

joiner_some : (o : Option Joiner) (b : BinaryOp) → operator_of o ≡ Some b → o ≡ Some (op b)
joiner_some None b e = absurd cc
joiner_some (Some comma) b e = absurd cc
joiner_some (Some (op a)) b e = let i : a ≡ b = cc in ap (λ (b : BinaryOp). Some (op b)) i

no_joiner : (n : ℕ) (ts : Tokens) (o : Option Joiner) → n < 10 → seen (joiner (binary_level n)) ts ≡ o
    → operator_of o ≡ None → o ≡ None
no_joiner n ts None lt i e = refl
no_joiner n ts (Some (op a)) lt i e = absurd cc
no_joiner n [] (Some comma) lt i e = absurd cc
no_joiner n (t ∷ ts) (Some comma) lt i e =
    let h = joiner_is (binary_level n) t.form comma i in let l = level_is n in absurd (omega (arith, h.1, l, lt))

module _ (left n : ℕ) (lt : n < 10) where
  abbrev sides : Tokens → Out Expr
  sides = binary_of (inside left) n

  -- an operator and a right side are joined to the whole, and the loop goes on behind them
  pub turn_on : (whole r : Expr) (rest rest2 : Tokens) (o : BinaryOp) → operator_at n rest ≡ Some o
      → sides (tail rest) ≡ Ok (r, rest2)
      → loop sides (binary_level n) (length rest) whole rest ≡ loop sides (binary_level n) (length rest2)
      (joined (offset_of rest) (op o) whole r) rest2
  turn_on whole r rest rest2 o e h =
      loop_on sides (binary_short left n (omega (arith, lt))) (binary_level n) whole r rest rest2 (op o)
      (joiner_some _ o e) h

  -- where the right side behind an operator fails, the loop fails there
  pub turn_off : (whole : Expr) (rest : Tokens) (o : BinaryOp) (s : Stop) → operator_at n rest ≡ Some o
      → sides (tail rest) ≡ Err s → loop sides (binary_level n) (length rest) whole rest ≡ Err s
  turn_off whole rest o s e h =
      loop_off sides (binary_short left n (omega (arith, lt))) (binary_level n) whole rest (op o) s
      (joiner_some _ o e)
      h

  -- without an operator of the level the loop ends with the whole
  pub turns_end : (whole : Expr) (rest : Tokens) → operator_at n rest ≡ None
      → loop sides (binary_level n) (length rest) whole rest ≡ Ok (whole, rest)
  turns_end whole rest e =
      loop_end sides (binary_short left n (omega (arith, lt))) (binary_level n) whole rest
      (no_joiner n rest _ lt refl e)

  -- an operator and its right side take at least a token
  pub turn_shorter : (rest rest2 : Tokens) (r : Expr) (o : BinaryOp) → operator_at n rest ≡ Some o
      → sides (tail rest) ≡ Ok (r, rest2) → length rest2 < length rest
  turn_shorter rest rest2 r o e h =
      loop_shorter sides (binary_short left n (omega (arith, lt))) (binary_level n) rest rest2 r (op o)
      (joiner_some _ o e) h

-- a binary expression of a level is one of the level below with what is joined to it
pub binary_next : (left n : ℕ) (ts : Tokens) → binary_of (inside left) (suc n) ts ≡ and_then
    (binary_of (inside left) n ts) (λ a ts. loop (binary_of (inside left) n) (binary_level n) (length ts) a ts)
unfolding binary_of
binary_next left n ts = refl

-- ---- commas

comma_seen : (ts : Tokens) → is_next mark.Comma ts ≡ true → seen (joiner 15) ts ≡ Some comma
comma_seen [] e = absurd (false≢true e)
comma_seen (t ∷ ts) e = ap (joiner 15) (mark_is mark.Comma t.form e)

few : (b : BinaryOp) → below (op b) ≡ 15 → ⊥
few binary.LogicalOr q = omega (arith, q)
few _ q = omega (arith, q)

no_comma : (ts : Tokens) (o : Option Joiner) → seen (joiner 15) ts ≡ o → is_next mark.Comma ts ≡ false → o ≡ None
no_comma ts None i e = refl
no_comma [] (Some j) i e = absurd cc
no_comma (t ∷ ts) (Some j) i e = let h = joiner_is 15 t.form j i in absurd (at_fifteen j t.form h.0 h.1 e)
  where
    at_fifteen : (j : Joiner) (f : Form) → f ≡ form.Mark (joiner_mark j) → below j ≡ 15 → is_mark mark.Comma f ≡ false
        → ⊥
    at_fifteen comma f p q e = false≢true (sym e ∙ ap (is_mark mark.Comma) p)
    at_fifteen (op b) f p q e = few b q

module _ (left : ℕ) where
  abbrev parts : Tokens → Out Expr
  parts = assignment_of (inside left)

  -- a comma and its right side are joined to the whole, and the loop goes on behind them
  pub comma_on : (whole r : Expr) (rest rest2 : Tokens) → is_next mark.Comma rest ≡ true
      → parts (tail rest) ≡ Ok (r, rest2) → loop parts 15 (length rest) whole rest ≡ loop parts 15 (length rest2)
      (joined (offset_of rest) comma whole r) rest2
  comma_on whole r rest rest2 e h =
      loop_on parts (assignment_short left) 15 whole r rest rest2 comma (comma_seen rest e) h

  pub comma_off : (whole : Expr) (rest : Tokens) (s : Stop) → is_next mark.Comma rest ≡ true
      → parts (tail rest) ≡ Err s
      → loop parts 15 (length rest) whole rest ≡ Err s
  comma_off whole rest s e h = loop_off parts (assignment_short left) 15 whole rest comma s (comma_seen rest e) h

  pub commas_end : (whole : Expr) (rest : Tokens) → is_next mark.Comma rest ≡ false
      → loop parts 15 (length rest) whole rest ≡ Ok (whole, rest)
  commas_end whole rest e = loop_end parts (assignment_short left) 15 whole rest (no_comma rest _ refl e)

  -- a comma and its right side take at least a token
  pub comma_shorter : (rest rest2 : Tokens) (r : Expr) → is_next mark.Comma rest ≡ true
      → parts (tail rest) ≡ Ok (r, rest2) → length rest2 < length rest
  comma_shorter rest rest2 r e h =
      loop_shorter parts (assignment_short left) 15 rest rest2 r comma (comma_seen rest e) h

-- an expression is an assignment with what commas join to it
pub commas_of : (left : ℕ) (ts : Tokens) → expression_of (inside left) ts ≡ and_then (assignment_of (inside left) ts)
    (λ a ts. loop (assignment_of (inside left)) 15 (length ts) a ts)
unfolding expression_of
commas_of left ts = refl

-- ---- suffixes

pub suffix_on : (whole : Expr) (rest : Tokens) (s : Suffix) → seen suffix_of rest ≡ Some s
    → suffixes (length rest) whole rest ≡ suffixes (length (tail rest)) (suffixed (offset_of rest) s whole) (tail rest)
suffix_on whole [] s e = absurd cc
suffix_on whole (t ∷ ts) s e =
    by_some (suffix_of t.form) s (suffix_here whole (t ∷ ts))
    (λ s. suffixes (length ts) (suffixed t.offset s whole) ts) e
  where
    suffix_here : Expr → Tokens → Out Expr
    suffix_here a ts = Ok (a, ts)

pub suffix_end : (whole : Expr) (rest : Tokens) → seen suffix_of rest ≡ None
    → suffixes (length rest) whole rest ≡ Ok (whole, rest)
suffix_end whole [] e = refl
suffix_end whole (t ∷ ts) e =
    by_none (suffix_of t.form) (Ok (whole, t ∷ ts)) (λ s. suffixes (length ts) (suffixed t.offset s whole) ts) e

pub suffix_shorter : (rest : Tokens) (s : Suffix) → seen suffix_of rest ≡ Some s → length (tail rest) < length rest
suffix_shorter [] s e = absurd cc
suffix_shorter (t ∷ ts) s e = omega arith

pub suffixes_of : (left : ℕ) (ts : Tokens) → postfix_of (inside left) ts ≡ and_then (primary_of (inside left) ts)
    (λ e ts. suffixes (length ts) e ts)
unfolding postfix_of
suffixes_of left ts = refl

-- ---- lists with commas

behind_twice : {A : Type 0} (found : List A) (x : A) (out : Out (List A))
    → behind found (and_then out (λ xs ts. Ok (x ∷ xs, ts))) ≡ behind (found ++ x ∷ []) out
behind_twice found x (Ok p) = ap (λ xs. Ok (xs, p.1)) (sym (append_assoc found (x ∷ []) p.0))
behind_twice found x (Err s) = refl

-- behind nothing that was found is what will be found
pub behind_none : {A : Type 0} (out : Out (List A)) → behind [] out ≡ out
behind_none (Ok p) = refl
behind_none (Err s) = refl

module _ {A : Type 0} (k : Mark) (run : Tokens → Out A) where
  pub listed_turn : (n n' : ℕ) (found : List A) (x : A) (ts mid : Tokens) → n ≡ suc n' → run ts ≡ Ok (x, mid)
      → is_next mark.Comma mid ≡ true → behind found (listed k false run n ts) ≡ behind (found ++ x ∷ [])
      (listed k false run n' (tail mid))
  listed_turn n n' found x ts mid e h c = rw e (rw h (rw c (behind_twice found x (listed k false run n' (tail mid)))))

  pub listed_last : (n n' : ℕ) (found : List A) (x : A) (ts mid : Tokens) → n ≡ suc n' → run ts ≡ Ok (x, mid)
      → is_next mark.Comma mid ≡ false → behind found (listed k false run n ts) ≡ and_then (expect k mid)
      (λ _ ts. Ok (found ++ x ∷ [], ts))
  listed_last n n' found x ts mid e h c = rw e (rw h (rw c (by (is_next k mid))))
    where
      by : (b : Bool) → behind found (and_then (cond b (Ok (offset_of mid, tail mid)) (syntax mid))
          (λ _ ts. Ok (x ∷ [], ts))) ≡ and_then (cond b (Ok (offset_of mid, tail mid)) (syntax mid))
          (λ _ ts. Ok (found ++ x ∷ [], ts))
      by true = refl
      by false = refl

  pub listed_err : (n n' : ℕ) (found : List A) (ts : Tokens) (s : Stop) → n ≡ suc n' → run ts ≡ Err s
      → behind found (listed k false run n ts) ≡ Err s
  listed_err n n' found ts s e h = rw e (rw h refl)

  -- the loop's turn keeps what it will find
  pub listed_keeps : (turns turn' : ℕ) (found found' : List A) (ts mid rest : Tokens) (x : A) (whole : Out (List A))
      → turn' < turns → behind found (listed k false run (turns - turn') ts) ≡ whole → run ts ≡ Ok (x, mid)
      → is_next mark.Comma mid ≡ true → found' ≡ found ++ x ∷ [] → rest ≡ tail mid
      → behind found' (listed k false run (turns - (turn' + 1)) rest) ≡ whole
  listed_keeps turns turn' found found' ts mid rest x whole lt inv h c e r =
      rw e (rw r (sym (listed_turn (turns - turn') (turns - (turn' + 1)) found x ts mid (omega (arith, lt)) h c)
      ∙ inv))

zero_is : (left : ℕ) (ts : Tokens) → binary_of (inside left) 0 ts ≡ cast_of (inside left) ts
unfolding binary_of
zero_is left ts = refl

-- a binary expression of the lowest level is a cast
pub binary_zero : (left level : ℕ) (ts : Tokens) → level ≡ 0
    → binary_of (inside left) level ts ≡ cast_of (inside left) ts
binary_zero left level ts e = ap (λ (k : ℕ). binary_of (inside left) k ts) e ∙ zero_is left ts

-- ---- an assignment

-- an assignment reads as what stands behind its operator does
pub assign_with : (left : ℕ) (to : Expr) (ts new : Tokens) (r : Result Expr Stopped) (p : Mark × Option BinaryOp)
    (o : Option Assigner) → seen (assigner_for to) ts ≡ o → IsAssigner (Some p) o
    → ((s : Assigner) → p.0 ≡ assigner_mark s → p.1 ≡ assigner_op s → Reads (assigned_of (inside left) s to ts) r new)
    → Reads (assign_from (inside left) to ts) r new
unfolding assign_from
assign_with left to ts new r p None i q h = absurd q
assign_with left to ts new r p (Some s) i q h =
    subst (λ (o : Out Expr). Reads o r new) (sym (by_some (seen (assigner_for to) ts) s (assign_here to ts)
    (λ s. assigned_of (inside left) s to ts) i)) (h s q.0 q.1)
  where
    assign_here : Expr → Tokens → Out Expr
    assign_here a ts = Ok (a, ts)

-- ---- lists: the loop's start, and its faults

-- at its start the loop of a list will find what the model of the list finds
pub listed_init : {A : Type 0} (k : Mark) (run : Tokens → Out A) (turns : ℕ) (ts : Tokens) → turns ≡ length ts + 1
    → behind [] (listed k false run (turns - 0) ts) ≡ listed k false run (suc (length ts)) ts
listed_init k run turns ts e =
    let i : turns - 0 ≡ suc (length ts) = omega (arith, e) in
    behind_none _ ∙ ap (λ (n : ℕ). listed k false run n ts) i

-- at its start the loop of arguments will find what the model of them finds
pub arg_list_init : (left turns : ℕ) (ts : Tokens) → turns ≡ length ts + 1
    → behind [] (listed mark.RightParen false (assignment_of (inside left)) (turns - 0) ts) ≡ arg_list_of
    (opened left) ts
unfolding arg_list_of
arg_list_init left turns ts e = listed_init mark.RightParen (assignment_of (inside left)) turns ts e

abbrev err : {A : Type 0} → Stop → Out A
err s = Err s

pub listed_fails : {A : Type 0} (k : Mark) (run : Tokens → Out A) (turns turn' : ℕ) (found : List A) (ts new : Tokens)
    (e : Stopped) (whole : Out (List A)) → turn' < turns
    → behind found (listed k false run (turns - turn') ts) ≡ whole
    → Fails (run ts) e new → Fails whole e new
listed_fails k run turns turn' found ts new stopped.Syntax whole lt inv h =
    sym inv ∙ listed_err k run (turns - turn') (turns - (turn' + 1)) found ts _ (omega (arith, lt)) h
listed_fails k run turns turn' found ts new stopped.TooDeep whole lt inv h =
    sym inv ∙ listed_err k run (turns - turn') (turns - (turn' + 1)) found ts _ (omega (arith, lt)) h
listed_fails k run turns turn' found ts new stopped.Memory whole lt inv h = tt
