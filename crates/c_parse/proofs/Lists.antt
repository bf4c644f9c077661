-- The loops of lists in which a comma may stand behind the last item, of globals and of units.
use Rattle.std.proofs.Common.{◌≡◌, ℕ, suc, ◌+◌, ◌-◌, ◌<◌, Bool, true, false, cond, List, [], ◌∷◌, ◌++◌, length}
use Rattle.std.proofs.Common.{Ok, Err}
use Rattle.std.proofs.Common.{Result, refl, sym, ap, ◌∙◌, subst, arith, append_assoc}
use Rattle.std.proofs.lemmas.Bool.{false≢true}
use Rattle.c_tree.specs.declared.token.Kind.{Kind}
use Rattle.c_tree.specs.declared.token.Mark.{Mark}
use Rattle.c_tree.specs.declared.token.Mark.TheVariants as mark
use Rattle.c_tree.specs.declared.tree.Top.{Top}
use Rattle.c_grammar.specs.Tokens.{Tokens}
use Rattle.c_grammar.specs.inside.Parsing.{Stop, Out, and_then, syntax, tail, offset_of, is_next, expect, listed}
use Rattle.c_grammar.specs.inside.Parsing.{is_end, to_end}
use Rattle.c_grammar.specs.inside.ModelExpressions.{inside, conditional_of}
use Rattle.c_grammar.specs.inside.ModelStatements.{below_at, compound_of}
use Rattle.c_grammar.specs.inside.ModelGlobals.{row_of, rows_of, values_of, global_of, more_globals_of}
use Rattle.c_grammar.specs.inside.ModelUnits.{item_of, unit_of}
use Rattle.c_grammar.specs.inside.ModelParameters.{param_of, param_list_of}
use Rattle.c_grammar.proofs.Agree.{if_true, if_false}
use Rattle.c_parse.specs.inside.Reads.{behind, Fails, Puts}
use Rattle.c_parse.specs.inside.Lists.{global_list_of}
use Rattle.c_parse.specs.declared.fault.Stopped.{Stopped}
use Rattle.c_parse.specs.declared.fault.Stopped.TheVariants as stopped
use Rattle.c_parse.proofs.ParserLoops.{behind_none, listed_init}

abbrev err : {A : Type 0} → Stop → Out A
err s = Err s

-- what is found behind an item is found behind all that was found before
behind_item : {A : Type 0} (found : List A) (x : A) (out : Out (List A))
    → behind found (and_then out (λ xs ts. Ok (x ∷ xs, ts))) ≡ behind (found ++ x ∷ []) out
behind_item found x (Ok p) = ap (λ xs. Ok (xs, p.1)) (sym (append_assoc found (x ∷ []) p.0))
behind_item found x (Err s) = refl

behind_items : {A : Type 0} (found xs : List A) (out : Out (List A))
    → behind found (and_then out (λ ys ts. Ok (xs ++ ys, ts))) ≡ behind (found ++ xs) out
behind_items found xs (Ok p) = ap (λ ys. Ok (ys, p.1)) (sym (append_assoc found xs p.0))
behind_items found xs (Err s) = refl

-- ---- values up to a mark, with one comma more or not

module _ {A : Type 0} (k : Mark) (run : Tokens → Out A) where
  -- an item, a comma and no mark: the list goes on
  pub trailed_turn : (n n' : ℕ) (found : List A) (x : A) (ts mid : Tokens) → n ≡ suc n' → run ts ≡ Ok (x, mid)
      → is_next mark.Comma mid ≡ true → is_next k (tail mid) ≡ false
      → behind found (listed k true run n ts) ≡ behind (found ++ x ∷ []) (listed k true run n' (tail mid))
  trailed_turn n n' found x ts mid e h c d =
      rw e (rw h (rw c (rw d (behind_item found x (listed k true run n' (tail mid))))))

  -- an item, a comma and the mark: the list ends
  pub trailed_end : (n n' : ℕ) (found : List A) (x : A) (ts mid : Tokens) → n ≡ suc n' → run ts ≡ Ok (x, mid)
      → is_next mark.Comma mid ≡ true → is_next k (tail mid) ≡ true
      → behind found (listed k true run n ts) ≡ Ok (found ++ x ∷ [], tail (tail mid))
  trailed_end n n' found x ts mid e h c d = rw e (rw h (rw c (rw d refl)))

  -- an item and no comma: the mark is wanted
  pub trailed_last : (n n' : ℕ) (found : List A) (x : A) (ts mid : Tokens) → n ≡ suc n' → run ts ≡ Ok (x, mid)
      → is_next mark.Comma mid ≡ false → behind found (listed k true run n ts) ≡ and_then (expect k mid)
      (λ _ ts. Ok (found ++ x ∷ [], ts))
  trailed_last n n' found x ts mid e h c = rw e (rw h (rw c (by (is_next k mid))))
    where
      by : (b : Bool) → behind found (and_then (cond b (Ok (offset_of mid, tail mid)) (syntax mid))
          (λ _ ts. Ok (x ∷ [], ts))) ≡ and_then (cond b (Ok (offset_of mid, tail mid)) (syntax mid))
          (λ _ ts. Ok (found ++ x ∷ [], ts))
      by true = refl
      by false = refl

  trailed_err : (n n' : ℕ) (found : List A) (ts : Tokens) (s : Stop) → n ≡ suc n' → run ts ≡ Err s
      → behind found (listed k true run n ts) ≡ Err s
  trailed_err n n' found ts s e h = rw e (rw h refl)

  -- the loop's turn keeps what it will find
  pub trailed_keeps : (turns turn' : ℕ) (found found' : List A) (ts mid rest : Tokens) (x : A) (whole : Out (List A))
      → turn' < turns → behind found (listed k true run (turns - turn') ts) ≡ whole → run ts ≡ Ok (x, mid)
      → is_next mark.Comma mid ≡ true → found' ≡ found ++ x ∷ [] → rest ≡ tail mid → is_next k rest ≡ false
      → behind found' (listed k true run (turns - (turn' + 1)) rest) ≡ whole
  trailed_keeps turns turn' found found' ts mid rest x whole lt inv h c e r d =
      rw e (rw r (sym (trailed_turn (turns - turn') (turns - (turn' + 1)) found x ts mid (omega (arith, lt)) h c
      (ap (is_next k) (sym r) ∙ d)) ∙ inv))

  -- the loop ends behind a comma and the mark
  pub trailed_done : (turns turn' : ℕ) (found found' : List A) (ts mid rest new : Tokens) (x : A)
      (whole : Out (List A))
      → turn' < turns → behind found (listed k true run (turns - turn') ts) ≡ whole → run ts ≡ Ok (x, mid)
      → is_next mark.Comma mid ≡ true → found' ≡ found ++ x ∷ [] → rest ≡ tail mid → is_next k rest ≡ true
      → new ≡ tail rest → whole ≡ Ok (found', new)
  trailed_done turns turn' found found' ts mid rest new x whole lt inv h c e r d t =
      rw e (rw t (rw r (sym inv ∙ trailed_end (turns - turn') (turns - (turn' + 1)) found x ts mid
      (omega (arith, lt)) h
      c (ap (is_next k) (sym r) ∙ d))))

  -- the loop ends without a comma
  pub trailed_closes : (turns turn' : ℕ) (found : List A) (ts mid : Tokens) (x : A) (whole : Out (List A))
      → turn' < turns → behind found (listed k true run (turns - turn') ts) ≡ whole → run ts ≡ Ok (x, mid)
      → is_next mark.Comma mid ≡ false → whole ≡ and_then (expect k mid) (λ _ ts. Ok (found ++ x ∷ [], ts))
  trailed_closes turns turn' found ts mid x whole lt inv h c =
      sym inv ∙ trailed_last (turns - turn') (turns - (turn' + 1)) found x ts mid (omega (arith, lt)) h c

  -- an item's fault is the list's
  pub trailed_fails : (turns turn' : ℕ) (found : List A) (ts new : Tokens) (e : Stopped) (whole : Out (List A))
      → turn' < turns → behind found (listed k true run (turns - turn') ts) ≡ whole → Fails (run ts) e new
      → Fails whole e new
  trailed_fails turns turn' found ts new stopped.Syntax whole lt inv h =
      sym inv ∙ trailed_err (turns - turn') (turns - (turn' + 1)) found ts _ (omega (arith, lt)) h
  trailed_fails turns turn' found ts new stopped.TooDeep whole lt inv h =
      sym inv ∙ trailed_err (turns - turn') (turns - (turn' + 1)) found ts _ (omega (arith, lt)) h
  trailed_fails turns turn' found ts new stopped.Memory whole lt inv h = tt

  pub trailed_init : (turns : ℕ) (ts : Tokens) → turns ≡ length ts + 1
      → behind [] (listed k true run (turns - 0) ts) ≡ listed k true run (suc (length ts)) ts
  trailed_init turns ts e =
      let i : turns - 0 ≡ suc (length ts) = omega (arith, e) in
      behind_none _ ∙ ap (λ (n : ℕ). listed k true run n ts) i

-- at its start the loop of values will find what the model of them finds
pub values_init : (left turns : ℕ) (ts : Tokens) → turns ≡ length ts + 1
    → behind [] (listed mark.RightBrace true (conditional_of (inside left)) (turns - 0) ts) ≡ values_of (inside left)
    ts
unfolding values_of
values_init left turns ts e = trailed_init mark.RightBrace (conditional_of (inside left)) turns ts e

-- at its start the loop of rows will find what the model of them finds
pub rows_init : (left turns : ℕ) (ts : Tokens) → turns ≡ length ts + 1
    → behind [] (listed mark.RightBrace true (row_of (inside left)) (turns - 0) ts) ≡ rows_of (inside left) ts
unfolding rows_of
rows_init left turns ts e = trailed_init mark.RightBrace (row_of (inside left)) turns ts e

-- ---- parameters and globals

-- at its start the loop of parameters will find what the model of them finds
pub params_init : (left turns : ℕ) (ts : Tokens) → turns ≡ length ts + 1
    → behind [] (listed mark.RightParen false (param_of (inside left)) (turns - 0) ts) ≡ param_list_of (inside left)
    ts
unfolding param_list_of
params_init left turns ts e = listed_init mark.RightParen (param_of (inside left)) turns ts e

-- behind what was found the loop finds the globals
pub globals_init : (left turns : ℕ) (k : Kind) (found : List Top) (ts : Tokens) → turns ≡ length ts + 1
    → behind found (listed mark.Semicolon false (global_of (inside left) k) (turns - 0) ts) ≡ behind found
    (global_list_of (inside left) k ts)
unfolding global_list_of
globals_init left turns k found ts e =
    let i : turns - 0 ≡ suc (length ts) = omega (arith, e) in ap
    (λ (n : ℕ). behind found (listed mark.Semicolon false (global_of (inside left) k) n ts)) i

-- a comma: more globals stand behind it
pub globals_on : (left : ℕ) (k : Kind) (x : Top) (ts rest : Tokens) → is_next mark.Comma ts ≡ true → rest ≡ tail ts
    → more_globals_of (inside left) k x ts ≡ behind (x ∷ []) (global_list_of (inside left) k rest)
unfolding more_globals_of global_list_of
globals_on left k x [] rest e r = absurd (false≢true e)
globals_on left k x (t ∷ ts) rest e r = rw r (if_true (is_next mark.Comma (t ∷ ts)) _ _ e)

-- what is put behind a list is what stands behind it
put_same : {A : Type 0} (out out' : Out (List A)) (old old' new : List A)
    (r : Result (Unit {0}) Stopped) (ts : Tokens)
    → behind old out ≡ behind old' out' → Puts out' old' new r ts → Puts out old new r ts
put_same out out' old old' new (Ok done) ts e h = e ∙ h
put_same {A} out out' old old' new (Err s) ts e h = subst (λ (o : Out (List A)). Fails o s ts) (sym e) h

-- a comma: more globals are put behind the first one
pub globals_put : (left : ℕ) (k : Kind) (x : Top) (ts rest end : Tokens) (old mid new : List Top)
    (r : Result (Unit {0}) Stopped) → is_next mark.Comma ts ≡ true → rest ≡ tail ts → mid ≡ old ++ x ∷ []
    → Puts (global_list_of (inside left) k rest) mid new r end
    → Puts (more_globals_of (inside left) k x ts) old new r end
globals_put left k x ts rest end old mid new r c e m h =
    put_same (more_globals_of (inside left) k x ts) (global_list_of (inside left) k rest) old mid new r end
    (ap (λ (o : Out (List Top)). behind old o) (globals_on left k x ts rest c e)
    ∙ behind_items old (x ∷ []) (global_list_of (inside left) k rest)
    ∙ ap (λ (f : List Top). behind f (global_list_of (inside left) k rest)) (sym m)) h

-- no comma: the semicolon is wanted
pub globals_end : (left : ℕ) (k : Kind) (x : Top) (ts : Tokens) → is_next mark.Comma ts ≡ false
    → more_globals_of (inside left) k x ts ≡ and_then (expect mark.Semicolon ts) (λ _ ts. Ok (x ∷ [], ts))
unfolding more_globals_of
globals_end left k x ts e = if_false (is_next mark.Comma ts) _ _ e

-- ---- items up to the end

module _ {A : Type 0} (run : Tokens → Out (List A)) where
  end_turn : (n n' : ℕ) (found xs : List A) (ts mid : Tokens) → n ≡ suc n' → run ts ≡ Ok (xs, mid)
      → is_end mid ≡ false
      → behind found (to_end run n ts) ≡ behind (found ++ xs) (to_end run n' mid)
  end_turn n n' found xs ts mid e h c = rw e (rw h (rw c (behind_items found xs (to_end run n' mid))))

  end_last : (n n' : ℕ) (found xs : List A) (ts mid : Tokens) → n ≡ suc n' → run ts ≡ Ok (xs, mid) → is_end mid ≡ true
      → behind found (to_end run n ts) ≡ Ok (found ++ xs, mid)
  end_last n n' found xs ts mid e h c = rw e (rw h (rw c refl))

  end_err : (n n' : ℕ) (found : List A) (ts : Tokens) (s : Stop) → n ≡ suc n' → run ts ≡ Err s
      → behind found (to_end run n ts) ≡ Err s
  end_err n n' found ts s e h = rw e (rw h refl)

  -- the loop's turn keeps what it will find
  pub end_keeps : (turns turn' : ℕ) (found found' : List A) (ts rest : Tokens) (xs : List A) (whole : Out (List A))
      → turn' < turns → behind found (to_end run (turns - turn') ts) ≡ whole → run ts ≡ Ok (xs, rest)
      → is_end rest ≡ false → found' ≡ found ++ xs → behind found' (to_end run (turns - (turn' + 1)) rest) ≡ whole
  end_keeps turns turn' found found' ts rest xs whole lt inv h c e =
      rw e (sym (end_turn (turns - turn') (turns - (turn' + 1)) found xs ts rest (omega (arith, lt)) h c) ∙ inv)

  -- no token is left
  pub end_done : (turns turn' : ℕ) (found found' : List A) (ts rest : Tokens) (xs : List A) (whole : Out (List A))
      → turn' < turns → behind found (to_end run (turns - turn') ts) ≡ whole → run ts ≡ Ok (xs, rest)
      → is_end rest ≡ true → found' ≡ found ++ xs → whole ≡ Ok (found', rest)
  end_done turns turn' found found' ts rest xs whole lt inv h c e =
      rw e (sym inv ∙ end_last (turns - turn') (turns - (turn' + 1)) found xs ts rest (omega (arith, lt)) h c)

  -- an item's fault is the unit's
  pub end_fails : (turns turn' : ℕ) (found : List A) (ts new : Tokens) (e : Stopped) (whole : Out (List A))
      → turn' < turns → behind found (to_end run (turns - turn') ts) ≡ whole → Fails (run ts) e new
      → Fails whole e new
  end_fails turns turn' found ts new stopped.Syntax whole lt inv h =
      sym inv ∙ end_err (turns - turn') (turns - (turn' + 1)) found ts _ (omega (arith, lt)) h
  end_fails turns turn' found ts new stopped.TooDeep whole lt inv h =
      sym inv ∙ end_err (turns - turn') (turns - (turn' + 1)) found ts _ (omega (arith, lt)) h
  end_fails turns turn' found ts new stopped.Memory whole lt inv h = tt

  -- the same of items that are put behind those that were found
  pub end_puts : (turns turn' : ℕ) (found found' : List A) (ts rest : Tokens) (whole : Out (List A))
      → turn' < turns → behind found (to_end run (turns - turn') ts) ≡ whole
      → behind found (run ts) ≡ Ok (found', rest)
      → is_end rest ≡ false → behind found' (to_end run (turns - (turn' + 1)) rest) ≡ whole
  end_puts turns turn' found found' ts rest whole lt inv h c = by (run ts) refl h
    where
      by : (o : Out (List A)) → run ts ≡ o → behind found o ≡ Ok (found', rest)
          → behind found' (to_end run (turns - (turn' + 1)) rest) ≡ whole
      by (Err s) i g = absurd cc
      by (Ok p) i g =
          let q : (found ++ p.0, p.1) ≡ (found', rest) = cc in
          end_keeps turns turn' found found' ts rest (p.0) whole lt inv
          (i ∙ ap (λ (u : Tokens). Ok (p.0, u)) (ap (λ (u : List A × Tokens). u.1) q)) c
          (ap (λ (u : List A × Tokens). u.0) (sym q))

  pub end_init : (turns : ℕ) (ts : Tokens) → turns ≡ length ts + 1
      → behind [] (to_end run (turns - 0) ts) ≡ to_end run (suc (length ts)) ts
  end_init turns ts e =
      let i : turns - 0 ≡ suc (length ts) = omega (arith, e) in behind_none _ ∙ ap (λ (n : ℕ). to_end run n ts) i

-- at its start the loop of a unit's items will find what the model of units finds
pub unit_init : (n turns : ℕ) (ts : Tokens) → turns ≡ length ts + 1
    → behind [] (to_end (item_of (inside (suc n)) (compound_of (inside n) (below_at n))) (turns - 0) ts) ≡ unit_of n
    ts
unfolding unit_of
unit_init n turns ts e = end_init (item_of (inside (suc n)) (compound_of (inside n) (below_at n))) turns ts e
