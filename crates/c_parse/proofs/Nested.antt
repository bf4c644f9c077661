-- What stands one deeper, and the loops of statements.
use Rattle.std.proofs.Common.{◌≡◌, ℕ, suc, ◌+◌, ◌-◌, ◌<◌, Bool, true, false, cond, List, [], ◌∷◌, ◌++◌, length, Ok}
use Rattle.std.proofs.Common.{Err, refl}
use Rattle.std.proofs.Common.{sym, ap, ◌∙◌, arith, append_assoc}
use Rattle.c_tree.specs.declared.token.Kind.{Kind}
use Rattle.std.proofs.lemmas.Bool.{false≢true}
use Rattle.c_tree.specs.declared.token.Lexeme.{Lexeme}
use Rattle.c_tree.specs.declared.token.Form.{Form}
use Rattle.c_tree.specs.declared.token.Form.TheVariants as form
use Rattle.c_tree.specs.declared.token.Key.TheVariants as key
use Rattle.c_tree.specs.declared.token.Mark.{Mark}
use Rattle.c_tree.specs.declared.token.Mark.TheVariants as mark
use Rattle.c_grammar.specs.Tokens.{Tokens}
use Rattle.c_grammar.specs.inside.Parsing.{Stop, Out, and_then, syntax, too_deep, tail, first, is_next, is_word}
use Rattle.c_grammar.specs.inside.Parsing.{listed, many, repeated}
use Rattle.c_grammar.specs.inside.ModelTypes.{begins_type}
use Rattle.c_grammar.specs.inside.ModelExpressions.{inside}
use Rattle.c_grammar.specs.inside.ModelPrimaries.{is_name}
use Rattle.c_grammar.specs.inside.ModelBegins.{begins_statement, begins_label}
use Rattle.c_grammar.specs.inside.ModelLocals.{decl_of, decls_of, locals_of}
use Rattle.c_grammar.specs.inside.ModelEntries.{entry_of, entries_of}
use Rattle.c_grammar.specs.inside.ModelStatements.{stmt_of, simple_of, plain_of, return_of, below_at}
use Rattle.c_grammar.specs.inside.ModelSwitches.{label_of, labels_of, body_of, section_of, sections_of}
use Rattle.c_grammar.proofs.Numbers.{key_is}
use Rattle.c_parse.specs.inside.Reads.{behind, Fails}
use Rattle.c_parse.specs.declared.fault.Stopped.{Stopped}
use Rattle.c_parse.specs.declared.fault.Stopped.TheVariants as stopped
use Rattle.c_parse.proofs.ParserLoops.{behind_none}
use Rattle.c_tree.specs.declared.tree.Stmt.{Stmt}

abbrev err : {A : Type 0} → Stop → Out A
err s = Err s

-- where no depth is left, an inner statement is too deep, or a syntax fault where none begins
pub inner_zero : (ts : Tokens) → (below_at 0).inner ts ≡ cond (first begins_statement ts) (too_deep ts) (syntax ts)
unfolding below_at
inner_zero ts = refl

-- where no depth is left, a declaration of locals is too deep, or a syntax fault where none begins
pub locals_zero : (ts : Tokens) → (below_at 0).locals ts ≡ cond (begins_type ts) (too_deep ts) (syntax ts)
unfolding below_at
locals_zero ts = refl

inner_next : (n : ℕ) (ts : Tokens) → (below_at (suc n)).inner ts ≡ stmt_of (inside n) (below_at n) ts
unfolding below_at
inner_next n ts = refl

locals_next : (n : ℕ) (ts : Tokens) → (below_at (suc n)).locals ts ≡ locals_of (inside n) ts
unfolding below_at
locals_next n ts = refl

-- an inner statement with no depth left is read as at 0
pub inner_none : (left : ℕ) (ts : Tokens) → left ≡ 0 → (below_at left).inner ts ≡ (below_at 0).inner ts
inner_none left ts e = ap (λ (n : ℕ). (below_at n).inner ts) e

-- an inner statement with a depth left is a statement one deeper
pub inner_some : (left : ℕ) (ts : Tokens) → (left ≡ 0 → ⊥)
    → (below_at left).inner ts ≡ stmt_of (inside (left - 1)) (below_at (left - 1)) ts
inner_some left ts h =
    let e : left ≡ suc (left - 1) = omega (arith, h) in ap (λ (n : ℕ). (below_at n).inner ts) e
    ∙ inner_next (left - 1) ts

-- a statement that begins with a name is an expression
plain_next : (n : ℕ) (t : Lexeme) (ts : Tokens) (w : List ℕ) → t.form ≡ form.Name w
    → stmt_of (inside n) (below_at n) (t ∷ ts) ≡ plain_of (inside n) (below_at n) (t ∷ ts)
unfolding stmt_of simple_of
plain_next n t ts w e = rw e refl

-- the same of a statement one deeper
pub inner_plain : (left : ℕ) (ts : Tokens) → (left ≡ 0 → ⊥) → first is_name ts ≡ true
    → (below_at left).inner ts ≡ plain_of (inside (left - 1)) (below_at (left - 1)) ts
inner_plain left [] h e = absurd (false≢true e)
inner_plain left (t ∷ ts) h e = by t.form refl e
  where
    by : (f : Form) → t.form ≡ f → is_name f ≡ true
        → (below_at left).inner (t ∷ ts) ≡ plain_of (inside (left - 1)) (below_at (left - 1)) (t ∷ ts)
    by (form.Name w) i q = inner_some left (t ∷ ts) h ∙ plain_next (left - 1) t ts w i
    by _ i q = absurd (false≢true q)

-- a statement that begins with `return` is one
return_next : (n : ℕ) (t : Lexeme) (ts : Tokens) → t.form ≡ form.Key key.Return
    → stmt_of (inside n) (below_at n) (t ∷ ts) ≡ return_of (inside n) (below_at n) (t ∷ ts)
unfolding stmt_of simple_of
return_next n t ts e = rw e refl

-- the same of a statement one deeper
pub inner_return : (left : ℕ) (ts : Tokens) → (left ≡ 0 → ⊥) → is_word key.Return ts ≡ true
    → (below_at left).inner ts ≡ return_of (inside (left - 1)) (below_at (left - 1)) ts
inner_return left [] h e = absurd (false≢true e)
inner_return left (t ∷ ts) h e =
    inner_some left (t ∷ ts) h ∙ return_next (left - 1) t ts (key_is key.Return t.form e)

-- a declaration of locals with no depth left is read as at 0
pub locals_none : (left : ℕ) (ts : Tokens) → left ≡ 0 → (below_at left).locals ts ≡ (below_at 0).locals ts
locals_none left ts e = ap (λ (n : ℕ). (below_at n).locals ts) e

-- a declaration of locals with a depth left is one that is read one deeper
pub locals_some : (left : ℕ) (ts : Tokens) → (left ≡ 0 → ⊥)
    → (below_at left).locals ts ≡ locals_of (inside (left - 1)) ts
locals_some left ts h =
    let e : left ≡ suc (left - 1) = omega (arith, h) in ap (λ (n : ℕ). (below_at n).locals ts) e
    ∙ locals_next (left - 1) ts

-- behind what was found the loop finds the declarators
pub decls_init : (left turns : ℕ) (k : Kind) (found : List Stmt) (ts : Tokens) → turns ≡ length ts + 1
    → behind found (listed mark.Semicolon false (decl_of (inside left) k) (turns - 0) ts) ≡ behind found
    (decls_of (inside left) k ts)
unfolding decls_of
decls_init left turns k found ts e =
    let i : turns - 0 ≡ suc (length ts) = omega (arith, e) in ap
    (λ (n : ℕ). behind found (listed mark.Semicolon false (decl_of (inside left) k) n ts)) i

-- ---- entries up to a mark

append_nil : {A : Type 0} (xs : List A) → xs ++ [] ≡ xs
append_nil [] = refl
append_nil {A} (x ∷ xs) = ap (λ (u : List A). x ∷ u) (append_nil xs)

appended : {A : Type 0} (found xs : List A) (out : Out (List A))
    → behind found (and_then out (λ ys ts. Ok (xs ++ ys, ts))) ≡ behind (found ++ xs) out
appended found xs (Ok p) = ap (λ ys. Ok (ys, p.1)) (sym (append_assoc found xs p.0))
appended found xs (Err s) = refl

module _ {A : Type 0} (k : Mark) (run : Tokens → Out (List A)) where
  many_turn : (n n' : ℕ) (found xs : List A) (ts mid : Tokens) → n ≡ suc n' → is_next k ts ≡ false
      → run ts ≡ Ok (xs, mid) → behind found (many k run n ts) ≡ behind (found ++ xs) (many k run n' mid)
  many_turn n n' found xs ts mid e c h = rw e (rw c (rw h (appended found xs (many k run n' mid))))

  many_last : (n n' : ℕ) (found : List A) (ts : Tokens) → n ≡ suc n' → is_next k ts ≡ true
      → behind found (many k run n ts) ≡ Ok (found, tail ts)
  many_last n n' found ts e c = rw e (rw c (ap (λ (ys : List A). Ok (ys, tail ts)) (append_nil found)))

  many_err : (n n' : ℕ) (found : List A) (ts : Tokens) (s : Stop) → n ≡ suc n' → is_next k ts ≡ false → run ts ≡ Err s
      → behind found (many k run n ts) ≡ Err s
  many_err n n' found ts s e c h = rw e (rw c (rw h refl))

  -- a turn of the loop of groups puts a group behind what was found, and what will be found in all stays the
  -- same
  pub many_keeps : (turns turn' : ℕ) (found found' : List A) (ts rest : Tokens) (xs : List A) (whole : Out (List A))
      → turn' < turns → behind found (many k run (turns - turn') ts) ≡ whole → is_next k ts ≡ false
      → run ts ≡ Ok (xs, rest)
      → found' ≡ found ++ xs → behind found' (many k run (turns - (turn' + 1)) rest) ≡ whole
  many_keeps turns turn' found found' ts rest xs whole lt inv c h e =
      rw e (sym (many_turn (turns - turn') (turns - (turn' + 1)) found xs ts rest (omega (arith, lt)) c h) ∙ inv)

  pub many_done : (turns turn' : ℕ) (found : List A) (ts rest : Tokens) (whole : Out (List A)) → turn' < turns
      → behind found (many k run (turns - turn') ts) ≡ whole → is_next k ts ≡ true → rest ≡ tail ts
      → whole ≡ Ok (found, rest)
  many_done turns turn' found ts rest whole lt inv c e =
      sym inv ∙ many_last (turns - turn') (turns - (turn' + 1)) found ts (omega (arith, lt)) c
      ∙ ap (λ (u : Tokens). Ok (found, u)) (sym e)

  pub many_fails : (turns turn' : ℕ) (found : List A) (ts new : Tokens) (e : Stopped) (whole : Out (List A))
      → turn' < turns → behind found (many k run (turns - turn') ts) ≡ whole → is_next k ts ≡ false
      → Fails (run ts) e new → Fails whole e new
  many_fails turns turn' found ts new stopped.Syntax whole lt inv c h =
      sym inv ∙ many_err (turns - turn') (turns - (turn' + 1)) found ts _ (omega (arith, lt)) c h
  many_fails turns turn' found ts new stopped.TooDeep whole lt inv c h =
      sym inv ∙ many_err (turns - turn') (turns - (turn' + 1)) found ts _ (omega (arith, lt)) c h
  many_fails turns turn' found ts new stopped.Memory whole lt inv c h = tt

  -- the same of a turn that puts behind what was found
  pub many_puts : (turns turn' : ℕ) (found found' : List A) (ts rest : Tokens) (whole : Out (List A))
      → turn' < turns → behind found (many k run (turns - turn') ts) ≡ whole → is_next k ts ≡ false
      → behind found (run ts) ≡ Ok (found', rest)
      → behind found' (many k run (turns - (turn' + 1)) rest) ≡ whole
  many_puts turns turn' found found' ts rest whole lt inv c h = by (run ts) refl h
    where
      by : (o : Out (List A)) → run ts ≡ o → behind found o ≡ Ok (found', rest)
          → behind found' (many k run (turns - (turn' + 1)) rest) ≡ whole
      by (Err s) i g = absurd cc
      by (Ok p) i g =
          let q : (found ++ p.0, p.1) ≡ (found', rest) = cc in
          let f : found' ≡ found ++ p.0 = ap (λ (u : List A × Tokens). u.0) (sym q) in
          let r : p.1 ≡ rest = ap (λ (u : List A × Tokens). u.1) q in
          many_keeps turns turn' found found' ts rest (p.0) whole lt inv c
          (i ∙ ap (λ (u : Tokens). Ok (p.0, u)) r) f

  many_init : (turns : ℕ) (ts : Tokens) → turns ≡ length ts + 1
      → behind [] (many k run (turns - 0) ts) ≡ many k run (suc (length ts)) ts
  many_init turns ts e =
      let i : turns - 0 ≡ suc (length ts) = omega (arith, e) in behind_none _ ∙ ap (λ (n : ℕ). many k run n ts) i

-- at its start the loop of entries will find what the model of them finds
pub entries_init : (left turns : ℕ) (ts : Tokens) → turns ≡ length ts + 1
    → behind [] (many mark.RightBrace (entry_of (inside left) (below_at left)) (turns - 0) ts) ≡ entries_of
    (inside left) (below_at left) ts
unfolding entries_of
entries_init left turns ts e = many_init mark.RightBrace (entry_of (inside left) (below_at left)) turns ts e

-- at its start the loop of sections will find what the model of them finds
pub sections_init : (left turns : ℕ) (ts : Tokens) → turns ≡ length ts + 1
    → behind [] (many mark.RightBrace (section_of (inside left) (below_at left)) (turns - 0) ts) ≡ sections_of
    (inside left) (below_at left) ts
unfolding sections_of
sections_init left turns ts e = many_init mark.RightBrace (section_of (inside left) (below_at left)) turns ts e

-- ---- items as long as another one begins

module _ {A : Type 0} (begins : Form → Bool) (run : Tokens → Out A) where
  repeated_turn : (n n' : ℕ) (found : List A) (x : A) (ts mid : Tokens) → n ≡ suc n' → run ts ≡ Ok (x, mid)
      → first begins mid ≡ true
      → behind found (repeated begins run n ts) ≡ behind (found ++ x ∷ []) (repeated begins run n' mid)
  repeated_turn n n' found x ts mid e h c =
      rw e (rw h (rw c (appended found (x ∷ []) (repeated begins run n' mid))))

  -- the loop's turn keeps what it will find
  pub repeated_keeps : (turns turn' : ℕ) (found found' : List A) (ts rest : Tokens) (x : A) (whole : Out (List A))
      → turn' < turns → behind found (repeated begins run (turns - turn') ts) ≡ whole → run ts ≡ Ok (x, rest)
      → first begins rest ≡ true → found' ≡ found ++ x ∷ []
      → behind found' (repeated begins run (turns - (turn' + 1)) rest) ≡ whole
  repeated_keeps turns turn' found found' ts rest x whole lt inv h c e =
      rw e (sym (repeated_turn (turns - turn') (turns - (turn' + 1)) found x ts rest (omega (arith, lt)) h c) ∙ inv)

  repeated_init : (turns : ℕ) (ts : Tokens) → turns ≡ length ts + 1
      → behind [] (repeated begins run (turns - 0) ts) ≡ repeated begins run (suc (length ts)) ts
  repeated_init turns ts e =
      let i : turns - 0 ≡ suc (length ts) = omega (arith, e) in
      behind_none _ ∙ ap (λ (n : ℕ). repeated begins run n ts) i

-- at its start the loop of labels will find what the model of them finds
pub labels_init : (left turns : ℕ) (ts : Tokens) → turns ≡ length ts + 1
    → behind [] (repeated begins_label (label_of (inside left)) (turns - 0) ts) ≡ labels_of (inside left) ts
unfolding labels_of
labels_init left turns ts e = repeated_init begins_label (label_of (inside left)) turns ts e

-- at its start the loop of a section's statements will find what the model of them finds
pub body_init : (left turns : ℕ) (ts : Tokens) → turns ≡ length ts + 1
    → behind [] (repeated begins_statement (below_at left).inner (turns - 0) ts) ≡ body_of (inside left)
    (below_at left) ts
unfolding body_of
body_init left turns ts e = repeated_init begins_statement (below_at left).inner turns ts e
