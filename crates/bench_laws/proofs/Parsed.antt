-- The tokens of the benchmark spell its tree.
use Rattle.std.proofs.Common.{◌≡◌, ℕ, zero, suc, ◌+◌, true, false, List, [], ◌∷◌, ◌++◌, codes, Option, Some}
use Rattle.std.proofs.Common.{None, refl, sym, ap, subst}
use Rattle.std.proofs.Common.{append_assoc}
use Rattle.std.specs.Prelude.{decimal}
use Rattle.c_tree.specs.declared.token.Form.{Form}
use Rattle.c_tree.specs.declared.token.Form.TheVariants as form
use Rattle.c_tree.specs.declared.token.Key.TheVariants as key
use Rattle.c_tree.specs.declared.token.Mark.TheVariants as mark
use Rattle.c_tree.specs.declared.token.Kind.TheVariants.{Int, Long}
use Rattle.c_tree.specs.declared.tree.BinaryOp.TheVariants.{Less, Add, Subtract, Remainder}
use Rattle.c_tree.specs.declared.tree.Expr.{Expr}
use Rattle.c_tree.specs.declared.tree.Stmt.{Stmt}
use Rattle.c_tree.specs.declared.tree.Top.{Top}
use Rattle.c_grammar.specs.Tokens.{Tokens, token, May, within, punct}
use Rattle.c_grammar.specs.Types as types
use Rattle.c_grammar.specs.Operators.{op, simple}
use Rattle.c_grammar.specs.Expressions as e
use Rattle.c_grammar.specs.Expressions.{Spells, expr}
use Rattle.c_grammar.specs.Statements as s
use Rattle.c_grammar.specs.Statements.{Writes, entries, stmt, semicolon, paren}
use Rattle.c_grammar.specs.Units as u
use Rattle.c_grammar.specs.Units.{Units, unit, item}
use Rattle.c_grammar.specs.Accepted.{IsUnit}
use Rattle.bench_laws.proofs.Forms.{array_forms, function_forms, main_forms, call_forms, end_forms}
use Rattle.bench_laws.proofs.Trees.{InLine, Offsets, onward, i_of, x_of, set_i, below_16, step, fill, add_up, sum}
use Rattle.bench_laws.proofs.Trees.{function, next_x, low, advance, show, result, ended, functions, calls, main, tree}
use Rattle.bench_laws.proofs.Trees.{element, number, assigned}
use Rattle.bench_laws.proofs.Forms.{line_of, lines_of, tokens}

-- no construct is too deep
abbrev deep : May
deep = within 64

-- so many levels looser
abbrev raised : ℕ → ℕ → ℕ
raised zero k = k
raised (suc n) k = suc (raised n k)

-- an expression of a level is one of each looser level
lift : {may : May} {d k : ℕ} {x : Expr} {f t : Tokens} → (n : ℕ) → Spells may (expr k x) d f t
    → Spells may (expr (raised n k) x) d f t
lift zero h = h
lift (suc n) h = e.up (lift n h)

module _ (l : InLine) where
  -- EXPRESSIONS

  set_i_is : (v : ℕ) (t : Tokens) → Spells deep (expr 16 (set_i l v)) 2
      (line_of l (form.Name (codes "i") ∷ form.Mark mark.Assign ∷ form.Number v Int ∷ []) ++ t) t
  set_i_is v t = lift 1 (e.assign {a = i_of (l 0)} simple (lift 2 e.name) refl (lift 15 e.number))

  below_16_is : (t : Tokens) → Spells deep (expr 16 (below_16 l)) 2
      (line_of l (form.Name (codes "i") ∷ form.Mark mark.Less ∷ form.Number 16 Int ∷ []) ++ t) t
  below_16_is t = lift 9 (e.join {a = i_of (l 0)} (op Less) (lift 7 e.name) (lift 6 e.number))

  step_is : (t : Tokens) → Spells deep (expr 16 (step l)) 2
      (line_of l (form.Name (codes "i") ∷ form.Mark mark.Assign ∷ form.Name (codes "i") ∷ form.Mark mark.Plus
      ∷ form.Number 1 Int ∷ []) ++ t) t
  step_is t = lift 1 (e.assign {a = i_of (l 0)} simple (lift 2 e.name) refl
      (lift 10 (e.join {a = i_of (l 2)} (op Add) (lift 5 e.name) (lift 4 e.number))))

  fill_is : (t : Tokens) → Spells deep (expr 16 (fill l)) 3
      (line_of l (form.Name (codes "a") ∷ form.Mark mark.LeftBracket ∷ form.Name (codes "i")
      ∷ form.Mark mark.RightBracket
      ∷ form.Mark mark.Assign ∷ form.Name (codes "x") ∷ form.Mark mark.Plus ∷ form.Name (codes "i") ∷ []) ++ t) t
  fill_is t = lift 1 (e.assign {a = element (l 0) (i_of (l 2))} simple (lift 2 (e.element refl (lift 16 e.name))) refl
      (lift 10 (e.join {a = x_of (l 5)} (op Add) (lift 5 e.name) (lift 4 e.name))))

  add_up_is : (t : Tokens) → Spells deep (expr 16 (add_up l)) 3
      (line_of l (form.Name (codes "a") ∷ form.Mark mark.LeftBracket ∷ form.Name (codes "i")
      ∷ form.Mark mark.RightBracket
      ∷ form.Mark mark.Assign ∷ form.Name (codes "a") ∷ form.Mark mark.LeftBracket ∷ form.Name (codes "i")
      ∷ form.Mark mark.RightBracket ∷ form.Mark mark.Plus ∷ form.Name (codes "a") ∷ form.Mark mark.LeftBracket
      ∷ form.Name (codes "i") ∷ form.Mark mark.Minus ∷ form.Number 1 Int ∷ form.Mark mark.RightBracket ∷ []) ++ t) t
  add_up_is t = lift 1 (e.assign {a = element (l 0) (i_of (l 2))} simple
      (lift 2 (e.element refl (lift 16 e.name))) refl
      (lift 10 (e.join {a = element (l 5) (i_of (l 7))} (op Add) (lift 5 (e.element refl (lift 16 e.name)))
      (lift 4 (e.element refl (lift 11 (e.join {a = i_of (l 12)} (op Subtract) (lift 5 e.name)
      (lift 4 e.number))))))))

  sum_is : (k : ℕ) (t : Tokens) → Spells deep (expr 16 (sum l k)) 2
      (line_of l (form.Name (codes "a") ∷ form.Mark mark.LeftBracket ∷ form.Number 15 Int
      ∷ form.Mark mark.RightBracket
      ∷ form.Mark mark.Plus ∷ form.Number k Int ∷ []) ++ t) t
  sum_is k t = lift 11 (e.join {a = element (l 0) (number (l 2) 15)} (op Add)
      (lift 5 (e.element refl (lift 16 e.number)))
      (lift 4 e.number))

  advance_is : (k : ℕ) (t : Tokens) → Spells deep (expr 16 (assigned (l 0) (l 1) (x_of (l 0)) (next_x (onward 2 l)
      k))) 2
      (line_of l (form.Name (codes "x") ∷ form.Mark mark.Assign ∷ form.Name (102 ∷ decimal k)
      ∷ form.Mark mark.LeftParen
      ∷ form.Name (codes "x") ∷ form.Mark mark.RightParen ∷ form.Mark mark.Percent ∷ form.Number 1000 Int ∷ []) ++ t)
      t
  advance_is k t = lift 1 (e.assign {a = x_of (l 0)} simple (lift 2 e.name) refl
      (lift 11 (e.join (op Remainder) (lift 4 (e.call refl (e.some (e.last (lift 15 e.name))))) (lift 3 e.number))))

  low_is : (t : Tokens) → Spells deep (expr 4 (low l)) 3
      (line_of l (form.Mark mark.LeftParen ∷ form.Key key.Int ∷ form.Mark mark.RightParen ∷ form.Mark mark.LeftParen
      ∷ form.Name (codes "x") ∷ form.Mark mark.Percent ∷ form.Number 26 Int ∷ form.Mark mark.RightParen ∷ []) ++ t) t
  low_is t = lift 1 (e.cast refl types.int (lift 3 (e.group refl
      (lift 12 (e.join {a = x_of (l 4)} (op Remainder) (lift 4 e.name) (lift 3 e.number))))))

  result_is : (t : Tokens) → Spells deep (expr 16 (result l)) 2
      (line_of l (form.Mark mark.LeftParen ∷ form.Key key.Int ∷ form.Mark mark.RightParen
      ∷ form.Name (codes "x") ∷ []) ++ t) t
  result_is t = lift 13 (e.cast refl types.int (lift 3 e.name))

-- STATEMENTS

-- a letter is written
show_is : (l : InLine) (t : Tokens) → Writes deep (stmt false (show l)) 2
    (line_of l (form.Name (codes "putchar") ∷ form.Mark mark.LeftParen ∷ form.Number 65 Int ∷ form.Mark mark.Plus
    ∷ form.Mark mark.LeftParen ∷ form.Key key.Int ∷ form.Mark mark.RightParen ∷ form.Mark mark.LeftParen
    ∷ form.Name (codes "x") ∷ form.Mark mark.Percent ∷ form.Number 26 Int ∷ form.Mark mark.RightParen
    ∷ form.Mark mark.RightParen ∷ form.Mark mark.Semicolon ∷ []) ++ t) t
show_is l t = s.plain (lift 16 (e.call refl (e.some (e.last
    (lift 10 (e.join {a = number (l 2) 65} (op Add) (lift 5 e.number) (low_is (onward 4 l) _)))))))

-- FUNCTIONS

-- function k, and what follows it
function_is : (l : InLine) (k : ℕ) (t : Tokens)
    → Units deep (item (function l k ∷ [])) (line_of l (function_forms k) ++ t) t
function_is l k t =
    u.a_function (u.typed types.long)
    (u.definition (u.some_params (u.last_param (u.param_is types.long u.labelled u.no_brackets)))
    (s.go (s.entry_local refl (s.declaration types.long (s.last_decl s.bare)))
    (s.go (s.entry_stmt (s.inner_is refl (s.for (s.init_plain (s.given semicolon (set_i_is (onward 12 l) 0 _)))
    (s.given semicolon (below_16_is (onward 16 l) _)) (s.given paren (step_is (onward 20 l) _))
    (s.inner_is refl (s.plain (fill_is (onward 26 l) _))))))
    (s.go (s.entry_stmt (s.inner_is refl (s.for (s.init_plain (s.given semicolon (set_i_is (onward 37 l) 1 _)))
    (s.given semicolon (below_16_is (onward 41 l) _)) (s.given paren (step_is (onward 45 l) _))
    (s.inner_is refl (s.plain (add_up_is (onward 51 l) _))))))
    (s.go (s.entry_stmt (s.inner_is refl (s.return (s.given semicolon (sum_is (onward 69 l) k _)))))
    s.stop)))))

-- the call of function k, and what follows it
call_is : (l : InLine) (k : ℕ) (ss : List Stmt) (r t : Tokens) → Writes deep (entries ss) 1 r t
    → Writes deep (entries (advance l k ∷ show (onward 9 l) ∷ ss)) 1 (line_of l (call_forms k) ++ r) t
call_is l k ss r t h =
    s.go (s.entry_stmt (s.inner_is refl (s.plain (advance_is l k _))))
    (s.go (s.entry_stmt (s.inner_is refl (show_is (onward 9 l) _))) h)

-- the end of main
end_is : (l : InLine) (t : Tokens) → Writes deep (entries (ended l)) 1 (line_of l end_forms ++ t) t
end_is l t = s.go (s.entry_stmt (s.inner_is refl (s.return (s.given semicolon (result_is (onward 1 l) _))))) s.stop

-- the calls below k, and what follows them
calls_are : (o : ℕ → InLine) (k : ℕ) (ss : List Stmt) (r t : Tokens) → Writes deep (entries ss) 1 r t
    → Writes deep (entries (calls o k ++ ss)) 1 (lines_of call_forms o k ++ r) t
calls_are o zero ss r t h = h
calls_are o (suc k) ss r t h =
    let two = advance (o k) k ∷ show (onward 9 (o k)) ∷ [] in
    subst (λ (xs : List Stmt). Writes deep (entries xs) 1 (lines_of call_forms o (suc k) ++ r) t)
    (sym (append_assoc (calls o k) two ss))
    (subst (λ (ts : Tokens). Writes deep (entries (calls o k ++ (two ++ ss))) 1 ts t)
    (sym (append_assoc (lines_of call_forms o k) (line_of (o k) (call_forms k)) r))
    (calls_are o k (two ++ ss) (line_of (o k) (call_forms k) ++ r) t
    (call_is (o k) k ss r t h)))

-- main
main_is : (o : Offsets) (n : ℕ) → Units deep (unit (main o n ∷ []))
    (line_of o.main main_forms ++ (lines_of call_forms o.calls n ++ line_of o.ending end_forms)) []
main_is o n =
    u.last_item (u.a_function (u.typed types.int) (u.definition u.void_params
    (s.go (s.entry_local refl (s.declaration types.long (s.last_decl (s.value (lift 15 e.number)))))
    (calls_are o.calls n (ended o.ending) (line_of o.ending end_forms) []
    (subst (λ (ts : Tokens). Writes deep (entries (ended o.ending)) 1 ts [])
    (append_nil (line_of o.ending end_forms)) (end_is o.ending []))))))
  where
    append_nil : (ts : Tokens) → ts ++ [] ≡ ts
    append_nil [] = refl
    append_nil (t ∷ ts) = ap (λ (us : Tokens). t ∷ us) (append_nil ts)

-- the functions below n, and what follows them
functions_are : (o : ℕ → InLine) (n : ℕ) (xs : List Top) (r : Tokens) → Units deep (unit xs) r []
    → Units deep (unit (functions o n ++ xs)) (lines_of function_forms o n ++ r) []
functions_are o zero xs r h = h
functions_are o (suc n) xs r h =
    subst (λ (ys : List Top). Units deep (unit ys) (lines_of function_forms o (suc n) ++ r) [])
    (sym (append_assoc (functions o n) (function (o n) n ∷ []) xs))
    (subst (λ (ts : Tokens). Units deep (unit (functions o n ++ (function (o n) n ∷ xs))) ts [])
    (sym (append_assoc (lines_of function_forms o n) (line_of (o n) (function_forms n)) r))
    (functions_are o n (function (o n) n ∷ xs) (line_of (o n) (function_forms n) ++ r)
    (u.next_item (function_is (o n) n r) h)))

-- the whole unit
pub is_unit : (o : Offsets) (n : ℕ) → IsUnit (tokens o n) (tree o n)
is_unit o n =
    u.next_item u.include
    (u.next_item (u.some_globals types.long (u.last_global (u.sized (u.some_size (lift 14 e.number)))))
    (functions_are o.functions n (main o n ∷ []) _ (main_is o n)))
