-- Where each number of a translation unit is a word of its type, so is each number of its typed
-- program, and each value that a global is given.
use Rattle.std.proofs.Common.{ℕ, zero, suc, ◌-◌, replicate, length, List, [], ◌∷◌, ◌++◌, arith}
use Rattle.c_tree.specs.declared.token.Kind.{Kind}
use Rattle.c_tree.specs.declared.token.Kind.TheVariants.{Char, UChar, Short, UShort, Int, UInt, Long, ULong}
use Rattle.c_tree.specs.declared.token.Kind.TheVariants as kind
use Rattle.c_tree.specs.declared.tree.ArraySize.{ArraySize}
use Rattle.c_tree.specs.declared.tree.Expr.{Expr}
use Rattle.c_tree.specs.declared.tree.Program.{Program}
use Rattle.c_tree.specs.declared.tree.Stmt.{Stmt}
use Rattle.c_tree.specs.declared.tree.StmtNode.TheVariants as node
use Rattle.c_tree.specs.declared.tree.Top.{Top}
use Rattle.c_tree.specs.declared.tree.TopNode.{TopNode}
use Rattle.c_tree.specs.declared.typed.TypedFunc.{TypedFunc}
use Rattle.c_tree.specs.declared.typed.TypedGlobal.{TypedGlobal}
use Rattle.c_tree.specs.declared.typed.TypedProgram.{TypedProgram}
use Rattle.c_tree.specs.declared.typed.TypedStmt.{TypedStmt}
use Rattle.c_tree.specs.declared.typed.TypedStmt.TheVariants as typed
use Rattle.c_constant.specs.Kinds.{IsWord}
use Rattle.c_constant.proofs.Conversions.{converted_word}
use Rattle.c_type_expr.specs.Scope.{Scope}
use Rattle.c_type.specs.declared.file_scope.FileScope.{FileScope}
use Rattle.c_type.specs.declared.state.State.{State}
use Rattle.c_type.specs.States.{nowhere}
use Rattle.c_type.specs.FileScopes.{all_values, global_names, body_entry, empty_file}
use Rattle.c_type_rules.specs.Units.{Values, RowValues, Init, Body, Item, Items, Accepts}
use Rattle.c_type_rules.specs.Units as typing
use Rattle.flat_lower_premises.specs.inside.Words.{AreWordsOf}
use Rattle.flat_lower_premises.specs.inside.Trees.{StmtHasWords, TopHasWords, UnitHasWords}
use Rattle.flat_lower_premises.specs.inside.TypedTrees.{GlobalsHaveWords, FunctionsHaveWords, ProgramHasWords}
use Rattle.flat_lower_premises.specs.inside.TypedTrees as words
use Rattle.flat_lower_premises.proofs.StatementWords.{opened, made, in_compound, types_have, all_have}

-- 0 is a word of each type
zero_word : (k : Kind) → IsWord k 0
zero_word Char = record { below = omega arith; narrow = omega arith }
zero_word UChar = record { below = omega arith; narrow = omega arith }
zero_word Short = record { below = omega arith; narrow = omega arith }
zero_word UShort = record { below = omega arith; narrow = omega arith }
zero_word Int = record { below = omega arith; narrow = omega arith }
zero_word UInt = record { below = omega arith; narrow = omega arith }
zero_word Long = record { below = omega arith; narrow = omega arith }
zero_word ULong = record { below = omega arith; narrow = omega arith }
zero_word kind.Bool = record { below = omega arith; narrow = omega arith }

zeros_have : (k : Kind) (n : ℕ) → AreWordsOf k (replicate n 0)
zeros_have k zero = tt
zeros_have k (suc n) = (zero_word k, zeros_have k n)

-- words that follow one another
words_joined : (k : Kind) (xs ys : List ℕ) → AreWordsOf k xs → AreWordsOf k ys → AreWordsOf k (xs ++ ys)
words_joined k [] ys h h' = h'
words_joined k (x ∷ xs) ys h h' = (h.0, words_joined k xs ys h.1 h')

-- the values of a global, each of which is a conversion
values_have : (G : Scope) (k : Kind) (es : List Expr) (ns : List ℕ) → Values G k es ns → AreWordsOf k ns
values_have G k _ _ typing.no_value = tt
values_have G k _ _ (typing.one_value {n = n} {es = es} {ns = ns} c v f vs) =
    (converted_word k n, values_have G k es ns vs)

-- the words of whole rows
rows_have : (G : Scope) (k : Kind) (n : ℕ) (ess : List (List Expr)) (ns : List ℕ) → RowValues G k n ess ns
    → AreWordsOf k ns
rows_have G k n _ _ typing.no_row = tt
rows_have G k n _ _ (typing.one_row {es = es} {ess = ess} {ws = ws} {ns = ns} v l vs) =
    words_joined k (ws ++ replicate (n - length es) 0) ns
    (words_joined k ws (replicate (n - length es) 0) (values_have G k es ws v) (zeros_have k (n - length es)))
    (rows_have G k n ess ns vs)

-- what a global begins with
init_has : (G : Scope) (k : Kind) (count : ℕ) (s : ArraySize) (init : List (List Expr)) (ns : List ℕ)
    → Init G k count s init ns → AreWordsOf k ns
init_has G k count _ _ _ (typing.in_list {init = init} {ns = ns} r v l) = values_have G k (all_values init) ns v
init_has G k count _ _ _ (typing.in_rows {n = n} {init = init} {ns = ns} e v l) = rows_have G k n init ns v

-- a body
body_has : (v : State) (s : Stmt) (t : TypedStmt) (u : State) → Body v s t u → StmtHasWords s
    → words.StmtHasWords t
body_has _ _ _ _ (typing.outermost {v = v} {w = u} {ss = ss} {ts = ts} d) w =
    made _ _ (typed.rolls-Compound ts) (words.compound
    (all_have nowhere v ss ts u d (in_compound (opened _ _ (node.rolls-Compound ss) w))))
body_has _ _ _ _ (typing.other {v = v} {w = u} {s = s} {t = t} h d) w = types_have nowhere v s t u d w

-- what holds of all and of one more
globals_last : (gs : List TypedGlobal) (g : TypedGlobal) → GlobalsHaveWords gs
    → AreWordsOf g.kind g.init → GlobalsHaveWords (gs ++ g ∷ [])
globals_last [] g h x = (x, tt)
globals_last (y ∷ gs) g h x = (h.0, globals_last gs g h.1 x)

functions_last : (fs : List TypedFunc) (f : TypedFunc) → FunctionsHaveWords fs
    → words.StmtHasWords f.body → FunctionsHaveWords (fs ++ f ∷ [])
functions_last [] f h x = (x, tt)
functions_last (y ∷ fs) f h x = (h.0, functions_last fs f h.1 x)

-- what a file scope holds has words
record FileHasWords (U : FileScope) : Type 0 where
  globals : GlobalsHaveWords U.globals
  functions : FunctionsHaveWords U.functions

module _ (T : List Top) where
  -- an item keeps this
  item_has : (U : FileScope) (n : TopNode) (V : FileScope) → Item T U n V → TopHasWords n
      → FileHasWords U → FileHasWords V
  item_has _ _ _ (typing.include a g p x) w i =
      record { globals = i.globals; functions = i.functions }
  item_has _ _ _ (typing.include_again a) w i = i
  item_has _ _ _ (typing.global {U = U} {k = k} {w = name} {s = s} {init = init} {n = n} {ns = ns} c a m v) w i =
      record {
        globals = globals_last U.globals _ i.globals (init_has (global_names s k name U) k n s init ns v);
        functions = i.functions;
      }
  item_has _ _ _ (typing.prototype k a) w i = record { globals = i.globals; functions = i.functions }
  item_has _ _ _ (typing.definition {U = U} {given = given} {w = name} {params = params}
      {c = c} {s = s} {t = t} {v = v} k a b) w i =
      record {
        globals = i.globals;
        functions = functions_last U.functions _ i.functions
            (body_has (body_entry c name given params U.names) s t v b w);
      }

  -- so do several
  items_have : (U : FileScope) (ts : List Top) (V : FileScope) → Items T U ts V → UnitHasWords ts
      → FileHasWords U → FileHasWords V
  items_have _ _ _ typing.no_item w i = i
  items_have _ _ _ (typing.one_item {U = U} {V = V} {W = W} {t = t} {ts = ts} d ds) w i =
      items_have V ts W ds w.1 (item_has U t.node V d w.0 i)

-- a file scope of nothing
start : FileHasWords empty_file
start = record { globals = tt; functions = tt }

-- the typed program of an accepted unit
pub program_has : (p : Program) (t : TypedProgram) → UnitHasWords p.items → Accepts p t
    → ProgramHasWords t
program_has _ _ w (typing.accepts {p = p} {U = U} is m) =
    let i = items_have p.items empty_file p.items U is w start in
    record { globals = i.globals; functions = i.functions }
