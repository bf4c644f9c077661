-- Statements: each spends a step, and control goes on, or leaves a loop or the function.
use Rattle.std.specs.Prelude.{ℕ, ◌+◌, ◌++◌, cond, nat_eq, List, [], ◌∷◌, Option, Some, None, slice_get, slice_set}
use Rattle.std.specs.Prelude.{length, replicate}
use Rattle.c_tree.specs.declared.Place.{Place}
use Rattle.c_tree.specs.declared.Place.TheVariants.{Scalar, Array}
use Rattle.c_tree.specs.TypedTrees.{Level, Beginning}
use Rattle.c_tree.specs.declared.TypedExpr.{TypedExpr}
use Rattle.c_tree.specs.declared.TypedStmt.{TypedStmt}
use Rattle.c_tree.specs.declared.TypedForInit.{out-TypedForInit}
use Rattle.c_tree.specs.declared.TypedForInit.TheOpen.{Declare, Plain, Compound, If}
use Rattle.c_tree.specs.declared.TypedForInit.TheOpen.{While, Do, For, Switch, Break, Continue}
use Rattle.c_tree.specs.declared.TypedForInit.TheOpen.{Return}
use Rattle.c_tree.specs.declared.TypedSection.{TypedSection}
use Rattle.c_tree.specs.declared.TypedForInit.TheOpen as init
use Rattle.c_meaning_spec.specs.declared.signal.Signal.{Signal}
use Rattle.c_meaning_spec.specs.declared.signal.Signal.TheVariants.{Nothing, Breaks, Continues, Returns}
use Rattle.c_meaning_spec.specs.declared.signal.Halt.TheVariants.{Faults}
use Rattle.c_meaning_spec.specs.declared.fault.Fault.TheVariants.{IllFormed}
use Rattle.c_meaning_spec.specs.declared.signal.Object.TheVariants.{InScalar}
use Rattle.c_meaning_spec.specs.State.{State, Result, Go, Over, spend, want, cell, written, store}
use Rattle.c_meaning_spec.specs.inside.State.{then}
use Rattle.c_meaning_spec.specs.Word.{is_false}
use Rattle.c_meaning_spec.specs.Task.{Parts, Of, Run, Turn}

-- what follows where the statement before gave nothing
abbrev pub going_on : Signal → State → (State → Result) → Result
going_on Nothing s next = next s
going_on v s next = Go v s

-- statements one after another
abbrev pub sequence : Parts → List TypedStmt → State → Result
sequence rec [] s = Go Nothing s
sequence rec (st ∷ rest) s = then (rec (Run st) s) (λ v s. going_on v s (sequence rec rest))

-- an expression statement takes no value
abbrev pub dropped : Signal → State → Result
dropped v s = Go Nothing s

-- DECLARATIONS

-- a local's initialiser is stored
abbrev pub initialised : ℕ → Signal → State → Result
initialised i v s = want v s (λ w. then (store s (InScalar i) w) dropped)

-- the declaration of a scalar: unset, and then initialised
abbrev pub unset : Parts → ℕ → Option TypedExpr → Option (Option ℕ) → State → Result
unset rec i e None s = Over (Faults IllFormed) s
unset rec i None (Some c) s = Go Nothing (written s (InScalar i) None)
unset rec i (Some e) (Some c) s = then (rec (Of e) (written s (InScalar i) None)) (initialised i)

-- the declaration of an array: its elements are unset
abbrev pub unset_row : ℕ → Option (List (Option ℕ)) → State → Result
unset_row a None s = Over (Faults IllFormed) s
unset_row a (Some row) s = Go Nothing (record s {
  arrays = slice_set s.arrays a
      (replicate (length row) None);
})

-- a local is unset each time its declaration is reached, before its initialiser
abbrev pub declare : Parts → Place → Option TypedExpr → State → Result
declare rec (Scalar i) e s = unset rec i e (cell s (InScalar i)) s
declare rec (Array a) None s = unset_row (s.base + a) (slice_get s.arrays (s.base + a)) s
declare rec _ e s = Over (Faults IllFormed) s

-- CHOICES AND LOOPS

-- a statement, if there is one
abbrev pub run_if : Parts → Option TypedStmt → State → Result
run_if rec None s = Go Nothing s
run_if rec (Some st) s = rec (Run st) s

-- the branch that the test chooses
abbrev pub after_if : Parts → TypedStmt → Option TypedStmt → Signal → State → Result
after_if rec one other v s = want v s (λ w. cond (is_false w) (run_if rec other s)
    (rec (Run one) s))

-- an expression, if there is one, without its value, and then a loop's next turn
abbrev pub then_turn : Parts → Option TypedExpr → Option TypedExpr → Option TypedExpr → TypedStmt
    → State → Result
then_turn rec None test post body s = rec (Turn test post body) s
then_turn rec (Some e) test post body s = then (rec (Of e) s) (λ v s. rec (Turn test post body) s)

-- the declarations of a for, and then its first turn
abbrev pub locals : Parts → List TypedStmt → Option TypedExpr → Option TypedExpr → TypedStmt → State
    → Result
locals rec [] test post body s = rec (Turn test post body) s
locals rec (st ∷ rest) test post body s =
    then (rec (Run st) s) (λ v s. going_on v s (locals rec rest test post body))

-- the first part of a for, and then its first turn
abbrev pub begin : Parts → Beginning → Option TypedExpr → Option TypedExpr → TypedStmt → State → Result
begin rec init.Nothing test post body s = rec (Turn test post body) s
begin rec (init.First e) test post body s = then_turn rec (Some e) test post body s
begin rec (init.Locals all) test post body s = locals rec all test post body s

-- what follows the body of a loop: the next turn, the end of the loop, or that of the function
abbrev pub after_body : Parts → Option TypedExpr → Option TypedExpr → TypedStmt → Signal → State
    → Result
after_body rec test post body Nothing s = then_turn rec post test post body s
after_body rec test post body Continues s = then_turn rec post test post body s
after_body rec test post body Breaks s = Go Nothing s
after_body rec test post body v s = Go v s

-- the body where the test holds
abbrev pub after_test : Parts → Option TypedExpr → Option TypedExpr → TypedStmt → Signal → State
    → Result
after_test rec test post body v s =
    want v s (λ w. cond (is_false w) (Go Nothing s)
    (then (rec (Run body) s) (after_body rec test post body)))

-- a loop without a test has no other end than its body
abbrev pub turn : Parts → Option TypedExpr → Option TypedExpr → TypedStmt → State → Result
turn rec None post body s = then (rec (Run body) s) (after_body rec None post body)
turn rec (Some t) post body s = then (rec (Of t) s) (after_test rec (Some t) post body)

-- SWITCHES

-- a label, none for `default`, and the statements that run from it on
pub record Target : Type 0 where
  -- the word of a case
  pub label : Option ℕ
  -- to the end of the switch's braces, through the sections behind
  pub statements : List TypedStmt

-- the statements of sections, one behind another
abbrev pub bodies : List TypedSection → List TypedStmt
bodies [] = []
bodies (x ∷ xs) = x.body ++ bodies xs

-- the labels before the same statements
abbrev pub leading : List (Option ℕ) → List TypedStmt → List Target
leading [] all = []
leading (l ∷ ls) all = (record { label = l; statements = all }) ∷ leading ls all

-- the labels of sections in the order of the text, each with the statements from its section on
abbrev pub targets : List TypedSection → List Target
targets [] = []
targets (x ∷ xs) = leading x.labels (bodies (x ∷ xs)) ++ targets xs

-- a `break` ends the switch
abbrev pub after_sections : Signal → State → Result
after_sections Breaks s = Go Nothing s
after_sections v s = Go v s

-- the statements from a label on
abbrev pub run_from : Parts → List TypedStmt → State → Result
run_from rec all s = then (sequence rec all s) after_sections

-- a case label costs a step, and is the one or is followed by those behind it
abbrev pub compared_by : ℕ → Option ℕ → (State → Result) → (State → Result) → (State → Result)
    → State → Result
compared_by w None here there fallback s = fallback s
compared_by w (Some n) here there fallback s = spend s (λ s. cond (nat_eq w n) (here s) (there s))

-- the word is compared with the case labels in the order of the text, up to the first that is equal;
-- where none is, control goes on at `default`, or behind the switch
abbrev pub compared : Parts → ℕ → List Target → List TypedStmt → State → Result
compared rec w [] other s = run_from rec other s
compared rec w (t ∷ ts) other s =
    compared_by w t.label (run_from rec t.statements) (compared rec w ts other)
    (compared rec w ts t.statements) s

-- the labels, by the value of the test
abbrev pub after_switch : Parts → List TypedSection → Signal → State → Result
after_switch rec xs v s = want v s (λ w. compared rec w (targets xs) [] s)

-- STATEMENTS

-- a return of the value of an expression
abbrev pub returning : Signal → State → Result
returning v s = want v s (λ w. Go (Returns (Some w)) s)

-- a statement after its step
abbrev pub begun : Parts → Level → State → Result
begun rec (Declare p e) s = declare rec p e s
begun rec (Plain None) s = Go Nothing s
begun rec (Plain (Some e)) s = then (rec (Of e) s) dropped
begun rec (Compound all) s = sequence rec all s
begun rec (If t one other) s = then (rec (Of t) s) (after_if rec one other)
begun rec (While t body) s = rec (Turn (Some t) None body) s
begun rec (Do body t) s = then (rec (Run body) s) (after_body rec (Some t) None body)
begun rec (For first test post body) s = begin rec (out-TypedForInit first) test post body s
begun rec (Switch i t xs) s = then (rec (Of t) s) (after_switch rec xs)
begun rec Break s = Go Breaks s
begun rec Continue s = Go Continues s
begun rec (Return None) s = Go (Returns None) s
begun rec (Return (Some e)) s = then (rec (Of e) s) returning

-- each statement spends its step before its parts
abbrev pub statement : Parts → Level → State → Result
statement rec st s = spend s (begun rec st)
