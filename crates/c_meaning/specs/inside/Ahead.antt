-- What is ahead of the evaluator: what a list of what waits makes of what comes to it.
use Rattle.std.specs.Prelude.{◌≡◌, Bool, true, false, List, [], ◌∷◌, ◌++◌}
use Rattle.c_tree.specs.declared.TypedProgram.{TypedProgram}
use Rattle.c_meaning_spec.specs.declared.Signal.{Signal}
use Rattle.c_meaning_spec.specs.declared.Halt.{Halt}
use Rattle.c_meaning_spec.specs.State.{State, Result, Go, Over, want}
use Rattle.c_meaning_spec.specs.inside.State.{then}
use Rattle.c_meaning_spec.specs.Task.{Task, Turn, element, row_element, after_row}
use Rattle.c_meaning_spec.specs.Call.{left, arguments}
use Rattle.c_meaning_spec.specs.Expression.{converting, unary, operated, after_left, truth}
use Rattle.c_meaning_spec.specs.Expression.{after_and, after_or, valued, after_choice, after_comma}
use Rattle.c_meaning_spec.specs.Expression.{assigned, compounded, assign_element, bump_element}
use Rattle.c_meaning_spec.specs.Expression.{assign_row, assign_after_row, bump_row, bump_after_row}
use Rattle.c_meaning_spec.specs.Statement.{going_on, sequence, dropped, initialised, after_if, locals}
use Rattle.c_meaning_spec.specs.Statement.{after_body, after_test, returning, after_switch}
use Rattle.c_meaning_spec.specs.Statement.{after_sections}
use Rattle.c_meaning_spec.specs.Telling.{placed, through, calling, telling}
use Rattle.c_meaning.specs.inside.Follow.{Waits, WFollow, WPlace, WCall}
use Rattle.c_meaning.specs.inside.Follow.{Follow, FConverting, FUnary, FElement, FArgument, FLeft, FRight}
use Rattle.c_meaning.specs.inside.Follow.{FAnd, FOr, FTruth, FValued, FChoice, FComma, FAssignElement}
use Rattle.c_meaning.specs.inside.Follow.{FAssigned, FCompounded, FBumpElement, FCaller, FDropped}
use Rattle.c_meaning.specs.inside.Follow.{FInitialised, FSequence, FIf, FThenTurn, FLocals, FTest, FBody}
use Rattle.c_meaning.specs.inside.Follow.{FAfterRow, FRowElement, FAssignAfterRow, FAssignRow}
use Rattle.c_meaning.specs.inside.Follow.{FBumpAfterRow, FBumpRow, FSwitch, FSections, FReturning}

-- what is to be done next
pub data Next : Type 0 where
  ToDo : (t : Task) → Next
  Given : (v : Signal) → Next
  Ended : (why : Halt) → Next

-- what a frame makes of what comes to it
abbrev pub back_of : TypedProgram → Follow → Signal → State → Result
back_of P (FConverting to) v s = converting to v s
back_of P (FUnary op k) v s = unary op k v s
back_of P (FElement p) v s = element p v s
back_of P (FAfterRow p index) v s = after_row (telling P) p index v s
back_of P (FRowElement p i) v s = row_element p i v s
back_of P (FArgument token f rest done) v s = want v s
    (λ w. arguments (calling token (telling P)) P f rest (done ++ w ∷ []) s)
back_of P (FLeft op k right) v s = after_left (telling P) op k right v s
back_of P (FRight op k a) v s = operated op k a v s
back_of P (FAnd right) v s = after_and (telling P) right v s
back_of P (FOr right) v s = after_or (telling P) right v s
back_of P FTruth v s = truth v s
back_of P FValued v s = valued v s
back_of P (FChoice one other) v s = after_choice (telling P) one other v s
back_of P (FComma right) v s = after_comma (telling P) right v s
back_of P (FAssignElement op to at p right) v s = assign_element (telling P) op to at p right v s
back_of P (FAssignAfterRow op to at p index right) v s =
    assign_after_row (telling P) op to at p index right v s
back_of P (FAssignRow op to at p i right) v s = assign_row (telling P) op to at p i right v s
back_of P (FAssigned x) v s = assigned x v s
back_of P (FCompounded op to at x old) v s = compounded op to at x old v s
back_of P (FBumpElement op k p) v s = bump_element op k p v s
back_of P (FBumpAfterRow op k p index) v s = bump_after_row (telling P) op k p index v s
back_of P (FBumpRow op k p i) v s = bump_row op k p i v s
back_of P (FCaller is_main scalars count base room) v s =
    left is_main scalars count base room v s
back_of P FDropped v s = dropped v s
back_of P (FInitialised i) v s = initialised i v s
back_of P (FSequence rest) v s = going_on v s (sequence (telling P) rest)
back_of P (FIf one other) v s = after_if (telling P) one other v s
back_of P (FThenTurn test post body) v s = telling P (Turn test post body) s
back_of P (FLocals rest test post body) v s = going_on v s (locals (telling P) rest test post body)
back_of P (FTest test post body) v s = after_test (telling P) test post body v s
back_of P (FBody test post body) v s = after_body (telling P) test post body v s
back_of P (FSwitch xs) v s = after_switch (telling P) xs v s
back_of P (FSections rest) v s =
    then (going_on v s (sequence (telling P) rest)) after_sections
back_of P FReturning v s = returning v s

-- what that which waits makes of what a part comes to
abbrev pub back_on : TypedProgram → Waits → Result → Result
back_on P (WFollow f) r = then r (back_of P f)
back_on P (WPlace token) r = placed token r
back_on P (WCall token) r = through token r

-- what a list of what waits makes of it
unfoldable pub unwind_on : TypedProgram → List Waits → Result → Result
unwind_on P [] r = r
unwind_on P (x ∷ xs) r = unwind_on P xs (back_on P x r)

-- what is ahead of what is to be done next, before a list of what waits
abbrev pub ahead_next : TypedProgram → Next → List Waits → State → Result
ahead_next P (ToDo t) xs s = unwind_on P xs (telling P t s)
ahead_next P (Given v) xs s = unwind_on P xs (Go v s)
ahead_next P (Ended why) xs s = unwind_on P xs (Over why s)

-- whether a list has nothing
abbrev pub is_empty : {A : Type 0} → List A → Bool
is_empty [] = true
is_empty (x ∷ xs) = false

-- whether nothing is left to be done
abbrev pub is_over : Next → List Waits → Bool
is_over (ToDo t) xs = false
is_over (Given v) xs = is_empty xs
is_over (Ended why) xs = is_empty xs

-- the result that is reached
abbrev pub IsReached : Next → State → Result → Type 0
IsReached (ToDo t) s r = ⊥
IsReached (Given v) s r = r ≡ Go v s
IsReached (Ended why) s r = r ≡ Over why s
