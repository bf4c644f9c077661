-- What flat statements do, for a number of turns. A turn is one statement executed; a call is
-- priced at ten.
use Rattle.std.specs.Prelude.{ℕ, zero, suc, ◌+◌, ◌-◌, ◌%◌, ◌^◌, Bool, cond, nat_eq, nat_lt, List}
use Rattle.std.specs.Prelude.{[], ◌∷◌, ◌++◌, Option, Some, None}
use Rattle.ir_forms.specs.declared.flat.Arg.{Arg}
use Rattle.ir_forms.specs.declared.flat.Arg.TheVariants.{Const, Var}
use Rattle.ir_forms.specs.inside.FlatCode.{Step, Let, Frame, Load, Save, Call, Put, Get, If, Loop, Break}
use Rattle.ir_forms.specs.inside.FlatCode.{Continue, Return, Halt, Code, Nop, ◌▹◌}
use Rattle.ir_forms.specs.inside.Cells.{Memory, Checks, breach, apply, load, save}

-- how a flat run stands in one active call; what its callers keep is with them
pub record State : Type 0 where
  -- the variables of the active call; none where one was not set since the call began
  pub vars : ℕ → Option ℕ
  pub memory : Memory
  -- the bytes that are not read yet, and those that were put out
  pub input : List ℕ
  pub output : List ℕ
  -- the turns of loops and the calls that were begun
  pub rounds : ℕ

-- the address of the active call's arrays, and the bytes that the active frames take
pub record Env : Type 0 where
  pub arrays : ℕ
  pub used : ℕ

-- How a run stops at once, from any depth of calls: there is no room for a frame, and this was put out;
-- or it is ended with a value, in a state that has turns left.
pub data How : Type 0 where
  NoRoom : (output : List ℕ) → How
  Exited : (value : ℕ) (s : State) (m : ℕ) → How

-- a state with the turns that are left: it goes on, leaves a loop, begins a loop's next part, or
-- returns; or the run ends: at once, with no turn left, or by a breach
pub data Res : Type 0 where
  Gone : (s : State) (m : ℕ) → Res
  Broke : (s : State) (m : ℕ) → Res
  Again : (s : State) (m : ℕ) → Res
  Gave : (value : Option ℕ) (s : State) (m : ℕ) → Res
  Halts : (how : How) → Res
  Unfinished : (output : List ℕ) (rounds : ℕ) → Res
  Wild : Res

-- calls nest too deep: there is no room for a frame
abbrev pub TooDeep : List ℕ → Res
TooDeep out = Halts (NoRoom out)

-- the run is out of turns: what it has put out, and the rounds that it has begun
abbrev pub unfinished : State → Res
unfinished s = Unfinished s.output s.rounds

-- a run that goes on with no turn left has not ended, also where no code is left
abbrev pub settle : State → ℕ → Res
settle s zero = unfinished s
settle s (suc m) = Gone s (suc m)

-- goes on with one turn less, where one is left
abbrev pub turn : State → ℕ → (ℕ → Res) → Res
turn s zero next = unfinished s
turn s (suc m) next = next m

-- the price of a call
abbrev pub ten_turns : State → ℕ → (ℕ → Res) → Res
ten_turns s m next = cond (nat_lt m 10) (unfinished s) (next (m - 10))

-- goes on with what is there; where a breach left nothing, the run ends as wild
abbrev pub must : {A : Type 0} → Option A → (A → Res) → Res
must None next = Wild
must (Some a) next = next a

-- what follows a statement is done only where the statement ends by going on
abbrev pub then_run : Res → (State → ℕ → Res) → Res
then_run (Gone s m) next = next s m
then_run (Broke s m) next = Broke s m
then_run (Again s m) next = Again s m
then_run (Gave v s m) next = Gave v s m
then_run (Halts how) next = Halts how
then_run (Unfinished out r) next = Unfinished out r
then_run Wild next = Wild

-- VARIABLES

-- the word of a variable; where it is not set, a breach of tameness, or 0 where that is not checked
abbrev pub if_set : Bool → Option ℕ → Option ℕ
if_set tame None = breach tame 0
if_set tame (Some w) = Some w

-- the word of an argument: a constant, or what its variable was set to
abbrev pub read : Checks → State → Arg → Option ℕ
read c s (Const w) = Some w
read c s (Var v) = if_set c.tame (s.vars v)

-- a word before others, where all are there
abbrev pub beside : Option ℕ → Option (List ℕ) → Option (List ℕ)
beside (Some w) (Some ws) = Some (w ∷ ws)
beside (Some w) None = None
beside None ws = None

-- the words of a call's arguments, from the first; none where one of them is a breach
abbrev pub read_all : Checks → State → List Arg → Option (List ℕ)
read_all c s [] = Some []
read_all c s (a ∷ args) = beside (read c s a) (read_all c s args)

-- variables after one of them was set, or unset where the word is none
abbrev pub var_put : (ℕ → Option ℕ) → ℕ → Option ℕ → ℕ → Option ℕ
var_put vars to w v = cond (nat_eq v to) w (vars v)

-- a statement's result in its variable
abbrev pub with_var : State → ℕ → ℕ → State
with_var s to w = record s { vars = var_put s.vars to (Some w) }

-- what a save leaves in data memory
abbrev pub with_memory : State → Memory → State
with_memory s m = record s { memory = m }

-- a byte put out, behind those before it
abbrev pub with_output : State → ℕ → State
with_output s b = record s { output = s.output ++ b ∷ [] }

-- one more turn of a loop, or one more call, is begun
abbrev pub counted : State → State
counted s = record s { rounds = suc s.rounds }

-- the next byte of the input, or -1 at its end
abbrev pub with_next : State → ℕ → List ℕ → State
with_next s to [] = with_var s to (2 ^ 64 - 1)
with_next s to (b ∷ rest) = record (with_var s to b) { input = rest }

-- LOOPS

-- a break or a continue in the part after the body is in no loop
abbrev pub after_post : Res → (State → ℕ → Res) → Res
after_post (Gone s m) next = next s m
after_post (Broke s m) next = Wild
after_post (Again s m) next = Wild
after_post (Gave v s m) next = Gave v s m
after_post (Halts how) next = Halts how
after_post (Unfinished out r) next = Unfinished out r
after_post Wild next = Wild

-- A break leaves the loop. The body's end and a continue lead to the part after the body, and from
-- there to the next turn.
abbrev pub after_body : Res → (State → ℕ → Res) → (State → ℕ → Res) → Res
after_body (Gone s m) post next = after_post (post s m) next
after_body (Broke s m) post next = settle s m
after_body (Again s m) post next = after_post (post s m) next
after_body (Gave v s m) post next = Gave v s m
after_body (Halts how) post next = Halts how
after_body (Unfinished out r) post next = Unfinished out r
after_body Wild post next = Wild

-- at most j turns of a loop; each takes one of the run's
abbrev pub loop_turns : ℕ → (State → ℕ → Res) → (State → ℕ → Res) → State → ℕ → Res
loop_turns zero body post s m = unfinished s
loop_turns (suc j) body post s m =
    turn s m (λ m. after_body (body (counted s) m) post (loop_turns j body post))

-- CALLS

-- what a call does: the function, its arguments, the bytes that the active frames take, and the
-- caller's state
abbrev pub Calls : Type 0
Calls = ℕ → List ℕ → ℕ → State → ℕ → Res

-- what a call gives goes to its variable, if it has one
abbrev pub result_put : (ℕ → Option ℕ) → Option ℕ → Option ℕ → ℕ → Option ℕ
result_put vars None w = vars
result_put vars (Some to) w = var_put vars to w

-- the caller goes on: what is not kept is unset, and so is the result's variable where there is no
-- result
abbrev pub back_in : State → (ℕ → Bool) → Option ℕ → Option ℕ → State → State
back_in s kept to w t = record t { vars = result_put (λ v. cond (kept v) (s.vars v) None) to w }

-- a break or a continue that leaves a function is in no loop
abbrev pub after_call : State → (ℕ → Bool) → Option ℕ → Res → Res
after_call s kept to (Gone t m) = settle (back_in s kept to None t) m
after_call s kept to (Broke t m) = Wild
after_call s kept to (Again t m) = Wild
after_call s kept to (Gave w t m) = settle (back_in s kept to w t) m
after_call s kept to (Halts how) = Halts how
after_call s kept to (Unfinished out r) = Unfinished out r
after_call s kept to Wild = Wild

-- STATEMENTS

-- the active call ends, with the word of its value if it gives one
abbrev pub return_of : Checks → State → ℕ → Option Arg → Res
return_of c s m None = Gave None s m
return_of c s m (Some x) = must (read c s x) (λ w. Gave (Some w) s m)

-- where the run has ended no variable is set
abbrev pub without_vars : State → State
without_vars s = record s { vars = λ v. None }

-- the second where the word is 0
abbrev pub chosen : ℕ → Res → Res → Res
chosen zero one other = other
chosen (suc w) one other = one

abbrev mutual
  -- What one statement comes to in the active call, within m turns. A statement of parts takes a
  -- turn itself, and a loop one for each time that it goes round.
  pub act : Checks → Calls → Env → Step → State → ℕ → Res
  act c call e (Let to op x y) s m = turn s m (λ m.
      must (read c s x) (λ a. must (read c s y)
      (λ b. must (apply c op a b) (λ w. settle (with_var s to w) m))))
  act c call e (Frame to at) s m = turn s m (λ m. settle (with_var s to (e.arrays + at)) m)
  act c call e (Load to op x) s m = turn s m (λ m.
      must (read c s x) (λ a. must (load c op s.memory a) (λ w. settle (with_var s to w) m)))
  act c call e (Save op x y) s m = turn s m (λ m.
      must (read c s x) (λ a. must (read c s y)
      (λ v. must (save c op s.memory a v) (λ mem. settle (with_memory s mem) m))))
  act c call e (Call f xs to kept) s m = ten_turns s m (λ m.
      must (read_all c s xs) (λ ws. after_call s kept to (call f ws e.used (counted s) m)))
  act c call e (Put x) s m =
      turn s m (λ m. must (read c s x) (λ v. settle (with_output s (v % 256)) m))
  act c call e (Get to) s m = turn s m (λ m. settle (with_next s to s.input) m)
  act c call e (If x one other) s m = turn s m (λ m.
      must (read c s x) (λ v. chosen v (exec c call e one s m) (exec c call e other s m)))
  act c call e (Loop body post) s m =
      loop_turns (suc m) (exec c call e body) (exec c call e post) s m
  act c call e Break s m = turn s m (λ m. Broke s m)
  act c call e Continue s m = turn s m (λ m. Again s m)
  act c call e (Return x) s m = turn s m (λ m. return_of c s m x)
  act c call e (Halt x) s m =
      turn s m (λ m. must (read c s x) (λ w. Halts (Exited w (without_vars s) m)))

  -- what statements in order come to, within m turns
  pub exec : Checks → Calls → Env → Code → State → ℕ → Res
  exec c call e Nop s m = settle s m
  exec c call e (st ▹ rest) s m = then_run (act c call e st s m) (exec c call e rest)
