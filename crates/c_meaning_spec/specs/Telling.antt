-- Where an evaluation stops: the meaning of a program once more, with places. What it comes to is the same but for what
-- is told (the law `TellsTheSame`).
use Rattle.std.specs.Prelude.{ℕ, zero, suc, cond, nat_lt, List, [], ◌∷◌, ◌++◌, length}
use Rattle.std.specs.Prelude.{Option, Some, None}
use Rattle.c_tree.specs.declared.Callee.TheVariants.{Func}
use Rattle.c_tree.specs.declared.TypedProgram.{TypedProgram}
use Rattle.c_meaning_spec.specs.declared.signal.Halt.TheVariants.{NoStep}
use Rattle.c_meaning_spec.specs.State.{State, Told, Result, Go, Over}
use Rattle.c_meaning_spec.specs.Task.{Task, Of, Run, Turn, Parts}
use Rattle.c_meaning_spec.specs.Call.{called}
use Rattle.c_meaning_spec.specs.Eval.{perform, enough, start}

-- at most so many open calls are told
abbrev pub most_calls_told : ℕ
most_calls_told = 20

-- a place, where none is told yet
abbrev pub first_place : Option ℕ → ℕ → Option ℕ
first_place None at = Some at
first_place (Some x) at = Some x

-- what is told, with the place of an expression that was not evaluated to its end
abbrev pub with_place : ℕ → Told → Told
with_place at t = record { at = first_place t.at at; calls = t.calls }

-- what is told, with the place of a call around those that are told, if there is room for it
abbrev pub with_call : ℕ → Told → Told
with_call at t = record {
  at = t.at;
  calls = cond (nat_lt (length t.calls) most_calls_told) (t.calls ++ at ∷ []) t.calls;
}

-- a result of which more is told where it stops
abbrev pub marked : (Told → Told) → Result → Result
marked change (Go v s) = Go v s
marked change (Over why s) = Over why (record s { told = change s.told })

-- what an expression at a place comes to: where it stops this is told of it, unless it is told of a part of it
abbrev pub placed : ℕ → Result → Result
placed at r = marked (with_place at) r

-- what the body of a function comes to that is called at a place: where it stops the call is open
abbrev pub through : ℕ → Result → Result
through at r = marked (with_call at) r

-- the parts of an expression at a place: the statements among them are the bodies of the functions that it calls
abbrev pub calling : ℕ → Parts → Parts
calling at rec (Of e) s = rec (Of e) s
calling at rec (Run st) s = through at (rec (Run st) s)
calling at rec (Turn test post body) s = rec (Turn test post body) s

-- what a task does, with its place where it is an expression
abbrev pub told_by : Parts → TypedProgram → Task → State → Result
told_by rec P (Of e) s = placed e.at (perform (calling e.at rec) P (Of e) s)
told_by rec P (Run st) s = perform rec P (Run st) s
told_by rec P (Turn test post body) s = perform rec P (Turn test post body) s

-- the same to a depth of k parts
unfoldable pub told_to : ℕ → TypedProgram → Task → State → Result
told_to zero P t s = Over NoStep s
told_to (suc k) P t s = told_by (told_to k P) P t s

-- what a task means, with its places; no more of the depth is seen by the law `TellsByParts`
unfoldable pub telling : TypedProgram → Task → State → Result
telling P t s = told_to (enough s.stock) P t s

-- what is told of a result
abbrev pub told_in : Result → Told
told_in (Go v s) = s.told
told_in (Over why s) = s.told

-- what is told of where an evaluation stopped
unfoldable pub told : TypedProgram → List ℕ → ℕ → Told
told P input n = told_in (called (telling P) P (Func P.main) [] (start P input n))
