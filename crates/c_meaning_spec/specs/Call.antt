-- Calls: their arguments, their frames, and what they give.
use Rattle.std.specs.Prelude.{ℕ, ◌+◌, ◌-◌, ◌*◌, ◌/◌, ◌%◌, ◌^◌, Bool, true, false, cond, nat_eq}
use Rattle.std.specs.Prelude.{nat_le, List, [], ◌∷◌, ◌++◌, map, Option, Some, None, slice_get}
use Rattle.std.specs.Prelude.{length, take, replicate}
use Rattle.c_tree.specs.Limits.{most_frame_bytes}
use Rattle.c_tree.specs.declared.Callee.{Callee}
use Rattle.c_tree.specs.declared.Callee.TheVariants.{Func, GetChar, PutChar, Exit}
use Rattle.c_tree.specs.declared.TypedArray.{TypedArray}
use Rattle.c_tree.specs.declared.TypedExpr.{TypedExpr}
use Rattle.c_tree.specs.declared.TypedFunc.{TypedFunc}
use Rattle.c_tree.specs.declared.TypedProgram.{TypedProgram}
use Rattle.c_constant.specs.Kinds.{bytes}
use Rattle.c_meaning_spec.specs.declared.signal.Signal.{Signal}
use Rattle.c_meaning_spec.specs.declared.signal.Signal.TheVariants.{Nothing, Value, Returns}
use Rattle.c_meaning_spec.specs.declared.signal.Halt.TheVariants.{TooDeep, Faults, Exits}
use Rattle.c_meaning_spec.specs.declared.fault.Fault.TheVariants.{IllFormed}
use Rattle.c_meaning_spec.specs.State.{State, Result, Go, Over, spend, want}
use Rattle.c_meaning_spec.specs.inside.State.{then}
use Rattle.c_meaning_spec.specs.Task.{Parts, Of, Run}

-- the bytes of an array, rounded up to 8
abbrev pub array_bytes : TypedArray → ℕ
array_bytes a = (a.length * bytes a.kind + 7) / 8 * 8

-- the bytes of several arrays
abbrev pub all_bytes : List TypedArray → ℕ
all_bytes [] = 0
all_bytes (a ∷ rest) = array_bytes a + all_bytes rest

-- the bytes of a function's frame
abbrev pub frame : TypedFunc → ℕ
frame f = 8 * (18 + length f.scalars) + all_bytes f.arrays

-- an array as a call finds it
abbrev pub unset_array : TypedArray → List (Option ℕ)
unset_array a = replicate a.length None

-- the second size of an array, if it has two
abbrev pub array_row : TypedArray → Option ℕ
array_row a = a.row

-- the scalars of a call: the arguments, and then unset ones
abbrev pub scalars_of : TypedFunc → List ℕ → List (Option ℕ)
scalars_of f done = map Some done ++ replicate (length f.scalars - length done) None

-- the state in which a call's body begins
abbrev pub entered : TypedFunc → List ℕ → State → State
entered f done s = record s {
  scalars = scalars_of f done;
  arrays = s.arrays ++ map unset_array f.arrays;
  rows = s.rows ++ map array_row f.arrays;
  base = length s.arrays;
  room = s.room + frame f;
}

-- what the end of a function gives: that of main returns 0 (C17 5.1.2.2.3), that of another gives
-- nothing
abbrev pub end_of : Bool → Signal
end_of true = Value 0
end_of false = Nothing

-- a call, of main or of another function, gives the value that is returned, if there is one
abbrev pub returned : Bool → Signal → State → Result
returned is_main (Returns (Some w)) s = Go (Value w) s
returned is_main (Returns None) s = Go Nothing s
returned is_main Nothing s = Go (end_of is_main) s
returned is_main _ s = Over (Faults IllFormed) s

-- the caller's state again: its scalars, the count of arrays, its base and its room
abbrev pub left : Bool → List (Option ℕ) → ℕ → ℕ → ℕ → Signal → State → Result
left is_main scalars count base room v s =
    returned is_main v (record s {
      scalars = scalars;
      arrays = take count s.arrays;
      rows = take count s.rows;
      base = base;
      room = room;
    })

-- a call whose frame fits, or does not
abbrev pub entered_if : Parts → Bool → Bool → TypedFunc → List ℕ → State → Result
entered_if rec is_main fits f done s =
    cond fits
    (then (rec (Run f.body) (entered f done s))
    (left is_main s.scalars (length s.arrays) s.base s.room))
    (Over TooDeep s)

-- a call of a function, which may be main, with these arguments; the frames of the active functions,
-- main's included, have a limit
abbrev pub enter : Parts → Bool → Option TypedFunc → List ℕ → State → Result
enter rec is_main None done s = Over (Faults IllFormed) s
enter rec is_main (Some f) done s =
    cond (nat_eq (length done) f.params)
    (entered_if rec is_main (nat_le (s.room + frame f) most_frame_bytes) f done s)
    (Over (Faults IllFormed) s)

-- the next byte of the input, and -1 at its end
abbrev pub read_from : List ℕ → State → Result
read_from [] s = Go (Value (2 ^ 64 - 1)) s
read_from (b ∷ rest) s = Go (Value b) (record s { input = rest })

-- getchar takes no argument
abbrev pub get_char : List ℕ → State → Result
get_char [] s = read_from s.input s
get_char (w ∷ rest) s = Over (Faults IllFormed) s

-- putchar puts out the low byte of its argument, and gives it
abbrev pub put_char : List ℕ → State → Result
put_char (w ∷ []) s = Go (Value (w % 256)) (record s { output = s.output ++ (w % 256) ∷ [] })
put_char _ s = Over (Faults IllFormed) s

-- exit ends the evaluation with its argument, and gives no value to what calls it (C17 7.22.4.4)
abbrev pub exit_with : List ℕ → State → Result
exit_with (w ∷ []) s = Over (Exits w) s
exit_with _ s = Over (Faults IllFormed) s

-- a call's further step, and what the call does
abbrev pub called : Parts → TypedProgram → Callee → List ℕ → State → Result
called rec P (Func f) done s =
    spend s (enter rec (nat_eq f P.main) (slice_get P.functions f) done)
called rec P GetChar done s = spend s (get_char done)
called rec P PutChar done s = spend s (put_char done)
called rec P Exit done s = spend s (exit_with done)

-- the arguments from the left, and then the call
abbrev pub arguments : Parts → TypedProgram → Callee → List TypedExpr → List ℕ → State → Result
arguments rec P f [] done s = called rec P f done s
arguments rec P f (e ∷ es) done s =
    then (rec (Of e) s) (λ v s. want v s (λ w. arguments rec P f es (done ++ w ∷ []) s))
