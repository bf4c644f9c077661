-- What a flat program does on an input, for a number of turns.
use Rattle.std.specs.Prelude.{ℕ, zero, suc, ◌+◌, Bool, true, false, cond, ◌&&◌, nat_le, nat_lt}
use Rattle.std.specs.Prelude.{List, [], Option, Some, None, slice_get, slice_index}
use Rattle.ir_forms.specs.inside.FlatCode.{Function, Program}
use Rattle.ir_forms.specs.inside.Frames.{frames_at, frame_limit, frame_of, arrays_at}
use Rattle.ir_forms.specs.inside.Cells.{Mark, Closed, Open, Held, Memory, Checks, marked}
use Rattle.ir_forms.specs.inside.FlatSteps.{State, Env, Res, Gone, Broke, Again, Gave, Halts, TooDeep}
use Rattle.ir_forms.specs.inside.FlatSteps.{NoRoom, Exited, Unfinished, Wild, unfinished, turn, with_memory, Calls, exec}

-- CALLS

-- a call's arrays close where it ends
abbrev pub closed : ℕ → ℕ → State → State
closed at size s = with_memory s (marked s.memory at size Closed)

-- what a call comes to, of what its body does: its arrays close; a break outside a loop is in no program
abbrev pub closing : ℕ → ℕ → Res → Res
closing at size (Gone s m) = Gone (closed at size s) m
closing at size (Broke s m) = Wild
closing at size (Again s m) = Wild
closing at size (Gave w s m) = Gave w (closed at size s) m
closing at size (Halts how) = Halts how
closing at size (Unfinished out r) = Unfinished out r
closing at size Wild = Wild

-- argument v, where there is one
abbrev pub argument : List ℕ → ℕ → Option ℕ
argument ws v = slice_get ws v

-- the parameters are set, no other variable is, and the call's arrays open
abbrev pub begun : ℕ → Function → List ℕ → ℕ → State → State
begun base f ws used s = record s {
  vars = argument ws;
  memory = marked s.memory (arrays_at base f used) f.arrays Open;
}

-- where the arrays of a call lie, and the bytes of the frames up to its own
abbrev pub env_of : ℕ → Function → ℕ → Env
env_of base f used = record { arrays = arrays_at base f used; used = used + frame_of f }

-- that there is no room for a frame is met with a turn left
abbrev pub enter : Bool → Checks → Calls → ℕ → Function → List ℕ → ℕ → State → ℕ → Res
enter true c call base f ws used s m = turn s m (λ m. TooDeep s.output)
enter false c call base f ws used s m =
    closing (arrays_at base f used) f.arrays (exec c call (env_of base f used) f.body
    (begun base f ws used s) m)

-- a function that is not there is called in no program
abbrev pub enter_if : Checks → Calls → ℕ → Option Function → List ℕ → ℕ → State → ℕ → Res
enter_if c call base None ws used s m = Wild
enter_if c call base (Some f) ws used s m =
    enter (nat_lt frame_limit (used + frame_of f)) c call base f ws used s m

-- calls that nest less than d deep, where the frames begin at `base`
abbrev pub calls_within : Checks → List Function → ℕ → ℕ → Calls
calls_within c fs base zero f ws used s m = unfinished s
calls_within c fs base (suc d) f ws used s m =
    enter_if c (calls_within c fs base d) base (slice_get fs f) ws used s m

-- PROGRAMS

-- in the part that frames may take nothing may be loaded or saved
abbrev pub first_mark : ℕ → ℕ → Mark
first_mark base k = cond (nat_le base k && nat_lt k (base + frame_limit)) Closed Held

-- the program's bytes and then zeros
unfoldable pub first_memory : List ℕ → Memory
first_memory bytes k = record { mark = first_mark (frames_at bytes) k; byte = slice_index bytes k }

-- the state that a run begins with: no variable is set
abbrev pub start : Program → List ℕ → State
start P input = record {
  vars = λ v. None;
  memory = first_memory P.bytes;
  input = input;
  output = [];
  rounds = 0;
}

-- what the call of main comes to, of a whole run: one that was ended gives the value as if main returned it
abbrev pub concluded : Res → Res
concluded (Gone s m) = Gone s m
concluded (Broke s m) = Broke s m
concluded (Again s m) = Again s m
concluded (Gave w s m) = Gave w s m
concluded (Halts (NoRoom out)) = TooDeep out
concluded (Halts (Exited w s m)) = Gave (Some w) s m
concluded (Unfinished out r) = Unfinished out r
concluded Wild = Wild

-- the call of main, with at most m turns; calls that nest deeper than m cannot come
unfoldable pub flat_run : Checks → Program → List ℕ → ℕ → Res
flat_run c P input m =
    concluded (calls_within c P.functions (frames_at P.bytes) (suc m) P.main [] 0 (start P input) m)

-- the meaning of a program: its run without a check
abbrev pub unchecked : Checks
unchecked = record { tame = false; clean = false }

-- what a program comes to on an input within m turns
abbrev pub flat_meaning : Program → List ℕ → ℕ → Res
flat_meaning = flat_run unchecked

-- both checks
abbrev pub checked : Checks
checked = record { tame = true; clean = true }

-- whether a breach of these ended the run
abbrev pub IsWild : Res → Type 0
IsWild (Gone s m) = ⊥
IsWild (Broke s m) = ⊥
IsWild (Again s m) = ⊥
IsWild (Gave w s m) = ⊥
IsWild (Halts how) = ⊥
IsWild (Unfinished out r) = ⊥
IsWild Wild = Unit {0}

-- the check of what may be read, loaded and saved
abbrev pub only_tame : Checks
only_tame = record { tame = true; clean = false }

-- the check of what may not fault
abbrev pub only_clean : Checks
only_clean = record { tame = false; clean = true }

-- the first m turns of a run are tame: what they read was set, and what they load and save they may
abbrev pub IsTame : Program → List ℕ → ℕ → Type 0
IsTame P input m = IsWild (flat_run only_tame P input m) → ⊥

-- and clean: nothing that they do faults
abbrev pub IsClean : Program → List ℕ → ℕ → Type 0
IsClean P input m = IsWild (flat_run only_clean P input m) → ⊥
