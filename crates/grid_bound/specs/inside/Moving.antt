-- Part (6) of a cycle as the oldest frame sees it: the mesh ticks, and what has come is delivered.
use Rattle.std.specs.Prelude.{ℕ, zero, suc, ◌*◌, ◌/◌, ◌%◌, Bool, true, false, cond, ◌==◌, ◌&&◌, ◌||◌, not, Option}
use Rattle.operand_net.specs.declared.parcel.Stand.{Stand}
use Rattle.operand_net.specs.declared.parcel.Stand.TheVariants.{Nowhere, Away, Held}
use Rattle.operand_net.specs.Tick.{is_free, ticked}
use Rattle.grid_bound.specs.inside.Course.{Target, Task}
use Rattle.grid_bound.specs.inside.Lane.{any, Phase, Absent, Idle, Working, Asking, Standing, Sent, first_parcel}
use Rattle.grid_bound.specs.inside.Lane.{second_parcel, Front, Stage, Running, Fetching}
use Rattle.grid_bound.specs.inside.Sending.{none_busy}
use Rattle.grid_bound.specs.inside.Answering.{hits}

-- a parcel that has come is taken
abbrev pub taken : Stand → Stand
taken Nowhere = Nowhere
taken (Away trip a) = Away trip a
taken (Held trip zero) = Nowhere
taken (Held trip (suc h)) = Held trip (suc h)

-- a parcel after a cycle, where no elder one wants its link, or one does
abbrev pub goes : Bool → ℕ → Stand → Stand
goes free hold p = taken (ticked free hold p)

-- the parcels of the frame by place
abbrev pub row : Front → ℕ → Stand
row f p = cond (p % 2 == 0) (first_parcel (f.at (p / 2))) (second_parcel (f.at (p / 2)))

-- whether no parcel at a lower place wants the link of the one at this place
abbrev pub free_at : Front → ℕ → Stand → Bool
free_at f p s = is_free none_busy (row f) p s

-- a request that has come stands at its data tile
abbrev pub asked : Stand → Phase
asked Nowhere = Standing
asked (Away trip a) = Asking (Away trip a)
asked (Held trip h) = Asking (Held trip h)

-- how far a task is after a cycle, by whether the links of its two parcels are free (m, k) and by
-- how long each is held if it arrives (h, j)
abbrev pub moved : (m k : Bool) (h j : ℕ) → Phase → Phase
moved m k h j Absent = Absent
moved m k h j Idle = Idle
moved m k h j Working = Working
moved m k h j (Asking p) = asked (goes m h p)
moved m k h j Standing = Standing
moved m k h j (Sent p q) = Sent (goes m h p) (goes k j q)

-- no parcel is in the place: it has not entered, or has been delivered
abbrev pub is_nowhere : Stand → Bool
is_nowhere Nowhere = true
is_nowhere (Away trip a) = false
is_nowhere (Held trip h) = false

-- whether a parcel has come in this cycle, and is the token of this spot
abbrev pub landed : Stand → Stand → Option Target → ℕ → Bool
landed p q t s = not (is_nowhere p) && (is_nowhere q && hits t s)

-- whether one of a task's two tokens is delivered to a spot in this cycle, by the task's phases
-- before and after
abbrev pub delivers : Phase → Phase → Task → ℕ → Bool
delivers (Sent p q) (Sent p2 q2) t s = landed p p2 t.first s || landed q q2 t.second s
delivers _ _ t s = false

-- a task's places are twice its number and the next one; `hold` tells what each place's parcel is held if it comes
abbrev pub move_at : (ℕ → ℕ) → Front → ℕ → Phase
move_at hold f x = moved (free_at f (2 * x) (first_parcel (f.at x)))
    (free_at f (suc (2 * x)) (second_parcel (f.at x)))
    (hold (2 * x)) (hold (suc (2 * x))) (f.at x)

-- the oldest frame after the tick, with the spots that have their token now
abbrev pub move_front : (ℕ → ℕ) → Front → Front
move_front hold f = record f {
  at = move_at hold f;
  come = λ s. f.come s || any f.course.room (λ x. delivers (f.at x) (move_at hold f x) (f.course.task x) s);
}

-- part (6) changes a frame alone; a fetch has no parcels
abbrev pub moving : (ℕ → ℕ) → Stage → Stage
moving hold (Running f) = Running (move_front hold f)
moving hold (Fetching o s) = Fetching o s
