-- Part (5) of a cycle as the oldest frame sees it: units give their results and issue what is ready.
use Rattle.std.specs.Prelude.{ℕ, zero, suc, ◌-◌, Bool, cond, ◌==◌, ◌&&◌, nat_lt}
use Rattle.grid_bound.specs.inside.Course.{Task}
use Rattle.grid_bound.specs.inside.Lane.{Phase, Absent, Idle, Working, Asking, Standing, Sent, Front, Stage, Running}
use Rattle.grid_bound.specs.inside.Lane.{Fetching, ready}
use Rattle.grid_bound.specs.inside.Sending.{pick, found, tile_of, result}

-- units are busy for one cycle less
abbrev pub less_one : (ℕ → ℕ) → ℕ → ℕ
less_one u t = u t - 1

-- a unit with no cycle left gives its result, and any other holds its task
abbrev pub worked : ℕ → ℕ → Task → Phase
worked generation zero t = result generation t.kind t
worked generation (suc c) t = Working

-- a unit gives its result where its time is over
abbrev pub finished : ℕ → Phase → ℕ → Task → Phase
finished generation Absent c t = Absent
finished generation Idle c t = Idle
finished generation Working c t = worked generation c t
finished generation (Asking p) c t = Asking p
finished generation Standing c t = Standing
finished generation (Sent p q) c t = Sent p q

-- each task of the frame whose unit's time is over gives its result
abbrev pub finish_front : (ℕ → ℕ) → Front → Front
finish_front u f = record f { at = λ x. finished f.generation (f.at x) (u (tile_of f x)) (f.course.task x) }

-- a busy unit takes no entry
abbrev pub busy : (ℕ → ℕ) → ℕ → Bool
busy u t = nat_lt 0 (u t)

-- a free unit issues the frame's lowest ready entry of its tile
abbrev pub issued : (ℕ → ℕ) → Front → ℕ → Bool
issued u f x = pick (ready f) (tile_of f) (busy u) x

-- each free unit holds the entry that it has issued
abbrev pub issue_front : (ℕ → ℕ) → Front → Front
issue_front u f = record f { at = λ x. cond (issued u f x) Working (f.at x) }

-- how long the unit of a tile is busy: as before, or for the latency of the entry that it has
-- issued, if there is one
abbrev pub units_after : (ℕ → ℕ) → Front → ℕ → ℕ
units_after u f t = cond (busy u t) (u t)
    (found f.course.room (λ x. issued u f x && tile_of f x == t) (λ x. (f.course.task x).latency))

-- part (5) of the lane's stage: units have a cycle less, then give results, then take entries
abbrev pub turning : (ℕ → ℕ) → Stage → Stage
turning u (Running f) = Running (issue_front (less_one u) (finish_front (less_one u) f))
turning u (Fetching o s) = Fetching o s

-- how long units are busy after the frame's turn; a unit that it leaves free another frame may take
abbrev pub own_units : (ℕ → ℕ) → Stage → ℕ → ℕ
own_units u (Running f) = units_after (less_one u) (finish_front (less_one u) f)
own_units u (Fetching o s) = less_one u
