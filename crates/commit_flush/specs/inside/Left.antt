-- How many frames an exit leaves, as it is found before the exit is made known.
use Rattle.std.specs.Prelude.{ℕ, suc, cond, Option, Some, None}
use Rattle.commit_flush_spec.specs.Older.{follows}

-- all n frames are left, or those up to age a where this is known of the next block and the next frame holds another
abbrev pub left_behind : ℕ → Option ℕ → Option ℕ → ℕ → ℕ
left_behind a known None n = n
left_behind a known (Some k) n = cond (follows known k) n (suc a)
