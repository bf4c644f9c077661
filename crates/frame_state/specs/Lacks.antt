-- The least output that a frame lacks: a declared write before a store of its mask, and a store before the exit.
use Rattle.std.specs.Prelude.{ℕ, zero, suc, Bool, cond, length, Option, Some, None}
use Rattle.commit_flush_spec.specs.Frames.{Frame, Exit, numbers}
use Rattle.commit_flush_spec.specs.Ends.{write_came, store_came}
use Rattle.frame_state.specs.declared.parts.Lack.{Lack}
use Rattle.frame_state.specs.declared.parts.Lack.TheVariants as lack

-- the lowest of n numbers from k on that has not come
abbrev pub first_missing : (ℕ → Bool) → ℕ → ℕ → Option ℕ
first_missing came zero k = None
first_missing came (suc n) k = cond (came k) (first_missing came n (suc k)) (Some k)

-- the exit, where it has not come
abbrev pub exit_lack : Option Exit → Option Lack
exit_lack None = Some lack.Exit
exit_lack (Some e) = None

-- a store of this number, if one is missing, before what else is lacking
abbrev pub or_store : Option ℕ → Option Lack → Option Lack
or_store None rest = rest
or_store (Some n) rest = Some (lack.Store n)

-- a write of this number, if one is missing, before what else is lacking
abbrev pub or_write : Option ℕ → Option Lack → Option Lack
or_write None rest = rest
or_write (Some w) rest = Some (lack.Write w)

-- the least output that a frame lacks
abbrev pub least_lack : Frame → Option Lack
least_lack f = or_write (first_missing (write_came f) (length f.code.writes.items) 0)
    (or_store (first_missing (store_came f) numbers 0) (exit_lack f.exit))
