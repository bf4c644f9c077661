-- What banks of registers say of the frames in flight: what each register is to the frame of each age.
use Rattle.std.specs.Prelude.{ℕ, suc, ◌+◌, ◌==◌, cond, List, [], ◌∷◌, Option, Some, None, slice_get}
use Rattle.trips_isa.specs.PlaceNumbers.{first_write}
use Rattle.trips_isa.specs.Rule.{Answer}
use Rattle.commit_flush_spec.specs.Frames.{Frame, at}
use Rattle.reg_bank.specs.inside.Ages.{Ages}
use Rattle.reg_bank.specs.declared.answer.Held.{Held}
use Rattle.reg_bank.specs.declared.answer.Held.TheVariants.{Undeclared, Waiting, Came}
use Rattle.reg_bank.specs.declared.answer.ReadAnswer.{ReadAnswer}
use Rattle.reg_bank.specs.declared.answer.ReadAnswer.TheVariants.{Word, NotYet}

-- what a declared register is, by the token of its write
abbrev pub came : Answer → Held
came None = Waiting
came (Some t) = Came t

-- what register r is to a frame whose writes from number w on are of these registers
abbrev pub held_by : List ℕ → ℕ → (ℕ → Answer) → ℕ → Held
held_by [] w spots r = Undeclared
held_by (x ∷ xs) w spots r = cond (r == x) (came (spots (first_write + w))) (held_by xs (suc w) spots r)

-- what register r is to a frame
abbrev pub held : Frame → ℕ → Held
held f r = held_by f.code.writes.items 0 (at f.spots) r

-- nothing where no frame is
abbrev pub held_if : Option Frame → ℕ → Held
held_if None r = Undeclared
held_if (Some f) r = held f r

-- what each register is to the frame of each age
abbrev pub banked : List Frame → Ages
banked fs a r = held_if (slice_get fs a) r

-- the word that a read is answered, where it is known
abbrev pub word_read : ReadAnswer → Option ℕ
word_read (Word w) = Some w
word_read (NotYet a) = None
