-- What banks of registers keep of a token that comes to a frame.
use Rattle.std.specs.Prelude.{◌≡◌, ℕ, ◌<◌, Option, Some, None}
use Rattle.trips_isa.specs.Rule.{Answer}
use Rattle.reg_bank.specs.inside.Ages.{Ages, write}
use Rattle.reg_bank.specs.declared.answer.Held.TheVariants.{Waiting}

-- the token of a register of an age is kept, where there are such
abbrev pub with_token : Ages → Option ℕ → Option ℕ → Answer → Ages
with_token b None register token = b
with_token b (Some a) None token = b
with_token b (Some a) (Some r) None = b
with_token b (Some a) (Some r) (Some t) = write b a r t

-- a register of an age waits for its token
abbrev pub AwaitsToken : Ages → Option ℕ → Option ℕ → Type 0
AwaitsToken b None register = Unit {0}
AwaitsToken b (Some a) None = Unit {0}
AwaitsToken b (Some a) (Some r) = (a < 8) × (r < 128) × (b a r ≡ Waiting)
