-- Worked rows of the definitions.
use Rattle.std.proofs.Common.{◌≡◌, ℕ, zero, suc, true, false, [], ◌∷◌, Option, Some, None, refl}
use Rattle.trips_isa.specs.declared.block.Token.TheVariants.{Null}
use Rattle.trips_isa.specs.declared.block.Stored.{Stored}
use Rattle.commit_flush_spec.specs.Frames.{Bytes}
use Rattle.trips_isa.specs.Stores.{byte_seen}
use Rattle.commit_flush_spec.specs.Older.{forwarded, nearest, took_touched, follows}
use Rattle.commit_flush_spec.specs.Causes.{NoFrame, NoInst, NotReady, NotNow, judged}

-- two bytes 0x1234 stored at 8 as number 0, and a null store as number 1
abbrev pub stores : ℕ → Option Stored
stores zero = Some (record { number = 0; address = 8; size = 2; value = Some 4660 })
stores (suc n) = Some (record { number = 1; address = 0; size = 2; value = None })

pub null_is_seen_through : forwarded (Some Null) (Some 5) ≡ Some 5
null_is_seen_through = refl

pub missing_hides : forwarded None (Some 5) ≡ None
missing_hides = refl

-- the most significant byte comes first, and a null store covers nothing
pub first_byte : byte_seen stores (λ a. 7) 2 8 ≡ 18
first_byte = refl

pub byte_below : byte_seen stores (λ a. 7) 2 10 ≡ 7
byte_below = refl

-- a load of number 0 is before the store of number 0, and one of number 2 is behind it
pub not_behind : took_touched (nearest stores 0 0) (Some (Bytes 8 1)) ≡ false
not_behind = refl

pub behind : took_touched (nearest stores 0 2) (Some (Bytes 9 1)) ≡ true
behind = refl

pub any_follows : follows None 3 ≡ true
any_follows = refl

pub first_cause : judged ((false, NoFrame) ∷ (true, NoInst) ∷ (true, NotReady) ∷ []) ≡ NotNow NoInst
first_cause = refl
