-- What a frame sees of the older frames and of the committed state: one fold over the older frames.
use Rattle.std.specs.Prelude.{ℕ, zero, suc, ◌+◌, ◌==◌, Bool, true, false, cond, ◌&&◌, ◌||◌, not, List}
use Rattle.std.specs.Prelude.{[], ◌∷◌, Option, Some, None}
use Rattle.std.specs.Prelude.{slice_index, is_some}
use Rattle.trips_isa.specs.declared.block.Token.TheVariants.{Null, Word}
use Rattle.trips_isa.specs.declared.block.Inst.{Inst}
use Rattle.trips_isa.specs.declared.block.Stored.{Stored}
use Rattle.trips_isa.specs.declared.block.Block.{Block}
use Rattle.trips_isa.specs.PlaceNumbers.{first_write}
use Rattle.trips_isa.specs.Rule.{Answer}
use Rattle.trips_isa.specs.Stores.{byte_of, byte_seen}
use Rattle.trips_isa.specs.Outcomes.{is_scall}
use Rattle.trips_isa.specs.Machine.{State}
use Rattle.commit_flush_spec.specs.Frames.{Frame, Exit, Taken, NoBytes, Bytes, at, numbers}

-- the word of each register where it is known; the byte at each address; the next block where it is
-- known; and whether the youngest of the older frames makes a system call
pub record Older : Type 0 where
  pub look : ℕ → Option ℕ
  pub memory : ℕ → ℕ
  pub known : Option ℕ
  pub serial : Bool

-- registers: forwarding ------------------------------------------------------------------------

-- a declared write hides the word below it, unless its token is null; without a token nothing is known
abbrev pub forwarded : Answer → Option ℕ → Option ℕ
forwarded None below = None
forwarded (Some Null) below = below
forwarded (Some (Word v)) below = Some v

-- what is seen of register q through a write of register r with the token t
abbrev pub over_write : ℕ → Answer → (ℕ → Option ℕ) → ℕ → Option ℕ
over_write r t look q = cond (q == r) (forwarded t (look q)) (look q)

-- what is seen through the writes from write w on
abbrev pub through : List ℕ → ℕ → (ℕ → Answer) → (ℕ → Option ℕ) → ℕ → Option ℕ
through [] w spots look = look
through (r ∷ rs) w spots look = through rs (suc w) spots (over_write r (spots (first_write + w)) look)

-- the fold -------------------------------------------------------------------------------------

-- the block that an exit makes known
abbrev pub successor_of : Option Exit → Option ℕ
successor_of None = None
successor_of (Some e) = Some e.successor

-- whether what a slot holds is a system call
abbrev pub makes_call : Option Inst → Bool
makes_call None = false
makes_call (Some i) = is_scall i.op

-- whether one of some slots holds a system call
abbrev pub any_call : List (Option Inst) → Bool
any_call [] = false
any_call (i ∷ is) = makes_call i || any_call is

-- whether a block may make a system call: such a frame is serialising
abbrev pub is_serial : Block → Bool
is_serial b = any_call b.insts.items

-- what is seen behind one more frame
abbrev pub after : Frame → Older → Older
after f o = record {
  look = through f.code.writes.items 0 (at f.spots) o.look;
  memory = byte_seen (at f.stores) o.memory numbers;
  known = successor_of f.exit;
  serial = is_serial f.code;
}

-- what is seen behind some frames, the oldest first
abbrev pub after_all : List Frame → Older → Older
after_all [] o = o
after_all (f ∷ fs) o = after_all fs (after f o)

-- what the oldest frame sees: the committed state
abbrev pub committed : State → Older
committed s = record {
  look = λ r. Some (slice_index s.registers r);
  memory = λ a. slice_index s.memory a;
  known = Some s.next;
  serial = false;
}

-- whether a block may follow where `known` is known of the next block
abbrev pub follows : Option ℕ → ℕ → Bool
follows None k = true
follows (Some n) k = n == k

-- violations -----------------------------------------------------------------------------------

-- whether a store has a byte at an address
abbrev pub covers : Option Stored → ℕ → Bool
covers s address = is_some (byte_of s address)

-- the touched addresses that are still seen behind the stores of numbers below n
abbrev pub passes : (ℕ → Option Stored) → ℕ → (ℕ → Bool) → ℕ → Bool
passes stores zero touched address = touched address
passes stores (suc n) touched address =
    not (covers (stores n) address) && passes stores n touched address

-- the addresses at which store m is the nearest to what comes behind the numbers below n
abbrev pub nearest : (ℕ → Option Stored) → ℕ → ℕ → ℕ → Bool
nearest stores m zero address = false
nearest stores m (suc n) address = cond (n == m) (covers (stores m) address)
    (not (covers (stores n) address) && nearest stores m n address)

-- whether one of the first k bytes from an address on is touched
abbrev pub any_touched : (ℕ → Bool) → ℕ → ℕ → Bool
any_touched touched address zero = false
any_touched touched address (suc k) = touched (address + k) || any_touched touched address k

-- whether an answered load took a touched byte
abbrev pub took_touched : (ℕ → Bool) → Option Taken → Bool
took_touched touched None = false
took_touched touched (Some NoBytes) = false
took_touched touched (Some (Bytes address size)) = any_touched touched address size

-- whether one of these loads, numbered from 0, took a byte where its number's addresses are touched
abbrev pub violated : (ℕ → ℕ → Bool) → List (Option Taken) → Bool
violated touched [] = false
violated touched (t ∷ ts) = took_touched (touched 0) t || violated (λ n. touched (suc n)) ts

-- the frames before the first that took a touched byte
abbrev pub cut : (ℕ → Bool) → List Frame → List Frame
cut touched [] = []
cut touched (f ∷ fs) = cond (violated (λ n. passes (at f.stores) n touched) f.loads) []
    (f ∷ cut (passes (at f.stores) numbers touched) fs)
