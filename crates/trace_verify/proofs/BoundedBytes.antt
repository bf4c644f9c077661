-- The number of bytes that have come stays within its bound, a byte at a time.
use Rattle.std.proofs.Common.{◌≡◌, ℕ, zero, suc, ◌+◌, ◌*◌, ◌^◌, ◌<◌, ◌≤◌, Bool, true, false, cond, eqb, nat_lt}
use Rattle.std.proofs.Common.{List, [], ◌∷◌, ◌++◌, length, Option, Some, None, slice_index, refl, arith}
use Rattle.std.specs.Str.{bytes_eq}
use Rattle.std.proofs.lemmas.List.{length-append}
use Rattle.byteorder.specs.Endian.{big_bytes}
use Rattle.trips_isa.specs.declared.block.Inst.{Inst}
use Rattle.trips_isa.specs.declared.block.Block.{Block}
use Rattle.trips_isa.specs.declared.block.Spot.TheVariants as spot
use Rattle.trips_isa.specs.declared.run.Stepped.{Stepped}
use Rattle.trips_isa.specs.declared.run.Stepped.TheVariants.{Went, Ended, StackFull, Trap}
use Rattle.trips_isa.specs.Rule.{Answer}
use Rattle.trips_isa.specs.Machine.{State, step_of}
use Rattle.trace_verify.specs.declared.fault.VerifyFault.TheVariants.{Magic, Version, Past, WrongToken, WrongBlock}
use Rattle.trace_verify.specs.declared.fault.VerifyFault.TheVariants.{WrongExit, Faulting, TooLong}
use Rattle.trace_verify.specs.Spelling.{magic, front, end_bytes, Listed, listed_of, listed_from, exit_taken}
use Rattle.trace_verify.specs.FirstFault.{record_size}
use Rattle.trace_verify.specs.Reading.{Place, Front, Number, Exit, Records, Whole, Stopped, Progress, Reading}
use Rattle.trace_verify.specs.Reading.{before, within, front_seen, block_come, number_come, number_seen}
use Rattle.trace_verify.specs.Reading.{stepped_to, entry_come, records_next, record_come, record_seen}
use Rattle.trace_verify.specs.Reading.{take_at, take_byte}
use Rattle.trace_verify.specs.inside.Within.{bounded, IsBounded}

-- how many bytes of a field have come that is not whole
abbrev pub Short : Place → ℕ → Type 0
Short Front k = k < 12
Short Number k = k < 4
Short Exit k = Unit {0}
Short (Records exit here later) k = k < 9
Short Whole k = Unit {0}
Short (Stopped f) k = Unit {0}

-- whatever a test says
either : (t : Bool) (a b : Reading) → IsBounded a → IsBounded b → IsBounded (cond t a b)
either true a b p q = p
either false a b p q = q

-- a byte of the front keeps the bound
front_bounded : (seen : List ℕ) (c : Progress) → length seen ≤ 12 → c.at ≤ length seen → IsBounded (front_seen seen c)
front_bounded seen c few l =
    either (eqb (length seen) 8) (cond (bytes_eq seen magic) (within Front seen c) (before (Stopped Magic) c))
    (cond (eqb (length seen) 12) (cond (bytes_eq seen front) (before Number c) (before (Stopped Version) c))
    (within Front seen c))
    (either (bytes_eq seen magic) (within Front seen c) (before (Stopped Magic) c) l stop)
    (either (eqb (length seen) 12) (cond (bytes_eq seen front) (before Number c) (before (Stopped Version) c))
    (within Front seen c)
    (either (bytes_eq seen front) (before Number c) (before (Stopped Version) c) number stop) l)
  where
    stop : c.at ≤ 1169 + c.count * 1157
    stop = omega (arith, few, l)

    number : c.at ≤ 12 + (c.count * 1157 + 0)
    number = omega (arith, few, l)

-- so does a number of a block
block_bounded : (budget : ℕ) (seen : List ℕ) (c : Progress) (o : Stepped) → c.at ≤ 16 + c.count * 1157
    → IsBounded (block_come budget seen c o)
block_bounded budget seen c Went l =
    either (bytes_eq seen (big_bytes 4 c.state.next))
    (cond (nat_lt c.count budget) (before Exit c) (before (Stopped (TooLong c.count)) c))
    (before (Stopped (WrongBlock c.count)) c)
    (either (nat_lt c.count budget) (before Exit c) (before (Stopped (TooLong c.count)) c) l stop) stop
  where
    stop : c.at ≤ 1169 + c.count * 1157
    stop = omega (arith, l)
block_bounded budget seen c Ended l = omega (arith, l)
block_bounded budget seen c StackFull l = omega (arith, l)
block_bounded budget seen c (Trap m) l = omega (arith, l)

-- and any number
number_bounded : (budget : ℕ) (seen : List ℕ) (c : Progress) → length seen ≤ 4
    → c.at ≤ 12 + (c.count * 1157 + length seen) → IsBounded (number_seen budget seen c)
number_bounded budget seen c few l =
    either (eqb (length seen) 4) (number_come budget seen c) (within Number seen c)
    (either (bytes_eq seen end_bytes) (before Whole c) (block_come budget seen c c.answer) whole
    (block_bounded budget seen c c.answer whole)) l
  where
    whole : c.at ≤ 16 + c.count * 1157
    whole = omega (arith, few, l)

-- and the end of an entry
step_bounded : (c : Progress) (t : State) (o : Stepped) → c.at ≤ 1169 + c.count * 1157 → IsBounded (stepped_to c t o)
step_bounded c t Went l = omega (arith, l)
step_bounded c t Ended l = omega (arith, l)
step_bounded c t StackFull l = omega (arith, l)
step_bounded c t (Trap m) l = l

-- and all records of an entry
entry_bounded : (blocks : List Block) (exit : ℕ) (c : Progress) → c.at ≤ 1169 + c.count * 1157
    → IsBounded (entry_come blocks exit c)
entry_bounded blocks exit c l =
    either (eqb exit (exit_taken blocks c.state))
    (stepped_to c (step_of blocks c.state).0 (step_of blocks c.state).1) (before (Stopped (WrongExit c.count)) c)
    (step_bounded c (step_of blocks c.state).0 (step_of blocks c.state).1 l) l

-- and what comes behind a record
pub next_bounded : (blocks : List Block) (exit : ℕ) (c : Progress) (ls : List Listed)
    → c.at + length ls * 9 ≤ 1169 + c.count * 1157 → IsBounded (records_next blocks exit c ls)
next_bounded blocks exit c [] l = entry_bounded blocks exit c (omega (arith, l))
next_bounded blocks exit c (x ∷ ls) l = omega (arith, l)

-- and a byte of a record
record_bounded : (blocks : List Block) (exit : ℕ) (x : Listed) (ls : List Listed) (seen : List ℕ) (c : Progress)
    (size : Option ℕ) → length seen ≤ 9 → c.at + length ls * 9 ≤ 1160 + (c.count * 1157 + length seen)
    → IsBounded (record_seen blocks exit x ls seen c size)
record_bounded blocks exit x ls seen c None few l = omega (arith, few, l)
record_bounded blocks exit x ls seen c (Some n) few l =
    either (eqb (length seen) n) (record_come blocks exit x ls seen c) (within (Records exit x ls) seen c)
    (either (bytes_eq seen x.bytes) (records_next blocks exit c ls)
    (before (Stopped (WrongToken c.count (spot.Inst x.slot))) c)
    (next_bounded blocks exit c ls (omega (arith, few, l))) stop) l
  where
    stop : c.at ≤ 1169 + c.count * 1157
    stop = omega (arith, few, l)

-- a byte more
pub byte_bounded : (blocks : List Block) (budget : ℕ) (r : Reading) (x : ℕ) → Short r.place (length r.seen)
    → (r.place ≡ Exit → length (listed_of blocks r.progress.state) ≤ 128) → IsBounded r
    → IsBounded (take_byte blocks budget r x)
byte_bounded blocks budget r x short listed within = go r.place refl short within
  where
    c : Progress
    c = record (r.progress) { at = suc r.progress.at }

    all : List ℕ
    all = r.seen ++ x ∷ []

    longer : length all ≡ length r.seen + 1
    longer = length-append r.seen (x ∷ [])

    go : (p : Place) → r.place ≡ p → Short p (length r.seen) → bounded p r.progress (length r.seen)
        → IsBounded (take_at blocks budget p r x)
    go Front e s l = front_bounded all c (omega (arith, longer, s)) (omega (arith, longer, l))
    go Number e s l = number_bounded budget all c (omega (arith, longer, s)) (omega (arith, longer, l))
    go Exit e s l =
        let few : length (listed_of blocks r.progress.state) ≤ 128 = listed e in
        next_bounded blocks x c (listed_of blocks r.progress.state) (omega (arith, few, l))
    go (Records exit here later) e s l = record_bounded blocks exit here later all c (record_size (slice_index all 0))
        (omega (arith, longer, s)) (omega (arith, longer, l))
    go Whole e s l = omega (arith, l)
    go (Stopped f) e s l = within

-- so many bytes at most have come, wherever the reading is
pub bytes_most : (p : Place) (c : Progress) (k : ℕ) → Short p k → bounded p c k → c.at ≤ 1169 + c.count * 1157
bytes_most Front c k s l = omega (arith, s, l)
bytes_most Number c k s l = omega (arith, s, l)
bytes_most Exit c k s l = omega (arith, l)
bytes_most (Records exit here later) c k s l = omega (arith, s, l)
bytes_most Whole c k s l = omega (arith, l)
bytes_most (Stopped f) c k s l = l

-- a block has at most as many records as slots
pub listed_few : (g : ℕ → Answer) (m : ℕ → ℕ) (j : ℕ) (is : List (Option Inst))
    → length (listed_from g m j is) ≤ length is
listed_few g m j [] = omega arith
listed_few g m j (None ∷ is) = let l = listed_few g m (suc j) is in omega (arith, l)
listed_few g m j (Some i ∷ is) = let l = listed_few g m (suc j) is in omega (arith, l)
