-- What the calls that read lines return, by what reading gives.
use Rattle.std.specs.Prelude.{◌≡◌, ◌⊎◌, ℕ, ◌+◌, List, ◌++◌, true, not, Result, Ok, Err}
use Rattle.trips_isa.specs.declared.block.Image.{Image}
use Rattle.trips_isa.specs.declared.block.Block.{Block}
use Rattle.target_asm_spec.specs.declared.fault.AsmFault.{AsmFault}
use Rattle.target_asm_spec.specs.declared.fault.AsmFault.TheVariants.{Syntax, Range, Label, Memory}
use Rattle.target_asm_spec.specs.inside.Blocks.{◌>>>◌, wants, Taken, Begins}
use Rattle.target_asm_spec.specs.inside.Whole.{begins_of, unknown, body_in, front_in, data_in}
use Rattle.target_asm_spec.specs.inside.Whole.{data_lines, is_empty}
use Rattle.target_asm.specs.declared.branches.Known.{Known}
use Rattle.target_asm.specs.declared.whole.Places.{Places}

-- what a call that takes no memory returned is what reading gives
abbrev pub Returns : {X Y : Type 0} → (X → Y) → Result X AsmFault → Result Y AsmFault → Type 0
Returns view (Ok x) read = read ≡ Ok (view x)
Returns view (Err e) read = read ≡ Err e

-- reading gives this fault, unless memory ran out
abbrev pub Fails : {Y : Type 0} → AsmFault → Result Y AsmFault → Type 0
Fails Memory read = Unit {0}
Fails (Syntax line) read = read ≡ Err (Syntax line)
Fails (Range line) read = read ≡ Err (Range line)
Fails (Label line) read = read ≡ Err (Label line)

-- the same for a call that may want memory
abbrev pub ReturnsOrMemory : {X Y : Type 0} → (X → Y) → Result X AsmFault → Result Y AsmFault → Type 0
ReturnsOrMemory view (Ok x) read = read ≡ Ok (view x)
ReturnsOrMemory view (Err e) read = Fails e read

-- what was read before, and what is still read
abbrev pub with_front : {A : Type 0} → List A → Taken (List A) → Taken (List A)
with_front front (Ok r) = Ok (front ++ r.0, r.1, r.2)
with_front front (Err e) = Err e

-- blocks that were read before, and those that are still read
abbrev pub with_blocks : List Block → Result (List Block) AsmFault → Result (List Block) AsmFault
with_blocks front (Ok bs) = Ok (front ++ bs)
with_blocks front (Err e) = Err e

-- what a call knows of the places where blocks begin
abbrev pub seen : Known → Begins
seen k = record { known = k.known; chunks = k.chunks.now; starts = k.starts.now }

-- where blocks begin, from the first reading
abbrev pub places_in : ℕ → List ℕ → Result Begins AsmFault
places_in line text = body_in unknown line text >>> λ first. Ok (begins_of first)

-- the whole text once its first two lines are read
abbrev pub after_front : ℕ × List ℕ → Result Image AsmFault
after_front f =
    data_in f.0 f.1 >>> λ d.
    wants (not (is_empty d.1)) (Syntax (3 + data_lines f.0)) >>> λ u.
    places_in (3 + data_lines f.0) d.1 >>> λ b.
    body_in b (3 + data_lines f.0) d.1 >>> λ blocks. Ok (record { blocks = blocks; bytes = d.0 })

-- the same reading, with the places as a step
abbrev pub steps_in : List ℕ → Result Image AsmFault
steps_in text = front_in text >>> after_front

-- want of memory
abbrev pub IsMemory : AsmFault → Type 0
IsMemory e = e ≡ Memory

-- want of memory, or one of these faults
abbrev pub IsMemoryOr : (AsmFault → Type 0) → AsmFault → Type 0
IsMemoryOr P e = (e ≡ Memory) ⊎ P e

-- the tables that a call made
abbrev pub place_table : Places → Begins
place_table p = record { known = true; chunks = p.chunks.items; starts = p.starts.items }

-- bytes that were read before, and those that are still read
abbrev pub with_bytes : List ℕ → Result (List ℕ × List ℕ) AsmFault
    → Result (List ℕ × List ℕ) AsmFault
with_bytes front (Ok r) = Ok (front ++ r.0, r.1)
with_bytes front (Err e) = Err e
