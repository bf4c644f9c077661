-- Reading an image from left to right, with the first fault that is met.
use Rattle.std.specs.Prelude.{◌⊎◌, ◌≡◌, ℕ, zero, suc, ◌+◌, ◌*◌, List, [], ◌∷◌, ◌++◌, length, take}
use Rattle.std.specs.Prelude.{drop, Result, Ok, Err, Bool, nat_lt, nat_le, ◌==◌, if◌then◌else◌}
use Rattle.std.specs.Str.{bytes_eq}
use Rattle.byteorder.specs.Endian.{big_number}
use Rattle.trips_isa.specs.declared.block.Block.{Block}
use Rattle.trips_isa.specs.declared.block.Image.{Image}
use Rattle.trips_isa.specs.Images.{last_byte}
use Rattle.block_image.specs.declared.fault.ImageFault.{ImageFault}
use Rattle.block_image.specs.declared.fault.ImageFault.TheVariants.{Magic, Version, Truncated}
use Rattle.block_image.specs.declared.fault.ImageFault.TheVariants.{Trailing, BadField, Memory}
use Rattle.block_image.specs.Spelling.{magic, chunks_of}
use Rattle.block_image.specs.Reading.{◌>>=◌}
use Rattle.block_image.specs.inside.Reading.{block_at}

-- a condition on the bytes, with the fault where it does not hold
abbrev pub wants : Bool → ImageFault → Result (Unit {0}) ImageFault
wants b fault = if b then Ok tt else Err fault

-- a number of four bytes
unfoldable pub number_at : ℕ → List ℕ → Result ℕ ImageFault
number_at at bytes =
    if nat_lt (length bytes) (at + 4) then Err (Truncated (length bytes)) else Ok
    (big_number 4 (drop at bytes))

-- the first eight bytes are the magic
unfoldable pub magic_at : List ℕ → Result (Unit {0}) ImageFault
magic_at bytes =
    if nat_lt (length bytes) 8 then Err (Truncated (length bytes)) else wants
    (bytes_eq (take 8 bytes) magic) Magic

-- the version is 1
unfoldable pub version_at : List ℕ → Result (Unit {0}) ImageFault
version_at bytes = number_at 8 bytes >>= λ v. wants (v == 1) Version

-- the number of blocks, at least 1
unfoldable pub count_at : List ℕ → Result ℕ ImageFault
count_at bytes = number_at 12 bytes >>= λ n. wants (nat_lt 0 n) (BadField 12) >>= λ u. Ok n

-- the number of data bytes, at most 4,194,304
unfoldable pub size_at : List ℕ → Result ℕ ImageFault
size_at bytes = number_at 16 bytes >>= λ d. wants (nat_le d 4194304) (BadField 16) >>= λ u. Ok d

-- the data bytes, the last not zero
unfoldable pub data_at : ℕ → List ℕ → Result (List ℕ) ImageFault
data_at d bytes =
    if nat_lt (length bytes) (20 + d) then Err (Truncated (length bytes))
    else (wants (nat_lt 0 (last_byte (take d (drop 20 bytes)))) (BadField (19 + d)) >>= λ u. Ok
    (take d (drop 20 bytes)))

-- the blocks, after which nothing follows
abbrev pub blocks_at : ℕ → ℕ → ℕ → List ℕ → Result (List Block) ImageFault
blocks_at zero total at bytes = wants (at == length bytes) (Trailing at) >>= λ u. Ok []
blocks_at (suc n) total at bytes =
    block_at total at bytes >>= λ b.
    blocks_at n (total + 1 + chunks_of b.insts.items)
    (at + 128 + 128 * chunks_of b.insts.items) bytes >>= λ bs. Ok (b ∷ bs)

-- the image that the bytes spell, all of them, or the first fault that reading meets
unfoldable pub image_at : List ℕ → Result Image ImageFault
image_at bytes =
    magic_at bytes >>= λ u. version_at bytes >>= λ v. count_at bytes >>= λ n. size_at bytes >>= λ d.
    data_at d bytes >>= λ ds. blocks_at n 0 (20 + d) bytes >>= λ bs. Ok
    (record { blocks = bs; bytes = ds })

-- what was read before, and what is still read
abbrev pub with_blocks : List Block → Result (List Block) ImageFault
    → Result (List Block) ImageFault
with_blocks front read = read >>= λ bs. Ok (front ++ bs)

-- A list that grew by what reading gives.
abbrev pub Adds : {A X : Type 0} → List A → List A → Result X ImageFault
    → Result (List A) ImageFault → Type 0
Adds {A = A} old new (Ok x) read = (more : List A) × (read ≡ Ok more) × (new ≡ old ++ more)
Adds old new (Err e) read = read ≡ Err e

-- reading gives this fault, unless memory ran out
abbrev pub Fails : {Y : Type 0} → ImageFault → Result Y ImageFault → Type 0
Fails Memory read = Unit {0}
Fails Magic read = read ≡ Err Magic
Fails Version read = read ≡ Err Version
Fails (Truncated at) read = read ≡ Err (Truncated at)
Fails (Trailing at) read = read ≡ Err (Trailing at)
Fails (BadField at) read = read ≡ Err (BadField at)

-- what a call that may want memory returned is what reading gives
abbrev pub DecodesOrMemory : {X Y : Type 0} → (X → Y) → Result X ImageFault → Result Y ImageFault → Type 0
DecodesOrMemory view (Ok x) read = read ≡ Ok (view x)
DecodesOrMemory view (Err e) read = Fails e read

-- The same for a call that takes no memory.
abbrev pub Decodes : {X Y : Type 0} → (X → Y) → Result X ImageFault → Result Y ImageFault → Type 0
Decodes view (Ok x) read = read ≡ Ok (view x)
Decodes view (Err e) read = read ≡ Err e

-- want of memory
abbrev pub IsMemory : ImageFault → Type 0
IsMemory e = e ≡ Memory

-- want of memory, or one of these faults
abbrev pub IsMemoryOr : (ImageFault → Type 0) → ImageFault → Type 0
IsMemoryOr P e = (e ≡ Memory) ⊎ P e
