-- Reading what stands before the image from left to right, with the first fault that is met.
use Rattle.std.specs.Prelude.{◌≡◌, ℕ, zero, suc, ◌+◌, List, [], ◌∷◌, length, take, drop, Result, Ok, Err, Bool}
use Rattle.std.specs.Prelude.{◌==◌, nat_lt, nat_le, if◌then◌else◌}
use Rattle.std.specs.Str.{bytes_eq}
use Rattle.byteorder.specs.Endian.{big_number}
use Rattle.trips_isa.specs.Images.{last_byte}
use Rattle.machine_save.specs.declared.fault.SaveFault.{SaveFault}
use Rattle.machine_save.specs.declared.fault.SaveFault.TheVariants.{Magic, Version, Truncated, BadField}
use Rattle.machine_save.specs.Limits.{most_output, most_memory, most_rest}
use Rattle.machine_save.specs.Spelling.{magic}

infixl 10 ◌>>=◌
-- goes on with what was read, or stops at the fault
abbrev pub ◌>>=◌ : {A B : Type 0} → Result A SaveFault → (A → Result B SaveFault) → Result B SaveFault
(Ok x) >>= f = f x
(Err e) >>= f = Err e

-- a condition on the bytes, with the fault where it does not hold
abbrev pub wants : Bool → SaveFault → Result (Unit {0}) SaveFault
wants b fault = if b then Ok tt else Err fault

-- a number of four bytes
unfoldable pub number_at : ℕ → List ℕ → Result ℕ SaveFault
number_at at bytes =
    if nat_lt (length bytes) (at + 4) then Err (Truncated (length bytes)) else Ok
    (big_number 4 (drop at bytes))

-- the first eight bytes are the magic
unfoldable pub magic_at : List ℕ → Result (Unit {0}) SaveFault
magic_at bytes =
    if nat_lt (length bytes) 8 then Err (Truncated (length bytes)) else wants
    (bytes_eq (take 8 bytes) magic) Magic

-- the version is 1
unfoldable pub version_at : List ℕ → Result (Unit {0}) SaveFault
version_at bytes = number_at 8 bytes >>= λ v. wants (v == 1) Version

-- there are bytes for the next block and the registers
unfoldable pub head_at : List ℕ → Result (Unit {0}) SaveFault
head_at bytes = if nat_lt (length bytes) 1040 then Err (Truncated (length bytes)) else Ok tt

-- a list of at most so many bytes, whose number stands at a place
unfoldable pub list_at : ℕ → ℕ → List ℕ → Result (List ℕ) SaveFault
list_at most at bytes =
    number_at at bytes >>= λ n. wants (nat_le n most) (BadField at) >>= λ u.
    if nat_lt (length bytes) (at + 4 + n) then Err (Truncated (length bytes)) else Ok
    (take n (drop (at + 4) bytes))

-- the bytes that data memory begins with, the last not zero
unfoldable pub stored_at : ℕ → List ℕ → Result (List ℕ) SaveFault
stored_at at bytes =
    list_at most_memory at bytes >>= λ xs.
    wants (nat_lt 0 (last_byte xs)) (BadField (at + 3 + length xs)) >>= λ u. Ok xs

-- the three lists of a save file
pub record Lists : Type 0 where
  pub output : List ℕ
  pub stored : List ℕ
  pub rest : List ℕ

abbrev pub lists_of : List ℕ → List ℕ → List ℕ → Lists
lists_of output stored rest = record { output = output; stored = stored; rest = rest }

-- the rest of the input behind the other two lists
abbrev pub rest_from : List ℕ → List ℕ → List ℕ → Result Lists SaveFault
rest_from output stored bytes =
    list_at most_rest (1048 + length output + length stored) bytes >>= λ rest. Ok (lists_of output stored rest)

-- data memory behind the output, and what follows
abbrev pub stored_from : List ℕ → List ℕ → Result Lists SaveFault
stored_from output bytes = stored_at (1044 + length output) bytes >>= λ stored. rest_from output stored bytes

-- the three lists
abbrev pub lists_from : List ℕ → Result Lists SaveFault
lists_from bytes = list_at most_output 1040 bytes >>= λ output. stored_from output bytes

-- what stands before the image
unfoldable pub front_at : List ℕ → Result Lists SaveFault
front_at bytes = magic_at bytes >>= λ u. version_at bytes >>= λ v. head_at bytes >>= λ w. lists_from bytes

-- the next block, where there are bytes for it
abbrev pub next_in : List ℕ → ℕ
next_in bytes = big_number 4 (drop 12 bytes)

-- the first n words of eight bytes each
unfoldable pub words : ℕ → List ℕ → List ℕ
words zero bytes = []
words (suc n) bytes = big_number 8 bytes ∷ words n (drop 8 bytes)

-- the registers
abbrev pub registers_in : List ℕ → List ℕ
registers_in bytes = words 128 (drop 16 bytes)

-- where the image begins behind these lists
abbrev pub image_place : Lists → ℕ
image_place l = 1052 + length l.output + length l.stored + length l.rest

-- a call that takes no memory returned what reading gives
abbrev pub Decodes : {X Y : Type 0} → (X → Y) → Result X SaveFault → Result Y SaveFault → Type 0
Decodes view (Ok x) read = read ≡ Ok (view x)
Decodes view (Err e) read = read ≡ Err e
