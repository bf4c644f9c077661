-- What writing puts together, and the bytes that data memory begins with.
use Rattle.std.proofs.Common.{◌≡◌, ℕ, zero, suc, ◌+◌, ◌-◌, ◌^◌, ◌≤◌, ◌<◌, List, [], ◌∷◌, ◌++◌, length, take}
use Rattle.std.proofs.Common.{replicate, get_or}
use Rattle.std.proofs.Common.{refl, sym, ap, subst, ◌∙◌, arith, append_assoc}
use Rattle.std.specs.Prelude.{All}
use Rattle.std.specs.List.{flat_map}
use Rattle.std.proofs.lemmas.List.{length-take-le, get_or-take}
use Rattle.byteorder.specs.Endian.{big_bytes}
use Rattle.trips_isa.specs.declared.block.Image.{Image}
use Rattle.trips_isa.specs.Images.{last_byte}
use Rattle.trips_isa.specs.Stores.{data_size}
use Rattle.trips_isa.specs.Machine.{State, memory_of}
use Rattle.block_check.specs.Faults.{IsGood}
use Rattle.block_image.specs.Spelling.{ImageBytes}
use Rattle.block_image.proofs.Loops.{last_is}
use Rattle.machine_save.specs.Limits.{most_output, most_rest}
use Rattle.machine_save.specs.Spelling.{magic, head, listed, SaveBytes}

-- lists that were put one behind the other
pub joined : (words output stored rest part : List ℕ) (next : ℕ)
    → (((((([] ++ magic ++ big_bytes 4 1) ++ big_bytes 4 next) ++ words)
    ++ (big_bytes 4 (length output) ++ output)) ++ (big_bytes 4 (length stored) ++ stored))
    ++ (big_bytes 4 (length rest) ++ rest)) ++ part
    ≡ magic ++ (big_bytes 4 1 ++ (big_bytes 4 next ++ (words ++ listed output (listed stored (listed rest part)))))
joined words output stored rest part next =
    let front : List ℕ = (([] ++ magic ++ big_bytes 4 1) ++ big_bytes 4 next) ++ words in
    let o : List ℕ = big_bytes 4 (length output) ++ output in
    let s : List ℕ = big_bytes 4 (length stored) ++ stored in
    let r : List ℕ = big_bytes 4 (length rest) ++ rest in
    append_assoc ((front ++ o) ++ s) r part
    ∙ append_assoc (front ++ o) s (r ++ part)
    ∙ append_assoc front o (s ++ (r ++ part))
    ∙ append_assoc ((magic ++ big_bytes 4 1) ++ big_bytes 4 next) words (o ++ (s ++ (r ++ part)))
    ∙ ap (λ (x : List ℕ). magic ++ (big_bytes 4 1 ++ (big_bytes 4 next ++ (words ++ x))))
    (append_assoc (big_bytes 4 (length output)) output (s ++ (r ++ part))
    ∙ ap (λ (x : List ℕ). listed output x) (append_assoc (big_bytes 4 (length stored)) stored (r ++ part)
    ∙ ap (λ (x : List ℕ). listed stored x) (append_assoc (big_bytes 4 (length rest)) rest part)))

-- memory behind its first bytes is zeros
abbrev pub ZerosFrom : ℕ → List ℕ → Type 0
ZerosFrom n memory = memory ≡ take n memory ++ replicate (length memory - n) 0

-- no zero ends the bytes, where the one before is none
pub not_zero : (memory : List ℕ) (n : ℕ) → n ≤ length memory → (0 < n → get_or memory (n - 1) 0 ≡ 0 → ⊥)
    → last_byte (take n memory) ≡ 0 → ⊥
not_zero memory zero few some z = absurd (let one : 1 ≡ 0 = z in omega (arith, one))
not_zero memory (suc n) few some z =
    let size : length (take (suc n) memory) ≡ suc n = length-take-le (suc n) memory few in
    let last : get_or (take (suc n) memory) (length (take (suc n) memory) - 1) 0 ≡ last_byte (take (suc n) memory) =
    last_is (take (suc n) memory) (omega (arith, size)) in
    let at : length (take (suc n) memory) - 1 ≡ n = omega (arith, size) in
    let down : suc n - 1 ≡ n = omega arith in
    some (omega arith) (ap (λ (k : ℕ). get_or memory k 0) down
    ∙ sym (get_or-take (suc n) memory n 0 (omega arith))
    ∙ ap (λ (k : ℕ). get_or (take (suc n) memory) k 0) (sym at) ∙ last ∙ z)

-- each word of a list stands below a bound, where those of an equal list do
pub below_all : (xs ys : List ℕ) (k d : ℕ) → ys ≡ xs → k < length xs → ((i : ℕ) → get_or ys i 0 < 2 ^ 64)
    → get_or xs k d < 2 ^ 64
below_all xs ys k d same l each =
    let a : get_or xs k d ≡ get_or xs k 0 = there xs k d l in
    let b : get_or ys k 0 ≡ get_or xs k 0 = ap (λ (zs : List ℕ). get_or zs k 0) same in
    let c : get_or ys k 0 < 2 ^ 64 = each k in
    omega (arith, a, b, c)
  where
    there : (xs : List ℕ) (k d : ℕ) → k < length xs → get_or xs k d ≡ get_or xs k 0
    there [] k d l = absurd (omega (arith, l))
    there (x ∷ xs) zero d l = refl
    there (x ∷ xs) (suc k) d l = there xs k d (omega (arith, l))

-- the bytes save a state and any image of good blocks that stands behind it
pub saved : (s : State) (registers memory stored part bytes : List ℕ) → length registers ≡ 128
    → registers ≡ s.registers → All (λ (w : ℕ). w < 2 ^ 64) registers → memory ≡ s.memory
    → length memory ≡ data_size → memory ≡ stored ++ replicate (length memory - length stored) 0
    → (last_byte stored ≡ 0 → ⊥) → length stored ≤ length memory → s.next < 2 ^ 32
    → length s.output ≤ most_output → length s.rest ≤ most_rest
    → bytes ≡ head s.next registers (listed s.output (listed stored (listed s.rest part)))
    → (of : Image) → ImageBytes of part → All IsGood of.blocks → s.next < length of.blocks → SaveBytes of s bytes
unfolding memory_of
saved s registers memory stored part bytes count same each held size begins last few small output rest spelled of is
    good inside =
    record {
      stored = stored;
      memory = sym held ∙ begins ∙ ap (λ (n : ℕ). stored ++ replicate (n - length stored) 0) size;
      part = part;
      front = record {
        few_output = output;
        few_stored = omega (arith, size, few);
        last = last;
        few_rest = rest;
        spelled = record {
          fits = small;
          count = ap (λ (x : List ℕ). length x) (sym same) ∙ count;
          words = subst (λ (xs : List ℕ). All (λ (w : ℕ). w < 2 ^ 64) xs) same each;
          spelled = spelled
              ∙ ap (λ (x : List ℕ). head s.next x (listed s.output (listed stored (listed s.rest part)))) same;
        };
      };
      is_image = is;
      good = good;
      inside = inside;
    }
