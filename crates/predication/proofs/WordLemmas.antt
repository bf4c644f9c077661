-- Loads from bytes give words, and stores leave bytes.
use Rattle.std.proofs.Common.{◌≡◌, ◌≢◌, ℕ, zero, suc, ◌+◌, ◌/◌, ◌%◌, ◌^◌, ◌<◌, ◌≤◌, List, [], ◌∷◌, ◌⊎◌, inl}
use Rattle.std.proofs.Common.{inr, length, refl, ap, ◌∙◌, arith, cond, nat_eq, Bool, true, false}
use Rattle.std.specs.Prelude.{None, slice_index, slice_set}
use Rattle.std.proofs.lemmas.Bool.{cases_lt}
use Rattle.std.proofs.lemmas.Bool.Decides.{nat_tests}
use Rattle.std.proofs.lemmas.List.{get_or-set_same, get_or-set_other, get_or_past}
use Rattle.std.proofs.Math.ListN.{length-set}
use Rattle.trips_isa.specs.declared.op.Op.{Op}
use Rattle.trips_isa.specs.Forms.{size_of}
use Rattle.trips_isa.specs.Alu.{loaded_as}
use Rattle.trips_isa.specs.Stores.{is_good_address, put_bytes}
use Rattle.trips_isa.proofs.WordLemmas.{loaded_fits, seen_is_word}
use Rattle.ir_forms.specs.inside.HyperRuns.{Machine, loaded, saved, number_in}
use Rattle.ir_forms.specs.inside.HyperWords.{AreBytes, HasWords}

-- each byte is one
abbrev pub Bytes : List ℕ → Type 0
Bytes mem = (a : ℕ) → slice_index mem a < 256

-- a load gives a word
pub load_word : (o : Op) (mem : List ℕ) (a : ℕ) → Bytes mem → loaded o mem a < 2 ^ 64
load_word o mem a b = go (is_good_address a (size_of o))
  where
    go : (t : Bool) → cond t (loaded_as o (number_in mem a (size_of o))) 0 < 2 ^ 64
    go true =
        loaded_fits o (number_in mem a (size_of o)) (seen_is_word (λ n. None) (slice_index mem) 0 a o b)
    go false = omega arith

set_bytes : (mem : List ℕ) (i v : ℕ) → v < 256 → Bytes mem → Bytes (slice_set mem i v)
set_bytes mem i v l b a = go (nat_eq a i) refl
  where
    go : (t : Bool) → nat_eq a i ≡ t → slice_index (slice_set mem i v) a < 256
    go true e = same (cases_lt i (length mem))
      where
        same : (i < length mem) ⊎ (length mem ≤ i) → slice_index (slice_set mem i v) a < 256
        same (inl p) =
            let z : a ≡ i = grind (arith, nat_tests) in
            let y : slice_index (slice_set mem i v) a ≡ v =
            ap (λ (q : ℕ). slice_index (slice_set mem i v) q) z ∙ get_or-set_same mem i v 0 p in
            omega (arith, y, l)
        same (inr p) =
            let z : a ≡ i = grind (arith, nat_tests) in
            let y : slice_index (slice_set mem i v) a ≡ 0 =
            get_or_past (slice_set mem i v) a 0 (omega (arith, length-set mem i v, p, z)) in
            omega (arith, y)
    go false e =
        let ne : a ≢ i = grind (arith, nat_tests) in
        let y : slice_index (slice_set mem i v) a ≡ slice_index mem a = get_or-set_other mem i a v 0 ne in
        omega (arith, y, b a)

put_all : (k : ℕ) (mem : List ℕ) (a v : ℕ) → Bytes mem → Bytes (put_bytes mem a k v)
put_all zero mem a v b = b
put_all (suc k) mem a v b =
    put_all k (slice_set mem (a + k) (v % 256)) a (v / 256) (set_bytes mem (a + k) (v % 256) (omega arith) b)

-- a store leaves bytes
pub save_bytes : (o : Op) (mem : List ℕ) (a v : ℕ) → Bytes mem → Bytes (saved o mem a v)
save_bytes o mem a v b = go (is_good_address a (size_of o))
  where
    go : (t : Bool) → Bytes (cond t (put_bytes mem a (size_of o) v) mem)
    go true = put_all (size_of o) mem a v b
    go false = b

-- the registers are words, and memory is of bytes
pub record Words (m : Machine) : Type 0 where
  pub registers : (r : ℕ) → m.registers r < 2 ^ 64
  pub bytes : Bytes m.memory

all_bytes : (mem : List ℕ) → AreBytes mem → Bytes mem
all_bytes [] b a = omega arith
all_bytes (x ∷ mem) b zero = b 0 0 (omega arith)
all_bytes (x ∷ mem) b (suc a) = all_bytes mem (λ j d l. b (suc j) d (omega arith)) a

-- a machine that has words has them in its registers and in its memory
pub words_of : (m : Machine) → HasWords m → Words m
words_of m w = record { registers = w.registers; bytes = all_bytes m.memory w.memory }
