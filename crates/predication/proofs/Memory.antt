-- Memory under the stores of lower numbers, and what a load sees of it.
use Rattle.std.proofs.Common.{◌≡◌, ◌≢◌, ℕ, zero, suc, ◌+◌, ◌-◌, ◌*◌, ◌/◌, ◌%◌, ◌^◌, ◌<◌, ◌≤◌, List, [], ◌∷◌}
use Rattle.std.proofs.Common.{◌++◌, ◌⊎◌, inl, inr, length, refl, sym, ap, ◌∙◌, arith, cond, nat_lt, nat_le}
use Rattle.std.proofs.Common.{Bool, true, false, ◌&&◌}
use Rattle.std.specs.Prelude.{Option, Some, None, slice_index, slice_set}
use Rattle.std.proofs.lemmas.Bool.{cases_lt}
use Rattle.std.proofs.lemmas.Bool.Decides.{nat_tests}
use Rattle.std.proofs.lemmas.List.{get_or-set_same, get_or-set_other}
use Rattle.std.proofs.Math.Nat.{div-div-eq-div-mul}
use Rattle.std.proofs.Math.ListN.{length-set}
use Rattle.trips_isa.specs.declared.op.Op.{Op}
use Rattle.trips_isa.specs.declared.block.Stored.{Stored}
use Rattle.trips_isa.specs.declared.block.Inst.{Inst}
use Rattle.trips_isa.specs.Forms.{size_of}
use Rattle.trips_isa.specs.Stores.{data_size, is_good_address, word_store, byte_of, or_byte, byte_seen}
use Rattle.trips_isa.specs.Stores.{bytes_seen, put_bytes, put_value, store_all, listed, listed_below}
use Rattle.ir_forms.specs.inside.HyperRuns.{saved, number_in}

pub store_append : (a b : List Stored) (mem : List ℕ) → store_all mem (a ++ b) ≡ store_all (store_all mem a) b
store_append [] b mem = refl
store_append (s ∷ a) b mem = store_append a b (put_value mem s s.value)

-- the byte of a number of k bytes that stands at x, where the number stands at a
abbrev pub byte_in : ℕ → ℕ → ℕ → ℕ → Option ℕ
byte_in a k v x = cond (nat_le a x && nat_lt (x - a) k) (Some (v / 2 ^ (8 * (k - 1 - (x - a))) % 256)) None

in_test : (a k x : ℕ) → a ≤ x → x < a + k → (nat_le a x && nat_lt (x - a) k) ≡ true
in_test a k x p q = let r : x - a < k = omega arith in grind (arith, nat_tests)

out_low : (a k x : ℕ) → x < a → (nat_le a x && nat_lt (x - a) k) ≡ false
out_low a k x p = grind (arith, nat_tests)

out_high : (a k x : ℕ) → a + k ≤ x → (nat_le a x && nat_lt (x - a) k) ≡ false
out_high a k x p = let r : k ≤ x - a = omega arith in grind (arith, nat_tests)

next_byte : (v e : ℕ) → v / 256 / 2 ^ (8 * e) ≡ v / 2 ^ (8 * suc e)
next_byte v e =
    let p : 2 ^ (8 * suc e) ≡ 256 * 2 ^ (8 * e) = pow_step e in
    div-div-eq-div-mul v 256 (2 ^ (8 * e)) ∙ ap (λ (d : ℕ). v / d) (sym p)
  where
    pow_step : (e : ℕ) → 2 ^ (8 * suc e) ≡ 256 * 2 ^ (8 * e)
    pow_step e = let q : 8 * suc e ≡ suc (suc (suc (suc (suc (suc (suc (suc (8 * e)))))))) =
        omega arith in ap (λ (d : ℕ). 2 ^ d) q ∙ omega arith

pub put_length : (k : ℕ) (mem : List ℕ) (a v : ℕ) → length (put_bytes mem a k v) ≡ length mem
put_length zero mem a v = refl
put_length (suc k) mem a v = put_length k (slice_set mem (a + k) (v % 256)) a (v / 256)
    ∙ length-set mem (a + k) (v % 256)

pub put_seen : (k : ℕ) (mem : List ℕ) (a v x : ℕ) → a + k ≤ length mem → slice_index (put_bytes mem a k v) x
    ≡ or_byte (byte_in a k v x) (slice_index mem x)
put_seen zero mem a v x l = go (cases_lt x a)
  where
    go : (x < a) ⊎ (a ≤ x) → slice_index mem x ≡ or_byte (byte_in a zero v x) (slice_index mem x)
    go (inl p) = rw (out_low a zero x p) refl
    go (inr p) = rw (out_high a zero x (omega arith)) refl
put_seen (suc k) mem a v x l = put_seen k (slice_set mem (a + k) (v % 256)) a (v / 256) x
    (omega (arith, length-set mem (a + k) (v % 256), l))
    ∙ go (cases_lt x a) (cases_lt x (a + k)) (cases_lt x (a + suc k))
  where
    go : (x < a) ⊎ (a ≤ x) → (x < a + k) ⊎ (a + k ≤ x) → (x < a + suc k) ⊎ (a + suc k ≤ x)
        → or_byte (byte_in a k (v / 256) x) (slice_index (slice_set mem (a + k) (v % 256)) x)
        ≡ or_byte (byte_in a (suc k) v x) (slice_index mem x)
    go (inl p) q r =
        let ne : x ≢ a + k = omega arith in
        rw (out_low a k x p, out_low a (suc k) x p) (get_or-set_other mem (a + k) x (v % 256) 0 ne)
    go (inr p) (inl q) r =
        let e : suc (k - 1 - (x - a)) ≡ suc k - 1 - (x - a) = omega arith in
        rw (in_test a k x p q, in_test a (suc k) x p (omega arith))
        (ap (λ (d : ℕ). d % 256) (next_byte v (k - 1 - (x - a)) ∙ ap (λ (d : ℕ). v / 2 ^ (8 * d)) e))
    go (inr p) (inr q) (inl r) =
        let e : x ≡ a + k = omega arith in
        let z : suc k - 1 - (x - a) ≡ 0 = omega arith in
        rw (out_high a k x q, in_test a (suc k) x p r)
        (ap (λ (i : ℕ). slice_index (slice_set mem (a + k) (v % 256)) i) e
        ∙ get_or-set_same mem (a + k) (v % 256) 0 (omega arith)
        ∙ sym (ap (λ (d : ℕ). v / 2 ^ (8 * d) % 256) z ∙ omega arith))
    go (inr p) (inr q) (inr r) =
        let ne : x ≢ a + k = omega arith in
        rw (out_high a k x q, out_high a (suc k) x r) (get_or-set_other mem (a + k) x (v % 256) 0 ne)

-- the stores of numbers below m make these bytes
pub record Holds (st : ℕ → Option Stored) (mem : List ℕ) (m : ℕ) (bytes : List ℕ) : Type 0 where
  pub listed : store_all mem (listed_below st m) ≡ bytes
  pub seen : (a : ℕ) → byte_seen st (slice_index mem) m a ≡ slice_index bytes a
  pub length : length bytes ≡ data_size

-- before all numbers memory is what it was
pub holds_first : (st : ℕ → Option Stored) (mem : List ℕ) → length mem ≡ data_size → Holds st mem 0 mem
holds_first st mem l = record { listed = refl; seen = λ a. refl; length = l }

-- a number under which nothing is stored changes no byte
pub holds_none : (st : ℕ → Option Stored) (mem : List ℕ) (m : ℕ) (bytes : List ℕ) → st m ≡ None
    → Holds st mem m bytes → Holds st mem (suc m) bytes
holds_none st mem m bytes e w = record {
  listed = store_append (listed_below st m) (listed (st m)) mem
      ∙ ap (λ (s : Option Stored). store_all (store_all mem (listed_below st m)) (listed s)) e ∙ w.listed;
  seen = λ a. ap (λ (s : Option Stored). or_byte (byte_of s a) (byte_seen st (slice_index mem) m a)) e ∙ w.seen a;
  length = w.length;
}

good_inside : (a k : ℕ) → is_good_address a k ≡ true → a + k ≤ data_size
good_inside a k e = grind (arith, nat_tests)

-- what a store of a word makes of bytes
pub store_puts : (i : Inst) (a v : ℕ) (bytes : List ℕ) → put_value bytes (word_store i a v) (word_store i a v).value
    ≡ saved i.op bytes a v
store_puts i a v bytes = go (is_good_address a (size_of i.op)) refl
  where
    go : (b : Bool) → is_good_address a (size_of i.op) ≡ b
        → put_value bytes (word_store i a v) (word_store i a v).value ≡ saved i.op bytes a v
    go true e = rw e refl
    go false e = rw e refl

pub store_seen : (i : Inst) (a v x : ℕ) (bytes : List ℕ) → length bytes ≡ data_size
    → or_byte (byte_of (Some (word_store i a v)) x) (slice_index bytes x) ≡ slice_index (saved i.op bytes a v) x
store_seen i a v x bytes l = go (is_good_address a (size_of i.op)) refl
  where
    go : (b : Bool) → is_good_address a (size_of i.op) ≡ b
        → or_byte (byte_of (Some (word_store i a v)) x) (slice_index bytes x) ≡ slice_index (saved i.op bytes a v) x
    go true e =
        let inside = good_inside a (size_of i.op) e in
        rw e (sym (put_seen (size_of i.op) bytes a v x (omega (arith, inside, l))))
    go false e = rw e refl

pub saved_length : (o : Op) (bytes : List ℕ) (a v : ℕ) → length (saved o bytes a v) ≡ length bytes
saved_length o bytes a v = go (is_good_address a (size_of o)) refl
  where
    go : (b : Bool) → is_good_address a (size_of o) ≡ b → length (saved o bytes a v) ≡ length bytes
    go true e = rw e (put_length (size_of o) bytes a v)
    go false e = rw e refl

-- a number under which a word is stored changes memory as its store does
pub holds_store : (st : ℕ → Option Stored) (mem : List ℕ) (m : ℕ) (bytes : List ℕ) (i : Inst) (a v : ℕ) → st m
    ≡ Some (word_store i a v)
    → Holds st mem m bytes → Holds st mem (suc m) (saved i.op bytes a v)
holds_store st mem m bytes i a v e w = record {
  listed = store_append (listed_below st m) (listed (st m)) mem
      ∙ ap (λ (s : Option Stored). store_all (store_all mem (listed_below st m)) (listed s)) e
      ∙ ap (λ (b : List ℕ). put_value b (word_store i a v) (word_store i a v).value) w.listed
      ∙ store_puts i a v bytes;
  seen = λ x.
      ap (λ (s : Option Stored). or_byte (byte_of s x) (byte_seen st (slice_index mem) m x)) e
      ∙ ap (λ (b : ℕ). or_byte (byte_of (Some (word_store i a v)) x) b) (w.seen x)
      ∙ store_seen i a v x bytes w.length;
  length = saved_length i.op bytes a v ∙ w.length;
}

-- a load under a number sees memory as the lower stores have made it
pub holds_number : (st : ℕ → Option Stored) (mem : List ℕ) (m : ℕ) (bytes : List ℕ) → Holds st mem m bytes → (a k : ℕ)
    → bytes_seen st (slice_index mem) m a k ≡ number_in bytes a k
holds_number st mem m bytes w a zero = refl
holds_number st mem m bytes w a (suc k) =
    ap (λ (x : ℕ). x * 256 + byte_seen st (slice_index mem) m (a + k)) (holds_number st mem m bytes w a k)
    ∙ ap (λ (x : ℕ). number_in bytes a k * 256 + x) (w.seen (a + k))
