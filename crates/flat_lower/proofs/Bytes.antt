-- Words in byte memory: a load after a save, elsewhere, and where bytes open and close.
use Rattle.std.proofs.Common.{◌≡◌, ◌≢◌, ℕ, zero, suc, ◌+◌, ◌-◌, ◌*◌, ◌/◌, ◌%◌, ◌^◌, ◌<◌, ◌≤◌, ◌⊎◌}
use Rattle.std.proofs.Common.{inl, inr, Bool, true, false, cond, Option, Some, None, refl, sym, ap}
use Rattle.std.proofs.Common.{ap₂, ◌∙◌, subst, arith}
use Rattle.std.specs.Prelude.{◌&&◌, nat_eq, nat_lt, nat_le}
use Rattle.std.proofs.lemmas.Bool.Decides.{nat_tests}
use Rattle.c_tree.specs.declared.Kind.{Kind}
use Rattle.c_tree.specs.declared.Kind.TheVariants.{Char, UChar, Short, UShort, Int, UInt, Long, ULong}
use Rattle.c_tree.specs.declared.Kind.TheVariants as kind
use Rattle.c_constant.specs.Kinds.{converted}
use Rattle.c_constant.specs.Kinds.{bytes}
use Rattle.trips_isa.specs.declared.op.Op.{Op}
use Rattle.trips_isa.specs.Alu.{loaded_as}
use Rattle.trips_isa.specs.Forms as isa
use Rattle.trips_isa.specs.Stores.{is_good_address}
use Rattle.ir_forms.specs.inside.Cells.{Mark, Closed, Open, Held, Cell, Memory, number_at, byte_put}
use Rattle.ir_forms.specs.inside.Cells.{number_put, is_held, is_open, all_held, all_open, marked, provided}
use Rattle.ir_forms.specs.inside.Cells.{load, save}
use Rattle.ir_forms.specs.inside.FlatRuns.{checked}
use Rattle.c_constant.specs.Kinds.{IsWord}
use Rattle.flat_lower.specs.inside.Operations.{load_op, save_op}
use Rattle.c_constant.proofs.Conversions.{converted_is}

-- BYTES THAT ARE THE SAME

-- two memories agree on k bytes from an address on
abbrev pub SameOn : Memory → Memory → ℕ → ℕ → Type 0
SameOn m n a k = (i : ℕ) → i < k → m (a + i) ≡ n (a + i)

fewer : (m n : Memory) (a k : ℕ) → SameOn m n a (suc k) → SameOn m n a k
fewer m n a k h i lt = h i (omega arith)

number_same : (m n : Memory) (a k : ℕ) → SameOn m n a k → number_at m a k ≡ number_at n a k
number_same m n a zero h = refl
number_same m n a (suc k) h = ap₂ (λ x c. x * 256 + c.byte) (number_same m n a k (fewer m n a k h))
    (h k (omega arith))

held_same : (m n : Memory) (a k : ℕ) → SameOn m n a k → all_held m a k ≡ all_held n a k
held_same m n a zero h = refl
held_same m n a (suc k) h = ap₂ (λ x c. x && is_held c.mark) (held_same m n a k (fewer m n a k h))
    (h k (omega arith))

-- memories that are the same on some bytes have these open alike
pub open_same : (m n : Memory) (a k : ℕ) → SameOn m n a k → all_open m a k ≡ all_open n a k
open_same m n a zero h = refl
open_same m n a (suc k) h = ap₂ (λ x c. x && is_open c.mark) (open_same m n a k (fewer m n a k h))
    (h k (omega arith))

-- a load sees only its own bytes
pub load_same : (k : Kind) (m n : Memory) (a : ℕ) → SameOn m n a (bytes k)
    → load checked (load_op k) m a ≡ load checked (load_op k) n a
unfolding load
load_same k m n a h = go k h
  where
    by_size : (o : Op) (s : ℕ) → SameOn m n a s
        → cond (is_good_address a s) (provided true (all_held m a s) (loaded_as o (number_at m a s)))
        None ≡ cond (is_good_address a s) (provided true (all_held n a s)
        (loaded_as o (number_at n a s))) None
    by_size o s h = ap₂ (λ b x. cond (is_good_address a s) (provided true b (loaded_as o x)) None)
        (held_same m n a s h) (number_same m n a s h)

    go : (k : Kind) → SameOn m n a (bytes k)
        → load checked (load_op k) m a ≡ load checked (load_op k) n a
    go Char h = by_size (load_op Char) 1 h
    go UChar h = by_size (load_op UChar) 1 h
    go Short h = by_size (load_op Short) 2 h
    go UShort h = by_size (load_op UShort) 2 h
    go Int h = by_size (load_op Int) 4 h
    go UInt h = by_size (load_op UInt) 4 h
    go Long h = by_size (load_op Long) 8 h
    go ULong h = by_size (load_op ULong) 8 h
    go kind.Bool h = by_size (load_op kind.Bool) 1 h

-- WHAT A SAVE DOES

-- where a byte was put stands this byte
pub byte_here : (m : Memory) (a b : ℕ) → byte_put m a b a ≡ record { mark = Held; byte = b }
byte_here m a b =
    let e : nat_eq a a ≡ true = grind (arith, nat_tests) in
    ap (λ t. cond t (record { mark = Held; byte = b }) (m a)) e

byte_there : (m : Memory) (a b k : ℕ) → k ≢ a → byte_put m a b k ≡ m k
byte_there m a b k h =
    let e : nat_eq k a ≡ false = grind (arith, nat_tests) in
    ap (λ t. cond t (record { mark = Held; byte = b }) (m k)) e

-- bytes elsewhere stay
pub put_there : (k : ℕ) (m : Memory) (a v b : ℕ) → ((b < a) ⊎ (a + k ≤ b))
    → number_put m a k v b ≡ m b
put_there zero m a v b h = refl
put_there (suc k) m a v b (inl lt) = put_there k (byte_put m (a + k) (v % 256)) a (v / 256) b
    (inl lt) ∙ byte_there m (a + k) (v % 256) b (λ e. omega arith)
put_there (suc k) m a v b (inr le) = put_there k (byte_put m (a + k) (v % 256)) a (v / 256) b
    (inr (omega arith)) ∙ byte_there m (a + k) (v % 256) b (λ e. omega arith)

-- the low bytes of a number
abbrev pub low_bytes : ℕ → ℕ → ℕ
low_bytes zero v = 0
low_bytes (suc k) v = low_bytes k (v / 256) * 256 + v % 256

put_number : (k : ℕ) (m : Memory) (a v : ℕ) → number_at (number_put m a k v) a k ≡ low_bytes k v
put_number zero m a v = refl
put_number (suc k) m a v =
    let n = byte_put m (a + k) (v % 256) in
    let e : number_put n a k (v / 256) (a + k) ≡ record { mark = Held; byte = v % 256 } = put_there k n a (v / 256)
    (a + k) (inr (omega arith)) ∙ byte_here m (a + k) (v % 256) in
    ap₂ (λ x c. x * 256 + c.byte) (put_number k n a (v / 256)) e

put_held : (k : ℕ) (m : Memory) (a v : ℕ) → all_held (number_put m a k v) a k ≡ true
put_held zero m a v = refl
put_held (suc k) m a v =
    let n = byte_put m (a + k) (v % 256) in
    let e : number_put n a k (v / 256) (a + k) ≡ record { mark = Held; byte = v % 256 } = put_there k n a (v / 256)
    (a + k) (inr (omega arith)) ∙ byte_here m (a + k) (v % 256) in
    ap₂ (λ x c. x && is_held c.mark) (put_held k n a (v / 256)) e

-- what is open stays open
cell_open : (k : ℕ) (m : Memory) (a v b : ℕ) → is_open (m b).mark ≡ true
    → is_open (number_put m a k v b).mark ≡ true
cell_open zero m a v b h = h
cell_open (suc k) m a v b h = cell_open k (byte_put m (a + k) (v % 256)) a (v / 256) b
    (go (nat_eq b (a + k)))
  where
    go : (t : Bool) → is_open (cond t (record { mark = Held; byte = v % 256 }) (m b)).mark ≡ true
    go true = refl
    go false = h

both_true : (x y : Bool) → (x && y) ≡ true → (x ≡ true) × (y ≡ true)
both_true true true h = (refl, refl)
both_true true false h = absurd (cc h)
both_true false y h = absurd (cc h)

open_each : (m : Memory) (a k : ℕ) → all_open m a k ≡ true → (i : ℕ) → i < k
    → is_open (m (a + i)).mark ≡ true
open_each m a zero h i lt = absurd (omega arith)
open_each m a (suc k) h i lt = go (open_each m a k
    (both_true (all_open m a k) (is_open (m (a + k)).mark) h).0 i) (nat_eq i k) refl
  where
    go : (i < k → is_open (m (a + i)).mark ≡ true) → (t : Bool) → nat_eq i k ≡ t
        → is_open (m (a + i)).mark ≡ true
    go rest true e =
        let q : i ≡ k = grind (arith, nat_tests) in
        ap (λ i. is_open (m (a + i)).mark) q
        ∙ (both_true (all_open m a k) (is_open (m (a + k)).mark) h).1
    go rest false e =
        let q : i ≢ k = grind (arith, nat_tests) in
        rest (omega arith)

-- bytes of which each is open are all open
pub each_open : (m : Memory) (a k : ℕ) → ((i : ℕ) → i < k → is_open (m (a + i)).mark ≡ true)
    → all_open m a k ≡ true
each_open m a zero h = refl
each_open m a (suc k) h = ap₂ (λ x y. x && y) (each_open m a k (λ i lt. h i (omega arith)))
    (h k (omega arith))

-- a word that is put leaves open the bytes that were
pub put_open : (k : ℕ) (m : Memory) (a v b n : ℕ) → all_open m b n ≡ true
    → all_open (number_put m a k v) b n ≡ true
put_open k m a v b n h = each_open (number_put m a k v) b n
    (λ i lt. cell_open k m a v (b + i) (open_each m b n h i lt))

-- a word of a type, saved
pub save_is : (k : Kind) (m : Memory) (a v : ℕ) → is_good_address a (bytes k) ≡ true
    → all_open m a (bytes k) ≡ true → save checked (save_op k) m a v
    ≡ Some (number_put m a (bytes k) v)
unfolding save
save_is k m a v g h = go k g h
  where
    by_size : (s : ℕ) → is_good_address a s ≡ true → all_open m a s ≡ true
        → cond (is_good_address a s) (provided true (all_open m a s) (number_put m a s v)) None
        ≡ Some (number_put m a s v)
    by_size s g h = ap₂ (λ x y. cond x (provided true y (number_put m a s v)) None) g h

    go : (k : Kind) → is_good_address a (bytes k) ≡ true → all_open m a (bytes k) ≡ true
        → save checked (save_op k) m a v ≡ Some (number_put m a (bytes k) v)
    go Char g h = by_size 1 g h
    go UChar g h = by_size 1 g h
    go Short g h = by_size 2 g h
    go UShort g h = by_size 2 g h
    go Int g h = by_size 4 g h
    go UInt g h = by_size 4 g h
    go Long g h = by_size 8 g h
    go ULong g h = by_size 8 g h
    go kind.Bool g h = by_size 1 g h

-- the bytes of a word of a type make it again
low_one : (v : ℕ) → low_bytes 1 v ≡ v % 256
low_one v = omega arith

low_two : (v : ℕ) → low_bytes 2 v ≡ v % 65536
low_two v = omega arith

low_four : (v : ℕ) → low_bytes 4 v ≡ v % 4294967296
low_four v = omega arith

low_eight : (v : ℕ) → v < 2 ^ 64 → low_bytes 8 v ≡ v
low_eight v h = omega arith

again_char : (v : ℕ) → converted Char (v % 256) ≡ converted Char v
unfolding converted
again_char v =
    let e : v % 256 % 256 ≡ v % 256 = omega arith in
    ap (λ x. cond (nat_lt x 128) x (x + (18446744073709551616 - (128 + 128)))) e

again_short : (v : ℕ) → converted Short (v % 65536) ≡ converted Short v
unfolding converted
again_short v =
    let e : v % 65536 % 65536 ≡ v % 65536 = omega arith in
    ap (λ x. cond (nat_lt x 32768) x (x + (18446744073709551616 - (32768 + 32768)))) e

again_int : (v : ℕ) → converted Int (v % 4294967296) ≡ converted Int v
unfolding converted
again_int v =
    let e : v % 4294967296 % 4294967296 ≡ v % 4294967296 = omega arith in
    ap (λ x. cond (nat_lt x 2147483648) x (x + (18446744073709551616 - (2147483648 + 2147483648)))) e

loaded_again : (k : Kind) (v : ℕ) → IsWord k v → loaded_as (load_op k) (low_bytes (bytes k) v) ≡ v
unfolding converted
loaded_again Char v f = ap (loaded_as (load_op Char)) (low_one v) ∙ again_char v
    ∙ converted_is Char v f
loaded_again UChar v f = let n : v < 256 = f.narrow in omega arith
loaded_again Short v f = ap (loaded_as (load_op Short)) (low_two v) ∙ again_short v
    ∙ converted_is Short v f
loaded_again UShort v f = let n : v < 65536 = f.narrow in low_two v ∙ omega arith
loaded_again Int v f = ap (loaded_as (load_op Int)) (low_four v) ∙ again_int v
    ∙ converted_is Int v f
loaded_again UInt v f = let n : v < 4294967296 = f.narrow in low_four v ∙ omega arith
loaded_again Long v f = low_eight v f.below
loaded_again ULong v f = low_eight v f.below
loaded_again kind.Bool v f = let n : v < 2 = f.narrow in omega arith

-- a load after a save of the same element
pub load_saved : (k : Kind) (m : Memory) (a v : ℕ) → is_good_address a (bytes k) ≡ true
    → IsWord k v → load checked (load_op k) (number_put m a (bytes k) v) a ≡ Some v
unfolding load
load_saved k m a v g f = go k g ∙ ap Some (loaded_again k v f)
  where
    by_size : (o : Op) (s : ℕ) → is_good_address a s ≡ true
        → cond (is_good_address a s) (provided true (all_held (number_put m a s v) a s)
        (loaded_as o (number_at (number_put m a s v) a s))) None ≡ Some (loaded_as o (low_bytes s v))
    by_size o s g =
        ap₂ (λ x y. cond x (provided true y (loaded_as o (number_at (number_put m a s v) a s)))
        None) g (put_held s m a v)
        ∙ ap (λ n. Some (loaded_as o n)) (put_number s m a v)

    go : (k : Kind) → is_good_address a (bytes k) ≡ true
        → load checked (load_op k) (number_put m a (bytes k) v) a
        ≡ Some (loaded_as (load_op k) (low_bytes (bytes k) v))
    go Char g = by_size (load_op Char) 1 g
    go UChar g = by_size (load_op UChar) 1 g
    go Short g = by_size (load_op Short) 2 g
    go UShort g = by_size (load_op UShort) 2 g
    go Int g = by_size (load_op Int) 4 g
    go UInt g = by_size (load_op UInt) 4 g
    go Long g = by_size (load_op Long) 8 g
    go ULong g = by_size (load_op ULong) 8 g
    go kind.Bool g = by_size (load_op kind.Bool) 1 g

-- a load of other bytes
pub load_apart : (k : Kind) (m : Memory) (a s v b : ℕ) → ((b + bytes k ≤ a) ⊎ (a + s ≤ b))
    → load checked (load_op k) (number_put m a s v) b ≡ load checked (load_op k) m b
load_apart k m a s v b (inl h) = load_same k (number_put m a s v) m b
    (λ i lt. put_there s m a v (b + i) (inl (omega arith)))
load_apart k m a s v b (inr h) = load_same k (number_put m a s v) m b
    (λ i lt. put_there s m a v (b + i) (inr (omega arith)))

-- MARKS

marked_in : (m : Memory) (at size : ℕ) (c : Mark) (b : ℕ) → at ≤ b → b < at + size
    → marked m at size c b ≡ record { mark = c; byte = (m b).byte }
unfolding marked
marked_in m at size c b le lt =
    let e : nat_le at b ≡ true = grind (arith, nat_tests) in
    let f : nat_lt b (at + size) ≡ true = grind (arith, nat_tests) in
    ap₂ (λ x y. cond (x && y) (record { mark = c; byte = (m b).byte }) (m b)) e f

-- Marking bytes leaves those outside.
pub marked_out : (m : Memory) (at size : ℕ) (c : Mark) (b : ℕ) → ((b < at) ⊎ (at + size ≤ b))
    → marked m at size c b ≡ m b
unfolding marked
marked_out m at size c b (inl lt) =
    let e : nat_le at b ≡ false = grind (arith, nat_tests) in
    ap (λ x. cond (x && nat_lt b (at + size)) (record { mark = c; byte = (m b).byte }) (m b)) e
marked_out m at size c b (inr le) =
    let f : nat_lt b (at + size) ≡ false = grind (arith, nat_tests) in
    go (nat_le at b) ∙ refl
  where
    go : (x : Bool) → cond (x && nat_lt b (at + size)) (record { mark = c; byte = (m b).byte })
        (m b) ≡ m b
    go true =
        let f : nat_lt b (at + size) ≡ false = grind (arith, nat_tests) in
        ap (λ y. cond y (record { mark = c; byte = (m b).byte }) (m b)) f
    go false = refl

-- what opens is open
pub opened : (m : Memory) (at size b n : ℕ) → at ≤ b → b + n ≤ at + size
    → all_open (marked m at size Open) b n ≡ true
opened m at size b n le lt = each_open (marked m at size Open) b n
    (λ i h. ap (λ c. is_open c.mark) (marked_in m at size Open (b + i) (omega arith) (omega arith)))

-- elsewhere what is open stays open, and loads see the same
pub marked_open : (m : Memory) (at size : ℕ) (c : Mark) (b n : ℕ) → ((b + n ≤ at) ⊎ (at + size ≤ b))
    → all_open m b n ≡ true → all_open (marked m at size c) b n ≡ true
marked_open m at size c b n (inl h) o = open_same (marked m at size c) m b n
    (λ i lt. marked_out m at size c (b + i) (inl (omega arith))) ∙ o
marked_open m at size c b n (inr h) o = open_same (marked m at size c) m b n
    (λ i lt. marked_out m at size c (b + i) (inr (omega arith))) ∙ o

pub load_marked : (k : Kind) (m : Memory) (at size : ℕ) (c : Mark) (b : ℕ)
    → ((b + bytes k ≤ at) ⊎ (at + size ≤ b))
    → load checked (load_op k) (marked m at size c) b ≡ load checked (load_op k) m b
load_marked k m at size c b (inl h) = load_same k (marked m at size c) m b
    (λ i lt. marked_out m at size c (b + i) (inl (omega arith)))
load_marked k m at size c b (inr h) = load_same k (marked m at size c) m b
    (λ i lt. marked_out m at size c (b + i) (inr (omega arith)))
