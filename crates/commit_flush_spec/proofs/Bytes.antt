-- What stores leave in memory is what is seen behind them.
use Rattle.std.proofs.Common.{◌≡◌, ◌≢◌, ℕ, zero, suc, ◌+◌, ◌-◌, ◌*◌, ◌/◌, ◌%◌, ◌^◌, ◌<◌, ◌≤◌, Bool, true}
use Rattle.std.proofs.Common.{false, cond, nat_lt, nat_le, ◌&&◌, ◌==◌, ◌⊎◌, inl, inr, List, [], ◌∷◌, ◌++◌}
use Rattle.std.proofs.Common.{Option, Some, None, set, get_or, length, refl, sym, ap, ◌∙◌, subst, arith}
use Rattle.std.proofs.lemmas.List.{get_or-set_other, length-set, get_or-set_same}
use Rattle.std.proofs.lemmas.Nat.{pow-add}
use Rattle.std.proofs.Math.Nat.{div-div-eq-div-mul}
use Rattle.std.proofs.lemmas.Bool.Decides.{nat_tests}
use Rattle.trips_isa.specs.declared.block.Stored.{Stored}
use Rattle.trips_isa.specs.Stores.{byte_stored, byte_of, or_byte, put_bytes}
use Rattle.trips_isa.specs.Stores.{put_value, store_all, listed, listed_below}
use Rattle.trips_isa.specs.Stores.{byte_seen}

pub put_size : (mem : List ℕ) (a k v : ℕ) → length (put_bytes mem a k v) ≡ length mem
put_size mem a zero v = refl
put_size mem a (suc k) v = put_size (set mem (a + k) (v % 256)) a k (v / 256) ∙ length-set mem (a + k) (v % 256)

pub put_out : (mem : List ℕ) (a k v x : ℕ) → (x < a) ⊎ (a + k ≤ x) → get_or (put_bytes mem a k v) x 0 ≡ get_or mem x 0
put_out mem a zero v x h = refl
put_out mem a (suc k) v x h =
    put_out (set mem (a + k) (v % 256)) a k (v / 256) x (elim h [ inl z ↦ inl z | inr z ↦ inr (omega arith) ])
    ∙ get_or-set_other mem (a + k) x (v % 256) 0 (elim h [ inl z ↦ λ e. omega arith | inr z ↦ λ e. omega arith ])

-- the byte at a distance from the end
pub byte_at : ℕ → ℕ → ℕ
byte_at v zero = v % 256
byte_at v (suc m) = byte_at (v / 256) m

pub put_in : (mem : List ℕ) (a k v j : ℕ) → a + k ≤ length mem → j < k
    → get_or (put_bytes mem a k v) (a + j) 0 ≡ byte_at v (k - 1 - j)
unfolding byte_at
put_in mem a zero v j h l = absurd (omega arith)
put_in mem a (suc k) v j h l =
    go (j == k) refl (λ lt. put_in (set mem (a + k) (v % 256)) a k (v / 256) j
    (let s : length (set mem (a + k) (v % 256)) ≡ length mem = length-set mem (a + k) (v % 256) in omega arith) lt)
  where
    go : (b : Bool) → (j == k) ≡ b
        → (j < k → get_or (put_bytes (set mem (a + k) (v % 256)) a k (v / 256)) (a + j) 0 ≡ byte_at (v / 256)
        (k - 1 - j))
        → get_or (put_bytes (set mem (a + k) (v % 256)) a k (v / 256)) (a + j) 0 ≡ byte_at v (suc k - 1 - j)
    go true e rest =
        let same : j ≡ k = grind arith in
        let none : suc k - 1 - j ≡ 0 = omega arith in
        put_out (set mem (a + k) (v % 256)) a k (v / 256) (a + j) (inr (omega arith))
        ∙ ap (λ y. get_or (set mem (a + k) (v % 256)) (a + y) 0) same
        ∙ get_or-set_same mem (a + k) (v % 256) 0 (omega arith)
        ∙ sym (ap (byte_at v) none)
    go false e rest =
        let other : j ≢ k = λ z. let bad : (j == k) ≡ true = grind (arith, z) in absurd (cc) in
        let lt : j < k = omega arith in
        let up : suc k - 1 - j ≡ suc (k - 1 - j) = omega arith in
        rest lt ∙ sym (ap (byte_at v) up)

byte_is : (v m : ℕ) → byte_at v m ≡ v / 2 ^ (8 * m) % 256
unfolding byte_at
byte_is v zero = let e : v / 1 ≡ v = omega arith in ap (λ x. x % 256) (sym e)
byte_is v (suc m) =
    let up : 8 * suc m ≡ 8 + 8 * m = omega arith in
    byte_is (v / 256) m ∙ ap (λ x. x % 256) (div-div-eq-div-mul v 256 (2 ^ (8 * m))
    ∙ ap (λ x. v / x) (sym (ap (λ x. 2 ^ x) up ∙ pow-add 2 8 (8 * m))))

-- one store --------------------------------------------------------------------------------------

-- a store that has bytes has them inside a memory of n bytes
abbrev pub FitsValue : ℕ → Stored → Option ℕ → Type 0
FitsValue n s None = Unit {0}
FitsValue n s (Some v) = s.address + s.size ≤ n

-- a resolved store has an address inside the first n bytes and a value of its size
abbrev pub FitsStored : ℕ → Option Stored → Type 0
FitsStored n None = Unit {0}
FitsStored n (Some s) = FitsValue n s s.value

pub value_size : (mem : List ℕ) (s : Stored) (o : Option ℕ) → length (put_value mem s o) ≡ length mem
value_size mem s None = refl
value_size mem s (Some v) = put_size mem s.address s.size v

value_byte : (mem : List ℕ) (s : Stored) (o : Option ℕ) (x : ℕ) → FitsValue (length mem) s o
    → get_or (put_value mem s o) x 0 ≡ or_byte (byte_stored s o x) (get_or mem x 0)
value_byte mem s None x h = refl
value_byte mem s (Some v) x h = go (nat_le s.address x && nat_lt (x - s.address) s.size) refl
  where
    go : (b : Bool) → (nat_le s.address x && nat_lt (x - s.address) s.size) ≡ b
        → get_or (put_bytes mem s.address s.size v) x 0
        ≡ or_byte (cond b (Some (v / 2 ^ (8 * (s.size - 1 - (x - s.address))) % 256)) None) (get_or mem x 0)
    go true e =
        let from : s.address ≤ x = grind (arith, nat_tests, e) in
        let lt : x - s.address < s.size = grind (arith, nat_tests, e) in
        let is : s.address + (x - s.address) ≡ x = omega arith in
        ap (λ y. get_or (put_bytes mem s.address s.size v) y 0) (sym is)
        ∙ put_in mem s.address s.size v (x - s.address) h lt
        ∙ byte_is v (s.size - 1 - (x - s.address))
    go false e = put_out mem s.address s.size v x (outside (nat_le s.address x) refl e)
      where
        outside : (c : Bool) → nat_le s.address x ≡ c → (c && nat_lt (x - s.address) s.size) ≡ false
            → (x < s.address) ⊎ (s.address + s.size ≤ x)
        outside false i k = inl (grind (arith, nat_tests))
        outside true i k = inr (let from : s.address ≤ x = grind (arith, nat_tests) in
            let ge : s.size ≤ x - s.address = grind (arith, nat_tests) in omega arith)

store_all_both : (mem : List ℕ) (xs ys : List Stored) → store_all mem (xs ++ ys) ≡ store_all (store_all mem xs) ys
store_all_both mem [] ys = refl
store_all_both mem (x ∷ xs) ys = store_all_both (put_value mem x x.value) xs ys

-- stores leave the size of memory as it was
pub all_size : (mem : List ℕ) (xs : List Stored) → length (store_all mem xs) ≡ length mem
all_size mem [] = refl
all_size mem (x ∷ xs) = all_size (put_value mem x x.value) xs ∙ value_size mem x x.value

abbrev pub bytes : List ℕ → ℕ → ℕ
bytes mem x = get_or mem x 0

-- what stores leave is what is seen behind them
pub stores_leave : (mem : List ℕ) (st : ℕ → Option Stored) (n : ℕ)
    → ((k : ℕ) → k < n → FitsStored (length mem) (st k)) → (x : ℕ)
    → get_or (store_all mem (listed_below st n)) x 0 ≡ byte_seen st (bytes mem) n x
stores_leave mem st zero h x = refl
stores_leave mem st (suc n) h x =
    ap (λ m. get_or m x 0) (store_all_both mem (listed_below st n) (listed (st n)))
    ∙ last (st n) (h n (omega arith))
    ∙ ap (or_byte (byte_of (st n) x)) (stores_leave mem st n (λ k l. h k (omega arith)) x)
  where
    before : List ℕ
    before = store_all mem (listed_below st n)

    last : (o : Option Stored) → FitsStored (length mem) o
        → get_or (store_all (store_all mem (listed_below st n)) (listed o)) x 0
        ≡ or_byte (byte_of o x) (get_or (store_all mem (listed_below st n)) x 0)
    last None f = refl
    last (Some s) f = value_byte (store_all mem (listed_below st n)) s s.value x (fits s.value f)
      where
        fits : (v : Option ℕ) → FitsValue (length mem) s v
            → FitsValue (length (store_all mem (listed_below st n))) s v
        fits None g = tt
        fits (Some v) g = subst (λ m. s.address + s.size ≤ m) (sym (all_size mem (listed_below st n))) g
