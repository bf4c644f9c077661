-- Words of chunks.
use Rattle.std.proofs.Common.{◌≡◌, ℕ, zero, suc, ◌+◌, ◌-◌, ◌*◌, ◌/◌, ◌%◌, ◌^◌, ◌<◌, ◌≤◌, Bool, true}
use Rattle.std.proofs.Common.{false, cond, List, [], ◌∷◌, ◌++◌, length, take, drop, get_or, Some}
use Rattle.std.proofs.Common.{None, refl, sym, ap, ◌∙◌, arith, Result, Ok, Err, append_assoc}
use Rattle.std.proofs.Common.{nat_eq, nat_le, nat_lt, ◌&&◌, ◌||◌, not}
use Rattle.std.proofs.lemmas.List.{drop-drop, drop_more, drop_all, drop-take}
use Rattle.std.proofs.Math.Nat.{pow-le-pow_right}
use Rattle.byteorder.specs.Endian.{big_number, IsRead}
use Rattle.block_image.specs.Reading.{◌>>=◌, Slots}
use Rattle.block_image.specs.inside.Reading.{words, with_front, slot_or_fault, slots_at}
use Rattle.block_image.specs.inside.Reading.{chunk_at, body_at}
use Rattle.block_image.specs.HeaderReading.{is_bad, is_good_info, reads_in, writes_in}
use Rattle.block_image.specs.inside.HeaderReading.{first_bad}
use Rattle.block_image.specs.HeaderReading.{chunks_in}
use Rattle.byteorder.specs.Numbers.{big_from-take}
use Rattle.block_image.specs.declared.fault.ImageFault.{ImageFault}
use Rattle.block_image.specs.inside.WordReading.{slot_of_word}
use Rattle.std.proofs.lemmas.Bool.Decides.{nat_tests}

-- what is read as big-endian numbers of four bytes is the words of these bytes
pub words_is : (n : ℕ) (src dst : List ℕ) → length dst ≡ n → IsRead big_number 4 src dst
    → dst ≡ words n src
unfolding words
words_is zero src [] e h = refl
words_is zero src (w ∷ ws) e h = absurd (omega arith)
words_is (suc n) src [] e h = absurd (omega arith)
words_is (suc n) src (w ∷ ws) e h =
    let first : w ≡ big_number 4 src = h 0 (omega arith) in
    let e4 : (k : ℕ) → drop (4 * suc k) src ≡ drop (4 * k) (drop 4 src) =
    λ k. let e : 4 * suc k ≡ 4 + 4 * k = omega arith in rw e (sym (drop-drop (4 * k) 4 src)) in
    let others : IsRead big_number 4 (drop 4 src) ws = λ k lt. h (suc k) (omega arith)
    ∙ ap (big_number 4) (e4 k) in
    let rest : ws ≡ words n (drop 4 src) = words_is n (drop 4 src) ws (omega arith) others in
    rw (first, rest) refl

-- two info bits more than those of fewer than 32 words fit 64 bits
pub info_fits : (k info : ℕ) → k < 32 → info < 4 ^ k → info * 4 + 3 < 2 ^ 64
info_fits k info l h = let a : zero < 4 = omega arith in let b : k ≤ 31 = omega arith in
    let p : 4 ^ k ≤ 4 ^ 31 = pow-le-pow_right a b in omega arith

-- where word i is bad, the first bad word from i on is i
pub bad_here : (info i : ℕ) (ws : List ℕ) → i < length ws → is_bad info i (get_or ws i 0) ≡ true
    → first_bad info i (drop i ws) ≡ Some i
unfolding first_bad
bad_here info i ws l e = rw (drop_more ws i 0 l, e) refl

-- where word i is not bad, the first bad word is looked for from i + 1 on
pub bad_next : (info i : ℕ) (ws : List ℕ) → i < length ws → is_bad info i (get_or ws i 0) ≡ false
    → first_bad info i (drop i ws) ≡ first_bad info (i + 1) (drop (i + 1) ws)
unfolding first_bad
bad_next info i ws l e = let s : suc i ≡ i + 1 = omega arith in rw (drop_more ws i 0 l, e, s) refl

-- past the words none is bad
pub bad_end : (info i : ℕ) (ws : List ℕ) → length ws ≤ i → first_bad info i (drop i ws) ≡ None
unfolding first_bad
bad_end info i ws l = rw (drop_all i ws l) refl

-- the first n words are the same of all bytes that hold them
pub words_take : (n m : ℕ) (bytes : List ℕ) → 4 * n ≤ m → words n (take m bytes) ≡ words n bytes
unfolding words
words_take zero m bytes l = refl
words_take (suc n) m bytes l =
    let a : big_number 4 (take m bytes) ≡ big_number 4 bytes =
    big_from-take 0 4 m bytes (omega arith) in
    let b : drop 4 (take m bytes) ≡ take (m - 4) (drop 4 bytes) = let e : m ≡ 4 + (m - 4) =
    omega arith in ap (λ (k : ℕ). drop 4 (take k bytes)) e ∙ drop-take 4 (m - 4) bytes in
    let c : words n (drop 4 (take m bytes)) ≡ words n (drop 4 bytes) = ap (words n) b
    ∙ words_take n (m - 4) (drop 4 bytes) (omega arith) in
    ap (λ (x : ℕ). x ∷ words n (drop 4 (take m bytes))) a
    ∙ ap (λ (xs : List ℕ). big_number 4 bytes ∷ xs) c

-- n words are read as n
pub length-words : (n : ℕ) (bytes : List ℕ) → length (words n bytes) ≡ n
unfolding words
length-words zero bytes = refl
length-words (suc n) bytes = ap suc (length-words n (drop 4 bytes))

-- ---- results

-- what two steps answer without a fault comes from answers of both
pub bind_ok : {A B : Type 0} (r : Result A ImageFault) (f : A → Result B ImageFault) (y : B)
    → (r >>= f) ≡ Ok y → (x : A) × (r ≡ Ok x) × (f x ≡ Ok y)
bind_ok (Ok x) f y e = (x, refl, e)
bind_ok (Err d) f y e = absurd cc

-- equal answers without a fault have equal values
pub ok_is : {A : Type 0} (x y : A) → ◌≡◌ {A = Result A ImageFault} (Ok x) (Ok y) → x ≡ y
ok_is x y e = cc

pub with_front_twice : (a b : Slots) (r : Result Slots ImageFault)
    → with_front a (with_front b r) ≡ with_front (a ++ b) r
with_front_twice a b (Ok s) = ap (λ (l : Slots). Ok l) (sym (append_assoc a b s))
with_front_twice a b (Err e) = refl

-- as many slots are read as there are words
pub slots_length : (at : ℕ) (ws : List ℕ) (s : Slots) → slots_at at ws ≡ Ok s → length s ≡ length ws
slots_length at [] s e = ap length (sym (ok_is [] s e))
slots_length at (w ∷ ws) s e =
    let a = bind_ok (slot_or_fault at (slot_of_word w))
    (λ s. with_front (s ∷ []) (slots_at (at + 4) ws)) s e in
    let b = bind_ok (slots_at (at + 4) ws) (λ t. Ok ((a.0 ∷ []) ++ t)) s a.2 in
    let l : length b.0 ≡ length ws = slots_length (at + 4) ws b.0 b.1 in
    ap length (sym (ok_is (a.0 ∷ b.0) s b.2)) ∙ ap suc l

-- where the next chunk of a body is read, what is read on the whole stays the same
pub body_next : (front s : Slots) (n k at : ℕ) (bytes ws : List ℕ) (total : Result Slots ImageFault)
    → k < n → chunk_at (at + 128 * k) bytes ≡ Ok ws → slots_at (at + 128 * k) ws ≡ Ok s
    → with_front front (body_at (n - k) (at + 128 * k) bytes) ≡ total
    → with_front (front ++ s) (body_at (n - (k + 1)) (at + 128 * (k + 1)) bytes) ≡ total
body_next front s n k at bytes ws total l c r h =
    let e : n - k ≡ suc (n - (k + 1)) = omega arith in
    let p : at + 128 * (k + 1) ≡ at + 128 * k + 128 = omega arith in
    let one : body_at (n - k) (at + 128 * k) bytes ≡ with_front s
    (body_at (n - (k + 1)) (at + 128 * k + 128) bytes) =
    rw (e, c) (ap (λ (x : Result Slots ImageFault). x >>= λ s. with_front s
    (body_at (n - (k + 1)) (at + 128 * k + 128) bytes)) r) in
    rw p (sym (with_front_twice front s (body_at (n - (k + 1)) (at + 128 * k + 128) bytes))
    ∙ sym (ap (with_front front) one) ∙ h)

pub body_fails_chunk : (front : Slots) (n k at : ℕ) (bytes : List ℕ) (f : ImageFault)
    (total : Result Slots ImageFault) → k < n → chunk_at (at + 128 * k) bytes ≡ Err f
    → with_front front (body_at (n - k) (at + 128 * k) bytes) ≡ total → total ≡ Err f
body_fails_chunk front n k at bytes f total l c h =
    let e : n - k ≡ suc (n - (k + 1)) = omega arith in
    let one : body_at (n - k) (at + 128 * k) bytes ≡ Err f = rw (e, c) refl in
    sym h ∙ ap (with_front front) one

pub body_fails_slots : (front : Slots) (n k at : ℕ) (bytes ws : List ℕ) (f : ImageFault)
    (total : Result Slots ImageFault) → k < n → chunk_at (at + 128 * k) bytes ≡ Ok ws
    → slots_at (at + 128 * k) ws ≡ Err f
    → with_front front (body_at (n - k) (at + 128 * k) bytes) ≡ total → total ≡ Err f
body_fails_slots front n k at bytes ws f total l c r h =
    let e : n - k ≡ suc (n - (k + 1)) = omega arith in
    let one : body_at (n - k) (at + 128 * k) bytes ≡ Err f =
    rw (e, c) (ap (λ (x : Result Slots ImageFault). x >>= λ s. with_front s
    (body_at (n - (k + 1)) (at + 128 * k + 128) bytes)) r) in
    sym h ∙ ap (with_front front) one

-- ---- a header without a bad word has good info bits

-- where no word is the first bad one, none is bad
pub no_bad_at : (info i : ℕ) (ws : List ℕ) → first_bad info i ws ≡ None → (k : ℕ) → k < length ws
    → is_bad info (i + k) (get_or ws k 0) ≡ false
unfolding first_bad
no_bad_at info i [] e k l = absurd (omega arith)
no_bad_at info i (w ∷ ws) e k l = by (is_bad info i w) k refl e l (no_bad_at info (suc i) ws)
  where
    by : (b : Bool) (k : ℕ) → is_bad info i w ≡ b
        → cond b (Some i) (first_bad info (suc i) ws) ≡ None → k < suc (length ws)
        → (first_bad info (suc i) ws ≡ None → (k : ℕ) → k < length ws
        → is_bad info (suc i + k) (get_or ws k 0) ≡ false)
        → is_bad info (i + k) (get_or (w ∷ ws) k 0) ≡ false
    by true k p e l r = absurd (let q : Some i ≡ None = e in cc)
    by false zero p e l r = let z : i + 0 ≡ i = omega arith in rw z p
    by false (suc k) p e l r = let s : i + suc k ≡ suc i + k = omega arith in
        rw s (r e k (omega arith))

-- a disjunction is false where both parts are
pub or_false : (a b : Bool) → (a || b) ≡ false → (a ≡ false) × (b ≡ false)
or_false true b e = absurd cc
or_false false b e = (refl, e)

pub not_false : (a : Bool) → not a ≡ false → a ≡ true
not_false true e = refl
not_false false e = absurd cc

-- where none of the 32 words is bad, the info bits are good
pub good_info : (info : ℕ) (ws : List ℕ) → length ws ≡ 32 → first_bad info 0 ws ≡ None
    → is_good_info info ≡ true
unfolding is_bad
good_info info ws l e =
    let b : is_bad info 16 (get_or ws 16 0) ≡ false = no_bad_at info 0 ws e 16 (omega arith) in
    let w = get_or ws 16 0 in
    not_false (is_good_info info)
    (or_false ((nat_le (reads_in info) 16 && not (nat_eq (w / 128 % 8388608) 0)) ||
    (nat_le (writes_in info) 16 && not (nat_eq (w % 128) 0))) (not (is_good_info info)) b).1

-- the counts of the info bits lie within their limits, and the bits that are not used are 0
pub record Counts (info : ℕ) : Type 0 where
  pub reads : reads_in info ≤ 32
  pub writes : writes_in info ≤ 32
  pub some : 0 < chunks_in info
  pub chunks : chunks_in info ≤ 4
  pub zeros : info % 131072 ≡ 0

-- a conjunction is true where both parts are
pub and_true : (a b : Bool) → (a && b) ≡ true → (a ≡ true) × (b ≡ true)
and_true true b e = (refl, e)
and_true false b e = absurd cc

le_true : (a b : ℕ) → nat_le a b ≡ true → a ≤ b
le_true a b e = grind (arith, nat_tests)

-- where the test of less is true, the one number is less than the other
pub lt_true : (a b : ℕ) → nat_lt a b ≡ true → a < b
lt_true a b e = grind (arith, nat_tests)

eq_true : (a b : ℕ) → nat_eq a b ≡ true → a ≡ b
eq_true a b e = grind (arith, nat_tests)

-- info bits that are good have counts within their limits
pub counts : (info : ℕ) → is_good_info info ≡ true → Counts info
counts info e =
    let r = nat_le (reads_in info) 32 in
    let w = nat_le (writes_in info) 32 in
    let s = nat_lt 0 (chunks_in info) in
    let c = nat_le (chunks_in info) 4 in
    let p4 = and_true (r && w && s && c) (nat_eq (info % 131072) 0) e in
    let p3 = and_true (r && w && s) c p4.0 in
    let p2 = and_true (r && w) s p3.0 in
    let p1 = and_true r w p2.0 in
    record {
      reads = le_true _ _ p1.0;
      writes = le_true _ _ p1.1;
      some = lt_true _ _ p2.1;
      chunks = le_true _ _ p3.1;
      zeros = eq_true _ _ p4.1;
    }
