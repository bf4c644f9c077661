-- Lists with the number of their bytes: read and met again.
use Rattle.std.proofs.Common.{◌≡◌, ℕ, zero, suc, ◌+◌, ◌-◌, ◌^◌, ◌<◌, ◌≤◌, Bool, true, false, List, ◌++◌, length, take}
use Rattle.std.proofs.Common.{drop, Result}
use Rattle.std.proofs.Common.{cond, Ok, Err, inl, inr, refl, sym, ap, subst, ◌∙◌, arith, nat_lt, nat_le}
use Rattle.std.proofs.lemmas.Bool.{ltb-false, ltb-true, le-ltb}
use Rattle.std.proofs.lemmas.List.{take-append-drop, length-append, length-take-le, length-drop, drop-drop, drop_at}
use Rattle.std.proofs.lemmas.List.{take_at}
use Rattle.byteorder.specs.Endian.{big_bytes}
use Rattle.trips_isa.specs.Images.{last_byte}
use Rattle.block_image.proofs.Each.{AreBytes}
use Rattle.machine_save.specs.declared.fault.SaveFault.{SaveFault}
use Rattle.machine_save.specs.declared.fault.SaveFault.TheVariants.{Truncated, BadField}
use Rattle.machine_save.specs.Limits.{most_memory}
use Rattle.machine_save.specs.Spelling.{listed}
use Rattle.machine_save.specs.FirstFault.{ListFault, no_length, long, cut}
use Rattle.machine_save.specs.inside.Reading.{◌>>=◌, wants, number_at, list_at, stored_at}
use Rattle.machine_save.proofs.Steps.{bind_ok, bind_is, bind_fails, want_is, want_not, ok_is, split, cond_ok, cut_or}
use Rattle.machine_save.proofs.Steps.{want_ok, want_fails, true_lt, le_true}
use Rattle.machine_save.proofs.Steps.{true_le, lt_true, false_le, no_le, NumberTaken, number_found, number_fails}
use Rattle.machine_save.proofs.Steps.{number_again_at, number_short}

-- a list whose bytes stand at a place behind their number
pub record ListTaken (most at : ℕ) (bytes xs : List ℕ) : Type 0 where
  pub few : length xs ≤ most
  pub inside : at + 4 + length xs ≤ length bytes
  pub spelled : drop at bytes ≡ listed xs (drop (at + 4 + length xs) bytes)

-- the step behind the limit
abbrev ranged : ℕ → List ℕ → ℕ → Result (List ℕ) SaveFault
ranged at bytes n = cond (nat_lt (length bytes) (at + 4 + n)) (Err (Truncated (length bytes)))
    (Ok (take n (drop (at + 4) bytes)))

-- the step behind the number
abbrev counted : ℕ → ℕ → List ℕ → ℕ → Result (List ℕ) SaveFault
counted most at bytes n = wants (nat_le n most) (BadField at) >>= λ u. ranged at bytes n

-- a list that is read stands there
pub list_takes : (most at : ℕ) (bytes xs : List ℕ) → AreBytes bytes → list_at most at bytes ≡ Ok xs
    → ListTaken most at bytes xs
unfolding list_at
list_takes most at bytes xs a e =
    let k = bind_ok (number_at at bytes) (counted most at bytes) xs e in
    let n : ℕ = k.0 in
    let t : NumberTaken at bytes n = number_found at bytes n a k.1 in
    let m = bind_ok (wants (nat_le n most) (BadField at)) (λ u. ranged at bytes n) xs k.2 in
    let few : n ≤ most = le_true n most (want_ok (nat_le n most) (BadField at) m.0 m.1) in
    let c = cond_ok (nat_lt (length bytes) (at + 4 + n)) (Truncated (length bytes))
    (Ok (take n (drop (at + 4) bytes))) xs m.2 in
    let room : at + 4 + n ≤ length bytes = ltb-false _ _ c.0 in
    let is : take n (drop (at + 4) bytes) ≡ xs = ok_is (take n (drop (at + 4) bytes)) xs c.1 in
    let size : length xs ≡ n = sym (ap length is)
    ∙ length-take-le n (drop (at + 4) bytes) (omega (arith, length-drop (at + 4) bytes)) in
    record {
      few = omega arith;
      inside = omega arith;
      spelled = t.spelled
          ∙ ap (λ (k : ℕ). big_bytes 4 k ++ drop (at + 4) bytes) (sym size)
          ∙ ap (λ (r : List ℕ). big_bytes 4 (length xs) ++ r) (sym (take-append-drop n (drop (at + 4) bytes))
          ∙ ap (λ (r : List ℕ). r ++ drop n (drop (at + 4) bytes)) is
          ∙ ap (λ (r : List ℕ). xs ++ r) (drop-drop n (at + 4) bytes
          ∙ ap (λ (k : ℕ). drop (at + 4 + k) bytes) (sym size)));
    }

-- what stands behind a list
pub behind : (at : ℕ) (bytes xs more : List ℕ) → drop at bytes ≡ listed xs more
    → drop (at + 4 + length xs) bytes ≡ more
behind at bytes xs more e =
    let p : at + 4 + length xs ≡ at + (4 + length xs) = omega arith in
    ap (λ (k : ℕ). drop k bytes) p ∙ sym (drop-drop (4 + length xs) at bytes) ∙ ap (drop (4 + length xs)) e
    ∙ sym (drop-drop (length xs) 4 (listed xs more)) ∙ drop_at xs more (length xs) refl

-- a list that stands there lies inside the bytes
pub inside : (at : ℕ) (bytes xs more : List ℕ) → drop at bytes ≡ listed xs more → at + 4 + length xs ≤ length bytes
inside at bytes xs more e =
    let size : length bytes - at ≡ length (listed xs more) = sym (length-drop at bytes) ∙ ap length e in
    let four : length (listed xs more) ≡ 4 + length (xs ++ more) =
    length-append (big_bytes 4 (length xs)) (xs ++ more) in
    omega (arith, size, four, length-append xs more)

-- an answer behind a test that does not fail
passed : (b : Bool) (d : SaveFault) (x y : List ℕ) → b ≡ false → x ≡ y
    → ◌≡◌ {A = Result (List ℕ) SaveFault} (cond b (Err d) (Ok x)) (Ok y)
passed true d x y e g = absurd cc
passed false d x y e g = let same : x ≡ y = g in cc

-- it is read
pub list_again : (most at : ℕ) (bytes xs more : List ℕ) → most < 2 ^ 32 → length xs ≤ most
    → drop at bytes ≡ listed xs more → list_at most at bytes ≡ Ok xs
unfolding list_at
list_again most at bytes xs more small few e =
    let a : number_at at bytes ≡ Ok (length xs) =
    number_again_at at (length xs) bytes (xs ++ more) (omega arith) e in
    let room : at + 4 + length xs ≤ length bytes = inside at bytes xs more e in
    let b : nat_lt (length bytes) (at + 4 + length xs) ≡ false =
    le-ltb (length bytes) (at + 4 + length xs) room in
    let next : drop (at + 4) bytes ≡ xs ++ more = sym (drop-drop 4 at bytes) ∙ ap (drop 4) e in
    let t : take (length xs) (drop (at + 4) bytes) ≡ xs =
    ap (take (length xs)) next ∙ take_at xs more (length xs) refl in
    bind_is (number_at at bytes) (counted most at bytes) (length xs) (Ok xs) a
    (bind_is (wants (nat_le (length xs) most) (BadField at)) (λ u. ranged at bytes (length xs)) tt (Ok xs)
    (want_is (nat_le (length xs) most) (BadField at) (true_le (length xs) most few))
    (passed (nat_lt (length bytes) (at + 4 + length xs)) (Truncated (length bytes))
    (take (length xs) (drop (at + 4) bytes)) xs b t))

-- one that is not read has a fault
pub list_fault : (most at : ℕ) (bytes : List ℕ) (f : SaveFault) → AreBytes bytes
    → list_at most at bytes ≡ Err f → ListFault most at bytes f
unfolding list_at
list_fault most at bytes f a e =
    elim (split (number_at at bytes) (counted most at bytes) f e) [
      | inl h ↦ let n = number_fails at bytes f h in subst (ListFault most at bytes) n.1 (no_length n.0)
      | inr h ↦ by_number h.0 (number_found at bytes h.0 a h.1) h.2
    ]
  where
    by_number : (n : ℕ) → NumberTaken at bytes n → counted most at bytes n ≡ Err f → ListFault most at bytes f
    by_number n t h = elim (split (wants (nat_le n most) (BadField at)) (λ u. ranged at bytes n) f h) [
      | inl w ↦ let p = want_fails (nat_le n most) (BadField at) f w in
          subst (ListFault most at bytes) p.1
          (long n (drop (at + 4) bytes) t.spelled t.below (false_le n most p.0))
      | inr w ↦
          let few : n ≤ most = le_true n most (want_ok (nat_le n most) (BadField at) w.0 w.1) in
          cut_or (nat_lt (length bytes) (at + 4 + n)) (Truncated (length bytes)) f
          (Ok (take n (drop (at + 4) bytes))) (ListFault most at bytes f)
          (λ p q. let l : length bytes < at + 4 + n = ltb-true _ _ p in
          let room = t.inside in
          subst (ListFault most at bytes) q (cut n (drop (at + 4) bytes) t.spelled t.below few
          (omega (arith, length-drop (at + 4) bytes))))
          (λ p q. absurd (let x : ◌≡◌ {A = Result (List ℕ) SaveFault} (Ok (take n (drop (at + 4) bytes))) (Err f) = q
          in cc)) w.2
    ]

-- an answer behind a test that fails
failed : (b : Bool) (d : SaveFault) (x : List ℕ) → b ≡ true
    → ◌≡◌ {A = Result (List ℕ) SaveFault} (cond b (Err d) (Ok x)) (Err d)
failed true d x e = refl
failed false d x e = absurd cc

-- where a list has a fault, it is not read
pub list_fault_again : (most at : ℕ) (bytes : List ℕ) (f : SaveFault) → ListFault most at bytes f
    → list_at most at bytes ≡ Err f
unfolding list_at
list_fault_again most at bytes f g = elim g as (λ f g. list_at most at bytes ≡ Err f) [
  | no_length l ↦ bind_fails (number_at at bytes) (counted most at bytes) (Truncated (length bytes))
      (number_short at bytes l)
  | long n more e l few ↦ bind_is (number_at at bytes) (counted most at bytes) n (Err (BadField at))
      (number_again_at at n bytes more l e)
      (bind_fails (wants (nat_le n most) (BadField at)) (λ u. ranged at bytes n) (BadField at)
      (want_not (nat_le n most) (BadField at) (no_le n most few)))
  | cut n more e l few short ↦
      let size : length bytes - at ≡ length (big_bytes 4 n ++ more) = sym (length-drop at bytes) ∙ ap length e in
      let four : length (big_bytes 4 n ++ more) ≡ 4 + length more = length-append (big_bytes 4 n) more in
      bind_is (number_at at bytes) (counted most at bytes) n (Err (Truncated (length bytes)))
      (number_again_at at n bytes more l e)
      (bind_is (wants (nat_le n most) (BadField at)) (λ u. ranged at bytes n) tt (Err (Truncated (length bytes)))
      (want_is (nat_le n most) (BadField at) (true_le n most few))
      (failed (nat_lt (length bytes) (at + 4 + n)) (Truncated (length bytes)) (take n (drop (at + 4) bytes))
      (true_lt (length bytes) (at + 4 + n) (omega (arith, size, four, short)))))
]

-- the stored bytes -------------------------------------------------------------------------------

-- stored bytes that are read stand there, the last not zero
pub stored_takes : (at : ℕ) (bytes xs : List ℕ) → AreBytes bytes → stored_at at bytes ≡ Ok xs
    → ListTaken most_memory at bytes xs × (last_byte xs ≡ 0 → ⊥)
unfolding stored_at
stored_takes at bytes xs a e =
    let k = bind_ok (list_at most_memory at bytes)
    (λ xs. wants (nat_lt 0 (last_byte xs)) (BadField (at + 3 + length xs)) >>= λ u. Ok xs) xs e in
    let ys : List ℕ = k.0 in
    let m = bind_ok (wants (nat_lt 0 (last_byte ys)) (BadField (at + 3 + length ys))) (λ u. Ok ys) xs k.2 in
    let some : 0 < last_byte ys =
    lt_true 0 (last_byte ys) (want_ok (nat_lt 0 (last_byte ys)) (BadField (at + 3 + length ys)) m.0 m.1) in
    subst (λ (zs : List ℕ). ListTaken most_memory at bytes zs × (last_byte zs ≡ 0 → ⊥)) (ok_is ys xs m.2)
    (list_takes most_memory at bytes ys a k.1, λ z. omega (arith, some, z))

-- a number that is not 0 is above 0
positive : (n : ℕ) → (n ≡ 0 → ⊥) → 0 < n
positive zero h = absurd (h refl)
positive (suc n) h = omega arith

-- what is wanted of the stored bytes
abbrev ending : ℕ → List ℕ → Result (List ℕ) SaveFault
ending at xs = wants (nat_lt 0 (last_byte xs)) (BadField (at + 3 + length xs)) >>= λ u. Ok xs

-- they are read
pub stored_again : (at : ℕ) (bytes xs more : List ℕ) → length xs ≤ most_memory → (last_byte xs ≡ 0 → ⊥)
    → drop at bytes ≡ listed xs more → stored_at at bytes ≡ Ok xs
unfolding stored_at
stored_again at bytes xs more few last e =
    bind_is (list_at most_memory at bytes) (ending at) xs (Ok xs)
    (list_again most_memory at bytes xs more (omega arith) few e)
    (bind_is (wants (nat_lt 0 (last_byte xs)) (BadField (at + 3 + length xs))) (λ u. Ok xs) tt (Ok xs)
    (want_is (nat_lt 0 (last_byte xs)) (BadField (at + 3 + length xs))
    (true_lt 0 (last_byte xs) (positive (last_byte xs) last))) refl)

-- where their last is zero, that is a fault
pub stored_zero : (at : ℕ) (bytes xs more : List ℕ) → length xs ≤ most_memory → last_byte xs ≡ 0
    → drop at bytes ≡ listed xs more → stored_at at bytes ≡ Err (BadField (at + 3 + length xs))
unfolding stored_at
stored_zero at bytes xs more few last e =
    bind_is (list_at most_memory at bytes) (ending at) xs (Err (BadField (at + 3 + length xs)))
    (list_again most_memory at bytes xs more (omega arith) few e)
    (bind_fails (wants (nat_lt 0 (last_byte xs)) (BadField (at + 3 + length xs))) (λ u. Ok xs)
    (BadField (at + 3 + length xs))
    (want_not (nat_lt 0 (last_byte xs)) (BadField (at + 3 + length xs)) (ap (nat_lt 0) last)))

-- and where the list has one
pub stored_fails : (at : ℕ) (bytes : List ℕ) (f : SaveFault) → ListFault most_memory at bytes f
    → stored_at at bytes ≡ Err f
unfolding stored_at
stored_fails at bytes f h =
    bind_fails (list_at most_memory at bytes) (ending at) f (list_fault_again most_memory at bytes f h)
