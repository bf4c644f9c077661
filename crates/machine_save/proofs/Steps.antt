-- Results of steps of reading.
use Rattle.std.proofs.Common.{◌≡◌, ℕ, ◌+◌, ◌<◌, ◌≤◌, ◌^◌, Bool, true, false, cond, List, ◌++◌, length, drop, ◌⊎◌, inl}
use Rattle.std.proofs.Common.{◌-◌, inr, Result, Ok, Err, refl, sym, ap, subst, ◌∙◌, arith, nat_lt, nat_le, nat_eq}
use Rattle.std.specs.Str.{bytes_eq}
use Rattle.std.proofs.lemmas.Bool.{ltb-false, ltb-true, le-ltb}
use Rattle.std.proofs.lemmas.Bool.Decides.{nat_tests}
use Rattle.std.proofs.lemmas.List.{drop-drop, length-append, length-drop}
use Rattle.std.proofs.lemmas.Slice.Eq.{bytes_eq-Decides}
use Rattle.byteorder.specs.Endian.{big_number, big_bytes}
use Rattle.block_image.proofs.Each.{AreBytes, each_drop}
use Rattle.block_image.proofs.BodyLaws.{number_takes, number_again}
use Rattle.machine_save.specs.declared.fault.SaveFault.{SaveFault}
use Rattle.machine_save.specs.declared.fault.SaveFault.TheVariants.{Truncated}
use Rattle.machine_save.specs.inside.Reading.{◌>>=◌, wants, number_at}

-- what two steps answer without a fault comes from answers of both
pub bind_ok : {A B : Type 0} (r : Result A SaveFault) (f : A → Result B SaveFault) (y : B)
    → (r >>= f) ≡ Ok y → (x : A) × (r ≡ Ok x) × (f x ≡ Ok y)
bind_ok (Ok x) f y e = (x, refl, e)
bind_ok (Err d) f y e = absurd cc

-- equal answers without a fault have equal values
pub ok_is : {A : Type 0} (x y : A) → ◌≡◌ {A = Result A SaveFault} (Ok x) (Ok y) → x ≡ y
ok_is x y e = cc

-- two errors that are equal have equal faults
pub err_is : {A : Type 0} (d e : SaveFault) → ◌≡◌ {A = Result A SaveFault} (Err d) (Err e) → d ≡ e
err_is d e h = cc

abbrev fail : {A : Type 0} → SaveFault → Result A SaveFault
fail e = Err e

err_as : {A B : Type 0} (d e : SaveFault) → ◌≡◌ {A = Result B SaveFault} (Err d) (Err e)
    → ◌≡◌ {A = Result A SaveFault} (Err d) (Err e)
err_as {A} {B} d e h = ap (λ x. fail {A = A} x) (err_is {A = B} d e h)

-- a fault of two steps in a row is one of the first, or one of the second after what the first gave
pub split : {A B : Type 0} (r : Result A SaveFault) (f : A → Result B SaveFault) (e : SaveFault)
    → (r >>= f) ≡ Err e → (r ≡ Err e) ⊎ ((x : A) × (r ≡ Ok x) × (f x ≡ Err e))
split (Ok x) f e h = inr (x, refl, h)
split {A} {B} (Err d) f e h = inl (err_as {A = A} {B = B} d e h)

-- two steps answer what the second does, where the first gives a value
pub bind_is : {A B : Type 0} (r : Result A SaveFault) (f : A → Result B SaveFault) (x : A) (y : Result B SaveFault)
    → r ≡ Ok x → f x ≡ y → (r >>= f) ≡ y
bind_is {A} {B} r f x y e g = ap (λ (z : Result A SaveFault). z >>= f) e ∙ g

-- and the fault of the first, where it gives one
pub bind_fails : {A B : Type 0} (r : Result A SaveFault) (f : A → Result B SaveFault) (d : SaveFault)
    → r ≡ Err d → (r >>= f) ≡ Err d
bind_fails {A} {B} r f d e = ap (λ (z : Result A SaveFault). z >>= f) e

-- an answer without a fault has passed the test before it
pub cond_ok : {A : Type 0} (b : Bool) (d : SaveFault) (r : Result A SaveFault) (y : A)
    → cond b (Err d) r ≡ Ok y → (b ≡ false) × (r ≡ Ok y)
cond_ok true d r y e = absurd cc
cond_ok false d r y e = (refl, e)

-- bytes that are too few, or else another fault
pub cut_or : {A : Type 0} (b : Bool) (d f : SaveFault) (r : Result A SaveFault) (P : Type 0)
    → (b ≡ true → d ≡ f → P) → (b ≡ false → r ≡ Err f → P) → cond b (Err d) r ≡ Err f → P
cut_or {A} true d f r P g h e = g refl (err_is {A = A} d f e)
cut_or false d f r P g h e = h refl e

-- what is wanted and gives no fault is so
pub want_ok : (b : Bool) (f : SaveFault) (u : Unit {0}) → wants b f ≡ Ok u → b ≡ true
want_ok true f u e = refl
want_ok false f u e = absurd cc

pub want_is : (b : Bool) (f : SaveFault) → b ≡ true → wants b f ≡ Ok tt
want_is b f e = ap (λ (c : Bool). wants c f) e

pub want_not : (b : Bool) (f : SaveFault) → b ≡ false → wants b f ≡ Err f
want_not b f e = ap (λ (c : Bool). wants c f) e

pub want_fails : (b : Bool) (d f : SaveFault) → wants b d ≡ Err f → (b ≡ false) × (d ≡ f)
want_fails true d f e = absurd cc
want_fails false d f e = (refl, err_is {A = Unit {0}} d f e)

-- tests of numbers and of bytes -----------------------------------------------------------------

pub lt_true : (a b : ℕ) → nat_lt a b ≡ true → a < b
lt_true a b e = grind (arith, nat_tests)

pub true_lt : (a b : ℕ) → a < b → nat_lt a b ≡ true
true_lt a b e = grind (arith, nat_tests)

pub le_true : (a b : ℕ) → nat_le a b ≡ true → a ≤ b
le_true a b e = grind (arith, nat_tests)

pub true_le : (a b : ℕ) → a ≤ b → nat_le a b ≡ true
true_le a b e = grind (arith, nat_tests)

pub eq_true : (a b : ℕ) → nat_eq a b ≡ true → a ≡ b
eq_true a b e = grind (arith, nat_tests)

pub false_le : (a b : ℕ) → nat_le a b ≡ false → b < a
false_le a b e = grind (arith, nat_tests)

pub false_eq : (a b : ℕ) → nat_eq a b ≡ false → a ≡ b → ⊥
false_eq a b e f = grind (arith, nat_tests)

pub false_lt : (a b : ℕ) → nat_lt a b ≡ false → b ≤ a
false_lt a b e = grind (arith, nat_tests)

pub no_eq : (a b : ℕ) → (a ≡ b → ⊥) → nat_eq a b ≡ false
no_eq a b h = grind (arith, nat_tests)

pub no_le : (a b : ℕ) → b < a → nat_le a b ≡ false
no_le a b h = grind (arith, nat_tests)

pub no_bytes_eq : (a b : List ℕ) → (a ≡ b → ⊥) → bytes_eq a b ≡ false
no_bytes_eq a b h = by (bytes_eq a b) refl
  where
    by : (t : Bool) → bytes_eq a b ≡ t → bytes_eq a b ≡ false
    by true e = absurd (h ((bytes_eq-Decides a b).0 e))
    by false e = e

-- numbers of four bytes -------------------------------------------------------------------------

-- a number of 32 bits, whose four bytes stand there
pub record NumberTaken (at : ℕ) (bytes : List ℕ) (n : ℕ) : Type 0 where
  pub inside : at + 4 ≤ length bytes
  pub below : n < 2 ^ 32
  pub spelled : drop at bytes ≡ big_bytes 4 n ++ drop (at + 4) bytes

number_there : (at : ℕ) (bytes : List ℕ) (n : ℕ) → AreBytes bytes → at + 4 ≤ length bytes
    → big_number 4 (drop at bytes) ≡ n → NumberTaken at bytes n
number_there at bytes n f l e =
    let p = number_takes (drop at bytes) (omega (arith, length-drop at bytes))
    (each_drop (λ b. b < 256) at bytes f) in
    subst (NumberTaken at bytes) e
    (record {
      inside = l;
      below = p.1;
      spelled = sym p.0
          ∙ ap (λ (r : List ℕ). big_bytes 4 (big_number 4 (drop at bytes)) ++ r)
          (drop-drop 4 at bytes);
    })

-- a number that is read has 32 bits, and its four bytes stand there
pub number_found : (at : ℕ) (bytes : List ℕ) (n : ℕ) → AreBytes bytes → number_at at bytes ≡ Ok n
    → NumberTaken at bytes n
unfolding number_at
number_found at bytes n f e =
    let t = cond_ok (nat_lt (length bytes) (at + 4)) (Truncated (length bytes))
    (Ok (big_number 4 (drop at bytes))) n e in
    number_there at bytes n f (ltb-false _ _ t.0) (ok_is (big_number 4 (drop at bytes)) n t.1)

-- one that is not read is cut off
pub number_fails : (at : ℕ) (bytes : List ℕ) (f : SaveFault) → number_at at bytes ≡ Err f
    → (length bytes < at + 4) × (Truncated (length bytes) ≡ f)
unfolding number_at
number_fails at bytes f e = by (nat_lt (length bytes) (at + 4)) refl e
  where
    by : (b : Bool) → nat_lt (length bytes) (at + 4) ≡ b
        → cond b (Err (Truncated (length bytes))) (Ok (big_number 4 (drop at bytes))) ≡ Err f
        → (length bytes < at + 4) × (Truncated (length bytes) ≡ f)
    by true p e = (ltb-true _ _ p, err_is {A = ℕ} (Truncated (length bytes)) f e)
    by false p e = absurd cc

-- where the bytes of a number of 32 bits stand, this number is read
pub number_again_at : (at n : ℕ) (bytes rest : List ℕ) → n < 2 ^ 32
    → drop at bytes ≡ big_bytes 4 n ++ rest → number_at at bytes ≡ Ok n
unfolding number_at
number_again_at at n bytes rest l e =
    let size : length bytes - at ≡ length (big_bytes 4 n ++ rest) = sym (length-drop at bytes)
    ∙ ap length e in
    let four : length (big_bytes 4 n ++ rest) ≡ 4 + length rest =
    length-append (big_bytes 4 n) rest in
    rw (le-ltb (length bytes) (at + 4) (omega arith), e, number_again n rest l) refl

-- where they are cut off, none is
pub number_short : (at : ℕ) (bytes : List ℕ) → length bytes < at + 4
    → number_at at bytes ≡ Err (Truncated (length bytes))
unfolding number_at
number_short at bytes l = rw (true_lt (length bytes) (at + 4) l) refl
