-- The fault that reading an image gives is the first one.
use Rattle.std.proofs.Common.{◌≡◌, ℕ, ◌+◌, ◌^◌, ◌<◌, ◌≤◌, Bool, true, false, cond}
use Rattle.std.proofs.Common.{List, ◌++◌, length, take, drop, Result, Ok, Err}
use Rattle.std.proofs.Common.{refl, sym, ap, subst, ◌∙◌, arith, nat_lt, nat_le, nat_eq}
use Rattle.std.proofs.Common.{inl, inr}
use Rattle.std.specs.Str.{bytes_eq}
use Rattle.std.proofs.lemmas.Slice.Eq.{bytes_eq-Decides}
use Rattle.std.proofs.lemmas.Bool.{ltb-false, ltb-true}
use Rattle.std.proofs.lemmas.Bool.Decides.{nat_tests}
use Rattle.std.proofs.lemmas.List.{take-append-drop, length-drop, length-take}
use Rattle.std.proofs.lemmas.List.{drop-drop}
use Rattle.byteorder.specs.Endian.{big_bytes, big_number}
use Rattle.trips_isa.specs.Images.{last_byte}
use Rattle.block_image.specs.declared.fault.ImageFault.{ImageFault}
use Rattle.block_image.specs.declared.fault.ImageFault.TheVariants.{Magic, Version, Truncated}
use Rattle.block_image.specs.declared.fault.ImageFault.TheVariants.{BadField}
use Rattle.block_image.specs.Spelling.{magic, container}
use Rattle.block_image.specs.Reading.{◌>>=◌}
use Rattle.block_image.specs.inside.ImageReading.{wants, number_at, magic_at, version_at, count_at}
use Rattle.block_image.specs.inside.ImageReading.{size_at, data_at}
use Rattle.block_image.specs.FirstFault.{counted, sized, GoodFront, FirstFault, no_magic, bad_magic}
use Rattle.block_image.specs.FirstFault.{no_version, bad_version, no_count, no_block, no_size}
use Rattle.block_image.specs.FirstFault.{large, no_bytes, zero_last}
use Rattle.block_image.proofs.Each.{AreBytes, each_take, each_drop}
use Rattle.block_image.proofs.Lists.{bind_ok, ok_is}
use Rattle.block_image.proofs.BlockLaws.{cond_ok}
use Rattle.block_image.proofs.FaultLaws.{split, err_is}
use Rattle.block_image.proofs.ImageLaws.{want_ok, lt_true, le_true, eq_true, NumberTaken}
use Rattle.block_image.proofs.ImageLaws.{number_found}

-- ---- tests that fail

false_le : (a b : ℕ) → nat_le a b ≡ false → b < a
false_le a b e = grind (arith, nat_tests)

-- where the test of equality is false, the numbers differ
pub false_eq : (a b : ℕ) → nat_eq a b ≡ false → a ≡ b → ⊥
false_eq a b e f = grind (arith, nat_tests)

false_lt : (a b : ℕ) → nat_lt a b ≡ false → b ≤ a
false_lt a b e = grind (arith, nat_tests)

want_fails : (b : Bool) (d f : ImageFault) → wants b d ≡ Err f → (b ≡ false) × (d ≡ f)
want_fails true d f e = absurd cc
want_fails false d f e = (refl, err_is {A = Unit {0}} d f e)

-- a wanted test and then a value
pub wanted_fails : {A : Type 0} (b : Bool) (d f : ImageFault) (x : A)
    → (wants b d >>= λ u. Ok x) ≡ Err f → (b ≡ false) × (d ≡ f)
wanted_fails true d f x e = absurd cc
wanted_fails {A} false d f x e = (refl, err_is {A = A} d f e)

-- bytes that are too few, or else another fault
cut_or : {A : Type 0} (b : Bool) (d f : ImageFault) (r : Result A ImageFault) (P : Type 0)
    → (b ≡ true → d ≡ f → P) → (b ≡ false → r ≡ Err f → P) → cond b (Err d) r ≡ Err f → P
cut_or {A} true d f r P g h e = g refl (err_is {A = A} d f e)
cut_or false d f r P g h e = h refl e

number_fails : (at : ℕ) (bytes : List ℕ) (f : ImageFault) → number_at at bytes ≡ Err f
    → (length bytes < at + 4) × (Truncated (length bytes) ≡ f)
unfolding number_at
number_fails at bytes f e = by (nat_lt (length bytes) (at + 4)) refl e
  where
    by : (b : Bool) → nat_lt (length bytes) (at + 4) ≡ b
        → cond b (Err (Truncated (length bytes))) (Ok (big_number 4 (drop at bytes))) ≡ Err f
        → (length bytes < at + 4) × (Truncated (length bytes) ≡ f)
    by true p e = (ltb-true _ _ p, err_is {A = ℕ} (Truncated (length bytes)) f e)
    by false p e = absurd cc

-- ---- the front

pub record MagicRead (bytes : List ℕ) : Type 0 where
  pub long : 8 ≤ length bytes
  pub spelled : bytes ≡ magic ++ drop 8 bytes

-- where the first bytes are read, the image begins with them
pub magic_read : (bytes : List ℕ) (u : Unit {0}) → magic_at bytes ≡ Ok u → MagicRead bytes
unfolding magic_at
magic_read bytes u e =
    let m = cond_ok (nat_lt (length bytes) 8) (Truncated (length bytes))
    (wants (bytes_eq (take 8 bytes) magic) Magic) u e in
    let is : take 8 bytes ≡ magic = (bytes_eq-Decides (take 8 bytes) magic).0
    (want_ok (bytes_eq (take 8 bytes) magic) Magic u m.1) in
    record {
      long = ltb-false _ _ m.0;
      spelled = sym (take-append-drop 8 bytes)
          ∙ ap (λ (x : List ℕ). x ++ drop 8 bytes) is;
    }

-- a fault of the first bytes is the first fault
pub magic_fault : (bytes : List ℕ) (f : ImageFault) → magic_at bytes ≡ Err f → FirstFault bytes f
unfolding magic_at
magic_fault bytes f e =
    cut_or (nat_lt (length bytes) 8) (Truncated (length bytes)) f
    (wants (bytes_eq (take 8 bytes) magic) Magic) (FirstFault bytes f)
    (λ p q. subst (FirstFault bytes) q (no_magic (ltb-true _ _ p)))
    (λ p h. let w = want_fails (bytes_eq (take 8 bytes) magic) Magic f h in
    subst (FirstFault bytes) w.1
    (bad_magic (ltb-false _ _ p)
    (λ m. let t : bytes_eq (take 8 bytes) magic ≡ true =
    (bytes_eq-Decides (take 8 bytes) magic).1 m in cc))) e

-- the bytes from a place on are a number and the rest
short_rest : (at : ℕ) (bytes : List ℕ) → length bytes < at + 4 → length (drop at bytes) < 4
short_rest at bytes l = let e = length-drop at bytes in omega arith

-- a fault of the version is the first fault
pub version_fault : (bytes : List ℕ) (f : ImageFault) → AreBytes bytes → MagicRead bytes
    → version_at bytes ≡ Err f → FirstFault bytes f
unfolding version_at
version_fault bytes f a m e =
    elim (split (number_at 8 bytes) (λ v. wants (nat_eq v 1) Version) f e) [
      | inl h ↦ let n = number_fails 8 bytes f h in
          subst (FirstFault bytes) n.1
          (no_version (drop 8 bytes) m.spelled (short_rest 8 bytes n.0))
      | inr h ↦
          let t = number_found 8 bytes h.0 a h.1 in
          let w = want_fails (nat_eq h.0 1) Version f h.2 in
          subst (FirstFault bytes) w.1
          (bad_version h.0 (drop 12 bytes)
          (m.spelled ∙ ap (λ (x : List ℕ). magic ++ x) t.spelled) t.below (false_eq h.0 1 w.0))
    ]

pub record VersionRead (bytes : List ℕ) : Type 0 where
  pub spelled : bytes ≡ magic ++ (big_bytes 4 1 ++ drop 12 bytes)

-- where the version is read, it stands behind the first bytes
pub version_read : (bytes : List ℕ) (u : Unit {0}) → AreBytes bytes → MagicRead bytes
    → version_at bytes ≡ Ok u → VersionRead bytes
unfolding version_at
version_read bytes u a m e =
    let v = bind_ok (number_at 8 bytes) (λ v. wants (nat_eq v 1) Version) u e in
    let is : v.0 ≡ 1 = eq_true v.0 1 (want_ok (nat_eq v.0 1) Version u v.2) in
    let t : NumberTaken 8 bytes 1 =
    subst (NumberTaken 8 bytes) is (number_found 8 bytes v.0 a v.1) in
    record { spelled = m.spelled ∙ ap (λ (x : List ℕ). magic ++ x) t.spelled }

-- a fault of the count of blocks is the first fault
pub count_fault : (bytes : List ℕ) (f : ImageFault) → AreBytes bytes → VersionRead bytes
    → count_at bytes ≡ Err f → FirstFault bytes f
unfolding count_at
count_fault bytes f a v e =
    elim (split (number_at 12 bytes) (λ n. wants (nat_lt 0 n) (BadField 12) >>= λ u. Ok n) f e) [
      | inl h ↦ let n = number_fails 12 bytes f h in
          subst (FirstFault bytes) n.1
          (no_count (drop 12 bytes) v.spelled (short_rest 12 bytes n.0))
      | inr h ↦
          let t = number_found 12 bytes h.0 a h.1 in
          let w = wanted_fails (nat_lt 0 h.0) (BadField 12) f h.0 h.2 in
          let l : h.0 ≤ 0 = false_lt 0 h.0 w.0 in
          let z : h.0 ≡ 0 = omega arith in
          subst (FirstFault bytes) w.1 (no_block (drop 16 bytes)
          (v.spelled ∙ ap (λ (x : List ℕ). magic ++ (big_bytes 4 1 ++ x))
          (t.spelled ∙ ap (λ (x : ℕ). big_bytes 4 x ++ drop 16 bytes) z)))
    ]

pub record CountRead (n : ℕ) (bytes : List ℕ) : Type 0 where
  pub some : 1 ≤ n
  pub below : n < 2 ^ 32
  pub spelled : bytes ≡ counted n ++ drop 16 bytes

-- where the count of blocks is read, it stands behind the version
pub count_read : (n : ℕ) (bytes : List ℕ) → AreBytes bytes → VersionRead bytes
    → count_at bytes ≡ Ok n
    → CountRead n bytes
unfolding count_at
count_read n bytes a v e =
    let c = bind_ok (number_at 12 bytes)
    (λ n. wants (nat_lt 0 n) (BadField 12) >>= λ u. Ok n) n e in
    let d = bind_ok (wants (nat_lt 0 c.0) (BadField 12)) (λ u. Ok c.0) n c.2 in
    let t = number_found 12 bytes c.0 a c.1 in
    let p : 0 < c.0 = lt_true 0 c.0 (want_ok (nat_lt 0 c.0) (BadField 12) d.0 d.1) in
    subst (λ (x : ℕ). CountRead x bytes) (ok_is c.0 n d.2)
    (record {
      some = omega arith;
      below = t.below;
      spelled = v.spelled
          ∙ ap (λ (x : List ℕ). magic ++ (big_bytes 4 1 ++ x)) t.spelled;
    })

-- a fault of the size of the data is the first fault
pub size_fault : (n : ℕ) (bytes : List ℕ) (f : ImageFault) → AreBytes bytes → CountRead n bytes
    → size_at bytes ≡ Err f → FirstFault bytes f
unfolding size_at
size_fault n bytes f a c e =
    elim (split (number_at 16 bytes)
    (λ d. wants (nat_le d 4194304) (BadField 16) >>= λ u. Ok d) f e) [
      | inl h ↦ let k = number_fails 16 bytes f h in
          subst (FirstFault bytes) k.1
          (no_size n (drop 16 bytes) c.spelled c.some c.below (short_rest 16 bytes k.0))
      | inr h ↦
          let t = number_found 16 bytes h.0 a h.1 in
          let w = wanted_fails (nat_le h.0 4194304) (BadField 16) f h.0 h.2 in
          subst (FirstFault bytes) w.1
          (large n h.0 (drop 20 bytes)
          (c.spelled ∙ ap (λ (x : List ℕ). counted n ++ x) t.spelled) c.some c.below
          (false_le h.0 4194304 w.0) t.below)
    ]

pub record SizeRead (n d : ℕ) (bytes : List ℕ) : Type 0 where
  pub count : CountRead n bytes
  pub few : d ≤ 4194304
  pub inside : 20 ≤ length bytes
  pub spelled : bytes ≡ sized n d ++ drop 20 bytes

-- where the size of the data is read, it stands behind the count
pub size_read : (n d : ℕ) (bytes : List ℕ) → AreBytes bytes → CountRead n bytes
    → size_at bytes ≡ Ok d
    → SizeRead n d bytes
unfolding size_at
size_read n d bytes a c e =
    let s = bind_ok (number_at 16 bytes)
    (λ d. wants (nat_le d 4194304) (BadField 16) >>= λ u. Ok d) d e in
    let r = bind_ok (wants (nat_le s.0 4194304) (BadField 16)) (λ u. Ok s.0) d s.2 in
    let t = number_found 16 bytes s.0 a s.1 in
    subst (λ (x : ℕ). SizeRead n x bytes) (ok_is s.0 d r.2)
    (record {
      count = c;
      few = le_true s.0 4194304 (want_ok (nat_le s.0 4194304) (BadField 16) r.0 r.1);
      inside = t.inside;
      spelled = c.spelled ∙ ap (λ (x : List ℕ). counted n ++ x) t.spelled;
    })

-- a fault of the data bytes is the first fault
pub data_fault : (n d : ℕ) (bytes : List ℕ) (f : ImageFault) → SizeRead n d bytes
    → data_at d bytes ≡ Err f → FirstFault bytes f
unfolding data_at
data_fault n d bytes f s e =
    let front = take d (drop 20 bytes) in
    let inside = s.inside in
    let c = s.count in
    cut_or (nat_lt (length bytes) (20 + d)) (Truncated (length bytes)) f
    (wants (nat_lt 0 (last_byte front)) (BadField (19 + d)) >>= λ u. Ok front)
    (FirstFault bytes f)
    (λ p q. let l : length bytes < 20 + d = ltb-true _ _ p in
    subst (FirstFault bytes) q
    (no_bytes n d (drop 20 bytes) s.spelled c.some c.below s.few
    (omega (arith, length-drop 20 bytes))))
    (λ p h.
    let l : 20 + d ≤ length bytes = ltb-false _ _ p in
    let w = wanted_fails (nat_lt 0 (last_byte front)) (BadField (19 + d)) f front h in
    let z : last_byte front ≤ 0 = false_lt 0 (last_byte front) w.0 in
    let len : length front ≡ d =
    omega (arith, length-take d (drop 20 bytes), length-drop 20 bytes) in
    let few = s.few in
    let whole : bytes ≡ container n front ++ drop d (drop 20 bytes) =
    s.spelled ∙ ap (λ (x : ℕ). sized n x ++ drop 20 bytes) (sym len)
    ∙ ap (λ (x : List ℕ). sized n (length front) ++ x)
    (sym (take-append-drop d (drop 20 bytes))) in
    subst (FirstFault bytes) (ap (λ (x : ℕ). BadField (19 + x)) len ∙ w.1)
    (zero_last n front (drop d (drop 20 bytes)) whole c.some c.below (omega arith) (omega arith)))
    e

-- the front of an image that was read: it is good, has its size, and its bytes stand there
pub record DataRead (n d : ℕ) (bytes front : List ℕ) : Type 0 where
  pub good : GoodFront n front
  pub size : length front ≡ d
  pub inside : 20 + d ≤ length bytes
  pub each : AreBytes bytes → AreBytes front
  pub spelled : bytes ≡ container n front ++ drop (20 + d) bytes

-- where the data bytes are read, the front of the image is good and stands there
pub data_read : (n d : ℕ) (bytes front : List ℕ) → SizeRead n d bytes → data_at d bytes ≡ Ok front
    → DataRead n d bytes front
unfolding data_at
data_read n d bytes front s e =
    let c = s.count in
    let few = s.few in
    let t = cond_ok (nat_lt (length bytes) (20 + d)) (Truncated (length bytes))
    (wants (nat_lt 0 (last_byte (take d (drop 20 bytes)))) (BadField (19 + d)) >>= λ u. Ok
    (take d (drop 20 bytes))) front e in
    let long : 20 + d ≤ length bytes = ltb-false _ _ t.0 in
    let r = bind_ok (wants (nat_lt 0 (last_byte (take d (drop 20 bytes)))) (BadField (19 + d)))
    (λ u. Ok (take d (drop 20 bytes))) front t.1 in
    let p : 0 < last_byte (take d (drop 20 bytes)) =
    lt_true 0 _ (want_ok (nat_lt 0 (last_byte (take d (drop 20 bytes))))
    (BadField (19 + d)) r.0 r.1) in
    let len : length (take d (drop 20 bytes)) ≡ d =
    omega (arith, length-take d (drop 20 bytes), length-drop 20 bytes) in
    subst (DataRead n d bytes) (ok_is (take d (drop 20 bytes)) front r.2)
    (record {
      good = record { some = c.some; count = c.below; few = omega arith; last = λ z. omega arith };
      size = len;
      inside = long;
      each = λ a. each_take (λ b. b < 256) d (drop 20 bytes) (each_drop (λ b. b < 256) 20 bytes a);
      spelled = s.spelled ∙ ap (λ (x : ℕ). sized n x ++ drop 20 bytes) (sym len)
          ∙ ap (λ (x : List ℕ). sized n (length (take d (drop 20 bytes))) ++ x)
          (sym (take-append-drop d (drop 20 bytes))
          ∙ ap (λ (x : List ℕ). take d (drop 20 bytes) ++ x) (drop-drop d 20 bytes));
    })
