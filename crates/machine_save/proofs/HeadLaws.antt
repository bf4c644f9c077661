-- What stands before the lists: read and met again.
use Rattle.std.proofs.Common.{◌≡◌, ℕ, ◌+◌, ◌^◌, ◌<◌, ◌≤◌, Bool, true, false, cond, List, ◌++◌, length, take, drop}
use Rattle.std.proofs.Common.{Result, Ok, Err, inl, inr, refl, sym, ap, subst, ◌∙◌, arith, nat_lt, nat_eq, lit<}
use Rattle.std.specs.List.{flat_map}
use Rattle.std.specs.Str.{bytes_eq}
use Rattle.std.proofs.lemmas.Bool.{ltb-false, ltb-true, le-ltb}
use Rattle.std.proofs.lemmas.List.{take-append-drop, length-append, length-drop, drop-drop, drop_at}
use Rattle.std.proofs.lemmas.Slice.Eq.{bytes_eq-Decides}
use Rattle.byteorder.specs.Endian.{big_bytes}
use Rattle.block_image.proofs.Each.{Each, AreBytes, each_drop, all_of, each_of}
use Rattle.block_image.proofs.BodyLaws.{number_takes, number_again}
use Rattle.machine_save.specs.declared.fault.SaveFault.{SaveFault}
use Rattle.machine_save.specs.declared.fault.SaveFault.TheVariants.{Magic, Version, Truncated}
use Rattle.machine_save.specs.Spelling.{magic, head, IsHead}
use Rattle.machine_save.specs.FirstFault.{FrontFault, no_magic, bad_magic, no_version, bad_version, no_registers}
use Rattle.machine_save.specs.inside.Reading.{◌>>=◌, wants, number_at, magic_at, version_at, head_at, next_in}
use Rattle.machine_save.specs.inside.Reading.{words, registers_in}
use Rattle.machine_save.proofs.Words.{length-words, length-bytes, words_again, words_spell}
use Rattle.machine_save.proofs.Steps.{bind_ok, bind_is, bind_fails, want_not, split, cond_ok, cut_or, want_ok}
use Rattle.machine_save.proofs.Steps.{want_fails, eq_true, false_eq, no_eq}
use Rattle.machine_save.proofs.Steps.{true_lt, no_bytes_eq, NumberTaken, number_found, number_fails, number_again_at}
use Rattle.machine_save.proofs.Steps.{number_short}

-- reading --------------------------------------------------------------------------------------

-- the magic stands in front
pub record MagicRead (bytes : List ℕ) : Type 0 where
  pub long : 8 ≤ length bytes
  pub is : take 8 bytes ≡ magic
  pub spelled : bytes ≡ magic ++ drop 8 bytes

pub magic_read : (bytes : List ℕ) (u : Unit {0}) → magic_at bytes ≡ Ok u → MagicRead bytes
unfolding magic_at
magic_read bytes u e =
    let m = cond_ok (nat_lt (length bytes) 8) (Truncated (length bytes))
    (wants (bytes_eq (take 8 bytes) magic) Magic) u e in
    let is : take 8 bytes ≡ magic = (bytes_eq-Decides (take 8 bytes) magic).0
    (want_ok (bytes_eq (take 8 bytes) magic) Magic u m.1) in
    record {
      long = ltb-false _ _ m.0;
      is = is;
      spelled = sym (take-append-drop 8 bytes) ∙ ap (λ (x : List ℕ). x ++ drop 8 bytes) is;
    }

-- and the version behind it
pub version_read : (bytes : List ℕ) (u : Unit {0}) → AreBytes bytes → version_at bytes ≡ Ok u
    → NumberTaken 8 bytes 1
unfolding version_at
version_read bytes u a e =
    let v = bind_ok (number_at 8 bytes) (λ v. wants (nat_eq v 1) Version) u e in
    let is : v.0 ≡ 1 = eq_true v.0 1 (want_ok (nat_eq v.0 1) Version u v.2) in
    subst (NumberTaken 8 bytes) is (number_found 8 bytes v.0 a v.1)

-- and there are bytes for the next block and the registers
pub head_read : (bytes : List ℕ) (u : Unit {0}) → head_at bytes ≡ Ok u → 1040 ≤ length bytes
unfolding head_at
head_read bytes u e =
    let m = cond_ok (nat_lt (length bytes) 1040) (Truncated (length bytes)) (Ok tt) u e in ltb-false _ _ m.0

-- so they stand there
pub head_is : (bytes : List ℕ) → AreBytes bytes → MagicRead bytes → NumberTaken 8 bytes 1 → 1040 ≤ length bytes
    → IsHead bytes (next_in bytes) (registers_in bytes) (drop 1040 bytes)
head_is bytes a m v long =
    let next = number_takes (drop 12 bytes) (omega (arith, length-drop 12 bytes))
    (each_drop (λ b. b < 256) 12 bytes a) in
    let regs = words_spell 128 (drop 16 bytes) (omega (arith, length-drop 16 bytes))
    (each_drop (λ b. b < 256) 16 bytes a) in
    record {
      fits = next.1;
      count = length-words 128 (drop 16 bytes);
      words = all_of (λ w. w < 2 ^ 64) (registers_in bytes) regs.1;
      spelled = m.spelled ∙ ap (λ (x : List ℕ). magic ++ x) (v.spelled
          ∙ ap (λ (x : List ℕ). big_bytes 4 1 ++ x) (sym next.0
          ∙ ap (λ (x : List ℕ). big_bytes 4 (next_in bytes) ++ x) (drop-drop 4 12 bytes ∙ sym regs.0
          ∙ ap (λ (x : List ℕ). flat_map (big_bytes 8) (registers_in bytes) ++ x) (drop-drop 1024 16 bytes))));
    }

-- faults of reading ----------------------------------------------------------------------------

pub magic_fault : (bytes : List ℕ) (f : SaveFault) → magic_at bytes ≡ Err f → FrontFault bytes f
unfolding magic_at
magic_fault bytes f e =
    cut_or (nat_lt (length bytes) 8) (Truncated (length bytes)) f
    (wants (bytes_eq (take 8 bytes) magic) Magic) (FrontFault bytes f)
    (λ p q. subst (FrontFault bytes) q (no_magic (ltb-true _ _ p)))
    (λ p h. let w = want_fails (bytes_eq (take 8 bytes) magic) Magic f h in
    subst (FrontFault bytes) w.1
    (bad_magic (ltb-false _ _ p)
    (λ m. let t : bytes_eq (take 8 bytes) magic ≡ true =
    (bytes_eq-Decides (take 8 bytes) magic).1 m in cc))) e

-- what is behind a place is short where the bytes are
short_rest : (at n : ℕ) (bytes : List ℕ) → length bytes < at + n → 0 < n → length (drop at bytes) < n
short_rest at n bytes l some = let e = length-drop at bytes in omega arith

pub version_fault : (bytes : List ℕ) (f : SaveFault) → AreBytes bytes → MagicRead bytes
    → version_at bytes ≡ Err f → FrontFault bytes f
unfolding version_at
version_fault bytes f a m e =
    elim (split (number_at 8 bytes) (λ v. wants (nat_eq v 1) Version) f e) [
      | inl h ↦ let n = number_fails 8 bytes f h in
          subst (FrontFault bytes) n.1
          (no_version (drop 8 bytes) m.spelled (short_rest 8 4 bytes n.0 (omega arith)))
      | inr h ↦
          let t = number_found 8 bytes h.0 a h.1 in
          let w = want_fails (nat_eq h.0 1) Version f h.2 in
          subst (FrontFault bytes) w.1
          (bad_version h.0 (drop 12 bytes)
          (m.spelled ∙ ap (λ (x : List ℕ). magic ++ x) t.spelled) t.below (false_eq h.0 1 w.0))
    ]

pub head_fault : (bytes : List ℕ) (f : SaveFault) → MagicRead bytes → NumberTaken 8 bytes 1
    → head_at bytes ≡ Err f → FrontFault bytes f
unfolding head_at
head_fault bytes f m v e =
    cut_or (nat_lt (length bytes) 1040) (Truncated (length bytes)) f (Ok tt) (FrontFault bytes f)
    (λ p q. subst (FrontFault bytes) q (no_registers (drop 12 bytes)
    (m.spelled ∙ ap (λ (x : List ℕ). magic ++ x) v.spelled)
    (short_rest 12 1028 bytes (ltb-true _ _ p) (omega arith))))
    (λ p q. absurd (let x : ◌≡◌ {A = Result (Unit {0}) SaveFault} (Ok tt) (Err f) = q in cc)) e

-- met again ------------------------------------------------------------------------------------

magic_good : (rest : List ℕ) → magic_at (magic ++ rest) ≡ Ok tt
unfolding magic_at
magic_good rest =
    let bytes = magic ++ rest in
    let l : nat_lt (length bytes) 8 ≡ false = le-ltb (length bytes) 8 (omega arith) in
    rw l refl

version_good : (rest : List ℕ) → version_at (magic ++ (big_bytes 4 1 ++ rest)) ≡ Ok tt
unfolding version_at
version_good rest =
    bind_is (number_at 8 (magic ++ (big_bytes 4 1 ++ rest))) (λ v. wants (nat_eq v 1) Version) 1 (Ok tt)
    (number_again_at 8 1 (magic ++ (big_bytes 4 1 ++ rest)) rest (lit< tt) refl) refl

head_good : (bytes : List ℕ) → 1040 ≤ length bytes → head_at bytes ≡ Ok tt
unfolding head_at
head_good bytes l = rw (le-ltb (length bytes) 1040 l) refl

-- what reading gives where a next block and registers stand there
pub record HeadAgain (bytes : List ℕ) (next : ℕ) (registers more : List ℕ) : Type 0 where
  pub magic_is : magic_at bytes ≡ Ok tt
  pub version_is : version_at bytes ≡ Ok tt
  pub head_is : head_at bytes ≡ Ok tt
  pub next_is : next ≡ next_in bytes
  pub registers_are : registers ≡ registers_in bytes
  pub behind : drop 1040 bytes ≡ more

written : (next : ℕ) (registers more : List ℕ) → next < 2 ^ 32 → length registers ≡ 128
    → Each (λ w. w < 2 ^ 64) registers → HeadAgain (head next registers more) next registers more
written next registers more fits count each =
    let spelled : List ℕ = flat_map (big_bytes 8) registers in
    let size : length spelled ≡ 1024 = length-bytes registers ∙ omega (arith, count) in
    let tail : List ℕ = spelled ++ more in
    let all : length tail ≡ 1024 + length more = length-append spelled more ∙ omega (arith, size) in
    record {
      magic_is = magic_good (big_bytes 4 1 ++ (big_bytes 4 next ++ tail));
      version_is = version_good (big_bytes 4 next ++ tail);
      head_is = head_good (head next registers more) (omega (arith, all));
      next_is = sym (number_again next tail fits);
      registers_are = sym (words_again 128 registers more count each);
      behind = sym (drop-drop 1024 16 (head next registers more)) ∙ drop_at spelled more 1024 size;
    }

pub head_again : (bytes : List ℕ) (next : ℕ) (registers more : List ℕ) → IsHead bytes next registers more
    → HeadAgain bytes next registers more
head_again bytes next registers more h = subst (λ (b : List ℕ). HeadAgain b next registers more) (sym h.spelled)
    (written next registers more h.fits h.count (each_of (λ w. w < 2 ^ 64) registers h.words))

-- faults, met again ----------------------------------------------------------------------------

pub magic_short : (bytes : List ℕ) → length bytes < 8 → magic_at bytes ≡ Err (Truncated (length bytes))
unfolding magic_at
magic_short bytes l = rw (true_lt (length bytes) 8 l) refl

pub magic_bad : (bytes : List ℕ) → 8 ≤ length bytes → (take 8 bytes ≡ magic → ⊥) → magic_at bytes ≡ Err Magic
unfolding magic_at
magic_bad bytes l n = rw (le-ltb (length bytes) 8 l, no_bytes_eq (take 8 bytes) magic n) refl

short_version : (rest : List ℕ) → length rest < 4
    → version_at (magic ++ rest) ≡ Err (Truncated (length (magic ++ rest)))
unfolding version_at
short_version rest l = bind_fails (number_at 8 (magic ++ rest)) (λ v. wants (nat_eq v 1) Version)
    (Truncated (length (magic ++ rest))) (number_short 8 (magic ++ rest) (omega arith))

bad_version_at : (v : ℕ) (rest : List ℕ) → v < 2 ^ 32 → (v ≡ 1 → ⊥)
    → version_at (magic ++ (big_bytes 4 v ++ rest)) ≡ Err Version
unfolding version_at
bad_version_at v rest l n =
    bind_is (number_at 8 (magic ++ (big_bytes 4 v ++ rest))) (λ v. wants (nat_eq v 1) Version) v (Err Version)
    (number_again_at 8 v (magic ++ (big_bytes 4 v ++ rest)) rest l refl)
    (want_not (nat_eq v 1) Version (no_eq v 1 n))

short_head : (bytes : List ℕ) → length bytes < 1040 → head_at bytes ≡ Err (Truncated (length bytes))
unfolding head_at
short_head bytes l = rw (true_lt (length bytes) 1040 l) refl

-- reading comes to the version, which is cut off or another one
pub version_short : (bytes rest : List ℕ) → bytes ≡ magic ++ rest → length rest < 4
    → (magic_at bytes ≡ Ok tt) × (version_at bytes ≡ Err (Truncated (length bytes)))
version_short bytes rest e l = subst (λ (b : List ℕ). (magic_at b ≡ Ok tt)
    × (version_at b ≡ Err (Truncated (length b)))) (sym e) (magic_good rest, short_version rest l)

pub version_bad : (v : ℕ) (bytes rest : List ℕ) → bytes ≡ magic ++ (big_bytes 4 v ++ rest) → v < 2 ^ 32
    → (v ≡ 1 → ⊥) → (magic_at bytes ≡ Ok tt) × (version_at bytes ≡ Err Version)
version_bad v bytes rest e l n = subst (λ (b : List ℕ). (magic_at b ≡ Ok tt) × (version_at b ≡ Err Version)) (sym e)
    (magic_good (big_bytes 4 v ++ rest), bad_version_at v rest l n)

-- or the registers, which are cut off
pub registers_short : (bytes rest : List ℕ) → bytes ≡ magic ++ (big_bytes 4 1 ++ rest) → length rest < 1028
    → (magic_at bytes ≡ Ok tt) × (version_at bytes ≡ Ok tt) × (head_at bytes ≡ Err (Truncated (length bytes)))
registers_short bytes rest e l = subst (λ (b : List ℕ). (magic_at b ≡ Ok tt) × (version_at b ≡ Ok tt)
    × (head_at b ≡ Err (Truncated (length b)))) (sym e) (
      magic_good (big_bytes 4 1 ++ rest),
      version_good rest,
      short_head (magic ++ (big_bytes 4 1 ++ rest)) (omega arith),
    )
