-- A header that is read is the header of what was read, and what was written is read again.
use Rattle.std.proofs.Common.{◌≡◌, ℕ, zero, suc, ◌+◌, ◌-◌, ◌*◌, ◌/◌, ◌%◌, ◌^◌, ◌<◌, ◌≤◌, Bool, true}
use Rattle.std.proofs.Common.{false, cond, List, [], ◌∷◌, length, take, map, Option, Some, None}
use Rattle.std.proofs.Common.{refl, sym, ap, subst, ◌∙◌, arith, nat_eq, nat_le, nat_lt, ◌&&◌, ◌||◌}
use Rattle.std.proofs.Common.{not, lit<}
use Rattle.std.proofs.Math.Nat.{add-mul, mul_assoc, add_assoc, one-le-pow, pow-succ'}
use Rattle.std.proofs.Math.Nat.{mul-le-mul_right}
use Rattle.std.proofs.lemmas.Nat.{div-mul-add, mod-mul-add, div_below, mod_below, div-add-mod'}
use Rattle.std.proofs.lemmas.Bool.Decides.{nat_tests}
use Rattle.trips_isa.specs.declared.block.Spot.{Spot}
use Rattle.trips_isa.specs.declared.block.ReadSlot.{ReadSlot}
use Rattle.block_image.specs.Words.{word_of}
use Rattle.block_image.specs.Headers.{first_of, rest_of, operand_number, second_number, read_fields}
use Rattle.block_image.specs.Headers.{write_field, header_word, words_from}
use Rattle.block_image.specs.HeaderReading.{info_from, reads_in, writes_in}
use Rattle.block_image.specs.HeaderReading.{is_good_info, is_bad}
use Rattle.block_image.specs.inside.HeaderReading.{first_bad, operand_at, read_at}
use Rattle.block_image.specs.inside.HeaderReading.{write_at}
use Rattle.block_image.proofs.Each.{Each, AreWords}
use Rattle.trips_isa.specs.Fits.{FitsOperand, FitsSecond, FitsRead}
use Rattle.block_image.proofs.Lists.{or_false}
use Rattle.trips_isa.specs.declared.block.Spot.TheVariants as spot

eq_no : (a b : ℕ) → (a ≡ b → ⊥) → nat_eq a b ≡ false
eq_no a b h = grind (arith, nat_tests)

-- of equal numbers the test of equality is true
pub eq_yes : (a b : ℕ) → a ≡ b → nat_eq a b ≡ true
eq_yes a b h = grind (arith, nat_tests)

eq_is : (a b : ℕ) → nat_eq a b ≡ true → a ≡ b
eq_is a b e = grind (arith, nat_tests)

not_eq : (a b : ℕ) → nat_eq a b ≡ false → a ≡ b → ⊥
not_eq a b e f = grind (arith, nat_tests)

-- of a lesser number the test of less is true
pub lt_yes : (a b : ℕ) → a < b → nat_lt a b ≡ true
lt_yes a b h = grind (arith, nat_tests)

lt_no : (a b : ℕ) → b ≤ a → nat_lt a b ≡ false
lt_no a b h = grind (arith, nat_tests)

lt_is : (a b : ℕ) → nat_lt a b ≡ true → a < b
lt_is a b h = grind (arith, nat_tests)

lt_not : (a b : ℕ) → nat_lt a b ≡ false → b ≤ a
lt_not a b h = grind (arith, nat_tests)

-- of a number that is at most another the test of this is true
pub le_yes : (a b : ℕ) → a ≤ b → nat_le a b ≡ true
le_yes a b h = grind (arith, nat_tests)

-- where the test of at most is true, the one number is at most the other
pub le_is : (a b : ℕ) → nat_le a b ≡ true → a ≤ b
le_is a b h = grind (arith, nat_tests)

-- ---- operands and reads

operand_below : (s : Spot) → FitsOperand s → operand_number s < 256
operand_below (spot.Left n) h = let l : n < 128 = h in omega arith
operand_below (spot.Right n) h = let l : n < 128 = h in omega arith
operand_below (spot.Read n) h = absurd h
operand_below (spot.Inst n) h = absurd h
operand_below (spot.Pred n) h = absurd h
operand_below (spot.Write n) h = absurd h
operand_below (spot.Store n) h = absurd h

operand_again : (s : Spot) → FitsOperand s → operand_at (operand_number s) ≡ s
unfolding operand_at
operand_again (spot.Left n) h = rw (lt_yes n 128 h) refl
operand_again (spot.Right n) h = let e : 128 + n - 128 ≡ n = omega arith in
    rw (lt_no (128 + n) 128 (omega arith), e) refl
operand_again (spot.Read n) h = absurd h
operand_again (spot.Inst n) h = absurd h
operand_again (spot.Pred n) h = absurd h
operand_again (spot.Write n) h = absurd h
operand_again (spot.Store n) h = absurd h

abbrev OperandIs : Spot → ℕ → Type 0
OperandIs s n = FitsOperand s × (operand_number s ≡ n)

operand_takes : (n : ℕ) → n < 256 → OperandIs (operand_at n) n
unfolding operand_at
operand_takes n l =
    let P : Bool → Type 0 = λ b. nat_lt n 128 ≡ b
    → OperandIs (cond b (spot.Left n) (spot.Right (n - 128))) n in
    elim (nat_lt n 128) as (λ b. P b) [
      | true ↦ λ e. (lt_is n 128 e, refl)
      | false ↦ λ e. let g : 128 ≤ n = lt_not n 128 e in (omega arith, omega arith)
    ] refl

second_below : (first : Spot) (second : Option Spot) → FitsOperand first → FitsSecond first second
    → second_number first second < 256
second_below first None f h = operand_below first f
second_below first (Some s) f h = operand_below s h.0

second_again : (first : Spot) (second : Option Spot) → FitsOperand first → FitsSecond first second
    → cond (nat_eq (second_number first second) (operand_number first)) None
    (Some (operand_at (second_number first second))) ≡ second
second_again first None f h = rw (eq_yes (operand_number first) (operand_number first) refl) refl
second_again first (Some s) f h =
    let differ : operand_number s ≡ operand_number first
    → ⊥ = λ e. h.1 (sym (operand_again s h.0) ∙ ap operand_at e ∙ operand_again first f) in
    rw (eq_no (operand_number s) (operand_number first) differ, operand_again s h.0) refl

read_from : (w : ℕ) (r : ReadSlot) → FitsRead r → w / 8388608 % 128 ≡ r.register
    → w / 128 % 256 ≡ operand_number r.first → w / 32768 % 256 ≡ second_number r.first r.second
    → read_at w ≡ r
unfolding read_at
read_from w r f e1 e2 e3 =
    rw (
      e1,
      e2,
      e3,
      operand_again r.first f.first,
      second_again r.first r.second f.first f.second,
    ) refl

-- a read that is read of a word fits
pub read_fits : (w : ℕ) → FitsRead (read_at w)
unfolding read_at
read_fits w =
    let a = w / 128 % 256 in
    let b = w / 32768 % 256 in
    let oa = operand_takes a (omega arith) in
    let ob = operand_takes b (omega arith) in
    let P : Bool → Type 0 = λ t. nat_eq b a ≡ t
    → FitsSecond (operand_at a) (cond t None (Some (operand_at b))) in
    record {
      register = omega arith;
      first = oa.0;
      second = elim (nat_eq b a) as (λ t. P t) [
        | true ↦ λ e. tt
        | false ↦ λ e. (ob.0, λ f. not_eq b a e (sym ob.1 ∙ ap operand_number f ∙ oa.1))
      ] refl;
    }

-- the fields of a read are those of the word
read_fields_at : (w : ℕ) → read_fields (Some (read_at w)) ≡ w / 128 % 8388608
unfolding read_at
read_fields_at w =
    let a = w / 128 % 256 in
    let b = w / 32768 % 256 in
    let oa = operand_takes a (omega arith) in
    let ob = operand_takes b (omega arith) in
    let P : Bool → Type 0 = λ t. nat_eq b a ≡ t
    → second_number (operand_at a) (cond t None (Some (operand_at b))) ≡ b in
    let second : second_number (operand_at a) (cond (nat_eq b a) None (Some (operand_at b))) ≡ b =
    elim (nat_eq b a) as (λ t. P t) [
      | true ↦ λ e. oa.1 ∙ sym (eq_is b a e)
      | false ↦ λ e. ob.1
    ] refl in
    rw (oa.1, second) (omega arith)

-- ---- one word

pub record HeaderParts (w q r x : ℕ) : Type 0 where
  pub pair : w / 1073741824 ≡ q
  pub read : w / 128 % 8388608 ≡ r
  pub write : w % 128 ≡ x

header_parts : (q r x : ℕ) → q < 4 → r < 8388608 → x < 128
    → HeaderParts (word_of ((2, q) ∷ (23, r) ∷ (7, x) ∷ [])) q r x
header_parts q r x lq lr lx = record { pair = omega arith; read = omega arith; write = omega arith }

pub FitsFirst : Option ReadSlot → Type 0
FitsFirst None = Unit {0}
FitsFirst (Some r) = FitsRead r

pub FitsWrite : Option ℕ → Type 0
FitsWrite None = Unit {0}
FitsWrite (Some w) = w < 128

-- the fields of a read that fits take 23 bits
pub fields_below : (r : Option ReadSlot) → FitsFirst r → read_fields r < 8388608
unfolding FitsFirst
fields_below None f = lit< tt
fields_below (Some r) f =
    let a : r.register < 128 = f.register in
    let b : second_number r.first r.second < 256 = second_below r.first r.second f.first f.second in
    let c : operand_number r.first < 256 = operand_below r.first f.first in
    omega arith

-- the field of a write that fits takes 7 bits
pub write_below : (w : Option ℕ) → FitsWrite w → write_field w < 128
unfolding FitsWrite
write_below None f = lit< tt
write_below (Some w) f = f

-- a word of a header holds its two info bits, its read and its write
pub one_word : (q : ℕ) (r : Option ReadSlot) (w : Option ℕ) → q < 4 → FitsFirst r → FitsWrite w
    → HeaderParts (header_word q r w) q (read_fields r) (write_field w)
one_word q r w l f g = header_parts q (read_fields r) (write_field w) l (fields_below r f)
    (write_below w g)

-- a read that fits is read again from its word
pub read_again : (q : ℕ) (r : ReadSlot) (w : Option ℕ) → q < 4 → FitsRead r → FitsWrite w
    → read_at (header_word q (Some r) w) ≡ r
unfolding FitsFirst
read_again q r w l f g =
    let h = header_word q (Some r) w in
    let x : write_field w < 128 = write_below w g in
    let a : r.register < 128 = f.register in
    let b : second_number r.first r.second < 256 = second_below r.first r.second f.first f.second in
    let c : operand_number r.first < 256 = operand_below r.first f.first in
    read_from h r f (omega arith) (omega arith) (omega arith)

-- of reads that all fit the first one does, where there is one
pub each_first : (rs : List ReadSlot) → Each FitsRead rs → FitsFirst (first_of rs)
unfolding FitsFirst
each_first [] f = tt
each_first (r ∷ rs) f = f.0

-- what holds of each item holds of each behind the first
pub each_rest : {A : Type 0} (P : A → Type 0) (rs : List A) → Each P rs → Each P (rest_of rs)
each_rest P [] f = tt
each_rest P (r ∷ rs) f = f.1

-- of writes that all fit the first one does, where there is one
pub each_write : (ws : List ℕ) → Each (λ w. w < 128) ws → FitsWrite (first_of ws)
unfolding FitsWrite
each_write [] f = tt
each_write (w ∷ ws) f = f.0

-- ---- the info bits as digits of base 4

-- each read fits
abbrev pub FitReads : List ReadSlot → Type 0
FitReads rs = Each FitsRead rs

-- each write is one of the 128 registers
abbrev pub FitWrites : List ℕ → Type 0
FitWrites ws = Each (λ w. w < 128) ws

pub power : (n : ℕ) → 4 ^ suc n ≡ 4 * 4 ^ n
power n = pow-succ' 4 n

-- the info bits of the first of some words are below 4
pub digit_below : (n info : ℕ) → info < 4 ^ suc n → info / 4 ^ n < 4
digit_below n info l = div_below info (4 ^ n) 4 (one-le-pow n 4 (omega arith))
    (subst (λ (p : ℕ). info < p) (power n) l)

-- the info bits of the words behind the first are two for each
pub rest_below : (n info : ℕ) → info % 4 ^ n < 4 ^ n
rest_below n info = mod_below info (4 ^ n) (one-le-pow n 4 (omega arith))

shift : (acc q p r : ℕ) → (acc * 4 + q) * p + r ≡ acc * (4 * p) + (q * p + r)
shift acc q p r = ap (λ (x : ℕ). x + r)
    (add-mul (acc * 4) q p ∙ ap (λ (x : ℕ). x + q * p) (mul_assoc acc 4 p))
    ∙ add_assoc (acc * (4 * p)) (q * p) r

-- the info bits of a header are read again from its words, behind those that were read before
pub info_again : (n acc info : ℕ) (rs : List ReadSlot) (ws : List ℕ) → info < 4 ^ n → FitReads rs
    → FitWrites ws → info_from acc (words_from n info rs ws) ≡ acc * 4 ^ n + info
unfolding words_from
info_again zero acc info rs ws l f g = omega arith
info_again (suc n) acc info rs ws l f g =
    let q = info / 4 ^ n in
    let p = one_word q (first_of rs) (first_of ws) (digit_below n info l) (each_first rs f)
    (each_write ws g) in
    let rest = info_again n (acc * 4 + q) (info % 4 ^ n) (rest_of rs) (rest_of ws)
    (rest_below n info) (each_rest FitsRead rs f) (each_rest (λ w. w < 128) ws g) in
    ap (λ (x : ℕ). info_from (acc * 4 + x) (words_from n (info % 4 ^ n) (rest_of rs) (rest_of ws)))
    p.pair
    ∙ rest ∙ shift acc q (4 ^ n) (info % 4 ^ n)
    ∙ ap (λ (x : ℕ). acc * (4 * 4 ^ n) + x) (div-add-mod' info (4 ^ n))
    ∙ ap (λ (x : ℕ). acc * x + info) (sym (power n))

pub info_moves : (n acc : ℕ) (ws : List ℕ) → length ws ≡ n
    → info_from acc ws ≡ acc * 4 ^ n + info_from 0 ws
info_moves zero acc [] e = omega arith
info_moves zero acc (w ∷ ws) e = absurd (omega arith)
info_moves (suc n) acc [] e = absurd (omega arith)
info_moves (suc n) acc (w ∷ ws) e =
    let q = w / 1073741824 in
    let a = info_moves n (acc * 4 + q) ws (omega arith) in
    let b = info_moves n (0 * 4 + q) ws (omega arith) in
    let z : 0 * 4 + q ≡ q = omega arith in
    let b' : info_from (0 * 4 + q) ws ≡ q * 4 ^ n + info_from 0 ws = b
    ∙ ap (λ (x : ℕ). x * 4 ^ n + info_from 0 ws) z in
    a ∙ shift acc q (4 ^ n) (info_from 0 ws) ∙ ap (λ (x : ℕ). acc * (4 * 4 ^ n) + x) (sym b')
    ∙ ap (λ (x : ℕ). acc * x + info_from (0 * 4 + q) ws) (sym (power n))

-- n words have two info bits each
pub info_below : (n : ℕ) (ws : List ℕ) → length ws ≡ n → AreWords ws → info_from 0 ws < 4 ^ n
info_below zero [] e f = omega arith
info_below zero (w ∷ ws) e f = absurd (omega arith)
info_below (suc n) [] e f = absurd (omega arith)
info_below (suc n) (w ∷ ws) e f =
    let q = w / 1073741824 in
    let len : length ws ≡ n = omega arith in
    let low : w < 2 ^ 32 = f.0 in
    let m = info_moves n (0 * 4 + q) ws len in
    let z : 0 * 4 + q ≡ q = omega arith in
    let all : info_from (0 * 4 + q) ws ≡ q * 4 ^ n + info_from 0 ws = m
    ∙ ap (λ (x : ℕ). x * 4 ^ n + info_from 0 ws) z in
    let r : info_from 0 ws < 4 ^ n = info_below n ws len f.1 in
    let t : q ≤ 3 = omega arith in
    let u : q * 4 ^ n ≤ 3 * 4 ^ n = mul-le-mul_right (4 ^ n) t in
    let v = power n in
    omega arith

-- ---- what is read is spelled so

word_takes : (w kr kw : ℕ) (ws : List ℕ) → w < 2 ^ 32 → (kr ≡ 0 → w / 128 % 8388608 ≡ 0)
    → (kw ≡ 0 → w % 128 ≡ 0)
    → header_word (w / 1073741824) (first_of (map read_at (take kr (w ∷ ws))))
    (first_of (map write_at (take kw (w ∷ ws)))) ≡ w
word_takes w zero zero ws l f g = let a = f refl in let b = g refl in omega arith
word_takes w zero (suc kw) ws l f g = let a = f refl in omega arith
word_takes w (suc kr) zero ws l f g = let b = g refl in let r = read_fields_at w in omega arith
word_takes w (suc kr) (suc kw) ws l f g = let r = read_fields_at w in omega arith

rest_take : {A : Type 0} (f : ℕ → A) (k w : ℕ) (ws : List ℕ)
    → rest_of (map f (take k (w ∷ ws))) ≡ map f (take (k - 1) ws)
rest_take f zero w ws = refl
rest_take f (suc k) w ws = let e : suc k - 1 ≡ k = omega arith in rw e refl

record Clean (info i w : ℕ) : Type 0 where
  pub read : reads_in info ≤ i → w / 128 % 8388608 ≡ 0
  pub write : writes_in info ≤ i → w % 128 ≡ 0

and_not : (a b : Bool) → (a && not b) ≡ false → a ≡ true → b ≡ true
and_not true true e p = refl
and_not true false e p = absurd cc
and_not false b e p = absurd cc

clean : (info i w : ℕ) → is_bad info i w ≡ false → Clean info i w
unfolding is_bad
clean info i w e =
    let x = nat_le (reads_in info) i && not (nat_eq (w / 128 % 8388608) 0) in
    let y = nat_le (writes_in info) i && not (nat_eq (w % 128) 0) in
    let a = or_false (x || y) (nat_eq i 16 && not (is_good_info info)) e in
    let b = or_false x y a.0 in
    record {
      read = λ l. eq_is _ 0 (and_not (nat_le (reads_in info) i) (nat_eq (w / 128 % 8388608) 0) b.0
          (le_yes _ _ l));
      write = λ l. eq_is _ 0 (and_not (nat_le (writes_in info) i) (nat_eq (w % 128) 0) b.1
          (le_yes _ _ l));
    }

first_none : (info i w : ℕ) (ws : List ℕ) → first_bad info i (w ∷ ws) ≡ None
    → (is_bad info i w ≡ false) × (first_bad info (suc i) ws ≡ None)
unfolding first_bad
first_none info i w ws = by (is_bad info i w)
  where
    by : (b : Bool) → cond b (Some i) (first_bad info (suc i) ws) ≡ None → (b ≡ false)
        × (first_bad info (suc i) ws ≡ None)
    by true e = absurd (let q : Some i ≡ None = e in cc)
    by false e = (refl, e)

-- words of which none is bad are written again of their info bits, their reads and their writes
pub words_takes : (info n i : ℕ) (ws : List ℕ) → length ws ≡ n → AreWords ws
    → first_bad info i ws ≡ None
    → words_from n (info_from 0 ws) (map read_at (take (reads_in info - i) ws))
    (map write_at (take (writes_in info - i) ws)) ≡ ws
unfolding words_from
words_takes info zero i [] e f h = refl
words_takes info zero i (w ∷ ws) e f h = absurd (omega arith)
words_takes info (suc n) i [] e f h = absurd (omega arith)
words_takes info (suc n) i (w ∷ ws) e f h =
    let kr = reads_in info - i in
    let kw = writes_in info - i in
    let s = first_none info i w ws h in
    let c = clean info i w s.0 in
    let q = w / 1073741824 in
    let len : length ws ≡ n = omega arith in
    let below : info_from 0 ws < 4 ^ n = info_below n ws len f.1 in
    let z : 0 * 4 + q ≡ q = omega arith in
    let all : info_from (0 * 4 + q) ws ≡ q * 4 ^ n + info_from 0 ws =
    info_moves n (0 * 4 + q) ws len ∙ ap (λ (x : ℕ). x * 4 ^ n + info_from 0 ws) z in
    let top : info_from (0 * 4 + q) ws / 4 ^ n ≡ q = ap (λ (x : ℕ). x / 4 ^ n) all
    ∙ div-mul-add q (4 ^ n) (info_from 0 ws) below in
    let low : info_from (0 * 4 + q) ws % 4 ^ n ≡ info_from 0 ws = ap (λ (x : ℕ). x % 4 ^ n) all
    ∙ mod-mul-add q (4 ^ n) (info_from 0 ws) below in
    let er : kr - 1 ≡ reads_in info - suc i = omega arith in
    let ew : kw - 1 ≡ writes_in info - suc i = omega arith in
    let one = word_takes w kr kw ws f.0 (λ z. c.read (omega arith)) (λ z. c.write (omega arith)) in
    let rest = words_takes info n (suc i) ws len f.1 s.1 in
    rw (top, low, rest_take read_at kr w ws, rest_take write_at kw w ws, er, ew, rest, one) refl
