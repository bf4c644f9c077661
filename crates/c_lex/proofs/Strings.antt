-- String literals.
use Rattle.std.proofs.Common.{◌≡◌, ◌≤◌, ℕ, zero, suc, ◌+◌, min, Bool, true, false, ◌&&◌, cond, inl, inr}
use Rattle.std.proofs.Common.{[], ◌∷◌, ◌++◌, length, take, drop, Option, Some, None, refl, sym, ap, ◌∙◌, subst, arith}
use Rattle.std.proofs.Common.{nat_eq, nat_le, nat_lt, append_assoc, length-append, IfSome}
use Rattle.std.proofs.Math.Seq.{take-append_seam}
use Rattle.std.proofs.lemmas.Bool.Decides.{nat_tests}
use Rattle.c_lex.specs.Bytes.{Bytes, Goes, Each, by_class}
use Rattle.c_lex.specs.inside.Runs.{run_len}
use Rattle.c_lex.specs.Constants.{Character, plain, escape, octal, hexadecimal, is_digit_in, number_of, simple}
use Rattle.c_lex.specs.Strings.{is_ordinary, takes, goes_on, Characters, none, ordinary, escaped}
use Rattle.c_lex.specs.inside.Strings.{byte_of, octal_at, hexadecimal_at, simple_at, escape_at, character_at}
use Rattle.c_lex.specs.inside.Strings.{length_at, passed, joined, values_from}
use Rattle.c_lex.proofs.Basics.{differ, eq_is, le_is, true_or_false, first_same, second_same, lt_apart, le_true}
use Rattle.c_lex.proofs.Runs.{Stops, run_goes, run_le, run_most, run_exact, run_stops, length_run}
use Rattle.c_lex.proofs.Characters.{octal_range, simple_x, simple_octal, plain_no_escape}

no_and : (a b : Bool) → (a && (b && false)) ≡ false
no_and true true = refl
no_and true false = refl
no_and false b = refl

and_no : (a b : Bool) → (a && (false && b)) ≡ false
and_no true b = refl
and_no false b = refl

-- `"` goes on no escape
quote_ends : (c : Bytes) → takes c 34 ≡ false
quote_ends [] = refl
quote_ends (c ∷ cs) = by (nat_eq c 120)
  where
    by : (z : Bool)
        → cond z (is_digit_in 16 34) (is_digit_in 8 c && (nat_lt (length cs) 2 && is_digit_in 8 34)) ≡ false
    by true = refl
    by false = no_and (is_digit_in 8 c) (nat_lt (length cs) 2)

ends_before : (c bs r : Bytes) → goes_on c bs ≡ false → goes_on c (bs ++ 34 ∷ r) ≡ false
ends_before c [] r e = quote_ends c
ends_before c (b ∷ bs) r e = e

-- and so before a `"`
pub ends_at : (c bs r : Bytes) → goes_on c (bs ++ 34 ∷ r) ≡ false → goes_on c bs ≡ false
ends_at c [] r e = refl
ends_at c (b ∷ bs) r e = e

-- ---- what stands there is found

byte_there : (n v : ℕ) → v ≤ 255 → byte_of n v ≡ Some (n, v)
byte_there n v l = rw (le_true v 255 l) refl

digit_no_x : (d : ℕ) → is_digit_in 8 d ≡ true → nat_eq d 120 ≡ false
digit_no_x d o = let r : (48 ≤ d) × (d ≤ 55) = octal_range d o in
    let hi : d ≤ 55 = r.1 in lt_apart d 120 (omega arith)

-- an octal escape with a digit to come takes it
octal_stops : (d : ℕ) (ds bs : Bytes) → is_digit_in 8 d ≡ true → nat_lt (length ds) 2 ≡ true
    → goes_on (d ∷ ds) bs ≡ false → Stops (is_digit_in 8) bs
octal_stops d ds [] o l g = tt
octal_stops d ds (b ∷ bs) o l g =
    let F : Bool → Bool → Bool → Bool =
    λ x y z. cond x (is_digit_in 16 b) (y && (z && is_digit_in 8 b)) in
    let e : F (nat_eq d 120) (is_digit_in 8 d) (nat_lt (length ds) 2) ≡ F false true true =
    ap (λ (x : Bool). F x (is_digit_in 8 d) (nat_lt (length ds) 2)) (digit_no_x d o)
    ∙ ap (λ (y : Bool). F false y (nat_lt (length ds) 2)) o ∙ ap (λ (z : Bool). F false true z) l in
    sym e ∙ g

octal_size : (d : ℕ) (ds bs : Bytes) → Each (is_digit_in 8) (d ∷ ds) → length ds ≤ 2
    → goes_on (d ∷ ds) bs ≡ false → min (run_len (by_class (is_digit_in 8)) d (ds ++ bs)) 2 ≡ length ds
octal_size d ds bs o few g = elim (true_or_false (nat_lt (length ds) 2)) [
  | inl l ↦ (
      let r : run_len (by_class (is_digit_in 8)) d (ds ++ bs) ≡ length ds =
      run_exact (is_digit_in 8) d ds bs o.1 (octal_stops d ds bs o.0 l g) in
      omega arith)
  | inr l ↦ (
      let two : 2 ≤ length ds = grind (arith, nat_tests) in
      let r : length ds ≤ run_len (by_class (is_digit_in 8)) d (ds ++ bs) =
      run_most (by_class (is_digit_in 8)) d ds bs o.1 in
      omega arith)
]

octal_there : (d : ℕ) (ds bs : Bytes) → Each (is_digit_in 8) (d ∷ ds) → length ds ≤ 2
    → number_of 8 (d ∷ ds) ≤ 255 → goes_on (d ∷ ds) bs ≡ false
    → character_at 92 ((d ∷ ds) ++ bs) ≡ Some (suc (length ds), number_of 8 (d ∷ ds))
octal_there d ds bs o few b g =
    let E : Bool → Option (ℕ × ℕ) = λ z. cond z (hexadecimal_at (ds ++ bs))
    (cond (is_digit_in 8 d) (octal_at (d ∷ ds ++ bs)) (simple_at (simple d))) in
    let D : Bool → Option (ℕ × ℕ) = λ z. cond z (octal_at (d ∷ ds ++ bs)) (simple_at (simple d)) in
    let F : ℕ → Option (ℕ × ℕ) = λ n. byte_of (suc n) (number_of 8 (d ∷ take n (ds ++ bs))) in
    let T : Bytes → Option (ℕ × ℕ) = λ w. byte_of (suc (length ds)) (number_of 8 (d ∷ w)) in
    let begins : character_at 92 ((d ∷ ds) ++ bs) ≡ octal_at (d ∷ ds ++ bs) =
    ap E (digit_no_x d o.0) ∙ ap D o.0 in
    let size : octal_at (d ∷ ds ++ bs) ≡ F (length ds) = ap F (octal_size d ds bs o few g) in
    begins ∙ size ∙ ap T (take-append_seam ds bs) ∙ byte_there (suc (length ds)) (number_of 8 (d ∷ ds)) b

hexadecimal_stops : (ds bs : Bytes) → goes_on (120 ∷ ds) bs ≡ false → Stops (is_digit_in 16) bs
hexadecimal_stops ds [] g = tt
hexadecimal_stops ds (b ∷ bs) g = g

hexadecimal_there : (d : ℕ) (ds bs : Bytes) → Each (is_digit_in 16) (d ∷ ds) → number_of 16 (d ∷ ds) ≤ 255
    → goes_on (120 ∷ d ∷ ds) bs ≡ false
    → character_at 92 ((120 ∷ d ∷ ds) ++ bs) ≡ Some (suc (suc (length ds)), number_of 16 (d ∷ ds))
hexadecimal_there d ds bs o b g =
    let n = run_len (by_class (is_digit_in 16)) d (ds ++ bs) in
    let D : Bool → Option (ℕ × ℕ) = λ z. cond z (byte_of (suc (suc n)) (number_of 16 (d ∷ take n (ds ++ bs)))) None in
    let F : ℕ → Option (ℕ × ℕ) = λ n. byte_of (suc (suc n)) (number_of 16 (d ∷ take n (ds ++ bs))) in
    let T : Bytes → Option (ℕ × ℕ) = λ w. byte_of (suc (suc (length ds))) (number_of 16 (d ∷ w)) in
    let begins : character_at 92 ((120 ∷ d ∷ ds) ++ bs) ≡ F n = ap D o.0 in
    let size : n ≡ length ds =
    run_exact (is_digit_in 16) d ds bs o.1 (hexadecimal_stops (d ∷ ds) bs g) in
    begins ∙ ap F size ∙ ap T (take-append_seam ds bs) ∙ byte_there (suc (suc (length ds))) (number_of 16 (d ∷ ds)) b

simple_there : (b v : ℕ) (bs : Bytes) → simple b ≡ Some v → character_at 92 ((b ∷ []) ++ bs) ≡ Some (1, v)
simple_there b v bs s =
    let E : Bool → Option (ℕ × ℕ) = λ z. cond z (hexadecimal_at bs)
    (cond (is_digit_in 8 b) (octal_at (b ∷ bs)) (simple_at (simple b))) in
    let D : Bool → Option (ℕ × ℕ) = λ z. cond z (octal_at (b ∷ bs)) (simple_at (simple b)) in
    ap E (simple_x b v s) ∙ ap D (simple_octal b v s) ∙ ap simple_at s

-- an escape that takes as many digits as it may is found
escape_there : (e c : Bytes) (v : ℕ) (bs : Bytes) → e ≡ 92 ∷ c → Character e v → goes_on c bs ≡ false
    → character_at 92 (c ++ bs) ≡ Some (length c, v)
escape_there e c v bs h (plain {b = b} p) g =
    let b_is : b ≡ 92 = cc in absurd (differ b 92 (plain_no_escape b p) b_is)
escape_there e c v bs h (escape {b = b} s) g =
    let same : b ∷ [] ≡ c = cc in
    subst (λ (x : Bytes). character_at 92 (x ++ bs) ≡ Some (length x, v)) same (simple_there b v bs s)
escape_there e c v bs h (octal {d = d} {ds = ds} o few b) g =
    let same : d ∷ ds ≡ c = cc in
    let g' : goes_on (d ∷ ds) bs ≡ false = subst (λ (x : Bytes). goes_on x bs ≡ false) (sym same) g in
    subst (λ (x : Bytes). character_at 92 (x ++ bs) ≡ Some (length x, v)) same (octal_there d ds bs o few b g')
escape_there e c v bs h (hexadecimal {d = d} {ds = ds} o b) g =
    let same : 120 ∷ d ∷ ds ≡ c = cc in
    let g' : goes_on (120 ∷ d ∷ ds) bs ≡ false = subst (λ (x : Bytes). goes_on x bs ≡ false) (sym same) g in
    subst (λ (x : Bytes). character_at 92 (x ++ bs) ≡ Some (length x, v)) same (hexadecimal_there d ds bs o b g')

-- behind the bytes of a character the rest is what it was
skip_there : (c bs : Bytes) (n : ℕ) (vs : Bytes) → values_from 0 bs ≡ Some (n, vs)
    → values_from (length c) (c ++ bs) ≡ Some (length c + n, vs)
skip_there [] bs n vs e = e ∙ ap (λ (m : ℕ). Some (m, vs)) (omega arith)
skip_there (x ∷ c) bs n vs e =
    ap passed (skip_there c bs n vs e) ∙ ap (λ (m : ℕ). Some (m, vs)) (omega arith)

-- a character and what follows it
step_there : (b : ℕ) (bs : Bytes) (k v n : ℕ) (vs : Bytes) → nat_eq b 34 ≡ false
    → character_at b bs ≡ Some (k, v) → values_from k bs ≡ Some (n, vs)
    → values_from 0 (b ∷ bs) ≡ Some (suc n, v ∷ vs)
step_there b bs k v n vs q e f =
    let F : Bool → Option (ℕ × Bytes) = λ z. cond z (Some (0, []))
    (joined (character_at b bs) (values_from (length_at (character_at b bs)) bs)) in
    let G : Option (ℕ × ℕ) → Option (ℕ × Bytes) = λ o. joined o (values_from (length_at o) bs) in
    ap F q ∙ ap G e ∙ ap (joined (Some (k, v))) f

ordinary_apart : (b : ℕ) → is_ordinary b ≡ true → (nat_eq b 34 ≡ false) × (nat_eq b 92 ≡ false)
ordinary_apart b o = (
  elim (true_or_false (nat_eq b 34)) [
    | inr n ↦ n
    | inl y ↦ absurd (let f : false ≡ true = ap is_ordinary (sym (eq_is b 34 y)) ∙ o in cc)
  ],
  elim (true_or_false (nat_eq b 92)) [
    | inr n ↦ n
    | inl y ↦ absurd (let f : false ≡ true = ap is_ordinary (sym (eq_is b 92 y)) ∙ o in cc)
  ],
)

ordinary_there : (b : ℕ) (bs : Bytes) → is_ordinary b ≡ true → character_at b bs ≡ Some (0, b)
ordinary_there b bs o =
    let E : Bool → Option (ℕ × ℕ) = λ z. cond z (escape_at bs) (cond (is_ordinary b) (Some (0, b)) None) in
    let D : Bool → Option (ℕ × ℕ) = λ z. cond z (Some (0, b)) None in
    ap E (ordinary_apart b o).1 ∙ ap D o

-- what stands between two `"` is found, with its values
pub characters_there : (c vs r : Bytes) → Characters c vs → values_from 0 (c ++ 34 ∷ r) ≡ Some (length c, vs)
characters_there c vs r none = refl
characters_there c vs r (ordinary {b = b} {bs = bs} {vs = ws} o x) =
    step_there b (bs ++ 34 ∷ r) 0 b (length bs) ws (ordinary_apart b o).0 (ordinary_there b (bs ++ 34 ∷ r) o)
    (characters_there bs ws r x)
characters_there c vs r (escaped {c = e} {bs = bs} {vs = ws} {v = v} k g x) =
    let rest = bs ++ 34 ∷ r in
    let at : character_at 92 (e ++ rest) ≡ Some (length e, v) =
    escape_there (92 ∷ e) e v rest refl k (ends_before e bs r g) in
    let left : values_from (length e) (e ++ rest) ≡ Some (length e + length bs, ws) =
    skip_there e rest (length bs) ws (characters_there bs ws r x) in
    let size : suc (length e + length bs) ≡ length (92 ∷ e ++ bs) = ap suc (sym (length-append e bs)) in
    ap (λ (w : Bytes). values_from 0 (92 ∷ w)) (append_assoc e bs (34 ∷ r))
    ∙ step_there 92 (e ++ rest) (length e) v (length e + length bs) ws refl at left
    ∙ ap (λ (m : ℕ). Some (m, v ∷ ws)) size

-- a literal has one list of values
pub values_once : (c vs ws : Bytes) → Characters c vs → Characters c ws → vs ≡ ws
values_once c vs ws x y =
    second_same {A = Bytes} (length c, vs) (length c, ws)
    (sym (characters_there c vs [] x) ∙ characters_there c ws [] y)

-- ---- what is found stands there

byte_is : (k w n v : ℕ) → byte_of k w ≡ Some (n, v) → (w ≤ 255) × (n ≡ k) × (v ≡ w)
byte_is k w n v e = by (nat_le w 255) refl e
  where
    by : (z : Bool) → nat_le w 255 ≡ z → cond {A = Option (ℕ × ℕ)} z (Some (k, w)) None ≡ Some (n, v)
        → (w ≤ 255) × (n ≡ k) × (v ≡ w)
    by true z f = (
      le_is w 255 z,
      sym (first_same {A = ℕ} (k, w) (n, v) f),
      sym (second_same {A = ℕ} (k, w) (n, v) f),
    )
    by false z f = absurd (cc)

-- an escape that is found behind a backslash
pub record Escape (bs : Bytes) (n v : ℕ) : Type 0 where
  pub within : n ≤ length bs
  pub is : Character (92 ∷ take n bs) v
  pub ends : goes_on (take n bs) (drop n bs) ≡ false

escape_moved : (bs : Bytes) (n m v w : ℕ) → n ≡ m → v ≡ w → Escape bs m w → Escape bs n v
escape_moved bs n m v w e f x =
    subst (λ (k : ℕ). Escape bs k v) (sym e) (subst (λ (k : ℕ). Escape bs m k) (sym f) x)

goes_less : (p : ℕ → Bool) (last k n : ℕ) (bs : Bytes) → k ≤ n → Goes (by_class p) last (take n bs)
    → Goes (by_class p) last (take k bs)
goes_less p last zero n bs h g = tt
goes_less p last (suc k) zero bs h g = absurd (omega arith)
goes_less p last (suc k) (suc n) [] h g = tt
goes_less p last (suc k) (suc n) (b ∷ bs) h g = (g.0, goes_less p b k n bs (omega arith) g.1)

stops_ends : (d : ℕ) (cs bs : Bytes) → nat_eq d 120 ≡ false → Stops (is_digit_in 8) bs → goes_on (d ∷ cs) bs ≡ false
stops_ends d cs [] x s = refl
stops_ends d cs (b ∷ bs) x s =
    let F : Bool → Bool =
    λ z. cond z (is_digit_in 16 b) (is_digit_in 8 d && (nat_lt (length cs) 2 && is_digit_in 8 b)) in
    ap F x ∙ ap (λ (z : Bool). is_digit_in 8 d && (nat_lt (length cs) 2 && z)) s
    ∙ no_and (is_digit_in 8 d) (nat_lt (length cs) 2)

full_ends : (d : ℕ) (cs bs : Bytes) → nat_eq d 120 ≡ false → nat_lt (length cs) 2 ≡ false
    → goes_on (d ∷ cs) bs ≡ false
full_ends d cs [] x l = refl
full_ends d cs (b ∷ bs) x l =
    let F : Bool → Bool =
    λ z. cond z (is_digit_in 16 b) (is_digit_in 8 d && (nat_lt (length cs) 2 && is_digit_in 8 b)) in
    ap F x ∙ ap (λ (z : Bool). is_digit_in 8 d && (z && is_digit_in 8 b)) l
    ∙ and_no (is_digit_in 8 d) (is_digit_in 8 b)

octal_is : (d : ℕ) (ds : Bytes) (n v : ℕ) → is_digit_in 8 d ≡ true → octal_at (d ∷ ds) ≡ Some (n, v)
    → Escape (d ∷ ds) n v
octal_is d ds n v o e =
    let r = run_len (by_class (is_digit_in 8)) d ds in
    let k = min r 2 in
    let b = byte_is (suc k) (number_of 8 (d ∷ take k ds)) n v e in
    let all : r ≤ length ds = run_le (by_class (is_digit_in 8)) d ds in
    let size : length (take k ds) ≡ k = length_run k ds (omega arith) in
    let goes : Each (is_digit_in 8) (d ∷ take k ds) =
    (o, goes_less (is_digit_in 8) d k r ds (omega arith) (run_goes (by_class (is_digit_in 8)) d ds)) in
    escape_moved (d ∷ ds) n (suc k) v (number_of 8 (d ∷ take k ds)) b.1 b.2
    (record {
      within = omega arith;
      is = octal goes (omega arith) b.0;
      ends = elim (true_or_false (nat_lt (length (take k ds)) 2)) [
        | inl l ↦ (
            let few : length (take k ds) ≤ 1 = grind (arith, nat_tests) in
            let same : r ≡ k = omega arith in
            stops_ends d (take k ds) (drop k ds) (digit_no_x d o)
            (subst (λ (m : ℕ). Stops (is_digit_in 8) (drop m ds)) same (run_stops (is_digit_in 8) d ds)))
        | inr l ↦ full_ends d (take k ds) (drop k ds) (digit_no_x d o) l
      ];
    })

hexadecimal_ends : (cs bs : Bytes) → Stops (is_digit_in 16) bs → goes_on (120 ∷ cs) bs ≡ false
hexadecimal_ends cs [] s = refl
hexadecimal_ends cs (b ∷ bs) s = s

hexadecimal_is : (bs : Bytes) (n v : ℕ) → hexadecimal_at bs ≡ Some (n, v) → Escape (120 ∷ bs) n v
hexadecimal_is [] n v e = absurd (cc)
hexadecimal_is (d ∷ ds) n v e = by (is_digit_in 16 d) refl e
  where
    by : (z : Bool) → is_digit_in 16 d ≡ z
        → cond z (byte_of (suc (suc (run_len (by_class (is_digit_in 16)) d ds)))
        (number_of 16 (d ∷ take (run_len (by_class (is_digit_in 16)) d ds) ds))) None ≡ Some (n, v)
        → Escape (120 ∷ d ∷ ds) n v
    by true o f =
        let r = run_len (by_class (is_digit_in 16)) d ds in
        let b = byte_is (suc (suc r)) (number_of 16 (d ∷ take r ds)) n v f in
        let all : r ≤ length ds = run_le (by_class (is_digit_in 16)) d ds in
        escape_moved (120 ∷ d ∷ ds) n (suc (suc r)) v (number_of 16 (d ∷ take r ds)) b.1 b.2
        (record {
          within = omega arith;
          is = hexadecimal (o, run_goes (by_class (is_digit_in 16)) d ds) b.0;
          ends = hexadecimal_ends (d ∷ take r ds) (drop r ds) (run_stops (is_digit_in 16) d ds);
        })
    by false o f = absurd (cc)

simple_ends : (b v : ℕ) (bs : Bytes) → simple b ≡ Some v → goes_on (b ∷ []) bs ≡ false
simple_ends b v [] s = refl
simple_ends b v (c ∷ bs) s =
    let F : Bool → Bool = λ z. cond z (is_digit_in 16 c) (is_digit_in 8 b && (nat_lt 0 2 && is_digit_in 8 c)) in
    ap F (simple_x b v s) ∙ ap (λ (z : Bool). z && (nat_lt 0 2 && is_digit_in 8 c)) (simple_octal b v s)

simple_is : (b : ℕ) (bs : Bytes) (n v : ℕ) (o : Option ℕ) → simple b ≡ o → simple_at o ≡ Some (n, v)
    → Escape (b ∷ bs) n v
simple_is b bs n v None s e = absurd (cc)
simple_is b bs n v (Some w) s e =
    escape_moved (b ∷ bs) n 1 v w (sym (first_same {A = ℕ} (1, w) (n, v) e))
    (sym (second_same {A = ℕ} (1, w) (n, v) e))
    (record { within = omega arith; is = escape s; ends = simple_ends b w bs s })

escape_is : (bs : Bytes) (n v : ℕ) → escape_at bs ≡ Some (n, v) → Escape bs n v
escape_is [] n v e = absurd (cc)
escape_is (b ∷ bs) n v e = by (nat_eq b 120) (is_digit_in 8 b) refl refl e
  where
    by : (z y : Bool) → nat_eq b 120 ≡ z → is_digit_in 8 b ≡ y
        → cond z (hexadecimal_at bs) (cond y (octal_at (b ∷ bs)) (simple_at (simple b))) ≡ Some (n, v)
        → Escape (b ∷ bs) n v
    by true y z o f = subst (λ (x : ℕ). Escape (x ∷ bs) n v) (sym (eq_is b 120 z)) (hexadecimal_is bs n v f)
    by false true z o f = octal_is b bs n v o f
    by false false z o f = simple_is b bs n v (simple b) refl f

-- a character that is found, by its first byte
pub data At (b : ℕ) (bs : Bytes) (n v : ℕ) : Type 0 where
  itself : is_ordinary b ≡ true → n ≡ 0 → v ≡ b → At b bs n v
  behind_backslash : b ≡ 92 → Escape bs n v → At b bs n v

-- what is found is a character
pub at_is : (b : ℕ) (bs : Bytes) (n v : ℕ) → character_at b bs ≡ Some (n, v) → At b bs n v
at_is b bs n v e = by (nat_eq b 92) (is_ordinary b) refl refl e
  where
    by : (z y : Bool) → nat_eq b 92 ≡ z → is_ordinary b ≡ y
        → cond {A = Option (ℕ × ℕ)} z (escape_at bs) (cond {A = Option (ℕ × ℕ)} y (Some (0, b)) None) ≡ Some (n, v)
        → At b bs n v
    by true y z o f = behind_backslash (eq_is b 92 z) (escape_is bs n v f)
    by false true z o f = itself o (sym (first_same {A = ℕ} (0, b) (n, v) f))
        (sym (second_same {A = ℕ} (0, b) (n, v) f))
    by false false z o f = absurd (cc)

-- an escape that is found is within the text
pub escape_within : (bs : Bytes) (o : Option (ℕ × ℕ)) → o ≡ escape_at bs → IfSome o (λ x. x.0 ≤ length bs)
escape_within bs None e = tt
escape_within bs (Some x) e = (escape_is bs x.0 x.1 (sym e)).within
