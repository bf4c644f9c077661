-- Dense labels: how far the value of the test is above the first of them is the number of sections to skip.
use Rattle.std.proofs.Common.{◌≡◌, ◌≢◌, ℕ, zero, suc, ◌+◌, ◌-◌, ◌%◌, ◌^◌, ◌<◌, ◌≤◌, Bool, true, false, cond}
use Rattle.std.proofs.Common.{List, [], ◌∷◌, ◌++◌, drop, length, Option, Some, None, refl, sym, ap, subst, arith}
use Rattle.std.specs.Prelude.{nat_eq, nat_lt}
use Rattle.std.proofs.lemmas.Bool.Decides.{nat_tests}
use Rattle.c_tree.specs.declared.TypedStmt.{TypedStmt}
use Rattle.c_tree.specs.declared.TypedSection.{TypedSection}
use Rattle.c_tree.specs.declared.TypedProgram.{TypedProgram}
use Rattle.c_meaning_spec.specs.declared.signal.Ending.TheVariants.{More}
use Rattle.c_meaning_spec.specs.declared.signal.Halt.TheVariants.{NoStep}
use Rattle.c_meaning_spec.specs.State.{Result, Over, spend_of}
use Rattle.c_meaning_spec.specs.State as eval
use Rattle.c_meaning_spec.specs.Statement.{Target, bodies, leading, targets, run_from, compared}
use Rattle.c_meaning_spec.specs.Eval.{meaning}
use Rattle.flat_lower.specs.inside.Tree.{Sections, NoSections, WithSection}
use Rattle.flat_lower.specs.inside.Switches.{has_default, default_at, is_label, is_default, is_end}
use Rattle.flat_lower.specs.inside.Switches.{are_dense}
use Rattle.flat_lower.specs.inside.Emitted.{sections_in}
use Rattle.flat_lower.specs.inside.FitsSwitches.{case_count, cases_in}
use Rattle.ir_forms.specs.inside.FlatSteps.{State}
use Rattle.flat_lower.proofs.Related.{Scene, Related, spent}
use Rattle.flat_lower.proofs.SwitchLabels.{drop_next}

-- WORDS

-- the word a little above another is that, where it is not above it at all
at_once : (v w : ℕ) → v < 2 ^ 64 → w < 2 ^ 64 → (v + 0) % 2 ^ 64 ≡ w → w ≡ v
at_once v w p q h = omega (arith, h)

-- and no other, where it is
above : (v w d : ℕ) → v < 2 ^ 64 → suc d < 2 ^ 64 → (v + suc d) % 2 ^ 64 ≡ w → nat_eq w v ≡ false
above v w d p q h = let e : w ≢ v = λ e. omega (arith, h, e) in grind (arith, e, nat_tests)

-- from the next word it is one less
one_less : (v w d : ℕ) → v < 2 ^ 64 → suc d < 2 ^ 64 → (v + suc d) % 2 ^ 64 ≡ w
    → ((v + 1) % 2 ^ 64 + d) % 2 ^ 64 ≡ w
one_less v w d p q h = omega (arith, h)

-- how far a word is above another
pub distance : (v w : ℕ) → v < 2 ^ 64 → w < 2 ^ 64 → (v + (w + (2 ^ 64 - v)) % 2 ^ 64) % 2 ^ 64 ≡ w
distance v w p q = omega arith

-- none more, in front
none_first : (c : ℕ) → c ≡ 0 + c
none_first c = omega arith

-- one more, in front
one_first : (c : ℕ) → suc c ≡ 1 + c
one_first c = omega arith

-- what stands at `default` is none of the sections before
pub default_over : (m n o : ℕ) (xs : Sections) → m ≤ n → m ≤ o → m ≤ default_at n o xs
default_over m n o NoSections h k = k
default_over m n o (WithSection ls body rest) h k =
    default_over m (suc n) (cond (has_default ls) n o) rest (omega arith) (by_default (has_default ls))
  where
    by_default : (b : Bool) → m ≤ cond b n o
    by_default true = h
    by_default false = k

-- COMPARING

-- the number of sections to skip, of n
abbrev pub at_most : ℕ → ℕ → ℕ
at_most d n = cond (nat_lt d n) d n

-- no section is left where the definition says so
at_end : (w n D : ℕ) (here : List TypedStmt) (A : ℕ → ℕ → List Target → List TypedStmt → Type 0)
    → A 0 n [] here → (xs : List TypedSection) → is_end (sections_in xs) ≡ true
    → default_at (suc n) n (sections_in xs) ≡ D → A (cases_in (sections_in xs)) D (targets xs) here
at_end w n D here A a [] h e = subst (λ n. A 0 n [] here) e a
at_end w n D here A a (x ∷ xs) h e = absurd (cc h)

module _ (P : TypedProgram) where
  -- no step is left for a label
  pub record Short (s : eval.State) (c : ℕ) (r : Result) : Type 0 where
    pub at : eval.State
    pub is : r ≡ Over NoStep at
    pub output : at.output ≡ s.output
    pub all : s.stock ≤ c

  -- m sections are skipped, where n of them were passed before
  pub record Sought (all : List TypedSection) (s : eval.State) (n m c : ℕ) (r : Result) : Type 0 where
    pub at : eval.State
    pub is : r ≡ run_from (meaning P) (bodies (drop m all)) at
    pub count : m ≤ length all
    -- each that is passed has cost a step
    pub paid : at.stock + m ≤ s.stock + n
    pub left : s.stock ≤ at.stock + c
    pub rel : (S : Scene) (g : State) → Related S s g → Related S at g

  pub data Search (all : List TypedSection) (s : eval.State) (n m c : ℕ) (r : Result) : Type 0 where
    Runs_out : Short s c r → Search all s n m c r
    Finds : Sought all s n m c r → Search all s n m c r

  -- none of the labels that are left is equal
  none_equal : (all : List TypedSection) (s : eval.State) (n : ℕ) (here : List TypedStmt)
      → here ≡ bodies (drop n all) → n ≤ length all → Search all s n n 0 (run_from (meaning P) here s)
  none_equal all s n here h le = Finds (record {
    at = s;
    is = ap (λ b. run_from (meaning P) b s) h;
    count = le;
    paid = omega arith;
    left = omega arith;
    rel = λ S g r. r;
  })

  -- the label is the one
  one_equal : (all : List TypedSection) (s : eval.State) (k n c : ℕ) (here : List TypedStmt)
      → here ≡ bodies (drop n all) → n ≤ length all → s.stock ≡ suc k
      → Search all s n n (suc c) (run_from (meaning P) here (record s { stock = k }))
  one_equal all s k n c here h le ek = Finds (record {
    at = record s { stock = k };
    is = ap (λ b. run_from (meaning P) b (record s { stock = k })) h;
    count = le;
    paid = omega (arith, ek);
    left = omega (arith, ek);
    rel = λ S g r. spent S s g k r;
  })

  -- the label is another
  passed : (all : List TypedSection) (s : eval.State) (k n m c : ℕ) (r : Result) → s.stock ≡ suc k
      → Search all (record s { stock = k }) (suc n) m c r → Search all s n m (suc c) r
  passed all s k n m c r ek (Runs_out x) =
      Runs_out (record { at = x.at; is = x.is; output = x.output; all = omega (arith, ek, x.all) })
  passed all s k n m c r ek (Finds x) = Finds (record {
    at = x.at;
    is = x.is;
    count = x.count;
    paid = omega (arith, ek, x.paid);
    left = omega (arith, ek, x.left);
    rel = λ S g r. x.rel S g (spent S s g k r);
  })

  module _ (all : List TypedSection) (w D : ℕ) (below : w < 2 ^ 64) where
    -- what comparing from the section behind n others comes to, where the value is d above its label
    abbrev Comes : ℕ → ℕ → ℕ → List Target → List TypedStmt → eval.State → Type 0
    Comes n d c ts other s = Search all s n (at_most (n + d) D) c (compared (meaning P) w ts other s)

    -- a section with the label v
    one_section : (n v d c : ℕ) (here other : List TypedStmt) (ts : List Target) (s : eval.State)
        → here ≡ bodies (drop n all) → n < D → n ≤ length all → v < 2 ^ 64 → d < 2 ^ 64
        → (v + d) % 2 ^ 64 ≡ w
        → ((e : ℕ) (t : eval.State) → e < 2 ^ 64 → ((v + 1) % 2 ^ 64 + e) % 2 ^ 64 ≡ w
        → Comes (suc n) e c ts other t)
        → (k : ℕ) → s.stock ≡ k
        → Search all s n (at_most (n + d) D) (suc c) (spend_of k s (λ s. cond (nat_eq w v)
        (run_from (meaning P) here s) (compared (meaning P) w ts other s)))
    one_section n v d c here other ts s hn lt le pv pd h ih zero ek =
        Runs_out (record { at = s; is = refl; output = refl; all = omega (arith, ek) })
    one_section n v zero c here other ts s hn lt le pv pd h ih (suc k) ek =
        let e : nat_eq w v ≡ true = let e = at_once v w pv below h in grind (arith, e, nat_tests) in
        let f : nat_lt (n + 0) D ≡ true = grind (arith, lt, nat_tests) in
        let z : n ≡ n + 0 = omega arith in
        subst (λ b. Search all s n (cond b (n + 0) D) (suc c) (cond (nat_eq w v)
        (run_from (meaning P) here (record s { stock = k }))
        (compared (meaning P) w ts other (record s { stock = k })))) (sym f)
        (subst (λ b. Search all s n (n + 0) (suc c) (cond b
        (run_from (meaning P) here (record s { stock = k }))
        (compared (meaning P) w ts other (record s { stock = k })))) (sym e)
        (subst (λ m. Search all s n m (suc c) (run_from (meaning P) here (record s { stock = k }))) z
        (one_equal all s k n c here hn le ek)))
    one_section n v (suc d) c here other ts s hn lt le pv pd h ih (suc k) ek =
        let e = above v w d pv pd h in
        let z : suc n + d ≡ n + suc d = omega arith in
        subst (λ b. Search all s n (at_most (n + suc d) D) (suc c) (cond b
        (run_from (meaning P) here (record s { stock = k }))
        (compared (meaning P) w ts other (record s { stock = k })))) (sym e)
        (passed all s k n (at_most (n + suc d) D) c
        (compared (meaning P) w ts other (record s { stock = k })) ek
        (subst (λ m. Search all (record s { stock = k }) (suc n) (at_most m D) c
        (compared (meaning P) w ts other (record s { stock = k }))) z
        (ih d (record s { stock = k }) (omega arith) (one_less v w d pv pd h))))

    -- the sections that are to come
    pub dense_finds : (xs : List TypedSection) (v d n o : ℕ) (other : List TypedStmt) (s : eval.State)
        → drop n all ≡ xs → n + length xs ≡ length all → are_dense v (sections_in xs) ≡ true
        → v < 2 ^ 64 → d < 2 ^ 64 → (v + d) % 2 ^ 64 ≡ w → other ≡ bodies (drop o all)
        → o ≡ length all → default_at n o (sections_in xs) ≡ D
        → Comes n d (cases_in (sections_in xs)) (targets xs) other s
    dense_finds [] v d n o other s hd hc h pv pd hw ho lo eD =
        let f : nat_lt (n + d) D ≡ false = grind (arith, hc, lo, eD, nat_tests) in
        let z : n ≡ D = omega (arith, hc, lo, eD) in
        let y : n ≡ o = omega (arith, hc, lo) in
        subst (λ b. Search all s n (cond b (n + d) D) 0 (run_from (meaning P) other s)) (sym f)
        (subst (λ m. Search all s n m 0 (run_from (meaning P) other s)) z
        (none_equal all s n other (subst (λ m. other ≡ bodies (drop m all)) (sym y) ho) (omega (arith, hc))))
    dense_finds (x ∷ xs) v d n o other s hd hc h pv pd hw ho lo eD =
        by_labels (λ e t pe he g eD. dense_finds xs ((v + 1) % 2 ^ 64) e (suc n) o other t
        (drop_next all xs x n hd) (omega (arith, hc)) g (omega arith) pe he ho lo eD) x.labels h eD
      where
        by_labels : ((e : ℕ) (t : eval.State) → e < 2 ^ 64 → ((v + 1) % 2 ^ 64 + e) % 2 ^ 64 ≡ w
            → are_dense ((v + 1) % 2 ^ 64) (sections_in xs) ≡ true
            → default_at (suc n) o (sections_in xs) ≡ D
            → Comes (suc n) e (cases_in (sections_in xs)) (targets xs) other t)
            → (ls : List (Option ℕ))
            → cond (is_label v ls) (are_dense ((v + 1) % 2 ^ 64) (sections_in xs))
            (cond (is_default ls) (is_end (sections_in xs)) false) ≡ true
            → default_at (suc n) (cond (has_default ls) n o) (sections_in xs) ≡ D
            → Comes n d (case_count ls + cases_in (sections_in xs)) (leading ls (bodies (x ∷ xs)) ++ targets xs)
            other s
        by_labels ih [] h eD = absurd (cc h)
        by_labels ih (None ∷ []) h eD =
            subst (λ c. Search all s n (at_most (n + d) D) c
            (compared (meaning P) w (targets xs) (bodies (x ∷ xs)) s)) (none_first (cases_in (sections_in xs)))
            (at_end w n D (bodies (x ∷ xs)) (λ c m ts other. Search all s n (at_most (n + d) m) c
            (compared (meaning P) w ts other s)) (by_test (nat_lt (n + d) n) refl) xs h eD)
          where
            by_test : (b : Bool) → nat_lt (n + d) n ≡ b
                → Search all s n (cond b (n + d) n) 0 (run_from (meaning P) (bodies (x ∷ xs)) s)
            by_test true e = absurd (grind (arith, e, nat_tests))
            by_test false e =
                none_equal all s n (bodies (x ∷ xs)) (ap bodies (sym hd)) (omega (arith, hc))
        by_labels ih (None ∷ l ∷ ls) h eD = absurd (cc h)
        by_labels ih (Some u ∷ []) h eD = by_equal (nat_eq u v) refl h
          where
            by_equal : (b : Bool) → nat_eq u v ≡ b
                → cond b (are_dense ((v + 1) % 2 ^ 64) (sections_in xs)) false ≡ true
                → Comes n d (1 + cases_in (sections_in xs)) (leading (Some u ∷ []) (bodies (x ∷ xs)) ++ targets xs)
                other s
            by_equal true e h =
                let same : v ≡ u = grind (arith, e, nat_tests) in
                let over = default_over (suc n) (suc n) o (sections_in xs) (omega arith) (omega (arith, hc, lo)) in
                subst (λ u. Comes n d (1 + cases_in (sections_in xs))
                (leading (Some u ∷ []) (bodies (x ∷ xs)) ++ targets xs) other s) same
                (subst (λ c. Comes n d c (leading (Some v ∷ []) (bodies (x ∷ xs)) ++ targets xs) other s)
                (one_first (cases_in (sections_in xs)))
                (one_section n v d (cases_in (sections_in xs)) (bodies (x ∷ xs)) other (targets xs) s
                (ap bodies (sym hd)) (omega (arith, over, eD)) (omega (arith, hc)) pv pd hw
                (λ e t pe he. ih e t pe he h eD) s.stock refl))
            by_equal false e h = absurd (cc h)
        by_labels ih (Some u ∷ l ∷ ls) h eD = absurd (cc h)
