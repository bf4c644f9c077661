-- Unrolled programs: block by block, their runs, and what they are.
use Rattle.std.proofs.Common.{◌≡◌, ℕ, zero, suc, ◌+◌, ◌-◌, ◌≤◌, Bool, true, false, cond, nat_lt, List, []}
use Rattle.std.proofs.Common.{◌∷◌, length, Option, Some, None, slice_get, refl, sym, ap, ap₂, ◌∙◌, subst, arith, not}
use Rattle.std.proofs.Common.{◌&&◌}
use Rattle.ir_forms.specs.declared.hyper.Source.{Source}
use Rattle.ir_forms.specs.inside.HyperCode.{Tail, Leave, Test, Block}
use Rattle.trips_isa.specs.inside.Acts.{is_clean}
use Rattle.ir_forms.specs.inside.HyperRuns.{Machine, Layout, block_or, block_at, start, hyper_run, after_items, acts}
use Rattle.ir_forms.specs.inside.HyperRuns.{exit_of}
use Rattle.ir_forms.specs.inside.HyperFits.{FitsSource, FitsTail, FitsHyper, AllLeadOn, IsFollowed, filled_ifs}
use Rattle.ir_forms.specs.inside.HyperFits.{filled_in}
use Rattle.loop_unroll.specs.inside.Unrolled.{Loop, loop_by, loop_of, jumps_to, unrolled_by, more_turns}
use Rattle.loop_unroll.specs.inside.Unrolled.{asked, unrolled_from, unrolled}
use Rattle.loop_unroll.specs.inside.Wholes.{Whole, Going, Over, Faulty, Next, Stop, Goes, next_of, go_on, whole}
use Rattle.loop_unroll.specs.inside.Wholes.{standing_of}
use Rattle.loop_unroll.specs.inside.Laws.{UnrollsRuns, UnrollsPrograms, UnrollsBlocks, HasStopped}
use Rattle.loop_unroll.specs.inside.Laws.{StoppedStays, StaysOnce}
use Rattle.loop_unroll.proofs.Runs.{found}
use Rattle.loop_unroll.proofs.Standings.{wholes_stand}
use Rattle.loop_unroll.proofs.Held.{held_turns_fit, held_turns_filled}

-- ENTRIES

more_few : (t : ℕ) → more_turns t ≤ 7
more_few t = go (nat_lt t 8) refl
  where
    go : (c : Bool) → nat_lt t 8 ≡ c → cond c (t - 1) 7 ≤ 7
    go true e = grind arith
    go false e = omega arith

pub asked_few : (ts : List ℕ) (k : ℕ) → asked ts k ≤ 7
asked_few [] k = omega arith
asked_few (t ∷ ts) zero = more_few t
asked_few (t ∷ ts) (suc k) = asked_few ts k

-- BLOCKS

-- the block of a number
pub got : (i j : ℕ) (more : ℕ → ℕ) (P : List Block) (k : ℕ) → j ≡ i + k
    → block_or (slice_get (unrolled_from i more P) k)
    ≡ unrolled_by (loop_of j (block_or (slice_get P k)).tail) (more j) (block_or (slice_get P k))
got i j more [] k e = refl
got i j more (b ∷ bs) zero e =
    let q : i ≡ j = omega (arith, e) in
    ap (λ x. unrolled_by (loop_of x b.tail) (more x) b) q
got i j more (b ∷ bs) (suc k) e = got (suc i) j more bs k (omega (arith, e))

pub block_is : (times : List ℕ) (P : List Block) (k : ℕ)
    → block_at (unrolled times P) k
    ≡ unrolled_by (loop_of k (block_at P k).tail) (asked times k) (block_at P k)
block_is times P k = got 0 k (asked times) P k (omega arith)

-- RUNS

pub unrolls_runs : UnrollsRuns
unrolls_runs check at w times P l m b low =
    found check at P (unrolled times P) w (asked times) low (block_is times P) b l m

pub unrolls_programs : UnrollsPrograms
unfolding hyper_run
unrolls_programs check at w times P bytes input b low =
    let r = unrolls_runs check at w times P 0 (start bytes input) b low in
    record {
      blocks = r.blocks;
      few = r.few;
      enough = r.enough;
      same = wholes_stand check at (unrolled times P) r.blocks (block_at (unrolled times P) 0) (start bytes input)
          ∙ ap standing_of r.same ∙ sym (wholes_stand check at P b (block_at P 0) (start bytes input));
    }

-- A STOPPED RUN

-- has it ended, or come to a fault
abbrev IsThrough : Whole → Type 0
IsThrough (Going out) = ⊥
IsThrough (Over e m) = Unit {0}
IsThrough Faulty = Unit {0}

through : (x : Whole) → HasStopped (standing_of x) → IsThrough x
through (Going out) h = absurd h
through (Over e m) h = tt
through Faulty h = tt

module _ (P : List Block) (f g : Block → Machine → Whole) (h : (b : Block) (m : Machine) → IsThrough (f b m) → g b m
    ≡ f b m)
  where
    goes_on : (x : Next) → IsThrough (go_on P f x) → go_on P g x ≡ go_on P f x
    goes_on (Stop e m) t = refl
    goes_on (Goes l m) t = h (block_at P l) m t

cleanly : (c : Bool) (x y : Whole) → (IsThrough x → y ≡ x) → IsThrough (cond c Faulty x)
    → cond c Faulty y ≡ cond c Faulty x
cleanly true x y h t = refl
cleanly false x y h t = h t

whole_stays : (check : Bool) (at : Layout) (P : List Block) (n k j : ℕ) (b : Block) (m : Machine) → j ≡ n + k
    → IsThrough (whole check at P n b m) → whole check at P j b m ≡ whole check at P n b m
whole_stays check at P zero k j b m e t = absurd t
whole_stays check at P (suc n) k zero b m e t = absurd (omega (arith, e))
whole_stays check at P (suc n) k (suc j) b m e t =
    let m1 = after_items b.items m in
    let x = next_of at (exit_of b.tail m1.registers) m1 in
    cleanly (check && not (is_clean (acts b.items m))) (go_on P (whole check at P n) x)
    (go_on P (whole check at P j) x)
    (goes_on P (whole check at P n) (whole check at P j)
    (λ b m t. whole_stays check at P n k j b m (omega (arith, e)) t) x) t

pub stopped_stays : StoppedStays
unfolding hyper_run
stopped_stays check at P bytes input n k h =
    let b = block_at P 0 in
    let m = start bytes input in
    let e = wholes_stand check at P n b m in
    let t = through (whole check at P n b m) (subst HasStopped e h) in
    wholes_stand check at P (n + k) b m
    ∙ ap standing_of (whole_stays check at P n k (n + k) b m refl t) ∙ sym e

pub there : (i j : ℕ) (more : ℕ → ℕ) (P : List Block) (k : ℕ) (b : Block) → j ≡ i + k → slice_get P k ≡ Some b
    → slice_get (unrolled_from i more P) k ≡ Some (unrolled_by (loop_of j b.tail) (more j) b)
there i j more [] k b e h = absurd (cc h)
there i j more (a ∷ P) zero b e h =
    let q : i ≡ j = omega (arith, e) in
    let d : a ≡ b = cc in
    ap (λ (a : Block). Some (unrolled_by (loop_of i a.tail) (more i) a)) d
    ∙ ap (λ x. Some (unrolled_by (loop_of x b.tail) (more x) b)) q
there i j more (a ∷ P) (suc k) b e h = there (suc i) j more P k b (omega (arith, e)) h

-- WHAT BLOCKS ARE

-- the block of the program that a block comes of
pub record Origin (k : ℕ) (more : ℕ) (P : List Block) (at : ℕ) (c : Block) : Type 0 where
  pub block : Block
  pub there : slice_get P at ≡ Some block
  pub is : c ≡ unrolled_by (loop_of k block.tail) more block

pub origin : (i j : ℕ) (more : ℕ → ℕ) (P : List Block) (k : ℕ) (c : Block) → j ≡ i + k
    → slice_get (unrolled_from i more P) k ≡ Some c → Origin j (more j) P k c
origin i j more [] k c e h = absurd (cc h)
origin i j more (b ∷ bs) zero c e h = record {
  block = b;
  there = refl;
  is = let q : i ≡ j = omega (arith, e) in
      let d : unrolled_by (loop_of i b.tail) (more i) b ≡ c = cc in
      sym d ∙ ap (λ x. unrolled_by (loop_of x b.tail) (more x) b) q;
}
origin i j more (b ∷ bs) (suc k) c e h =
    let r = origin (suc i) j more bs k c (omega (arith, e)) h in
    record { block = r.block; there = r.there; is = r.is }

pub sized : (i : ℕ) (more : ℕ → ℕ) (P : List Block) → length (unrolled_from i more P) ≡ length P
sized i more [] = refl
sized i more (b ∷ bs) = ap suc (sized (suc i) more bs)

same_end : (o : Option Loop) (n : ℕ) (b : Block) → (unrolled_by o n b).tail ≡ b.tail
same_end None n b = refl
same_end (Some x) n b = refl

followed : (times : List ℕ) (P : List Block) → IsFollowed P → IsFollowed (unrolled times P)
followed times P f k c h =
    let o = origin 0 k (asked times) P k c (omega arith) h in
    let t : o.block.tail ≡ c.tail =
    sym (ap (λ (b : Block). b.tail) o.is ∙ same_end (loop_of k o.block.tail) (asked times k) o.block) in
    let n : length P ≡ length (unrolled times P) = sym (sized 0 (asked times) P) in
    subst (λ (s : ℕ). AllLeadOn k s c.tail) n (subst (AllLeadOn k (length P)) t (f k o.block o.there))

-- FIELDS

test_fits : (k : ℕ) (T : Tail) (z : Loop) → loop_of k T ≡ Some z → FitsTail T → FitsSource z.test
test_fits k (Leave x) z e f = absurd (cc e)
test_fits k (Test t (Leave x) (Leave y)) z e f = go (jumps_to k x) (jumps_to k y) z e
  where
    go : (p q : Bool) (z : Loop) → loop_by t p q ≡ Some z → FitsSource z.test
    go true true z e = absurd (cc e)
    go true false z e =
        let d : record { test = t; way = true } ≡ z = cc in subst (λ (z : Loop). FitsSource z.test) d f.0
    go false true z e =
        let d : record { test = t; way = false } ≡ z = cc in subst (λ (z : Loop). FitsSource z.test) d f.0
    go false false z e = absurd (cc e)
test_fits k (Test t (Leave x) (Test u one other)) z e f = absurd (cc e)
test_fits k (Test t (Test u one other) y) z e f = absurd (cc e)

fits_by : (k n : ℕ) (b : Block) → FitsHyper b → (o : Option Loop) → loop_of k b.tail ≡ o
    → FitsHyper (unrolled_by o n b)
fits_by k n b f None e = f
fits_by k n b f (Some z) e = record {
  items = held_turns_fit z.way z.test b.items n (test_fits k b.tail z e f.tail) f.items;
  tail = f.tail;
}

all_fit : (times : List ℕ) (P : List Block) → ((k : ℕ) (b : Block) → slice_get P k ≡ Some b → FitsHyper b) → (k : ℕ)
    (c : Block) → slice_get (unrolled times P) k ≡ Some c → FitsHyper c
all_fit times P f k c h =
    let o = origin 0 k (asked times) P k c (omega arith) h in
    subst FitsHyper (sym o.is)
    (fits_by k (asked times k) o.block (f k o.block o.there) (loop_of k o.block.tail) refl)

-- FILLED IFS

filled_by : (o : Option Loop) (n : ℕ) (b : Block) → filled_ifs b.items ≤ filled_ifs (unrolled_by o n b).items
filled_by None n b = omega arith
filled_by (Some x) n b = held_turns_filled x.way x.test b.items n

filled : (i : ℕ) (more : ℕ → ℕ) (P : List Block) → filled_in P ≤ filled_in (unrolled_from i more P)
filled i more [] = omega arith
filled i more (b ∷ bs) =
    let h = filled_by (loop_of i b.tail) (more i) b in
    let r = filled (suc i) more bs in
    omega (arith, h, r)

-- ONE COPY

one_copy : (o : Option Loop) (n : ℕ) (b : Block) → n ≡ 0 → unrolled_by o n b ≡ b
one_copy None n b e = refl
one_copy (Some x) zero b e = refl
one_copy (Some x) (suc n) b e = absurd (omega (arith, e))

once : (i : ℕ) (more : ℕ → ℕ) (P : List Block) → ((k : ℕ) → more k ≤ 0) → unrolled_from i more P ≡ P
once i more [] low = refl
once i more (b ∷ bs) low =
    let h = low i in
    ap₂ (λ (x : Block) (xs : List Block). x ∷ xs) (one_copy (loop_of i b.tail) (more i) b (omega (arith, h)))
    (once (suc i) more bs low)

pub stays_once : StaysOnce
stays_once times P low = once 0 (asked times) P low

pub unrolls_blocks : UnrollsBlocks
unrolls_blocks times P = record {
  size = sized 0 (asked times) P;
  followed = followed times P;
  fit = all_fit times P;
  filled = filled 0 (asked times) P;
}
