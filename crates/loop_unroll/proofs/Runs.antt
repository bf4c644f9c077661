-- The run of an unrolled program comes to what the run of the program comes to, in no more blocks and no fewer than a
-- fair part of them.
use Rattle.std.proofs.Common.{◌≡◌, ℕ, zero, suc, ◌+◌, ◌*◌, ◌≤◌, ◌⊎◌, inl, inr, Bool, true, false, cond, not, ◌&&◌}
use Rattle.std.proofs.Common.{List}
use Rattle.std.proofs.Common.{Option, Some, None, refl, sym, ap, ◌∙◌, subst₂, arith, eqb-true, mul-suc, suc-mul}
use Rattle.std.proofs.Common.{mul-zero}
use Rattle.trips_isa.specs.inside.Acts.{is_clean}
use Rattle.ir_forms.specs.declared.hyper.Source.{Source}
use Rattle.ir_forms.specs.declared.hyper.Exit.{Exit}
use Rattle.ir_forms.specs.declared.hyper.Exit.TheVariants as exit
use Rattle.ir_forms.specs.inside.HyperCode.{Items, Tail, Leave, Test, Block}
use Rattle.ir_forms.specs.inside.HyperRuns.{Machine, Layout, value_of, pick, after_items, acts, exit_of, block_at}
use Rattle.loop_unroll.specs.inside.Unrolled.{Loop, loop_by, loop_of, jumps_to, held_turns, unrolled_by}
use Rattle.loop_unroll.specs.inside.Wholes.{Whole, Going, Faulty, Next, Stop, Goes, next_of, go_on, where_clean}
use Rattle.loop_unroll.specs.inside.Wholes.{whole}
use Rattle.loop_unroll.specs.inside.Laws.{ComesTo}
use Rattle.loop_unroll.proofs.Items.{says, and_true, output_stays}
use Rattle.loop_unroll.proofs.Held.{after_held_turns, clean_held_turns}

-- SELF LOOPS

-- where its test leads on it jumps back, and else it leaves by another exit
pub record IsLoop (k : ℕ) (x : Loop) (T : Tail) : Type 0 where
  pub other : Exit
  pub leaves : (regs : ℕ → ℕ) → exit_of T regs ≡ cond (says x.way (value_of regs x.test)) (exit.Jump k) other
  pub away : jumps_to k other ≡ false

jumps : (k : ℕ) (e : Exit) → jumps_to k e ≡ true → e ≡ exit.Jump k
jumps k (exit.Jump l) h = ap exit.Jump (eqb-true l k h)
jumps k (exit.Call l back) h = absurd (cc h)
jumps k exit.Return h = absurd (cc h)
jumps k (exit.System l) h = absurd (cc h)

back_first : (k w : ℕ) (x y : Exit) → x ≡ exit.Jump k → pick w x y ≡ cond (says true w) (exit.Jump k) y
back_first k zero x y e = refl
back_first k (suc w) x y e = e

back_second : (k w : ℕ) (x y : Exit) → y ≡ exit.Jump k → pick w x y ≡ cond (says false w) (exit.Jump k) x
back_second k zero x y e = e
back_second k (suc w) x y e = refl

by_exits : (k : ℕ) (t : Source) (x y : Exit) (z : Loop) (p q : Bool) → jumps_to k x ≡ p → jumps_to k y ≡ q
    → loop_by t p q ≡ Some z → IsLoop k z (Test t (Leave x) (Leave y))
by_exits k t x y z true true ep eq e = absurd (cc e)
by_exits k t x y z true false ep eq e = record {
  other = y;
  leaves = λ regs. found z e regs;
  away = eq;
}
  where
    found : (z : Loop) → Some (record { test = t; way = true }) ≡ Some z → (regs : ℕ → ℕ)
        → pick (value_of regs t) x y ≡ cond (says z.way (value_of regs z.test)) (exit.Jump k) y
    found z e regs =
        let d : record { test = t; way = true } ≡ z = cc in
        back_first k (value_of regs t) x y (jumps k x ep)
        ∙ ap (λ (z : Loop). cond (says z.way (value_of regs z.test)) (exit.Jump k) y) d
by_exits k t x y z false true ep eq e = record {
  other = x;
  leaves = λ regs. found z e regs;
  away = ep;
}
  where
    found : (z : Loop) → Some (record { test = t; way = false }) ≡ Some z → (regs : ℕ → ℕ)
        → pick (value_of regs t) x y ≡ cond (says z.way (value_of regs z.test)) (exit.Jump k) x
    found z e regs =
        let d : record { test = t; way = false } ≡ z = cc in
        back_second k (value_of regs t) x y (jumps k y eq)
        ∙ ap (λ (z : Loop). cond (says z.way (value_of regs z.test)) (exit.Jump k) x) d
by_exits k t x y z false false ep eq e = absurd (cc e)

pub is_loop : (k : ℕ) (T : Tail) (z : Loop) → loop_of k T ≡ Some z → IsLoop k z T
is_loop k (Leave x) z e = absurd (cc e)
is_loop k (Test t (Leave x) (Leave y)) z e = by_exits k t x y z (jumps_to k x) (jumps_to k y) refl refl e
is_loop k (Test t (Leave x) (Test u one other)) z e = absurd (cc e)
is_loop k (Test t (Test u one other) y) z e = absurd (cc e)

-- FAULTS

faults_first : (k c d : Bool) (x : Whole) → (k && not c) ≡ true → where_clean k (c && d) x ≡ Faulty
faults_first true true d x e = absurd (cc e)
faults_first true false d x e = refl
faults_first false c d x e = absurd (cc e)

clean_first : (k c d : Bool) (x : Whole) → (k && not c) ≡ false → where_clean k (c && d) x ≡ where_clean k d x
clean_first true true d x e = refl
clean_first true false d x e = absurd (cc e)
clean_first false c d x e = refl

-- RUNS

module _ (check : Bool) (at : Layout) (P Q : List Block) (w : ℕ) (more : ℕ → ℕ) (few : (k : ℕ) → more k ≤ w)
    (each : (k : ℕ) → block_at Q k ≡ unrolled_by (loop_of k (block_at P k).tail) (more k) (block_at P k)) where
  abbrev old : ℕ → Block → Machine → Whole
  old n b m = whole check at P n b m

  abbrev new : ℕ → Block → Machine → Whole
  new n b m = whole check at Q n b m

  -- what b blocks come to from label l on
  abbrev Found : ℕ → Machine → ℕ → Type 0
  Found l m b = ComesTo w Whole (λ n. old n (block_at P l) m) (λ n. new n (block_at Q l) m) b

  -- and behind an exit
  onward : (x : Next) (b : ℕ) → ((l : ℕ) (m : Machine) → Found l m b)
      → ComesTo w Whole (λ n. go_on P (whole check at P n) x) (λ n. go_on Q (whole check at Q n) x) b
  onward (Stop e m) b f = record { blocks = b; few = omega arith; enough = omega (arith, suc-mul w b); same = refl }
  onward (Goes l m) b f =
      let r = f l m in record { blocks = r.blocks; few = r.few; enough = r.enough; same = r.same }

  -- a block of the new program, by what its items leave
  abbrev once : Bool → Machine → Tail → ℕ → Whole
  once clean m T c =
      where_clean check clean (go_on Q (whole check at Q c) (next_of at (exit_of T m.registers) m))

  -- What b blocks come to is what one block of the new program and some more come to, or so few that none of the new
  -- one's is through.
  abbrev Copied : ℕ → Bool → Machine → ℕ → ℕ → Machine → Type 0
  Copied l clean m1 n b m =
      ((b ≤ n) × (old b (block_at P l) m ≡ Going m.output))
      ⊎ ((c : ℕ) × (suc c ≤ b) × (b ≤ suc w * c + suc w + n)
      × (once clean m1 (block_at P l).tail c ≡ old b (block_at P l) m))

  -- one block of the old program, and then what follows it
  single : (b : ℕ) → ((l : ℕ) (m : Machine) → Found l m b) → (B : Block) (m : Machine)
      → (c : ℕ) × (c ≤ b) × (b ≤ suc w * c + w)
      × (once (is_clean (acts B.items m)) (after_items B.items m) B.tail c ≡ old (suc b) B m)
  single b f B m =
      let m1 = after_items B.items m in
      let o = onward (next_of at (exit_of B.tail m1.registers) m1) b f in
      (o.blocks, o.few, o.enough, ap (where_clean check (is_clean (acts B.items m))) o.same)

  module _ (l : ℕ) (z : Loop) (loop : IsLoop l z (block_at P l).tail) where
    abbrev body : Items
    body = (block_at P l).items

    abbrev copies : ℕ → Items
    copies n = held_turns z.way z.test body n

    -- the test leads on
    repeats : (b : ℕ) (m : Machine) → says z.way (value_of (after_items body m).registers z.test) ≡ true
        → old (suc b) (block_at P l) m
        ≡ where_clean check (is_clean (acts body m)) (old b (block_at P l) (after_items body m))
    repeats b m e =
        ap (λ x. where_clean check (is_clean (acts body m)) (go_on P (whole check at P b)
        (next_of at x (after_items body m))))
        (loop.leaves (after_items body m).registers ∙ ap (λ v. cond v (exit.Jump l) loop.other) e)

    -- a turn that faults
    faulty : (n b : ℕ) (m : Machine) (d : Bool) (m2 : Machine)
        → says z.way (value_of (after_items body m).registers z.test) ≡ true
        → (check && not (is_clean (acts body m))) ≡ true
        → Copied l (is_clean (acts body m) && d) m2 (suc n) (suc b) m
    faulty n b m d m2 e bad =
        inr (
          b,
          omega arith,
          omega (arith, suc-mul w b),
          faults_first check (is_clean (acts body m)) d _ bad
              ∙ sym (repeats b m e ∙ ap (λ v. cond v Faulty (old b (block_at P l) (after_items body m))) bad),
        )

    -- one that does not, and those behind it
    further : (n b : ℕ) (m : Machine) (d : Bool) (m2 : Machine)
        → says z.way (value_of (after_items body m).registers z.test) ≡ true
        → (check && not (is_clean (acts body m))) ≡ false → Copied l d m2 n b (after_items body m)
        → Copied l (is_clean (acts body m) && d) m2 (suc n) (suc b) m
    further n b m d m2 e good (inl r) =
        inl (
          omega (arith, r.0),
          repeats b m e ∙ ap (λ v. cond v Faulty (old b (block_at P l) (after_items body m))) good ∙ r.1
              ∙ ap Going (output_stays body m),
        )
    further n b m d m2 e good (inr r) =
        inr (
          r.0,
          omega (arith, r.1),
          omega (arith, r.2),
          clean_first check (is_clean (acts body m)) d _ good ∙ r.3
              ∙ sym (repeats b m e ∙ ap (λ v. cond v Faulty (old b (block_at P l) (after_items body m))) good),
        )

    -- one turn more
    on : (n b : ℕ) (m : Machine) → ((l : ℕ) (m : Machine) → Found l m b)
        → Copied l (is_clean (acts (copies n) (after_items body m))) (after_items (copies n) (after_items body m)) n b
        (after_items body m)
        → (v : Bool) → says z.way (value_of (after_items body m).registers z.test) ≡ v
        → Copied l (is_clean (acts body m) && cond v (is_clean (acts (copies n) (after_items body m))) true)
        (cond v (after_items (copies n) (after_items body m)) (after_items body m)) (suc n) (suc b) m
    on n b m f r true e = by (check && not (is_clean (acts body m))) refl
      where
        by : (v : Bool) → (check && not (is_clean (acts body m))) ≡ v
            → Copied l (is_clean (acts body m) && is_clean (acts (copies n) (after_items body m)))
            (after_items (copies n) (after_items body m)) (suc n) (suc b) m
        by true bad =
            faulty n b m (is_clean (acts (copies n) (after_items body m)))
            (after_items (copies n) (after_items body m)) e bad
        by false good =
            further n b m (is_clean (acts (copies n) (after_items body m)))
            (after_items (copies n) (after_items body m)) e good r
    on n b m f r false e =
        let o = single b f (block_at P l) m in
        inr (
          o.0,
          omega (arith, o.1),
          omega (arith, o.2),
          ap (λ c. once c (after_items body m) (block_at P l).tail o.0) (and_true (is_clean (acts body m))) ∙ o.3,
        )

    copied : (fuel : ℕ) → ((b : ℕ) → b ≤ fuel → (l : ℕ) (m : Machine) → Found l m b) → (n b : ℕ) → b ≤ suc fuel
        → (m : Machine) → Copied l (is_clean (acts (copies n) m)) (after_items (copies n) m) n b m
    copied fuel f n zero low m = inl (omega arith, refl)
    copied fuel f zero (suc b) low m =
        let o = single b (f b (omega (arith, low))) (block_at P l) m in
        inr (o.0, omega (arith, o.1), omega (arith, o.2), o.3)
    copied fuel f (suc n) (suc b) low m =
        let r = copied fuel f n b (omega (arith, low)) (after_items body m) in
        let o = on n b m (f b (omega (arith, low))) r
        (says z.way (value_of (after_items body m).registers z.test)) refl in
        subst₂ (λ (c : Bool) (x : Machine). Copied l c x (suc n) (suc b) m)
        (sym (clean_held_turns z.way z.test body n m)) (sym (after_held_turns z.way z.test body n m)) o

  -- a block that stays
  stays : (l b : ℕ) → block_at Q l ≡ block_at P l → ((k : ℕ) (m : Machine) → Found k m b) → (m : Machine)
      → Found l m (suc b)
  stays l b e f m =
      let o = single b f (block_at P l) m in
      record {
        blocks = suc o.0;
        few = omega (arith, o.1);
        enough = omega (arith, o.2, mul-suc (suc w) o.0);
        same = ap (λ B. new (suc o.0) B m) e ∙ o.3;
      }

  -- an unrolled one
  turned : (l b : ℕ) (z : Loop) (m : Machine) (n : ℕ) → n ≤ w
      → block_at Q l ≡ unrolled_by (Some z) n (block_at P l)
      → Copied l (is_clean (acts (held_turns z.way z.test (block_at P l).items n) m))
      (after_items (held_turns z.way z.test (block_at P l).items n) m) n b m
      → Found l m b
  turned l b z m n low e (inl r) = record {
    blocks = 0;
    few = omega arith;
    enough = omega (arith, r.0, low, mul-zero (suc w));
    same = sym r.1;
  }
  turned l b z m n low e (inr r) = record {
    blocks = suc r.0;
    few = r.1;
    enough = omega (arith, r.2, low, mul-suc (suc w) r.0);
    same = ap (λ B. new (suc r.0) B m) e ∙ r.3;
  }

  -- a block more, by what its end makes it
  one_more : (fuel l b : ℕ) (m : Machine) → b ≤ fuel
      → ((b : ℕ) → b ≤ fuel → (l : ℕ) (m : Machine) → Found l m b)
      → (o : Option Loop) → loop_of l (block_at P l).tail ≡ o → Found l m (suc b)
  one_more fuel l b m low f None e =
      stays l b (each l ∙ ap (λ o. unrolled_by o (more l) (block_at P l)) e) (f b low) m
  one_more fuel l b m low f (Some z) e =
      turned l (suc b) z m (more l) (few l) (each l ∙ ap (λ o. unrolled_by o (more l) (block_at P l)) e)
      (copied l z (is_loop l (block_at P l).tail z e) fuel f (more l) (suc b) (omega (arith, low)) m)

  all_found : (fuel b : ℕ) → b ≤ fuel → (l : ℕ) (m : Machine) → Found l m b
  all_found fuel zero low l m = record { blocks = 0; few = omega arith; enough = omega arith; same = refl }
  all_found zero (suc b) low l m = absurd (omega (arith, low))
  all_found (suc fuel) (suc b) low l m =
      one_more fuel l b m (omega (arith, low)) (all_found fuel) (loop_of l (block_at P l).tail) refl

  pub found : (b l : ℕ) (m : Machine) → Found l m b
  found b l m = all_found b b (omega arith) l m
