-- How often the block of an unrolled loop is run.
use Rattle.std.proofs.Common.{◌≡◌, ℕ, zero, suc, ◌+◌, ◌-◌, ◌*◌, ◌<◌, ◌≤◌, Bool, true, false, cond, nat_eq, nat_le}
use Rattle.std.proofs.Common.{Some, refl, sym, ap, ◌∙◌, subst, arith, mul-suc, eq-eqb}
use Rattle.ir_forms.specs.declared.hyper.Exit.{Exit}
use Rattle.ir_forms.specs.declared.hyper.Exit.TheVariants as exit
use Rattle.ir_forms.specs.inside.HyperCode.{Items, Block}
use Rattle.ir_forms.specs.inside.HyperRuns.{Machine, value_of, after_items, exit_of}
use Rattle.loop_unroll.specs.inside.Unrolled.{Loop, held_turns, jumps_to, asked, unrolled_by}
use Rattle.loop_unroll.specs.inside.Laws.{done, RunsFor, UnrollsCounts}
use Rattle.loop_unroll.proofs.Items.{says}
use Rattle.loop_unroll.proofs.Held.{after_held_turns}
use Rattle.loop_unroll.proofs.Programs.{there}
use Rattle.loop_unroll.proofs.Runs.{IsLoop, is_loop}

-- TURNS

-- whether the test leads on behind items
abbrev leads : Loop → Items → Machine → Bool
leads z is x = says z.way (value_of (after_items is x).registers z.test)

-- the test leads on behind each of m turns but the last
abbrev TurnsFor : Loop → Items → ℕ → Machine → Type 0
TurnsFor z is zero x = ⊥
TurnsFor z is (suc zero) x = leads z is x ≡ false
TurnsFor z is (suc (suc m)) x = (leads z is x ≡ true) × TurnsFor z is (suc m) (after_items is x)

-- EXITS

exit_back : (k : ℕ) (v : Bool) (e : Exit) → jumps_to k e ≡ false → cond v (exit.Jump k) e ≡ exit.Jump k → v ≡ true
exit_back k true e a h = refl
exit_back k false e a h =
    let bad : nat_eq k k ≡ false = sym (ap (jumps_to k) h) ∙ a in
    let good : nat_eq k k ≡ true = eq-eqb k k refl in
    absurd (cc (good, bad))

exit_away : (k : ℕ) (v : Bool) (e : Exit) → (cond v (exit.Jump k) e ≡ exit.Jump k → ⊥) → v ≡ false
exit_away k true e h = absurd (h refl)
exit_away k false e h = refl

-- by the exits of any block with the loop's end
module _ (k : ℕ) (z : Loop) (b : Block) (loop : IsLoop k z b.tail) where
  turns_for : (m : ℕ) (x : Machine) → RunsFor k b m x → TurnsFor z b.items m x
  turns_for zero x r = let s = r.some in absurd (omega (arith, s))
  turns_for (suc zero) x r =
      exit_away k (leads z b.items x) loop.other
      (λ h. r.ends (loop.leaves (after_items b.items x).registers ∙ h))
  turns_for (suc (suc m)) x r = (
    exit_back k (leads z b.items x) loop.other loop.away
        (sym (loop.leaves (after_items b.items x).registers) ∙ r.goes 0 (omega arith)),
    turns_for (suc m) (after_items b.items x) (record {
      some = omega arith;
      goes = λ i l. r.goes (suc i) (omega (arith, l));
      ends = r.ends;
    }),
  )

  goes_for : (m i : ℕ) (x : Machine) → TurnsFor z b.items m x → suc i < m
      → exit_of b.tail (done b.items (suc i) x).registers ≡ exit.Jump k
  goes_for zero i x h l = absurd (omega (arith, l))
  goes_for (suc zero) i x h l = absurd (omega (arith, l))
  goes_for (suc (suc m)) zero x h l =
      loop.leaves (after_items b.items x).registers ∙ ap (λ v. cond v (exit.Jump k) loop.other) h.0
  goes_for (suc (suc m)) (suc i) x h l = goes_for (suc m) i (after_items b.items x) h.1 (omega (arith, l))

  ends_for : (m : ℕ) (x : Machine) → TurnsFor z b.items m x
      → exit_of b.tail (done b.items m x).registers ≡ exit.Jump k → ⊥
  ends_for zero x h e = absurd h
  ends_for (suc zero) x h e =
      let back = exit_back k (leads z b.items x) loop.other loop.away
      (sym (loop.leaves (after_items b.items x).registers) ∙ e) in
      absurd (cc (h, back))
  ends_for (suc (suc m)) x h e = ends_for (suc m) (after_items b.items x) h.1 e

  some_for : (m : ℕ) (x : Machine) → TurnsFor z b.items m x → 1 ≤ m
  some_for zero x h = absurd h
  some_for (suc m) x h = omega arith

  runs_for : (m : ℕ) (x : Machine) → TurnsFor z b.items m x → RunsFor k b m x
  runs_for m x h = record {
    some = some_for m x h;
    goes = λ i l. goes_for m i x h l;
    ends = ends_for m x h;
  }

-- TURNS IN ONE BLOCK

done_sum : (is : Items) (a b c : ℕ) (x : Machine) → c ≡ a + b → done is b (done is a x) ≡ done is c x
done_sum is zero b c x e = let q : b ≡ c = omega (arith, e) in ap (λ n. done is n x) q
done_sum is (suc a) b zero x e = absurd (omega (arith, e))
done_sum is (suc a) b (suc c) x e = done_sum is a b c (after_items is x) (omega (arith, e))

module _ (z : Loop) (is : Items) where
  abbrev copies : ℕ → Items
  copies n = held_turns z.way z.test is n

  one_more : (n : ℕ) (x : Machine) → leads z is x ≡ true
      → after_items (copies (suc n)) x ≡ after_items (copies n) (after_items is x)
  one_more n x e =
      after_held_turns z.way z.test is n x
      ∙ ap (λ v. cond v (after_items (copies n) (after_items is x)) (after_items is x)) e

  last : (n : ℕ) (x : Machine) → leads z is x ≡ false → after_items (copies n) x ≡ after_items is x
  last zero x e = refl
  last (suc n) x e =
      after_held_turns z.way z.test is n x
      ∙ ap (λ v. cond v (after_items (copies n) (after_items is x)) (after_items is x)) e

  -- the loop is left within the block
  short : (n m : ℕ) (x : Machine) → TurnsFor z is m x → m ≤ suc n → after_items (copies n) x ≡ done is m x
  short n zero x h l = absurd h
  short n (suc zero) x h l = last n x h
  short zero (suc (suc m)) x h l = absurd (omega (arith, l))
  short (suc n) (suc (suc m)) x h l =
      one_more n x h.0 ∙ short n (suc m) (after_items is x) h.1 (omega (arith, l))

  -- behind it
  left_at : (m : ℕ) (x : Machine) → TurnsFor z is m x
      → says z.way (value_of (done is m x).registers z.test) ≡ false
  left_at zero x h = absurd h
  left_at (suc zero) x h = h
  left_at (suc (suc m)) x h = left_at (suc m) (after_items is x) h.1

  -- the block is run again
  long : (n m r : ℕ) (x : Machine) → m ≡ suc n + suc r → TurnsFor z is m x
      → (after_items (copies n) x ≡ done is (suc n) x)
      × (says z.way (value_of (done is (suc n) x).registers z.test) ≡ true)
      × TurnsFor z is (suc r) (done is (suc n) x)
  long n zero r x e h = absurd h
  long n (suc zero) r x e h = absurd (omega (arith, e))
  long zero (suc (suc m)) r x e h =
      let q : m ≡ r = omega (arith, e) in
      (refl, h.0, subst (λ m. TurnsFor z is (suc m) (after_items is x)) q h.1)
  long (suc n) (suc (suc m)) r x e h =
      let o = long n (suc m) r (after_items is x) (omega (arith, e)) h.1 in
      (one_more n x h.0 ∙ o.0, o.1, o.2)

  at_least : (m : ℕ) (x : Machine) → TurnsFor z is m x → 1 ≤ m
  at_least zero x h = absurd h
  at_least (suc m) x h = omega arith

  -- what m turns are as runs of the block
  abbrev InBlocks : ℕ → ℕ → Machine → Type 0
  InBlocks n m x =
      (q : ℕ) × (m ≤ suc n * q) × (suc n * q < m + suc n) × TurnsFor z (copies n) q x
      × (done (copies n) q x ≡ done is m x)

  again : (n q : ℕ) (x y : Machine) → after_items (copies n) x ≡ y
      → says z.way (value_of y.registers z.test) ≡ true → TurnsFor z (copies n) q y
      → TurnsFor z (copies n) (suc q) x
  again n zero x y e s h = absurd h
  again n (suc q) x y e s h = (
    ap (λ (y : Machine). says z.way (value_of y.registers z.test)) e ∙ s,
    subst (TurnsFor z (copies n) (suc q)) (sym e) h,
  )

  -- one run of the block is enough
  by_one : (n m : ℕ) (x : Machine) → m ≤ suc n → TurnsFor z is m x → InBlocks n m x
  by_one n m x l h =
      let s = short n m x h l in
      let p = mul-suc (suc n) 0 in
      let a = at_least m x h in (
        1,
        omega (arith, l, p),
        omega (arith, p, a),
        ap (λ (y : Machine). says z.way (value_of y.registers z.test)) s ∙ left_at m x h,
        s,
      )

  -- or one and some more
  by_more : (n m r : ℕ) (x : Machine) → m ≡ suc n + suc r → TurnsFor z is m x
      → InBlocks n (suc r) (done is (suc n) x) → InBlocks n m x
  by_more n m r x d h t =
      let o = long n m r x d h in
      let p = mul-suc (suc n) t.0 in
      let a = t.1 in
      let b = t.2 in (
        suc t.0,
        omega (arith, a, d, p),
        omega (arith, b, d, p),
        again n t.0 x (done is (suc n) x) o.0 o.1 t.3,
        ap (done (copies n) t.0) o.0 ∙ t.4 ∙ done_sum is (suc n) (suc r) m x d,
      )

  in_blocks : (n fuel m : ℕ) (x : Machine) → m ≤ fuel → TurnsFor z is m x → InBlocks n m x
  in_blocks n zero zero x low h = absurd h
  in_blocks n zero (suc m) x low h = absurd (omega (arith, low))
  in_blocks n (suc fuel) m x low h =
      by (λ r y l t. in_blocks n fuel (suc r) y l t) (nat_le m (suc n)) refl
    where
      by : ((r : ℕ) (y : Machine) → suc r ≤ fuel → TurnsFor z is (suc r) y → InBlocks n (suc r) y)
          → (v : Bool) → nat_le m (suc n) ≡ v → InBlocks n m x
      by f true e = by_one n m x (grind arith) h
      by f false e =
          let l : suc n < m = grind arith in
          let r : ℕ = m - suc n - 1 in
          let d : m ≡ suc n + suc r = omega (arith, l) in
          let o = long n m r x d h in
          by_more n m r x d h (f r (done is (suc n) x) (omega (arith, d, low)) o.2)

-- PROGRAMS

pub unrolls_counts : UnrollsCounts
unrolls_counts times P k m b z x h l r =
    let n = asked times k in
    let c = unrolled_by (Some z) n b in
    let loop = is_loop k b.tail z l in
    let o = in_blocks z b.items n m m x (omega arith) (turns_for k z b loop m x r) in (
      c,
      there 0 k (asked times) P k b (omega arith) h ∙ ap (λ o. Some (unrolled_by o n b)) l,
      record {
        times = o.0;
        most = o.1;
        least = o.2;
        runs = runs_for k z c loop o.0 x o.3;
        same = o.4;
      },
    )
