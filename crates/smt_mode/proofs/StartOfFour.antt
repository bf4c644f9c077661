-- Four programs that have begun are the machine at its stated start.
use Rattle.std.proofs.Common.{◌≡◌, ℕ, zero, suc, ◌<◌, replicate, slice_index_or, List, [], ◌∷◌, Option, Some, length}
use Rattle.std.proofs.Common.{slice_get, refl}
use Rattle.std.proofs.Common.{sym, ap, ap₂, ◌∙◌, subst, arith}
use Rattle.std.proofs.Math.Path.{fun_ext}
use Rattle.std.proofs.lemmas.Option.{none-some, same_Some}
use Rattle.commit_flush_spec.specs.InFlight.{opened}
use Rattle.commit_flush_spec.specs.inside.Invariant.{AllGood}
use Rattle.commit_flush_spec.specs.inside.Laws.{WindowOk}
use Rattle.grid_cycle_spec.specs.Cycles as grid
use Rattle.grid_cycle_spec.specs.Grid.{Grid}
use Rattle.grid_cycle_spec.specs.Laws.{AddsUp}
use Rattle.smt_spec.specs.Programs.{Four, Own, own_of}
use Rattle.smt_bound.specs.inside.FourRule.{FourRule}
use Rattle.smt_bound.proofs.CycleKeepsRule.{begun_rules}
use Rattle.smt_mode.specs.declared.four.Started.{Started}
use Rattle.smt_mode.specs.Machines.{Program, blocks_in, four_by, images_by, own_in}
use Rattle.smt_mode.specs.Starts as starts
use Rattle.smt_mode.specs.inside.Begun.{HaveBegun, IsNext}
use Rattle.smt_mode.specs.inside.Histories.{HasCome}
use Rattle.smt_mode.specs.inside.Rooms.{AreReady, IsWithin}

-- what a program has of its own at its start
abbrev own_at : Option Started → Own
own_at s = record (own_of (grid.begun_at (starts.state_in s) [] (tt {0}))) { predictor = starts.predictor_in s }

module _ (budget : ℕ) where
  owns : (ss : List Started) (xs : List Program) → HaveBegun budget ss xs → (p : ℕ)
      → own_in (slice_get xs p) ≡ own_at (slice_get ss p)
  owns [] [] h p = refl
  owns (s ∷ ss) (x ∷ xs) h zero = ap own_of h.0.begun
  owns (s ∷ ss) (x ∷ xs) h (suc p) = owns ss xs h.1 p
  owns [] (x ∷ xs) h p = absurd h
  owns (s ∷ ss) [] h p = absurd h

  images : (ss : List Started) (xs : List Program) → HaveBegun budget ss xs → (p : ℕ)
      → blocks_in (slice_get xs p) ≡ starts.blocks_in (slice_get ss p)
  images [] [] h p = refl
  images (s ∷ ss) (x ∷ xs) h zero = h.0.image
  images (s ∷ ss) (x ∷ xs) h (suc p) = images ss xs h.1 p
  images [] (x ∷ xs) h p = absurd h
  images (s ∷ ss) [] h p = absurd h

  each : (ss : List Started) (xs : List Program) → HaveBegun budget ss xs → (p : ℕ) (x : Program)
      → slice_get xs p ≡ Some x → IsWithin budget x × (x.state.counts.fetched ≡ 0)
  each (s ∷ ss) (x ∷ xs) h zero z e =
      subst (λ (y : Program). IsWithin budget y × (y.state.counts.fetched ≡ 0)) (same_Some x z e) (
        record { budget = h.0.budget; adds = subst AddsUp (sym h.0.begun) refl },
        ap (λ (g : Grid (Unit {0})). g.counts.fetched) h.0.begun,
      )
  each (s ∷ ss) (x ∷ xs) h (suc p) z e = each ss xs h.1 p z e
  each [] [] h p z e = absurd (none-some z e)
  each [] (x ∷ xs) h p z e = absurd h
  each (s ∷ ss) [] h p z e = absurd h

  good : (ss : List Started) (xs : List Program) → HaveBegun budget ss xs → (p : ℕ) → p < length xs
      → AllGood (blocks_in (slice_get xs p))
  good (s ∷ ss) (x ∷ xs) h zero l = subst AllGood (sym h.0.image) h.0.good
  good (s ∷ ss) (x ∷ xs) h (suc p) l = good ss xs h.1 p (omega (arith, l))
  good [] [] h p l = absurd (omega (arith, l))
  good [] (x ∷ xs) h p l = absurd h
  good (s ∷ ss) [] h p l = absurd h

  opens : (ss : List Started) (xs : List Program) → HaveBegun budget ss xs → (p : ℕ) → p < length xs
      → WindowOk (blocks_in (slice_get xs p)) budget (opened (starts.state_in (slice_get ss p)))
  opens (s ∷ ss) (x ∷ xs) h zero l =
      subst (λ bs. WindowOk bs budget (opened (starts.state_in (Some s)))) (sym h.0.image) h.0.opens
  opens (s ∷ ss) (x ∷ xs) h (suc p) l = opens ss xs h.1 p (omega (arith, l))
  opens [] [] h p l = absurd (omega (arith, l))
  opens [] (x ∷ xs) h p l = absurd h
  opens (s ∷ ss) [] h p l = absurd h

  -- the own parts, the images, and that the machine is ready
  pub owns_begun : (ss : List Started) (xs : List Program) → HaveBegun budget ss xs
      → ◌≡◌ {A = ℕ → Own} (λ p. own_in (slice_get xs p)) (λ p. own_at (slice_get ss p))
  owns_begun ss xs h = fun_ext (owns ss xs h)

  pub images_begun : (ss : List Started) (xs : List Program) → HaveBegun budget ss xs
      → images_by xs ≡ starts.images_at ss
  images_begun ss xs h = fun_ext (images ss xs h)

  pub ready_begun : (ss : List Started) (xs : List Program) → HaveBegun budget ss xs → length xs ≡ 4
      → AreReady 0 xs budget 0
  ready_begun ss xs h four = record {
    four = four;
    within = λ p x e. (each ss xs h p x e).0;
    few = λ p x e. let n = (each ss xs h p x e).1 in omega (arith, n);
    fewer = λ p x e l. let n = (each ss xs h p x e).1 in omega (arith, n);
    cycles = omega arith;
  }

  -- four that were made one after another, and none is left
  pub four_begun : (ss q1 q2 q3 q4 : List Started) (x0 x1 x2 x3 : Program) → length ss ≡ 4
      → IsNext budget ss q1 x0 → IsNext budget q1 q2 x1 → IsNext budget q2 q3 x2 → IsNext budget q3 q4 x3
      → HaveBegun budget ss (x0 ∷ x1 ∷ x2 ∷ x3 ∷ [])
  four_begun ss q1 q2 q3 q4 x0 x1 x2 x3 four a b c d =
      by q4 (a.taken ∙ ap (λ (q : List Started). a.first ∷ q) (b.taken ∙ ap (λ (q : List Started). b.first ∷ q)
      (c.taken ∙ ap (λ (q : List Started). c.first ∷ q) d.taken)))
    where
      by : (q : List Started) → ss ≡ a.first ∷ b.first ∷ c.first ∷ d.first ∷ q
          → HaveBegun budget ss (x0 ∷ x1 ∷ x2 ∷ x3 ∷ [])
      by [] e = subst (λ (ts : List Started). HaveBegun budget ts (x0 ∷ x1 ∷ x2 ∷ x3 ∷ [])) (sym e)
          (a.begun, (b.begun, (c.begun, (d.begun, tt))))
      by (s ∷ q) e =
          let n : length ss ≡ suc (suc (suc (suc (suc (length q))))) = ap length e in absurd (omega (arith, n, four))

  module _ {W : Type 0} (next : W → ℕ) (follows : W → W → Type 0) (weather : W) (ss : List Started)
      (xs : List Program) (h : HaveBegun budget ss xs) (four : length xs ≡ 4) where
    -- the machine in code is the machine at its start
    pub machine_begun : four_by xs (replicate 16 0) weather 0 ≡ starts.begun_at ss weather
    machine_begun =
        ap₂ (λ (o : ℕ → Own) (u : ℕ → ℕ). record { own = o; units = u; weather = weather; cycles = 0 })
        (owns_begun ss xs h) (fun_ext (λ t. free 16 t))
      where
        free : (n t : ℕ) → ◌≡◌ {A = ℕ} (slice_index_or (replicate n 0) t 0) 0
        free zero t = refl
        free (suc n) zero = refl
        free (suc n) (suc t) = free n t

    -- it has come from there by no cycle
    pub come_begun : HasCome next follows (images_by xs) budget (four_by xs (replicate 16 0) weather 0)
    come_begun = record {
      states = starts.states_at ss;
      predictors = λ p. starts.predictor_in (slice_get ss p);
      weather = weather;
      good = λ p l. good ss xs h p (omega (arith, l, four));
      opens = λ p l. opens ss xs h p (omega (arith, l, four));
      run = machine_begun;
      rule = subst (FourRule (images_by xs) budget) (sym machine_begun)
          (begun_rules (images_by xs) budget (starts.states_at ss) (λ p. starts.predictor_in (slice_get ss p)) weather
          (λ p l. opens ss xs h p (omega (arith, l, four))));
      rests = λ p l off. ap (λ (g : Four W). (g.own p).window.frames) machine_begun;
    }
