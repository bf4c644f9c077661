-- Without a frame in flight banks, data tiles and arrivals do nothing, and units only have less to do.
use Rattle.std.proofs.Common.{◌≡◌, ℕ, zero, suc, ◌-◌, ◌<◌, ◌≤◌, ◌==◌, ◌⊎◌, inl, inr, cond, nat_lt}
use Rattle.std.proofs.Common.{List, [], refl, sym, ap, ◌∙◌, arith}
use Rattle.std.proofs.Math.Path.{fun_ext}
use Rattle.std.proofs.lemmas.Bool.{cond_both, cond-true, cond-false, cases_eq, cases_lt, lt-ltb, le-ltb, eq-eqb}
use Rattle.std.proofs.lemmas.Bool.{ne_eqb}
use Rattle.trips_isa.specs.declared.block.Block.{Block}
use Rattle.grid_cycle_spec.specs.Grid.{Grid}
use Rattle.grid_cycle_spec.specs.Banks.{answers_read, read_chosen, bank_turn}
use Rattle.grid_cycle_spec.specs.Choosing.{eldest, each, reads, slots}
use Rattle.grid_cycle_spec.specs.Units.{in_unit, result_chosen, unit_on, issue_chosen, issues, unit_turn, ready}
use Rattle.grid_bound.proofs.TileResults.{units_on}

module _ {W : Type 0} (blocks : List Block) (budget : ℕ) where
  -- without a frame in flight the banks change nothing
  pub idle_banks : (n : ℕ) (g : Grid W) → g.window.frames ≡ [] → each (bank_turn blocks budget) n g ≡ g
  idle_banks zero g i = refl
  idle_banks (suc n) g i = ap (bank_turn blocks budget n) (idle_banks n g i)
      ∙ ap (λ l. read_chosen blocks budget n (eldest (answers_read blocks budget g n) reads l) g) i

  -- a unit's turn changes how busy units are, and nothing else
  idle_unit : (k n : ℕ) (g : Grid W) → g.window.frames ≡ []
      → unit_on k n g ≡ record g { units = (unit_on k n g).units }
  idle_unit k zero g i = refl
  idle_unit k (suc zero) g i =
      let m : Grid W = record g { units = λ t. cond (t == k) 0 (g.units t) } in
      let e : result_chosen (eldest (in_unit g k) slots g.window.frames) m ≡ m =
      ap (λ l. result_chosen (eldest (in_unit g k) slots l) m) i in
      e ∙ sym (ap (λ (h : Grid W). record g { units = h.units }) e)
  idle_unit k (suc (suc n)) g i = refl

  idle_issues : (k : ℕ) (g : Grid W) → g.window.frames ≡ [] → issues blocks budget k g ≡ g
  idle_issues k g i = cond_both (g.units k == 0)
      (issue_chosen blocks budget k (eldest (ready blocks budget g k) slots g.window.frames) g) g (λ h. h ≡ g)
      (λ z. ap (λ l. issue_chosen blocks budget k (eldest (ready blocks budget g k) slots l) g) i) (λ z. refl)

  idle_turn : (k : ℕ) (g : Grid W) → g.window.frames ≡ []
      → unit_turn blocks budget k g ≡ record g { units = λ t. cond (t == k) (g.units k - 1) (g.units t) }
  idle_turn k g i =
      let e = idle_unit k (g.units k) g i in
      idle_issues k (unit_on k (g.units k) g) (ap (λ (h : Grid W). h.window.frames) e ∙ i) ∙ e
      ∙ ap (λ (u : ℕ → ℕ). record g { units = u }) (fun_ext (units_on k (g.units k) g refl))

  -- the first k units
  pub idle_units : (k : ℕ) (g : Grid W) → g.window.frames ≡ [] → each (unit_turn blocks budget) k g
      ≡ record g { units = λ t. cond (nat_lt t k) (g.units t - 1) (g.units t) }
  idle_units zero g i = ap (λ (u : ℕ → ℕ). record g { units = u })
      (fun_ext (λ t. sym (cond-false (nat_lt t 0) _ _ (le-ltb t 0 (omega arith)))))
  idle_units (suc k) g i =
      ap (unit_turn blocks budget k) (idle_units k g i)
      ∙ idle_turn k (record g { units = λ t. cond (nat_lt t k) (g.units t - 1) (g.units t) }) i
      ∙ ap (λ (u : ℕ → ℕ). record g { units = u }) (fun_ext (λ t. by t (cases_eq t k) (cases_lt t k)))
    where
      by : (t : ℕ) → (t ≡ k) ⊎ (t ≡ k → ⊥) → (t < k) ⊎ (k ≤ t)
          → cond (t == k) (cond (nat_lt k k) (g.units k - 1) (g.units k) - 1)
          (cond (nat_lt t k) (g.units t - 1) (g.units t)) ≡ cond (nat_lt t (suc k)) (g.units t - 1) (g.units t)
      by t (inl z) _ =
          cond-true (t == k) _ _ (eq-eqb t k z)
          ∙ ap (λ n. n - 1) (cond-false (nat_lt k k) _ _ (le-ltb k k (omega arith)) ∙ ap g.units (sym z))
          ∙ sym (cond-true (nat_lt t (suc k)) _ _ (lt-ltb t (suc k) (omega (arith, z))))
      by t (inr n) (inl l) =
          cond-false (t == k) _ _ (ne_eqb t k n) ∙ cond-true (nat_lt t k) _ _ (lt-ltb t k l)
          ∙ sym (cond-true (nat_lt t (suc k)) _ _ (lt-ltb t (suc k) (omega (arith, l))))
      by t (inr n) (inr l) =
          cond-false (t == k) _ _ (ne_eqb t k n) ∙ cond-false (nat_lt t k) _ _ (le-ltb t k l)
          ∙ sym (cond-false (nat_lt t (suc k)) _ _ (le-ltb t (suc k) (omega (arith, l, n))))
