-- The firing of a tile: none exactly where its unit is busy or no entry of it is ready.
use Rattle.std.proofs.Common.{◌≡◌, ◌≢◌, ℕ, Bool, true, false, cond, not, ◌||◌, List}
use Rattle.std.proofs.Common.{Option, Some, None, is_none}
use Rattle.std.proofs.Common.{refl, sym, ap, ◌∙◌}
use Rattle.std.proofs.lemmas.Bool.{eq-eqb, ne_eqb}
use Rattle.trips_isa.specs.declared.block.Block.{Block}
use Rattle.frame_state.specs.declared.event.Event.{Event}
use Rattle.grid_cycle_spec.specs.Grid.{Grid}
use Rattle.grid_cycle.specs.Nexts.{fire_of, is_busy, next_firing, ready_entry}

none_of : (b : Bool) (q : Option (ℕ × ℕ)) → is_none (cond b None (fire_of q)) ≡ (b || is_none q)
none_of true q = refl
none_of false None = refl
none_of false (Some q) = refl

module _ {W : Type 0} (blocks : List Block) (budget tile : ℕ) (g : Grid W) where
  -- a free unit fires the eldest ready entry
  pub firing_free : g.units tile ≡ 0 → fire_of (ready_entry blocks budget tile g) ≡ next_firing blocks budget tile g
  firing_free e = ap (λ b. cond (not b) None (fire_of (ready_entry blocks budget tile g)))
      (sym (eq-eqb (g.units tile) 0 e))

  -- a busy one fires none
  pub firing_busy : g.units tile ≢ 0 → None ≡ next_firing blocks budget tile g
  firing_busy ne = ap (λ b. cond (not b) None (fire_of (ready_entry blocks budget tile g)))
      (sym (ne_eqb (g.units tile) 0 ne))

  -- and there is none in no other case
  pub none_exact : (o : Option Event) → o ≡ next_firing blocks budget tile g
      → is_none o ≡ (is_busy tile g || is_none (ready_entry blocks budget tile g))
  none_exact o e = ap is_none e ∙ none_of (is_busy tile g) (ready_entry blocks budget tile g)
