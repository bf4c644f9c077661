-- Records that go on by a grid.
use Rattle.std.proofs.Common.{◌≡◌, ℕ, zero, suc, ◌+◌, ◌≤◌, true, List, [], ◌∷◌, ◌++◌}
use Rattle.std.proofs.Common.{length, refl, ap, sym, ◌∙◌, subst}
use Rattle.std.proofs.Common.{append_assoc, arith, length-append}
use Rattle.std.proofs.lemmas.List.{append-nil}
use Rattle.std.specs.List.{flat_map}
use Rattle.std.proofs.lemmas.List.Concat.{flat_map-append}
use Rattle.trips_isa.specs.declared.block.Block.{Block}
use Rattle.operand_net.specs.declared.weather.PcgWeather.{PcgWeather}
use Rattle.grid_cycle_spec.specs.Grid.{Grid}
use Rattle.grid_machine.specs.Endings.{is_going}
use Rattle.grid_machine.specs.Seeds.{IsAfter, next_hold, started}
use Rattle.grid_machine.specs.WholeRuns.{IsRun, going_cycles}
use Rattle.grid_record.specs.Moments.{moment_bytes}
use Rattle.grid_record.specs.Records.{AreReached, IsReached, IsRecord}
use Rattle.grid_record.specs.inside.Recording.{Recording}
use Rattle.grid_record.proofs.RunFacts.{cycle_on, reached_more}

module _ (blocks : List Block) (bytes input : List ℕ) (budget seed cycle : ℕ) where
  -- nothing is told yet
  pub none_told : (old : List ℕ) (g : Grid PcgWeather) → IsReached blocks bytes input budget seed cycle g
      → Recording blocks bytes input budget seed cycle 0 old old g
  none_told old g here = record {
    before = [];
    size = refl;
    reached = tt;
    here = subst (λ k. IsReached blocks bytes input budget seed k g)
        (let e : cycle ≡ cycle + 0 = omega arith in e) here;
    spelled = sym (append-nil old);
  }

  -- a grid is told, and a cycle made
  pub told_more : (bs : List Block) (b made : ℕ) (old out new : List ℕ) (g h : Grid PcgWeather) → bs ≡ blocks
      → b ≡ budget → Recording blocks bytes input budget seed cycle made old out g → true ≡ is_going b g.window
      → new ≡ out ++ moment_bytes bs b g → IsRun next_hold IsAfter bs b (going_cycles b g.window) g h
      → Recording blocks bytes input budget seed cycle (made + 1) old new h
  told_more bs b made old out new g h x y r on e one = record {
    before = r.before ++ g ∷ [];
    size = (let s = r.size in let l = length-append r.before (g ∷ []) in omega (arith, s, l));
    reached = reached_more blocks bytes input budget seed cycle r.before g r.reached
        (subst (λ k. IsReached blocks bytes input budget seed (cycle + k) g) (sym r.size) r.here);
    here = cycle_on bs blocks b budget (cycle + made) (cycle + (made + 1)) (started bytes input seed) g h x y
        (omega arith) on r.here one;
    spelled = e ∙ ap (λ (xs : List Block). out ++ moment_bytes xs b g) x
        ∙ ap (λ k. out ++ moment_bytes blocks k g) y
        ∙ ap (λ (xs : List ℕ). xs ++ moment_bytes blocks budget g) r.spelled
        ∙ append_assoc old (flat_map (moment_bytes blocks budget) r.before) (moment_bytes blocks budget g)
        ∙ ap (λ (xs : List ℕ). old ++ xs) (more r.before);
  }
    where
      more : (gs : List (Grid PcgWeather)) → flat_map (moment_bytes blocks budget) gs ++ moment_bytes blocks budget g
          ≡ flat_map (moment_bytes blocks budget) (gs ++ g ∷ [])
      more gs = sym (flat_map-append (moment_bytes blocks budget) gs (g ∷ [])
          ∙ ap (λ (xs : List ℕ). flat_map (moment_bytes blocks budget) gs ++ xs)
          (append-nil (moment_bytes blocks budget g)))

  -- the last grid is told, and behind it the output
  pub all_told : (first count made : ℕ) (out all_of told : List ℕ) (g : Grid PcgWeather) → cycle ≤ first
      → Recording blocks bytes input budget seed cycle made [] out g → made ≤ count
      → (is_going budget g.window ≡ true → cycle + made ≡ first + count)
      → all_of ≡ out ++ moment_bytes blocks budget g → told ≡ all_of ++ 0 ∷ g.window.state.output
      → IsRecord blocks bytes input budget seed first count told
  all_told first count made out all_of told g early r few all e f = record {
    cycle = cycle;
    early = early;
    before = r.before;
    last = g;
    reached = r.reached;
    reached_last = subst (λ k. IsReached blocks bytes input budget seed (cycle + k) g) (sym r.size) r.here;
    few = subst (λ k. k ≤ count) (sym r.size) few;
    all = λ on. ap (λ k. cycle + k) r.size ∙ all on;
    spelled = f ∙ ap (λ (xs : List ℕ). xs ++ 0 ∷ g.window.state.output)
        (e ∙ ap (λ (xs : List ℕ). xs ++ moment_bytes blocks budget g) r.spelled)
        ∙ append_assoc (flat_map (moment_bytes blocks budget) r.before) (moment_bytes blocks budget g)
        (0 ∷ g.window.state.output);
  }
