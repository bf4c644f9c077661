-- A cycle in code is the eager cycle of four programs.
use Rattle.std.proofs.Common.{◌≡◌, ℕ, List, length, sym, ap, ap₂, ◌∙◌, subst}
use Rattle.operand_net.specs.Tick.{Ticked}
use Rattle.grid_cycle_spec.specs.Grid.{numbers_of}
use Rattle.smt_spec.specs.Programs.{Four, mesh, order, travelled}
use Rattle.smt_spec.specs.Parts.{Images, arrivals_of, ends_of}
use Rattle.smt_spec.specs.Turns.{all_do, all_four}
use Rattle.smt_spec.specs.Cycles as spec
use Rattle.smt_spec.specs.Cycles.{Eager4, Moves, acts_of, counted, retires}
use Rattle.smt_spec.specs.inside.Among.{Distinct}
use Rattle.smt_spec.proofs.FirstParts.{four_once}
use Rattle.smt_spec.proofs.OverStays.{those_once}
use Rattle.smt_bound.specs.inside.FourRule.{AllTwo, TwoFrames}
use Rattle.smt_bound.proofs.TwoFramesKept.{acts_two, ends_of_two}

module _ {W : Type 0} (next : W → ℕ) (follows : W → W → Type 0) (images images' : Images) (budget budget' : ℕ)
    (same : images' ≡ images) (within : budget' ≡ budget) (ps : List ℕ) (m x y h : Four W)
    (later : x ≡ travelled (mesh x) x.weather m)
    (ticked : Ticked next follows (order m ps) (mesh m) (mesh x) m.weather x.weather (length (order m ps)))
    (arrived : y ≡ arrivals_of images' budget' ps x) (more : h ≡ counted y) where
  -- the tick of the mesh, what has arrived, and one cycle more
  pub moves_by : Moves next follows images budget ps m h
  moves_by = record {
    parcels = mesh x;
    weather = x.weather;
    ticked = ticked;
    arrived = more ∙ ap counted (arrived ∙ ap₂ (λ bs b. arrivals_of bs b ps x) same within
        ∙ ap (arrivals_of images budget ps) later);
  }

module _ {W : Type 0} (next : W → ℕ) (follows : W → W → Type 0) (images : Images) (budget : ℕ) (going acting : List ℕ)
    (g a b c h : Four W) (goes : going ≡ spec.going budget g) (ended : a ≡ ends_of images budget going g)
    (acts : acting ≡ spec.acting going a) where
  -- the programs that are not over
  abbrev all : List ℕ
  all = spec.going budget g

  -- behind part (1)
  abbrev ends : Four W
  ends = ends_of images budget all g

  ended_is : a ≡ ends
  ended_is = ended ∙ ap (λ ps. ends_of images budget ps g) goes

  acting_is : acting ≡ spec.acting all ends
  acting_is = acts ∙ ap₂ spec.acting goes ended_is

  -- the parts of a cycle, one after another
  pub eager_by : b ≡ acts_of images budget acting a → Moves next follows images budget acting b c
      → h ≡ all_do (λ p. retires budget) going c → Eager4 next follows images budget g h
  eager_by acted moved retired = record {
    last = c;
    moves = subst (λ ps. Moves next follows images budget ps (acts_of images budget ps ends) c) acting_is
        (subst (λ k. Moves next follows images budget acting k c)
        (acted ∙ ap (acts_of images budget acting) ended_is) moved);
    ends = retired ∙ ap (λ ps. all_do (λ p. retires budget) ps c) goes;
  }

  -- no program acts twice
  pub acting_once : Distinct acting
  acting_once = subst Distinct (sym acting_is)
      (those_once (λ w. spec.has_gone w.over) ends all (those_once (spec.goes_on budget) g all_four four_once))

  -- each program has frames 0 and 1 alone when the mesh ticks
  pub two_at : ((p : ℕ) → TwoFrames (g.own p)) → b ≡ acts_of images budget acting a → (p : ℕ)
      → AllTwo (numbers_of (b.own p).window.frames)
  two_at two acted p =
      subst (λ (k : Four W). AllTwo (numbers_of (k.own p).window.frames)) (sym acted)
      (acts_two images budget p acting a
      (subst (λ (k : Four W). TwoFrames (k.own p)) (sym ended)
      (ends_of_two images budget p going g (two p)))).numbers
