-- Four programs that have ended on one grid have ended as their images' runs alone.
use Rattle.std.proofs.Common.{◌≡◌, ℕ, ◌+◌, List, [], ◌∷◌, ◌++◌, Some, slice_get, refl, ap, ap₂, ◌∙◌}
use Rattle.std.proofs.Common.{sym}
use Rattle.trips_isa.specs.declared.block.Block.{Block}
use Rattle.trips_isa.specs.declared.block.Image.{Image}
use Rattle.trips_isa.specs.declared.run.Ending.{Ending}
use Rattle.trips_isa.specs.declared.run.Stepped.{Stepped}
use Rattle.trips_isa.specs.declared.run.Stepped.TheVariants as stepped
use Rattle.trips_isa.specs.Machine.{State, runs, start}
use Rattle.operand_net.specs.declared.weather.PcgWeather.{PcgWeather}
use Rattle.grid_cycle_spec.specs.Costs.{cost_of}
use Rattle.grid_machine.specs.Endings as endings
use Rattle.smt_bound.specs.Costs as spending
use Rattle.smt_mode.specs.Fours.{EndsAlone, Fours}
use Rattle.smt_mode.specs.Starts.{blocks_in, images_at, state_in, states_at}
use Rattle.smt_mode.specs.declared.four.Started.{Started}
use Rattle.trips_report.specs.Endings.{status_of}
use Rattle.trips_grid_answers.specs.Report.{ending_of, trap_cost}
use Rattle.trips_four_answers.specs.Report.{costs, first_status, own_cost, own_ending, own_run, program_text}
use Rattle.trips_four_answers.specs.Report.{program_texts, status_or}
use Rattle.trips_four_answers.specs.Runs.{IsStarted}
use Rattle.trips_four_answers.specs.inside.Ended.{cost_by, costs_by, status_by, texts_by}

-- a run of the grid ends as one of the machine
pub same_ending : (o : Stepped) (next : ℕ) → endings.ending_of o next ≡ ending_of o next
same_ending stepped.Went next = refl
same_ending stepped.Ended next = refl
same_ending stepped.StackFull next = refl
same_ending (stepped.Trap cause) next = refl

-- what a trapped block costs, by how the run has ended
pub same_trap : (blocks : List Block) (o : Stepped) (next : ℕ)
    → spending.trap_cost blocks next o ≡ trap_cost blocks (endings.ending_of o next)
same_trap blocks stepped.Went next = refl
same_trap blocks stepped.Ended next = refl
same_trap blocks stepped.StackFull next = refl
same_trap blocks (stepped.Trap cause) next = refl

module _ (input : List ℕ) (seed most : ℕ) (w : Fours PcgWeather) where
  -- a program has ended as the run of its image alone
  pub record EndsSo (p : ℕ) (image : Image) (e : Ending) : Type 0 where
    pub state : (w.four.own p).window.state ≡ (own_run input most image).0
    pub ending : e ≡ own_ending input most image
    pub blocks : w.images p ≡ image.blocks
    pub alone : e ≡ endings.ending_of (w.four.own p).window.over (w.four.own p).window.state.next

  -- so has each of some
  abbrev pub AllEnd : ℕ → List Image → List Ending → Type 0
  AllEnd p [] [] = Unit {0}
  AllEnd p (image ∷ images) (e ∷ es) = EndsSo p image e × AllEnd (p + 1) images es
  AllEnd p images es = ⊥

  -- one that was started with its image, on the input
  pub ends_so : (programs : List Started) (p : ℕ) (image : Image) (s : Started) (e : Ending)
      → slice_get programs p ≡ Some s → IsStarted input seed image s → w.images ≡ images_at programs
      → w.budget ≡ most → EndsAlone w programs p e → EndsSo p image e
  ends_so programs p image s e is started same within alone =
      let blocks : w.images p ≡ image.blocks = ap (λ (f : ℕ → List Block). f p) same
      ∙ ap blocks_in is ∙ ap (λ (i : Image). i.blocks) started.image_is in
      let begins : states_at programs p ≡ start image.bytes input = ap state_in is
      ∙ ap₂ (λ (i : Image) (x : List ℕ). start i.bytes x) started.image_is started.input_is in
      let machine : runs (w.images p) (states_at programs p) w.budget ≡ own_run input most image =
      ap (λ bs. runs bs (states_at programs p) w.budget) blocks
      ∙ ap (λ t. runs image.blocks t w.budget) begins
      ∙ ap (λ n. runs image.blocks (start image.bytes input) n) within in
      let state : (w.four.own p).window.state ≡ (own_run input most image).0 =
      alone.state ∙ ap (λ (r : State × Stepped). r.0) machine in
      record {
        state = state;
        ending = alone.ending
            ∙ ap₂ endings.ending_of (alone.over ∙ ap (λ (r : State × Stepped). r.1) machine)
            (ap (λ (t : State). t.next) state)
            ∙ same_ending (own_run input most image).1 (own_run input most image).0.next;
        blocks = blocks;
        alone = alone.ending;
      }

  -- their reports, their status and their cost ------------------------------------------------------

  pub texts_same : (p : ℕ) (images : List Image) (es : List Ending) → AllEnd p images es
      → texts_by w p es ≡ program_texts input most p images
  texts_same p [] [] h = refl
  texts_same p (image ∷ images) (e ∷ es) h =
      ap₂ (λ (t r : List ℕ). t ++ r) (ap₂ (program_text p) h.0.ending h.0.state)
      (texts_same (p + 1) images es h.1)
  texts_same p [] (e ∷ es) h = absurd h
  texts_same p (image ∷ images) [] h = absurd h

  pub status_same : (p : ℕ) (images : List Image) (es : List Ending) → AllEnd p images es
      → status_by w p es ≡ first_status input most images
  status_same p [] [] h = refl
  status_same p (image ∷ images) (e ∷ es) h =
      ap₂ status_or (ap₂ status_of h.0.ending h.0.state) (status_same (p + 1) images es h.1)
  status_same p [] (e ∷ es) h = absurd h
  status_same p (image ∷ images) [] h = absurd h

  cost_same : (p : ℕ) (image : Image) (e : Ending) → EndsSo p image e → cost_by w p e ≡ own_cost input most image
  cost_same p image e h =
      ap (λ bs. cost_of bs (w.four.own p).window.state.trace + trap_cost bs e) h.blocks
      ∙ ap (λ (t : State). cost_of image.blocks t.trace + trap_cost image.blocks e) h.state
      ∙ ap (λ x. cost_of image.blocks (own_run input most image).0.trace + trap_cost image.blocks x) h.ending

  pub costs_same : (p : ℕ) (images : List Image) (es : List Ending) → AllEnd p images es
      → costs_by w p es ≡ costs input most images
  costs_same p [] [] h = refl
  costs_same p (image ∷ images) (e ∷ es) h =
      ap₂ (λ (x y : ℕ). x + y) (cost_same p image e h.0) (costs_same (p + 1) images es h.1)
  costs_same p [] (e ∷ es) h = absurd h
  costs_same p (image ∷ images) [] h = absurd h

  -- what a program has spent is what its run alone costs
  pub spent_same : (p : ℕ) (image : Image) (e : Ending) → EndsSo p image e
      → spending.spent (w.images p) (w.four.own p).window ≡ own_cost input most image
  spent_same p image e h =
      ap (λ (n : ℕ). cost_of (w.images p) (w.four.own p).window.state.trace + n)
      (same_trap (w.images p) (w.four.own p).window.over (w.four.own p).window.state.next
      ∙ ap (trap_cost (w.images p)) (sym h.alone)) ∙ cost_same p image e h
