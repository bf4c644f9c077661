-- How a pass shows that it keeps what a block means: by the tables of starts.
use Rattle.std.specs.Prelude.{◌≡◌, ℕ}
use Rattle.trips_isa.specs.Rule.{Answer}
use Rattle.ir_forms.specs.declared.flow.FlowBlock.{FlowBlock}
use Rattle.ir_forms.specs.declared.hyper.Exit.{Exit}
use Rattle.ir_forms.specs.inside.Agreement.{TakesExit}
use Rattle.ir_forms.specs.inside.FlowRuns.{AtStart, written, stored_all, exits, fired}
use Rattle.ir_forms.specs.inside.HyperRuns.{Machine}
use Rattle.ir_forms.specs.inside.HyperWords.{HasWords}
use Rattle.hyper_narrow.specs.inside.NarrowedMeaning.{SameActs}

-- a table h of g, from a machine, comes to what some table of f comes to
pub record ComesTo (f g : FlowBlock) (m : Machine) (h : ℕ → Answer) : Type 0 where
  -- the tokens of the nodes of f
  pub old : ℕ → Answer
  pub start : AtStart m.registers m.memory old f
  pub registers : (r : ℕ) → written m.registers h g.writes r ≡ written m.registers old f.writes r
  pub memory : stored_all m.registers h g.nodes m.memory ≡ stored_all m.registers old f.nodes m.memory
  -- whatever exit it is
  pub exit : (e : Exit) (end : Machine) → TakesExit e end (exits old 0 f.nodes)
      → TakesExit e end (exits h 0 g.nodes)
  pub acts : SameActs (fired m.registers h g.nodes) (fired m.registers old f.nodes)

-- each table of g does so, from every machine that has words
abbrev pub FollowsTables : FlowBlock → FlowBlock → Type 0
FollowsTables f g =
    (m : Machine) (h : ℕ → Answer) → HasWords m → AtStart m.registers m.memory h g → ComesTo f g m h
