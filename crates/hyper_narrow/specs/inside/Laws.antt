-- Laws of narrowed programs.
use Rattle.std.specs.Prelude.{◌≡◌, ℕ, ◌↔◌, Bool, List, map}
use Rattle.trips_isa.specs.inside.Acts.{Act, is_clean}
use Rattle.trips_isa.specs.Rule.{Answer}
use Rattle.ir_forms.specs.declared.flow.FlowBlock.{FlowBlock}
use Rattle.ir_forms.specs.inside.HyperCode.{Block}
use Rattle.ir_forms.specs.inside.HyperFits.{FitsHyper}
use Rattle.ir_forms.specs.inside.FlowRuns.{AtStart, fired}
use Rattle.ir_forms.specs.inside.HyperRuns.{Machine, Layout, acts, hyper_run}
use Rattle.ir_forms.specs.inside.HyperWords.{HasAddresses, HasWords}
use Rattle.ir_forms.specs.inside.Agreement.{MeansBlock}
use Rattle.hyper_narrow.specs.inside.NarrowedCode.{Narrowed, whole}
use Rattle.hyper_narrow.specs.inside.NarrowedRuns.{narrowed_run}
use Rattle.hyper_narrow.specs.inside.NarrowedMeaning.{MeansNarrowed, SameActs, LeavesWords}

-- where every register outlasts each block, a program runs as it does
abbrev pub WholeProgramsRunSo : Type 0
WholeProgramsRunSo =
    (check : Bool) (at : Layout) (P : List Block) (bytes input : List ℕ) (n : ℕ)
    → narrowed_run check at (map whole P) bytes input n ≡ hyper_run check at P bytes input n

-- each division and access is done as often as by the block, and in its order
abbrev pub ActsInOrder : Block → FlowBlock → Type 0
ActsInOrder b f =
    (m : Machine) (h : ℕ → Answer) → HasWords m → AtStart m.registers m.memory h f
    → fired m.registers h f.nodes ≡ acts b.items m

-- to mean a block that every register outlasts, and to do what it does in order, is to mean the block
abbrev pub WholeBlocksMeanSo : Type 0
WholeBlocksMeanSo =
    (at : Layout) (b : Block) (f : FlowBlock) → (MeansNarrowed at (whole b) f × ActsInOrder b f) ↔ MeansBlock at b f

-- where the same is done, it is clean where it was
abbrev pub CleanAlike : Type 0
CleanAlike = (xs ys : List Act) → SameActs xs ys → is_clean xs ≡ is_clean ys

-- a narrowed block that fits leaves words where it begins with words
abbrev pub KeepsWords : Type 0
KeepsWords = (at : Layout) (c : Narrowed) → HasAddresses at → FitsHyper c.block → LeavesWords at c
