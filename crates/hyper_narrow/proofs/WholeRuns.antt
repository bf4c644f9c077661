-- Where every register outlasts each block nothing is narrowed.
use Rattle.std.proofs.Common.{◌≡◌, ℕ, zero, suc, Bool, List, [], ◌∷◌, map, refl, ap}
use Rattle.std.proofs.Common.{◌∙◌}
use Rattle.std.proofs.Math.Path.{fun_ext}
use Rattle.ir_forms.specs.declared.hyper.Exit.{Exit}
use Rattle.ir_forms.specs.declared.hyper.Exit.TheVariants as exit
use Rattle.ir_forms.specs.inside.FlowRuns.{fired}
use Rattle.ir_forms.specs.inside.HyperCode.{Block}
use Rattle.ir_forms.specs.inside.HyperRuns.{Machine, Layout, Standing, after_items, acts, leaving}
use Rattle.ir_forms.specs.inside.HyperRuns.{next_label, system, if_clean, block_at, leave, run, start, hyper_run}
use Rattle.hyper_narrow.specs.inside.NarrowedCode.{Narrowed, whole}
use Rattle.hyper_narrow.specs.inside.NarrowedRuns.{narrowed_at, go_on, run_narrowed, narrowed_run, exit_from}
use Rattle.hyper_narrow.specs.inside.Laws.{WholeProgramsRunSo, WholeBlocksMeanSo}
use Rattle.hyper_narrow.proofs.ActsAlike.{equal_acts}

-- the block of a label
whole_at : (P : List Block) (l : ℕ) → narrowed_at (map whole P) l ≡ whole (block_at P l)
whole_at [] l = refl
whole_at (b ∷ P) zero = refl
whole_at (b ∷ P) (suc l) = whole_at P l

module _ (at : Layout) (P : List Block) (f : Narrowed → Machine → Standing) (g : Block → Machine → Standing)
    (same : (l : ℕ) → f (narrowed_at (map whole P) l) ≡ g (block_at P l)) where
  -- what follows an exit stands so where what follows each label does
  left_so : (e : Exit) (m : Machine)
      → go_on (map whole P) f e (next_label at e m) (leaving at e m) ≡ leave at P g e m
  left_so (exit.Jump l) m = ap (λ (k : Machine → Standing). k m) (same l)
  left_so (exit.Call l back) m =
      ap (λ (k : Machine → Standing). k (leaving at (exit.Call l back) m)) (same l)
  left_so exit.Return m = ap (λ (k : Machine → Standing). k m) (same (at.label (m.registers 2)))
  left_so (exit.System l) m = ap (system (m.registers 0) m) (same l)

-- from each block on
runs_so : (check : Bool) (at : Layout) (P : List Block) (n : ℕ) (b : Block) (m : Machine)
    → run_narrowed check at (map whole P) n (whole b) m ≡ run check at P n b m
runs_so check at P zero b m = refl
runs_so check at P (suc n) b m =
    let same : (l : ℕ) → run_narrowed check at (map whole P) n (narrowed_at (map whole P) l)
    ≡ run check at P n (block_at P l) =
    λ l. ap (run_narrowed check at (map whole P) n) (whole_at P l)
    ∙ fun_ext (λ (x : Machine). runs_so check at P n (block_at P l) x) in
    ap (if_clean check (acts b.items m))
    (left_so at P (run_narrowed check at (map whole P) n) (run check at P n) same (exit_from b m)
    (after_items b.items m))

-- a program runs as it does where every register outlasts each of its blocks
pub whole_runs : WholeProgramsRunSo
unfolding narrowed_run hyper_run
whole_runs check at P bytes input n =
    ap (λ (c : Narrowed). run_narrowed check at (map whole P) n c (start bytes input)) (whole_at P 0)
    ∙ runs_so check at P n (block_at P 0) (start bytes input)

-- a flow block that means the whole block, and does what it does in order, means the block
pub whole_means : WholeBlocksMeanSo
whole_means at b f = (
  λ w m h words o.
      let c = w.0 m h words o in
      record { registers = c.registers; memory = c.memory; exit = c.exit; acts = w.1 m h words o },
  λ means. (
    λ m h words o.
        let c = means m h words o in
        record {
          registers = c.registers;
          memory = c.memory;
          exit = c.exit;
          acts = equal_acts (fired m.registers h f.nodes) (acts b.items m) c.acts;
        },
    λ m h words o. (means m h words o).acts,
  ),
)
