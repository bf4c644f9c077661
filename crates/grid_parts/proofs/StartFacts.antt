-- The stated start, by its parts.
use Rattle.std.proofs.Common.{◌≡◌, ℕ, Bool, false, List, Option, None, slice_index_or, ap, ◌∙◌}
use Rattle.std.proofs.Math.Path.{fun_ext}
use Rattle.trips_isa.specs.Machine.{State}
use Rattle.base.specs.inside.Rows.{no_flags}
use Rattle.base.proofs.FlagFacts.{get_unset}
use Rattle.trips_isa.specs.declared.run.Counts.{Counts}
use Rattle.operand_net.specs.Places.{Places, none}
use Rattle.block_predict.specs.Predicts.{Holding}
use Rattle.commit_flush_spec.specs.Window.{opened}
use Rattle.grid_cycle_spec.specs.Grid.{Grid, Fetching}
use Rattle.grid_cycle_spec.specs.Cycles.{uncounted}
use Rattle.grid_parts.specs.inside.Changes.{begun_with}

-- no flag of a cleared row is set
pub unset_flags : (n : ℕ) (xs : List Bool) → xs ≡ no_flags n → (x : ℕ) → slice_index_or xs x false ≡ false
unset_flags n xs e x = ap (λ ys. slice_index_or ys x false) e ∙ get_unset n x

-- a grid without frames, of these parts
abbrev pub of_parts : {W : Type 0} → State → Holding → W → Places → (ℕ → ℕ → Bool) → (ℕ → ℕ → Bool) → (ℕ → ℕ)
    → (ℕ → ℕ)
    → (ℕ → Bool) → (ℕ → Bool) → Option Fetching → Counts → Grid W
of_parts t p z m a k u h v c f n = record {
  window = opened t;
  parcels = m;
  asked = a;
  units = u;
  works = k;
  fetching = f;
  standing = None;
  waits = v;
  careful = c;
  histories = h;
  predictor = p;
  weather = z;
  counts = n;
}

abbrev unset : ℕ → ℕ → Bool
unset x y = false

abbrev zeros : ℕ → ℕ
zeros x = 0

abbrev clear : ℕ → Bool
clear x = false

-- a grid whose parts are all empty is the one that a run starts with
pub starts : {W : Type 0} (t : State) (p : Holding) (z : W) (m : Places) (a k : ℕ → ℕ → Bool) (u h : ℕ → ℕ)
    (v c : ℕ → Bool)
    (f : Option Fetching) (n : Counts) → m ≡ none → ((x y : ℕ) → a x y ≡ false) → ((x y : ℕ) → k x y ≡ false)
    → ((x : ℕ) → u x ≡ 0) → ((x : ℕ) → h x ≡ 0) → ((x : ℕ) → v x ≡ false) → ((x : ℕ) → c x ≡ false) → f ≡ None
    → n ≡ uncounted → of_parts t p z m a k u h v c f n ≡ begun_with t p z
starts t p z m a k u h v c f n em ea ek eu eh ev ec ef en =
    ap (λ x. of_parts t p z x a k u h v c f n) em
    ∙ ap (λ x. of_parts t p z none x k u h v c f n) (fun_ext (λ x. fun_ext (λ y. ea x y)))
    ∙ ap (λ x. of_parts t p z none unset x u h v c f n) (fun_ext (λ x. fun_ext (λ y. ek x y)))
    ∙ ap (λ x. of_parts t p z none unset unset x h v c f n) (fun_ext eu)
    ∙ ap (λ x. of_parts t p z none unset unset zeros x v c f n) (fun_ext eh)
    ∙ ap (λ x. of_parts t p z none unset unset zeros zeros x c f n) (fun_ext ev)
    ∙ ap (λ x. of_parts t p z none unset unset zeros zeros clear x f n) (fun_ext ec)
    ∙ ap (λ x. of_parts t p z none unset unset zeros zeros clear clear x n) ef
    ∙ ap (λ x. of_parts t p z none unset unset zeros zeros clear clear None x) en
