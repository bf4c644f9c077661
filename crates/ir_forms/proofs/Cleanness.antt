-- The check for faults changes nothing where nothing faults.
use Rattle.std.proofs.Common.{ℕ, zero, suc, ◌%◌, Bool, true, false, cond, List, [], ◌∷◌, ◌++◌, refl}
use Rattle.std.specs.Prelude.{not, nat_eq}
use Rattle.ir_forms.specs.declared.hyper.Exit.{Exit}
use Rattle.trips_isa.specs.inside.Acts.{is_clean}
use Rattle.ir_forms.specs.inside.HyperCode.{Block}
use Rattle.ir_forms.specs.inside.HyperRuns.{Machine, Layout, Standing, Running, Ended, Full, Unclean}
use Rattle.ir_forms.specs.inside.HyperRuns.{after_items, acts, exit_of, leaving, next_label, is_system}
use Rattle.ir_forms.specs.inside.HyperRuns.{with_next, system, block_at, leave, run, start, hyper_run}
use Rattle.ir_forms.specs.inside.Laws.{StandsAs, CleanChangesNothing}

same : (q : Standing) → StandsAs q q
same (Running out) = refl
same (Ended out v) = refl
same (Full out) = refl
same Unclean = tt

s-cond : (b : Bool) (p q x y : Standing) → StandsAs p x → StandsAs q y
    → StandsAs (cond b p q) (cond b x y)
s-cond true p q x y h k = h
s-cond false p q x y h k = k

-- what follows an exit stands so where the next blocks do
s-system : (call : ℕ) (m : Machine) (f g : Machine → Standing)
    → ((m : Machine) → StandsAs (f m) (g m))
    → StandsAs (system call m f) (system call m g)
s-system call m f g h =
    s-cond (nat_eq call 1) _ _ _ _ (h (record m {
      output = m.output ++
          (m.registers 3 % 256) ∷ [];
    }))
    (s-cond (nat_eq call 2) _ _ _ _ (h (with_next m m.input))
    (s-cond (nat_eq call 3) _ _ _ _ refl (s-cond (nat_eq call 4) _ _ _ _ refl (h m))))

s-leave : (at : Layout) (P : List Block) (f g : Block → Machine → Standing)
    → ((b : Block) (m : Machine) → StandsAs (f b m) (g b m)) → (e : Exit) (m : Machine)
    → StandsAs (leave at P f e m) (leave at P g e m)
s-leave at P f g h e m =
    s-cond (is_system e) _ _ _ _
    (s-system (m.registers 0) m (f (block_at P (next_label at e m)))
    (g (block_at P (next_label at e m)))
    (h (block_at P (next_label at e m))))
    (h (block_at P (next_label at e m)) (leaving at e m))

s-clean : (b : Bool) (p q : Standing) → StandsAs p q → StandsAs (cond (not b) Unclean p) q
s-clean true p q h = h
s-clean false p q h = tt

s-run : (at : Layout) (P : List Block) (n : ℕ) (b : Block) (m : Machine)
    → StandsAs (run true at P n b m) (run false at P n b m)
s-run at P zero b m = refl
s-run at P (suc n) b m =
    let m1 = after_items b.items m in
    let e = exit_of b.tail m1.registers in
    s-clean (is_clean (acts b.items m)) (leave at P (run true at P n) e m1)
    (leave at P (run false at P n) e m1)
    (s-leave at P (run true at P n) (run false at P n) (s-run at P n) e m1)

-- a clean run is the run without the check
pub clean_changes_nothing : CleanChangesNothing
unfolding hyper_run
clean_changes_nothing at P bytes input n = s-run at P n (block_at P 0) (start bytes input)
