-- How a run stands is what it comes to, by register 0.
use Rattle.std.proofs.Common.{◌≡◌, ℕ, zero, suc, ◌%◌, Bool, true, false, cond, not, ◌&&◌, nat_eq, List, [], ◌∷◌, ◌++◌}
use Rattle.std.proofs.Common.{refl, sym, ap}
use Rattle.trips_isa.specs.inside.Acts.{is_clean}
use Rattle.ir_forms.specs.declared.hyper.Exit.{Exit}
use Rattle.ir_forms.specs.inside.HyperCode.{Block}
use Rattle.ir_forms.specs.inside.HyperRuns.{Machine, Layout, Standing, Ended, Full, Unclean, with_next, system}
use Rattle.ir_forms.specs.inside.HyperRuns.{is_system, next_label, leaving, block_at, after_items, acts, exit_of}
use Rattle.ir_forms.specs.inside.HyperRuns.{leave, run}
use Rattle.loop_unroll.specs.inside.Wholes.{Whole, Faulty, Stop, Goes, called, next_of, go_on, whole}
use Rattle.loop_unroll.specs.inside.Wholes.{standing_of}
use Rattle.loop_unroll.specs.inside.Laws.{WholesStand}

module _ (P : List Block) (f : Block → Machine → Standing) (g : Block → Machine → Whole)
    (h : (b : Block) (m : Machine) → f b m ≡ standing_of (g b m)) where
  -- behind a system call; a call of 3 ends with a result, and of 4 with a full stack
  behind_call : (e : Exit) (l : ℕ) (m : Machine)
      → system (m.registers 0) m (f (block_at P l)) ≡ standing_of (go_on P g (called (m.registers 0) e l m))
  behind_call e l m =
      go (nat_eq (m.registers 0) 1) (nat_eq (m.registers 0) 2) (nat_eq (m.registers 0) 3) (nat_eq (m.registers 0) 4)
      refl refl
    where
      go : (a b c d : Bool) → nat_eq (m.registers 0) 3 ≡ c → nat_eq (m.registers 0) 4 ≡ d
          → cond a (f (block_at P l) (record m { output = m.output ++ (m.registers 3 % 256) ∷ [] }))
          (cond b (f (block_at P l) (with_next m m.input))
          (cond c (Ended m.output (m.registers 3)) (cond d (Full m.output) (f (block_at P l) m))))
          ≡ standing_of (go_on P g (cond a (Goes l (record m { output = m.output ++ (m.registers 3 % 256) ∷ [] }))
          (cond b (Goes l (with_next m m.input)) (cond c (Stop e m) (cond d (Stop e m) (Goes l m))))))
      go true b c d p q = h (block_at P l) _
      go false true c d p q = h (block_at P l) _
      go false false true d p q = sym (ap (λ v. cond v (Ended m.output (m.registers 3)) (Full m.output)) p)
      go false false false true p q = sym (ap (λ v. cond v (Ended m.output (m.registers 3)) (Full m.output)) p)
      go false false false false p q = h (block_at P l) m

  leave_stands : (at : Layout) (e : Exit) (m : Machine)
      → leave at P f e m ≡ standing_of (go_on P g (next_of at e m))
  leave_stands at e m = go (is_system e)
    where
      go : (c : Bool) → cond c (system (m.registers 0) m (f (block_at P (next_label at e m))))
          (f (block_at P (next_label at e m)) (leaving at e m))
          ≡ standing_of (go_on P g (cond c (called (m.registers 0) e (next_label at e m) m)
          (Goes (next_label at e m) (leaving at e m))))
      go true = behind_call e (next_label at e m) m
      go false = h (block_at P (next_label at e m)) (leaving at e m)

clean_stands : (c : Bool) (x : Standing) (y : Whole) → x ≡ standing_of y
    → cond c Unclean x ≡ standing_of (cond c Faulty y)
clean_stands true x y e = refl
clean_stands false x y e = e

pub wholes_stand : WholesStand
wholes_stand check at P zero b m = refl
wholes_stand check at P (suc n) b m =
    let m1 = after_items b.items m in
    let e = exit_of b.tail m1.registers in
    clean_stands (check && not (is_clean (acts b.items m))) (leave at P (run check at P n) e m1)
    (go_on P (whole check at P n) (next_of at e m1))
    (leave_stands P (run check at P n) (whole check at P n) (wholes_stand check at P n) at e m1)
