-- What the issue of a tile is to any program: its own issue, or that of another, which has taken a free unit.
use Rattle.std.proofs.Common.{◌≡◌, ℕ, ◌≤◌, ◌⊎◌, inl, inr, ◌==◌, Bool, true, false, List, [], ◌∷◌, Option, Some}
use Rattle.std.proofs.Common.{None, refl, sym, ap, ◌∙◌, subst, arith}
use Rattle.std.proofs.lemmas.Bool.{cond_both, eqb-true}
use Rattle.trips_isa.specs.declared.block.Block.{Block}
use Rattle.trips_isa.specs.declared.block.Inst.{Inst}
use Rattle.block_cases.specs.Orders.{slot_of}
use Rattle.commit_flush_spec.specs.Frames.{Frame}
use Rattle.grid_cycle_spec.specs.Grid.{Grid}
use Rattle.grid_cycle_spec.specs.Choosing.{eldest, slots, with_frame}
use Rattle.grid_cycle_spec.specs.Units.{ready, takes, issued, issue_chosen, issues}
use Rattle.grid_cycle_spec.proofs.Routes.{takes_time}
use Rattle.smt_spec.specs.Programs.{Four, grid_of, alone, put}
use Rattle.smt_spec.specs.Turns.{first_does}
use Rattle.smt_spec.specs.inside.Among.{Distinct}
use Rattle.smt_spec.specs.Parts.{Images, has_ready}
use Rattle.smt_spec.proofs.SeenAlone.{put_same, put_other, among, shared}
use Rattle.smt_spec.proofs.UnitsUnseen.{with_units, issues_beside, issues_rest}

-- an operation takes at most 24 cycles
takes_most : (o : Option Inst) → takes o ≤ 24
takes_most None = omega arith
takes_most (Some i) = (takes_time i.op).most

module _ {W : Type 0} (blocks : List Block) (budget k : ℕ) where
  frame_most : (q : ℕ × ℕ) (fs : List Frame) (g : Grid W) → g.units k ≤ 24
      → (with_frame q.0 (λ f h. issued blocks budget k q.0 q.1 (takes (slot_of f.code q.1)) h) fs g).units k ≤ 24
  frame_most q [] g l = l
  frame_most q (f ∷ fs) g l = cond_both (f.number == q.0)
      (issued blocks budget k q.0 q.1 (takes (slot_of f.code q.1)) g)
      (with_frame q.0 (λ f h. issued blocks budget k q.0 q.1 (takes (slot_of f.code q.1)) h) fs g)
      (λ (h : Grid W). h.units k ≤ 24)
      (λ e. cond_both (k == k) (takes (slot_of f.code q.1)) (g.units k) (λ n. n ≤ 24)
      (λ z. takes_most (slot_of f.code q.1)) (λ z. l))
      (λ e. frame_most q fs g l)

  chosen_most : (o : Option (ℕ × ℕ)) (g : Grid W) → g.units k ≤ 24 → (issue_chosen blocks budget k o g).units k ≤ 24
  chosen_most None g l = l
  chosen_most (Some q) g l = frame_most q g.window.frames g l

  -- an issue makes a unit busy for at most 24 cycles
  pub issues_most : (g : Grid W) → g.units k ≤ 24 → (issues blocks budget k g).units k ≤ 24
  issues_most g l = cond_both (g.units k == 0)
      (issue_chosen blocks budget k (eldest (ready blocks budget g k) slots g.window.frames) g) g
      (λ (h : Grid W). h.units k ≤ 24)
      (λ e. chosen_most (eldest (ready blocks budget g k) slots g.window.frames) g l) (λ e. l)

module _ {W : Type 0} (images : Images) (budget k : ℕ) where
  -- z is y, but for how busy unit k is, within 24 cycles
  pub record Taken (y z : Grid W) : Type 0 where
    pub is : z ≡ with_units z.units y
    pub far : (t : ℕ) → (t == k) ≡ false → z.units t ≡ y.units t
    pub most : y.units k ≤ 24 → z.units k ≤ 24

  pub issue_any : (p : ℕ) (qs : List ℕ) (g : Four W) → Distinct qs
      → (alone p (first_does (has_ready images budget k) (λ q. issues (images q) budget k) qs g)
      ≡ issues (images p) budget k (alone p g))
      ⊎ Taken (alone p g) (alone p (first_does (has_ready images budget k) (λ q. issues (images q) budget k) qs g))
  issue_any p [] g d = inr (record { is = refl; far = λ t e. refl; most = λ l. l })
  issue_any p (q ∷ qs) g d = cond_both (has_ready images budget k q (alone q g))
      (put q (issues (images q) budget k (alone q g)) g)
      (first_does (has_ready images budget k) (λ q. issues (images q) budget k) qs g)
      (λ (x : Four W). (alone p x ≡ issues (images p) budget k (alone p g)) ⊎ Taken (alone p g) (alone p x))
      (λ e. by (p == q) refl)
      (λ e. issue_any p qs g d.1)
    where
      taken : Taken (alone p g) (among (g.own p) (shared (issues (images q) budget k (alone q g))))
      taken = record {
        is = ap (λ (r : W × ℕ). grid_of (g.own p) (issues (images q) budget k (alone q g)).units r.0 r.1)
            (issues_rest (images q) budget k (alone q g));
        far = λ t e. (issues_beside (images q) budget k g.units (alone q g) refl).others t e;
        most = λ l. issues_most (images q) budget k (alone q g) l;
      }

      by : (b : Bool) → (p == q) ≡ b
          → (alone p (put q (issues (images q) budget k (alone q g)) g) ≡ issues (images p) budget k (alone p g))
          ⊎ Taken (alone p g) (alone p (put q (issues (images q) budget k (alone q g)) g))
      by false e = inr (subst (Taken (alone p g))
          (sym (put_other p q (issues (images q) budget k (alone q g)) g e)) taken)
      by true e =
          let i : p ≡ q = eqb-true p q e in
          inl (ap (λ x. alone x (put q (issues (images q) budget k (alone q g)) g)) i
          ∙ put_same q (issues (images q) budget k (alone q g)) g
          ∙ ap (λ x. issues (images x) budget k (alone x g)) (sym i))
