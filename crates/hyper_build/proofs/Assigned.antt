-- What `assign` gives is as `build` wants it.
use Rattle.std.proofs.Common.{◌≡◌, ℕ, zero, suc, ◌≤◌, Bool, List, [], ◌∷◌}
use Rattle.std.proofs.Common.{length, Some, refl, sym, ap, subst, arith, slice_get}
use mathlib.Core.Path.{fun_ext}
use Rattle.ir_forms.specs.inside.FlatCode.{Function, Program}
use Rattle.ir_forms.specs.inside.FlatRuns.{flat_run}
use Rattle.ir_forms.specs.inside.HyperRuns.{hyper_run}
use Rattle.reg_assign.specs.inside.Live.{AreSmall, AreCut, AreFew, VarSet}
use Rattle.reg_assign.specs.inside.Keeps.{is_among, kept_by, keeping_all, assigned_program, tame_and, KeepsOwn}
use Rattle.hyper_build.specs.inside.Tree.{is_saved}
use Rattle.hyper_build.specs.inside.Whole.{EndsSo}
use Rattle.hyper_build.specs.inside.Laws.{saved_program, built_program, FitsGroups, groups_by, plan_of}
use Rattle.hyper_build.specs.inside.Laws.{AreAssigned, KeepsAssigned, GivesAssigned}
use Rattle.hyper_build.specs.inside.Smallness.{CutsAll, AssignedAreLittle}
use Rattle.hyper_build.proofs.Built.{build_gives, build_keeps, cut_blocks_little}

-- a call saves what is kept over it
saved_is_kept : (lists : List (List ℕ)) (groups : List (List (List ℕ))) → AreCut lists groups
    → (k : ℕ) → is_saved (groups_by groups k) ≡ kept_by lists k
saved_is_kept [] [] h k = fun_ext (λ v. refl)
saved_is_kept [] (gs ∷ groups) h k = absurd h
saved_is_kept (vs ∷ lists) [] h k = absurd h
saved_is_kept (vs ∷ lists) (gs ∷ groups) h zero = ap is_among h.0.0
saved_is_kept (vs ∷ lists) (gs ∷ groups) h (suc k) = saved_is_kept lists groups h.1 k

keeps_same : (lists : List (List ℕ)) (groups : List (List (List ℕ))) → AreCut lists groups
    → (λ k. is_saved (groups_by groups k)) ≡ kept_by lists
keeps_same lists groups h = fun_ext (saved_is_kept lists groups h)

same_program : (cuts joins : List Bool) (P : Program) (lists : List (List ℕ))
    (groups : List (List (List ℕ))) → AreCut lists groups
    → assigned_program P lists ≡ saved_program (plan_of cuts joins groups) P
same_program cuts joins P lists groups h =
    ap (λ (keep : ℕ → VarSet). record {
      functions = keeping_all keep 0 P.functions;
      bytes = P.bytes;
      main = P.main;
    }) (sym (keeps_same lists groups h))

few_at : (groups : List (List (List ℕ))) → AreFew groups → (k : ℕ) → length (groups_by groups k) ≤ 5
few_at [] h k = omega arith
few_at (gs ∷ groups) h zero = h.0
few_at (gs ∷ groups) h (suc k) = few_at groups h.1 k

small_at : (lists : List (List ℕ)) (groups : List (List (List ℕ))) → AreCut lists groups → (k : ℕ)
    → AreSmall (groups_by groups k)
small_at lists [] h k = tt
small_at [] (gs ∷ groups) h k = absurd h
small_at (vs ∷ lists) (gs ∷ groups) h zero = h.0.1
small_at (vs ∷ lists) (gs ∷ groups) h (suc k) = small_at lists groups h.1 k

groups_fit : (cuts joins : List Bool) (P : Program) (lists : List (List ℕ))
    (groups : List (List (List ℕ))) → AreAssigned P lists groups
    → FitsGroups (plan_of cuts joins groups) P
groups_fit cuts joins P lists groups a = record {
  own = subst (λ (F : Program). (f : ℕ) (g : Function) → slice_get F.functions f ≡ Some g
      → KeepsOwn g.scalars g.body) (same_program cuts joins P lists groups a.cut) a.kept.own;
  few = few_at groups a.few;
}

-- the lists that `assign` gives are as `build` wants them
pub keeps_assigned : KeepsAssigned
keeps_assigned check at cuts joins P lists groups input n t a faithful bytes =
    subst (λ F. EndsSo (hyper_run check at (built_program (plan_of cuts joins groups) P) P.bytes input) n
    (flat_run (tame_and check) F input n)) (sym (same_program cuts joins P lists groups a.cut))
    (build_keeps check at (plan_of cuts joins groups) P input n t (groups_fit cuts joins P lists groups a) faithful
    bytes)

-- By every plan the blocks built of a flat program, with its kept variables assigned, are blocks of it.
pub gives_assigned : GivesAssigned
gives_assigned cuts joins P lists groups t a =
    build_gives (plan_of cuts joins groups) P t (groups_fit cuts joins P lists groups a)

cuts_all : (lists : List (List ℕ)) (groups : List (List (List ℕ))) → AreCut lists groups
    → CutsAll (plan_of [] [] groups)
cuts_all lists groups h = record {
  cut = λ i. refl;
  joined = λ i. refl;
  small = λ i. refl;
  groups = small_at lists groups h;
}

-- all blocks of what `assign` gives are little, where every answer is to cut and no if is joined
pub assigned_little : AssignedAreLittle
assigned_little P lists groups t a =
    cut_blocks_little (plan_of [] [] groups) P t (groups_fit [] [] P lists groups a)
    (cuts_all lists groups a.cut)
