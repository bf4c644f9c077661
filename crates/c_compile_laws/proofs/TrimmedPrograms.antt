-- Built programs that are trimmed.
use Rattle.std.proofs.Common.{ℕ, sym, subst, arith}
use mathlib.Core.Path.{fun_ext}
use Rattle.ir_forms.specs.inside.FlatRuns.{flat_run}
use Rattle.ir_forms.specs.inside.HyperRuns.{Standing}
use Rattle.ir_forms.specs.inside.HyperWords.{IsFaithful}
use Rattle.reg_assign.specs.inside.Keeps.{tame_and, assigned_program}
use Rattle.hyper_build.specs.inside.Laws.{built_program, plan_of}
use Rattle.hyper_build.specs.inside.Whole.{EndsSo}
use Rattle.hyper_build.proofs.Assigned.{keeps_assigned}
use Rattle.hyper_build.proofs.FilledIfs.{keeps_small_ifs}
use Rattle.c_compile_laws.specs.inside.TrimLaws.{TrimmedFits, TrimmedKeepsAssigned, TrimmedKeepsSmallIfs}

-- the passes take what is left of a program whose blocks fit and lead to its blocks
pub trimmed_fits : TrimmedFits
trimmed_fits P Q s w f a t =
    let e = t.count in
    record {
      some = omega (arith, e, s);
      few = omega (arith, e, w);
      followed = t.followed f;
      fit = t.fit a;
    }

-- the run of what is left is the run of the blocks, which is known
pub trimmed_keeps : TrimmedKeepsAssigned
trimmed_keeps check at cuts joins F lists groups Q input n f a t faithful bytes =
    let P = built_program (plan_of cuts joins groups) F in
    subst (λ (run : ℕ → Standing). EndsSo run n (flat_run (tame_and check) (assigned_program F lists) input n))
    (fun_ext (λ k. sym (t.runs check at F.bytes input k)))
    (keeps_assigned check at cuts joins F lists groups input n f a
    (subst (IsFaithful at) t.count faithful) bytes)

-- what is left has as many filled ifs as the blocks
pub trimmed_ifs : TrimmedKeepsSmallIfs
trimmed_ifs p F Q t =
    let e = t.filled in
    let h = keeps_small_ifs p F in
    omega (arith, e, h)
