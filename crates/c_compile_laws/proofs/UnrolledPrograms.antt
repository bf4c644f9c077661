-- Built programs whose self loops are unrolled and which are then trimmed.
use Rattle.std.proofs.Common.{◌≡◌, ℕ, ◌+◌, ◌≤◌, true, List, length, sym, subst, ◌∙◌, arith}
use Rattle.ir_forms.specs.inside.FlatCode.{Program}
use Rattle.ir_forms.specs.inside.FlatFits.{small_ifs_of_all}
use Rattle.ir_forms.specs.inside.HyperCode.{Block}
use Rattle.ir_forms.specs.inside.HyperFits.{IsFollowed, filled_in}
use Rattle.ir_forms.specs.inside.HyperRuns.{Layout, Standing, hyper_run}
use Rattle.hyper_narrow.specs.inside.NarrowedCode.{Narrowed, bare}
use Rattle.hyper_narrow.specs.inside.NarrowedRuns.{narrowed_run}
use Rattle.hyper_build.specs.inside.Tree.{Plan}
use Rattle.hyper_build.specs.inside.Laws.{built_program}
use Rattle.hyper_build.specs.inside.Whole.{Stops}
use Rattle.hyper_build.proofs.FilledIfs.{keeps_small_ifs}
use Rattle.loop_unroll.specs.inside.Unrolled.{unrolled}
use Rattle.loop_unroll.specs.inside.Laws.{AsksAtMost, ComesTo, HasStopped}
use Rattle.loop_unroll.proofs.Programs.{unrolls_programs, unrolls_blocks, stopped_stays}
use Rattle.hyper_trim.specs.inside.Narrows.{AllFit, Narrows}
use Rattle.c_compile_layout.specs.inside.Emitted.{most_blocks}
use Rattle.c_compile_blocks.specs.inside.Blocks.{FitsPasses}
use Rattle.c_compile_laws.proofs.TrimmedPrograms.{trimmed_fits}

-- the passes take what is left of an unrolled program, where they take the program's blocks
pub unrolled_fits : (times : List ℕ) (P : List Block) (Q : List Narrowed) → 1 ≤ length P → length P ≤ most_blocks
    → IsFollowed P → AllFit P → Narrows (unrolled times P) Q → FitsPasses Q
unrolled_fits times P Q s w f a t =
    let u = unrolls_blocks times P in
    let e = u.size in
    trimmed_fits (unrolled times P) Q (omega (arith, e, s)) (omega (arith, e, w)) (u.followed f) (u.fit a) t

-- what is left has no fewer filled ifs than the flat program has small ones
pub unrolled_ifs : (times : List ℕ) (p : Plan) (F : Program) (Q : List Narrowed)
    → Narrows (unrolled times (built_program p F)) Q → small_ifs_of_all F.functions ≤ filled_in (bare Q)
unrolled_ifs times p F Q t =
    let u = (unrolls_blocks times (built_program p F)).filled in
    let e = t.filled in
    let h = keeps_small_ifs p F in
    omega (arith, e, h, u)

module _ (w : ℕ) (times : List ℕ) (low : AsksAtMost w times) (at : Layout) (P : List Block) (Q : List Narrowed)
    (left : Narrows (unrolled times P) Q) (bytes input : List ℕ) where
  -- what so many blocks of the program come to, some number of blocks of what is left come to
  pub left_comes : (b : ℕ)
      → ComesTo w Standing (λ n. hyper_run true at P bytes input n) (λ n. narrowed_run true at Q bytes input n) b
  left_comes b =
      let r = unrolls_programs true at w times P bytes input b low in
      record {
        blocks = r.blocks;
        few = r.few;
        enough = r.enough;
        same = left.runs true at bytes input r.blocks ∙ r.same;
      }

  -- where the program's run ends, so does that of what is left, in no more blocks
  pub left_stops : (n : ℕ) (end : Standing) → HasStopped end
      → Stops (λ k. hyper_run true at P bytes input k) n end
      → Stops (λ k. narrowed_run true at Q bytes input k) n end
  left_stops n end h s =
      let r = unrolls_programs true at w times P bytes input s.blocks low in
      let l = r.few in
      let k = s.few in
      let e : s.blocks + 0 ≡ s.blocks = omega arith in
      let z : hyper_run true at (unrolled times P) bytes input r.blocks ≡ end =
      r.same ∙ subst (λ (b : ℕ). hyper_run true at P bytes input b ≡ end) e (s.stands 0) in
      record {
        blocks = r.blocks;
        stands = λ k.
            left.runs true at bytes input (r.blocks + k)
            ∙ stopped_stays true at (unrolled times P) bytes input r.blocks k (subst HasStopped (sym z) h) ∙ z;
        few = omega (arith, l, k);
      }
