-- Emission before functions puts out their blocks.
use Rattle.std.proofs.Common.{◌≡◌, ℕ, suc, ◌+◌, ◌-◌, ◌<◌, Bool, List, [], ◌∷◌, ◌++◌, refl, sym, ap, ap₂}
use Rattle.std.proofs.Common.{◌∙◌, subst, arith, append_assoc, append-nil}
use mathlib.Core.Path.{fun_ext}
use Rattle.ir_forms.specs.declared.hyper.Source.TheVariants.{Reg}
use Rattle.ir_forms.specs.declared.hyper.Exit.TheVariants as exit
use Rattle.ir_forms.specs.declared.hyper.Tail.TheVariants as tail
use Rattle.ir_forms.specs.inside.Frames.{frame_of, frame_limit, frames_at}
use Rattle.ir_forms.specs.inside.FlatCode.{Function}
use Rattle.ir_forms.specs.inside.FlatFits.{steps_of, steps_of_all}
use Rattle.ir_forms.specs.inside.HyperCode.{Block}
use Rattle.ir_forms.specs.inside.HyperCode as hyper
use Rattle.ir_forms.specs.inside.HyperViews.{items_of}
use Rattle.ir_forms.specs.inside.HyperRuns.{jump}
use Rattle.ir_forms.proofs.Views.{tail_leave, tail_test}
use Rattle.reg_assign.specs.inside.Keeps.{calls, calls_of_all}
use Rattle.hyper_build.specs.declared.emitting.Note.{Note}
use Rattle.hyper_build.specs.declared.numbering.Numbering.{Numbering}
use Rattle.hyper_build.specs.inside.Tree.{annotated_all}
use Rattle.hyper_build.specs.inside.Parts.{cut, cut_blocks, moved, moved_blocks}
use Rattle.hyper_build.specs.inside.Passing.{parameter_moves, parameter_cuts}
use Rattle.hyper_build.specs.inside.Routines.{body_label, parameters_size, routine_size, routine_blocks, all_blocks}
use Rattle.hyper_build.specs.inside.Routines.{entry_from}
use Rattle.hyper_build.specs.inside.Laws.{plan_of}
use Rattle.hyper_build.specs.inside.Emitted.{rest_of}
use Rattle.hyper_build.specs.inside.Ground.{Ground, plan, entry_at, left}
use Rattle.hyper_build.specs.inside.Backward.{Emission, with_rest, put_out, before}
use Rattle.hyper_build.specs.inside.BackwardStatements.{moving}
use Rattle.hyper_build.specs.inside.BackwardCode.{emit}
use Rattle.hyper_build.specs.inside.BackwardProgram.{entering, forked, parameter_out, testing, ground_of}
use Rattle.hyper_build.specs.inside.BackwardProgram.{way_in_out, function_out, functions_out, emission_end}
use Rattle.hyper_build.specs.inside.BackwardProgram.{first_blocks, program_ground, EmissionBuilds}
use Rattle.hyper_build.specs.inside.Forward.{numbers_start, number_all, entries_from}
use Rattle.hyper_build.specs.inside.Reached.{Reached}
use Rattle.hyper_build.proofs.Reaching.{joined, mapped, rested, put_reached, before_reached, moving_reached}
use Rattle.hyper_build.proofs.Emissions.{reached}
use Rattle.hyper_build.proofs.NumbersForward.{routine_at, function_notes, all_notes, sizes_of}
use Rattle.hyper_build.proofs.NumbersForward.{all_numbers, entries_are}

-- WHAT THE CODE DOES

-- a parameter before the others
pub parameters_from : (small : Bool) (i n : ℕ) (s : Emission) → i < n
    → moving (parameter_cuts small) i (parameter_moves i (n - i)) s
    ≡ parameter_out small i (moving (parameter_cuts small) (suc i) (parameter_moves (suc i) (n - suc i)) s)
parameters_from small i n s h =
    let e : n - i ≡ suc (n - suc i) = omega (arith, h) in
    ap (λ m. moving (parameter_cuts small) i (parameter_moves i m) s) e

-- a rest that only tests register 0, as its plain block
pub forked_is : (one other : ℕ)
    → rest_of (record {
      items = [];
      tail = tail.Test (Reg 0) (tail.Leave (exit.Jump one)) (tail.Leave (exit.Jump other));
    }) ≡ forked one other
forked_is one other =
    ap (λ y. record { items = items_of []; tail = y })
    (tail_test (Reg 0) (tail.Leave (exit.Jump one)) (tail.Leave (exit.Jump other))
    ∙ ap₂ (hyper.Test (Reg 0)) (tail_leave (exit.Jump one)) (tail_leave (exit.Jump other)))

-- FUNCTIONS

way_in_reached : {o : List Block} (end frame : ℕ) (t : Emission) (e i k : ℕ) (N : List Note)
    (B : List Block) (E : Block) → Reached o t (e + 2) i k N B E
    → Reached o (way_in_out end frame t) e i k N (testing end frame (e + 1) ∷ entering frame E ∷ B)
    (jump e)
way_in_reached end frame t e i k N B E r =
    let u = with_rest (entering frame t.rest) t in
    let v = put_out u in
    let r4 = mapped (entering frame) r in
    let r5 = joined (λ x. x ∷ []) (λ x. jump (e + 1)) r4
    (put_reached u (e + 1) i k N (r4.label ∙ omega arith) r4.place r4.calls r4.notes) in
    let r6 = rested (testing end frame v.label) (testing end frame (e + 1))
    (ap (testing end frame) r5.label) r5 in
    let w = with_rest (testing end frame v.label) v in
    joined (λ x. x ∷ []) (λ x. jump e) r6
    (put_reached w e i k N r6.label r6.place r6.calls r6.notes)

function_reached : (end : ℕ) (g : Ground) (f : Function) (s : Emission) (e i k : ℕ) (N : List Note)
    → s.label ≡ e + routine_size (routine_at (plan g) i k f)
    → s.place ≡ i + 1 + steps_of f.body → s.calls ≡ k + calls f.body
    → s.notes ≡ N ++ function_notes (plan g) e i k f
    → Reached s.out (function_out end g f s) e i k N
    (routine_blocks end (entry_at g.entries) e (routine_at (plan g) i k f)) (jump e)
function_reached end g f s e i k N el ei ek en =
    let h = ground_of g f in
    let r = routine_at (plan g) i k f in
    let l1 = body_label r e in
    let l2 = e + 2 + parameters_size r in
    let s0 = with_rest (left h.frame) s in
    let r1 = reached h 0 0 f.body s0 l1 (i + 1) k N (el ∙ omega arith) ei ek en in
    let t1 = emit h 0 0 f.body s0 in
    let r2 = joined (cut_blocks r.small) (cut r.small l2) r1
    (before_reached (plan g) t1 l2 i k N r1.label r1.place r1.calls r1.notes) in
    let t2 = before (plan g) t1 in
    let cuts = parameter_cuts r.small in
    let moves = parameter_moves 0 f.params in
    let r3 = joined (moved_blocks cuts 0 moves (e + 2)) (moved cuts 0 moves (e + 2)) r2
    (moving_reached cuts 0 moves t2 (e + 2) i k N r2.label r2.place r2.calls r2.notes) in
    let B = routine_blocks end (entry_at g.entries) e r in
    subst (λ j. Reached s.out (way_in_out end (frame_of f)
    (moving (parameter_cuts ((plan g).small j)) 0 moves t2)) e i k N B (jump e))
    (sym r2.place)
    (way_in_reached end (frame_of f) (moving cuts 0 moves t2) e i k N _ _ r3)

functions_reached : (end : ℕ) (g : Ground) (fs : List Function) (s : Emission) (e i k : ℕ)
    (N : List Note) → s.label ≡ e + sizes_of (annotated_all (plan g) i k fs)
    → s.place ≡ i + steps_of_all fs → s.calls ≡ k + calls_of_all fs
    → s.notes ≡ N ++ all_notes (plan g) e i k fs
    → Reached s.out (functions_out end g fs s) e i k N
    (all_blocks end (entry_at g.entries) e (annotated_all (plan g) i k fs))
    (functions_out end g fs s).rest
functions_reached end g [] s e i k N el ei ek en = record {
  label = let h : s.label ≡ e + 0 = el in omega (arith, h);
  place = let h : s.place ≡ i + 0 = ei in omega (arith, h);
  calls = let h : s.calls ≡ k + 0 = ek in omega (arith, h);
  notes = en ∙ append-nil N;
  out = refl;
  rest = refl;
}
functions_reached end g (f ∷ fs) s e i k N el ei ek en =
    let r = routine_at (plan g) i k f in
    let e1 = e + routine_size r in
    let i1 = i + 1 + steps_of f.body in
    let k1 = k + calls f.body in
    let n1 = function_notes (plan g) e i k f in
    let m = functions_out end g fs s in
    let p = functions_reached end g fs s e1 i1 k1 (N ++ n1) (el ∙ omega arith) (ei ∙ omega arith)
    (ek ∙ omega arith) (en ∙ sym (append_assoc N n1 (all_notes (plan g) e1 i1 k1 fs))) in
    let c = function_reached end g f m e i k N p.label p.place p.calls p.notes in
    let B1 = routine_blocks end (entry_at g.entries) e r in
    let B2 = all_blocks end (entry_at g.entries) e1 (annotated_all (plan g) i1 k1 fs) in
    record {
      label = c.label;
      place = c.place;
      calls = c.calls;
      notes = c.notes;
      out = c.out ∙ ap (λ x. B1 ++ x) p.out ∙ sym (append_assoc B1 B2 s.out);
      rest = refl;
    }

-- PROGRAMS

-- what is emitted is what is built, for all lists of answers and groups, and every program
pub emitted_is_built : EmissionBuilds
emitted_is_built cuts joins groups P =
    let p = plan_of cuts joins groups in
    let entries = entries_from p P.functions numbers_start in
    let g = program_ground cuts joins groups entries in
    let rs = annotated_all p 0 0 P.functions in
    let base = frames_at P.bytes in
    let n = number_all p P.functions numbers_start in
    let e = all_numbers g 3 0 0 P.functions [] in
    let end = emission_end n in
    let c = functions_reached (base + frame_limit) g P.functions end 3 0 0 []
    (ap (λ (x : Numbering). x.label) e) (ap (λ (x : Numbering). x.place) e)
    (ap (λ (x : Numbering). x.calls) e) (ap (λ (x : Numbering). x.notes) e) in
    let known : entry_at entries ≡ entry_from 3 rs =
    fun_ext (entries_are g 3 0 0 P.functions []) in
    ap (first_blocks base (entry_at entries P.main))
    (c.out ∙ append-nil (all_blocks (base + frame_limit) (entry_at entries) 3 rs))
    ∙ ap (λ h. first_blocks base (h P.main) (all_blocks (base + frame_limit) h 3 rs)) known
