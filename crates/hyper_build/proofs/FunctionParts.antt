-- The blocks of a program function by function, and that numbering finds where each begins.
use Rattle.std.proofs.Common.{◌≡◌, ℕ, suc, ◌+◌, ◌≤◌, List, [], ◌∷◌, ◌++◌, length, refl, sym, ap, ◌∙◌, arith}
use Rattle.std.specs.List.{All}
use Rattle.std.proofs.lemmas.List.Elements.{All-nil, All-cons}
use Rattle.ir_forms.specs.inside.Frames.{frame_limit, frames_at}
use Rattle.ir_forms.specs.inside.FlatCode.{Function}
use Rattle.ir_forms.specs.inside.FlatFits.{steps_of}
use Rattle.ir_forms.specs.inside.HyperCode.{Block}
use Rattle.reg_assign.specs.inside.Keeps.{calls}
use Rattle.hyper_build.specs.declared.emitting.Note.{Note}
use Rattle.hyper_build.specs.inside.Tree.{Routine, annotated_all}
use Rattle.hyper_build.specs.inside.Routines.{routine_size, routine_blocks, all_blocks, entry_from, start_block}
use Rattle.hyper_build.specs.inside.Routines.{system_block, full_label}
use Rattle.hyper_build.specs.inside.Entries.{end_label}
use Rattle.hyper_build.specs.inside.Ground.{Ground, plan}
use Rattle.hyper_build.specs.inside.Forward.{entries_from}
use Rattle.hyper_build.specs.inside.BackwardProgram.{program_ground}
use Rattle.hyper_build.specs.inside.FunctionParts.{parts_from, joined, begins, EntriesBegin}
use Rattle.hyper_build.proofs.Follows.{length_routine}
use Rattle.hyper_build.proofs.NumbersForward.{numbers_at, routine_at, function_notes, function_numbers}

-- the blocks of all functions are those of each, one after the other
all_parts : (end : ℕ) (entries : ℕ → ℕ) (e : ℕ) (gs : List Routine)
    → all_blocks end entries e gs ≡ joined (parts_from end entries e gs)
all_parts end entries e [] = refl
all_parts end entries e (g ∷ gs) =
    ap (λ x. routine_blocks end entries e g ++ x) (all_parts end entries (e + routine_size g) gs)

-- each has a test of the stack and a way in
all_some : (end : ℕ) (entries : ℕ → ℕ) (e : ℕ) (gs : List Routine)
    → All (λ part. 2 ≤ length part) (parts_from end entries e gs)
all_some end entries e [] = All-nil (λ part. 2 ≤ length part)
all_some end entries e (g ∷ gs) =
    let Some : List Block → Type 0 = λ part. 2 ≤ length part in
    All-cons Some (routine_blocks end entries e g) (parts_from end entries (e + routine_size g) gs)
    (omega arith) (all_some end entries (e + routine_size g) gs)

-- numbering finds where each begins
entries_begin_parts : (end : ℕ) (h : ℕ → ℕ) (g : Ground) (l i k : ℕ) (fs : List Function) (N : List Note)
    → entries_from (plan g) fs (numbers_at l i k N) ≡ begins l (parts_from end h l (annotated_all (plan g) i k fs))
entries_begin_parts end h g l i k [] N = refl
entries_begin_parts end h g l i k (f ∷ fs) N =
    let r = routine_at (plan g) i k f in
    let rs = annotated_all (plan g) (i + 1 + steps_of f.body) (k + calls f.body) fs in
    let l1 = l + routine_size r in
    ap (λ s. l ∷ entries_from (plan g) fs s) (function_numbers g l i k f N)
    ∙ ap (λ x. l ∷ x) (entries_begin_parts end h g l1 (i + 1 + steps_of f.body) (k + calls f.body) fs
    (N ++ function_notes (plan g) l i k f))
    ∙ ap (λ n. l ∷ begins (l + n) (parts_from end h l1 rs)) (sym (length_routine end h l r))

-- a part for each function
each_part : (end : ℕ) (h : ℕ → ℕ) (g : Ground) (l i k : ℕ) (fs : List Function)
    → length (parts_from end h l (annotated_all (plan g) i k fs)) ≡ length fs
each_part end h g l i k [] = refl
each_part end h g l i k (f ∷ fs) =
    ap suc (each_part end h g (l + routine_size (routine_at (plan g) i k f)) (i + 1 + steps_of f.body)
    (k + calls f.body) fs)

-- a program's blocks are three and then function by function, each from its entry on
pub entries_begin : EntriesBegin
entries_begin cuts joins groups P =
    let g = program_ground cuts joins groups [] in
    let rs = annotated_all (plan g) 0 0 P.functions in
    let base = frames_at P.bytes in
    let end = base + frame_limit in
    let h = entry_from 3 rs in
    let first = start_block base (h P.main) ∷ system_block 3 end_label ∷ system_block 4 full_label ∷ [] in
    record {
      first = first;
      three = refl;
      all = ap (λ x. first ++ x) (all_parts end h 3 rs);
      entries = entries_begin_parts end h g 3 0 0 P.functions [];
      some = all_some end h 3 rs;
      each = each_part end h g 3 0 0 P.functions;
    }
