-- The image of a text does what the text means.
use Rattle.std.proofs.Common.{◌≡◌, ℕ, suc, ◌-◌, ◌*◌, ◌≤◌, length, List, ap, subst, arith}
use Rattle.trips_isa.specs.declared.block.Image.{Image}
use Rattle.c_tree.specs.declared.typed.TypedProgram.{TypedProgram}
use Rattle.ir_forms.specs.inside.FlatCode.{Program}
use Rattle.ir_forms.specs.inside.FlatFits.{small_ifs_of_all}
use Rattle.flat_lower.specs.inside.Statements.{lowered_program}
use Rattle.flat_lower.specs.inside.TreeViews.{source_of}
use Rattle.flat_lower_premises.specs.inside.Most.{most_of}
use Rattle.c_compile_laws.specs.PlainIfs.{plain_ifs}
use Rattle.c_compile_laws.proofs.Programs.{lowers_plain}
use Rattle.grid_place.specs.declared.placed.Placing.{Placing}
use Rattle.c_compile_laws.specs.Counts.{guarded_in}
use Rattle.c_compile_laws.specs.inside.Compiled.{FlatMeans}
use Rattle.c_compile_laws.specs.Runs.{DoesUnfinished}
use Rattle.c_compile_laws.proofs.Bounds.{has_bounds}
use Rattle.c_compile_laws.proofs.Compiled.{does_deep, does_finished, does_unfinished}
use Rattle.c_compile_laws.proofs.EndedRuns.{ends_as, never_ends}
use Rattle.c_compile_laws.proofs.Guards.{guards_small_ifs}
use Rattle.c_tree.specs.Limits.{most_tokens}
use Rattle.c_pre.proofs.Texts.{lexed_few}
use Rattle.c_compile.specs.inside.Flat.{IsFlatOf}
use Rattle.c_compile.specs.Images.{IsImageOf}
use Rattle.c_compile.specs.inside.Images.{ImagesMeanTexts}

flat_means : (text : List ℕ) (p : Placing) (turns : ℕ) (i : Image) (o : IsImageOf text p turns i)
    → FlatMeans (o.lowered).program o.flat (length (o.lowered).tokens)
flat_means text p turns i o =
    let l : IsFlatOf text o.flat = o.lowered in
    record {
      most = most_of (source_of l.program);
      keeps = l.keeps;
      fits = l.fits;
      few = lexed_few most_tokens text l.tokens l.lexed;
      short = l.most;
      blocks = l.blocks;
    }

guards_plain : (text : List ℕ) (p : Placing) (turns : ℕ) (i : Image) (o : IsImageOf text p turns i)
    → plain_ifs (o.lowered).program ≤ guarded_in i.blocks
guards_plain text p turns i o =
    let l : IsFlatOf text o.flat = o.lowered in
    let a = lowers_plain l.program in
    let e : small_ifs_of_all (o.flat).functions ≡ small_ifs_of_all (lowered_program l.program).functions =
    ap (λ (F : Program). small_ifs_of_all F.functions) l.is in
    let g = guards_small_ifs l.program o.flat (length l.tokens) p (turns - 1) i
    (flat_means text p turns i o) o.compiled in
    omega (arith, a, e, g)

-- so many turns besides one, and that one
all_turns : (turns t : ℕ) → 1 ≤ turns → suc (turns - 1) * t ≡ turns * t
all_turns turns t some = let e : suc (turns - 1) ≡ turns = omega (arith, some) in ap (λ (k : ℕ). k * t) e

-- each image of a text does what the text means, however many turns of a loop its blocks do
pub images_mean : ImagesMeanTexts
images_mean text p turns i o =
    let l : IsFlatOf text o.flat = o.lowered in
    let P : TypedProgram = l.program in
    let t : ℕ = length l.tokens in
    let w : ℕ = turns - 1 in
    let m : FlatMeans P o.flat t = flat_means text p turns i o in
    let e : suc w * t ≡ turns * t = all_turns turns t o.some in
    let finished = does_finished P o.flat t p w i m o.compiled in
    let deep = does_deep P o.flat t p w i m o.compiled in
    let unfinished : DoesUnfinished (turns * t) P i =
    subst (λ (k : ℕ). DoesUnfinished k P i) e (does_unfinished P o.flat t p w i m o.compiled) in
    record {
      program = P;
      accepted = l.accepted;
      tokens = l.tokens;
      lexed = l.lexed;
      finished = finished;
      deep = deep;
      unfinished = unfinished;
      ends = ends_as P (turns * t) i finished deep unfinished;
      endless = never_ends P (turns * t) i finished deep unfinished;
      bounds = has_bounds P o.flat t p w i m o.compiled;
      guards = guards_plain text p turns i o;
    }
