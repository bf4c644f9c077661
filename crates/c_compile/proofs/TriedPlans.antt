-- The image of a flat program by any plan, trimmed, where no pass refuses a block of it and the checker takes each.
use Rattle.std.proofs.Common.{◌≡◌, ℕ, ◌+◌, ◌≤◌, Bool, true, List, length, refl, ap, subst, arith}
use Rattle.std.specs.List.{All}
use Rattle.std.specs.Prelude.{Option, Some, None, IfSome}
use Rattle.trips_isa.specs.declared.block.Block.{Block}
use Rattle.trips_isa.specs.declared.block.Image.{Image}
use Rattle.trips_isa.specs.Stores.{data_size}
use Rattle.ir_forms.specs.inside.Limits.{label_count}
use Rattle.block_cases.specs.Good.{GoodBlock}
use Rattle.block_check.specs.inside.Images.{IsCheckedImage}
use Rattle.ir_forms.specs.inside.FlatCode.{Program}
use Rattle.ir_forms.specs.inside.FlatFits.{FitsProgram, code_blocks_of_all}
use Rattle.ir_forms.specs.inside.Frames.{frames_at, frame_limit}
use Rattle.ir_forms.specs.inside.HyperCode as hyper
use Rattle.hyper_narrow.specs.inside.NarrowedCode.{Narrowed, bare}
use Rattle.ir_forms.specs.inside.HyperFits.{IsFollowed}
use Rattle.reg_assign.specs.inside.Keeps.{KeepsTameRuns}
use Rattle.hyper_build.specs.inside.FunctionParts.{entries_of}
use Rattle.hyper_build.specs.inside.Laws.{built_program, plan_of, AreAssigned, AreBlocksOf}
use Rattle.hyper_build.specs.inside.Tree.{annotated_all}
use Rattle.hyper_build.proofs.Assigned.{gives_assigned}
use Rattle.loop_unroll.specs.inside.Unrolled.{unrolled}
use Rattle.loop_unroll.specs.inside.Laws.{AsksAtMost}
use Rattle.grid_place.specs.declared.placed.Placing.{Placing}
use Rattle.c_compile_layout.specs.inside.Emitted.{image_of, most_blocks}
use Rattle.c_compile_blocks.specs.inside.Blocks.{ArePassed, FitsPasses}
use Rattle.c_compile.specs.inside.Outlines.{IsOutlined}
use Rattle.c_compile_laws.proofs.UnrolledPrograms.{unrolled_fits}
use Rattle.hyper_trim.specs.inside.Narrows.{Narrows}
use Rattle.c_compile_blocks.specs.inside.Checked.{AreChecked}
use Rattle.c_compile_blocks.proofs.Passed.{are_checked}
use Rattle.c_compile.proofs.CutPrograms.{data_fits, some_blocks}

-- what follows from what is said of what is there, if something is
pub some_weaker : {A : Type 0} (P Q : A → Type 0) (o : Option A) → ((x : A) → P x → Q x) → IfSome o P → IfSome o Q
some_weaker P Q None f h = h
some_weaker P Q (Some x) f h = f x h

-- each block of a checked image is good
pub all_good : (i image : Image) → i ≡ image → IsCheckedImage i → All GoodBlock image.blocks
all_good i image e h =
    subst (λ (x : Image). All GoodBlock x.blocks) e (λ k d l. (h.each k d l).cases)

-- what is built has no more blocks than labels
pub built_low : (F : Program) (lists : List (List ℕ)) (groups : List (List (List ℕ))) → FitsProgram F
    → AreAssigned F lists groups → 3 + code_blocks_of_all F.functions ≤ most_blocks → (cuts joins : List Bool)
    (P : List hyper.Block) → P ≡ built_program (plan_of cuts joins groups) F → length P ≤ label_count
built_low F lists groups fits a few cuts joins P is =
    let n = (gives_assigned cuts joins F lists groups fits a).few in
    let e : length P ≡ length (built_program (plan_of cuts joins groups) F) =
    ap (λ (bs : List hyper.Block). length bs) is in
    omega (arith, n, few, e)

module _ (F : Program) (lists : List (List ℕ)) (groups : List (List (List ℕ))) (fits : FitsProgram F)
    (a : AreAssigned F lists groups) (few : 3 + code_blocks_of_all F.functions ≤ most_blocks) (cuts joins : List Bool)
    (times : List ℕ) (P : List Narrowed)
    (kept : Narrows (unrolled times (built_program (plan_of cuts joins groups) F)) P) where
  shape : AreBlocksOf F (built_program (plan_of cuts joins groups) F)
  shape = gives_assigned cuts joins F lists groups fits a

  pub passes : FitsPasses P
  passes =
      let n = shape.few in
      unrolled_fits times (built_program (plan_of cuts joins groups) F) P
      (some_blocks (frames_at F.bytes) (annotated_all (plan_of cuts joins groups) 0 0 F.functions) F.main)
      (omega (arith, n, few)) shape.followed (shape.fit (omega (arith, n, few))) kept

  -- the blocks are numbered so that each call and each system call is followed
  pub followed : IsFollowed (bare P)
  followed = passes.followed

  -- there are no more blocks than labels
  pub low : length P ≤ label_count
  low = let n = passes.few in omega (arith, n)

  module _ (p : Placing) (us : List Block) (all : ArePassed true p P us) where
    -- the machine blocks are what the passes made, and the checker may take their image
    pub checked : AreChecked p P us F.bytes
    checked =
        are_checked true p P us F.bytes passes all fits.bytes (data_fits F.bytes frame_limit data_size fits.room)

    -- an image whose blocks are all good is the compiled one, and its functions begin where the plan says
    pub is_outlined : KeepsTameRuns F lists → (w : ℕ) → AsksAtMost w times → (i : Image) → i ≡ image_of us F.bytes
        → All GoodBlock (image_of us F.bytes).blocks
        → IsOutlined F p w i (entries_of (plan_of cuts joins groups) F)
    is_outlined keeps w low i e good = record {
      compiled = record {
        lists = lists;
        groups = groups;
        assigned = a;
        keeps = keeps;
        cuts = cuts;
        joins = joins;
        times = times;
        low = low;
        left = P;
        narrows = kept;
        blocks = us;
        made = checked.machine good;
        is = e;
      };
      begin = refl;
    }
