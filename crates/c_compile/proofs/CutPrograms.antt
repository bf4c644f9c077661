-- What the passes give of a flat program whose blocks are cut at every place.
use Rattle.std.proofs.Common.{◌≡◌, ℕ, ◌+◌, ◌≤◌, List, [], map, length, Some, slice_get, sym, ap, subst}
use Rattle.std.proofs.Common.{ap₂, ◌∙◌, refl, arith}
use Rattle.std.specs.List.{All}
use Rattle.std.specs.Prelude.{Bool}
use Rattle.std.proofs.lemmas.Option.{slice_get_within, get_or_from_slice_get}
use Rattle.trips_isa.specs.declared.block.Block.{Block}
use Rattle.trips_isa.specs.declared.block.Image.{Image}
use Rattle.trips_isa.specs.Fits.{FitsBlock}
use Rattle.trips_isa.specs.Stores.{data_size}
use Rattle.ir_forms.specs.inside.Limits.{label_count}
use Rattle.block_cases.specs.Good.{GoodBlock}
use Rattle.block_check.specs.declared.fault.CheckFault.{CheckFault}
use Rattle.block_check.specs.Images.{IsFirstBad}
use Rattle.block_check.proofs.Lowest.{found_good}
use Rattle.ir_forms.specs.declared.fault.Part.{Part}
use Rattle.ir_forms.specs.declared.fault.FlowFault.{FlowFault}
use Rattle.ir_forms.specs.declared.fault.FlowFault.TheVariants.{TooBig, Memory}
use Rattle.ir_forms.specs.declared.flat.FlatProgram.{FlatProgram}
use Rattle.ir_forms.specs.inside.FlatCode.{Program}
use Rattle.ir_forms.specs.inside.FlatFits.{FitsProgram, code_blocks_of_all}
use Rattle.ir_forms.specs.inside.FlatViews.{program_of}
use Rattle.ir_forms.specs.inside.Frames.{frames_at, frame_limit}
use Rattle.ir_forms.specs.inside.HyperCode as hyper
use Rattle.hyper_narrow.specs.inside.NarrowedCode.{Narrowed, whole, bare}
use Rattle.ir_forms.specs.inside.HyperFits.{IsFollowed}
use Rattle.reg_assign.specs.inside.Keeps.{FitsKept, KeepsTameRuns}
use Rattle.reg_assign.specs.inside.Live.{AreCut, AreFew}
use Rattle.hyper_build.specs.inside.FunctionParts.{entries_of}
use Rattle.hyper_build.specs.inside.Laws.{built_program, plan_of, AreAssigned, AreBlocksOf}
use Rattle.hyper_build.specs.inside.Routines.{built}
use Rattle.hyper_build.specs.inside.Tree.{annotated_all, Routine}
use Rattle.hyper_build.proofs.Assigned.{gives_assigned}
use Rattle.loop_unroll.proofs.Programs.{stays_once}
use Rattle.c_compile_blocks.proofs.FittingPrograms.{programs_fit}
use Rattle.grid_place.specs.declared.placed.Placing.{Placing}
use Rattle.c_compile_layout.specs.Emitted.{IsGoodImage}
use Rattle.c_compile_layout.specs.inside.Emitted.{image_of, most_blocks, AreEmitted}
use Rattle.c_compile_layout.specs.inside.Layouts as layouts
use Rattle.c_compile_layout.proofs.Linked.{good_image}
use Rattle.c_compile_blocks.specs.inside.Blocks.{AreMachineBlocks, FitsPasses}
use Rattle.c_compile_blocks.specs.inside.Limits.{FitsMachine}
use Rattle.c_compile_blocks.specs.inside.Refusals.{FitMachine}
use Rattle.c_compile_blocks.proofs.Emitted.{chunks_few, gives_emitted, sizes}
use Rattle.c_compile.specs.inside.Outlines.{IsOutlined}
use Rattle.hyper_trim.specs.inside.Narrows.{Narrows}
use Rattle.hyper_trim.proofs.Narrowing.{whole_narrows, whole_is}
use Rattle.c_tree.specs.Limits.{most_tokens}
use Rattle.c_pre.proofs.Texts.{lexed_few}
use Rattle.c_compile.specs.inside.Flat.{IsFlatOf}

-- the text's tokens leave room for the blocks of its program
pub few_blocks : (text : List ℕ) (F : Program) → IsFlatOf text F
    → 3 + code_blocks_of_all F.functions ≤ most_blocks
few_blocks text F l =
    let b = l.blocks in
    let f = lexed_few most_tokens text l.tokens l.lexed in
    omega (arith, b, f)

-- the data lies in data memory
pub data_fits : (bytes : List ℕ) (limit size : ℕ) → frames_at bytes + limit ≤ size → length bytes ≤ size
data_fits bytes limit size l = omega (arith, l)

-- a program has three blocks besides those of its functions
pub some_blocks : (base : ℕ) (fs : List Routine) (main : ℕ) → 1 ≤ length (built base fs main)
some_blocks base fs main = omega arith

module _ (F : Program) (lists : List (List ℕ)) (groups : List (List (List ℕ))) (fits : FitsProgram F)
    (a : AreAssigned F lists groups) (few : 3 + code_blocks_of_all F.functions ≤ most_blocks) where
  abbrev built_blocks : List hyper.Block
  built_blocks = built_program (plan_of [] [] groups) F

  -- every register outlasts each block
  abbrev B : List Narrowed
  B = map whole built_blocks

  narrows : Narrows built_blocks B
  narrows = whole_narrows built_blocks

  shape : AreBlocksOf F built_blocks
  shape = gives_assigned [] [] F lists groups fits a

  pub passes : FitsPasses B
  passes =
      let n = shape.few in
      let s = some_blocks (frames_at F.bytes) (annotated_all (plan_of [] [] groups) 0 0 F.functions) F.main in
      let l = narrows.count in
      record {
        some = omega (arith, s, l);
        few = omega (arith, n, few, l);
        followed = narrows.followed shape.followed;
        fit = narrows.fit (shape.fit (omega (arith, n, few)));
      }

  -- no block is refused for its size
  pub fit_machine : FitMachine B
  fit_machine k c e =
      let n = shape.few in
      let w = whole_is built_blocks k c e in
      subst FitsMachine (sym w.is)
      (programs_fit F lists groups fits a (omega (arith, n, few)) k c.block w.there)

  module _ (P : List Narrowed) (is : P ≡ B) where
    -- the blocks are numbered so that each call and each system call is followed
    pub followed : IsFollowed (bare P)
    followed = subst (λ (Q : List Narrowed). IsFollowed (bare Q)) (sym is) passes.followed

    -- there are no more blocks than labels
    pub low : length P ≤ label_count
    low =
        let n = passes.few in
        let e : length P ≡ length B = ap (λ (bs : List Narrowed). length bs) is in omega (arith, n, e)

    -- none is refused for its size
    pub fit : FitMachine P
    fit = subst FitMachine (sym is) fit_machine

  module _ (p : Placing) (us : List Block) (made : AreMachineBlocks p B us) where
    -- the machine blocks are few enough in chunks
    pub few_chunks : layouts.AreFew us
    few_chunks = chunks_few p B us passes made

    -- each machine block has at most 128 slots
    pub at_most_128 : All (λ (u : Block). length u.insts.items ≤ 128) us
    at_most_128 = λ i d l. let e = sizes p B us made i d l in omega (arith, e)

    pub emitted : AreEmitted B us
    emitted = gives_emitted p B us passes made

    -- the image of the machine blocks is good
    pub good : IsGoodImage (image_of us F.bytes)
    good = good_image B us F.bytes emitted fits.bytes (data_fits F.bytes frame_limit data_size fits.room)

    -- the image of the machine blocks is the compiled one, and its functions begin where the plan says
    pub is_outlined : KeepsTameRuns F lists → (w : ℕ) (i : Image) → i ≡ image_of us F.bytes
        → IsOutlined F p w i (entries_of (plan_of [] [] groups) F)
    is_outlined keeps w i e = record {
      compiled = record {
        lists = lists;
        groups = groups;
        assigned = a;
        keeps = keeps;
        cuts = [];
        joins = [];
        times = [];
        low = λ k. omega arith;
        left = B;
        narrows = subst (λ (P : List hyper.Block). Narrows P B) (sym (stays_once [] built_blocks (λ k. omega arith)))
            narrows;
        blocks = us;
        made = made;
        is = e;
      };
      begin = refl;
    }

-- WHAT THE PASSES SAY

-- a plan without answers cuts everywhere and joins nothing
pub built_cut : (F : Program) (groups : List (List (List ℕ))) (cuts joins : List Bool) (P : List hyper.Block)
    (Q : List Narrowed) → cuts ≡ [] → joins ≡ [] → P ≡ built_program (plan_of cuts joins groups) F
    → Q ≡ map whole P → Q ≡ map whole (built_program (plan_of [] [] groups) F)
built_cut F groups cuts joins P Q c j e q =
    q ∙ ap (λ (R : List hyper.Block). map whole R)
    (e ∙ ap₂ (λ (cs js : List Bool). built_program (plan_of cs js groups) F) c j)

-- an error for a part that is too big is not want of memory
pub not_too_big : (e : FlowFault) (p : Part) (n : ℕ) → e ≡ TooBig p n → e ≡ Memory → ⊥
not_too_big e p n a b = cc

-- what `assign` gives
pub are_assigned : (flat given : FlatProgram) (lists : List (List ℕ)) (groups : List (List (List ℕ)))
    → given ≡ flat → FitsProgram (program_of flat)
    → (FitsProgram (program_of flat) → FitsKept (program_of flat) lists) → AreCut lists groups → AreFew groups
    → AreAssigned (program_of given) lists groups
are_assigned flat given lists groups e fits kept cut few =
    subst (λ (g : FlatProgram). AreAssigned (program_of g) lists groups) (sym e)
    (record { kept = kept fits; cut = cut; few = few })

-- a flat program that is the same fits too
pub fits_given : (flat given : FlatProgram) → given ≡ flat → FitsProgram (program_of flat)
    → FitsProgram (program_of given)
fits_given flat given e h = subst (λ (g : FlatProgram). FitsProgram (program_of g)) (sym e) h

-- a flat program that is the same has few blocks too
pub few_given : (flat given : FlatProgram) → given ≡ flat
    → 3 + code_blocks_of_all (program_of flat).functions ≤ most_blocks
    → 3 + code_blocks_of_all (program_of given).functions ≤ most_blocks
few_given flat given e h =
    subst (λ (g : FlatProgram). 3 + code_blocks_of_all (program_of g).functions ≤ most_blocks) (sym e) h

-- CHECKED IMAGES

all_at : {A : Type 0} (P : A → Type 0) (xs : List A) (k : ℕ) (x : A) → All P xs → slice_get xs k ≡ Some x → P x
all_at P xs k x h e = subst P (get_or_from_slice_get xs k x x e) (h k x (slice_get_within xs k x e))

-- no block of a good image is bad
pub never_bad : (i : Image) (number : ℕ) (fault : CheckFault) → IsGoodImage i → IsFirstBad i number fault → ⊥
never_bad i number fault g h =
    found_good h.block (all_at FitsBlock i.blocks number h.block (g.fits).each h.is_block)
    (all_at GoodBlock i.blocks number h.block g.good h.is_block) fault (h.has).holds
