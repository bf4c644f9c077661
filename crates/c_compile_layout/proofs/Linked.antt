-- Blocks whose labels are resolved are the blocks of an image.
use Rattle.std.proofs.Common.{◌≡◌, ℕ, zero, suc, ◌+◌, ◌*◌, ◌<◌, ◌≤◌, ◌==◌, true, false, cond}
use Rattle.std.proofs.Common.{List, [], ◌∷◌, map, length, take}
use Rattle.std.proofs.Common.{Option, Some, None, slice_get, refl, sym, ap, ap₂, ◌∙◌, subst, arith, max}
use Rattle.std.specs.Prelude.{unwrap_or, option_map, slice_index_or, get_or, ◌++◌, ◌%◌, ◌/◌}
use Rattle.std.specs.List.{sum_by}
use Rattle.std.proofs.Math.Path.{fun_ext}
use Rattle.std.proofs.lemmas.List.Sums.{sum_by-cons}
use Rattle.std.proofs.lemmas.Option.{slice_get_within, slice_get-get_or}
use Rattle.trips_isa.specs.declared.block.Inst.{Inst}
use Rattle.trips_isa.specs.declared.block.Block.{Block}
use Rattle.trips_isa.specs.declared.block.Token.TheVariants.{Word}
use Rattle.trips_isa.specs.Images.{chunks, chunk_of, chunks_to, body_chunks, starting_from, block_at}
use Rattle.trips_isa.specs.Outcomes.{to_address}
use Rattle.ir_forms.specs.declared.flow.FlowNode.{FlowNode}
use Rattle.ir_forms.specs.declared.flow.FlowBlock.{FlowBlock}
use Rattle.ir_forms.specs.inside.FlowFits.{IsComplete, HasOrder}
use Rattle.ir_forms.specs.inside.HyperFits.{AllLeadOn, FitsHyper}
use Rattle.ir_forms.specs.inside.HyperRuns.{Standing, Running, Ended, Full, Unclean, IsUnclean}
use Rattle.trips_isa.specs.declared.causes.TrapCause.{TrapCause}
use Rattle.trips_isa.specs.declared.run.Stepped.TheVariants.{Trap}
use Rattle.ir_forms.specs.inside.HyperWords.{AreBytes}
use Rattle.ir_forms.specs.inside.Laws.{StandsAs}
use Rattle.hyper_narrow.specs.inside.NarrowedCode.{Narrowed}
use Rattle.hyper_narrow.specs.inside.NarrowedRuns.{narrowed_run}
use Rattle.hyper_narrow.proofs.WordsKept.{keeps_narrowed_words}
use Rattle.hyper_narrow.proofs.BareBlocks.{leads_there}
use Rattle.fan_out.specs.inside.Means.{MeansFlow}
use Rattle.fan_out.specs.inside.Targeted.{IsTargeted}
use Rattle.fan_out.proofs.Acting.{faults_same}
use Rattle.fan_out.proofs.Given.{given}
use Rattle.fan_out.proofs.Totals.{Given}
use Rattle.fan_out.proofs.Edges.{is_ranked}
use Rattle.fan_out.proofs.Meaning.{means}
use Rattle.fan_out.proofs.Ordering.{fits_block, good_block}
use Rattle.trips_isa.specs.Fits.{FitsBlock}
use Rattle.trips_isa.specs.inside.Acts.{is_clean}
use Rattle.trips_isa.specs.Tables.{IsRanked}
use Rattle.trips_isa.specs.Places.{nodes_of, inst_nodes, inst_node, read_node}
use Rattle.trips_isa.specs.Stores.{data_size}
use Rattle.block_cases.specs.Cases.{cases}
use Rattle.block_cases.specs.Good.{GoodBlock}
use Rattle.grid_place.specs.inside.Moves.{IsMoved, renamed_inst}
use Rattle.grid_place.proofs.Alike.{same_plain}
use Rattle.grid_place.proofs.StillClean.{still_clean}
use Rattle.grid_place.proofs.StillFits.{still_fits}
use Rattle.grid_place.proofs.StillInOrder.{still_good}
use Rattle.std.proofs.lemmas.List.{length-map}
use Rattle.std.specs.List.{All}
use Rattle.fan_out.proofs.Writing.{writes_same}
use Rattle.c_compile_layout.specs.inside.Linking.{Resolves, resolved_node, resolved, resolved_slot, resolved_block}
use Rattle.c_compile_layout.specs.inside.Linking.{by_offset, by_address, by_both, linked_from}
use Rattle.c_compile_layout.specs.inside.Layouts.{laid_out, linked, AreFew}
use Rattle.c_compile_layout.specs.inside.Joint.{CleanAsFlow, IsMade, AreMade}
use Rattle.c_compile_layout.specs.Emitted.{IsGoodImage}
use Rattle.c_compile_layout.specs.inside.Emitted.{IsEmitted, AreEmitted, image_of}
use Rattle.c_compile_layout.specs.inside.Emitted.{ImageMeans, ImageMeansPlainly, NeverTraps}
use Rattle.c_compile_layout.specs.inside.Standings.{standing_by, standing_of, trimmed}
use Rattle.trips_isa.specs.Machine.{State, runs, start}
use Rattle.c_compile_layout.proofs.Regularity.{regular_resolved}
use Rattle.c_compile_layout.proofs.Fields.{forms_fit, labels_named}
use Rattle.c_compile_layout.proofs.Fitting.{complete_resolved}
use Rattle.c_compile_layout.proofs.ImageRuns.{there}
use Rattle.c_compile_layout.proofs.Cleanness.{slots_clean}
use Rattle.c_compile_layout.proofs.Faithful.{has_addresses}
use Rattle.c_compile_layout.proofs.UncheckedRuns.{trimmed_bytes, trimmed_length, trimmed_last}
use Rattle.c_compile_layout.proofs.UncheckedRuns.{means_plainly, means_the_same}
use Rattle.c_compile_layout.proofs.Sums.{sum_low}
use Rattle.c_compile_layout.proofs.Starts.{starts_in_order}
use Rattle.c_compile_layout.proofs.Targets.{targeted_resolved, room_resolved}

-- WHERE RESOLVED BLOCKS STAND

body_same : (r : Resolves) (j : ℕ) (is : List (Option Inst))
    → body_chunks j (map (resolved_slot r) is) ≡ body_chunks j is
body_same r j [] = refl
body_same r j (None ∷ is) = ap (max 1) (body_same r (suc j) is)
body_same r j (Some i ∷ is) = ap (max (chunks_to (Some i) j)) (body_same r (suc j) is)

-- a block has as many chunks once its labels are resolved
pub chunks_same : (r : Resolves) (t : Block) → chunks (resolved_block r t) ≡ chunks t
chunks_same r t = ap (λ n. 1 + n) (body_same r 0 t.insts.items)

module _ (chunk : ℕ → ℕ) where
  length_same : (k : ℕ) (ts : List Block) → length (linked_from chunk k ts) ≡ length ts
  length_same k [] = refl
  length_same k (t ∷ ts) = ap suc (length_same (suc k) ts)

  sum_same : (k : ℕ) (ts : List Block) → sum_by chunks (linked_from chunk k ts) ≡ sum_by chunks ts
  sum_same k [] = refl
  sum_same k (t ∷ ts) =
      sum_by-cons chunks (resolved_block (by_both chunk k) t) (linked_from chunk (suc k) ts)
      ∙ ap₂ (λ a b. a + b) (chunks_same (by_both chunk k) t) (sum_same (suc k) ts)
      ∙ sym (sum_by-cons chunks t ts)

  sum_to_same : (k l : ℕ) (ts : List Block)
      → sum_by chunks (take l (linked_from chunk k ts)) ≡ sum_by chunks (take l ts)
  sum_to_same k zero ts = refl
  sum_to_same k (suc l) [] = refl
  sum_to_same k (suc l) (t ∷ ts) =
      sum_by-cons chunks (resolved_block (by_both chunk k) t) (take l (linked_from chunk (suc k) ts))
      ∙ ap₂ (λ a b. a + b) (chunks_same (by_both chunk k) t) (sum_to_same (suc k) l ts)
      ∙ sym (sum_by-cons chunks t (take l ts))

  starting_same : (j : ℕ) (ts : List Block) (k here c : ℕ)
      → starting_from (linked_from chunk j ts) k here c ≡ starting_from ts k here c
  starting_same j [] k here c = refl
  starting_same j (t ∷ ts) k here c =
      ap (cond (here == c) (Some k))
      (ap (λ n. starting_from (linked_from chunk (suc j) ts) (suc k) (here + n) c) (chunks_same (by_both chunk j) t)
      ∙ starting_same (suc j) ts (suc k) (here + chunks t) c)

  pub record Came (k : ℕ) (us : List Block) (i : ℕ) (t : Block) : Type 0 where
    pub block : Block
    pub there : slice_get us i ≡ Some block
    pub is : resolved_block (by_both chunk (k + i)) block ≡ t

  -- each linked block came from one by resolving its labels
  pub came : (k : ℕ) (us : List Block) (i : ℕ) (t : Block)
      → slice_get (linked_from chunk k us) i ≡ Some t → Came k us i t
  came k [] i t e = absurd (cc)
  came k (u ∷ us) zero t e =
      let z : k + 0 ≡ k = omega arith in
      record { block = u; there = refl; is = ap (λ n. resolved_block (by_both chunk n) u) z ∙ (cc) }
  came k (u ∷ us) (suc i) t e =
      let c = came (suc k) us i t e in
      let z : k + suc i ≡ suc k + i = omega arith in
      record { block = c.block; there = c.there; is = ap (λ n. resolved_block (by_both chunk n) c.block) z ∙ c.is }

chunk_same : (us : List Block) → chunk_of (linked us) ≡ chunk_of us
chunk_same us = fun_ext (λ l. sum_to_same (chunk_of us) 0 l us)

block_same : (us : List Block) (c : ℕ) → block_at (linked us) c ≡ block_at us c
block_same us c = ap (λ o. unwrap_or o 0) (starting_same (chunk_of us) 0 us 0 0 c)

label_same : (us : List Block) (a : ℕ) → to_address (linked us) (Word a) ≡ to_address us (Word a)
label_same us a = ap (λ n. cond (a % 128 == 0) n 0) (block_same us (a / 128))

-- resolving leaves every block where it is
pub layout_same : (us : List Block) → laid_out (linked us) ≡ laid_out us
layout_same us = ap₂ (λ (c : ℕ → ℕ) (l : ℕ → ℕ). record { address = λ n. 128 * c n; label = l })
    (chunk_same us) (fun_ext (label_same us))

-- FLOW BLOCKS

twice : (chunk : ℕ → ℕ) (k : ℕ) (ns : List FlowNode)
    → map (resolved_node (by_offset chunk k)) (map (resolved_node (by_address (λ l. 128 * chunk l))) ns)
    ≡ map (resolved_node (by_both chunk k)) ns
twice chunk k [] = refl
twice chunk k (n ∷ ns) = ap (λ x. resolved_node (by_both chunk k) n ∷ x) (twice chunk k ns)

-- addresses and then offsets are both
both_are : (chunk : ℕ → ℕ) (k : ℕ) (f : FlowBlock)
    → resolved (by_offset chunk k) (resolved (by_address (λ l. 128 * chunk l)) f)
    ≡ resolved (by_both chunk k) f
both_are chunk k f = ap (λ ns. record f { nodes = ns }) (twice chunk k f.nodes)

-- NODES AND SLOTS

inst_nodes_same : (r : Resolves) (j : ℕ) (is : List (Option Inst))
    → inst_nodes j (map (resolved_slot r) is) ≡ inst_nodes j is
inst_nodes_same r j [] = refl
inst_nodes_same r j (None ∷ is) = ap (λ x. inst_node j None ∷ x) (inst_nodes_same r (suc j) is)
inst_nodes_same r j (Some i ∷ is) = ap (λ x. inst_node j (Some i) ∷ x) (inst_nodes_same r (suc j) is)

-- a block has the same nodes once its labels are resolved
pub nodes_same : (r : Resolves) (t : Block) → nodes_of (resolved_block r t) ≡ nodes_of t
nodes_same r t = ap (λ x. map read_node t.reads.items ++ x) (inst_nodes_same r 0 t.insts.items)

-- what stands in a slot once labels are resolved is the slot's instruction, resolved
pub index_map : (r : Resolves) (is : List (Option Inst)) (s : ℕ)
    → slice_index_or (map (resolved_slot r) is) s None ≡ resolved_slot r (slice_index_or is s None)
index_map r [] s = refl
index_map r (i ∷ is) zero = refl
index_map r (i ∷ is) (suc s) = index_map r is s

renamed_resolved : (r : Resolves) (p : ℕ → ℕ) (i : Option Inst)
    → resolved_slot r (option_map (renamed_inst p) i) ≡ option_map (renamed_inst p) (resolved_slot r i)
renamed_resolved r p None = refl
renamed_resolved r p (Some i) = refl

-- resolving before or after instructions are placed is one
pub moved_resolved : (r : Resolves) (p : ℕ → ℕ) (t u : Block) → IsMoved p t u
    → IsMoved p (resolved_block r t) (resolved_block r u)
moved_resolved r p t u m = record {
  reads = m.reads;
  writes = m.writes;
  mask = m.mask;
  size = length-map u.insts.items (resolved_slot r) ∙ m.size;
  insts = λ s. index_map r u.insts.items (p s) ∙ ap (resolved_slot r) (m.insts s)
      ∙ renamed_resolved r p (slice_index_or t.insts.items s None)
      ∙ ap (option_map (renamed_inst p)) (sym (index_map r t.insts.items s));
}

-- EACH BLOCK

module _ (us : List Block) (k : ℕ) (b : Narrowed) (u : Block)
    (few : AreFew us) (low : k < length us) (it : IsEmitted (laid_out us) (length us) b u) where
  abbrev both : Resolves
  both = by_both (chunk_of us) k

  abbrev named : Resolves
  named = by_address (laid_out us).address

  abbrev linked_flow : FlowBlock
  linked_flow = resolved both it.flow

  abbrev order : (rank : ℕ → ℕ) × HasOrder (resolved named it.flow) rank
  order = ((it.complete).fits).order

  -- the flow block is complete once all is resolved
  whole : IsComplete linked_flow
  whole = subst IsComplete (both_are (chunk_of us) k it.flow)
      (complete_resolved (by_offset (chunk_of us) k) (resolved named it.flow) it.complete
      (forms_fit us k few low (resolved named it.flow) (it.complete).fits
      (labels_named (laid_out us).address (length us) it.flow.nodes it.labels)))

  is : IsTargeted linked_flow (resolved_block both it.target)
  is = targeted_resolved both refl it.flow it.target it.targeted

  all : Given linked_flow
  all = given linked_flow whole.fits (regular_resolved both it.flow it.regular)
      (room_resolved both refl it.flow it.room)

  fits : FitsBlock (resolved_block both it.target)
  fits = fits_block linked_flow all (resolved_block both it.target) is

  good : GoodBlock (resolved_block both it.target)
  good = good_block linked_flow whole all (resolved_block both it.target) is
      (subst (λ ns. cases ns ≤ 256) (sym (nodes_same both it.target)) it.cases)

  moved : IsMoved it.there (resolved_block both it.target) (resolved_block both u)
  moved = moved_resolved both it.there it.target u it.placed

  pub fits_there : FitsBlock (resolved_block both u)
  fits_there = still_fits it.there it.back (resolved_block both it.target) (resolved_block both u)
      fits it.permutes moved

  pub good_there : GoodBlock (resolved_block both u)
  good_there = still_good it.there it.back (resolved_block both it.target) (resolved_block both u)
      fits good it.permutes moved

  ranked : IsRanked (nodes_of (resolved_block both it.target))
  ranked = is_ranked linked_flow (resolved_block both it.target) all is

  means_there : MeansFlow linked_flow (resolved_block both u)
  means_there regs mem h start blocks j =
      same_plain it.there it.back (resolved_block both it.target) (resolved_block both u) fits good
      it.permutes moved regs mem blocks j
      ∙ means linked_flow (resolved_block both it.target) all is ranked regs mem h start blocks j

  clean_there : CleanAsFlow linked_flow (resolved_block both u)
  clean_there regs mem h start c =
      still_clean it.there it.back (resolved_block both it.target) (resolved_block both u) fits good
      it.permutes moved regs mem
      (slots_clean (resolved_block both it.target) ranked regs mem
      (ap is_clean (faults_same linked_flow (resolved_block both it.target) all is ranked regs mem h start) ∙ c))

  made_of : AllLeadOn k (length us) b.block.tail → FitsHyper b.block
      → IsMade (laid_out us) (chunk_of us) k (length us) b (resolved_block both u)
  made_of exits fit = record {
    flow = resolved named it.flow;
    starts = starts_in_order (resolved named it.flow) order.0 order.1;
    means = it.means;
    keeps = keeps_narrowed_words (laid_out us) b (has_addresses us few) fit;
    exits = exits;
    outcome = subst (λ f. MeansFlow f (resolved_block both u)) (sym (both_are (chunk_of us) k it.flow)) means_there;
    clean = subst (λ f. CleanAsFlow f (resolved_block both u)) (sym (both_are (chunk_of us) k it.flow)) clean_there;
    writes = writes_same linked_flow whole.fits (regular_resolved both it.flow it.regular);
    registers = (it.placed).writes ∙ (it.targeted).writes;
  }

-- the chunks are few
pub are_few : (B : List Narrowed) (us : List Block) → AreEmitted B us → AreFew us
are_few B us all =
    let n = all.few in
    let s = sum_low us (λ i u e. go i u e (slice_get B i) refl) in
    omega (arith, n, s)
  where
    go : (i : ℕ) (u : Block) → slice_get us i ≡ Some u → (o : Option Narrowed) → slice_get B i ≡ o
        → length u.insts.items ≡ 128
    go i u e None q =
        let s = all.size in
        let l = slice_get_within us i u e in
        absurd (there B i (omega (arith, s, l)) q)
    go i u e (Some b) q = let it = all.each i b u q e in (it.placed).size

-- the image's blocks are what the passes gave, resolved
pub made : (B : List Narrowed) (us : List Block) → AreEmitted B us → AreMade B (linked us)
made B us all = record {
  size = size ∙ all.size;
  some = let s = all.some in omega (arith, size, s);
  few = let f = are_few B us all in let s = sum_same (chunk_of us) 0 us in omega (arith, f, s);
  each = λ k b t is_b is_t.
      let c = came (chunk_of us) 0 us k t is_t in
      let z : 0 + k ≡ k = omega arith in
      let is : resolved_block (by_both (chunk_of us) k) c.block ≡ t =
      ap (λ n. resolved_block (by_both (chunk_of us) n) c.block) (sym z) ∙ c.is in
      subst (λ at. IsMade at (chunk_of (linked us)) k (length (linked us)) b t) (sym (layout_same us))
      (subst (λ ch. IsMade (laid_out us) ch k (length (linked us)) b t) (sym (chunk_same us))
      (subst (λ n. IsMade (laid_out us) (chunk_of us) k n b t) (sym size)
      (subst (IsMade (laid_out us) (chunk_of us) k (length us) b) is
      (made_of us k b c.block (are_few B us all) (slice_get_within us k c.block c.there)
      (all.each k b c.block is_b c.there)
      (subst (λ n. AllLeadOn k n b.block.tail) (sym all.size) (leads_there B all.followed k b is_b))
      (all.fit k b is_b)))));
}
  where
    size : length (linked us) ≡ length us
    size = length_same (chunk_of us) 0 us

-- each block of the image fits and is good
each_good : (B : List Narrowed) (us : List Block) → AreEmitted B us → (k : ℕ) (t : Block)
    → slice_get (linked us) k ≡ Some t → FitsBlock t × GoodBlock t
each_good B us all k t is_t =
    let c = came (chunk_of us) 0 us k t is_t in
    let z : 0 + k ≡ k = omega arith in
    let is : resolved_block (by_both (chunk_of us) k) c.block ≡ t =
    ap (λ n. resolved_block (by_both (chunk_of us) n) c.block) (sym z) ∙ c.is in
    go (slice_get B k) refl c is
  where
    go : (o : Option Narrowed) → slice_get B k ≡ o → (c : Came (chunk_of us) 0 us k t)
        → resolved_block (by_both (chunk_of us) k) c.block ≡ t → FitsBlock t × GoodBlock t
    go None e c is =
        let s = all.size in
        let l = slice_get_within us k c.block c.there in
        absurd (there B k (omega (arith, s, l)) e)
    go (Some b) e c is =
        let low = slice_get_within us k c.block c.there in
        let it = all.each k b c.block e c.there in
        subst (λ t. FitsBlock t × GoodBlock t) is
        (fits_there us k b c.block (are_few B us all) low it, good_there us k b c.block (are_few B us all) low it)

all_by_index : {A : Type 0} (P : A → Type 0) (xs : List A)
    → ((i : ℕ) (x : A) → slice_get xs i ≡ Some x → P x) → All P xs
all_by_index P xs f i d l = f i (get_or xs i d) (slice_get-get_or xs i d l)

-- the image of blocks that the passes made is good
pub good_image : (B : List Narrowed) (us : List Block) (bytes : List ℕ) → AreEmitted B us
    → AreBytes bytes → length bytes ≤ data_size → IsGoodImage (image_of us bytes)
good_image B us bytes all a l = record {
  fits = record {
    some = let s = all.some in let n = length_same (chunk_of us) 0 us in omega (arith, s, n);
    each = all_by_index FitsBlock (linked us) (λ i x e. (each_good B us all i x e).0);
    total = let f = are_few B us all in let s = sum_same (chunk_of us) 0 us in omega (arith, f, s);
    few = let t = trimmed_length bytes in omega (arith, t, l);
    bytes = trimmed_bytes bytes a;
    last = trimmed_last bytes;
  };
  good = all_by_index GoodBlock (linked us) (λ i x e. (each_good B us all i x e).1);
}

-- blocks of the image come to what as many blocks of the narrowed program do, where none of these faults
pub image_means : (B : List Narrowed) (us : List Block) → AreEmitted B us → ImageMeans B us
image_means B us all bytes input n a b l =
    subst (λ at. StandsAs (narrowed_run true at B bytes input n)
    (standing_of (runs (linked us) (start (trimmed bytes) input) n))) (layout_same us)
    (means_the_same B (linked us) (made B us all) bytes input n a b l)

-- what is clean and stands so does not stand where a trap is
no_trap : (p : Standing) (s : State) (c : TrapCause) → (IsUnclean p → ⊥)
    → StandsAs p (standing_by s (Trap c)) → ⊥
no_trap (Running out) s c clean h = absurd (cc)
no_trap (Ended out w) s c clean h = absurd (cc)
no_trap (Full out) s c clean h = absurd (cc)
no_trap Unclean s c clean h = clean tt

-- where no block of the narrowed program faults, none of its image traps
pub never_traps : (B : List Narrowed) (us : List Block) → AreEmitted B us → NeverTraps B us
never_traps B us all bytes input n c a b l clean trap =
    no_trap (narrowed_run true (laid_out us) B bytes input n)
    (runs (linked us) (start (trimmed bytes) input) n).0 c clean
    (subst (λ r. StandsAs (narrowed_run true (laid_out us) B bytes input n)
    (standing_by (runs (linked us) (start (trimmed bytes) input) n).0 r)) trap
    (image_means B us all bytes input n a b l))

-- whatever faults, blocks of the narrowed program come to what as many blocks of its image do, whose marks nothing
-- looks at
pub image_means_plainly : (B : List Narrowed) (us : List Block) → AreEmitted B us
    → ImageMeansPlainly B us
image_means_plainly B us all bytes input n a b l =
    ap (λ at. narrowed_run false at B bytes input n) (sym (layout_same us))
    ∙ means_plainly B (linked us) (made B us all) bytes input n a b l
