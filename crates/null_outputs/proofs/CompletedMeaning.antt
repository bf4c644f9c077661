-- The completed block: each output has one token, and the meaning is kept.
use Rattle.std.proofs.Common.{◌≡◌, ℕ, suc, ◌+◌, ◌-◌, ◌<◌, ◌≤◌, List, [], ◌∷◌, ◌++◌, ◌⊎◌, inl, inr}
use Rattle.std.proofs.Common.{length, refl, sym, ap, subst, ◌∙◌, arith, cond, nat_eq, nat_lt, Bool, true, false}
use Rattle.std.proofs.Common.{not, ◌&&◌, ◌/◌, ◌%◌, ◌^◌}
use Rattle.std.proofs.lemmas.Bool.{cases_lt}
use Rattle.std.proofs.lemmas.Bool.Decides.{nat_tests}
use Rattle.std.specs.Prelude.{Option, Some, None, All}
use Rattle.std.proofs.lemmas.List.Elements.{All-head, All-tail, All-nil, All-cons}
use Rattle.trips_isa.specs.declared.block.Token.TheVariants.{Null, Word}
use Rattle.trips_isa.specs.declared.block.Stored.{Stored}
use Rattle.trips_isa.specs.Rule.{Answer}
use Rattle.trips_isa.specs.Tables.{or_else}
use Rattle.ir_forms.specs.declared.flow.FlowSource.{FlowSource}
use Rattle.ir_forms.specs.declared.flow.FlowNode.{FlowNode}
use Rattle.ir_forms.specs.declared.flow.FlowWrite.{FlowWrite}
use Rattle.ir_forms.specs.declared.flow.FlowBlock.{FlowBlock}
use Rattle.ir_forms.specs.inside.FlowRuns.{got, first, Computes, Obeys, OnPath, count, tokens, exits, fired, stores}
use Rattle.ir_forms.specs.inside.FlowRuns.{stored_all, meant, word_or, written}
use Rattle.ir_forms.specs.inside.FlowFits.{FitsFlow, FitsWrite, IsTidy, TakesAtMostOne, TakesOne, in_mask}
use Rattle.null_outputs.proofs.Oracles.{EachWanted, Closed, Trusty, AllTaken}
use Rattle.null_outputs.specs.inside.Completed.{trues, falses, lefts, rights, writes_at, places, cover}
use Rattle.null_outputs.specs.inside.Completed.{write_part, write_size, filled, filled_all, numbers_at}
use Rattle.null_outputs.specs.inside.Completed.{all_numbers, writes_region, trues_region, falses_region}
use Rattle.null_outputs.specs.inside.Completed.{lefts_region, rights_region, added, completed}
use Rattle.null_outputs.specs.inside.Covers.{Want, Sure, Cover, list_top}
use Rattle.null_outputs.specs.inside.Groups.{guard_part, guard_part_size, left_part, left_size, right_part}
use Rattle.null_outputs.specs.inside.Groups.{right_size, region, stores_of}
use Rattle.null_outputs.specs.inside.Laws.{EachMasked, Keeps}
use Rattle.null_outputs.proofs.NullsOnPaths.{IsNull, here, Covered, count-append, first_null, here_count}
use Rattle.null_outputs.proofs.Spaces.{guard_part_length, left_length, right_length, obeys_front, obeys_back}
use Rattle.null_outputs.proofs.Spaces.{region_obeys, region_rest, region_end}
use Rattle.null_outputs.proofs.Covers.{all_from, Known, output_covered}
use Rattle.null_outputs.proofs.QuietNodes.{guard_quiet, left_quiet, right_quiet, list_quiet, region_quiet}
use Rattle.null_outputs.proofs.QuietNodes.{tokens_append, exits_append, fired_append, stores_append, append_end}
use Rattle.null_outputs.proofs.Hollow.{Hollow, same_meant, same_memory}
use Rattle.null_outputs.proofs.Outputs.{write_length, count_stores, masked_tokens, Ready, lack, Does}
use Rattle.null_outputs.proofs.Outputs.{does_append, does_quiet, lacks_from, lacks_out, lacks_in}
use Rattle.null_outputs.proofs.Outputs.{all_numbers_do}

pub is_below : (i j : ℕ) → nat_lt i j ≡ true → i < j
is_below i j e = grind (arith, nat_tests)

or_again : (a b c : Answer) → or_else (or_else a b) c ≡ or_else a (or_else b c)
or_again None b c = refl
or_again (Some t) b c = refl

null_or : (t u : Answer) (old : ℕ) → IsNull u → word_or (or_else t u) old ≡ word_or t old
null_or None None old i = refl
null_or None (Some Null) old i = refl
null_or None (Some (Word w)) old i = absurd i
null_or (Some t) u old i = refl

module _ (regs : ℕ → ℕ) (h : ℕ → Answer) where
  first_append : (a b : List FlowSource) → first regs h (a ++ b) ≡ or_else (first regs h a) (first regs h b)
  first_append [] b = refl
  first_append (s ∷ a) b = ap (or_else (got regs h s)) (first_append a b)
      ∙ sym (or_again (got regs h s) (first regs h a) (first regs h b))

module _ (sure : Sure) (want : Want) (b : FlowBlock) (regs : ℕ → ℕ) (h : ℕ → Answer) (f : Computes)
    (ready : Ready sure want b regs h f)
    (surely : (ss : List FlowSource) → sure None ss ≡ true → here regs h ss ≡ 1) where
  abbrev WriteWanted : FlowWrite → Type 0
  WriteWanted w = sure None w.sources ≡ false → EachWanted want w.sources

  -- the cover of a write
  write_covered : (p j : ℕ) (w : FlowWrite) → FitsWrite b w → WriteWanted w
      → Obeys regs f h p (write_part sure want b p j w)
      → Covered regs h (1 - here regs h w.sources)
      (cond (sure None w.sources) [] (list_top (cover sure want b) p w.sources))
  write_covered p j w fit v o = ready w.sources fit.sources p (sure None w.sources) v (λ e. surely w.sources e) o

  writes_once : (p j : ℕ) (ws : List FlowWrite) → All (FitsWrite b) ws → All WriteWanted ws
      → All (λ w. count regs h w.sources ≤ 1) ws
      → Obeys regs f h p (region (write_part sure want b) (write_size sure want b) p j ws)
      → All (λ w. count regs h w.sources ≡ 1) (filled_all sure want b p j ws)
  writes_once p j [] fit v one o = All-nil (λ (w : FlowWrite). count regs h w.sources ≡ 1)
  writes_once p j (w ∷ ws) fit v one o =
      let l = write_length sure want b p j w in
      let c = write_covered p j w (All-head (FitsWrite b) w ws fit) (All-head WriteWanted w ws v)
      (obeys_front regs h f p (write_part sure want b p j w) _ o) in
      let m = All-head (λ (w : FlowWrite). count regs h w.sources ≤ 1) w ws one in
      let e = here_count regs h w.sources m in
      let a = count-append regs h w.sources
      (cond (sure None w.sources) [] (list_top (cover sure want b) p w.sources)) in
      let n = c.number in
      All-cons (λ (w : FlowWrite). count regs h w.sources ≡ 1) (filled sure want b p w)
      (filled_all sure want b (p + write_size sure want b j w) (suc j) ws) (omega (arith, m, e, a, n))
      (writes_once (p + write_size sure want b j w) (suc j) ws (All-tail (FitsWrite b) w ws fit)
      (All-tail WriteWanted w ws v) (All-tail (λ (w : FlowWrite). count regs h w.sources ≤ 1) w ws one)
      (obeys_back regs h f p (write_part sure want b p j w) _ o _ (omega (arith, l))))

  writes_same : (p j : ℕ) (ws : List FlowWrite) → All (FitsWrite b) ws → All WriteWanted ws
      → Obeys regs f h p (region (write_part sure want b) (write_size sure want b) p j ws) → (r : ℕ)
      → written regs h (filled_all sure want b p j ws) r ≡ written regs h ws r
  writes_same p j [] fit v o r = refl
  writes_same p j (w ∷ ws) fit v o r =
      let l = write_length sure want b p j w in
      let c = write_covered p j w (All-head (FitsWrite b) w ws fit) (All-head WriteWanted w ws v)
      (obeys_front regs h f p (write_part sure want b p j w) _ o) in
      let tops = cond (sure None w.sources) [] (list_top (cover sure want b) p w.sources) in
      let x : word_or (first regs h (w.sources ++ tops)) (regs r) ≡ word_or (first regs h w.sources) (regs r) =
      ap (λ (t : Answer). word_or t (regs r)) (first_append regs h w.sources tops)
      ∙ null_or (first regs h w.sources) (first regs h tops) (regs r) (first_null regs h tops c.null) in
      let y = writes_same (p + write_size sure want b j w) (suc j) ws (All-tail (FitsWrite b) w ws fit)
      (All-tail WriteWanted w ws v) (obeys_back regs h f p (write_part sure want b p j w) _ o _
      (omega (arith, l))) r in
      ap (λ (i : ℕ). cond (nat_eq r w.register) i
      (written regs h (filled_all sure want b (p + write_size sure want b j w) (suc j) ws) r)) x
      ∙ ap (λ (i : ℕ). cond (nat_eq r w.register) (word_or (first regs h w.sources) (regs r)) i) y

module _ (sure : Sure) (want : Want) (b : FlowBlock) (fits : FitsFlow b) (masked : EachMasked b b.nodes)
    (trusty : Trusty sure b) (closed : Closed sure want b)
    (regs : ℕ → ℕ) (f : Computes) (h : ℕ → Answer) (o : OnPath regs f h (completed sure want b)) where
  abbrev c : Cover
  c = cover sure want b

  pub old_path : OnPath regs f h b
  old_path = obeys_front regs h f 0 b.nodes (added sure want b) o

  -- the table agrees with the nodes that were added, from those for true guards on
  pub at_trues : Obeys regs f h (trues sure want b) (added sure want b)
  at_trues = obeys_back regs h f 0 b.nodes (added sure want b) o (length b.nodes) (omega arith)

  abbrev true_length : (p j : ℕ) (n : FlowNode)
      → length (guard_part want b.nodes c true p j n) ≡ guard_part_size want b.nodes sure true j n
  true_length = guard_part_length want b.nodes sure (places sure want b) true

  abbrev false_length : (p j : ℕ) (n : FlowNode)
      → length (guard_part want b.nodes c false p j n) ≡ guard_part_size want b.nodes sure false j n
  false_length = guard_part_length want b.nodes sure (places sure want b) false

  -- the table agrees with the nodes that were added, from those for false guards on
  pub at_falses : Obeys regs f h (falses sure want b)
      (falses_region sure want b ++ (lefts_region sure want b ++
      (rights_region sure want b ++ (writes_region sure want b ++ all_numbers sure want b))))
  at_falses = region_rest (guard_part want b.nodes c true)
      (guard_part_size want b.nodes sure true) true_length regs h f (trues sure want b) 0 b.nodes _ at_trues

  -- the table agrees with the nodes that were added, from those for left operands on
  pub at_lefts : Obeys regs f h (lefts sure want b)
      (lefts_region sure want b ++ (rights_region sure want b ++
      (writes_region sure want b ++ all_numbers sure want b)))
  at_lefts = region_rest (guard_part want b.nodes c false)
      (guard_part_size want b.nodes sure false) false_length regs h f (falses sure want b) 0 b.nodes _ at_falses

  -- the table agrees with the nodes that were added, from those for right operands on
  pub at_rights : Obeys regs f h (rights sure want b)
      (rights_region sure want b ++ (writes_region sure want b ++ all_numbers sure want b))
  at_rights = region_rest (left_part sure want c) (left_size sure want) (left_length sure want c) regs h f
      (lefts sure want b) 0 b.nodes _ at_lefts

  -- the table agrees with the nodes that were added, from those for writes on
  pub at_writes : Obeys regs f h (writes_at sure want b) (writes_region sure want b ++ all_numbers sure want b)
  at_writes = region_rest (right_part sure want c) (right_size sure want) (right_length sure want c) regs h f
      (rights sure want b) 0 b.nodes _ at_rights

  -- the table agrees with the nodes that were added for the numbers of the mask
  pub at_numbers : Obeys regs f h (numbers_at sure want b) (all_numbers sure want b)
  at_numbers = region_rest (write_part sure want b) (write_size sure want b) (write_length sure want b) regs h f
      (writes_at sure want b) 0 b.writes _ at_writes

  -- the block as it was is tidy on the completed block's path
  pub old_tidy : IsTidy regs h b
  old_tidy = fits.tidy regs f h old_path

  -- each output of the block as it was takes at most one token on the completed block's path
  pub old_one : TakesAtMostOne regs h b
  old_one = fits.one regs f h old_path

  -- what is known of the completed block's path
  pub known : Known regs h f b sure want (places sure want b) (fits.order.0)
  known = record {
    obeys = old_path;
    rises = fits.order.1.sources;
    fits = fits.nodes;
    clear = old_tidy.clear;
    closed = closed;
    surely = λ g ss s m. trusty regs f h old_path g ss s m;
    on_true = λ y n e. region_obeys (guard_part want b.nodes c true)
        (guard_part_size want b.nodes sure true) true_length regs h f (trues sure want b) 0 b.nodes
        (obeys_front regs h f (trues sure want b) (trues_region sure want b) _ at_trues) y n y (omega arith) e;
    on_false = λ y n e. region_obeys (guard_part want b.nodes c false)
        (guard_part_size want b.nodes sure false) false_length regs h f (falses sure want b) 0 b.nodes
        (obeys_front regs h f (falses sure want b) (falses_region sure want b) _ at_falses) y n y (omega arith) e;
    left = λ y n e. region_obeys (left_part sure want c) (left_size sure want)
        (left_length sure want c) regs h f (lefts sure want b) 0 b.nodes
        (obeys_front regs h f (lefts sure want b) (lefts_region sure want b) _ at_lefts) y n y (omega arith) e;
    right = λ y n e. region_obeys (right_part sure want c) (right_size sure want)
        (right_length sure want c) regs h f (rights sure want b) 0 b.nodes
        (obeys_front regs h f (rights sure want b) (rights_region sure want b) _ at_rights) y n y (omega arith) e;
  }

  ready : Ready sure want b regs h f
  ready = output_covered regs h f b sure want (places sure want b) (fits.order.0) known

  all_wanted : All (λ w. sure None w.sources ≡ false → EachWanted want w.sources) b.writes
  all_wanted = all_from (λ (w : FlowWrite). sure None w.sources ≡ false → EachWanted want w.sources) b.writes
      closed.writes

  surely_none : (ss : List FlowSource) → sure None ss ≡ true → here regs h ss ≡ 1
  surely_none ss e = trusty regs f h old_path None ss e refl

  added_does : Does sure want b regs h f (trues sure want b) (added sure want b)
      (λ q. 0 + (0 + (0 + (0 + (0 + lacks_from sure want b regs h f 0 32 q)))))
  added_does =
      does_append sure want b regs h f _ _ (trues_region sure want b) _ _ _
      (region_end (guard_part want b.nodes c true) (guard_part_size want b.nodes sure true) true_length
      (trues sure want b) 0 b.nodes)
      (does_quiet sure want b regs h f _ _
      (region_quiet (guard_part want b.nodes c true) (guard_part_size want b.nodes sure true)
      (guard_quiet want b.nodes c true) _ 0 b.nodes))
      (does_append sure want b regs h f _ _ (falses_region sure want b) _ _ _
      (region_end (guard_part want b.nodes c false) (guard_part_size want b.nodes sure false) false_length
      (falses sure want b) 0 b.nodes)
      (does_quiet sure want b regs h f _ _
      (region_quiet (guard_part want b.nodes c false) (guard_part_size want b.nodes sure false)
      (guard_quiet want b.nodes c false) _ 0 b.nodes))
      (does_append sure want b regs h f _ _ (lefts_region sure want b) _ _ _
      (region_end (left_part sure want c) (left_size sure want) (left_length sure want c)
      (lefts sure want b) 0 b.nodes)
      (does_quiet sure want b regs h f _ _
      (region_quiet (left_part sure want c) (left_size sure want) (left_quiet sure want c) _ 0 b.nodes))
      (does_append sure want b regs h f _ _ (rights_region sure want b) _ _ _
      (region_end (right_part sure want c) (right_size sure want) (right_length sure want c)
      (rights sure want b) 0 b.nodes)
      (does_quiet sure want b regs h f _ _
      (region_quiet (right_part sure want c) (right_size sure want) (right_quiet sure want c) _ 0 b.nodes))
      (does_append sure want b regs h f _ _ (writes_region sure want b) _ _ _
      (region_end (write_part sure want b) (write_size sure want b) (write_length sure want b)
      (writes_at sure want b) 0 b.writes)
      (does_quiet sure want b regs h f _ _
      (region_quiet (write_part sure want b) (write_size sure want b)
      (λ p j (w : FlowWrite). list_quiet c p (sure None w.sources) w.sources) _ 0 b.writes))
      (all_numbers_do sure want b regs h f ready closed.numbers (numbers_at sure want b) refl at_numbers)))))

  -- numbers
  new_tokens : (k : ℕ) → tokens h 0 (completed sure want b).nodes k
      ≡ tokens h 0 b.nodes k + lacks_from sure want b regs h f 0 32 k
  new_tokens k =
      let a = tokens_append regs h 0 (trues sure want b) b.nodes (added sure want b) k (omega arith) in
      let d = added_does.gets k in
      omega (arith, a, d)

  number_at : (k : ℕ) (t s : Bool) → in_mask b.mask k ≡ t → sure None (stores_of 0 b.nodes k) ≡ s
      → tokens h 0 b.nodes k + lacks_from sure want b regs h f 0 32 k ≡ cond t 1 0
  number_at k false s et es =
      let z = masked_tokens sure want b regs h 0 b.nodes k masked et in
      let l : lacks_from sure want b regs h f 0 32 k ≡ 0 = none (cases_lt k 32) in
      omega (arith, z, l)
    where
      none_if : (t s : Bool) (i : ℕ) → t ≡ false → cond (t && not s) i 0 ≡ 0
      none_if true s i e = absurd (cc)
      none_if false true i e = refl
      none_if false false i e = refl

      none : (k < 32) ⊎ (32 ≤ k) → lacks_from sure want b regs h f 0 32 k ≡ 0
      none (inl l) = lacks_in sure want b regs h f 32 0 k (omega arith) l
          ∙ none_if (in_mask b.mask k) (sure None (stores_of 0 b.nodes k)) _ et
      none (inr l) = lacks_out sure want b regs h f 32 0 k (inr l)
  number_at k true s et es =
      let ss = stores_of 0 b.nodes k in
      let l : lacks_from sure want b regs h f 0 32 k ≡ lack sure want b regs h f k =
      lacks_in sure want b regs h f 32 0 k (omega arith) (below_32 k et) in
      let c = count_stores sure want b regs h 0 b.nodes k in
      let one = old_one.numbers k in
      let e = here_count regs h ss (omega (arith, c, one)) in
      let r = rest (in_mask b.mask k) s (here regs h ss) et (omega (arith, c, one, e))
      (λ x. surely_none ss (es ∙ x)) in
      let l2 : lack sure want b regs h f k ≡ cond (in_mask b.mask k && not s) (1 - here regs h ss) 0 =
      ap (λ (x : Bool). cond (in_mask b.mask k && not x) (1 - here regs h ss) 0) es in
      omega (arith, l, l2, c, e, r, one)
    where
      below_32 : (k : ℕ) → in_mask b.mask k ≡ true → k < 32
      below_32 k e = in_first (nat_lt k 32) (nat_eq (b.mask / 2 ^ k % 2) 1) refl e
        where
          in_first : (x y : Bool) → nat_lt k 32 ≡ x → (x && y) ≡ true → k < 32
          in_first true y ex e = is_below k 32 ex
          in_first false true ex e = absurd (cc)
          in_first false false ex e = absurd (cc)

      rest : (t s : Bool) (i : ℕ) → t ≡ true → i ≤ 1 → (s ≡ true → i ≡ 1) → i + cond (t && not s) (1 - i) 0 ≡ 1
      rest true true i e l f = let x = f refl in omega (arith, x)
      rest true false i e l f = omega (arith, l)
      rest false s i e l f = absurd (cc)

  number_once : (k : ℕ) → tokens h 0 (completed sure want b).nodes k ≡ cond (in_mask b.mask k) 1 0
  number_once k = new_tokens k ∙ number_at k (in_mask b.mask k) (sure None (stores_of 0 b.nodes k)) refl refl

  -- each output of the completed block takes exactly one token
  pub takes_one : TakesOne regs h (completed sure want b)
  takes_one = record {
    writes = writes_once sure want b regs h f ready surely_none
        (writes_at sure want b) 0 b.writes fits.writes all_wanted old_one.writes
        (obeys_front regs h f (writes_at sure want b) (writes_region sure want b) _ at_writes);
    numbers = number_once;
  }

  -- the completed block has the exits that the block had
  pub new_exits : exits h 0 (completed sure want b).nodes ≡ exits h 0 b.nodes
  new_exits = exits_append regs h 0 (trues sure want b) b.nodes (added sure want b) (omega arith)
      ∙ append_end regs h (exits h 0 b.nodes) (exits h (trues sure want b) (added sure want b)) added_does.leaves

  pub new_fired : fired regs h (completed sure want b).nodes ≡ fired regs h b.nodes
  new_fired = fired_append regs h b.nodes (added sure want b)
      ∙ append_end regs h (fired regs h b.nodes) (fired regs h (added sure want b)) added_does.acts

  pub new_stores : (n : ℕ) → (x : Option Stored)
      × (stores regs h (completed sure want b).nodes n ≡ or_else (stores regs h b.nodes n) x) × Hollow x
  new_stores n = (
    stores regs h (added sure want b) n,
    stores_append regs h b.nodes (added sure want b) n,
    added_does.hollow n,
  )

  pub new_written : (r : ℕ) → written regs h (completed sure want b).writes r ≡ written regs h b.writes r
  new_written r = writes_same sure want b regs h f ready surely_none
      (writes_at sure want b) 0 b.writes fits.writes all_wanted
      (obeys_front regs h f (writes_at sure want b) (writes_region sure want b) _ at_writes) r

-- EXACTLY ONE

-- on every path each write and each number of the mask of a completed block gets exactly one token
pub completes : (sure : Sure) (want : Want) (b : FlowBlock) → FitsFlow b → EachMasked b b.nodes → Trusty sure b
    → Closed sure want b → AllTaken (completed sure want b)
completes sure want b fits masked trusty closed regs f h o =
    takes_one sure want b fits masked trusty closed regs f h o

-- MEANING

stored_same : (regs : ℕ → ℕ) (h : ℕ → Answer) (ns ms : List FlowNode) (mem : List ℕ)
    → ((n : ℕ) → (x : Option Stored) × (stores regs h ns n ≡ or_else (stores regs h ms n) x) × Hollow x)
    → stored_all regs h ns mem ≡ stored_all regs h ms mem
unfolding stored_all
stored_same regs h ns ms mem s = same_memory (stores regs h ns) (stores regs h ms) s mem 32

-- a completed block does what the block did
pub keeps : (sure : Sure) (want : Want) (b : FlowBlock) → FitsFlow b → EachMasked b b.nodes → Trusty sure b
    → Closed sure want b → Keeps b (completed sure want b)
keeps sure want b fits masked trusty closed regs mem h o =
    let f : Computes = meant (stores regs h (completed sure want b).nodes) mem in
    let st = new_stores sure want b fits masked trusty closed regs f h o in
    record {
      start = subst (λ (g : Computes). Obeys regs g h 0 b.nodes)
          (same_meant (stores regs h (completed sure want b).nodes) (stores regs h b.nodes) st mem)
          (old_path sure want b fits masked trusty closed regs f h o);
      registers = new_written sure want b fits masked trusty closed regs f h o;
      memory = stored_same regs h (completed sure want b).nodes b.nodes mem st;
      exit = new_exits sure want b fits masked trusty closed regs f h o;
      acts = new_fired sure want b fits masked trusty closed regs f h o;
    }
