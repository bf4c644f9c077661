-- A completed block is complete, and means what the block meant.
use Rattle.std.proofs.Common.{◌≡◌, ℕ, zero, suc, ◌+◌, ◌≤◌, List, [], ◌∷◌}
use Rattle.std.proofs.Common.{length, refl, ap, subst, ◌∙◌, arith, cond, Bool, true, false}
use Rattle.std.specs.Prelude.{Some, None, slice_get, All, ◌≢◌}
use Rattle.std.proofs.lemmas.List.Elements.{All-head, All-tail, All-nil, All-cons, All-append}
use Rattle.trips_isa.specs.declared.block.Token.TheVariants.{Null}
use Rattle.trips_isa.specs.declared.block.Inst.{Inst}
use Rattle.trips_isa.specs.declared.block.Token.{Token}
use Rattle.trips_isa.specs.Rule.{Answer}
use Rattle.ir_forms.specs.declared.flow.FlowNode.{FlowNode}
use Rattle.ir_forms.specs.declared.flow.FlowWrite.{FlowWrite}
use Rattle.ir_forms.specs.declared.flow.FlowBlock.{FlowBlock}
use Rattle.ir_forms.specs.inside.HyperRuns.{Layout}
use Rattle.hyper_narrow.specs.inside.NarrowedCode.{Narrowed}
use Rattle.hyper_narrow.specs.inside.NarrowedMeaning.{MeansNarrowed}
use Rattle.hyper_narrow.proofs.ActsAlike.{acts_by}
use Rattle.ir_forms.specs.inside.FlowRuns.{guard_token, Computes, Obeys, OnPath, count}
use Rattle.ir_forms.specs.inside.FlowFits.{FitsFlow, FitsWrite, IsTidy, TakesAtMostOne, IsComplete, AtMostOne}
use Rattle.ir_forms.specs.inside.FlowFits.{in_mask}
use Rattle.null_outputs.proofs.Oracles.{EachWanted, Closed, Trusty}
use Rattle.null_outputs.specs.inside.Completed.{trues, falses, lefts, rights, writes_at, places, cover}
use Rattle.null_outputs.specs.inside.Completed.{write_part, write_size, numbers_at, number_part, number_size}
use Rattle.null_outputs.specs.inside.Completed.{numbers_part, all_numbers, writes_region, trues_region}
use Rattle.null_outputs.specs.inside.Completed.{falses_region, lefts_region, rights_region, added, completed}
use Rattle.null_outputs.specs.inside.Covers.{Want, Sure, Cover, list_top, list_nodes, null_store_of}
use Rattle.null_outputs.specs.inside.Groups.{guard_part, guard_part_size, left_part, left_size, right_part}
use Rattle.null_outputs.specs.inside.Groups.{right_size, stores_of, number_open}
use Rattle.null_outputs.specs.inside.Laws.{EachMasked, Keeps}
use Rattle.null_outputs.specs.inside.Surely.{sure_by}
use Rattle.null_outputs.specs.inside.Wants.{want_by, complete}
use Rattle.null_outputs.proofs.Spaces.{guard_part_length, left_length, right_length, obeys_front, obeys_back}
use Rattle.null_outputs.proofs.Outputs.{write_length, number_length, stores_fit}
use Rattle.null_outputs.proofs.Covers.{all_at, sources_covered}
use Rattle.null_outputs.proofs.Tidy.{AllTidy, tidy_append, list_tidy, list_low, guard_tidy, left_tidy}
use Rattle.null_outputs.proofs.Tidy.{right_tidy, region_tidy, output_tidy, some_differs}
use Rattle.null_outputs.proofs.Firm.{sure_is_trusty}
use Rattle.null_outputs.proofs.Wanted.{want_is_closed}
use Rattle.null_outputs.proofs.Order.{has_order, nodes_fit, writes_fit}
use Rattle.null_outputs.proofs.CompletedMeaning.{completes, keeps, takes_one, new_exits, old_tidy, old_one, known}
use Rattle.null_outputs.proofs.CompletedMeaning.{at_trues, at_falses, at_lefts, at_rights, at_writes, at_numbers}

low_cond : (t : Bool) → cond {A = ℕ} t 1 0 ≤ 1
low_cond true = omega arith
low_cond false = omega arith

module _ (sure : Sure) (want : Want) (b : FlowBlock) (fits : FitsFlow b) (masked : EachMasked b b.nodes)
    (trusty : Trusty sure b) (closed : Closed sure want b)
    (regs : ℕ → ℕ) (f : Computes) (h : ℕ → Answer) (o : OnPath regs f h (completed sure want b)) where
  abbrev c : Cover
  c = cover sure want b

  abbrev rank : ℕ → ℕ
  rank = fits.order.0

  self : {A : Type 0} (xs : List A) (i : ℕ) (x : A) (z : ℕ) → z ≡ 0 + i → slice_get xs i ≡ Some x
      → slice_get xs z ≡ Some x
  self xs i x z e s = let d : i ≡ z = omega (arith, e) in subst (λ (q : ℕ). slice_get xs q ≡ Some x) d s

  number_tidy : (p k : ℕ) → Obeys regs f h p (number_part sure want b p k)
      → AllTidy regs h (number_part sure want b p k)
  number_tidy p k o2 = go (number_open sure b k) (closed.numbers k) o2
    where
      go : (t : Bool) → (t ≡ true → EachWanted want (stores_of 0 b.nodes k))
          → Obeys regs f h p (cond t (null_store_of k
          (list_top c (suc p) (stores_of 0 b.nodes k)) ∷ list_nodes c (suc p) (stores_of 0 b.nodes k)) [])
          → AllTidy regs h (cond t (null_store_of k (list_top c (suc p) (stores_of 0 b.nodes k)) ∷ list_nodes c
          (suc p) (stores_of 0 b.nodes k)) [])
      go false v o3 = tt
      go true v o3 =
          let ss = stores_of 0 b.nodes k in
          let each = sources_covered regs h f b sure want (places sure want b) rank
          (known sure want b fits masked trusty closed regs f h o) ss
          (stores_fit sure want b 0 b.nodes k (omega arith)) (v refl) in
          let low = list_low regs h c f (suc p) ss each o3.1 in
          (record { clear = some_differs Null; left = low; right = low }, list_tidy regs h c f (suc p) ss each o3.1)

  numbers_tidy : (m p k : ℕ) → Obeys regs f h p (numbers_part sure want b p k m)
      → AllTidy regs h (numbers_part sure want b p k m)
  numbers_tidy zero p k o2 = tt
  numbers_tidy (suc m) p k o2 =
      let l = number_length sure want b p k in
      tidy_append regs h (number_part sure want b p k) _
      (number_tidy p k (obeys_front regs h f p (number_part sure want b p k) _ o2))
      (numbers_tidy m (p + number_size sure want b k) (suc k)
      (obeys_back regs h f p (number_part sure want b p k) _ o2 _ (omega (arith, l))))

  all_numbers_tidy : Obeys regs f h (numbers_at sure want b) (all_numbers sure want b)
      → AllTidy regs h (all_numbers sure want b)
  unfolding all_numbers
  all_numbers_tidy o2 = numbers_tidy 32 (numbers_at sure want b) 0 o2

  added_tidy : AllTidy regs h (added sure want b)
  added_tidy =
      let k = known sure want b fits masked trusty closed regs f h o in
      let t = old_tidy sure want b fits masked trusty closed regs f h o in
      tidy_append regs h (trues_region sure want b) _
      (region_tidy regs h f b sure want (places sure want b) rank k t (guard_part want b.nodes c true)
      (guard_part_size want b.nodes sure true)
      (guard_part_length want b.nodes sure (places sure want b) true) b.nodes
      (λ p j n e x. guard_tidy regs h f b sure want (places sure want b) rank k t true p j n e x)
      (trues sure want b) 0 b.nodes (self b.nodes)
      (obeys_front regs h f (trues sure want b) (trues_region sure want b) _
      (at_trues sure want b fits masked trusty closed regs f h o)))
      (tidy_append regs h (falses_region sure want b) _
      (region_tidy regs h f b sure want (places sure want b) rank k t (guard_part want b.nodes c false)
      (guard_part_size want b.nodes sure false)
      (guard_part_length want b.nodes sure (places sure want b) false) b.nodes
      (λ p j n e x. guard_tidy regs h f b sure want (places sure want b) rank k t false p j n e x)
      (falses sure want b) 0 b.nodes (self b.nodes)
      (obeys_front regs h f (falses sure want b) (falses_region sure want b) _
      (at_falses sure want b fits masked trusty closed regs f h o)))
      (tidy_append regs h (lefts_region sure want b) _
      (region_tidy regs h f b sure want (places sure want b) rank k t (left_part sure want c)
      (left_size sure want) (left_length sure want c) b.nodes
      (λ p j n e x. left_tidy regs h f b sure want (places sure want b) rank k t p j n e x)
      (lefts sure want b) 0 b.nodes (self b.nodes)
      (obeys_front regs h f (lefts sure want b) (lefts_region sure want b) _
      (at_lefts sure want b fits masked trusty closed regs f h o)))
      (tidy_append regs h (rights_region sure want b) _
      (region_tidy regs h f b sure want (places sure want b) rank k t (right_part sure want c)
      (right_size sure want) (right_length sure want c) b.nodes
      (λ p j n e x. right_tidy regs h f b sure want (places sure want b) rank k t p j n e x)
      (rights sure want b) 0 b.nodes (self b.nodes)
      (obeys_front regs h f (rights sure want b) (rights_region sure want b) _
      (at_rights sure want b fits masked trusty closed regs f h o)))
      (tidy_append regs h (writes_region sure want b) _
      (region_tidy regs h f b sure want (places sure want b) rank k t (write_part sure want b)
      (write_size sure want b) (write_length sure want b) b.writes
      (λ p j x e y. output_tidy regs h f b sure want (places sure want b) rank k t p
      (sure None x.sources) x.sources (all_at (FitsWrite b) b.writes fits.writes j x e).sources
      (closed.writes j x e) y)
      (writes_at sure want b) 0 b.writes (self b.writes)
      (obeys_front regs h f (writes_at sure want b) (writes_region sure want b) _
      (at_writes sure want b fits masked trusty closed regs f h o)))
      (all_numbers_tidy (at_numbers sure want b fits masked trusty closed regs f h o))))))

  all_clear : (ns : List FlowNode) → AllTidy regs h ns → All (λ n. guard_token h n.guard ≢ Some Null) ns
  all_clear [] t = All-nil (λ (n : FlowNode). guard_token h n.guard ≢ Some Null)
  all_clear (n ∷ ns) t = All-cons (λ (n : FlowNode). guard_token h n.guard ≢ Some Null) n ns (t.0).clear
      (all_clear ns t.1)

  all_operands : (ns : List FlowNode) → AllTidy regs h ns → All (AtMostOne regs h) ns
  all_operands [] t = All-nil (AtMostOne regs h)
  all_operands (n ∷ ns) t = All-cons (AtMostOne regs h) n ns ((t.0).left, (t.0).right) (all_operands ns t.1)

  pub is_tidy : IsTidy regs h (completed sure want b)
  is_tidy =
      let t = old_tidy sure want b fits masked trusty closed regs f h o in
      record {
        clear = All-append (λ (n : FlowNode). guard_token h n.guard ≢ Some Null) b.nodes
            (added sure want b) t.clear (all_clear (added sure want b) added_tidy);
        operands = All-append (AtMostOne regs h) b.nodes (added sure want b) t.operands
            (all_operands (added sure want b) added_tidy);
      }

  low_writes : (ws : List FlowWrite) → All (λ w. count regs h w.sources ≡ 1) ws
      → All (λ w. count regs h w.sources ≤ 1) ws
  low_writes [] a = All-nil (λ (w : FlowWrite). count regs h w.sources ≤ 1)
  low_writes (w ∷ ws) a =
      let e = All-head (λ (w : FlowWrite). count regs h w.sources ≡ 1) w ws a in
      All-cons (λ (w : FlowWrite). count regs h w.sources ≤ 1) w ws (omega (arith, e))
      (low_writes ws (All-tail (λ (w : FlowWrite). count regs h w.sources ≡ 1) w ws a))

  pub at_most_one : TakesAtMostOne regs h (completed sure want b)
  at_most_one =
      let t = takes_one sure want b fits masked trusty closed regs f h o in
      record {
        writes = low_writes (completed sure want b).writes t.writes;
        numbers = λ k. let e = t.numbers k in let l = low_cond (in_mask b.mask k) in omega (arith, e, l);
        exits = ap (λ (l : List (Inst × Token)). length l)
            (new_exits sure want b fits masked trusty closed regs f h o)
            ∙ (old_one sure want b fits masked trusty closed regs f h o).exits;
      }

pub completed_fits : (sure : Sure) (want : Want) (b : FlowBlock) → FitsFlow b → EachMasked b b.nodes
    → Trusty sure b → Closed sure want b → FitsFlow (completed sure want b)
completed_fits sure want b fits masked trusty closed = record {
  nodes = nodes_fit sure want b fits.order.0 fits.order.1 fits.nodes closed fits.writes;
  writes = writes_fit sure want b fits.order.0 fits.order.1 fits.nodes closed fits.writes;
  mask = fits.mask;
  order = (_, has_order sure want b fits.order.0 fits.order.1 fits.nodes closed fits.writes);
  tidy = λ regs f h o. is_tidy sure want b fits masked trusty closed regs f h o;
  one = λ regs f h o. at_most_one sure want b fits masked trusty closed regs f h o;
}

-- each output has exactly one token on every path, and all that a flow block must meet is kept
pub is_complete : (b : FlowBlock) → FitsFlow b → EachMasked b b.nodes → IsComplete (complete b)
is_complete b fits masked = record {
  fits = completed_fits (sure_by b) (want_by b) b fits masked (sure_is_trusty b fits) (want_is_closed b);
  all = completes (sure_by b) (want_by b) b fits masked (sure_is_trusty b fits) (want_is_closed b);
}

-- a block completed by the covers that are made does what it did
pub keeps_meaning : (b : FlowBlock) → FitsFlow b → EachMasked b b.nodes → Keeps b (complete b)
keeps_meaning b fits masked = keeps (sure_by b) (want_by b) b fits masked (sure_is_trusty b fits) (want_is_closed b)

module _ (at : Layout) (x : Narrowed) (b d : FlowBlock) (keep : Keeps b d)
    (means : MeansNarrowed at x b) where
  moved : MeansNarrowed at x d
  moved m h size o =
      let k = keep m.registers m.memory h o in
      let v = means m h size k.start in
      record {
        registers = λ r. k.registers r ∙ v.registers r;
        memory = k.memory ∙ v.memory;
        exit = record { branch = v.exit.branch; only = k.exit ∙ v.exit.only; is = v.exit.is };
        acts = acts_by _ _ _ k.acts v.acts;
      }

-- a completed block means the narrowed block that the block meant
pub means_block : (at : Layout) (x : Narrowed) (b : FlowBlock) → FitsFlow b → EachMasked b b.nodes
    → MeansNarrowed at x b → MeansNarrowed at x (complete b)
means_block at x b fits masked means = moved at x b (complete b) (keeps_meaning b fits masked) means
