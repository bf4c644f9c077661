-- The covers that are made are closed under what they need.
use Rattle.std.proofs.Common.{◌≡◌, ℕ, zero, suc, ◌+◌, List, [], ◌∷◌, ◌++◌}
use Rattle.std.proofs.Common.{refl, sym, ap, subst, ◌∙◌, arith, cond, nat_eq, Bool, true, false, not, ◌&&◌, ◌||◌}
use Rattle.std.proofs.lemmas.Bool.Decides.{nat_tests}
use Rattle.std.specs.Prelude.{Some, None, slice_get}
use Rattle.trips_isa.specs.declared.form.Form.{Form}
use Rattle.trips_isa.specs.declared.form.Form.TheVariants as form
use Rattle.trips_isa.specs.Forms.{form_of}
use Rattle.ir_forms.specs.declared.flow.FlowSource.{FlowSource}
use Rattle.ir_forms.specs.declared.flow.FlowSource.TheVariants.{Read, Node}
use Rattle.ir_forms.specs.declared.flow.FlowNode.{FlowNode}
use Rattle.ir_forms.specs.declared.flow.FlowWrite.{FlowWrite}
use Rattle.ir_forms.specs.declared.flow.FlowBlock.{FlowBlock}
use Rattle.null_outputs.proofs.Oracles.{EachWanted, Closed}
use Rattle.null_outputs.specs.inside.Covers.{Want, Sure, left_open, right_open}
use Rattle.null_outputs.specs.inside.Groups.{store_source, stores_of, number_open}
use Rattle.null_outputs.specs.inside.Surely.{sure_by}
use Rattle.null_outputs.specs.inside.Wants.{each_wanted, guard_wanted, node_closed, is_open_store, nodes_closed}
use Rattle.null_outputs.specs.inside.Wants.{writes_closed, is_closed, or_all, found_wants, want_by}
use Rattle.null_outputs.proofs.Spaces.{some_is}
use Rattle.null_outputs.proofs.Covers.{both_true}

same_number : (i j : ℕ) → nat_eq i j ≡ true → i ≡ j
same_number i j e = grind (arith, nat_tests)

-- an implication that is tested
follows : (a b : Bool) → (not a || b) ≡ true → a ≡ true → b ≡ true
follows true b e f = e
follows false b e f = absurd (cc)

follows_not : (a b : Bool) → (a || b) ≡ true → a ≡ false → b ≡ true
follows_not true b e f = absurd (cc)
follows_not false b e f = e

wanted_each : (want : Want) (ss : List FlowSource) → each_wanted want ss ≡ true → EachWanted want ss
wanted_each want [] e = tt
wanted_each want (Read r ∷ ss) e = let w = both_true true (each_wanted want ss) e in wanted_each want ss w.1
wanted_each want (Node j ∷ ss) e = let w = both_true (want j) (each_wanted want ss) e in
    (w.0, wanted_each want ss w.1)

all_wanted : (ss : List FlowSource) → EachWanted (λ y. true) ss
all_wanted [] = tt
all_wanted (Read r ∷ ss) = all_wanted ss
all_wanted (Node j ∷ ss) = (refl, all_wanted ss)

wanted_append : (want : Want) (xs ys : List FlowSource) → EachWanted want xs → EachWanted want ys
    → EachWanted want (xs ++ ys)
wanted_append want [] ys x y = y
wanted_append want (Read r ∷ xs) ys x y = wanted_append want xs ys x y
wanted_append want (Node j ∷ xs) ys x y = (x.0, wanted_append want xs ys x.1 y)

module _ (sure : Sure) (want : Want) (b : FlowBlock) where
  -- what the test says of one node
  record At (j : ℕ) (n : FlowNode) : Type 0 where
    node : want j ≡ true → node_closed sure want n ≡ true
    store : is_open_store sure b (form_of n.op) n ≡ true → want j ≡ true

  at_node : (j : ℕ) (ns : List FlowNode) → nodes_closed sure want b j ns ≡ true → (y : ℕ) (n : FlowNode) (i : ℕ)
      → i ≡ j + y → slice_get ns y ≡ Some n → At i n
  at_node j [] t y n i e s = absurd (cc)
  at_node j (m ∷ ns) t zero n i e s =
      let w = both_true ((not (want j) || node_closed sure want m) &&
      (not (is_open_store sure b (form_of m.op) m) || want j)) (nodes_closed sure want b (suc j) ns) t in
      let v = both_true (not (want j) || node_closed sure want m)
      (not (is_open_store sure b (form_of m.op) m) || want j) w.0 in
      let d : j ≡ i = omega (arith, e) in
      subst (λ (k : ℕ). At k n) d
      (subst (At j) (some_is m n s)
      (record {
        node = follows (want j) (node_closed sure want m) v.0;
        store = follows (is_open_store sure b (form_of m.op) m) (want j) v.1;
      }))
  at_node j (m ∷ ns) t (suc y) n i e s =
      let w = both_true ((not (want j) || node_closed sure want m) &&
      (not (is_open_store sure b (form_of m.op) m) || want j)) (nodes_closed sure want b (suc j) ns) t in
      at_node (suc j) ns w.1 y n i (omega (arith, e)) s

  at_write : (ws : List FlowWrite) → writes_closed sure want ws ≡ true → (j : ℕ) (w : FlowWrite)
      → slice_get ws j ≡ Some w → sure None w.sources ≡ false → EachWanted want w.sources
  at_write [] t j w s f = absurd (cc)
  at_write (v ∷ ws) t zero w s f =
      let x = both_true _ _ t in
      let e : v ≡ w = some_is v w s in
      wanted_each want w.sources
      (follows_not (sure None w.sources) (each_wanted want w.sources)
      (subst (λ (z : FlowWrite). (sure None z.sources || each_wanted want z.sources) ≡ true) e x.0) f)
  at_write (v ∷ ws) t (suc j) w s f = let x = both_true _ _ t in at_write ws x.1 j w s f

  source_wanted : (x : Form) (n : FlowNode) (j k : ℕ) → number_open sure b k ≡ true
      → (is_open_store sure b x n ≡ true → want j ≡ true) → EachWanted want (store_source x n j k)
  source_wanted form.Store n j k o f = go (nat_eq n.number k) refl
    where
      go : (t : Bool) → nat_eq n.number k ≡ t → EachWanted want (cond t (Node j ∷ []) [])
      go true e = (f (ap (number_open sure b) (same_number n.number k e) ∙ o), tt)
      go false e = tt
  source_wanted form.General n j k o f = tt
  source_wanted form.Immediate n j k o f = tt
  source_wanted form.Load n j k o f = tt
  source_wanted form.Branch n j k o f = tt
  source_wanted form.Constant n j k o f = tt

  stores_wanted : (k : ℕ) → number_open sure b k ≡ true → (j : ℕ) (ns : List FlowNode)
      → ((y : ℕ) (n : FlowNode) (i : ℕ) → i ≡ j + y → slice_get ns y ≡ Some n → At i n)
      → EachWanted want (stores_of j ns k)
  stores_wanted k o j [] f = tt
  stores_wanted k o j (n ∷ ns) f =
      wanted_append want (store_source (form_of n.op) n j k) (stores_of (suc j) ns k)
      (source_wanted (form_of n.op) n j k o (f zero n j (omega arith) refl).store)
      (stores_wanted k o (suc j) ns (λ y m i e s. f (suc y) m i (omega (arith, e)) s))

  closed_by_test : is_closed sure want b ≡ true → Closed sure want b
  closed_by_test t =
      let w = both_true _ _ t in
      record {
        guards = λ y n g e wy eg.
            let x = both_true _ _ ((at_node 0 b.nodes w.0 y n y (omega arith) e).node wy) in
            ap (guard_wanted want) (sym eg) ∙ x.0;
        left = λ y n e wy l.
            let x = both_true _ _ ((at_node 0 b.nodes w.0 y n y (omega arith) e).node wy) in
            let z = both_true _ _ x.1 in
            wanted_each want n.left (follows (left_open sure n) (each_wanted want n.left) z.0 l);
        right = λ y n e wy r.
            let x = both_true _ _ ((at_node 0 b.nodes w.0 y n y (omega arith) e).node wy) in
            let z = both_true _ _ x.1 in
            wanted_each want n.right (follows (right_open sure n) (each_wanted want n.right) z.1 r);
        writes = λ j v e f. at_write b.writes w.1 j v e f;
        numbers = λ k o. stores_wanted k o 0 b.nodes (at_node 0 b.nodes w.0);
      }

all_closed : (sure : Sure) (b : FlowBlock) → Closed sure (λ y. true) b
all_closed sure b = record {
  guards = λ y n g e w eg. refl;
  left = λ y n e w l. all_wanted n.left;
  right = λ y n e w r. all_wanted n.right;
  writes = λ j v e f. all_wanted v.sources;
  numbers = λ k o. all_wanted (stores_of 0 b.nodes k);
}

-- the covers that are made are closed under what they need
pub want_is_closed : (b : FlowBlock) → Closed (sure_by b) (want_by b) b
want_is_closed b = go (is_closed (sure_by b) (found_wants b) b) refl
  where
    go : (t : Bool) → is_closed (sure_by b) (found_wants b) b ≡ t → Closed (sure_by b) (or_all t (found_wants b)) b
    go true e = closed_by_test (sure_by b) (found_wants b) b e
    go false e = all_closed (sure_by b) b
