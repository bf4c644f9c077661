-- No null meets the guard of an added node, and its operands get at most one token.
use Rattle.std.proofs.Common.{◌≡◌, ℕ, zero, suc, ◌+◌, ◌-◌, ◌≤◌, List, [], ◌∷◌, ◌++◌}
use Rattle.std.proofs.Common.{length, refl, subst, arith, cond, nat_eq, Bool, true, false, not, ◌&&◌, ◌||◌}
use Rattle.std.proofs.lemmas.Bool.Decides.{nat_tests}
use Rattle.std.specs.Prelude.{Option, Some, None, slice_get, All, ◌≢◌}
use Rattle.std.proofs.lemmas.List.Elements.{All-head, All-tail}
use Rattle.trips_isa.specs.declared.block.Token.TheVariants.{Null}
use Rattle.trips_isa.specs.Rule.{Answer}
use Rattle.ir_forms.specs.declared.flow.FlowSource.{FlowSource}
use Rattle.ir_forms.specs.declared.flow.FlowSource.TheVariants.{Node}
use Rattle.ir_forms.specs.declared.flow.Guard.{Guard}
use Rattle.ir_forms.specs.declared.flow.FlowNode.{FlowNode}
use Rattle.ir_forms.specs.declared.flow.FlowBlock.{FlowBlock}
use Rattle.ir_forms.specs.inside.FlowRuns.{guard_token, Computes, Obeys, present, count}
use Rattle.ir_forms.specs.inside.FlowFits.{FitsFlowSource, FitsNode, AtMostOne, IsTidy}
use Rattle.null_outputs.proofs.Oracles.{EachWanted}
use Rattle.null_outputs.specs.inside.Covers.{Want, null_under, guard_on, Sure, Places, left_open, right_open}
use Rattle.null_outputs.specs.inside.Covers.{cover_of, Cover, top_of, list_top, pairs, list_nodes}
use Rattle.null_outputs.specs.inside.Groups.{left_needed, right_needed, guard_group, guard_is, is_used}
use Rattle.null_outputs.specs.inside.Groups.{guard_part, left_part, right_part, region}
use Rattle.null_outputs.proofs.NullsOnPaths.{Covered, as_covered, append_covered, null_covered}
use Rattle.null_outputs.proofs.NullsOnPaths.{other_bit, EachCovered}
use Rattle.null_outputs.proofs.NullsOnPaths.{pairs_covered, list_covered}
use Rattle.null_outputs.proofs.Spaces.{obeys_front, obeys_back}
use Rattle.null_outputs.proofs.Covers.{both_true, used_wants, Known, all_at, number_covered, sources_covered}

-- nothing is not something
pub some_differs : {A : Type 0} (x : A) → None ≢ Some x
some_differs x e = absurd (cc)

same_number : (i j : ℕ) → nat_eq i j ≡ true → i ≡ j
same_number i j e = grind (arith, nat_tests)

both_first : (a b : Bool) → (a && b) ≡ true → a ≡ true
both_first true b e = refl
both_first false true e = absurd (cc)
both_first false false e = absurd (cc)

module _ (regs : ℕ → ℕ) (h : ℕ → Answer) where
  pub record TidyNode (n : FlowNode) : Type 0 where
    pub clear : guard_token h n.guard ≢ Some Null
    pub left : count regs h n.left ≤ 1
    pub right : count regs h n.right ≤ 1

  -- each of some nodes is tidy
  abbrev pub AllTidy : List FlowNode → Type 0
  AllTidy [] = Unit {0}
  AllTidy (n ∷ ns) = TidyNode n × AllTidy ns

  -- tidy nodes behind tidy ones are tidy
  pub tidy_append : (a b : List FlowNode) → AllTidy a → AllTidy b → AllTidy (a ++ b)
  tidy_append [] b x y = y
  tidy_append (n ∷ a) b x y = (x.0, tidy_append a b x.1 y)

  low : (k : ℕ) (ms : List FlowSource) → k ≤ 1 → Covered regs h k ms → count regs h ms ≤ 1
  low k ms l c = let e = c.number in omega (arith, e, l)

  pairs_tidy : (c : Cover) (f : Computes) (p : ℕ) (s : FlowSource) (rest : List FlowSource)
      → EachCovered regs h c (s ∷ rest)
      → Obeys regs f h p (pairs c p s rest) → AllTidy (pairs c p s rest)
  pairs_tidy c f p s [] k o = tt
  pairs_tidy c f p s (t ∷ rest) k o = (
    record {
      clear = some_differs Null;
      left = low _ (c s) (omega arith) k.0;
      right = low _ (top_of c (suc p) t rest) (omega arith) (pairs_covered regs h c f (suc p) t rest k.1 o.1);
    },
    pairs_tidy c f (suc p) t rest k.1 o.1,
  )

  -- the nodes of a list of sources are tidy
  pub list_tidy : (c : Cover) (f : Computes) (p : ℕ) (ss : List FlowSource) → EachCovered regs h c ss
      → Obeys regs f h p (list_nodes c p ss) → AllTidy (list_nodes c p ss)
  list_tidy c f p [] k o = (record { clear = some_differs Null; left = omega arith; right = omega arith }, tt)
  list_tidy c f p (s ∷ rest) k o = pairs_tidy c f p s rest k o

  -- the top nodes of a list of sources give at most one token
  pub list_low : (c : Cover) (f : Computes) (p : ℕ) (ss : List FlowSource) → EachCovered regs h c ss
      → Obeys regs f h p (list_nodes c p ss) → count regs h (list_top c p ss) ≤ 1
  list_low c f p ss k o = low _ (list_top c p ss) (omega arith) (list_covered regs h c f p ss k o)

  group_tidy : (f : Computes) (p : ℕ) (s : Bool) (y : ℕ) (ms : List FlowSource) → (h y ≢ Some Null)
      → Covered regs h (1 - present (h y)) ms → Obeys regs f h p (guard_group p s y ms)
      → AllTidy (guard_group p s y ms)
  group_tidy f p s y [] n c o = (record { clear = n; left = omega arith; right = omega arith }, tt)
  group_tidy f p s y (m ∷ ms) n c o =
      let z = null_covered regs h (f (suc p) (null_under (Some (guard_on (not s) y))))
      (Some (guard_on (not s) y)) (suc p) (o.1.0) in
      let all = as_covered regs h _ _ _ (other_bit (h y) s n)
      (append_covered regs h _ _ (Node (suc p) ∷ []) (m ∷ ms) z c) in (
        record {
          clear = some_differs Null;
          left = low _ (Node (suc p) ∷ m ∷ ms) (omega arith) all;
          right = omega arith;
        },
        (record { clear = n; left = omega arith; right = omega arith }, tt),
      )

  -- a guard that is used meets no null
  used_clear : (want : Want) (j : ℕ) (ns : List FlowNode) (s : Bool) (y : ℕ)
      → All (λ n. guard_token h n.guard ≢ Some Null) ns → is_used want j ns s y ≡ true → h y ≢ Some Null
  used_clear want j [] s y a u = absurd (cc)
  used_clear want j (n ∷ ns) s y a u =
      go (want j) (guard_is s y n.guard) (is_used want (suc j) ns s y) refl u
      (λ d. used_clear want (suc j) ns s y
      (All-tail (λ (m : FlowNode). guard_token h m.guard ≢ Some Null) n ns a) d)
    where
      one : (g : Option Guard) → guard_is s y g ≡ true → guard_token h g ≢ Some Null → h y ≢ Some Null
      one None e c = absurd (cc)
      one (Some g) e c = subst (λ (i : ℕ). h i ≢ Some Null) (same_number g.node y (both_first _ _ e)) c

      go : (v x z : Bool) → guard_is s y n.guard ≡ x → ((v && x) || z) ≡ true → (z ≡ true → h y ≢ Some Null)
          → h y ≢ Some Null
      go true true z e d r = one n.guard e (All-head (λ (m : FlowNode). guard_token h m.guard ≢ Some Null) n ns a)
      go false true true e d r = r refl
      go true false true e d r = r refl
      go false false true e d r = r refl
      go false true false e d r = absurd (cc)
      go true false false e d r = absurd (cc)
      go false false false e d r = absurd (cc)

  tidy_if : (t : Bool) (ns : List FlowNode) → (t ≡ true → AllTidy ns) → AllTidy (cond t ns [])
  tidy_if true ns f = f refl
  tidy_if false ns f = tt

module _ (regs : ℕ → ℕ) (h : ℕ → Answer) (f : Computes) (b : FlowBlock) (sure : Sure) (want : Want)
    (at : Places) (rank : ℕ → ℕ) (k : Known regs h f b sure want at rank) (tidy : IsTidy regs h b) where
  abbrev c : Cover
  c = cover_of b.nodes sure at

  when_true : (t : Bool) (p : ℕ) (ns : List FlowNode) → Obeys regs f h p (cond t ns []) → t ≡ true
      → Obeys regs f h p ns
  when_true t p ns o e = subst (λ (u : Bool). Obeys regs f h p (cond u ns [])) e o

  -- the nodes for a guard are tidy
  pub guard_tidy : (s : Bool) (p y : ℕ) (n : FlowNode) → slice_get b.nodes y ≡ Some n
      → Obeys regs f h p (guard_part want b.nodes c s p y n) → AllTidy regs h (guard_part want b.nodes c s p y n)
  guard_tidy s p y n e o =
      tidy_if regs h (is_used want 0 b.nodes s y) (guard_group p s y (c (Node y)))
      (λ u. group_tidy regs h f p s y (c (Node y)) (used_clear regs h want 0 b.nodes s y tidy.clear u)
      (number_covered regs h f b sure want at rank k y n e (used_wants sure want b k.closed s y u))
      (when_true (is_used want 0 b.nodes s y) p _ o u))

  -- the nodes for a left operand are tidy
  pub left_tidy : (p y : ℕ) (n : FlowNode) → slice_get b.nodes y ≡ Some n
      → Obeys regs f h p (left_part sure want c p y n) → AllTidy regs h (left_part sure want c p y n)
  left_tidy p y n e o =
      tidy_if regs h (left_needed sure want y n) _
      (λ u.
      let v = both_true (want y) (left_open sure n) u in
      let each = sources_covered regs h f b sure want at rank k n.left
      (all_at (FitsNode b) b.nodes k.fits y n e).left (k.closed.left y n e v.0 v.1) in
      let o2 = when_true (left_needed sure want y n) p _ o u in (
        record {
          clear = all_at (λ (m : FlowNode). guard_token h m.guard ≢ Some Null) b.nodes tidy.clear y n e;
          left = list_low regs h c f (suc p) n.left each o2.1;
          right = omega arith;
        },
        list_tidy regs h c f (suc p) n.left each o2.1,
      ))

  -- the nodes for a right operand are tidy
  pub right_tidy : (p y : ℕ) (n : FlowNode) → slice_get b.nodes y ≡ Some n
      → Obeys regs f h p (right_part sure want c p y n) → AllTidy regs h (right_part sure want c p y n)
  right_tidy p y n e o =
      tidy_if regs h (right_needed sure want y n) _
      (λ u.
      let v = both_true (want y) (right_open sure n) u in
      let each = sources_covered regs h f b sure want at rank k n.right
      (all_at (FitsNode b) b.nodes k.fits y n e).right (k.closed.right y n e v.0 v.1) in
      let o2 = when_true (right_needed sure want y n) p _ o u in (
        record {
          clear = all_at (λ (m : FlowNode). guard_token h m.guard ≢ Some Null) b.nodes tidy.clear y n e;
          left = (all_at (AtMostOne regs h) b.nodes tidy.operands y n e).0;
          right = list_low regs h c f (suc p) n.right each o2.1;
        },
        list_tidy regs h c f (suc p) n.right each o2.1,
      ))

  -- a region of tidy groups is tidy
  pub region_tidy : {A : Type 0} (part : ℕ → ℕ → A → List FlowNode) (size : ℕ → A → ℕ)
      → ((p j : ℕ) (x : A) → length (part p j x) ≡ size j x) → (all : List A)
      → ((p j : ℕ) (x : A) → slice_get all j ≡ Some x → Obeys regs f h p (part p j x) → AllTidy regs h (part p j x))
      → (p j : ℕ) (xs : List A) → ((i : ℕ) (x : A) (z : ℕ) → z ≡ j + i → slice_get xs i ≡ Some x
      → slice_get all z ≡ Some x)
      → Obeys regs f h p (region part size p j xs) → AllTidy regs h (region part size p j xs)
  region_tidy part size fits all q p j [] at o = tt
  region_tidy part size fits all q p j (x ∷ xs) at o =
      let e = fits p j x in
      tidy_append regs h (part p j x) _ (q p j x (at zero x j (omega arith) refl)
      (obeys_front regs h f p (part p j x) _ o))
      (region_tidy part size fits all q (p + size j x) (suc j) xs
      (λ i y z ez d. at (suc i) y z (omega (arith, ez)) d)
      (obeys_back regs h f p (part p j x) _ o _ (omega (arith, e))))

  -- the nodes for an output are tidy
  pub output_tidy : (p : ℕ) (s : Bool) (ss : List FlowSource) → All (FitsFlowSource b) ss
      → (s ≡ false → EachWanted want ss) → Obeys regs f h p (cond s [] (list_nodes c p ss))
      → AllTidy regs h (cond s [] (list_nodes c p ss))
  output_tidy p true ss fit w o = tt
  output_tidy p false ss fit w o = list_tidy regs h c f p ss
      (sources_covered regs h f b sure want at rank k ss fit (w refl)) o
