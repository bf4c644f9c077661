-- What completing adds: nulls, copies, joins and null stores, with immediate 0.
use Rattle.std.proofs.Common.{◌≡◌, ℕ, zero, suc, ◌+◌, List, [], ◌∷◌, ◌++◌, map}
use Rattle.std.proofs.Common.{◌⊎◌, inl, inr, refl, sym, subst, ap, ap₂, ◌∙◌, arith, cond, Bool, true, false}
use Rattle.std.specs.Prelude.{Some, None, All, ℤ, slice_get}
use Rattle.std.proofs.lemmas.List.Elements.{All-cons, All-head, All-tail}
use Rattle.ir_forms.specs.declared.flow.FlowSource.{FlowSource}
use Rattle.ir_forms.specs.declared.flow.FlowSource.TheVariants.{Node}
use Rattle.ir_forms.specs.declared.flow.FlowNode.{FlowNode}
use Rattle.ir_forms.specs.declared.flow.FlowWrite.{FlowWrite}
use Rattle.ir_forms.specs.declared.flow.FlowBlock.{FlowBlock}
use Rattle.null_outputs.specs.inside.Completed.{numbers_at, cover, write_part, write_size}
use Rattle.null_outputs.specs.inside.Completed.{number_part, number_size, numbers_part, all_numbers}
use Rattle.null_outputs.specs.inside.Completed.{trues_region, falses_region, lefts_region, rights_region}
use Rattle.null_outputs.specs.inside.Completed.{writes_region, added}
use Rattle.null_outputs.specs.inside.Covers.{Sure, Want, Cover, pairs, list_nodes}
use Rattle.null_outputs.specs.inside.Groups.{left_needed, right_needed, guard_group, guard_part}
use Rattle.null_outputs.specs.inside.Groups.{guard_part_size, left_part, left_size, right_part, right_size}
use Rattle.null_outputs.specs.inside.Groups.{region, is_used, stores_of, number_open}
use Rattle.null_outputs.specs.inside.Immediates.{IsAdded, Immediates, KeepsZeros, with_immediate}
use Rattle.null_outputs.specs.inside.Surely.{sure_by}
use Rattle.null_outputs.specs.inside.Wants.{want_by, complete}
use Rattle.null_outputs.proofs.Spaces.{some_is}

-- each of some nodes is one that completing adds
abbrev pub AllAdded : List FlowNode → Type 0
AllAdded [] = Unit {0}
AllAdded (n ∷ ns) = IsAdded n × AllAdded ns

added_append : (a b : List FlowNode) → AllAdded a → AllAdded b → AllAdded (a ++ b)
added_append [] b x y = y
added_append (n ∷ a) b x y = (x.0, added_append a b x.1 y)

added_if : (t : Bool) (ns : List FlowNode) → AllAdded ns → AllAdded (cond t ns [])
added_if true ns a = a
added_if false ns a = tt

pairs_added : (c : Cover) (p : ℕ) (s : FlowSource) (rest : List FlowSource) → AllAdded (pairs c p s rest)
pairs_added c p s [] = tt
pairs_added c p s (t ∷ rest) = (record { op = tt; imm = refl }, pairs_added c (suc p) t rest)

nodes_added : (c : Cover) (p : ℕ) (ss : List FlowSource) → AllAdded (list_nodes c p ss)
nodes_added c p [] = (record { op = tt; imm = refl }, tt)
nodes_added c p (s ∷ rest) = pairs_added c p s rest

group_added : (p : ℕ) (s : Bool) (y : ℕ) (ms : List FlowSource) → AllAdded (guard_group p s y ms)
group_added p s y [] = (record { op = tt; imm = refl }, tt)
group_added p s y (m ∷ ms) = (record { op = tt; imm = refl }, (record { op = tt; imm = refl }, tt))

region_added : {A : Type 0} (part : ℕ → ℕ → A → List FlowNode) (size : ℕ → A → ℕ)
    → ((p j : ℕ) (x : A) → AllAdded (part p j x))
    → (p j : ℕ) (xs : List A) → AllAdded (region part size p j xs)
region_added part size q p j [] = tt
region_added part size q p j (x ∷ rest) =
    added_append (part p j x) (region part size (p + size j x) (suc j) rest) (q p j x)
    (region_added part size q (p + size j x) (suc j) rest)

module _ (sure : Sure) (want : Want) (b : FlowBlock) where
  number_added : (p k : ℕ) → AllAdded (number_part sure want b p k)
  number_added p k =
      added_if (number_open sure b k) _
      (record { op = tt; imm = refl }, nodes_added (cover sure want b) (suc p) (stores_of 0 b.nodes k))

  numbers_added : (m p k : ℕ) → AllAdded (numbers_part sure want b p k m)
  numbers_added zero p k = tt
  numbers_added (suc m) p k =
      added_append (number_part sure want b p k) _ (number_added p k)
      (numbers_added m (p + number_size sure want b k) (suc k))

  all_numbers_added : AllAdded (all_numbers sure want b)
  unfolding all_numbers
  all_numbers_added = numbers_added 32 (numbers_at sure want b) 0

  write_added : (p j : ℕ) (w : FlowWrite) → AllAdded (write_part sure want b p j w)
  write_added p j w = go (sure None w.sources)
    where
      go : (t : Bool) → AllAdded (cond t [] (list_nodes (cover sure want b) p w.sources))
      go true = tt
      go false = nodes_added (cover sure want b) p w.sources

  -- each node that completing adds is a null, a copy, a join or a null store, with immediate 0
  pub all_added : AllAdded (added sure want b)
  all_added =
      let c = cover sure want b in
      added_append (trues_region sure want b) _
      (region_added (guard_part want b.nodes c true) (guard_part_size want b.nodes sure true)
      (λ p j n. added_if (is_used want 0 b.nodes true j) _ (group_added p true j (c (Node j)))) _ 0 b.nodes)
      (added_append (falses_region sure want b) _
      (region_added (guard_part want b.nodes c false) (guard_part_size want b.nodes sure false)
      (λ p j n. added_if (is_used want 0 b.nodes false j) _ (group_added p false j (c (Node j)))) _ 0 b.nodes)
      (added_append (lefts_region sure want b) _
      (region_added (left_part sure want c) (left_size sure want)
      (λ p j n. added_if (left_needed sure want j n) _
      (record { op = tt; imm = refl }, nodes_added c (suc p) n.left)) _ 0 b.nodes)
      (added_append (rights_region sure want b) _
      (region_added (right_part sure want c) (right_size sure want)
      (λ p j n. added_if (right_needed sure want j n) _
      (record { op = tt; imm = refl }, nodes_added c (suc p) n.right)) _ 0 b.nodes)
      (added_append (writes_region sure want b) _
      (region_added (write_part sure want b) (write_size sure want b) write_added _ 0 b.writes)
      all_numbers_added))))

-- WHAT FOLLOWS

both_all : (P : FlowNode → Type 0) → ((n : FlowNode) → IsAdded n → P n) → (xs ys : List FlowNode) → All P xs
    → AllAdded ys → All P (xs ++ ys)
both_all P f [] [] a y = a
both_all P f [] (n ∷ ys) a y = All-cons P n ys (f n y.0) (both_all P f [] ys (λ i d l. absurd (omega arith)) y.1)
both_all P f (x ∷ xs) ys a y = All-cons P x (xs ++ ys) (All-head P x xs a) (both_all P f xs ys (All-tail P x xs a) y)

-- a node of both lists together
old_or_added : (xs ys : List FlowNode) → AllAdded ys → (j : ℕ) (n : FlowNode) → slice_get (xs ++ ys) j ≡ Some n
    → (slice_get xs j ≡ Some n) ⊎ IsAdded n
old_or_added [] [] a j n e = absurd (cc)
old_or_added [] (y ∷ ys) a zero n e = inr (subst IsAdded (some_is y n e) a.0)
old_or_added [] (y ∷ ys) a (suc j) n e = later (old_or_added [] ys a.1 j n e)
  where
    later : (slice_get {X = FlowNode} [] j ≡ Some n) ⊎ IsAdded n
        → (slice_get {X = FlowNode} [] (suc j) ≡ Some n) ⊎ IsAdded n
    later (inl d) = inl (absurd (cc))
    later (inr d) = inr d
old_or_added (x ∷ xs) ys a zero n e = inl e
old_or_added (x ∷ xs) ys a (suc j) n e = old_or_added xs ys a j n e

-- a node of a completed block is the block's own or one that was added
pub own_or_added : (b : FlowBlock) (j : ℕ) (n : FlowNode) → slice_get (complete b).nodes j ≡ Some n
    → (slice_get b.nodes j ≡ Some n) ⊎ IsAdded n
own_or_added b j n e = old_or_added b.nodes (added (sure_by b) (want_by b) b)
    (all_added (sure_by b) (want_by b) b) j n e

-- what holds of each node of a block, and of each node as they are added, holds of the completed block's
pub adds_nodes : (P : FlowNode → Type 0) → ((n : FlowNode) → IsAdded n → P n) → (b : FlowBlock) → All P b.nodes
    → All P (complete b).nodes
adds_nodes P f b a = both_all P f b.nodes (added (sure_by b) (want_by b) b) a (all_added (sure_by b) (want_by b) b)

module _ (r : Immediates) (zeros : KeepsZeros r) where
  node_stays : (n : FlowNode) → IsAdded n → with_immediate r n ≡ n
  node_stays n a = ap (λ (i : ℤ). record n { imm = i }) (ap (r n.op) a.imm ∙ (zeros n.op a.op ∙ sym a.imm))

  -- nodes that were added stay as they are with new immediates, where these keep zeros
  pub added_stay : (ns : List FlowNode) → AllAdded ns → map (with_immediate r) ns ≡ ns
  added_stay [] a = refl
  added_stay (n ∷ ns) a = ap₂ (λ (m : FlowNode) (ms : List FlowNode). m ∷ ms) (node_stays n a.0) (added_stay ns a.1)
