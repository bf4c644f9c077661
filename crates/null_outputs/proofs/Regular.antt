-- What `complete` adds is regular.
use Rattle.std.proofs.Common.{◌≡◌, ℕ, zero, suc, ◌+◌, List, [], ◌∷◌, ◌++◌, ◌⊎◌, inl, inr}
use Rattle.std.proofs.Common.{refl, sym, ap, subst, ◌∙◌, cond, Bool, true, false}
use Rattle.std.specs.Prelude.{Some, None, slice_get}
use Rattle.trips_isa.specs.declared.form.Form.TheVariants.{General, Store, Load}
use Rattle.trips_isa.specs.Forms.{form_of}
use Rattle.ir_forms.specs.declared.flow.FlowSource.{FlowSource}
use Rattle.ir_forms.specs.declared.flow.FlowSource.TheVariants.{Read, Node}
use Rattle.ir_forms.specs.declared.flow.FlowNode.{FlowNode}
use Rattle.ir_forms.specs.declared.flow.FlowWrite.{FlowWrite}
use Rattle.ir_forms.specs.declared.flow.FlowBlock.{FlowBlock}
use Rattle.ir_forms.specs.inside.FlowFits.{FitsFlow, in_mask}
use Rattle.ir_forms.specs.inside.FlowRegular.{TakesOnly, IsRegular}
use Rattle.null_outputs.specs.inside.Completed.{writes_at, numbers_at, cover, write_part, write_size}
use Rattle.null_outputs.specs.inside.Completed.{filled_all, number_part, number_size, numbers_part, all_numbers}
use Rattle.null_outputs.specs.inside.Completed.{trues_region, falses_region, lefts_region, rights_region}
use Rattle.null_outputs.specs.inside.Completed.{writes_region, added, completed}
use Rattle.null_outputs.specs.inside.Covers.{Sure, Want, Cover, pairs, list_nodes}
use Rattle.null_outputs.specs.inside.Groups.{left_needed, right_needed, guard_group, guard_part}
use Rattle.null_outputs.specs.inside.Groups.{guard_part_size, left_part, left_size, right_part, right_size}
use Rattle.null_outputs.specs.inside.Groups.{region, is_used, stores_of, number_open}
use Rattle.null_outputs.specs.inside.Surely.{sure_by}
use Rattle.null_outputs.specs.inside.Wants.{want_by, complete}
use Rattle.null_outputs.proofs.Spaces.{some_is}
use Rattle.null_outputs.proofs.Covers.{both_true}
use Rattle.null_outputs.proofs.Oracles.{Closed}
use Rattle.null_outputs.proofs.Wanted.{want_is_closed}
use Rattle.null_outputs.proofs.Named.{guards_have_senses, still_named, not_named}

module _ (mask : ℕ) where
  record Added (n : FlowNode) : Type 0 where
    load : form_of n.op ≡ Load → ⊥
    store : form_of n.op ≡ Store → in_mask mask n.number ≡ true
    operands : TakesOnly n

  abbrev AllAdded : List FlowNode → Type 0
  AllAdded [] = Unit {0}
  AllAdded (n ∷ ns) = Added n × AllAdded ns

  added_append : (a b : List FlowNode) → AllAdded a → AllAdded b → AllAdded (a ++ b)
  added_append [] b x y = y
  added_append (n ∷ a) b x y = (x.0, added_append a b x.1 y)

  plain : (n : FlowNode) → form_of n.op ≡ General → TakesOnly n → Added n
  plain n e t = record {
    load = λ d. absurd (no_load (sym e ∙ d));
    store = λ d. absurd (no_store (sym e ∙ d));
    operands = t;
  }
    where
      no_load : General ≡ Load → ⊥
      no_load e = absurd (cc)

      no_store : General ≡ Store → ⊥
      no_store e = absurd (cc)

  none : (n : FlowNode) → n.left ≡ [] → n.right ≡ [] → TakesOnly n
  none n l r = record { left = λ e. l; right = λ e. r }

  added_if : (t : Bool) (ns : List FlowNode) → (t ≡ true → AllAdded ns) → AllAdded (cond t ns [])
  added_if true ns f = f refl
  added_if false ns f = tt

  pairs_added : (c : Cover) (p : ℕ) (s : FlowSource) (rest : List FlowSource) → AllAdded (pairs c p s rest)
  pairs_added c p s [] = tt
  pairs_added c p s (t ∷ rest) = (
    plain _ refl (record { left = λ e. absurd (cc); right = λ e. absurd (cc) }),
    pairs_added c (suc p) t rest,
  )

  nodes_added : (c : Cover) (p : ℕ) (ss : List FlowSource) → AllAdded (list_nodes c p ss)
  nodes_added c p [] = (plain _ refl (none _ refl refl), tt)
  nodes_added c p (s ∷ rest) = pairs_added c p s rest

  group_added : (p : ℕ) (s : Bool) (y : ℕ) (ms : List FlowSource) → AllAdded (guard_group p s y ms)
  group_added p s y [] = (plain _ refl (none _ refl refl), tt)
  group_added p s y (m ∷ ms) = (
    plain _ refl (record { left = λ e. absurd (cc); right = λ e. refl }),
    (plain _ refl (none _ refl refl), tt),
  )

  region_added : {A : Type 0} (part : ℕ → ℕ → A → List FlowNode) (size : ℕ → A → ℕ)
      → ((p j : ℕ) (x : A) → AllAdded (part p j x))
      → (p j : ℕ) (xs : List A) → AllAdded (region part size p j xs)
  region_added part size q p j [] = tt
  region_added part size q p j (x ∷ rest) =
      added_append (part p j x) _ (q p j x) (region_added part size q (p + size j x) (suc j) rest)

  -- a node of both lists together
  old_or_added : (xs ys : List FlowNode) → AllAdded ys → (j : ℕ) (n : FlowNode)
      → slice_get (xs ++ ys) j ≡ Some n → (slice_get xs j ≡ Some n) ⊎ Added n
  old_or_added [] [] a j n e = absurd (cc)
  old_or_added [] (y ∷ ys) a zero n e = inr (subst Added (some_is y n e) a.0)
  old_or_added [] (y ∷ ys) a (suc j) n e = later (old_or_added [] ys a.1 j n e)
    where
      later : (slice_get {X = FlowNode} [] j ≡ Some n) ⊎ Added n
          → (slice_get {X = FlowNode} [] (suc j) ≡ Some n) ⊎ Added n
      later (inl d) = inl (absurd (cc))
      later (inr d) = inr d
  old_or_added (x ∷ xs) ys a zero n e = inl e
  old_or_added (x ∷ xs) ys a (suc j) n e = old_or_added xs ys a j n e

module _ (sure : Sure) (want : Want) (b : FlowBlock) where
  number_added : (p k : ℕ) → AllAdded b.mask (number_part sure want b p k)
  number_added p k =
      added_if b.mask (number_open sure b k) _
      (λ u. (
        record {
          load = λ e. absurd (cc);
          store = λ e. (both_true _ _ u).0;
          operands = record { left = λ e. absurd (cc); right = λ e. absurd (cc) };
        },
        nodes_added b.mask (cover sure want b) (suc p) (stores_of 0 b.nodes k),
      ))

  numbers_added : (m p k : ℕ) → AllAdded b.mask (numbers_part sure want b p k m)
  numbers_added zero p k = tt
  numbers_added (suc m) p k = added_append b.mask (number_part sure want b p k) _ (number_added p k)
      (numbers_added m (p + number_size sure want b k) (suc k))

  all_numbers_added : AllAdded b.mask (all_numbers sure want b)
  unfolding all_numbers
  all_numbers_added = numbers_added 32 (numbers_at sure want b) 0

  write_added : (p j : ℕ) (w : FlowWrite) → AllAdded b.mask (write_part sure want b p j w)
  write_added p j w = go (sure None w.sources)
    where
      go : (t : Bool) → AllAdded b.mask (cond t [] (list_nodes (cover sure want b) p w.sources))
      go true = tt
      go false = nodes_added b.mask (cover sure want b) p w.sources

  all_added : AllAdded b.mask (added sure want b)
  all_added =
      let c = cover sure want b in
      added_append b.mask (trues_region sure want b) _
      (region_added b.mask (guard_part want b.nodes c true) (guard_part_size want b.nodes sure true)
      (λ p j n. added_if b.mask (is_used want 0 b.nodes true j) _
      (λ u. group_added b.mask p true j (c (Node j)))) _ 0 b.nodes)
      (added_append b.mask (falses_region sure want b) _
      (region_added b.mask (guard_part want b.nodes c false) (guard_part_size want b.nodes sure false)
      (λ p j n. added_if b.mask (is_used want 0 b.nodes false j) _
      (λ u. group_added b.mask p false j (c (Node j)))) _ 0 b.nodes)
      (added_append b.mask (lefts_region sure want b) _
      (region_added b.mask (left_part sure want c) (left_size sure want)
      (λ p j n. added_if b.mask (left_needed sure want j n) _
      (λ u. (
        plain b.mask _ refl (record { left = λ e. absurd (cc); right = λ e. refl }),
        nodes_added b.mask c (suc p) n.left,
      ))) _ 0 b.nodes)
      (added_append b.mask (rights_region sure want b) _
      (region_added b.mask (right_part sure want c) (right_size sure want)
      (λ p j n. added_if b.mask (right_needed sure want j n) _
      (λ u. (
        plain b.mask _ refl (record { left = λ e. absurd (cc); right = λ e. absurd (cc) }),
        nodes_added b.mask c (suc p) n.right,
      ))) _ 0 b.nodes)
      (added_append b.mask (writes_region sure want b) _
      (region_added b.mask (write_part sure want b) (write_size sure want b) write_added _ 0 b.writes)
      all_numbers_added))))

  -- writes keep their registers
  old_write : (p j : ℕ) (ws : List FlowWrite) (i : ℕ) (v : FlowWrite)
      → slice_get (filled_all sure want b p j ws) i ≡ Some v
      → (w : FlowWrite) × (slice_get ws i ≡ Some w) × (w.register ≡ v.register)
  old_write p j [] i v e = absurd (cc)
  old_write p j (w ∷ ws) zero v e = (w, refl, ap (λ (x : FlowWrite). x.register) (some_is _ v e))
  old_write p j (w ∷ ws) (suc i) v e = old_write (p + write_size sure want b j w) (suc j) ws i v e

  regular : FitsFlow b → Closed sure want b → IsRegular b → IsRegular (completed sure want b)
  regular fits closed r =
      let at = old_or_added b.mask b.nodes (added sure want b) all_added in
      record {
        registers = λ i j v w ei ej e.
            let x = old_write (writes_at sure want b) 0 b.writes i v ei in
            let y = old_write (writes_at sure want b) 0 b.writes j w ej in
            r.registers i j x.0 y.0 x.1 y.1 (x.2 ∙ (e ∙ sym y.2));
        loads = λ i j m n ei ej fm fn e. two (at i m ei) (at j n ej) fm fn (λ x y. r.loads i j m n x y fm fn e);
        unmasked = λ j n e fl. one (at j n e) (λ x. r.unmasked j n x fl) (λ a. absurd (a.load fl));
        masked = λ j n e fs. one (at j n e) (λ x. r.masked j n x fs) (λ a. a.store fs);
        operands = λ j n e. one (at j n e) (λ x. r.operands j n x) (λ a. a.operands);
        guards = guards_have_senses sure want b fits r closed;
        low = r.low;
        reads = r.reads;
        used = λ i x e. still_named sure want b (Read x) (r.used i x e);
        silent = λ j n e s. not_named sure want b fits r closed j n e s;
      }
    where
      one : {A B C : Type 0} → A ⊎ B → (A → C) → (B → C) → C
      one (inl x) f g = f x
      one (inr x) f g = g x

      two : {A B C : Type 0} {m n : FlowNode} → A ⊎ Added b.mask m → B ⊎ Added b.mask n → form_of m.op ≡ Load
          → form_of n.op ≡ Load → (A → B → C) → C
      two (inl x) (inl y) fm fn f = f x y
      two (inr x) y fm fn f = absurd (x.load fm)
      two (inl x) (inr y) fm fn f = absurd (y.load fn)

-- A regular block that is completed is regular.
pub stays_regular : (b : FlowBlock) → FitsFlow b → IsRegular b → IsRegular (complete b)
stays_regular b fits r = regular (sure_by b) (want_by b) b fits (want_is_closed b) r
