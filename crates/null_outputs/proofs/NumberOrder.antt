-- The added nodes of each number are in order: its stores stand below each load of a higher one.
use Rattle.std.proofs.Common.{◌≡◌, ℕ, zero, suc, ◌+◌, ◌<◌, ◌≤◌, List, ◌∷◌, ◌++◌, []}
use Rattle.std.proofs.Common.{length, refl, sym, subst, arith, cond, nat_eq, nat_lt, ◌/◌, ◌%◌, ◌^◌}
use Rattle.std.proofs.Common.{Bool, true, false, ◌&&◌, length-append}
use Rattle.std.proofs.lemmas.Bool.Decides.{nat_tests}
use Rattle.std.specs.Prelude.{Some, slice_get, All}
use Rattle.std.proofs.lemmas.List.Elements.{All-head, All-tail}
use Rattle.trips_isa.specs.declared.form.Form.{Form}
use Rattle.trips_isa.specs.declared.form.Form.TheVariants as form
use Rattle.trips_isa.specs.Forms.{form_of}
use Rattle.ir_forms.specs.declared.flow.FlowSource.{FlowSource}
use Rattle.ir_forms.specs.declared.flow.FlowSource.TheVariants.{Read, Node}
use Rattle.ir_forms.specs.declared.flow.FlowNode.{FlowNode}
use Rattle.ir_forms.specs.declared.flow.FlowBlock.{FlowBlock}
use Rattle.ir_forms.specs.inside.FlowFits.{FitsFlowSource, FitsNode}
use Rattle.ir_forms.specs.inside.FlowFits.{HasOrder, in_mask}
use Rattle.null_outputs.proofs.Oracles.{EachWanted, Closed}
use Rattle.null_outputs.specs.inside.Completed.{cover}
use Rattle.null_outputs.specs.inside.Completed.{numbers_at}
use Rattle.null_outputs.specs.inside.Completed.{number_part, number_size, numbers_part, all_numbers}
use Rattle.null_outputs.specs.inside.Covers.{Want}
use Rattle.null_outputs.specs.inside.Covers.{Cover, Sure}
use Rattle.null_outputs.specs.inside.Covers.{list_top}
use Rattle.null_outputs.specs.inside.Groups.{store_source, stores_of, number_open}
use Rattle.null_outputs.proofs.Covers.{within}
use Rattle.null_outputs.proofs.Outputs.{number_length}
use Rattle.null_outputs.proofs.Walks.{Each, each_append, each_front, each_back}
use Rattle.null_outputs.proofs.Ranks.{scaled, scaled_le, width}
use Rattle.null_outputs.proofs.Ranks.{step, base_of}
use Rattle.null_outputs.proofs.Ranks.{level, number_base, number_ranks, numbers_ranks}
use Rattle.null_outputs.proofs.Ranks.{all_number_ranks}
use Rattle.null_outputs.proofs.Ranks.{rank_in}
use Rattle.null_outputs.proofs.Ranks.{number_fits}
use Rattle.null_outputs.proofs.RankPlaces.{weaker, at_rank}
use Rattle.null_outputs.proofs.RankPlaces
use Rattle.null_outputs.proofs.CoverOrder.{list_ok, list_at, when_true, each_if}
use Rattle.null_outputs.proofs.CoverOrder

is_below : (i j : ℕ) → nat_lt i j ≡ true → i < j
is_below i j e = grind (arith, nat_tests)

masked_below : (m k : ℕ) → in_mask m k ≡ true → k < 32
masked_below m k e = in_first (nat_lt k 32) (nat_eq (m / 2 ^ k % 2) 1) refl e
  where
    in_first : (x y : Bool) → nat_lt k 32 ≡ x → (x && y) ≡ true → k < 32
    in_first true y ex e = is_below k 32 ex
    in_first false true ex e = absurd (cc)
    in_first false false ex e = absurd (cc)

both_first : (a b : Bool) → (a && b) ≡ true → a ≡ true
both_first true b e = refl
both_first false true e = absurd (cc)
both_first false false e = absurd (cc)

module _ (sure : Sure) (want : Want) (b : FlowBlock) (rank : ℕ → ℕ) where
  -- a node's number and rank
  abbrev Stands : (p r : ℕ) → Type 0
  Stands = RankPlaces.Stands sure want b rank

  abbrev c : Cover
  c = cover sure want b

  abbrev at_ : ℕ → ℕ
  at_ = rank_in sure want b rank

  abbrev base : ℕ → ℕ
  base = base_of sure want b rank

  abbrev w : ℕ
  w = width sure want b rank

  abbrev EachAt : ℕ → List FlowSource → Type 0
  EachAt = RankPlaces.EachAt sure want b rank

  abbrev NodeOk : (p : ℕ) → (n : FlowNode) → Type 0
  NodeOk = CoverOrder.NodeOk sure want b rank

  abbrev EachCover : ℕ → List FlowSource → Type 0
  EachCover = CoverOrder.EachCover sure want b rank

  module _ (ord : HasOrder b rank) (fitn : All (FitsNode b) b.nodes) (closed : Closed sure want b) where
    -- the cover of a node
    abbrev node_at : (y : ℕ) (n : FlowNode) → slice_get b.nodes y ≡ Some n → want y ≡ true
        → EachAt (base y + w) (c (Node y))
    node_at = CoverOrder.node_at sure want b rank ord fitn closed

    -- NUMBERS

    source_length : (x : Form) (n : FlowNode) (j k : ℕ) → length (store_source x n j k) ≤ 1
    source_length form.Store n j k = go (nat_eq n.number k)
      where
        go : (t : Bool) → length (cond {A = List FlowSource} t (Node j ∷ []) []) ≤ 1
        go true = omega arith
        go false = omega arith
    source_length form.General n j k = omega arith
    source_length form.Immediate n j k = omega arith
    source_length form.Load n j k = omega arith
    source_length form.Branch n j k = omega arith
    source_length form.Constant n j k = omega arith

    stores_length : (j : ℕ) (ns : List FlowNode) (k : ℕ) → length (stores_of j ns k) ≤ length ns
    stores_length j [] k = omega arith
    stores_length j (n ∷ ns) k =
        let e = source_length (form_of n.op) n j k in
        let r = stores_length (suc j) ns k in
        omega (arith, e, r, length-append (store_source (form_of n.op) n j k) (stores_of (suc j) ns k))

    cover_level : (ss : List FlowSource) → All (FitsFlowSource b) ss → EachWanted want ss → (lvl : ℕ)
        → level sure want b rank ss ≤ lvl → EachCover (scaled (step sure want b rank) lvl + w) ss
    cover_level [] fit v lvl l = tt
    cover_level (Read r ∷ ss) fit v lvl l = (tt, cover_level ss (All-tail (FitsFlowSource b) (Read r) ss fit) v lvl l)
    cover_level (Node x ∷ ss) fit v lvl l =
        let z = within b.nodes x (All-head (FitsFlowSource b) (Node x) ss fit) in
        let up = scaled_le (step sure want b rank) (suc (rank x)) lvl (omega (arith, l)) in (
          weaker sure want b rank (base x + w) (scaled (step sure want b rank) lvl + w) (omega (arith, up))
              (c (Node x))
              (node_at x z.0 z.1 v.0),
          cover_level ss (All-tail (FitsFlowSource b) (Node x) ss fit) v.1 lvl (omega (arith, l)),
        )

    -- the stores of a number are below each load of a higher one
    level_low : (j : ℕ) (ns : List FlowNode) (k lim : ℕ)
        → ((y : ℕ) (n : FlowNode) (i : ℕ) → i ≡ j + y → slice_get ns y ≡ Some n → form_of n.op ≡ form.Store
        → n.number ≡ k → rank i < lim)
        → level sure want b rank (stores_of j ns k) ≤ lim
    level_low j [] k lim f = omega arith
    level_low j (n ∷ ns) k lim f = one (form_of n.op) refl (stores_of (suc j) ns k)
        (level_low (suc j) ns k lim (λ y m i e s es en. f (suc y) m i (omega (arith, e)) s es en))
      where
        same : (x y : ℕ) → nat_eq x y ≡ true → x ≡ y
        same x y e = grind (arith, nat_tests)

        one : (x : Form) → form_of n.op ≡ x → (rest : List FlowSource) → level sure want b rank rest ≤ lim
            → level sure want b rank (store_source x n j k ++ rest) ≤ lim
        one form.Store e rest l = go (nat_eq n.number k) refl
          where
            go : (t : Bool) → nat_eq n.number k ≡ t → level sure want b rank (cond t (Node j ∷ []) [] ++ rest) ≤ lim
            go true et = let r = f zero n j (omega arith) refl e (same n.number k et) in omega (arith, r, l)
            go false et = l
        one form.General e rest l = l
        one form.Immediate e rest l = l
        one form.Load e rest l = l
        one form.Branch e rest l = l
        one form.Constant e rest l = l

    number_ok : (p k : ℕ) → Each Stands p (number_ranks sure want b rank k)
        → All (FitsFlowSource b) (stores_of 0 b.nodes k) → Each NodeOk p (number_part sure want b p k)
    number_ok p k x fit =
        each_if sure want b rank (number_open sure b k) p _
        (λ u.
        let z = when_true sure want b rank Stands (number_open sure b k) p _ x u in
        let ss = stores_of 0 b.nodes k in
        let cov = cover_level ss fit (closed.numbers k u) (level sure want b rank ss) (omega arith) in
        let top = list_at sure want b rank (number_base sure want b rank k) (suc p) ss cov z.1 in (
          record {
            fields = (omega arith, masked_below b.mask k (both_first _ _ u));
            left = at_rank sure want b rank p _ (list_top c (suc p) ss) z.0 top;
            right = at_rank sure want b rank p _ (list_top c (suc p) ss) z.0 top;
            guard = tt;
            stores = λ es j m em el lt.
                let low = level_low 0 b.nodes k (rank j)
                (λ y n i e s fs en. let d : y ≡ i = omega (arith, e) in
                subst (λ (q : ℕ). rank q < rank j) d (ord.stores y j n m s em fs el (omega (arith, en, lt))))
                in
                let up = scaled_le (step sure want b rank) (level sure want b rank ss) (rank j) low in
                let len = stores_length 0 b.nodes k in
                let d = (z.0).is in
                omega (arith, up, len, d);
            loads = λ e. absurd (cc);
          },
          list_ok sure want b rank (number_base sure want b rank k) (suc p) ss cov z.1,
        ))

    numbers_ok : (m p k : ℕ) → Each Stands p (numbers_ranks sure want b rank k m)
        → ((q : ℕ) → All (FitsFlowSource b) (stores_of 0 b.nodes q))
        → Each NodeOk p (numbers_part sure want b p k m)
    numbers_ok zero p k x fit = tt
    numbers_ok (suc m) p k x fit =
        let l = number_fits sure want b rank k in
        let l2 = number_length sure want b p k in
        each_append NodeOk p (p + number_size sure want b k) (number_part sure want b p k) _ (omega (arith, l2))
        (number_ok p k (each_front Stands p (number_ranks sure want b rank k) _ x) (fit k))
        (numbers_ok m (p + number_size sure want b k) (suc k)
        (each_back Stands p (number_ranks sure want b rank k) _ x (p + number_size sure want b k)
        (omega (arith, l))) fit)

    -- the added nodes of all numbers fit, and take what stands below them
    pub all_numbers_ok : (p : ℕ) → Each Stands p (all_number_ranks sure want b rank)
        → ((q : ℕ) → All (FitsFlowSource b) (stores_of 0 b.nodes q)) → p ≡ numbers_at sure want b
        → Each NodeOk p (all_numbers sure want b)
    unfolding all_numbers all_number_ranks
    all_numbers_ok p x fit e =
        subst (λ (i : ℕ). Each NodeOk i (numbers_part sure want b (numbers_at sure want b) 0 32)) (sym e)
        (numbers_ok 32 (numbers_at sure want b) 0
        (subst (λ (i : ℕ). Each Stands i (numbers_ranks sure want b rank 0 32)) e x) fit)
