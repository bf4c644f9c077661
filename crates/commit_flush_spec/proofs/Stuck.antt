-- A quiet frame that loses no token has all its outputs: by the order of the nodes, each node that gives a token has
-- given it.
use Rattle.std.proofs.Common.{◌≡◌, ◌≢◌, ℕ, zero, suc, ◌+◌, ◌*◌, ◌%◌, ◌<◌, ◌≤◌, Bool, true, false, not, ◌||◌}
use Rattle.std.proofs.Common.{◌==◌, inl, inr, List, [], ◌∷◌, Some, None, slice_get, get_or, length}
use Rattle.std.proofs.Common.{is_some, refl, sym, ap, ap₂, ◌∙◌, subst, true≢false, arith}
use Rattle.std.specs.Prelude.{All}
use Rattle.std.proofs.lemmas.List.Elements.{All-head, All-tail}
use Rattle.std.proofs.lemmas.Bool.Decides.{nat_tests}
use Rattle.trips_isa.specs.declared.block.Inst.{Inst}
use Rattle.trips_isa.specs.declared.block.ReadSlot.{ReadSlot}
use Rattle.trips_isa.specs.declared.block.Spot.TheVariants as spot
use Rattle.trips_isa.specs.declared.block.Block.{Block}
use Rattle.trips_isa.specs.declared.node.Node.{Node}
use Rattle.trips_isa.specs.declared.form.Form.{Form}
use Rattle.trips_isa.specs.declared.form.Form.TheVariants.{General, Immediate, Load, Store, Branch, Constant}
use Rattle.trips_isa.specs.Forms.{form_of, is_load, is_store}
use Rattle.trips_isa.specs.Fits.{FitsRead}
use Rattle.trips_isa.specs.Rule.{Answer}
use Rattle.trips_isa.specs.Places.{nodes_of, inst_node, targets, names, load_bound, in_mask}
use Rattle.trips_isa.specs.Tables.{node_gives, stores_below, Edge, Ranked}
use Rattle.trips_isa.specs.Blocks.{at_place, computes}
use Rattle.trips_isa.specs.inside.Blocks.{Solves}
use Rattle.trips_isa.specs.Limits.{most_nodes}
use Rattle.block_cases.specs.Orders.{slot_of}
use Rattle.block_cases.specs.inside.Good.{NamesPlace, OneToken}
use Rattle.block_cases.specs.Blocks.{wanted_of}
use Rattle.block_cases.specs.inside.Shapes.{shape}
use Rattle.block_cases.proofs.Alike.{both_true as both_are}
use Rattle.block_cases.proofs.Nodes.{taken_same}
use Rattle.block_cases.proofs.Steady.{to_left, to_right, to_predicate, or_right}
use Rattle.block_cases.proofs.Unique.{node_same}
use Rattle.block_check.proofs.Spots.{owed_wanted, mask_below, lt_true}
use Rattle.commit_flush_spec.specs.Frames.{Frame, at, numbers, slot_node, source, target, named_at, is_target}
use Rattle.commit_flush_spec.specs.Sending.{token_with}
use Rattle.commit_flush_spec.specs.Older.{Older}
use Rattle.commit_flush_spec.specs.Ends.{write_came, store_came, complete}
use Rattle.commit_flush_spec.specs.inside.Invariant.{Holds, FrameOk, IsRunnable, AllGood, has_sent, slot_sent}
use Rattle.commit_flush_spec.specs.inside.Invariant.{inst_sent}
use Rattle.commit_flush_spec.specs.inside.Laws.{NoneLost}
use Rattle.commit_flush_spec.proofs.Lists.{below_is, none_or}
use Rattle.commit_flush_spec.proofs.Tokens.{inst_in, one_law}
use Rattle.commit_flush_spec.proofs.Frames.{own, seen, own_solves, own_holds}
use Rattle.commit_flush_spec.proofs.Sends.{slot_source, slot_sends, read_source, read_sends}
use Rattle.commit_flush_spec.proofs.Stored.{inst_fits, number_small, first_holds}
use Rattle.commit_flush_spec.specs.inside.NextEvent.{stores_came}
use Rattle.commit_flush_spec.proofs.Search.{some_is, is_there, all_from}
use Rattle.commit_flush_spec.proofs.Producers.{IsNode, AtRead, AtSlot, a_node, node_of_slot, named_or}
use Rattle.commit_flush_spec.proofs.Producers.{slot_names, read_names, giver, node_gives_too}
use Rattle.commit_flush_spec.proofs.QuietFrames.{Quiet}

-- the numbers of loads and stores
pub numbers_are : numbers ≡ 32
unfolding numbers
numbers_are = refl

named_below : (ts : List ℕ) (m k : ℕ) → m < k → names ts (416 + m) ≡ true → stores_below ts (416 + k) ≡ true
named_below [] m k l e = absurd (cc)
named_below (t ∷ ts) m k l e = grind (arith, nat_tests, named_below ts m k l)

load_below : (t : Form) (n : ℕ) → is_load t ≡ true → load_bound t n ≡ 416 + n
load_below General n e = absurd (cc)
load_below Immediate n e = absurd (cc)
load_below Constant n e = absurd (cc)
load_below Load n e = refl
load_below Store n e = absurd (cc)
load_below Branch n e = absurd (cc)

-- a node has done what it does: a read is answered, an instruction has fired
pub data HasRun (f : Frame) (y : ℕ) : Type 0 where
  Answered : (slot : ReadSlot) → slice_get f.code.reads.items y ≡ Some slot → get_or f.reads y false ≡ true
      → HasRun f y
  Fired : (s : ℕ) (i : Inst) → y ≡ slot_node f.code s → slot_of f.code s ≡ Some i → get_or f.fired s false ≡ true
      → HasRun f y

module _ (blocks : List Block) (good : AllGood blocks) (o : Older) (f : Frame) (ok : FrameOk blocks o f)
    (lost : NoneLost f) (quiet : Quiet f) where
  abbrev b : Block
  b = f.code

  runnable : IsRunnable b
  runnable = good f.block b ok.code

  -- the table of what the frame sees now
  abbrev g : ℕ → Answer
  g = own o f

  solves : Solves b (seen o f) g
  solves = own_solves blocks good o f ok

  holds : Holds blocks f g
  holds = own_holds blocks good o f ok

  one : OneToken (nodes_of b) (wanted_of b) (λ x. shape (g x))
  one = one_law b (good f.block b ok.code) (seen o f) (own o f) (own_solves blocks good o f ok)

  rank : ℕ → ℕ
  rank = (good f.block b ok.code).good.ranked.0

  ranked : Ranked (nodes_of b) rank
  unfolding rank
  ranked = (good f.block b ok.code).good.ranked.1

  small : (s : ℕ) (i : Inst) → slot_of b s ≡ Some i → s < 128
  small s i e =
      let lt : s < length b.insts.items = inst_in b.insts.items s i e in
      let all : length b.insts.items ≡ 128 = (runnable).fits.insts in
      omega (arith, lt, all)

  read_fits : (r : ℕ) (slot : ReadSlot) → slice_get b.reads.items r ≡ Some slot → FitsRead slot
  read_fits r slot e = each b.reads.items (runnable).fits.each_read r e
    where
      each : (rs : List ReadSlot) → All FitsRead rs → (k : ℕ) → slice_get rs k ≡ Some slot → FitsRead slot
      each [] all k i = absurd (cc)
      each (x ∷ rs) all zero i = let same : x ≡ slot = cc in subst FitsRead same (All-head FitsRead x rs all)
      each (x ∷ rs) all (suc k) i = each rs (All-tail FitsRead x rs all) k i

  -- outputs --------------------------------------------------------------------------------------

  -- the store of a number that a node names that has run
  resolved : (y n : ℕ) → n < 32 → NamesPlace (nodes_of b) y (416 + n) → HasRun f y → at f.stores n ≢ None
  resolved y n l nm (Answered slot e h) =
      absurd (read_names b y (416 + n) slot (read_fits y slot e) (omega arith, omega arith) e nm)
  resolved y n l nm (Fired s i d e h) =
      elim (slot_names b s (416 + n) i (inst_fits b (runnable).fits s i e) (omega arith, omega arith) e
      (subst (λ z. NamesPlace (nodes_of b) z (416 + n)) d nm)) [
        | inl p ↦
            let same : i.number ≡ n = (let q : 416 + i.number ≡ 416 + n = p.1 in omega (arith, q)) in
            let kind : is_store (form_of i.op) ≡ true = ap is_store p.0 in
            subst (λ k. at f.stores k ≢ None) same
            (elim (lost.stores s i e kind h) [ inl z ↦ z | inr z ↦ quiet.stores s i e kind z ])
        | inr p ↦ absurd (let q : 448 ≡ 416 + n = p.1 in omega (arith, q, l))
      ]

  -- a number of the mask has its store where every node that names it has run
  masked : (n : ℕ) → in_mask b.mask n ≡ true
      → ((y : ℕ) → NamesPlace (nodes_of b) y (416 + n) → g y ≢ None → HasRun f y) → at f.stores n ≢ None
  masked n e h =
      let l : n < 32 = mask_below b.mask n e in
      let y = giver (nodes_of b) g (416 + n)
      ((one).exactly (416 + n) (omega (arith, l)) (owed_wanted b (spot.Store n) e)) in
      resolved y.0 n l y.1 (h y.0 y.1 y.2)

  -- places ---------------------------------------------------------------------------------------

  -- a token that was sent to a spot stands there
  stands : (p q : ℕ) → has_sent f p ≡ true → target b p ≡ q → q < 416 → at f.spots q ≢ None
  stands p q sent e l =
      let low : is_target (target b p) ≡ true = ap is_target e ∙ lt_true q 416 l in
      elim (lost.tokens p sent low) [
        | inl z ↦ absurd (z (quiet.tokens p low))
        | inr z ↦ subst (λ r. at f.spots r ≢ None) e z
      ]

  -- so does one that a node sent from its two places
  sent_to : (x p q : ℕ) → p % 2 ≡ 0 → (source b p ≡ x) × (source b (suc p) ≡ x) → (has_sent f p ≡ true)
      × (has_sent f (suc p) ≡ true) → NamesPlace (nodes_of b) x q → q < 416 → at f.spots q ≢ None
  sent_to x p q even from sent (m, i, nm) l = elim (named_or m.first m.second q nm) [
    | inl z ↦
        let par : (p % 2 == 0) ≡ true = grind (arith, nat_tests) in
        stands p q sent.0 (ap₂ (λ y c. named_at (slice_get (nodes_of b) y) c) from.0 par
        ∙ ap (λ n. named_at n true) i ∙ z) l
    | inr z ↦
        let odd : suc p % 2 ≡ 1 = omega (arith, even) in
        let par : (suc p % 2 == 0) ≡ false = grind (arith, nat_tests) in
        stands (suc p) q sent.1 (ap₂ (λ y c. named_at (slice_get (nodes_of b) y) c) from.1 par
        ∙ ap (λ n. named_at n false) i ∙ z) l
  ]

  -- the nodes of rank below k that give a token have run
  abbrev Before : ℕ → Type 0
  Before k = (y : ℕ) → rank y < k → g y ≢ None → HasRun f y

  -- a load that has fired has sent its token, since the stores that it may see have come
  answered : (s : ℕ) (i : Inst) → slot_of b s ≡ Some i → is_load (form_of i.op) ≡ true → get_or f.fired s false ≡ true
      → Before (rank (slot_node b s)) → at f.loads i.number ≢ None
  answered s i e k h before = elim (lost.loads s i e k h) [
    | inl z ↦ z
    | inr z ↦ absurd (true≢false (sym came ∙ quiet.loads s i e k z))
  ]
    where
      edge : (m y : ℕ) → m < i.number → NamesPlace (nodes_of b) y (416 + m) → Edge (nodes_of b) y (slot_node b s)
      edge m y l (n, d, nm) = record {
        source = n;
        target = inst_node s (Some i);
        is_source = d;
        is_target = node_of_slot b s i e;
        fed = or_right (names (targets n) s) _ (or_right (names (targets n) (128 + s)) _
            (or_right (names (targets n) (256 + s)) _
            (subst (λ t. stores_below (targets n) t ≡ true) (sym (load_below (form_of i.op) i.number k))
            (named_below (targets n) m i.number l nm))));
      }

      one_came : (m : ℕ) → m < i.number → store_came f m ≡ true
      one_came m l = go (in_mask b.mask m) refl
        where
          go : (c : Bool) → in_mask b.mask m ≡ c → (not c || is_some (at f.stores m)) ≡ true
          go false w = refl
          go true w = some_is (at f.stores m) (masked m w
              (λ y nm n. before y ((ranked).rises y (slot_node b s) (edge m y l nm)) n))

      came : stores_came f i.number ≡ true
      came = all_from (store_came f) i.number one_came

  -- what a node that has run names has its token
  arrives : (y q : ℕ) → Before (rank y) → HasRun f y → NamesPlace (nodes_of b) y q → q < 416 → at f.spots q ≢ None
  arrives y q before (Answered slot e h) nm l =
      let even : (256 + 2 * y) % 2 ≡ 0 = omega arith in
      sent_to y (256 + 2 * y) q even (read_source b y) ((read_sends f y).0 ∙ h, (read_sends f y).1 ∙ h) nm l
  arrives y q before (Fired s i d e h) nm l =
      let even : 2 * s % 2 ≡ 0 = omega arith in
      let lt : s < 128 = small s i e in
      sent_to (slot_node b s) (2 * s) q even (slot_source b s lt)
      ((slot_sends f s lt).0 ∙ sent, (slot_sends f s lt).1 ∙ sent)
      (subst (λ z. NamesPlace (nodes_of b) z q) d nm) l
    where
      inst : (c : Bool) → is_load (form_of i.op) ≡ c → (not c || is_some (at f.loads i.number)) ≡ true
      inst false w = refl
      inst true w = some_is (at f.loads i.number) (answered s i e w h (subst (λ z. Before (rank z)) d before))

      sent : slot_sent f s ≡ true
      sent = both_are _ _ h (ap (inst_sent f) e ∙ inst (is_load (form_of i.op)) refl)

  -- nodes ----------------------------------------------------------------------------------------

  -- a spot is as the table says where the nodes that name it have run
  level : (q : ℕ) → q < 416 → ((y : ℕ) (m : Node) → slice_get (nodes_of b) y ≡ Some m → names (targets m) q ≡ true
      → g y ≢ None → at f.spots q ≢ None) → at f.spots q ≡ at_place b g q
  level q l h = elim (none_or (at f.spots q)) [
    | inl z ↦ z ∙ sym (taken_same (nodes_of b) q g (λ y. None)
        (λ y m i nm. elim (none_or (g y)) [ inl w ↦ w | inr w ↦ absurd (h y m i nm w z) ])
        ∙ first_holds (λ t. t ≡ None) refl (nodes_of b) q (λ y. None) (λ y. refl))
    | inr z ↦ below_is _ _ ((holds).spots q) z
  ]

  -- an instruction that gives a token has what it takes
  ready : (s : ℕ) (i : Inst) → slot_of b s ≡ Some i → g (slot_node b s) ≢ None → Before (rank (slot_node b s))
      → token_with f (slot_node b s) 0 ≢ None
  ready s i e n before =
      is_there _ (ap (λ m. is_some (node_gives m (computes b (λ y a. 0) (slot_node b s)) (at f.spots))) here
      ∙ ap is_some (node_same (inst_node s (Some i)) (computes b (λ y a. 0) (slot_node b s)) (at f.spots)
      (at_place b g) left right predicate)
      ∙ node_gives_too (inst_node s (Some i)) (computes b (λ y a. 0) (slot_node b s))
      (computes b (seen o f) (slot_node b s)) (at_place b g)
      ∙ sym (ap (λ m. is_some (node_gives m (computes b (seen o f) (slot_node b s)) (at_place b g))) here)
      ∙ sym (ap is_some (solves (slot_node b s))) ∙ some_is _ n)
    where
      here : slice_get (nodes_of b) (slot_node b s) ≡ Some (inst_node s (Some i))
      here = node_of_slot b s i e

      lt : s < 128
      lt = small s i e

      -- a node that feeds this one has run, and its token has come
      came : (q y : ℕ) (m : Node) → q < 416 → slice_get (nodes_of b) y ≡ Some m → names (targets m) q ≡ true
          → Edge (nodes_of b) y (slot_node b s) → g y ≢ None → at f.spots q ≢ None
      came q y m l j nm edge w =
          let up : rank y < rank (slot_node b s) = (ranked).rises y (slot_node b s) edge in
          arrives y q (λ z lz. before z (omega (arith, lz, up))) (before y up w) (m, j, nm) l

      left : at f.spots s ≡ at_place b g s
      left = level s (let l = lt in omega (arith, l)) (λ y m j nm. came s y m (let l = lt in omega (arith, l)) j nm
          (to_left (nodes_of b) (slot_node b s) y m (inst_node s (Some i)) j here nm))

      right : at f.spots (128 + s) ≡ at_place b g (128 + s)
      right = level (128 + s) (let l = lt in omega (arith, l))
          (λ y m j nm. came (128 + s) y m (let l = lt in omega (arith, l)) j nm
          (to_right (nodes_of b) (slot_node b s) y m (inst_node s (Some i)) j here nm))

      predicate : at f.spots (256 + s) ≡ at_place b g (256 + s)
      predicate = level (256 + s) (let l = lt in omega (arith, l))
          (λ y m j nm. came (256 + s) y m (let l = lt in omega (arith, l)) j nm
          (to_predicate (nodes_of b) (slot_node b s) y m (inst_node s (Some i)) j here nm))

  runs_next : (y : ℕ) → Before (rank y) → g y ≢ None → HasRun f y
  runs_next y before n = by (a_node b (seen o f) g (solves) y n)
    where
      by : IsNode b y → HasRun f y
      by (AtRead slot e) = Answered slot e (quiet.reads y slot e)
      by (AtSlot s i d e) = Fired s i d e (quiet.fires s i e
          (ready s i e (subst (λ z. g z ≢ None) d n) (subst (λ z. Before (rank z)) d before)))

  all_run : (k : ℕ) → Before k
  all_run zero y l n = absurd (omega (arith, l))
  all_run (suc k) y l n = runs_next y (λ z lz m. all_run k z (omega (arith, l, lz)) m) n

  each_runs : (y : ℕ) → g y ≢ None → HasRun f y
  each_runs y n = all_run most_nodes y ((ranked).below y) n

  -- all outputs ----------------------------------------------------------------------------------

  writes : (w : ℕ) → w < length b.writes.items → write_came f w ≡ true
  writes w l =
      let few : length b.writes.items ≤ 32 = (runnable).fits.writes in
      let y = giver (nodes_of b) g (384 + w)
      ((one).exactly (384 + w) (omega (arith, l, few)) (owed_wanted b (spot.Write w) l)) in
      some_is (at f.spots (384 + w))
      (arrives y.0 (384 + w) (λ z lz. each_runs z) (each_runs y.0 y.2) y.1 (omega (arith, l, few)))

  stores : (n : ℕ) → store_came f n ≡ true
  stores n = go (in_mask b.mask n) refl
    where
      go : (c : Bool) → in_mask b.mask n ≡ c → (not c || is_some (at f.stores n)) ≡ true
      go false w = refl
      go true w = some_is (at f.stores n) (masked n w (λ y nm. each_runs y))

  exits : is_some f.exit ≡ true
  exits =
      let y = giver (nodes_of b) g 448 (one).exit in
      some_is f.exit (by y.0 y.1 (each_runs y.0 y.2))
    where
      by : (y : ℕ) → NamesPlace (nodes_of b) y 448 → HasRun f y → f.exit ≢ None
      by y nm (Answered slot e h) =
          absurd (read_names b y 448 slot (read_fits y slot e) (omega arith, omega arith) e nm)
      by y nm (Fired s i d e h) =
          elim (slot_names b s 448 i (inst_fits b (runnable).fits s i e) (omega arith, omega arith) e
          (subst (λ z. NamesPlace (nodes_of b) z 448) d nm)) [
            | inl p ↦ absurd (let n = number_small b (runnable).fits s i e in let q : 416 + i.number ≡ 448 = p.1 in
                omega (arith, n, q))
            | inr p ↦ elim (lost.exits s i e p.0 h) [
              | inl z ↦ z
              | inr z ↦ absurd (let bad : None ≡ Some s = sym quiet.exits ∙ z in cc)
            ]
          ]

  -- a quiet frame that has lost no token has all its outputs
  pub quiet_is_complete : complete f ≡ true
  quiet_is_complete = both_are _ _ (all_from (write_came f) (length b.writes.items) writes)
      (both_are _ _ (all_from (store_came f) numbers (λ n l. stores n)) exits)
