-- The mark of what a frame's node gives is that of the table, once its token is there.
use Rattle.std.proofs.Common.{◌≡◌, ◌≢◌, ℕ, zero, suc, ◌+◌, ◌<◌, Bool, true, false, cond, List, [], ◌∷◌}
use Rattle.std.proofs.Common.{Option, Some, None, slice_get, set, get_or, length, refl, sym, ap, ap₂}
use Rattle.std.proofs.Common.{◌∙◌, arith}
use Rattle.std.proofs.lemmas.List.{length-replicate}
use Rattle.trips_isa.specs.declared.block.Token.TheVariants.{Null, Word}
use Rattle.trips_isa.specs.declared.block.Sense.{Sense}
use Rattle.trips_isa.specs.declared.block.Sense.TheVariants.{Always, OnTrue, OnFalse}
use Rattle.trips_isa.specs.declared.form.Role.{Role}
use Rattle.trips_isa.specs.declared.form.Role.TheVariants.{Empty, Reading, Free, Nothing, Copy, One, Both}
use Rattle.trips_isa.specs.declared.node.Node.{Node}
use Rattle.trips_isa.specs.declared.block.Block.{Block}
use Rattle.trips_isa.specs.Forms.{takes_left, takes_right}
use Rattle.trips_isa.specs.Rule.{Answer, matched, gives, if_matched}
use Rattle.trips_isa.specs.Operands.{operands, is_guarded}
use Rattle.trips_isa.specs.Places.{nodes_of}
use Rattle.trips_isa.specs.Tables.{node_gives}
use Rattle.trips_isa.specs.Blocks.{Responses, at_place, computes}
use Rattle.trips_isa.specs.inside.Blocks.{Solves}
use Rattle.trips_isa.specs.Faults.{node_fault}
use Rattle.trips_isa.specs.Marks.{mark_by, beside, or_unmarked, mark_at, fired_mark, node_mark, mark_given}
use Rattle.trips_isa.specs.inside.Marks.{IsMarking}
use Rattle.block_cases.specs.inside.Good.{NamesPlace}
use Rattle.commit_flush_spec.specs.Marks.{mark_on, zeros}
use Rattle.commit_flush_spec.specs.Frames.{Frame, at}
use Rattle.commit_flush_spec.specs.Sending.{token_with, mark_with}
use Rattle.commit_flush_spec.specs.inside.Invariant.{Below, IsRunnable}
use Rattle.commit_flush_spec.proofs.Tokens.{there, placed_is}

-- lists of marks ---------------------------------------------------------------------------------

-- a mark that is written inside a list stands there
pub mark_here : (xs : List ℕ) (i c : ℕ) → i < length xs → get_or (set xs i c) i 0 ≡ c
mark_here [] i c l = absurd (omega arith)
mark_here (x ∷ xs) zero c l = refl
mark_here (x ∷ xs) (suc i) c l = mark_here xs i c (omega arith)

-- a mark that is written leaves all other places
pub mark_other : (xs : List ℕ) (i j c : ℕ) → j ≢ i → get_or (set xs i c) j 0 ≡ get_or xs j 0
mark_other [] i j c n = refl
mark_other (x ∷ xs) zero zero c n = absurd (n refl)
mark_other (x ∷ xs) zero (suc j) c n = refl
mark_other (x ∷ xs) (suc i) zero c n = refl
mark_other (x ∷ xs) (suc i) (suc j) c n = mark_other xs i j c (λ e. n (ap suc e))

-- a list of n zeros has length n
pub zeros_size : (n : ℕ) → length (zeros n) ≡ n
unfolding zeros
zeros_size n = length-replicate {A = ℕ} n 0

-- what fires has the marks that it takes ---------------------------------------------------------

guard_same : (s : Sense) (p : Answer) (c d : ℕ) → matched s p ≡ true → (p ≢ None → c ≡ d)
    → cond (is_guarded s) c 0 ≡ cond (is_guarded s) d 0
guard_same Always p c d e h = refl
guard_same OnTrue None c d e h = absurd (cc)
guard_same OnTrue (Some t) c d e h = h (λ z. cc)
guard_same OnFalse None c d e h = absurd (cc)
guard_same OnFalse (Some t) c d e h = h (λ z. cc)

left_same : (e : Role) (a : ℕ → ℕ → ℕ) (l r : Answer) (c d : ℕ) → gives e a l r ≢ None → (l ≢ None → c ≡ d)
    → cond (takes_left e) c 0 ≡ cond (takes_left e) d 0
left_same Empty a l r c d n h = refl
left_same Reading a l r c d n h = refl
left_same Free a l r c d n h = refl
left_same Nothing a l r c d n h = refl
left_same Copy a l r c d n h = h n
left_same One a None r c d n h = absurd (n refl)
left_same One a (Some t) r c d n h = h (λ z. cc)
left_same Both a None r c d n h = absurd (n refl)
left_same Both a (Some t) r c d n h = h (λ z. cc)

right_same : (e : Role) (a : ℕ → ℕ → ℕ) (l r : Answer) (c d : ℕ) → gives e a l r ≢ None → (r ≢ None → c ≡ d)
    → cond (takes_right e) c 0 ≡ cond (takes_right e) d 0
right_same Empty a l r c d n h = refl
right_same Reading a l r c d n h = refl
right_same Free a l r c d n h = refl
right_same Nothing a l r c d n h = refl
right_same Copy a l r c d n h = refl
right_same One a l r c d n h = refl
right_same Both a None r c d n h = absurd (n refl)
right_same Both a (Some Null) None c d n h = absurd (n refl)
right_same Both a (Some (Word v)) None c d n h = absurd (n refl)
right_same Both a (Some t) (Some u) c d n h = h (λ z. cc)

operands_same : (e : Role) (a : ℕ → ℕ → ℕ) (l r l' r' : Answer) → gives e a l r ≢ None → Below l l' → Below r r'
    → operands e l r ≡ operands e l' r'
operands_same Empty a l r l' r' n h k = refl
operands_same Reading a l r l' r' n h k = refl
operands_same Free a l r l' r' n h k = refl
operands_same Nothing a l r l' r' n h k = refl
operands_same Copy a None r l' r' n h k = absurd (n refl)
operands_same Copy a (Some t) r l' r' n h k = ap (λ u. operands Copy u r) h
operands_same One a None r l' r' n h k = absurd (n refl)
operands_same One a (Some t) r l' r' n h k = ap (λ u. operands One u r) h
operands_same Both a None r l' r' n h k = absurd (n refl)
operands_same Both a (Some Null) None l' r' n h k = absurd (n refl)
operands_same Both a (Some (Word v)) None l' r' n h k = absurd (n refl)
operands_same Both a (Some t) (Some u) l' r' n h k = ap₂ (operands Both) h k

gated : (b : Bool) (t : Answer) → if_matched b t ≢ None → (b ≡ true) × (t ≢ None)
gated true t n = (refl, n)
gated false t n = absurd (n refl)

-- a node that gives has the same mark where more has come
fired_same : (n : Node) (own a : ℕ → ℕ → ℕ) (p p' : ℕ → Answer) (m m' : ℕ → ℕ) → ((q : ℕ) → Below (p q) (p' q))
    → ((q : ℕ) → p q ≢ None → m q ≡ m' q) → node_gives (Some n) a p ≢ None
    → fired_mark n own p m ≡ fired_mark n own p' m'
fired_same n own a p p' m m' h k some =
    let two = gated (matched n.sense (p (256 + n.slot))) (gives n.role a (p n.slot) (p (128 + n.slot))) some in
    ap (λ o. mark_by own o (cond (takes_left n.role) (m n.slot) 0) (cond (takes_right n.role) (m (128 + n.slot)) 0)
    (cond (is_guarded n.sense) (m (256 + n.slot)) 0))
    (operands_same n.role a (p n.slot) (p (128 + n.slot)) (p' n.slot) (p' (128 + n.slot)) two.1 (h n.slot)
    (h (128 + n.slot)))
    ∙ ap (λ c. mark_by own (operands n.role (p' n.slot) (p' (128 + n.slot))) c
    (cond (takes_right n.role) (m (128 + n.slot)) 0) (cond (is_guarded n.sense) (m (256 + n.slot)) 0))
    (left_same n.role a (p n.slot) (p (128 + n.slot)) (m n.slot) (m' n.slot) two.1 (k n.slot))
    ∙ ap₂ (λ c d. mark_by own (operands n.role (p' n.slot) (p' (128 + n.slot)))
    (cond (takes_left n.role) (m' n.slot) 0) c d)
    (right_same n.role a (p n.slot) (p (128 + n.slot)) (m (128 + n.slot)) (m' (128 + n.slot)) two.1
    (k (128 + n.slot)))
    (guard_same n.sense (p (256 + n.slot)) (m (256 + n.slot)) (m' (256 + n.slot)) two.0 (k (256 + n.slot)))

node_same : (o : Option Node) (own a : ℕ → ℕ → ℕ) (p p' : ℕ → Answer) (m m' : ℕ → ℕ) (t : Answer)
    → ((q : ℕ) → Below (p q) (p' q)) → ((q : ℕ) → p q ≢ None → m q ≡ m' q) → node_gives o a p ≢ None → t ≢ None
    → node_mark o own p m (node_gives o a p) ≡ node_mark o own p' m' t
node_same None own a p p' m m' t h k some other = absurd (some refl)
node_same (Some n) own a p p' m m' None h k some other = absurd (other refl)
node_same (Some n) own a p p' m m' (Some u) h k some other = go (node_gives (Some n) a p) some
  where
    go : (v : Answer) → v ≢ None → node_mark (Some n) own p m v ≡ node_mark (Some n) own p' m' (Some u)
    go None z = absurd (z refl)
    go (Some v) z = fired_same n own a p p' m m' h k some

-- the mark that a node sends is the marking's
pub marked : (f : Frame) (x : ℕ) (a : Responses) (g : ℕ → Answer) → Solves f.code a g
    → ((q : ℕ) → Below (at f.spots q) (at_place f.code g q)) → (m : ℕ → ℕ) → IsMarking f.code g m
    → ((q : ℕ) → at f.spots q ≢ None → mark_on f.marks.spots q ≡ mark_at (nodes_of f.code) g m q)
    → token_with f x 0 ≢ None → mark_with f x ≡ m x
unfolding mark_given
marked f x a g sol h m mk k some =
    node_same (slice_get (nodes_of f.code) x) (node_fault f.code x) (computes f.code (λ y z. 0) x) (at f.spots)
    (at_place f.code g) (mark_on f.marks.spots) (mark_at (nodes_of f.code) g m) (g x) h k some
    (there f x 0 a g sol h some) ∙ sym (mk x)

-- at a place that a node names stands its mark
pub mark_placed : (b : Block) → IsRunnable b → (a : Responses) (g : ℕ → Answer) → Solves b a g → (m : ℕ → ℕ)
    → (q x : ℕ) → q < 449 → NamesPlace (nodes_of b) x q → g x ≢ None → mark_at (nodes_of b) g m q ≡ m x
mark_placed b good a g sol m q x lt n some =
    ap or_unmarked (placed_is b good a g sol (λ y. beside (g y) (m y)) from q x lt n (to (g x) some))
    ∙ same (g x) some
  where
    same : (t : Answer) → t ≢ None → or_unmarked (beside t (m x)) ≡ m x
    same None z = absurd (z refl)
    same (Some t) z = refl

    to : (t : Answer) → t ≢ None → beside t (m x) ≢ None
    to None z = absurd (z refl)
    to (Some t) z = λ w. cc

    from : (j : ℕ) → beside (g j) (m j) ≢ None → g j ≢ None
    from j n z = n (ap (λ t. beside t (m j)) z)
