-- How many frames an exit leaves.
use Rattle.std.proofs.Common.{◌≡◌, ℕ, suc, Bool, true, false, cond, ◌==◌, List, [], ◌∷◌, Option, Some, None}
use Rattle.std.proofs.Common.{length, slice_get, refl, sym, ap, ◌∙◌}
use Rattle.trips_isa.specs.declared.block.Block.{Block}
use Rattle.commit_flush_spec.specs.Frames.{Frame}
use Rattle.commit_flush_spec.specs.Older.{Older, after, follows, successor_of}
use Rattle.commit_flush_spec.specs.Ends.{exit_by, branch_of}
use Rattle.commit_flush_spec.specs.Dropping.{left_by, exit_leaves, exit_left}
use Rattle.commit_flush.specs.inside.Places.{later, age_of}
use Rattle.frame_state.specs.inside.Told.{block_in, leads_to}
use Rattle.commit_flush.specs.inside.Left.{left_behind}

exit_leaves_is : (known : Option ℕ) (fs : List Frame)
    → suc (exit_leaves known fs) ≡ left_behind 0 known (block_in (slice_get fs 0)) (suc (length fs))
exit_leaves_is known [] = refl
exit_leaves_is known (g ∷ gs) = go (follows known g.block)
  where
    go : (b : Bool) → suc (cond b (suc (length gs)) 0) ≡ cond b (suc (suc (length gs))) 1
    go true = refl
    go false = refl

one_later : (a : ℕ) (known : Option ℕ) (k : Option ℕ) (n : ℕ)
    → suc (left_behind a known k n) ≡ left_behind (suc a) known k (suc n)
one_later a known None n = refl
one_later a known (Some k) n = go (follows known k)
  where
    go : (b : Bool) → suc (cond b n (suc a)) ≡ cond b (suc n) (suc (suc a))
    go true = refl
    go false = refl

-- an exit leaves all frames, or those to its own where the next one holds another block
pub exit_leaves_by : (blocks : List Block) (o : Older) (fs : List Frame) (n a : ℕ) (f : Frame)
    → age_of n fs ≡ Some a → slice_get fs a ≡ Some f
    → left_by (exit_left blocks) o fs n
    ≡ left_behind a (leads_to blocks (Some f)) (block_in (slice_get fs (suc a))) (length fs)
exit_leaves_by blocks o [] n a f e w = absurd (cc)
exit_leaves_by blocks o (g ∷ gs) n a f e w =
    go (g.number == n) e (age_of n gs) refl (λ k q u. exit_leaves_by blocks (after g o) gs n k f q u)
  where
    go : (b : Bool) → cond b (Some 0) (later (age_of n gs)) ≡ Some a → (p : Option ℕ) → age_of n gs ≡ p
        → ((k : ℕ) → age_of n gs ≡ Some k → slice_get gs k ≡ Some f → left_by (exit_left blocks) (after g o) gs n
        ≡ left_behind k (leads_to blocks (Some f)) (block_in (slice_get gs (suc k))) (length gs))
        → cond b (exit_left blocks o g gs) (suc (left_by (exit_left blocks) (after g o) gs n))
        ≡ left_behind a (leads_to blocks (Some f)) (block_in (slice_get (g ∷ gs) (suc a))) (length (g ∷ gs))
    go true u p q rest =
        let here : 0 ≡ a = cc in
        let same : g ≡ f = (let both : Some g ≡ Some f = ap (slice_get (g ∷ gs)) here ∙ w in cc) in
        exit_leaves_is (successor_of (exit_by blocks g.block (branch_of g g.leaving))) gs
        ∙ ap (λ (h : Frame). left_behind 0 (leads_to blocks (Some h)) (block_in (slice_get gs 0)) (suc (length gs)))
        same
        ∙ ap (λ k. left_behind k (leads_to blocks (Some f)) (block_in (slice_get (g ∷ gs) (suc k))) (suc (length gs)))
        here
    go false u None q rest = absurd (let bad : None ≡ Some a = sym (ap later q) ∙ u in cc)
    go false u (Some k) q rest =
        let both : Some (suc k) ≡ Some a = sym (ap later q) ∙ u in
        let here : suc k ≡ a = cc in
        ap suc (rest k q (ap (slice_get (g ∷ gs)) here ∙ w))
        ∙ one_later k (leads_to blocks (Some f)) (block_in (slice_get gs (suc k))) (length gs)
        ∙ ap (λ j. left_behind j (leads_to blocks (Some f)) (block_in (slice_get (g ∷ gs) (suc j))) (suc (length gs)))
        here
