-- The numbers of frames in flight, each of which is below 8 and stands once.
use Rattle.std.proofs.Common.{◌≡◌, ℕ, zero, suc, ◌<◌, ◌==◌, true, List, [], ◌∷◌, sym, refl, ◌∙◌, arith}
use Rattle.std.proofs.Common.{get_or, true≢false}
use Rattle.std.specs.Prelude.{All}
use Rattle.std.proofs.lemmas.Bool.{eq-eqb}
use Rattle.std.proofs.lemmas.List.Elements.{All-nil, All-cons}
use Rattle.std.proofs.lemmas.List.Folds.{list_any_at}
use Rattle.operand_net.specs.inside.Places.{Once}
use Rattle.commit_flush_spec.specs.Frames.{Frame}
use Rattle.commit_flush_spec.specs.InFlight.{lowest_empty}
use Rattle.commit_flush_spec.specs.inside.Laws.{AreNumbers}
use Rattle.commit_flush.specs.inside.Places.{free_number}

-- the number of each frame in flight is below 8
pub all_below : (ns : List ℕ) → AreNumbers ns → All (λ n. n < 8) ns
all_below [] h = All-nil (λ n. n < 8)
all_below (n ∷ ns) h = All-cons (λ m. m < 8) n ns h.0 (all_below ns h.2)

-- the number of each frame in flight stands once
pub each_once : (ns : List ℕ) → AreNumbers ns → Once ns
each_once [] h i j l m e = absurd (omega arith)
each_once (n ∷ ns) h zero zero l m e = absurd (omega arith)
each_once (n ∷ ns) h zero (suc j) l m e =
    true≢false (sym (list_any_at (λ k. k == n) ns j 0 (omega arith) (eq-eqb (get_or ns j 0) n (sym e))) ∙ h.1)
each_once (n ∷ ns) h (suc i) zero l m e = absurd (omega arith)
each_once (n ∷ ns) h (suc i) (suc j) l m e = each_once ns h.2 i j (omega arith) (omega arith) e

-- the lowest number that no frame has
pub free_is : (fs : List Frame) → free_number fs ≡ lowest_empty 8 0 fs
unfolding free_number
free_is fs = refl
