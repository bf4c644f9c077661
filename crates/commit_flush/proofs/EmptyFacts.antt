-- A window in code of which all frames are flushed.
use Rattle.std.proofs.Common.{◌≡◌, ℕ, ◌<◌, List, [], take, drop, sym, ap, ◌∙◌, subst, arith}
use Rattle.trips_isa.specs.declared.block.Image.{Image}
use Rattle.trips_isa.specs.declared.run.Stepped.{Stepped}
use Rattle.trips_isa.specs.Machine.{Machine}
use Rattle.reg_bank.specs.inside.Ages.{Ages, drop_from}
use Rattle.commit_flush.specs.inside.Kept.{AreKept}
use Rattle.commit_flush.proofs.KeptFacts.{drop_kept}
use Rattle.frame_state.specs.declared.phase.Phase.{Phase}
use Rattle.frame_state.specs.inside.Phases.{slots_of}
use Rattle.commit_flush.specs.Seen.{Seen}
use Rattle.commit_flush.specs.inside.Seen.{IsSound, window_of}
use Rattle.commit_flush.specs.inside.Emptied.{IsEmptied}
use Rattle.commit_flush.proofs.PhaseFacts.{seen}
use Rattle.commit_flush.proofs.EventFacts.{made}

module _ {image : Image} {budget : ℕ} {machine : Machine} {over : Stepped} {phases : List Phase} {order : List ℕ}
    {registers : Ages} (s : IsSound image budget machine over phases order registers) (phases2 : List Phase)
    (emptied : IsEmptied (drop 0 order) phases phases2) where
  -- its parts fit together
  still_sound : (registers2 : Ages) → registers2 ≡ drop_from registers 0
      → IsSound image budget machine over phases2 (take 0 order) registers2
  still_sound registers2 drops = record {
    numbers = emptied.numbers ∙ s.numbers;
    blocks = emptied.blocks image.blocks s.blocks;
    kept = subst (λ z. AreKept z (take 0 order) registers2) (sym (emptied.slots image.blocks))
        (drop_kept (slots_of image.blocks phases) order registers registers2 s.kept 0 (λ a r. ap (λ b. b a r) drops));
    room = s.room;
    checked = s.checked;
    window = record {
      frames = tt;
      kept = tt;
      numbers = tt;
      whole = s.window.whole;
      spent = s.window.spent;
      next = s.window.next;
    };
  }

  -- the same where the calls say so
  pub empties_sound : (order2 : List ℕ) → order2 ≡ take 0 order → (registers2 : Ages)
      → (0 < 8 → registers2 ≡ drop_from registers 0) → IsSound image budget machine over phases2 order2 registers2
  empties_sound order2 cut registers2 dropped =
      subst (λ x. IsSound image budget machine over phases2 x registers2) (sym cut)
      (still_sound registers2 (dropped (omega arith)))

  -- and it is seen without frames
  pub empties_seen : (v : Seen) → seen s ≡ v → (order2 : List ℕ) → order2 ≡ take 0 order
      → (let z : Seen = record {
        image = image;
        budget = budget;
        window = window_of image.blocks machine.state over phases2 order2;
      } in z) ≡ record v { window = record v.window { frames = [] } }
  empties_seen v w order2 cut =
      ap (λ (x : List ℕ). let z : Seen = record {
        image = image;
        budget = budget;
        window = window_of image.blocks machine.state over phases2 x;
      } in z) cut
      ∙ ap (λ (g : List ℕ). let z : Seen = record {
        image = image;
        budget = budget;
        window = made machine.state over g [];
      } in z) emptied.generations
      ∙ ap (λ (y : Seen). record y { window = record y.window { frames = [] } }) w
