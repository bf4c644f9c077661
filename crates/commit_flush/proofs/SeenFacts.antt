-- What stands of a window in code whose parts fit together.
use Rattle.std.proofs.Common.{◌≡◌, ℕ, zero, suc, ◌+◌, ◌<◌, ◌≤◌, List, [], ◌∷◌, Some, None, length, map, set}
use Rattle.std.proofs.Common.{get_or, slice_get, refl, sym, ap, ◌∙◌, subst, arith, add-zero}
use Rattle.std.specs.Prelude.{All}
use Rattle.std.proofs.lemmas.List.{length-map, length-set}
use Rattle.std.proofs.lemmas.List.Elements.{All-get_or}
use Rattle.std.proofs.lemmas.Option.{slice_get_within, get_or_from_slice_get}
use Rattle.trips_isa.specs.declared.block.Block.{Block}
use Rattle.trips_isa.specs.declared.block.Image.{Image}
use Rattle.trips_isa.specs.declared.run.Stepped.{Stepped}
use Rattle.trips_isa.specs.Machine.{Machine}
use Rattle.block_check.specs.inside.IsChecked.{IsChecked}
use Rattle.block_check.specs.inside.Images.{IsCheckedImage}
use Rattle.commit_flush_spec.specs.Frames.{at}
use Rattle.commit_flush_spec.specs.inside.Invariant.{AllGood}
use Rattle.commit_flush_spec.specs.inside.Laws.{AreNumbers}
use Rattle.reg_bank.specs.inside.Ages.{Ages}
use Rattle.commit_flush.specs.Places.{numbers_of}
use Rattle.commit_flush.specs.inside.Places.{frame_of}
use Rattle.commit_flush.proofs.OrderFacts.{numbers_are, count}
use Rattle.commit_flush.proofs.CountFacts.{at_most_eight}
use Rattle.commit_flush.proofs.FrameFacts.{stands}
use Rattle.frame_state.specs.declared.phase.Phase.{Phase}
use Rattle.frame_state.specs.inside.Phases.{HasBlock, frame_in, number_of, slots_of}
use Rattle.commit_flush.specs.inside.Seen.{IsSound, eight_numbers, flying}

-- the blocks of a checked image are good
pub all_good : (image : Image) → IsCheckedImage image → AllGood image.blocks
all_good image checked k b e =
    let c : IsChecked b = subst IsChecked (get_or_from_slice_get image.blocks k b b e)
    (All-get_or IsChecked image.blocks k b (slice_get_within image.blocks k b e) checked.each) in
    record { fits = c.fits; good = c.cases }

-- what stands in a list after a map
pub mapped_at : {A B : Type 0} (v : A → B) (xs : List A) (n : ℕ) (x : A) → slice_get xs n ≡ Some x
    → slice_get (map v xs) n ≡ Some (v x)
mapped_at v [] n x e = absurd (cc)
mapped_at v (y ∷ ys) zero x e = let same : y ≡ x = cc in ap (λ z. Some (v z)) same
mapped_at v (y ∷ ys) (suc n) x e = mapped_at v ys n x e

-- the frame at a number is the one of the phase that stands there
pub mapped_slot : (blocks : List Block) (phases : List Phase) (n : ℕ) (p : Phase) → slice_get phases n ≡ Some p
    → at (slots_of blocks phases) n ≡ frame_in blocks p
mapped_slot blocks [] n p e = absurd (cc)
mapped_slot blocks (q ∷ qs) zero p e = let same : q ≡ p = cc in ap (frame_in blocks) same
mapped_slot blocks (q ∷ qs) (suc n) p e = mapped_slot blocks qs n p e

-- past the last frame none stands
pub no_slot : (blocks : List Block) (phases : List Phase) (n : ℕ) → length phases ≤ n
    → at (slots_of blocks phases) n ≡ None
no_slot blocks [] n l = refl
no_slot blocks (q ∷ qs) zero l = absurd (omega arith)
no_slot blocks (q ∷ qs) (suc n) l = no_slot blocks qs n (omega arith)

-- an item that stays
pub set_stays : {A : Type 0} (xs : List A) (n : ℕ) (x : A) → slice_get xs n ≡ Some x → set xs n x ≡ xs
set_stays [] n x e = refl
set_stays (y ∷ ys) zero x e = let same : y ≡ x = cc in ap (λ z. z ∷ ys) (sym same)
set_stays (y ∷ ys) (suc n) x e = ap (λ zs. y ∷ zs) (set_stays ys n x e)

-- numbers in a row from this one on
abbrev IsRow : ℕ → List ℕ → Type 0
IsRow k [] = Unit {0}
IsRow k (x ∷ xs) = (x ≡ k) × IsRow (suc k) xs

row_at : (k : ℕ) (xs : List ℕ) → IsRow k xs → (n m : ℕ) → slice_get xs n ≡ Some m → m ≡ k + n
row_at k [] h n m e = absurd (cc)
row_at k (x ∷ xs) h zero m e = let same : x ≡ m = cc in sym same ∙ h.0 ∙ sym (add-zero k)
row_at k (x ∷ xs) h (suc n) m e = let r : m ≡ suc k + n = row_at (suc k) xs h.1 n m e in omega arith

eight_row : IsRow 0 eight_numbers
eight_row = (refl, (refl, (refl, (refl, (refl, (refl, (refl, (refl, tt))))))))

module _ {image : Image} {budget : ℕ} {machine : Machine} {over : Stepped} {phases : List Phase} {order : List ℕ}
    {registers : Ages} (s : IsSound image budget machine over phases order registers) where
  -- the blocks of the image are good
  pub good : AllGood image.blocks
  good = all_good image s.checked

  -- there are eight frames
  pub eight : length phases ≡ 8
  eight = sym (length-map phases number_of) ∙ ap length s.numbers

  -- the order has the numbers of the frames in flight
  pub numbers_seen : numbers_of (flying image.blocks phases order) ≡ order
  numbers_seen = numbers_are (slots_of image.blocks phases) order s.kept.numbered s.kept.there

  -- as many frames are seen as the order has numbers
  pub count_seen : length (flying image.blocks phases order) ≡ length order
  count_seen = count (slots_of image.blocks phases) order s.kept.there

  -- at most eight frames are in flight
  pub few : length order ≤ 8
  few = at_most_eight order s.kept.once

  -- the frame of a number stands at it
  pub found : (n : ℕ) (p : Phase) → slice_get phases n ≡ Some p
      → frame_in image.blocks p ≡ frame_of n (flying image.blocks phases order)
  found n p e =
      sym (mapped_slot image.blocks phases n p e)
      ∙ sym (stands (slots_of image.blocks phases) order registers s.kept n)

  -- past the eighth none is in flight
  pub not_found : (n : ℕ) → 8 ≤ n → frame_of n (flying image.blocks phases order) ≡ None
  not_found n l =
      stands (slots_of image.blocks phases) order registers s.kept n
      ∙ no_slot image.blocks phases n (let e : length phases ≡ 8 = eight in omega arith)

  -- each phase has a block of the image
  pub has_block : (n : ℕ) (p : Phase) → slice_get phases n ≡ Some p → HasBlock image.blocks p
  has_block n p e = subst (HasBlock image.blocks) (get_or_from_slice_get phases n p p e)
      (All-get_or (HasBlock image.blocks) phases n p (slice_get_within phases n p e) s.blocks)

  -- each frame has its number
  pub number_is : (n : ℕ) (p : Phase) → slice_get phases n ≡ Some p → number_of p ≡ n
  number_is n p e =
      let r : number_of p ≡ 0 + n = row_at 0 eight_numbers eight_row n (number_of p)
      (ap (λ xs. slice_get xs n) (sym s.numbers) ∙ mapped_at number_of phases n p e) in
      omega arith

  -- each number of the order is one of the eight
  pub orders_below : All (λ n. n < length phases) order
  orders_below k d l = go order s.kept.once k l
    where
      go : (xs : List ℕ) → AreNumbers xs → (j : ℕ) → j < length xs → get_or xs j d < length phases
      go [] h j m = absurd (omega arith)
      go (x ∷ xs) h zero m = let a : x < 8 = h.0 in let e : length phases ≡ 8 = eight in omega arith
      go (x ∷ xs) h (suc j) m = go xs h.2 j (omega arith)

  -- also where one of them was changed
  pub orders_within : (n : ℕ) (q : Phase) → All (λ m. m < length (set phases n q)) order
  orders_within n q k d l =
      let h : get_or order k d < length phases = orders_below k d l in
      let e : length (set phases n q) ≡ length phases = length-set phases n q in
      omega arith
