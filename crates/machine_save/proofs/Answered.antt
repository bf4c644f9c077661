-- What opening answers, from its parts.
use Rattle.std.proofs.Common.{◌≡◌, ℕ, ◌+◌, ◌≤◌, ◌<◌, List, [], length, drop, Result, Ok, Err, inl, inr, refl, sym, ap}
use Rattle.std.proofs.Common.{subst, ◌∙◌, arith}
use Rattle.std.specs.Prelude.{All, IfOk, IfErr, MatchResult, ◌-◌, take}
use Rattle.std.proofs.lemmas.List.{length-drop, take_all}
use Rattle.trips_isa.specs.declared.block.Image.{Image}
use Rattle.trips_isa.specs.Machine.{State, Machine}
use Rattle.block_check.specs.Faults.{IsGood}
use Rattle.block_check.specs.inside.Images.{IsCheckedImage}
use Rattle.block_image.proofs.Each.{AreBytes}
use Rattle.machine_save.specs.declared.fault.SaveFault.{SaveFault}
use Rattle.machine_save.specs.declared.fault.SaveFault.TheVariants as save
use Rattle.machine_save.specs.Limits.{most_output, most_memory, most_rest}
use Rattle.machine_save.specs.Spelling.{SaveBytes}
use Rattle.block_image.specs.Spelling.{ImageBytes}
use Rattle.machine_save.specs.FirstFault.{ImagePartFault, bad_block, no_next, FirstSaveFault, in_front, in_image}
use Rattle.machine_save.specs.inside.Reading.{Decodes, Lists, lists_of, front_at, image_place, next_in, registers_in}
use Rattle.machine_save.specs.inside.Opening.{IsMemory, IsMemoryOr, IsGoodImage, IsNoImage, IsOutside, IsOpened}
use Rattle.machine_save.specs.inside.Opening.{IsBadIn, state_in}
use Rattle.machine_save.proofs.FrontLaws.{front_again, front_takes}
use Rattle.machine_save.proofs.FrontFaults.{front_fault}
use Rattle.machine_save.proofs.Opened.{SavedOnce, saved_once, not_both, one_fault}

-- every block of a checked image is good
pub good_of : (image : Image) → IsCheckedImage image → All IsGood image.blocks
good_of image checked = λ k d l. (checked.each k d l).good

-- the parts ---------------------------------------------------------------------------------------

-- all bytes behind a place
pub all_behind : (place : ℕ) (bytes : List ℕ) → take (length bytes - place) (drop place bytes) ≡ drop place bytes
all_behind place bytes =
    take_all (length bytes - place) (drop place bytes) (omega (arith, length-drop place bytes))

-- lists that were read are within their limits, and inside the bytes
record FewLists (bytes : List ℕ) (l : Lists) : Type 0 where
  pub few_output : length l.output ≤ most_output
  pub few_stored : length l.stored ≤ most_memory
  pub few_rest : length l.rest ≤ most_rest
  pub inside : image_place l ≤ length bytes

few_lists : (bytes : List ℕ) (l : Lists) → AreBytes bytes → front_at bytes ≡ Ok l → FewLists bytes l
few_lists bytes l a e =
    let f = front_takes bytes l a e in
    let part : List ℕ = drop (image_place l) bytes in
    let g = front_again bytes (next_in bytes) (registers_in bytes) l.output l.stored l.rest part f in
    record { few_output = f.few_output; few_stored = f.few_stored; few_rest = f.few_rest; inside = g.room }

module _ {X : Type 0} (view : X → Lists) (bytes : List ℕ) where
  pub few_output_told : (r : Result X SaveFault) → AreBytes bytes → Decodes view r (front_at bytes)
      → IfOk r (λ x. length (view x).output ≤ most_output)
  few_output_told (Err e) a h = tt
  few_output_told (Ok x) a h = (few_lists bytes (view x) a h).few_output

  pub few_stored_told : (r : Result X SaveFault) → AreBytes bytes → Decodes view r (front_at bytes)
      → IfOk r (λ x. length (view x).stored ≤ most_memory)
  few_stored_told (Err e) a h = tt
  few_stored_told (Ok x) a h = (few_lists bytes (view x) a h).few_stored

  pub few_rest_told : (r : Result X SaveFault) → AreBytes bytes → Decodes view r (front_at bytes)
      → IfOk r (λ x. length (view x).rest ≤ most_rest)
  few_rest_told (Err e) a h = tt
  few_rest_told (Ok x) a h = (few_lists bytes (view x) a h).few_rest

  pub inside_lists_told : (r : Result X SaveFault) → AreBytes bytes → Decodes view r (front_at bytes)
      → IfOk r (λ x. image_place (view x) ≤ length bytes)
  inside_lists_told (Err e) a h = tt
  inside_lists_told (Ok x) a h = (few_lists bytes (view x) a h).inside

-- and what is not read has a first fault
pub first_told : {X : Type 0} (view : X → Lists) (bytes : List ℕ) (r : Result X SaveFault) → AreBytes bytes
    → Decodes view r (front_at bytes) → IfErr r (FirstSaveFault bytes)
first_told view bytes (Ok x) a h = tt
first_told view bytes (Err e) a h = in_front e (front_fault bytes e a h)

-- a bad block of an image is a fault of its bytes, whatever the next block
bad_part : (part : List ℕ) (image : Image) (e : SaveFault) → ImageBytes image part → IsMemoryOr (IsBadIn image) e
    → IsMemoryOr (IsNoImage part) e
bad_part part image e is (inl m) = inl m
bad_part part image (save.Bad number f) is (inr h) = inr (λ next. bad_block image number f is h)
bad_part part image save.Magic is (inr h) = absurd h
bad_part part image save.Version is (inr h) = absurd h
bad_part part image (save.Truncated at) is (inr h) = absurd h
bad_part part image (save.BadField at) is (inr h) = absurd h
bad_part part image (save.Image f) is (inr h) = absurd h
bad_part part image save.Memory is (inr h) = absurd h

pub bad_told : {X : Type 0} (part : List ℕ) (image : Image) (r : Result X SaveFault) → ImageBytes image part
    → IfErr r (IsMemoryOr (IsBadIn image)) → IfErr r (IsMemoryOr (IsNoImage part))
bad_told part image (Ok x) is h = tt
bad_told part image (Err e) is h = bad_part part image e is h

-- a state that was restored is what the bytes save
pub opened_saves : (bytes output stored rest : List ℕ) (image : Image) (budget : ℕ) (m : Machine) → AreBytes bytes
    → front_at bytes ≡ Ok (lists_of output stored rest)
    → IsGoodImage (drop (1052 + length output + length stored + length rest) bytes) image
    → next_in bytes < length image.blocks → m.state ≡ state_in bytes output stored rest → m.budget ≡ budget
    → IsOpened bytes budget image m
opened_saves bytes output stored rest image budget m a e good l same room = record {
  saves = subst (λ (t : State). SaveBytes image t bytes) (sym same) (record {
    stored = stored;
    memory = refl;
    part = drop (1052 + length output + length stored + length rest) bytes;
    front = front_takes bytes (lists_of output stored rest) a e;
    is_image = good.spelled;
    good = good.good;
    inside = l;
  });
  trace = ap (λ (t : State). t.trace) same;
  budget_is = room;
}

-- one of the image
pub image_told : (bytes output stored rest : List ℕ) (f : SaveFault) → AreBytes bytes
    → front_at bytes ≡ Ok (lists_of output stored rest)
    → IsMemoryOr (IsNoImage (drop (1052 + length output + length stored + length rest) bytes)) f
    → IsMemoryOr (FirstSaveFault bytes) f
image_told bytes output stored rest f a e (inl m) = inl m
image_told bytes output stored rest f a e (inr h) =
    inr (in_image (next_in bytes) (registers_in bytes) output stored rest
    (drop (1052 + length output + length stored + length rest) bytes) f
    (front_takes bytes (lists_of output stored rest) a e) (h (next_in bytes)))

-- the next block is none of the image's
pub next_told : (bytes output stored rest : List ℕ) (image : Image) (f : SaveFault) → AreBytes bytes
    → front_at bytes ≡ Ok (lists_of output stored rest)
    → IsGoodImage (drop (1052 + length output + length stored + length rest) bytes) image
    → IsMemoryOr (IsOutside bytes image) f → IsMemoryOr (FirstSaveFault bytes) f
next_told bytes output stored rest image f a e good (inl m) = inl m
next_told bytes output stored rest image f a e good (inr h) =
    let part : List ℕ = drop (1052 + length output + length stored + length rest) bytes in
    inr (in_image (next_in bytes) (registers_in bytes) output stored rest part f
    (front_takes bytes (lists_of output stored rest) a e)
    (subst (ImagePartFault (next_in bytes) part) (sym h.0)
    (no_next image good.spelled good.good h.1)))

-- the answers -------------------------------------------------------------------------------------

module _ (bytes : List ℕ) (budget : ℕ) where
  pub ok_told : (r : Result (Image × Machine) SaveFault) → IfOk r (λ p. IsOpened bytes budget p.0 p.1)
      → IfOk r (λ p. SaveBytes p.0 p.1.state bytes)
  ok_told (Err e) h = tt
  ok_told (Ok p) h = h.saves

  pub trace_told : (r : Result (Image × Machine) SaveFault) → IfOk r (λ p. IsOpened bytes budget p.0 p.1)
      → IfOk r (λ p. p.1.state.trace ≡ [])
  trace_told (Err e) h = tt
  trace_told (Ok p) h = h.trace

  pub budget_told : (r : Result (Image × Machine) SaveFault) → IfOk r (λ p. IsOpened bytes budget p.0 p.1)
      → IfOk r (λ p. p.1.budget ≡ budget)
  budget_told (Err e) h = tt
  budget_told (Ok p) h = h.budget_is

  pub inside_told : (r : Result (Image × Machine) SaveFault) → IfOk r (λ p. IsOpened bytes budget p.0 p.1)
      → IfOk r (λ p. p.1.state.next < length p.0.blocks)
  inside_told (Err e) h = tt
  inside_told (Ok p) h = (h.saves).inside

  pub output_told : (r : Result (Image × Machine) SaveFault) → IfOk r (λ p. IsOpened bytes budget p.0 p.1)
      → IfOk r (λ p. length p.1.state.output ≤ most_output)
  output_told (Err e) h = tt
  output_told (Ok p) h = ((h.saves).front).few_output

  pub rest_told : (r : Result (Image × Machine) SaveFault) → IfOk r (λ p. IsOpened bytes budget p.0 p.1)
      → IfOk r (λ p. length p.1.state.rest ≤ most_rest)
  rest_told (Err e) h = tt
  rest_told (Ok p) h = ((h.saves).front).few_rest

  -- bytes that save something are opened, unless memory is wanted
  pub only_ok_told : (r : Result (Image × Machine) SaveFault) → IfOk r (λ p. IsOpened bytes budget p.0 p.1)
      → IfErr r (IsMemoryOr (FirstSaveFault bytes)) → (image : Image) (s : State) → SaveBytes image s bytes
      → MatchResult r (λ p. (p.0 ≡ image) × (p.1.state ≡ record s { trace = [] })) IsMemory
  only_ok_told (Err e) h (inl m) image s saves = m
  only_ok_told (Err e) h (inr f) image s saves = absurd (not_both image s bytes e saves f)
  only_ok_told (Ok p) h f image s saves =
      let once : SavedOnce p.0 image p.1.state s = saved_once p.0 image p.1.state s bytes h.saves saves in
      (once.image, fresh p.1.state h.trace ∙ once.state)
    where
      fresh : (t : State) → t.trace ≡ [] → t ≡ record t { trace = [] }
      fresh t e = ap (λ x. record t { trace = x }) e

  -- and a first fault is answered
  pub only_err_told : (r : Result (Image × Machine) SaveFault) → IfOk r (λ p. IsOpened bytes budget p.0 p.1)
      → IfErr r (IsMemoryOr (FirstSaveFault bytes)) → (fault : SaveFault) → FirstSaveFault bytes fault
      → MatchResult r (λ p. ⊥) (IsMemoryOr (λ e. e ≡ fault))
  only_err_told (Err e) h (inl m) fault g = inl m
  only_err_told (Err e) h (inr f) fault g = inr (one_fault bytes e fault f g)
  only_err_told (Ok p) h f fault g = absurd (not_both p.0 p.1.state bytes fault h.saves g)
