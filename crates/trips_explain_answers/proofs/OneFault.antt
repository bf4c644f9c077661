-- An image has one first bad block, with one fault.
use Rattle.std.proofs.Common.{◌≡◌, ℕ, ◌+◌, ◌<◌, ◌≤◌, Bool, true, false, nat_lt}
use Rattle.std.proofs.Common.{List, length, Some, slice_get, get_or, ◌⊎◌, inl, inr, refl, sym}
use Rattle.std.proofs.Common.{ap, subst, ◌∙◌, arith}
use Rattle.std.proofs.lemmas.Bool.Decides.{nat_tests}
use Rattle.std.proofs.lemmas.Option.{slice_get_within, get_or_from_slice_get}
use Rattle.trips_isa.specs.declared.block.Block.{Block}
use Rattle.trips_isa.specs.declared.block.Image.{Image}
use Rattle.trips_isa.specs.declared.block.Spot.{Spot}
use Rattle.trips_isa.specs.declared.block.Spot.TheVariants.{Read, Inst, Left, Right, Pred, Write}
use Rattle.trips_isa.specs.declared.block.Spot.TheVariants.{Store}
use Rattle.trips_isa.specs.Fits.{FitsBlock}
use Rattle.trips_isa.specs.Images.{FitsImage}
use Rattle.block_cases.specs.Blocks.{in_mask}
use Rattle.block_check.specs.declared.fault.CheckFault.{CheckFault}
use Rattle.block_check.specs.declared.fault.CheckFault.TheVariants.{BadTarget, BadNumber, Cycle}
use Rattle.block_check.specs.declared.fault.CheckFault.TheVariants.{TooManyCases, TwoTokens}
use Rattle.block_check.specs.declared.fault.CheckFault.TheVariants.{NoToken, NoExit, TwoExits}
use Rattle.block_check.specs.Faults.{HasBadTarget, HasBadNumber, TakesTokens, IsOwed, HasFault}
use Rattle.block_check.specs.Faults.{spot_order, fault_order, IsLowestFault}
use Rattle.block_check.specs.Images.{IsFirstBad}

-- spots -----------------------------------------------------------------------------------------

-- the number of a spot among those of its variant
number_of : Spot → ℕ
number_of (Read i) = i
number_of (Inst j) = j
number_of (Left s) = s
number_of (Right s) = s
number_of (Pred s) = s
number_of (Write w) = w
number_of (Store n) = n

-- two spots of small numbers that stand at one place are one
same_spot : (s t : Spot) → number_of s < 256 → number_of t < 256 → spot_order s ≡ spot_order t
    → s ≡ t
unfolding number_of
same_spot (Read i) (Read j) a b e = ap (λ (n : ℕ). Read n) (omega (arith, e))
same_spot (Inst i) (Inst j) a b e = ap (λ (n : ℕ). Inst n) (omega (arith, e))
same_spot (Left i) (Left j) a b e = ap (λ (n : ℕ). Left n) (omega (arith, e))
same_spot (Right i) (Right j) a b e = ap (λ (n : ℕ). Right n) (omega (arith, e))
same_spot (Pred i) (Pred j) a b e = ap (λ (n : ℕ). Pred n) (omega (arith, e))
same_spot (Write i) (Write j) a b e = ap (λ (n : ℕ). Write n) (omega (arith, e))
same_spot (Store i) (Store j) a b e = ap (λ (n : ℕ). Store n) (omega (arith, e))
same_spot (Read i) _ a b e = absurd (omega (arith, a, b, e))
same_spot (Inst i) _ a b e = absurd (omega (arith, a, b, e))
same_spot (Left i) _ a b e = absurd (omega (arith, a, b, e))
same_spot (Right i) _ a b e = absurd (omega (arith, a, b, e))
same_spot (Pred i) _ a b e = absurd (omega (arith, a, b, e))
same_spot (Write i) _ a b e = absurd (omega (arith, a, b, e))
same_spot (Store i) _ a b e = absurd (omega (arith, a, b, e))

-- a spot of a small number stands below 2048
spot_low : (s : Spot) → number_of s < 256 → spot_order s < 2048
unfolding number_of
spot_low (Read i) a = omega (arith, a)
spot_low (Inst i) a = omega (arith, a)
spot_low (Left i) a = omega (arith, a)
spot_low (Right i) a = omega (arith, a)
spot_low (Pred i) a = omega (arith, a)
spot_low (Write i) a = omega (arith, a)
spot_low (Store i) a = omega (arith, a)

-- faults ----------------------------------------------------------------------------------------

-- the place of the first fault of this number, and the spot that it names
begin_of : CheckFault → ℕ
begin_of (BadTarget s) = 2048
begin_of (BadNumber s) = 4096
begin_of Cycle = 6144
begin_of TooManyCases = 8192
begin_of (TwoTokens s) = 10240
begin_of (NoToken s) = 12288
begin_of NoExit = 14336
begin_of TwoExits = 16384

-- a fault's spot, where it has one, has a small number
abbrev IsSmall : CheckFault → Type 0
IsSmall (BadTarget s) = number_of s < 256
IsSmall (BadNumber s) = number_of s < 256
IsSmall Cycle = Unit {0}
IsSmall TooManyCases = Unit {0}
IsSmall (TwoTokens s) = number_of s < 256
IsSmall (NoToken s) = number_of s < 256
IsSmall NoExit = Unit {0}
IsSmall TwoExits = Unit {0}

within : (f : CheckFault) → IsSmall f
    → (begin_of f ≤ fault_order f) × (fault_order f < begin_of f + 2048)
unfolding begin_of
within (BadTarget s) a = let low = spot_low s a in (omega arith, omega (arith, low))
within (BadNumber s) a = let low = spot_low s a in (omega arith, omega (arith, low))
within Cycle a = (omega arith, omega arith)
within TooManyCases a = (omega arith, omega arith)
within (TwoTokens s) a = let low = spot_low s a in (omega arith, omega (arith, low))
within (NoToken s) a = let low = spot_low s a in (omega arith, omega (arith, low))
within NoExit a = (omega arith, omega arith)
within TwoExits a = (omega arith, omega arith)

-- two faults at one place begin at one place
apart : (f g : CheckFault) → IsSmall f → IsSmall g → fault_order f ≡ fault_order g
    → begin_of f + 2048 ≤ begin_of g ⊎ begin_of g + 2048 ≤ begin_of f → ⊥
apart f g a b e (inl far) =
    let x = within f a in let y = within g b in omega (arith, x.1, y.0, e, far)
apart f g a b e (inr far) =
    let x = within f a in let y = within g b in omega (arith, x.0, y.1, e, far)

same_fault : (f g : CheckFault) → IsSmall f → IsSmall g → fault_order f ≡ fault_order g → f ≡ g
unfolding begin_of
same_fault (BadTarget s) (BadTarget t) a b e =
    ap (λ (x : Spot). BadTarget x) (same_spot s t a b (omega (arith, e)))
same_fault (BadNumber s) (BadNumber t) a b e =
    ap (λ (x : Spot). BadNumber x) (same_spot s t a b (omega (arith, e)))
same_fault Cycle Cycle a b e = refl
same_fault TooManyCases TooManyCases a b e = refl
same_fault (TwoTokens s) (TwoTokens t) a b e =
    ap (λ (x : Spot). TwoTokens x) (same_spot s t a b (omega (arith, e)))
same_fault (NoToken s) (NoToken t) a b e =
    ap (λ (x : Spot). NoToken x) (same_spot s t a b (omega (arith, e)))
same_fault NoExit NoExit a b e = refl
same_fault TwoExits TwoExits a b e = refl
same_fault (BadTarget s) g a b e = absurd (apart (BadTarget s) g a b e (inl (omega arith)))
same_fault (BadNumber s) (BadTarget t) a b e =
    absurd (apart (BadNumber s) (BadTarget t) a b e (inr (omega arith)))
same_fault (BadNumber s) g a b e = absurd (apart (BadNumber s) g a b e (inl (omega arith)))
same_fault Cycle (BadTarget t) a b e =
    absurd (apart Cycle (BadTarget t) a b e (inr (omega arith)))
same_fault Cycle (BadNumber t) a b e =
    absurd (apart Cycle (BadNumber t) a b e (inr (omega arith)))
same_fault Cycle g a b e = absurd (apart Cycle g a b e (inl (omega arith)))
same_fault TooManyCases (TwoTokens t) a b e =
    absurd (apart TooManyCases (TwoTokens t) a b e (inl (omega arith)))
same_fault TooManyCases (NoToken t) a b e =
    absurd (apart TooManyCases (NoToken t) a b e (inl (omega arith)))
same_fault TooManyCases NoExit a b e =
    absurd (apart TooManyCases NoExit a b e (inl (omega arith)))
same_fault TooManyCases TwoExits a b e =
    absurd (apart TooManyCases TwoExits a b e (inl (omega arith)))
same_fault TooManyCases g a b e = absurd (apart TooManyCases g a b e (inr (omega arith)))
same_fault (TwoTokens s) (NoToken t) a b e =
    absurd (apart (TwoTokens s) (NoToken t) a b e (inl (omega arith)))
same_fault (TwoTokens s) NoExit a b e =
    absurd (apart (TwoTokens s) NoExit a b e (inl (omega arith)))
same_fault (TwoTokens s) TwoExits a b e =
    absurd (apart (TwoTokens s) TwoExits a b e (inl (omega arith)))
same_fault (TwoTokens s) g a b e = absurd (apart (TwoTokens s) g a b e (inr (omega arith)))
same_fault (NoToken s) NoExit a b e =
    absurd (apart (NoToken s) NoExit a b e (inl (omega arith)))
same_fault (NoToken s) TwoExits a b e =
    absurd (apart (NoToken s) TwoExits a b e (inl (omega arith)))
same_fault (NoToken s) g a b e = absurd (apart (NoToken s) g a b e (inr (omega arith)))
same_fault NoExit TwoExits a b e = absurd (apart NoExit TwoExits a b e (inl (omega arith)))
same_fault NoExit g a b e = absurd (apart NoExit g a b e (inr (omega arith)))
same_fault TwoExits g a b e = absurd (apart TwoExits g a b e (inr (omega arith)))

-- blocks ----------------------------------------------------------------------------------------

low_mask : (mask n : ℕ) → in_mask mask n ≡ true → n < 256
low_mask mask n e = go (nat_lt n 32) refl e
  where
    go : (v : Bool) → nat_lt n 32 ≡ v → in_mask mask n ≡ true → n < 256
    go true is on = grind (arith, nat_tests)
    go false is on = absurd (cc)

small_target : (b : Block) → FitsBlock b → (s : Spot) → HasBadTarget b s → number_of s < 256
unfolding number_of
small_target b fits (Read i) h = omega (arith, h.0, fits.reads)
small_target b fits (Inst j) h = omega (arith, h.0)
small_target b fits (Left s) h = absurd h
small_target b fits (Right s) h = absurd h
small_target b fits (Pred s) h = absurd h
small_target b fits (Write w) h = absurd h
small_target b fits (Store n) h = absurd h

small_number : (b : Block) → FitsBlock b → (s : Spot) → HasBadNumber b s → number_of s < 256
unfolding number_of
small_number b fits (Inst j) h = omega (arith, h.0)
small_number b fits (Write w) h = omega (arith, h.0, fits.writes)
small_number b fits (Read i) h = absurd h
small_number b fits (Left s) h = absurd h
small_number b fits (Right s) h = absurd h
small_number b fits (Pred s) h = absurd h
small_number b fits (Store n) h = absurd h

small_taken : (s : Spot) → TakesTokens s → number_of s < 256
unfolding number_of
small_taken (Left s) h = omega (arith, h)
small_taken (Right s) h = omega (arith, h)
small_taken (Pred s) h = omega (arith, h)
small_taken (Write w) h = omega (arith, h)
small_taken (Store n) h = omega (arith, h)
small_taken (Read i) h = absurd h
small_taken (Inst j) h = absurd h

small_owed : (b : Block) → FitsBlock b → (s : Spot) → IsOwed b s → number_of s < 256
unfolding number_of
small_owed b fits (Write w) h = omega (arith, h, fits.writes)
small_owed b fits (Store n) h = low_mask b.mask n h
small_owed b fits (Read i) h = absurd h
small_owed b fits (Inst j) h = absurd h
small_owed b fits (Left s) h = absurd h
small_owed b fits (Right s) h = absurd h
small_owed b fits (Pred s) h = absurd h

-- a fault of a block that fits has a small spot
small : (b : Block) → FitsBlock b → (f : CheckFault) → HasFault b f → IsSmall f
small b fits (BadTarget s) h = small_target b fits s h
small b fits (BadNumber s) h = small_number b fits s h
small b fits Cycle h = tt
small b fits TooManyCases h = tt
small b fits (TwoTokens s) h = small_taken s h.0
small b fits (NoToken s) h = small_owed b fits s h.0
small b fits NoExit h = tt
small b fits TwoExits h = tt

-- a block that fits has one lowest fault
pub lowest_once : (b : Block) (f g : CheckFault) → FitsBlock b → IsLowestFault b f
    → IsLowestFault b g → f ≡ g
lowest_once b f g fits x y =
    let le = x.lowest g y.holds in
    let ge = y.lowest f x.holds in
    same_fault f g (small b fits f x.holds) (small b fits g y.holds) (omega (arith, le, ge))

-- images ----------------------------------------------------------------------------------------

-- one number is below the other, or they are the same
below_or_same : (m n : ℕ) → (m < n) ⊎ ((n < m) ⊎ (m ≡ n))
below_or_same m n = go (nat_lt m n) (nat_lt n m) refl refl
  where
    go : (x y : Bool) → nat_lt m n ≡ x → nat_lt n m ≡ y → (m < n) ⊎ ((n < m) ⊎ (m ≡ n))
    go true y a b = inl (grind (arith, nat_tests))
    go false true a b = inr (inl (grind (arith, nat_tests)))
    go false false a b = inr (inr (grind (arith, nat_tests)))

-- an image that fits has one first bad block
first_number : (image : Image) (m n : ℕ) (f g : CheckFault) → IsFirstBad image m f
    → IsFirstBad image n g → m ≡ n
first_number image m n f g x y = elim (below_or_same m n) [
  | inl lt ↦ absurd (y.before m x.block lt x.is_block f x.has.holds)
  | inr (inl gt) ↦ absurd (x.before n y.block gt y.is_block g y.has.holds)
  | inr (inr e) ↦ e
]

same_block : (bs : List Block) (m n : ℕ) (b c : Block) → m ≡ n → slice_get bs m ≡ Some b
    → slice_get bs n ≡ Some c → c ≡ b
same_block bs m n b c e x y =
    let same : Some c ≡ Some b = sym y ∙ ap (slice_get bs) (sym e) ∙ x in cc

-- and one fault of it
pub first_bad_once : (image : Image) (m n : ℕ) (f g : CheckFault) → FitsImage image
    → IsFirstBad image m f → IsFirstBad image n g → (m ≡ n) × (f ≡ g)
first_bad_once image m n f g fits x y =
    let e = first_number image m n f g x y in
    let same = same_block image.blocks m n x.block y.block e x.is_block y.is_block in
    let there : m < length image.blocks = slice_get_within image.blocks m x.block x.is_block in
    let is : get_or image.blocks m x.block ≡ x.block =
    get_or_from_slice_get image.blocks m x.block x.block x.is_block in
    let fits_block = subst FitsBlock is (fits.each m x.block there) in (
      e,
      lowest_once x.block f g fits_block x.has
          (subst (λ (b : Block). IsLowestFault b g) same y.has),
    )
