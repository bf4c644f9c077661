-- Ifs that are items of their block: flat legs say so already, and have no calls and no notes.
use Rattle.std.proofs.Common.{◌≡◌, ℕ, ◌+◌, Bool, true, false, ◌&&◌, ◌||◌, not, cond, List, [], ◌++◌, refl, ap₂}
use Rattle.ir_forms.specs.declared.flat.Arg.{Arg}
use Rattle.ir_forms.specs.inside.FlatCode.{Step, Let, Frame, Load, Save, Call, Put, Get, If, Loop, Break, Continue}
use Rattle.ir_forms.specs.inside.FlatCode.{Return, Halt, Code, Nop, ◌▹◌}
use Rattle.ir_forms.specs.inside.FlatFits.{steps_in, steps_of, is_small_leg, is_empty}
use Rattle.reg_assign.specs.inside.Keeps.{calls_in, calls}
use Rattle.hyper_build.specs.declared.emitting.Note.{Note}
use Rattle.hyper_build.specs.inside.Tree.{Tree, Plan, plain, goes_on, annotated_in, annotated}
use Rattle.hyper_build.specs.inside.Parts.{cut_size}
use Rattle.hyper_build.specs.inside.Straight.{straight_in, straight, is_small_if, is_item}
use Rattle.hyper_build.specs.inside.Legs.{leg_size}
use Rattle.hyper_build.specs.inside.Sizes.{size_in, size}
use Rattle.hyper_build.specs.inside.BackwardItems.{is_straight_in, is_straight, is_if_item}
use Rattle.hyper_build.specs.inside.Notes.{notes_in, notes_of}

-- what both together are, each is
pub and_parts : (a b : Bool) → a && b ≡ true → (a ≡ true) × (b ≡ true)
and_parts true b e = (refl, e)
and_parts false b e = let bad : false ≡ true = e in cc

-- NO PLAN IS NEEDED

mutual
  straight_step : (p : Plan) (i k : ℕ) (on : Bool) (x : Step)
      → straight_in (annotated_in p i k on x) ≡ is_straight_in x
  straight_step p i k on (Let to op x y) = refl
  straight_step p i k on (Frame to at) = refl
  straight_step p i k on (Load to op x) = refl
  straight_step p i k on (Save op x y) = refl
  straight_step p i k on (Call f xs to kept) = refl
  straight_step p i k on (Put x) = refl
  straight_step p i k on (Get to) = refl
  straight_step p i k on (If x a b) = ap₂ (λ y z. y && z) (straight_code p (i + 1) k a)
      (straight_code p (i + 1 + steps_of a) (k + calls a) b)
  straight_step p i k on (Loop a b) = refl
  straight_step p i k on Break = refl
  straight_step p i k on Continue = refl
  straight_step p i k on (Return x) = refl
  straight_step p i k on (Halt x) = refl

  -- annotated code is straight where the flat code is
  pub straight_code : (p : Plan) (i k : ℕ) (c : Code)
      → straight (annotated p i k c) ≡ is_straight c
  straight_code p i k Nop = refl
  straight_code p i k (x ▹ c) = ap₂ (λ y z. y && z) (straight_step p i k (goes_on c) x)
      (straight_code p (i + steps_in x) (k + calls_in x) c)

-- whether a leg is small or empty, no annotation says
small_leg_is : (p : Plan) (i k : ℕ) (c : Code)
    → is_small_leg (plain (annotated p i k c)) ≡ is_small_leg c
small_leg_is p i k Nop = refl
small_leg_is p i k (Let to op x y ▹ Nop) = refl
small_leg_is p i k (Let to op x y ▹ (z ▹ c)) = refl
small_leg_is p i k (Frame to at ▹ c) = refl
small_leg_is p i k (Load to op x ▹ c) = refl
small_leg_is p i k (Save op x y ▹ c) = refl
small_leg_is p i k (Call f xs to kept ▹ c) = refl
small_leg_is p i k (Put x ▹ c) = refl
small_leg_is p i k (Get to ▹ c) = refl
small_leg_is p i k (If x a b ▹ c) = refl
small_leg_is p i k (Loop a b ▹ c) = refl
small_leg_is p i k (Break ▹ c) = refl
small_leg_is p i k (Continue ▹ c) = refl
small_leg_is p i k (Return x ▹ c) = refl
small_leg_is p i k (Halt x ▹ c) = refl

empty_is : (p : Plan) (i k : ℕ) (c : Code) → is_empty (plain (annotated p i k c)) ≡ is_empty c
empty_is p i k Nop = refl
empty_is p i k (x ▹ c) = refl

small_if_is : (p : Plan) (i k j m : ℕ) (one other : Code)
    → is_small_if (plain (annotated p i k one)) (plain (annotated p j m other)) ≡ is_small_if one other
small_if_is p i k j m one other =
    ap₂ (λ y z. y && not z)
    (ap₂ (λ y z. y && z) (small_leg_is p i k one) (small_leg_is p j m other))
    (ap₂ (λ y z. y && z) (empty_is p i k one) (empty_is p j m other))

-- an annotated if is an item where the flat if is
pub item_is : (p : Plan) (i k : ℕ) (joined : Bool) (one other : Code)
    → is_item joined (annotated p (i + 1) k one) (annotated p (i + 1 + steps_of one) (k + calls one) other)
    ≡ is_if_item joined one other
item_is p i k joined one other =
    let j = i + 1 + steps_of one in
    let m = k + calls one in
    ap₂ (λ y z. (joined || y) && z) (small_if_is p (i + 1) k j m one other)
    (ap₂ (λ y z. y && z) (straight_code p (i + 1) k one) (straight_code p j m other))

-- how many blocks an if begins, by whether it is an item
abbrev pub if_size : Bool → Bool → Tree → Tree → ℕ
if_size z c one other = cond z (cut_size c) (leg_size one (size one) + (leg_size other (size other) + 1))

-- NO CALLS, NO NOTES

-- an if that is an item has straight legs
pub legs_straight : (joined : Bool) (one other : Code) → is_if_item joined one other ≡ true
    → (is_straight one ≡ true) × (is_straight other ≡ true)
legs_straight joined one other e =
    and_parts (is_straight one) (is_straight other)
    (and_parts (joined || is_small_if one other) (is_straight one && is_straight other) e).1

mutual
  no_calls_in : (x : Step) → is_straight_in x ≡ true → calls_in x ≡ 0
  no_calls_in (Let to op x y) e = refl
  no_calls_in (Frame to at) e = refl
  no_calls_in (Load to op x) e = refl
  no_calls_in (Save op x y) e = refl
  no_calls_in (Call f xs to kept) e = absurd (cc e)
  no_calls_in (Put x) e = refl
  no_calls_in (Get to) e = refl
  no_calls_in (If x a b) e =
      let q = and_parts (is_straight a) (is_straight b) e in
      ap₂ (λ y z. y + z) (no_calls a q.0) (no_calls b q.1)
  no_calls_in (Loop a b) e = absurd (cc e)
  no_calls_in Break e = refl
  no_calls_in Continue e = refl
  no_calls_in (Return x) e = refl
  no_calls_in (Halt x) e = refl

  -- straight code has no call
  pub no_calls : (c : Code) → is_straight c ≡ true → calls c ≡ 0
  no_calls Nop e = refl
  no_calls (x ▹ c) e =
      let q = and_parts (is_straight_in x) (is_straight c) e in
      ap₂ (λ y z. y + z) (no_calls_in x q.0) (no_calls c q.1)

mutual
  no_notes_in : (p : Plan) (l i k : ℕ) (x : Step) → is_straight_in x ≡ true → notes_in p l i k x ≡ []
  no_notes_in p l i k (Let to op x y) e = refl
  no_notes_in p l i k (Frame to at) e = refl
  no_notes_in p l i k (Load to op x) e = refl
  no_notes_in p l i k (Save op x y) e = refl
  no_notes_in p l i k (Call f xs to kept) e = refl
  no_notes_in p l i k (Put x) e = refl
  no_notes_in p l i k (Get to) e = refl
  no_notes_in p l i k (If x a b) e =
      let q = and_parts (is_straight a) (is_straight b) e in
      let A = annotated p (i + 1) k a in
      ap₂ (λ (y z : List Note). y ++ z) (no_notes p (l + 1) (i + 1) k a q.0)
      (no_notes p (l + leg_size A (size A) + 1) (i + 1 + steps_of a) (k + calls a) b q.1)
  no_notes_in p l i k (Loop a b) e = absurd (cc e)
  no_notes_in p l i k Break e = refl
  no_notes_in p l i k Continue e = refl
  no_notes_in p l i k (Return x) e = refl
  no_notes_in p l i k (Halt x) e = refl

  -- straight code has no note
  pub no_notes : (p : Plan) (l i k : ℕ) (c : Code) → is_straight c ≡ true → notes_of p l i k c ≡ []
  no_notes p l i k Nop e = refl
  no_notes p l i k (x ▹ c) e =
      let q = and_parts (is_straight_in x) (is_straight c) e in
      ap₂ (λ (y z : List Note). y ++ z) (no_notes_in p l i k x q.0)
      (no_notes p (l + size_in (annotated_in p i k (goes_on c) x)) (i + steps_in x) (k + calls_in x) c q.1)

-- the legs of an item
pub item_calls : (joined : Bool) (x : Arg) (one other : Code) → is_if_item joined one other ≡ true
    → calls_in (If x one other) ≡ 0
item_calls joined x one other e =
    let q = legs_straight joined one other e in
    ap₂ (λ y z. y + z) (no_calls one q.0) (no_calls other q.1)

-- an if that is an item has no note
pub item_notes : (p : Plan) (l i k : ℕ) (joined : Bool) (x : Arg) (one other : Code)
    → is_if_item joined one other ≡ true → notes_in p l i k (If x one other) ≡ []
item_notes p l i k joined x one other e =
    let q = legs_straight joined one other e in
    let A = annotated p (i + 1) k one in
    ap₂ (λ (y z : List Note). y ++ z) (no_notes p (l + 1) (i + 1) k one q.0)
    (no_notes p (l + leg_size A (size A) + 1) (i + 1 + steps_of one) (k + calls one) other q.1)
