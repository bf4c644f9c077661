-- Code that fits, part by part, and the variables that lowering names.
use Rattle.std.proofs.Common.{◌≡◌, ℕ, ◌<◌, ◌≤◌, Bool, true, false, List, Option, Some}
use Rattle.std.proofs.Common.{None, arith}
use Rattle.std.specs.Prelude.{◌&&◌, nat_le, nat_lt}
use Rattle.std.proofs.lemmas.Bool.{or_left, or_right, and_from}
use Rattle.std.proofs.lemmas.Bool.Decides.{nat_tests}
use Rattle.c_tree.specs.declared.Kind.{Kind}
use Rattle.trips_isa.specs.declared.op.Op.{Op}
use Rattle.ir_forms.specs.declared.flat.Arg.{Arg}
use Rattle.ir_forms.specs.inside.FlatCode.{Step, Let, Frame, Load, Save, If, Loop, Code, Nop}
use Rattle.ir_forms.specs.inside.FlatCode.{◌▹◌, Then, only, Function}
use Rattle.ir_forms.specs.inside.FlatFits.{operates, loads, stores, is_lasting, FitsVar, FitsArg}
use Rattle.ir_forms.specs.inside.FlatFits.{FitsStep, FitsCode}
use Rattle.flat_lower.specs.inside.Operations.{temp, scratch}
use Rattle.flat_lower.specs.inside.Expressions.{with_kind}

-- code that fits, as a record, so that the code is told by the fact
pub record Fitting (fs : List Function) (n bytes : ℕ) (inside : Bool) (x : Code) : Type 0 where
  pub fits : FitsCode fs n bytes inside x

-- VARIABLES

below : (a b : ℕ) → a < b → nat_lt a b ≡ true
below a b h = grind (arith, nat_tests)

upto : (a b : ℕ) → a ≤ b → nat_le a b ≡ true
upto a b h = grind (arith, nat_tests)

pub scalar_lasts : (n i : ℕ) → i < n → is_lasting n i ≡ true
scalar_lasts n i h = or_left (nat_lt i n) (nat_le 64 i && nat_lt i 80) (below i n h)

-- temporaries last over calls
pub temp_lasts : (n d : ℕ) → d < 16 → is_lasting n (temp d) ≡ true
temp_lasts n d h = or_right (nat_lt (temp d) n) (nat_le 64 (temp d) && nat_lt (temp d) 80)
    (and_from (nat_le 64 (temp d)) (nat_lt (temp d) 80) (upto 64 (temp d) (omega arith))
    (below (temp d) 80 (omega arith)))

pub lasting_fits : (n v : ℕ) → is_lasting n v ≡ true → FitsVar n v
lasting_fits n v e = or_left (is_lasting n v) (nat_le 80 v && nat_lt v 88) e

-- a scalar of the function is a variable that fits
pub scalar_fits : (n i : ℕ) → i < n → FitsVar n i
scalar_fits n i h = lasting_fits n i (scalar_lasts n i h)

-- a temporary is a variable that fits
pub temp_fits : (n d : ℕ) → d < 16 → FitsVar n (temp d)
temp_fits n d h = lasting_fits n (temp d) (temp_lasts n d h)

-- a scratch variable is one that fits
pub scratch_fits : (n s : ℕ) → s < 8 → FitsVar n (scratch s)
scratch_fits n s h = or_right (is_lasting n (scratch s))
    (nat_le 80 (scratch s) && nat_lt (scratch s) 88)
    (and_from (nat_le 80 (scratch s)) (nat_lt (scratch s) 88) (upto 80 (scratch s) (omega arith))
    (below (scratch s) 88 (omega arith)))

-- CODE

then_fits : (fs : List Function) (n bytes : ℕ) (i : Bool) (a b : Code) → FitsCode fs n bytes i a
    → FitsCode fs n bytes i b → FitsCode fs n bytes i (Then a b)
then_fits fs n bytes i Nop b p q = q
then_fits fs n bytes i (s ▹ a) b p q = (p.0, then_fits fs n bytes i a b p.1 q)

module _ {fs : List Function} {n bytes : ℕ} {i : Bool} where
  -- Code that does nothing fits.
  pub nothing_fits : Fitting fs n bytes i Nop
  nothing_fits = record { fits = tt }

  -- code of one step fits where the step does
  pub single_fits : (s : Step) → FitsStep fs n bytes i s → Fitting fs n bytes i (only s)
  single_fits s p = record { fits = (p, tt) }

  -- A statement of one operation fits whose variables and arguments do.
  pub let_fits : (to : ℕ) (o : Op) (a b : Arg) → operates o ≡ true → FitsVar n to → FitsArg n a
      → FitsArg n b → Fitting fs n bytes i (only (Let to o a b))
  let_fits to o a b e p q r = record { fits = ((e, p, q, r), tt) }

  -- code that takes an array's address fits where its variable and the address do
  pub frame_fits : (to at : ℕ) → FitsVar n to → at ≤ bytes → Fitting fs n bytes i (only (Frame to at))
  frame_fits to at p h = record { fits = ((p, h), tt) }

  -- code of a load fits where its variable and its address do
  pub load_fits : (to : ℕ) (o : Op) (a : Arg) → loads o ≡ true → FitsVar n to → FitsArg n a
      → Fitting fs n bytes i (only (Load to o a))
  load_fits to o a e p q = record { fits = ((e, p, q), tt) }

  -- code of a store fits where its address and its value do
  pub save_fits : (o : Op) (a v : Arg) → stores o ≡ true → FitsArg n a → FitsArg n v
      → Fitting fs n bytes i (only (Save o a v))
  save_fits o a v e p q = record { fits = ((e, p, q), tt) }

  -- code of an `if` fits where its test and both legs do
  pub if_fits : (a : Arg) (one other : Code) → FitsArg n a → Fitting fs n bytes i one
      → Fitting fs n bytes i other → Fitting fs n bytes i (only (If a one other))
  if_fits a one other p q r = record { fits = ((p, q.fits, r.fits), tt) }

  -- code of a loop fits where its body and its last part do
  pub loop_fits : (body post : Code) → Fitting fs n bytes true body → Fitting fs n bytes false post
      → Fitting fs n bytes i (only (Loop body post))
  loop_fits body post p q = record { fits = ((p.fits, q.fits), tt) }

  -- code for a kind that may be missing fits where it does for each kind
  pub with_kind_fits : (k : Option Kind) (f : Kind → Code) → ((k : Kind) → Fitting fs n bytes i (f k))
      → Fitting fs n bytes i (with_kind k f)
  with_kind_fits None f h = nothing_fits
  with_kind_fits (Some k) f h = h k

  -- code after code fits where both do
  pub joined : {a b : Code} → Fitting fs n bytes i a → Fitting fs n bytes i b → Fitting fs n bytes i (Then a b)
  joined {a} {b} p q = record { fits = then_fits fs n bytes i a b p.fits q.fits }
