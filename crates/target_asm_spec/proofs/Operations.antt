-- The numbers and the targets of an instruction are read from their texts.
use Rattle.std.proofs.Common.{◌≡◌, ℕ, ◌<◌, ◌≤◌, List, ◌∷◌, ◌++◌, append_assoc}
use Rattle.std.proofs.Common.{refl, sym, subst, arith, Option, Some, None, Bool, true}
use Rattle.std.proofs.Common.{false}
use Rattle.std.specs.Prelude.{ℤ, pos, negsuc, codes}
use Rattle.std.specs.Fmt.{decimal, signed_decimal}
use Rattle.trips_isa.specs.declared.op.Op.{Op}
use Rattle.trips_isa.specs.declared.op.Op.TheVariants.{Bro, Callo, Gens}
use Rattle.trips_isa.specs.declared.form.Form.{Form}
use Rattle.trips_isa.specs.declared.form.Form.TheVariants.{General, Immediate, Load, Store, Branch}
use Rattle.trips_isa.specs.declared.form.Form.TheVariants.{Constant}
use Rattle.trips_isa.specs.declared.block.Spot.{Spot}
use Rattle.trips_isa.specs.declared.block.Inst.{Inst}
use Rattle.trips_isa.specs.Fits.{FitsTarget, FitsTargets, FitsSigned, FitsUnsigned, FitsOffset}
use Rattle.trips_isa.specs.Fits.{FitsConstant, FitsForm}
use Rattle.trips_isa.specs.Limits.{offset_half}
use Rattle.isa_table.specs.Spots.{spot_text}
use Rattle.target_asm_spec.specs.Fields.{target_text, goal_text, branch_text, numbers_text}
use Rattle.target_asm_spec.specs.declared.spelled.Goal.{Goal}
use Rattle.target_asm_spec.specs.declared.spelled.Goal.TheVariants.{Label, Offset}
use Rattle.target_asm_spec.specs.declared.spelled.Numbers.{Numbers}
use Rattle.target_asm_spec.specs.declared.spelled.Targets.{Targets}
use Rattle.target_asm_spec.specs.inside.Reading.{after_in, digits_in, spaced_in}
use Rattle.target_asm_spec.specs.inside.Instructions.{jumps, goal_in, jump_in, numbers_are, immediate_in}
use Rattle.target_asm_spec.specs.inside.Instructions.{number_and_immediate_in}
use Rattle.target_asm_spec.specs.inside.Instructions.{exit_in, numbers_in, two_targets_in, one_target_in}
use Rattle.target_asm_spec.specs.inside.Instructions.{targets_in}
use Rattle.target_asm_spec.proofs.Numbers.{after_front, number_pos, number_again, spaced_again, IsSmall}
use Rattle.target_asm_spec.proofs.Targets.{spelled_target, next_again, none_again, some_again}
use Rattle.target_asm_spec.proofs.Targets.{feed_ends}

-- the targets, the end of the line and what comes after
abbrev pub after_numbers : Option Spot → Option Spot → List ℕ → List ℕ
after_numbers first second rest = target_text first ++ (target_text second ++ 10 ∷ rest)

space_stops : (rest : List ℕ) → digits_in (32 ∷ rest) ≡ 0
unfolding digits_in
space_stops rest = refl

feed_stops : (rest : List ℕ) → digits_in (10 ∷ rest) ≡ 0
unfolding digits_in
feed_stops rest = refl

-- no digit stands before the targets
pub targets_stop : (first second : Option Spot) (rest : List ℕ)
    → digits_in (after_numbers first second rest) ≡ 0
targets_stop (Some s) second rest = space_stops (spot_text s ++ (target_text second ++ 10 ∷ rest))
targets_stop None (Some s) rest = space_stops (spot_text s ++ 10 ∷ rest)
targets_stop None None rest = feed_stops rest

-- ---- numbers within their fields are small

-- a number that fits in a field is small
pub signed_small : (half : ℕ) (z : ℤ) → half ≤ 999999 → FitsSigned half z → IsSmall z
signed_small half (pos n) h f = omega (arith, h, f)
signed_small half (negsuc n) h f = omega (arith, h, f)

unsigned_small : (z : ℤ) → FitsUnsigned 65536 z → IsSmall z
unsigned_small (pos n) f = omega (arith, f)
unsigned_small (negsuc n) f = absurd f

-- a constant that fits its operation is small
pub constant_small : (op : Op) (z : ℤ) → FitsConstant op z → IsSmall z
constant_small Gens z f = signed_small 32768 z (omega arith) f
constant_small op z f = unsigned_small z f

-- the number of a goal is small, if there is one
abbrev pub SmallGoal : Option ℕ → Type 0
SmallGoal None = Unit {0}
SmallGoal (Some k) = k < 1000000000

-- ---- the goal of a branch

-- the goal of an instruction that jumps: the block's label, or its offset where no block begins there
abbrev pub goal_if : Bool → Option ℕ → ℤ → Option Goal
goal_if true (Some k) imm = Some (Label (pos k))
goal_if true None imm = Some (Offset imm)
goal_if false goal imm = None

no_label : (t : List ℕ) → after_in (codes " @") (32 ∷ 33 ∷ t) ≡ None
unfolding after_in
no_label t = refl

goal_again : (goal : Option ℕ) (imm : ℤ) (rest : List ℕ) → SmallGoal goal → IsSmall imm
    → digits_in rest ≡ 0
    → goal_in (32 ∷ (goal_text goal imm ++ rest)) ≡ Some (goal_if true goal imm, rest)
unfolding goal_in
goal_again (Some k) imm rest l s z =
    let a : after_in (codes " @") (32 ∷ 64 ∷ (decimal k ++ rest)) ≡ Some (decimal k ++ rest) =
    after_front (codes " @") (decimal k ++ rest) in
    rw (a, number_pos k rest l z) refl
goal_again None imm rest l s z =
    let a : after_in (codes " @") (32 ∷ 33 ∷ (signed_decimal imm ++ rest))
    ≡ None = no_label (signed_decimal imm ++ rest) in
    let b : after_in (codes " !") (32 ∷ 33 ∷ (signed_decimal imm ++ rest)) ≡ Some (signed_decimal imm ++ rest) =
    after_front (codes " !") (signed_decimal imm ++ rest) in
    rw (a, b, number_again imm rest s z) refl

jump_again : (op : Op) (goal : Option ℕ) (imm : ℤ) (rest : List ℕ) → SmallGoal goal
    → FitsOffset op imm → digits_in rest
    ≡ 0
    → jump_in (jumps op) (branch_text op goal imm ++ rest)
    ≡ Some (goal_if (jumps op) goal imm, rest)
unfolding jump_in
jump_again Bro goal imm rest l f z = goal_again goal imm rest l
    (signed_small offset_half imm (omega arith) f) z
jump_again Callo goal imm rest l f z = goal_again goal imm rest l
    (signed_small offset_half imm (omega arith) f) z
jump_again op goal imm rest l f z = refl

branch_stops : (op : Op) (goal : Option ℕ) (imm : ℤ) (rest : List ℕ) → digits_in rest ≡ 0
    → digits_in (branch_text op goal imm ++ rest) ≡ 0
branch_stops Bro goal imm rest z = space_stops (goal_text goal imm ++ rest)
branch_stops Callo goal imm rest z = space_stops (goal_text goal imm ++ rest)
branch_stops op goal imm rest z = z

-- ---- the numbers by form

-- the numbers of an instruction as its line spells them, by its form
unfoldable pub spelled_numbers : Form → Inst → Option ℕ → Numbers
spelled_numbers General i goal = numbers_are (pos 0) (pos 0) None
spelled_numbers Immediate i goal = numbers_are (pos 0) i.imm None
spelled_numbers Constant i goal = numbers_are (pos 0) i.imm None
spelled_numbers Load i goal = numbers_are (pos i.number) i.imm None
spelled_numbers Store i goal = numbers_are (pos i.number) i.imm None
spelled_numbers Branch i goal = numbers_are (pos i.number) (pos 0) (goal_if (jumps i.op) goal i.imm)

one_number : (imm : ℤ) (rest : List ℕ) → IsSmall imm → digits_in rest ≡ 0
    → immediate_in (32 ∷ (signed_decimal imm ++ rest)) ≡ Some (numbers_are (pos 0) imm None, rest)
unfolding immediate_in
one_number imm rest l z = rw (spaced_again imm rest l z) refl

two_numbers : (n : ℕ) (imm : ℤ) (rest : List ℕ) → n < 32 → IsSmall imm → digits_in rest ≡ 0
    → number_and_immediate_in (32 ∷ ((decimal n ++ 32 ∷ signed_decimal imm) ++ rest))
    ≡ Some (numbers_are (pos n) imm None, rest)
unfolding number_and_immediate_in
two_numbers n imm rest l s z =
    let t : List ℕ = 32 ∷ (signed_decimal imm ++ rest) in
    let e : (decimal n ++ 32 ∷ signed_decimal imm) ++ rest ≡ decimal n
    ++ t = append_assoc (decimal n) (32 ∷ signed_decimal imm) rest in
    let small : IsSmall (pos n) = omega (arith, l) in
    let a : spaced_in (32 ∷ (decimal n ++ t))
    ≡ Some (pos n, t) = spaced_again (pos n) t small (space_stops (signed_decimal imm ++ rest)) in
    let b : spaced_in t ≡ Some (imm, rest) = spaced_again imm rest s z in
    rw (e, a, b) refl

exit_again : (i : Inst) (goal : Option ℕ) (rest : List ℕ) → i.number < 8 → SmallGoal goal
    → FitsOffset i.op i.imm
    → digits_in rest ≡ 0
    → exit_in i.op (32 ∷ ((decimal i.number ++ branch_text i.op goal i.imm) ++ rest))
    ≡ Some (numbers_are (pos i.number) (pos 0) (goal_if (jumps i.op) goal i.imm), rest)
unfolding exit_in
exit_again i goal rest l g f z =
    let t : List ℕ = branch_text i.op goal i.imm ++ rest in
    let e : (decimal i.number ++ branch_text i.op goal i.imm) ++ rest ≡ decimal i.number ++ t =
    append_assoc (decimal i.number) (branch_text i.op goal i.imm) rest in
    let small : IsSmall (pos i.number) = omega (arith, l) in
    let a : spaced_in (32 ∷ (decimal i.number ++ t)) ≡ Some (pos i.number, t) =
    spaced_again (pos i.number) t small (branch_stops i.op goal i.imm rest z) in
    let b : jump_in (jumps i.op) t ≡ Some (
      goal_if (jumps i.op) goal i.imm,
      rest,
    ) = jump_again i.op goal i.imm rest g f z in
    rw (e, a, b) refl

-- the numbers of an instruction that fits are read again from their text
pub numbers_again : (f : Form) (i : Inst) (goal : Option ℕ) (rest : List ℕ) → FitsForm f i
    → SmallGoal goal
    → digits_in rest ≡ 0
    → numbers_in f i.op (numbers_text f i goal ++ rest) ≡ Some (spelled_numbers f i goal, rest)
unfolding numbers_in spelled_numbers
numbers_again General i goal rest f g z = refl
numbers_again Immediate i goal rest f g z =
    one_number i.imm rest (signed_small 256 i.imm (omega arith) f.1) z
numbers_again Constant i goal rest f g z = one_number i.imm rest (constant_small i.op i.imm f.1) z
numbers_again Load i goal rest f g z = two_numbers i.number i.imm rest f.2
    (signed_small 256 i.imm (omega arith) f.1) z
numbers_again Store i goal rest f g z = two_numbers i.number i.imm rest f.2
    (signed_small 256 i.imm (omega arith) f.1) z
numbers_again Branch i goal rest f g z = exit_again i goal rest f.2 g f.1 z

-- ---- the targets by form

-- the targets of an instruction as its line spells them
abbrev pub spelled_targets : Inst → Targets
spelled_targets i = record { first = spelled_target i.first; second = spelled_target i.second }

neither : (rest : List ℕ) → two_targets_in (10 ∷ rest)
    ≡ Some (record { first = None; second = None }, 10 ∷ rest)
unfolding two_targets_in
neither rest = let n = none_again (10 ∷ rest) (feed_ends rest) in rw (n, n) refl

two_again : (first second : Option Spot) (rest : List ℕ) → FitsTarget first → FitsTarget second
    → FitsTargets first second
    → two_targets_in (after_numbers first second rest)
    ≡ Some (record { first = spelled_target first; second = spelled_target second }, 10 ∷ rest)
unfolding two_targets_in
two_again None second rest f s o =
    let e : second ≡ None = o in
    subst (λ (x : Option Spot). two_targets_in (after_numbers None x rest)
    ≡ Some (record { first = None; second = spelled_target x }, 10 ∷ rest)) (sym e) (neither rest)
two_again (Some s) second rest f g o =
    let a = some_again s (target_text second ++ 10 ∷ rest) f in
    let b = next_again second (10 ∷ rest) g (feed_ends rest) in
    rw (a, b) refl

one_again : (first second : Option Spot) (rest : List ℕ) → FitsTarget first → second ≡ None
    → one_target_in (after_numbers first second rest)
    ≡ Some (record { first = spelled_target first; second = spelled_target second }, 10 ∷ rest)
unfolding one_target_in
one_again first second rest f e =
    subst (λ (x : Option Spot). one_target_in (after_numbers first x rest)
    ≡ Some (record { first = spelled_target first; second = spelled_target x }, 10 ∷ rest)) (sym e)
    (let n = next_again first (10 ∷ rest) f (feed_ends rest) in rw n refl)

no_target : (first second : Option Spot) (rest : List ℕ) → first ≡ None → second ≡ None
    → ◌≡◌ {A = Option (Targets × List ℕ)} (Some (
      record { first = None; second = None },
      after_numbers first second rest,
    ))
    (Some (record { first = spelled_target first; second = spelled_target second }, 10 ∷ rest))
no_target first second rest e g = rw (e, g) refl

-- the targets of an instruction that fits are read again from their text
pub targets_again : (f : Form) (i : Inst) (rest : List ℕ) → FitsForm f i
    → targets_in f (after_numbers i.first i.second rest) ≡ Some (spelled_targets i, 10 ∷ rest)
unfolding targets_in
targets_again General i rest f = two_again i.first i.second rest f.0.first f.0.second f.0.order
targets_again Immediate i rest f = one_again i.first i.second rest f.0.first f.0.second
targets_again Constant i rest f = one_again i.first i.second rest f.0.first f.0.second
targets_again Load i rest f = one_again i.first i.second rest f.0.first f.0.second
targets_again Store i rest f = no_target i.first i.second rest f.0.first f.0.second
targets_again Branch i rest f = no_target i.first i.second rest f.0.first f.0.second
