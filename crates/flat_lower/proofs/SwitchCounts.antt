-- The sections of a switch by their number: few are skipped where few labels are compared.
use Rattle.std.proofs.Common.{◌≡◌, ℕ, zero, suc, ◌+◌, ◌*◌, ◌≤◌, Bool, true, false, cond, List, [], ◌∷◌}
use Rattle.std.proofs.Common.{drop, length, Option, Some, None, refl, ap, arith}
use Rattle.c_tree.specs.declared.Kind.{Kind}
use Rattle.c_tree.specs.declared.TypedSection.{TypedSection}
use Rattle.flat_lower.specs.declared.around.Around.{Around}
use Rattle.flat_lower.specs.inside.Tree.{Sections, NoSections, WithSection}
use Rattle.flat_lower.specs.inside.Switches.{has_default, default_at, section_count}
use Rattle.flat_lower.specs.inside.Emitted.{sections_in}
use Rattle.flat_lower.specs.inside.FitsSwitches.{case_count, cases_in, free_sections}
use Rattle.flat_lower.specs.inside.Fits.{Scope, FitsSections}
use Rattle.flat_lower.specs.inside.Sizes.{label_count, size_of_sections}
use Rattle.flat_lower.proofs.SwitchLabels.{one_of_two}

-- what stands at `default` is one of the sections, or behind them
default_under : (n o most : ℕ) (xs : Sections) → o ≤ most → n + section_count xs ≤ most
    → default_at n o xs ≤ most
default_under n o most NoSections h k = h
default_under n o most (WithSection ls body rest) h k =
    default_under (suc n) (cond (has_default ls) n o) most rest (by_default (has_default ls)) (omega arith)
  where
    by_default : (b : Bool) → cond b n o ≤ most
    by_default true = omega arith
    by_default false = h

-- each section has a label of a case or is free
counts : (xs : Sections) → section_count xs ≤ cases_in xs + free_sections xs
counts NoSections = omega arith
counts (WithSection ls body rest) = let h = counts rest in let two = one_of_two (case_count ls) in omega arith

-- the sections before the default one are no more than three for each case
pub default_small : (c : Scope) (k j : Option Kind) (x : Around) (xs : Sections) → FitsSections c k x j xs
    → free_sections xs ≤ 1 → default_at 0 (section_count xs) xs ≤ 3 * cases_in xs
default_small c k j x NoSections t h = omega arith
default_small c k j x (WithSection [] body rest) t h = absurd t.0
default_small c k j x (WithSection (Some w ∷ ls) body rest) t h =
    let xs = WithSection (Some w ∷ ls) body rest in
    let under = default_under 0 (section_count xs) (section_count xs) xs (omega arith) (omega arith) in
    let few = counts xs in
    omega arith
default_small c k j x (WithSection (None ∷ ls) body NoSections) t h = omega arith
default_small c k j x (WithSection (None ∷ ls) body (WithSection ls2 body2 rest)) t h =
    let xs = WithSection (None ∷ ls) body (WithSection ls2 body2 rest) in
    let under = default_under 0 (section_count xs) (section_count xs) xs (omega arith) (omega arith) in
    let few = counts xs in
    omega arith

few_cases : (ls : List (Option ℕ)) → case_count ls ≤ label_count ls
few_cases [] = omega arith
few_cases (None ∷ ls) = let h = few_cases ls in omega arith
few_cases (Some w ∷ ls) = let h = few_cases ls in omega arith

-- the labels of cases are a part of a switch
pub cases_small : (xs : Sections) → cases_in xs ≤ size_of_sections xs
cases_small NoSections = omega arith
cases_small (WithSection ls body rest) =
    let h = cases_small rest in let few = few_cases ls in omega arith

-- there are as many sections in code as in the tree
pub count_is : (xs : List TypedSection) → section_count (sections_in xs) ≡ length xs
count_is [] = refl
count_is (x ∷ xs) = ap suc (count_is xs)

-- without its first 0 sections a switch has all
pub drop_none : (xs : List TypedSection) → drop 0 xs ≡ xs
drop_none [] = refl
drop_none (x ∷ xs) = refl

-- the later ones of sections that fit, fit
pub fits_drop : (c : Scope) (k j : Option Kind) (x : Around) (xs : List TypedSection) (m : ℕ)
    → FitsSections c k x j (sections_in xs) → FitsSections c k x j (sections_in (drop m xs))
fits_drop c k j x [] zero t = t
fits_drop c k j x [] (suc m) t = t
fits_drop c k j x (z ∷ xs) zero t = t
fits_drop c k j x (z ∷ xs) (suc m) t = fits_drop c k j x xs m t.4

-- the later ones of some sections are no larger than all
pub size_drop : (xs : List TypedSection) (m : ℕ)
    → size_of_sections (sections_in (drop m xs)) ≤ size_of_sections (sections_in xs)
size_drop [] zero = omega arith
size_drop [] (suc m) = omega arith
size_drop (z ∷ xs) zero = omega arith
size_drop (z ∷ xs) (suc m) = let h = size_drop xs m in omega arith
