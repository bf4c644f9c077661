-- Rows of marks, and rows of what loads took, as lists that are changed one by one.
use Rattle.std.proofs.Common.{◌≡◌, ℕ, List, set, get_or, Option, Some, None}
use Rattle.std.proofs.Common.{refl, sym}
use Rattle.trips_isa.specs.Marks.{or_unmarked}
use Rattle.commit_flush_spec.specs.Marks.{zeros}
use Rattle.commit_flush_spec.specs.Frames.{blank, unset}
use Rattle.base.specs.inside.Rows.{no_flags, no_items}
use Rattle.base.proofs.RowFacts.{map_set, get_map, map_blank}
use Rattle.frame_state.specs.inside.MarkRows.{marks_of}
use Rattle.frame_state.specs.inside.Held.{taken_of, taken_if, all_taken}
use Rattle.frame_state.specs.declared.parts.Took.{Took}

-- the same in the words of the window's frames
pub bare_items : {A : Type 0} → (n : ℕ) → no_items {A = A} n ≡ blank n
unfolding no_items blank
bare_items n = refl

pub bare_flags : (n : ℕ) → no_flags n ≡ unset n
unfolding no_flags unset
bare_flags n = refl

pub no_marks : (n : ℕ) → marks_of (no_items n) ≡ zeros n
unfolding no_items zeros
no_marks n = map_blank or_unmarked n None

pub mark_got : (xs : List (Option ℕ)) (q : ℕ) → or_unmarked (get_or xs q None) ≡ get_or (marks_of xs) q 0
mark_got xs q = sym (get_map or_unmarked xs q None)

pub mark_set : (xs : List (Option ℕ)) (q c : ℕ) → marks_of (set xs q (Some c)) ≡ set (marks_of xs) q c
mark_set xs q c = map_set or_unmarked xs q (Some c)

pub mark_cleared : (xs : List (Option ℕ)) (q : ℕ) → marks_of (set xs q None) ≡ set (marks_of xs) q 0
mark_cleared xs q = map_set or_unmarked xs q None

pub none_taken : (n : ℕ) → all_taken (no_items n) ≡ blank n
unfolding no_items blank
none_taken n = map_blank taken_if n None

pub taken_set : (xs : List (Option Took)) (q : ℕ) (t : Took)
    → all_taken (set xs q (Some t)) ≡ set (all_taken xs) q (Some (taken_of t))
taken_set xs q t = map_set taken_if xs q (Some t)

-- what a load took is, in the row of what was taken, at the same number
pub taken_got : (xs : List (Option Took)) (q : ℕ) → taken_if (get_or xs q None) ≡ get_or (all_taken xs) q None
taken_got xs q = sym (get_map taken_if xs q None)

-- what a cleared row is
pub ruleset bare = (bare_items, bare_flags, none_taken)
