-- Frames whose numbers differ are found by them.
use Rattle.std.proofs.Common.{◌≡◌, ℕ, ◌==◌, Bool, false, cond, List, [], ◌∷◌, Option, Some, None}
use Rattle.std.proofs.Common.{refl, sym, ap, ap₂, ◌∙◌}
use Rattle.std.specs.List.{list_any}
use Rattle.std.proofs.lemmas.Bool.{eq-eqb, ne_eqb, or_parts, both_ways}
use Rattle.commit_flush_spec.specs.Frames.{Frame}
use Rattle.commit_flush_spec.specs.inside.Laws.{AreNumbers}
use Rattle.grid_cycle_spec.specs.Grid.{numbers_of}
use Rattle.grid_cycle_spec.specs.Choosing.{least, found_in, eldest}
use Rattle.grid_parts.specs.inside.EldestChoices.{found_for, first_found}
use Rattle.grid_parts.specs.inside.Asked.{frame_of}

-- each of some frames is found by its number among all
abbrev pub AreNamed : List Frame → List Frame → Type 0
AreNamed all [] = Unit {0}
AreNamed all (f ∷ fs) = (frame_of f.number all ≡ Some f) × AreNamed all fs

eqb_swap : (a b : ℕ) → (a == b) ≡ false → (b == a) ≡ false
eqb_swap a b e = ne_eqb b a (λ d. both_ways (a == b) e (eq-eqb a b (sym d)))

-- one more frame, of another number, does not hide them
behind : (h : Frame) (all fs : List Frame) → list_any (λ m. m == h.number) (numbers_of fs) ≡ false
    → AreNamed all fs → AreNamed (h ∷ all) fs
behind h all [] e named = tt
behind h all (f ∷ fs) e named =
    let parts = or_parts (f.number == h.number) (list_any (λ m. m == h.number) (numbers_of fs)) e in (
      ap (λ b. cond b (Some h) (frame_of f.number all)) (eqb_swap f.number h.number parts.0) ∙ named.0,
      behind h all fs parts.1 named.1,
    )

-- frames whose numbers differ are each found by their own
pub all_named : (fs : List Frame) → AreNumbers (numbers_of fs) → AreNamed fs fs
all_named [] distinct = tt
all_named (f ∷ fs) distinct = (
  ap (λ b. cond b (Some f) (frame_of f.number fs)) (eq-eqb f.number f.number refl),
  behind f fs fs distinct.1 (all_named fs distinct.2),
)

-- what is found for a number is what is found in its frame
pub first_named : (all : List Frame) (find : ℕ → Option ℕ) (test : Frame → ℕ → Bool) (n : ℕ)
    → ((f : Frame) → frame_of f.number all ≡ Some f → find f.number ≡ least (test f) n 0)
    → (fs : List Frame) → AreNamed all fs → first_found find (numbers_of fs) ≡ eldest test n fs
first_named all find test n is [] named = refl
first_named all find test n is (f ∷ fs) named =
    ap₂ (found_for f.number) (is f named.0) (first_named all find test n is fs named.1)
    ∙ go (least (test f) n 0)
  where
    go : (o : Option ℕ) → found_for f.number o (eldest test n fs) ≡ found_in f o (eldest test n fs)
    go None = refl
    go (Some k) = refl
