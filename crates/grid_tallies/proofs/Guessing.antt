-- What becomes of guesses by notes one after another, and which notes tell of them.
use Rattle.std.proofs.Common.{◌≡◌, ◌<◌, ℕ, ◌+◌, ◌^◌, Bool, true, false, cond, List, [], ◌∷◌, ◌++◌}
use Rattle.std.proofs.Common.{refl, sym, ap, ◌∙◌, subst, true≢false, arith}
use Rattle.trips_isa.specs.declared.block.Block.{Block}
use Rattle.grid_events.specs.Notes.{Note}
use Rattle.grid_events.specs.Notes as note
use Rattle.grid_events.specs.Guesses.{guesses_on, right_from, right_on}
use Rattle.grid_tallies.specs.declared.guess_table.Guesses.{Guesses}
use Rattle.grid_tallies.specs.Predictions.{Guessed, Stand, guesses_behind}

-- one list of notes after another ----------------------------------------------------------------

behind_joined : (es fs : List Note) (qs : List (ℕ × ℕ))
    → guesses_behind (es ++ fs) qs ≡ guesses_behind fs (guesses_behind es qs)
behind_joined [] fs qs = refl
behind_joined (x ∷ es) fs qs = behind_joined es fs (guesses_on x qs)

right_joined : (es fs : List Note) (qs : List (ℕ × ℕ))
    → right_from qs (es ++ fs) ≡ right_from qs es + right_from (guesses_behind es qs) fs
right_joined [] fs qs = omega arith
right_joined (x ∷ es) fs qs = let e = right_joined es fs (guesses_on x qs) in omega (arith, e)

pub guessed_both : (a b c : Guesses) (es fs : List Note) → Guessed a es b → Guessed b fs c → Guessed a (es ++ fs) c
guessed_both a b c es fs one two = record {
  stand = λ qs st. subst (λ k. Stand k c) (sym (behind_joined es fs qs))
      (two.stand (guesses_behind es qs) (one.stand qs st));
  number = λ qs st room.
      let sum = right_joined es fs qs in
      let first : b.right ≡ a.right + right_from qs es = one.number qs st (omega (arith, sum, room)) in
      let last : c.right ≡ b.right + right_from (guesses_behind es qs) fs =
      two.number (guesses_behind es qs) (one.stand qs st) (omega (arith, sum, room, first)) in
      omega (arith, sum, first, last);
}

-- the notes that tell of guesses -----------------------------------------------------------------

-- a prediction, a frame that is filled, and an exit
abbrev pub is_heeded : Note → Bool
is_heeded (note.Predicts n k) = true
is_heeded (note.Fetches n k) = true
is_heeded (note.Leaves n k) = true
is_heeded _ = false

-- those among some notes
abbrev pub heeded : List Note → List Note
heeded [] = []
heeded (x ∷ xs) = cond (is_heeded x) (x ∷ heeded xs) (heeded xs)

-- no other changes a guess
none_on : (x : Note) (qs : List (ℕ × ℕ)) → is_heeded x ≡ false → guesses_on x qs ≡ qs
none_on (note.Begins k c) qs e = refl
none_on (note.Predicts n k) qs e = absurd (true≢false e)
none_on (note.GivesUp k) qs e = refl
none_on (note.Fetches n k) qs e = absurd (true≢false e)
none_on (note.Reads bank n r) qs e = refl
none_on (note.Works tile) qs e = refl
none_on (note.Fires tile n s o) qs e = refl
none_on (note.Delivers n p) qs e = refl
none_on (note.Loads tile n m) qs e = refl
none_on (note.Stores tile n m null) qs e = refl
none_on (note.Leaves n k) qs e = absurd (true≢false e)
none_on (note.Seals n) qs e = refl
none_on (note.Commits n k) qs e = refl
none_on (note.Traps n k) qs e = refl
none_on (note.Flushes n why) qs e = refl
none_on (note.OnMesh m) qs e = refl

-- nor makes one right
no_right : (x : Note) (qs : List (ℕ × ℕ)) → is_heeded x ≡ false → right_on x qs ≡ 0
no_right (note.Begins k c) qs e = refl
no_right (note.Predicts n k) qs e = refl
no_right (note.GivesUp k) qs e = refl
no_right (note.Fetches n k) qs e = refl
no_right (note.Reads bank n r) qs e = refl
no_right (note.Works tile) qs e = refl
no_right (note.Fires tile n s o) qs e = refl
no_right (note.Delivers n p) qs e = refl
no_right (note.Loads tile n m) qs e = refl
no_right (note.Stores tile n m null) qs e = refl
no_right (note.Leaves n k) qs e = absurd (true≢false e)
no_right (note.Seals n) qs e = refl
no_right (note.Commits n k) qs e = refl
no_right (note.Traps n k) qs e = refl
no_right (note.Flushes n why) qs e = refl
no_right (note.OnMesh m) qs e = refl

behind_heeded : (es : List Note) (qs : List (ℕ × ℕ)) → guesses_behind es qs ≡ guesses_behind (heeded es) qs
behind_heeded [] qs = refl
behind_heeded (x ∷ xs) qs = go (is_heeded x) refl (λ (k : List (ℕ × ℕ)). behind_heeded xs k)
  where
    go : (b : Bool) → is_heeded x ≡ b
        → ((k : List (ℕ × ℕ)) → guesses_behind xs k ≡ guesses_behind (heeded xs) k)
        → guesses_behind xs (guesses_on x qs) ≡ guesses_behind (cond b (x ∷ heeded xs) (heeded xs)) qs
    go true e rest = rest (guesses_on x qs)
    go false e rest = ap (guesses_behind xs) (none_on x qs e) ∙ rest qs

right_heeded : (es : List Note) (qs : List (ℕ × ℕ)) → right_from qs es ≡ right_from qs (heeded es)
right_heeded [] qs = refl
right_heeded (x ∷ xs) qs = go (is_heeded x) refl (λ (k : List (ℕ × ℕ)). right_heeded xs k)
  where
    go : (b : Bool) → is_heeded x ≡ b → ((k : List (ℕ × ℕ)) → right_from k xs ≡ right_from k (heeded xs))
        → right_on x qs + right_from (guesses_on x qs) xs ≡ right_from qs (cond b (x ∷ heeded xs) (heeded xs))
    go true e rest = let h = rest (guesses_on x qs) in omega (arith, h)
    go false e rest =
        let none = no_right x qs e in
        let same = ap (λ k. right_from k xs) (none_on x qs e) in
        let h = rest qs in
        omega (arith, none, same, h)

-- so two lists in which these are the same tell the same
pub guessed_same : (a b : Guesses) (es fs : List Note) → heeded es ≡ heeded fs → Guessed a es b → Guessed a fs b
guessed_same a b es fs same one = record {
  stand = λ qs st. subst (λ k. Stand k b) (behind_heeded es qs ∙ ap (λ ms. guesses_behind ms qs) same
      ∙ sym (behind_heeded fs qs)) (one.stand qs st);
  number = λ qs st room.
      let e : right_from qs es ≡ right_from qs fs =
      right_heeded es qs ∙ ap (right_from qs) same ∙ sym (right_heeded fs qs) in
      let more : b.right ≡ a.right + right_from qs es = one.number qs st (omega (arith, e, room)) in
      omega (arith, e, more);
}

-- and where there is none nothing is told
pub guessed_none : (a : Guesses) (es : List Note) → heeded es ≡ [] → Guessed a es a
guessed_none a es none = guessed_same a a [] es (sym none) (record {
  stand = λ qs st. st;
  number = λ qs st room. omega arith;
})

-- the same notes over another image and budget that are these
pub same_guessed : (notes : List Block → ℕ → List Note) (bs cs : List Block) (b d : ℕ) (x y : Guesses) → bs ≡ cs
    → b ≡ d → Guessed x (notes bs b) y → Guessed x (notes cs d) y
same_guessed notes bs cs b d x y e f told =
    subst (λ k. Guessed x (notes cs k) y) f (subst (λ k. Guessed x (notes k b) y) e told)
