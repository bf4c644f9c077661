-- A change of one frame by number is the change of the frames by age.
use Rattle.std.proofs.Common.{◌≡◌, ◌≢◌, ℕ, ◌<◌, Bool, true, false, cond, ◌||◌, ◌==◌, List, [], ◌∷◌, Option}
use Rattle.std.proofs.Common.{Some, None, set, length, refl, sym, ap, ap₂, ◌∙◌, subst, true≢false, arith}
use Rattle.std.specs.List.{list_any}
use Rattle.std.proofs.lemmas.Bool.Decides.{nat_tests}
use Rattle.commit_flush_spec.specs.Frames.{Frame, at}
use Rattle.commit_flush_spec.specs.Older.{Older, after}
use Rattle.commit_flush_spec.specs.Window.{change, alone}
use Rattle.commit_flush_spec.specs.inside.Laws.{AreNumbers}
use Rattle.commit_flush_spec.specs.inside.Numbered.{before, by_age, seen_at}
use Rattle.commit_flush_spec.proofs.Lists.{other_at, set_here}
use Rattle.commit_flush_spec.proofs.Look.{or_false}

-- a slot that the order does not name changes nothing
unnamed : (slots : List (Option Frame)) (order : List ℕ) (n : ℕ) (g : Option Frame)
    → list_any (λ m. m == n) order ≡ false → by_age (set slots n g) order ≡ by_age slots order
unnamed slots [] n g e = refl
unnamed slots (m ∷ order) n g e =
    let p = or_false (m == n) (list_any (λ k. k == n) order) e in
    let other : m ≢ n = λ z. let bad : (m == n) ≡ true = grind (arith, nat_tests, z) in true≢false (sym bad ∙ p.0) in
    ap₂ before (other_at slots n m g other) (unnamed slots order n g p.1)

-- a change of the frame of a number, among frames kept by number, is the change of the frames by age
pub by_number : (slots : List (Option Frame)) (order : List ℕ) → AreNumbers order → length slots ≡ 8
    → ((m : ℕ) (f : Frame) → at slots m ≡ Some f → f.number ≡ m)
    → (does : Older → Frame → Frame) (o : Older) (n : ℕ) (f : Frame) → at slots n ≡ Some f
    → list_any (λ m. m == n) order ≡ true
    → change (alone does) o (by_age slots order) n
    ≡ by_age (set slots n (Some (does (seen_at o (by_age slots order) n) f))) order
by_number slots [] d size named does o n f e i = absurd (cc)
by_number slots (m ∷ order) d size named does o n f e i =
    go (m == n) refl i (λ p w. by_number slots order d.2 size named does p n f e w)
  where
    here : (h : Option Frame) → at slots m ≡ h → m ≡ n → change (alone does) o (before h (by_age slots order)) n
        ≡ before (Some (does (seen_at o (before h (by_age slots order)) n) f)) (by_age slots order)
    here None k z = absurd (let bad : None ≡ Some f = sym k ∙ ap (at slots) z ∙ e in cc)
    here (Some h) k z =
        let same : h ≡ f = (let both : Some h ≡ Some f = sym k ∙ ap (at slots) z ∙ e in cc) in
        let it : (h.number == n) ≡ true = (let w : h.number ≡ m = named m h k in grind (arith, nat_tests, w, z)) in
        ap (λ b. cond b (does o h ∷ by_age slots order) (h ∷ change (alone does) (after h o) (by_age slots order) n))
        it
        ∙ ap (λ x. does o x ∷ by_age slots order) same
        ∙ sym (ap (λ b. does (cond b o (seen_at (after h o) (by_age slots order) n)) f ∷ by_age slots order) it)

    there : (h : Option Frame) → at slots m ≡ h → (m == n) ≡ false → list_any (λ k. k == n) order ≡ true
        → ((p : Older) → change (alone does) p (by_age slots order) n ≡ by_age
        (set slots n (Some (does (seen_at p (by_age slots order) n) f))) order)
        → change (alone does) o (before h (by_age slots order)) n
        ≡ before h (by_age (set slots n (Some (does (seen_at o (before h (by_age slots order)) n) f))) order)
    there None k z w rest = rest o
    there (Some h) k z w rest =
        let it : (h.number == n) ≡ false = ap (λ x. x == n) (named m h k) ∙ z in
        ap (λ b. cond b (does o h ∷ by_age slots order) (h ∷ change (alone does) (after h o) (by_age slots order) n))
        it
        ∙ ap (λ x. h ∷ x) (rest (after h o))
        ∙ sym (ap (λ b. h ∷ by_age (set slots n
        (Some (does (cond b o (seen_at (after h o) (by_age slots order) n)) f))) order) it)

    go : (b : Bool) → (m == n) ≡ b → (b || list_any (λ k. k == n) order) ≡ true
        → ((p : Older) → list_any (λ k. k == n) order ≡ true
        → change (alone does) p (by_age slots order) n
        ≡ by_age (set slots n (Some (does (seen_at p (by_age slots order) n) f))) order)
        → change (alone does) o (before (at slots m) (by_age slots order)) n
        ≡ by_age (set slots n (Some (does (seen_at o (before (at slots m) (by_age slots order)) n) f))) (m ∷ order)
    go true z w rest =
        let mn : m ≡ n = grind (arith, nat_tests) in
        let small : m < 8 = d.0 in
        let fits : n < length slots = omega arith in
        here (at slots m) refl mn
        ∙ sym (ap₂ before (ap (at (set slots n
        (Some (does (seen_at o (before (at slots m) (by_age slots order)) n) f)))) mn
        ∙ set_here slots n (Some (does (seen_at o (before (at slots m) (by_age slots order)) n) f)) fits)
        (unnamed slots order n (Some (does (seen_at o (before (at slots m) (by_age slots order)) n) f))
        (subst (λ k. list_any (λ j. j == k) order ≡ false) mn d.1)))
    go false z w rest =
        let other : m ≢ n = λ y. let bad : (m == n) ≡ true = grind (arith, nat_tests, y) in
        true≢false (sym bad ∙ z) in
        there (at slots m) refl z w (λ p. rest p w)
        ∙ sym (ap (λ y. before y (by_age
        (set slots n (Some (does (seen_at o (before (at slots m) (by_age slots order)) n) f))) order))
        (other_at slots n m (Some (does (seen_at o (before (at slots m) (by_age slots order)) n) f)) other))
