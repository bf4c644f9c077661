-- The entries of some cycles of a run.
use Rattle.std.proofs.Common.{◌≡◌, ℕ, Bool, true, false, cond, List, [], ◌∷◌, ◌++◌, Option, Some, None, refl, ap}
use Rattle.std.proofs.Common.{◌∙◌}
use Rattle.grid_events.specs.Notes.{Note}
use Rattle.grid_log.specs.declared.event.Event.{Event}
use Rattle.grid_log.specs.declared.log.Entry.{Entry}
use Rattle.grid_log.specs.Events.{entries_of, event_of, first_of}
use Rattle.grid_logged.specs.Runs.{entries_between, is_between}

-- those of two lists
pub between_both : (first last : ℕ) (xs ys : List Entry)
    → entries_between first last (xs ++ ys) ≡ entries_between first last xs ++ entries_between first last ys
between_both first last [] ys = refl
between_both first last (x ∷ xs) ys =
    go (is_between first last x.cycle) (entries_between first last (xs ++ ys)) (between_both first last xs ys)
  where
    go : (b : Bool) (zs : List Entry) → zs ≡ entries_between first last xs ++ entries_between first last ys
        → cond b (x ∷ zs) zs
        ≡ cond b (x ∷ entries_between first last xs) (entries_between first last xs) ++ entries_between first last ys
    go true zs e = ap (λ (l : List Entry). x ∷ l) e
    go false zs e = e

-- an entry of such a cycle before others
first_in : (first last c : ℕ) (o : Option Event) (xs : List Entry) → is_between first last c ≡ true
    → entries_between first last xs ≡ xs → entries_between first last (first_of c o xs) ≡ first_of c o xs
first_in first last c None xs on e = e
first_in first last c (Some x) xs on e =
    ap (λ (b : Bool). cond b (record { cycle = c; event = x } ∷ entries_between first last xs)
    (entries_between first last xs)) on
    ∙ ap (λ (l : List Entry). record { cycle = c; event = x } ∷ l) e

-- all entries of such a cycle
pub between_in : (first last c : ℕ) (es : List Note) → is_between first last c ≡ true
    → entries_between first last (entries_of c es) ≡ entries_of c es
between_in first last c [] on = refl
between_in first last c (x ∷ es) on =
    first_in first last c (event_of x) (entries_of c es) on (between_in first last c es on)

-- an entry of another cycle
first_out : (first last c : ℕ) (o : Option Event) (xs : List Entry) → is_between first last c ≡ false
    → entries_between first last xs ≡ [] → entries_between first last (first_of c o xs) ≡ []
first_out first last c None xs off e = e
first_out first last c (Some x) xs off e =
    ap (λ (b : Bool). cond b (record { cycle = c; event = x } ∷ entries_between first last xs)
    (entries_between first last xs)) off ∙ e

-- none of those of another cycle
pub between_out : (first last c : ℕ) (es : List Note) → is_between first last c ≡ false
    → entries_between first last (entries_of c es) ≡ []
between_out first last c [] off = refl
between_out first last c (x ∷ es) off =
    first_out first last c (event_of x) (entries_of c es) off (between_out first last c es off)
