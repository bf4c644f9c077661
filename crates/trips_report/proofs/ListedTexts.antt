-- The texts of the items of a list, one after the other, as a loop writes them; and a text behind
-- which nothing is shown.
use Rattle.std.proofs.Common.{◌≡◌, ◌∙◌, ℕ, ◌+◌, ◌<◌, ◌≤◌, List, ◌++◌, length, take, get_or, sym, ap}
use Rattle.std.proofs.Common.{refl, false, None}
use Rattle.std.specs.List.{flat_map}
use Rattle.std.proofs.lemmas.List.{flat_map_more, take_all, take_more}
use Rattle.target_asm_spec.specs.Numbers.{numbered}
use Rattle.trips_isa.specs.Machine.{State}
use Rattle.trips_report.specs.declared.measured.Measured.{Measured}
use Rattle.trips_report.specs.declared.show.Show.{Show}
use Rattle.trips_report.specs.Runs.{with_part, with_shown}

-- a loop's step: one item more
pub item_step : {A : Type 0} (f : A → List ℕ) (i : ℕ) (xs : List A) (d : A) (start out new : List ℕ)
    → i < length xs → out ≡ start ++ flat_map f (take i xs) → new ≡ out ++ f (get_or xs i d)
    → new ≡ start ++ flat_map f (take (i + 1) xs)
item_step f i xs d start out new l o n =
    n ∙ ap (λ t. t ++ f (get_or xs i d)) o ∙ flat_map_more f start (take i xs) (get_or xs i d)
    ∙ ap (λ t. start ++ flat_map f t) (sym (take_more xs i d l))

-- a loop's end, of items that are numbered: all of them are written
pub numbered_all : {A : Type 0} (f : ℕ → A → List ℕ) (k : ℕ) (xs : List A) (start out : List ℕ)
    → length xs ≤ k → out ≡ start ++ numbered f 0 (take k xs) → out ≡ start ++ numbered f 0 xs
numbered_all f k xs start out few o = o ∙ ap (λ t. start ++ numbered f 0 t) (take_all k xs few)

-- nothing is shown behind the ending
abbrev pub nothing_shown : Show
nothing_shown = record { regs = false; trace = false; cycles = false; stats = false; events = None }

-- where nothing is shown, the text stands alone
pub shows_nothing : (text : List ℕ) (s : State) (measured : Measured) (cost : ℕ)
    → with_shown text s measured cost nothing_shown ≡ text
unfolding with_part
shows_nothing text s measured cost = refl
