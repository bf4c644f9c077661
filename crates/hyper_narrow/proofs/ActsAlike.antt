-- Where the same is done, it is clean where it was.
use Rattle.std.proofs.Common.{◌≡◌, Bool, true, false, List, [], ◌∷◌, refl, sym, subst, not, ◌&&◌}
use Rattle.std.specs.Prelude.{All}
use Rattle.std.specs.List.{Contains}
use Rattle.std.proofs.lemmas.List.Elements.{All-nil, All-cons, All-head, All-tail, All-weaker, All-contains}
use Rattle.std.proofs.lemmas.List.Elements.{All-contains_itself}
use Rattle.trips_isa.specs.inside.Acts.{Act, is_fault, is_clean}
use Rattle.hyper_narrow.specs.inside.NarrowedMeaning.{SameActs}
use Rattle.hyper_narrow.specs.inside.Laws.{CleanAlike}

-- equal lists do the same
pub equal_acts : (xs ys : List Act) → xs ≡ ys → SameActs xs ys
equal_acts xs ys e a = (
  λ c. subst (λ (l : List Act). Contains l a) e c,
  λ c. subst (λ (l : List Act). Contains l a) (sym e) c,
)

-- what does the same as another does the same as a third does
pub acts_on : (xs ys zs : List Act) → SameActs xs ys → SameActs ys zs → SameActs xs zs
acts_on xs ys zs one two a = (λ c. (two a).0 ((one a).0 c), λ c. (one a).1 ((two a).1 c))

-- so does a list that equals the other
pub acts_by : (xs ys zs : List Act) → xs ≡ ys → SameActs ys zs → SameActs xs zs
acts_by xs ys zs e same = subst (λ (l : List Act). SameActs l zs) (sym e) same

-- it does not fault
abbrev Fine : Act → Type 0
Fine a = not (is_fault a) ≡ true

both_true : (a b : Bool) → a ≡ true → b ≡ true → (a && b) ≡ true
both_true true true d e = refl
both_true true false d e = absurd (cc)
both_true false b d e = absurd (cc)

first_true : (a b : Bool) → (a && b) ≡ true → a ≡ true
first_true true b e = refl
first_true false b e = absurd (cc)

second_true : (a b : Bool) → (a && b) ≡ true → b ≡ true
second_true true b e = e
second_true false b e = absurd (cc)

-- where all is clean nothing faults
all_fine : (xs : List Act) → is_clean xs ≡ true → All Fine xs
all_fine [] e = All-nil Fine
all_fine (x ∷ xs) e =
    All-cons Fine x xs (first_true (not (is_fault x)) (is_clean xs) e)
    (all_fine xs (second_true (not (is_fault x)) (is_clean xs) e))

-- and the other way round
fine_clean : (xs : List Act) → All Fine xs → is_clean xs ≡ true
fine_clean [] f = refl
fine_clean (x ∷ xs) f =
    both_true (not (is_fault x)) (is_clean xs) (All-head Fine x xs f) (fine_clean xs (All-tail Fine x xs f))

-- what is done elsewhere too is clean where that is
clean_where : (xs ys : List Act) → ((a : Act) → Contains ys a → Contains xs a) → is_clean xs ≡ true → is_clean ys ≡ true
clean_where xs ys among e =
    fine_clean ys
    (All-weaker (Contains ys) Fine (λ a c. All-contains Fine xs a (all_fine xs e) (among a c)) ys
    (All-contains_itself ys))

-- two answers of which each is true where the other is
alike : (a b : Bool) → (a ≡ true → b ≡ true) → (b ≡ true → a ≡ true) → a ≡ b
alike true b f g = sym (f refl)
alike false true f g = g refl
alike false false f g = refl

-- where the same is done, it is clean where it was
pub clean_alike : CleanAlike
clean_alike xs ys same =
    alike (is_clean xs) (is_clean ys) (clean_where xs ys (λ a. (same a).1)) (clean_where ys xs (λ a. (same a).0))
