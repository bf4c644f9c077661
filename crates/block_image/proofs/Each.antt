-- What holds of each item of a list, by recursion on the list.
use Rattle.std.proofs.Common.{ℕ, zero, suc, ◌^◌, ◌<◌, List, [], ◌∷◌, ◌++◌, take, drop, get_or}
use Rattle.std.proofs.Common.{arith}
use Rattle.std.specs.Prelude.{All}
use Rattle.std.proofs.lemmas.List.Elements.{All-head, All-tail, All-cons}

-- a condition holds of each item
abbrev pub Each : {A : Type 0} → (A → Type 0) → List A → Type 0
Each P [] = Unit {0}
Each P (x ∷ xs) = P x × Each P xs

-- each number is a byte
abbrev pub AreBytes : List ℕ → Type 0
AreBytes bs = Each (λ b. b < 256) bs

-- a number of 32 bits
abbrev pub IsWord : ℕ → Type 0
IsWord w = w < 2 ^ 32

-- each number is a word of 32 bits
abbrev pub AreWords : List ℕ → Type 0
AreWords ws = Each (λ w. w < 2 ^ 32) ws

-- what holds of all items holds of each
pub each_of : {A : Type 0} (P : A → Type 0) (xs : List A) → All P xs → Each P xs
each_of P [] f = tt
each_of P (x ∷ xs) f = (All-head P x xs f, each_of P xs (All-tail P x xs f))

-- what holds of each item holds of all
pub all_of : {A : Type 0} (P : A → Type 0) (xs : List A) → Each P xs → All P xs
all_of P [] f = λ k d l. absurd (omega arith)
all_of P (x ∷ xs) f = All-cons P x xs f.0 (all_of P xs f.1)

-- what holds of each item holds of each behind the first ones
pub each_drop : {A : Type 0} (P : A → Type 0) (n : ℕ) (xs : List A) → Each P xs → Each P (drop n xs)
each_drop P zero xs f = f
each_drop P (suc n) [] f = tt
each_drop P (suc n) (x ∷ xs) f = each_drop P n xs f.1

-- what holds of each item holds of each of the first ones
pub each_take : {A : Type 0} (P : A → Type 0) (n : ℕ) (xs : List A) → Each P xs → Each P (take n xs)
each_take P zero xs f = tt
each_take P (suc n) [] f = tt
each_take P (suc n) (x ∷ xs) f = (f.0, each_take P n xs f.1)

-- what holds of each item of two lists holds of each of both together
pub each_both : {A : Type 0} (P : A → Type 0) (xs ys : List A) → Each P xs → Each P ys
    → Each P (xs ++ ys)
each_both P [] ys f g = g
each_both P (x ∷ xs) ys f g = (f.0, each_both P xs ys f.1 g)

-- bytes of a slice are bytes
pub each_byte : (bs : List ℕ) → ((i : ℕ) → get_or bs i 0 < 256) → AreBytes bs
each_byte [] h = tt
each_byte (b ∷ bs) h = (h 0, each_byte bs (λ i. h (suc i)))
