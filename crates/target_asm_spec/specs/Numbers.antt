-- Hexadecimal numbers, lower-case and the most significant digit first; and what numbered items
-- give.
use Rattle.std.specs.Prelude.{ℕ, suc, ◌+◌, ◌/◌, ◌%◌, List, [], ◌∷◌, ◌++◌, nat_lt, if◌then◌else◌}

-- the character of a digit below 16
abbrev pub hex_digit : ℕ → ℕ
hex_digit d = if nat_lt d 10 then 48 + d else 87 + d

-- two digits
abbrev pub hex_byte : ℕ → List ℕ
hex_byte b = hex_digit (b / 16) ∷ hex_digit (b % 16) ∷ []

-- eight digits
unfoldable pub hex_word : ℕ → List ℕ
hex_word w = hex_byte (w / 16777216) ++ (hex_byte (w / 65536 % 256) ++
    (hex_byte (w / 256 % 256) ++ hex_byte (w % 256)))

-- what the items give, each by its number, of which the first is k
abbrev pub numbered : {A : Type 0} → (ℕ → A → List ℕ) → ℕ → List A → List ℕ
numbered f k [] = []
numbered f k (x ∷ xs) = f k x ++ numbered f (suc k) xs
