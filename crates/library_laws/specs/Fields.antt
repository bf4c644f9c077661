-- What a conversion of `printf` writes in a field (C17 7.21.6.1).
use Rattle.std.specs.Prelude.{ℕ, ◌-◌, cond, nat_eq, List, ◌++◌, length, replicate}

-- How a field is filled: by spaces on the left; on the right, which is the flag `-`; or by zeros behind what stands in
-- front of the digits, which is the flag `0` where it is not ignored (paragraph 6).
pub data Fill : Type 0 where
  left : Fill
  right : Fill
  zeros : Fill

-- A converted value with fewer characters than the width is padded to it (paragraph 4): its sign or prefix, or nothing,
-- and what stands behind that.
abbrev pub padded : Fill → ℕ → List ℕ → List ℕ → List ℕ
padded left width front text = replicate (width - length (front ++ text)) 32 ++ (front ++ text)
padded right width front text = (front ++ text) ++ replicate (width - length (front ++ text)) 32
padded zeros width front text = front ++ (replicate (width - length (front ++ text)) 48 ++ text)

-- how the functions of the library are told to fill: by `-`, by `0`, or by another character
abbrev pub fill_of : ℕ → Fill
fill_of c = cond (nat_eq c 45) right (cond (nat_eq c 48) zeros left)
