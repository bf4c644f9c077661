-- Fields, as C17 7.21.6.1 has them.
use Rattle.std.proofs.Common.{◌≡◌, [], codes, refl}
use Rattle.library_laws.specs.Fields.{left, right, zeros, padded, fill_of}

-- `%5d`, `%-5d` and `%05d` of 42 and `%+05d` of 42
pub by_spaces : padded left 5 [] (codes "42") ≡ codes "   42"
by_spaces = refl

pub on_the_right : padded right 5 [] (codes "42") ≡ codes "42   "
on_the_right = refl

pub by_zeros : padded zeros 5 [] (codes "42") ≡ codes "00042"
by_zeros = refl

pub behind_a_sign : padded zeros 5 (codes "+") (codes "42") ≡ codes "+0042"
behind_a_sign = refl

-- `%#6x` of 42, and what is as long as the field or longer stays (paragraph 4)
pub before_a_prefix : padded left 6 (codes "0x") (codes "2a") ≡ codes "  0x2a"
before_a_prefix = refl

pub no_longer : padded right 2 (codes "-") (codes "42") ≡ codes "-42"
no_longer = refl

-- the library's `-`, `0` and space
pub minus : fill_of 45 ≡ right
minus = refl

pub zero_digit : fill_of 48 ≡ zeros
zero_digit = refl

pub space : fill_of 32 ≡ left
space = refl
