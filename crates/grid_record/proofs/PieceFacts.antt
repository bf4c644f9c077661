-- Lists that are made piece by piece, and what is written behind what.
use Rattle.std.proofs.Common.{◌≡◌, ℕ, zero, suc, ◌+◌, ◌<◌, ◌++◌, ◌∷◌, [], List, refl, ap, sym, ◌∙◌}
use Rattle.std.proofs.Common.{append_assoc, add-one, arith}
use Rattle.std.proofs.Common.{length, take, drop}
use Rattle.std.specs.Prelude.{min}
use Rattle.std.proofs.lemmas.List.{append-nil, drop_min, take_min}
use Rattle.grid_record.specs.Pieces.{pieces}
use Rattle.grid_record.specs.Records.{part}

-- before the first piece nothing is written
pub none_yet : (piece : ℕ → List ℕ) (old : List ℕ) → old ≡ old ++ pieces piece 0
unfolding pieces
none_yet piece old = sym (append-nil old)

-- a piece more is written
pub next_piece : {out new : List ℕ} (old : List ℕ) (piece : ℕ → List ℕ) (n : ℕ) → out ≡ old ++ pieces piece n
    → new ≡ out ++ piece n → new ≡ old ++ pieces piece (n + 1)
unfolding pieces
next_piece {out} {new} old piece n before e = e ∙ ap (λ (xs : List ℕ). xs ++ piece n) before
    ∙ append_assoc old (pieces piece n) (piece n) ∙ ap (λ k. old ++ pieces piece k) (sym (add-one n))

-- pieces that are the same below a number
pub same_pieces : (f g : ℕ → List ℕ) (n : ℕ) → ((k : ℕ) → k < n → f k ≡ g k) → pieces f n ≡ pieces g n
unfolding pieces
same_pieces f g zero same = refl
same_pieces f g (suc n) same =
    ap (λ (xs : List ℕ). xs ++ f n) (same_pieces f g n (λ k l. same k (omega (arith, l))))
    ∙ ap (λ (xs : List ℕ). pieces g n ++ xs) (same n (omega arith))

-- a part is written behind another
pub then_too : {b c : List ℕ} (a x y : List ℕ) → b ≡ a ++ x → c ≡ b ++ y → c ≡ a ++ (x ++ y)
then_too {b} {c} a x y e f = f ∙ ap (λ (xs : List ℕ). xs ++ y) e ∙ append_assoc a x y

-- a part that is made of a number which is another's value
pub part_is : {c : List ℕ} {x y : ℕ} (b : List ℕ) (part : ℕ → List ℕ) → c ≡ b ++ part x → x ≡ y → c ≡ b ++ part y
part_is {c} {x} {y} b part e same = e ∙ ap (λ n. b ++ part n) same

-- a byte
abbrev pub byte : ℕ → List ℕ
byte n = n ∷ []

-- a part of a list, by the code's bounds
pub part_of : (from count : ℕ) (bytes rest : List ℕ) (n m : ℕ) → n ≡ min from (length bytes) → rest ≡ drop n bytes
    → m ≡ min count (length rest) → take m rest ≡ part from count bytes
part_of from count bytes rest n m e f g = ap (λ k. take k rest) g ∙ take_min count rest ∙ ap (take count)
    (f ∙ ap (λ k. drop k bytes) e ∙ drop_min from bytes)

-- a part that is another's value
pub whole_is : {c x y : List ℕ} (b : List ℕ) → c ≡ b ++ x → x ≡ y → c ≡ b ++ y
whole_is {c} {x} {y} b e same = e ∙ ap (λ (xs : List ℕ). b ++ xs) same
