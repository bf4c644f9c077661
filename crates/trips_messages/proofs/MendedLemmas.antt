-- A mended text: how its blanks are written, and that it is as long as the text.
use Rattle.std.proofs.Common.{◌≡◌, ◌∙◌, ℕ, ◌+◌, ◌-◌, ◌≤◌, List, [], ◌∷◌, ◌++◌, length, take, drop, replicate, min}
use Rattle.std.proofs.Common.{ap, arith, append_assoc}
use Rattle.std.proofs.lemmas.List.{replicate_more, length-append, length-replicate, length-take, length-drop}
use Rattle.trips_messages.specs.Mended.{patch, patched, patched_within}

-- a loop's step: one blank more
pub blank_more : (i : ℕ) (start out new : List ℕ) → out ≡ start ++ replicate i 32 → new ≡ out ++ 32 ∷ []
    → new ≡ start ++ replicate (i + 1) 32
blank_more i start out new o n =
    n ∙ ap (λ (t : List ℕ). t ++ 32 ∷ []) o ∙ append_assoc start (replicate i 32) (32 ∷ [])
    ∙ ap (λ (t : List ℕ). start ++ t) (replicate_more i 32)

-- a patch has so many bytes
pub patch_length : (n : ℕ) → length (patch n) ≡ n
patch_length n =
    let blanks : List ℕ = replicate (n - 1) 32 in
    let one : List ℕ = take n (49 ∷ []) in
    let whole : length (patch n) ≡ length blanks + length one = length-append blanks one in
    let front : length blanks ≡ n - 1 = length-replicate (n - 1) 32 in
    let back : length one ≡ min n 1 = length-take n (49 ∷ []) in
    omega (arith, whole, front, back)

-- a text that is patched within itself is as long as before
patched_length : (text : List ℕ) (from to : ℕ) → from ≤ to → to ≤ length text
    → length (patched text from to) ≡ length text
patched_length text from to f t =
    let whole = length-append (take from text) (patch (to - from) ++ drop to text) in
    let rest = length-append (patch (to - from)) (drop to text) in
    let front = length-take from text in
    let middle = patch_length (to - from) in
    let back = length-drop to text in
    omega (arith, whole, rest, front, middle, back, f, t)

-- the same wherever it is patched
pub within_length : (text : List ℕ) (from to : ℕ) → length (patched_within text from to) ≡ length text
within_length text from to =
    patched_length text (min from (min to (length text))) (min to (length text)) (omega arith) (omega arith)
