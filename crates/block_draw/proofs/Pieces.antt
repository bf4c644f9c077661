-- What is written piece by piece, where the last call may want memory.
use Rattle.std.proofs.Common.{◌≡◌, ℕ, List, ◌++◌, OnOk, Result, Ok, Err, cond, is_ok, ap, ◌∙◌, append_assoc}

-- two pieces
pub two_pieces : {A E : Type 0} (r : Result A E) (old mid new a b : List ℕ) → mid ≡ old ++ a
    → new ≡ cond (is_ok r) (mid ++ b) mid → OnOk r (new ≡ old ++ (a ++ b))
two_pieces (Ok x) old mid new a b first last = last ∙ ap (λ (t : List ℕ). t ++ b) first ∙ append_assoc old a b
two_pieces (Err e) old mid new a b first last = tt

-- three
pub three_pieces : {A E : Type 0} (r : Result A E) (old one two new a b c : List ℕ) → one ≡ old ++ a
    → two ≡ one ++ b → new ≡ cond (is_ok r) (two ++ c) two → OnOk r (new ≡ old ++ (a ++ (b ++ c)))
three_pieces (Ok x) old one two new a b c first second last =
    last ∙ ap (λ (t : List ℕ). t ++ c) second ∙ append_assoc one b c ∙ ap (λ (t : List ℕ). t ++ (b ++ c)) first
    ∙ append_assoc old a (b ++ c)
three_pieces (Err e) old one two new a b c first second last = tt
