-- What a turn of the loop over the lines of a target text does.
use Rattle.std.proofs.Common.{◌≡◌, ℕ, ◌<◌, ◌≤◌, List, [], ◌∷◌, ◌++◌, Bool, true, false, length, take, drop}
use Rattle.std.proofs.Common.{refl, sym, ap, ◌∙◌, subst, arith, append_assoc}
use Rattle.std.specs.Prelude.{◌==◌, if◌then◌else◌}
use Rattle.std.proofs.lemmas.Bool.{eqb-true}
use Rattle.std.proofs.lemmas.List.{append-nil, length-drop}
use Rattle.target_file.specs.Bare.{is_empty, lines_of}
use Rattle.target_file.specs.inside.Scanning.{line_size}
use Rattle.target_file.proofs.Scans.{ended_lines, last_lines}
use Rattle.target_file.proofs.Turns.{lines_some}
use Rattle.trips_listing_text.specs.Listed.{begins_block, before, behind, line_end, listed}
use Rattle.trips_listing_text.specs.inside.Lines.{IsLine}

-- a first line that no line feed ends
pub is_last : (text line more : List ℕ) → line ≡ take (line_size text) text → more ≡ drop (line_size text) text
    → length more ≡ 0 → IsLine text line false more
is_last text line more front back none =
    let empty : more ≡ [] = by more none in
    record {
      lines = last_lines text (sym back ∙ empty) ∙ ap (λ (l : List ℕ). l ∷ []) (sym front);
      last = λ e. empty;
      less = λ some. omega (arith, none, some);
    }
  where
    by : (xs : List ℕ) → length xs ≡ 0 → xs ≡ []
    by [] e = refl
    by (c ∷ cs) e = absurd (omega (arith, e))

-- one that a line feed ends
pub is_ended : (text line more : List ℕ) → line ≡ take (line_size text) text → more ≡ drop (line_size text) text
    → 1 ≤ length more → IsLine text line true (drop 1 more)
is_ended text line [] front back some = absurd (omega (arith, some))
is_ended text line (x ∷ rest) front back some = record {
  lines = ended_lines text x rest (sym back) ∙ ap (λ (l : List ℕ). l ∷ lines_of rest) (sym front);
  last = λ e. absurd cc;
  less = λ any. omega (arith, length-drop (line_size text) text, ap length back);
}

-- nothing is written of no text
pub listed_none : (c : ℕ → List ℕ) (k : ℕ) → listed c k (lines_of []) ≡ []
unfolding begins_block
listed_none c k = refl

-- some lines end the one before them
some_end : (ls : List (List ℕ)) → is_empty ls ≡ false → line_end ls ≡ 10 ∷ []
some_end [] e = absurd cc
some_end (l ∷ ls) e = refl

-- a line, and what is written of the lines behind it
pub turn : (c : ℕ → List ℕ) (k : ℕ) (text line : List ℕ) (ended : Bool) (rest : List ℕ) → IsLine text line ended rest
    → listed c k (lines_of text)
    ≡ before (begins_block line) c k ++ ((line ++ (if ended then 10 ∷ [] else []))
    ++ listed c (behind (begins_block line) k) (lines_of rest))
turn c k text line ended rest h =
    ap (listed c k) h.lines
    ∙ ap (λ (t : List ℕ). before (begins_block line) c k ++ t)
    (go ended h.last ∙ sym (append_assoc line (if ended then 10 ∷ [] else [])
    (listed c (behind (begins_block line) k) (lines_of rest))))
  where
    go : (b : Bool) → (b ≡ false → rest ≡ [])
        → line ++ (line_end (if b then lines_of rest else [])
        ++ listed c (behind (begins_block line) k) (if b then lines_of rest else []))
        ≡ line ++ ((if b then 10 ∷ [] else []) ++ listed c (behind (begins_block line) k) (lines_of rest))
    go true last = ap (λ (e : List ℕ). line ++ (e ++ listed c (behind (begins_block line) k) (lines_of rest)))
        (some_end (lines_of rest) (lines_some rest))
    go false last =
        let k2 = behind (begins_block line) k in
        ap (λ (t : List ℕ). line ++ t) (sym (ap (λ (r : List ℕ). listed c k2 (lines_of r)) (last refl)
        ∙ listed_none c k2))

-- a line is written
pub written : (c : ℕ → List ℕ) (k : ℕ) (text line : List ℕ) (ended : Bool) (rest out mid new whole : List ℕ)
    → IsLine text line ended rest → mid ≡ out ++ before (begins_block line) c k
    → new ≡ mid ++ (line ++ (if ended then 10 ∷ [] else [])) → out ++ listed c k (lines_of text) ≡ whole
    → new ++ listed c (behind (begins_block line) k) (lines_of rest) ≡ whole
written c k text line ended rest out mid new whole h m n w =
    let b = before (begins_block line) c k in
    let l = line ++ (if ended then 10 ∷ [] else []) in
    let more = listed c (behind (begins_block line) k) (lines_of rest) in
    ap (λ (t : List ℕ). t ++ more) (n ∙ ap (λ (t : List ℕ). t ++ l) m)
    ∙ append_assoc (out ++ b) l more ∙ append_assoc out b (l ++ more)
    ∙ ap (λ (t : List ℕ). out ++ t) (sym (turn c k text line ended rest h)) ∙ w

-- all is written, where nothing is left
pub all_written : (c : ℕ → List ℕ) (k : ℕ) (out rest whole : List ℕ) → (length rest == 0) ≡ true
    → out ++ listed c k (lines_of rest) ≡ whole → out ≡ whole
all_written c k out [] whole e h =
    sym (ap (λ (t : List ℕ). out ++ t) (listed_none c k) ∙ append-nil out) ∙ h
all_written c k out (x ∷ xs) whole e h = absurd (omega (arith, eqb-true (length (x ∷ xs)) 0 e))
