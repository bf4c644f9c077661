-- Spaces and comments are passed by.
use Rattle.std.proofs.Common.{◌≡◌, ◌≤◌, ◌<◌, length, arith, ℕ, nat_le, ◌+◌, Bool, true, false, not, ◌&&◌, [], ◌∷◌}
use Rattle.std.proofs.Common.{take, drop, refl, sym, ap, ◌∙◌, subst, cond}
use Rattle.c_lex.specs.declared.piece.Reading.TheVariants as reads
use Rattle.c_lex.specs.Bytes.{Bytes, in_white, has_space, has_end, ends_line, still_empty, empty_after}
use Rattle.c_lex.specs.inside.Finds.{IsComment}
use Rattle.c_lex.specs.inside.Spaces.{spaces, after_spaces}
use Rattle.c_lex.specs.Pieces.{Longest}
use Rattle.c_tree.specs.declared.Form.TheVariants as form
use Rattle.c_lex.specs.declared.fault.LexFault.TheVariants as fault
use Rattle.c_lex.specs.Directives.{line_end}
use Rattle.c_lex.specs.Faults.{TooManyTokens, one_end}
use Rattle.c_lex.specs.Lexes.{Line}
use Rattle.c_lex.specs.inside.Turns.{Place, Moved, Stopped, GrowsBy, GrowsEnd}
use Rattle.c_lex.proofs.Basics.{le_is, le_not}
use Rattle.c_lex.proofs.Fronts.{white_longest, length_run}
use Rattle.c_lex.proofs.WhiteSpace.{white_before, feed_kept, spaces_white}

-- behind spaces the line is as it is behind their last byte
pub empty_spaces : (starts : Bool) (bs : Bytes)
    → empty_after starts (spaces bs) ≡ still_empty starts 0 (spaces bs)
empty_spaces starts [] = refl
empty_spaces starts (b ∷ bs) = by (in_white b bs) refl
  where
    by : (v : Bool) → in_white b bs ≡ v
        → empty_after starts (cond v (b ∷ spaces bs) []) ≡ still_empty starts 0 (cond v (b ∷ spaces bs) [])
    by true e = rw (white_before b bs (spaces bs) (feed_kept bs) e) refl
    by false e = refl

and_true : (a : Bool) → (a && true) ≡ a
and_true true = refl
and_true false = refl

and_false : (a : Bool) → (a && false) ≡ false
and_false true = refl
and_false false = refl

-- a line that does not end stays as it is
stays : (d e : Bool) → e ≡ false → (d && not e) ≡ d
stays d e h = ap (λ (v : Bool). d && not v) h ∙ and_true d

-- the place behind them
pub passed : (most : ℕ) (old new : Place) → has_space (spaces old.rest) ≡ true
    → ends_line old.line.directs (spaces old.rest) ≡ false
    → new.offset ≡ old.offset + length (spaces old.rest)
    → new.line ≡ record { starts = still_empty old.line.starts 0 (spaces old.rest); directs = old.line.directs }
    → new.rest ≡ after_spaces old.rest → new.tokens ≡ old.tokens → Moved most old new
passed most old new begins ends offset line rest tokens =
    let S : Bool → Line = λ v. record { starts = v; directs = old.line.directs } in
    let D : Bool → Line = λ v. record { starts = empty_after old.line.starts (spaces old.rest); directs = v } in
    record {
      piece = spaces old.rest;
      reading = reads.Gap;
      longest = subst (λ (r : Bytes). Longest old.line.starts old.rest (spaces old.rest) r reads.Gap)
          (sym rest) (white_longest old.line.starts old.rest begins);
      offset_is = offset;
      line_is = line ∙ ap S (sym (empty_spaces old.line.starts old.rest))
          ∙ ap D (sym (stays old.line.directs _ ends));
      grows = subst (λ (v : Bool). GrowsEnd most old.offset v old.tokens new.tokens) (sym ends) tokens;
    }

-- the place behind the end of a directive's line
pub ended : (most : ℕ) (old new : Place) → has_space (spaces old.rest) ≡ true
    → ends_line old.line.directs (spaces old.rest) ≡ true
    → new.offset ≡ old.offset + length (spaces old.rest)
    → new.line ≡ record { starts = still_empty old.line.starts 0 (spaces old.rest); directs = false }
    → new.rest ≡ after_spaces old.rest → GrowsBy most old.offset (form.Name line_end) old.tokens new.tokens
    → Moved most old new
ended most old new begins ends offset line rest tokens =
    let S : Bool → Line = λ v. record { starts = v; directs = false } in
    let D : Bool → Line = λ v. record { starts = empty_after old.line.starts (spaces old.rest); directs = v } in
    let none : (old.line.directs && not (ends_line old.line.directs (spaces old.rest))) ≡ false =
    ap (λ (v : Bool). old.line.directs && not v) ends ∙ and_false old.line.directs in
    record {
      piece = spaces old.rest;
      reading = reads.Gap;
      longest = subst (λ (r : Bytes). Longest old.line.starts old.rest (spaces old.rest) r reads.Gap)
          (sym rest) (white_longest old.line.starts old.rest begins);
      offset_is = offset;
      line_is = line ∙ ap S (sym (empty_spaces old.line.starts old.rest)) ∙ ap D (sym none);
      grows = subst (λ (v : Bool). GrowsEnd most old.offset v old.tokens new.tokens) (sym ends) tokens;
    }

-- where no token more may stand, the line's end is a fault
pub end_stops : (most : ℕ) (p : Place) → has_space (spaces p.rest) ≡ true
    → ends_line p.line.directs (spaces p.rest) ≡ true → most ≤ length p.tokens → length p.tokens ≤ most
    → Stopped most p (fault.TooManyTokens p.offset)
end_stops most p begins ends full few =
    let count : length p.tokens ≡ most = omega arith in
    (TooManyTokens, one_end count (white_longest p.line.starts p.rest begins) ends, (refl, refl))

-- the end of a line is asked of white space alone
pub ends_is : (directs : Bool) (bs : Bytes)
    → ends_line directs (spaces bs) ≡ (directs && has_end 0 (spaces bs))
ends_is directs bs = ap (λ (v : Bool). directs && (v && has_end 0 (spaces bs))) (spaces_white bs)

-- the place behind a comment
pub commented : (most : ℕ) (old new : Place) (n : ℕ) → IsComment old.line.starts old.rest n
    → new.rest ≡ drop n old.rest → new.offset ≡ old.offset + n
    → new.line ≡ record { starts = false; directs = old.line.directs }
    → new.tokens ≡ old.tokens → Moved most old new
commented most old new n c rest offset line tokens =
    let p = take n old.rest in
    let size : length p ≡ n = length_run n old.rest c.front.within in
    let ends : ends_line old.line.directs p ≡ false =
    ap (λ (v : Bool). old.line.directs && (v && has_end 0 p)) c.solid ∙ and_false old.line.directs in
    let S : Bool → Line = λ v. record { starts = v; directs = old.line.directs } in
    let D : Bool → Line = λ v. record { starts = empty_after old.line.starts p; directs = v } in
    record {
      piece = p;
      reading = reads.Gap;
      longest = subst (λ (r : Bytes). Longest old.line.starts old.rest p r reads.Gap)
          (sym rest) c.front.front;
      offset_is = omega arith;
      line_is = line ∙ ap S (sym c.filled) ∙ ap D (sym (stays old.line.directs _ ends));
      grows = subst (λ (v : Bool). GrowsEnd most old.offset v old.tokens new.tokens) (sym ends) tokens;
    }

-- a count that is not told to be the greatest is below it
pub not_full : (full : Bool) (n : ℕ) → (8192 ≤ n → full ≡ true) → full ≡ false → n < 8192
not_full full n f e = by (nat_le 8192 n) refl
  where
    by : (v : Bool) → nat_le 8192 n ≡ v → n < 8192
    by true h = let a : full ≡ true = f (le_is 8192 n h) in let b : true ≡ false = sym a ∙ e in absurd (cc)
    by false h = le_not 8192 n h
