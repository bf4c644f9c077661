-- A token is passed by: its line is not empty behind it.
use Rattle.std.proofs.Common.{◌≡◌, ◌≤◌, ◌+◌, ℕ, Bool, true, false, ◌||◌, inl, inr, ◌∷◌, length, take}
use Rattle.std.proofs.Common.{drop, refl, sym, ap, ◌∙◌, subst, arith}
use Rattle.c_tree.specs.declared.Form.{Form}
use Rattle.c_lex.specs.declared.piece.Reading.TheVariants as reads
use Rattle.c_lex.specs.Bytes.{Bytes, in_white, empty_after}
use Rattle.c_lex.specs.Pieces.{Piece, Longest}
use Rattle.c_lex.specs.inside.Pieces.{Front}
use Rattle.c_lex.specs.Directives.{is_directive}
use Rattle.c_lex.specs.Lexes.{Line}
use Rattle.c_lex.specs.inside.Turns.{GrowsBy, Place, Moved}
use Rattle.c_lex.proofs.Basics.{true_or_false}
use Rattle.c_lex.proofs.Fronts.{length_run}
use Rattle.c_lex.proofs.Groups.{Group, Spaces, In, Sorted, sorted, white_group}

-- a piece that does not begin with white space fills its line
filled : (starts : Bool) (p : Bytes) (b : ℕ) (bs : Bytes) → p ≡ b ∷ bs → in_white b bs ≡ false
    → empty_after starts p ≡ false
filled starts p b bs e w = subst (λ (x : Bytes). empty_after starts x ≡ false) (sym e) (rw w refl)

-- a token is no white space, so it fills its line
pub token_fills : (starts was : Bool) (p : Bytes) (f : Form) → Piece starts p (reads.Token f)
    → empty_after was p ≡ false
token_fills starts was p f x =
    let s : Sorted starts p (reads.Token f) = sorted x in
    elim (true_or_false (in_white s.first s.more)) [
      | inl w ↦ absurd (
          let i : In Spaces starts p (reads.Token f) =
          subst (λ (g : Group). In g starts p (reads.Token f)) (white_group s.first s.more w) s.sort in
          let e : reads.Token f ≡ reads.Gap = i.2 in
          cc)
      | inr w ↦ filled was p s.first s.more s.is w
    ]

-- a token is passed by
pub kept : (most : ℕ) (old new : Place) (n : ℕ) (f : Form)
    → Front old.line.starts old.rest n (reads.Token f) → n ≤ length old.rest → new.rest ≡ drop n old.rest
    → new.offset ≡ old.offset + n → new.line ≡ record { starts = false; directs = old.line.directs || is_directive f }
    → GrowsBy most old.offset f old.tokens new.tokens → Moved most old new
kept most old new n f x within rest offset line grows =
    let p = take n old.rest in
    let size : length p ≡ n = length_run n old.rest within in
    let s : empty_after old.line.starts p ≡ false = token_fills old.line.starts old.line.starts p f x.is in
    let L : Bool → Line = λ v. record { starts = v; directs = old.line.directs || is_directive f } in
    record {
      piece = p;
      reading = reads.Token f;
      longest = subst (λ (r : Bytes). Longest old.line.starts old.rest p r (reads.Token f))
          (sym rest) x;
      offset_is = omega arith;
      line_is = line ∙ ap L (sym s);
      grows = grows;
    }

or_false : (a : Bool) → (a || false) ≡ a
or_false true = refl
or_false false = refl

or_true : (a : Bool) → (a || true) ≡ true
or_true true = refl
or_true false = refl

-- one that begins no directive leaves the line a directive's or not
pub kept_plain : (most : ℕ) (old new : Place) (n : ℕ) (f : Form)
    → Front old.line.starts old.rest n (reads.Token f) → n ≤ length old.rest → new.rest ≡ drop n old.rest
    → new.offset ≡ old.offset + n → new.line ≡ record { starts = false; directs = old.line.directs }
    → is_directive f ≡ false → GrowsBy most old.offset f old.tokens new.tokens → Moved most old new
kept_plain most old new n f x within rest offset line plain grows =
    let D : Bool → Line = λ v. record { starts = false; directs = v } in
    kept most old new n f x within rest offset
    (line ∙ ap D (sym (ap (λ (v : Bool). old.line.directs || v) plain ∙ or_false old.line.directs))) grows

-- one that begins a directive makes it one
pub kept_directive : (most : ℕ) (old new : Place) (n : ℕ) (f : Form)
    → Front old.line.starts old.rest n (reads.Token f) → n ≤ length old.rest → new.rest ≡ drop n old.rest
    → new.offset ≡ old.offset + n → new.line ≡ record { starts = false; directs = true }
    → is_directive f ≡ true → GrowsBy most old.offset f old.tokens new.tokens → Moved most old new
kept_directive most old new n f x within rest offset line plain grows =
    let D : Bool → Line = λ v. record { starts = false; directs = v } in
    kept most old new n f x within rest offset
    (line ∙ ap D (sym (ap (λ (v : Bool). old.line.directs || v) plain ∙ or_true old.line.directs))) grows
