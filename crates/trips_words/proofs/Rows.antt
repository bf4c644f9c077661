-- The matches of what is said, and what a further use of an argument makes of them.
use Rattle.std.proofs.Common.{◌≡◌, ◌∙◌, refl, sym, ap, Bool, cond, true, false, true≢false, ℕ, List, [], ◌∷◌}
use Rattle.std.proofs.Common.{◌++◌, map, Some, None, append-nil}
use Rattle.std.specs.Prelude.{◌||◌}
use Rattle.std.specs.Str.{bytes_eq}
use Rattle.std.proofs.lemmas.List.{map-append}
use Rattle.clap.specs.Walk.{Row, at_row, has_row, more_values, with_values, without}
use Rattle.clap.specs.declared.builder.value_parser.Reading.TheVariants.{AsWritten}
use Rattle.clap.specs.declared.parser.matches.ValueSource.TheVariants.{CommandLine}
use Rattle.clap.proofs.WalkLemmas.{list_any-map}
use Rattle.trips_requests.specs.Words.{Text, Said, is_said}

-- the row of the matches for what is said under a name
abbrev pub row_for : Text × Text → Row
row_for s = record {
  id = s.0;
  values = s.1 ∷ [];
  count = None;
  source = Some CommandLine;
  reading = AsWritten;
}

-- the rows of the matches for all that is said
abbrev pub rows_for : Said → List Row
rows_for said = map row_for said

-- there is a row for a name exactly where something is said under it
pub has_said : (said : Said) (name : Text) → has_row name (rows_for said) ≡ is_said name said
has_said said name = sym (list_any-map (λ r. bytes_eq r.id name) row_for said)

-- where no row has the id, a row joins at the end
pub at_end : (name : Text) (change : Row → List Row) (missing rows : List Row)
    → has_row name rows ≡ false → at_row name change missing rows ≡ rows ++ missing
at_end name change missing [] e = refl
at_end name change missing (r ∷ rows) e =
    go (bytes_eq r.id name) (has_row name rows) e (at_end name change missing rows)
  where
    go : (b c : Bool) → (b || c) ≡ false
        → (c ≡ false → at_row name change missing rows ≡ rows ++ missing)
        → cond b (change r ++ rows) (r ∷ at_row name change missing rows) ≡ r ∷ (rows ++ missing)
    go true true e f = absurd (true≢false e)
    go true false e f = absurd (true≢false e)
    go false true e f = absurd (true≢false e)
    go false false e f = ap (λ rs. r ∷ rs) (f refl)

-- a value under a name that is not said yet
pub put_said : (name value : Text) (said : Said) → is_said name said ≡ false
    → with_values name AsWritten CommandLine (value ∷ []) (without name (rows_for said))
    ≡ rows_for (said ++ (name, value) ∷ [])
put_said name value said absent =
    let e : has_row name (rows_for said) ≡ false = has_said said name ∙ absent in
    let gone : without name (rows_for said) ≡ rows_for said =
    at_end name (λ _. []) [] (rows_for said) e ∙ append-nil (rows_for said) in
    ap (with_values name AsWritten CommandLine (value ∷ [])) gone
    ∙ at_end name (more_values CommandLine (value ∷ [])) (row_for (name, value) ∷ []) (rows_for said) e
    ∙ sym (map-append row_for said ((name, value) ∷ []))

-- another name stays as it was
pub same_said : (said : Said) (s : Text × Text) (name : Text) → bytes_eq s.0 name ≡ false
    → is_said name (said ++ s ∷ []) ≡ is_said name said
same_said [] s name e = ap (λ b. b || false) e
same_said (x ∷ said) s name e = ap (λ b. bytes_eq x.0 name || b) (same_said said s name e)
