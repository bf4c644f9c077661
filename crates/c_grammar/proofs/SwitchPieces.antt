-- `switch` with its labels and sections, where the statements one deeper are known.
use Rattle.std.proofs.Common.{◌≡◌, ℕ, Bool, false, List, [], ◌∷◌, ◌++◌, Some, None, refl, sym, ap}
use Rattle.std.proofs.Common.{subst, arith}
use Rattle.c_tree.specs.declared.token.Mark.TheVariants as mark
use Rattle.c_tree.specs.declared.token.Key.TheVariants as key
use Rattle.c_tree.specs.declared.tree.Label.{Label}
use Rattle.c_tree.specs.declared.tree.Section.{Section}
use Rattle.c_tree.specs.declared.tree.Stmt.{Stmt}
use Rattle.c_tree.specs.declared.tree.StmtNode.TheVariants as node
use Rattle.c_grammar.specs.Tokens.{Tokens, punct, word, May}
use Rattle.c_grammar.specs.Expressions.{expr, Spells}
use Rattle.c_grammar.specs.Statements.{at, inner, Writes, section, sections, labelled, sectioned}
use Rattle.c_grammar.specs.Statements.{a_case, a_default, last_label, next_label, last_stmt, next_stmt}
use Rattle.c_grammar.specs.Statements.{section_is, no_section, next_section}
use Rattle.c_grammar.specs.inside.Numbers.{is_key}
use Rattle.c_grammar.specs.inside.Parsing.{Out, and_then, first, is_word, expect}
use Rattle.c_grammar.specs.inside.ModelExpressions.{conditional_of}
use Rattle.c_grammar.specs.inside.ModelDepth.{Nested}
use Rattle.c_grammar.specs.inside.ModelBegins.{Below, begins_label, begins_statement}
use Rattle.c_grammar.specs.inside.ModelConditions.{test_of}
use Rattle.c_grammar.specs.inside.ModelSwitches.{case_of, default_of, label_of, labels_of, body_of}
use Rattle.c_grammar.specs.inside.ModelSwitches.{section_of, sections_of, switch_of}
use Rattle.c_grammar.proofs.Pieces.{Rel, Sound, read, stuck, Then, always, any, Piece, seq, done, Done}
use Rattle.c_grammar.proofs.Pieces.{iff, ends_with, same_tree, Either, this, that, either_of}
use Rattle.c_grammar.proofs.TokenPieces.{Is, mark_piece, IsWord, word_piece}
use Rattle.c_grammar.proofs.MarkedLists.{Many, over, more, many_piece}
use Rattle.c_grammar.proofs.RepeatedLists.{More, rests, runs_on, repeated_piece}
use Rattle.c_grammar.proofs.Levels.{zero_token}
use Rattle.c_grammar.proofs.Joins.{Level}
use Rattle.c_grammar.proofs.OneDeeper.{Deeper, closed}
use Rattle.c_grammar.proofs.Inside.{conditional_piece, never}
use Rattle.c_grammar.proofs.Begins.{begins_no_word, labels_begin, body_begins, statement_no_label}
use Rattle.c_grammar.proofs.Begins.{section_no_brace, sections_behind, writes_shorter}
use Rattle.c_grammar.proofs.StatementParts.{Test, test_first, test_piece, stmt_here}
use Rattle.c_grammar.proofs.StatementSpellings.{pair_tree, closed_off, InnerIs, LabelIs, LabelsAre}
use Rattle.c_grammar.proofs.StatementSpellings.{RunIs, no_label, not_else, behind_here, behind_run}
use Rattle.c_grammar.proofs.StatementSpellings.{behind_sections, label_here, sections_here, stmt_first}
use Rattle.c_grammar.proofs.StatementSpellings.{Good}

module _ (m d : ℕ) (nested : Nested) (deeper : Deeper nested m d) (below : Below) (known : Good below m d) where
  abbrev CaseIs : Rel Label
  CaseIs = Then (IsWord key.Case) (λ l. Then (Level 14 d)
      (λ e. Then (Is mark.Colon) (λ k. Done (labelled l (Some e)))))

  case_piece : Piece same_tree CaseIs any always always
      (λ t. word 0 key.Case ∷ zero_token ∷ punct 0 mark.Colon ∷ t) m (case_of nested)
  unfolding case_of
  case_piece =
      seq (λ l ts. and_then (conditional_of nested ts)
      (λ e ts. and_then (expect mark.Colon ts) (λ _ ts. label_here (labelled l (Some e)) ts)))
      (word_piece key.Case m)
      (λ l. closed mark.Colon (omega arith) (λ e. labelled l (Some e))
      (conditional_piece m d nested deeper)) (λ t. omega arith) (λ may x y u t r h. tt)

  abbrev DefaultIs : Rel Label
  DefaultIs = Then (IsWord key.Default) (λ l. Then (Is mark.Colon) (λ k. Done (labelled l None)))

  default_piece : Piece same_tree DefaultIs any always always
      (λ t. word 0 key.Default ∷ punct 0 mark.Colon ∷ t) m (default_of nested)
  unfolding default_of
  default_piece =
      seq (λ l ts. and_then (expect mark.Colon ts) (λ _ ts. label_here (labelled l None) ts))
      (word_piece key.Default m)
      (λ l. seq (λ _ ts. label_here (labelled l None) ts) (mark_piece mark.Colon m)
      (λ k. done same_tree (labelled l None) m (λ t h. tt)) (λ t. omega arith)
      (λ may x y u t r h. tt)) (λ t. omega arith) (λ may x y u t r h. tt)

  label_piece : Piece same_tree (LabelIs d) any always always
      (λ t. word 0 key.Default ∷ punct 0 mark.Colon ∷ t) m (label_of nested)
  unfolding label_of
  label_piece =
      iff (either_of (is_key key.Case) case_piece default_piece
      (λ may x f t r. ap (is_word key.Case) r.2)
      (λ may x f t r e. ap (is_word key.Case) r.2)) to from
    where
      to : (may : May) (x : Label) (f t : Tokens) → Either CaseIs DefaultIs may x f t
          → LabelIs d may x f t
      to may x f t (this r) =
          let c = r.3 in let k = c.3 in
          subst (λ (f : Tokens). LabelIs d may x f t) (sym r.2)
          (ends_with (λ x t. LabelIs d may x (word r.0 key.Case ∷ r.1) t)
          (a_case (subst (λ (u : Tokens). Spells may (expr 14 c.0) d r.1 u) k.2 c.2)) k.3)
      to may x f t (that r) =
          let k = r.3 in
          subst (λ (f : Tokens). LabelIs d may x f t) (sym r.2)
          (subst (λ (u : Tokens). LabelIs d may x (word r.0 key.Default ∷ u) t) (sym k.2)
          (ends_with (λ x t. LabelIs d may x (word r.0 key.Default ∷ punct k.0 mark.Colon ∷ k.1) t)
          a_default k.3))

      from : (may : May) (x : Label) (f t : Tokens) → LabelIs d may x f t
          → Either CaseIs DefaultIs may x f t
      from may _ _ t (a_case {l = l} {k = k} {e = e} {m = u} x) =
          this (l, u, refl, (e, punct k mark.Colon ∷ t, x, (k, t, refl, (refl, refl))))
      from may _ _ t (a_default {l = l} {k = k}) =
          that (l, punct k mark.Colon ∷ t, refl, (k, t, refl, (refl, refl)))

  labels_piece : Piece same_tree (LabelsAre d) any always no_label
      (λ t. word 0 key.Default ∷ punct 0 mark.Colon ∷ t) m (labels_of nested)
  unfolding labels_of
  labels_piece =
      repeated_piece (LabelIs d) (LabelsAre d) always (λ t. word 0 key.Default ∷ punct 0 mark.Colon ∷ t) m
      (label_of nested) label_piece begins_label to from (λ t. first begins_label t ≡ false)
      (λ may x f t r. writes_shorter r) (λ may xs f t l. labels_begin l) (λ t h. h)
      (λ may x xs f t l. tt) (λ x t h. tt)
    where
      to_more : (may : May) (x : Label) (xs : List Label) (f u t : Tokens) → LabelIs d may x f u
          → More (LabelsAre d) x may xs u t → LabelsAre d may xs f t
      to_more may x _ f _ t r rests = last_label r
      to_more may x _ f _ t r (runs_on l) = next_label r l

      to : (may : May) (xs : List Label) (f t : Tokens)
          → Then (LabelIs d) (λ x. More (LabelsAre d) x) may xs f t → LabelsAre d may xs f t
      to may xs f t r = to_more may r.0 xs f r.1 t r.2 r.3

      from : (may : May) (xs : List Label) (f t : Tokens) → LabelsAre d may xs f t
          → Then (LabelIs d) (λ x. More (LabelsAre d) x) may xs f t
      from may _ f t (last_label {x = x} r) = (x, t, r, rests)
      from may _ f t (next_label {x = x} {m = u} r l) = (x, u, r, runs_on l)

  -- a statement inside another one, whether it ends in an open `if` or not
  abbrev SomeIs : Rel Stmt
  SomeIs may s f t = (b : Bool) × Writes may (inner b s) d f t

  some_piece : Piece same_tree SomeIs any always not_else stmt_first m below.inner
  some_piece =
      record {
        grow = known.inner_piece.grow;
        least = λ may t fr fr'. let l = known.inner_piece.least may t fr fr' in (l.0.1, (l.0.0, l.1));
        sound = λ ts h. by_out ts (below.inner ts) (known.inner_piece.sound ts tt);
        complete = λ cut g g' may s f' t' r e f tied.
            known.inner_piece.complete cut g g' may (r.0, s) f' t' r.1 (λ _. e) f tied;
      }
    where
      by_out : (ts : Tokens) (out : Out Stmt) → Sound pair_tree (InnerIs d) closed_off m ts out
          → Sound same_tree SomeIs always m ts out
      by_out ts _ (read p t a k) = read (p.1) t
          (record {
            put = a.put;
            way = a.way;
            is = a.is;
            again = λ may w u. (p.0, a.again may w u);
          }) tt
      by_out ts _ (stuck s o) =
          stuck s (record {
            put = o.put;
            way = o.way;
            is = o.is;
            more = o.more;
            grows = o.grows;
            held = o.held;
            completes = λ u. let c = o.completes u in (c.0.1, (c.0.0, c.1));
          })

  run_piece : Piece same_tree (RunIs d) any always behind_run stmt_first m (body_of nested below)
  unfolding body_of
  run_piece =
      repeated_piece SomeIs (RunIs d) not_else stmt_first m
      below.inner some_piece begins_statement to from behind_here
      (λ may x f t r. writes_shorter r.1) (λ may xs f t l. body_begins l) (λ t h. h.0)
      (λ may x xs f t l. begins_no_word key.Else refl f (body_begins l)) (λ x t h. h.1)
    where
      to_more : (may : May) (s : Stmt) (ss : List Stmt) (f u t : Tokens) → SomeIs may s f u
          → More (RunIs d) s may ss u t → RunIs d may ss f t
      to_more may s _ f _ t r rests = last_stmt r.1
      to_more may s _ f _ t r (runs_on l) = next_stmt r.1 l

      to : (may : May) (ss : List Stmt) (f t : Tokens)
          → Then SomeIs (λ s. More (RunIs d) s) may ss f t → RunIs d may ss f t
      to may ss f t r = to_more may r.0 ss f r.1 t r.2 r.3

      from : (may : May) (ss : List Stmt) (f t : Tokens) → RunIs d may ss f t
          → Then SomeIs (λ s. More (RunIs d) s) may ss f t
      from may _ f t (last_stmt {b = b} {s = s} r) = (s, t, (b, r), rests)
      from may _ f t (next_stmt {b = b} {s = s} {m = u} r l) = (s, u, (b, r), runs_on l)

  abbrev SectionIs : Rel (List Section)
  SectionIs may xs f t = (x : Section) × Writes may (section x) d f t × (xs ≡ x ∷ [])

  abbrev SectionChain : Rel (List Section)
  SectionChain = Then (LabelsAre d) (λ ls. Then (RunIs d) (λ ss. Done (sectioned ls ss ∷ [])))

  section_piece : Piece same_tree SectionIs any always behind_sections
      (λ t. word 0 key.Default ∷ punct 0 mark.Colon ∷ stmt_first t) m (section_of nested below)
  unfolding section_of
  section_piece =
      iff (seq (λ ls ts. and_then (body_of nested below ts)
      (λ ss ts. sections_here (sectioned ls ss ∷ []) ts)) labels_piece
      (λ ls. seq (λ ss ts. sections_here (sectioned ls ss ∷ []) ts) run_piece
      (λ ss. done same_tree (sectioned ls ss ∷ []) m (λ t h. tt)) (λ t. omega arith)
      (λ may ss y u t r h. subst behind_here (sym r.1) h))
      (λ t. omega arith) (λ may ls y u t r h. statement_no_label u (body_begins r.2))) to from
    where
      to : (may : May) (xs : List Section) (f t : Tokens) → SectionChain may xs f t
          → SectionIs may xs f t
      to may xs f t r =
          let c = r.3 in (
            sectioned r.0 c.0,
            subst (λ (t : Tokens). Writes may (section (sectioned r.0 c.0)) d f t) c.3.1
                (section_is r.2 c.2),
            sym c.3.0,
          )

      from_one : (may : May) (x : Section) (xs : List Section) (f t : Tokens)
          → Writes may (section x) d f t → x ∷ [] ≡ xs → SectionChain may xs f t
      from_one may _ xs f t (section_is {ls = ls} {ss = ss} {m = u} y z) e =
          (ls, u, y, (ss, t, z, (e, refl)))

      from : (may : May) (xs : List Section) (f t : Tokens) → SectionIs may xs f t
          → SectionChain may xs f t
      from may xs f t r = from_one may r.0 xs f t r.1 (sym r.2)

  abbrev SectionsAre : Rel (List Section)
  SectionsAre may xs f t = Writes may (sections xs) d f t

  sections_piece : Piece same_tree SectionsAre any always always
      (λ t. punct 0 mark.RightBrace ∷ t) m (sections_of nested below)
  unfolding sections_of
  sections_piece =
      many_piece SectionIs SectionsAre behind_sections
      (λ t. word 0 key.Default ∷ punct 0 mark.Colon ∷ stmt_first t) m
      (section_of nested below) section_piece mark.RightBrace to from
      (λ may x f t r. writes_shorter r.1) (λ may x f t r. section_no_brace r.1)
      (λ may x xs u t l. sections_behind l)
    where
      to : (may : May) (xs : List Section) (f t : Tokens)
          → Many SectionIs SectionsAre mark.RightBrace may xs f t → Writes may (sections xs) d f t
      to may _ _ t over = no_section
      to may _ f t (more {xs = xs} r l) =
          subst (λ (x : List Section). Writes may (sections (x ++ xs)) d f t) (sym r.2)
          (next_section r.1 l)

      from : (may : May) (xs : List Section) (f t : Tokens) → Writes may (sections xs) d f t
          → Many SectionIs SectionsAre mark.RightBrace may xs f t
      from may _ _ t no_section = over
      from may _ f t (next_section {x = x} y z) = more (x, y, refl) z

  -- the parts of a `switch`
  abbrev pub SwitchIs : Rel (Bool × Stmt)
  SwitchIs = Then (IsWord key.Switch) (λ l. Then (Test d)
      (λ c. Then (Is mark.LeftBrace) (λ k. Then SectionsAre
      (λ xs. Done (false, at l (node.Switch c xs))))))

  -- the parser of a `switch` is sound and complete
  pub switch_piece : Piece pair_tree SwitchIs any closed_off closed_off
      (λ t. word 0 key.Switch ∷ test_first (punct 0 mark.LeftBrace ∷ punct 0 mark.RightBrace ∷ t)) m
      (switch_of nested below)
  unfolding switch_of
  switch_piece =
      seq (λ l ts. and_then (test_of nested ts)
      (λ c ts. and_then (expect mark.LeftBrace ts)
      (λ _ ts. and_then (sections_of nested below ts)
      (λ xs ts. stmt_here (at l (node.Switch c xs)) ts))))
      (word_piece key.Switch m)
      (λ l. seq (λ c ts. and_then (expect mark.LeftBrace ts)
      (λ _ ts. and_then (sections_of nested below ts)
      (λ xs ts. stmt_here (at l (node.Switch c xs)) ts)))
      (test_piece m d nested deeper)
      (λ c. seq (λ _ ts. and_then (sections_of nested below ts)
      (λ xs ts. stmt_here (at l (node.Switch c xs)) ts)) (mark_piece mark.LeftBrace m)
      (λ k. seq (λ xs ts. stmt_here (at l (node.Switch c xs)) ts) sections_piece
      (λ xs. done pair_tree (false, at l (node.Switch c xs)) m (λ t h e. never e))
      (λ t. omega arith) (λ may x y u t r h. tt))
      (λ t. omega arith) (λ may x y u t r h. tt))
      (λ t. omega arith) (λ may x y u t r h. tt))
      (λ t. omega arith) (λ may x y u t r h. tt)
