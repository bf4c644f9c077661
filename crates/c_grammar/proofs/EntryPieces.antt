-- The entries of a block and the first part of a `for`, where the statements one deeper are known.
use Rattle.std.proofs.Common.{◌≡◌, ℕ, Bool, List, [], ◌∷◌, Ok, refl, sym, ap, subst, arith}
use Rattle.c_tree.specs.declared.token.Mark.TheVariants as mark
use Rattle.c_tree.specs.declared.tree.Stmt.{Stmt}
use Rattle.c_tree.specs.declared.tree.ForInit.{ForInit}
use Rattle.c_tree.specs.declared.tree.ForInit.TheVariants as inits
use Rattle.c_grammar.specs.Tokens.{Tokens, punct, May}
use Rattle.c_grammar.specs.Statements.{semicolon, for_init, entries, Writes, entry_stmt, entry_local}
use Rattle.c_grammar.specs.Statements.{stop, go, init_local, init_plain}
use Rattle.c_grammar.specs.inside.Parsing.{Out, and_then}
use Rattle.c_grammar.specs.inside.ModelTypes.{is_type}
use Rattle.c_grammar.specs.inside.ModelDepth.{Nested}
use Rattle.c_grammar.specs.inside.ModelBegins.{Below}
use Rattle.c_grammar.specs.inside.ModelEntries.{one_of, entry_of, entries_of, init_local_of}
use Rattle.c_grammar.specs.inside.ModelEntries.{init_plain_of, init_of}
use Rattle.c_grammar.proofs.Agree.{Lands, good, bind_lands, fine}
use Rattle.c_grammar.proofs.Pieces.{Rel, Sound, read, stuck, Complete, Then, always, any, Piece, seq}
use Rattle.c_grammar.proofs.Pieces.{done, Done, iff, ends_by, ends_with, same_tree, Either, this, that}
use Rattle.c_grammar.proofs.Pieces.{either, either_of}
use Rattle.c_grammar.proofs.MarkedLists.{Many, over, more, many_piece}
use Rattle.c_grammar.proofs.OneDeeper.{Deeper}
use Rattle.c_grammar.proofs.Begins.{inner_begins, begins_no_type, until_no_type, locals_begin}
use Rattle.c_grammar.proofs.Begins.{entry_no_brace, entries_no_else, writes_shorter}
use Rattle.c_grammar.proofs.StatementParts.{Until, until_piece}
use Rattle.c_grammar.proofs.LocalDeclarations.{locals_first}
use Rattle.c_grammar.proofs.StatementSpellings.{pair_tree, closed_off, InnerIs, LocalsIn, EntryIs}
use Rattle.c_grammar.proofs.StatementSpellings.{InitIs, EntriesAre, no_else, stmt_first, list_here}
use Rattle.c_grammar.proofs.StatementSpellings.{init_here, Good}

module _ (m d : ℕ) (nested : Nested) (deeper : Deeper nested m d) (below : Below) (known : Good below m d) where
  -- ---- entries of a compound statement

  abbrev OneIs : Rel (List Stmt)
  OneIs may ss f t = (p : Bool × Stmt) × InnerIs d may p f t × (ss ≡ p.1 ∷ [])

  one_sound : (ts : Tokens) → Sound same_tree OneIs always m ts (one_of nested below ts)
  unfolding one_of
  one_sound ts = by_out (below.inner ts) (known.inner_piece.sound ts tt)
    where
      by_out : (out : Out Stmt) → Sound pair_tree (InnerIs d) closed_off m ts out
          → Sound same_tree OneIs always m ts (and_then out (λ s ts. list_here (s ∷ []) ts))
      by_out _ (read p t a k) = read (p.1 ∷ []) t
          (record {
            put = a.put;
            way = a.way;
            is = a.is;
            again = λ may w u. (p, a.again may w u, refl);
          }) tt
      by_out _ (stuck s o) =
          stuck s (record {
            put = o.put;
            way = o.way;
            is = o.is;
            more = o.more;
            grows = o.grows;
            held = o.held;
            completes = λ u. let c = o.completes u in (c.0.1 ∷ [], (c.0, c.1, refl));
          })

  one_complete : Complete same_tree OneIs no_else m (one_of nested below)
  unfolding one_of
  one_complete cut g g' may ss f' t' r e f tied =
      by_lands (known.inner_piece.complete cut g g' may r.0 f' t' r.1 (λ _. e) f tied)
    where
      by_lands : Lands cut g g' may m (below.inner f) (λ to. Ok (r.0.1, to)) t'
          → Lands cut g g' may m (and_then (below.inner f) (λ s ts. list_here (s ∷ []) ts))
          (λ to. Ok (ss, to)) t'
      by_lands l =
          bind_lands cut g g' may m r.0.1 (below.inner f) (λ s ts. list_here (s ∷ []) ts)
          (λ to. Ok (ss, to)) t' t' l (λ a u le. fine cut g g' le)
          (λ mid tm i. good mid tm (ap (λ (ss : List Stmt). list_here ss mid) (sym r.2)))

  abbrev EntryChain : Rel (List Stmt)
  EntryChain = Either (LocalsIn d) OneIs

  entry_piece : Piece same_tree (EntryIs d) any always no_else stmt_first m (entry_of nested below)
  unfolding entry_of
  entry_piece =
      iff (either is_type (λ ts h e. known.locals_in.sound ts tt)
      (ends_by {Ends' = no_else} known.locals_in (λ x t e. tt)).complete (λ t. omega arith)
      (λ may t fr fr'. let l = known.inner_piece.least may t fr fr' in (l.0.1 ∷ [], (l.0, l.1, refl)))
      (λ ts h e. one_sound ts) one_complete
      (λ may ss f t r. locals_begin r.1) (λ may ss f t r e. begins_no_type f (inner_begins r.1))) to
      from
    where
      to : (may : May) (ss : List Stmt) (f t : Tokens) → EntryChain may ss f t
          → EntryIs d may ss f t
      to may ss f t (this r) = entry_local r.0 r.1
      to may ss f t (that r) = subst (λ (ss : List Stmt). EntryIs d may ss f t) (sym r.2)
          (entry_stmt r.1)

      from : (may : May) (ss : List Stmt) (f t : Tokens) → EntryIs d may ss f t
          → EntryChain may ss f t
      from may ss f t (entry_local ok x) = this (ok, x)
      from may _ f t (entry_stmt {b = b} {s = s} x) = that ((b, s), x, refl)

  -- the parser of the entries of a block is sound and complete
  pub entries_piece : Piece same_tree (EntriesAre d) any always always
      (λ t. punct 0 mark.RightBrace ∷ t) m (entries_of nested below)
  unfolding entries_of
  entries_piece =
      many_piece (EntryIs d) (EntriesAre d) no_else stmt_first m
      (entry_of nested below) entry_piece mark.RightBrace to from
      (λ may x f t r. writes_shorter r) (λ may x f t r. entry_no_brace r)
      (λ may x xs u t l. entries_no_else l)
    where
      to : (may : May) (ss : List Stmt) (f t : Tokens)
          → Many (EntryIs d) (EntriesAre d) mark.RightBrace may ss f t → Writes may (entries ss) d f t
      to may _ _ t over = stop
      to may _ f t (more r l) = go r l

      from : (may : May) (ss : List Stmt) (f t : Tokens) → Writes may (entries ss) d f t
          → Many (EntryIs d) (EntriesAre d) mark.RightBrace may ss f t
      from may _ _ t stop = over
      from may _ f t (go x y) = more x y

  -- ---- the first part of a `for`

  abbrev InitLocal : Rel ForInit
  InitLocal = Then (LocalsIn d) (λ ss. Done (inits.Locals ss))

  abbrev InitPlain : Rel ForInit
  InitPlain = Then (Until semicolon d) (λ o. Done (for_init o))

  init_local_piece : Piece same_tree InitLocal any always always locals_first m
      (init_local_of nested below)
  unfolding init_local_of
  init_local_piece = seq (λ ss ts. init_here (inits.Locals ss) ts) known.locals_in
      (λ ss. done same_tree (inits.Locals ss) m (λ t h. tt)) (λ t. omega arith)
      (λ may x y u t r h. tt)

  init_plain_piece : Piece same_tree InitPlain any always always stmt_first m
      (init_plain_of nested below)
  unfolding init_plain_of
  init_plain_piece = seq (λ o ts. init_here (for_init o) ts)
      (until_piece m d nested deeper semicolon) (λ o. done same_tree (for_init o) m (λ t h. tt))
      (λ t. omega arith) (λ may x y u t r h. tt)

  -- the parser of what a `for` begins with is sound and complete
  pub init_piece : Piece same_tree (InitIs d) any always always stmt_first m (init_of nested below)
  unfolding init_of
  init_piece =
      iff (either_of is_type init_local_piece init_plain_piece (λ may x f t r. locals_begin r.2.1)
      (λ may x f t r e. until_no_type r.2)) to from
    where
      to : (may : May) (i : ForInit) (f t : Tokens) → Either InitLocal InitPlain may i f t
          → InitIs d may i f t
      to may i f t (this r) = ends_with (λ i t. InitIs d may i f t) (init_local r.2.0 r.2.1) r.3
      to may i f t (that r) = ends_with (λ i t. InitIs d may i f t) (init_plain r.2) r.3

      from : (may : May) (i : ForInit) (f t : Tokens) → InitIs d may i f t
          → Either InitLocal InitPlain may i f t
      from may _ f t (init_local {ss = ss} ok x) = this (ss, t, (ok, x), (refl, refl))
      from may _ f t (init_plain {o = o} x) = that (o, t, x, (refl, refl))
