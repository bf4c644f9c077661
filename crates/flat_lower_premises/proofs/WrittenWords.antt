-- What tokens with words spell has words: statements and local declarations.
use Rattle.std.proofs.Common.{◌≡◌, ℕ, List, ◌∷◌, ◌++◌, Option, Some, None, sym, ap, ◌∙◌, subst}
use Rattle.c_tree.specs.declared.tree.Expr.{Expr}
use Rattle.c_tree.specs.declared.tree.Label.{Label}
use Rattle.c_tree.specs.declared.tree.Section.{Section, out-Section, out-roll-Section}
use Rattle.c_tree.specs.declared.tree.Stmt.{Stmt}
use Rattle.c_tree.specs.declared.tree.StmtNode.{StmtNode, roll-StmtNode, out-StmtNode}
use Rattle.c_tree.specs.declared.tree.StmtNode.{out-roll-StmtNode}
use Rattle.c_tree.specs.declared.tree.StmtNode.TheVariants as node
use Rattle.c_tree.specs.declared.tree.ForInit.{ForInit, roll-ForInit, out-ForInit}
use Rattle.c_tree.specs.declared.tree.ForInit.{out-roll-ForInit}
use Rattle.c_tree.specs.declared.tree.ForInit.TheOpen.{Section-F}
use Rattle.c_tree.specs.declared.tree.ForInit.TheVariants as beginning
use Rattle.c_grammar.specs.Tokens.{Tokens, May}
use Rattle.c_grammar.specs.Statements.{Phrase, for_init, Writes}
use Rattle.c_grammar.specs.Statements as s
use Rattle.flat_lower_premises.specs.inside.Words.{IsFilled, TokensHaveWords}
use Rattle.c_tree.specs.inside.Trees.{Level, Beginning}
use Rattle.flat_lower_premises.specs.inside.ExpressionWords.{ExprHasWords, ExprIfHasWords, SizeHasWords}
use Rattle.flat_lower_premises.specs.inside.Trees.{LevelHasWords, StmtHasWords, StmtsHaveWords, BeginningHasWords}
use Rattle.flat_lower_premises.specs.inside.Trees.{SectionsHaveWords}
use Rattle.flat_lower_premises.specs.inside.ExpressionWords.{LabelsHaveWords}
use Rattle.flat_lower_premises.specs.inside.Trees as has
use Rattle.flat_lower_premises.proofs.SpelledWords.{named_type, spelled}

-- a section of which the parts are open: it has a label and a statement, with words
pub record OpenHasWords (x : Section-F ForInit StmtNode Section Stmt) : Type 0 where
  pub labelled : IsFilled x.labels
  pub labels : LabelsHaveWords x.labels
  pub filled : IsFilled x.body
  pub body : StmtsHaveWords x.body

-- each number of the phrase is a word of its type
abbrev pub PhraseHasWords : Phrase → Type 0
PhraseHasWords (s.until c o) = ExprIfHasWords o
PhraseHasWords (s.test x) = ExprHasWords x
PhraseHasWords (s.shape x) = SizeHasWords x.0 × ExprIfHasWords x.1
PhraseHasWords (s.decls k xs) = StmtsHaveWords xs
PhraseHasWords (s.locals xs) = StmtsHaveWords xs
PhraseHasWords (s.stmt b x) = StmtHasWords x
PhraseHasWords (s.inner b x) = StmtHasWords x
PhraseHasWords (s.entry xs) = StmtsHaveWords xs
PhraseHasWords (s.init i) = BeginningHasWords (out-ForInit i)
PhraseHasWords (s.entries xs) = StmtsHaveWords xs
PhraseHasWords (s.label l) = ExprIfHasWords l.value
PhraseHasWords (s.labels ls) = IsFilled ls × LabelsHaveWords ls
PhraseHasWords (s.body xs) = IsFilled xs × StmtsHaveWords xs
PhraseHasWords (s.section x) = OpenHasWords (out-Section x)
PhraseHasWords (s.sections xs) = SectionsHaveWords xs

-- a node has words if the level that it is built of has
pub made : (n : StmtNode) (x : Level) → roll-StmtNode x ≡ n → LevelHasWords x
    → LevelHasWords (out-StmtNode n)
made n x r h = subst LevelHasWords (sym (ap out-StmtNode (sym r) ∙ out-roll-StmtNode x)) h

-- so has the first part of a `for`
begun : (i : ForInit) (x : Beginning) → roll-ForInit x ≡ i → BeginningHasWords x
    → BeginningHasWords (out-ForInit i)
begun i x r h = subst BeginningHasWords (sym (ap out-ForInit (sym r) ∙ out-roll-ForInit x)) h

begun_if : (o : Option Expr) → ExprIfHasWords o → BeginningHasWords (out-ForInit (for_init o))
begun_if None h = begun _ _ beginning.rolls-Nothing has.nothing
begun_if (Some e) h = begun _ _ (beginning.rolls-First e) (has.first h)

-- statements that follow one another have words if each part has
stmts_joined : {xs ys : List Stmt} → StmtsHaveWords xs → StmtsHaveWords ys
    → StmtsHaveWords (xs ++ ys)
stmts_joined has.no_stmt k = k
stmts_joined (has.one_stmt h hs) k = has.one_stmt h (stmts_joined hs k)

-- a section has them where its labels and its statements have
section_made : (ls : List Label) (ss : List Stmt) → IsFilled ls × LabelsHaveWords ls
    → IsFilled ss × StmtsHaveWords ss → OpenHasWords (out-Section (s.sectioned ls ss))
section_made ls ss h k =
    let x : Section-F ForInit StmtNode Section Stmt = record { labels = ls; body = ss } in
    let open_one : OpenHasWords x = record { labelled = h.0; labels = h.1; filled = k.0; body = k.1 } in
    subst OpenHasWords (sym (out-roll-Section x)) open_one

-- one more section
section_more : (x : Section) (xs : List Section) → OpenHasWords (out-Section x) → SectionsHaveWords xs
    → SectionsHaveWords (x ∷ xs)
section_more x xs h k = has.one_section h.labelled h.labels h.filled h.body k

-- where the tokens have words, so have the phrase that they spell and what stands behind it
pub written : {may : May} {p : Phrase} {d : ℕ} {f t : Tokens} → Writes may p d f t
    → TokensHaveWords f → PhraseHasWords p × TokensHaveWords t
written (s.absent c) h = (tt, h.1)
written (s.given c x) h = let a = spelled x h in (a.0, a.1.1)
written (s.tested x) h = let a = spelled x h.1 in (a.0, a.1.1)
written s.bare h = ((tt, tt), h)
written (s.value x) h = let a = spelled x h.1 in ((tt, a.0), a.1)
written (s.array x) h = let a = spelled x h.1 in ((a.0, tt), a.1.1)
written (s.rows x y) h =
    let a = spelled x h.1 in let b = spelled y a.1.1.1 in (((a.0, b.0), tt), b.1.1)
written (s.last_decl x) h =
    let a = written x h.1 in (
      has.one_stmt (made _ _ (node.rolls-Declare _ _ _ _) (has.declared a.0.0 a.0.1)) has.no_stmt,
      a.1.1,
    )
written (s.next_decl x y) h =
    let a = written x h.1 in let b = written y a.1.1 in (
      has.one_stmt (made _ _ (node.rolls-Declare _ _ _ _) (has.declared a.0.0 a.0.1)) b.0,
      b.1,
    )
written (s.declaration x y) h = written y (named_type x h)
written (s.inner_is ok x) h = written x h
written (s.entry_stmt x) h = let a = written x h in (has.one_stmt a.0 has.no_stmt, a.1)
written (s.entry_local ok x) h = written x h
written s.stop h = (has.no_stmt, h.1)
written (s.go x y) h =
    let a = written x h in let b = written y a.1 in (stmts_joined a.0 b.0, b.1)
written (s.compound x) h =
    let a = written x h.1 in (made _ _ (node.rolls-Compound _) (has.compound a.0), a.1)
written s.empty h = (made _ _ (node.rolls-Plain None) (has.plain tt), h.1)
written (s.plain x) h =
    let a = spelled x h in (made _ _ (node.rolls-Plain (Some _)) (has.plain a.0), a.1.1)
written (s.if_only x y) h =
    let a = written x h.1 in let b = written y a.1 in
    (made _ _ (node.rolls-If _ _ None) (has.choice a.0 b.0 has.without_else), b.1)
written (s.if_else x y z) h =
    let a = written x h.1 in let b = written y a.1 in let c = written z b.1.1 in
    (made _ _ (node.rolls-If _ _ (Some _)) (has.choice a.0 b.0 (has.with_else c.0)), c.1)
written (s.a_case x) h = let a = spelled x h.1 in (a.0, a.1.1)
written s.a_default h = (tt, h.1.1)
written (s.last_label x) h = let a = written x h in ((tt, (a.0, tt)), a.1)
written (s.next_label x y) h =
    let a = written x h in let b = written y a.1 in ((tt, (a.0, b.0.1)), b.1)
written (s.last_stmt x) h = let a = written x h in ((tt, has.one_stmt a.0 has.no_stmt), a.1)
written (s.next_stmt x y) h =
    let a = written x h in let b = written y a.1 in ((tt, has.one_stmt a.0 b.0.1), b.1)
written (s.section_is {ls = ls} {ss = ss} x y) h =
    let a = written x h in let b = written y a.1 in (section_made ls ss a.0 b.0, b.1)
written s.no_section h = (has.no_section, h.1)
written (s.next_section {x = x} {xs = xs} p q) h =
    let a = written p h in let b = written q a.1 in (section_more x xs a.0 b.0, b.1)
written (s.switch x y) h =
    let a = written x h.1 in let b = written y a.1.1 in
    (made _ _ (node.rolls-Switch _ _) (has.switch a.0 b.0), b.1)
written (s.while x y) h =
    let a = written x h.1 in let b = written y a.1 in
    (made _ _ (node.rolls-While _ _) (has.while_loop a.0 b.0), b.1)
written (s.repeat x y) h =
    let a = written x h.1 in let b = written y a.1.1 in
    (made _ _ (node.rolls-Do _ _) (has.do_loop a.0 b.0), b.1.1)
written (s.init_local ok x) h =
    let a = written x h in (begun _ _ (beginning.rolls-Locals _) (has.locals a.0), a.1)
written (s.init_plain x) h = let a = written x h in (begun_if _ a.0, a.1)
written (s.for x y z w) h =
    let a = written x h.1.1 in let b = written y a.1 in let c = written z b.1 in
    let e = written w c.1 in
    (made _ _ (node.rolls-For _ _ _ _) (has.for_loop a.0 b.0 c.0 e.0), e.1)
written s.break h = (made _ _ node.rolls-Break has.breaks, h.1.1)
written s.continue h = (made _ _ node.rolls-Continue has.continues, h.1.1)
written (s.return x) h =
    let a = written x h.1 in (made _ _ (node.rolls-Return _) (has.returns a.0), a.1)
