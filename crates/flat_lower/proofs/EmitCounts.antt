-- Counts of statements, which fall from a statement to its parts, and statements one by one.
use Rattle.std.proofs.Common.{◌≡◌, ℕ, suc, ◌+◌, ◌≤◌, List, [], ◌∷◌, refl, sym, ap, ◌∙◌, arith}
use Rattle.c_tree.specs.declared.TypedStmt.{TypedStmt}
use Rattle.ir_forms.specs.declared.flat.FlatStmt.{FlatStmt}
use Rattle.ir_forms.specs.inside.FlatCode.{Then}
use Rattle.ir_forms.specs.inside.FlatViews.{code_of}
use Rattle.flat_lower.specs.inside.Tree.{Stmt, Declare, Plain, Compound, If, While, Do, For, Break}
use Rattle.flat_lower.specs.inside.Tree.{Continue, Return, Stmts, NoStmts, WithStmt, First, Nothing}
use Rattle.flat_lower.specs.inside.Tree.{FirstOf, Locals, Switch, Sections, NoSections, WithSection}
use Rattle.c_tree.specs.declared.TypedSection.{TypedSection}
use Rattle.flat_lower.specs.declared.around.Around.{Around}
use Rattle.flat_lower.specs.inside.TreeViews.{stmt_of}
use Rattle.flat_lower.specs.inside.Objects.{Context}
use Rattle.flat_lower.specs.inside.Statements.{stmt_code, stmts_code, sections_code}
use Rattle.flat_lower.specs.inside.Switches.{section_code}
use Rattle.flat_lower.specs.inside.Emitted.{Adds, block_of, sections_in}
use Rattle.flat_lower.proofs.Emits.{then_then, then_nop}

abbrev mutual
  -- the statements of a statement
  pub stmts_in : Stmt → ℕ
  stmts_in (Declare p e) = 1
  stmts_in (Plain e) = 1
  stmts_in (Compound all) = suc (stmts_in_all all)
  stmts_in (If t one other) = suc (stmts_in one + stmts_in_all other)
  stmts_in (While t body) = suc (stmts_in body)
  stmts_in (Do body t) = suc (stmts_in body)
  stmts_in (For first t p body) = suc (stmts_in_first first + stmts_in body)
  stmts_in (Switch t xs) = suc (suc (stmts_in_sections xs))
  stmts_in Break = 1
  stmts_in Continue = 1
  stmts_in (Return e) = 1

  -- the statements in some statements, with those inside them
  pub stmts_in_all : Stmts → ℕ
  stmts_in_all NoStmts = 0
  stmts_in_all (WithStmt s rest) = stmts_in s + stmts_in_all rest

  pub stmts_in_sections : Sections → ℕ
  stmts_in_sections NoSections = 0
  stmts_in_sections (WithSection ls body rest) = suc (stmts_in_all body + stmts_in_sections rest)

  -- the statements in the first part of a `for`
  pub stmts_in_first : First → ℕ
  stmts_in_first Nothing = 0
  stmts_in_first (FirstOf e) = 0
  stmts_in_first (Locals all) = suc (stmts_in_all all)

-- the statements in a typed statement, itself included
abbrev pub count_stmt : TypedStmt → ℕ
count_stmt s = stmts_in (stmt_of s)

-- the statements in a block
abbrev pub count_block : List TypedStmt → ℕ
count_block all = stmts_in_all (block_of all)

-- some statements are emitted, and `rest` are to come
pub record StmtsSoFar (c : Context) (around : Around) (all rest : List TypedStmt)
    (old code : List FlatStmt) : Type 0 where
  pub written : Then (code_of code) (stmts_code c around (block_of rest))
      ≡ Then (code_of old) (stmts_code c around (block_of all))
  pub fewer : count_block rest ≤ count_block all

-- at the start
pub stmts_start : (c : Context) (b : Around) (all : List TypedStmt) (old : List FlatStmt)
    → StmtsSoFar c b all all old old
stmts_start c b all old = record { written = refl; fewer = omega arith }

-- one statement more
pub stmts_go_on : (c : Context) (b : Around) (all rest : List TypedStmt) (a : TypedStmt)
    (old code code' : List FlatStmt)
    → StmtsSoFar c b all (a ∷ rest) old code → Adds code code' (stmt_code c b (stmt_of a))
    → StmtsSoFar c b all rest old code'
stmts_go_on c b all rest a old code code' s h = record {
  written =
      ap (λ z. Then z (stmts_code c b (block_of rest))) h.is
      ∙ then_then (code_of code) (stmt_code c b (stmt_of a)) (stmts_code c b (block_of rest))
      ∙ s.written;
  fewer = omega (arith, s.fewer);
}

-- at the end
pub stmts_end : (c : Context) (b : Around) (all : List TypedStmt) (old code : List FlatStmt)
    → StmtsSoFar c b all [] old code → Adds old code (stmts_code c b (block_of all))
stmts_end c b all old code s = record { is = sym (then_nop (code_of code)) ∙ s.written }

-- the statements in some sections of a switch
abbrev pub count_sections : List TypedSection → ℕ
count_sections xs = stmts_in_sections (sections_in xs)

-- n sections are emitted, and `rest` are to come
pub record SectionsSoFar (c : Context) (around : Around) (n : ℕ) (all rest : List TypedSection)
    (old code : List FlatStmt) : Type 0 where
  pub written : Then (code_of code) (sections_code c around n (sections_in rest))
      ≡ Then (code_of old) (sections_code c around 0 (sections_in all))
  pub fewer : count_sections rest ≤ count_sections all

-- one section more
pub sections_go_on : (c : Context) (b : Around) (n : ℕ) (all rest : List TypedSection) (a : TypedSection)
    (old code code' : List FlatStmt) → SectionsSoFar c b n all (a ∷ rest) old code
    → Adds code code' (section_code n (stmts_code c b (block_of a.body)))
    → SectionsSoFar c b (suc n) all rest old code'
sections_go_on c b n all rest a old code code' s h = record {
  written =
      ap (λ z. Then z (sections_code c b (suc n) (sections_in rest))) h.is
      ∙ then_then (code_of code) (section_code n (stmts_code c b (block_of a.body)))
      (sections_code c b (suc n) (sections_in rest))
      ∙ s.written;
  fewer = omega (arith, s.fewer);
}

-- at the end
pub sections_end : (c : Context) (b : Around) (n : ℕ) (all : List TypedSection) (old code : List FlatStmt)
    → SectionsSoFar c b n all [] old code → Adds old code (sections_code c b 0 (sections_in all))
sections_end c b n all old code s = record { is = sym (then_nop (code_of code)) ∙ s.written }
