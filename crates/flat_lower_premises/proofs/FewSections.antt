-- A source of few nodes has few sections in each switch.
use Rattle.std.proofs.Common.{ℕ, ◌<◌, ◌≤◌, arith}
use Rattle.flat_lower.specs.inside.Tree.{Stmt, Declare, Plain, Compound, If, While, Do, For, Switch, Break}
use Rattle.flat_lower.specs.inside.Tree.{Continue, Return, Stmts, NoStmts, WithStmt, First, Nothing}
use Rattle.flat_lower.specs.inside.Tree.{FirstOf, Locals, Sections, NoSections, WithSection}
use Rattle.flat_lower.specs.inside.Switches.{section_count}
use Rattle.flat_lower_premises.specs.inside.SourceNodes.{stmt_nodes, stmts_nodes, sections_nodes, first_nodes}

module _ (top : ℕ) where
  abbrev mutual
    -- each switch in the statement has fewer sections than the number
    pub IsFew : Stmt → Type 0
    IsFew (Declare p e) = Unit {0}
    IsFew (Plain e) = Unit {0}
    IsFew (Compound all) = AllFew all
    IsFew (If t one other) = IsFew one × AllFew other
    IsFew (While t body) = IsFew body
    IsFew (Do body t) = IsFew body
    IsFew (For first test post body) = FirstFew first × IsFew body
    IsFew (Switch t xs) = (section_count xs < top) × SectionsFew xs
    IsFew Break = Unit {0}
    IsFew Continue = Unit {0}
    IsFew (Return e) = Unit {0}

    -- each switch in some statements has few sections
    pub AllFew : Stmts → Type 0
    AllFew NoStmts = Unit {0}
    AllFew (WithStmt s rest) = IsFew s × AllFew rest

    -- each switch in some sections has few sections
    pub SectionsFew : Sections → Type 0
    SectionsFew NoSections = Unit {0}
    SectionsFew (WithSection ls body rest) = AllFew body × SectionsFew rest

    -- each switch in the first part of a `for` has few sections
    pub FirstFew : First → Type 0
    FirstFew Nothing = Unit {0}
    FirstFew (FirstOf e) = Unit {0}
    FirstFew (Locals all) = AllFew all

  -- each section is a node
  counted : (xs : Sections) → section_count xs ≤ sections_nodes xs
  counted NoSections = omega arith
  counted (WithSection ls body rest) = let h = counted rest in omega (arith, h)

  mutual
    -- a statement of few nodes has few sections in each switch
    pub few : (s : Stmt) → stmt_nodes s < top → IsFew s
    few (Declare p e) h = tt
    few (Plain e) h = tt
    few (Compound all) h = all_few all (omega (arith, h))
    few (If t one other) h = (few one (omega (arith, h)), all_few other (omega (arith, h)))
    few (While t body) h = few body (omega (arith, h))
    few (Do body t) h = few body (omega (arith, h))
    few (For first test post body) h = (first_few first (omega (arith, h)), few body (omega (arith, h)))
    few (Switch t xs) h =
        let n = counted xs in (omega (arith, h, n), sections_few xs (omega (arith, h)))
    few Break h = tt
    few Continue h = tt
    few (Return e) h = tt

    all_few : (all : Stmts) → stmts_nodes all < top → AllFew all
    all_few NoStmts h = tt
    all_few (WithStmt s rest) h = (few s (omega (arith, h)), all_few rest (omega (arith, h)))

    sections_few : (xs : Sections) → sections_nodes xs < top → SectionsFew xs
    sections_few NoSections h = tt
    sections_few (WithSection ls body rest) h =
        (all_few body (omega (arith, h)), sections_few rest (omega (arith, h)))

    first_few : (i : First) → first_nodes i < top → FirstFew i
    first_few Nothing h = tt
    first_few (FirstOf e) h = tt
    first_few (Locals all) h = all_few all (omega (arith, h))
