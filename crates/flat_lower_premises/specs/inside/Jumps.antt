-- Jumps that stand where they may (C17 6.8.6.2, 6.8.6.3).
use Rattle.flat_lower.specs.declared.around.Around.{Around}
use Rattle.flat_lower.specs.declared.around.Around.TheVariants as around
use Rattle.flat_lower.specs.inside.Tree.{Stmt, Declare, Plain, Compound, If, While, Do, For, Switch, Break}
use Rattle.flat_lower.specs.inside.Tree.{Continue, Return, Stmts, NoStmts, WithStmt, First, Nothing}
use Rattle.flat_lower.specs.inside.Tree.{FirstOf, Locals, Sections, NoSections, WithSection}
use Rattle.flat_lower.specs.inside.Switches.{in_switch}
use Rattle.flat_lower.specs.inside.FitsSwitches.{IsLooped}

-- a break has a loop or a switch to leave
abbrev pub IsLeft : Around → Type 0
IsLeft around.Nowhere = ⊥
IsLeft around.Loop = Unit {0}
IsLeft around.Switch = Unit {0}
IsLeft around.SwitchInLoop = Unit {0}

-- a break stands in a loop or a switch and a continue in a loop: in one of the statement's own, or in one around
-- it, by what stands around it
abbrev mutual
  -- of one statement
  pub JumpsInLoops : Around → Stmt → Type 0
  JumpsInLoops a (Declare p e) = Unit {0}
  JumpsInLoops a (Plain e) = Unit {0}
  JumpsInLoops a (Compound all) = AllJumpsInLoops a all
  JumpsInLoops a (If t one other) = JumpsInLoops a one × AllJumpsInLoops a other
  JumpsInLoops a (While t body) = JumpsInLoops around.Loop body
  JumpsInLoops a (Do body t) = JumpsInLoops around.Loop body
  JumpsInLoops a (For first test post body) =
      FirstJumpsInLoops a first × JumpsInLoops around.Loop body
  JumpsInLoops a (Switch t xs) = SectionsJumpInLoops (in_switch a) xs
  JumpsInLoops a Break = IsLeft a
  JumpsInLoops a Continue = IsLooped a
  JumpsInLoops a (Return e) = Unit {0}

  -- of statements in order, which have the same around them
  pub AllJumpsInLoops : Around → Stmts → Type 0
  AllJumpsInLoops a NoStmts = Unit {0}
  AllJumpsInLoops a (WithStmt s rest) = JumpsInLoops a s × AllJumpsInLoops a rest

  -- of the sections of a switch, in whose braces a break has the switch to leave
  pub SectionsJumpInLoops : Around → Sections → Type 0
  SectionsJumpInLoops a NoSections = Unit {0}
  SectionsJumpInLoops a (WithSection ls body rest) =
      AllJumpsInLoops a body × SectionsJumpInLoops a rest

  -- the first part of a for stands before its loop
  pub FirstJumpsInLoops : Around → First → Type 0
  FirstJumpsInLoops a Nothing = Unit {0}
  FirstJumpsInLoops a (FirstOf e) = Unit {0}
  FirstJumpsInLoops a (Locals all) = AllJumpsInLoops a all
